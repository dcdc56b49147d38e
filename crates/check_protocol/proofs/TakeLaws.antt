-- The tests of BEGIN and of the taking of a COMMIT decide their rules.
use Rattle.std.proofs.Common.{◌≡◌, ℕ, ◌^◌, Bool, true, false, List, [], Option, Some, None, inl, inr, refl, sym, ap, subst, ◌∙◌}
use Rattle.std.specs.Prelude.{◌&&◌, ◌==◌, not, nat_lt, slice_get, unwrap_or}
use Rattle.std.specs.Option.{option_map_or}
use Rattle.std.specs.Ordering.{is_eq}
use Rattle.check_protocol.specs.Types.{Answer, Event, Key, Ordering, Record, Span, TxId, Value, Write}
use Rattle.std.specs.declared.cmp.Ordering.TheVariants.{Less, Equal, Greater}
use Rattle.std.specs.Cmp.{tied_itself}
use Rattle.std.specs.Cmp.Lexicographic.{lists_total}
use Rattle.std.specs.List.{list_all}
use Rattle.std.proofs.lemmas.Bool.{ltb-true, lt-ltb}
use Rattle.sdb_types.specs.Order.{table_cmp}
use Rattle.sdb_types.specs.Contents.{in_span, is_partition}
use Rattle.sdb_types.specs.ValueLaws.{value_total}
use Rattle.sdb_types.proofs.Public.{and_both as both, and_first as left, clash, decides as decide, either, or_second as or_right, some_is, table_exact, table_total}
use Rattle.sdb_record.specs.Coordinator.{is_coordinator_table}
use Rattle.sdb_record.specs.Meta.{id_in, is_moment}
use Rattle.sdb_record.specs.Rolls.{IsWrite}
use Rattle.sdb_record.specs.Among.{version_among, write_among}
use Rattle.sdb_model.specs.declared.answer.Answer.TheVariants as answer
use Rattle.sdb_model.specs.declared.event.Event.TheVariants as event
use Rattle.sdb_model.specs.Sql.{reads_begin, reads_commit}
use Rattle.law_protocol.specs.Plan.{write_at, version_read_at, number_of}
use Rattle.sdb_model.specs.ReadSet.{version_read}
use Rattle.law_protocol.specs.Lawful.{id, protocol_state, IsSettled, MayBegin, MayTake}
use Rattle.check_protocol.specs.declared.plan.Plan.{Plan}
use Rattle.check_protocol.specs.declared.plan.ReadItem.{ReadItem}
use Rattle.check_protocol.specs.declared.plan.ReadItem.TheVariants as item
use Rattle.check_protocol.specs.declared.labelled.Labelled.{Labelled}
use Rattle.check_protocol.specs.Values.{all_labelled, item_of, plan_in, writes_in, items_in, moment_in}
use Rattle.check_protocol.specs.Started.{begun_in, commit_started_in, open_in, owner_of, stopped_in}
use Rattle.check_protocol.specs.Observed.{observed, is_settled}
use Rattle.check_protocol.specs.Rules.{is_sound, is_valid_write, is_valid_key, are_valid_writes, is_valid_version, is_valid_found, is_valid_item, begins_well, starts_well}
use Rattle.check_protocol.proofs.Lists.{none_some, right, or_left, not_true, true_not, not_both, all_each, each_all, got_in, in_got}
use Rattle.check_protocol.proofs.StateLaws.{is_zero, zero_is, begun_is, taken_is, open_is, owner_is, stopped_is}
use Rattle.check_protocol.proofs.ObservedLaws.{number_is, is_number}
use Rattle.check_protocol.proofs.SettledLaws.{settled_is, is_settled_of, HasSettled, settles_is, settles_of}
use Rattle.check_protocol.proofs.PlanLaws.{sound_is, is_sound_of, write_is, write_in_is, write_own, noted_says, says_noted, got_says, says_got, scan_says, says_scan, among_is}
use Rattle.sdb_model.specs.Transactions.{is_done}
use Rattle.sdb_model.specs.Tables.{is_data}

---- BEGIN

done_is : (o : Option Answer) → is_done o ≡ true → o ≡ Some answer.Done
done_is None h = clash (sym h)
done_is (Some answer.Done) h = refl
done_is (Some (answer.Rows rows)) h = clash (sym h)
done_is (Some (answer.Count n)) h = clash (sym h)
done_is (Some answer.Committed) h = clash (sym h)
done_is (Some (answer.Duplicate key)) h = clash (sym h)
done_is (Some (answer.Busy key t moment)) h = clash (sym h)
done_is (Some (answer.Conflict key found)) h = clash (sym h)
done_is (Some (answer.Expired t)) h = clash (sym h)
done_is (Some answer.Faulted) h = clash (sym h)
done_is (Some (answer.Unknown t)) h = clash (sym h)
done_is (Some (answer.BadRecord key)) h = clash (sym h)
done_is (Some (answer.Refused refusal)) h = clash (sym h)
done_is (Some answer.Vacuuming) h = clash (sym h)
done_is (Some answer.OpenTransactions) h = clash (sym h)
done_is (Some answer.NoMemory) h = clash (sym h)

fresh_is : (past : List Labelled) (t : ℕ) → not (begun_in past t) ≡ true → (protocol_state (all_labelled past)).begun t ≡ 0
fresh_is past t h = zero_is ((protocol_state (all_labelled past)).begun t) (twice (is_zero ((protocol_state (all_labelled past)).begun t)) (ap not (begun_is past t) ∙ h))
  where
    twice : (b : Bool) → not (not b) ≡ true → b ≡ true
    twice true h = refl
    twice false h = h

is_fresh : (past : List Labelled) (t : ℕ) → (protocol_state (all_labelled past)).begun t ≡ 0 → not (begun_in past t) ≡ true
is_fresh past t h = ap not (sym (begun_is past t) ∙ ap (λ n. not (is_zero n)) h)

pub begin_is : (past : List Labelled) (e : Event) (t c : ℕ) → begins_well past e t c ≡ true → MayBegin (all_labelled past) e t c
begin_is past (event.Take client text answered) t c h =
    let one = right (client == c) (reads_begin text && (is_done answered && (not (begun_in past t) && nat_lt t (2 ^ 128)))) h in
    let two = right (reads_begin text) (is_done answered && (not (begun_in past t) && nat_lt t (2 ^ 128))) one in
    let three = right (is_done answered) (not (begun_in past t) && nat_lt t (2 ^ 128)) two in
    let client_is = number_is client c (left (client == c) (reads_begin text && (is_done answered && (not (begun_in past t) && nat_lt t (2 ^ 128)))) h) in
    let done = done_is answered (left (is_done answered) (not (begun_in past t) && nat_lt t (2 ^ 128)) two) in
    record {
      text = text;
      begin = left (reads_begin text) (is_done answered && (not (begun_in past t) && nat_lt t (2 ^ 128))) one;
      take = λ i. event.Take (client_is i) text (done i);
      fresh = fresh_is past t (left (not (begun_in past t)) (nat_lt t (2 ^ 128)) three);
      fits = ltb-true t (2 ^ 128) (right (not (begun_in past t)) (nat_lt t (2 ^ 128)) three);
    }
begin_is past (event.Call client store q how r answered) t c h = clash (sym h)
begin_is past (event.Stop client) t c h = clash (sym h)
begin_is past (event.Clock moment) t c h = clash (sym h)
begin_is past (event.Idle client) t c h = clash (sym h)
begin_is past (event.Land number store asked how reply) t c h = clash (sym h)
begin_is past (event.Alter table column kind altered) t c h = clash (sym h)

pub is_begin : (past : List Labelled) (e : Event) (t c : ℕ) → MayBegin (all_labelled past) e t c → begins_well past e t c ≡ true
is_begin past e t c m =
    ap (λ x. begins_well past x t c) m.take
    ∙ both (c == c) (reads_begin m.text && (true && (not (begun_in past t) && nat_lt t (2 ^ 128)))) (is_number c c refl)
    (both (reads_begin m.text) (not (begun_in past t) && nat_lt t (2 ^ 128)) m.begin (both (not (begun_in past t)) (nat_lt t (2 ^ 128)) (is_fresh past t m.fresh) (lt-ltb t (2 ^ 128) m.fits)))

---- spans

equal_is : (o : Ordering) → is_eq o ≡ true → o ≡ Equal
equal_is Less h = clash (sym h)
equal_is Equal h = refl
equal_is Greater h = clash (sym h)

-- a key in a span is of the span's table
span_table : (span : Span) (k : Key) → in_span span k ≡ true → is_data k ≡ not (is_coordinator_table span.table)
span_table span k h = ap (λ x. not (is_coordinator_table x)) (sym (table_exact span.table k.table (equal_is (table_cmp span.table k.table) (left (is_eq (table_cmp span.table k.table)) (is_partition span.partition k) h))))

-- a key in a span
abbrev pub key_within : Span → List Value → Key
key_within span clustering = record { table = span.table; partition = unwrap_or span.partition []; clustering = clustering }

pub is_within : (span : Span) (clustering : List Value) → in_span span (key_within span clustering) ≡ true
is_within span clustering = both (is_eq (table_cmp span.table span.table)) (is_partition span.partition (key_within span clustering)) (ap is_eq (tied_itself table_total span.table)) (by span.partition)
  where
    by : (o : Option (List Value)) → is_partition o (record { table = span.table; partition = unwrap_or o []; clustering = clustering }) ≡ true
    by None = refl
    by (Some part) = ap is_eq (tied_itself (lists_total value_total) part)

---- the taking of a COMMIT

module _ (past : List Labelled) (plans : List Plan) (t : ℕ) where
  fine_key_is : are_valid_writes (observed past) (writes_in plans t) (writes_in plans t) ≡ true → (k : Key) (w : Write) → write_among (writes_in plans t) k ≡ Some w → is_valid_write (observed past) k w ≡ true
  fine_key_is h k w e =
      let i = write_in_is (writes_in plans t) k w e in
      subst (λ x. is_valid_write (observed past) x w ≡ true) i.1 (ap (λ o. option_map_or (is_valid_write (observed past) w.key) o true) (sym (write_own (writes_in plans t) k w e)) ∙ all_each (is_valid_key (observed past) (writes_in plans t)) (writes_in plans t) h w i.0)

  writes_are : are_valid_writes (observed past) (writes_in plans t) (writes_in plans t) ≡ true → (k : Key) (w : Write) → write_at (plan_in plans t) k ≡ Some w → IsWrite w × (is_data k ≡ true)
  writes_are h k w e =
      let f = fine_key_is h k w (sym (write_is plans t k) ∙ e) in
      let rest = right (is_sound w) (is_data k && option_map_or (is_settled (observed past) k) w.base true) f in
      (sound_is w (left (is_sound w) (is_data k && option_map_or (is_settled (observed past) k) w.base true) f), left (is_data k) (option_map_or (is_settled (observed past) k) w.base true) rest)

  bases_are : are_valid_writes (observed past) (writes_in plans t) (writes_in plans t) ≡ true → (k : Key) (w : Write) (b : Record) → write_at (plan_in plans t) k ≡ Some w → w.base ≡ Some b → IsSettled (all_labelled past) k b
  bases_are h k w b e base =
      let f = fine_key_is h k w (sym (write_is plans t k) ∙ e) in
      let rest = right (is_sound w) (is_data k && option_map_or (is_settled (observed past) k) w.base true) f in
      settled_is past k b (ap (λ o. option_map_or (is_settled (observed past) k) o true) (sym base) ∙ right (is_data k) (option_map_or (is_settled (observed past) k) w.base true) rest)

  are_writes : ((k : Key) (w : Write) → write_at (plan_in plans t) k ≡ Some w → IsWrite w × (is_data k ≡ true)) → ((k : Key) (w : Write) (b : Record) → write_at (plan_in plans t) k ≡ Some w → w.base ≡ Some b → IsSettled (all_labelled past) k b)
      → are_valid_writes (observed past) (writes_in plans t) (writes_in plans t) ≡ true
  are_writes ws bs = each_all (is_valid_key (observed past) (writes_in plans t)) (writes_in plans t) (λ w i. by w.key (write_among (writes_in plans t) w.key) refl)
    where
      base : (k : Key) (w : Write) → write_among (writes_in plans t) k ≡ Some w → (o : Option Record) → w.base ≡ o → option_map_or (is_settled (observed past) k) o true ≡ true
      base k w e None f = refl
      base k w e (Some b) f = is_settled_of past k b (bs k w b (write_is plans t k ∙ e) f)

      by : (k : Key) (o : Option Write) → write_among (writes_in plans t) k ≡ o → option_map_or (is_valid_write (observed past) k) o true ≡ true
      by k None e = refl
      by k (Some w) e =
          let a = ws k w (write_is plans t k ∙ e) in
          both (is_sound w) (is_data k && option_map_or (is_settled (observed past) k) w.base true) (is_sound_of w a.0) (both (is_data k) (option_map_or (is_settled (observed past) k) w.base true) a.1 (base k w e w.base refl))

  abbrev Noted : Type 0
  Noted = (i : ℕ) (k : Key) (u : ℕ) → version_read_at (plan_in plans t) i k ≡ Some (Some u) → (b : Record) × IsSettled (all_labelled past) k b × (id_in b.columns ≡ Some (id u))

  abbrev InTables : Type 0
  InTables = (i : ℕ) (k : Key) (version : Option ℕ) → version_read_at (plan_in plans t) i k ≡ Some version → is_data k ≡ true

  version_is : (k : Key) (o : Option TxId) (u : ℕ) → number_of o ≡ Some u → is_valid_version (observed past) k o ≡ true → HasSettled past k u
  version_is k None u e h = none_some e
  version_is k (Some v) u e h = subst (λ x. HasSettled past k x) (some_is v.0 u e) (settles_is past k v.0 h)

  note_version : (n : ReadItem) (k : Key) (version : Option TxId) → is_valid_item (observed past) n ≡ true → version_read (item_of n) k ≡ Some version → is_valid_version (observed past) k version ≡ true
  note_version (item.KeyRead read) k version h s =
      let g = got_says read k version s in
      subst (λ x. is_valid_version (observed past) x version ≡ true) g.0 (subst (λ x. is_valid_version (observed past) read.key x ≡ true) (sym g.1) (right (is_data read.key) (is_valid_version (observed past) read.key read.version) h))
  note_version (item.SpanRead scan) k version h s =
      let g = scan_says scan k version s in
      subst (λ x. is_valid_version (observed past) k x ≡ true) (sym g.1) (by (version_among scan.found k) refl g.0)
    where
      by : (o : Option TxId) → version_among scan.found k ≡ o → in_span scan.span k ≡ true → is_valid_version (observed past) k o ≡ true
      by None e within = refl
      by (Some v) e within =
          let r = among_is scan.found k v e in
          let f = all_each (is_valid_found (observed past) scan) scan.found (right (not (is_coordinator_table scan.span.table)) (list_all (is_valid_found (observed past) scan) scan.found) h) r.0 r.1 in
          subst (λ x. is_valid_version (observed past) k x ≡ true) e
          (subst (λ x. is_valid_version (observed past) x (version_among scan.found x) ≡ true) r.2
          (elim (either (not (in_span scan.span r.0.key)) (is_valid_version (observed past) r.0.key (version_among scan.found r.0.key)) f) [
            | inl out ↦ not_both (in_span scan.span r.0.key) (ap (in_span scan.span) r.2 ∙ within) (not_true (in_span scan.span r.0.key) out)
            | inr a ↦ a
          ]))

  note_table : (n : ReadItem) (k : Key) (version : Option TxId) → is_valid_item (observed past) n ≡ true → version_read (item_of n) k ≡ Some version → is_data k ≡ true
  note_table (item.KeyRead read) k version h s = subst (λ x. is_data x ≡ true) (got_says read k version s).0 (left (is_data read.key) (is_valid_version (observed past) read.key read.version) h)
  note_table (item.SpanRead scan) k version h s = span_table scan.span k (scan_says scan k version s).0 ∙ left (not (is_coordinator_table scan.span.table)) (list_all (is_valid_found (observed past) scan) scan.found) h

  notes_are : list_all (is_valid_item (observed past)) (items_in plans t) ≡ true → Noted
  notes_are h i k u e =
      let s = noted_says plans t i k (Some u) e in
      let f = all_each (is_valid_item (observed past)) (items_in plans t) h s.n (got_in (items_in plans t) i s.n s.at) in
      let b = version_is k s.version u s.number (note_version s.n k s.version f s.as_read) in
      (b.b, b.settled, b.writer)

  tables_are : list_all (is_valid_item (observed past)) (items_in plans t) ≡ true → InTables
  tables_are h i k v e =
      let s = noted_says plans t i k v e in
      note_table s.n k s.version (all_each (is_valid_item (observed past)) (items_in plans t) h s.n (got_in (items_in plans t) i s.n s.at)) s.as_read

  fine_version : Noted → (i : ℕ) (n : ReadItem) → slice_get (items_in plans t) i ≡ Some n → (k : Key) (o : Option TxId) → version_read (item_of n) k ≡ Some o → is_valid_version (observed past) k o ≡ true
  fine_version f i n at k None s = refl
  fine_version f i n at k (Some v) s = let b = f i k v.0 (says_noted plans t i k n (Some v) at s) in settles_of past k v.0 (record { b = b.0; settled = b.1; writer = b.2 })

  are_notes : Noted → InTables → list_all (is_valid_item (observed past)) (items_in plans t) ≡ true
  are_notes f g = each_all (is_valid_item (observed past)) (items_in plans t) (λ n i. let a = in_got (items_in plans t) n i in by n a.0 a.1)
    where
      by : (n : ReadItem) (i : ℕ) → slice_get (items_in plans t) i ≡ Some n → is_valid_item (observed past) n ≡ true
      by (item.KeyRead read) i at =
          both (is_data read.key) (is_valid_version (observed past) read.key read.version) (g i read.key (number_of read.version) (says_noted plans t i read.key (item.KeyRead read) read.version at (says_got read))) (fine_version f i (item.KeyRead read) at read.key read.version (says_got read))
      by (item.SpanRead scan) i at =
          let k = key_within scan.span [] in
          both (not (is_coordinator_table scan.span.table)) (list_all (is_valid_found (observed past) scan) scan.found)
          (sym (span_table scan.span k (is_within scan.span [])) ∙ g i k (number_of (version_among scan.found k)) (says_noted plans t i k (item.SpanRead scan) (version_among scan.found k) at (says_scan scan k (is_within scan.span []))))
          (each_all (is_valid_found (observed past) scan) scan.found (λ r j. elim (decide (in_span scan.span r.key)) [
            | inl within ↦ or_right (not (in_span scan.span r.key)) (is_valid_version (observed past) r.key (version_among scan.found r.key)) (fine_version f i (item.SpanRead scan) at r.key (version_among scan.found r.key) (says_scan scan r.key within))
            | inr out ↦ or_left (not (in_span scan.span r.key)) (is_valid_version (observed past) r.key (version_among scan.found r.key)) (true_not (in_span scan.span r.key) out)
          ]))

pub take_is : (past : List Labelled) (plans : List Plan) (e : Event) (t : ℕ) → starts_well (observed past) past plans e t ≡ true → MayTake (plan_in plans) (all_labelled past) e t
take_is past plans (event.Take client text answered) t h =
    let ws = are_valid_writes (observed past) (writes_in plans t) (writes_in plans t) in
    let ns = list_all (is_valid_item (observed past)) (items_in plans t) in
    let own = owner_of past t == client in
    let opened = open_in past t in
    let on = not (stopped_in past client) in
    let moment = is_moment (moment_in plans t) in
    let new = not (commit_started_in past t) in
    let one = right (reads_commit text) ((own && (opened && on)) && (new && (moment && (ws && ns)))) h in
    let live = left (own && (opened && on)) (new && (moment && (ws && ns))) one in
    let two = right (own && (opened && on)) (new && (moment && (ws && ns))) one in
    let three = right new (moment && (ws && ns)) two in
    let four = right moment (ws && ns) three in
    record {
      client = client;
      text = text;
      answered = answered;
      commit = left (reads_commit text) ((own && (opened && on)) && (new && (moment && (ws && ns)))) h;
      take = refl;
      owner = owner_is past t ∙ number_is (owner_of past t) client (left own (opened && on) live);
      is_open = open_is past t ∙ left opened on (right own (opened && on) live);
      goes_on = stopped_is past client ∙ not_true (stopped_in past client) (right opened on (right own (opened && on) live));
      fresh = taken_is past t ∙ not_true (commit_started_in past t) (left new (moment && (ws && ns)) two);
      moment = left moment (ws && ns) three;
      writes = writes_are past plans t (left ws ns four);
      bases = bases_are past plans t (left ws ns four);
      read_set = notes_are past plans t (right ws ns four);
      tables = tables_are past plans t (right ws ns four);
    }
take_is past plans (event.Call client store q how r answered) t h = clash (sym h)
take_is past plans (event.Stop client) t h = clash (sym h)
take_is past plans (event.Clock moment) t h = clash (sym h)
take_is past plans (event.Idle client) t h = clash (sym h)
take_is past plans (event.Land number store asked how reply) t h = clash (sym h)
take_is past plans (event.Alter table column kind altered) t h = clash (sym h)

pub is_take : (past : List Labelled) (plans : List Plan) (e : Event) (t : ℕ) → MayTake (plan_in plans) (all_labelled past) e t → starts_well (observed past) past plans e t ≡ true
is_take past plans e t m =
    let ws = are_valid_writes (observed past) (writes_in plans t) (writes_in plans t) in
    let ns = list_all (is_valid_item (observed past)) (items_in plans t) in
    let own = owner_of past t == m.client in
    let opened = open_in past t in
    let on = not (stopped_in past m.client) in
    let moment = is_moment (moment_in plans t) in
    let new = not (commit_started_in past t) in
    ap (λ x. starts_well (observed past) past plans x t) m.take
    ∙ both (reads_commit m.text) ((own && (opened && on)) && (new && (moment && (ws && ns)))) m.commit
    (both (own && (opened && on)) (new && (moment && (ws && ns)))
    (both own (opened && on) (is_number (owner_of past t) m.client (sym (owner_is past t) ∙ m.owner)) (both opened on (sym (open_is past t) ∙ m.is_open) (true_not (stopped_in past m.client) (sym (stopped_is past m.client) ∙ m.goes_on))))
    (both new (moment && (ws && ns)) (true_not (commit_started_in past t) (sym (taken_is past t) ∙ m.fresh)) (both moment (ws && ns) m.moment (both ws ns (are_writes past plans t m.writes m.bases) (are_notes past plans t m.read_set m.tables)))))
