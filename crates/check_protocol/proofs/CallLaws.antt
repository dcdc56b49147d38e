-- The tests of prepares, checks, decisions and aborts decide their rules.
use Rattle.std.proofs.Common.{◌≡◌, ◌≢◌, ℕ, suc, ◌+◌, ◌<◌, ◌^◌, Bool, true, false, List, [], ◌∷◌, ◌++◌, length, map, Option, Some, None, inl, inr, refl, sym, ap, subst, ◌∙◌, arith}
use Rattle.std.specs.Prelude.{ℤ, ◌&&◌, ◌||◌, ◌==◌, not, is_some, nat_lt, slice_get, if◌then◌else◌}
use Rattle.std.specs.Option.{option_map_or, option_map}
use Rattle.std.specs.List.{AllByRecursion, list_all, enumerate_from}
use Rattle.std.proofs.lemmas.Bool.{ltb-true, lt-ltb}
use Rattle.std.proofs.lemmas.List.{length-append}
use Rattle.check_protocol.specs.Types.{Event, Key, Put, Read, Record, Reply, Request, Scan, Span, TxId, Value, Write}
use Rattle.sdb_types.specs.declared.value.Value.TheVariants as value
use Rattle.sdb_types.specs.declared.record.Condition.TheVariants as condition
use Rattle.sdb_types.specs.declared.record.Request.TheVariants as ask
use Rattle.sdb_types.specs.declared.record.Reply.TheVariants as reply
use Rattle.sdb_types.specs.Contents.{in_span, record_among, sent}
use Rattle.sdb_types.specs.Exactness.{span_is_exact}
use Rattle.sdb_record.specs.declared.coordinator.Decision.TheVariants as decision
use Rattle.sdb_record.specs.Coordinator.{coordinator_row_of}
use Rattle.sdb_record.specs.Meta.{is_moment}
use Rattle.sdb_record.specs.Groups.{keys_of_writes}
use Rattle.sdb_record.specs.Moved.{version_of, is_unchanged, same_version}
use Rattle.sdb_record.specs.Puts.{prepare_of}
use Rattle.sdb_record.specs.Rolls.{IsWrite, prepared_record}
use Rattle.sdb_record.specs.Among.{version_among, write_among}
use Rattle.sdb_model.specs.declared.event.Event.TheVariants as event
use Rattle.law_protocol.specs.Plan as law
use Rattle.law_protocol.specs.Plan.{write_at, written, version_read_at, number_of}
use Rattle.sdb_model.specs.ReadSet.{version_read}
use Rattle.law_protocol.specs.History.{Stage, Preparing, Checking, Deciding, IsPrepared}
use Rattle.law_protocol.specs.Lawful.{id, protocol_state, ack_of as reply_word, InCommit, IsUnchanged, MayPrepare, MayCheck, MayDecide, MayAbort}
use Rattle.check_protocol.specs.declared.plan.Plan.{Plan}
use Rattle.check_protocol.specs.declared.plan.ReadItem.{ReadItem}
use Rattle.check_protocol.specs.declared.plan.ReadItem.TheVariants as item
use Rattle.check_protocol.specs.declared.labelled.Ack.{Ack}
use Rattle.check_protocol.specs.declared.labelled.Ack.TheVariants as word
use Rattle.check_protocol.specs.declared.labelled.Labelled.{Labelled}
use Rattle.check_protocol.specs.Values.{ack_of, all_labelled, item_of, plan_in, writes_in, items_in, moment_in, same_request, same_span}
use Rattle.check_protocol.specs.Started.{commit_started_in, open_in, owner_of, stopped_in, staged_in, deciding_in, acknowledged_in, checked_in}
use Rattle.check_protocol.specs.Rules.{is_sound, matches_reply, puts_asked, are_some, are_new, in_commit, is_put, puts_write, put_writes, prepares_well, is_as_read, are_as_read, finds_read, checks_well, same_read, agrees_at, agrees, is_item_checked, decides_well, aborts_well}
use Rattle.check_protocol.proofs.Lists.{none_some, right, or_left, not_true, true_not, not_both, In, all_each, each_all, found_some, got_in, in_got, got_map, placed_each, each_placed}
use Rattle.check_protocol.proofs.StateLaws.{is_deciding, is_later, taken_is, open_is, owner_is, stopped_is, staged_is, deciding_is, told_is, checked_is}
use Rattle.check_protocol.proofs.ObservedLaws.{number_is, is_number}
use Rattle.check_protocol.proofs.PlanLaws.{is_sound_of, write_in_is, write_own, written_at, noted_says, says_noted, got_says, says_got, says_scan, among_is}
use Rattle.check_protocol.proofs.TakeLaws.{key_within, is_within}
use Rattle.sdb_types.proofs.Public.{and_both as both, and_first as left, clash, decides as decide, either, or_second as or_right, same_key_exact, same_key_of, some_is}
use Rattle.sdb_types.specs.Order.{same_key}
use Rattle.check_protocol.proofs.Requests.{request_is, is_request}
use Rattle.check_protocol.proofs.PutLaws.{asked_none, asked_sent, is_same_put, keys_some, none_asked, put_is, sent_asked, some_keys, some_of}

---- calls

span_is : (a b : Span) → same_span a b ≡ true → a ≡ b
unfolding same_span
span_is a b h = (span_is_exact a b).0 h

is_span : (a b : Span) → a ≡ b → same_span a b ≡ true
unfolding same_span
is_span a b e = (span_is_exact a b).1 e

fits_is : (w : Ack) (r : Reply) → matches_reply w r ≡ true → ack_of w ≡ reply_word r
fits_is word.Yes reply.Applied h = refl
fits_is word.No (reply.NotMet found) h = refl
fits_is word.No (reply.NotAll place found) h = refl
fits_is word.OutOfMemory reply.NoMemory h = refl
fits_is word.NoAck (reply.Found found) h = refl
fits_is word.NoAck (reply.Rows rows) h = refl
fits_is word.NoAck reply.Fault h = refl
fits_is _ _ h = clash (sym h)

is_fit : (w : Ack) (r : Reply) → ack_of w ≡ reply_word r → matches_reply w r ≡ true
is_fit word.Yes reply.Applied e = refl
is_fit word.No (reply.NotMet found) e = refl
is_fit word.No (reply.NotAll place found) e = refl
is_fit word.OutOfMemory reply.NoMemory e = refl
is_fit word.NoAck (reply.Found found) e = refl
is_fit word.NoAck (reply.Rows rows) e = refl
is_fit word.NoAck reply.Fault e = refl
is_fit _ _ e = absurd (cc)

pub in_commit_is : (past : List Labelled) (client t : ℕ) → in_commit past client t ≡ true → InCommit (protocol_state (all_labelled past)) client t
in_commit_is past client t h =
    let own = owner_of past t == client in
    let on = not (stopped_in past client) in
    let one = right (commit_started_in past t) (open_in past t && (own && on)) h in
    let two = right (open_in past t) (own && on) one in
    record {
      accepted = taken_is past t ∙ left (commit_started_in past t) (open_in past t && (own && on)) h;
      is_open = open_is past t ∙ left (open_in past t) (own && on) one;
      owner = owner_is past t ∙ number_is (owner_of past t) client (left own on two);
      goes_on = stopped_is past client ∙ not_true (stopped_in past client) (right own on two);
    }

pub is_in_commit : (past : List Labelled) (client t : ℕ) → InCommit (protocol_state (all_labelled past)) client t → in_commit past client t ≡ true
is_in_commit past client t m =
    let own = owner_of past t == client in
    let on = not (stopped_in past client) in
    both (commit_started_in past t) (open_in past t && (own && on)) (sym (taken_is past t) ∙ m.accepted)
    (both (open_in past t) (own && on) (sym (open_is past t) ∙ m.is_open) (both own on (is_number (owner_of past t) client (sym (owner_is past t) ∙ m.owner)) (true_not (stopped_in past client) (sym (stopped_is past client) ∙ m.goes_on))))

---- prepares

preparing_is : (s : Stage) → is_later s ≡ false → s ≡ Preparing
preparing_is Preparing h = refl
preparing_is Checking h = clash h
preparing_is Deciding h = clash h

record Puts (t : ℕ) (now : ℤ) (p : Put) (o : Option Write) : Type 0 where
  w : Write
  is : o ≡ Some w
  same : p ≡ prepare_of (id t) now w

puts_is : (t : ℕ) (now : ℤ) (p : Put) (o : Option Write) → puts_write t now o p ≡ true → Puts t now p o
puts_is t now p None h = clash (sym h)
puts_is t now p (Some w) h = by (is_sound w) h
  where
    by : (b : Bool) → is_put p (Some w) (if b then Some (prepared_record w (id t) now) else None) ≡ true → Puts t now p (Some w)
    by true f = record { w = w; is = refl; same = put_is p (prepare_of (id t) now w) f }
    by false f = clash (sym f)

-- the writes that puts prepare
record Grouped (t : ℕ) (now : ℤ) (ws : List Write) (ks : List Key) (ps : List Put) : Type 0 where
  group : List Write
  keys : ks ≡ keys_of_writes group
  each : AllByRecursion (λ (w : Write). write_among ws w.key ≡ Some w) group
  puts : ps ≡ map (prepare_of (id t) now) group

grouped_is : (t : ℕ) (now : ℤ) (ws : List Write) (ks : List Key) (ps : List Put) → put_writes t now ws ks ps ≡ true → Grouped t now ws ks ps
grouped_is t now ws [] [] h = record { group = []; keys = refl; each = tt; puts = refl }
grouped_is t now ws (k ∷ ks) (p ∷ ps) h =
    let first = puts_write t now (write_among ws k) p in
    let w = puts_is t now p (write_among ws k) (left first (put_writes t now ws ks ps) h) in
    let rest = grouped_is t now ws ks ps (right first (put_writes t now ws ks ps) h) in
    let key = sym (write_in_is ws k w.w w.is).1 in
    record { group = w.w ∷ rest.group; keys = λ i. key i ∷ rest.keys i; each = (write_own ws k w.w w.is, rest.each); puts = λ i. w.same i ∷ rest.puts i }
grouped_is t now ws [] (p ∷ ps) h = clash (sym h)
grouped_is t now ws (k ∷ ks) [] h = clash (sym h)

-- a group of the writes of a plan
each_at : (plans : List Plan) (t : ℕ) (g : List Write) → AllByRecursion (λ (w : Write). write_among (writes_in plans t) w.key ≡ Some w) g → AllByRecursion (λ (w : Write). write_at (plan_in plans t) w.key ≡ Some w) g
unfolding write_at
each_at plans t g each = each

at_each : (plans : List Plan) (t : ℕ) (g : List Write) → AllByRecursion (λ (w : Write). write_at (plan_in plans t) w.key ≡ Some w) g → AllByRecursion (λ (w : Write). write_among (writes_in plans t) w.key ≡ Some w) g
unfolding write_at
at_each plans t g each = each

write_put : (t : ℕ) (now : ℤ) (o : Option Write) (w : Write) → IsWrite w → o ≡ Some w → puts_write t now o (prepare_of (id t) now w) ≡ true
write_put t now o w sound own =
    let p : Put = prepare_of (id t) now w in
    ap (λ x. puts_write t now x p) own ∙ ap (λ b. is_put p (Some w) (if b then Some (prepared_record w (id t) now) else None)) (is_sound_of w sound) ∙ is_same_put p

group_put : (t : ℕ) (now : ℤ) (ws g : List Write) → AllByRecursion IsWrite g → AllByRecursion (λ (w : Write). write_among ws w.key ≡ Some w) g → put_writes t now ws (keys_of_writes g) (map (prepare_of (id t) now) g) ≡ true
group_put t now ws [] sound own = refl
group_put t now ws (w ∷ g) sound own =
    both (puts_write t now (write_among ws w.key) (prepare_of (id t) now w)) (put_writes t now ws (keys_of_writes g) (map (prepare_of (id t) now) g))
    (write_put t now (write_among ws w.key) w sound.0 own.0)
    (group_put t now ws g sound.1 own.1)

pub prepare_is : (past : List Labelled) (plans : List Plan) (e : Event) (t : ℕ) (ks : List Key) (w : Ack) → prepares_well past plans e t ks w ≡ true → MayPrepare (plan_in plans) (all_labelled past) e t ks (ack_of w)
prepare_is past plans (event.Call client store q how r answered) t ks w h =
    let now = moment_in plans t in
    let f = put_writes t now (writes_in plans t) ks in
    let new = not (staged_in past t) in
    let once = are_new past t ks in
    let puts = option_map_or f (puts_asked q) false in
    let one = right (in_commit past client t) (matches_reply w r && ((new && once) && (are_some ks && puts))) h in
    let two = right (matches_reply w r) ((new && once) && (are_some ks && puts)) one in
    let three = left (new && once) (are_some ks && puts) two in
    let four = right (new && once) (are_some ks && puts) two in
    let many = some_keys ks (left (are_some ks) puts four) in
    let p = some_of f (puts_asked q) (right (are_some ks) puts four) in
    let g = grouped_is t now (writes_in plans t) ks p.0 p.2 in
    let same = asked_sent q p.0 p.1 ∙ ap sent g.puts in
    record {
      client = client;
      group = g.group;
      r = r;
      within = in_commit_is past client t (left (in_commit past client t) (matches_reply w r && ((new && once) && (are_some ks && puts))) h);
      keys = g.keys;
      some = many.0;
      once_each = many.1;
      each = each_at plans t g.group g.each;
      call = record { store = store; how = how; answer = answered; call = λ i. event.Call client store (same i) how r answered };
      word_is = fits_is w r (left (matches_reply w r) ((new && once) && (are_some ks && puts)) one);
      stage = preparing_is ((protocol_state (all_labelled past)).stage t) (staged_is past t ∙ not_true (staged_in past t) (left new once three));
      once = none_asked past t ks (right new once three);
    }
prepare_is past plans (event.Take client text answer) t ks w h = clash (sym h)
prepare_is past plans (event.Stop client) t ks w h = clash (sym h)
prepare_is past plans (event.Clock moment) t ks w h = clash (sym h)
prepare_is past plans (event.Idle client) t ks w h = clash (sym h)
prepare_is past plans (event.Land number store asked how reply) t ks w h = clash (sym h)
prepare_is past plans (event.Alter table column kind altered) t ks w h = clash (sym h)

-- each write of a group has the form of records, where those of its plan have
pub each_sound : (p : law.Plan) (g : List Write) → ((k : Key) (w : Write) → write_at p k ≡ Some w → IsWrite w) → AllByRecursion (λ (w : Write). write_at p w.key ≡ Some w) g → AllByRecursion IsWrite g
each_sound p [] sound each = tt
each_sound p (w ∷ g) sound each = (sound w.key w each.0, each_sound p g sound each.1)

pub is_prepare : (past : List Labelled) (plans : List Plan) (e : Event) (t : ℕ) (ks : List Key) (w : Ack) (m : MayPrepare (plan_in plans) (all_labelled past) e t ks (ack_of w)) → AllByRecursion IsWrite m.group → prepares_well past plans e t ks w ≡ true
is_prepare past plans e t ks w m sound =
    let now = moment_in plans t in
    let ws = writes_in plans t in
    let f = put_writes t now ws ks in
    let ps = map (prepare_of (id t) now) m.group in
    let new = not (staged_in past t) in
    let once = are_new past t ks in
    let puts = option_map_or f (puts_asked (sent ps)) false in
    ap (λ x. prepares_well past plans x t ks w) m.call.call
    ∙ both (in_commit past m.client t) (matches_reply w m.r && ((new && once) && (are_some ks && puts))) (is_in_commit past m.client t m.within)
    (both (matches_reply w m.r) ((new && once) && (are_some ks && puts)) (is_fit w m.r m.word_is)
    (both (new && once) (are_some ks && puts)
    (both new once (true_not (staged_in past t) (sym (staged_is past t) ∙ ap is_later m.stage)) (asked_none past t ks m.once))
    (both (are_some ks) puts (keys_some ks m.some m.once_each)
    (ap (λ o. option_map_or f o false) (sent_asked ps) ∙ ap (λ qs. put_writes t now ws qs ps) m.keys ∙ group_put t now ws m.group sound (at_each plans t m.group m.each)))))

---- checks

free_is : (plans : List Plan) (t : ℕ) (k : Key) → written (plan_in plans t) k ≡ None → is_some (write_among (writes_in plans t) k) ≡ false
free_is plans t k h = by (write_among (writes_in plans t) k) (sym (written_at plans t k) ∙ h)
  where
    by : (o : Option Write) → option_map (λ (w : Write). number_of (version_of w.base)) o ≡ None → is_some o ≡ false
    by None e = refl
    by (Some w) e = none_some (sym e)

is_free : (plans : List Plan) (t : ℕ) (k : Key) → is_some (write_among (writes_in plans t) k) ≡ false → written (plan_in plans t) k ≡ None
is_free plans t k h = written_at plans t k ∙ by (write_among (writes_in plans t) k) h
  where
    by : (o : Option Write) → is_some o ≡ false → option_map (λ (w : Write). number_of (version_of w.base)) o ≡ None
    by None e = refl
    by (Some w) e = clash e

as_noted_at : (ws : List Write) (scan : Scan) (rows : List Record) (k : Key) → is_as_read ws scan rows k ≡ true → in_span scan.span k ≡ true → is_some (write_among ws k) ≡ false → is_unchanged (record_among rows k) (version_among scan.found k) ≡ true
as_noted_at ws scan rows k h within free = elim (either (not (in_span scan.span k)) (is_some (write_among ws k) || is_unchanged (record_among rows k) (version_among scan.found k)) h) [
  | inl out ↦ not_both (in_span scan.span k) within (not_true (in_span scan.span k) out)
  | inr a ↦ elim (either (is_some (write_among ws k)) (is_unchanged (record_among rows k) (version_among scan.found k)) a) [ inl w ↦ not_both (is_some (write_among ws k)) w free | inr u ↦ u ]
]

as_noted_is : (ws : List Write) (scan : Scan) (rows : List Record) → are_as_read ws scan rows ≡ true → (k : Key) → in_span scan.span k ≡ true → is_some (write_among ws k) ≡ false → is_unchanged (record_among rows k) (version_among scan.found k) ≡ true
as_noted_is ws scan rows h k within free = by (record_among rows k) refl
  where
    of_row : list_all (λ (r : Record). is_as_read ws scan rows r.key) rows ≡ true
    of_row = left (list_all (λ (r : Record). is_as_read ws scan rows r.key) rows) (list_all (λ (r : Read). is_as_read ws scan rows r.key) scan.found) h

    of_found : list_all (λ (r : Read). is_as_read ws scan rows r.key) scan.found ≡ true
    of_found = right (list_all (λ (r : Record). is_as_read ws scan rows r.key) rows) (list_all (λ (r : Read). is_as_read ws scan rows r.key) scan.found) h

    at : is_as_read ws scan rows k ≡ true → is_unchanged (record_among rows k) (version_among scan.found k) ≡ true
    at a = as_noted_at ws scan rows k a within free

    then_found : (v : Option TxId) → version_among scan.found k ≡ v → record_among rows k ≡ None → is_unchanged (record_among rows k) (version_among scan.found k) ≡ true
    then_found None e f = λ i. by_none i
      where
        by_none : is_unchanged (record_among rows k) (version_among scan.found k) ≡ true
        by_none = ap (λ o. is_unchanged o (version_among scan.found k)) f ∙ ap (is_unchanged None) e
    then_found (Some v) e f = let r = among_is scan.found k v e in at (subst (λ x. is_as_read ws scan rows x ≡ true) r.2 (all_each (λ (x : Read). is_as_read ws scan rows x.key) scan.found of_found r.0 r.1))

    by : (o : Option Record) → record_among rows k ≡ o → is_unchanged (record_among rows k) (version_among scan.found k) ≡ true
    by None e = then_found (version_among scan.found k) refl e
    by (Some row) e =
        let f = Rattle.check_protocol.proofs.Lists.found_in (λ (x : Record). same_key k x.key) rows row e in
        at (subst (λ x. is_as_read ws scan rows x ≡ true) (sym (same_key_exact k row.key f.1)) (all_each (λ (x : Record). is_as_read ws scan rows x.key) rows of_row row f.0))

is_as_noted_of : (ws : List Write) (scan : Scan) (rows : List Record) → ((k : Key) → in_span scan.span k ≡ true → is_some (write_among ws k) ≡ false → is_unchanged (record_among rows k) (version_among scan.found k) ≡ true) → are_as_read ws scan rows ≡ true
is_as_noted_of ws scan rows f = both (list_all (λ (r : Record). is_as_read ws scan rows r.key) rows) (list_all (λ (r : Read). is_as_read ws scan rows r.key) scan.found) (each_all (λ (r : Record). is_as_read ws scan rows r.key) rows (λ r i. by r.key)) (each_all (λ (r : Read). is_as_read ws scan rows r.key) scan.found (λ r i. by r.key))
  where
    by : (k : Key) → is_as_read ws scan rows k ≡ true
    by k = elim (decide (in_span scan.span k)) [
      | inr out ↦ or_left (not (in_span scan.span k)) (is_some (write_among ws k) || is_unchanged (record_among rows k) (version_among scan.found k)) (true_not (in_span scan.span k) out)
      | inl within ↦ or_right (not (in_span scan.span k)) (is_some (write_among ws k) || is_unchanged (record_among rows k) (version_among scan.found k)) (elim (decide (is_some (write_among ws k))) [
        | inl w ↦ or_left (is_some (write_among ws k)) (is_unchanged (record_among rows k) (version_among scan.found k)) w
        | inr free ↦ or_right (is_some (write_among ws k)) (is_unchanged (record_among rows k) (version_among scan.found k)) (f k within free)
      ])
    ]

finds_is : (plans : List Plan) (t : ℕ) (n : ReadItem) (q : Request) (r : Reply) → finds_read (writes_in plans t) n q r ≡ true → IsUnchanged (plan_in plans t) (item_of n) q r
finds_is plans t (item.KeyRead read) (ask.Get key) (reply.Found found) h =
    (found, ap ask.Get (same_key_exact key read.key (left (same_key key read.key) (is_unchanged found read.version) h)), refl, right (same_key key read.key) (is_unchanged found read.version) h)
finds_is plans t (item.SpanRead scan) (ask.Scan span) (reply.Rows rows) h =
    (rows, ap ask.Scan (span_is span scan.span (left (same_span span scan.span) (are_as_read (writes_in plans t) scan rows) h)), refl, λ k within free. as_noted_is (writes_in plans t) scan rows (right (same_span span scan.span) (are_as_read (writes_in plans t) scan rows) h) k within (free_is plans t k free))
finds_is plans t _ _ _ h = clash (sym h)

is_finds : (plans : List Plan) (t : ℕ) (n : ReadItem) (q : Request) (r : Reply) → IsUnchanged (plan_in plans t) (item_of n) q r → finds_read (writes_in plans t) n q r ≡ true
is_finds plans t (item.KeyRead read) q r u = (λ i. finds_read (writes_in plans t) (item.KeyRead read) (u.1 i) (u.2 i)) ∙ both (same_key read.key read.key) (is_unchanged u.0 read.version) (same_key_of read.key read.key refl) u.3
is_finds plans t (item.SpanRead scan) q r u =
    (λ i. finds_read (writes_in plans t) (item.SpanRead scan) (u.1 i) (u.2 i))
    ∙ both (same_span scan.span scan.span) (are_as_read (writes_in plans t) scan u.0) (is_span scan.span scan.span refl) (is_as_noted_of (writes_in plans t) scan u.0 (λ k within free. u.3 k within (is_free plans t k free)))

not_deciding : (s : Stage) → is_deciding s ≡ false → s ≢ Deciding
not_deciding s h e = clash (sym (ap is_deciding e) ∙ h)

deciding_not : (s : Stage) → s ≢ Deciding → is_deciding s ≡ false
deciding_not Preparing f = refl
deciding_not Checking f = refl
deciding_not Deciding f = absurd (f refl)

pub check_is : (past : List Labelled) (plans : List Plan) (e : Event) (t i : ℕ) → checks_well past plans e t i ≡ true → MayCheck (plan_in plans) (all_labelled past) e t i
check_is past plans (event.Call client store q how r answered) t i h =
    let finds = option_map_or (λ n. finds_read (writes_in plans t) n q r) (slice_get (items_in plans t) i) false in
    let one = right (in_commit past client t) (not (deciding_in past t) && finds) h in
    by (slice_get (items_in plans t) i) refl (left (in_commit past client t) (not (deciding_in past t) && finds) h) (left (not (deciding_in past t)) finds one) (right (not (deciding_in past t)) finds one)
  where
    by : (o : Option ReadItem) → slice_get (items_in plans t) i ≡ o → in_commit past client t ≡ true → not (deciding_in past t) ≡ true → option_map_or (λ n. finds_read (writes_in plans t) n q r) o false ≡ true → MayCheck (plan_in plans) (all_labelled past) (event.Call client store q how r answered) t i
    by None e w d f = clash (sym f)
    by (Some n) e w d f = record {
      client = client;
      item = item_of n;
      q = q;
      r = r;
      within = in_commit_is past client t w;
      at = got_map item_of (items_in plans t) i ∙ ap (option_map item_of) e;
      call = record { store = store; how = how; answer = answered; call = refl };
      unchanged = finds_is plans t n q r f;
      stage = not_deciding ((protocol_state (all_labelled past)).stage t) (deciding_is past t ∙ not_true (deciding_in past t) d);
    }
check_is past plans (event.Take client text answer) t i h = clash (sym h)
check_is past plans (event.Stop client) t i h = clash (sym h)
check_is past plans (event.Clock moment) t i h = clash (sym h)
check_is past plans (event.Idle client) t i h = clash (sym h)
check_is past plans (event.Land number store asked how reply) t i h = clash (sym h)
check_is past plans (event.Alter table column kind altered) t i h = clash (sym h)

pub is_check : (past : List Labelled) (plans : List Plan) (e : Event) (t i : ℕ) → MayCheck (plan_in plans) (all_labelled past) e t i → checks_well past plans e t i ≡ true
is_check past plans e t i m =
    let finds = option_map_or (λ n. finds_read (writes_in plans t) n m.q m.r) (slice_get (items_in plans t) i) false in
    ap (λ x. checks_well past plans x t i) m.call.call
    ∙ both (in_commit past m.client t) (not (deciding_in past t) && finds) (is_in_commit past m.client t m.within)
    (both (not (deciding_in past t)) finds (true_not (deciding_in past t) (sym (deciding_is past t) ∙ deciding_not ((protocol_state (all_labelled past)).stage t) m.stage))
    (by (slice_get (items_in plans t) i) (sym (got_map item_of (items_in plans t) i) ∙ m.at) m.unchanged))
  where
    by : (o : Option ReadItem) → option_map item_of o ≡ Some m.item → IsUnchanged (plan_in plans t) m.item m.q m.r → option_map_or (λ n. finds_read (writes_in plans t) n m.q m.r) o false ≡ true
    by None e u = none_some e
    by (Some n) e u = is_finds plans t n m.q m.r (subst (λ x. IsUnchanged (plan_in plans t) x m.q m.r) (sym (some_is (item_of n) m.item e)) u)

---- the put of COMMITTED

same_version_is : (a b : Option TxId) → same_version a b ≡ true → number_of a ≡ number_of b
same_version_is None None h = refl
same_version_is None (Some b) h = clash (sym h)
same_version_is (Some a) None h = clash (sym h)
same_version_is (Some a) (Some b) h = ap Some (number_is a.0 b.0 h)

is_same_version : (a b : Option TxId) → number_of a ≡ number_of b → same_version a b ≡ true
is_same_version None None e = refl
is_same_version None (Some b) e = none_some e
is_same_version (Some a) None e = none_some (sym e)
is_same_version (Some a) (Some b) e = is_number a.0 b.0 (some_is a.0 b.0 e)

-- a write of each key that is written
written_some : (plans : List Plan) (t : ℕ) (k : Key) (base : Option ℕ) → written (plan_in plans t) k ≡ Some base → (w : Write) × (write_among (writes_in plans t) k ≡ Some w) × (number_of (version_of w.base) ≡ base)
written_some plans t k base h = by (write_among (writes_in plans t) k) refl (sym (written_at plans t k) ∙ h)
  where
    by : (o : Option Write) → write_among (writes_in plans t) k ≡ o → option_map (λ (w : Write). number_of (version_of w.base)) o ≡ Some base → (w : Write) × (write_among (writes_in plans t) k ≡ Some w) × (number_of (version_of w.base) ≡ base)
    by None e f = none_some f
    by (Some w) e f = (w, e, some_is (number_of (version_of w.base)) base f)

some_written : (plans : List Plan) (t : ℕ) (k : Key) (w : Write) → write_among (writes_in plans t) k ≡ Some w → written (plan_in plans t) k ≡ Some (number_of (version_of w.base))
some_written plans t k w e = written_at plans t k ∙ ap (option_map (λ (x : Write). number_of (version_of x.base))) e

-- clustering values that no write has
long : List Write → List Value
long [] = []
long (w ∷ ws) = value.Null ∷ (w.key.clustering ++ long ws)

long_above : (ws : List Write) (w : Write) → In ws w → length w.key.clustering < length (long ws)
unfolding long
long_above [] w i = absurd i
long_above (x ∷ ws) w (inl e) = subst (λ (y : Write). length y.key.clustering < suc (length (x.key.clustering ++ long ws))) (sym e) (by (length (x.key.clustering ++ long ws)) (length-append x.key.clustering (long ws)))
  where
    by : (n : ℕ) → n ≡ length x.key.clustering + length (long ws) → length x.key.clustering < suc n
    by n e = omega arith
long_above (x ∷ ws) w (inr i) = by (length (x.key.clustering ++ long ws)) (length-append x.key.clustering (long ws)) (long_above ws w i)
  where
    by : (n : ℕ) → n ≡ length x.key.clustering + length (long ws) → length w.key.clustering < length (long ws) → length w.key.clustering < suc n
    by n e h = omega arith

fresh_key : (ws : List Write) (span : Span) → is_some (write_among ws (key_within span (long ws))) ≡ false
fresh_key ws span = by (write_among ws (key_within span (long ws))) refl
  where
    apart : (w : Write) → In ws w → w.key ≡ key_within span (long ws) → ⊥
    apart w i e = less (length w.key.clustering) (length (long ws)) (long_above ws w i) (ap (λ (x : Key). length x.clustering) e)
      where
        less : (a b : ℕ) → a < b → a ≡ b → ⊥
        less a b h e = absurd (omega arith)

    by : (o : Option Write) → write_among ws (key_within span (long ws)) ≡ o → is_some o ≡ false
    by None e = refl
    by (Some w) e = let i = write_in_is ws (key_within span (long ws)) w e in absurd (apart w i.0 i.1)

module _ (past : List Labelled) (plans : List Plan) (t : ℕ) where
  abbrev Checked : Type 0
  Checked = (i : ℕ) (k : Key) (version : Option ℕ) → version_read_at (plan_in plans t) i k ≡ Some version → written (plan_in plans t) k ≡ None → (protocol_state (all_labelled past)).checked t i ≡ true

  abbrev Agrees : Type 0
  Agrees = (i : ℕ) (k : Key) (version base : Option ℕ) → version_read_at (plan_in plans t) i k ≡ Some version → written (plan_in plans t) k ≡ Some base → version ≡ base

  told_all : list_all (λ (w : Write). acknowledged_in past t w.key) (writes_in plans t) ≡ true → IsPrepared (plan_in plans) (protocol_state (all_labelled past)) t
  told_all h k f = by (write_among (writes_in plans t) k) refl
    where
      by : (o : Option Write) → write_among (writes_in plans t) k ≡ o → (protocol_state (all_labelled past)).answered t k ≡ true
      by None e = absurd (f (is_free plans t k (ap is_some e)))
      by (Some w) e = let i = write_in_is (writes_in plans t) k w e in told_is past t k ∙ subst (λ x. acknowledged_in past t x ≡ true) i.1 (all_each (λ (x : Write). acknowledged_in past t x.key) (writes_in plans t) h w i.0)

  all_told : IsPrepared (plan_in plans) (protocol_state (all_labelled past)) t → list_all (λ (w : Write). acknowledged_in past t w.key) (writes_in plans t) ≡ true
  all_told f = each_all (λ (w : Write). acknowledged_in past t w.key) (writes_in plans t) (λ w i. sym (told_is past t w.key) ∙ f w.key (λ e. by w i e))
    where
      by : (w : Write) → In (writes_in plans t) w → written (plan_in plans t) w.key ≡ None → ⊥
      by w i e = let s = found_some (λ (x : Write). same_key w.key x.key) (writes_in plans t) w i (same_key_of w.key w.key refl) in none_some (sym e ∙ some_written plans t w.key s.0 s.1)

  agrees_all : list_all (agrees (writes_in plans t)) (items_in plans t) ≡ true → Agrees
  agrees_all h i k version base n wr =
      let s = noted_says plans t i k version n in
      let w = written_some plans t k base wr in
      let at = write_in_is (writes_in plans t) k w.0 w.1 in
      let a = all_each (agrees_at (writes_in plans t) s.n) (writes_in plans t) (all_each (agrees (writes_in plans t)) (items_in plans t) h s.n (got_in (items_in plans t) i s.n s.at)) w.0 at.0 in
      let b = ap (λ o. option_map_or (λ (x : Write). same_read (version_read (item_of s.n) w.0.key) (version_of x.base)) o true) (sym (write_own (writes_in plans t) k w.0 w.1)) ∙ a in
      let c = ap (λ o. same_read o (version_of w.0.base)) (sym (ap (version_read (item_of s.n)) at.1 ∙ s.as_read)) ∙ b in
      sym s.number ∙ same_version_is s.version (version_of w.0.base) c ∙ w.2

  all_agree : Agrees → list_all (agrees (writes_in plans t)) (items_in plans t) ≡ true
  all_agree f = each_all (agrees (writes_in plans t)) (items_in plans t) (λ n i. let a = in_got (items_in plans t) n i in each_all (agrees_at (writes_in plans t) n) (writes_in plans t) (λ w j. by n a.0 a.1 w.key (write_among (writes_in plans t) w.key) refl))
    where
      then_noted : (n : ReadItem) (i : ℕ) → slice_get (items_in plans t) i ≡ Some n → (k : Key) (x : Write) → write_among (writes_in plans t) k ≡ Some x → (o : Option (Option TxId)) → version_read (item_of n) k ≡ o → same_read o (version_of x.base) ≡ true
      then_noted n i at k x e None g = refl
      then_noted n i at k x e (Some v) g = is_same_version v (version_of x.base) (f i k (number_of v) (number_of (version_of x.base)) (says_noted plans t i k n v at g) (some_written plans t k x e))

      by : (n : ReadItem) (i : ℕ) → slice_get (items_in plans t) i ≡ Some n → (k : Key) (o : Option Write) → write_among (writes_in plans t) k ≡ o → option_map_or (λ (x : Write). same_read (version_read (item_of n) k) (version_of x.base)) o true ≡ true
      by n i at k None e = refl
      by n i at k (Some x) e = then_noted n i at k x e (version_read (item_of n) k) refl

  checked_note : (i : ℕ) (n : ReadItem) (k : Key) (version : Option TxId) → is_item_checked past t (writes_in plans t) i n ≡ true → version_read (item_of n) k ≡ Some version → written (plan_in plans t) k ≡ None → checked_in past t i ≡ true
  checked_note i (item.KeyRead read) k version h s free =
      let g = got_says read k version s in
      elim (either (is_some (write_among (writes_in plans t) read.key)) (checked_in past t i) h) [
        | inl w ↦ not_both (is_some (write_among (writes_in plans t) read.key)) w (ap (λ x. is_some (write_among (writes_in plans t) x)) g.0 ∙ free_is plans t k free)
        | inr c ↦ c
      ]
  checked_note i (item.SpanRead scan) k version h s free = h

  checked_all : list_all (λ (e : ℕ × ReadItem). is_item_checked past t (writes_in plans t) e.0 e.1) (enumerate_from 0 (items_in plans t)) ≡ true → Checked
  checked_all h i k version n free =
      let s = noted_says plans t i k version n in
      checked_is past t i ∙ checked_note i s.n k s.version (subst (λ j. is_item_checked past t (writes_in plans t) j s.n ≡ true) (zero_plus i) (placed_each (λ j x. is_item_checked past t (writes_in plans t) j x) (items_in plans t) 0 h i s.n s.at)) s.as_read free
    where
      zero_plus : (i : ℕ) → 0 + i ≡ i
      zero_plus i = omega arith

  all_checked : Checked → list_all (λ (e : ℕ × ReadItem). is_item_checked past t (writes_in plans t) e.0 e.1) (enumerate_from 0 (items_in plans t)) ≡ true
  all_checked f = each_placed (λ j x. is_item_checked past t (writes_in plans t) j x) (items_in plans t) 0 (λ i n at. subst (λ j. is_item_checked past t (writes_in plans t) j n ≡ true) (plus_zero i) (by i n at))
    where
      plus_zero : (i : ℕ) → i ≡ 0 + i
      plus_zero i = omega arith

      by : (i : ℕ) (n : ReadItem) → slice_get (items_in plans t) i ≡ Some n → is_item_checked past t (writes_in plans t) i n ≡ true
      by i (item.KeyRead read) at = elim (decide (is_some (write_among (writes_in plans t) read.key))) [
        | inl w ↦ or_left (is_some (write_among (writes_in plans t) read.key)) (checked_in past t i) w
        | inr free ↦ or_right (is_some (write_among (writes_in plans t) read.key)) (checked_in past t i) (sym (checked_is past t i) ∙ f i read.key (number_of read.version) (says_noted plans t i read.key (item.KeyRead read) read.version at (says_got read)) (is_free plans t read.key free))
      ]
      by i (item.SpanRead scan) at =
          let k = key_within scan.span (long (writes_in plans t)) in
          sym (checked_is past t i) ∙ f i k (number_of (version_among scan.found k)) (says_noted plans t i k (item.SpanRead scan) (version_among scan.found k) at (says_scan scan k (is_within scan.span (long (writes_in plans t))))) (is_free plans t k (fresh_key (writes_in plans t) scan.span))

pub decide_is : (past : List Labelled) (plans : List Plan) (e : Event) (t : ℕ) (w : Ack) → decides_well past plans e t w ≡ true → MayDecide (plan_in plans) (all_labelled past) e t (ack_of w)
decide_is past plans (event.Call client store q how r answered) t w h =
    let put = ask.PutIf (coordinator_row_of (id t) decision.Committed (moment_in plans t)) condition.Absent in
    let acked = list_all (λ (x : Write). acknowledged_in past t x.key) (writes_in plans t) in
    let agree = list_all (agrees (writes_in plans t)) (items_in plans t) in
    let checked = list_all (λ (x : ℕ × ReadItem). is_item_checked past t (writes_in plans t) x.0 x.1) (enumerate_from 0 (items_in plans t)) in
    let one = right (in_commit past client t) (matches_reply w r && (same_request q put && (acked && (agree && checked)))) h in
    let two = right (matches_reply w r) (same_request q put && (acked && (agree && checked))) one in
    let three = right (same_request q put) (acked && (agree && checked)) two in
    let same = request_is q put (left (same_request q put) (acked && (agree && checked)) two) in
    record {
      client = client;
      r = r;
      within = in_commit_is past client t (left (in_commit past client t) (matches_reply w r && (same_request q put && (acked && (agree && checked)))) h);
      call = record { store = store; how = how; answer = answered; call = λ i. event.Call client store (same i) how r answered };
      word_is = fits_is w r (left (matches_reply w r) (same_request q put && (acked && (agree && checked))) one);
      prepared = told_all past plans t (left acked (agree && checked) three);
      checked = checked_all past plans t (right agree checked (right acked (agree && checked) three));
      agrees = agrees_all past plans t (left agree checked (right acked (agree && checked) three));
    }
decide_is past plans (event.Take client text answer) t w h = clash (sym h)
decide_is past plans (event.Stop client) t w h = clash (sym h)
decide_is past plans (event.Clock moment) t w h = clash (sym h)
decide_is past plans (event.Idle client) t w h = clash (sym h)
decide_is past plans (event.Land number store asked how reply) t w h = clash (sym h)
decide_is past plans (event.Alter table column kind altered) t w h = clash (sym h)

pub is_decide : (past : List Labelled) (plans : List Plan) (e : Event) (t : ℕ) (w : Ack) → MayDecide (plan_in plans) (all_labelled past) e t (ack_of w) → decides_well past plans e t w ≡ true
is_decide past plans e t w m =
    let put = ask.PutIf (coordinator_row_of (id t) decision.Committed (moment_in plans t)) condition.Absent in
    let acked = list_all (λ (x : Write). acknowledged_in past t x.key) (writes_in plans t) in
    let agree = list_all (agrees (writes_in plans t)) (items_in plans t) in
    let checked = list_all (λ (x : ℕ × ReadItem). is_item_checked past t (writes_in plans t) x.0 x.1) (enumerate_from 0 (items_in plans t)) in
    ap (λ x. decides_well past plans x t w) m.call.call
    ∙ both (in_commit past m.client t) (matches_reply w m.r && (same_request put put && (acked && (agree && checked)))) (is_in_commit past m.client t m.within)
    (both (matches_reply w m.r) (same_request put put && (acked && (agree && checked))) (is_fit w m.r m.word_is)
    (both (same_request put put) (acked && (agree && checked)) (is_request put put refl)
    (both acked (agree && checked) (all_told past plans t m.prepared) (both agree checked (all_agree past plans t m.agrees) (all_checked past plans t m.checked)))))

---- puts of ABORTED

pub abort_is : (past : List Labelled) (e : Event) (t : ℕ) (moment : ℤ) (w : Ack) → aborts_well e t moment w ≡ true → MayAbort (all_labelled past) e t moment (ack_of w)
abort_is past (event.Call client store q how r answered) t moment w h =
    let put = ask.PutIf (coordinator_row_of (id t) decision.Aborted moment) condition.Absent in
    let one = right (matches_reply w r) (is_moment moment && (nat_lt t (2 ^ 128) && same_request q put)) h in
    let two = right (is_moment moment) (nat_lt t (2 ^ 128) && same_request q put) one in
    let same = request_is q put (right (nat_lt t (2 ^ 128)) (same_request q put) two) in
    record {
      client = client;
      r = r;
      call = record { store = store; how = how; answer = answered; call = λ i. event.Call client store (same i) how r answered };
      word_is = fits_is w r (left (matches_reply w r) (is_moment moment && (nat_lt t (2 ^ 128) && same_request q put)) h);
      fits = ltb-true t (2 ^ 128) (left (nat_lt t (2 ^ 128)) (same_request q put) two);
      moment_is = left (is_moment moment) (nat_lt t (2 ^ 128) && same_request q put) one;
    }
abort_is past (event.Take client text answer) t moment w h = clash (sym h)
abort_is past (event.Stop client) t moment w h = clash (sym h)
abort_is past (event.Clock now) t moment w h = clash (sym h)
abort_is past (event.Idle client) t moment w h = clash (sym h)
abort_is past (event.Land number store asked how reply) t moment w h = clash (sym h)
abort_is past (event.Alter table column kind altered) t moment w h = clash (sym h)

pub is_abort : (past : List Labelled) (e : Event) (t : ℕ) (moment : ℤ) (w : Ack) → MayAbort (all_labelled past) e t moment (ack_of w) → aborts_well e t moment w ≡ true
is_abort past e t moment w m =
    let put = ask.PutIf (coordinator_row_of (id t) decision.Aborted moment) condition.Absent in
    ap (λ x. aborts_well x t moment w) m.call.call
    ∙ both (matches_reply w m.r) (is_moment moment && (nat_lt t (2 ^ 128) && same_request put put)) (is_fit w m.r m.word_is)
    (both (is_moment moment) (nat_lt t (2 ^ 128) && same_request put put) m.moment_is (both (nat_lt t (2 ^ 128)) (same_request put put) (lt-ltb t (2 ^ 128) m.fits) (is_request put put refl)))
