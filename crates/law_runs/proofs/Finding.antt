-- What the calls of statements found at keys of tables is the row of a committed image at a moment of these calls.
use Rattle.std.proofs.Common.{◌≡◌, ◌≢◌, ◌⊎◌, inl, inr, ℕ, zero, suc, ◌+◌, ◌<◌, ◌≤◌, ◌^◌, Bool, true, false, List, [], length, Option, Some, None, refl, sym, ap, subst, ◌∙◌, arith}
use Rattle.std.specs.Prelude.{if◌then◌else◌, IfSome, not, Contains}
use Rattle.std.specs.Option.{option_and_then, option_map_or}
use Rattle.std.specs.Ordering.{is_eq}
use Rattle.std.specs.Result.{result_ok}
use Rattle.std.proofs.lemmas.Bool.{cases_lt}
use Rattle.law_runs.specs.Types.{Answer, Decided, Event, Image, Key, Pair, Place, Record, Reply, Request, Table, TableName, TxId}
use Rattle.sdb_types.specs.declared.record.Put.{Put}
use Rattle.sdb_types.specs.declared.record.Request.TheVariants as ask
use Rattle.sdb_types.specs.declared.record.Reply.TheVariants as reply
use Rattle.sdb_types.specs.declared.record.State.TheVariants as state
use Rattle.sdb_types.specs.Columns.{column}
use Rattle.sdb_types.specs.Contents.{Contents, IsWellFormed, is_partition, record_at, table_of_puts, tx_id}
use Rattle.sdb_types.specs.Exact.{equal_of}
use Rattle.sdb_types.specs.Order.{table_cmp}
use Rattle.sdb_types.proofs.Public.{all_each, and_both, and_first, by_test, clash, none_some, not_true, record_at-key, some_is, table_exact}
use Rattle.sdb_record.specs.Coordinator.{coordinator_key_of, coordinator_table, decision_in, is_coordinator_table}
use Rattle.sdb_record.specs.Meta.{id_in, is_in, is_transactional}
use Rattle.sdb_record.specs.Rolls.{image_of, image_under, row_of_image}
use Rattle.sdb_record.proofs.Public.{id_in_value-fits, image-open, image-settled}
use Rattle.sdb_model.specs.declared.answer.Answer.TheVariants as answer
use Rattle.sdb_model.specs.declared.event.Event.TheVariants as event
use Rattle.sdb_model.specs.Calls.{StoreCall, calls_of, decision_observed, end_of, is_read, records_read}
use Rattle.sdb_model.specs.Counted.{AreResolved, IsPassedOver, IsResolved}
use Rattle.sdb_model.specs.Events.{Effect, IsTrace, StoreContents, contents_under, moment, stored_at, store_of, table_asked}
use Rattle.sdb_model.specs.Exec.{find_table}
use Rattle.sdb_model.specs.Explained.{IsPreparedAfter, IsTableKey, Observes, ContentsExplained, AreTransactional}
use Rattle.sdb_model.specs.Images.{decision_at, decision_on}
use Rattle.sdb_model.specs.ReadSet.{meaning_of, reads_rows}
use Rattle.sdb_model.specs.DirtyReads.{AnswersHaveRows, CommittedBy, HasRow, IsMeantBy, ReadsKey, AnswersAreOf, WasCommitted, WasFound}
use Rattle.sdb_model.specs.Transactions.{Executed, client_of}
use Rattle.law_protocol.proofs.Public.{all_in_table, apart_from, at_call, AtCall, get_reply, left_elsewhere, of_key, row_is_no_data, scan_reply}
use Rattle.law_clients.proofs.Public.{among_found, meaning_settled}
use Rattle.law_runs.specs.DirtyReads.{FoundDecided, IsDecidedIn, IsReader, ReadBy}
use Rattle.law_runs.proofs.Agreeing.{Stands, decisions_agree, same_row, shown_stands}
use Rattle.law_runs.proofs.Calls.{IsAt, IsWithin, call_at, effect_at, later_call, the_first, within_statement}
use Rattle.law_runs.proofs.Others.{PutsAt, PutsBy, stood_or_put}
use Rattle.law_runs.specs.Traces.{AnswersAsRead, HasNoDirtyReads, HasTransactional, IsApart, IsExplainedTrace, Traced}

---- one event

-- A call leaves what is at keys of other tables.
call_leaves : (places : List Place) (q : Request) (r : Reply) (before now : List StoreContents) (j : Key) → AtCall places q r before now → j.table ≢ table_asked q → stored_at places now j ≡ stored_at places before j
call_leaves places q r before now j a apart = elim (a.there j) [ inl x ↦ x.1 ∙ same ∙ sym x.0 | inr x ↦ x.0 ]
  where
    same : record_at a.left j ≡ record_at a.held j
    same = elim a.moved [ inl m ↦ ap (λ (y : Contents). record_at y j) m.0 ∙ left_elsewhere q a.held j a.formed apart | inr m ↦ ap (λ (y : Contents). record_at y j) m.0 ]

-- a key at which a request puts is of the table that it asks of
put_table : (q : Request) (k : Key) → IsWellFormed q → PutsBy q k → k.table ≡ table_asked q
put_table (ask.Get key) k formed put = absurd put
put_table (ask.Scan span) k formed put = absurd put
put_table (ask.PutIf rec c) k formed put = ap (λ (y : Key). y.table) (sym put)
put_table (ask.DeleteIf key c) k formed put = absurd put
put_table (ask.PutAll batch) k formed put = let p = of_key (λ (x : Put). x.rec.key) (λ (x : Put). x.rec.key.table ≡ table_of_puts batch) batch k (all_in_table batch formed.one) put in ap (λ (y : Key). y.table) (sym p.1) ∙ p.2

-- An event that puts at a key of one table leaves what is at keys of others.
put_leaves : (places : List Place) (e : Event) (before now : List StoreContents) (k j : Key) → Effect places e before now → PutsAt e k → k.table ≢ j.table → stored_at places now j ≡ stored_at places before j
put_leaves places (event.Call client store q how r answer) before now k j effect put apart =
    let a = at_call places store q how r before now effect in call_leaves places q r before now j a (λ same. apart (put_table q k a.formed put ∙ sym same))
put_leaves places (event.Land number store q how r) before now k j effect put apart =
    let a = at_call places store q how r before now effect in call_leaves places q r before now j a (λ same. apart (put_table q k a.formed put ∙ sym same))
put_leaves places (event.Take client text answer) before now k j effect put apart = absurd put
put_leaves places (event.Stop client) before now k j effect put apart = absurd put
put_leaves places (event.Clock moment) before now k j effect put apart = absurd put
put_leaves places (event.Idle client) before now k j effect put apart = absurd put
put_leaves places (event.Alter table column kind altered) before now k j effect put apart = absurd put

-- what is at a key has that key
standing_key : (places : List Place) (now : List StoreContents) (key : Key) (r : Record) → stored_at places now key ≡ Some r → r.key ≡ key
standing_key places now key r h = by (contents_under now (store_of places now key.table.ns)) h
  where
    own : (o : Option Record) → IfSome o (λ x. x.key ≡ key) → o ≡ Some r → r.key ≡ key
    own None is e = none_some r e
    own (Some x) is e = ap (λ (y : Record). y.key) (sym (some_is x r e)) ∙ is

    by : (o : Option Contents) → option_map_or (λ m. record_at m key) o None ≡ Some r → r.key ≡ key
    by None e = none_some r e
    by (Some m) e = own (record_at m key) (record_at-key m key) e

---- what a read shows

-- a read that showed what was at a key
record IsRead (q : Request) (r : Reply) (key : Key) (found : Option Record) : Type 0 where
  reads : ReadsKey key q
  is : is_read q ≡ true
  table : table_asked q ≡ key.table
  stood : (places : List Place) (before now : List StoreContents) → AtCall places q r before now → stored_at places before key ≡ found
  observed : (x : Record) → found ≡ Some x → Contains (records_read r) x

read_of : (q : Request) (r : Reply) (key : Key) (found : Option Record) → Observes q r key found → IsRead q r key found
read_of (ask.Get k) (reply.Found x) key found (same, is) = record {
  reads = same;
  is = refl;
  table = ap (λ (y : Key). y.table) same;
  stood = λ places before now a. ap (stored_at places before) (sym same) ∙ sym (get_reply places k (reply.Found x) x before now a refl) ∙ is;
  observed = λ y e. subst (λ (o : Option Record). Contains (records_read (reply.Found o)) y) (sym (is ∙ e)) (the_first y []);
}
read_of (ask.Scan span) (reply.Rows rows) key found (inside, is) = record {
  reads = inside;
  is = refl;
  table = table_exact span.table key.table (equal_of (table_cmp span.table key.table) (and_first (is_eq (table_cmp span.table key.table)) (is_partition span.partition key) inside));
  stood = λ places before now a. sym (scan_reply span (reply.Rows rows) rows a refl key inside) ∙ is;
  observed = λ y e. among_found rows key y (is ∙ e);
}
read_of (ask.Get k) r key found h = absurd h
read_of (ask.Scan span) r key found h = absurd h
read_of (ask.PutIf rec c) r key found h = absurd h
read_of (ask.DeleteIf k c) r key found h = absurd h
read_of (ask.PutAll batch) r key found h = absurd h

---- decisions

-- the image of an open record, by what is answered of the decision on its transaction
image_told : (decide : TxId → Option Decided) (r : Record) (id : TxId) (d : Decided) → id_in r.columns ≡ Some id → decide id ≡ Some d → image_of r (option_and_then decide (id_in r.columns)) ≡ image_of r (Some d)
image_told decide r id d writer is = ap (λ (o : Option TxId). image_of r (option_and_then decide o)) writer ∙ ap (image_of r) is

---- the first moment at which something is there

record Comes (at : ℕ → Option Record) (low high : ℕ) : Type 0 where
  p : ℕ
  row : Record
  after : low ≤ p
  before : p < high
  none : at p ≡ None
  some : at (suc p) ≡ Some row

comes : (at : ℕ → Option Record) (low high : ℕ) (row : Record) → low ≤ high → at low ≡ None → at high ≡ Some row → Comes at low high
comes at low zero row l none some = none_some row (sym none ∙ ap at (least low l) ∙ some)
  where
    least : (n : ℕ) → n ≤ 0 → n ≡ 0
    least n l = omega (arith, l)
comes at low (suc high) row l none some = by (cases_lt high low) (at high) refl (λ (x : Record) (a : low ≤ high) (e : at high ≡ Some x). comes at low high x a none e)
  where
    equal : (n k : ℕ) → n ≤ suc k → k < n → n ≡ suc k
    equal n k a b = omega (arith, a, b)

    less : (n : ℕ) → n < suc n
    less n = omega arith

    wider : (n k : ℕ) → n < k → n < suc k
    wider n k a = omega arith

    by : (high < low) ⊎ (low ≤ high) → (o : Option Record) → at high ≡ o → ((x : Record) → low ≤ high → at high ≡ Some x → Comes at low high) → Comes at low (suc high)
    by (inl a) o e rest = none_some row (sym none ∙ ap at (equal low high l a) ∙ some)
    by (inr a) None e rest = record { p = high; row = row; after = a; before = less high; none = e; some = some }
    by (inr a) (Some x) e rest = let c = rest x a e in record { p = c.p; row = c.row; after = c.after; before = wider c.p high c.before; none = c.none; some = c.some }

---- what a statement found

module _ (catalog : List Table) (places : List Place) (events : List Event) (opening closing : List StoreContents) (moments : List (List StoreContents)) (client : ℕ) (s : Executed) (key : Key) (trace : IsTrace places events opening moments closing) (table : IsTableKey catalog key) where
  abbrev now : ℕ → List StoreContents
  now = moment opening moments

  abbrev calls : List StoreCall
  calls = calls_of events client s

  -- a call of the statement: where it is among the events
  within : (m : StoreCall) → Contains calls m → IsWithin events client s m
  within m has = within_statement events client s m has

  at_of : (m : StoreCall) → Contains calls m → IsAt places opening moments 1 m
  at_of m has = call_at places events opening closing moments client m trace (within m has).among

  module _ (none : find_table catalog coordinator_table ≡ None) (x : ContentsExplained catalog places events opening moments) (row : Option (List Pair)) (w : WasFound calls key row) where
    read : IsRead w.call.request w.call.reply key w.found
    read = read_of w.call.request w.call.reply key w.found w.shows

    p : IsAt places opening moments 1 w.call
    p = at_of w.call w.among

    abbrev n : ℕ
    n = p.n

    stood : stored_at places (now n) key ≡ w.found
    stood = read.stood places (now n) (now (suc n)) p.did

    low : n ≤ length moments
    low = least n (length moments) p.within
      where
        least : (a b : ℕ) → suc a ≤ b → a ≤ b
        least a b l = omega arith

    accepted : s.accepted ≤ n
    accepted = least s.accepted w.call.at n p.number (within w.call w.among).after
      where
        least : (a b c : ℕ) → b ≡ 1 + c → a < b → a ≤ c
        least a b c e l = omega (arith, e, l)

    before_end : n < end_of events s
    before_end = least w.call.at n (end_of events s) p.number (within w.call w.among).until
      where
        least : (a b c : ℕ) → a ≡ 1 + b → a ≤ c → b < c
        least a b c e l = omega (arith, e, l)

    -- it was shown the image of a moment
    committed_at : (at : ℕ) → s.accepted ≤ at → at < end_of events s → (o : Option Record) → w.found ≡ o → stored_at places (now at) key ≡ o → option_and_then (λ (r : Record). image_of r (decision_on places (now at) r)) o ≡ option_and_then (meaning_of calls) o → WasCommitted places events opening moments client s key row
    committed_at at a b o is agreed same = record {
      call = w.call;
      at = at;
      read = (w.among, read.reads);
      within = (a, b);
      image =
          ap (λ (y : Option Record). option_and_then row_of_image (option_and_then (λ (r : Record). image_of r (decision_on places (now at) r)) y)) agreed
          ∙ ap (option_and_then row_of_image) same
          ∙ ap (λ (y : Option Record). option_and_then row_of_image (option_and_then (meaning_of calls) y)) (sym is)
          ∙ sym w.agrees;
    }

    module _ (r : Record) (is : w.found ≡ Some r) (open_still : is_in state.Committed r.columns ≡ false) (d : IsDecidedIn events client s r) where
      fits : d.id.0 < 2 ^ 128
      fits = id_in_value-fits (column r.columns tx_id) d.id d.writer

      abbrev row_of : ℕ → Option Record
      row_of at = stored_at places (now at) (coordinator_key_of d.id)

      q : IsAt places opening moments 1 d.look
      q = at_of d.look d.among

      observed : Stands (row_of (suc q.n)) d.decided
      observed = shown_stands places opening moments 1 d.id d.look d.decided q d.observed

      -- the decision by which the statement rolled it
      meant : IsMeantBy calls r
      meant = subst (λ (o : Option Record). IfSome o (λ x. is_in state.Committed x.columns ≡ false → IsMeantBy calls x)) is w.meant open_still

      -- is what the look showed
      agrees : meant.decided ≡ d.decided
      agrees =
          let same : meant.id ≡ d.id = some_is meant.id d.id (sym meant.writer ∙ d.writer) in
          decisions_agree places events opening closing moments trace x.rows_final client client d.id meant.look d.look meant.decided d.decided fits (within meant.look meant.looks.0).among (within d.look d.among).among (subst (λ (id : TxId). decision_observed id meant.look ≡ Some meant.decided) same meant.looks.1) d.observed

      -- so this makes what the record means
      means : meaning_of calls r ≡ image_of r (Some d.decided)
      means = meant.means ∙ ap (λ (x : Decided). image_under r (Some x)) agrees ∙ sym (image-open r (Some d.decided) open_still)

      -- and where there is a row, it is that of the stores
      decided_at : (at : ℕ) (y : Record) → at ≤ length moments → row_of at ≡ Some y → decision_at places (now at) d.id ≡ Some d.decided
      decided_at at y l agreed =
          ap (option_and_then (λ (z : Record). result_ok (decision_in z))) agreed
          ∙ ap (λ (z : Record). result_ok (decision_in z)) (same_row places opening moments x.rows_final d.id at (suc q.n) y observed.row fits l q.within agreed observed.agrees)
          ∙ observed.decided

      image_there : (at : ℕ) (y : Record) → at ≤ length moments → row_of at ≡ Some y → image_of r (decision_on places (now at) r) ≡ meaning_of calls r
      image_there at y l agreed = image_told (decision_at places (now at)) r d.id d.decided d.writer (decided_at at y l agreed) ∙ sym means

      here : stored_at places (now n) key ≡ Some r
      here = stood ∙ is

      own : r.key ≡ key
      own = standing_key places (now n) key r here

      -- the row comes at a moment between, at which the record is still there
      module _ (c : Comes row_of n (suc q.n)) where
        past : suc c.p ≤ length moments
        past = most c.p q.n (length moments) c.before q.within
          where
            most : (a b l : ℕ) → a < suc b → suc b ≤ l → suc a ≤ l
            most a b l i j = omega (arith, i, j)

        still : stored_at places (now c.p) key ≡ Some r
        still =
            let u = x.unresolved_prepared n low key r table here open_still in
            let same : u.0 ≡ d.id = some_is u.0 d.id (sym u.2 ∙ d.writer) in
            ap (stored_at places (now c.p)) (sym own)
            ∙ x.prepared_stay c.p (most c.p (length moments) past) d.id r u.1 fits (subst (IsTableKey catalog) (sym own) table) (more (length u.1) n c.p u.3 c.after) (subst (λ (id : TxId). IsPreparedAfter places events opening moments id r u.1) same u.4) c.none
          where
            most : (a l : ℕ) → suc a ≤ l → a ≤ l
            most a l i = omega arith

            more : (a b l : ℕ) → a < b → b ≤ l → a < l
            more a b l i j = omega (arith, i, j)

        apart : (coordinator_key_of d.id).table ≢ key.table
        apart same = clash (sym ((apart_from catalog none).outside key table) ∙ ap (λ (t : TableName). not (is_coordinator_table t)) (sym same) ∙ row_is_no_data d.id.0)

        put_there : stored_at places (now (suc c.p)) key ≡ Some r
        put_there =
            let e = effect_at places events opening moments closing c.p trace past in
            put_leaves places e.0 (now c.p) (now (suc c.p)) (coordinator_key_of d.id) key e.1 (puts (stood_or_put places e.0 (now c.p) (now (suc c.p)) (coordinator_key_of d.id) c.row e.1 c.some)) apart ∙ still
          where
            puts : {A : Type 0} → (row_of c.p ≡ Some c.row) ⊎ A → A
            puts (inl h) = none_some c.row (sym c.none ∙ h)
            puts (inr h) = h

        between : WasCommitted places events opening moments client s key row
        between =
            committed_at (suc c.p) (low_end s.accepted n c.p accepted c.after) (high_end c.p q.n d.look.at (end_of events s) c.before q.number d.early) (Some r) is put_there (image_there (suc c.p) c.row past c.some)
          where
            low_end : (a b l : ℕ) → a ≤ b → b ≤ l → a ≤ suc l
            low_end a b l i j = omega (arith, i, j)

            high_end : (a b m e : ℕ) → a < suc b → m ≡ 1 + b → m < e → suc a < e
            high_end a b m e i j k = omega (arith, i, j, k)

      open_committed : WasCommitted places events opening moments client s key row
      open_committed = by (row_of n) refl
        where
          by : (o : Option Record) → row_of n ≡ o → WasCommitted places events opening moments client s key row
          by (Some y) agreed = committed_at n accepted before_end (Some r) is here (image_there n y low agreed)
          by None none = later (cases_lt n (suc q.n))
            where
              below : (a b : ℕ) → a < b → a ≤ b
              below a b l = omega arith

              later : (n < suc q.n) ⊎ (suc q.n ≤ n) → WasCommitted places events opening moments client s key row
              later (inl l) = between (comes row_of n (suc q.n) observed.row (below n (suc q.n) l) none observed.agrees)
              later (inr l) = none_some observed.row (sym none ∙ x.rows_final (suc q.n) n l low d.id observed.row fits observed.agrees)

    pub found_committed : FoundDecided events client s key → WasCommitted places events opening moments client s key row
    found_committed decided = by w.found refl
      where
        by : (o : Option Record) → w.found ≡ o → WasCommitted places events opening moments client s key row
        by None is = committed_at n accepted before_end None is (stood ∙ is) refl
        by (Some r) is = by_test (is_in state.Committed r.columns)
            (λ firm. committed_at n accepted before_end (Some r) is (stood ∙ is) (image-settled r (decision_on places (now n) r) firm ∙ sym (meaning_settled calls r firm)))
            (λ loose. open_committed r is loose (decided w.call r w.among (subst (Observes w.call.request w.call.reply key) is w.shows) loose))

  ---- what was rolled

  module _ (none : find_table catalog coordinator_table ≡ None) (all : AreTransactional catalog places opening moments) (rolled : AreResolved events) (reader : IsReader events client s) where
    data_read : (m : StoreCall) → is_read m.request ≡ true → table_asked m.request ≡ key.table → reads_rows m ≡ true
    data_read m is same = ap (λ (b : Bool). if b then false else is_read m.request) (ap is_coordinator_table same ∙ not_true (is_coordinator_table key.table) ((apart_from catalog none).outside key table)) ∙ is

    pub resolved_decided : FoundDecided events client s key
    resolved_decided m r has shows loose = by (rolled client s m r reader.among reader.finished has (data_read m read.is read.table) (read.observed r refl) (and_both (is_transactional r) (not (is_in state.Committed r.columns)) accepted (ap not loose)))
      where
        read : IsRead m.request m.reply key (Some r)
        read = read_of m.request m.reply key (Some r) shows

        p : IsAt places opening moments 1 m
        p = at_of m has

        accepted : is_transactional r ≡ true
        accepted = all p.n key r (least p.n (length moments) p.within) table (read.stood places (now p.n) (now (suc p.n)) p.did)
          where
            least : (a b : ℕ) → suc a ≤ b → a ≤ b
            least a b l = omega arith

        by : IsResolved calls m r ⊎ IsPassedOver events s calls m r → IsDecidedIn events client s r
        by (inl h) =
            let look = later_call m.at calls h.look h.looks.0 in
            let roll = later_call h.look.at calls h.roll h.rolls.0 in
            record { id = h.id; decided = h.decided; look = h.look; writer = h.writer.0; among = look.0; observed = h.looks.1; early = earlier h.look.at h.roll.at (end_of events s) roll.1 (within h.roll roll.0).until }
          where
            earlier : (a b c : ℕ) → a < b → b ≤ c → a < c
            earlier a b c i j = omega (arith, i, j)
        by (inr o) = clash (sym o.2 ∙ reader.no_vacuum)

---- what answers show

-- rows that a transaction has, however its reads were shown rows
has_row_as : (catalog : List Table) (was now : Executed → Key → Option (List Pair) → Type 0) (id : TxId) (events : List Event) → ((s : Executed) (key : Key) (row : Option (List Pair)) → was s key row → now s key row)
    → (s : Executed) (key : Key) (row : Option (List Pair)) → HasRow catalog was events id s key row → HasRow catalog now events id s key row
has_row_as catalog was now id events f s key row h = record {
  first = h.first;
  earlier = h.earlier;
  changing = h.changing;
  later = h.later;
  sts = h.sts;
  base = h.base;
  parts = h.parts;
  begins = h.begins;
  finished = h.finished;
  observed = f h.first key h.base h.observed;
  read = h.read;
  made = h.made;
}

pub answers_as : (catalog : List Table) (was now : ℕ → Executed → Key → Option (List Pair) → Type 0) (events : List Event) → ((client : ℕ) (s : Executed) (key : Key) (row : Option (List Pair)) → was client s key row → now client s key row) → AnswersHaveRows catalog was events → AnswersHaveRows catalog now events
answers_as catalog was now events f h id s a has is = by a (h id s a has is)
  where
    by : (a : Answer) → AnswersAreOf catalog (was (client_of id)) events id s a → AnswersAreOf catalog (now (client_of id)) events id s a
    by (answer.Rows rows) (t, select, images, reads, found, same, all) = (
      t,
      select,
      images,
      reads,
      found,
      same,
      all_each (λ image. HasRow catalog (was (client_of id)) events id s image.key (Some image.columns)) (λ image. HasRow catalog (now (client_of id)) events id s image.key (Some image.columns)) images
          (λ (image : Image). has_row_as catalog (was (client_of id)) (now (client_of id)) id events (f (client_of id)) s image.key (Some image.columns)) all,
    )
    by (answer.Duplicate key) (columns, row) = (columns, has_row_as catalog (was (client_of id)) (now (client_of id)) id events (f (client_of id)) s key (Some columns) row)
    by a k = tt

pub answers_committed : (t : Traced) → IsApart t → IsExplainedTrace t → HasTransactional t → AreResolved t.events → AnswersAsRead t → HasNoDirtyReads t
answers_committed t none x all rolled answers = answers_as t.catalog (ReadBy t.catalog t.events) (CommittedBy t.places t.events t.opening t.moments) t.events committed answers
  where
    committed : (client : ℕ) (s : Executed) (key : Key) (row : Option (List Pair)) → ReadBy t.catalog t.events client s key row → CommittedBy t.places t.events t.opening t.moments client s key row
    committed client s key row (reader, table, w) =
        found_committed t.catalog t.places t.events t.opening t.closing t.moments client s key t.trace table none x row w (resolved_decided t.catalog t.places t.events t.opening t.closing t.moments client s key t.trace table none all rolled reader)
