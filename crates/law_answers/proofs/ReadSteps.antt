-- Each call of a read keeps what the calls say of where it is.
use Rattle.std.proofs.Common.{◌≡◌, ◌<◌, ℕ, ℤ, Bool, true, false, not, List, [], ◌∷◌, ◌++◌, Some, None, Result, Ok, Err, inr, refl, sym, ap, subst, ◌∙◌, arith}
use Rattle.std.specs.Prelude.{if◌then◌else◌, ◌&&◌, MatchBool, is_ok, codes, Contains}
use Rattle.std.specs.List.{AllByRecursion, list_all}
use Rattle.std.specs.Ordering.{is_eq}
use Rattle.std.proofs.lemmas.Bool.{and_parts}
use Rattle.std.proofs.lemmas.List.Elements.{All-contains_itself, Contains-append_left, Contains-push, recursion_from_All}
use Rattle.law_answers.specs.Types.{Access, Event, Key, Meta, Record, RecoverPhase, RecoverStep, Reply, Request, Span, TableName, TxId}
use Rattle.sdb_types.specs.declared.record.Reply.TheVariants as reply
use Rattle.sdb_types.specs.declared.record.State.TheVariants as state
use Rattle.sdb_types.specs.Contents.{CanAnswer, are_rows_of, in_span, rise}
use Rattle.sdb_types.specs.Exact.{equal_of}
use Rattle.sdb_types.specs.Order.{table_cmp}
use Rattle.sdb_types.proofs.Public.{by_test, clash, not_true, some_is, table_exact}
use Rattle.sdb_record.specs.declared.access.Access.TheVariants as access
use Rattle.sdb_record.specs.declared.coordinator.Decision.TheVariants as decision
use Rattle.sdb_record.specs.Coordinator.{coordinator_key_of, decision_in, is_coordinator_table, is_expired}
use Rattle.sdb_record.specs.Meta.{checked, is_in, is_transactional, is_unresolved, moment_in}
use Rattle.sdb_record.proofs.Public.{accepted, row-key}
use Rattle.sdb_model.specs.Calls.{StoreCall, calls_of, clock_at, is_read, records_read, records_observed}
use Rattle.sdb_model.specs.Causes.{HasReply, IsBusy}
use Rattle.sdb_model.specs.Events.{table_asked}
use Rattle.sdb_model.specs.ReadSet.{reads_rows}
use Rattle.sdb_model.specs.Transactions.{Executed}
use Rattle.sdb_phases.specs.declared.step.RecoverPhase.TheVariants as phase
use Rattle.sdb_phases.specs.declared.step.RecoverStep.TheVariants as steps
use Rattle.sdb_phases.specs.Recover.{recover_next, recover_request_at, row_followed, undecided}
use Rattle.sdb_phases.proofs.Public.{by_expiry, by_row, by_rows_recover_rows as by_rows}
use Rattle.sdb_phases.specs.Work.{abort_of, look_of}
use Rattle.sdb_txn.specs.Read.{Asking, Bad, Ended, Firm, Kind, Open, ReadStage, Resolving, answered, kind_of, opened, read_pending_at, read_step, request_of, resolved, settle, settle_one}
use Rattle.law_clients.proofs.Public.{access_table, final_moment, meta_of}
use Rattle.law_answers.specs.Commits.{IsBadRow, ObservesBad}
use Rattle.law_answers.specs.Reads.{IsBusyBy, IsFoundBy, IsPhaseBy, LedBy, NextCall, ReadsBy, ResolvesBy}
use Rattle.law_answers.proofs.Rows.{after_last, reply_now, reply_stays, shows_bad_row}
use Rattle.sdb_types.specs.Replies.{is_fault}

-- a table holds records of transactions
abbrev pub IsDataTable : TableName → Type 0
IsDataTable t = not (is_coordinator_table t) ≡ true

---- what a record is

-- a record that is no record of a transaction
pub bad_is : (r : Record) → kind_of r ≡ Bad → is_transactional r ≡ false
bad_is r e = by_test (is_transactional r) (λ t. absurd (taken_kind t)) (λ f. f)
  where
    by_ok : (o : Result Meta (List ℕ)) → is_ok o ≡ true → opened o ≡ Bad → ⊥
    by_ok (Ok m) t k = absurd (cc)
    by_ok (Err name) t k = absurd (cc)

    by_state : (b : Bool) → is_ok (checked r.columns) ≡ true → (if b then Firm else opened (checked r.columns)) ≡ Bad → ⊥
    by_state true t k = absurd (cc)
    by_state false t k = by_ok (checked r.columns) t k

    taken_kind : is_transactional r ≡ true → ⊥
    taken_kind t = by_state (is_in state.Committed r.columns) (and_parts _ (is_ok (checked r.columns)) t).1 (sym (ap (λ b. if b then (if is_in state.Committed r.columns then Firm else opened (checked r.columns)) else Bad) t) ∙ e)

-- an unresolved one, with its metadata
pub open_is : (r : Record) (meta : Meta) → kind_of r ≡ Open meta → (is_unresolved r ≡ true) × (checked r.columns ≡ Ok meta)
open_is r meta e = by (is_transactional r) (is_in state.Committed r.columns) (checked r.columns) refl refl refl e
  where
    by : (t s : Bool) (o : Result Meta (List ℕ)) → is_transactional r ≡ t → is_in state.Committed r.columns ≡ s → checked r.columns ≡ o → (if t then (if s then Firm else opened o) else Bad) ≡ Open meta → (is_unresolved r ≡ true) × (checked r.columns ≡ Ok meta)
    by false s o a b c h = absurd (cc)
    by true true o a b c h = absurd (cc)
    by true false (Err name) a b c h = absurd (cc)
    by true false (Ok m) a b c h = (ap (λ x. x && not (is_in state.Committed r.columns)) a ∙ ap not b, c ∙ ap Ok (let same : m ≡ meta = cc in same))

pub prepared_moment : (r : Record) (m : Meta) → checked r.columns ≡ Ok m → moment_in r.columns (codes "tx_prepared_at") ≡ Some m.prepared_at
prepared_moment r m says = let t = accepted r.columns m says in t.1.says.prepared_at ∙ ap Some (final_moment r.columns t.0 m t.2)

pub observed_read : (r : Reply) (x : Record) → Contains (records_read r) x → Contains (records_observed r) x
observed_read (reply.Found None) x h = h
observed_read (reply.Found (Some y)) x h = h
observed_read (reply.Rows rows) x h = h
observed_read (reply.NotAll place None) x h = h
observed_read (reply.NotAll place (Some y)) x h = absurd (none h)
  where
    none : Contains {X = Record} [] x → ⊥
    none k = absurd (omega (arith, k.1))
observed_read reply.Applied x h = h
observed_read (reply.NotMet None) x h = h
observed_read (reply.NotMet (Some y)) x h = absurd (none h)
  where
    none : Contains {X = Record} [] x → ⊥
    none k = absurd (omega (arith, k.1))
observed_read reply.Fault x h = h
observed_read reply.NoMemory x h = h

pub rows_data : (span : Span) (rows : List Record) → IsDataTable span.table → are_rows_of span rows ≡ true → AllByRecursion (λ r. IsDataTable r.key.table) rows
rows_data span rows is h = each rows (and_parts (rise rows) (list_all (λ (r : Record). in_span span r.key) rows) h).1
  where
    one : (r : Record) → in_span span r.key ≡ true → IsDataTable r.key.table
    one r e = subst IsDataTable (table_exact span.table r.key.table (equal_of _ (and_parts (is_eq (table_cmp span.table r.key.table)) _ e).0)) is

    each : (rs : List Record) → list_all (λ (r : Record). in_span span r.key) rs ≡ true → AllByRecursion (λ r. IsDataTable r.key.table) rs
    each [] e = tt
    each (r ∷ rs) e = let k = and_parts (in_span span r.key) (list_all (λ (x : Record). in_span span x.key) rs) e in (one r k.0, each rs k.1)

read_asked : (a : Access) → is_read (request_of a) ≡ true
read_asked (access.Get key) = refl
read_asked (access.Scan span) = refl

data_asked : (a : Access) → IsDataTable (access_table a) → is_coordinator_table (table_asked (request_of a)) ≡ false
data_asked (access.Get key) k = not_true (is_coordinator_table key.table) k
data_asked (access.Scan span) k = not_true (is_coordinator_table span.table) k

-- a read of a table reads rows
pub rows_read : (m : StoreCall) → is_read m.request ≡ true → is_coordinator_table (table_asked m.request) ≡ false → reads_rows m ≡ true
rows_read m reads own = ap (λ b. if b then false else is_read m.request) own ∙ reads

---- one call more

module _ (events : List Event) (calls : List StoreCall) (m : StoreCall) (older : AllByRecursion (λ x. x.at < m.at) calls) (now : ℤ) (clock : clock_at events m.at ≡ now) where
  abbrev pub more : List StoreCall
  more = calls ++ m ∷ []

  -- rows that were found are settled
  settled_is : (images left : List Record) → IsFoundBy more left → AllByRecursion (λ r. IsDataTable r.key.table) left → LedBy events more (settle images left)
  settled_is images [] f k = tt
  settled_is images (r ∷ left) f k = by (kind_of r) refl (settled_is (images ++ r ∷ []) left (record { read = f.read; among = f.among; reads = f.reads; of_data = f.of_data; found = f.found.1 }) k.1)
    where
      bad : is_transactional r ≡ false → IsBadRow r
      bad e = by_table (is_coordinator_table r.key.table) k.0
        where
          by_table : (b : Bool) → not b ≡ true → MatchBool b ((name : List ℕ) × (decision_in r ≡ Err name)) (is_transactional r ≡ false)
          by_table true n = clash (sym n)
          by_table false n = e

      by : (x : Kind) → kind_of r ≡ x → LedBy events more (settle (images ++ r ∷ []) left) → LedBy events more (settle_one x images r left (settle (images ++ r ∷ []) left))
      by Firm e rest = rest
      by (Open meta) e rest = record { found = f; is_open = e; phase = tt }
      by Bad e rest = record { call = f.read; found = r; among = f.among; observed = observed_read f.read.reply r f.found.0; same = refl; bad = bad (bad_is r e); place = inr (rows_read f.read f.reads f.of_data, f.found.0) }

  ---- the rows

  pub found_rows : (a : Access) (r : Reply) → IsDataTable (access_table a) → m.request ≡ request_of a → m.reply ≡ r → IsFoundBy more (records_read r)
  found_rows a r k e f = record {
    read = m;
    among = Contains-push calls m;
    reads = ap is_read e ∙ read_asked a;
    of_data = ap (λ q. is_coordinator_table (table_asked q)) e ∙ data_asked a k;
    found = subst (λ x. AllByRecursion (Contains (records_read x)) (records_read r)) (sym f) (recursion_from_All (Contains (records_read r)) (records_read r) (All-contains_itself (records_read r)));
  }

  answered_is : (a : Access) (r : Reply) → IsDataTable (access_table a) → m.request ≡ request_of a → m.reply ≡ r → CanAnswer (request_of a) r → LedBy events more (answered r)
  answered_is (access.Get key) (reply.Found None) k e f can = tt
  answered_is (access.Get key) (reply.Found (Some row)) k e f can = settled_is [] (row ∷ []) (found_rows (access.Get key) (reply.Found (Some row)) k e f) (subst (λ (x : Key). IsDataTable x.table) (sym can) k, tt)
  answered_is (access.Get key) (reply.Rows rows) k e f can = absurd can
  answered_is (access.Get key) reply.Applied k e f can = absurd can
  answered_is (access.Get key) (reply.NotMet found) k e f can = absurd can
  answered_is (access.Get key) (reply.NotAll place there) k e f can = absurd can
  answered_is (access.Get key) reply.Fault k e f can = reply_now is_fault calls m reply.Fault f refl
  answered_is (access.Get key) reply.NoMemory k e f can = tt
  answered_is (access.Scan span) (reply.Found found) k e f can = absurd can
  answered_is (access.Scan span) (reply.Rows rows) k e f can = settled_is [] rows (found_rows (access.Scan span) (reply.Rows rows) k e f) (rows_data span rows k can)
  answered_is (access.Scan span) reply.Applied k e f can = absurd can
  answered_is (access.Scan span) (reply.NotMet found) k e f can = absurd can
  answered_is (access.Scan span) (reply.NotAll place there) k e f can = absurd can
  answered_is (access.Scan span) reply.Fault k e f can = reply_now is_fault calls m reply.Fault f refl
  answered_is (access.Scan span) reply.NoMemory k e f can = tt

  ---- the recovery of a record

  module _ (rec : Record) (meta : Meta) (left : List Record) (p : RecoverPhase) (before : ResolvesBy calls rec meta p left) where
    pub found_more : IsFoundBy more (rec ∷ left)
    found_more = record { read = before.found.read; among = Contains-append_left calls (m ∷ []) before.found.read before.found.among; reads = before.found.reads; of_data = before.found.of_data; found = before.found.found }

    -- what a recovery comes to
    abbrev pub ComesTo : RecoverPhase × RecoverStep → Type 0
    ComesTo (q, steps.More) = IsPhaseBy more q
    ComesTo (q, steps.Image o) = Unit {0}
    ComesTo (q, steps.Busy id at) = IsBusyBy events more rec.key id at
    ComesTo (q, steps.Faulted) = HasReply is_fault more
    ComesTo (q, steps.BadRecord key) = ObservesBad more key
    ComesTo (q, steps.NoMemory) = Unit {0}

    busy_is : m.request ≡ look_of meta.id → m.reply ≡ reply.Found None → is_expired meta.prepared_at now ≡ false → IsBusyBy events more rec.key meta.id meta.prepared_at
    busy_is e f early =
        let k = open_is rec meta before.is_open in record {
          read = before.found.read;
          found = rec;
          reads = (Contains-append_left calls (m ∷ []) before.found.read before.found.among, before.found.reads, before.found.found.0, refl);
          early = record {
            asked = m;
            unresolved = (k.0, (meta_of rec meta k.0 k.1).writer, prepared_moment rec meta k.1);
            asks = (after_last meta.id calls m older before.found.read before.found.among, e, f);
            early = ap (is_expired meta.prepared_at) clock ∙ early;
          };
        }

    undecided_is : m.request ≡ look_of meta.id → m.reply ≡ reply.Found None → ComesTo (undecided meta now)
    undecided_is e f = by_expiry meta now ComesTo (λ is. tt) (λ is. busy_is e f is)

    rolled_is : (row : Record) → row.key ≡ coordinator_key_of meta.id → records_observed m.reply ≡ row ∷ [] → ComesTo (row_followed meta row)
    rolled_is row same observed = by_row meta row ComesTo (λ d says is. tt) (λ d says is. tt) (λ name says. shows_bad_row meta.id calls m row name observed same says)

    can_at : (q : Request) (r : Reply) → m.request ≡ q → m.reply ≡ r → CanAnswer m.request m.reply → CanAnswer q r
    can_at q r e f can = subst (λ (x : Request). CanAnswer x r) e (subst (CanAnswer m.request) f can)

    asked_at : (q : Request) → Some q ≡ Some m.request → m.request ≡ q
    asked_at q e = sym (some_is q m.request e)

    faulted_now : m.reply ≡ reply.Fault → HasReply is_fault more
    faulted_now f = reply_now is_fault calls m reply.Fault f refl

  pub recovered_is : (rec : Record) (meta : Meta) (left : List Record) (p : RecoverPhase) (before : ResolvesBy calls rec meta p left) (r : Reply) → recover_request_at rec meta p ≡ Some m.request → m.reply ≡ r → CanAnswer m.request m.reply → ComesTo rec meta left p before (recover_next rec meta p now r)
  recovered_is rec meta left p before r e f can =
      by_rows rec meta now (λ p r n. (b : ResolvesBy calls rec meta p left) → recover_request_at rec meta p ≡ Some m.request → m.reply ≡ r → ComesTo rec meta left p b n)
      (record {
        look_row = λ row b e f. rolled_is rec meta left phase.Look b row (can_at rec meta left phase.Look b (look_of meta.id) (reply.Found (Some row)) (asked_at rec meta left phase.Look b (look_of meta.id) e) f can) (ap records_observed f);
        look_none = λ b e f. undecided_is rec meta left phase.Look b (asked_at rec meta left phase.Look b (look_of meta.id) e) f;
        abort_applied = λ n b e f. tt;
        abort_row = λ n row b e f.
            rolled_is rec meta left (phase.Abort n) b row
            ((can_at rec meta left (phase.Abort n) b (abort_of meta.id n) (reply.NotMet (Some row)) (asked_at rec meta left (phase.Abort n) b (abort_of meta.id n) e) f can).0 ∙ row-key meta.id decision.Aborted n) (ap records_observed f);
        abort_fault = λ n b e f. faulted_now rec meta left (phase.Abort n) b f;
        again_row = λ row b e f. rolled_is rec meta left phase.Again b row (can_at rec meta left phase.Again b (look_of meta.id) (reply.Found (Some row)) (asked_at rec meta left phase.Again b (look_of meta.id) e) f can) (ap records_observed f);
        again_none = λ b e f. reply_stays is_fault calls m b.phase;
        forward = λ at r is b e f. tt;
        back = λ r is b e f. tt;
        fault = λ p b e f. faulted_now rec meta left p b f;
        no_memory = λ p r b e f. tt;
      }) p r before e f

  resolved_is : (images : List Record) (rec : Record) (meta : Meta) (left : List Record) (p : RecoverPhase) (before : ResolvesBy calls rec meta p left) (n : RecoverPhase × RecoverStep) → AllByRecursion (λ r. IsDataTable r.key.table) left → ComesTo rec meta left p before n → LedBy events more (resolved images rec meta left n)
  resolved_is images rec meta left p before (q, steps.More) k h = record { found = found_more rec meta left p before; is_open = before.is_open; phase = h }
  resolved_is images rec meta left p before (q, steps.Image None) k h = let f = found_more rec meta left p before in settled_is images left (record { read = f.read; among = f.among; reads = f.reads; of_data = f.of_data; found = f.found.1 }) k
  resolved_is images rec meta left p before (q, steps.Image (Some b)) k h = let f = found_more rec meta left p before in settled_is (images ++ b ∷ []) left (record { read = f.read; among = f.among; reads = f.reads; of_data = f.of_data; found = f.found.1 }) k
  resolved_is images rec meta left p before (q, steps.Busy id at) k h = h
  resolved_is images rec meta left p before (q, steps.Faulted) k h = h
  resolved_is images rec meta left p before (q, steps.BadRecord key) k h = h
  resolved_is images rec meta left p before (q, steps.NoMemory) k h = tt

  -- the records that are left are of tables
  abbrev pub LeavesData : ReadStage → Type 0
  LeavesData (Resolving images rec meta p left) = AllByRecursion (λ r. IsDataTable r.key.table) left
  LeavesData s = Unit {0}

  stage_led : (a : Access) (s : ReadStage) → IsDataTable (access_table a) → LeavesData s → ReadsBy calls s → read_pending_at (request_of a) s ≡ Some m.request → CanAnswer m.request m.reply → LedBy events more (read_step s now m.reply)
  stage_led a Asking k l h e can = let same : m.request ≡ request_of a = sym (some_is (request_of a) m.request e) in answered_is a m.reply k same refl (subst (λ (x : Request). CanAnswer x m.reply) same can)
  stage_led a (Resolving images rec meta p left) k l h e can = resolved_is images rec meta left p h (recover_next rec meta p now m.reply) l (recovered_is rec meta left p h m.reply e refl can)
  stage_led a (Ended s) k l h e can = absurd h

pub reads_on : (n : NextCall) (a : Access) (s : ReadStage) → IsDataTable (access_table a) → LeavesData n.events n.calls n.call n.later n.now n.clock s → ReadsBy n.calls s → read_pending_at (request_of a) s ≡ Some n.call.request → CanAnswer n.call.request n.call.reply
    → LedBy n.events (n.calls ++ n.call ∷ []) (read_step s n.now n.call.reply)
reads_on n = stage_led n.events n.calls n.call n.later n.now n.clock

-- a read that ends so has its cause
pub busy_caused : (events : List Event) (c : ℕ) (s : Executed) (key : Key) (id : TxId) (at : ℤ) → IsBusyBy events (calls_of events c s) key id at → IsBusy events c s key id at
busy_caused events c s key id at b = record { read = b.read; found = b.found; reads = b.reads; early = b.early }
