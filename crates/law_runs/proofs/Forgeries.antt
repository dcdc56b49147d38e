-- Events that no execution has are refused by what the laws say.
use Rattle.std.proofs.Common.{◌≡◌, ◌⊎◌, inl, inr, ◌<◌, ◌^◌, ℕ, ℤ, pos, true, List, [], ◌∷◌, Option, Some, None, refl, sym, ap, subst, ◌∙◌}
use Rattle.std.specs.Prelude.{Contains, nat_lt}
use Rattle.std.proofs.lemmas.List.Elements.{Contains-push, Contains-push_cases}
use Rattle.law_runs.specs.Types.{Answer, Decision, Key, Request, Span, Table, TxId, Write}
use Rattle.sdb_types.specs.declared.record.Put.{Put}
use Rattle.sdb_types.specs.declared.record.Condition.TheVariants as condition
use Rattle.sdb_types.specs.declared.record.Reply.TheVariants as reply
use Rattle.sdb_types.specs.declared.record.Request.TheVariants as ask
use Rattle.sdb_types.proofs.Public.{clash, some_is}
use Rattle.sdb_record.specs.declared.coordinator.Decision.TheVariants as decision
use Rattle.sdb_record.specs.Coordinator.{coordinator_key_of, coordinator_row_of}
use Rattle.sdb_record.specs.Meta.{is_moment}
use Rattle.sdb_record.specs.Rolls.{prepared_record}
use Rattle.sdb_model.specs.declared.answer.Answer.TheVariants as answer
use Rattle.sdb_model.specs.declared.event.How.TheVariants.{Seen}
use Rattle.sdb_model.specs.Calls.{StoreCall}
use Rattle.sdb_model.specs.Sql.{reads_begin, reads_commit, reads_vacuum}
use Rattle.sdb_model.specs.Transactions.{Executed, client_of}
use Rattle.law_answers.proofs.Public.{kept_in, prepared_is}
use Rattle.law_runs.specs.Complete.{ResolvedAreNotBusy}
use Rattle.law_runs.specs.Forged.{busy_at_once, counted_at_once, decides_at_once, decides_beside, prepares_at, reads_and_is_done}
use Rattle.law_runs.specs.Laws.{BusyIsOfReads, DecisionsAreDue, GivesUp, IsOwnDecision, PreparesAreOwn, ReadsAreFew, row_put}
use Rattle.law_runs.specs.Vacuums.{VacuumsAreComplete, spans_asked, whole_tables}
use Rattle.law_runs.proofs.Calls.{the_first}
use Rattle.law_runs.proofs.RowWrites.{row_key}
use Rattle.law_runs.proofs.Statements.{none_in}
use Rattle.law_runs.proofs.Unprepared.{moment_of}

-- the one statement, with its answer or none
abbrev said_once : List ℕ → Option Answer → ℕ → Executed
said_once text a n = record { accepted = 1; text = text; answer = a; reached = n }

only : {X : Type 0} (x y : X) → Contains (x ∷ []) y → x ≡ y
only x y has = by (Contains-push_cases [] x y has)
  where
    by : Contains [] y ⊎ (x ≡ y) → x ≡ y
    by (inl k) = none_in y k
    by (inr e) = e

one_has : {X : Type 0} (x : X) → Contains (x ∷ []) x
one_has x = Contains-push [] x

pub busy_refused : (text : List ℕ) (key : Key) (id : TxId) (at : ℤ) → reads_commit text ≡ true → BusyIsOfReads (busy_at_once text key id at) → ⊥
busy_refused text key id at commit law = clash (sym commit ∙ (law 1 (said_once text (Some (answer.Busy key id at)) 1) key id at (one_has (said_once text (Some (answer.Busy key id at)) 1)) refl).0)

pub idle_busy_refused : (text : List ℕ) (key : Key) (id : TxId) (at : ℤ) → ResolvedAreNotBusy (busy_at_once text key id at) → ⊥
idle_busy_refused text key id at law = law 1 (said_once text (Some (answer.Busy key id at)) 1) key id at (one_has (said_once text (Some (answer.Busy key id at)) 1)) (λ m r has observed is. none_in m has) refl

pub lazy_refused : (t : Table) (text : List ℕ) → reads_vacuum text ≡ true → VacuumsAreComplete (t ∷ []) (counted_at_once text) → ⊥
lazy_refused t text vacuums law =
    let s : Executed = said_once text (Some (answer.Count 0)) 1 in
    let e : spans_asked [] ≡ whole_tables (t ∷ []) = (law 1 s (one_has s) vacuums).scans 0 refl in
    no_span e
  where
    no_span : ◌≡◌ {A = List Span} [] (record { table = t.name; partition = None } ∷ []) → ⊥
    no_span z = cc

pub begin_refused : (text : List ℕ) (key : Key) → reads_begin text ≡ true → ReadsAreFew (reads_and_is_done text key) → ⊥
begin_refused text key begins law =
    let s : Executed = said_once text (Some answer.Done) 2 in
    no_call ((law 1 s (one_has s)).1 (inl begins))
  where
    no_call : ◌≡◌ {A = List StoreCall} (record { at = 2; store = []; request = ask.Get key; how = Seen; reply = reply.Found None } ∷ []) [] → ⊥
    no_call z = cc

pub moment_refused : (text : List ℕ) (w : Write) (id : TxId) (now : ℤ) → id.0 < 2 ^ 128 → is_moment now ≡ true → (now ≡ pos 0 → ⊥) → PreparesAreOwn (prepares_at text w id now) → ⊥
moment_refused text w id now fits moment other law =
    let s : Executed = said_once text None 1 in
    let m : StoreCall = record { at = 2; store = []; request = ask.PutIf (prepared_record w id now) condition.Absent; how = Seen; reply = reply.Applied } in
    let own = law 1 s m id (prepared_record w id now) (record { among = one_has s; call = one_has m; fits = fits; is = prepared_is id now w; puts = one_has (prepared_record w id now) }) in
    other (some_is now (pos 0) (sym (moment_of w id now moment) ∙ own.moment))

pub decision_refused : (text : List ℕ) (id : TxId) (d : Decision) (now : ℤ) → id.0 < 2 ^ 128 → (client_of id ≡ 1 → ⊥) → DecisionsAreDue (decides_at_once text id d now) → ⊥
decision_refused text id d now fits other law = by (law 1 s m id (one_has s) (one_has m) fits (subst (λ k. Contains (k ∷ []) (coordinator_key_of id)) (sym (row_key id d now)) (one_has (coordinator_key_of id)), refl))
  where
    s : Executed
    s = said_once text None 1

    m : StoreCall
    m = record { at = 2; store = []; request = row_put id d now; how = Seen; reply = reply.Applied }

    by : IsOwnDecision (decides_at_once text id d now) 1 s id m ⊎ GivesUp (decides_at_once text id d now) (m ∷ []) m id → ⊥
    by (inl own) = other own.commit.0
    by (inr gives) =
        let same : m ≡ gives.look = only m gives.look (kept_in (λ (y : StoreCall). nat_lt gives.expired.read.at y.at) (m ∷ []) gives.look gives.expired.looks.0) in
        no_get (ap (λ (y : StoreCall). y.request) same ∙ gives.expired.looks.1)
      where
        no_get : row_put id d now ≡ ask.Get (coordinator_key_of id) → ⊥
        no_get z = cc

pub beside_refused : (text : List ℕ) (id : TxId) (d : Decision) (now : ℤ) (other : Put) → id.0 < 2 ^ 128 → DecisionsAreDue (decides_beside text id d now other) → ⊥
beside_refused text id d now other fits law = by (law 1 s m id (one_has s) (one_has m) fits (subst (λ k. Contains (k ∷ other.rec.key ∷ []) (coordinator_key_of id)) (sym (row_key id d now)) (the_first (coordinator_key_of id) (other.rec.key ∷ [])), refl))
  where
    s : Executed
    s = said_once text None 1

    both : Request
    both = ask.PutAll (record { rec = coordinator_row_of id d now; condition = condition.Absent } ∷ other ∷ [])

    m : StoreCall
    m = record { at = 2; store = []; request = both; how = Seen; reply = reply.Applied }

    no_put : (u : TxId) (e : Decision) (at : ℤ) → both ≡ row_put u e at → ⊥
    no_put u e at z = cc

    by : IsOwnDecision (decides_beside text id d now other) 1 s id m ⊎ GivesUp (decides_beside text id d now other) (m ∷ []) m id → ⊥
    by (inl own) = no_put id own.decision _ own.asks
    by (inr gives) = no_put id decision.Aborted _ gives.asks
