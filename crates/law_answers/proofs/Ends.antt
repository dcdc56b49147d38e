-- Where a COMMIT goes, what it ends with, and which transaction it ends.
use Rattle.std.proofs.Common.{◌≡◌, ◌<◌, ◌^◌, ◌⊎◌, inl, inr, ℕ, true, false, List, [], ◌∷◌, ◌++◌, Option, Some, None, sym, ap, subst, ◌∙◌}
use Rattle.std.specs.Prelude.{if◌then◌else◌, find, Contains}
use Rattle.std.specs.Option.{option_and_then}
use Rattle.std.proofs.lemmas.List.Elements.{Contains-append_left, Contains-push}
use Rattle.law_answers.specs.Types.{Event, Key, Outcome, Record, Reply, Table, TxId}
use Rattle.sdb_types.proofs.Public.{clash}
use Rattle.sdb_model.specs.declared.answer.Answer.TheVariants as answer
use Rattle.sdb_model.specs.Calls.{StoreCall, calls_of}
use Rattle.sdb_model.specs.Causes.{ConflictsAtCommit, IsCaused, IsCommitOf}
use Rattle.sdb_model.specs.Sql.{reads_commit}
use Rattle.sdb_model.specs.Transactions.{Executed, client_of, commit_of, ends, from_begin, id_of, is_conflict, ordinal_of, rest_of, statements_by}
use Rattle.sdb_txn.specs.Phases.{IsNext}
use Rattle.sdb_phases.specs.declared.step.Outcome.TheVariants as outcome
use Rattle.sdb_phases.specs.Commit.{Stage, out_of_memory as out_of_memory_stage, step as commit_step}
use Rattle.sdb_phases.specs.Work.{Work}
use Rattle.sdb_model.specs.ReadSet.{ReadItem}
use Rattle.sdb_txn.specs.Txn.{TxnAt}
use Rattle.sdb_client.specs.Step.{answer_of_outcome}
use Rattle.law_answers.specs.Commits.{EndsBy, HasFailed, IsGivenUp}
use Rattle.law_answers.specs.Views.{GivesOwn}
use Rattle.law_answers.specs.Invariant.{IsOpenAs}
use Rattle.law_answers.specs.Conflicts.{ConflictBy}
use Rattle.law_answers.proofs.ReadSets.{client_is, ordinal_is}
use Rattle.law_answers.proofs.Lists.{ends_last, since_more}
use Rattle.law_answers.proofs.Rows.{bad_is_bad}
use Rattle.law_clients.proofs.Public.{next_stage}

---- where a COMMIT goes

-- what is so of both is so of it
pub next_by : (P : Stage → Type 0) (p : Work) (s : Stage) (r : Reply) (m : Stage) → IsNext p s r m → P (commit_step p s r) → P (out_of_memory_stage (commit_step p s r)) → P m
next_by P p s r m z h k = either (next_stage p s r m z)
  where
    either : (m ≡ commit_step p s r) ⊎ (m ≡ out_of_memory_stage (commit_step p s r)) → P m
    either (inl e) = subst P (sym e) h
    either (inr e) = subst P (sym e) k

-- the conflict that a COMMIT ends with
pub conflict_of : (read_set : List ReadItem) (p : Work) (calls : List StoreCall) (a : Outcome) (key : Key) (found : Option Record) → answer_of_outcome a ≡ answer.Conflict key found → ConflictBy read_set p calls a → ConflictsAtCommit calls read_set p.id key found
conflict_of read_set p calls outcome.Committed key found e h = absurd (cc)
conflict_of read_set p calls (outcome.Conflict k f) key found e h =
    let keys : k ≡ key = cc in
    let founds : f ≡ found = cc in
    subst (λ (z : Key). ConflictsAtCommit calls read_set p.id z found) keys (subst (λ (z : Option Record). ConflictsAtCommit calls read_set p.id k z) founds h)
conflict_of read_set p calls (outcome.Expired id) key found e h = absurd (cc)
conflict_of read_set p calls outcome.Faulted key found e h = absurd (cc)
conflict_of read_set p calls (outcome.Unknown id) key found e h = absurd (cc)
conflict_of read_set p calls (outcome.BadRecord k) key found e h = absurd (cc)
conflict_of read_set p calls outcome.NoMemory key found e h = absurd (cc)

-- a COMMIT's answer shows no row
pub outcome_tells : (catalog : List Table) (events : List Event) (c : ℕ) (body : List Executed) (s : Executed) (a : Outcome) → GivesOwn catalog events c body s (answer_of_outcome a)
outcome_tells catalog events c body s outcome.Committed = tt
outcome_tells catalog events c body s (outcome.Conflict key found) = tt
outcome_tells catalog events c body s (outcome.Expired id) = tt
outcome_tells catalog events c body s outcome.Faulted = tt
outcome_tells catalog events c body s (outcome.Unknown id) = tt
outcome_tells catalog events c body s (outcome.BadRecord key) = tt
outcome_tells catalog events c body s outcome.NoMemory = tt

-- and has its cause
pub outcome_caused : (catalog : List Table) (events : List Event) (c : ℕ) (s : Executed) (id : TxId) (a : Outcome) → IsCommitOf events c s id → EndsBy id (calls_of events c s) a → is_conflict (Some (answer_of_outcome a)) ≡ false → IsCaused catalog events c s (answer_of_outcome a)
outcome_caused catalog events c s id outcome.Committed commit e z = (id, commit, e)
outcome_caused catalog events c s id (outcome.Conflict key found) commit e z = clash z
outcome_caused catalog events c s id (outcome.Expired u) commit e z =
    let b = subst (λ (i : TxId). IsGivenUp i (calls_of events c s)) (sym e.0) e.1 in
    record { commit = subst (IsCommitOf events c s) (sym e.0) commit; call = b.call; among = b.among; aborted = b.aborted; not_own = b.not_own }
outcome_caused catalog events c s id outcome.Faulted commit e z = e
outcome_caused catalog events c s id (outcome.Unknown u) commit e z =
    let b = subst (λ (i : TxId). HasFailed i (calls_of events c s)) (sym e.0) e.1 in
    record { commit = subst (IsCommitOf events c s) (sym e.0) commit; put = b.put; later = b.later; deciding = b.deciding; failed = b.failed }
outcome_caused catalog events c s id (outcome.BadRecord key) commit e z = inl (e.1.call, e.1.found, e.1.among, e.1.observed, e.1.same, bad_is_bad id e.1.found (e.1.same ∙ e.0) e.1.bad)
outcome_caused catalog events c s id outcome.NoMemory commit e z = tt

---- the COMMIT of a transaction

-- what ends the open transaction and reads as COMMIT is its COMMIT
pub commit_is : (events : List Event) {c n : ℕ} {answered : List Executed} (w : Executed) {t : TxnAt} → n < 2 ^ 64 → statements_by c events ≡ answered ++ w ∷ [] → reads_commit w.text ≡ true → ends w ≡ true → IsOpenAs c n answered t → IsCommitOf events c w t.id
commit_is events {c} {n} {answered} w small same commit over o = subst (IsCommitOf events c w) (sym o.id) (client_is c n small, ends_it)
  where
    since : from_begin (ordinal_of (id_of c n)) (statements_by (client_of (id_of c n)) events) ≡ o.begin ∷ (o.body ++ w ∷ [])
    since = ap (λ d. from_begin (ordinal_of (id_of c n)) (statements_by d events)) (client_is c n small) ∙ ap (λ k. from_begin k (statements_by c events)) (ordinal_is c n small) ∙ ap (from_begin n) same ∙ since_more n answered w o.begin o.body o.since

    ends_it : commit_of events (id_of c n) ≡ Some w
    ends_it =
        ap (λ ss. option_and_then (λ (s : Executed). if reads_commit s.text then Some s else None) (find ends (rest_of ss))) since
        ∙ ap (λ (o : Option Executed). option_and_then (λ (s : Executed). if reads_commit s.text then Some s else None) o) (ends_last o.body w o.goes_on over)
        ∙ ap (λ b. if b then Some w else None) commit

-- the first of a statement's calls is one of them
pub first_in : (m : StoreCall) (rest calls : List StoreCall) → calls ≡ m ∷ rest → Contains calls m
first_in m rest calls e = subst (λ ms. Contains ms m) (sym e) (Contains-append_left (m ∷ []) rest m (Contains-push [] m))
