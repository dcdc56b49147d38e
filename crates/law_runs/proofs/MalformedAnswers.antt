-- What is left to a statement that finds a malformed record.
use Rattle.std.proofs.Common.{◌≡◌, ◌⊎◌, inl, inr, ℕ, true, false, not, List, [], ◌∷◌, ◌++◌, Some, refl, sym, ap, subst, ◌∙◌}
use Rattle.std.specs.Prelude.{Contains, is_some}
use Rattle.std.specs.List.{AllByRecursion}
use Rattle.std.proofs.lemmas.Bool.{and_parts}
use Rattle.std.proofs.lemmas.List.Elements.{Contains-push_cases}
use Rattle.law_runs.specs.Types.{Answer, Event, Record, Reply, Script, Statement}
use Rattle.sdb_types.specs.declared.record.Reply.TheVariants as reply
use Rattle.sdb_types.specs.declared.record.State.TheVariants as state
use Rattle.sdb_types.specs.Replies.{is_fault}
use Rattle.sdb_types.proofs.Public.{clash}
use Rattle.sdb_record.specs.Meta.{is_in, is_transactional, is_unresolved}
use Rattle.sdb_model.specs.declared.answer.Answer.TheVariants as answer
use Rattle.sdb_model.specs.declared.statement.Statement.TheVariants as statement
use Rattle.sdb_model.specs.Calls.{StoreCall, calls_of, records_read}
use Rattle.sdb_model.specs.Causes.{HasReply}
use Rattle.sdb_model.specs.Exec.{table_of}
use Rattle.sdb_model.specs.Transactions.{Executed, statements_by}
use Rattle.law_clients.proofs.Public.{other_no_commit}
use Rattle.law_answers.proofs.Public.{each_in, never_vacuum}
use Rattle.sdb_client.specs.Execution.{IsExecution, IsPlayable}
use Rattle.law_runs.specs.Complete.{IsOnTable}
use Rattle.law_runs.specs.Malformed.{FindsMalformed, IsTransactional, MalformedAreAnswered, MalformedEndAtOnce, MalformedEnds, VacuumsMeetMalformed}
use Rattle.law_runs.proofs.MalformedReads.{IsOpenIn, first_is, inside, none_bad, passes}
use Rattle.law_runs.proofs.MalformedStatements.{EndsEarly, IsEndOf, reads_end}
use Rattle.law_runs.proofs.MalformedVacuums.{scans_end}
use Rattle.law_runs.proofs.Statements.{none_in}
use Rattle.law_runs.proofs.Steps.{execution_caused}

-- a record that is unresolved isn't committed
loose_is : (x : Record) → is_unresolved x ≡ true → is_in state.Committed x.columns ≡ true → ⊥
loose_is x loose firm = clash (sym (and_parts (is_transactional x) (not (is_in state.Committed x.columns)) loose).1 ∙ ap not firm)

-- a call that faulted found no record
none_faulted : (r : Reply) (rows : List Record) (x : Record) (before : List Record) → is_fault r ≡ true → records_read r ≡ before ++ x ∷ rows → ⊥
none_faulted reply.Fault rows x [] e found = cc
none_faulted reply.Fault rows x (b ∷ bs) e found = cc
none_faulted (reply.Found y) rows x before e found = clash (sym e)
none_faulted (reply.Rows y) rows x before e found = clash (sym e)
none_faulted (reply.NotAll place there) rows x before e found = clash (sym e)
none_faulted reply.Applied rows x before e found = clash (sym e)
none_faulted (reply.NotMet y) rows x before e found = clash (sym e)
none_faulted reply.NoMemory rows x before e found = clash (sym e)

module _ (calls : List StoreCall) (before : List Record) (r : Record) (f : FindsMalformed calls before r) where
  abbrev rows : List Record
  rows = records_read f.read.reply

  -- an unresolved row is one before it
  open_before : (x : Record) → IsOpenIn rows x → Contains before x
  open_before x h = inside before h.past.passed f.rest h.left r x (sym f.found ∙ h.past.split) h.past.all (passes x h.unresolved) f.malformed

  all_pass : AllByRecursion IsTransactional rows → ⊥
  all_pass all = none_bad before f.rest r (subst (AllByRecursion IsTransactional) f.found all) f.malformed

  -- where each record before it is committed none is unresolved
  none_open : AllByRecursion (λ x. is_in state.Committed x.columns ≡ true) before → (x : Record) → Contains before x → is_unresolved x ≡ true → ⊥
  none_open firm x has loose = loose_is x loose (each_in (λ y. is_in state.Committed y.columns ≡ true) before x firm has)

  early_so : (b : Answer) → (b ≡ answer.Faulted → HasReply is_fault calls) → EndsEarly rows b → MalformedEnds calls before r b
  early_so (answer.BadRecord key) faulted (inl h) = inl (h.same ∙ ap (λ (x : Record). x.key) (sym (first_is before h.past.passed f.rest h.left r h.found (sym f.found ∙ h.past.split) f.passed h.past.all f.malformed h.malformed)))
  early_so (answer.BadRecord key) faulted (inr h) = inr (h.id, record { found = h.found; among = open_before h.found h.is_open; unresolved = h.is_open.unresolved; writer = h.writer }, h.same)
  early_so (answer.Busy key id at) faulted h = (h.found, open_before h.found h.is_open, h.same, h.is_open.unresolved)
  early_so answer.Faulted faulted h = faulted refl
  early_so answer.NoMemory faulted h = tt
  early_so (answer.Rows y) faulted h = h
  early_so (answer.Count y) faulted h = h
  early_so answer.Done faulted h = h
  early_so answer.Committed faulted h = h
  early_so (answer.Duplicate key) faulted h = h
  early_so (answer.Conflict key found) faulted h = h
  early_so (answer.Expired id) faulted h = h
  early_so (answer.Unknown id) faulted h = h
  early_so (answer.Refused y) faulted h = h
  early_so answer.Vacuuming faulted h = h
  early_so answer.OpenTransactions faulted h = h

  ends_as : (b : Answer) → (b ≡ answer.Faulted → HasReply is_fault calls) → AllByRecursion IsTransactional rows ⊎ EndsEarly rows b → MalformedEnds calls before r b
  ends_as b faulted h = by h
    where
      by : AllByRecursion IsTransactional rows ⊎ EndsEarly rows b → MalformedEnds calls before r b
      by (inl all) = absurd (all_pass all)
      by (inr early) = early_so b faulted early

  ---- where each record before it is committed

  module _ (firm : AllByRecursion (λ x. is_in state.Committed x.columns ≡ true) before) where
    only_call : (b : Answer) → IsEndOf calls f.read b → calls ≡ f.read ∷ []
    only_call b h = by h.once
      where
        by : (calls ≡ f.read ∷ []) ⊎ ((x : Record) × IsOpenIn rows x) → calls ≡ f.read ∷ []
        by (inl e) = e
        by (inr z) = absurd (none_open firm z.0 (open_before z.0 z.1) z.1.unresolved)

    -- the one call found a record, and didn't fault
    no_fault : calls ≡ f.read ∷ [] → HasReply is_fault calls → ⊥
    no_fault only z = by (Contains-push_cases [] f.read z.0 (subst (λ (ms : List StoreCall). Contains ms z.0) only z.1))
      where
        by : Contains [] z.0 ⊎ (f.read ≡ z.0) → ⊥
        by (inl h) = none_in z.0 h
        by (inr same) = none_faulted f.read.reply f.rest r before (ap (λ (m : StoreCall). is_fault m.reply) same ∙ z.2) f.found

    at_once : (b : Answer) → calls ≡ f.read ∷ [] → MalformedEnds calls before r b → (b ≡ answer.BadRecord r.key) ⊎ (b ≡ answer.NoMemory)
    at_once (answer.BadRecord key) only (inl e) = inl (ap answer.BadRecord e)
    at_once (answer.BadRecord key) only (inr z) = absurd (none_open firm z.1.found z.1.among z.1.unresolved)
    at_once (answer.Busy key id at) only z = absurd (none_open firm z.0 z.1 z.3)
    at_once answer.Faulted only z = absurd (no_fault only z)
    at_once answer.NoMemory only z = inr refl
    at_once (answer.Rows y) only z = absurd z
    at_once (answer.Count y) only z = absurd z
    at_once answer.Done only z = absurd z
    at_once answer.Committed only z = absurd z
    at_once (answer.Duplicate key) only z = absurd z
    at_once (answer.Conflict key found) only z = absurd z
    at_once (answer.Expired id) only z = absurd z
    at_once (answer.Unknown id) only z = absurd z
    at_once (answer.Refused y) only z = absurd z
    at_once answer.Vacuuming only z = absurd z
    at_once answer.OpenTransactions only z = absurd z

---- the laws

module _ (script : Script) (events : List Event) (playable : IsPlayable script) (x : IsExecution script events) where
  -- it is no COMMIT and no VACUUM
  on_table : (st other : Statement) → is_some (table_of st) ≡ true → is_some (table_of other) ≡ false → st ≡ other → ⊥
  on_table st other h none e = clash (sym h ∙ ap (λ (y : Statement). is_some (table_of y)) e ∙ none)

  end_of_read : (client : ℕ) (s : Executed) (st : Statement) (a : Answer) (before : List Record) (r : Record) → Contains (statements_by client events) s → s.answer ≡ Some a → IsOnTable s.text st → (f : FindsMalformed (calls_of events client s) before r) → IsEndOf (calls_of events client s) f.read a
  end_of_read client s st a before r has is on f =
      reads_end script events playable x client s a has is (other_no_commit s.text st on.reads (on_table st statement.Commit on.table refl)) (never_vacuum s.text st on.reads (on_table st statement.Vacuum on.table refl)) f.read f.among f.reads

  -- A statement that finds a malformed record ends so.
  pub execution_malformed : MalformedAreAnswered events
  execution_malformed client s st a before r has is on f =
      ends_as (calls_of events client s) before r f a
      (λ e. (execution_caused script events playable x).caused.caused client s answer.Faulted has (is ∙ ap Some e))
      (end_of_read client s st a before r has is on f).ends

  -- So does a VACUUM.
  pub execution_sweeps_malformed : VacuumsMeetMalformed events
  execution_sweeps_malformed client s a before r has is vacuums f =
      ends_as (calls_of events client s) before r f a
      (λ e. (execution_caused script events playable x).caused.caused client s answer.Faulted has (is ∙ ap Some e))
      (scans_end script events playable x client s a has is vacuums f.read f.among f.reads)

  -- At once where each record before it is committed.
  pub execution_ends_at_once : MalformedEndAtOnce events
  execution_ends_at_once client s st a before r has is on f firm =
      let h = end_of_read client s st a before r has is on f in
      let only : calls_of events client s ≡ f.read ∷ [] = only_call (calls_of events client s) before r f firm a h in
      record { only = only; answered = at_once (calls_of events client s) before r f firm a only (execution_malformed client s st a before r has is on f) }
