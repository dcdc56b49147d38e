-- Answers that neither begin nor end a transaction.
use Rattle.std.proofs.Common.{◌≡◌, ◌≢◌, Bool, true, false, List, Option, Some, refl, sym, ap, ◌∙◌}
use Rattle.std.specs.Prelude.{◌&&◌, ◌||◌, not}
use Rattle.std.specs.Option.{option_map_or}
use Rattle.sdb_model.specs.declared.answer.Answer.{Answer}
use Rattle.sdb_model.specs.declared.answer.Answer.TheVariants as answer
use Rattle.sdb_model.specs.Calls.{StoreCall}
use Rattle.sdb_model.specs.ReadSet.{read_finished}
use Rattle.sdb_model.specs.Sql.{reads_begin, reads_commit, reads_rollback}
use Rattle.sdb_model.specs.Transactions.{Executed, begins, changes_nothing, ends, is_answered_from_rows, is_conflict, is_done, is_effective}
use Rattle.law_clients.specs.Invariant.{IsMild}
use Rattle.sdb_types.proofs.Public.{and_false as no_second, clash, some_is}

---- answers that neither begin nor end a transaction

mild : (a : Answer) → is_done (Some a) ≡ false → is_conflict (Some a) ≡ false → (a ≡ answer.Committed → true ≡ false) → IsMild a
mild a d c n = record { undone = d; agrees = c; other = λ e. clash (n e) }

pub nothing_mild : (a : Answer) → changes_nothing a ≡ true → IsMild a
nothing_mild (answer.Busy key i m) n = mild (answer.Busy key i m) refl refl (λ e. sym n ∙ ap changes_nothing e)
nothing_mild answer.Faulted n = mild answer.Faulted refl refl (λ e. sym n ∙ ap changes_nothing e)
nothing_mild (answer.BadRecord key) n = mild (answer.BadRecord key) refl refl (λ e. sym n ∙ ap changes_nothing e)
nothing_mild (answer.Refused r) n = mild (answer.Refused r) refl refl (λ e. sym n ∙ ap changes_nothing e)
nothing_mild answer.OpenTransactions n = mild answer.OpenTransactions refl refl (λ e. sym n ∙ ap changes_nothing e)
nothing_mild answer.NoMemory n = mild answer.NoMemory refl refl (λ e. sym n ∙ ap changes_nothing e)
nothing_mild (answer.Rows rows) n = clash (sym n)
nothing_mild (answer.Count k) n = clash (sym n)
nothing_mild answer.Done n = clash (sym n)
nothing_mild answer.Committed n = clash (sym n)
nothing_mild (answer.Duplicate key) n = clash (sym n)
nothing_mild (answer.Conflict key found) n = clash (sym n)
nothing_mild (answer.Expired i) n = clash (sym n)
nothing_mild (answer.Unknown i) n = clash (sym n)
nothing_mild answer.Vacuuming n = clash (sym n)

pub rows_mild : (a : Answer) → is_answered_from_rows a ≡ true → IsMild a × (changes_nothing a ≡ false)
rows_mild (answer.Rows rows) n = (mild (answer.Rows rows) refl refl (λ e. sym n ∙ ap is_answered_from_rows e), refl)
rows_mild (answer.Count k) n = (mild (answer.Count k) refl refl (λ e. sym n ∙ ap is_answered_from_rows e), refl)
rows_mild (answer.Duplicate key) n = (mild (answer.Duplicate key) refl refl (λ e. sym n ∙ ap is_answered_from_rows e), refl)
rows_mild (answer.Busy key i m) n = clash (sym n)
rows_mild answer.Faulted n = clash (sym n)
rows_mild (answer.BadRecord key) n = clash (sym n)
rows_mild (answer.Refused r) n = clash (sym n)
rows_mild answer.OpenTransactions n = clash (sym n)
rows_mild answer.NoMemory n = clash (sym n)
rows_mild answer.Done n = clash (sym n)
rows_mild answer.Committed n = clash (sym n)
rows_mild (answer.Conflict key found) n = clash (sym n)
rows_mild (answer.Expired i) n = clash (sym n)
rows_mild (answer.Unknown i) n = clash (sym n)
rows_mild answer.Vacuuming n = clash (sym n)

-- a statement that is answered from rows has finished its read
pub rows_finish : (ms : List StoreCall) (a : Answer) → is_answered_from_rows a ≡ true → read_finished ms a ≡ true
rows_finish ms (answer.Rows rows) n = refl
rows_finish ms (answer.Count k) n = refl
rows_finish ms (answer.Duplicate key) n = refl
rows_finish ms (answer.Busy key i m) n = clash (sym n)
rows_finish ms answer.Faulted n = clash (sym n)
rows_finish ms (answer.BadRecord key) n = clash (sym n)
rows_finish ms (answer.Refused r) n = clash (sym n)
rows_finish ms answer.OpenTransactions n = clash (sym n)
rows_finish ms answer.NoMemory n = clash (sym n)
rows_finish ms answer.Done n = clash (sym n)
rows_finish ms answer.Committed n = clash (sym n)
rows_finish ms (answer.Conflict key found) n = clash (sym n)
rows_finish ms (answer.Expired i) n = clash (sym n)
rows_finish ms (answer.Unknown i) n = clash (sym n)
rows_finish ms answer.Vacuuming n = clash (sym n)

pub mild_begins : (s : Executed) (a : Answer) → s.answer ≡ Some a → IsMild a → begins s ≡ false
mild_begins s a e m = ap (λ o. reads_begin s.text && is_done o) e ∙ ap (λ b. reads_begin s.text && b) m.undone ∙ no_second (reads_begin s.text)

pub mild_ends : (s : Executed) (a : Answer) → s.answer ≡ Some a → IsMild a → reads_commit s.text ≡ false → ends s ≡ false
mild_ends s a e m c = ap (λ b. b || is_conflict s.answer || (reads_rollback s.text && is_done s.answer)) c ∙ ap (λ o. is_conflict o || (reads_rollback s.text && is_done o)) e ∙ ap (λ b. b || (reads_rollback s.text && is_done (Some a))) m.agrees ∙ ap (λ b. reads_rollback s.text && b) m.undone ∙ no_second (reads_rollback s.text)

pub uncommitted : (o : Option Answer) (a : Answer) → o ≡ Some a → IsMild a → o ≢ Some answer.Committed
uncommitted o a e m k = m.other (some_is a answer.Committed (sym e ∙ k))

pub effective_by : (s : Executed) (a : Answer) (b : Bool) → s.answer ≡ Some a → changes_nothing a ≡ b → is_effective s ≡ not b
effective_by s a b e n = ap (λ o. not (option_map_or changes_nothing o false)) e ∙ ap not n
