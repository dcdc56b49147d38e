-- By its answer the read of a statement has finished, or has not.
use Rattle.std.proofs.Common.{◌≡◌, ◌⊎◌, inl, inr, ℕ, ℤ, Bool, true, false, not, List, [], ◌∷◌, ◌++◌, Option, Some, None, Result, Ok, Err, refl, sym, ap, subst, ◌∙◌}
use Rattle.std.specs.Prelude.{◌&&◌, if◌then◌else◌, filter, find, is_ok, is_some}
use Rattle.std.specs.List.{AllByRecursion, list_all}
use Rattle.std.specs.Option.{option_map}
use Rattle.std.proofs.lemmas.Bool.{and_parts}
use Rattle.law_clients.specs.Types.{Access, Image, Key, Meta, Record, RecoverPhase, RecoverStep, Reply, Statement, Table}
use Rattle.sdb_types.specs.declared.record.Reply.TheVariants as reply
use Rattle.sdb_types.specs.declared.record.State.TheVariants as state
use Rattle.sdb_record.specs.Parts.{are_stored}
use Rattle.sdb_types.proofs.Public.{clash, none_some, some_is}
use Rattle.sdb_record.specs.Coordinator.{coordinator_key_of, is_coordinator_table}
use Rattle.sdb_record.specs.Meta.{checked, is_in, is_transactional}
use Rattle.sdb_model.specs.declared.answer.Answer.TheVariants as answer
use Rattle.sdb_model.specs.declared.statement.Statement.TheVariants as statement
use Rattle.sdb_model.specs.Access.{in_access}
use Rattle.sdb_model.specs.Calls.{StoreCall}
use Rattle.sdb_model.specs.Causes.{refused}
use Rattle.sdb_model.specs.Exec.{all_rows, key_of}
use Rattle.sdb_model.specs.ReadSet.{finds_transactional, read_finished}
use Rattle.sdb_model.specs.Transactions.{changes_nothing}
use Rattle.sdb_exec.specs.Plans.{Planned, answer_on, changes_on, columns_at, finished, first_unfit, is_unfit, step_at, step_of}
use Rattle.sdb_phases.specs.declared.step.RecoverStep.TheVariants as steps
use Rattle.sdb_phases.specs.Recover.{recover_next}
use Rattle.sdb_phases.proofs.Public.{by_steps_recover_rows as by_steps}
use Rattle.sdb_txn.specs.declared.read.ReadStep.TheVariants as step
use Rattle.sdb_txn.specs.Read.{Kind, Firm, Open, Bad, ReadStage, Asking, Resolving, Ended, answered, kind_of, opened, read_step, resolved, settle, settle_one}
use Rattle.sdb_snapshot.specs.Seen.{Seen, overlay, tables_seen}
use Rattle.sdb_txn.specs.Txn.{TxnAt}
use Rattle.sdb_client.specs.Client.{given_answer, too_many}
use Rattle.law_clients.specs.Machine.{abstract_read}
use Rattle.law_clients.specs.Calls.{HasUnchecked, rows_left}
use Rattle.law_clients.proofs.ReadRecords.{coordinators}

---- rows that don't fit

pub passes_all : (p : Image → Bool) (xs : List Image) → AllByRecursion (λ x. p x ≡ true) (filter p xs)
passes_all p [] = tt
passes_all p (x ∷ xs) = by (p x) refl (passes_all p xs)
  where
    by : (b : Bool) → p x ≡ b → AllByRecursion (λ y. p y ≡ true) (filter p xs) → AllByRecursion (λ y. p y ≡ true) (if b then x ∷ filter p xs else filter p xs)
    by true e ih = (e, ih)
    by false e ih = ih

pub found_so : (P : Image → Type 0) (p : Image → Bool) (xs : List Image) (x : Image) → AllByRecursion P xs → find p xs ≡ Some x → P x
found_so P p [] x all e = none_some x e
found_so P p (y ∷ xs) x all e = by (p y) (λ h. found_so P p xs x all.1 h) e
  where
    by : (b : Bool) → (find p xs ≡ Some x → P x) → (if b then Some y else find p xs) ≡ Some x → P x
    by true ih h = subst P (some_is y x h) all.0
    by false ih h = ih h

-- a row that is seen at an access and doesn't fit lies there
pub unfit_inside : (a : Access) (s : Seen) (t : Table) (key : Key) → first_unfit t (overlay a s) ≡ Some key → in_access a key ≡ true
unfit_inside a s t key e = by (find (is_unfit t) (overlay a s)) refl e
  where
    by : (o : Option Image) → find (is_unfit t) (overlay a s) ≡ o → option_map (λ (r : Image). r.key) o ≡ Some key → in_access a key ≡ true
    by None k h = none_some key h
    by (Some r) k h =
        subst (λ (z : Key). in_access a z ≡ true) (some_is r.key key h)
        (found_so (λ (x : Image). in_access a x.key ≡ true) (is_unfit t) (overlay a s) r (passes_all (λ (x : Image). in_access a x.key) (all_rows (tables_seen s))) k)

---- what a plan answers

pub answer_finishes : (ms : List StoreCall) (t : Table) (st : Statement) (rows : List Image) → read_finished ms (answer_on t st rows) ≡ true
answer_finishes ms t (statement.Insert s) rows = by (is_some (columns_at (key_of t s) rows))
  where
    by : (b : Bool) → read_finished ms (if b then answer.Duplicate (key_of t s) else answer.Count 1) ≡ true
    by true = refl
    by false = refl
answer_finishes ms t (statement.Upsert s) rows = refl
answer_finishes ms t (statement.Update s) rows = refl
answer_finishes ms t (statement.Delete s) rows = refl
answer_finishes ms t (statement.Select s) rows = refl
answer_finishes ms t statement.Begin rows = refl
answer_finishes ms t statement.Commit rows = refl
answer_finishes ms t statement.Rollback rows = refl
answer_finishes ms t statement.Vacuum rows = refl

pub misfit_finishes : (ms : List StoreCall) (key : Key) → is_coordinator_table key.table ≡ false → finds_transactional ms ≡ true → read_finished ms (answer.BadRecord key) ≡ true
misfit_finishes ms key apart accepted = ap (λ b. not b && finds_transactional ms) apart ∙ accepted

-- Where a plan was asked for its rows, the read of its statement has finished by what it is answered on them.
pub given_finishes : (ms : List StoreCall) (p : Planned) (rows : List Image) (t : TxnAt) → p.asked ≡ true → ((key : Key) → first_unfit p.table rows ≡ Some key → is_coordinator_table key.table ≡ false) → finds_transactional ms ≡ true → read_finished ms (given_answer t (step_of p rows)) ≡ true
given_finishes ms p rows t asked apart accepted = ap (λ b. read_finished ms (given_answer t (step_at b p.table p.statement rows))) asked ∙ by (first_unfit p.table rows) refl
  where
    on_rows : (z : Bool) → read_finished ms (if z then refused 15 else answer_on p.table p.statement rows) ≡ true
    on_rows true = refl
    on_rows false = answer_finishes ms p.table p.statement rows

    by : (o : Option Key) → first_unfit p.table rows ≡ o → read_finished ms (given_answer t (finished p.table p.statement rows o)) ≡ true
    by None e = on_rows (not (changes_nothing (answer_on p.table p.statement rows)) && too_many t (changes_on p.table p.statement rows))
    by (Some key) e = misfit_finishes ms key (apart key e) accepted

---- reads that find a bad record

kind_apart : (r : Record) → is_transactional r ≡ true → kind_of r ≡ Bad → ⊥
kind_apart r accepted e = by_firm (is_in state.Committed r.columns) (sym (ap (λ b. if b then (if is_in state.Committed r.columns then Firm else opened (checked r.columns)) else Bad) accepted) ∙ e)
  where
    by_checked : (x : Result Meta (List ℕ)) → checked r.columns ≡ x → opened x ≡ Bad → ⊥
    by_checked (Ok meta) k h = absurd (cc)
    by_checked (Err column) k h = clash (sym (and_parts (are_stored r.columns) (is_ok (checked r.columns)) accepted).1 ∙ ap is_ok k)

    by_firm : (b : Bool) → (if b then Firm else opened (checked r.columns)) ≡ Bad → ⊥
    by_firm true h = absurd (cc)
    by_firm false h = by_checked (checked r.columns) refl h

settle_bad : (images left : List Record) (key : Key) → settle images left ≡ Ended (step.BadRecord key) → HasUnchecked left
settle_bad images [] key e = absurd (cc)
settle_bad images (r ∷ left) key e = by (is_transactional r) refl (λ h. settle_bad (images ++ r ∷ []) left key h)
  where
    by_kind : is_transactional r ≡ true → (k : Kind) → kind_of r ≡ k → (settle (images ++ r ∷ []) left ≡ Ended (step.BadRecord key) → HasUnchecked left) → settle_one k images r left (settle (images ++ r ∷ []) left) ≡ Ended (step.BadRecord key) → HasUnchecked left
    by_kind accepted Firm is rest h = rest h
    by_kind accepted (Open meta) is rest h = absurd (cc)
    by_kind accepted Bad is rest h = absurd (kind_apart r accepted is)

    by : (b : Bool) → is_transactional r ≡ b → (settle (images ++ r ∷ []) left ≡ Ended (step.BadRecord key) → HasUnchecked left) → list_all is_transactional (r ∷ left) ≡ false
    by false accepted rest = ap (λ b. b && list_all is_transactional left) accepted
    by true accepted rest = ap (λ b. b && list_all is_transactional left) accepted ∙ by_kind accepted (kind_of r) refl rest e

-- A recovery ends with a bad record only for its transaction's row.
recovery_bad : (rec : Record) (meta : Meta) (p : RecoverPhase) (now : ℤ) (r : Reply) (key : Key) → (recover_next rec meta p now r).1 ≡ steps.BadRecord key → is_coordinator_table key.table ≡ true
recovery_bad rec meta p now r key =
    by_steps rec meta (λ n. n.1 ≡ steps.BadRecord key → is_coordinator_table key.table ≡ true)
    (record {
      forward = λ at e. absurd (cc);
      back = λ e. absurd (cc);
      abort = λ now e. absurd (cc);
      again = λ e. absurd (cc);
      forwarded = λ at e. absurd (cc);
      undone = λ e. absurd (cc);
      busy = λ e. absurd (cc);
      fault = λ e. absurd (cc);
      bad = λ e. let is : coordinator_key_of meta.id ≡ key = cc in subst (λ (k : Key). is_coordinator_table k.table ≡ true) is (coordinators meta.id);
      no_memory = λ e. absurd (cc);
    }) p now r

resolved_bad : (images : List Record) (rec : Record) (meta : Meta) (left : List Record) (n : RecoverPhase × RecoverStep) (key : Key) → ((k : Key) → n.1 ≡ steps.BadRecord k → is_coordinator_table k.table ≡ true) → resolved images rec meta left n ≡ Ended (step.BadRecord key) → (is_coordinator_table key.table ≡ true) ⊎ HasUnchecked left
resolved_bad images rec meta left (p, steps.More) key bad e = absurd (cc)
resolved_bad images rec meta left (p, steps.Image None) key bad e = inr (settle_bad images left key e)
resolved_bad images rec meta left (p, steps.Image (Some b)) key bad e = inr (settle_bad (images ++ b ∷ []) left key e)
resolved_bad images rec meta left (p, steps.Busy id at) key bad e = absurd (cc)
resolved_bad images rec meta left (p, steps.Faulted) key bad e = absurd (cc)
resolved_bad images rec meta left (p, steps.BadRecord k) key bad e =
    let is : k ≡ key = cc in
    inl (subst (λ (z : Key). is_coordinator_table z.table ≡ true) is (bad k refl))
resolved_bad images rec meta left (p, steps.NoMemory) key bad e = absurd (cc)

asked_bad : (r : Reply) (key : Key) → answered r ≡ Ended (step.BadRecord key) → HasUnchecked (rows_left (abstract_read Asking) r)
asked_bad (reply.Found None) key e = absurd (cc)
asked_bad (reply.Found (Some x)) key e = settle_bad [] (x ∷ []) key e
asked_bad (reply.Rows rows) key e = settle_bad [] rows key e
asked_bad reply.Fault key e = absurd (cc)
asked_bad reply.NoMemory key e = absurd (cc)
asked_bad reply.Applied key e = absurd (cc)
asked_bad (reply.NotMet found) key e = absurd (cc)
asked_bad (reply.NotAll place there) key e = absurd (cc)

-- A read goes on from there.
abbrev pub GoesFrom : ReadStage → Type 0
GoesFrom (Ended s) = ⊥
GoesFrom s = Unit {0}

-- A read that ends with a bad record found it in the coordinator's table, or among the records that were left.
pub step_bad : (s : ReadStage) (now : ℤ) (r : Reply) (key : Key) → GoesFrom s → read_step s now r ≡ Ended (step.BadRecord key) → (is_coordinator_table key.table ≡ true) ⊎ HasUnchecked (rows_left (abstract_read s) r)
step_bad Asking now r key goes e = inr (asked_bad r key e)
step_bad (Resolving images rec meta p left) now r key goes e = resolved_bad images rec meta left (recover_next rec meta p now r) key (λ k h. recovery_bad rec meta p now r k h) e
step_bad (Ended s) now r key goes e = absurd goes
