-- A client that takes a statement keeps what ties the events to it.
use Rattle.std.proofs.Common.{◌≡◌, ◌≢◌, ◌≤◌, ◌<◌, ◌^◌, ◌+◌, ◌==◌, ◌⊎◌, inl, inr, ℕ, suc, Bool, true, false, not, List, [], ◌∷◌, ◌++◌, length, Option, Some, None, Ok, Err, refl, sym, ap, subst, ◌∙◌, arith}
use Rattle.std.specs.Prelude.{if◌then◌else◌, ◌&&◌, ◌||◌, filter, is_some, nat_lt, IfSome}
use Rattle.std.specs.List.{AllByRecursion, count_by}
use Rattle.std.proofs.lemmas.Bool.{eqb-false, eqb-true}
use Rattle.std.proofs.lemmas.Bool.Decides.{nat_tests}
use Rattle.std.proofs.lemmas.List.{append-nil}
use Rattle.sdb_record.specs.Coordinator.{is_coordinator_table}
use Rattle.sdb_record.specs.Meta.{is_moment}
use Rattle.law_answers.specs.Types.{Answer, Doing, Event, Key, PlanStep, Refusal, Statement, Table, TxId}
use Rattle.sdb_schema.specs.Catalog.{is_catalog}
use Rattle.sdb_model.specs.declared.answer.Answer.TheVariants as answer
use Rattle.sdb_model.specs.declared.event.Event.TheVariants as event
use Rattle.sdb_model.specs.declared.statement.Statement.TheVariants as statement
use Rattle.sdb_model.specs.Catalogs.{catalog_after}
use Rattle.sdb_model.specs.Calls.{StoreCall, calls_by, calls_of, end_of}
use Rattle.sdb_model.specs.Causes.{IsBadRecord, IsCaused, IsRejected, MayPassMost, NeedsTransaction, before, records_found, refused, removes}
use Rattle.sdb_model.specs.Exec.{find_table, table_of}
use Rattle.sdb_model.specs.Follows.{SomeClient, has_stopped, is_open, is_open_after, runs_vacuum}
use Rattle.sdb_model.specs.Refused.{refusal_of}
use Rattle.sdb_model.specs.Sql.{Reads, reads_begin, reads_commit, reads_rollback, reads_vacuum}
use Rattle.sdb_model.specs.Transactions.{Executed, begins, changes_nothing, ends, from_begin, id_of, is_conflict, is_done, rest_of, statements_by}
use Rattle.sdb_sqltext.proofs.Public.{begin_read, commit_read, not_both, one_refusal, one_statement, rollback_read, vacuum_read}
use Rattle.sdb_exec.specs.declared.plan.PlanStep.TheVariants.{Finished, Read as Wants}
use Rattle.sdb_exec.specs.Plans.{Planned, changes_on, first_unfit}
use Rattle.sdb_model.specs.Reads.{access_of}
use Rattle.sdb_phases.specs.Commit.{preparing}
use Rattle.sdb_txn.specs.declared.txn.Doing.TheVariants as doing
use Rattle.sdb_txn.specs.Txn.{TxnAt, begun, committing, reading, work_of}
use Rattle.sdb_vacuum.specs.Vacuum.{begun as begins_sweep}
use Rattle.sdb_client.specs.Client.{AskPost, BeginPost, ClientAt as Client, CommitStartPost, GatePost, RollbackPost, StatementPost, Taking, TextPost, VacuumStartPost, given_answer, given_left, gives, holding, next_id, plan_of, resting, too_many, with_begun, written}
use Rattle.sdb_client.specs.Step.{AnsweredAtOnce, AtOnce, Begins, ByCatalog, CommitStarts, IsOnRows, LosesCommit, NoMemory, NoStatement, NoTable, NoneOpen, OpenAlready, OthersOpen, ReadKnown, ReadStarts, RollsBack, Step, Takes, VacuumRuns, VacuumStarts}
use Rattle.law_clients.specs.Invariant.{IsInner}
use Rattle.sdb_snapshot.specs.Seen.{overlay, row_seen}
use Rattle.law_clients.specs.States.{ClientState, IsReady}
use Rattle.law_clients.proofs.Public.{access_table, by_memory, each_more, found_itself, given_finishes, inner_read, IsOnTable, literals_read, on_table, other_no_begin, other_no_commit, own_table, refused_no_commit, take_executed}
use Rattle.sdb_model.proofs.Public.{same_length}
use Rattle.sdb_client.proofs.Public.{names_table, text_of_step}
use Rattle.law_clients.specs.History.{executed_of_take, waiting_of}
use Rattle.sdb_types.proofs.Public.{by_test, clash, length_more, none_some, some_is}
use Rattle.law_answers.specs.Commits.{StageByCalls}
use Rattle.law_answers.specs.Conflicts.{ChecksBy}
use Rattle.law_answers.specs.Filled.{IsFilled, IsFilledBy, IsFilledIn, rows_counted_by, records_found_by}
use Rattle.law_answers.specs.Changes.{SeenBy, read_items_of_body}
use Rattle.law_answers.proofs.Conflicts.{begins_checked}
use Rattle.law_answers.proofs.Moving.{IsTaken, work_by}
use Rattle.law_answers.proofs.ReadSets.{moved_all, moved_still, noted_more, noted_still, rest_all, since_all, unmoved}
use Rattle.law_answers.specs.Invariant.{IsAnswered, IsCurrent, IsDoing, CauseInvariant, IsGate, IsReadSetOf, IsOpenAs, Knows, SomeInVacuum, DoingByHistory, ClientByHistory, begun_in, open_after}
use Rattle.law_answers.specs.Unfit.{IsFitOrReadTxn, SeesFitOrRead, SeesFitOrReadIn, AreStoredReplies}
use Rattle.law_answers.proofs.Calls.{before_taken, calls_open, calls_within, end_answered, end_waiting, later_same, none_made}
use Rattle.law_answers.proofs.Filling.{filled_found, filled_given, filled_idle, filled_more, filled_nothing, filled_stays, filled_up, further, passes_given, zero_least}
use Rattle.law_answers.proofs.Passing.{pass_now, least}
use Rattle.law_answers.proofs.Misfits.{fit_nothing, fits_idle, fits_more, fits_stay, meets_now}
use Rattle.law_answers.proofs.Unfit.{given_fits, was_misfit}
use Rattle.law_answers.proofs.Given.{IsMiddle, given_caused, given_middle, unfit_data}
use Rattle.law_answers.proofs.Knowing.{KnowsUnder, after_begin, after_end, after_more, after_plain, open_more, open_now, sweeps_now}
use Rattle.law_answers.proofs.Later.{answered_stay}
use Rattle.law_answers.proofs.Lists.{begun_more, begun_same, since_new}
use Rattle.law_answers.proofs.Stages.{begins_standing}
use Rattle.law_answers.specs.Counts.{CommitIsCounted, ReadByTxn, ReadByDoing, ReadItemsAre, OpenCounted, WaitCounted, read_items_since}
use Rattle.law_answers.proofs.Counting.{counts_end, counts_on, none_counted}
use Rattle.law_answers.proofs.Counts.{counted_under, sweep_begins}
use Rattle.law_answers.specs.Rolled.{WaitRolls}
use Rattle.law_answers.proofs.Rolled.{none_found, rolls_end, rolls_on}
use Rattle.law_answers.proofs.CountsCommit.{commit_begins, commit_none}
use Rattle.law_answers.proofs.CountsNotes.{idle_noted, none_called, noted_idle, since_same, since_stay}
use Rattle.law_answers.specs.Views.{IsViewOf, SeesOwn, SeesOwnIn, ViewBy, GivesOwn}
use Rattle.law_answers.proofs.OwnRows.{has_before}
use Rattle.law_answers.proofs.OwnRowsGiven.{next_given}
use Rattle.law_answers.proofs.OwnRowsAnswered.{ShowsNext, next_same, sees_then, showing_stays, shows_end, shows_further}
use Rattle.sdb_model.specs.Calls.{decision_learned}
use Rattle.sdb_model.specs.Causes.{IsDecided}
use Rattle.sdb_model.specs.ReadSet.{ReadItem, has_read, read_finished}
use Rattle.sdb_model.specs.Transactions.{rest_of}
use Rattle.sdb_record.specs.declared.coordinator.Decision.TheVariants as decision
use Rattle.std.proofs.lemmas.Bool.{and_parts}
use Rattle.sdb_model.specs.Tables.{is_data}

---- texts

pub never_vacuum : (text : List ℕ) (st : Statement) → Reads text st → st ≢ statement.Vacuum → reads_vacuum text ≡ false
never_vacuum text st h other = by_test (reads_vacuum text) (λ t. absurd (other (one_statement text st statement.Vacuum h ((vacuum_read text).0 t)))) (λ t. t)

-- an answer that is no Done begins nothing
pub undone_begins : (s : Executed) (a : Answer) → s.answer ≡ Some a → is_done (Some a) ≡ false → begins s ≡ false
undone_begins s a e d = ap (λ o. reads_begin s.text && is_done o) e ∙ ap (λ b. reads_begin s.text && b) d ∙ none (reads_begin s.text)
  where
    none : (b : Bool) → (b && false) ≡ false
    none true = refl
    none false = refl

-- an answer that is neither Done nor Conflict ends nothing, but of a COMMIT
pub middle_ends : (s : Executed) (a : Answer) → s.answer ≡ Some a → IsMiddle a → reads_commit s.text ≡ false → ends s ≡ false
middle_ends s a e m c = ap (λ o. reads_commit s.text || is_conflict o || (reads_rollback s.text && is_done o)) e ∙ ap (λ b. b || is_conflict (Some a) || (reads_rollback s.text && is_done (Some a))) c ∙ ap (λ b. false || b || (reads_rollback s.text && is_done (Some a))) m.agrees ∙ ap (λ b. false || false || (reads_rollback s.text && b)) m.undone ∙ none (reads_rollback s.text)
  where
    none : (b : Bool) → (false || false || (b && false)) ≡ false
    none true = refl
    none false = refl

-- what a plan leaves does nothing
pub left_idle : (t : TxnAt) (s : PlanStep) → t.doing ≡ doing.Idle → (given_left t s).doing ≡ doing.Idle
left_idle t (Finished a ks) h = by (changes_nothing (given_answer t (Finished a ks)))
  where
    by : (b : Bool) → (if b then t else written t ks).doing ≡ doing.Idle
    by true = h
    by false = h
left_idle t (Wants a) h = h

-- and is the same transaction
pub left_id : (t : TxnAt) (s : PlanStep) → (given_left t s).id ≡ t.id
left_id t (Finished a ks) = by (changes_nothing (given_answer t (Finished a ks)))
  where
    by : (b : Bool) → (if b then t else written t ks).id ≡ t.id
    by true = refl
    by false = refl
left_id t (Wants a) = refl

-- and has read what it had
pub left_reads : (t : TxnAt) (s : PlanStep) → ((given_left t s).seen.reads ≡ t.seen.reads) × ((given_left t s).seen.scans ≡ t.seen.scans)
left_reads t (Finished a ks) = by (changes_nothing (given_answer t (Finished a ks)))
  where
    by : (b : Bool) → ((if b then t else written t ks).seen.reads ≡ t.seen.reads) × ((if b then t else written t ks).seen.scans ≡ t.seen.scans)
    by true = (refl, refl)
    by false = (refl, refl)
left_reads t (Wants a) = (refl, refl)

none_kept : {X : Type 0} (p : X → Bool) (xs : List X) → AllByRecursion (λ x. p x ≡ false) xs → filter p xs ≡ []
none_kept p [] all = refl
none_kept p (x ∷ xs) all = ap (λ b. if b then x ∷ filter p xs else filter p xs) all.0 ∙ none_kept p xs all.1

-- it ends where the events end
taken_ends : (c : ℕ) (events : List Event) (text : List ℕ) (result : Option Answer) → end_of (events ++ event.Take c text result ∷ []) (executed_of_take events text result) ≡ length (events ++ event.Take c text result ∷ [])
taken_ends c events text None = end_waiting (events ++ event.Take c text None ∷ []) (executed_of_take events text None) refl
taken_ends c events text (Some a) = end_answered (events ++ event.Take c text (Some a) ∷ []) (executed_of_take events text (Some a)) a refl ∙ plus (length events) ∙ sym (length_more events (event.Take c text (Some a)))
  where
    plus : (n : ℕ) → 1 + n ≡ n + 1
    plus n = omega arith

-- a statement that is accepted has made no call
pub none_yet : (c : ℕ) (events : List Event) (text : List ℕ) (result : Option Answer) → calls_of (events ++ event.Take c text result ∷ []) c (executed_of_take events text result) ≡ []
none_yet c events text result =
    calls_open c (events ++ event.Take c text result ∷ []) (executed_of_take events text result) (taken_ends c events text result)
    ∙ later_same c events (event.Take c text result) (1 + length events) refl
    ∙ none_kept (λ m. nat_lt (1 + length events) m.at) (calls_by events c) (each (calls_by events c) (calls_within c events))
  where
    low : (k n : ℕ) → k < 1 + n → nat_lt (1 + n) k ≡ false
    low k n l = grind (arith, nat_tests)

    each : (xs : List StoreCall) → AllByRecursion (λ m. m.at < 1 + length events) xs → AllByRecursion (λ m. nat_lt (1 + length events) m.at ≡ false) xs
    each [] a = tt
    each (x ∷ xs) a = (low x.at (length events) a.0, each xs a.1)

---- the taking

module _ (catalog : List Table) (q : Taking) (events : List Event) (current : q.catalog ≡ catalog_after catalog events) (states : ℕ → ClientState) (ex : CauseInvariant catalog events q.now states) (c : ℕ) (ready : IsReady states c) (gate : IsGate states c q.gate) (moment : is_moment q.now ≡ true) (is : is_catalog q.catalog ≡ true)
    (sound : (t : TxnAt) → (states c).client.txn ≡ Some t → IsTaken t.seen) (apart : (x : Key) → is_some (find_table q.catalog x.table) ≡ true → is_data x ≡ true) (text : List ℕ) (numbered : q.fresh ≡ next_id (states c).client) where
  abbrev h : Client
  h = (states c).client

  abbrev was : Knows catalog events c h
  was = ex.each c

  stands_free : DoingByHistory events c h.begun was.entries was.waiting h.plan h.txn
  stands_free = subst (ClientByHistory events c h.begun was.entries was.waiting h.plan h.txn) ready.idle.free was.agrees

  waits_none : was.waiting ≡ None
  waits_none = by h.txn stands_free ready.idle.still
    where
      by_doing : (t : TxnAt) (d : Doing) → d ≡ doing.Idle → IsDoing events c t h.plan was.waiting d → was.waiting ≡ None
      by_doing t d e s = subst (IsDoing events c t h.plan was.waiting) e s

      by : (o : Option TxnAt) → DoingByHistory events c h.begun was.entries was.waiting h.plan o → IfSome o (λ t. t.doing ≡ doing.Idle) → was.waiting ≡ None
      by None s i = s.0
      by (Some t) s i = by_doing t t.doing i s.2

  -- what holds of its transaction, under the catalog with which it runs
  under_now : (P : List Table → TxnAt → Type 0) (o : Option TxnAt) → IsCurrent catalog events o was.under → IfSome o (P was.under) → IfSome o (P q.catalog)
  under_now P None runs h = tt
  under_now P (Some t) runs h = subst (λ (ts : List Table). P ts t) (runs ∙ sym current) h

  -- it runs under the catalog of the moment, with which the statement is taken
  abbrev k : Knows catalog events c h
  k = record {
    entries = was.entries;
    waiting = was.waiting;
    under = q.catalog;
    asked = subst (λ (o : Option Executed). IfSome o (λ w. catalog_after catalog (before w events) ≡ q.catalog)) (sym waits_none) tt;
    same = was.same;
    answered = was.answered;
    waits = was.waits;
    moved = was.moved;
    number = was.number;
    begun = was.begun;
    small = was.small;
    agrees = was.agrees;
    counted = was.counted;
    filled = was.filled;
    fits = under_now (λ ts t. IsFitOrReadTxn ts events c (rest_of (from_begin h.begun was.entries)) t) h.txn (ex.current c ready.goes_on) was.fits;
    stored = was.stored;
    rolled = was.rolled;
    shows = record { given_own = was.shows.given_own; sees_own = under_now (λ ts t. IsViewOf ts events c (rest_of (from_begin h.begun was.entries)) t) h.txn (ex.current c ready.goes_on) was.shows.sees_own };
  }

  -- with the event
  abbrev E : Option Answer → List Event
  E result = events ++ event.Take c text result ∷ []

  abbrev pub Turned : Option Answer → Type 0
  Turned result = (b : Answer) → IsRejected catalog events c text b → (result ≡ Some b) ⊎ (result ≡ Some answer.NoMemory)

  said_told : statements_by c events ≡ k.entries
  said_told = k.same ∙ ap (λ o. k.entries ++ waiting_of o) waits_none ∙ append-nil k.entries

  opened : (d : ℕ) → is_open events d ≡ is_some (states d).client.txn
  opened d = open_now catalog events d (states d).client (ex.each d)

  sweeping : (d : ℕ) → runs_vacuum events d ≡ is_some (states d).client.vacuum
  sweeping d = sweeps_now catalog events d (states d).client (ex.each d)

  goes_on : has_stopped c events ≡ false
  goes_on = ex.stopped c ∙ ready.goes_on

  ---- what it is answered

  turns_begin : (o : Option TxnAt) (result : Option Answer) (d : Client) → is_some o ≡ true → BeginPost q.gate q.fresh h o result d → result ≡ Some (refused 4)
  turns_begin (Some t) result d e x = x.answer
  turns_begin None result d e x = clash (sym e)

  turns_commit : (o : Option TxnAt) (result : Option Answer) (d : Client) → is_some o ≡ false → CommitStartPost q.now h o result d → result ≡ Some (refused 5)
  turns_commit (Some t) result d e x = clash e
  turns_commit None result d e x = x.answer

  turns_rollback : (o : Option TxnAt) (result : Option Answer) (d : Client) → is_some o ≡ false → RollbackPost h o result d → result ≡ Some (refused 5)
  turns_rollback (Some t) result d e x = clash e
  turns_rollback None result d e x = x.answer

  turns_ask : (st : Statement) (o : Option TxnAt) (result : Option Answer) (d : Client) → is_some o ≡ false → AskPost q.catalog st h o result d → result ≡ Some (refused 5)
  turns_ask st (Some t) result d e x = clash e
  turns_ask st None result d e x = x.answer

  turns_outside : (st : Statement) (result : Option Answer) (d : Client) → NeedsTransaction st → is_some h.txn ≡ false → StatementPost q st h result d → result ≡ Some (refused 5)
  turns_outside statement.Begin result d n e x = absurd (n.0 refl)
  turns_outside statement.Commit result d n e x = turns_commit h.txn result d e x
  turns_outside statement.Rollback result d n e x = turns_rollback h.txn result d e x
  turns_outside statement.Vacuum result d n e x = absurd (n.1 refl)
  turns_outside (statement.Insert s) result d n e x = turns_ask (statement.Insert s) h.txn result d e x
  turns_outside (statement.Upsert s) result d n e x = turns_ask (statement.Upsert s) h.txn result d e x
  turns_outside (statement.Update s) result d n e x = turns_ask (statement.Update s) h.txn result d e x
  turns_outside (statement.Delete s) result d n e x = turns_ask (statement.Delete s) h.txn result d e x
  turns_outside (statement.Select s) result d n e x = turns_ask (statement.Select s) h.txn result d e x

  unfits : (st : Statement) (r : Refusal) (o : Option TxnAt) (result : Option Answer) (d : Client) → is_some o ≡ true → refusal_of q.catalog st ≡ Some r → AskPost q.catalog st h o result d → result ≡ Some (answer.Refused r)
  unfits st r (Some t) result d e f x = (x.refused r f).answer
  unfits st r None result d e f x = clash (sym e)

  turns_unfit : (st : Statement) (r : Refusal) (result : Option Answer) (d : Client) → is_some (table_of st) ≡ true → is_some h.txn ≡ true → refusal_of q.catalog st ≡ Some r → StatementPost q st h result d → result ≡ Some (answer.Refused r)
  turns_unfit statement.Begin r result d n e f x = clash (sym n)
  turns_unfit statement.Commit r result d n e f x = clash (sym n)
  turns_unfit statement.Rollback r result d n e f x = clash (sym n)
  turns_unfit statement.Vacuum r result d n e f x = clash (sym n)
  turns_unfit (statement.Insert s) r result d n e f x = unfits (statement.Insert s) r h.txn result d e f x
  turns_unfit (statement.Upsert s) r result d n e f x = unfits (statement.Upsert s) r h.txn result d e f x
  turns_unfit (statement.Update s) r result d n e f x = unfits (statement.Update s) r h.txn result d e f x
  turns_unfit (statement.Delete s) r result d n e f x = unfits (statement.Delete s) r h.txn result d e f x
  turns_unfit (statement.Select s) r result d n e f x = unfits (statement.Select s) r h.txn result d e f x

  -- a client that goes on has a transaction open: this one, or another
  meets : SomeClient is_open events → (is_some h.txn || q.gate.open_elsewhere) ≡ true
  meets (d, goes, is) = by (d == c) refl
    where
      either : (a b : Bool) → b ≡ true → (a || b) ≡ true
      either true b e = refl
      either false b e = e

      by : (b : Bool) → (d == c) ≡ b → (is_some h.txn || q.gate.open_elsewhere) ≡ true
      by true e = ap (λ b. b || q.gate.open_elsewhere) (sym (ap (λ n. is_some (states n).client.txn) (eqb-true d c e)) ∙ sym (opened d) ∙ is)
      by false e =
          either (is_some h.txn) q.gate.open_elsewhere
          (by_test q.gate.open_elsewhere (λ t. t) (λ f. clash (sym (sym (opened d) ∙ is) ∙ gate.none f d (eqb-false d c e) (sym (ex.stopped d) ∙ goes))))

  vacuum_turned : (b : Bool) (ts : List Table) (result : Option Answer) (d : Client) → b ≡ true → VacuumStartPost b ts h result d → result ≡ Some answer.OpenTransactions
  vacuum_turned true ts result d e x = x.answer
  vacuum_turned false ts result d e x = clash (sym e)

  -- a client that goes on runs VACUUM: another one, since this one waits for a statement
  meets_sweep : SomeClient runs_vacuum events → q.gate.vacuum_runs ≡ true
  meets_sweep (d, goes, is) = by (d == c) refl
    where
      by : (b : Bool) → (d == c) ≡ b → q.gate.vacuum_runs ≡ true
      by true e = clash (sym (sym (sweeping d) ∙ is) ∙ ap is_some (ap (λ n. (states n).client.vacuum) (eqb-true d c e) ∙ ready.idle.free))
      by false e = by_test q.gate.vacuum_runs (λ t. t) (λ f. clash (sym (sym (sweeping d) ∙ is) ∙ gate.rests f d (eqb-false d c e) (sym (ex.stopped d) ∙ goes)))

  gate_turned : (b : Bool) (result : Option Answer) (d : Client) → b ≡ true → GatePost b q.fresh h result d → result ≡ Some answer.Vacuuming
  gate_turned true result d e x = x.answer
  gate_turned false result d e x = clash (sym e)

  turns_sweep : (o : Option TxnAt) (result : Option Answer) (d : Client) → is_some o ≡ false → q.gate.vacuum_runs ≡ true → BeginPost q.gate q.fresh h o result d → result ≡ Some answer.Vacuuming
  turns_sweep (Some t) result d e f x = clash e
  turns_sweep None result d e f x = gate_turned q.gate.vacuum_runs result d f x

  -- it is turned away where it is to be
  turned_told : (result : Option Answer) (d : Client) → TextPost q text h result d → Turned result
  turned_told result d (Err r, refuses, x) b (inl (s, f, e)) = inl (x.answer ∙ ap (λ y. Some (answer.Refused y)) (one_refusal text r s refuses f) ∙ ap Some (sym e))
  turned_told result d (Err r, refuses, x) b (inr (inl y)) = absurd (not_both text statement.Begin r y.0 refuses)
  turned_told result d (Err r, refuses, x) b (inr (inr (inl y))) = absurd (not_both text y.0 r y.1 refuses)
  turned_told result d (Err r, refuses, x) b (inr (inr (inr (inl y)))) = absurd (not_both text y.0 r y.2 refuses)
  turned_told result d (Err r, refuses, x) b (inr (inr (inr (inr (inl y))))) = absurd (not_both text statement.Begin r y.0 refuses)
  turned_told result d (Err r, refuses, x) b (inr (inr (inr (inr (inr y))))) = absurd (not_both text statement.Vacuum r y.0 refuses)
  turned_told result d (Ok st, reads, x) b (inl (r, f, e)) = absurd (not_both text st r reads f)
  turned_told result d (Ok st, reads, x) b (inr (inl y)) =
      inl (turns_begin h.txn result d (sym (opened c) ∙ y.1) (subst (λ z. StatementPost q z h result d) (one_statement text st statement.Begin reads y.0) x) ∙ ap Some (sym y.2))
  turned_told result d (Ok st, reads, x) b (inr (inr (inl y))) =
      inl (turns_outside y.0 result d y.2 (sym (opened c) ∙ y.3) (subst (λ z. StatementPost q z h result d) (one_statement text st y.0 reads y.1) x) ∙ ap Some (sym y.4))
  turned_told result d (Ok st, reads, x) b (inr (inr (inr (inl y)))) =
      inl (turns_unfit y.0 y.1 result d y.4 (sym (opened c) ∙ y.3) (ap (λ (ts : List Table). refusal_of ts y.0) current ∙ y.5) (subst (λ z. StatementPost q z h result d) (one_statement text st y.0 reads y.2) x) ∙ ap Some (sym y.6))
  turned_told result d (Ok st, reads, x) b (inr (inr (inr (inr (inl y))))) =
      inl (turns_sweep h.txn result d (sym (opened c) ∙ y.1) (meets_sweep y.2) (subst (λ z. StatementPost q z h result d) (one_statement text st statement.Begin reads y.0) x) ∙ ap Some (sym y.3))
  turned_told result d (Ok st, reads, x) b (inr (inr (inr (inr (inr y))))) =
      inl (vacuum_turned (is_some h.txn || q.gate.open_elsewhere) q.catalog result d (meets y.1) (subst (λ z. StatementPost q z h result d) (one_statement text st statement.Vacuum reads y.0) x) ∙ ap Some (sym y.2))

  ---- where the client is then known

  abbrev So : Option Answer → Client → Type 0
  So result d = KnowsUnder catalog (E result) c d q.catalog

  as_so : (r result : Option Answer) (u d : Client) → result ≡ r → d ≡ u → So r u → So result d
  as_so r result u d e f s = subst (λ (x : Option Answer). So x d) (sym e) (subst (λ (x : Client). So r x) (sym f) s)

  abbrev one : Option Answer → Executed
  one result = executed_of_take events text result

  -- it runs under that catalog
  asked_now : (result : Option Answer) → catalog_after catalog (before (one result) (E result)) ≡ q.catalog
  asked_now result = ap (catalog_after catalog) (before_taken events (event.Take c text result) text result) ∙ sym current

  still_stored : (result : Option Answer) → AreStoredReplies (calls_by (E result) c)
  still_stored result = subst AreStoredReplies (sym (none_made c events (event.Take c text result) refl)) k.stored

  within_now : (result : Option Answer) → 1 + length events ≤ length (E result)
  within_now result = let e : length (E result) ≡ length events + 1 = length_more events (event.Take c text result) in omega arith

  away : (result : Option Answer) (b : Answer) → IsRejected catalog (before (one result) (E result)) c text b → IsRejected catalog events c text b
  away result b = subst (λ es. IsRejected catalog es c text b) (before_taken events (event.Take c text result) text result)

  -- why it is answered so
  abbrev Caused : Answer → Type 0
  Caused b = is_conflict (Some b) ≡ false → IsCaused catalog (E (Some b)) c (one (Some b)) b

  by_turning : (b : Answer) → IsRejected catalog events c text b → IsRejected catalog (before (one (Some b)) (E (Some b))) c text b
  by_turning b = subst (λ es. IsRejected catalog es c text b) (sym (before_taken events (event.Take c text (Some b)) text (Some b)))

  -- a BEGIN is answered Done where no transaction is open
  pairs_once : (b : Answer) → Turned (Some b) → begins (one (Some b)) ≡ true → open_after k.entries ≡ false
  pairs_once b turned begins_it = by_test (open_after k.entries) (λ t. absurd (undone (turned (refused 4) (inr (inl ((begin_read text).0 both.0, ap open_after said_told ∙ t, refl)))))) (λ f. f)
    where
      both : (reads_begin text ≡ true) × (is_done (Some b) ≡ true)
      both = and_parts (reads_begin text) (is_done (Some b)) begins_it

      undone : (◌≡◌ {A = Option Answer} (Some b) (Some (refused 4))) ⊎ (◌≡◌ {A = Option Answer} (Some b) (Some answer.NoMemory)) → ⊥
      undone (inl e) = clash (sym both.1 ∙ ap is_done e)
      undone (inr e) = clash (sym both.1 ∙ ap is_done e)

  -- one that makes no call isn't answered Committed
  fits_once : (b : Answer) → Caused b → reads_commit text ≡ true → open_after k.entries ≡ true → CommitIsCounted (read_items_since events c h.begun k.entries) (id_of c h.begun) (Some b) []
  fits_once b caused reads opened = commit_none (read_items_since events c h.begun k.entries) (id_of c h.begun) (Some b) (λ e. absurd (uncommitted (some_is b answer.Committed e)))
    where
      undecided : (calls : List StoreCall) (id : TxId) → calls ≡ [] → IsDecided decision.Committed (decision_learned calls id) → ⊥
      undecided calls id none h = subst (λ ms. IsDecided decision.Committed (decision_learned ms id)) none h

      uncommitted : b ≡ answer.Committed → ⊥
      uncommitted e =
          let z : IsCaused catalog (E (Some b)) c (one (Some b)) answer.Committed = subst (λ a. is_conflict (Some a) ≡ false → IsCaused catalog (E (Some b)) c (one (Some b)) a) e caused refl in
          undecided (calls_of (E (Some b)) c (one (Some b))) z.0 (none_yet c events text (Some b)) z.2

  -- what its transaction has then noted
  abbrev NotedThen : Option Answer → Client → Type 0
  NotedThen result d = ReadByTxn (read_items_since (E result) c d.begun (k.entries ++ one result ∷ [])) d.txn

  -- it is answered at once
  at_once : (b : Answer) (d : Client) → is_conflict (Some b) ≡ false → Caused b → Turned (Some b) → d.number ≡ h.number → d.begun ≡ begun_in (k.entries ++ one (Some b) ∷ []) → d.begun < 2 ^ 64
      → ClientByHistory (E (Some b)) c d.begun (k.entries ++ one (Some b) ∷ []) None d.plan d.txn d.vacuum → NotedThen (Some b) d → IfSome d.txn (IsFilled (E (Some b)) c (rest_of (from_begin d.begun (k.entries ++ one (Some b) ∷ [])))) → IfSome d.txn (IsFitOrReadTxn q.catalog (E (Some b)) c (rest_of (from_begin d.begun (k.entries ++ one (Some b) ∷ [])))) → ShowsNext catalog q.catalog (E (Some b)) c k.entries (one (Some b)) b d → So (Some b) d
  at_once b d agrees caused turned number begun small agreed as_read filled fits shows = (
    record {
      entries = k.entries ++ one (Some b) ∷ [];
      waiting = None;
      under = q.catalog;
      asked = tt;
      same = executed_more ∙ sym (append-nil (k.entries ++ one (Some b) ∷ []));
      answered = each_more (IsAnswered catalog (E (Some b)) c) k.entries (one (Some b)) (answered_stay catalog c events (event.Take c text (Some b)) k.entries (inr (inl (one (Some b), said_now))) k.answered) (record {
        given = b;
        is = refl;
        accepted = within_now (Some b);
        answered = within_now (Some b);
        caused = caused;
        rejected = λ a t. (refl, turned a (away (Some b) a t));
      });
      waits = tt;
      moved = moved_all catalog events (event.Take c text (Some b)) c k.entries (one (Some b)) k.answered k.moved (unmoved (E (Some b)) c (k.entries ++ one (Some b) ∷ []) (one (Some b)) b refl agrees);
      number = number ∙ k.number;
      begun = begun;
      small = small;
      agrees = agreed;
      counted = counts_end catalog c events (event.Take c text (Some b)) k.entries k.waiting h k.answered k.counted (one (Some b)) d [] k.begun (none_yet c events text (Some b)) (none_counted catalog text [] refl) (pairs_once b turned) (fits_once b caused) as_read;
      filled = filled;
      fits = fits;
      stored = still_stored (Some b);
      rolled = rolls_end catalog c events (event.Take c text (Some b)) k.entries k.waiting h k.answered k.rolled (one (Some b)) d [] (none_yet c events text (Some b)) (λ read. none_found (E (Some b)) (reads_vacuum text));
      shows = shows_end catalog q.catalog c events (event.Take c text (Some b)) k.entries k.answered h k.shows k.counted.paired q.catalog (one (Some b)) b d refl shows;
    },
    refl,
  )
    where
      said_now : statements_by c (E (Some b)) ≡ statements_by c events ++ one (Some b) ∷ []
      said_now = take_executed c events text (Some b)

      executed_more : statements_by c (E (Some b)) ≡ k.entries ++ one (Some b) ∷ []
      executed_more = said_now ∙ ap (λ ss. ss ++ one (Some b) ∷ []) said_told

  -- what its transaction has noted so far
  abbrev so_id : TxId
  so_id = id_of c h.begun

  abbrev so_noted : List ReadItem
  so_noted = read_items_since events c h.begun k.entries

  -- what it then sees
  abbrev SeesThen : Client → Type 0
  SeesThen d = ViewBy catalog q.catalog events c k.entries h → IfSome d.txn (IsViewOf q.catalog (E None) c (rest_of (from_begin d.begun k.entries)))

  -- it waits
  waits : (d : Client) → Turned None → reads_begin text ≡ false → reads_vacuum text ≡ is_some d.vacuum → is_some h.txn ≡ not (is_some d.vacuum) → d.number ≡ h.number → d.begun ≡ h.begun
      → ClientByHistory (E None) c d.begun k.entries (Some (one None)) d.plan d.txn d.vacuum → ReadByTxn so_noted d.txn × WaitCounted catalog text so_id so_noted [] d.vacuum d.txn → IfSome d.txn (IsFilled (E None) c (rest_of (from_begin d.begun k.entries))) → IfSome d.txn (IsFitOrReadTxn q.catalog (E None) c (rest_of (from_begin d.begun k.entries))) → WaitRolls (E None) (reads_vacuum text) [] d.vacuum d.txn → SeesThen d → So None d
  waits d turned no_begin vacuums open_txn number begun agreed begins_counted filled fits rolls sees = (
    record {
      entries = k.entries;
      waiting = Some (one None);
      under = q.catalog;
      asked = asked_now None;
      same = take_executed c events text None ∙ ap (λ ss. ss ++ one None ∷ []) said_told;
      answered = answered_stay catalog c events (event.Take c text None) k.entries (inr (inl (one None, take_executed c events text None))) k.answered;
      waits = record {
        unanswered = refl;
        accepted = within_now None;
        begin = no_begin;
        vacuum = vacuums;
        opened = ap (λ es. is_open es c) (before_taken events (event.Take c text None) text None) ∙ opened c ∙ open_txn;
        stays = λ a t. none (turned a (away None a t));
      };
      moved = moved_still catalog events (event.Take c text None) c k.entries k.entries k.answered k.moved;
      number = number ∙ k.number;
      begun = begun ∙ k.begun;
      small = subst (λ n. n < 2 ^ 64) (sym begun) k.small;
      agrees = agreed;
      counted = counts_on catalog c events (event.Take c text None) k.entries k.waiting h k.answered k.counted (one None) d [] begun (none_yet c events text None) begins_counted.0 begins_counted.1;
      filled = filled;
      fits = fits;
      stored = still_stored None;
      rolled = rolls_on catalog c events (event.Take c text None) k.entries k.waiting h k.answered k.rolled (one None) d [] (none_yet c events text None) rolls;
      shows = shows_further catalog q.catalog c events (event.Take c text None) k.entries k.answered h k.shows q.catalog d sees;
    },
    refl,
  )
    where
      none : {b : Answer} → (◌≡◌ {A = Option Answer} None (Some b)) ⊎ (◌≡◌ {A = Option Answer} None (Some answer.NoMemory)) → ⊥
      none (inl e) = none_some _ e
      none (inr e) = none_some _ e

  -- and its transaction is open
  waits_open : (d : Client) → Turned None → reads_begin text ≡ false → reads_vacuum text ≡ false → is_some h.txn ≡ true → d.number ≡ h.number → d.begun ≡ h.begun → d.vacuum ≡ h.vacuum
      → DoingByHistory (E None) c d.begun k.entries (Some (one None)) d.plan d.txn → ReadByTxn so_noted d.txn × OpenCounted text so_id so_noted [] d.txn → IfSome d.txn (IsFilled (E None) c (rest_of (from_begin d.begun k.entries))) → IfSome d.txn (IsFitOrReadTxn q.catalog (E None) c (rest_of (from_begin d.begun k.entries))) → WaitRolls (E None) (reads_vacuum text) [] None d.txn → SeesThen d → So None d
  waits_open d turned no_begin no_vacuum open_txn number begun same agreed begins_counted filled fits rolls sees =
      let free : d.vacuum ≡ None = same ∙ ready.idle.free in
      waits d turned no_begin (no_vacuum ∙ sym (ap is_some free)) (open_txn ∙ sym (ap (λ o. not (is_some o)) free)) number begun (subst (ClientByHistory (E None) c d.begun k.entries (Some (one None)) d.plan d.txn) (sym free) agreed) (begins_counted.0, subst (λ v. WaitCounted catalog text so_id so_noted [] v d.txn) (sym free) begins_counted.1) filled fits (subst (λ v. WaitRolls (E None) (reads_vacuum text) [] v d.txn) (sym free) rolls) sees

  ---- where it is then

  -- it runs no VACUUM
  on_free : (result : Option Answer) (n : ℕ) (answered : List Executed) (w : Option Executed) (p : Option Planned) (o : Option TxnAt) → DoingByHistory (E result) c n answered w p o → ClientByHistory (E result) c n answered w p o h.vacuum
  on_free result n answered w p o = subst (ClientByHistory (E result) c n answered w p o) (sym ready.idle.free)

  begun_plain : (b : Answer) → is_done (Some b) ≡ false → h.begun ≡ begun_in (k.entries ++ one (Some b) ∷ [])
  begun_plain b d = k.begun ∙ sym (begun_same k.entries (one (Some b)) (undone_begins (one (Some b)) b refl d))

  stands_none : (b : Answer) (p : Option Planned) → is_done (Some b) ≡ false → open_after k.entries ≡ false → DoingByHistory (E (Some b)) c h.begun (k.entries ++ one (Some b) ∷ []) None p None
  stands_none b p d f = (refl, after_more k.entries (one (Some b)) ∙ ap (λ w. is_open_after w (one (Some b))) f ∙ after_plain false (one (Some b)) (undone_begins (one (Some b)) b refl d) (λ e. clash (sym e)))

  -- the open transaction, which does nothing, goes on
  stands_held : (b : Answer) (p : Option Planned) (t u : TxnAt) → IsMiddle b → reads_commit text ≡ false → u.id ≡ t.id → u.doing ≡ doing.Idle → open_after k.entries ≡ true → (o : IsOpenAs c h.begun k.entries t) → SeenBy (read_items_of_body events c o.body) t.seen → u.seen.reads ≡ t.seen.reads → u.seen.scans ≡ t.seen.scans → DoingByHistory (E (Some b)) c h.begun (k.entries ++ one (Some b) ∷ []) None p (Some u)
  stands_held b p t u m no_commit same idle is o noting r x = (
    after_more k.entries (one (Some b)) ∙ ap (λ w. is_open_after w (one (Some b))) is ∙ after_plain true (one (Some b)) (undone_begins (one (Some b)) b refl m.undone) (λ e. middle_ends (one (Some b)) b refl m no_commit),
    open_more c h.begun k.entries t u (one (Some b)) same (middle_ends (one (Some b)) b refl m no_commit) o,
    subst (IsDoing (E (Some b)) c u p None) (sym idle) refl,
    subst (λ d. IsReadSetOf (E (Some b)) c (k.entries ++ one (Some b) ∷ []) (o.body ++ one (Some b) ∷ []) u d None) (sym idle) (noted_more catalog events (event.Take c text (Some b)) c h.begun k.entries t o k.answered (one (Some b)) t.seen u.seen r x noting),
  )

  idle_of : (t : TxnAt) → h.txn ≡ Some t → t.doing ≡ doing.Idle
  idle_of t e = subst (λ (o : Option TxnAt). IfSome o (λ u. u.doing ≡ doing.Idle)) e ready.idle.still

  stands_open : (t : TxnAt) → h.txn ≡ Some t → (open_after k.entries ≡ true) × (o : IsOpenAs c h.begun k.entries t) × SeenBy (read_items_of_body events c o.body) t.seen
  stands_open t e = let s = subst (DoingByHistory events c h.begun k.entries k.waiting h.plan) e stands_free in (s.0, s.1, subst (λ d. IsReadSetOf events c k.entries s.1.body t d k.waiting) (idle_of t e) s.3)

  noted_open : (t : TxnAt) → h.txn ≡ Some t → ReadItemsAre so_noted t.seen.reads t.seen.scans
  noted_open t e = idle_noted so_noted t.seen t.doing (idle_of t e) (subst (ReadByTxn so_noted) e k.counted.as_read)

  -- it makes no call, and notes nothing
  noted_at_once : (result : Option Answer) → read_items_since (E result) c h.begun (k.entries ++ one result ∷ []) ≡ so_noted
  noted_at_once result = since_same (E result) c h.begun k.entries (one result) (none_called (E result) c (one result) (none_yet c events text result)) ∙ since_stay catalog events (event.Take c text result) c h.begun k.entries k.answered

  -- no more keys are written than rows counted
  filled_open : (t : TxnAt) (e : h.txn ≡ Some t) → IsFilledBy (rows_counted_by (stands_open t e).1.body) (records_found_by events c (stands_open t e).1.body) t.seen
  filled_open t e =
      let s : IsFilledIn events c (rest_of (from_begin h.begun k.entries)) t.seen t.doing = subst (λ (o : Option TxnAt). IfSome o (IsFilled events c (rest_of (from_begin h.begun k.entries)))) e k.filled in
      subst (λ r. IsFilledIn events c (rest_of r) t.seen doing.Idle) (stands_open t e).1.since (subst (IsFilledIn events c (rest_of (from_begin h.begun k.entries)) t.seen) (idle_of t e) s)

  filled_reading : (t : TxnAt) → h.txn ≡ Some t → IsFilledBy (rows_counted_by (rest_of (from_begin h.begun k.entries))) (records_found_by (E None) c (rest_of (from_begin h.begun k.entries))) t.seen
  filled_reading t e = subst (IsFilledIn (E None) c (rest_of (from_begin h.begun k.entries)) t.seen) (idle_of t e) (filled_stays catalog events (event.Take c text None) c (rest_of (from_begin h.begun k.entries)) (Some t) (rest_all (IsAnswered catalog events c) h.begun k.entries k.answered) (subst (λ (o : Option TxnAt). IfSome o (IsFilled events c (rest_of (from_begin h.begun k.entries)))) e k.filled))

  -- its statements were answered
  body_open : (t : TxnAt) (e : h.txn ≡ Some t) → AllByRecursion (IsAnswered catalog events c) (stands_open t e).1.body
  body_open t e = let o = (stands_open t e).1 in since_all (IsAnswered catalog events c) h.begun k.entries o.begin o.body k.answered o.since

  -- what it sees fits, or one of them read it
  fit_stays : (result : Option Answer) → IfSome h.txn (IsFitOrReadTxn q.catalog (E result) c (rest_of (from_begin h.begun k.entries)))
  fit_stays result = fits_stay catalog q.catalog events (event.Take c text result) c h.begun k.entries h.txn k.answered k.fits

  fit_reading : (t : TxnAt) → h.txn ≡ Some t → SeesFitOrRead q.catalog (E None) c (rest_of (from_begin h.begun k.entries)) t.seen
  fit_reading t e = subst (SeesFitOrReadIn q.catalog (E None) c (rest_of (from_begin h.begun k.entries)) t.seen) (idle_of t e) (subst (λ (o : Option TxnAt). IfSome o (IsFitOrReadTxn q.catalog (E None) c (rest_of (from_begin h.begun k.entries)))) e (fit_stays None))

  fit_more : (b : Answer) (t : TxnAt) (e : h.txn ≡ Some t) → SeesFitOrRead q.catalog (E (Some b)) c ((stands_open t e).1.body ++ one (Some b) ∷ []) t.seen
  fit_more b t e =
      let s : SeesFitOrReadIn q.catalog (E (Some b)) c (rest_of (from_begin h.begun k.entries)) t.seen t.doing = subst (λ (o : Option TxnAt). IfSome o (IsFitOrReadTxn q.catalog (E (Some b)) c (rest_of (from_begin h.begun k.entries)))) e (fit_stays (Some b)) in
      fits_more q.catalog (E (Some b)) c (stands_open t e).1.body (one (Some b)) t.seen
      (subst (λ r. SeesFitOrReadIn q.catalog (E (Some b)) c (rest_of r) t.seen doing.Idle) (stands_open t e).1.since (subst (SeesFitOrReadIn q.catalog (E (Some b)) c (rest_of (from_begin h.begun k.entries)) t.seen) (idle_of t e) s))

  -- what it sees it has
  sees_open : (t : TxnAt) (e : h.txn ≡ Some t) → SeesOwn q.catalog events c (stands_open t e).1.body t.seen
  sees_open t e =
      let s : SeesOwnIn q.catalog events c (rest_of (from_begin h.begun k.entries)) t.seen t.doing = subst (λ (o : Option TxnAt). IfSome o (IsViewOf q.catalog events c (rest_of (from_begin h.begun k.entries)))) e k.shows.sees_own in
      subst (λ r. SeesOwnIn q.catalog events c (rest_of r) t.seen doing.Idle) (stands_open t e).1.since (subst (SeesOwnIn q.catalog events c (rest_of (from_begin h.begun k.entries)) t.seen) (idle_of t e) s)

  sees_reading : (t : TxnAt) → h.txn ≡ Some t → ViewBy catalog q.catalog events c k.entries h → SeesOwn q.catalog (E None) c (rest_of (from_begin h.begun k.entries)) t.seen
  sees_reading t e x = subst (SeesOwnIn q.catalog (E None) c (rest_of (from_begin h.begun k.entries)) t.seen) (idle_of t e) (showing_stays catalog q.catalog events (event.Take c text None) c h.begun k.entries (Some t) k.answered (subst (λ (o : Option TxnAt). IfSome o (IsViewOf q.catalog events c (rest_of (from_begin h.begun k.entries)))) e x.sees_own))

  -- what it said then
  said_then : (b : Answer) → statements_by c (E (Some b)) ≡ k.entries ++ one (Some b) ∷ []
  said_then b = take_executed c events text (Some b) ∙ ap (λ ss. ss ++ one (Some b) ∷ []) said_told

  stands_closed : h.txn ≡ None → open_after k.entries ≡ false
  stands_closed e = (subst (DoingByHistory events c h.begun k.entries k.waiting h.plan) e stands_free).1

  -- as it was
  same : (b : Answer) → IsMiddle b → (is_some h.txn ≡ true → reads_commit text ≡ false) → (is_some h.txn ≡ true → changes_nothing b ≡ true) → Caused b → Turned (Some b) → So (Some b) h
  same b m no_commit idles caused turned = at_once b h m.agrees caused turned refl (begun_plain b m.undone) k.small (on_free (Some b) h.begun (k.entries ++ one (Some b) ∷ []) None h.plan h.txn (by h.txn refl)) (subst (λ ns. ReadByTxn ns h.txn) (sym (noted_at_once (Some b))) k.counted.as_read) (filled_by h.txn refl) (fits_by h.txn refl) (shows_by h.txn refl)
    where
      by : (o : Option TxnAt) → h.txn ≡ o → DoingByHistory (E (Some b)) c h.begun (k.entries ++ one (Some b) ∷ []) None h.plan o
      by None e = stands_none b h.plan m.undone (stands_closed e)
      by (Some t) e = let s = stands_open t e in stands_held b h.plan t t m (no_commit (ap is_some e)) refl (idle_of t e) s.0 s.1 s.2 refl refl

      filled_by : (o : Option TxnAt) → h.txn ≡ o → IfSome o (IsFilled (E (Some b)) c (rest_of (from_begin h.begun (k.entries ++ one (Some b) ∷ []))))
      filled_by None e = tt
      filled_by (Some t) e =
          let o = (stands_open t e).1 in
          filled_idle (E (Some b)) c h.begun k.entries (one (Some b)) o.begin o.body t o.since (idle_of t e) (filled_more catalog events (event.Take c text (Some b)) c o.body (one (Some b)) t.seen (body_open t e) (filled_open t e))

      fits_by : (o : Option TxnAt) → h.txn ≡ o → IfSome o (IsFitOrReadTxn q.catalog (E (Some b)) c (rest_of (from_begin h.begun (k.entries ++ one (Some b) ∷ []))))
      fits_by None e = tt
      fits_by (Some t) e = let o = (stands_open t e).1 in fits_idle q.catalog (E (Some b)) c h.begun k.entries (one (Some b)) o.begin o.body t o.since (idle_of t e) (fit_more b t e)

      shows_by : (o : Option TxnAt) → h.txn ≡ o → (open_after k.entries ≡ true → GivesOwn (catalog_after catalog (before (one (Some b)) (E (Some b)))) (E (Some b)) c (rest_of (from_begin (begun_in k.entries) k.entries)) (one (Some b)) b) × IfSome o (IsViewOf q.catalog (E (Some b)) c (rest_of (from_begin h.begun (k.entries ++ one (Some b) ∷ []))))
      shows_by None e = ((λ opens. clash (sym opens ∙ stands_closed e)), tt)
      shows_by (Some t) e =
          let o = (stands_open t e).1 in
          next_same catalog q.catalog c events (event.Take c text (Some b)) k.entries k.answered h.begun o.begin o.body o.since t.seen (sees_open t e) (one (Some b)) b t refl (idles (ap is_some e)) (idle_of t e) refl

  refused_middle : (r : Refusal) → IsMiddle (answer.Refused r)
  refused_middle r = record { undone = refl; agrees = refl }

  -- it is refused
  as_refused : (r : Refusal) → (is_some h.txn ≡ true → reads_commit text ≡ false) → IsRejected catalog events c text (answer.Refused r) → Turned (Some (answer.Refused r)) → So (Some (answer.Refused r)) h
  as_refused r no_commit why turned = same (answer.Refused r) (refused_middle r) no_commit (λ z. refl) (λ e. inl (by_turning (answer.Refused r) why)) turned

  outside : (st : Statement) → Reads text st → NeedsTransaction st → h.txn ≡ None → IsRejected catalog events c text (refused 5)
  outside st reads needs e = inr (inr (inl (st, reads, needs, opened c ∙ ap is_some e, refl)))

  ---- each statement

  -- ended with its transaction
  at_end : (b : Answer) → is_conflict (Some b) ≡ false → Caused b → Turned (Some b) → begins (one (Some b)) ≡ false → ends (one (Some b)) ≡ true → ((body : List Executed) → GivesOwn (catalog_after catalog (before (one (Some b)) (E (Some b)))) (E (Some b)) c body (one (Some b)) b) → So (Some b) (resting h)
  at_end b agrees caused turned no_begin over is_known =
      at_once b (resting h) agrees caused turned refl (k.begun ∙ sym (begun_same k.entries (one (Some b)) no_begin)) k.small (on_free (Some b) h.begun (k.entries ++ one (Some b) ∷ []) None None None (refl, after_more k.entries (one (Some b)) ∙ after_end (open_after k.entries) (one (Some b)) b no_begin over refl)) tt tt tt ((λ opens. is_known (rest_of (from_begin (begun_in k.entries) k.entries))), tt)

  -- a transaction begins
  begins_now : h.txn ≡ None → Reads text statement.Begin → h.begun + 1 < 2 ^ 64 → Turned (Some answer.Done) → So (Some answer.Done) (with_begun h (next_id h))
  begins_now e reads few turned =
      at_once answer.Done (with_begun h (next_id h)) refl (λ z. inl reads) turned refl (ap (λ n. n + 1) k.begun ∙ sym (begun_more k.entries (one (Some answer.Done)) begun_now)) few
      (after_more k.entries (one (Some answer.Done)) ∙ after_begin (open_after k.entries) (one (Some answer.Done)) begun_now, opens, refl, record { reads = tt; scans = tt }) (subst (λ ss. ReadItemsAre (read_items_of_body (E (Some answer.Done)) c (rest_of ss)) [] []) (sym opens.since) (record { reads = refl; scans = refl }))
      (filled_nothing (rows_counted_by (rest_of (from_begin (h.begun + 1) (k.entries ++ one (Some answer.Done) ∷ [])))) (records_found_by (E (Some answer.Done)) c (rest_of (from_begin (h.begun + 1) (k.entries ++ one (Some answer.Done) ∷ []))))) (fit_nothing q.catalog (E (Some answer.Done)) c (rest_of (from_begin (h.begun + 1) (k.entries ++ one (Some answer.Done) ∷ [])))) ((λ was. tt), (λ key as_read fits. clash (sym as_read)))
    where
      begun_now : begins (one (Some answer.Done)) ≡ true
      begun_now = ap (λ b. b && true) ((begin_read text).1 reads)

      ids : (n : ℕ) → n + 1 ≡ suc n
      ids n = omega arith

      opens : IsOpenAs c (h.begun + 1) (k.entries ++ one (Some answer.Done) ∷ []) (begun (next_id h))
      opens = record {
        begin = one (Some answer.Done);
        body = [];
        since = ap (λ n. from_begin n (k.entries ++ one (Some answer.Done) ∷ [])) (ap (λ n. n + 1) k.begun ∙ ids (begun_in k.entries)) ∙ since_new k.entries (one (Some answer.Done)) begun_now;
        goes_on = tt;
        id = ap (λ n. id_of n (h.begun + 1)) k.number;
        client = ready.small;
      }

  -- a COMMIT is accepted
  commits_now : (t : TxnAt) → h.txn ≡ Some t → Reads text statement.Commit → Turned None → So None (holding h (committing t q.now))
  commits_now t e reads turned =
      let s = stands_open t e in
      waits_open (holding h (committing t q.now)) turned (other_no_begin text statement.Commit reads (λ y. cc)) (never_vacuum text statement.Commit reads (λ y. cc)) (ap is_some e) refl refl refl (
        s.0,
        record { begin = s.1.begin; body = s.1.body; since = s.1.since; goes_on = s.1.goes_on; id = s.1.id; client = s.1.client },
        record { text = (commit_read text).1 reads; same = refl; moment = moment; stage = subst (λ ms. StageByCalls (work_of t q.now) ms (preparing (work_of t q.now) 0)) (sym (none_yet c events text None)) (begins_standing (work_of t q.now)) },
        let seen : SeenBy (read_items_of_body (E None) c s.1.body) t.seen = noted_still catalog events (event.Take c text None) c h.begun k.entries t s.1 k.answered t.seen s.2 in
            (work_by (read_items_of_body (E None) c s.1.body) t q.now seen (sound t e), subst (λ ms. ChecksBy (read_items_of_body (E None) c s.1.body) (work_of t q.now) ms (preparing (work_of t q.now) 0)) (sym (none_yet c events text None)) (begins_checked (read_items_of_body (E None) c s.1.body) (work_of t q.now))),
      ) (noted_open t e, ((commit_read text).1 reads, s.1.id, (sound t e).kept.valid, commit_begins so_noted (work_of t q.now))) tt tt tt (λ z. tt)

  -- no transaction is open
  none_open : (is_some h.txn || q.gate.open_elsewhere) ≡ false → is_some h.txn ≡ false
  none_open e = by (is_some h.txn) e
    where
      by : (b : Bool) → (b || q.gate.open_elsewhere) ≡ false → b ≡ false
      by true f = f
      by false f = refl

  no_txn : (o : Option TxnAt) → is_some o ≡ false → o ≡ None
  no_txn None f = refl
  no_txn (Some t) f = clash f

  -- a transaction is open, of this client or of another
  some_open : (b : Bool) → is_some h.txn ≡ b → (b || q.gate.open_elsewhere) ≡ true → SomeClient is_open events
  some_open true f z = (c, goes_on, opened c ∙ f)
  some_open false f z = let y = gate.some z in (y.0, ex.stopped y.0 ∙ y.2, opened y.0 ∙ y.3)

  -- a VACUUM begins
  vacuum_begins : (t : Table) (ts : List Table) → Reads text statement.Vacuum → (is_some h.txn || q.gate.open_elsewhere) ≡ false → q.catalog ≡ t ∷ ts → Turned None → So None (record h { vacuum = Some (begins_sweep (t ∷ ts)) })
  vacuum_begins t ts reads e is_catalog turned =
      let shut : h.txn ≡ None = no_txn h.txn (none_open e) in
      waits (record h { vacuum = Some (begins_sweep (t ∷ ts)) }) turned (other_no_begin text statement.Vacuum reads (λ y. cc)) ((vacuum_read text).1 reads) (none_open e) refl refl (
        shut,
        stands_closed shut,
        (sym (ap (count_by removes) (none_yet c events text None)), tt),
      ) (k.counted.as_read, counted_under catalog (t ∷ ts) [] (begins_sweep (t ∷ ts)) (ap length (sym is_catalog ∙ current) ∙ same_length catalog events) (sweep_begins t ts)) (subst (λ (o : Option TxnAt). IfSome o (IsFilled (E None) c (rest_of (from_begin h.begun k.entries)))) (sym shut) tt) (subst (λ (o : Option TxnAt). IfSome o (IsFitOrReadTxn q.catalog (E None) c (rest_of (from_begin h.begun k.entries)))) (sym shut) tt) (none_found (E None) (reads_vacuum text)) (λ z. subst (λ (o : Option TxnAt). IfSome o (IsViewOf q.catalog (E None) c (rest_of (from_begin h.begun k.entries)))) (sym shut) tt)

  abbrev given_now : Table → Statement → TxnAt → Answer
  given_now table st t = given_answer t (gives (plan_of table st) (access_of table st) t)

  module _ (t : TxnAt) (table : Table) (st : Statement) (on : IsOnRows h q text t table st) where
    abbrev e : h.txn ≡ Some t
    e = on.opened

    on_a_table : IsOnTable st
    on_a_table = on_table st (names_table q.catalog st table on.named)

    inner : IsInner text
    inner = inner_read text st on.reads on_a_table

    abbrev s : (open_after k.entries ≡ true) × (o : IsOpenAs c h.begun k.entries t) × SeenBy (read_items_of_body events c o.body) t.seen
    s = stands_open t e

    idle : t.doing ≡ doing.Idle
    idle = idle_of t e

    listed : find_table q.catalog table.name ≡ Some table
    listed = found_itself q.catalog (table_of st) table on.named

    open_before : is_open (before (one (Some (given_answer t (gives (plan_of table st) (access_of table st) t)))) (E (Some (given_answer t (gives (plan_of table st) (access_of table st) t))))) c ≡ true
    open_before = ap (λ es. is_open es c) (before_taken events (event.Take c text (Some (given_answer t (gives (plan_of table st) (access_of table st) t)))) text (Some (given_answer t (gives (plan_of table st) (access_of table st) t)))) ∙ opened c ∙ ap is_some e

    known_noted : (u : TxnAt) → (u.seen.reads ≡ t.seen.reads) × (u.seen.scans ≡ t.seen.scans) → u.doing ≡ doing.Idle → NotedThen (Some (given_answer t (gives (plan_of table st) (access_of table st) t))) (holding h u)
    known_noted u same idles =
        subst (λ ns. ReadByDoing ns u.seen u.doing) (sym (noted_at_once (Some (given_answer t (gives (plan_of table st) (access_of table st) t)))))
        (noted_idle so_noted u.seen u.doing idles (subst (λ rs. ReadItemsAre so_noted rs u.seen.scans) (sym same.0) (subst (ReadItemsAre so_noted t.seen.reads) (sym same.1) (noted_open t e))))

    filled_now : IsFilledBy (rows_counted_by s.1.body) (records_found_by events c s.1.body + 0) t.seen
    filled_now = filled_up (rows_counted_by s.1.body) (rows_counted_by s.1.body) (records_found_by events c s.1.body) (records_found_by events c s.1.body + 0) t.seen (least (rows_counted_by s.1.body)) (further (records_found_by events c s.1.body) 0) (filled_open t e)

    -- its read has finished
    own_data : not (is_coordinator_table (access_table (access_of table st))) ≡ true
    own_data = subst (λ x. not (is_coordinator_table x) ≡ true) (sym (own_table table st)) (apart (record { table = table.name; partition = []; clustering = [] }) (ap is_some listed))

    finished : has_read (E (Some (given_now table st t))) c (one (Some (given_now table st t))) ≡ true
    finished =
        ap (λ ms. read_finished ms (given_now table st t)) (none_yet c events text (Some (given_now table st t)))
        ∙ given_finishes [] (plan_of table st) (overlay (access_of table st) t.seen) t refl (λ key f. unfit_data (access_of table st) t.seen table key own_data f) refl

    -- the changes may be too many
    passes : too_many t (changes_on table st (overlay (access_of table st) t.seen)) ≡ true → MayPassMost (E (Some (given_now table st t))) c (one (Some (given_now table st t)))
    passes many =
        pass_now c h.begun (E (Some (given_now table st t))) k.entries s.1.begin (one (Some (given_now table st t))) s.1.body st k.small (said_then (given_now table st t)) s.1.since s.1.goes_on on.reads
        (passes_given (rows_counted_by s.1.body) (records_found_by (E (Some (given_now table st t))) c s.1.body + records_found (calls_of (E (Some (given_now table st t))) c (one (Some (given_now table st t))))) t (access_of table st) table st (filled_found catalog events (event.Take c text (Some (given_now table st t))) c s.1.body 0 (records_found (calls_of (E (Some (given_now table st t))) c (one (Some (given_now table st t))))) t.seen (body_open t e) (zero_least (records_found (calls_of (E (Some (given_now table st t))) c (one (Some (given_now table st t)))))) filled_now) many)

    left_filled : IsFilled (E (Some (given_now table st t))) c (rest_of (from_begin h.begun (k.entries ++ one (Some (given_now table st t)) ∷ []))) (given_left t (gives (plan_of table st) (access_of table st) t))
    left_filled =
        filled_idle (E (Some (given_now table st t))) c h.begun k.entries (one (Some (given_now table st t))) s.1.begin s.1.body (given_left t (gives (plan_of table st) (access_of table st) t)) s.1.since (left_idle t (gives (plan_of table st) (access_of table st) t) idle)
        (filled_given catalog events (event.Take c text (Some (given_now table st t))) c s.1.body (one (Some (given_now table st t))) (plan_of table st) (overlay (access_of table st) t.seen) t 0 (body_open t e) refl finished (zero_least (records_found (calls_of (E (Some (given_now table st t))) c (one (Some (given_now table st t)))))) filled_now)

    left_fits : IsFitOrReadTxn q.catalog (E (Some (given_now table st t))) c (rest_of (from_begin h.begun (k.entries ++ one (Some (given_now table st t)) ∷ []))) (given_left t (gives (plan_of table st) (access_of table st) t))
    left_fits =
        fits_idle q.catalog (E (Some (given_now table st t))) c h.begun k.entries (one (Some (given_now table st t))) s.1.begin s.1.body (given_left t (gives (plan_of table st) (access_of table st) t)) s.1.since (left_idle t (gives (plan_of table st) (access_of table st) t) idle)
        (given_fits q.catalog (plan_of table st) (access_of table st) listed (own_table table st) is on.named refl on.accepted (literals_read text st on.reads) refl (E (Some (given_now table st t))) c (s.1.body ++ one (Some (given_now table st t)) ∷ []) t (fit_more (given_now table st t) t e))

    -- a row that doesn't fit was read by a statement before
    misfit_caused : (key : Key) → first_unfit table (overlay (access_of table st) t.seen) ≡ Some key → IsBadRecord catalog (E (Some (given_now table st t))) c (one (Some (given_now table st t))) key
    misfit_caused key f =
        let m = was_misfit q.catalog (plan_of table st) (access_of table st) listed (own_table table st) (E (Some (given_now table st t))) c (s.1.body ++ one (Some (given_now table st t)) ∷ []) t.seen key (fit_more (given_now table st t) t e) f in
        inr (meets_now catalog q.catalog c h.begun (E (Some (given_now table st t))) k.entries s.1.begin (one (Some (given_now table st t))) s.1.body st table key (asked_now (Some (given_now table st t))) k.small (said_then (given_now table st t)) s.1.since s.1.goes_on on.reads on.named m.0 m.1)

    shows_known : ShowsNext catalog q.catalog (E (Some (given_now table st t))) c k.entries (one (Some (given_now table st t))) (given_now table st t) (holding h (given_left t (gives (plan_of table st) (access_of table st) t)))
    shows_known =
        let had : SeesOwn q.catalog (E (Some (given_now table st t))) c s.1.body t.seen = sees_then catalog q.catalog c events (event.Take c text (Some (given_now table st t))) k.entries k.answered h.begun s.1.begin s.1.body s.1.since t.seen (sees_open t e) (one (Some (given_now table st t))) in
        let next = next_given q.catalog (E (Some (given_now table st t))) c h.begun k.entries (one (Some (given_now table st t))) s.1.begin s.1.body (plan_of table st) (access_of table st) t s.1.since k.begun is on.reads on.named refl refl refl (left_idle t (gives (plan_of table st) (access_of table st) t) idle) (sound t e).kept.read
        (λ key as_read fits. has_before q.catalog (E (Some (given_now table st t))) c s.1.body (one (Some (given_now table st t))) key (row_seen t.seen.read_set t.seen.writes key) (had key as_read fits)) in
        (λ opened. subst (λ (ts : List Table). GivesOwn ts (E (Some (given_now table st t))) c (rest_of (from_begin (begun_in k.entries) k.entries)) (one (Some (given_now table st t))) (given_now table st t)) (sym (asked_now (Some (given_now table st t)))) (next.0 opened), next.1)

    known : Turned (Some (given_answer t (gives (plan_of table st) (access_of table st) t))) → So (Some (given_answer t (gives (plan_of table st) (access_of table st) t))) (holding h (given_left t (gives (plan_of table st) (access_of table st) t)))
    known turned =
        let m = given_middle (plan_of table st) (overlay (access_of table st) t.seen) t in
        at_once (given_answer t (gives (plan_of table st) (access_of table st) t)) (holding h (given_left t (gives (plan_of table st) (access_of table st) t))) m.agrees (given_caused catalog q.catalog (E (Some (given_answer t (gives (plan_of table st) (access_of table st) t)))) c (one (Some (given_answer t (gives (plan_of table st) (access_of table st) t)))) (plan_of table st) (overlay (access_of table st) t.seen) t (asked_now (Some (given_answer t (gives (plan_of table st) (access_of table st) t)))) on.reads on.named refl open_before misfit_caused passes) turned refl (begun_plain (given_answer t (gives (plan_of table st) (access_of table st) t)) m.undone) k.small
        (on_free (Some (given_answer t (gives (plan_of table st) (access_of table st) t))) h.begun (k.entries ++ one (Some (given_answer t (gives (plan_of table st) (access_of table st) t))) ∷ []) None None (Some (given_left t (gives (plan_of table st) (access_of table st) t))) (stands_held (given_answer t (gives (plan_of table st) (access_of table st) t)) None t (given_left t (gives (plan_of table st) (access_of table st) t)) m inner.commit (left_id t (gives (plan_of table st) (access_of table st) t)) (left_idle t (gives (plan_of table st) (access_of table st) t) idle) s.0 s.1 s.2 (left_reads t (gives (plan_of table st) (access_of table st) t)).0 (left_reads t (gives (plan_of table st) (access_of table st) t)).1))
        (known_noted (given_left t (gives (plan_of table st) (access_of table st) t)) (left_reads t (gives (plan_of table st) (access_of table st) t)) (left_idle t (gives (plan_of table st) (access_of table st) t) idle)) left_filled left_fits shows_known

    unknown : Turned None → So None (record h { txn = Some (reading t (access_of table st)); plan = Some (plan_of table st) })
    unknown turned =
        waits_open (record h { txn = Some (reading t (access_of table st)); plan = Some (plan_of table st) }) turned inner.begin (never_vacuum text st on.reads on_a_table.vacuum) (ap is_some e) refl refl refl (
          s.0,
          record { begin = s.1.begin; body = s.1.body; since = s.1.since; goes_on = s.1.goes_on; id = s.1.id; client = s.1.client },
          record { text = on.reads; inner = inner; stage = tt; shows = none_yet c events text None },
          noted_still catalog events (event.Take c text None) c h.begun k.entries t s.1 k.answered t.seen s.2,
        ) (noted_open t e, (inner.commit, refl)) (filled_reading t e) (fit_reading t e) (none_found (E None) (reads_vacuum text)) (sees_reading t e)

  memory_middle : IsMiddle answer.NoMemory
  memory_middle = record { undone = refl; agrees = refl }

  -- it is answered at once, and as it was
  answered_once : (b : Answer) → AtOnce h q text b → Turned (Some b) → So (Some b) h
  answered_once b (NoStatement r refuses) turned = as_refused r (λ z. refused_no_commit text r refuses) (inl (r, refuses, refl)) turned
  answered_once b (OpenAlready t reads e) turned = as_refused (record { kind = 4; place = 0 }) (λ z. other_no_commit text statement.Begin reads (λ y. cc)) (inr (inl (reads, opened c ∙ ap is_some e, refl))) turned
  answered_once b (NoneOpen st reads needs e) turned = as_refused (record { kind = 5; place = 0 }) (λ z. clash (sym z ∙ ap is_some e)) (outside st reads needs e) turned
  answered_once b (VacuumRuns reads e f) turned =
      let other : SomeInVacuum states c = gate.vacuums f in
      same answer.Vacuuming (record { undone = refl; agrees = refl }) (λ z. other_no_commit text statement.Begin reads (λ w. cc)) (λ z. clash (sym z ∙ ap is_some e)) (λ z. by_turning answer.Vacuuming (inr (inr (inr (inr (inl (reads, opened c ∙ ap is_some e, (other.0, ex.stopped other.0 ∙ other.2, sweeping other.0 ∙ other.3), refl))))))) turned
  answered_once b (OthersOpen reads e) turned =
      same answer.OpenTransactions (record { undone = refl; agrees = refl }) (λ z. other_no_commit text statement.Vacuum reads (λ y. cc)) (λ z. refl) (λ z. by_turning answer.OpenTransactions (inr (inr (inr (inr (inr (reads, some_open (is_some h.txn) refl e, refl))))))) turned
  answered_once b (NoTable reads e f) turned =
      same (answer.Count 0) (record { undone = refl; agrees = refl }) (λ z. other_no_commit text statement.Vacuum reads (λ y. cc)) (λ z. clash (sym z ∙ none_open e)) (λ z. (statement.Vacuum, reads, sym (ap (count_by removes) (none_yet c events text (Some (answer.Count 0)))))) turned
  answered_once b (ByCatalog st t r reads names e f) turned = as_refused r (λ z. other_no_commit text st reads (on_table st names).commit) (inr (inr (inr (inl (st, r, reads, opened c ∙ ap is_some e, names, ap (λ (ts : List Table). refusal_of ts st) (sym current) ∙ f, refl))))) turned
  answered_once b (NoMemory no_commit) turned = same answer.NoMemory memory_middle (λ z. no_commit) (λ z. refl) (λ z. tt) turned

  rows_known : (result : Option Answer) (d : Client) → d.begun < 2 ^ 64 → Turned result → Step h (Takes q text) result d → So result d
  rows_known result d few turned (AnsweredAtOnce {a = b} at) = answered_once b at turned
  rows_known result d few turned (Begins reads e shut) = subst (λ (i : TxId). So (Some answer.Done) (with_begun h i)) (sym numbered) (begins_now e reads few turned)
  rows_known result d few turned (RollsBack t reads e) =
      at_end answer.Done refl (λ z. inr reads) turned (ap (λ b. b && true) (other_no_begin text statement.Rollback reads (λ y. cc)))
      (ap (λ b. b || false || (reads_rollback text && true)) (other_no_commit text statement.Rollback reads (λ y. cc)) ∙ ap (λ b. false || false || (b && true)) ((rollback_read text).1 reads)) (λ body. tt)
  rows_known result d few turned (LosesCommit reads) =
      at_end answer.NoMemory refl (λ z. tt) turned (undone_begins (one (Some answer.NoMemory)) answer.NoMemory refl refl) (ap (λ b. b || false || (reads_rollback text && false)) reads) (λ body. tt)
  rows_known result d few turned (CommitStarts t reads e) = commits_now t e reads turned
  rows_known result d few turned (VacuumStarts t ts reads e f) = vacuum_begins t ts reads e f turned
  rows_known result d few turned (ReadKnown t table st on covered) = known t table st on turned
  rows_known result d few turned (ReadStarts t table st on uncovered) = unknown t table st on turned

  pub takes_known : (result : Option Answer) (d : Client) → d.begun < 2 ^ 64 → Step h (Takes q text) result d → So result d
  takes_known result d few x = rows_known result d few (by_memory result (λ e b z. inr e) (λ n. turned_told result d ((text_of_step q text h result d x).answered n))) x
