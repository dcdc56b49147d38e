-- A client that gets the reply to its call keeps what ties the events to it.
use Rattle.std.proofs.Common.{◌≡◌, ◌≤◌, ◌<◌, ◌^◌, ◌+◌, inl, inr, ℕ, true, false, not, List, [], ◌∷◌, ◌++◌, length, Option, Some, None, refl, sym, ap, subst, ◌∙◌, arith}
use Rattle.std.specs.Prelude.{◌≢◌, ◌&&◌, ◌||◌, is_some, IfSome, nat_le, nat_lt}
use Rattle.std.specs.List.{AllByRecursion, count_by}
use Rattle.std.proofs.lemmas.List.{append-nil}
use Rattle.law_answers.specs.Types.{Access, Answer, Doing, Event, Key, Outcome, Read, ReadStep, Record, Request, Table, TableName, TxId, VacuumStep, Write}
use Rattle.sdb_types.proofs.Public.{all_each as each_any, clash, id_fits, length_more, some_is}
use Rattle.sdb_record.specs.Meta.{is_moment}
use Rattle.sdb_schema.specs.Catalog.{is_catalog}
use Rattle.sdb_model.specs.declared.answer.Answer.TheVariants as answer
use Rattle.sdb_model.specs.Calls.{StoreCall, calls_of, clock_at, calls_by, end_of, is_stored_reply}
use Rattle.law_clients.proofs.Public.{access_table, asked_at, each_more, ended as read_ended, ended_is, found_itself, given_finishes, other_no_commit, own_table}
use Rattle.sdb_model.specs.Access.{in_access}
use Rattle.sdb_model.specs.Catalogs.{catalog_after}
use Rattle.sdb_model.specs.Causes.{ConflictsAtCommit, HasReply, IsBadRecord, IsCaused, IsCommitOf, IsRejected, MayPassMost, before, records_found, removes}
use Rattle.sdb_model.specs.Follows.{is_open, is_open_after}
use Rattle.sdb_model.specs.declared.statement.Statement.TheVariants as statement
use Rattle.sdb_model.specs.Exec.{find_table, table_of}
use Rattle.sdb_sqltext.proofs.Public.{vacuum_read}
use Rattle.sdb_model.specs.Sql.{Reads, reads_commit, reads_rollback, reads_vacuum}
use Rattle.sdb_model.specs.Transactions.{Executed, begins, changes_nothing, ends, from_begin, id_of, is_conflict, is_done, rest_of, statements_by}
use Rattle.sdb_exec.specs.Plans.{Planned, changes_on, first_unfit}
use Rattle.sdb_txn.specs.Phases.{CommitAt, IsNext}
use Rattle.sdb_phases.specs.Commit.{Stage, Over, pending as commit_pending, step as commit_step}
use Rattle.sdb_phases.specs.Work.{Work}
use Rattle.sdb_txn.specs.declared.read.ReadStep.TheVariants as step
use Rattle.sdb_txn.specs.Read.{Asking, Ended, ReadAt, ReadStage, Resolving, read_pending_at, read_result, read_step, request_of}
use Rattle.sdb_model.specs.ReadSet.{ReadItem, has_read, read_items, read_finished}
use Rattle.sdb_snapshot.specs.Sets.{WereRead}
use Rattle.sdb_snapshot.specs.Seen.{overlay}
use Rattle.sdb_txn.specs.declared.txn.Doing.TheVariants as doing
use Rattle.sdb_txn.specs.Txn.{TxnAt, idle, pending_in}
use Rattle.sdb_vacuum.specs.declared.work.VacuumStep.TheVariants as vacuuming
use Rattle.sdb_vacuum.specs.Vacuum.{Gives, VacuumAt, vacuum_step}
use Rattle.sdb_client.specs.Client.{ClientAt as Client, IsChangedAt, answer_of, given_answer, given_left, gives, holding, with_rows_read, pending_by, pending_of, resting, too_many}
use Rattle.law_clients.specs.About.{IsDoingIn, IsIn, IsOfTables, IsReadIn, IsRecordIn, IsStageIn, IsVacuumIn, IsWorkIn}
use Rattle.law_clients.specs.States.{ClientState, IsAskedBy, IsCalled}
use Rattle.law_clients.specs.History.{executed_with_answer, waiting_of}
use Rattle.law_clients.specs.System.{ClientCall, call_event}
use Rattle.sdb_client.specs.Step.{answer_of_outcome, CommitEnds, CommitGoesOn, CommitGoesTo, Fails, HasFaulted, IsBusy, IsCommitAt, IsMalformed, IsReadAt, IsVacuumAt, OutOfMemory, ReadConflicts, ReadEnds, ReadFails, ReadGoesOn, Receives, Step, VacuumEnds, VacuumGoesOn}
use Rattle.law_answers.specs.Commits.{EndsBy, ObservesBad, StageByCalls}
use Rattle.law_answers.specs.Invariant.{IsAnswered, IsCommitting, IsCurrent, IsDoing, CauseInvariant, IsReadSetOf, IsReading, IsInVacuum, IsWaiting, Knows, DoingByHistory, ClientByHistory, begun_in, open_after}
use Rattle.law_answers.specs.Unfit.{IsFitOrReadTxn, SeesFitOrRead, SeesFitOrReadIn, AreStoredReplies}
use Rattle.law_answers.specs.Conflicts.{ChecksBy, ConflictBy}
use Rattle.law_answers.specs.Counts.{CommitCounted, CommitIsCounted, DoingCounted, IsCountedBy, ReadByTxn, ReadByDoing, ReadItemsAre, OpenCounted, ReadCounted, VacuumIsCounted, WaitCounted, read_items_since}
use Rattle.law_answers.proofs.CountsCommit.{commit_more, commit_over, commit_starved}
use Rattle.law_answers.proofs.CountsNotes.{none_noted, noted_idle as notes_idle, noted_read, since_open, since_same, since_stay}
use Rattle.sdb_record.specs.Rolls.{IsWrite}
use Rattle.law_answers.proofs.Counting.{call_counted, counts_end, counts_on}
use Rattle.law_answers.proofs.Counts.{read_more, sweep_more}
use Rattle.law_answers.specs.Filled.{IsFilled, IsFilledBy, IsFilledIn, rows_counted_by, records_found_by}
use Rattle.law_answers.specs.Changes.{HasRead, IsChangedIn, ChangesAtScan, ChangesBy, SeenBy, StageObserves, WorkBy, read_items_of_body}
use Rattle.law_answers.proofs.Conflicts.{checks_on, starved_checks}
use Rattle.law_answers.specs.Reads.{IsBusyBy, LedBy, ReadsBy}
use Rattle.law_answers.specs.Vacuums.{VacuumEndBy, VacuumBy}
use Rattle.law_answers.proofs.VacuumSteps.{IfMore, SweepLed, SweepsData, step_led, sweeps_of}
use Rattle.law_answers.proofs.Moving.{IsTold, changed_scan}
use Rattle.law_answers.proofs.ReadSets.{moved_all, moved_still, noted_more, noted_still, notes_more, notes_one, notes_stay, rest_all, seen_same, since_all, unmoved}
use Rattle.law_answers.proofs.Rows.{bad_unfinished}
use Rattle.law_answers.proofs.Settling.{read_checks, read_noted}
use Rattle.law_answers.proofs.Observing.{IsOpenAt, observes_on}
use Rattle.law_answers.proofs.Ends.{next_by, conflict_of, commit_is, outcome_caused, outcome_tells}
use Rattle.law_answers.proofs.Calls.{before_same, call_executed, calls_open, clock_more, end_answered, end_waiting, later_calls, later_more, later_within, made_at, own_made, silent_executed, within_more, one_made}
use Rattle.law_answers.proofs.Filling.{filled_few, filled_found, filled_given, filled_idle, filled_more, filled_noting, filled_stays, images_few, passes_given}
use Rattle.law_answers.proofs.Passing.{pass_now, least}
use Rattle.law_answers.proofs.Misfits.{fits_idle, fits_more, fits_stay, meets_now}
use Rattle.law_answers.proofs.Unfit.{given_fits, sees_read, observed_bad, was_misfit}
use Rattle.law_answers.proofs.Given.{IsMiddle, given_caused, given_middle, unfit_data}
use Rattle.law_answers.proofs.Knowing.{after_end, after_more, after_plain, open_more}
use Rattle.law_answers.proofs.Later.{answered_stay, waiting_stays}
use Rattle.law_answers.proofs.Lists.{begun_same, since_more, each_kept}
use Rattle.law_answers.proofs.ReadSteps.{IsDataTable, LeavesData, busy_caused, reads_on}
use Rattle.law_answers.proofs.Stages.{IsOfData, stands_on, starved_stands}
use Rattle.law_answers.specs.Rolled.{DoingRolls, ReadRolls, RolledBut, VacuumRolls, WaitRolls}
use Rattle.law_answers.proofs.Rolled.{outcome_rows, reads_so_far, rolls_end, rolls_on, sweeps_so_far}
use Rattle.law_answers.proofs.RolledSteps.{SweepsTo, read_rolls, sweep_rolls}
use Rattle.law_answers.specs.Views.{GivesOwn, IsViewOf, SeesOwn, SeesOwnIn, ViewBy}
use Rattle.law_answers.proofs.OwnRowsAnswered.{ShowsNext, next_same, showing_stays, shows_end, shows_further}
use Rattle.law_answers.proofs.OwnRowsTurn.{read_next}
use Rattle.law_answers.proofs.Takings.{left_id, left_idle, left_reads, middle_ends}
use Rattle.sdb_types.specs.Replies.{is_fault}
use Rattle.sdb_client.proofs.Public.{reading_keeps_id, reading_stays_idle}
use Rattle.sdb_model.specs.Tables.{is_data}

---- the call

module _ (catalog tables : List Table) (events : List Event) (current : tables ≡ catalog_after catalog events) (states : ℕ → ClientState) (y : ClientCall) (ex : CauseInvariant catalog events y.now states) (called : IsCalled tables states y) (about : IsOfTables tables (states y.client).client)
    (apart : (k : Key) → is_some (find_table tables k.table) ≡ true → is_data k ≡ true)
    (sound : (states y.client).client.vacuum ≡ None → (t : TxnAt) (a : Access) (x : ReadAt) → (states y.client).client.txn ≡ Some t → t.doing ≡ doing.Read a x → IsTold t.seen × WereRead t.seen.read_set t.seen.writes) (is_fine : is_catalog tables ≡ true) (stored : is_stored_reply y.reply ≡ true) where
  abbrev c : ℕ
  c = y.client

  abbrev h : Client
  h = (states y.client).client

  abbrev k : Knows catalog events c h
  k = ex.each c

  -- with the event
  abbrev E : Option Answer → List Event
  E result = events ++ call_event y result ∷ []

  abbrev So : Option Answer → Client → Type 0
  So result d = (k : Knows catalog (E result) c d) × IfSome d.txn (λ t. k.under ≡ tables)

  abbrev made : StoreCall
  made = made_at events y.store y.request y.how y.reply

  long : (result : Option Answer) → length (E result) ≡ 1 + length events
  long result = length_more events (call_event y result) ∙ one_plus (length events)
    where
      one_plus : (n : ℕ) → n + 1 ≡ 1 + n
      one_plus n = omega arith

  clock_now : (result : Option Answer) → clock_at (E result) made.at ≡ y.now
  clock_now result = ap (clock_at (E result)) (sym (long result)) ∙ clock_more events (call_event y result) ∙ ex.clock

  -- what its transaction has noted so far
  abbrev so_id : TxId
  so_id = id_of c h.begun

  abbrev so_noted : List ReadItem
  so_noted = read_items_since events c h.begun k.entries

  data_table : (t : TableName) → is_some (find_table tables t) ≡ true → IsDataTable t
  data_table t listed = apart (record { table = t; partition = []; clustering = [] }) listed

  -- each call so far shows records as they are held
  all_stored : (result : Option Answer) → AreStoredReplies (calls_by (E result) c)
  all_stored result = subst AreStoredReplies (sym (one_made c events (call_event y result) made (own_made c events y.store y.request y.how y.reply result))) (each_more (λ (m : StoreCall). is_stored_reply m.reply ≡ true) (calls_by events c) made k.stored stored)

  ---- a statement that waits

  module _ (w : Executed) (waiting : k.waiting ≡ Some w) where
    abbrev ms : List StoreCall
    ms = calls_of events c w

    waits : IsWaiting catalog events c (is_some h.vacuum) w
    waits = subst (λ (o : Option Executed). IfSome o (IsWaiting catalog events c (is_some h.vacuum))) waiting k.waits

    asked_so : catalog_after catalog (before w events) ≡ k.under
    asked_so = subst (λ (o : Option Executed). IfSome o (λ x. catalog_after catalog (before x events) ≡ k.under)) waiting k.asked

    said_told : statements_by c events ≡ k.entries ++ w ∷ []
    said_told = k.same ∙ ap (λ o. k.entries ++ waiting_of o) waiting

    calls_before_it : ms ≡ later_calls events c w.accepted
    calls_before_it = calls_open c events w (end_waiting events w waits.unanswered)

    older : AllByRecursion (λ x. x.at < made.at) ms
    older = subst (AllByRecursion (λ x. x.at < made.at)) (sym calls_before_it) (later_within c events w.accepted)

    later_one : (result : Option Answer) → later_calls (E result) c w.accepted ≡ ms ++ made ∷ []
    later_one result = later_more c events (call_event y result) w.accepted made waits.accepted refl (own_made c events y.store y.request y.how y.reply result) ∙ ap (λ xs. xs ++ made ∷ []) (sym calls_before_it)

    calls_on : calls_of (E None) c w ≡ ms ++ made ∷ []
    calls_on = calls_open c (E None) w (end_waiting (E None) w waits.unanswered) ∙ later_one None

    abbrev done : Answer → Executed
    done b = executed_with_answer events w b

    calls_done : (b : Answer) → calls_of (E (Some b)) c (done b) ≡ ms ++ made ∷ []
    calls_done b = calls_open c (E (Some b)) (done b) (end_answered (E (Some b)) (done b) b refl ∙ sym (long (Some b))) ∙ later_one (Some b)

    said_done : (b : Answer) → statements_by c (E (Some b)) ≡ k.entries ++ done b ∷ []
    said_done b = call_executed c events made b k.entries w said_told

    begins_none : (b : Answer) → begins (done b) ≡ false
    begins_none b = ap (λ x. x && is_done (Some b)) waits.begin

    begun_done : (b : Answer) → h.begun ≡ begun_in (k.entries ++ done b ∷ [])
    begun_done b = k.begun ∙ sym (begun_same k.entries (done b) (begins_none b))

    -- its calls are counted, and with this one
    counted_now : WaitCounted catalog w.text so_id so_noted ms h.vacuum h.txn
    counted_now = subst (λ (o : Option Executed). IfSome o (λ x. WaitCounted catalog x.text so_id so_noted (calls_of events c x) h.vacuum h.txn)) waiting k.counted.waits

    counted_then : IsCountedBy catalog w.text (ms ++ made ∷ [])
    counted_then = call_counted catalog w.text ms made h.vacuum h.txn so_id so_noted waits.vacuum called.waiting.pending counted_now

    -- and what was found is dealt with
    rolls_now : WaitRolls events (reads_vacuum w.text) ms h.vacuum h.txn
    rolls_now = subst (λ (o : Option Executed). IfSome o (λ x. WaitRolls events (reads_vacuum x.text) (calls_of events c x) h.vacuum h.txn)) waiting k.rolled.waits

    abbrev RollsThen : Answer → Type 0
    RollsThen b = read_finished (ms ++ made ∷ []) b ≡ true → RolledBut (E (Some b)) (reads_vacuum w.text) (ms ++ made ∷ []) []

    -- what its calls come to where it is answered, and what its transaction has then noted
    abbrev CountsThen : Answer → Client → Type 0
    CountsThen b d = (reads_commit w.text ≡ true → CommitIsCounted so_noted so_id (Some b) (ms ++ made ∷ [])) × ReadByTxn (read_items_since (E (Some b)) c d.begun (k.entries ++ done b ∷ [])) d.txn

    -- it is answered
    answers : (b : Answer) (d : Client) → (is_conflict (Some b) ≡ false → IsCaused catalog (E (Some b)) c (done b) b) → ((key : Key) (found : Option Record) → Some b ≡ Some (answer.Conflict key found) → IsChangedIn (E (Some b)) c (k.entries ++ done b ∷ []) (done b) key found) → d.number ≡ h.number → d.begun ≡ h.begun → ClientByHistory (E (Some b)) c d.begun (k.entries ++ done b ∷ []) None d.plan d.txn d.vacuum → CountsThen b d → IfSome d.txn (IsFilled (E (Some b)) c (rest_of (from_begin d.begun (k.entries ++ done b ∷ [])))) → IfSome d.txn (IsFitOrReadTxn tables (E (Some b)) c (rest_of (from_begin d.begun (k.entries ++ done b ∷ [])))) → RollsThen b → ShowsNext catalog tables (E (Some b)) c k.entries (done b) b d → So (Some b) d
    answers b d caused moves number begun agrees counts filled fits rolls shows = (
      record {
        entries = k.entries ++ done b ∷ [];
        waiting = None;
        under = tables;
        asked = tt;
        same = said_done b ∙ sym (append-nil (k.entries ++ done b ∷ []));
        answered = each_more (IsAnswered catalog (E (Some b)) c) k.entries (done b) (answered_stay catalog c events (call_event y (Some b)) k.entries (inr (inr (k.entries, w, done b, said_told, waits.unanswered, said_done b))) k.answered) (record {
          given = b;
          is = refl;
          accepted = within_more w.accepted events (call_event y (Some b)) waits.accepted;
          answered = last (long (Some b));
          caused = caused;
          rejected = λ a t. absurd (waits.stays a (subst (λ es. IsRejected catalog es c w.text a) (before_same w events (call_event y (Some b)) waits.accepted) t));
        });
        waits = tt;
        moved = moved_all catalog events (call_event y (Some b)) c k.entries (done b) k.answered k.moved moves;
        number = number ∙ k.number;
        begun = begun ∙ begun_done b;
        small = subst (λ n. n < 2 ^ 64) (sym begun) k.small;
        agrees = agrees;
        counted = counts_end catalog c events (call_event y (Some b)) k.entries k.waiting h k.answered k.counted (done b) d (ms ++ made ∷ []) k.begun (calls_done b) counted_then (λ t. clash (sym t ∙ begins_none b)) (λ t opened. counts.0 t) counts.1;
        filled = filled;
        fits = fits;
        stored = all_stored (Some b);
        rolled = rolls_end catalog c events (call_event y (Some b)) k.entries k.waiting h k.answered k.rolled (done b) d (ms ++ made ∷ []) (calls_done b) (λ read. rolls read);
        shows = shows_end catalog k.under c events (call_event y (Some b)) k.entries k.answered h k.shows k.counted.paired tables (done b) b d refl shows;
      },
      runs d.txn,
    )
      where
        last : length (E (Some b)) ≡ 1 + length events → 1 + length events ≤ length (E (Some b))
        last e = omega arith

        runs : (o : Option TxnAt) → IfSome o (λ t. tables ≡ tables)
        runs None = tt
        runs (Some t) = refl

    -- it goes on
    goes_on : (under : List Table) (d : Client) → catalog_after catalog (before w events) ≡ under → IfSome d.txn (λ t. under ≡ tables) → d.number ≡ h.number → d.begun ≡ h.begun → is_some d.vacuum ≡ is_some h.vacuum → ClientByHistory (E None) c d.begun k.entries (Some w) d.plan d.txn d.vacuum → ReadByTxn so_noted d.txn × WaitCounted catalog w.text so_id so_noted (ms ++ made ∷ []) d.vacuum d.txn → IfSome d.txn (IsFilled (E None) c (rest_of (from_begin d.begun k.entries))) → IfSome d.txn (IsFitOrReadTxn under (E None) c (rest_of (from_begin d.begun k.entries))) → WaitRolls (E None) (reads_vacuum w.text) (ms ++ made ∷ []) d.vacuum d.txn → (ViewBy catalog k.under events c k.entries h → IfSome d.txn (IsViewOf under (E None) c (rest_of (from_begin d.begun k.entries)))) → So None d
    goes_on under d asked runs number begun vacuums agrees counts filled fits rolls sees = (
      record {
        entries = k.entries;
        waiting = Some w;
        under = under;
        asked = ap (catalog_after catalog) (before_same w events (call_event y None) waits.accepted) ∙ asked;
        same = silent_executed c events y.store y.request y.how y.reply ∙ said_told;
        answered = answered_stay catalog c events (call_event y None) k.entries (inl (silent_executed c events y.store y.request y.how y.reply)) k.answered;
        waits = subst (λ b. IsWaiting catalog (E None) c b w) (sym vacuums) (waiting_stays catalog c events (call_event y None) (is_some h.vacuum) w waits);
        moved = moved_still catalog events (call_event y None) c k.entries k.entries k.answered k.moved;
        number = number ∙ k.number;
        begun = begun ∙ k.begun;
        small = subst (λ n. n < 2 ^ 64) (sym begun) k.small;
        agrees = agrees;
        counted = counts_on catalog c events (call_event y None) k.entries k.waiting h k.answered k.counted w d (ms ++ made ∷ []) begun calls_on counts.0 counts.1;
        filled = filled;
        fits = fits;
        stored = all_stored None;
        rolled = rolls_on catalog c events (call_event y None) k.entries k.waiting h k.answered k.rolled w d (ms ++ made ∷ []) calls_on rolls;
        shows = shows_further catalog k.under c events (call_event y None) k.entries k.answered h k.shows under d sees;
      },
      runs,
    )

    calls_stored : (b : Answer) → AreStoredReplies (calls_of (E (Some b)) c (done b))
    calls_stored b = each_kept (λ (m : StoreCall). is_stored_reply m.reply ≡ true) (λ m. nat_lt (done b).accepted m.at && nat_le m.at (end_of (E (Some b)) (done b))) (calls_by (E (Some b)) c) (all_stored (Some b))

    -- what isn't accepted as a record of a transaction is of no form of records
    bad_caused : (key : Key) → ObservesBad (ms ++ made ∷ []) key → IsBadRecord catalog (E (Some (answer.BadRecord key))) c (done (answer.BadRecord key)) key
    bad_caused key b =
        let g : ObservesBad (calls_of (E (Some (answer.BadRecord key))) c (done (answer.BadRecord key))) key = subst (λ cs. ObservesBad cs key) (sym (calls_done (answer.BadRecord key))) b in
        inl (g.call, g.found, g.among, g.observed, g.same, observed_bad (calls_of (E (Some (answer.BadRecord key))) c (done (answer.BadRecord key))) key (calls_stored (answer.BadRecord key)) g)

    ---- where it is then

    module _ (t : TxnAt) (some : h.txn ≡ Some t) (free : h.vacuum ≡ None) where
      stands_open : DoingByHistory events c h.begun k.entries k.waiting h.plan (Some t)
      stands_open = subst (DoingByHistory events c h.begun k.entries k.waiting h.plan) some (subst (ClientByHistory events c h.begun k.entries k.waiting h.plan h.txn) free k.agrees)

      -- it runs under the tables of the moment, with which its statement was accepted
      runs_under : k.under ≡ tables
      runs_under = subst (λ (o : Option TxnAt). IsCurrent catalog events o k.under) some (ex.current c called.waiting.goes_on) ∙ sym current

      asked_open : catalog_after catalog (before w events) ≡ tables
      asked_open = asked_so ∙ runs_under

      asked_done : (b : Answer) → catalog_after catalog (before (done b) (E (Some b))) ≡ tables
      asked_done b = ap (catalog_after catalog) (before_same w events (call_event y (Some b)) waits.accepted) ∙ asked_open

      fits_open : IsFitOrReadTxn tables events c (rest_of (from_begin h.begun k.entries)) t
      fits_open = subst (λ (ts : List Table). IsFitOrReadTxn ts events c (rest_of (from_begin h.begun k.entries)) t) runs_under (subst (λ (o : Option TxnAt). IfSome o (IsFitOrReadTxn k.under events c (rest_of (from_begin h.begun k.entries)))) some k.fits)

      view_open : ViewBy catalog k.under events c k.entries h → IsViewOf tables events c (rest_of (from_begin h.begun k.entries)) t
      view_open z = subst (λ (ts : List Table). IsViewOf ts events c (rest_of (from_begin h.begun k.entries)) t) runs_under (subst (λ (o : Option TxnAt). IfSome o (IsViewOf k.under events c (rest_of (from_begin h.begun k.entries)))) some z.sees_own)

      -- it runs no VACUUM
      stands_free : (result : Option Answer) (n : ℕ) (answered : List Executed) (v : Option Executed) (p : Option Planned) (o : Option TxnAt) → DoingByHistory (E result) c n answered v p o → ClientByHistory (E result) c n answered v p o h.vacuum
      stands_free result n answered v p o = subst (ClientByHistory (E result) c n answered v p o) (sym free)

      waits_open : (cs : List StoreCall) (o : Option TxnAt) → OpenCounted w.text so_id so_noted cs o → WaitCounted catalog w.text so_id so_noted cs h.vacuum o
      waits_open cs o = subst (λ v. WaitCounted catalog w.text so_id so_noted cs v o) (sym free)

      rolls_open : (o : Option TxnAt) → WaitRolls (E None) (reads_vacuum w.text) (ms ++ made ∷ []) None o → WaitRolls (E None) (reads_vacuum w.text) (ms ++ made ∷ []) h.vacuum o
      rolls_open o = subst (λ v. WaitRolls (E None) (reads_vacuum w.text) (ms ++ made ∷ []) v o) (sym free)

      open_counted : DoingCounted w.text so_id so_noted ms t.doing
      open_counted = subst (OpenCounted w.text so_id so_noted ms) some (subst (λ v. WaitCounted catalog w.text so_id so_noted ms v h.txn) free counted_now)

      open_noted : ReadByDoing so_noted t.seen t.doing
      open_noted = subst (ReadByTxn so_noted) some k.counted.as_read

      -- one that notes nothing
      notes_as_before : (b : Answer) → read_finished (ms ++ made ∷ []) b ≡ false → read_items_since (E (Some b)) c h.begun (k.entries ++ done b ∷ []) ≡ so_noted
      notes_as_before b unfinished = since_same (E (Some b)) c h.begun k.entries (done b) (none_noted (E (Some b)) c (done b) (ap (λ cs. read_finished cs b) (calls_done b) ∙ unfinished)) ∙ since_stay catalog events (call_event y (Some b)) c h.begun k.entries k.answered

      -- an answer that is no Conflict
      stays : (b : Answer) → is_conflict (Some b) ≡ false → (key : Key) (found : Option Record) → Some b ≡ Some (answer.Conflict key found) → IsChangedIn (E (Some b)) c (k.entries ++ done b ∷ []) (done b) key found
      stays b f = unmoved (E (Some b)) c (k.entries ++ done b ∷ []) (done b) b refl f

      -- the transaction stays open, and does nothing
      held : (b : Answer) (u : TxnAt) → IsMiddle b → reads_commit w.text ≡ false → u.id ≡ t.id → u.doing ≡ doing.Idle → SeenBy (read_items_of_body (E (Some b)) c (stands_open.1.body ++ done b ∷ [])) u.seen → ClientByHistory (E (Some b)) c h.begun (k.entries ++ done b ∷ []) None None (Some u) h.vacuum
      held b u m no_commit same idles as_read = stands_free (Some b) h.begun (k.entries ++ done b ∷ []) None None (Some u) (
        after_more k.entries (done b) ∙ ap (λ x. is_open_after x (done b)) stands_open.0 ∙ after_plain true (done b) (begins_none b) (λ e. middle_ends (done b) b refl m no_commit),
        open_more c h.begun k.entries t u (done b) same (middle_ends (done b) b refl m no_commit) stands_open.1,
        subst (IsDoing (E (Some b)) c u None None) (sym idles) refl,
        subst (λ d. IsReadSetOf (E (Some b)) c (k.entries ++ done b ∷ []) (stands_open.1.body ++ done b ∷ []) u d None) (sym idles) as_read,
      )

      -- it ends
      ended : (b : Answer) → ends (done b) ≡ true → ClientByHistory (E (Some b)) c h.begun (k.entries ++ done b ∷ []) None None None h.vacuum
      ended b over = stands_free (Some b) h.begun (k.entries ++ done b ∷ []) None None None (refl, after_more k.entries (done b) ∙ after_end (open_after k.entries) (done b) b (begins_none b) over refl)

      -- it goes on, with the statement
      further : (u : TxnAt) (p : Option Planned) → u.id ≡ t.id → IsDoing (E None) c u p (Some w) u.doing → IsReadSetOf (E None) c k.entries stands_open.1.body u u.doing (Some w) → ClientByHistory (E None) c h.begun k.entries (Some w) p (Some u) h.vacuum
      further u p same does as_read = stands_free None h.begun k.entries (Some w) p (Some u) (stands_open.0, record { begin = stands_open.1.begin; body = stands_open.1.body; since = stands_open.1.since; goes_on = stands_open.1.goes_on; id = same ∙ stands_open.1.id; client = stands_open.1.client }, does, as_read)

      pends_txn : pending_of h.txn ≡ Some y.request
      pends_txn = subst (λ (v : Option VacuumAt). pending_by v h.txn ≡ Some y.request) free called.waiting.pending

      open_before : (b : Answer) → is_open (before (done b) (E (Some b))) c ≡ true
      open_before b = ap (λ es. is_open es c) (before_same w events (call_event y (Some b)) waits.accepted) ∙ waits.opened ∙ ap (λ o. not (is_some o)) free

      ---- a read

      module _ (p : Planned) (a : Access) (x : ReadAt) (plan : h.plan ≡ Some p) (reads : t.doing ≡ doing.Read a x) (asked : IsAskedBy tables p a x) (is : IsReading events c w p x) where
        read_in : IsReadIn tables p a x
        read_in =
            let d : IsDoingIn tables t.seen t.doing h.plan = subst (λ (o : Option TxnAt). IfSome o (λ u. IsDoingIn tables u.seen u.doing h.plan)) some about.txn in
            (subst (IsDoingIn tables t.seen (doing.Read a x)) plan (subst (λ z. IsDoingIn tables t.seen z h.plan) reads d)).1

        own : IsDataTable (access_table a)
        own = subst IsDataTable (sym (ap access_table asked.access ∙ own_table p.table p.statement)) (data_table p.table.name read_in.table)

        leaves : (s : ReadStage) → IsStageIn tables s → LeavesData (E None) ms made older y.now (clock_now None) s
        leaves Asking i = tt
        leaves (Resolving images rec meta q left) i = each_any (λ (r : Record). IsIn tables r.key) (λ (r : Record). IsDataTable r.key.table) left (λ r z. apart r.key z) i.2
        leaves (Ended s) i = tt

        pends : read_pending_at (request_of a) x.stage ≡ Some made.request
        pends =
            let open_txn : pending_in t.doing ≡ Some y.request = subst (λ (o : Option TxnAt). pending_of o ≡ Some y.request) some pends_txn in
            let read : read_pending_at x.request x.stage ≡ Some y.request = subst (λ (d : Doing). pending_in d ≡ Some y.request) reads open_txn in
            subst (λ (q : Request). read_pending_at q x.stage ≡ Some y.request) asked.request read

        noting_now : SeenBy (read_items_of_body events c stands_open.1.body) t.seen
        noting_now = subst (λ d. IsReadSetOf events c k.entries stands_open.1.body t d k.waiting) reads stands_open.3

        filled_reading : IsFilledBy (rows_counted_by (rest_of (from_begin h.begun k.entries))) (records_found_by events c (rest_of (from_begin h.begun k.entries))) t.seen
        filled_reading = subst (IsFilledIn events c (rest_of (from_begin h.begun k.entries)) t.seen) reads (subst (λ (o : Option TxnAt). IfSome o (IsFilled events c (rest_of (from_begin h.begun k.entries)))) some k.filled)

        filled_now : IsFilledBy (rows_counted_by stands_open.1.body) (records_found_by events c stands_open.1.body) t.seen
        filled_now = subst (λ r. IsFilledBy (rows_counted_by (rest_of r)) (records_found_by events c (rest_of r)) t.seen) stands_open.1.since filled_reading

        body_answered : AllByRecursion (IsAnswered catalog events c) stands_open.1.body
        body_answered = since_all (IsAnswered catalog events c) h.begun k.entries stands_open.1.begin stands_open.1.body k.answered stands_open.1.since

        -- what it sees fits, or a statement before read it
        fit_reading : (result : Option Answer) → SeesFitOrRead tables (E result) c (rest_of (from_begin h.begun k.entries)) t.seen
        fit_reading result = subst (SeesFitOrReadIn tables (E result) c (rest_of (from_begin h.begun k.entries)) t.seen) reads (fits_stay catalog tables events (call_event y result) c h.begun k.entries (Some t) k.answered fits_open)

        fit_now : (result : Option Answer) → SeesFitOrRead tables (E result) c stands_open.1.body t.seen
        fit_now result = subst (λ r. SeesFitOrRead tables (E result) c (rest_of r) t.seen) stands_open.1.since (fit_reading result)

        -- what it sees it has
        sees_reading : (result : Option Answer) → ViewBy catalog k.under events c k.entries h → SeesOwn tables (E result) c (rest_of (from_begin h.begun k.entries)) t.seen
        sees_reading result z = subst (SeesOwnIn tables (E result) c (rest_of (from_begin h.begun k.entries)) t.seen) reads (showing_stays catalog tables events (call_event y result) c h.begun k.entries (Some t) k.answered (view_open z))

        sees_now : SeesOwn tables events c stands_open.1.body t.seen
        sees_now = subst (λ r. SeesOwn tables events c (rest_of r) t.seen) stands_open.1.since (subst (SeesOwnIn tables events c (rest_of (from_begin h.begun k.entries)) t.seen) reads (view_open k.shows))

        listed : find_table tables p.table.name ≡ Some p.table
        listed = found_itself tables (table_of p.statement) p.table asked.named

        of_table : access_table a ≡ p.table.name
        of_table = ap access_table asked.access ∙ own_table p.table p.statement

        open_at : (s : ReadStage) → ReadsBy ms s → IsOpenAt x.request ms made y.now called.moment s
        open_at Asking i = tt
        open_at (Resolving images rec meta q left) i = i.is_open
        open_at (Ended s) i = absurd i

        observed : StageObserves x.request (ms ++ made ∷ []) (read_step x.stage y.now y.reply)
        observed = observes_on ms y.now called.moment a asked.request (record { stage = x.stage; call = made; pending = subst (λ (q : Request). read_pending_at q x.stage ≡ Some made.request) (sym asked.request) pends }) (open_at x.stage is.stage) is.shows called.can

        leads : (result : Option Answer) → LedBy (E result) (ms ++ made ∷ []) (read_step x.stage y.now y.reply)
        leads result = reads_on (record { events = E result; calls = ms; call = made; now = y.now; later = older; clock = clock_now result }) a x.stage own (leaves x.stage read_in.stage) is.stage pends called.can

        counted_read : ReadCounted (ms ++ made ∷ []) (read_step x.stage y.now y.reply)
        counted_read = let d : DoingCounted w.text so_id so_noted ms (doing.Read a x) = subst (DoingCounted w.text so_id so_noted ms) reads open_counted in read_more ms made a x.stage y.now own d.1 pends

        rolled_read : (result : Option Answer) → ReadRolls (E result) (reads_vacuum w.text) (ms ++ made ∷ []) (read_step x.stage y.now y.reply)
        rolled_read result =
            let so : ReadRolls events (reads_vacuum w.text) ms x.stage = subst (DoingRolls events (reads_vacuum w.text) ms) reads (subst (WaitRolls events (reads_vacuum w.text) ms None) some (subst (λ v. WaitRolls events (reads_vacuum w.text) ms v h.txn) free rolls_now)) in
            read_rolls (record { events = E result; calls = ms; call = made; now = y.now; later = older; clock = clock_now result }) (reads_vacuum w.text) called.moment (request_of a) x.stage (reads_so_far c events (call_event y result) w x.stage so) pends

        -- what it has noted
        read_so : ReadItemsAre so_noted t.seen.reads t.seen.scans
        read_so = subst (ReadByDoing so_noted t.seen) reads open_noted

        no_fit : (b : Answer) → reads_commit w.text ≡ true → CommitIsCounted so_noted so_id (Some b) (ms ++ made ∷ [])
        no_fit b e = clash (sym e ∙ is.inner.commit)

        -- the statement is answered, and nothing is noted
        fails : (b : Answer) → changes_nothing b ≡ true → read_finished (ms ++ made ∷ []) b ≡ false → IsMiddle b → (is_conflict (Some b) ≡ false → IsCaused catalog (E (Some b)) c (done b) b) → So (Some b) (holding h (idle t))
        fails b nothing unfinished m caused =
            answers b (holding h (idle t)) caused (stays b m.agrees) refl refl
            (held b (idle t) m is.inner.commit refl refl (noted_more catalog events (call_event y (Some b)) c h.begun k.entries t stands_open.1 k.answered (done b) t.seen t.seen refl refl noting_now))
            (no_fit b, subst (λ ns. ReadItemsAre ns t.seen.reads t.seen.scans) (sym (notes_as_before b unfinished)) read_so)
            (filled_idle (E (Some b)) c h.begun k.entries (done b) stands_open.1.begin stands_open.1.body (idle t) stands_open.1.since refl (filled_more catalog events (call_event y (Some b)) c stands_open.1.body (done b) t.seen body_answered filled_now))
            (fits_idle tables (E (Some b)) c h.begun k.entries (done b) stands_open.1.begin stands_open.1.body (idle t) stands_open.1.since refl (fits_more tables (E (Some b)) c stands_open.1.body (done b) t.seen (fit_now (Some b)))) (λ z. clash (sym z ∙ unfinished))
            (next_same catalog tables c events (call_event y (Some b)) k.entries k.answered h.begun stands_open.1.begin stands_open.1.body stands_open.1.since t.seen sees_now (done b) b (idle t) refl nothing refl refl)

        reads_further : (s : ReadStage) → ReadsBy (ms ++ made ∷ []) s → StageObserves x.request (ms ++ made ∷ []) s → ReadCounted (ms ++ made ∷ []) s → ReadRolls (E None) (reads_vacuum w.text) (ms ++ made ∷ []) s → So None (record h { txn = Some (record t { doing = doing.Read a (record x { stage = s }) }) })
        reads_further s i j n r =
            goes_on tables (record h { txn = Some (record t { doing = doing.Read a (record x { stage = s }) }) }) asked_open refl refl refl refl
            (further (record t { doing = doing.Read a (record x { stage = s }) }) h.plan refl
            (subst (λ (o : Option Planned). IsDoing (E None) c (record t { doing = doing.Read a (record x { stage = s }) }) o (Some w) (doing.Read a (record x { stage = s }))) (sym plan)
            (record { text = is.text; inner = is.inner; stage = subst (λ cs. ReadsBy cs s) (sym calls_on) i; shows = subst (λ cs. StageObserves x.request cs s) (sym calls_on) j }))
            (noted_still catalog events (call_event y None) c h.begun k.entries t stands_open.1 k.answered t.seen noting_now))
            (read_so, waits_open (ms ++ made ∷ []) (Some (record t { doing = doing.Read a (record x { stage = s }) })) (is.inner.commit, n))
            (filled_stays catalog events (call_event y None) c (rest_of (from_begin h.begun k.entries)) (Some (record t { doing = doing.Read a (record x { stage = s }) })) (rest_all (IsAnswered catalog events c) h.begun k.entries k.answered) filled_reading)
            (fit_reading None) (rolls_open (Some (record t { doing = doing.Read a (record x { stage = s }) })) r) (sees_reading None)

        -- the read, where it is done
        was_read : (images : List Record) → read_step x.stage y.now y.reply ≡ Ended (step.Images images) → HasRead (request_of a) (ms ++ made ∷ []) images []
        was_read images e = subst (λ (q : Request). HasRead q (ms ++ made ∷ []) images []) asked.request (subst (StageObserves x.request (ms ++ made ∷ [])) e observed)

        -- the answer that its plan then gives, by which the read has finished
        abbrev seen_then : List Record → TxnAt
        seen_then images = with_rows_read t a images

        abbrev given_then : List Record → Answer
        given_then images = given_answer (seen_then images) (gives p a (seen_then images))

        abbrev left_then : List Record → TxnAt
        left_then images = given_left (seen_then images) (gives p a (seen_then images))

        left_rests : (images : List Record) → (left_then images).doing ≡ doing.Idle
        left_rests images = left_idle (seen_then images) (gives p a (seen_then images)) (reading_stays_idle t a images)

        finished : (images : List Record) → read_step x.stage y.now y.reply ≡ Ended (step.Images images) → has_read (E (Some (given_then images))) c (done (given_then images)) ≡ true
        finished images e =
            ap (λ cs. read_finished cs (given_then images)) (calls_done (given_then images))
            ∙ given_finishes (ms ++ made ∷ []) p (overlay a (seen_then images).seen) (seen_then images) asked.asked (λ key f. unfit_data a (seen_then images).seen p.table key own f) (read_checks a (ms ++ made ∷ []) images (was_read images e) own)

        -- what the transaction has then read
        items_last : (images : List Record) → read_step x.stage y.now y.reply ≡ Ended (step.Images images) → read_items_of_body (E (Some (given_then images))) c (done (given_then images) ∷ []) ≡ read_items (ms ++ made ∷ [])
        items_last images e = notes_one (E (Some (given_then images))) c (done (given_then images)) (finished images e) ∙ ap read_items (calls_done (given_then images))

        noted_then : (images : List Record) → read_step x.stage y.now y.reply ≡ Ended (step.Images images) → SeenBy (read_items_of_body (E (Some (given_then images))) c (stands_open.1.body ++ done (given_then images) ∷ [])) (left_then images).seen
        noted_then images e =
            let z : Answer = given_then images in
            let same = left_reads (seen_then images) (gives p a (seen_then images)) in
            let front : SeenBy (read_items_of_body (E (Some z)) c stands_open.1.body) t.seen = noted_still catalog events (call_event y (Some z)) c h.begun k.entries t stands_open.1 k.answered t.seen noting_now in
            let now_seen : SeenBy (read_items_of_body (E (Some z)) c stands_open.1.body ++ read_items (ms ++ made ∷ [])) (seen_then images).seen = read_noted a (ms ++ made ∷ []) images (read_items_of_body (E (Some z)) c stands_open.1.body) t (was_read images e) own front in
            let whole : read_items_of_body (E (Some z)) c (stands_open.1.body ++ done z ∷ []) ≡ read_items_of_body (E (Some z)) c stands_open.1.body ++ read_items (ms ++ made ∷ []) = notes_more (E (Some z)) c stands_open.1.body (done z) ∙ ap (λ ns. read_items_of_body (E (Some z)) c stands_open.1.body ++ ns) (items_last images e) in
            subst (λ ns. SeenBy ns (left_then images).seen) (sym whole) (seen_same (read_items_of_body (E (Some z)) c stands_open.1.body ++ read_items (ms ++ made ∷ [])) (seen_then images).seen (left_then images).seen same.0 same.1 now_seen)

        -- and as what that is counted
        told_noted : (images : List Record) → read_step x.stage y.now y.reply ≡ Ended (step.Images images) → ReadByDoing (read_items_since (E (Some (given_then images))) c h.begun (k.entries ++ done (given_then images) ∷ [])) (left_then images).seen (left_then images).doing
        told_noted images e =
            let z : Answer = given_then images in
            let u : TxnAt = left_then images in
            let same = left_reads (seen_then images) (gives p a (seen_then images)) in
            let now_so : ReadItemsAre (so_noted ++ read_items (ms ++ made ∷ [])) (seen_then images).seen.reads (seen_then images).seen.scans = noted_read a (ms ++ made ∷ []) images so_noted t (was_read images e) own read_so in
            let whole : read_items_since (E (Some z)) c h.begun (k.entries ++ done z ∷ []) ≡ so_noted ++ read_items (ms ++ made ∷ []) =
            since_open (E (Some z)) c h.begun k.entries (done z) stands_open.1.begin stands_open.1.body stands_open.1.since ∙ ap (λ ns. ns ++ read_items_of_body (E (Some z)) c (done z ∷ [])) (since_stay catalog events (call_event y (Some z)) c h.begun k.entries k.answered) ∙ ap (λ ns. so_noted ++ ns) (items_last images e) in
            subst (λ ns. ReadByDoing ns u.seen u.doing) (sym whole) (notes_idle (so_noted ++ read_items (ms ++ made ∷ [])) u.seen u.doing (left_rests images) (subst (λ rs. ReadItemsAre (so_noted ++ read_items (ms ++ made ∷ [])) rs u.seen.scans) (sym same.0) (subst (ReadItemsAre (so_noted ++ read_items (ms ++ made ∷ [])) (seen_then images).seen.reads) (sym same.1) now_so)))

        -- with the images no more is noted than found
        filled_with : (images : List Record) → read_step x.stage y.now y.reply ≡ Ended (step.Images images) → IsFilledBy (rows_counted_by stands_open.1.body) (records_found_by events c stands_open.1.body + records_found (ms ++ made ∷ [])) (with_rows_read t a images).seen
        filled_with images e = filled_few (rows_counted_by stands_open.1.body) (records_found_by events c stands_open.1.body) (length images) (records_found (ms ++ made ∷ [])) (with_rows_read t a images).seen (images_few a (ms ++ made ∷ []) images (was_read images e) own) (filled_noting (rows_counted_by stands_open.1.body) (records_found_by events c stands_open.1.body) t a images filled_now)

        found_done : (b : Answer) → records_found (ms ++ made ∷ []) ≤ records_found (calls_of (E (Some b)) c (done b))
        found_done b = subst (λ cs. records_found (ms ++ made ∷ []) ≤ records_found cs) (sym (calls_done b)) (least (records_found (ms ++ made ∷ [])))

        -- the changes may be too many
        passes_then : (images : List Record) → read_step x.stage y.now y.reply ≡ Ended (step.Images images) → (b : Answer) → too_many (with_rows_read t a images) (changes_on p.table p.statement (overlay a (with_rows_read t a images).seen)) ≡ true → MayPassMost (E (Some b)) c (done b)
        passes_then images e b many =
            pass_now c h.begun (E (Some b)) k.entries stands_open.1.begin (done b) stands_open.1.body p.statement k.small (said_done b) stands_open.1.since stands_open.1.goes_on is.text
            (passes_given (rows_counted_by stands_open.1.body) (records_found_by (E (Some b)) c stands_open.1.body + records_found (calls_of (E (Some b)) c (done b))) (with_rows_read t a images) a p.table p.statement
            (filled_found catalog events (call_event y (Some b)) c stands_open.1.body (records_found (ms ++ made ∷ [])) (records_found (calls_of (E (Some b)) c (done b))) (with_rows_read t a images).seen body_answered (found_done b) (filled_with images e)) many)

        -- what it sees then fits, or a statement read it
        fit_then : (images : List Record) → read_step x.stage y.now y.reply ≡ Ended (step.Images images) → SeesFitOrRead tables (E (Some (given_then images))) c (stands_open.1.body ++ done (given_then images) ∷ []) (seen_then images).seen
        fit_then images e =
            sees_read tables p a listed of_table (ms ++ made ∷ []) t images (was_read images e) own (E (Some (given_then images))) c stands_open.1.body (done (given_then images)) (calls_done (given_then images)) (finished images e)
            (fit_now (Some (given_then images)))

        -- a row that doesn't fit its table was read by it or before
        misfit_caused : (images : List Record) → read_step x.stage y.now y.reply ≡ Ended (step.Images images) → (key : Key) → first_unfit p.table (overlay a (seen_then images).seen) ≡ Some key → IsBadRecord catalog (E (Some (given_then images))) c (done (given_then images)) key
        misfit_caused images e key f =
            let m = was_misfit tables p a listed of_table (E (Some (given_then images))) c (stands_open.1.body ++ done (given_then images) ∷ []) (seen_then images).seen key (fit_then images e) f in
            inr (meets_now catalog tables c h.begun (E (Some (given_then images))) k.entries stands_open.1.begin (done (given_then images)) stands_open.1.body p.statement p.table key (asked_done (given_then images)) k.small (said_done (given_then images)) stands_open.1.since stands_open.1.goes_on is.text asked.named
            (subst (λ (z : Access). in_access z key ≡ true) asked.access m.0) m.1)

        -- what it shows, and what its transaction then sees
        shows_then : (images : List Record) → read_step x.stage y.now y.reply ≡ Ended (step.Images images) → ShowsNext catalog tables (E (Some (given_then images))) c k.entries (done (given_then images)) (given_then images) (holding h (left_then images))
        shows_then images e =
            let next = read_next catalog tables c events (call_event y (Some (given_then images))) k.entries k.answered h.begun stands_open.1.begin stands_open.1.body stands_open.1.since k.begun t sees_now (sound free t a x some reads).1 (done (given_then images)) p a (ms ++ made ∷ []) images (calls_done (given_then images)) (was_read images e) is_fine is.text (waits.vacuum ∙ ap is_some free) asked.named asked.asked asked.access refl
            (finished images e) in
            (λ opened. subst (λ (ts : List Table). GivesOwn ts (E (Some (given_then images))) c (rest_of (from_begin (begun_in k.entries) k.entries)) (done (given_then images)) (given_then images)) (sym (asked_done (given_then images))) (next.0 opened), next.1)

        is_known : (images : List Record) → read_step x.stage y.now y.reply ≡ Ended (step.Images images) → So (Some (given_then images)) (holding h (left_then images))
        is_known images e =
            let v : TxnAt = seen_then images in
            let b : Answer = given_then images in
            let m = given_middle p (overlay a v.seen) v in
            answers b (holding h (left_then images)) (given_caused catalog tables (E (Some b)) c (done b) p (overlay a v.seen) v (asked_done b) is.text asked.named asked.asked (open_before b) (misfit_caused images e) (passes_then images e b)) (stays b m.agrees) refl refl
            (held b (left_then images) m is.inner.commit (left_id v (gives p a v) ∙ reading_keeps_id t a images) (left_rests images) (noted_then images e))
            (no_fit b, told_noted images e)
            (filled_idle (E (Some b)) c h.begun k.entries (done b) stands_open.1.begin stands_open.1.body (left_then images) stands_open.1.since (left_rests images)
            (filled_given catalog events (call_event y (Some b)) c stands_open.1.body (done b) p (overlay a v.seen) v (records_found (ms ++ made ∷ [])) body_answered refl (finished images e) (found_done b) (filled_with images e)))
            (fits_idle tables (E (Some b)) c h.begun k.entries (done b) stands_open.1.begin stands_open.1.body (left_then images) stands_open.1.since (left_rests images)
            (given_fits tables p a listed of_table is_fine asked.named asked.asked asked.accepted asked.literals asked.access (E (Some b)) c (stands_open.1.body ++ done b ∷ []) v (fit_then images e)))
            (λ z. subst (ReadRolls (E (Some b)) (reads_vacuum w.text) (ms ++ made ∷ [])) e (rolled_read (Some b))) (shows_then images e)

        -- a key that was read differs
        moved_now : (images : List Record) (key : Key) (found : Option Record) → read_step x.stage y.now y.reply ≡ Ended (step.Images images) → IsChangedAt t a images key found → ends (done (answer.Conflict key found)) ≡ true
            → (other : Key) (others : Option Record) → Some (answer.Conflict key found) ≡ Some (answer.Conflict other others)
            → IsChangedIn (E (Some (answer.Conflict key found))) c (k.entries ++ done (answer.Conflict key found) ∷ []) (done (answer.Conflict key found)) other others
        moved_now images key found e moved over other others same =
            let b : Answer = answer.Conflict key found in
            let here : ChangesAtScan (ms ++ made ∷ []) (read_items_of_body events c stands_open.1.body) key found = changed_scan (ms ++ made ∷ []) (read_items_of_body events c stands_open.1.body) t a images key found (was_read images e) (sound free t a x some reads).0 noting_now moved in
            let keys : key ≡ other = cc in
            let founds : found ≡ others = cc in
            record {
              n = h.begun;
              begin = stands_open.1.begin;
              body = stands_open.1.body;
              tail = [];
              since = since_more h.begun k.entries (done b) stands_open.1.begin stands_open.1.body stands_open.1.since;
              goes_on = stands_open.1.goes_on;
              over = over;
              small = k.small;
              why = subst (λ v. ChangesBy v (id_of c h.begun) (calls_of (E (Some b)) c (done b)) (read_items_of_body (E (Some b)) c stands_open.1.body) other others) (sym is.inner.commit) (subst (λ ns. ChangesAtScan (calls_of (E (Some b)) c (done b)) ns other others) (sym (notes_stay catalog events (call_event y (Some b)) c stands_open.1.body (since_all (IsAnswered catalog events c) h.begun k.entries stands_open.1.begin stands_open.1.body k.answered stands_open.1.since)))
                  (subst (λ cs. ChangesAtScan cs (read_items_of_body events c stands_open.1.body) other others) (sym (calls_done b))
                  (subst (λ (z : Key). ChangesAtScan (ms ++ made ∷ []) (read_items_of_body events c stands_open.1.body) z others) keys (subst (λ (z : Option Record). ChangesAtScan (ms ++ made ∷ []) (read_items_of_body events c stands_open.1.body) key z) founds here))));
            }

        read_ends : (images : List Record) → read_result (read_step x.stage y.now y.reply) ≡ step.Images images → So (Some (given_then images)) (holding h (left_then images))
        read_ends images e = is_known images (read_ended (read_step x.stage y.now y.reply) (step.Images images) e (λ n. cc))

        read_conflicts : (images : List Record) (key : Key) (found : Option Record) → read_result (read_step x.stage y.now y.reply) ≡ step.Images images → IsChangedAt t a images key found → So (Some (answer.Conflict key found)) (resting h)
        read_conflicts images key found e moved =
            let ends_at : read_step x.stage y.now y.reply ≡ Ended (step.Images images) = read_ended (read_step x.stage y.now y.reply) (step.Images images) e (λ n. cc) in
            let over : ends (done (answer.Conflict key found)) ≡ true = ap (λ b. b || true || (reads_rollback w.text && false)) is.inner.commit in
            answers (answer.Conflict key found) (resting h) (λ z. clash z) (moved_now images key found ends_at moved over) refl refl (ended (answer.Conflict key found) over) (no_fit (answer.Conflict key found), tt) tt tt (λ z. clash (sym z)) ((λ was. tt), tt)

        read_goes_on : (s : ReadStage) → read_step x.stage y.now y.reply ≡ s → read_result s ≡ step.More → So None (record h { txn = Some (record t { doing = doing.Read a (record x { stage = s }) }) })
        read_goes_on Asking e more = reads_further Asking tt (subst (StageObserves x.request (ms ++ made ∷ [])) e observed) (subst (ReadCounted (ms ++ made ∷ [])) e counted_read) (subst (ReadRolls (E None) (reads_vacuum w.text) (ms ++ made ∷ [])) e (rolled_read None))
        read_goes_on (Resolving images rec meta q left) e more = reads_further (Resolving images rec meta q left) (subst (LedBy (E None) (ms ++ made ∷ [])) e (leads None)) (subst (StageObserves x.request (ms ++ made ∷ [])) e observed) (subst (ReadCounted (ms ++ made ∷ [])) e counted_read) (subst (ReadRolls (E None) (reads_vacuum w.text) (ms ++ made ∷ [])) e (rolled_read None))
        read_goes_on (Ended o) e more = absurd (subst (LedBy (E None) (ms ++ made ∷ [])) (e ∙ ap Ended more) (leads None))

        -- it ends without images, or is out of memory
        led_to : (result : Option Answer) (o : ReadStep) → read_result (read_step x.stage y.now y.reply) ≡ o → o ≢ step.More → LedBy (E result) (ms ++ made ∷ []) (Ended o)
        led_to result o e n = subst (LedBy (E result) (ms ++ made ∷ [])) (read_ended (read_step x.stage y.now y.reply) o e n) (leads result)

        failed : (o : ReadStep) (b : Answer) → read_result (read_step x.stage y.now y.reply) ≡ o → Fails o b → So (Some b) (holding h (idle t))
        failed o b e (IsBusy key id at) =
            fails (answer.Busy key id at) refl refl (record { undone = refl; agrees = refl }) (λ g. busy_caused (E (Some (answer.Busy key id at))) c (done (answer.Busy key id at)) key id at (subst (λ cs. IsBusyBy (E (Some (answer.Busy key id at))) cs key id at) (sym (calls_done (answer.Busy key id at))) (led_to (Some (answer.Busy key id at)) (step.Busy key id at) e (λ n. cc))))
        failed o b e HasFaulted =
            fails answer.Faulted refl refl (record { undone = refl; agrees = refl }) (λ g. subst (HasReply is_fault) (sym (calls_done answer.Faulted)) (led_to (Some answer.Faulted) step.Faulted e (λ n. cc)))
        failed o b e (IsMalformed key) =
            let bad : ObservesBad (ms ++ made ∷ []) key = led_to (Some (answer.BadRecord key)) (step.BadRecord key) e (λ n. cc) in
            fails (answer.BadRecord key) refl (bad_unfinished (ms ++ made ∷ []) key bad) (record { undone = refl; agrees = refl }) (λ g. bad_caused key bad)
        failed o b e (OutOfMemory s) = fails answer.NoMemory refl refl (record { undone = refl; agrees = refl }) (λ g. tt)

      ---- a COMMIT

      module _ (j : CommitAt) (plan : h.plan ≡ None) (commits : t.doing ≡ doing.Commit j) (is : IsCommitting events c w t j) where
        work_in : IsWorkIn tables j.work
        work_in =
            let d : IsDoingIn tables t.seen t.doing h.plan = subst (λ (o : Option TxnAt). IfSome o (λ u. IsDoingIn tables u.seen u.doing h.plan)) some about.txn in
            subst (λ z. IsDoingIn tables t.seen z h.plan) commits d

        of_data : IsOfData j.work
        of_data = record {
          small = subst (λ (z : TxId). z.0 < 2 ^ 128) (sym (is.same ∙ stands_open.1.id)) (id_fits c h.begun stands_open.1.client k.small);
          moment = is.moment;
          writes = each_any (λ (z : Write). IsIn tables z.key × IsRecordIn tables z.base) (λ (z : Write). is_data z.key ≡ true) j.work.writes (λ z i. apart z.key i.0) work_in.writes;
          reads = each_any (λ (z : Read). IsIn tables z.key) (λ (z : Read). is_data z.key ≡ true) j.work.reads (λ z i. apart z.key i) work_in.reads;
        }

        pends_commit : commit_pending j.work j.stage ≡ Some made.request
        pends_commit = subst (λ (d : Doing). pending_in d ≡ Some y.request) commits (subst (λ (o : Option TxnAt). pending_of o ≡ Some y.request) some pends_txn)

        abbrev then_at : Stage
        then_at = commit_step j.work j.stage y.reply

        -- how many calls it has made
        commit_noted : ReadItemsAre so_noted j.work.reads j.work.scans
        commit_noted = subst (ReadByDoing so_noted t.seen) commits open_noted

        commit_so : DoingCounted w.text so_id so_noted ms (doing.Commit j)
        commit_so = subst (DoingCounted w.text so_id so_noted ms) commits open_counted

        then_stands : StageByCalls j.work (ms ++ made ∷ []) then_at
        then_stands = stands_on j.work of_data ms made older commit_so.2 j.stage is.stage pends_commit called.can

        counted_commit : CommitCounted so_noted j.work (ms ++ made ∷ []) then_at
        counted_commit = commit_more so_noted j.work commit_noted commit_so.2 ms made j.stage commit_so.3 pends_commit

        over_done : (b : Answer) → ends (done b) ≡ true
        over_done b = ap (λ z. z || is_conflict (Some b) || (reads_rollback w.text && is_done (Some b))) is.text

        commit_done : (b : Answer) → IsCommitOf (E (Some b)) c (done b) j.work.id
        commit_done b = subst (IsCommitOf (E (Some b)) c (done b)) (sym is.same) (commit_is (E (Some b)) (done b) k.small (said_done b) is.text (over_done b) stands_open.1)

        -- why it ends so
        end_caused : (a : Outcome) → EndsBy j.work.id (ms ++ made ∷ []) a → is_conflict (Some (answer_of_outcome a)) ≡ false → IsCaused catalog (E (Some (answer_of_outcome a))) c (done (answer_of_outcome a)) (answer_of_outcome a)
        end_caused a e = outcome_caused catalog (E (Some (answer_of_outcome a))) c (done (answer_of_outcome a)) j.work.id a (commit_done (answer_of_outcome a)) (subst (λ cs. EndsBy j.work.id cs a) (sym (calls_done (answer_of_outcome a))) e)

        -- an end of the transaction, of which a COMMIT's cause is answered elsewhere
        checks_now : WorkBy (read_items_of_body events c stands_open.1.body) j.work × ChecksBy (read_items_of_body events c stands_open.1.body) j.work ms j.stage
        checks_now = subst (λ d. IsReadSetOf events c k.entries stands_open.1.body t d (Some w)) commits (subst (λ v. IsReadSetOf events c k.entries stands_open.1.body t t.doing v) waiting stands_open.3)

        checks_then : WorkBy (read_items_of_body events c stands_open.1.body) j.work × ChecksBy (read_items_of_body events c stands_open.1.body) j.work (ms ++ made ∷ []) then_at
        checks_then = let z = checks_now in (z.0, checks_on j.work (read_items_of_body events c stands_open.1.body) z.0 ms made j.stage z.1 pends_commit called.can)

        body_notes : (result : Option Answer) → read_items_of_body events c stands_open.1.body ≡ read_items_of_body (E result) c stands_open.1.body
        body_notes result = sym (notes_stay catalog events (call_event y result) c stands_open.1.body (since_all (IsAnswered catalog events c) h.begun k.entries stands_open.1.begin stands_open.1.body k.answered stands_open.1.since))

        ends_moved : (a : Outcome) → then_at ≡ Over a → (key : Key) (found : Option Record) → Some (answer_of_outcome a) ≡ Some (answer.Conflict key found)
            → IsChangedIn (E (Some (answer_of_outcome a))) c (k.entries ++ done (answer_of_outcome a) ∷ []) (done (answer_of_outcome a)) key found
        ends_moved a at_end key found e =
            let b : Answer = answer_of_outcome a in
            let ended_by : ConflictBy (read_items_of_body events c stands_open.1.body) j.work (ms ++ made ∷ []) a = subst (ChecksBy (read_items_of_body events c stands_open.1.body) j.work (ms ++ made ∷ [])) at_end checks_then.1 in
            let here : ConflictsAtCommit (ms ++ made ∷ []) (read_items_of_body events c stands_open.1.body) j.work.id key found = conflict_of (read_items_of_body events c stands_open.1.body) j.work (ms ++ made ∷ []) a key found (some_is b (answer.Conflict key found) e) ended_by in
            record {
              n = h.begun;
              begin = stands_open.1.begin;
              body = stands_open.1.body;
              tail = [];
              since = since_more h.begun k.entries (done b) stands_open.1.begin stands_open.1.body stands_open.1.since;
              goes_on = stands_open.1.goes_on;
              over = over_done b;
              small = k.small;
              why = subst (λ v. ChangesBy v (id_of c h.begun) (calls_of (E (Some b)) c (done b)) (read_items_of_body (E (Some b)) c stands_open.1.body) key found) (sym is.text)
                  (subst (λ ns. ConflictsAtCommit (calls_of (E (Some b)) c (done b)) ns (id_of c h.begun) key found) (body_notes (Some b))
                  (subst (λ cs. ConflictsAtCommit cs (read_items_of_body events c stands_open.1.body) (id_of c h.begun) key found) (sym (calls_done b))
                  (subst (λ (i : TxId). ConflictsAtCommit (ms ++ made ∷ []) (read_items_of_body events c stands_open.1.body) i key found) (is.same ∙ stands_open.1.id) here)));
            }

        is_over : (a : Outcome) → then_at ≡ Over a → So (Some (answer_of_outcome a)) (resting h)
        is_over a e =
            answers (answer_of_outcome a) (resting h) (end_caused a (subst (StageByCalls j.work (ms ++ made ∷ [])) e then_stands)) (ends_moved a e) refl refl (ended (answer_of_outcome a) (over_done (answer_of_outcome a)))
            (λ z. subst (λ (i : TxId). CommitIsCounted so_noted i (Some (answer_of_outcome a)) (ms ++ made ∷ [])) commit_so.1 (commit_over so_noted j.work (ms ++ made ∷ []) a (subst (CommitCounted so_noted j.work (ms ++ made ∷ [])) e counted_commit) (subst (StageByCalls j.work (ms ++ made ∷ [])) e then_stands)), tt) tt tt (λ z. clash (sym z ∙ outcome_rows j.work.id (ms ++ made ∷ []) a (subst (StageByCalls j.work (ms ++ made ∷ [])) e then_stands)))
            ((λ was. outcome_tells (catalog_after catalog (before (done (answer_of_outcome a)) (E (Some (answer_of_outcome a))))) (E (Some (answer_of_outcome a))) c (rest_of (from_begin (begun_in k.entries) k.entries)) (done (answer_of_outcome a)) a), tt)

        commits_on : (u : TxnAt) (m : CommitAt) → u.id ≡ t.id → u.doing ≡ doing.Commit m → m.work ≡ j.work → StageByCalls j.work (ms ++ made ∷ []) m.stage → ((ns : List ReadItem) → ChecksBy ns j.work (ms ++ made ∷ []) then_at → ChecksBy ns j.work (ms ++ made ∷ []) m.stage) → CommitCounted so_noted j.work (ms ++ made ∷ []) m.stage → So None (record h { txn = Some u })
        commits_on u m same does work agrees checked counts =
            goes_on tables (record h { txn = Some u }) asked_open refl refl refl refl
            (further u h.plan same
            (subst (IsDoing (E None) c u h.plan (Some w)) (sym does) (record {
              text = is.text;
              same = ap (λ (z : Work). z.id) work ∙ is.same ∙ sym same;
              moment = subst (λ (z : Work). is_moment z.now ≡ true) (sym work) is.moment;
              stage = subst (λ (z : Work). StageByCalls z (calls_of (E None) c w) m.stage) (sym work) (subst (λ cs. StageByCalls j.work cs m.stage) (sym calls_on) agrees);
            }))
            (subst (λ d. IsReadSetOf (E None) c k.entries stands_open.1.body u d (Some w)) (sym does) (
            let z = checks_then in (
              subst (λ (v : Work). WorkBy (read_items_of_body (E None) c stands_open.1.body) v) (sym work) (subst (λ ns. WorkBy ns j.work) (body_notes None) z.0),
              subst (λ (v : Work). ChecksBy (read_items_of_body (E None) c stands_open.1.body) v (calls_of (E None) c w) m.stage) (sym work)
                  (subst (λ cs. ChecksBy (read_items_of_body (E None) c stands_open.1.body) j.work cs m.stage) (sym calls_on)
                  (subst (λ ns. ChecksBy ns j.work (ms ++ made ∷ []) m.stage) (body_notes None) (checked (read_items_of_body events c stands_open.1.body) z.1))),
            )))) (
              subst (ReadByDoing so_noted u.seen) (sym does) (subst (λ (z : Work). ReadItemsAre so_noted z.reads z.scans) (sym work) commit_noted),
              waits_open (ms ++ made ∷ []) (Some u) (subst (DoingCounted w.text so_id so_noted (ms ++ made ∷ [])) (sym does)
                  (is.text, ap (λ (z : Work). z.id) work ∙ commit_so.1, subst (λ (z : Work). AllByRecursion IsWrite z.writes) (sym work) commit_so.2, subst (λ (z : Work). CommitCounted so_noted z (ms ++ made ∷ []) m.stage) (sym work) counts)),
            )
            (subst (IsFilledIn (E None) c (rest_of (from_begin h.begun k.entries)) u.seen) (sym does) tt) (subst (SeesFitOrReadIn tables (E None) c (rest_of (from_begin h.begun k.entries)) u.seen) (sym does) tt) (rolls_open (Some u) (subst (DoingRolls (E None) (reads_vacuum w.text) (ms ++ made ∷ [])) (sym does) tt)) (λ z. subst (SeesOwnIn tables (E None) c (rest_of (from_begin h.begun k.entries)) u.seen) (sym does) tt)

        by_stage : (m : Stage) → IsNext j.work j.stage y.reply m → StageByCalls j.work (ms ++ made ∷ []) m
        by_stage m z = next_by (StageByCalls j.work (ms ++ made ∷ [])) j.work j.stage y.reply m z then_stands (starved_stands j.work (ms ++ made ∷ []) then_at then_stands)

        by_counts : (m : Stage) → IsNext j.work j.stage y.reply m → CommitCounted so_noted j.work (ms ++ made ∷ []) m
        by_counts m z = next_by (CommitCounted so_noted j.work (ms ++ made ∷ [])) j.work j.stage y.reply m z counted_commit (commit_starved so_noted j.work (ms ++ made ∷ []) then_at counted_commit)

        by_checks : (m : Stage) → IsNext j.work j.stage y.reply m → (ns : List ReadItem) → ChecksBy ns j.work (ms ++ made ∷ []) then_at → ChecksBy ns j.work (ms ++ made ∷ []) m
        by_checks m z ns v = next_by (ChecksBy ns j.work (ms ++ made ∷ [])) j.work j.stage y.reply m z v (starved_checks ns j.work (ms ++ made ∷ []) then_at v)

        commit_goes_on : (u : TxnAt) (m : Stage) → CommitGoesTo j y.reply t u m → So None (record h { txn = Some u })
        commit_goes_on u m z = commits_on u (record { work = j.work; stage = m }) z.same z.doing refl (by_stage m z.next) (by_checks m z.next) (by_counts m z.next)

    ---- a VACUUM

    module _ (v : VacuumAt) (runs : h.vacuum ≡ Some v) (is : IsInVacuum events c k.entries (Some w) h.txn v) where
      reads_it : Reads w.text statement.Vacuum
      reads_it = (vacuum_read w.text).0 (waits.vacuum ∙ ap is_some runs)

      no_commit : reads_commit w.text ≡ false
      no_commit = other_no_commit w.text statement.Vacuum reads_it (λ e. cc)

      sweeps_data : SweepsData v.stage
      sweeps_data = sweeps_of tables apart v.stage (subst (λ (o : Option VacuumAt). IfSome o (IsVacuumIn tables)) runs about.vacuum).0

      led : SweepLed (E None) ms made older y.now (clock_now None) (vacuum_step v y.now y.reply)
      led = step_led (E None) ms made older y.now (clock_now None) v.spans v.removed v.stage sweeps_data is.2.0 is.2.1 (subst (λ (o : Option VacuumAt). pending_by o h.txn ≡ Some y.request) runs called.waiting.pending) called.can

      counted_sweep : VacuumIsCounted catalog (ms ++ made ∷ []) (vacuum_step v y.now y.reply).0
      counted_sweep = sweep_more catalog ms made v y.now sweeps_data (subst (λ o. WaitCounted catalog w.text so_id so_noted ms o h.txn) runs counted_now) (subst (λ (o : Option VacuumAt). pending_by o h.txn ≡ Some y.request) runs called.waiting.pending)

      abbrev RolledTo : Option Answer → VacuumStep → Type 0
      RolledTo result s = SweepsTo (E result) (reads_vacuum w.text) ms made older s (vacuum_step v y.now y.reply).0

      rolled_sweep : (result : Option Answer) → RolledTo result (vacuum_step v y.now y.reply).1
      rolled_sweep result = sweep_rolls (E result) (reads_vacuum w.text) ms made older y.now (clock_now result) called.moment (waits.vacuum ∙ ap is_some runs) v.spans v.removed v.stage (sweeps_so_far c events (call_event y result) w v.stage (subst (λ o. WaitRolls events (reads_vacuum w.text) ms o h.txn) runs rolls_now)) (subst (λ (o : Option VacuumAt). pending_by o h.txn ≡ Some y.request) runs called.waiting.pending)

      -- another call is pending
      sweeps_on : (left : VacuumAt) → VacuumBy (ms ++ made ∷ []) left → VacuumIsCounted catalog (ms ++ made ∷ []) left → VacuumRolls (E None) (reads_vacuum w.text) (ms ++ made ∷ []) left.stage → So None (record h { vacuum = Some left })
      sweeps_on left by counts rolls = goes_on k.under (record h { vacuum = Some left }) asked_so (subst (λ (o : Option TxnAt). IfSome o (λ t. k.under ≡ tables)) (sym is.0) tt) refl refl (sym (ap is_some runs)) (is.0, is.1, subst (λ cs. VacuumBy cs left) (sym calls_on) by) (k.counted.as_read, counts) (subst (λ (o : Option TxnAt). IfSome o (IsFilled (E None) c (rest_of (from_begin h.begun k.entries)))) (sym is.0) tt) (subst (λ (o : Option TxnAt). IfSome o (IsFitOrReadTxn k.under (E None) c (rest_of (from_begin h.begun k.entries)))) (sym is.0) tt) rolls (λ z. subst (λ (o : Option TxnAt). IfSome o (IsViewOf k.under (E None) c (rest_of (from_begin h.begun k.entries)))) (sym is.0) tt)

      -- it is answered
      sweep_ends : (b : Answer) → IsMiddle b → (is_conflict (Some b) ≡ false → IsCaused catalog (E (Some b)) c (done b) b) → RollsThen b → So (Some b) (record h { vacuum = None })
      sweep_ends b m caused rolls =
          answers b (record h { vacuum = None }) caused (unmoved (E (Some b)) c (k.entries ++ done b ∷ []) (done b) b refl m.agrees) refl refl
          (subst (DoingByHistory (E (Some b)) c h.begun (k.entries ++ done b ∷ []) None h.plan) (sym is.0) (refl, after_more k.entries (done b) ∙ ap (λ x. is_open_after x (done b)) is.1 ∙ after_plain false (done b) (begins_none b) (λ e. clash (sym e))))
          (λ e. clash (sym e ∙ no_commit), subst (ReadByTxn (read_items_since (E (Some b)) c h.begun (k.entries ++ done b ∷ []))) (sym is.0) tt)
          (subst (λ (o : Option TxnAt). IfSome o (IsFilled (E (Some b)) c (rest_of (from_begin h.begun (k.entries ++ done b ∷ []))))) (sym is.0) tt) (subst (λ (o : Option TxnAt). IfSome o (IsFitOrReadTxn tables (E (Some b)) c (rest_of (from_begin h.begun (k.entries ++ done b ∷ []))))) (sym is.0) tt) rolls ((λ was. clash (sym was ∙ is.1)), subst (λ (o : Option TxnAt). IfSome o (IsViewOf tables (E (Some b)) c (rest_of (from_begin h.begun (k.entries ++ done b ∷ []))))) (sym is.0) tt)

      sweep_goes_on : (left : VacuumAt) → Gives (vacuum_step v y.now y.reply) left vacuuming.More → So None (record h { vacuum = Some left })
      sweep_goes_on left g =
          sweeps_on left (subst (VacuumBy (ms ++ made ∷ [])) (sym g.0) (subst (λ (z : VacuumStep). IfMore z (VacuumBy (ms ++ made ∷ []) (vacuum_step v y.now y.reply).0)) (sym g.1) led.0)) (subst (VacuumIsCounted catalog (ms ++ made ∷ [])) (sym g.0) counted_sweep) (subst (λ (u : VacuumAt). VacuumRolls (E None) (reads_vacuum w.text) (ms ++ made ∷ []) u.stage) (sym g.0) (subst (RolledTo None) (sym g.1) (rolled_sweep None)))

      sweep_answered : (s : VacuumStep) (left : VacuumAt) (b : Answer) → Gives (vacuum_step v y.now y.reply) left s → answer_of s ≡ Some b → So (Some b) (record h { vacuum = None })
      sweep_answered vacuuming.More left b g e = clash (sym (ap is_some e))
      sweep_answered (vacuuming.Count n) left b g e =
          subst (λ (z : Answer). So (Some z) (record h { vacuum = None })) (some_is (answer.Count n) b e)
          (sweep_ends (answer.Count n) (record { undone = refl; agrees = refl }) (λ t. (statement.Vacuum, reads_it, subst (λ cs. n ≡ count_by removes cs) (sym (calls_done (answer.Count n))) (subst (VacuumEndBy (ms ++ made ∷ [])) (sym g.1) led.1))) (λ z. subst (RolledTo (Some (answer.Count n))) (sym g.1) (rolled_sweep (Some (answer.Count n)))))
      sweep_answered vacuuming.Faulted left b g e =
          subst (λ (z : Answer). So (Some z) (record h { vacuum = None })) (some_is answer.Faulted b e)
          (sweep_ends answer.Faulted (record { undone = refl; agrees = refl }) (λ t. subst (HasReply is_fault) (sym (calls_done answer.Faulted)) (subst (VacuumEndBy (ms ++ made ∷ [])) (sym g.1) led.1)) (λ z. clash (sym z)))
      sweep_answered (vacuuming.BadRecord key) left b g e =
          subst (λ (z : Answer). So (Some z) (record h { vacuum = None })) (some_is (answer.BadRecord key) b e)
          (sweep_ends (answer.BadRecord key) (record { undone = refl; agrees = refl }) (λ t. bad_caused key (subst (VacuumEndBy (ms ++ made ∷ [])) (sym g.1) led.1))
          (λ z. clash (sym z ∙ bad_unfinished (ms ++ made ∷ []) key (subst (VacuumEndBy (ms ++ made ∷ [])) (sym g.1) led.1))))
      sweep_answered vacuuming.NoMemory left b g e =
          subst (λ (z : Answer). So (Some z) (record h { vacuum = None })) (some_is answer.NoMemory b e) (sweep_ends answer.NoMemory (record { undone = refl; agrees = refl }) (λ t. tt) (λ z. clash (sym z)))

  ---- whatever it does

  does : (t : TxnAt) → h.vacuum ≡ None → h.txn ≡ Some t → IsDoing events c t h.plan k.waiting t.doing
  does t free some = (subst (DoingByHistory events c h.begun k.entries k.waiting h.plan) some (subst (ClientByHistory events c h.begun k.entries k.waiting h.plan h.txn) free k.agrees)).2

  reads_for : (t : TxnAt) (p : Planned) (a : Access) (x : ReadAt) → IsReadAt h y.request t p a x → (w : Executed) × (k.waiting ≡ Some w) × IsReading events c w p x
  reads_for t p a x at = by k.waiting refl (subst (λ (o : Option Planned). IsDoing events c t o k.waiting (doing.Read a x)) at.plan (subst (IsDoing events c t h.plan k.waiting) at.doing (does t at.free at.opened)))
    where
      by : (v : Option Executed) → k.waiting ≡ v → IsDoing events c t (Some p) v (doing.Read a x) → (w : Executed) × (k.waiting ≡ Some w) × IsReading events c w p x
      by None e is = absurd is
      by (Some w) e is = (w, e, is)

  commits_for : (t : TxnAt) (j : CommitAt) → IsCommitAt h y.request t j → (w : Executed) × (k.waiting ≡ Some w) × IsCommitting events c w t j
  commits_for t j at = by k.waiting refl (subst (λ (o : Option Planned). IsDoing events c t o k.waiting (doing.Commit j)) at.plan (subst (IsDoing events c t h.plan k.waiting) at.doing (does t at.free at.opened)))
    where
      by : (v : Option Executed) → k.waiting ≡ v → IsDoing events c t None v (doing.Commit j) → (w : Executed) × (k.waiting ≡ Some w) × IsCommitting events c w t j
      by None e is = absurd is
      by (Some w) e is = (w, e, is)

  sweeps_for : (v : VacuumAt) → IsVacuumAt h y.request v → (w : Executed) × (k.waiting ≡ Some w) × IsInVacuum events c k.entries (Some w) h.txn v
  sweeps_for v at = by k.waiting refl (subst (ClientByHistory events c h.begun k.entries k.waiting h.plan h.txn) at.runs k.agrees)
    where
      by : (o : Option Executed) → k.waiting ≡ o → IsInVacuum events c k.entries o h.txn v → (w : Executed) × (k.waiting ≡ Some w) × IsInVacuum events c k.entries (Some w) h.txn v
      by None e is = absurd is
      by (Some w) e is = (w, e, is)

  asked_by : (t : TxnAt) (p : Planned) (a : Access) (x : ReadAt) → IsReadAt h y.request t p a x → IsAskedBy tables p a x
  asked_by t p a x at = asked_at tables h y.request y.reply y.now called.waiting.fitted at

  pub replies_known : (result : Option Answer) (d : Client) → Step h (Receives y.request y.reply y.now) result d → So result d
  replies_known result d (ReadGoesOn t p a x at more) = let w = reads_for t p a x at in read_goes_on w.0 w.1 t at.opened at.free p a x at.plan at.doing (asked_by t p a x at) w.2 (read_step x.stage y.now y.reply) refl more
  replies_known result d (ReadEnds t p a x images at ends is_asked as_read) = let w = reads_for t p a x at in read_ends w.0 w.1 t at.opened at.free p a x at.plan at.doing (asked_by t p a x at) w.2 images ends
  replies_known result d (ReadConflicts t p a x images key found at ends changed) = let w = reads_for t p a x at in read_conflicts w.0 w.1 t at.opened at.free p a x at.plan at.doing (asked_by t p a x at) w.2 images key found ends changed
  replies_known result d (ReadFails {b = b} t p a x at f) = let w = reads_for t p a x at in failed w.0 w.1 t at.opened at.free p a x at.plan at.doing (asked_by t p a x at) w.2 (read_result (read_step x.stage y.now y.reply)) b refl f
  replies_known result d (CommitGoesOn {u = u} t j next at to) = let w = commits_for t j at in commit_goes_on w.0 w.1 t at.opened at.free j at.plan at.doing w.2 u next to
  replies_known result d (CommitEnds t j a at over) = let w = commits_for t j at in is_over w.0 w.1 t at.opened at.free j at.plan at.doing w.2 a (ended_is (commit_step j.work j.stage y.reply) a over)
  replies_known result d (VacuumGoesOn {w = left} v at gave) = let w = sweeps_for v at in sweep_goes_on w.0 w.1 v at.runs w.2 left gave
  replies_known result d (VacuumEnds {b = b} v left s at gave answers) = let w = sweeps_for v at in sweep_answered w.0 w.1 v at.runs w.2 s left b gave answers
