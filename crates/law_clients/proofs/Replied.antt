-- Whatever reply a client's call gets, it keeps what ties the events to the clients.
use Rattle.std.proofs.Common.{◌≡◌, ℕ, ◌+◌, true, length, List, [], ◌∷◌, ◌++◌, Option, Some, None, refl, sym, ap, subst, ◌∙◌, ◌⊎◌, inl, inr}
use Rattle.std.specs.Prelude.{is_some, nat_lt, slice_get}
use Rattle.std.specs.Option.{option_map}
use Rattle.law_clients.specs.Types.{Access, Answer, Doing, Event, Key, Outcome, Reply, Span, Statement, Table, VacuumStep, ValidateStep}
use Rattle.sdb_types.proofs.Public.{some_is}
use Rattle.sdb_schema.specs.Catalog.{is_catalog}
use Rattle.sdb_model.specs.Catalogs.{catalog_after}
use Rattle.sdb_model.specs.declared.answer.Answer.TheVariants as answer
use Rattle.sdb_model.specs.Exec.{find_table}
use Rattle.sdb_exec.specs.Plans.{Planned}
use Rattle.sdb_txn.specs.Read.{ReadAt, read_step}
use Rattle.law_protocol.specs.History.{at}
use Rattle.sdb_phases.specs.declared.step.ValidateStep.TheVariants as validate
use Rattle.sdb_phases.specs.Work.{Work}
use Rattle.sdb_phases.specs.Checks.{checks}
use Rattle.sdb_phases.specs.Steps.{validate_step}
use Rattle.sdb_phases.specs.Commit.{Stage, Preparing, Checking, Deciding, Forward, Stopping, Back, Over, after_check, pending as commit_pending, out_of_memory as out_of_memory_stage, step as commit_step}
use Rattle.sdb_validate.specs.Inside.{Judges}
use Rattle.sdb_txn.specs.Phases.{CommitAt, IsNext, ended_at}
use Rattle.sdb_txn.specs.declared.txn.Doing.TheVariants as doing
use Rattle.sdb_txn.specs.Txn.{TxnAt, pending_in}
use Rattle.sdb_vacuum.specs.declared.work.VacuumStep.TheVariants as step
use Rattle.sdb_vacuum.specs.Vacuum.{Gives, VacuumAt, VacuumStage, vacuum_step}
use Rattle.sdb_client.specs.Client.{ClientAt as Client, answer_of, pending_by, pending_of, resting}
use Rattle.law_clients.specs.Vacuum.{Scanning, VacuumModel, vacuum_call, vacuum_model_step}
use Rattle.law_clients.specs.System.{ClientAt, ClientCall, Committing, IsReplyTo, Resting, RunsVacuum, answer_at, call_event, commit_left, with_client}
use Rattle.sdb_client.specs.Step.{answer_of_outcome, CommitEnds, CommitGoesOn, IsReadAt, ReadConflicts, ReadEnds, ReadFails, ReadGoesOn, Receives, Step, VacuumEnds, VacuumGoesOn}
use Rattle.law_clients.specs.Invariant.{RunInvariant, IsMild}
use Rattle.law_clients.proofs.Rests.{going_starves}
use Rattle.law_clients.proofs.Small.{twice}
use Rattle.law_clients.proofs.InvariantCalls.{going_commit_calls, going_scans, going_sweeps, going_swept}
use Rattle.law_clients.specs.Fitting.{tables_are_well_typed}
use Rattle.law_clients.specs.About.{AreListed, IsListed}
use Rattle.law_clients.specs.States.{ClientState, IsAskedBy, IsCalled, doing_of, abstract_doing, abstract_txn, system_of}
use Rattle.law_clients.specs.Vacuums.{abstract_vacuum}
use Rattle.law_clients.proofs.ReadReplies.{RepliedSo, at_itself, differs, read_ends, read_fails, reads_on}
use Rattle.law_clients.proofs.Fitted.{asked_at, vacuum_at}
use Rattle.law_clients.proofs.Vacuums.{Leads, scan_data, step_leads, sweep_asks}
use Rattle.law_clients.proofs.Accepted.{moved, moved_so}
use Rattle.sdb_model.specs.Tables.{is_data}

---- where a COMMIT goes

-- out of memory comes in place of a conflict alone
pub verdict : (p : Work) (i : ℕ) (want v : ValidateStep) → Judges want v → (after_check p i v ≡ after_check p i want) ⊎ (after_check p i v ≡ out_of_memory_stage (after_check p i want))
verdict p i (validate.Conflict key found) validate.NoMemory h = inr refl
verdict p i validate.NoMemory validate.NoMemory h = inl refl
verdict p i validate.More validate.NoMemory h = absurd (cc)
verdict p i validate.Valid validate.NoMemory h = absurd (cc)
verdict p i validate.Faulted validate.NoMemory h = absurd (cc)
verdict p i want validate.More h = inl (ap (after_check p i) h)
verdict p i want validate.Valid h = inl (ap (after_check p i) h)
verdict p i want (validate.Conflict key found) h = inl (ap (after_check p i) h)
verdict p i want validate.Faulted h = inl (ap (after_check p i) h)

-- the next stage is that of the protocol, or it is out of memory there
pub next_stage : (p : Work) (s : Stage) (r : Reply) (m : Stage) → IsNext p s r m → (m ≡ commit_step p s r) ⊎ (m ≡ out_of_memory_stage (commit_step p s r))
next_stage p (Preparing i) r m h = inl h
next_stage p (Checking i) r m h = as_verdict (verdict p i (validate_step (nat_lt (i + 1) (length (checks p))) (slice_get (checks p) i) r) h.0 h.1)
  where
    as_verdict : (after_check p i h.0 ≡ commit_step p (Checking i) r) ⊎ (after_check p i h.0 ≡ out_of_memory_stage (commit_step p (Checking i) r)) → (m ≡ commit_step p (Checking i) r) ⊎ (m ≡ out_of_memory_stage (commit_step p (Checking i) r))
    as_verdict (inl e) = inl (h.2 ∙ e)
    as_verdict (inr e) = inr (h.2 ∙ e)
next_stage p (Deciding d) r m h = inl h
next_stage p (Forward i) r m h = inl h
next_stage p (Stopping a n) r m h = inl h
next_stage p (Back a n i) r m h = inl h
next_stage p (Over a) r m h = inl h

vacuum_answered : (e : VacuumStep) (b : Answer) → answer_of e ≡ Some b → IsMild b
vacuum_answered step.More b e = absurd (cc)
vacuum_answered (step.Count n) b e = subst IsMild (some_is (answer.Count n) b e) (record { undone = refl; agrees = refl; other = λ k. cc })
vacuum_answered step.Faulted b e = subst IsMild (some_is answer.Faulted b e) (record { undone = refl; agrees = refl; other = λ k. cc })
vacuum_answered (step.BadRecord key) b e = subst IsMild (some_is (answer.BadRecord key) b e) (record { undone = refl; agrees = refl; other = λ k. cc })
vacuum_answered step.NoMemory b e = subst IsMild (some_is answer.NoMemory b e) (record { undone = refl; agrees = refl; other = λ k. cc })

pub ended_is : (s : Stage) (a : Outcome) → ended_at s ≡ Some a → s ≡ Over a
ended_is (Preparing i) a e = absurd (cc)
ended_is (Checking i) a e = absurd (cc)
ended_is (Deciding d) a e = absurd (cc)
ended_is (Forward i) a e = absurd (cc)
ended_is (Stopping b n) a e = absurd (cc)
ended_is (Back b n i) a e = absurd (cc)
ended_is (Over b) a e = cc

module _ {catalog tables : List Table} {events : List Event} (current : tables ≡ catalog_after catalog events) {states : ℕ → ClientState} (g : RunInvariant catalog tables_are_well_typed events (system_of states) (doing_of states)) (y : ClientCall) (is : is_catalog tables ≡ true) (called : IsCalled tables states y) where
  abbrev now : Client
  now = (states y.client).client

  abbrev Replied : Option Answer → Client → Type 0
  Replied result d = RepliedSo catalog tables events current states g y is called result d

  module _ (t : TxnAt) (k : CommitAt) (free : now.vacuum ≡ None) (some : now.txn ≡ Some t) (commits : t.doing ≡ doing.Commit k) (none : now.plan ≡ None) where
    here : (system_of states).clients y.client ≡ Committing k.work k.stage
    here = rw (called.waiting.goes_on, free, some, commits) refl

    asked : IsReplyTo (commit_pending k.work k.stage) y
    asked = record {
      asked = subst (λ (d : Doing). pending_in d ≡ Some y.request) commits (subst (λ (o : Option TxnAt). pending_of o ≡ Some y.request) some (subst (λ (v : Option VacuumAt). pending_by v now.txn ≡ Some y.request) free called.waiting.pending));
      can = called.can;
      moment = called.moment;
    }

    abbrev then_at : Stage
    then_at = commit_step k.work k.stage y.reply

    -- the events are tied to the client where it then is
    abbrev Goes : Option Answer → ClientAt → Type 0
    Goes b z = RunInvariant catalog tables_are_well_typed (events ++ call_event y b ∷ []) (with_client (system_of states) y.client z) (at (doing_of states) y.client None)

    goes : Goes (answer_at then_at) (commit_left k.work then_at)
    goes = going_commit_calls catalog tables_are_well_typed events (system_of states) (doing_of states) g y.client y.store y.request y.how y.reply y.now k.work k.stage here asked

    is_over : (a : Outcome) → then_at ≡ Over a → Replied (Some (answer_of_outcome a)) (resting now)
    is_over a e =
        moved catalog tables_are_well_typed states y.client (resting now) (events ++ call_event y (Some (answer_of_outcome a)) ∷ []) free refl
        (subst (λ (s : Stage). Goes (answer_at s) (commit_left k.work s)) e goes)

    further : (s : Stage) → then_at ≡ s → ended_at s ≡ None → Goes None (Committing k.work s)
    further (Preparing i) e n = subst (λ (s : Stage). Goes (answer_at s) (commit_left k.work s)) e goes
    further (Checking i) e n = subst (λ (s : Stage). Goes (answer_at s) (commit_left k.work s)) e goes
    further (Deciding d) e n = subst (λ (s : Stage). Goes (answer_at s) (commit_left k.work s)) e goes
    further (Forward i) e n = subst (λ (s : Stage). Goes (answer_at s) (commit_left k.work s)) e goes
    further (Stopping a m) e n = subst (λ (s : Stage). Goes (answer_at s) (commit_left k.work s)) e goes
    further (Back a m i) e n = subst (λ (s : Stage). Goes (answer_at s) (commit_left k.work s)) e goes
    further (Over a) e n = absurd (cc)

    -- its conflict may be answered as out of memory
    further_starved : ended_at then_at ≡ None → Goes None (Committing k.work (out_of_memory_stage then_at))
    further_starved n =
        subst (λ z. RunInvariant catalog tables_are_well_typed (events ++ call_event y None ∷ []) z (at (doing_of states) y.client None)) (twice (system_of states) y.client (Committing k.work then_at) (Committing k.work (out_of_memory_stage then_at)))
        (going_starves catalog tables_are_well_typed (events ++ call_event y None ∷ []) (with_client (system_of states) y.client (Committing k.work then_at)) (at (doing_of states) y.client None) (further then_at refl n) y.client k.work then_at
        (at_itself (system_of states).clients y.client (Committing k.work then_at)))

    goes_there : (m : Stage) → ended_at then_at ≡ None → IsNext k.work k.stage y.reply m → Goes None (Committing k.work m)
    goes_there m n h = by_next (next_stage k.work k.stage y.reply m h)
      where
        by_next : (m ≡ then_at) ⊎ (m ≡ out_of_memory_stage then_at) → Goes None (Committing k.work m)
        by_next (inl e) = subst (λ (s : Stage). Goes None (Committing k.work s)) (sym e) (further then_at refl n)
        by_next (inr e) = subst (λ (s : Stage). Goes None (Committing k.work s)) (sym e) (further_starved n)

    no_run : option_map (λ (p : Planned). p.statement) now.plan ≡ None
    no_run = ap (λ (o : Option Planned). option_map (λ (p : Planned). p.statement) o) none

    goes_on : (u : TxnAt) (m : CommitAt) → u.doing ≡ doing.Commit m → m.work ≡ k.work → IsNext k.work k.stage y.reply m.stage → ended_at then_at ≡ None → Replied None (record now { txn = Some u })
    goes_on u m doing_it same h n =
        moved catalog tables_are_well_typed states y.client (record now { txn = Some u }) (events ++ call_event y None ∷ []) free refl
        (subst (λ (o : Option Statement). RunInvariant catalog tables_are_well_typed (events ++ call_event y None ∷ []) (with_client (system_of states) y.client (abstract_doing u u.doing)) (at (doing_of states) y.client o)) (sym no_run)
        (subst (λ (d : Doing). Goes None (abstract_doing u d)) (sym doing_it) (subst (λ (p : Work). Goes None (Committing p m.stage)) (sym same) (goes_there m.stage n h))))

  ---- a call of a VACUUM

  module _ (apart : (k : Key) → is_some (find_table tables k.table) ≡ true → is_data k ≡ true) (v : VacuumAt) (runs_it : now.vacuum ≡ Some v) (none : now.txn ≡ None) (free : now.plan ≡ None) (listed : AreListed tables v.spans) where
    here_sweeps : (system_of states).clients y.client ≡ RunsVacuum (abstract_vacuum v.stage)
    here_sweeps = rw (called.waiting.goes_on, runs_it) refl

    asked_sweep : IsReplyTo (vacuum_call (abstract_vacuum v.stage)) y
    asked_sweep = record {
      asked = sym (sweep_asks v.stage) ∙ subst (λ (o : Option VacuumAt). pending_by o now.txn ≡ Some y.request) runs_it called.waiting.pending;
      can = called.can;
      moment = called.moment;
    }

    no_statement : option_map (λ (p : Planned). p.statement) now.plan ≡ None
    no_statement = ap (λ (o : Option Planned). option_map (λ (p : Planned). p.statement) o) free

    -- where the machine then is
    abbrev then_machine : VacuumAt × VacuumStep
    then_machine = vacuum_step v y.now y.reply

    abbrev SweepsTo : VacuumModel → Type 0
    SweepsTo w = RunInvariant catalog tables_are_well_typed (events ++ call_event y None ∷ []) (with_client (system_of states) y.client (RunsVacuum w)) (at (doing_of states) y.client None)

    goes_sweep : SweepsTo (vacuum_model_step (abstract_vacuum v.stage) y.now y.reply)
    goes_sweep = going_sweeps catalog tables_are_well_typed events (system_of states) (doing_of states) g y.client y.store y.request y.how y.reply y.now (abstract_vacuum v.stage) here_sweeps asked_sweep

    scans_next : (span : Span) → IsListed tables span.table → SweepsTo (Scanning span)
    scans_next span is_listed = going_scans catalog tables_are_well_typed events (system_of states) (doing_of states) g y.client y.store y.request y.how y.reply y.now (abstract_vacuum v.stage) here_sweeps asked_sweep span (scan_data tables span is_listed apart)

    -- another call is pending
    sweeps_on : (w : VacuumAt) → SweepsTo (abstract_vacuum w.stage) → Replied None (record now { vacuum = Some w })
    sweeps_on w h =
        moved_so catalog tables_are_well_typed states y.client (record now { vacuum = Some w }) (events ++ call_event y None ∷ []) refl
        (subst (λ (o : Option Statement). RunInvariant catalog tables_are_well_typed (events ++ call_event y None ∷ []) (with_client (system_of states) y.client (RunsVacuum (abstract_vacuum w.stage))) (at (doing_of states) y.client o)) (sym no_statement) h)

    first_listed : (ss : List Span) (span : Span) (rest : List Span) → ss ≡ span ∷ rest → AreListed tables ss → IsListed tables span.table
    first_listed ss span rest e h = (subst (AreListed tables) e h).0

    more_case : (n : VacuumAt × VacuumStep) → n.1 ≡ step.More → Leads v.spans (vacuum_model_step (abstract_vacuum v.stage) y.now y.reply) n → SweepsTo (abstract_vacuum n.0.stage)
    more_case (w, step.More) e (inl h) = subst SweepsTo (sym h.0) goes_sweep
    more_case (w, step.More) e (inr (span, at_span, rest)) = subst (λ (s : VacuumStage). SweepsTo (abstract_vacuum s)) (sym at_span) (scans_next span (first_listed v.spans span w.spans rest listed))
    more_case (w, step.Count n) e h = absurd (cc)
    more_case (w, step.Faulted) e h = absurd (cc)
    more_case (w, step.BadRecord key) e h = absurd (cc)
    more_case (w, step.NoMemory) e h = absurd (cc)

    -- it is answered
    swept_so : (b : Answer) → IsMild b → Replied (Some b) (record now { vacuum = None })
    swept_so b mild =
        moved catalog tables_are_well_typed states y.client (record now { vacuum = None }) (events ++ call_event y (Some b) ∷ []) refl refl
        (subst (λ (o : Option TxnAt). RunInvariant catalog tables_are_well_typed (events ++ call_event y (Some b) ∷ []) (with_client (system_of states) y.client (abstract_txn o)) (at (doing_of states) y.client (option_map (λ (p : Planned). p.statement) now.plan))) (sym none)
        (subst (λ (o : Option Statement). RunInvariant catalog tables_are_well_typed (events ++ call_event y (Some b) ∷ []) (with_client (system_of states) y.client Resting) (at (doing_of states) y.client o)) (sym no_statement)
        (going_swept catalog tables_are_well_typed events (system_of states) (doing_of states) g y.client y.store y.request y.how y.reply y.now (abstract_vacuum v.stage) here_sweeps asked_sweep b mild)))

    vacuum_goes : (w : VacuumAt) → Gives then_machine w step.More → Replied None (record now { vacuum = Some w })
    vacuum_goes w h = sweeps_on w (subst (λ (x : VacuumAt). SweepsTo (abstract_vacuum x.stage)) (sym h.0) (more_case then_machine (sym h.1) (step_leads v.spans v.removed v.stage y.now y.reply)))

  -- the statement that reads
  asked_by : (t : TxnAt) (p : Planned) (a : Access) (x : ReadAt) → IsReadAt now y.request t p a x → IsAskedBy tables p a x
  asked_by t p a x at = asked_at tables now y.request y.reply y.now called.waiting.fitted at

  pub replies_so : ((k : Key) → is_some (find_table tables k.table) ≡ true → is_data k ≡ true) → {result : Option Answer} {d : Client} → Step now (Receives y.request y.reply y.now) result d → Replied result d
  replies_so apart (ReadGoesOn t p a x at more) = reads_on catalog tables events current states g y is called t p a x at.free at.opened at.doing at.plan (asked_by t p a x at) (read_step x.stage y.now y.reply) refl
  replies_so apart (ReadEnds t p a x images at ends is_asked as_read) = read_ends catalog tables events current states g y is called t p a x at.free at.opened at.doing at.plan (asked_by t p a x at) images ends as_read
  replies_so apart (ReadConflicts t p a x images key found at ends changed) = differs catalog tables events current states g y is called t p a x at.free at.opened at.doing at.plan (asked_by t p a x at) key found
  replies_so apart (ReadFails {b = b} t p a x at f) = read_fails catalog tables events current states g y is called t p a x at.free at.opened at.doing at.plan (asked_by t p a x at) b f
  replies_so apart (CommitGoesOn {u = u} t k next at to) = goes_on t k at.free at.opened at.doing at.plan u (record { work = k.work; stage = next }) to.doing refl to.next to.more
  replies_so apart (CommitEnds t k a at ended) = is_over t k at.free at.opened at.doing at.plan a (ended_is (commit_step k.work k.stage y.reply) a ended)
  replies_so apart (VacuumGoesOn {w = w} v at gave) =
      let k = vacuum_at tables now y.request y.reply y.now called.waiting.fitted v at in
      vacuum_goes apart v at.runs k.0 k.1 k.2 w gave
  replies_so apart (VacuumEnds {b = b} v w s at gave answers) =
      let k = vacuum_at tables now y.request y.reply y.now called.waiting.fitted v at in
      swept_so apart v at.runs k.0 k.1 k.2 b (vacuum_answered s b answers)
