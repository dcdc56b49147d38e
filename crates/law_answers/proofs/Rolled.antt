-- The unresolved records that a client's statements found are dealt with, as events come, and what follows of them.
use Rattle.std.proofs.Common.{◌≡◌, ◌≤◌, ◌⊎◌, inl, inr, ℕ, ℤ, Bool, true, false, List, [], ◌∷◌, ◌++◌, length, Option, Some, None, refl, sym, ap, subst, ◌∙◌, arith}
use Rattle.std.specs.Prelude.{nat_lt, is_some, IfSome, Contains}
use Rattle.std.specs.List.{AllByRecursion}
use Rattle.std.specs.Option.{option_map_or}
use Rattle.std.proofs.lemmas.List.Elements.{Contains-append_cases, Contains-push_cases}
use Rattle.law_answers.specs.Types.{Answer, Doing, Event, Outcome, Record, Table, TxId}
use Rattle.sdb_types.proofs.Public.{clash}
use Rattle.sdb_record.specs.Coordinator.{is_expired}
use Rattle.sdb_model.specs.ReadSet.{has_finished, read_finished}
use Rattle.sdb_model.specs.Calls.{StoreCall, calls_after, calls_of}
use Rattle.sdb_model.specs.Counted.{AreResolved, IsPassedOver, IsResolved}
use Rattle.sdb_model.specs.Sql.{reads_vacuum}
use Rattle.sdb_model.specs.Transactions.{Executed, statements_by}
use Rattle.sdb_phases.specs.declared.step.Outcome.TheVariants as outcome
use Rattle.sdb_txn.specs.declared.read.ReadStep.TheVariants as step
use Rattle.sdb_txn.specs.Read.{Asking, Ended, ReadStage, Resolving}
use Rattle.law_clients.specs.History.{waiting_of}
use Rattle.law_clients.specs.States.{ClientState}
use Rattle.sdb_client.specs.Step.{answer_of_outcome}
use Rattle.law_clients.proofs.Public.{each_more}
use Rattle.sdb_txn.specs.declared.txn.Doing.TheVariants as doing
use Rattle.sdb_txn.specs.Txn.{TxnAt}
use Rattle.sdb_vacuum.specs.Vacuum as vacuum
use Rattle.sdb_vacuum.specs.Vacuum.{VacuumAt, VacuumStage}
use Rattle.sdb_client.specs.Client.{ClientAt}
use Rattle.law_answers.specs.Commits.{EndsBy}
use Rattle.law_answers.specs.Rolled.{AnsweredWereSeen, DoingRolls, IsDealtWith, IsRolledBy, IsRolledIn, ReadRolls, RecordsAreRolled, RolledBut, RollsBy, VacuumRolls, WaitRolls}
use Rattle.law_answers.specs.Invariant.{CauseInvariant, IsAnswered, IsWaiting, Knows}
use Rattle.law_answers.proofs.Calls.{calls_stay, clock_same, of_within, read_stays}
use Rattle.law_answers.proofs.Lists.{each_in, kept_in}
use Rattle.law_answers.proofs.Rows.{bad_unfinished}

after_in : (n : ℕ) (ms : List StoreCall) (m : StoreCall) → Contains (calls_after n ms) m → Contains ms m
after_in n ms m has = kept_in (λ (x : StoreCall). nat_lt n x.at) ms m has

-- before any call nothing was found
pub none_found : (events : List Event) (vacuums : Bool) → RolledBut events vacuums [] []
none_found events vacuums m r has reads found open_still = absurd (omega (arith, has.1))

---- as events come

module _ (events : List Event) (e : Event) where
  abbrev E : List Event
  E = events ++ e ∷ []

  module _ (vacuums : Bool) (calls : List StoreCall) (within : (m : StoreCall) → Contains calls m → m.at ≤ length events) where
    pub but_still : (left : List Record) → RolledBut events vacuums calls left → RolledBut E vacuums calls left
    but_still left h m r has reads found open_still = by (h m r has reads found open_still)
      where
        by : Contains left r ⊎ IsDealtWith events vacuums calls m r → Contains left r ⊎ IsDealtWith E vacuums calls m r
        by (inl k) = inl k
        by (inr (inl d)) = inr (inl d)
        by (inr (inr (id, at, is, d))) = inr (inr (id, at, is, record { asked = d.asked; unresolved = d.unresolved; asks = d.asks; early = ap (is_expired at) (clock_same events e d.asked.at (within d.asked (after_in m.at calls d.asked d.asks.0))) ∙ d.early }))

    pub read_still : (s : ReadStage) → ReadRolls events vacuums calls s → ReadRolls E vacuums calls s
    read_still Asking h = but_still [] h
    read_still (Resolving images rec meta p left) h = (but_still (rec ∷ left) h.0, h.1, h.2)
    read_still (Ended (step.Images images)) h = but_still [] h
    read_still (Ended step.More) h = tt
    read_still (Ended (step.Busy key id at)) h = tt
    read_still (Ended step.Faulted) h = tt
    read_still (Ended (step.BadRecord key)) h = tt
    read_still (Ended step.NoMemory) h = tt

    pub sweep_still : (s : VacuumStage) → VacuumRolls events vacuums calls s → VacuumRolls E vacuums calls s
    sweep_still (vacuum.Scanning span) h = but_still [] h
    sweep_still (vacuum.Resolving rec meta p left) h = (but_still (rec ∷ left) h.0, h.1, h.2)
    sweep_still (vacuum.Removing b left) h = but_still left h
    sweep_still vacuum.Over h = tt

    doing_still : (d : Doing) → DoingRolls events vacuums calls d → DoingRolls E vacuums calls d
    doing_still doing.Idle h = tt
    doing_still (doing.Read a x) h = read_still x.stage h
    doing_still (doing.Commit k) h = tt
    doing_still doing.Over h = tt

    pub wait_still : (v : Option VacuumAt) (o : Option TxnAt) → WaitRolls events vacuums calls v o → WaitRolls E vacuums calls v o
    wait_still None None h = tt
    wait_still None (Some t) h = doing_still t.doing h
    wait_still (Some v) o h = sweep_still v.stage h

module _ (catalog : List Table) (c : ℕ) (events : List Event) (e : Event) where
  abbrev now_events : List Event
  now_events = events ++ e ∷ []

  still_rolled : (ss : List Executed) → AllByRecursion (IsAnswered catalog events c) ss → AllByRecursion (IsRolledIn events c) ss → AllByRecursion (IsRolledIn now_events c) ss
  still_rolled [] all h = tt
  still_rolled (s ∷ ss) all h = (λ read. subst (λ ms. RolledBut now_events (reads_vacuum s.text) ms []) (sym (calls_stay c events e s all.0.given all.0.is all.0.answered)) (but_still events e (reads_vacuum s.text) (calls_of events c s) (of_within c events s) [] (h.0 (sym (read_stays c events e s all.0.given all.0.is all.0.answered) ∙ read))), still_rolled ss all.1 h.1)

  module _ (answered : List Executed) (o : Option Executed) (h : ClientAt) (all : AllByRecursion (IsAnswered catalog events c) answered) (k : RollsBy events c answered o h) where
    -- where the calls of the one that waits stay
    pub rolls_stay : ((x : Executed) → o ≡ Some x → calls_of now_events c x ≡ calls_of events c x) → RollsBy now_events c answered o h
    rolls_stay same = record { answered = still_rolled answered all k.answered; waits = by o k.waits same }
      where
        by : (w : Option Executed) → IfSome w (λ x. WaitRolls events (reads_vacuum x.text) (calls_of events c x) h.vacuum h.txn) → ((x : Executed) → w ≡ Some x → calls_of now_events c x ≡ calls_of events c x) → IfSome w (λ x. WaitRolls now_events (reads_vacuum x.text) (calls_of now_events c x) h.vacuum h.txn)
        by None w same = tt
        by (Some x) w same = subst (λ ms. WaitRolls now_events (reads_vacuum x.text) ms h.vacuum h.txn) (sym (same x refl)) (wait_still events e (reads_vacuum x.text) (calls_of events c x) (of_within c events x) h.vacuum h.txn w)

    -- where one waits, with these calls
    pub rolls_on : (w : Executed) (d : ClientAt) (calls : List StoreCall) → calls_of now_events c w ≡ calls → WaitRolls now_events (reads_vacuum w.text) calls d.vacuum d.txn → RollsBy now_events c answered (Some w) d
    rolls_on w d calls are waits = record { answered = still_rolled answered all k.answered; waits = subst (λ ms. WaitRolls now_events (reads_vacuum w.text) ms d.vacuum d.txn) (sym are) waits }

    -- where one is answered, with these calls
    pub rolls_end : (w : Executed) (d : ClientAt) (calls : List StoreCall) → calls_of now_events c w ≡ calls → (has_finished calls w ≡ true → RolledBut now_events (reads_vacuum w.text) calls []) → RollsBy now_events c (answered ++ w ∷ []) None d
    rolls_end w d calls are rolled = record {
      answered = each_more (IsRolledIn now_events c) answered w (still_rolled answered all k.answered) (λ read. subst (λ ms. RolledBut now_events (reads_vacuum w.text) ms []) (sym are) (rolled (sym (ap (λ ms. has_finished ms w) are) ∙ read)));
      waits = tt;
    }

---- the call of a statement that waits

module _ (c : ℕ) (events : List Event) (e : Event) (w : Executed) where
  -- so far, with the event
  pub reads_so_far : (x : ReadStage) → ReadRolls events (reads_vacuum w.text) (calls_of events c w) x → ReadRolls (events ++ e ∷ []) (reads_vacuum w.text) (calls_of events c w) x
  reads_so_far = read_still events e (reads_vacuum w.text) (calls_of events c w) (of_within c events w)

  pub sweeps_so_far : (x : VacuumStage) → VacuumRolls events (reads_vacuum w.text) (calls_of events c w) x → VacuumRolls (events ++ e ∷ []) (reads_vacuum w.text) (calls_of events c w) x
  sweeps_so_far = sweep_still events e (reads_vacuum w.text) (calls_of events c w) (of_within c events w)

-- no outcome of a COMMIT says what rows were seen
pub outcome_rows : (id : TxId) (calls : List StoreCall) (a : Outcome) → EndsBy id calls a → read_finished calls (answer_of_outcome a) ≡ false
outcome_rows id calls outcome.Committed ends = refl
outcome_rows id calls (outcome.Conflict key found) ends = refl
outcome_rows id calls (outcome.Expired u) ends = refl
outcome_rows id calls outcome.Faulted ends = refl
outcome_rows id calls (outcome.Unknown u) ends = refl
outcome_rows id calls (outcome.BadRecord key) ends = bad_unfinished calls key ends.1
outcome_rows id calls outcome.NoMemory ends = refl

---- what follows

module _ (catalog : List Table) (events : List Event) (c : ℕ) (h : ClientAt) (k : Knows catalog events c h) (s : Executed) where
  said_rolled : Contains (statements_by c events) s → IsRolledIn events c s
  said_rolled has = either (Contains-append_cases k.entries (waiting_of k.waiting) s (subst (λ ss. Contains ss s) k.same has))
    where
      last : (o : Option Executed) → IfSome o (IsWaiting catalog events c (is_some h.vacuum)) → Contains (waiting_of o) s → IsRolledIn events c s
      last None w x = absurd (omega (arith, x.1))
      last (Some w) waits x = only (Contains-push_cases [] w s x)
        where
          only : Contains [] s ⊎ (w ≡ s) → IsRolledIn events c s
          only (inl y) = absurd (omega (arith, y.1))
          only (inr same) = λ read. clash (sym read ∙ ap (λ (o : Option Answer). option_map_or (read_finished (calls_of events c s)) o false) (sym (ap (λ (z : Executed). z.answer) same) ∙ waits.unanswered))

      either : Contains k.entries s ⊎ Contains (waiting_of k.waiting) s → IsRolledIn events c s
      either (inl x) = each_in (IsRolledIn events c) k.entries s k.rolled.answered x
      either (inr x) = last k.waiting k.waits x

pub records_rolled : (catalog : List Table) (events : List Event) (now : ℤ) (states : ℕ → ClientState) → CauseInvariant catalog events now states → RecordsAreRolled events
records_rolled catalog events now states ex c s m r has read among reads found open_still = by (said_rolled catalog events c (states c).client (ex.each c) s has read m r among reads found open_still)
  where
    by : Contains [] r ⊎ IsDealtWith events (reads_vacuum s.text) (calls_of events c s) m r → IsRolledBy (calls_of events c s) m r ⊎ IsPassedOver events s (calls_of events c s) m r
    by (inl k) = absurd (omega (arith, k.1))
    by (inr d) = d

-- where each call that was answered was seen, the rolls were
pub all_resolved : (events : List Event) → RecordsAreRolled events → AnsweredWereSeen events → AreResolved events
all_resolved events rolled seen c s m r has read among reads found open_still = by (rolled c s m r has read among reads found open_still)
  where
    by : IsRolledBy (calls_of events c s) m r ⊎ IsPassedOver events s (calls_of events c s) m r → IsResolved (calls_of events c s) m r ⊎ IsPassedOver events s (calls_of events c s) m r
    by (inl h) = inl (record {
      id = h.id;
      state = h.state;
      decided = h.decided;
      look = h.look;
      roll = h.roll;
      writer = h.writer;
      looks = h.looks;
      rolls = h.rolls;
      answered = (seen c s h.roll has (after_in h.look.at (calls_of events c s) h.roll h.rolls.0) h.answered, h.answered);
    })
    by (inr p) = inr p
