-- A COMMIT of a client that is alone: each reply leads to another call, or its answer says what the database has.
use Rattle.std.proofs.Common.{◌≡◌, ◌<◌, ◌≤◌, ◌+◌, ℕ, Bool, true, false, List, map, length, Option, Some, None, ◌⊎◌, inl, inr, refl, sym, ap, subst, ◌∙◌, arith}
use Rattle.std.specs.Prelude.{slice_get, nat_lt, IfSome, IsSomeAnd, Result, Ok, Err, if◌then◌else◌}
use Rattle.std.specs.Option.{option_map}
use Rattle.std.specs.Result.{result_ok}
use Rattle.std.proofs.lemmas.Option.{slice_get-map}
use Rattle.law_clients.specs.Types.{Check, Condition, DecideStep, Decided, Decision, Key, Outcome, Record, Reply, Request, Table, Write}
use Rattle.sdb_types.specs.declared.record.Condition.TheVariants as condition
use Rattle.sdb_types.specs.declared.record.Request.TheVariants as ask
use Rattle.sdb_types.specs.declared.record.Reply.TheVariants as reply
use Rattle.sdb_types.specs.Contents.{holds}
use Rattle.sdb_types.specs.Order.{are_distinct}
use Rattle.sdb_types.proofs.Public.{none_some, some_is}
use Rattle.sdb_record.specs.declared.coordinator.Decision.TheVariants as decision
use Rattle.sdb_record.specs.Coordinator.{coordinator_key_of, coordinator_row_of, decision_in}
use Rattle.sdb_record.specs.Groups.{grouped, in_groups, keys_of_writes}
use Rattle.sdb_record.specs.Meta.{is_transactional}
use Rattle.sdb_record.specs.Moved.{condition_of, version_of}
use Rattle.sdb_record.specs.Rolls.{IsBaseOf, prepared_record, undo}
use Rattle.sdb_record.proofs.Public.{forward-key, groups_once, place_in_group, place_in_groups, place_of_grouped, prepared-key, row-decision, row-key}
use Rattle.sdb_phases.specs.declared.step.Outcome.TheVariants as outcome
use Rattle.sdb_phases.specs.declared.step.DecidePhase.TheVariants as phase
use Rattle.sdb_phases.specs.declared.step.DecideStep.TheVariants as decide
use Rattle.sdb_phases.specs.declared.step.PrepareStep.TheVariants as prepare
use Rattle.sdb_phases.specs.declared.step.ValidateStep.TheVariants as validate
use Rattle.sdb_phases.specs.Work.{Work, back_of, forward_of, forwards_of, groups_of, is_as_prepared, prepare_of, prepares, prepares_of, writes_before}
use Rattle.sdb_phases.specs.Checks.{checks}
use Rattle.sdb_phases.specs.Steps.{followed, prepare_step, puts_of, step_of_row, validate_step}
use Rattle.sdb_phases.specs.Commit.{Stage, Preparing, Checking, Deciding, Forward, Stopping, Back, Over, after_check, after_prepare, back, checking, decided, forward, pending, step}
use Rattle.law_clients.specs.Database.{Called, Done, Found, Got, Database, HasFailed, IsWith, NotFound, Same, TookEffect, Undone, Wrote, are_met, decided_in, is_committed_or_none, with_batch}
use Rattle.law_clients.specs.OnlyResolves.{IsApart, IsSound}
use Rattle.law_clients.specs.Recovers.{IsAborted, IsCommittedAt, IsUndecided}
use Rattle.law_clients.specs.Commits.{ArePrepared, CommitAlone, EachWrite, EndedAlone, IsDone, IsFailure, IsGivenUp, IsLoose, IsPrepared, IsWon, OthersUnchanged, StageAlone, WorkAlone}
use Rattle.law_clients.proofs.Recovers.{one_database, row_at}
use Rattle.sdb_txn.proofs.Public.{keys_differ}
use Rattle.law_clients.proofs.Groups.{apart_from_group, keys_once, more_before, place_of, placed, side, whole, within_writes}
use Rattle.law_clients.proofs.Lists.{each_at}
use Rattle.law_clients.proofs.SessionChecks.{Passes, all_pass}
use Rattle.law_clients.proofs.Writes.{all_met, based_at, each_group, each_row, each_write, group_aside, group_others, group_row, group_there, others_row, others_stay, row_is, row_stays, sent_called, version_holds}

---- what is the same as another

same_stage : (catalog : List Table) (start g h : Database) (p : Work) (s : Stage) → Same g h → CommitAlone catalog start p g s → CommitAlone catalog start p h s
same_stage catalog start g h p s same c = subst (λ x. CommitAlone catalog start p x s) (one_database g h same) c

-- prepared writes, or the bases that they are over, are loose
loose_below : (p : Work) (n : ℕ) (g : Database) → ArePrepared p n g → EachWrite p (IsLoose p) g
loose_below p n g a j w at = let place = place_in_groups p.writes j w at in elim (side n place.0) [
  | inl less ↦ inr (a.below place.0 w less place.1)
  | inr more ↦ inl (a.from place.0 w more place.1)
]

loose_all : (p : Work) (g : Database) → EachWrite p (IsPrepared p) g → EachWrite p (IsLoose p) g
loose_all p g each j w at = inr (each j w at)

won_all : (p : Work) (g : Database) → EachWrite p (IsPrepared p) g → EachWrite p (IsWon p) g
won_all p g each j w at = inl (each j w at)

module _ (catalog : List Table) (apart : IsApart catalog) (start : Database) (sound : IsSound catalog start) (p : Work) (work : WorkAlone catalog start p) where
  abbrev row : Key
  row = coordinator_key_of p.id

  present : (g : Database) (s : Stage) → OthersUnchanged p start g → StageAlone p g s → CommitAlone catalog start p g s
  present g s others stage = record { work = work; others = others; stage = stage }

  ---- where another call follows

  to_checks : (g : Database) → IsUndecided g p.id → EachWrite p (IsPrepared p) g → (i : ℕ) → StageAlone p g (checking p i)
  to_checks g none each i = by (nat_lt i (length (checks p)))
    where
      by : (b : Bool) → StageAlone p g (if b then Checking i else Deciding phase.Put)
      by true = (none, each)
      by false = (none, each)

  to_forward : (g : Database) → IsDone p g → (i : ℕ) → StageAlone p g (forward p i)
  to_forward g done i = by (nat_lt i (groups_of p))
    where
      by : (b : Bool) → StageAlone p g (if b then Forward i else Over outcome.Committed)
      by true = done
      by false = done

  ended : (g : Database) (a : Outcome) → IsGivenUp p g → IsFailure a → EndedAlone p g a
  ended g outcome.Faulted up f = up
  ended g outcome.NoMemory up f = up
  ended g outcome.Committed up f = absurd f
  ended g (outcome.Conflict key found) up f = absurd f
  ended g (outcome.Expired id) up f = absurd f
  ended g (outcome.Unknown id) up f = absurd f
  ended g (outcome.BadRecord key) up f = absurd f

  to_back : (g : Database) (a : Outcome) (n i : ℕ) → IsAborted g p.id → EachWrite p (IsLoose p) g → IsFailure a → StageAlone p g (back a n i)
  to_back g a n i aborted each f = by (nat_lt i n)
    where
      by : (b : Bool) → StageAlone p g (if b then Back a n i else Over a)
      by true = (aborted, each, f)
      by false = ended g a (inr aborted, each) f

  ---- what a put of its row leaves

  decided_by : (g h : Database) (d : Decision) → IsWith row (Some (coordinator_row_of p.id d p.now)) g h → decided_in h p.id ≡ Some (record { decision = d; created_at = p.now })
  decided_by g h d now = ap row_at (row_is catalog apart start p work g h (Some (coordinator_row_of p.id d p.now)) now) ∙ ap result_ok (row-decision p.id d p.now work.fits work.time)

  aborted_by : (g h : Database) → IsWith row (Some (coordinator_row_of p.id decision.Aborted p.now)) g h → IsAborted h p.id
  aborted_by g h now = subst (λ o. IsSomeAnd o (λ d. d.decision ≡ decision.Aborted)) (sym (decided_by g h decision.Aborted now)) refl

  -- the put of a row where there is none
  put_row : (g h : Database) (r : Reply) (d : Decision) → IsUndecided g p.id → Called (ask.PutIf (coordinator_row_of p.id d p.now) condition.Absent) r g h → Wrote row (Some (coordinator_row_of p.id d p.now)) r g h
  put_row g h r d none c = subst (λ k. Wrote k (Some (coordinator_row_of p.id d p.now)) r g h) (row-key p.id d p.now) (c.0 (ap (λ k. holds condition.Absent (g k)) (row-key p.id d p.now) ∙ ap (holds condition.Absent) none))

  ---- the decision

  put_next : (g h : Database) (r : Reply) → OthersUnchanged p start g → StageAlone p g (Deciding phase.Put) → Wrote row (Some (coordinator_row_of p.id decision.Committed p.now)) r g h → CommitAlone catalog start p h (step p (Deciding phase.Put) r)
  put_next g h r others s (Done (inl replied) now) = subst (λ x. CommitAlone catalog start p h (step p (Deciding phase.Put) x)) (sym replied)
      (present h (forward p 0) (others_row catalog apart start p work g h (Some (coordinator_row_of p.id decision.Committed p.now)) now others) (to_forward h (decided_by g h decision.Committed now, won_all p h (each_row catalog apart start p work g h (IsPrepared p) (Some (coordinator_row_of p.id decision.Committed p.now)) now s.1)) 0))
  put_next g h r others s (Done (inr replied) now) = subst (λ x. CommitAlone catalog start p h (step p (Deciding phase.Put) x)) (sym replied)
      (present h (Deciding phase.Look) (others_row catalog apart start p work g h (Some (coordinator_row_of p.id decision.Committed p.now)) now others) (inr (decided_by g h decision.Committed now), each_row catalog apart start p work g h (IsPrepared p) (Some (coordinator_row_of p.id decision.Committed p.now)) now s.1))
  put_next g h r others s (Undone (inl replied) same) = subst (λ x. CommitAlone catalog start p h (step p (Deciding phase.Put) x)) (sym replied) (same_stage catalog start g h p (Deciding phase.Look) same (present g (Deciding phase.Look) others (inl s.0, s.1)))
  put_next g h r others s (Undone (inr replied) same) = subst (λ x. CommitAlone catalog start p h (step p (Deciding phase.Put) x)) (sym replied) (same_stage catalog start g h p (Stopping outcome.NoMemory (length p.writes)) same (present g (Stopping outcome.NoMemory (length p.writes)) others (s.0, loose_all p g s.1, tt)))

  -- a row of its own that says so is followed
  followed_committed : (g : Database) (x : Record) (aborted : DecideStep) → g row ≡ Some x → IsCommittedAt g p.id p.now → EachWrite p (IsPrepared p) g → OthersUnchanged p start g → CommitAlone catalog start p g (decided p (phase.Ended, followed p.id aborted x))
  followed_committed g x aborted e at each others = by (decision_in x) (sym (ap row_at e) ∙ at)
    where
      by : (y : Result Decided (List ℕ)) → result_ok y ≡ Some (record { decision = decision.Committed; created_at = p.now }) → CommitAlone catalog start p g (decided p (phase.Ended, step_of_row p.id aborted y))
      by (Ok z) f = subst (λ y. CommitAlone catalog start p g (decided p (phase.Ended, step_of_row p.id aborted (Ok y)))) (sym (some_is z (record { decision = decision.Committed; created_at = p.now }) f)) (present g (forward p 0) others (to_forward g (at, won_all p g each) 0))
      by (Err name) f = none_some (record { decision = decision.Committed; created_at = p.now }) f

  -- and one that says ABORTED
  followed_aborted : (g : Database) (x : Record) → g row ≡ Some x → IsAborted g p.id → EachWrite p (IsPrepared p) g → OthersUnchanged p start g → CommitAlone catalog start p g (decided p (phase.Ended, followed p.id decide.Faulted x))
  followed_aborted g x e at each others = by (decision_in x) (subst (λ o. IsSomeAnd o (λ d. d.decision ≡ decision.Aborted)) (ap row_at e) at)
    where
      to : (y : Decision) → y ≡ decision.Aborted → CommitAlone catalog start p g (decided p (phase.Ended, elim y [ decision.Committed ↦ decide.Committed | decision.Aborted ↦ decide.Faulted ]))
      to y f = subst (λ z. CommitAlone catalog start p g (decided p (phase.Ended, elim z [ decision.Committed ↦ decide.Committed | decision.Aborted ↦ decide.Faulted ]))) (sym f) (present g (back outcome.Faulted (length p.writes) 0) others (to_back g outcome.Faulted (length p.writes) 0 at (loose_all p g each) tt))

      by : (y : Result Decided (List ℕ)) → IsSomeAnd (result_ok y) (λ d. d.decision ≡ decision.Aborted) → CommitAlone catalog start p g (decided p (phase.Ended, step_of_row p.id decide.Faulted y))
      by (Ok z) f = to z.decision f
      by (Err name) f = absurd f

  -- where it isn't known whether the put of its row took effect
  unknown : (g : Database) → OthersUnchanged p start g → EachWrite p (IsPrepared p) g → (IsUndecided g p.id ⊎ IsAborted g p.id) ⊎ IsCommittedAt g p.id p.now → CommitAlone catalog start p g (Over (outcome.Unknown p.id))
  unknown g others each (inl x) = present g (Over (outcome.Unknown p.id)) others (refl, inl (x, loose_all p g each))
  unknown g others each (inr x) = present g (Over (outcome.Unknown p.id)) others (refl, inr (x, won_all p g each))

  -- the database where its row is put
  row_some : (g : Database) (d : Decided) → decided_in g p.id ≡ Some d → (x : Record) × (g row ≡ Some x)
  row_some g d e = by (g row) refl
    where
      by : (o : Option Record) → g row ≡ o → (x : Record) × (g row ≡ Some x)
      by None f = none_some d (sym (ap row_at f) ∙ e)
      by (Some x) f = (x, f)

  aborted_some : (g : Database) → IsAborted g p.id → (x : Record) × (g row ≡ Some x)
  aborted_some g a = by (decided_in g p.id) refl a
    where
      by : (o : Option Decided) → decided_in g p.id ≡ o → IsSomeAnd o (λ d. d.decision ≡ decision.Aborted) → (x : Record) × (g row ≡ Some x)
      by None f a = absurd a
      by (Some d) f a = row_some g d f

  look_next : (g : Database) (r : Reply) → OthersUnchanged p start g → StageAlone p g (Deciding phase.Look) → Got row r g → CommitAlone catalog start p g (step p (Deciding phase.Look) r)
  look_next g r others s (Found replied) = subst (λ x. CommitAlone catalog start p g (step p (Deciding phase.Look) x)) (sym replied) (by s.0)
    where
      by : IsUndecided g p.id ⊎ IsCommittedAt g p.id p.now → CommitAlone catalog start p g (step p (Deciding phase.Look) (reply.Found (g row)))
      by (inl none) = subst (λ o. CommitAlone catalog start p g (step p (Deciding phase.Look) (reply.Found o))) (sym none) (present g (Deciding phase.Abort) others (none, s.1))
      by (inr at) =
          let x = row_some g (record { decision = decision.Committed; created_at = p.now }) at in
          subst (λ o. CommitAlone catalog start p g (step p (Deciding phase.Look) (reply.Found o))) (sym x.1) (followed_committed g x.0 (decide.Expired p.id) x.1 at s.1 others)
  look_next g r others s (NotFound (inl replied)) = subst (λ x. CommitAlone catalog start p g (step p (Deciding phase.Look) x)) (sym replied) (unknown g others s.1 (elim s.0 [ inl x ↦ inl (inl x) | inr x ↦ inr x ]))
  look_next g r others s (NotFound (inr replied)) = subst (λ x. CommitAlone catalog start p g (step p (Deciding phase.Look) x)) (sym replied) (unknown g others s.1 (elim s.0 [ inl x ↦ inl (inl x) | inr x ↦ inr x ]))

  abort_next : (g h : Database) (r : Reply) → OthersUnchanged p start g → StageAlone p g (Deciding phase.Abort) → Wrote row (Some (coordinator_row_of p.id decision.Aborted p.now)) r g h → CommitAlone catalog start p h (step p (Deciding phase.Abort) r)
  abort_next g h r others s (Done (inl replied) now) = subst (λ x. CommitAlone catalog start p h (step p (Deciding phase.Abort) x)) (sym replied)
      (present h (back outcome.Faulted (length p.writes) 0) (others_row catalog apart start p work g h (Some (coordinator_row_of p.id decision.Aborted p.now)) now others) (to_back h outcome.Faulted (length p.writes) 0 (aborted_by g h now) (loose_all p h (each_row catalog apart start p work g h (IsPrepared p) (Some (coordinator_row_of p.id decision.Aborted p.now)) now s.1)) tt))
  abort_next g h r others s (Done (inr replied) now) = subst (λ x. CommitAlone catalog start p h (step p (Deciding phase.Abort) x)) (sym replied)
      (present h (Deciding phase.Again) (others_row catalog apart start p work g h (Some (coordinator_row_of p.id decision.Aborted p.now)) now others) (inr (aborted_by g h now), each_row catalog apart start p work g h (IsPrepared p) (Some (coordinator_row_of p.id decision.Aborted p.now)) now s.1))
  abort_next g h r others s (Undone (inl replied) same) = subst (λ x. CommitAlone catalog start p h (step p (Deciding phase.Abort) x)) (sym replied) (same_stage catalog start g h p (Deciding phase.Again) same (present g (Deciding phase.Again) others (inl s.0, s.1)))
  abort_next g h r others s (Undone (inr replied) same) = subst (λ x. CommitAlone catalog start p h (step p (Deciding phase.Abort) x)) (sym replied) (same_stage catalog start g h p (Over (outcome.Unknown p.id)) same (unknown g others s.1 (inl (inl s.0))))

  again_next : (g : Database) (r : Reply) → OthersUnchanged p start g → StageAlone p g (Deciding phase.Again) → Got row r g → CommitAlone catalog start p g (step p (Deciding phase.Again) r)
  again_next g r others s (Found replied) = subst (λ x. CommitAlone catalog start p g (step p (Deciding phase.Again) x)) (sym replied) (by s.0)
    where
      by : IsUndecided g p.id ⊎ IsAborted g p.id → CommitAlone catalog start p g (step p (Deciding phase.Again) (reply.Found (g row)))
      by (inl none) = subst (λ o. CommitAlone catalog start p g (step p (Deciding phase.Again) (reply.Found o))) (sym none) (unknown g others s.1 (inl (inl none)))
      by (inr at) =
          let x = aborted_some g at in
          subst (λ o. CommitAlone catalog start p g (step p (Deciding phase.Again) (reply.Found o))) (sym x.1) (followed_aborted g x.0 x.1 at s.1 others)
  again_next g r others s (NotFound (inl replied)) = subst (λ x. CommitAlone catalog start p g (step p (Deciding phase.Again) x)) (sym replied) (unknown g others s.1 (inl s.0))
  again_next g r others s (NotFound (inr replied)) = subst (λ x. CommitAlone catalog start p g (step p (Deciding phase.Again) x)) (sym replied) (unknown g others s.1 (inl s.0))

  ---- giving up

  stop_next : (g h : Database) (a : Outcome) (n : ℕ) (r : Reply) → OthersUnchanged p start g → StageAlone p g (Stopping a n) → Wrote row (Some (coordinator_row_of p.id decision.Aborted p.now)) r g h → CommitAlone catalog start p h (step p (Stopping a n) r)
  stop_next g h a n r others s (Done (inl replied) now) = subst (λ x. CommitAlone catalog start p h (step p (Stopping a n) x)) (sym replied)
      (present h (back a n 0) (others_row catalog apart start p work g h (Some (coordinator_row_of p.id decision.Aborted p.now)) now others) (to_back h a n 0 (aborted_by g h now) (each_row catalog apart start p work g h (IsLoose p) (Some (coordinator_row_of p.id decision.Aborted p.now)) now s.1) s.2))
  stop_next g h a n r others s (Done (inr replied) now) = subst (λ x. CommitAlone catalog start p h (step p (Stopping a n) x)) (sym replied)
      (present h (Over a) (others_row catalog apart start p work g h (Some (coordinator_row_of p.id decision.Aborted p.now)) now others) (ended h a (inr (aborted_by g h now), each_row catalog apart start p work g h (IsLoose p) (Some (coordinator_row_of p.id decision.Aborted p.now)) now s.1) s.2))
  stop_next g h a n r others s (Undone (inl replied) same) = subst (λ x. CommitAlone catalog start p h (step p (Stopping a n) x)) (sym replied) (same_stage catalog start g h p (Over a) same (present g (Over a) others (ended g a (inl s.0, s.1) s.2)))
  stop_next g h a n r others s (Undone (inr replied) same) = subst (λ x. CommitAlone catalog start p h (step p (Stopping a n) x)) (sym replied) (same_stage catalog start g h p (Over a) same (present g (Over a) others (ended g a (inl s.0, s.1) s.2)))

  ---- rolls

  -- A roll of a write puts that at its key, or changes nothing.
  record Rolled (g h : Database) (w : Write) (new : Option Record) : Type 0 where
    by : IsWith w.key new g h ⊎ Same g h

  put_rolls : (g h : Database) (w : Write) (rec : Record) (c : Condition) (r : Reply) → rec.key ≡ w.key → Called (ask.PutIf rec c) r g h → Rolled g h w (Some rec)
  put_rolls g h w rec c r at called = by (holds c (g rec.key)) refl
    where
      from : Wrote rec.key (Some rec) r g h → Rolled g h w (Some rec)
      from (Done replied now) = record { by = inl (subst (λ k. IsWith k (Some rec) g h) at now) }
      from (Undone replied same) = record { by = inr same }

      by : (b : Bool) → holds c (g rec.key) ≡ b → Rolled g h w (Some rec)
      by true e = from (called.0 e)
      by false e = record { by = inr (called.1 e) }

  delete_rolls : (g h : Database) (w : Write) (c : Condition) (r : Reply) → Called (ask.DeleteIf w.key c) r g h → Rolled g h w None
  delete_rolls g h w c r called = by (holds c (g w.key)) refl
    where
      from : Wrote w.key None r g h → Rolled g h w None
      from (Done replied now) = record { by = inl now }
      from (Undone replied same) = record { by = inr same }

      by : (b : Bool) → holds c (g w.key) ≡ b → Rolled g h w None
      by true e = from (called.0 e)
      by false e = record { by = inr (called.1 e) }

  back_rolls : (g h : Database) (i : ℕ) (w : Write) (r : Reply) → slice_get p.writes i ≡ Some w → Called (back_of p.id w) r g h → Rolled g h w w.base
  back_rolls g h i w r at called = by w.base refl called
    where
      by : (o : Option Record) → w.base ≡ o → Called (undo (is_as_prepared p.id w) w.key o) r g h → Rolled g h w o
      by None e c = delete_rolls g h w (is_as_prepared p.id w) r c
      by (Some b) e c = put_rolls g h w b (is_as_prepared p.id w) r (base_key b e) c
        where
          base_key : (b : Record) → w.base ≡ Some b → b.key ≡ w.key
          base_key b e = let is_write = subst (λ o. IfSome o (IsBaseOf w.key)) e (based_at catalog apart start p work i w at).is_write.base in is_write.0

  back_next : (g h : Database) (a : Outcome) (n i j : ℕ) (w : Write) (r : Reply) → OthersUnchanged p start g → StageAlone p g (Back a n i) → slice_get p.writes j ≡ Some w → Rolled g h w w.base → CommitAlone catalog start p h (step p (Back a n i) r)
  back_next g h a n i j w r others s at rolled = elim rolled.by [
    | inl now ↦ present h (back a n (i + 1)) (others_stay catalog apart start p work g h j w at w.base now others) (to_back h a n (i + 1) (subst (λ o. IsSomeAnd (row_at o) (λ d. d.decision ≡ decision.Aborted)) (sym (row_stays catalog apart start p work g h j w at w.base now)) s.0) (each_write catalog apart start p work g h j w at w.base now (IsLoose p) (inl refl) s.1) s.2)
    | inr same ↦ same_stage catalog start g h p (back a n (i + 1)) same (present g (back a n (i + 1)) others (to_back g a n (i + 1) s.0 s.1 s.2))
  ]

  ---- groups

  -- the writes of a group are of the COMMIT, and their keys differ
  own_writes : (i : ℕ) (ws : List Write) → slice_get (grouped p.writes) i ≡ Some ws → (k : ℕ) (w : Write) → slice_get ws k ≡ Some w → (j : ℕ) × (slice_get p.writes j ≡ Some w)
  own_writes i ws here k w at = place_of_grouped p.writes (place_of p i k) w (placed p i ws here k w at)

  groups_differ : are_distinct (keys_of_writes (in_groups p.writes)) ≡ true
  groups_differ = groups_once p.writes (keys_differ p.writes work.once)

  prepare_key : (w : Write) → (prepare_of p.id p.now w).rec.key ≡ w.key
  prepare_key w = prepared-key w p.id p.now

  forward_key : (w : Write) → (forward_of p.id p.now w).rec.key ≡ w.key
  forward_key w = forward-key (prepared_record w p.id p.now) p.now ∙ prepared-key w p.id p.now

  forward_next : (g h : Database) (i : ℕ) (ws : List Write) (r : Reply) → OthersUnchanged p start g → StageAlone p g (Forward i) → slice_get (grouped p.writes) i ≡ Some ws → Called (forwards_of p.id p.now ws) r g h → CommitAlone catalog start p h (step p (Forward i) r)
  forward_next g h i ws r others s here called = by (are_met (map (forward_of p.id p.now) ws) g) refl
    where
      done : (are_met (map (forward_of p.id p.now) ws) g ≡ true → TookEffect (with_batch (map (forward_of p.id p.now) ws) g) r g h) × (are_met (map (forward_of p.id p.now) ws) g ≡ false → Same g h)
      done = sent_called (map (forward_of p.id p.now) ws) r g h called

      stays : Same g h → CommitAlone catalog start p h (forward p (i + 1))
      stays same = same_stage catalog start g h p (forward p (i + 1)) same (present g (forward p (i + 1)) others (to_forward g s (i + 1)))

      from : TookEffect (with_batch (map (forward_of p.id p.now) ws) g) r g h → CommitAlone catalog start p h (forward p (i + 1))
      from (Undone replied same) = stays same
      from (Done replied now) =
          let once = keys_once p i ws here groups_differ in
          let own = own_writes i ws here in
          present h (forward p (i + 1)) (group_others catalog apart start p work g h ws (forward_of p.id p.now) forward_key once own now others)
          (to_forward h (ap row_at (group_row catalog apart start p work g h ws (forward_of p.id p.now) forward_key once own now) ∙ s.0, each_group catalog apart start p work g h ws (forward_of p.id p.now) forward_key once own now (IsWon p) (λ w. inr refl) s.1) (i + 1))

      by : (b : Bool) → are_met (map (forward_of p.id p.now) ws) g ≡ b → CommitAlone catalog start p h (forward p (i + 1))
      by true e = from (done.0 e)
      by false e = stays (done.1 e)

  ---- prepares

  module _ (g h : Database) (i : ℕ) (ws : List Write) (here : slice_get (grouped p.writes) i ≡ Some ws) (others : OthersUnchanged p start g) (s : StageAlone p g (Preparing i)) where
    base_firm : (j : ℕ) (w : Write) → slice_get p.writes j ≡ Some w → is_committed_or_none w.base ≡ true
    base_firm j w at = by w.base (based_at catalog apart start p work j w at).is_write.base
      where
        by : (o : Option Record) → IfSome o (IsBaseOf w.key) → is_committed_or_none o ≡ true
        by None f = refl
        by (Some b) f = f.2

    base_taken : (j : ℕ) (w : Write) → slice_get p.writes j ≡ Some w → (b : Record) → w.base ≡ Some b → is_transactional b ≡ true
    base_taken j w at b e = let is_write = subst (λ o. IfSome o (IsBaseOf w.key)) e (based_at catalog apart start p work j w at).is_write.base in is_write.1

    first : (n k : ℕ) → n ≤ n + k
    first n k = omega arith

    may : are_met (map (prepare_of p.id p.now) ws) g ≡ true
    may = all_met (prepare_of p.id p.now) prepare_key g ws (λ k w at.
        let mine = own_writes i ws here k w at in
        ap (λ q. holds (condition_of (version_of w.base)) (g q)) (prepared-key w p.id p.now)
        ∙ ap (holds (condition_of (version_of w.base))) (s.1.from (place_of p i k) w (first (writes_before p i) k) (placed p i ws here k w at))
        ∙ version_holds w.base (base_firm mine.0 w mine.1) (base_taken mine.0 w mine.1))

    once : are_distinct (keys_of_writes ws) ≡ true
    once = keys_once p i ws here groups_differ

    module _ (now : Same (with_batch (map (prepare_of p.id p.now) ws) g) h) where
      -- a write of another group
      aside : (j : ℕ) (v : Write) → slice_get (in_groups p.writes) j ≡ Some v → (j < writes_before p i) ⊎ (writes_before p (i + 1) ≤ j) → h v.key ≡ g v.key
      aside j v at outside = group_aside catalog apart start p work g h ws (prepare_of p.id p.now) prepare_key once (own_writes i ws here) now v.key (apart_from_group p i ws here groups_differ j v at outside)

      prepared_more : ArePrepared p (writes_before p (i + 1)) h
      prepared_more = record {
        below = λ j v less at. elim (side (writes_before p i) j) [
          | inl before ↦ aside j v at (inl before) ∙ s.1.below j v before at
          | inr from ↦
              let found = place_in_group (grouped p.writes) i j ws v here from less at in
              group_there catalog apart start p work g h ws (prepare_of p.id p.now) prepare_key once (own_writes i ws here) now found.0 v found.1
        ];
        from = λ j v more at. aside j v at (inr more) ∙ s.1.from j v (later (writes_before p i) (length ws) j (more_before p i ws here) more) at;
      }
        where
          later : (m n j : ℕ) → m + n ≡ writes_before p (i + 1) → writes_before p (i + 1) ≤ j → m ≤ j
          later m n j e more = omega (arith, e, more)

      none_still : IsUndecided h p.id
      none_still = group_row catalog apart start p work g h ws (prepare_of p.id p.now) prepare_key once (own_writes i ws here) now ∙ s.0

      others_still : OthersUnchanged p start h
      others_still = group_others catalog apart start p work g h ws (prepare_of p.id p.now) prepare_key once (own_writes i ws here) now others

      prepared_on : (q : Option Request) (n : ℕ) → CommitAlone catalog start p h (after_prepare p i n (prepare_step (nat_lt (i + 1) (groups_of p)) q reply.Applied))
      prepared_on q n = by (nat_lt (i + 1) (groups_of p)) refl
        where
          by : (b : Bool) → nat_lt (i + 1) (groups_of p) ≡ b → CommitAlone catalog start p h (after_prepare p i n (if b then prepare.More else prepare.Done))
          by true e = present h (Preparing (i + 1)) others_still (none_still, prepared_more)
          by false e = present h (checking p 0) others_still (to_checks h none_still all 0)
            where
              all : EachWrite p (IsPrepared p) h
              all j v at = let f = place_in_groups p.writes j v at in prepared_more.below f.0 v (subst (λ n. f.0 < n) (sym (whole p i e)) (within_writes p f.0 v f.1)) f.1

    prepare_next : (r : Reply) → TookEffect (with_batch (map (prepare_of p.id p.now) ws) g) r g h → CommitAlone catalog start p h (step p (Preparing i) r)
    prepare_next r (Done (inl replied) now) = subst (λ x. CommitAlone catalog start p h (step p (Preparing i) x)) (sym replied) (prepared_on now (slice_get (prepares p) i) (writes_before p i + puts_of (slice_get (prepares p) i)))
    prepare_next r (Done (inr replied) now) = subst (λ x. CommitAlone catalog start p h (step p (Preparing i) x)) (sym replied) (present h (step p (Preparing i) reply.Fault) (others_still now) (none_still now, loose_below p (writes_before p (i + 1)) h (prepared_more now), tt))
    prepare_next r (Undone (inl replied) same) = subst (λ x. CommitAlone catalog start p h (step p (Preparing i) x)) (sym replied) (same_stage catalog start g h p (step p (Preparing i) reply.Fault) same (present g (step p (Preparing i) reply.Fault) others (s.0, loose_below p (writes_before p i) g s.1, tt)))
    prepare_next r (Undone (inr replied) same) = subst (λ x. CommitAlone catalog start p h (step p (Preparing i) x)) (sym replied) (same_stage catalog start g h p (step p (Preparing i) reply.NoMemory) same (present g (step p (Preparing i) reply.NoMemory) others (s.0, loose_below p (writes_before p i) g s.1, tt)))

  ---- checks

  check_next : (g h : Database) (i : ℕ) (c : Check) (r : Reply) → OthersUnchanged p start g → StageAlone p g (Checking i) → slice_get (checks p) i ≡ Some c → Called c.request r g h → CommitAlone catalog start p h (step p (Checking i) r)
  check_next g h i c r others s at called =
      let passes = (each_at (Passes g) (checks p) i c (all_pass catalog apart start sound p work g others) at).passes h r called in
      same_stage catalog start g h p (step p (Checking i) r) passes.0 (present g (step p (Checking i) r) others (subst (λ o. StageAlone p g (after_check p i (validate_step (nat_lt (i + 1) (length (checks p))) o r))) (sym at) (by passes.1)))
    where
      on : (b : Bool) → StageAlone p g (after_check p i (if b then validate.More else validate.Valid))
      on true = s
      on false = s

      by : ((more : Bool) → validate_step more (Some c) r ≡ (if more then validate.More else validate.Valid)) ⊎ HasFailed r → StageAlone p g (after_check p i (validate_step (nat_lt (i + 1) (length (checks p))) (Some c) r))
      by (inl passed) = subst (λ v. StageAlone p g (after_check p i v)) (sym (passed (nat_lt (i + 1) (length (checks p))))) (on (nat_lt (i + 1) (length (checks p))))
      by (inr (inl fault)) = subst (λ x. StageAlone p g (after_check p i (validate_step (nat_lt (i + 1) (length (checks p))) (Some c) x))) (sym fault) (s.0, loose_all p g s.1, tt)
      by (inr (inr wants)) = subst (λ x. StageAlone p g (after_check p i (validate_step (nat_lt (i + 1) (length (checks p))) (Some c) x))) (sym wants) (s.0, loose_all p g s.1, tt)

-- Whatever call of a COMMIT is pending, and whatever its reply: the database is as its next stage says.
pub commits : (catalog : List Table) → IsApart catalog → (start : Database) → IsSound catalog start → (p : Work) (g h : Database) (s : Stage) (q : Request) (r : Reply) → CommitAlone catalog start p g s → pending p s ≡ Some q → Called q r g h → CommitAlone catalog start p h (step p s r)
commits catalog apart start sound p g h s q r alone asked called = by s alone.stage (subst (λ o. IsCalledBy o) (sym asked) called)
  where
    IsCalledBy : Option Request → Type 0
    IsCalledBy None = ⊥
    IsCalledBy (Some x) = Called x r g h

    -- at what is at a place
    at_place : {A : Type 0} (xs : List A) (f : A → Request) (i : ℕ) (G : Type 0) → ((x : A) → slice_get xs i ≡ Some x → Called (f x) r g h → G) → IsCalledBy (slice_get (map f xs) i) → G
    at_place {A = A} xs f i G each c = on (slice_get xs i) refl (subst (λ o. IsCalledBy o) (slice_get-map f xs i) c)
      where
        on : (o : Option A) → slice_get xs i ≡ o → IsCalledBy (option_map f o) → G
        on None e c = absurd c
        on (Some x) e c = each x e c

    by : (s : Stage) → StageAlone p g s → IsCalledBy (pending p s) → CommitAlone catalog start p h (step p s r)
    by (Preparing i) st c =
        at_place (grouped p.writes) (prepares_of p.id p.now) i (CommitAlone catalog start p h (step p (Preparing i) r))
        (λ ws here call. prepare_next catalog apart start sound p alone.work g h i ws here alone.others st r ((sent_called (map (prepare_of p.id p.now) ws) r g h call).0 (may catalog apart start sound p alone.work g h i ws here alone.others st))) c
    by (Checking i) st c = on (slice_get (checks p) i) refl c
      where
        on : (o : Option Check) → slice_get (checks p) i ≡ o → IsCalledBy (option_map (λ (x : Check). x.request) o) → CommitAlone catalog start p h (step p (Checking i) r)
        on None e c = absurd c
        on (Some k) e c = check_next catalog apart start sound p alone.work g h i k r alone.others st e c
    by (Deciding phase.Put) st c = put_next catalog apart start sound p alone.work g h r alone.others st (put_row catalog apart start sound p alone.work g h r decision.Committed st.0 c)
    by (Deciding phase.Look) st c = same_stage catalog start g h p (step p (Deciding phase.Look) r) c.0 (look_next catalog apart start sound p alone.work g r alone.others st c.1)
    by (Deciding phase.Abort) st c = abort_next catalog apart start sound p alone.work g h r alone.others st (put_row catalog apart start sound p alone.work g h r decision.Aborted st.0 c)
    by (Deciding phase.Again) st c = same_stage catalog start g h p (step p (Deciding phase.Again) r) c.0 (again_next catalog apart start sound p alone.work g r alone.others st c.1)
    by (Deciding phase.Ended) st c = absurd c
    by (Forward i) st c =
        at_place (grouped p.writes) (forwards_of p.id p.now) i (CommitAlone catalog start p h (step p (Forward i) r)) (λ ws here call. forward_next catalog apart start sound p alone.work g h i ws r alone.others st here call) c
    by (Stopping a n) st c = stop_next catalog apart start sound p alone.work g h a n r alone.others st (put_row catalog apart start sound p alone.work g h r decision.Aborted st.0 c)
    by (Back a n i) st c =
        at_place (in_groups p.writes) (back_of p.id) i (CommitAlone catalog start p h (step p (Back a n i) r))
        (λ w at call. let mine = place_of_grouped p.writes i w at in back_next catalog apart start sound p alone.work g h a n i mine.0 w r alone.others st mine.1 (back_rolls catalog apart start sound p alone.work g h mine.0 w r mine.1 call)) c
    by (Over a) st c = absurd c
