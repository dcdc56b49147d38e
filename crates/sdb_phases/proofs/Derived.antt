-- What follows for a COMMIT from where it is.
use Rattle.std.proofs.Common.{◌≡◌, ◌≤◌, ℕ, ◌+◌, List, [], ◌∷◌, length, arith, Option, Some, refl, true, false, subst, sym, ◌∙◌}
use Rattle.sdb_phases.specs.Types.{Key, Record, Reply, TxId}
use Rattle.sdb_types.specs.declared.record.Reply.TheVariants as reply
use Rattle.sdb_record.specs.Coordinator.{coordinator_key_of}
use Rattle.sdb_phases.specs.declared.step.Outcome.{Outcome}
use Rattle.sdb_phases.specs.declared.step.Outcome.TheVariants as outcome
use Rattle.sdb_phases.specs.declared.step.DecidePhase.TheVariants as phase
use Rattle.sdb_phases.specs.Work.{Work, groups_of}
use Rattle.sdb_phases.proofs.Groups.{few_groups}
use Rattle.sdb_phases.specs.Commit.{Stage, Preparing, Checking, Deciding, Forward, Stopping, Back, Over, after}
use Rattle.sdb_phases.specs.CommitLaws.{IsWork, Seen, seen, AreReplies, StageInvariant, IsLost, is_unrecorded, may_undo, reads_of, most_calls, exact_calls}
use Rattle.sdb_phases.proofs.CommitInvariants.{agrees}

pub calls_are : (p : Work) (past : List Reply) → (seen p past).calls ≡ length past
calls_are p [] = refl
calls_are p (r ∷ past) = let e = calls_are p past in grind arith

lies_at : (p : Work) (past : List Reply) (s : Stage) → IsWork p → AreReplies p past → after p past ≡ s → StageInvariant p (seen p past) s
lies_at p past s is correct e = subst (StageInvariant p (seen p past)) e (agrees p past is correct)

pub prepares_in_order : (p : Work) (past : List Reply) (i : ℕ) → IsWork p → AreReplies p past → after p past ≡ Preparing i → (length past ≡ i) × ((seen p past).passed ≡ true)
prepares_in_order p past i is correct e =
    let (calls, within, passed, put) = lies_at p past (Preparing i) is correct e in (sym (calls_are p past) ∙ calls, passed)

pub checks_in_order : (p : Work) (past : List Reply) (i : ℕ) → IsWork p → AreReplies p past → after p past ≡ Checking i → (length past ≡ groups_of p + i) × ((seen p past).passed ≡ true)
checks_in_order p past i is correct e =
    let (calls, within, passed, put) = lies_at p past (Checking i) is correct e in (sym (calls_are p past) ∙ calls, passed)

pub decides_after_checks : (p : Work) (past : List Reply) → IsWork p → AreReplies p past → after p past ≡ Deciding phase.Put → (length past ≡ groups_of p + reads_of p) × ((seen p past).passed ≡ true)
decides_after_checks p past is correct e =
    let (calls, passed, put) = lies_at p past (Deciding phase.Put) is correct e in (sym (calls_are p past) ∙ calls, passed)

pub rolls_forward : (p : Work) (past : List Reply) (i : ℕ) → IsWork p → AreReplies p past → after p past ≡ Forward i → (seen p past).committed ≡ true
rolls_forward p past i is correct e =
    let (within, learned, most, exact) = lies_at p past (Forward i) is correct e in learned

pub rolls_back : (p : Work) (past : List Reply) (a : Outcome) (n i : ℕ) → IsWork p → AreReplies p past → after p past ≡ Back a n i → may_undo (seen p past) ≡ true
rolls_back p past a n i is correct e =
    let (may, caused, in_n, within, most) = lies_at p past (Back a n i) is correct e in may

pub ends_committed : (p : Work) (past : List Reply) → IsWork p → AreReplies p past → after p past ≡ Over outcome.Committed → (seen p past).committed ≡ true
ends_committed p past is correct e = (lies_at p past (Over outcome.Committed) is correct e).0

pub ends_exactly : (p : Work) (past : List Reply) → IsWork p → AreReplies p past → after p past ≡ Over outcome.Committed → (seen p past).faulted ≡ false → length past ≡ exact_calls p
ends_exactly p past is correct e none = sym (calls_are p past) ∙ (lies_at p past (Over outcome.Committed) is correct e).2 none

pub ends_unknown : (p : Work) (past : List Reply) (id : TxId) → IsWork p → AreReplies p past → after p past ≡ Over (outcome.Unknown id) → (id ≡ p.id) × ((seen p past).put ≡ Some reply.Fault) × ((seen p past).failed ≡ true)
ends_unknown p past id is correct e = let (same, put, failed, most) = lies_at p past (Over (outcome.Unknown id)) is correct e in (same, put, failed)

pub ends_bad : (p : Work) (past : List Reply) (key : Key) → IsWork p → AreReplies p past → after p past ≡ Over (outcome.BadRecord key) → (key ≡ coordinator_key_of p.id) × ((seen p past).malformed ≡ true)
ends_bad p past key is correct e = let (same, malformed, most) = lies_at p past (Over (outcome.BadRecord key)) is correct e in (same, malformed)

pub ends_conflict : (p : Work) (past : List Reply) (key : Key) (found : Option Record) → IsWork p → AreReplies p past → after p past ≡ Over (outcome.Conflict key found) → (seen p past).passed ≡ false
ends_conflict p past key found is correct e = let (safe, most, failed) = lies_at p past (Over (outcome.Conflict key found)) is correct e in failed

pub ends_expired : (p : Work) (past : List Reply) (id : TxId) → IsWork p → AreReplies p past → after p past ≡ Over (outcome.Expired id) → (id ≡ p.id) × ((seen p past).aborted ≡ true)
ends_expired p past id is correct e = let (safe, most, caused) = lies_at p past (Over (outcome.Expired id)) is correct e in caused

pub ends_faulted : (p : Work) (past : List Reply) → IsWork p → AreReplies p past → after p past ≡ Over outcome.Faulted → (seen p past).faulted ≡ true
ends_faulted p past is correct e = let (safe, most, faulted) = lies_at p past (Over outcome.Faulted) is correct e in faulted

lost_so : (p : Work) (h : Seen) (a : Outcome) → IsLost a → StageInvariant p h (Over a) → is_unrecorded h ≡ true
lost_so p h (outcome.Conflict key found) lost agrees = agrees.0
lost_so p h (outcome.Expired id) lost agrees = agrees.0
lost_so p h outcome.Faulted lost agrees = agrees.0
lost_so p h outcome.NoMemory lost agrees = agrees.0
lost_so p h outcome.Committed lost agrees = absurd lost
lost_so p h (outcome.Unknown id) lost agrees = absurd lost
lost_so p h (outcome.BadRecord key) lost agrees = absurd lost

pub ends_lost : (p : Work) (past : List Reply) (a : Outcome) → IsWork p → AreReplies p past → after p past ≡ Over a → IsLost a → is_unrecorded (seen p past) ≡ true
ends_lost p past a is correct e lost = lost_so p (seen p past) a lost (lies_at p past (Over a) is correct e)

-- no stage is after more calls
bound : (p : Work) (h : Seen) (s : Stage) → StageInvariant p h s → h.calls ≤ most_calls p
bound p h (Preparing i) (calls, within, passed, put) = omega arith
bound p h (Checking i) (calls, within, passed, put) = omega arith
bound p h (Deciding phase.Put) (calls, passed, put) = omega arith
bound p h (Deciding phase.Look) (calls, faulted, put) = omega arith
bound p h (Deciding phase.Abort) (calls, faulted, put) = omega arith
bound p h (Deciding phase.Again) (calls, faulted, put, failed) = omega arith
bound p h (Deciding phase.Ended) s = absurd s
bound p h (Forward i) (within, learned, most, exact) = omega (arith, few_groups p)
bound p h (Stopping a n) (safe, caused, within, most) = omega arith
bound p h (Back a n i) (may, caused, in_n, within, most) = omega arith
bound p h (Over outcome.Committed) s = s.1
bound p h (Over (outcome.Unknown id)) (same, put, failed, most) = most
bound p h (Over (outcome.BadRecord key)) (same, malformed, most) = most
bound p h (Over (outcome.Conflict key found)) s = s.1
bound p h (Over (outcome.Expired id)) s = s.1
bound p h (Over outcome.Faulted) s = s.1
bound p h (Over outcome.NoMemory) s = s.1

pub at_most : (p : Work) (past : List Reply) → IsWork p → AreReplies p past → length past ≤ most_calls p
at_most p past is correct =
    subst (λ n. n ≤ most_calls p) (calls_are p past) (bound p (seen p past) (after p past) (agrees p past is correct))
