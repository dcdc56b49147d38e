-- Each call of a COMMIT whose writes have keys that differ is well formed.
use Rattle.std.proofs.Common.{◌≡◌, ◌∙◌, ℕ, zero, suc, List, [], ◌∷◌, ◌++◌, filter, map, not, Option, Some, None, Bor, refl, sym, subst}
use Rattle.std.specs.Prelude.{IfSome, slice_get}
use Rattle.std.specs.Option.{option_copied, option_map}
use Rattle.std.proofs.lemmas.Option.{slice_get-map}
use Rattle.sdb_phases.specs.Types.{Condition, Key, Meta, Read, Record, Request, Scan, Write}
use Rattle.sdb_types.specs.Contents.{IsWellFormed}
use Rattle.sdb_types.proofs.Public.{none_some, some_is}
use Rattle.sdb_record.specs.Among.{is_written}
use Rattle.sdb_record.specs.Groups.{AreGroups, grouped, in_groups}
use Rattle.sdb_record.specs.Rolls.{undo}
use Rattle.sdb_phases.specs.declared.check.Check.{Check}
use Rattle.sdb_phases.specs.declared.step.DecidePhase.TheVariants as phase
use Rattle.sdb_phases.specs.declared.step.RecoverPhase.{RecoverPhase}
use Rattle.sdb_phases.specs.declared.step.RecoverPhase.TheVariants as recovering
use Rattle.sdb_phases.specs.Recover.{recover_request_at}
use Rattle.sdb_record.specs.Parts.{before_record}
use Rattle.sdb_phases.specs.Work.{Work, back_of, abort_of, decide_of, look_of}
use Rattle.sdb_phases.specs.Checks.{checks, check_of_read, check_of_scan}
use Rattle.sdb_phases.specs.Commit.{Stage, Preparing, Checking, Deciding, Forward, Stopping, Back, Over, pending}
use Rattle.sdb_phases.proofs.Groups.{forwards_formed, prepares_formed}

same_formed : (r q : Request) → IsWellFormed r → Some r ≡ Some q → IsWellFormed q
same_formed r q h e = subst IsWellFormed (some_is r q e) h

undo_formed : (condition : Condition) (key : Key) (base : Option Record) → IsWellFormed (undo condition key base)
undo_formed condition key None = tt
undo_formed condition key (Some base) = tt

back_formed : (p : Work) (o : Option Write) (q : Request) → option_map (back_of p.id) o ≡ Some q → IsWellFormed q
back_formed p None q e = none_some q e
back_formed p (Some w) q e = same_formed (back_of p.id w) q (undo_formed _ w.key w.base) e

scans_formed : (own : List Write) (ss : List Scan) (i : ℕ) (q : Request) → option_map (λ (c : Check). c.request) (slice_get (map (check_of_scan own) ss) i) ≡ Some q → IsWellFormed q
scans_formed own [] i q e = none_some q e
scans_formed own (s ∷ ss) zero q e = same_formed (check_of_scan own s).request q tt e
scans_formed own (s ∷ ss) (suc i) q e = scans_formed own ss i q e

reads_formed : (rs : List Read) (cs : List Check) → ((i : ℕ) (q : Request) → option_map (λ (c : Check). c.request) (slice_get cs i) ≡ Some q → IsWellFormed q) → (i : ℕ) (q : Request) → option_map (λ (c : Check). c.request) (slice_get (map check_of_read rs ++ cs) i) ≡ Some q → IsWellFormed q
reads_formed [] cs others i q e = others i q e
reads_formed (r ∷ rs) cs others zero q e = same_formed (check_of_read r).request q tt e
reads_formed (r ∷ rs) cs others (suc i) q e = reads_formed rs cs others i q e

check_formed : (p : Work) (i : ℕ) (q : Request) → option_map (λ (c : Check). c.request) (slice_get (checks p) i) ≡ Some q → IsWellFormed q
check_formed p = reads_formed (filter (λ r. not (is_written p.writes r.key)) p.reads) (map (check_of_scan p.writes) p.scans) (scans_formed p.writes p.scans)

pub pending_formed : (p : Work) (s : Stage) (q : Request) → AreGroups (grouped p.writes) → pending p s ≡ Some q → IsWellFormed q
pending_formed p (Preparing i) q are e = prepares_formed p are i q e
pending_formed p (Checking i) q are e = check_formed p i q e
pending_formed p (Deciding phase.Put) q are e = same_formed (decide_of p.id p.now) q tt e
pending_formed p (Deciding phase.Look) q are e = same_formed (look_of p.id) q tt e
pending_formed p (Deciding phase.Abort) q are e = same_formed (abort_of p.id p.now) q tt e
pending_formed p (Deciding phase.Again) q are e = same_formed (look_of p.id) q tt e
pending_formed p (Deciding phase.Ended) q are e = none_some q e
pending_formed p (Forward i) q are e = forwards_formed p are i q e
pending_formed p (Stopping a n) q are e = same_formed (abort_of p.id p.now) q tt e
pending_formed p (Back a n i) q are e = back_formed p (slice_get (in_groups p.writes) i) q (sym (slice_get-map (back_of p.id) (in_groups p.writes) i) ∙ e)
pending_formed p (Over a) q are e = none_some q e

-- and each call of a recovery
pub recover_formed : (rec : Record) (meta : Meta) (p : RecoverPhase) → IfSome (recover_request_at rec meta p) IsWellFormed
recover_formed rec meta recovering.Look = tt
recover_formed rec meta (recovering.Abort now) = tt
recover_formed rec meta recovering.Again = tt
recover_formed rec meta (recovering.Forward at) = tt
recover_formed rec meta recovering.Back = undo_formed _ rec.key (before_record rec)
recover_formed rec meta recovering.Ended = tt

pub some_formed : (o : Option Request) → ((q : Request) → o ≡ Some q → IsWellFormed q) → IfSome o IsWellFormed
some_formed None h = tt
some_formed (Some q) h = h q refl

-- a call that is returned by reference
pub copied_formed : (o : Option (Bor Request)) (p : Option Request) → option_copied o ≡ p → IfSome p IsWellFormed → IfSome o (λ b. IsWellFormed b.now)
copied_formed None p e h = tt
copied_formed (Some b) p e h = subst (λ x. IfSome x IsWellFormed) (sym e) h
