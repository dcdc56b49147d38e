-- How many writes the prepares of a COMMIT put.
use Rattle.std.proofs.Common.{◌≡◌, ◌<◌, ◌≤◌, ◌^◌, ℕ, ◌+◌, zero, suc, List, [], ◌∷◌, length, refl, sym, subst, arith}
use Rattle.std.specs.Prelude.{IsSome, slice_get}
use Rattle.sdb_types.specs.declared.record.Request.{Request}
use Rattle.sdb_phases.specs.Steps.{puts_from, puts_of}
use Rattle.sdb_phases.proofs.Public.{puts_next}

pub pending_within : (asks : List Request) (at : ℕ) → IsSome (slice_get asks at) → at < length asks
pending_within [] at some = absurd (cc)
pending_within (q ∷ asks) zero some = omega arith
pending_within (q ∷ asks) (suc at) some = omega (arith, pending_within asks at some)

-- the writes of one prepare more are some of those that are left
pub one_more_fits : (asks : List Request) (at touched puts : ℕ) → at < length asks → puts ≡ puts_of (slice_get asks at) → touched + puts_from asks at < 2 ^ 64 → touched + puts + puts_from asks (at + 1) < 2 ^ 64
one_more_fits asks at touched puts within is few = omega (arith, is, few, puts_next asks at within)

pub touched_fits : (asks : List Request) (at touched puts : ℕ) → at < length asks → puts ≡ puts_of (slice_get asks at) → touched + puts_from asks at < 2 ^ 64 → touched + puts < 2 ^ 64
touched_fits asks at touched puts within is few = omega (arith, one_more_fits asks at touched puts within is few)
