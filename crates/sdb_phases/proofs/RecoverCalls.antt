-- A recovery that goes on has a call pending, and one call fewer to make.
use Rattle.std.proofs.Common.{◌≡◌, ◌≤◌, ℕ, ℤ, suc, true, arith, refl, sym}
use Rattle.std.specs.Prelude.{IsSome, is_some}
use Rattle.sdb_phases.specs.Types.{Meta, Record, Reply}
use Rattle.sdb_types.proofs.Public.{clash}
use Rattle.sdb_phases.specs.declared.step.RecoverStep.{RecoverStep}
use Rattle.sdb_phases.specs.declared.step.RecoverStep.TheVariants as steps
use Rattle.sdb_phases.specs.declared.step.RecoverPhase.{RecoverPhase}
use Rattle.sdb_phases.specs.declared.step.RecoverPhase.TheVariants as phase
use Rattle.sdb_phases.specs.Recover.{recover_next, recover_request_at, row_followed}
use Rattle.sdb_phases.specs.RecoverCalls.{calls_left}
use Rattle.sdb_phases.proofs.RecoverRows.{by_expiry, by_row, by_rows, by_steps}

abbrev pub GoesOn : Record → Meta → RecoverPhase × RecoverStep → Type 0
GoesOn rec meta n = n.1 ≡ steps.More → IsSome (recover_request_at rec meta n.0)

pub recover_goes : (rec : Record) (meta : Meta) (p : RecoverPhase) (now : ℤ) (r : Reply) → GoesOn rec meta (recover_next rec meta p now r)
recover_goes rec meta =
    by_steps rec meta (GoesOn rec meta)
    (record {
      forward = λ at e. refl;
      back = λ e. refl;
      abort = λ now e. refl;
      again = λ e. refl;
      forwarded = λ at e. absurd (cc);
      undone = λ e. absurd (cc);
      busy = λ e. absurd (cc);
      fault = λ e. absurd (cc);
      bad = λ e. absurd (cc);
      no_memory = λ e. absurd (cc);
    })

-- a call is pending where there is one more to make
pub one_left : (rec : Record) (meta : Meta) (p : RecoverPhase) → is_some (recover_request_at rec meta p) ≡ true → 1 ≤ calls_left p
one_left rec meta phase.Look e = omega arith
one_left rec meta (phase.Abort n) e = omega arith
one_left rec meta phase.Again e = omega arith
one_left rec meta (phase.Forward n) e = omega arith
one_left rec meta phase.Back e = omega arith
one_left rec meta phase.Ended e = clash (sym e)

-- one that goes on has one call fewer to make
abbrev pub IsNearer : ℕ → RecoverPhase × RecoverStep → Type 0
IsNearer m (p, steps.More) = suc (calls_left p) ≤ m
IsNearer m (p, s) = 1 ≤ m

row_nearer : (meta : Meta) (row : Record) (m : ℕ) → 2 ≤ m → IsNearer m (row_followed meta row)
row_nearer meta row m h = by_row meta row (IsNearer m) (λ d says is. h) (λ d says is. h) (λ column says. omega arith)

pub recover_nearer : (rec : Record) (meta : Meta) (p : RecoverPhase) (now : ℤ) (r : Reply) → is_some (recover_request_at rec meta p) ≡ true → IsNearer (calls_left p) (recover_next rec meta p now r)
recover_nearer rec meta p now r =
    by_rows rec meta now (λ p r n. is_some (recover_request_at rec meta p) ≡ true → IsNearer (calls_left p) n)
    (record {
      look_row = λ found e. row_nearer meta found 4 (omega arith);
      look_none = λ e. by_expiry meta now (IsNearer 4) (λ is. omega arith) (λ is. omega arith);
      abort_applied = λ m e. omega arith;
      abort_row = λ m found e. row_nearer meta found 3 (omega arith);
      abort_fault = λ m e. omega arith;
      again_row = λ found e. row_nearer meta found 2 (omega arith);
      again_none = λ e. omega arith;
      forward = λ at r is e. omega arith;
      back = λ r is e. omega arith;
      fault = λ p e. one_left rec meta p e;
      no_memory = λ p r e. one_left rec meta p e;
    }) p r
