-- Small lemmas on numbers, on what waits, and on where clients are.
use Rattle.std.proofs.Common.{◌≡◌, ◌≢◌, ◌<◌, ◌+◌, ◌*◌, ◌^◌, ℕ, pos, suc, Bool, true, false, [], Option, Some, None, refl, arith}
use Rattle.std.specs.Prelude.{◌==◌, if◌then◌else◌}
use Rattle.std.proofs.lemmas.Bool.Decides.{nat_tests}
use Rattle.sdb_model.specs.declared.statement.Statement.{Statement}
use Rattle.sdb_model.specs.Sql.{Reads, reads_commit}
use Rattle.sdb_model.specs.Transactions.{Executed}
use Rattle.law_protocol.specs.History.{Begins, ProtocolState, state_after_event}
use Rattle.sdb_snapshot.specs.Seen.{nothing}
use Rattle.law_clients.specs.System.{ClientAt, SystemAt, with_client}
use Rattle.law_clients.specs.Filed.{number}
use Rattle.law_clients.specs.Left.{Execution}
use Rattle.law_clients.specs.Invariant.{IsCommitting, IsInner, IsRunning, IsWaiting}

-- no two transactions of a client have one number
pub numbers_same : (c j k : ℕ) → number c j ≡ number c k → j ≡ k
numbers_same c j k e = by (c * 2 ^ 64) e
  where
    by : (b : ℕ) → b + suc j ≡ b + suc k → j ≡ k
    by b h = omega (arith, h)

pub less_apart : (j k : ℕ) → j < k → j ≢ k
less_apart j k l e = absurd (omega (arith, l, e))

-- what a transaction has run before its first statement
abbrev pub nothing_ran : Execution
nothing_ran = record { seen = nothing; now = pos 0; body = []; answers = [] }

pub begins_untaken : (h : ProtocolState) (t c : ℕ) → (state_after_event h (Begins t c)).accepted t ≡ h.accepted t
begins_untaken h t c = grind (arith, nat_tests)

---- the statement that waits

pub committing_as : (o : Option Executed) → IsCommitting o → (w : Executed) × (o ≡ Some w) × (reads_commit w.text ≡ true)
committing_as None h = absurd h
committing_as (Some w) h = (w, refl, h)

pub waiting_as : (o : Option Executed) → IsWaiting o → (w : Executed) × (o ≡ Some w)
waiting_as None h = absurd h
waiting_as (Some w) h = (w, refl)

pub running_as : (st : Statement) (o : Option Executed) → IsRunning (Some st) o → (w : Executed) × (o ≡ Some w) × Reads w.text st × IsInner w.text
running_as st None h = absurd h
running_as st (Some w) h = (w, refl, h.0, h.1)

-- a client that is elsewhere, and then elsewhere again
pub twice : (sys : SystemAt) (c : ℕ) (y z : ClientAt) → with_client (with_client sys c y) c z ≡ with_client sys c z
twice sys c y z = λ j. record { clients = λ u. by u (u == c) j; begun = sys.begun }
  where
    by : (u : ℕ) (b : Bool) → (if b then z else (if b then y else sys.clients u)) ≡ (if b then z else sys.clients u)
    by u true = refl
    by u false = refl
