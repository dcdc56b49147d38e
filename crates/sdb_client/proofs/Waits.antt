-- A client without a pending call waits for a statement.
use Rattle.std.proofs.Common.{◌≡◌, Option, Some, None, refl, subst}
use Rattle.std.specs.Prelude.{IfSome, IsSome}
use Rattle.sdb_client.specs.Types.{Doing, Request}
use Rattle.sdb_exec.specs.Plans.{Planned}
use Rattle.sdb_txn.specs.declared.txn.Doing.TheVariants as doing
use Rattle.sdb_txn.specs.Txn.{TxnAt, pending_in}
use Rattle.sdb_vacuum.specs.Vacuum.{VacuumAt}
use Rattle.sdb_client.specs.Client.{ClientAt, IsIdle, client_pending, pending_by, pending_of}
use Rattle.sdb_client.specs.Inside.{IsClient, IsUnder, IsWhole}
use Rattle.sdb_client.proofs.Pending.{going_asks}

none_asked : (o : Option Request) → IsSome o → o ≡ None → ⊥
none_asked o h e = let none : IsSome {T = Request} None = subst (λ (x : Option Request). IsSome x) e h in cc

is_idle : (d : Doing) (p : Option Planned) → IsUnder d p → pending_in d ≡ None → d ≡ doing.Idle
is_idle doing.Idle p under e = refl
is_idle (doing.Read a x) (Some p) under e = absurd (none_asked _ under.2 e)
is_idle (doing.Commit k) None under e = absurd (none_asked _ (going_asks k.work k.stage under) e)
is_idle (doing.Read a x) None under e = absurd under
is_idle (doing.Commit k) (Some p) under e = absurd under
is_idle doing.Over p under e = absurd under

txn_waits : (t : Option TxnAt) (p : Option Planned) → IsClient t p → pending_of t ≡ None → IfSome t (λ u. u.doing ≡ doing.Idle)
txn_waits None p h e = tt
txn_waits (Some t) p h e = is_idle t.doing p h e

pub client_waits : (c : ClientAt) → IsWhole c.vacuum c.txn c.plan → client_pending c ≡ None → IsIdle c
client_waits c h e = by c.vacuum refl h e
  where
    by : (v : Option VacuumAt) → c.vacuum ≡ v → IsWhole v c.txn c.plan → pending_by v c.txn ≡ None → IsIdle c
    by None is h e = record { free = is; still = txn_waits c.txn c.plan h e }
    by (Some v) is h e = absurd (none_asked _ h.2 e)
