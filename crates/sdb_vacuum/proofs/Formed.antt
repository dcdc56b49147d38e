-- Each call of a VACUUM is well formed.
use Rattle.std.proofs.Common.{◌≡◌, Option, Some, None, subst}
use Rattle.std.specs.Prelude.{IfSome}
use Rattle.std.specs.Option.{option_map}
use Rattle.sdb_vacuum.specs.Types.{Record, Request}
use Rattle.sdb_types.specs.declared.record.Condition.TheVariants as condition
use Rattle.sdb_types.specs.declared.record.Request.TheVariants as ask
use Rattle.sdb_types.specs.declared.record.State.TheVariants as state
use Rattle.sdb_types.specs.declared.txid.TxId.{TxId}
use Rattle.sdb_types.specs.Contents.{IsWellFormed}
use Rattle.sdb_types.proofs.Public.{none_some}
use Rattle.sdb_record.specs.Meta.{id_in}
use Rattle.sdb_record.specs.Rolls.{remove_request}
use Rattle.sdb_vacuum.specs.Inside.{scan_stage}
use Rattle.sdb_vacuum.specs.Vacuum.{pending_at}

pub scan_formed : (q : Request) → pending_at (scan_stage q) ≡ Some q → IsWellFormed q
scan_formed (ask.Get key) e = tt
scan_formed (ask.Scan span) e = tt
scan_formed (ask.PutIf r c) e = tt
scan_formed (ask.DeleteIf key c) e = tt
scan_formed (ask.PutAll b) e = none_some (ask.PutAll b) e

pub remove_formed : (b : Record) (q : Request) → remove_request b ≡ Some q → IsWellFormed q
remove_formed b q e = subst (λ o. IfSome o IsWellFormed) e (by (id_in b.columns))
  where
    by : (o : Option TxId) → IfSome (option_map (λ id. ask.DeleteIf b.key (condition.Version id state.Committed)) o) IsWellFormed
    by None = tt
    by (Some id) = tt
