-- The row that a put of a row found is at the transaction's key.
use Rattle.std.proofs.Common.{◌≡◌, ℤ, Option, Some, ◌∙◌, subst}
use Rattle.sdb_phases.specs.Types.{Decision, Record, Reply, TxId}
use Rattle.sdb_types.specs.declared.record.Condition.TheVariants as condition
use Rattle.sdb_types.specs.declared.record.Request.TheVariants as ask
use Rattle.sdb_types.specs.declared.record.Reply.TheVariants as reply
use Rattle.sdb_record.specs.Coordinator.{coordinator_key_of, coordinator_row_of}
use Rattle.sdb_record.proofs.Public.{row-key}
use Rattle.sdb_phases.specs.Steps.{CanGet}

pub unmet_row : (id : TxId) (d : Decision) (now : ℤ) (r : Reply) (o : Option Record) (row : Record) → CanGet (Some (ask.PutIf (coordinator_row_of id d now) condition.Absent)) r → r ≡ reply.NotMet o → o ≡ Some row → row.key ≡ coordinator_key_of id
unmet_row id d now r o row gets is found =
    let unmet : CanGet (Some (ask.PutIf (coordinator_row_of id d now) condition.Absent)) (reply.NotMet (Some row)) = subst (λ x. CanGet (Some (ask.PutIf (coordinator_row_of id d now) condition.Absent)) (reply.NotMet x)) found (subst (CanGet (Some (ask.PutIf (coordinator_row_of id d now) condition.Absent))) is gets) in
    unmet.0 ∙ row-key id d now
