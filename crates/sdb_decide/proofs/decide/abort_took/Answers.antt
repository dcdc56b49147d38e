use Rattle.sdb_record.specs.declared.coordinator.Decision.TheVariants.{Aborted}
use Rattle.sdb_phases.proofs.Public.{unmet_row}
use Rattle.sdb_decide.proofs.decide.abort_took.Goals as goal

pub follow-step-requires : goal.follow-step-requires
follow-step-requires c = unmet_row c.args.id Aborted c.args.now c.args.reply c.in-NotMet-Some.field-0 c.in-NotMet-Some.row c.requires c.in-NotMet-Some.is c.in-NotMet-Some.field-0-is
