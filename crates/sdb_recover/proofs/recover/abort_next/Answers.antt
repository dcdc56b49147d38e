use Rattle.sdb_record.specs.declared.coordinator.Decision.TheVariants.{Aborted}
use Rattle.sdb_phases.proofs.Public.{unmet_row}
use Rattle.sdb_recover.proofs.recover.abort_next.Goals as goal

pub follow-requires : goal.follow-requires
follow-requires c = unmet_row c.args.meta.now.id Aborted c.args.moment c.args.reply c.in-NotMet-Some.field-0 c.in-NotMet-Some.row c.requires c.in-NotMet-Some.is c.in-NotMet-Some.field-0-is
