use Rattle.std.proofs.Common.{◌∙◌, ap, sym}
use Rattle.std.specs.Option.{option_copied}
use Rattle.sdb_exec.proofs.Places.{named_is_table}
use Rattle.sdb_exec.proofs.plan.Plan.new.Goals as goal

pub refusal_on_table-requires : goal.refusal_on_table-requires
refusal_on_table-requires c = named_is_table c.args.catalog.now c.args.statement c.in-Some.table.now c.find_table.ensures.catalog (sym c.find_table.ensures.table ∙ ap option_copied c.in-Some.is)
