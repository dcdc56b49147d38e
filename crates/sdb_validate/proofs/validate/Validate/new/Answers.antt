use Rattle.std.proofs.Common.{sym, subst}
use Rattle.sdb_validate.specs.Inside.{AreOrdered}
use Rattle.sdb_validate.proofs.Ordered.{checks_ordered}
use Rattle.sdb_validate.proofs.validate.Validate.new.Goals as goal

pub invariant_of-result : goal.invariant_of-result
invariant_of-result c = subst AreOrdered (sym c.in_ok-checks.ensures) (checks_ordered c.args.own.now c.args.reads.now c.args.scans.now)
