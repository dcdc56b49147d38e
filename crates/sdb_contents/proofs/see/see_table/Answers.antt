use Rattle.sdb_catalog.proofs.Public.{passed_on}
use Rattle.sdb_contents.proofs.Steps.{blocked_free}
use Rattle.sdb_contents.proofs.see.see_table.Goals as goal

pub returns-in_err-check_free-clause-err : goal.returns-in_err-check_free-clause-err
returns-in_err-check_free-clause-err g c =
    passed_on _ c.from_residual-in_err-check_free.result c.in_err-check_free.field-0.0 c.from_residual-in_err-check_free.ensures.1
    (blocked_free (g.R.Registry.state c.args.stores.now) (g.R.Registry.state c.scan.new.stores) (g.R.Registry.state c.scan-2.new.stores).views c.args.from.now c.args.to.now c.args.table.now c.in_ok-in_to.in_to c.in_ok-in_from.in_from c.as_slice.result.now c.as_slice-2.result.now
    c.in_err-check_free.field-0.0 c.in_ok-in_to.ensures.goes c.in_ok-in_to.ensures.held c.as_slice.ensures c.as_slice-2.ensures c.in_ok-in_to.ensures.observed c.in_ok-in_from.ensures.observed c.in_err-check_free.ensures.err)
