use Rattle.sdb_exec.proofs.Beside.{value_in-of}
use Rattle.sdb_exec.proofs.read.value_beside.Goals as goal

pub returns-in-Some : goal.returns-in-Some
returns-in-Some c = value_in-of c.args.names.now c.args.values.now c.args.name.now _ _ c.in-Some.ensures

pub returns-in-None : goal.returns-in-None
returns-in-None c = value_in-of c.args.names.now c.args.values.now c.args.name.now _ _ c.in-None.ensures
