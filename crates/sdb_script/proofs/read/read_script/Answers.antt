use Rattle.sdb_script.proofs.Scripts.{all_ok, all_refused}
use Rattle.sdb_script.proofs.read.read_script.Goals as goal

pub returns : goal.returns
returns c = record {
  ok = all_ok c.args.stores.now c.args.bytes.now c.script_in.result c.script_in.ensures.ok;
  refused = all_refused c.args.stores.now c.args.bytes.now c.script_in.result c.script_in.ensures.bad;
}
