use Rattle.std.proofs.Common.{◌≤◌, length, arith}
use Rattle.sdb_script.specs.Lines.{most_bytes}
use Rattle.sdb_script.proofs.Scripts.{ended_ok, ended_bad}
use Rattle.sdb_script.proofs.read.script_in.Goals as goal

pub returns-in-Ok-clause-ok : goal.returns-in-Ok-clause-ok
returns-in-Ok-clause-ok c =
    let read = c.in-Ok.ensures in
    let small : length c.args.bytes.now ≤ most_bytes = omega arith in
    ended_ok c.args.stores.now c.args.bytes.now c.in-Ok.drafting c.in-Ok.number c.script_of.result small read.ok.0 read.ok.1 c.script_of.ensures.ok

pub returns-in-Ok-clause-bad : goal.returns-in-Ok-clause-bad
returns-in-Ok-clause-bad c =
    let read = c.in-Ok.ensures in
    let small : length c.args.bytes.now ≤ most_bytes = omega arith in
    ended_bad c.args.stores.now c.args.bytes.now c.in-Ok.drafting c.in-Ok.number c.script_of.result small read.ok.0 read.ok.1 c.script_of.ensures.bad
