use Rattle.std.proofs.Common.{◌≡◌, ◌<◌, ◌≤◌, ◌∙◌, ap, get_or, length, rules}
use Rattle.std.specs.Ordering.{is_eq}
use Rattle.sdb_validate.proofs.Paired.{write_there, no_write_there}
use Rattle.sdb_validate.proofs.checks.is_write_of.Goals as goal

pub returns-in-Some : goal.returns-in-Some
returns-in-Some c =
    let within : c.args.i < length c.args.own.now = search rules in
    let at : c.in-Some.write.now ≡ get_or c.args.own.now c.args.i c.in-Some.write.now = search rules in
    c.is_eq.ensures ∙ ap is_eq c.compare.ensures ∙ write_there c.args.own.now c.args.i c.args.key.now c.in-Some.write.now within at

pub returns-in-None : goal.returns-in-None
returns-in-None c =
    let past : length c.args.own.now ≤ c.args.i = search rules in
    no_write_there c.args.own.now c.args.i c.args.key.now past
