use Rattle.std.proofs.Common.{◌≡◌, rules, sym, false}
use Rattle.std.specs.Prelude.{codes}
use Rattle.std.specs.Int.{w64}
use Rattle.std.specs.Str.{bytes_eq}
use Rattle.sdb_data.specs.Fields.{is_big}
use Rattle.sdb_data.proofs.Numbers.{big-fits, unparsed}
use Rattle.sdb_data.proofs.field.big_in.Goals as goal

pub returns-in-Err : goal.returns-in-Err
returns-in-Err c =
    let other : bytes_eq c.args.field.now (codes "-0") ≡ false = search rules in
    sym (unparsed w64 is_big c.args.field.now c.in-Err.field-0 big-fits other c.in-Err.ensures.value.0)
