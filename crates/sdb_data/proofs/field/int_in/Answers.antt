use Rattle.std.proofs.Common.{◌≡◌, rules, sym, false}
use Rattle.std.specs.Prelude.{codes}
use Rattle.std.specs.Int.{w32}
use Rattle.std.specs.Str.{bytes_eq}
use Rattle.sdb_data.proofs.Numbers.{int-fits, unparsed}
use Rattle.sdb_data.proofs.field.int_in.Goals as goal
use Rattle.sdb_types.specs.Fits.{fits_int}

pub returns-in-Err : goal.returns-in-Err
returns-in-Err c =
    let other : bytes_eq c.args.field.now (codes "-0") ≡ false = search rules in
    sym (unparsed w32 fits_int c.args.field.now c.in-Err.field-0 int-fits other c.in-Err.ensures.value.0)
