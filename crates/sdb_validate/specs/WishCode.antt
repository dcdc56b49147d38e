-- The code of what is wished, by which a proof distinguishes its values.
use Rattle.std.specs.Coded.{Coded}
use Rattle.std.specs.FinMap.{code}
use Rattle.sdb_types.specs.contracts.key.Key as key
use Rattle.sdb_phases.specs.contracts.check.Expected as wish
use Rattle.sdb_phases.specs.Checks.{Wishes}

abbrev pub coded_wishes : Coded Wishes
coded_wishes = code (key.the_row).coded (wish.the_row).coded
