use Rattle.std.proofs.Common.{◌≡◌, take}
use Rattle.sdb_catalog.proofs.write.tables_of.Given as goal

abbrev pub invariant-loop-i : goal.invariant-loop-i
invariant-loop-i l = l.tables ≡ take l.i l.catalog
