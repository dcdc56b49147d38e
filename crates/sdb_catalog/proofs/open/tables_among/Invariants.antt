use Rattle.std.proofs.Common.{◌≡◌, take}
use Rattle.sdb_catalog.specs.Opened.{tables_of}
use Rattle.sdb_catalog.proofs.open.tables_among.Given as goal

abbrev pub invariant-loop-entry : goal.invariant-loop-entry
invariant-loop-entry l = l.tables ≡ tables_of (take l.entry-index l.entries)
