use Rattle.std.proofs.Common.{◌≡◌, map, take}
use Rattle.sdb_data.specs.Tables.{head_of}
use Rattle.sdb_data.proofs.header.heads_of.Given as goal

abbrev pub invariant-loop-name : goal.invariant-loop-name
invariant-loop-name l = l.heads ≡ map (head_of l.table) (take l.name-index l.header)
