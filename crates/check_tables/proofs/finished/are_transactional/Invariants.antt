use Rattle.std.proofs.Common.{◌≡◌, drop}
use Rattle.std.specs.List.{list_all}
use Rattle.sdb_record.specs.Meta.{is_transactional}
use Rattle.check_tables.proofs.finished.are_transactional.Given as goal

abbrev pub invariant-loop-rec : goal.invariant-loop-rec
invariant-loop-rec l = list_all is_transactional (drop l.rec-index l.rows) ≡ list_all is_transactional l.rows
