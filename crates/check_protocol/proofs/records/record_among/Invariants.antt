use Rattle.std.proofs.Common.{◌≡◌, drop}
use Rattle.sdb_types.specs.Contents.{record_among}
use Rattle.check_protocol.proofs.records.record_among.Given as goal

abbrev pub invariant-loop-row : goal.invariant-loop-row
invariant-loop-row l = record_among (drop l.row-index l.rows) l.key ≡ record_among l.rows l.key
