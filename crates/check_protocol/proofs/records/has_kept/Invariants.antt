use Rattle.std.proofs.Common.{◌≡◌, drop}
use Rattle.std.specs.List.{list_any}
use Rattle.sdb_record.specs.Parts.{is_before_pair}
use Rattle.check_protocol.proofs.records.has_kept.Given as goal

abbrev pub invariant-loop-pair : goal.invariant-loop-pair
invariant-loop-pair l = list_any is_before_pair (drop l.pair-index l.pairs) ≡ list_any is_before_pair l.pairs
