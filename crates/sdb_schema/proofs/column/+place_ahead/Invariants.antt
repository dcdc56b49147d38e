use Rattle.sdb_schema.proofs.column.+place_ahead.Given as goal

abbrev pub decreases-place_ahead : goal.decreases-place_ahead
decreases-place_ahead l = l.few
