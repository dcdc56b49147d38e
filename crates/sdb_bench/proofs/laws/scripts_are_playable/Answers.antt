use Rattle.sdb_bench.proofs.Lines.{bench_lines}
use Rattle.sdb_bench.proofs.Playable.{bench_apart, bench_catalog_is, bench_moves_are, bench_nine, bench_short}
use Rattle.sdb_bench.proofs.laws.scripts_are_playable.Goals as goal

pub returns : goal.returns
returns c = record { catalog = bench_catalog_is; apart = bench_apart; clients = bench_nine; short = bench_short; lines = bench_lines; moves = bench_moves_are }
