-- The lemmas of this crate that others cite.
pub use Rattle.sdb_bench.proofs.Lines.{bench_lines}
pub use Rattle.sdb_bench.proofs.Playable.{bench_apart, bench_catalog_is, bench_moves_are, bench_nine, bench_short}
