use Rattle.std.proofs.Common.{◌^◌, None, length, arith}
use Rattle.std.specs.Int.{w16}
use Rattle.sdb_codec.proofs.FieldLaws.{IsBytes, wide16, number_takes}
use Rattle.sdb_codec.proofs.RecordLaws.{pairs_take, Chain-are_columns}
use Rattle.sdb_codec.proofs.columns.columns_at.Goals as goal

pub from_pairs-requires : goal.from_pairs-requires
from_pairs-requires c =
    let fits : IsBytes c.args.bytes.now = λ i. omega (arith, c.type_inv.bytes i) in
    let count = number_takes w16 (2 ^ 16) wide16 (length c.args.bytes.now) c.args.bytes.now (c.in_ok-count.count, c.in_ok-count.rest.now) fits c.in_ok-count.ensures in
    Chain-are_columns None c.in_ok-pairs.pairs (pairs_take c.in_ok-count.count c.in_ok-count.rest.now (c.in_ok-pairs.pairs, c.in_ok-pairs.rest.now) count.0.rest_fits c.in_ok-pairs.ensures).2
