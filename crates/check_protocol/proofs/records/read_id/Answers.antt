use Rattle.std.proofs.Common.{rules, ◌<◌, ◌^◌, IfSome}
use Rattle.sdb_types.specs.declared.txid.TxId.{TxId}
use Rattle.sdb_record.proofs.Public.{reads}
use Rattle.check_protocol.proofs.records.read_id.Goals as goal

pub returns : goal.returns
returns c =
    let small : IfSome c.from_text.result (λ (id : TxId). id.0 < 2 ^ 128) = search rules in
    reads c.args.text.now c.from_text.result c.from_text.ensures.found small c.from_text.ensures.read
