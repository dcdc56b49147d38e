use Rattle.std.proofs.Common.{◌≡◌, sym, subst, take, ◌∙◌}
use Rattle.sdb_snapshot.specs.Sets.{IsSetInvariant}
use Rattle.sdb_txn.specs.Txn.{TxnAt}
use Rattle.sdb_client.proofs.Takings.{out_of_memory_is}
use Rattle.sdb_client.proofs.finish.finish_read.Goals as goal

pub forget-requires-clause-kept : goal.forget-requires-clause-kept
forget-requires-clause-kept c =
    let same : c.finish-answer.new.txn ≡ c.args.txn.now = c.finish-answer.ensures.memory (out_of_memory_is c.finish-answer.result (sym c.is_out_of_memory.ensures ∙ c.if-is_out_of_memory.true)) in
    subst (λ (t : TxnAt). IsSetInvariant (take c.args.mark.read_set t.seen.read_set) t.seen.writes) (sym same) c.requires.kept
