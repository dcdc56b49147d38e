use Rattle.std.proofs.Common.{◌+◌, ◌∙◌, List, Some, drop, sym, ap}
use Rattle.std.specs.Prelude.{if◌then◌else◌}
use Rattle.std.specs.Ordering.{nat_cmp}
use Rattle.std.specs.BTreeMap.{get}
use Rattle.sdb_types.specs.declared.record.Put.{Put}
use Rattle.sdb_types.specs.declared.record.Request.TheVariants as ask
use Rattle.sdb_types.proofs.Public.{drop_next}
use Rattle.sdb_model.specs.Transactions.{prepares}
use Rattle.sdb_contents.proofs.Prepared.{batch_step}
use Rattle.sdb_contents.proofs.prepares.add_batch.Goals as goal

pub loop-put-preserved : goal.loop-put-preserved
loop-put-preserved c = λ id small.
    let puts = c.args.puts.now in
    let i = c.loop-put.put-index in
    let put = c.put-item.result in
    let rest = drop (i + 1) puts in
    let old = get nat_cmp c.loop-put.found id.0 in
    ap (λ o. if prepares id (ask.PutAll rest) then Some c.args.number else o) (c.in_ok-add_record.ensures id small)
    ∙ sym (batch_step put rest id c.args.number old)
    ∙ sym (ap (λ (ps : List Put). if prepares id (ask.PutAll ps) then Some c.args.number else old) (drop_next puts i put c.loop-put-test.true c.put-item.is))
    ∙ c.loop-put.invariant id small
