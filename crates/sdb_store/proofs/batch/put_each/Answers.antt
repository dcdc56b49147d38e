use Rattle.std.proofs.Common.{◌∙◌, List, Option, ap, subst, sym, take}
use Rattle.sdb_types.specs.declared.record.Record.{Record}
use Rattle.sdb_store.specs.Batches.{ArePut}
use Rattle.sdb_store.proofs.Batches.{first_put}
use Rattle.sdb_store.proofs.batch.put_each.Goals as goal

pub returns-in-Err-clause-err : goal.returns-in-Err-clause-err
returns-in-Err-clause-err g c =
    let before = g.R.Rows.contents c.args.rows.now in
    let now = g.R.Rows.contents c.insert_each.new.rows in
    c.restore_each.ensures before
    (subst (λ (xs : List (Option Record)). ArePut c.args.puts.now xs before now) (sym (c.truncate.ensures.items ∙ ap (take c.in-Err.done) c.requires.found))
    (first_put c.args.puts.now c.in-Err.done before now c.in-Err.ensures.few c.in-Err.ensures.err))
