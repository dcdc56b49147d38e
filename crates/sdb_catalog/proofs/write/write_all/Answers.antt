use Rattle.std.proofs.Common.{◌∙◌, ◌+◌, List, ap, take}
use Rattle.std.specs.Prelude.{string_bytes}
use Rattle.sdb_schema.specs.Table.{rises}
use Rattle.sdb_catalog.specs.declared.entry.Entry.{Entry}
use Rattle.sdb_catalog.specs.Written.{entry_for}
use Rattle.sdb_catalog.proofs.Calling.{goes_more}
use Rattle.sdb_catalog.proofs.Known.{has_put, may_write_more, wrote_first}
use Rattle.sdb_catalog.proofs.Writes.{item_more, rises_at, written_one}
use Rattle.sdb_catalog.proofs.write.write_all.Goals as goal

pub loop-table-preserved : goal.loop-table-preserved
loop-table-preserved g c =
    let old = g.R.Registry.state c.args.stores.now in
    let mid = g.R.Registry.state c.loop-table.stores in
    let new = g.R.Registry.state c.write_table.new.stores in
    let ts = c.args.tables.now in
    let i = c.loop-table.table-index in
    let t = c.table-item.result in
    let before = c.loop-table.invariant in
    let step = c.in_ok-outcome.ensures in
    record {
      bare = step.places ∙ before.bare;
      goes = goes_more old mid new before.goes step.goes;
      so =
          written_one c.args.places.now c.args.first.now c.args.known.now c.loop-table.known c.write_table.new.known (take i ts) (take (i + 1) ts) t c.in_ok-outcome.outcome c.in_ok-entry.entry (string_bytes c.loop-table.text) (string_bytes c.put_line.new.text) old mid new.views
          before.so before.goes.where_known (c.in_ok-entry.ensures ∙ ap (λ (es : List Entry). entry_for es c.args.places.now c.args.first.now t) c.as_slice.ensures) step.written step.known c.in_ok-put_line.ensures (item_more ts i t c.loop-table-test.true c.table-item.is);
    }

pub returns-in_err-entry-clause-left : goal.returns-in_err-entry-clause-left
returns-in_err-entry-clause-left g c =
    wrote_first c.args.places.now c.args.first.now c.args.known.now c.loop-table.known c.args.tables.now c.loop-table.table-index (string_bytes c.loop-table.text) (g.R.Registry.state c.args.stores.now) (g.R.Registry.state c.loop-table.stores) c.loop-table.invariant.so

pub returns-in_err-outcome-clause-left : goal.returns-in_err-outcome-clause-left
returns-in_err-outcome-clause-left g c =
    let t = c.table-item.result in
    may_write_more c.args.places.now c.args.first.now c.args.known.now c.loop-table.known c.args.tables.now c.loop-table.table-index t c.in_ok-entry.entry (string_bytes c.loop-table.text)
    (g.R.Registry.state c.args.stores.now) (g.R.Registry.state c.loop-table.stores) (g.R.Registry.state c.write_table.new.stores) c.loop-table.invariant.so c.loop-table.invariant.goes.where_known
    (c.in_ok-entry.ensures ∙ ap (λ (es : List Entry). entry_for es c.args.places.now c.args.first.now t) c.as_slice.ensures) (item_more c.args.tables.now c.loop-table.table-index t c.loop-table-test.true c.table-item.is) c.in_err-outcome.ensures.left

pub returns-in_err-put_line-clause-left : goal.returns-in_err-put_line-clause-left
returns-in_err-put_line-clause-left g c =
    let t = c.table-item.result in
    let old = g.R.Registry.state c.loop-table.stores in
    let new = g.R.Registry.state c.write_table.new.stores in
    may_write_more c.args.places.now c.args.first.now c.args.known.now c.loop-table.known c.args.tables.now c.loop-table.table-index t c.in_ok-entry.entry (string_bytes c.loop-table.text)
    (g.R.Registry.state c.args.stores.now) old new c.loop-table.invariant.so c.loop-table.invariant.goes.where_known
    (c.in_ok-entry.ensures ∙ ap (λ (es : List Entry). entry_for es c.args.places.now c.args.first.now t) c.as_slice.ensures) (item_more c.args.tables.now c.loop-table.table-index t c.loop-table-test.true c.table-item.is)
    (has_put c.loop-table.known c.in_ok-entry.entry c.in_ok-outcome.outcome old new c.in_ok-outcome.ensures.written)

pub returns-in_err-put_line-clause-goes : goal.returns-in_err-put_line-clause-goes
returns-in_err-put_line-clause-goes g c =
    goes_more (g.R.Registry.state c.args.stores.now) (g.R.Registry.state c.loop-table.stores) (g.R.Registry.state c.write_table.new.stores) c.loop-table.invariant.goes c.in_ok-outcome.ensures.goes

pub returns-in_err-put_line-clause-places : goal.returns-in_err-put_line-clause-places
returns-in_err-put_line-clause-places g c = c.in_ok-outcome.ensures.places ∙ c.loop-table.invariant.bare

pub returns-in_err-outcome-clause-places : goal.returns-in_err-outcome-clause-places
returns-in_err-outcome-clause-places g c = c.in_err-outcome.ensures.places ∙ c.loop-table.invariant.bare

pub returns-in_err-outcome-clause-goes : goal.returns-in_err-outcome-clause-goes
returns-in_err-outcome-clause-goes g c =
    goes_more (g.R.Registry.state c.args.stores.now) (g.R.Registry.state c.loop-table.stores) (g.R.Registry.state c.write_table.new.stores) c.loop-table.invariant.goes c.in_err-outcome.ensures.goes

pub returns-in_err-entry-clause-places : goal.returns-in_err-entry-clause-places
returns-in_err-entry-clause-places g c = c.loop-table.invariant.bare

pub returns-in_err-entry-clause-goes : goal.returns-in_err-entry-clause-goes
returns-in_err-entry-clause-goes g c = c.loop-table.invariant.goes

pub returns-clause-places : goal.returns-clause-places
returns-clause-places g c = c.loop-table.invariant.bare

pub returns-clause-left : goal.returns-clause-left
returns-clause-left g c =
    wrote_first c.args.places.now c.args.first.now c.args.known.now c.loop-table.known c.args.tables.now c.loop-table.table-index (string_bytes c.loop-table.text) (g.R.Registry.state c.args.stores.now) (g.R.Registry.state c.loop-table.stores) c.loop-table.invariant.so

pub returns-clause-goes : goal.returns-clause-goes
returns-clause-goes g c = c.loop-table.invariant.goes

pub write_table-requires-clause-columns : goal.write_table-requires-clause-columns
write_table-requires-clause-columns g c =
    ap (λ (e : Entry). rises e.table.columns) c.in_ok-entry.ensures
    ∙ rises_at c.args.tables.now c.loop-table.table-index c.table-item.result c.requires.columns c.loop-table-test.true c.table-item.is
