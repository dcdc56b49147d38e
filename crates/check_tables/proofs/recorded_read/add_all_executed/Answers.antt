use Rattle.std.proofs.Common.{◌≡◌, ◌∙◌, ◌+◌, ◌++◌, List, [], ◌∷◌, take, sym, ap}
use Rattle.std.specs.List.{flat_map}
use Rattle.std.proofs.lemmas.List.{take_more}
use Rattle.sdb_model.specs.ReadSet.{ReadItem}
use Rattle.sdb_contents.specs.declared.executed.Executed.{Executed}
use Rattle.sdb_contents.specs.Commits.{executed_of}
use Rattle.check_tables.specs.Values.{all_items, items_of_statement}
use Rattle.check_tables.proofs.Walks.{flat_more}
use Rattle.check_tables.proofs.recorded_read.add_all_executed.Goals as goal

pub loop-executed-preserved : goal.loop-executed-preserved
loop-executed-preserved c =
    let f : Executed → List ReadItem = λ s. items_of_statement c.args.events.now c.args.client (executed_of s) in
    let next : take (c.loop-executed.executed-index + 1) c.args.all.now ≡ take c.loop-executed.executed-index c.args.all.now ++ c.executed-item.result ∷ [] =
    take_more c.args.all.now c.loop-executed.executed-index c.executed-item.result c.loop-executed-test.true ∙ ap (λ (s : Executed). take c.loop-executed.executed-index c.args.all.now ++ s ∷ []) (sym c.executed-item.is) in
    c.in_ok-add_executed.ensures ∙ ap (λ (ns : List ReadItem). ns ++ f c.executed-item.result) c.loop-executed.invariant
    ∙ flat_more f (all_items c.args.read_set.now) (take c.loop-executed.executed-index c.args.all.now) c.executed-item.result
    ∙ sym (ap (λ (ss : List Executed). all_items c.args.read_set.now ++ flat_map f ss) next)
