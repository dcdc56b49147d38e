use Rattle.std.proofs.Common.{◌+◌, ℕ, List, [], ◌∷◌, ◌++◌, drop, sym, ap, ◌∙◌}
use Rattle.sdb_shell.specs.Statements.{names_listed}
use Rattle.sdb_shell.proofs.Pairs.{name_more, name_none}
use Rattle.sdb_shell.proofs.loads.names_in.Goals as goal
use Rattle.sdb_shell.proofs.loads.names_in.Goals.{then-lists+in_ok-copy+in_ok-push, else-lists}

pub loop-column-preserved : goal.loop-column-preserved
loop-column-preserved c =
    let first = c.args.first.now in
    let columns = c.args.columns.now in
    let i = c.loop-column.column-index in
    elim c.if-lists.branch [
      | then-lists+in_ok-copy+in_ok-push w ↦
          ap (λ (ns : List (List ℕ)). ns ++ names_listed first (drop (i + 1) columns)) (w.names-is ∙ w.in_ok-push.ensures.ok ∙ ap (λ (n : List ℕ). c.loop-column.names ++ n ∷ []) w.in_ok-copy.ensures)
          ∙ name_more first columns c.loop-column.names (names_listed first columns) i c.column-item.result c.loop-column-test.true c.column-item.is (sym c.lists.ensures ∙ w.if-lists.true) c.loop-column.invariant
      | else-lists w ↦
          ap (λ (ns : List (List ℕ)). ns ++ names_listed first (drop (i + 1) columns)) w.names-is
          ∙ name_none first columns c.loop-column.names (names_listed first columns) i c.column-item.result c.loop-column-test.true c.column-item.is (sym c.lists.ensures ∙ w.if-lists.false) c.loop-column.invariant
    ]
