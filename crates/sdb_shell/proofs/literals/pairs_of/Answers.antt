use Rattle.std.proofs.Common.{◌+◌, List, [], ◌∷◌, ◌++◌, drop, ap, ◌∙◌}
use Rattle.sdb_types.specs.declared.pair.Pair.{Pair}
use Rattle.sdb_shell.specs.Statements.{pairs_of}
use Rattle.sdb_shell.proofs.Pairs.{pair_more, pair_none}
use Rattle.sdb_shell.proofs.literals.pairs_of.Goals as goal
use Rattle.sdb_shell.proofs.literals.pairs_of.Goals.{then-i-row+in_ok-pair_of+in_ok-push, else-i-row}

pub loop-i-preserved : goal.loop-i-preserved
loop-i-preserved c =
    let names = c.args.names.now in
    let row = c.args.row.now in
    let i = c.loop-i.i in
    elim c.if-i-row.branch [
      | then-i-row+in_ok-pair_of+in_ok-push w ↦
          ap (λ (ps : List Pair). ps ++ pairs_of (drop (i + 1) names) (drop (i + 1) row)) (w.pairs-is ∙ w.in_ok-push.ensures.ok ∙ ap (λ (p : Pair). c.loop-i.pairs ++ p ∷ []) w.in_ok-pair_of.ensures)
          ∙ pair_more names row c.loop-i.pairs (pairs_of names row) i c.index-names-i.result w.index-row-i.result c.loop-i-test.true c.index-names-i.is w.if-i-row.true w.index-row-i.is c.loop-i.invariant
      | else-i-row w ↦
          ap (λ (ps : List Pair). ps ++ pairs_of (drop (i + 1) names) (drop (i + 1) row)) w.pairs-is ∙ pair_none names row c.loop-i.pairs (pairs_of names row) i w.if-i-row.false c.loop-i.invariant
    ]
