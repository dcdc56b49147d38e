use Rattle.std.proofs.Common.{◌≡◌, ◌+◌, [], ◌∷◌, ◌++◌, cond, take, drop, sym, ap, subst, ◌∙◌, arith}
use Rattle.std.proofs.lemmas.List.{take-append-drop, take_more}
use Rattle.sdb_types.proofs.Public.{drop_next}
use Rattle.sdb_contents.proofs.Public.{goes_more, goes_none, some_more}
use Rattle.sdb_shell.specs.Groups.{is_written}
use Rattle.sdb_shell.specs.Statements.{row_statement}
use Rattle.sdb_shell.specs.Turns.{AreAllExecuted, IsExecuted, point}
use Rattle.sdb_shell.proofs.GroupSteps.{none_taken, row_more, row_stops}
use Rattle.sdb_shell.proofs.Points.{idle_after}
use Rattle.sdb_shell.proofs.loaded_rows.take_rows.Goals as goal
use Rattle.sdb_shell.proofs.loaded_rows.take_rows.Goals.{then-is_written, else-is_written}

pub loop-row-init : goal.loop-row-init
loop-row-init g c = record {
  some = c.requires.some;
  idle = c.requires.idle;
  goes = goes_none (g.S.Registry.state c.args.stores.now);
  low = omega arith;
  so = none_taken g.S.Registry.state c.args.catalog.now c.args.load.now (point g.C.Clock.answered g.I.Ids.answered c.args.stores.now c.args.clock.now c.args.ids.now c.args.session.now);
}

pub returns-then-not-is_loaded-clause-accepted : goal.returns-then-not-is_loaded-clause-accepted
returns-then-not-is_loaded-clause-accepted g c =
    let rows = c.args.rows.now in
    let i = c.loop-row.row-index in
    let row = c.row-item.result in
    row_stops g.S.Registry.state c.args.catalog.now c.args.load.now rows (take i rows) (drop (i + 1) rows) row (point g.C.Clock.answered g.I.Ids.answered c.args.stores.now c.args.clock.now c.args.ids.now c.args.session.now)
    (point g.C.Clock.answered g.I.Ids.answered c.loop-row.stores c.loop-row.clock c.loop-row.ids c.loop-row.session) (point g.C.Clock.answered g.I.Ids.answered c.take_row.new.stores c.take_row.new.clock c.take_row.new.ids c.take_row.new.session)
    c.loop-row.written c.in_ok-answer.answer c.loop-row.invariant.so
    (subst (λ x. IsExecuted g.S.Registry.state c.args.catalog.now (row_statement c.args.load.now x) (point g.C.Clock.answered g.I.Ids.answered c.loop-row.stores c.loop-row.clock c.loop-row.ids c.loop-row.session) c.in_ok-answer.answer (point g.C.Clock.answered g.I.Ids.answered c.take_row.new.stores c.take_row.new.clock c.take_row.new.ids c.take_row.new.session)) c.as_slice.ensures c.in_ok-answer.ensures.answered)
    c.take_row.ensures.goes (sym c.is_loaded.ensures ∙ c.if-not-is_loaded.true) (sym (take-append-drop i rows) ∙ ap (λ xs. take i rows ++ xs) (drop_next rows i row c.loop-row-test.true c.row-item.is))

pub returns-then-not-is_loaded-clause-goes : goal.returns-then-not-is_loaded-clause-goes
returns-then-not-is_loaded-clause-goes g c = goes_more _ _ _ c.loop-row.invariant.goes c.take_row.ensures.goes

pub loop-row-preserved : goal.loop-row-preserved
loop-row-preserved g c =
    let rows = c.args.rows.now in
    let i = c.loop-row.row-index in
    let row = c.row-item.result in
    let a = c.in_ok-answer.answer in
    let p = point g.C.Clock.answered g.I.Ids.answered c.args.stores.now c.args.clock.now c.args.ids.now c.args.session.now in
    let q = point g.C.Clock.answered g.I.Ids.answered c.loop-row.stores c.loop-row.clock c.loop-row.ids c.loop-row.session in
    let r = point g.C.Clock.answered g.I.Ids.answered c.take_row.new.stores c.take_row.new.clock c.take_row.new.ids c.take_row.new.session in
    let one = subst (λ x. IsExecuted g.S.Registry.state c.args.catalog.now (row_statement c.args.load.now x) q a r) c.as_slice.ensures c.in_ok-answer.ensures.answered in
    let more : take (i + 1) rows ≡ take i rows ++ row ∷ [] = take_more rows i row c.loop-row-test.true ∙ ap (λ x. take i rows ++ x ∷ []) (sym c.row-item.is) in
    let count : c.if-is_written.written ≡ c.loop-row.written + cond (is_written a) 1 0 = elim c.if-is_written.branch [
      | then-is_written w ↦ w.written-is ∙ ap (λ b. c.loop-row.written + cond b 1 0) (sym (sym c.is_written.ensures ∙ w.if-is_written.true))
      | else-is_written w ↦
          let same : c.loop-row.written ≡ c.loop-row.written + 0 = omega arith in
          w.written-is ∙ same ∙ ap (λ b. c.loop-row.written + cond b 1 0) (sym (sym c.is_written.ensures ∙ w.if-is_written.false))
    ] in
    record {
      some = some_more _ _ c.take_row.ensures.goes.names c.loop-row.invariant.some;
      idle = idle_after g.S.Registry.state c.args.catalog.now (row_statement c.args.load.now row) q r a one;
      goes = goes_more _ _ _ c.loop-row.invariant.goes c.take_row.ensures.goes;
      low = elim c.if-is_written.branch [ then-is_written w ↦ omega (arith, w.written-is, c.loop-row.invariant.low) | else-is_written w ↦ omega (arith, w.written-is, c.loop-row.invariant.low) ];
      so = subst (λ n. AreAllExecuted g.S.Registry.state c.args.catalog.now c.args.load.now (take (i + 1) rows) p r n) (sym count)
          (subst (λ xs. AreAllExecuted g.S.Registry.state c.args.catalog.now c.args.load.now xs p r (c.loop-row.written + cond (is_written a) 1 0)) (sym more)
          (row_more g.S.Registry.state c.args.catalog.now c.args.load.now (take i rows) row p q r c.loop-row.written a c.loop-row.invariant.so one c.take_row.ensures.goes (sym c.is_loaded.ensures ∙ c.if-not-is_loaded.false)));
    }
