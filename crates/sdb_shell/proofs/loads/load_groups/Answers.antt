use Rattle.std.proofs.Common.{◌≡◌, ◌<◌, ◌∙◌, false, length, take, drop, refl, sym, ap, arith, string_bytes}
use Rattle.std.specs.Prelude.{◌==◌}
use Rattle.std.proofs.lemmas.Bool.Decides.{nat_tests}
use Rattle.sdb_types.proofs.Public.{eq_of}
use Rattle.sdb_contents.proofs.Public.{goes_more, goes_none, some_more}
use Rattle.sdb_shell.specs.Turns.{point}
use Rattle.sdb_shell.proofs.LoadSteps.{loaded_all, so_more, so_start, starved_so_far}
use Rattle.sdb_shell.proofs.Points.{all_errs, so_none}
use Rattle.sdb_shell.proofs.loads.load_groups.Goals as goal

pub loop-rest-init : goal.loop-rest-init
loop-rest-init g c =
    let first = point g.C.Clock.answered g.I.Ids.answered c.args.stores.now c.args.clock.now c.args.ids.now c.new-session.result in
    let p = point g.C.Clock.answered g.I.Ids.answered c.args.stores.now c.args.clock.now c.new-session.new.ids c.new-session.result in
    let so = so_none g.S.Registry.state c.args.catalog.now first p refl refl c.new-session.ensures.client c.new-session.ensures.fresh in
    record {
      some = c.requires.some;
      idle = so.idle;
      goes = goes_none (g.S.Registry.state c.args.stores.now);
      so = so_start g.S.Registry.state c.args.catalog.now c.args.load.now c.args.rows.now c.args.size first p (string_bytes c.new-out.result) c.new-out.ensures.bytes so;
    }

pub returns-in_err-ending-clause-goes : goal.returns-in_err-ending-clause-goes
returns-in_err-ending-clause-goes g c = goes_more _ _ _ c.loop-rest.invariant.goes c.take_group.ensures.goes

pub returns-in_err-put_line-clause-goes : goal.returns-in_err-put_line-clause-goes
returns-in_err-put_line-clause-goes g c = goes_more _ _ _ c.loop-rest.invariant.goes c.take_group.ensures.goes

pub returns-in_err-ending-clause-out_of_memory : goal.returns-in_err-ending-clause-out_of_memory
returns-in_err-ending-clause-out_of_memory g c =
    let first = point g.C.Clock.answered g.I.Ids.answered c.args.stores.now c.args.clock.now c.args.ids.now c.new-session.result in
    let p = point g.C.Clock.answered g.I.Ids.answered c.loop-rest.stores c.loop-rest.clock c.loop-rest.ids c.loop-rest.session in
    let q = point g.C.Clock.answered g.I.Ids.answered c.take_group.new.stores c.take_group.new.clock c.take_group.new.ids c.take_group.new.session in
    all_errs _ c.from_residual.result
    (starved_so_far g.S.Registry.state c.args.catalog.now c.args.load.now c.args.rows.now c.args.size first p q c.loop-rest.rest.now c.loop-rest.k (string_bytes c.loop-rest.out) c.loop-rest.invariant.so c.loop-rest.invariant.goes c.take_group.ensures.goes)

pub returns-in_err-put_line-clause-out_of_memory : goal.returns-in_err-put_line-clause-out_of_memory
returns-in_err-put_line-clause-out_of_memory g c =
    let first = point g.C.Clock.answered g.I.Ids.answered c.args.stores.now c.args.clock.now c.args.ids.now c.new-session.result in
    let p = point g.C.Clock.answered g.I.Ids.answered c.loop-rest.stores c.loop-rest.clock c.loop-rest.ids c.loop-rest.session in
    let q = point g.C.Clock.answered g.I.Ids.answered c.take_group.new.stores c.take_group.new.clock c.take_group.new.ids c.take_group.new.session in
    all_errs _ c.from_residual-in_err-put_line.result
    (starved_so_far g.S.Registry.state c.args.catalog.now c.args.load.now c.args.rows.now c.args.size first p q c.loop-rest.rest.now c.loop-rest.k (string_bytes c.loop-rest.out) c.loop-rest.invariant.so c.loop-rest.invariant.goes c.take_group.ensures.goes)

pub loop-rest-preserved : goal.loop-rest-preserved
loop-rest-preserved g c =
    let first = point g.C.Clock.answered g.I.Ids.answered c.args.stores.now c.args.clock.now c.args.ids.now c.new-session.result in
    let p = point g.C.Clock.answered g.I.Ids.answered c.loop-rest.stores c.loop-rest.clock c.loop-rest.ids c.loop-rest.session in
    let q = point g.C.Clock.answered g.I.Ids.answered c.take_group.new.stores c.take_group.new.clock c.take_group.new.ids c.take_group.new.session in
    let rest = c.loop-rest.rest.now in
    let other : (length rest == 0) ≡ false = sym c.is_empty.ensures ∙ c.loop-rest-test.true in
    let left : 0 < length rest = grind (arith, nat_tests) in
    record {
      some = some_more _ _ c.take_group.ensures.goes.names c.loop-rest.invariant.some;
      idle = c.in_ok-ending.ensures.idle;
      goes = goes_more _ _ _ c.loop-rest.invariant.goes c.take_group.ensures.goes;
      so = so_more g.S.Registry.state c.args.catalog.now c.args.load.now c.args.rows.now c.args.size first p q rest c.split_at.result.0.now c.split_at.result.1.now c.loop-rest.k (string_bytes c.loop-rest.out) (string_bytes c.put_line.new.out) c.in_ok-ending.ending
          c.loop-rest.invariant.so c.requires.size left (c.split_at.ensures.front ∙ ap (λ n. take n rest) c.min.ensures) (c.split_at.ensures.back ∙ ap (λ n. drop n rest) c.min.ensures) c.in_ok-ending.ensures.loaded c.in_ok-put_line.ensures;
    }

pub returns-clause-loaded : goal.returns-clause-loaded
returns-clause-loaded g c =
    let first = point g.C.Clock.answered g.I.Ids.answered c.args.stores.now c.args.clock.now c.args.ids.now c.new-session.result in
    let p = point g.C.Clock.answered g.I.Ids.answered c.loop-rest.stores c.loop-rest.clock c.loop-rest.ids c.loop-rest.session in
    loaded_all g.S.Registry.state c.args.catalog.now c.args.load.now c.args.rows.now c.args.size first p c.loop-rest.rest.now c.loop-rest.k (string_bytes c.loop-rest.out) c.loop-rest.invariant.so (eq_of (length c.loop-rest.rest.now) 0 (sym c.is_empty.ensures ∙ c.loop-rest-test.false))
