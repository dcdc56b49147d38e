use mir.Val.{of_z, to_z}
use Rattle.std.proofs.Common.{rules, ◌≡◌, ℤ, None, subst, w64}
use Rattle.sdb_contents.proofs.Public.{goes_more, goes_none, some_more}
use Rattle.sdb_shell.specs.Answering.{AreMade}
use Rattle.sdb_shell.proofs.Making.{about_still, faults_still, made_after, over_later, waits_still, working, works_still}
use Rattle.sdb_shell.proofs.answering.make_calls.Goals as goal

pub loop-init : goal.loop-init
loop-init g c = record {
  some = c.requires.some;
  goes = goes_none (g.S.Registry.state c.args.stores.now);
  works = λ w. w.works;
  about = λ catalog about. about;
  faults = λ w none after. absurd (none after);
  waits = λ w. w.waits;
}

pub make_call-requires-clause-works : goal.make_call-requires-clause-works
make_call-requires-clause-works g c = working c.args.client.now c.loop.client c.requires.works c.loop.invariant.works

pub returns-in-Some-clause-made : goal.returns-in-Some-clause-made
returns-in-Some-clause-made g c =
    let now : to_z w64 (of_z w64 c.args.now) ≡ c.args.now = search rules in
    let before = c.loop.invariant in
    subst (λ (m : ℤ). AreMade m (g.S.Registry.state c.args.stores.now) c.args.client.now c.in-Some.answer (g.S.Registry.state c.make_call.new.stores) c.make_call.new.client) now
    (made_after _ _ _ _ c.args.client.now c.loop.client c.in-Some.answer c.make_call.new.client before.goes before.works before.about before.faults before.waits c.in-Some.ensures.called c.make_call.ensures.goes)

pub returns-in-Some-clause-goes : goal.returns-in-Some-clause-goes
returns-in-Some-clause-goes g c = goes_more _ _ _ c.loop.invariant.goes c.make_call.ensures.goes

pub loop-preserved : goal.loop-preserved
loop-preserved g c =
    let before = c.loop.invariant in
    let on = c.make_call.ensures.goes in
    let made = c.in_default.ensures.called in
    record {
      some = some_more _ _ on.names before.some;
      goes = goes_more _ _ _ before.goes on;
      works = λ w. works_still _ _ _ c.loop.client c.make_call.new.client made w.catalog w.statement w.opened w.stays (before.works w);
      about = λ catalog about. about_still _ _ _ c.loop.client None c.make_call.new.client made catalog (before.about catalog about);
      faults = faults_still _ _ _ _ c.args.client.now c.loop.client None c.make_call.new.client before.goes before.works before.faults made on;
      waits = λ w. waits_still _ _ _ c.loop.client c.make_call.new.client made on (over_later _ _ _ c.args.client.now c.loop.client before.goes before.about w (before.waits w));
    }
