use mir.Val.{of_z, to_z}
use Rattle.std.proofs.Common.{rules, ◌≡◌, ℤ, Result, Ok, Err, IfOk, refl, subst, w64}
use Rattle.sdb_shell.specs.Types.{Answer, NoMemory}
use Rattle.sdb_client.specs.Client.{Taking}
use Rattle.sdb_shell.specs.Answering.{AreMade, IsAnswered}
use Rattle.sdb_shell.proofs.Making.{answered_at_once, answered_then, works_then}
use Rattle.sdb_shell.proofs.answering.answer.Goals as goal

pub make_calls-requires-clause-works : goal.make_calls-requires-clause-works
make_calls-requires-clause-works g c =
    let q : Taking = record { catalog = c.args.catalog.now; now = to_z w64 (of_z w64 c.args.now); gate = _; fresh = c.args.fresh } in
    works_then q refl refl c.args.text.now c.args.client.now c.requires.idle c.take.result c.take.new.self c.take.ensures.memory c.take.ensures.answered c.in-None.is

pub returns-in-Some-clause-answered : goal.returns-in-Some-clause-answered
returns-in-Some-clause-answered g c =
    let now : to_z w64 (of_z w64 c.args.now) ≡ c.args.now = search rules in
    let q : Taking = record { catalog = c.args.catalog.now; now = to_z w64 (of_z w64 c.args.now); gate = _; fresh = c.args.fresh } in
    subst (λ (m : ℤ). IsAnswered c.args.catalog.now c.args.text.now c.args.fresh m (g.S.Registry.state c.args.stores.now) c.args.client.now c.in-Some.answer (g.S.Registry.state c.args.stores.now) c.take.new.self) now
    (answered_at_once q refl refl c.args.text.now c.args.client.now c.requires.idle c.take.result c.take.new.self c.take.ensures.memory c.take.ensures.answered c.in-Some.answer c.in-Some.is (g.S.Registry.state c.args.stores.now))

pub returns-in-None-clause-answered : goal.returns-in-None-clause-answered
returns-in-None-clause-answered g c =
    let now : to_z w64 (of_z w64 c.args.now) ≡ c.args.now = search rules in
    let q : Taking = record { catalog = c.args.catalog.now; now = to_z w64 (of_z w64 c.args.now); gate = _; fresh = c.args.fresh } in
    let by : (r : Result Answer NoMemory) → IfOk r (λ a. AreMade (to_z w64 (of_z w64 c.args.now)) (g.S.Registry.state c.args.stores.now) c.take.new.self a (g.S.Registry.state c.make_calls.new.stores) c.make_calls.new.client)
    → IfOk r (λ a. IsAnswered c.args.catalog.now c.args.text.now c.args.fresh c.args.now (g.S.Registry.state c.args.stores.now) c.args.client.now a (g.S.Registry.state c.make_calls.new.stores) c.make_calls.new.client) = λ r. elim r as (λ (r : Result Answer NoMemory). IfOk r (λ a. AreMade (to_z w64 (of_z w64 c.args.now)) (g.S.Registry.state c.args.stores.now) c.take.new.self a (g.S.Registry.state c.make_calls.new.stores) c.make_calls.new.client)
    → IfOk r (λ a. IsAnswered c.args.catalog.now c.args.text.now c.args.fresh c.args.now (g.S.Registry.state c.args.stores.now) c.args.client.now a (g.S.Registry.state c.make_calls.new.stores) c.make_calls.new.client)) [
      | Ok a ↦ λ made. subst (λ (m : ℤ). IsAnswered c.args.catalog.now c.args.text.now c.args.fresh m (g.S.Registry.state c.args.stores.now) c.args.client.now a (g.S.Registry.state c.make_calls.new.stores) c.make_calls.new.client) now
          (answered_then q refl refl c.args.text.now c.args.client.now c.requires.idle c.take.result c.take.new.self c.take.ensures.memory c.take.ensures.answered c.in-None.is a _ _ c.make_calls.new.client made)
      | Err e ↦ λ made. tt
    ] in
    by c.make_calls.result c.make_calls.ensures.made
