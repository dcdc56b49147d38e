use mir.Val.{of_z, to_z}
use Rattle.std.proofs.Common.{rules, ◌≡◌, ◌∙◌, ◌++◌, ◌∷◌, [], ℤ, true, ap, subst, sym, w64}
use Rattle.sdb_record.specs.Parts.{is_column_name}
use Rattle.sdb_model.specs.declared.event.Event.TheVariants as event
use Rattle.sdb_model.specs.declared.script.Act.{Act}
use Rattle.sdb_model.specs.declared.script.Act.TheVariants as act
use Rattle.sdb_model.specs.Rows.{Name}
use Rattle.sdb_world.specs.Step.{CanAct, HasCome, IsOne}
use Rattle.sdb_world.proofs.Acts.{Came, acts_alter, acts_stop}
use Rattle.sdb_world.proofs.Altering.{altered_by}
use Rattle.sdb_world.proofs.Explained.{came_explained, on_explained}
use Rattle.sdb_world.proofs.ClientSteps.{goes_clock}
use Rattle.sdb_world.proofs.Takings.{on_ok}
use Rattle.sdb_world.proofs.Asked.{asks_alter, asks_stop}
use Rattle.sdb_world.proofs.Broken.{breaks_alter, breaks_stop}
use Rattle.sdb_world.proofs.world.World.step.Goals as goal

pub returns-in-Stop-clause-world : goal.returns-in-Stop-clause-world
returns-in-Stop-clause-world g c =
    on_ok c.stop.result c.stop.ensures (λ h. (acts_stop (g.R.Registry.state c.args.stores.now) c.args.self.now c.stop.new.self c.in-Stop.client c.requires.world h).0)

pub returns-in-Stop-clause-acted : goal.returns-in-Stop-clause-acted
returns-in-Stop-clause-acted g c =
    let held = g.R.Registry.state c.args.stores.now in
    let w = c.args.self.now in
    on_ok c.stop.result c.stop.ensures (λ h. subst (λ (a : Act). HasCome (IsOne w.script a w.events) held held w c.stop.new.self) (sym c.in-Stop.is) (acts_stop held w c.stop.new.self c.in-Stop.client c.requires.world h).1)

pub returns-clause-world : goal.returns-clause-world
returns-clause-world g c =
    let same : to_z w64 (of_z w64 c.in-Clock.moment) ≡ c.in-Clock.moment = search rules in
    let came = c.in_ok-push-in-Clock.ensures.ok ∙ ap (λ (m : ℤ). c.self.inside.events ++ event.Clock m ∷ []) same in
    let held = g.R.Registry.state c.args.stores.now in
    (subst (λ (z : ℤ). Came held held c.args.self.now c.args.act (record { script = c.self.inside.script; client_slots = c.self.inside.client_slots.items; flights = c.self.inside.flights; events = c.push.new.self; clock = z })) (sym same)
    (goes_clock held _ c.args.self.now c.self.view_is c.push.new.self c.args.act c.in-Clock.moment c.requires.world c.in-Clock.is c.requires.act came)).0

pub returns-clause-acted : goal.returns-clause-acted
returns-clause-acted g c =
    let same : to_z w64 (of_z w64 c.in-Clock.moment) ≡ c.in-Clock.moment = search rules in
    let came = c.in_ok-push-in-Clock.ensures.ok ∙ ap (λ (m : ℤ). c.self.inside.events ++ event.Clock m ∷ []) same in
    let held = g.R.Registry.state c.args.stores.now in
    (subst (λ (z : ℤ). Came held held c.args.self.now c.args.act (record { script = c.self.inside.script; client_slots = c.self.inside.client_slots.items; flights = c.self.inside.flights; events = c.push.new.self; clock = z })) (sym same)
    (goes_clock held _ c.args.self.now c.self.view_is c.push.new.self c.args.act c.in-Clock.moment c.requires.world c.in-Clock.is c.requires.act came)).1

pub returns-in-Step-clause-explained : goal.returns-in-Step-clause-explained
returns-in-Step-clause-explained g c =
    on_explained c.go.result (g.R.Registry.state c.args.stores.now) (g.R.Registry.state c.go.new.stores) c.args.self.now c.go.new.self (act.Step c.in-Step.client) c.go.ensures.world c.go.ensures.acted

pub returns-in-Lose-clause-explained : goal.returns-in-Lose-clause-explained
returns-in-Lose-clause-explained g c =
    on_explained c.go-in-Lose.result (g.R.Registry.state c.args.stores.now) (g.R.Registry.state c.go-in-Lose.new.stores) c.args.self.now c.go-in-Lose.new.self (act.Lose c.in-Lose.client) c.go-in-Lose.ensures.world c.go-in-Lose.ensures.acted

pub returns-in-Discard-clause-explained : goal.returns-in-Discard-clause-explained
returns-in-Discard-clause-explained g c =
    on_explained c.go-in-Discard.result (g.R.Registry.state c.args.stores.now) (g.R.Registry.state c.go-in-Discard.new.stores) c.args.self.now c.go-in-Discard.new.self (act.Discard c.in-Discard.client) c.go-in-Discard.ensures.world c.go-in-Discard.ensures.acted

pub returns-in-Delay-clause-explained : goal.returns-in-Delay-clause-explained
returns-in-Delay-clause-explained g c =
    on_explained c.go-in-Delay.result (g.R.Registry.state c.args.stores.now) (g.R.Registry.state c.go-in-Delay.new.stores) c.args.self.now c.go-in-Delay.new.self (act.Delay c.in-Delay.client) c.go-in-Delay.ensures.world c.go-in-Delay.ensures.acted

pub returns-in-Land-clause-explained : goal.returns-in-Land-clause-explained
returns-in-Land-clause-explained g c =
    on_explained c.land.result (g.R.Registry.state c.args.stores.now) (g.R.Registry.state c.land.new.stores) c.args.self.now c.land.new.self (act.Land c.in-Land.number) c.land.ensures.world c.land.ensures.acted

pub returns-in-Stop-clause-explained : goal.returns-in-Stop-clause-explained
returns-in-Stop-clause-explained g c =
    let held = g.R.Registry.state c.args.stores.now in
    let w = c.args.self.now in
    on_ok c.stop.result c.stop.ensures (λ h. came_explained held held w c.stop.new.self (act.Stop c.in-Stop.client) (acts_stop held w c.stop.new.self c.in-Stop.client c.requires.world h))

pub returns-clause-explained : goal.returns-clause-explained
returns-clause-explained g c =
    let same : to_z w64 (of_z w64 c.in-Clock.moment) ≡ c.in-Clock.moment = search rules in
    let came = c.in_ok-push-in-Clock.ensures.ok ∙ ap (λ (m : ℤ). c.self.inside.events ++ event.Clock m ∷ []) same in
    let held = g.R.Registry.state c.args.stores.now in
    came_explained held held c.args.self.now _ c.args.act
    (subst (λ (z : ℤ). Came held held c.args.self.now c.args.act (record { script = c.self.inside.script; client_slots = c.self.inside.client_slots.items; flights = c.self.inside.flights; events = c.push.new.self; clock = z })) (sym same)
    (goes_clock held _ c.args.self.now c.self.view_is c.push.new.self c.args.act c.in-Clock.moment c.requires.world c.in-Clock.is c.requires.act came))

pub returns-in-Alter-clause-world : goal.returns-in-Alter-clause-world
returns-in-Alter-clause-world g c =
    let w = c.args.self.now in
    on_ok c.alter.result c.alter.ensures
    (λ h. (acts_alter (g.R.Registry.state c.args.stores.now) w c.alter.new.self c.in-Alter.table c.in-Alter.column c.in-Alter.kind c.requires.world
    (altered_by w c.alter.new.self c.in-Alter.table c.in_ok-copy-in-Alter.field-0 c.in-Alter.column c.in_ok-copy-in-Alter-2.field-0 c.in-Alter.kind c.in_ok-copy-in-Alter.ensures c.in_ok-copy-in-Alter-2.ensures h)).0)

pub returns-in-Alter-clause-acted : goal.returns-in-Alter-clause-acted
returns-in-Alter-clause-acted g c =
    let held = g.R.Registry.state c.args.stores.now in
    let w = c.args.self.now in
    on_ok c.alter.result c.alter.ensures
    (λ h. subst (λ (a : Act). HasCome (IsOne w.script a w.events) held held w c.alter.new.self) (sym c.in-Alter.is)
    (acts_alter held w c.alter.new.self c.in-Alter.table c.in-Alter.column c.in-Alter.kind c.requires.world
    (altered_by w c.alter.new.self c.in-Alter.table c.in_ok-copy-in-Alter.field-0 c.in-Alter.column c.in_ok-copy-in-Alter-2.field-0 c.in-Alter.kind c.in_ok-copy-in-Alter.ensures c.in_ok-copy-in-Alter-2.ensures h)).1)

pub returns-in-Alter-clause-explained : goal.returns-in-Alter-clause-explained
returns-in-Alter-clause-explained g c =
    let held = g.R.Registry.state c.args.stores.now in
    let w = c.args.self.now in
    on_ok c.alter.result c.alter.ensures
    (λ h. came_explained held held w c.alter.new.self (act.Alter c.in-Alter.table c.in-Alter.column c.in-Alter.kind)
    (acts_alter held w c.alter.new.self c.in-Alter.table c.in-Alter.column c.in-Alter.kind c.requires.world
    (altered_by w c.alter.new.self c.in-Alter.table c.in_ok-copy-in-Alter.field-0 c.in-Alter.column c.in_ok-copy-in-Alter-2.field-0 c.in-Alter.kind c.in_ok-copy-in-Alter.ensures c.in_ok-copy-in-Alter-2.ensures h)))

pub returns-in-Alter-clause-broken : goal.returns-in-Alter-clause-broken
returns-in-Alter-clause-broken g c =
    on_ok c.alter.result c.alter.ensures
    (λ h. breaks_alter c.args.self.now c.alter.new.self c.in_ok-copy-in-Alter.field-0 c.in_ok-copy-in-Alter-2.field-0 c.in-Alter.kind (g.R.Registry.state c.args.stores.now).views h)

pub returns-in-Alter-clause-asked : goal.returns-in-Alter-clause-asked
returns-in-Alter-clause-asked g c =
    on_ok c.alter.result c.alter.ensures
    (λ h. asks_alter c.args.self.now c.alter.new.self c.in_ok-copy-in-Alter.field-0 c.in_ok-copy-in-Alter-2.field-0 c.in-Alter.kind (g.R.Registry.state c.args.stores.now) h)

pub alter-requires : goal.alter-requires
alter-requires g c = record {
  name = subst (λ (n : Name). is_column_name n ≡ true) (sym c.in_ok-copy-in-Alter-2.ensures) (subst (CanAct c.args.self.now.script) c.in-Alter.is c.requires.act);
}

pub returns-in-Stop-clause-broken : goal.returns-in-Stop-clause-broken
returns-in-Stop-clause-broken g c = on_ok c.stop.result c.stop.ensures (λ h. breaks_stop c.args.self.now c.stop.new.self c.in-Stop.client (g.R.Registry.state c.args.stores.now).views h)

pub returns-in-Stop-clause-asked : goal.returns-in-Stop-clause-asked
returns-in-Stop-clause-asked g c = on_ok c.stop.result c.stop.ensures (λ h. asks_stop c.args.self.now c.stop.new.self c.in-Stop.client (g.R.Registry.state c.args.stores.now) h)
