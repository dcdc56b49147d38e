use Rattle.std.proofs.Common.{◌≡◌, ◌∙◌, ap, sym}
use Rattle.sdb_model.specs.declared.script.Move.TheVariants as move
use Rattle.sdb_world.proofs.Rounds.{act_moved, can_act, can_repeat}
use Rattle.sdb_world.proofs.world.World.make.Goals as goal

pub step-requires-clause-act : goal.step-requires-clause-act
step-requires-clause-act g c =
    let act = c.in_ok-copy-in-Act.field-0 in
    let is : c.args.made ≡ move.Act act = c.in-Act.is ∙ ap move.Act (sym c.in_ok-copy-in-Act.ensures) in
    can_act c.args.self.now.script c.args.made act is c.requires.can

pub repeat-requires-clause-client : goal.repeat-requires-clause-client
repeat-requires-clause-client g c = can_repeat c.args.self.now.script c.args.made c.in-Repeat.client c.in-Repeat.times c.in-Repeat.is c.requires.can

pub returns-in-Act-clause-come : goal.returns-in-Act-clause-come
returns-in-Act-clause-come g c =
    let act = c.in_ok-copy-in-Act.field-0 in
    let is : c.args.made ≡ move.Act act = c.in-Act.is ∙ ap move.Act (sym c.in_ok-copy-in-Act.ensures) in
    act_moved c.args.made act c.step.result (g.R.Registry.state c.args.stores.now) (g.R.Registry.state c.step.new.stores) c.args.self.now c.step.new.self is c.step.ensures.acted
