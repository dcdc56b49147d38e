use Rattle.std.proofs.Common.{rules, ◌≡◌, true}
use Rattle.check_protocol.specs.Rules.{is_sound}
use Rattle.check_protocol.proofs.PlanLaws.{sound_is}
use Rattle.check_protocol.proofs.commit.prepared_if_sound.Goals as goal

pub prepared-requires : goal.prepared-requires
prepared-requires c =
    let sound : is_sound c.args.write.now ≡ true = search rules in
    sound_is c.args.write.now sound
