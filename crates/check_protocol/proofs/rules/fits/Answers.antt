use Rattle.std.proofs.Common.{rules, sym, ◌<◌, ◌^◌}
use Rattle.std.proofs.lemmas.Bool.{lt-ltb}
use Rattle.check_protocol.proofs.rules.fits.Goals as goal

pub returns : goal.returns
returns c =
    let small : c.args.id.0 < 2 ^ 128 = search rules in
    sym (lt-ltb c.args.id.0 (2 ^ 128) small)
