use Rattle.std.proofs.Common.{◌≡◌, ◌∙◌, ap, map, rules}
use Rattle.std.specs.Map.Iter.{deref_pair}
use Rattle.std.proofs.lemmas.Map.Iter.{iter_end}
use Rattle.sdb_phases.specs.Checks.{wanted_of}
use Rattle.sdb_validate.proofs.key_map.listed.Goals as goal

pub returns-clause-wants : goal.returns-clause-wants
returns-clause-wants c =
    let all : map deref_pair c.loop-key.yielded ≡ c.args.wishes.now.entries = search (rules, iter_end) in
    c.loop-key.invariant ∙ ap (map wanted_of) all
