use Rattle.std.proofs.Common.{◌≡◌, ◌++◌, take, map}
use Rattle.sdb_model.specs.Refused.{mention_of_name}
use Rattle.sdb_exec.proofs.mention.add_names.Given as goal

abbrev pub invariant-loop-name : goal.invariant-loop-name
invariant-loop-name l = l.mentions ≡ l.initial.mentions ++ map mention_of_name (take l.name-index l.names)
