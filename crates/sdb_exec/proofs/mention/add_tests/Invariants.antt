use Rattle.std.proofs.Common.{◌≡◌, ◌++◌, take, map}
use Rattle.sdb_model.specs.Refused.{mention_of_test}
use Rattle.sdb_exec.proofs.mention.add_tests.Given as goal

abbrev pub invariant-loop-test : goal.invariant-loop-test
invariant-loop-test l = l.mentions ≡ l.initial.mentions ++ map mention_of_test (take l.test-index l.tests)
