use Rattle.std.proofs.Common.{◌≡◌, ◌<◌, ◌^◌, ◌∙◌, rules, to_z, of_z, w64, List, None, length, ap, sym, subst}
use Rattle.std.specs.Prelude.{All, is_some, nat_lt}
use Rattle.sdb_record.specs.Groups.{AreGroups, grouped, ungrouped}
use Rattle.sdb_record.specs.Rolls.{IsWrite}
use Rattle.sdb_record.specs.declared.write.Write.{Write}
use Rattle.sdb_phases.specs.Steps.{validate_request}
use Rattle.sdb_txn.specs.CommitInside.{first}
use Rattle.sdb_txn.proofs.KeysOnce.{groups_fit, groups_of_once, some_groups, writes_grouped}
use Rattle.sdb_txn.proofs.Starts.{commit_starts, stage_starts}
use Rattle.sdb_txn.proofs.commit_phases.CommitPhases.new.Goals as goal

pub new-requires-clause-writes : goal.new-requires-clause-writes
new-requires-clause-writes c = subst (λ (gs : List (List Write)). All (All IsWrite) gs) (sym c.in_ok-groups.ensures) (writes_grouped c.args.writes c.requires.valid)

pub new-requires-clause-few : goal.new-requires-clause-few
new-requires-clause-few c =
    let few : length c.args.writes < 2 ^ 64 = subst (λ n. n < 2 ^ 64) c.len-count.ensures c.len-count.type_inv in
    subst (λ (gs : List (List Write)). length (ungrouped gs) < 2 ^ 64) (sym c.in_ok-groups.ensures) (groups_fit c.args.writes few)

pub new-requires-4 : goal.new-requires-4
new-requires-4 c = subst (λ (gs : List (List Write)). All (All IsWrite) gs) (sym c.in_ok-groups.ensures) (writes_grouped c.args.writes c.requires.valid)

pub invariant_of-result : goal.invariant_of-result
invariant_of-result c =
    let same : to_z w64 (of_z w64 c.args.now) ≡ c.args.now = search rules in
    let few : length c.args.writes < 2 ^ 64 = subst (λ n. n < 2 ^ 64) c.len-count.ensures c.len-count.type_inv in
    let are : AreGroups (grouped c.args.writes) = groups_of_once c.args.writes c.requires.once few in
    let begins = c.first_phase-phase.ensures ∙ ap (λ b. first b (is_some (validate_request c.in_ok-validate.validate))) (ap (nat_lt 0) c.len-count.ensures ∙ some_groups c.args.writes) in
    commit_starts (record { id = c.args.id; moment = to_z w64 (of_z w64 c.args.now); writes = c.args.writes; reads = c.args.reads; scans = c.args.scans; prepare = c.in_ok-prepare.prepare; validate = c.in_ok-validate.validate; decide = c.in_ok-decide.decide; commit = c.in_ok-commit.commit; abort = c.in_ok-abort.abort; answer = None; phase = c.first_phase-phase.result })
    (search rules) (search rules) (search rules) (search rules) (search rules) are begins

pub returns-clause-stage : goal.returns-clause-stage
returns-clause-stage c =
    let same : to_z w64 (of_z w64 c.args.now) ≡ c.args.now = search rules in
    let few : length c.args.writes < 2 ^ 64 = subst (λ n. n < 2 ^ 64) c.len-count.ensures c.len-count.type_inv in
    let are : AreGroups (grouped c.args.writes) = groups_of_once c.args.writes c.requires.once few in
    let begins = c.first_phase-phase.ensures ∙ ap (λ b. first b (is_some (validate_request c.in_ok-validate.validate))) (ap (nat_lt 0) c.len-count.ensures ∙ some_groups c.args.writes) in
    stage_starts (record { id = c.args.id; moment = to_z w64 (of_z w64 c.args.now); writes = c.args.writes; reads = c.args.reads; scans = c.args.scans; prepare = c.in_ok-prepare.prepare; validate = c.in_ok-validate.validate; decide = c.in_ok-decide.decide; commit = c.in_ok-commit.commit; abort = c.in_ok-abort.abort; answer = None; phase = c.first_phase-phase.result })
    (search rules) (search rules) (search rules) (search rules) (search rules) are begins
