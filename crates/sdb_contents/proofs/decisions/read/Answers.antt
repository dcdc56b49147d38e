use Rattle.std.proofs.Common.{◌≡◌}
use Rattle.sdb_types.specs.declared.key.Key.{Key}
use Rattle.sdb_contents.proofs.Coordinated.{no_id}
use Rattle.sdb_contents.proofs.Refusals.{refused_as}
use Rattle.sdb_contents.proofs.decisions.read.Goals as goal

pub returns-in-None-clause-err : goal.returns-in-None-clause-err
returns-in-None-clause-err c = refused_as (λ (key : Key). key ≡ c.args.row.now.key) _ ⊥ ⊥ c.bad-in-None.result (λ key same. (same, no_id c.args.row.now c.in-None.ensures)) (λ h. h) c.bad-in-None.ensures
