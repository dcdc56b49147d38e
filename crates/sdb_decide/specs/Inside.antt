-- The representation of a decision, and its invariant.
use Rattle.std.specs.Prelude.{◌≡◌}
use Rattle.sdb_phases.specs.Work.{decide_of, abort_of, look_of}
use Rattle.sdb_decide.specs.declared.decide.Decide.TheInside.{Inside}

-- its calls are made when the COMMIT is accepted
pub record HasCalls (d : Inside) : Type 0 where
  pub put : d.put ≡ decide_of d.id d.moment
  pub look : d.look ≡ look_of d.id
  pub abort : d.abort ≡ abort_of d.id d.moment
