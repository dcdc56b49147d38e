-- What the law of the tests speaks of.
use Rattle.std.specs.Prelude.{ℕ, List}
use Rattle.check_protocol.specs.Types.{Event}
use Rattle.law_protocol.specs.Lawful as lawful
use Rattle.law_protocol.specs.Lawful.{IsLawful}
use Rattle.law_protocol.specs.Plan as law
use Rattle.check_protocol.specs.declared.plan.Plan.{Plan}
use Rattle.check_protocol.specs.declared.labelled.Labelled.{Labelled}
use Rattle.check_protocol.specs.Values.{all_labelled, plan_in}

-- An event, with the events before it, newest first, and the plans.
pub record NextEvent : Type 0 where
  pub past : List Labelled
  pub plans : List Plan
  pub event : Event

-- the plans, by transaction
abbrev pub plan_of : NextEvent → ℕ → law.Plan
plan_of n = plan_in n.plans

-- the events before it, as the rules speak of them
abbrev pub past_of : NextEvent → List lawful.Labelled
past_of n = all_labelled n.past

-- the events before it obey the rules
abbrev pub IsAfterLawful : NextEvent → Type 0
IsAfterLawful n = IsLawful (plan_of n) (past_of n)
