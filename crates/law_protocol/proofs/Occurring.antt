-- Which events may occur: those that are enabled, and landings.
use Rattle.std.proofs.Common.{◌≡◌, ◌⊎◌, ℕ, List, inl, inr, refl}
use Rattle.law_protocol.specs.Types.{Event, How, Reply, Request}
use Rattle.sdb_model.specs.Rows.{Name}
use Rattle.sdb_model.specs.declared.event.Event.TheVariants as event
use Rattle.law_protocol.specs.Plan.{Plan}
use Rattle.law_protocol.specs.History.{Action}
use Rattle.law_protocol.specs.Lawful.{Labelled, IsEnabled, MayOccur, WasDelayed}

-- an event lands a request whose call had this action
pub record IsLanded (past : List Labelled) (e : Event) (action : Action) : Type 0 where
  pub number : ℕ
  pub store : Name
  pub request : Request
  pub how : How
  pub reply : Reply
  pub land : e ≡ event.Land number store request how reply
  pub was : WasDelayed past request action

pub occurs_by : (plan : ℕ → Plan) (past : List Labelled) (e : Event) (action : Action) → MayOccur plan past e action → IsEnabled plan past e action ⊎ IsLanded past e action
occurs_by plan past (event.Take client text answer) action p = inl p
occurs_by plan past (event.Call client store q how r answer) action p = inl p
occurs_by plan past (event.Stop client) action p = inl p
occurs_by plan past (event.Clock moment) action p = inl p
occurs_by plan past (event.Idle client) action p = inl p
occurs_by plan past (event.Alter table column kind altered) action p = inl p
occurs_by plan past (event.Land number store q how r) action p = inr (record { number = number; store = store; request = q; how = how; reply = r; land = refl; was = p })
