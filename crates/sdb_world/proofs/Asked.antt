-- What the stores are asked, event by event.
use Rattle.std.proofs.Common.{◌≡◌, ℕ, suc, List, [], ◌∷◌, ◌++◌, Option, ap, ◌∙◌}
use Rattle.sdb_world.specs.Types.{Answer, Event, How, Kind, Reply, Request, TableName}
use Rattle.sdb_stores.specs.Views.{Attached}
use Rattle.sdb_model.specs.declared.event.Event.TheVariants as event
use Rattle.sdb_model.specs.Rows.{Name}
use Rattle.sdb_contents.specs.Board.{IsDelivered}
use Rattle.sdb_contents.proofs.Public.{unasked}
use Rattle.law_runs.specs.World.{WorldAt}
use Rattle.sdb_world.specs.Asked.{AskedBy, AsksOnce}
use Rattle.sdb_world.specs.Step.{HasAltered, HasStopped, HasStarted}

-- an event was pushed
pub asks_pushed : (u w : WorldAt) → u ≡ w → (more : List Event) (e : Event) (a b : Attached) → more ≡ u.events ++ e ∷ [] → AskedBy e a b → AsksOnce a b w.events more
asks_pushed u w same more e a b came asked = record { event = e; came = came ∙ ap (λ (x : WorldAt). x.events ++ e ∷ []) same; asked = asked }

-- a request landed
pub asks_landed : (u w : WorldAt) → u ≡ w → (more : List Event) (number : ℕ) (store : Name) (q : Request) (h : How) (r : Reply) (a b : Attached) → more ≡ u.events ++ event.Land number store q h r ∷ [] → IsDelivered q h r a b → AsksOnce a b w.events more
asks_landed u w same more number store q h r a b came made = asks_pushed u w same more (event.Land number store q h r) a b came made

-- a call was made, or discarded, or delayed
pub asks_called : (u w : WorldAt) → u ≡ w → (more : List Event) (c : ℕ) (store : Name) (q : Request) (h : How) (r : Reply) (answer : Option Answer) (a b : Attached) → more ≡ u.events ++ event.Call c store q h r answer ∷ [] → IsDelivered q h r a b → AsksOnce a b w.events more
asks_called u w same more c store q h r answer a b came made = asks_pushed u w same more (event.Call c store q h r answer) a b came made

pub asks_take : (w v : WorldAt) (i : ℕ) (a : Attached) → HasStarted w i v → AsksOnce a a w.events v.events
asks_take w v i a t = record { event = event.Take (suc i) t.text t.answer; came = ap (λ (x : WorldAt). x.events) t.left; asked = unasked a }

pub asks_stop : (w v : WorldAt) (c : ℕ) (a : Attached) → HasStopped w c v → AsksOnce a a w.events v.events
asks_stop w v c a t = record { event = event.Stop c; came = ap (λ (x : WorldAt). x.events) t.left; asked = unasked a }

pub asks_alter : (w v : WorldAt) (table : TableName) (column : Name) (kind : Kind) (a : Attached) → HasAltered w table column kind v → AsksOnce a a w.events v.events
asks_alter w v table column kind a t = record { event = event.Alter table column kind t.altered; came = ap (λ (x : WorldAt). x.events) t.left; asked = unasked a }
