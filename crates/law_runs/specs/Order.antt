-- Transactions by their points.
use Rattle.std.specs.Prelude.{◌≡◌, ◌≢◌, ◌<◌, ◌^◌, ◌↔◌, List, map, All, Contains}
use Rattle.std.specs.List.Sorted.{IsStrictlyIncreasing}
use Rattle.law_runs.specs.Types.{Event, Place, Point, TxId}
use Rattle.sdb_model.specs.Events.{StoreContents}
use Rattle.sdb_model.specs.Transactions.{point, ArePointsApart, Recorded}

-- Those of a list that have a point, each with it, by rising point.
pub record HasRisen (events : List Event) (ids : List TxId) (order : List Point) : Type 0 where
  pub points : All (λ p. p.event ≡ point events p.id) order
  pub rising : IsStrictlyIncreasing (map (λ p. p.event) order)
  pub among : (id : TxId) → Contains (map (λ p. p.id) order) id → Contains ids id × (point events id ≢ 0)
  pub whole : ArePointsApart events ids → (id : TxId) → Contains ids id → point events id ≢ 0 → Contains (map (λ p. p.id) order) id

-- ids have 128 bits
abbrev pub AreIds : List TxId → Type 0
AreIds ids = All (λ (id : TxId). id.0 < 2 ^ 128) ids

-- The ids of the transactions that stores record and no others, and those of them that have a point, by rising point.
pub record RisenIds : Type 0 where
  pub places : List Place
  pub closing : List StoreContents
  pub ids : List TxId
  pub fit : AreIds ids
  pub recorded : (id : TxId) → id.0 < 2 ^ 128 → Contains ids id ↔ Recorded places closing id
  pub events : List Event
  pub order : List Point
  pub risen : HasRisen events ids order
