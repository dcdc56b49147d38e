-- A session: the statements of one client, each accepted at a moment of the clock, whose transactions have ids that are drawn.
use Rattle.std.specs.Prelude.{◌≡◌, ◌⊎◌, ◌≤◌, ◌+◌, ℕ, ℤ, Bool, true, false, is_some, List, [], ◌∷◌, ◌++◌, map, Option, Some, None}
use Rattle.sdb_shell.specs.Types.{Answer, Table, TxId}
use Rattle.sdb_types.specs.Draws.{IsAppended}
use Rattle.sdb_record.specs.Meta.{is_moment}
use Rattle.sdb_stores.specs.Views.{Attached, StoreView, total_faults}
use Rattle.sdb_contents.specs.Board.{AreUsable, IsFull}
use Rattle.sdb_client.specs.Client.{ClientAt, IsIdle}
use Rattle.law_clients.specs.About.{IsOfTables}
use Rattle.law_clients.specs.Between.{Between}
use Rattle.law_clients.specs.Chain.{Chain, open_after}
use Rattle.law_clients.specs.Session.{AreNewIds, AreAccepted, Exchange, IsSerialSession, begins, begun_ids, faults_in, no_parts, parts_of}
use Rattle.law_clients.specs.SessionTurns.{IsWellFormed}
use Rattle.sdb_shell.specs.Answering.{IsAnswered, database_in, exchange}
use Rattle.sdb_shell.specs.Drawn.{drawn_id}

-- a client, and the id of the transaction that it begins next
pub record SessionAt : Type 0 where
  pub client : ClientAt
  pub fresh : TxId

-- These answers were given after those before. Answers that are known later were known before.
abbrev pub AreAppended : {X : Type 0} → List X → Option (List X) → Option (List X) → Type 0
AreAppended answers old None = Unit {0}
AreAppended answers None (Some new) = ⊥
AreAppended answers (Some old) (Some new) = new ≡ old ++ answers

-- The id at hand after a statement: where it began a transaction the next that was drawn, and else the same.
abbrev pub IsNextId : Bool → TxId → TxId → Option (List ℕ) → Option (List ℕ) → Type 0
IsNextId true was now ids ids_then = (draw : ℕ) × IsAppended draw ids ids_then × (now ≡ drawn_id draw)
IsNextId false was now ids ids_then = (ids_then ≡ ids) × (now ≡ was)

-- A text was answered, at one moment of the clock.
pub record HasAnswered (catalog : List Table) (text : List ℕ) (old new : Attached) (clock clock_then : Option (List ℤ)) (ids ids_then : Option (List ℕ)) (s : SessionAt) (a : Answer) (t : SessionAt) : Type 0 where
  pub now : ℤ
  pub time : is_moment now ≡ true
  pub moment : IsAppended now clock clock_then
  pub answered : IsAnswered catalog text s.fresh now old s.client a new t.client
  pub next_state : IsNextId (begins (exchange answered.says now s.fresh a)) s.fresh t.fresh ids ids_then

-- At most so many faults came as the count of all stores rose, unless that of one of them is the greatest value of its type.
abbrev pub FaultsWithin : ℕ → List StoreView → List StoreView → Type 0
FaultsWithin n old new = (n + total_faults old ≤ total_faults new) ⊎ IsFull new

-- The statements of a session so far, from stores to stores: there was one moment of the clock for each, and the k-th that began a
-- transaction has the k-th id that was drawn, of which one more is at hand; each was turned away exactly where it has to be; and at
-- most so many were answered Faulted or Unknown as the stores have failed. Where the stores were fit, their contents sound, and the ids
-- new to them, the statements are a chain of a client that is alone.
pub record IsSessionSoFar (catalog : List Table) (old new : Attached) (clock clock_then : Option (List ℤ)) (ids ids_then : Option (List ℕ)) (es : List Exchange) (s : SessionAt) : Type 0 where
  pub moments : AreAppended (map (λ e. e.moment) es) clock clock_then
  pub drawn : List ℕ
  pub spare : ℕ
  pub draws : AreAppended (drawn ++ spare ∷ []) ids ids_then
  pub begun : begun_ids es ≡ map drawn_id drawn
  pub next_state : s.fresh ≡ drawn_id spare
  pub accepted : AreAccepted catalog es
  pub faults : FaultsWithin (faults_in es) old.views new.views
  pub idle : IsIdle s.client
  pub opened : is_some s.client.txn ≡ is_some (parts_of es).opened
  pub about : IsOfTables catalog s.client
  pub fit : AreUsable catalog old → AreUsable catalog new
  pub chain : AreUsable catalog old → IsWellFormed catalog (database_in old) → AreNewIds catalog (database_in old) (map drawn_id (drawn ++ spare ∷ [])) → Chain catalog (database_in old) no_parts es (database_in new) × Between catalog (database_in new) (open_after es) s.client

-- A session, from stores to stores, as it is to be: the same, and serial where it was a chain.
pub record IsSession (catalog : List Table) (old new : Attached) (clock clock_then : Option (List ℤ)) (ids ids_then : Option (List ℕ)) (es : List Exchange) : Type 0 where
  pub moments : AreAppended (map (λ e. e.moment) es) clock clock_then
  pub drawn : List ℕ
  pub spare : ℕ
  pub draws : AreAppended (drawn ++ spare ∷ []) ids ids_then
  pub begun : begun_ids es ≡ map drawn_id drawn
  pub accepted : AreAccepted catalog es
  pub faults : FaultsWithin (faults_in es) old.views new.views
  pub serial : AreUsable catalog old → (w : IsWellFormed catalog (database_in old)) → AreNewIds catalog (database_in old) (map drawn_id (drawn ++ spare ∷ [])) → IsSerialSession catalog (database_in old) (database_in new) w.tables es
