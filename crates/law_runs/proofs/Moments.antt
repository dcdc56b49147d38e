-- What several stores hold at each moment is what the one store holds then.
use Rattle.std.proofs.Common.{◌≡◌, ℕ, zero, suc, true, List, [], ◌∷◌, length, refl, sym, ap, subst, ◌∙◌}
use Rattle.law_runs.specs.Types.{Event, Key, Place, Table}
use Rattle.sdb_types.specs.Contents.{Contents}
use Rattle.sdb_model.specs.Rows.{Name}
use Rattle.sdb_model.specs.Events.{Effect, IsTrace, StoreContents, moment, stored_at}
use Rattle.law_protocol.specs.Spread.{AreAbout, HoldAs, relocated_event, relocated_events, one_store}
use Rattle.law_protocol.proofs.Public.{one_stored, single}
use Rattle.sdb_model.specs.Tables.{is_table_of_run}

-- The one store's moments: beside each moment of several stores one at which it holds the same of the tables.
pub record Alone (catalog : List Table) (name : Name) (places : List Place) (events : List Event) (before : List StoreContents) (moments : List (List StoreContents)) (m : Contents) : Type 0 where
  pub singles : List (List StoreContents)
  pub last : List StoreContents
  pub traced : IsTrace [] (relocated_events (λ ns. name) events) (one_store name m) singles last
  pub long : length singles ≡ length moments
  pub agrees : (n : ℕ) (key : Key) → is_table_of_run catalog key.table ≡ true → stored_at places (moment before moments n) key ≡ stored_at [] (moment (one_store name m) singles n) key

held_here : (catalog : List Table) (name : Name) (places : List Place) (before : List StoreContents) (m : Contents) → HoldAs catalog places before m → (key : Key) → is_table_of_run catalog key.table ≡ true → stored_at places before key ≡ stored_at [] (one_store name m) key
held_here catalog name places before m h key about = h.at key about ∙ sym (one_stored name m key)

-- the effect of a trace's lone event
pub lone_effect : (places : List Place) (e : Event) (before now : List StoreContents) (moments : List (List StoreContents)) → IsTrace places (e ∷ []) before moments now → Effect places e before now
lone_effect places e before now [] t = absurd t
lone_effect places e before now (s ∷ []) t = subst (λ (x : List StoreContents). Effect places e before x) (sym t.1) t.0
lone_effect places e before now (s ∷ x ∷ xs) t = absurd t.1

alone_more : (catalog : List Table) (name : Name) (places : List Place) (e : Event) (es : List Event) (before s : List StoreContents) (ss : List (List StoreContents)) (m now : Contents) → Effect [] (relocated_event (λ ns. name) e) (one_store name m) (one_store name now) → HoldAs catalog places before m → Alone catalog name places es s ss now
    → Alone catalog name places (e ∷ es) before (s ∷ ss) m
alone_more catalog name places e es before s ss m now effect h rest = record {
  singles = one_store name now ∷ rest.singles;
  last = rest.last;
  traced = (effect, rest.traced);
  long = ap suc rest.long;
  agrees = at;
}
  where
    at : (n : ℕ) (key : Key) → is_table_of_run catalog key.table ≡ true → stored_at places (moment before (s ∷ ss) n) key ≡ stored_at [] (moment (one_store name m) (one_store name now ∷ rest.singles) n) key
    at zero = held_here catalog name places before m h
    at (suc n) = rest.agrees n

pub alone : (catalog : List Table) (name : Name) (places : List Place) (events : List Event) (before : List StoreContents) (moments : List (List StoreContents)) (closing : List StoreContents) (m : Contents) → IsTrace places events before moments closing → AreAbout catalog events → HoldAs catalog places before m → Alone catalog name places events before moments m
alone catalog name places [] before [] closing m t about h = record { singles = []; last = one_store name m; traced = refl; long = refl; agrees = at }
  where
    at : (n : ℕ) (key : Key) → is_table_of_run catalog key.table ≡ true → stored_at places (moment before [] n) key ≡ stored_at [] (moment (one_store name m) [] n) key
    at zero = held_here catalog name places before m h
    at (suc n) = held_here catalog name places before m h
alone catalog name places [] before (s ∷ ss) closing m t about h = absurd t
alone catalog name places (e ∷ es) before [] closing m t about h = absurd t
alone catalog name places (e ∷ es) before (s ∷ ss) closing m t about h =
    let one = single name (e ∷ []) before (s ∷ []) s (t.0, refl) (about.0, tt) h in
    alone_more catalog name places e es before s ss m one.last (lone_effect [] (relocated_event (λ ns. name) e) (one_store name m) (one_store name one.last) one.singles one.traced) h
    (alone catalog name places es s ss closing one.last t.1 about.1 one.same)
