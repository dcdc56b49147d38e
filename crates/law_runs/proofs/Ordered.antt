-- The points of the recorded transactions, by rising event, are the order.
use Rattle.std.proofs.Common.{◌≡◌, ◌≢◌, ℕ, zero, suc, ◌<◌, ◌^◌, Bool, true, false, List, [], ◌∷◌, length, map, refl, ap, arith}
use Rattle.std.specs.Prelude.{◌↔◌, ◌==◌, All, Contains, IsSome, slice_index_or}
use Rattle.std.proofs.lemmas.Bool.Decides.{nat_tests}
use Rattle.std.proofs.lemmas.List.Elements.{All-contains, All-contains_itself, All-weaker}
use Rattle.law_runs.specs.Types.{Event, Place, Point, TxId}
use Rattle.sdb_model.specs.Events.{StoreContents}
use Rattle.sdb_model.specs.Transactions.{IsOrder, Recorded, commit_of, ArePointsApart}
use Rattle.law_runs.specs.Order.{HasRisen}
use Rattle.law_runs.specs.Points.{HavePoints}

map_at : (ps : List Point) (p : Point) (k : ℕ) → k < length ps → slice_index_or ps k p ≡ p → (k < length (map (λ (q : Point). q.id) ps)) × (slice_index_or (map (λ (q : Point). q.id) ps) k p.id ≡ p.id)
map_at [] p k l e = absurd (omega (arith, l))
map_at (q ∷ qs) p zero l e = (omega arith, ap (λ (x : Point). x.id) e)
map_at (q ∷ qs) p (suc k) l e = let r = map_at qs p k (omega (arith, l)) e in (later k (length (map (λ (x : Point). x.id) qs)) r.0, r.1)
  where
    later : (a b : ℕ) → a < b → suc a < suc b
    later a b l = omega arith

has_id : (ps : List Point) (p : Point) → Contains ps p → Contains (map (λ (q : Point). q.id) ps) p.id
has_id ps p c = let r = map_at ps p c.0 c.1 c.2 in (c.0, r.0, r.1)

-- what is so of each id among the order is so of each point
of_points : (P : TxId → Type 0) (order : List Point) → ((id : TxId) → Contains (map (λ (q : Point). q.id) order) id → P id) → All (λ (p : Point). P p.id) order
of_points P order h = All-weaker (Contains order) (λ (p : Point). P p.id) (λ p c. h p.id (has_id order p c)) order (All-contains_itself order)

pub risen_fits : (events : List Event) (recorded : List TxId) (order : List Point) → All (λ (id : TxId). id.0 < 2 ^ 128) recorded → HasRisen events recorded order → All (λ (p : Point). p.id.0 < 2 ^ 128) order
risen_fits events recorded order fits risen = of_points (λ (id : TxId). id.0 < 2 ^ 128) order (λ id c. All-contains (λ (i : TxId). i.0 < 2 ^ 128) recorded id fits (risen.among id c).0)

same_id : (i j : TxId) → (i ≢ j → ⊥) → i ≡ j
same_id i j h = by (i.0 == j.0) refl
  where
    equal : (m n : ℕ) → (m == n) ≡ true → m ≡ n
    equal m n e = grind (arith, nat_tests)

    differ : (m n : ℕ) → (m == n) ≡ false → m ≡ n → ⊥
    differ m n e f = grind (arith, nat_tests)

    by : (b : Bool) → (i.0 == j.0) ≡ b → i ≡ j
    by true e = ap (λ (n : ℕ). record { 0 = n }) (equal i.0 j.0 e)
    by false e = absurd (h (λ same. differ i.0 j.0 e (ap (λ (x : TxId). x.0) same)))

pub is_order : (places : List Place) (events : List Event) (closing : List StoreContents) (recorded : List TxId) (order : List Point) → All (λ (id : TxId). id.0 < 2 ^ 128) recorded → ((id : TxId) → id.0 < 2 ^ 128 → Contains recorded id ↔ Recorded places closing id) → HavePoints places events closing → HasRisen events recorded order → IsOrder places events closing order
is_order places events closing recorded order fits are have risen = record {
  recorded = λ id small. (λ c. of_recorded id (risen.among id c).0, λ r. risen.whole apart id ((are id small).1 r) (have.some id small r));
  points = risen.points;
  rising = risen.rising;
  accepted = of_points (λ id. IsSome (commit_of events id)) order (λ id c. let among = (risen.among id c).0 in have.accepted id (small_of id among) (of_recorded id among));
}
  where
    small_of : (id : TxId) → Contains recorded id → id.0 < 2 ^ 128
    small_of id c = All-contains (λ (i : TxId). i.0 < 2 ^ 128) recorded id fits c

    of_recorded : (id : TxId) → Contains recorded id → Recorded places closing id
    of_recorded id c = (are id (small_of id c)).0 c

    apart : ArePointsApart events recorded
    apart id other c d e some = same_id id other (λ ne. have.apart id other (small_of id c) (small_of other d) (of_recorded id c) (of_recorded other d) ne e)
