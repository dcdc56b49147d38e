-- What is in flight under a number, by what the code has of it.
use Rattle.std.proofs.Common.{◌≡◌, ℕ, zero, suc, ◌≤◌, List, [], ◌∷◌, length, Option, Some, None, refl, sym, ap, subst, ◌∙◌, slice_set}
use Rattle.std.specs.Prelude.{slice_get}
use Rattle.std.specs.Option.{option_and_then}
use Rattle.std.proofs.lemmas.Option.{slice_get_past}
use Rattle.sdb_types.proofs.Public.{none_some}
use Rattle.sdb_world.specs.Types.{Request}
use Rattle.law_runs.specs.World.{WorldAt, with_late}
use Rattle.sdb_world.specs.Step.{LeavesFlight, in_flight_at}

-- what was at a place put there again
set_same : {A : Type 0} (xs : List A) (i : ℕ) (x : A) → slice_get xs i ≡ Some x → slice_set xs i x ≡ xs
set_same [] i x e = none_some x e
set_same (y ∷ ys) zero x e = ap (λ (z : _). z ∷ ys) (some_of y x e)
  where
    some_of : {A : Type 0} (a b : A) → Some a ≡ Some b → b ≡ a
    some_of a b e = cc
set_same (y ∷ ys) (suc i) x e = ap (λ (zs : List _). y ∷ zs) (set_same ys i x e)

leaves : (w : WorldAt) (number place : ℕ) (o : Option Request) → number ≡ suc place → slice_get w.flights place ≡ Some o → LeavesFlight number w o (with_late w (slice_set w.flights place None))
leaves w number place (Some q) is at = (place, is, at, refl)
leaves w number place None is at =
    (subst (λ (n : ℕ). in_flight_at n w ≡ None) (sym is) (ap (option_and_then (λ (o : Option Request). o)) at), ap (with_late w) (set_same w.flights place None at))

-- The request at a place is taken out.
pub takes_flight : (u w : WorldAt) → u ≡ w → (number place : ℕ) (taken : Option Request) (left : List (Option Request)) → number ≡ suc place → slice_get u.flights place ≡ Some taken → left ≡ slice_set u.flights place None → LeavesFlight number w taken (with_late u left)
takes_flight u w same number place taken left is at rest =
    subst (λ (fs : List (Option Request)). LeavesFlight number w taken (with_late u fs)) (sym rest)
    (subst (λ (x : WorldAt). LeavesFlight number x taken (with_late u (slice_set u.flights place None))) same (leaves u number place taken is at))

-- There is none at a place past the last.
pub none_past : (u w : WorldAt) → u ≡ w → (number place : ℕ) → number ≡ suc place → length u.flights ≤ place → LeavesFlight number w None w
none_past u w same number place is past =
    subst (λ (x : WorldAt). LeavesFlight number x None x) same
    (subst (λ (n : ℕ). in_flight_at n u ≡ None) (sym is) (ap (option_and_then (λ (o : Option Request). o)) (slice_get_past u.flights place past)), refl)

-- nor under the number 0
pub none_zero : (w : WorldAt) (number : ℕ) → number ≡ 0 → LeavesFlight number w None w
none_zero w number is = (subst (λ (n : ℕ). in_flight_at n w ≡ None) (sym is) refl, refl)

-- What was in flight, or wasn't, by what the code found.
pub left_by : (number : ℕ) (w v : WorldAt) (o p : Option Request) → o ≡ p → LeavesFlight number w o v → LeavesFlight number w p v
left_by number w v o p is left = subst (λ (x : Option Request). LeavesFlight number w x v) is left
