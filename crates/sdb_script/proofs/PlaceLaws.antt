-- Places, found by their namespaces.
use Rattle.std.proofs.Common.{◌≡◌, ℕ, ◌+◌, ◌<◌, Bool, true, false, ◌||◌, cond, List, [], ◌∷◌, ◌++◌, length, take, Option, option_to_list, slice_get, refl, sym, ap, ◌∙◌, arith}
use Rattle.std.specs.Bool.{one_answer}
use Rattle.std.specs.Ordering.{eq_by_cmp}
use Rattle.std.specs.Str.{bytes_eq}
use Rattle.std.proofs.lemmas.List.Folds.{list_any-append}
use Rattle.std.proofs.lemmas.List.{take_more}
use Rattle.std.proofs.lemmas.Option.{slice_get-get_or}
use Rattle.std.proofs.lemmas.Slice.Eq.{bytes_eq-Decides}
use Rattle.sdb_types.specs.Exact.{order_decides}
use Rattle.sdb_types.specs.Order.{name_cmp}
use Rattle.sdb_types.specs.declared.place.Place.{Place}
use Rattle.sdb_types.proofs.Public.{name_exact, name_total}
use Rattle.sdb_script.specs.Begun.{is_placed}
use Rattle.sdb_script.specs.Placings.{HasNamespaces}

same_name : (a b : List ℕ) → bytes_eq a b ≡ eq_by_cmp name_cmp a b
same_name a b = one_answer {P = a ≡ b} (bytes_eq a b) (eq_by_cmp name_cmp a b) (bytes_eq-Decides a b) (order_decides name_total name_exact a b)

added : (s t : Bool) → cond t true s ≡ (s || (t || false))
added false false = refl
added false true = refl
added true false = refl
added true true = refl

-- a place more
pub one_more : (places : List Place) (p : Place) (own : List ℕ) (old new : List ℕ → Bool) → own ≡ p.ns → HasNamespaces places old
    → ((q : List ℕ) → new q ≡ cond (eq_by_cmp name_cmp own q) true (old q)) → HasNamespaces (places ++ p ∷ []) new
one_more places p own old new same has is q =
    is q ∙ ap (λ k. cond (eq_by_cmp name_cmp k q) true (old q)) same ∙ ap (λ b. cond b true (old q)) (sym (same_name p.ns q))
    ∙ ap (cond (bytes_eq p.ns q) true) (has q) ∙ added (is_placed places q) (bytes_eq p.ns q) ∙ sym (list_any-append (λ (r : Place). bytes_eq r.ns q) places (p ∷ []))

pub next_taken : {X : Type 0} (xs : List X) (i : ℕ) → i < length xs → take i xs ++ option_to_list (slice_get xs i) ≡ take (i + 1) xs
next_taken {X} [] i h = absurd (omega arith)
next_taken {X} (x ∷ xs) i h = ap (λ (o : Option X). take i (x ∷ xs) ++ option_to_list o) (slice_get-get_or (x ∷ xs) i x h) ∙ sym (take_more (x ∷ xs) i x h)
