-- What boxes hold together, key by key.
use Rattle.std.proofs.Common.{◌≡◌, ℕ, zero, suc, ◌+◌, ◌<◌, Bool, true, false, cond, List, [], ◌∷◌, ◌++◌, Option, Some, None, refl, sym, ap, ◌∙◌, arith}
use Rattle.std.specs.Prelude.{◌==◌, All}
use Rattle.std.specs.FinMap.{empty, find, get, entries, get-entries, get-empty, get-from_entries, same_map}
use Rattle.std.specs.FinMap.Entries.{find-where_key}
use Rattle.std.specs.List.{AllByRecursion}
use Rattle.std.proofs.lemmas.List.Elements.{recursion_from_All}
use Rattle.std.specs.Ordering.{eq_by_cmp}
use Rattle.std.specs.declared.cmp.Ordering.TheVariants.{Equal}
use Rattle.std.proofs.lemmas.Bool.{eq-eqb, ne_eqb}
use Rattle.sdb_types.specs.declared.key.Key.{Key}
use Rattle.sdb_types.specs.declared.pair.Pair.{Pair}
use Rattle.sdb_types.specs.Order.{key_cmp}
use Rattle.sdb_types.specs.Contents.{Contents}
use Rattle.sdb_types.proofs.Public.{key_exact, key_total, or_else, or_none}
use Rattle.sdb_shards.specs.declared.part.Part.{Part}
use Rattle.sdb_shards.specs.Boxes.{at_home, contents_at, contents_of, held_at, held_in, sharded, shown_from}

find_append : (q : Key) (xs ys : List (Key × List Pair)) → find key_cmp q (xs ++ ys) ≡ or_else (find key_cmp q xs) (find key_cmp q ys)
find_append q [] ys = refl
find_append q (x ∷ xs) ys =
    elim (eq_by_cmp key_cmp q x.0) as (λ b. cond b (Some x.1) (find key_cmp q (xs ++ ys)) ≡ or_else (cond b (Some x.1) (find key_cmp q xs)) (find key_cmp q ys)) [ true ↦ refl | false ↦ find_append q xs ys ]

-- what is at a key in the box with number h, where the first has number i
abbrev picked : ℕ → ℕ → List Contents → Key → Option (List Pair)
picked i h [] q = None
picked i h (m ∷ ms) q = or_else (cond (h == i) (get m q) None) (picked (i + 1) h ms q)

alike : (home : Key → ℕ) (i : ℕ) (q x : Key) → key_cmp q x ≡ Equal → (home x == i) ≡ (home q == i)
alike home i q x e = ap (λ k. home k == i) (sym (key_exact q x e))

find_shown : (home : Key → ℕ) (i : ℕ) (ms : List Contents) (q : Key) → find key_cmp q (shown_from home i ms) ≡ picked i (home q) ms q
find_shown home i [] q = refl
find_shown home i (m ∷ ms) q =
    find_append q (at_home home i m) (shown_from home (i + 1) ms)
    ∙ ap (λ o. or_else o (find key_cmp q (shown_from home (i + 1) ms))) (find-where_key key_cmp (λ k. home k == i) q (alike home i q) (entries m) ∙ ap (λ o. cond (home q == i) o None) (sym (get-entries m q)))
    ∙ ap (or_else (cond (home q == i) (get m q) None)) (find_shown home (i + 1) ms q)

none_before : (ms : List Contents) (i h : ℕ) (q : Key) → h < i → picked i h ms q ≡ None
none_before [] i h q less = refl
none_before (m ∷ ms) i h q less =
    ap (λ b. or_else (cond b (get m q) None) (picked (i + 1) h ms q)) (ne_eqb h i (λ e. omega (arith, e, less))) ∙ none_before ms (i + 1) h q (omega (arith, less))

picked_at : (ms : List Contents) (i j : ℕ) (q : Key) → picked i (i + j) ms q ≡ get (held_at ms j) q
picked_at [] i j q = sym (get-empty key_cmp q)
picked_at (m ∷ ms) i zero q =
    ap (λ b. or_else (cond b (get m q) None) (picked (i + 1) (i + 0) ms q)) (eq-eqb (i + 0) i (omega arith)) ∙ ap (or_else (get m q)) (none_before ms (i + 1) (i + 0) q (omega arith))
    ∙ or_none (get m q)
picked_at (m ∷ ms) i (suc j) q =
    ap (λ b. or_else (cond b (get m q) None) (picked (i + 1) (i + suc j) ms q)) (ne_eqb (i + suc j) i (λ e. omega (arith, e))) ∙ ap (λ n. picked (i + 1) n ms q) (next i j) ∙ picked_at ms (i + 1) j q
  where
    next : (i j : ℕ) → i + suc j ≡ i + 1 + j
    next i j = omega arith

-- what they hold together at a key is what the box of its home holds there
pub sharded_get : (home : Key → ℕ) (ms : List Contents) (q : Key) → get (sharded home ms) q ≡ get (held_at ms (home q)) q
sharded_get home ms q =
    get-from_entries key_total (shown_from home 0 ms) q ∙ find_shown home 0 ms q ∙ ap (λ n. picked 0 n ms q) (from_zero (home q)) ∙ picked_at ms 0 (home q) q
  where
    from_zero : (n : ℕ) → n ≡ 0 + n
    from_zero n = omega arith

pub same_whole : (home later : Key → ℕ) (ms ns : List Contents) → ((q : Key) → get (held_at ns (later q)) q ≡ get (held_at ms (home q)) q) → sharded later ns ≡ sharded home ms
same_whole home later ms ns is = same_map key_total key_exact (sharded later ns) (sharded home ms) (λ q. sharded_get later ns q ∙ is q ∙ sym (sharded_get home ms q))

-- boxes without records
each_empty : (ps : List Part) → AllByRecursion (λ p. contents_of p ≡ empty) ps → (i : ℕ) → contents_at ps i ≡ empty
each_empty [] h i = refl
each_empty (p ∷ ps) h zero = h.0
each_empty (p ∷ ps) h (suc i) = each_empty ps h.1 i

pub together_empty : (home : Key → ℕ) (ps : List Part) → All (λ p. contents_of p ≡ empty) ps → sharded home (held_in ps) ≡ empty
together_empty home ps h =
    same_map key_total key_exact (sharded home (held_in ps)) empty (λ q. sharded_get home (held_in ps) q ∙ ap (λ m. get m q) (each_empty ps (recursion_from_All (λ (p : Part). contents_of p ≡ empty) ps h) (home q)))
