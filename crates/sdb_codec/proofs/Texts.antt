-- Names and texts as bytes.
use Rattle.std.proofs.Common.{◌≡◌, ℕ, suc, zero, ◌<◌, ◌+◌, ◌==◌, true, false, not, cond, ltb, List, [], ◌∷◌, length, take, drop, Option, Some, None, option_map, refl, ◌∙◌, inl, inr, arith, add-one, IsUtf8, IsAscii}
use Rattle.std.specs.List.{list_all, position, prefix_len}
use Rattle.std.specs.Str.{is_utf8}
use Rattle.std.proofs.lemmas.Str.{IsUtf8-from_ascii, IsUtf8-from_is_utf8}
use Rattle.std.proofs.lemmas.Bool.{cases_lt, lt-ltb, le-ltb, ltb-true}
use Rattle.sdb_types.specs.Identifier.{is_part, is_name}
use Rattle.sdb_types.proofs.Public.{and_first, and_second, onto, part_small, parts}
use Rattle.sdb_codec.specs.Reading.{dot_split}

-- no text
pub not_utf8 : (bs : List ℕ) → (IsUtf8 bs → ⊥) → is_utf8 bs ≡ false
not_utf8 bs h =
    elim (is_utf8 bs) as (λ b. is_utf8 bs ≡ b → b ≡ false) [
      | true ↦ λ q. absurd (h (IsUtf8-from_is_utf8 bs q))
      | false ↦ λ q. refl
    ] refl

parts_small : (cs : List ℕ) → list_all is_part cs ≡ true → IsAscii cs
parts_small [] h i = omega arith
parts_small (c ∷ cs) h zero = part_small c (and_first (is_part c) _ h)
parts_small (c ∷ cs) h (suc i) = parts_small cs (and_second (is_part c) _ h) i

-- a name is a text
pub name_utf8 : (bs : List ℕ) → is_name bs ≡ true → IsUtf8 bs
name_utf8 bs h = IsUtf8-from_ascii bs (parts_small bs (parts bs h))

pub not_name : (bs : List ℕ) → (IsUtf8 bs → ⊥) → is_name bs ≡ false
not_name bs h =
    elim (is_name bs) as (λ b. is_name bs ≡ b → b ≡ false) [
      | true ↦ λ q. absurd (h (name_utf8 bs q))
      | false ↦ λ q. refl
    ] refl

-- the parts round a place
abbrev round : List ℕ → ℕ → List ℕ × List ℕ
round text n = (take n text, drop (suc n) text)

abbrev Parts : Type 0
Parts = Option (List ℕ × List ℕ)

-- the parts round the first dot, by its place
dot_at : (text : List ℕ) (n : ℕ) → n ≡ prefix_len (λ b. not (b == 46)) text → dot_split text ≡ cond {A = Parts} (ltb n (length text)) (Some (round text n)) None
dot_at [] n e = rw e refl
dot_at (c ∷ cs) n e =
    let m : ℕ = prefix_len (λ x. not (x == 46)) cs in
    let rest : dot_split cs ≡ cond {A = Parts} (ltb m (length cs)) (Some (round cs m)) None = dot_at cs m refl in
    elim (c == 46) as (λ b. n ≡ cond (not b) (1 + m) 0 → cond {A = Parts} b (Some ([], cs)) (option_map (onto c) (dot_split cs)) ≡ cond {A = Parts} (ltb n (suc (length cs))) (Some (round (c ∷ cs) n)) None) [
      | true ↦ λ q. let first : ltb 0 (suc (length cs)) ≡ true = lt-ltb 0 (suc (length cs)) (omega arith) in rw (q, first) refl
      | false ↦ λ q.
          let k : n ≡ suc m = q ∙ omega arith in
          elim (cases_lt m (length cs)) [
            | inl lt ↦
                let here : ltb m (length cs) ≡ true = lt-ltb m (length cs) lt in
                let there : ltb (suc m) (suc (length cs)) ≡ true = lt-ltb (suc m) (suc (length cs)) (omega arith) in
                rw (rest, k, here, there) refl
            | inr le ↦
                let here : ltb m (length cs) ≡ false = le-ltb m (length cs) le in
                let there : ltb (suc m) (suc (length cs)) ≡ false = le-ltb (suc m) (suc (length cs)) (omega arith) in
                rw (rest, k, here, there) refl
          ]
    ] e

-- where there is no dot
pub dot_none : (text : List ℕ) → position (λ b. b == 46) text ≡ None → dot_split text ≡ None
dot_none text h =
    let n : ℕ = prefix_len (λ b. not (b == 46)) text in
    elim (ltb n (length text)) as (λ b. cond {A = Option ℕ} b (Some n) None ≡ None → dot_split text ≡ cond {A = Parts} b (Some (round text n)) None → dot_split text ≡ None) [
      | true ↦ λ p q. absurd cc
      | false ↦ λ p q. q
    ] h (dot_at text n refl)

-- where it is
pub dot_some : (text : List ℕ) (i : ℕ) → position (λ b. b == 46) text ≡ Some i → (i < length text) × (dot_split text ≡ Some (take i text, drop (i + 1) text))
dot_some text i h =
    let n : ℕ = prefix_len (λ b. not (b == 46)) text in
    elim (ltb n (length text)) as (λ b. ltb n (length text) ≡ b → cond {A = Option ℕ} b (Some n) None ≡ Some i → dot_split text ≡ cond {A = Parts} b (Some (round text n)) None → (i < length text) × (dot_split text ≡ Some (take i text, drop (i + 1) text))) [
      | true ↦ λ t p q. let same : n ≡ i = cc in rw (← same, add-one) (ltb-true n (length text) t, q)
      | false ↦ λ t p q. absurd cc
    ] refl h (dot_at text n refl)
