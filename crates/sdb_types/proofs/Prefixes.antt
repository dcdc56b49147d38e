-- Names with a prefix.
use Rattle.std.proofs.Common.{◌≡◌, ℕ, List, [], ◌∷◌, ◌++◌, drop, length, true, false, eqb, cond, refl, sym, ap, ◌∙◌, ◌+◌, ◌≤◌, arith, length-append, Option, Some, None, MatchOption}
use Rattle.std.proofs.lemmas.Bool.Decides.{Decides-eqb}
use Rattle.std.specs.Prelude.{nat_le}
use Rattle.std.specs.Borrow.{Bor}
use Rattle.std.specs.List.{list_all}
use Rattle.std.specs.Option.{option_copied}
use Rattle.std.specs.Str.Pattern.{FindsTextPrefix, StripsPrefix}
use Rattle.sdb_types.specs.Identifier.{is_identifier, is_name, is_start, is_part}
use Rattle.sdb_types.specs.NameText.{before_prefix, after_front, if_identifier, name_within}
use Rattle.sdb_types.proofs.Basics.{at_most_nat, nat_at_most}
use Rattle.sdb_types.proofs.Bools.{and_both, and_first, and_second, or_first}

-- what follows a prefix in a text that begins with it
pub after_front-append : (front rest : List ℕ) → after_front front (front ++ rest) ≡ Some rest
after_front-append [] rest = refl
after_front-append (c ∷ cs) rest = simp ((Decides-eqb c c).1 refl) (after_front-append cs rest)

pub is_front : (front text rest : List ℕ) → after_front front text ≡ Some rest → text ≡ front ++ rest
is_front [] text rest h = cc
is_front (c ∷ cs) [] rest h = absurd (cc)
is_front (c ∷ cs) (t ∷ ts) rest h =
    elim (eqb t c) as (λ b. eqb t c ≡ b → cond b (after_front cs ts) None ≡ Some rest → t ∷ ts ≡ (c ∷ cs) ++ rest) [
      | true ↦ λ q k. let e = (Decides-eqb t c).0 q in let r = is_front cs ts rest k in cc
      | false ↦ λ q k. absurd (cc)
    ] refl h

pub no_front : (front text : List ℕ) → ((rest : List ℕ) → text ≡ front ++ rest → ⊥) → after_front front text ≡ None
no_front front text h =
    elim (after_front front text) as (λ o. after_front front text ≡ o → o ≡ None) [
      | None ↦ λ q. refl
      | Some rest ↦ λ q. absurd (h rest (is_front front text rest q))
    ] refl

-- what `strip_prefix` gives
pub strips : (front text : List ℕ) (r : Option (Bor (List ℕ))) → MatchOption r (FindsTextPrefix front text None) (λ x. StripsPrefix (FindsTextPrefix front) text x.now) → option_copied r ≡ after_front front text
strips front text None h = sym (no_front front text h)
strips front text (Some x) h =
    let e : text ≡ front ++ drop h.0 text = h.1.1 in
    let f : front ++ drop h.0 text ≡ front ++ x.now = ap (λ ys. front ++ ys) (sym h.2) in
    sym (ap (after_front front) (e ∙ f) ∙ after_front-append front x.now)

---- names with `before_` before them

parts : (c : ℕ) (cs : List ℕ) → is_identifier (c ∷ cs) ≡ true → list_all is_part (c ∷ cs) ≡ true
parts c cs h =
    let start = and_first (is_start c) (list_all is_part cs) h in
    and_both (is_part c) _ (or_first (is_start c) _ start) (and_second (is_start c) (list_all is_part cs) h)

-- a short name has a name to be kept under
pub before-is_name : (name : List ℕ) → is_identifier name ≡ true → nat_le (length name) 64 ≡ true → is_name (before_prefix ++ name) ≡ true
before-is_name [] i h = absurd (cc)
before-is_name (c ∷ cs) i h =
    let n : length (c ∷ cs) ≤ 64 = nat_at_most (length (c ∷ cs)) 64 h in
    let m : length (before_prefix ++ (c ∷ cs)) ≡ 7 + length (c ∷ cs) = length-append before_prefix (c ∷ cs) in
    and_both (nat_le (length (before_prefix ++ (c ∷ cs))) 71) (is_identifier (before_prefix ++ (c ∷ cs))) (at_most_nat (length (before_prefix ++ (c ∷ cs))) 71 (omega arith)) (parts c cs i)

---- blocks

by_front : (o : Option (List ℕ)) (name : List ℕ) → if_identifier o ≡ Some name → (o ≡ Some name) × (is_identifier name ≡ true)
by_front None name h = absurd (cc)
by_front (Some rest) name h =
    elim (is_identifier rest) as (λ b. is_identifier rest ≡ b → cond b (Some rest) None ≡ Some name → (Some rest ≡ Some name) × (is_identifier name ≡ true)) [
      | true ↦ λ q k. let e : rest ≡ name = cc in (k, ap is_identifier (sym e) ∙ q)
      | false ↦ λ q k. absurd (cc)
    ] refl h

-- a text that has a name within it is that name with `before_` before it
pub within-is : (text name : List ℕ) → name_within text ≡ Some name → (text ≡ before_prefix ++ name) × (is_identifier name ≡ true)
within-is text name h = let p = by_front (after_front before_prefix text) name h in (is_front before_prefix text name p.0, p.1)

pub rest-is_name : (name : List ℕ) → is_name (before_prefix ++ name) ≡ true → is_identifier name ≡ true → is_name name ≡ true
rest-is_name name h i =
    let n : length (before_prefix ++ name) ≤ 71 = nat_at_most (length (before_prefix ++ name)) 71 (and_first (nat_le (length (before_prefix ++ name)) 71) (is_identifier (before_prefix ++ name)) h) in
    let m : length (before_prefix ++ name) ≡ 7 + length name = length-append before_prefix name in
    and_both (nat_le (length name) 71) (is_identifier name) (at_most_nat (length name) 71 (omega arith)) i

pub within-is_name : (text name : List ℕ) → is_name text ≡ true → name_within text ≡ Some name → is_name name ≡ true
within-is_name text name h k = let p = within-is text name k in rest-is_name name (ap is_name (sym p.0) ∙ h) p.1

-- the name within a name is short
pub within-short : (text name : List ℕ) → is_name text ≡ true → name_within text ≡ Some name → length name ≤ 64
within-short text name h k =
    let e = (within-is text name k).0 in
    let n : length text ≤ 71 = nat_at_most (length text) 71 (and_first (nat_le (length text) 71) (is_identifier text) h) in
    let m : length (before_prefix ++ name) ≡ 7 + length name = length-append before_prefix name in
    omega (arith, n, m, ap length e)
