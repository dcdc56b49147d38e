-- The groups of what a COMMIT writes, by the places of their writes among them all.
use Rattle.std.proofs.Common.{◌≡◌, ◌≤◌, ◌<◌, ◌+◌, ℕ, Bool, true, false, List, length, Some, refl, sym, subst, ◌∙◌, arith, ◌⊎◌, inl, inr}
use Rattle.std.specs.Prelude.{nat_lt, slice_get}
use Rattle.std.proofs.lemmas.Bool.Decides.{nat_tests}
use Rattle.std.proofs.lemmas.List.{length-map}
use Rattle.std.proofs.lemmas.Option.{slice_get_within}
use Rattle.law_clients.specs.Types.{Write}
use Rattle.sdb_types.specs.Order.{are_distinct, has_key}
use Rattle.sdb_record.specs.Groups.{IsGroup, grouped, in_groups, keys_of_writes}
use Rattle.sdb_record.proofs.Public.{apart_at, each_group, each_once, group_place, in_groups_length, key_at, place_in_group, taken_all, taken_more, write_of_key}
use Rattle.sdb_phases.specs.Work.{Work, groups_of, writes_before}
use Rattle.law_clients.proofs.Lists.{each_at}

-- the place of a write of a group
abbrev pub place_of : Work → ℕ → ℕ → ℕ
place_of p i k = writes_before p i + k

-- after the last group come no writes
pub whole : (p : Work) (i : ℕ) → nat_lt (i + 1) (groups_of p) ≡ false → writes_before p (i + 1) ≡ length p.writes
whole p i e = taken_all (grouped p.writes) (i + 1) (less (groups_of p) e) ∙ in_groups_length p.writes
  where
    less : (n : ℕ) → nat_lt (i + 1) n ≡ false → n ≤ i + 1
    less n e = grind (arith, nat_tests)

-- each place is one of the writes
pub within_writes : (p : Work) (j : ℕ) (v : Write) → slice_get (in_groups p.writes) j ≡ Some v → j < length p.writes
within_writes p j v at = subst (λ n. j < n) (in_groups_length p.writes) (slice_get_within (in_groups p.writes) j v at)

-- before a place, or from there on
pub side : (n j : ℕ) → (j < n) ⊎ (n ≤ j)
side n j = grind (arith, nat_tests)

module _ (p : Work) (i : ℕ) (g : List Write) (here : slice_get (grouped p.writes) i ≡ Some g) where
  pub placed : (k : ℕ) (w : Write) → slice_get g k ≡ Some w → slice_get (in_groups p.writes) (place_of p i k) ≡ Some w
  placed k w at = group_place (grouped p.writes) i k g w here at

  -- the count with one group more
  pub more_before : writes_before p i + length g ≡ writes_before p (i + 1)
  more_before = taken_more (grouped p.writes) i g here

  -- a group has some keys
  pub some_keys : 0 < length (keys_of_writes g)
  some_keys = subst (λ n. 0 < n) (sym (length-map g (λ (w : Write). w.key))) (each_at IsGroup (grouped p.writes) i g (each_group p.writes) here).some

  -- a write that it has, and its key
  pub in_group : (j : ℕ) (v : Write) → writes_before p i ≤ j → j < writes_before p (i + 1) → slice_get (in_groups p.writes) j ≡ Some v → has_key (keys_of_writes g) v.key ≡ true
  in_group j v from less at = let f = place_in_group (grouped p.writes) i j g v here from less at in key_at g f.0 v f.1

  module _ (once : are_distinct (keys_of_writes (in_groups p.writes)) ≡ true) where
    -- each once
    pub keys_once : are_distinct (keys_of_writes g) ≡ true
    keys_once = each_at (λ x. are_distinct (keys_of_writes x) ≡ true) (grouped p.writes) i g (each_once (grouped p.writes) once) here

    -- a write that it hasn't
    pub apart_from_group : (j : ℕ) (v : Write) → slice_get (in_groups p.writes) j ≡ Some v → (j < writes_before p i) ⊎ (writes_before p (i + 1) ≤ j) → has_key (keys_of_writes g) v.key ≡ false
    apart_from_group j v at outside = not_has (has_key (keys_of_writes g) v.key) refl
      where
        before : (m k : ℕ) → j < m → j < m + k
        before m k less = omega (arith, less)

        behind : (m n k : ℕ) → m + n ≤ j → k < n → m + k < j
        behind m n k more less = omega (arith, more, less)

        not_has : (b : Bool) → has_key (keys_of_writes g) v.key ≡ b → b ≡ false
        not_has false e = refl
        not_has true e =
            let f = write_of_key g v.key e in
            let there = placed f.0 f.1.0 f.1.1.0 in
            elim outside [
              | inl less ↦ absurd (apart_at (in_groups p.writes) j (place_of p i f.0) v f.1.0 once (before (writes_before p i) f.0 less) at there f.1.1.1)
              | inr more ↦ absurd (apart_at (in_groups p.writes) (place_of p i f.0) j f.1.0 v once (behind (writes_before p i) (length g) f.0 (subst (λ n. n ≤ j) (sym more_before) more) (slice_get_within g f.0 f.1.0 f.1.1.0)) there at (sym f.1.1.1))
            ]
