-- What parts hold together, key by key.
use Rattle.std.proofs.Common.{◌≡◌, Bool, List, [], ◌∷◌, ◌++◌, true, false, cond, Some, None, refl, sym, ap, subst, ◌∙◌}
use Rattle.std.specs.Option.{option_map}
use Rattle.std.specs.Ordering.{eq_by_cmp}
use Rattle.std.specs.List.{AllByRecursion, IsDistinct}
use Rattle.std.specs.Map.{lookup, keys_of}
use Rattle.std.proofs.lemmas.Map.Keys.{IsDistinct-head, IsDistinct-tail}
use Rattle.std.specs.FinMap.{find, get, entries, get-entries, get-from_entries, same_map}
use Rattle.sdb_hashed.specs.Types.{Key, Pair}
use Rattle.sdb_types.specs.Order.{key_cmp}
use Rattle.sdb_types.specs.Contents.{Contents}
use Rattle.sdb_types.specs.Exact.{equal_of}
use Rattle.sdb_types.proofs.Public.{false_by, key_exact, key_total, or_else, or_none}
use Rattle.sdb_hashed.specs.Gathered.{gathered, contents_of_all, in_part, part_at, HasOwnKeys, ChangesAt}
use Rattle.sdb_hashed.proofs.Changes.{IsLocal}

pub find_append : (q : Key) (xs ys : List (Key × List Pair)) → find key_cmp q (xs ++ ys) ≡ or_else (find key_cmp q xs) (find key_cmp q ys)
find_append q [] ys = refl
find_append q (x ∷ xs) ys =
    elim (eq_by_cmp key_cmp q x.0) as (λ b. cond b (Some x.1) (find key_cmp q (xs ++ ys)) ≡ or_else (cond b (Some x.1) (find key_cmp q xs)) (find key_cmp q ys)) [ true ↦ refl | false ↦ find_append q xs ys ]

module _ {K V : Type 0} (same : K → K → Bool) (is_known : (a b : K) → (same a b ≡ true → a ≡ b) × (a ≡ b → same a b ≡ true)) (part : Key → K) (f : V → Contents) where
  turned : (a b : K) → same a b ≡ false → same b a ≡ false
  turned a b h = false_by (same b a) (λ e. let t : same a b ≡ true = (is_known a b).1 (sym ((is_known b a).0 e)) in let u : true ≡ false = sym t ∙ h in cc)

  -- keys of two parts differ
  other_key : (k q : Key) → same (part k) (part q) ≡ false → eq_by_cmp key_cmp q k ≡ false
  other_key k q h = false_by (eq_by_cmp key_cmp q k) (λ e.
      let one : q ≡ k = key_exact q k (equal_of (key_cmp q k) e) in
      let t : same (part k) (part q) ≡ true = (is_known (part k) (part q)).1 (sym (ap part one)) in
      let u : true ≡ false = sym t ∙ h in cc)

  none_later : (s : K) (es : List (K × V)) → AllByRecursion (λ y. same s y ≡ false) (keys_of es) → lookup (same s) es ≡ None
  none_later s [] h = refl
  none_later s (e ∷ es) h = ap (λ b. cond b (Some e.1) (lookup (same s) es)) h.0 ∙ none_later s es h.1

  -- no later part has the name of the first
  single : (s : K) (e : K × V) (es : List (K × V)) → IsDistinct same (keys_of (e ∷ es)) → same s e.0 ≡ true → lookup (same s) es ≡ None
  single s e es distinct h =
      subst (λ (t : K). lookup (same t) es ≡ None) (sym ((is_known s e.0).0 h)) (none_later e.0 es (IsDistinct-head same e.0 (keys_of es) distinct))

  own_later : (e : K × V) (es : List (K × V)) → IsDistinct same (keys_of (e ∷ es)) → HasOwnKeys same part f (e ∷ es) → HasOwnKeys same part f es
  own_later e es distinct own = λ s key foreign.
      elim (same s e.0) as (λ b. same s e.0 ≡ b → in_part (option_map f (cond b (Some e.1) (lookup (same s) es))) key ≡ None → in_part (option_map f (lookup (same s) es)) key ≡ None) [
        | true ↦ λ p h. ap (λ o. in_part (option_map f o) key) (single s e es distinct p)
        | false ↦ λ p h. h
      ] refl (own s key foreign)

  own_first : (e : K × V) (es : List (K × V)) → HasOwnKeys same part f (e ∷ es) → (q : Key) → same e.0 (part q) ≡ false → get (f e.1) q ≡ None
  own_first e es own q foreign =
      sym (ap (λ b. in_part (option_map f (cond b (Some e.1) (lookup (same e.0) es))) q) ((is_known e.0 e.0).1 refl)) ∙ own e.0 q foreign

  pub find_gathered : (es : List (K × V)) → IsDistinct same (keys_of es) → HasOwnKeys same part f es → (q : Key) → find key_cmp q (gathered f es) ≡ in_part (part_at same f es (part q)) q
  find_gathered [] distinct own q = refl
  find_gathered (e ∷ es) distinct own q =
      let rest : find key_cmp q (gathered f es) ≡ in_part (part_at same f es (part q)) q = find_gathered es (IsDistinct-tail same e.0 (keys_of es) distinct) (own_later e es distinct own) q in
      find_append q (gathered f es) (entries (f e.1))
      ∙ elim (same (part q) e.0) as (λ b. same (part q) e.0 ≡ b → or_else (find key_cmp q (gathered f es)) (find key_cmp q (entries (f e.1))) ≡ in_part (option_map f (cond b (Some e.1) (lookup (same (part q)) es))) q) [
        | true ↦ λ p. ap (λ o. or_else o (find key_cmp q (entries (f e.1)))) (rest ∙ ap (λ o. in_part (option_map f o) q) (single (part q) e es distinct p)) ∙ sym (get-entries (f e.1) q)
        | false ↦ λ p. ap (or_else (find key_cmp q (gathered f es))) (sym (get-entries (f e.1) q) ∙ own_first e es own q (turned (part q) e.0 p)) ∙ or_none (find key_cmp q (gathered f es)) ∙ rest
      ] refl

  -- what all parts have at a key is what the part of the key has
  pub held_get : (es : List (K × V)) → IsDistinct same (keys_of es) → HasOwnKeys same part f es → (q : Key) → get (contents_of_all f es) q ≡ in_part (part_at same f es (part q)) q
  held_get es distinct own q = get-from_entries key_total (gathered f es) q ∙ find_gathered es distinct own q

  ---- one part changes

  module _ (op : Contents → Contents) (k : Key) (local : IsLocal k op) (es fs : List (K × V)) (m : Contents) (own : HasOwnKeys same part f es) (was : (q : Key) → in_part (part_at same f es (part k)) q ≡ get m q) (changes : ChangesAt same f (part k) (op m) es fs) where
    pub changed_own : HasOwnKeys same part f fs
    changed_own s key foreign =
        ap (λ o. in_part o key) (changes s)
        ∙ elim (same (part k) s) as (λ b. same (part k) s ≡ b → in_part (cond b (Some (op m)) (part_at same f es s)) key ≡ None) [
          | true ↦ λ p.
              let away : same (part k) (part key) ≡ false = subst (λ (t : K). same t (part key) ≡ false) (sym ((is_known (part k) s).0 p)) foreign in
              local.elsewhere m key (other_key k key away) ∙ sym (was key) ∙ own (part k) key away
          | false ↦ λ p. own s key foreign
        ] refl

    pub changed_held : IsDistinct same (keys_of es) → IsDistinct same (keys_of fs) → contents_of_all f fs ≡ op (contents_of_all f es)
    changed_held distinct apart = same_map key_total key_exact (contents_of_all f fs) (op (contents_of_all f es)) (λ q.
        held_get fs apart changed_own q ∙ ap (λ o. in_part o q) (changes (part q))
        ∙ elim (same (part k) (part q)) as (λ b. same (part k) (part q) ≡ b → in_part (cond b (Some (op m)) (part_at same f es (part q))) q ≡ get (op (contents_of_all f es)) q) [
          | true ↦ λ p. local.alike m (contents_of_all f es) q (sym (was q) ∙ ap (λ s. in_part (part_at same f es s) q) ((is_known (part k) (part q)).0 p) ∙ sym (held_get es distinct own q))
              (sym (was k) ∙ sym (held_get es distinct own k))
          | false ↦ λ p. sym (held_get es distinct own q) ∙ sym (local.elsewhere (contents_of_all f es) q (other_key k q p))
        ] refl)
