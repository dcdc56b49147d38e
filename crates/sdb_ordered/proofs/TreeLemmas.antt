-- The map that the entries of a tree make.
use Rattle.std.proofs.Common.{◌≡◌, List, [], ◌∷◌, length, cond, Some, None, refl, sym, ap, ◌∙◌, arith}
use Rattle.std.specs.declared.cmp.Ordering.{Ordering}
use Rattle.std.specs.Cmp.{IsTotalOrder, eq_by_cmp_equiv}
use Rattle.std.specs.BTreeMap.{is_at}
use Rattle.std.specs.List.Sorted.{IsStrictlySortedBy}
use Rattle.std.specs.Map.{lookup, keys_of}
use Rattle.std.specs.FinMap.{IsAntisymmetric, find, put, get, insert, remove, entries, empty, from_entries, get-from_entries, get-insert, get-remove, entries-insert, len-entries, len-empty, same_map}

module _ {K X : Type 0} {R : K → K → Ordering} (total : IsTotalOrder R) where
  found : (es : List (K × X)) (q : K) → find R q es ≡ lookup (is_at (R q)) es
  found [] q = refl
  found (e ∷ es) q = ap (cond (is_at (R q) e.0) (Some e.1)) (found es q)

  -- what the map has at a key
  pub get_entries : (es : List (K × X)) (q : K) → get (from_entries {R = R} es) q ≡ lookup (is_at (R q)) es
  get_entries es q = get-from_entries total es q ∙ found es q

  none : (es : List (K × X)) → length es ≡ 0 → es ≡ []
  none [] e = refl
  none (e ∷ es) h = absurd (omega arith)

  put_first : (e : K × X) (es : List (K × X)) → IsStrictlySortedBy R (keys_of (e ∷ es)) → put R e.0 e.1 es ≡ e ∷ es
  unfolding IsStrictlySortedBy
  put_first e [] h = refl
  put_first e (f ∷ es) h = rw h.0.0 refl

  later : (e : K × X) (es : List (K × X)) → IsStrictlySortedBy R (keys_of (e ∷ es)) → IsStrictlySortedBy R (keys_of es)
  unfolding IsStrictlySortedBy
  later e es h = h.1

  -- the map of entries in order has these entries
  pub in_order : (es : List (K × X)) → IsStrictlySortedBy R (keys_of es) → entries (from_entries {R = R} es) ≡ es
  in_order [] h = none _ (sym (len-entries empty) ∙ len-empty R X)
  in_order (e ∷ es) h = entries-insert total (from_entries es) e.0 e.1 ∙ ap (put R e.0 e.1) (in_order es (later e es h)) ∙ put_first e es h

  -- entries that differ at one key make maps that differ there
  pub inserted : IsAntisymmetric R → (es fs : List (K × X)) (k : K) (v : X) → ((q : K) → lookup (is_at (R q)) fs ≡ cond (is_at (R k) q) (Some v) (lookup (is_at (R q)) es)) → from_entries {R = R} fs ≡ insert (from_entries es) k v
  inserted exact es fs k v h = same_map total exact _ _ (λ q.
      get_entries fs q ∙ h q ∙ ap (λ b. cond b (Some v) (lookup (is_at (R q)) es)) ((eq_by_cmp_equiv total).symm k q)
      ∙ sym (get-insert total (from_entries es) k v q ∙ ap (cond (is_at (R q) k) (Some v)) (get_entries es q)))

  pub removed : IsAntisymmetric R → (es fs : List (K × X)) (k : K) → ((q : K) → lookup (is_at (R q)) fs ≡ cond (is_at (R k) q) None (lookup (is_at (R q)) es)) → from_entries {R = R} fs ≡ remove (from_entries es) k
  removed exact es fs k h = same_map total exact _ _ (λ q.
      get_entries fs q ∙ h q ∙ ap (λ b. cond b None (lookup (is_at (R q)) es)) ((eq_by_cmp_equiv total).symm k q)
      ∙ sym (get-remove total (from_entries es) k q ∙ ap (cond (is_at (R q) k) None) (get_entries es q)))
