-- What a map keeps from call to call: each key has its index.
use Rattle.std.proofs.Common.{◌≡◌, ℕ, cond, List, [], ◌∷◌, ◌++◌, length, take, slice_set, Option, Some, None, sym, ap, subst, ◌∙◌}
use Rattle.std.specs.Prelude.{position, Result, Ok, Err, OnOk, OnErr}
use Rattle.std.specs.Map.{keys_of}
use Rattle.std.specs.Ordering.{is_eq}
use Rattle.std.proofs.lemmas.List.{map-append, take-map, length-map}
use Rattle.sdb_types.specs.declared.key.Key.{Key}
use Rattle.sdb_types.specs.Order.{key_cmp, same_key}
use Rattle.sdb_types.proofs.Public.{same_key_is}
use Rattle.sdb_snapshot.specs.Places.{HaveIndexes}
use Rattle.sdb_snapshot.proofs.Firsts.{put_there, indexes_first, indexes_kept, indexes_more}

module _ {V : Type 0} (es fs : List (Key × V)) where
  -- fewer entries
  pub truncated : (n : ℕ) (index : Key → Option ℕ) → fs ≡ take n es → HaveIndexes (keys_of es) index → HaveIndexes (keys_of fs) index
  truncated n index is have =
      let keys : keys_of fs ≡ take n (keys_of es) = ap keys_of is ∙ sym (take-map (λ e. e.0) n es) in
      subst (λ (ks : List Key). HaveIndexes ks index) (sym keys) (indexes_first (keys_of es) index n have)

  -- a value in the place of another
  pub replaced : (i : ℕ) (k : Key) (v : V) (index : Key → Option ℕ) → position (same_key k) (keys_of es) ≡ Some i → fs ≡ slice_set es i (k, v) → HaveIndexes (keys_of es) index → HaveIndexes (keys_of fs) index
  replaced i k v index found is have = subst (λ (ks : List Key). HaveIndexes ks index) (sym (ap keys_of is ∙ (put_there k v es i found).1)) have

  -- an entry more, or memory ran out for it
  pub pushed : {A E : Type 0} (r : Result A E) (n : ℕ) (k : Key) (v : V) (own : Key) (index next : Key → Option ℕ) → n ≡ length es → own ≡ k → position (same_key k) (keys_of es) ≡ None
      → ((q : Key) → next q ≡ cond (is_eq (key_cmp own q)) (Some n) (index q)) → OnOk r (fs ≡ es ++ (k, v) ∷ []) → OnErr r (fs ≡ es) → HaveIndexes (keys_of es) index → HaveIndexes (keys_of fs) next
  pushed r n k v own index next last same new is ok err have = by r ok err
    where
      at : (q : Key) → next q ≡ cond (same_key k q) (Some (length (keys_of es))) (index q)
      at q =
          is q ∙ ap (λ b. cond b (Some n) (index q)) (sym (same_key_is own q)) ∙ ap (λ x. cond (same_key x q) (Some n) (index q)) same
          ∙ ap (λ m. cond (same_key k q) (Some m) (index q)) (last ∙ sym (length-map es (λ e. e.0)))

      by : {A E : Type 0} (r : Result A E) → OnOk r (fs ≡ es ++ (k, v) ∷ []) → OnErr r (fs ≡ es) → HaveIndexes (keys_of fs) next
      by (Ok a) ok err =
          let keys : keys_of fs ≡ keys_of es ++ k ∷ [] = ap keys_of ok ∙ map-append (λ e. e.0) es ((k, v) ∷ []) in
          subst (λ (ks : List Key). HaveIndexes ks next) (sym keys) (indexes_more (keys_of es) k index next have new at)
      by (Err e) ok err = subst (λ (xs : List (Key × V)). HaveIndexes (keys_of xs) next) (sym err) (indexes_kept (keys_of es) k index next have new at)
