-- A batch in rows in memory: its conditions tested one after another, and its records put and taken back.
use Rattle.std.proofs.Common.{◌≡◌, ℕ, ◌+◌, ◌-◌, ◌<◌, ◌≤◌, Bool, true, false, cond, List, [], ◌∷◌, ◌++◌, map, take, drop, length, get_or, Option, Some, None, refl, sym, ap, subst, ◌∙◌, zero, suc, arith, option_map, length-append}
use Rattle.std.proofs.lemmas.List.{drop_all, length-map, length-take, map-append, take-map, take_all, take_more}
use Rattle.std.specs.Prelude.{◌||◌, is_some}
use Rattle.std.specs.FinMap.{get, insert, get-insert}
use Rattle.sdb_types.specs.declared.key.Key.{Key}
use Rattle.sdb_types.specs.declared.pair.Pair.{Pair}
use Rattle.sdb_types.specs.declared.record.Put.{Put}
use Rattle.sdb_types.specs.declared.record.Record.{Record}
use Rattle.sdb_types.specs.Order.{has_key, are_distinct, same_key}
use Rattle.sdb_types.specs.Contents.{Contents, record_at, record_of, holds, put_keys, unmet_from, all_put}
use Rattle.sdb_types.proofs.Public.{all_put_more, all_put_outside, drop_next, insert_back, key_total, none_some, once_parts, or_neither, remove_back, same_key_is, same_key_self, same_key_turned, some_is}
use Rattle.sdb_store.specs.Batches.{ArePut, found_at, restored}

---- the test of each condition

-- The first puts are met.
pub record AreMet (b : List Put) (m : Contents) (i place : ℕ) (found : List (Option Record)) : Type 0 where
  pub place_is : place ≡ i
  pub there : found ≡ found_at (take i b) m
  pub rest : unmet_from (i + 1) (drop i b) m ≡ unmet_from 1 b m

pub none_met : (b : List Put) (m : Contents) → AreMet b m 0 0 []
none_met b m = record { place_is = refl; there = refl; rest = refl }

-- one item more
take_next : {A : Type 0} (xs : List A) (i : ℕ) (x : A) → i < length xs → x ≡ get_or xs i x → take (i + 1) xs ≡ take i xs ++ x ∷ []
take_next xs i x less is = take_more xs i x less ∙ ap (λ y. take i xs ++ y ∷ []) (sym is)

pub met_more : (b : List Put) (m : Contents) (i place : ℕ) (found : List (Option Record)) (p : Put) (o : Option Record) → AreMet b m i place found → i < length b → p ≡ get_or b i p → o ≡ record_at m p.rec.key → holds p.condition o ≡ true
    → AreMet b m (i + 1) (place + 1) (found ++ o ∷ [])
met_more b m i place found p o it less is at met = record {
  place_is = ap (λ n. n + 1) it.place_is;
  there = ap (λ xs. xs ++ o ∷ []) it.there ∙ ap (λ x. found_at (take i b) m ++ x ∷ []) at ∙ sym (ap (λ xs. found_at xs m) (take_next b i p less is) ∙ map-append (λ (q : Put). record_at m q.rec.key) (take i b) (p ∷ []));
  rest = sym (ap (λ xs. unmet_from (i + 1) xs m) (drop_next b i p less is) ∙ ap (λ x. cond x (unmet_from (i + 1 + 1) (drop (i + 1) b) m) (Some (i + 1, record_at m p.rec.key))) (ap (holds p.condition) (sym at) ∙ met)) ∙ it.rest;
}

pub all_met : (b : List Put) (m : Contents) (i place : ℕ) (found : List (Option Record)) → AreMet b m i place found → i ≡ length b → (found ≡ found_at b m) × (unmet_from 1 b m ≡ None)
all_met b m i place found it end = (it.there ∙ ap (λ xs. found_at xs m) (take_all i b (omega (arith, end))), sym it.rest ∙ ap (λ xs. unmet_from (i + 1) xs m) (drop_all i b (omega (arith, end))))

pub unmet_here : (b : List Put) (m : Contents) (i place : ℕ) (found : List (Option Record)) (p : Put) (o : Option Record) → AreMet b m i place found → i < length b → p ≡ get_or b i p → o ≡ record_at m p.rec.key → holds p.condition o ≡ false
    → unmet_from 1 b m ≡ Some (place + 1, o)
unmet_here b m i place found p o it less is at fails =
    sym it.rest ∙ ap (λ xs. unmet_from (i + 1) xs m) (drop_next b i p less is)
    ∙ ap (λ x. cond x (unmet_from (i + 1 + 1) (drop (i + 1) b) m) (Some (i + 1, record_at m p.rec.key))) (ap (holds p.condition) (sym at) ∙ fails)
    ∙ ap (λ n. Some (n + 1, record_at m p.rec.key)) (sym it.place_is) ∙ ap (λ x. Some (place + 1, x)) (sym at)

---- the records put

pub put_more : (b : List Put) (i : ℕ) (p : Put) (m n l : Contents) → i < length b → p ≡ get_or b i p → n ≡ all_put (take i b) m → l ≡ insert n p.rec.key p.rec.columns → l ≡ all_put (take (i + 1) b) m
put_more b i p m n l less is before now = now ∙ ap (λ x. insert x p.rec.key p.rec.columns) before ∙ sym (ap (λ xs. all_put xs m) (take_next b i p less is) ∙ all_put_more (take i b) p m)

---- and taken back

-- a key that is not among those of puts is not that of one of them
not_among : (b : List Put) (i : ℕ) (p : Put) (k : Key) → has_key (put_keys b) k ≡ false → i < length b → p ≡ get_or b i p → same_key k p.rec.key ≡ false
not_among [] i p k out less is = absurd (omega (arith, less))
not_among (q ∷ qs) zero p k out less is = ap (λ (x : Put). same_key k x.rec.key) is ∙ (or_neither (has_key (put_keys qs) k) (same_key k q.rec.key) out).1
not_among (q ∷ qs) (suc i) p k out less is = not_among qs i p k (or_neither (has_key (put_keys qs) k) (same_key k q.rec.key) out).0 (omega (arith, less)) is

neither : (a b : Bool) → a ≡ false → b ≡ false → (a || b) ≡ false
neither true b h k = h
neither false b h k = k

-- the keys of the first puts are not that of a later one
early : (b : List Put) (i : ℕ) (p : Put) → are_distinct (put_keys b) ≡ true → i < length b → p ≡ get_or b i p → has_key (put_keys (take i b)) p.rec.key ≡ false
early [] i p once less is = absurd (omega (arith, less))
early (q ∷ qs) zero p once less is = refl
early (q ∷ qs) (suc i) p once less is =
    let parts = once_parts (has_key (put_keys qs) q.rec.key) (are_distinct (put_keys qs)) once in
    neither (has_key (put_keys (take i qs)) p.rec.key) (same_key p.rec.key q.rec.key) (early qs i p parts.1 (omega (arith, less)) is) (same_key_turned p.rec.key q.rec.key ∙ not_among qs i p q.rec.key parts.0 (omega (arith, less)) is)

-- what a record at a key says of the map
none_there : (k : Key) (o : Option (List Pair)) → None ≡ option_map (λ (columns : List Pair). record_of (k, columns)) o → o ≡ None
none_there k None e = refl
none_there k (Some columns) e = none_some (record_of (k, columns)) e

some_there : (k : Key) (o : Option (List Pair)) (r : Record) → Some r ≡ option_map (λ (columns : List Pair). record_of (k, columns)) o → (o ≡ Some r.columns) × (r.key ≡ k)
some_there k None r e = none_some r (sym e)
some_there k (Some columns) r e =
    let same : r ≡ record_of (k, columns) = some_is r (record_of (k, columns)) e in
    (ap (λ (x : Record). Some x.columns) (sym same), ap (λ (x : Record). x.key) same)

-- a record that was put is taken back
restored_back : (m : Contents) (p : Put) (o : Option Record) → o ≡ option_map (λ (columns : List Pair). record_of (p.rec.key, columns)) (get m p.rec.key) → restored p o (insert m p.rec.key p.rec.columns) ≡ m
restored_back m p None at = remove_back m p.rec.key p.rec.columns (none_there p.rec.key (get m p.rec.key) at)
restored_back m p (Some r) at =
    let parts = some_there p.rec.key (get m p.rec.key) r at in
    let put = insert m p.rec.key p.rec.columns in
    ap (λ (k : Key). cond (is_some (get put k)) (insert put k r.columns) put) parts.1
    ∙ ap (λ (b : Bool). cond b (insert put p.rec.key r.columns) put) (ap is_some (get-insert key_total m p.rec.key p.rec.columns p.rec.key ∙ ap (λ (b : Bool). cond b (Some p.rec.columns) (get m p.rec.key)) (sym (same_key_is p.rec.key p.rec.key) ∙ same_key_self p.rec.key)))
    ∙ insert_back m p.rec.key p.rec.columns r.columns parts.0

-- the list without its last item, and that item
abbrev front : {A : Type 0} → List A → List A
front [] = []
front (x ∷ []) = []
front (x ∷ y ∷ ys) = x ∷ front (y ∷ ys)

abbrev end_or : {A : Type 0} → A → List A → A
end_or d [] = d
end_or d (x ∷ xs) = end_or x xs

front_of : {A : Type 0} (xs : List A) (x : A) → front (xs ++ x ∷ []) ≡ xs
front_of [] x = refl
front_of (y ∷ []) x = refl
front_of (y ∷ z ∷ zs) x = ap (λ ys. y ∷ ys) (front_of (z ∷ zs) x)

end_of : {A : Type 0} (d : A) (xs : List A) (x : A) → end_or d (xs ++ x ∷ []) ≡ x
end_of d [] x = refl
end_of d (y ∷ ys) x = end_of y ys x

pub back_more : (b : List Put) (xs : List (Option Record)) (o : Option Record) (p : Put) (before now later : Contents) → are_distinct (put_keys b) ≡ true → length xs < length b → p ≡ get_or b (length xs) p → later ≡ restored p o now
    → ArePut b (xs ++ o ∷ []) before now → ArePut b xs before later
back_more b xs o p before now later once less is back it = record {
  few = omega (arith, less);
  there = sym (front_of xs o) ∙ ap front split ∙ front_of (found_at (take i b) before) (record_at before p.rec.key);
  left = back ∙ ap (restored p o) put ∙ restored_back (all_put (take i b) before) p o (at ∙ ap (λ (x : Option (List Pair)). option_map (λ (columns : List Pair). record_of (p.rec.key, columns)) x) (sym (all_put_outside (take i b) before p.rec.key (early b i p once less is))));
}
  where
    i : ℕ
    i = length xs

    longer : length (xs ++ o ∷ []) ≡ i + 1
    longer = length-append xs (o ∷ [])

    split : xs ++ o ∷ [] ≡ found_at (take i b) before ++ record_at before p.rec.key ∷ []
    split = it.there ∙ ap (λ n. found_at (take n b) before) longer ∙ ap (λ ps. found_at ps before) (take_next b i p less is) ∙ map-append (λ (q : Put). record_at before q.rec.key) (take i b) (p ∷ [])

    at : o ≡ record_at before p.rec.key
    at = sym (end_of o xs o) ∙ ap (end_or o) split ∙ end_of o (found_at (take i b) before) (record_at before p.rec.key)

    put : now ≡ insert (all_put (take i b) before) p.rec.key p.rec.columns
    put = it.left ∙ ap (λ n. all_put (take n b) before) longer ∙ ap (λ ps. all_put ps before) (take_next b i p less is) ∙ all_put_more (take i b) p before

pub back_again : (b : List Put) (found : List (Option Record)) (before now : Contents) → length found ≡ 0 → ArePut b found before now → now ≡ before
back_again b found before now none it = it.left ∙ ap (λ n. all_put (take n b) before) none

-- of those that were put, what was found is what the first of the list says
pub first_put : (b : List Put) (n : ℕ) (before now : Contents) → n ≤ length b → now ≡ all_put (take n b) before → ArePut b (take n (found_at b before)) before now
first_put b n before now few put = record {
  few = subst (λ (k : ℕ). k ≤ length b) (sym size) few;
  there = take-map (λ (q : Put). record_at before q.rec.key) n b ∙ ap (λ k. found_at (take k b) before) (sym size);
  left = put ∙ ap (λ k. all_put (take k b) before) (sym size);
}
  where
    size : length (take n (found_at b before)) ≡ n
    size = omega (arith, length-take n (found_at b before), length-map b (λ (q : Put). record_at before q.rec.key), few)
