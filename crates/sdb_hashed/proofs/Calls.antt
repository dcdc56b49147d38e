-- What a call on one part does to all of them.
use Rattle.std.proofs.Common.{◌≡◌, List, true, false, cond, Option, Some, None, refl, sym, ap, subst, ◌∙◌}
use Rattle.std.specs.Prelude.{IsSome, IfOk, OnOk, OnErr, Result, Ok, Err}
use Rattle.std.specs.Option.{option_map}
use Rattle.std.specs.List.{IsDistinct}
use Rattle.std.specs.Map.{lookup, keys_of}
use Rattle.std.specs.BTreeMap.{BTreeMap, WritesThrough}
use Rattle.std.specs.Ordering.{eq_by_cmp}
use Rattle.sdb_hashed.specs.Types.{Condition, Key, Ordering, Pair, Record, Reply, Request}
use Rattle.std.proofs.lemmas.Map.Keys.{IsDistinct-from_sorted}
use Rattle.std.specs.FinMap.{get, insert, remove, empty, get-empty, same_map}
use Rattle.sdb_types.specs.declared.record.Reply.TheVariants.{Applied, NotMet}
use Rattle.sdb_types.specs.declared.record.Request.TheVariants.{PutIf, DeleteIf}
use Rattle.sdb_types.specs.Order.{key_cmp}
use Rattle.sdb_types.specs.Contents.{Contents, record_of, record_at, holds, put_reply, after, reply_to}
use Rattle.sdb_types.proofs.Public.{key_exact, key_total}
use Rattle.sdb_store.specs.Store.{Answers}
use Rattle.sdb_hashed.specs.Gathered.{contents_of_all, in_part, part_at, HasOwnKeys, ChangesAt}
use Rattle.sdb_hashed.proofs.Changes.{IsLocal, nothing_local, insert_local, remove_absent}
use Rattle.sdb_hashed.proofs.Gather.{held_get, changed_own, changed_held}

module _ {K V : Type 0} (cmp : K → K → Ordering) (is_known : (a b : K) → (eq_by_cmp cmp a b ≡ true → a ≡ b) × (a ≡ b → eq_by_cmp cmp a b ≡ true)) (part : Key → K) (f : V → Contents) where
  ---- one part is found

  -- what one part has at its keys, all parts have
  pub found_part : (es : List (K × V)) → IsDistinct (eq_by_cmp cmp) (keys_of es) → HasOwnKeys (eq_by_cmp cmp) part f es → (k : Key) (o : Option V) → o ≡ lookup (eq_by_cmp cmp (part k)) es → in_part (option_map f o) k ≡ get (contents_of_all f es) k
  found_part es distinct own k o at = ap (λ p. in_part (option_map f p) k) at ∙ sym (held_get (eq_by_cmp cmp) is_known part f es distinct own k)

  ---- one part changes

  module _ (old new : BTreeMap K V) (k : Key) (v w : V) (distinct : IsDistinct (eq_by_cmp cmp) (keys_of old.entries)) (own : HasOwnKeys (eq_by_cmp cmp) part f old.entries) (at : Some v ≡ lookup (eq_by_cmp cmp (part k)) old.entries) (h : WritesThrough cmp (cmp (part k)) old w new) where
    was : (q : Key) → in_part (part_at (eq_by_cmp cmp) f old.entries (part k)) q ≡ get (f v) q
    was q = ap (λ o. in_part (option_map f o) q) (sym at)

    changes : (m : Contents) → f w ≡ m → ChangesAt (eq_by_cmp cmp) f (part k) m old.entries new.entries
    changes m e s =
        ap (option_map f) ((h.3 (subst (λ (o : Option V). IsSome o) at refl)).0 s)
        ∙ elim (eq_by_cmp cmp (part k) s) as (λ b. option_map f (cond b (Some w) (lookup (eq_by_cmp cmp s) old.entries)) ≡ cond b (Some m) (part_at (eq_by_cmp cmp) f old.entries s)) [ true ↦ ap Some e | false ↦ refl ]

    pub through_own : {A E : Type 0} (op : Contents → Contents) → IsLocal k op → (r : Result A E) → OnOk r (f w ≡ op (f v)) → OnErr r (f w ≡ f v) → HasOwnKeys (eq_by_cmp cmp) part f new.entries
    through_own op local (Ok x) ok err = changed_own (eq_by_cmp cmp) is_known part f op k local old.entries new.entries (f v) own was (changes (op (f v)) ok)
    through_own op local (Err e) ok err = changed_own (eq_by_cmp cmp) is_known part f (λ m. m) k (nothing_local k) old.entries new.entries (f v) own was (changes (f v) err)

    pub through_ok : {A E : Type 0} (op : Contents → Contents) → IsLocal k op → (m : Contents) → contents_of_all f old.entries ≡ m → (r : Result A E) → OnOk r (f w ≡ op (f v)) → OnOk r (contents_of_all f new.entries ≡ op m)
    through_ok op local m view (Ok x) ok = changed_held (eq_by_cmp cmp) is_known part f op k local old.entries new.entries (f v) own was (changes (op (f v)) ok) distinct (IsDistinct-from_sorted cmp (keys_of new.entries) h.4) ∙ ap op view
    through_ok op local m view (Err e) ok = tt

    pub through_err : {A E : Type 0} (m : Contents) → contents_of_all f old.entries ≡ m → (r : Result A E) → OnErr r (f w ≡ f v) → OnErr r (contents_of_all f new.entries ≡ m)
    through_err m view (Ok x) err = tt
    through_err m view (Err e) err = changed_held (eq_by_cmp cmp) is_known part f (λ n. n) k (nothing_local k) old.entries new.entries (f v) own was (changes (f v) err) distinct (IsDistinct-from_sorted cmp (keys_of new.entries) h.4) ∙ view

  ---- one part is added

  module _ (es fs : List (K × V)) (distinct : IsDistinct (eq_by_cmp cmp) (keys_of es)) (apart : IsDistinct (eq_by_cmp cmp) (keys_of fs)) (own : HasOwnKeys (eq_by_cmp cmp) part f es) where
    module _ (agree : (s : K) → lookup (eq_by_cmp cmp s) fs ≡ lookup (eq_by_cmp cmp s) es) where
      pub kept_own : HasOwnKeys (eq_by_cmp cmp) part f fs
      kept_own s key foreign = ap (λ o. in_part (option_map f o) key) (agree s) ∙ own s key foreign

      pub kept_held : contents_of_all f fs ≡ contents_of_all f es
      kept_held = same_map key_total key_exact (contents_of_all f fs) (contents_of_all f es) (λ q.
          held_get (eq_by_cmp cmp) is_known part f fs apart kept_own q ∙ ap (λ o. in_part (option_map f o) q) (agree (part q)) ∙ sym (held_get (eq_by_cmp cmp) is_known part f es distinct own q))

    module _ (k : Key) (v : List Pair) (none : None ≡ lookup (eq_by_cmp cmp (part k)) es) where
      blank : (q : Key) → in_part (part_at (eq_by_cmp cmp) f es (part k)) q ≡ get {R = key_cmp} empty q
      blank q = ap (λ o. in_part (option_map f o) q) (sym none) ∙ sym (get-empty key_cmp q)

      pub added_own : {A E : Type 0} (r : Result A E) → OnOk r (ChangesAt (eq_by_cmp cmp) f (part k) (insert empty k v) es fs) → OnErr r ((s : K) → lookup (eq_by_cmp cmp s) fs ≡ lookup (eq_by_cmp cmp s) es) → HasOwnKeys (eq_by_cmp cmp) part f fs
      added_own (Ok x) ok err = changed_own (eq_by_cmp cmp) is_known part f (λ m. insert m k v) k (insert_local k v) es fs empty own blank ok
      added_own (Err e) ok err = kept_own err

      pub added_held : {A E : Type 0} (m : Contents) → contents_of_all f es ≡ m → (r : Result A E) → OnOk r (ChangesAt (eq_by_cmp cmp) f (part k) (insert empty k v) es fs) → OnOk r (contents_of_all f fs ≡ insert m k v)
      added_held m view (Ok x) ok = changed_held (eq_by_cmp cmp) is_known part f (λ m. insert m k v) k (insert_local k v) es fs empty own blank ok distinct apart ∙ ap (λ n. insert n k v) view
      added_held m view (Err e) ok = tt

    pub added_err : {A E : Type 0} (m : Contents) → contents_of_all f es ≡ m → (r : Result A E) → OnErr r ((s : K) → lookup (eq_by_cmp cmp s) fs ≡ lookup (eq_by_cmp cmp s) es) → OnErr r (contents_of_all f fs ≡ m)
    added_err m view (Ok x) err = tt
    added_err m view (Err e) err = kept_held err ∙ view

---- replies

pub on_err : {A E P : Type 0} (r : Result A E) → P → OnErr r P
on_err (Ok x) p = tt
on_err (Err e) p = p

pub record_along : {E : Type 0} (r : Result (Option Record) E) (m n : Contents) (key : Key) → get m key ≡ get n key → IfOk r (λ found. found ≡ record_at m key) → IfOk r (λ found. found ≡ record_at n key)
record_along r m n key same h =
    subst (λ (o : Option (List Pair)). IfOk r (λ found. found ≡ option_map (λ columns. record_of (key, columns)) o)) same h

pub leaves : {E : Type 0} (q : Request) (r : Result Reply E) (m n : Contents) → IfOk r (λ reply. Answers q reply m n) → OnOk r (n ≡ after q m)
leaves q (Ok reply) m n h = h.1
leaves q (Err e) m n h = tt

pub answers_along : {E : Type 0} (q : Request) (r : Result Reply E) (m n m' n' : Contents) → reply_to q m ≡ reply_to q m' → OnOk r (n' ≡ after q m') → IfOk r (λ reply. Answers q reply m n) → IfOk r (λ reply. Answers q reply m' n')
answers_along q (Ok reply) m n m' n' e done h = (h.0 ∙ e, done)
answers_along q (Err e') m n m' n' e done h = tt

-- the reply to a write depends on what is at its key
pub write_reply : (condition : Condition) (k : Key) (o p : Option (List Pair)) → o ≡ p → put_reply condition (option_map (λ columns. record_of (k, columns)) o) ≡ put_reply condition (option_map (λ columns. record_of (k, columns)) p)
write_reply condition k o p e = ap (λ q. put_reply condition (option_map (λ columns. record_of (k, columns)) q)) e

---- writes where there is nothing at the key

module _ (condition : Condition) (m n : Contents) (k : Key) (none : None ≡ get m k) where
  pub put_unmet : (v : List Pair) → false ≡ holds condition None → n ≡ m → Answers (PutIf (record_of (k, v)) condition) (NotMet None) m n
  put_unmet v h e = (
    ap (λ b. cond b Applied (NotMet None)) h ∙ write_reply condition k None (get m k) none,
    e ∙ ap (λ b. cond b (insert m k v) m) h ∙ ap (λ o. cond (holds condition (option_map (λ columns. record_of (k, columns)) o)) (insert m k v) m) none,
  )

  pub put_first : (v : List Pair) → true ≡ holds condition None → n ≡ insert m k v → Answers (PutIf (record_of (k, v)) condition) Applied m n
  put_first v h e = (
    ap (λ b. cond b Applied (NotMet None)) h ∙ write_reply condition k None (get m k) none,
    e ∙ ap (λ b. cond b (insert m k v) m) h ∙ ap (λ o. cond (holds condition (option_map (λ columns. record_of (k, columns)) o)) (insert m k v) m) none,
  )

  pub delete_none : (reply : Reply) → reply ≡ put_reply condition None → n ≡ m → Answers (DeleteIf k condition) reply m n
  delete_none reply h e = (
    h ∙ write_reply condition k None (get m k) none,
    e ∙ elim (holds condition (record_at m k)) as (λ b. m ≡ cond b (remove m k) m) [ true ↦ sym (remove_absent m k (sym none)) | false ↦ refl ],
  )
