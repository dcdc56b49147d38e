-- Records copied to a box, and taken out of one.
use Rattle.std.proofs.Common.{◌≡◌, ℕ, ◌+◌, ◌<◌, ◌≤◌, ◌⊎◌, inl, inr, Bool, true, false, not, cond, List, length, get_or, take, Option, Some, None, [], option_map, refl, sym, ap, subst, ◌∙◌, arith}
use Rattle.std.specs.Prelude.{All, OnOk, Result, Ok, Err}
use Rattle.std.specs.FinMap.{get, insert, remove, get-insert, get-remove}
use Rattle.std.specs.Ordering.{eq_by_cmp}
use Rattle.std.proofs.lemmas.Bool.{cases_lt}
use Rattle.std.proofs.lemmas.List.{length-map}
use Rattle.std.proofs.lemmas.List.Elements.{All-more}
use Rattle.sdb_types.specs.declared.key.Key.{Key}
use Rattle.sdb_types.specs.declared.pair.Pair.{Pair}
use Rattle.sdb_types.specs.declared.record.Condition.{Condition}
use Rattle.sdb_types.specs.declared.record.Condition.TheVariants.{Absent, Version}
use Rattle.sdb_types.specs.declared.record.Record.{Record}
use Rattle.sdb_types.specs.declared.record.Span.{Span}
use Rattle.sdb_types.specs.declared.record.Request.{Request}
use Rattle.sdb_types.specs.declared.record.Request.TheVariants.{PutIf, DeleteIf}
use Rattle.sdb_types.specs.declared.record.Reply.{Reply}
use Rattle.sdb_types.specs.declared.record.Reply.TheVariants as reply
use Rattle.sdb_types.specs.Order.{has_key, key_cmp, same_key}
use Rattle.sdb_types.specs.Contents.{Contents, holds, in_span, record_at, record_of, rows_in, after}
use Rattle.sdb_types.proofs.Public.{by_test, clash, key_total, same_key_exact, same_key_is, same_key_self, take_all}
use Rattle.sdb_store.specs.Store.{Performs}
use Rattle.sdb_shards.specs.declared.part.Part.{Part}
use Rattle.sdb_shards.specs.declared.refused.MoveRefused.{MoveRefused}
use Rattle.sdb_shards.specs.Boxes.{HaveGrown, IsBoxCall, contents_at, contents_of, held_at, held_in}
use Rattle.sdb_shards.specs.Moves.{AreFree, ChangesOnly, HasVersion, IsAtMost, IsBlocked, IsCopied, IsCopyRefusal, IsDone, IsFree, IsGone, IsInTheWay, IsVersionOf, Shrinks, keys_of}
use Rattle.sdb_shards.proofs.Concerned.{Concerns, after_outside}
use Rattle.sdb_shards.proofs.Risen.{call_grown, grown_then, none_failed, refused_as}
use Rattle.sdb_shards.proofs.Routes.{as_many, now_at, others_at, was_at}
use Rattle.sdb_shards.proofs.Rows.{at_row, key_at, no_row, place_of_key, rows_hold, rows_outside, same_item}

---- what a call leaves

-- A call leaves the contents as before or as after it.
either_way : (q : Request) (r : Reply) (m n : Contents) → Performs q r m n → (n ≡ m) ⊎ (n ≡ after q m)
either_way q reply.Fault m n h = h
either_way q reply.NoMemory m n h = inl h
either_way q (reply.Found found) m n h = inr h.1
either_way q (reply.Rows rows) m n h = inr h.1
either_way q reply.Applied m n h = inr h.1
either_way q (reply.NotMet found) m n h = inr h.1
either_way q (reply.NotAll k found) m n h = inr h.1

-- and as after it where it is done
done_way : (q : Request) (r : Reply) (m n : Contents) → IsDone r → Performs q r m n → n ≡ after q m
done_way q reply.Fault m n d h = absurd d
done_way q reply.NoMemory m n d h = absurd d
done_way q (reply.Found found) m n d h = h.1
done_way q (reply.Rows rows) m n d h = h.1
done_way q reply.Applied m n d h = h.1
done_way q (reply.NotMet found) m n d h = h.1
done_way q (reply.NotAll k found) m n d h = h.1

module _ (at : ℕ) (q : Request) (r : Reply) (old new : List Part) (call : IsBoxCall at q r old new) (inside : at < length old) where
  -- the contents of the box before and after the call
  either_at : (contents_at new at ≡ contents_at old at) ⊎ (contents_at new at ≡ after q (contents_at old at))
  either_at = elim (either_way q r (contents_of call.before) (contents_of call.now) call.performed) [
    | inl e ↦ inl (now_at at q r old new call inside ∙ e ∙ sym (was_at at q r old new call inside))
    | inr e ↦ inr (now_at at q r old new call inside ∙ e ∙ ap (after q) (sym (was_at at q r old new call inside)))
  ]

  pub done_at : IsDone r → contents_at new at ≡ after q (contents_at old at)
  done_at d = now_at at q r old new call inside ∙ done_way q r (contents_of call.before) (contents_of call.now) d call.performed ∙ ap (after q) (sym (was_at at q r old new call inside))

  pub changes_only : (p : Key → Bool) → Concerns p q → ChangesOnly p at old new
  changes_only p own = record {
    size = as_many at q r old new call inside;
    others = others_at at q r old new call inside;
    outside = λ k out. elim either_at [
      | inl e ↦ ap (λ m. get m k) e
      | inr e ↦ ap (λ m. get m k) e ∙ after_outside p q (contents_at old at) own k out
    ];
    grown = call_grown at q r old new call inside;
  }

---- changes one after another

pub unchanged : (p : Key → Bool) (at : ℕ) (ps : List Part) → ChangesOnly p at ps ps
unchanged p at ps = record { size = refl; others = λ i h. refl; outside = λ k h. refl; grown = none_failed ps }

pub changed_then : (p : Key → Bool) (at : ℕ) (a b c : List Part) → ChangesOnly p at a b → ChangesOnly p at b c → ChangesOnly p at a c
changed_then p at a b c f g = record {
  size = g.size ∙ f.size;
  others = λ i h. g.others i h ∙ f.others i h;
  outside = λ k h. g.outside k h ∙ f.outside k h;
  grown = grown_then a b c f.grown g.grown;
}

pub wider : (p s : Key → Bool) (at : ℕ) (a b : List Part) → ((k : Key) → s k ≡ false → p k ≡ false) → ChangesOnly p at a b → ChangesOnly s at a b
wider p s at a b out f = record { size = f.size; others = f.others; outside = λ k h. f.outside k (out k h); grown = f.grown }

-- boxes that hold what they held
pub held_same : (p : Key → Bool) (at : ℕ) (old new : List Part) → held_in new ≡ held_in old → HaveGrown old new → ChangesOnly p at old new
held_same p at old new e grown = record {
  size = sym (length-map new contents_of) ∙ ap length e ∙ length-map old contents_of;
  others = λ i h. ap (λ ms. held_at ms i) e;
  outside = λ k h. ap (λ ms. get (held_at ms at) k) e;
  grown = grown;
}

-- one record more of a list
pub one_more : (rows : List Record) (i at : ℕ) (r : Record) (a b c : List Part) → i < length rows → r ≡ get_or rows i r → ChangesOnly (has_key (keys_of rows)) at a b → ChangesOnly (λ k. same_key k r.key) at b c → ChangesOnly (has_key (keys_of rows)) at a c
one_more rows i at r a b c less is f g = changed_then (has_key (keys_of rows)) at a b c f
    (wider (λ k. same_key k r.key) (has_key (keys_of rows)) at b c (λ k out. ap (λ (x : Record). same_key k x.key) is ∙ key_at rows i k r less out) g)

---- records taken out

shrunk_same : (m : Contents) → Shrinks m m
shrunk_same m k = inr refl

pub none_shrunk : (m n : Contents) → n ≡ m → Shrinks m n
none_shrunk m n e k = inr (ap (λ x. get x k) e)

pub shrunk_then : (a b c : Contents) → Shrinks a b → Shrinks b c → Shrinks a c
shrunk_then a b c f g k = elim (g k) [
  | inl none ↦ inl none
  | inr same ↦ elim (f k) [ inl none ↦ inl (same ∙ none) | inr before ↦ inr (same ∙ before) ]
]

remove_shrinks : (m : Contents) (key : Key) → Shrinks m (remove m key)
remove_shrinks m key k =
    elim (eq_by_cmp key_cmp k key) as (λ b. eq_by_cmp key_cmp k key ≡ b → (get (remove m key) k ≡ None) ⊎ (get (remove m key) k ≡ get m k)) [
      | true ↦ λ t. inl (get-remove key_total m key k ∙ ap (λ b. cond b None (get m k)) t)
      | false ↦ λ f. inr (get-remove key_total m key k ∙ ap (λ b. cond b None (get m k)) f)
    ] refl

delete_shrinks : (m : Contents) (key : Key) (condition : Condition) → Shrinks m (after (DeleteIf key condition) m)
delete_shrinks m key condition = elim (holds condition (record_at m key)) as (λ b. Shrinks m (cond b (remove m key) m)) [ true ↦ remove_shrinks m key | false ↦ shrunk_same m ]

pub call_shrinks : (at : ℕ) (key : Key) (condition : Condition) (r : Reply) (old new : List Part) → IsBoxCall at (DeleteIf key condition) r old new → at < length old → Shrinks (contents_at old at) (contents_at new at)
call_shrinks at key condition r old new call inside = elim (either_at at (DeleteIf key condition) r old new call inside) [
  | inl e ↦ none_shrunk (contents_at old at) (contents_at new at) e
  | inr e ↦ subst (Shrinks (contents_at old at)) (sym e) (delete_shrinks (contents_at old at) key condition)
]

record_some : (m : Contents) (r : Record) → get m r.key ≡ Some r.columns → record_at m r.key ≡ Some r
record_some m r e = ap (λ (o : Option (List Pair)). option_map (λ columns. record_of (r.key, columns)) o) e

tied_self : (k : Key) → eq_by_cmp key_cmp k k ≡ true
tied_self k = sym (same_key_is k k) ∙ same_key_self k

-- a record that is there is taken out on its version
deleted : (m : Contents) (r : Record) (version : Condition) → IsVersionOf r version → IsAtMost r m → get (after (DeleteIf r.key version) m) r.key ≡ None
deleted m r Absent is most = absurd is
deleted m r (Version id state) is most = elim most [
  | inl none ↦
      ap (λ (o : Option (List Pair)). get (cond (holds (Version id state) (option_map (λ columns. record_of (r.key, columns)) o)) (remove m r.key) m) r.key) none ∙ none
  | inr some ↦
      ap (λ b. get (cond b (remove m r.key) m) r.key) (ap (holds (Version id state)) (record_some m r some) ∙ is.1)
      ∙ get-remove key_total m r.key r.key ∙ ap (λ b. cond b None (get m r.key)) (tied_self r.key)
]

pub call_gone : (at : ℕ) (rec : Record) (version : Condition) (r : Reply) (old new : List Part) → IsBoxCall at (DeleteIf rec.key version) r old new → at < length old → IsVersionOf rec version → IsDone r → IsGone (contents_at old at) (contents_at new at) rec
call_gone at rec version r old new call inside is done has most =
    ap (λ m. get m rec.key) (done_at at (DeleteIf rec.key version) r old new call inside done) ∙ deleted (contents_at old at) rec version is most

pub on_ok : {A E P Q : Type 0} (r : Result A E) → (P → Q) → OnOk r P → OnOk r Q
on_ok (Ok x) f h = f h
on_ok (Err e) f h = tt

-- what was taken out up to a place
abbrev pub AreGone : List Record → ℕ → Contents → Contents → Type 0
AreGone rows i old new = (j : ℕ) (d : Record) → j < i → IsGone old new (get_or rows j d)

pub gone_more : (rows : List Record) (i : ℕ) (r : Record) (a b c : Contents) → i < length rows → r ≡ get_or rows i r → Shrinks a b → Shrinks b c → AreGone rows i a b → IsGone b c r → AreGone rows (i + 1) a c
gone_more rows i r a b c less is first next before here j d below has most = elim (cases_lt j i) [
  | inl early ↦ later (before j d early has most) (next (get_or rows j d).key)
  | inr late ↦
      let same : get_or rows j d ≡ r = ap (λ n. get_or rows n d) (omega (arith, below, late)) ∙ same_item rows i r d less is in
      ap (λ (x : Record). get c x.key) same ∙ here (subst HasVersion same has) (at_most (subst (λ (x : Record). IsAtMost x a) same most) (first r.key))
]
  where
    later : {o p : Option (List Pair)} → o ≡ None → (p ≡ None) ⊎ (p ≡ o) → p ≡ None
    later none how = elim how [ inl e ↦ e | inr e ↦ e ∙ none ]

    at_most : IsAtMost r a → (get b r.key ≡ None) ⊎ (get b r.key ≡ get a r.key) → IsAtMost r b
    at_most m how = elim how [
      | inl none ↦ inl none
      | inr same ↦ elim m [ inl none ↦ inl (same ∙ none) | inr some ↦ inr (same ∙ some) ]
    ]

---- records copied

-- what stands at keys is what some contents have there, or nothing
abbrev pub AreWithin : List Record → Contents → Contents → Type 0
AreWithin rows m b = (k : Key) → has_key (keys_of rows) k ≡ true → (get b k ≡ None) ⊎ (get b k ≡ get m k)

abbrev pub AreCopied : List Record → ℕ → Contents → Contents → Type 0
AreCopied rows i m b = (j : ℕ) (d : Record) → j < i → get b (get_or rows j d).key ≡ get m (get_or rows j d).key

-- The first records are copied, where there was at most what the contents have.
abbrev pub HasCopied : List Record → ℕ → Contents → Contents → Type 0
HasCopied rows i old b = (m : Contents) → All (λ r. get m r.key ≡ Some r.columns) rows → AreWithin rows m old → AreWithin rows m b × AreCopied rows i m b

put_here : (r : Record) (m b : Contents) → get m r.key ≡ Some r.columns → (get b r.key ≡ None) ⊎ (get b r.key ≡ get m r.key) → get (after (PutIf r Absent) b) r.key ≡ get m r.key
put_here r m b held how = elim how [
  | inl none ↦
      ap (λ (o : Option (List Pair)). get (cond (holds Absent (option_map (λ columns. record_of (r.key, columns)) o)) (insert b r.key r.columns) b) r.key) none
      ∙ get-insert key_total b r.key r.columns r.key ∙ ap (λ x. cond x (Some r.columns) (get b r.key)) (tied_self r.key) ∙ sym held
  | inr same ↦
      ap (λ (o : Option (List Pair)). get (cond (holds Absent (option_map (λ columns. record_of (r.key, columns)) o)) (insert b r.key r.columns) b) r.key) (same ∙ held) ∙ same
]

among : (rows : List Record) (i : ℕ) (r : Record) → i < length rows → r ≡ get_or rows i r → has_key (keys_of rows) r.key ≡ true
among rows i r less is = by_test (has_key (keys_of rows) r.key) (λ t. t) (λ f. clash (sym (same_key_self r.key) ∙ ap (λ (x : Record). same_key r.key x.key) is ∙ key_at rows i r.key r less f))

pub copied_more : (rows : List Record) (i : ℕ) (r : Record) (old b c : Contents) → i < length rows → r ≡ get_or rows i r → c ≡ after (PutIf r Absent) b → HasCopied rows i old b → HasCopied rows (i + 1) old c
copied_more rows i r old b c less is step before m held within = (
  λ k has. by_test (same_key k r.key) (λ t. inr (at_key k t)) (λ f. elim (was.0 k has) [ inl none ↦ inl (aside k f ∙ none) | inr same ↦ inr (aside k f ∙ same) ]),
  λ j d below. elim (cases_lt j i) [
    | inl early ↦ by_test (same_key (get_or rows j d).key r.key) (λ t. at_key (get_or rows j d).key t) (λ f. aside (get_or rows j d).key f ∙ was.1 j d early)
    | inr late ↦
        let same : get_or rows j d ≡ r = ap (λ n. get_or rows n d) (omega (arith, below, late)) ∙ same_item rows i r d less is in
        at_key (get_or rows j d).key (ap (λ (x : Record). same_key x.key r.key) same ∙ same_key_self r.key)
  ],
)
  where
    was : AreWithin rows m b × AreCopied rows i m b
    was = before m held within

    mine : get m r.key ≡ Some r.columns
    mine = subst (λ (x : Record). get m x.key ≡ Some x.columns) (sym is) (held i r less)

    at_key : (k : Key) → same_key k r.key ≡ true → get c k ≡ get m k
    at_key k t = subst (λ (x : Key). get c x ≡ get m x) (sym (same_key_exact k r.key t)) (ap (λ x. get x r.key) step ∙ put_here r m b mine (was.0 r.key (among rows i r less is)))

    aside : (k : Key) → same_key k r.key ≡ false → get c k ≡ get b k
    aside k f = ap (λ x. get x k) step ∙ after_outside (λ x. same_key x r.key) (PutIf r Absent) b (same_key_self r.key) k f

pub copied_all : (rows : List Record) (i : ℕ) (old b : Contents) → length rows ≤ i → HasCopied rows i old b → (m : Contents) → IsCopied rows m old b
copied_all rows i old b all before m held within k has =
    let d = record_of (k, []) in
    let p = place_of_key rows k d has in
    subst (λ (x : Key). get b x ≡ get m x) (sym (same_key_exact k (get_or rows p.0 d).key p.2)) ((before m held within).1 p.0 d (omega (arith, p.1, all)))

---- a partition copied

module _ (span : Span) (m : Contents) (old mid new : Contents) (free : AreFree (rows_in span m) (rows_in span old)) (shrinks : Shrinks old mid) (gone : All (IsGone old mid) (rows_in span old)) where
  -- what stays of the partition in the other box is what the home has
  stays : (k : Key) → in_span span k ≡ true → (get mid k ≡ None) ⊎ (get mid k ≡ get m k)
  stays k inside = elim (shrinks k) [
    | inl none ↦ inl none
    | inr same ↦ there (get old k) refl same
  ]
    where
      mine : (v : List Pair) → get old k ≡ Some v → get mid k ≡ get old k → IsFree (rows_in span m) (record_of (k, v)) → IsGone old mid (record_of (k, v)) → (get mid k ≡ None) ⊎ (get mid k ≡ get m k)
      mine v e same how here = elim how [
        | inl has ↦ inl (here has (inr e))
        | inr one ↦
            let row : get m k ≡ Some v = subst (λ (r : Record). get m r.key ≡ Some r.columns) (one.3 ∙ one.4) (rows_hold span m one.0 one.1 one.2) in
            inr (same ∙ e ∙ sym row)
      ]

      there : (o : Option (List Pair)) → get old k ≡ o → get mid k ≡ get old k → (get mid k ≡ None) ⊎ (get mid k ≡ get m k)
      there None e same = inl (same ∙ e)
      there (Some v) e same = mine v e same
          (at_row span old (IsFree (rows_in span m)) k v free inside e)
          (at_row span old (IsGone old mid) k v gone inside e)

  pub partition_copied : IsCopied (rows_in span m) m mid new → ((k : Key) → has_key (keys_of (rows_in span m)) k ≡ false → get new k ≡ get mid k) → (k : Key) → in_span span k ≡ true → get new k ≡ get m k
  partition_copied copied aside k inside = by_test (has_key (keys_of (rows_in span m)) k)
      (λ has. copied (rows_hold span m) (λ q h. stays q (within q h)) k has)
      (λ out. aside k out ∙ nothing (stays k inside) (no_row span m k inside out) ∙ sym (no_row span m k inside out))
    where
      within : (q : Key) → has_key (keys_of (rows_in span m)) q ≡ true → in_span span q ≡ true
      within q h = by_test (in_span span q) (λ t. t) (λ f. clash (sym h ∙ rows_outside span m q f))

      nothing : {o p : Option (List Pair)} → (o ≡ None) ⊎ (o ≡ p) → p ≡ None → o ≡ None
      nothing how none = elim how [ inl e ↦ e | inr e ↦ e ∙ none ]

pub not_false : (b : Bool) → not b ≡ false → b ≡ true
not_false true e = refl
not_false false e = absurd (cc)

-- a record in the way
pub in_the_way : (there coming : List Record) (i : ℕ) (r : Record) (key : Key) → i < length there → r ≡ get_or there i r → (IsFree coming r → ⊥) → key ≡ r.key → IsBlocked coming there key
in_the_way there coming i r key less is blocks at = (i, r, less, sym is, (sym at, λ has. blocks (inl has), λ one. blocks (inr one)))

-- one record more that is free
pub free_more : (there coming : List Record) (i : ℕ) (r : Record) → i < length there → r ≡ get_or there i r → AreFree coming (take i there) → IsFree coming r → AreFree coming (take (i + 1) there)
free_more there coming i r less is before one = All-more (IsFree coming) there i r less before (subst (IsFree coming) is one)

pub free_all : (there coming : List Record) (i : ℕ) → length there ≤ i → AreFree coming (take i there) → AreFree coming there
free_all there coming i end before = subst (AreFree coming) (take_all there i end) before

---- the steps of a copy

-- changes at the keys of a span's rows are changes in the span
pub into_span : (span : Span) (at : ℕ) (b c : List Part) (rows : List Record) (m : Contents) → rows ≡ rows_in span m → ChangesOnly (has_key (keys_of rows)) at b c → ChangesOnly (in_span span) at b c
into_span span at b c rows m are change = wider (has_key (keys_of rows)) (in_span span) at b c (λ k out. ap (λ x. has_key (keys_of x) k) are ∙ rows_outside span m k out) change

pub taken_out : (span : Span) (at : ℕ) (a b c : List Part) (rows : List Record) (m : Contents) → held_in b ≡ held_in a → HaveGrown a b → rows ≡ rows_in span m → ChangesOnly (has_key (keys_of rows)) at b c → ChangesOnly (in_span span) at a c
taken_out span at a b c rows m same grown are change = changed_then (in_span span) at a b c (held_same (in_span span) at a b same grown) (into_span span at b c rows m are change)

pub then_copied : (span : Span) (at : ℕ) (a b c : List Part) (rows : List Record) (m : Contents) → ChangesOnly (in_span span) at a b → rows ≡ rows_in span m → ChangesOnly (has_key (keys_of rows)) at b c → ChangesOnly (in_span span) at a c
then_copied span at a b c rows m before are change = changed_then (in_span span) at a b c before (into_span span at b c rows m are change)

pub copy_whole : (span : Span) (from to : ℕ) (old two three four : List Part) (rows there : List Record) → held_in two ≡ held_in old → rows ≡ rows_in span (contents_at old from) → there ≡ rows_in span (contents_at old to)
    → AreFree (rows_in span (contents_at old from)) (rows_in span (contents_at old to))
    → Shrinks (contents_at two to) (contents_at three to) → All (IsGone (contents_at two to) (contents_at three to)) there
    → ChangesOnly (has_key (keys_of rows)) to three four → ((m : Contents) → IsCopied rows m (contents_at three to) (contents_at four to))
    → (k : Key) → in_span span k ≡ true → get (contents_at four to) k ≡ get (contents_at old from) k
copy_whole span from to old two three four rows there same rows_are there_are free shrinks gone change copied =
    let m = contents_at old from in
    let o = contents_at old to in
    let mid = contents_at three to in
    let held : contents_at two to ≡ o = ap (λ ms. held_at ms to) same in
    partition_copied span m o mid (contents_at four to) free
    (subst (λ (x : Contents). Shrinks x mid) held shrinks)
    (subst (λ (x : Contents). All (IsGone x mid) (rows_in span o)) held (subst (All (IsGone (contents_at two to) mid)) there_are gone))
    (subst (λ (x : List Record). IsCopied x m mid (contents_at four to)) rows_are (copied m))
    (λ k out. change.outside k (ap (λ x. has_key (keys_of x) k) rows_are ∙ out))

pub blocked_along : (rows there x y : List Record) (old new : List Part) (e : MoveRefused) → rows ≡ x → there ≡ y → IsInTheWay rows there e → IsCopyRefusal x y old new e
blocked_along rows there x y old new e f g why =
    refused_as e (λ h. h) (λ h. absurd h) (λ key blocked. subst (λ (z : List Record). IsBlocked z y key) f (subst (λ (z : List Record). IsBlocked rows z key) g blocked)) why

pub free_along : (rows there x y : List Record) → rows ≡ x → there ≡ y → AreFree rows there → AreFree x y
free_along rows there x y e f free = subst (λ (z : List Record). AreFree z y) e (subst (AreFree rows) f free)
