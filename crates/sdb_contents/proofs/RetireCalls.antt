-- Calls on stores, one after the other, and what each store then holds.
use Rattle.std.proofs.Common.{◌≡◌, ◌⊎◌, ◌==◌, inl, inr, ℕ, zero, suc, List, [], ◌∷◌, ◌++◌, take, slice_set, true, false, Some, refl, sym, ap, subst, ◌∙◌, arith, append_assoc, append-nil}
use Rattle.std.specs.Prelude.{slice_get, IsSome, ◌≢◌}
use Rattle.sdb_contents.specs.Types.{Record, Reply, Request, TableName}
use Rattle.sdb_types.specs.declared.record.Reply.TheVariants as reply
use Rattle.sdb_types.specs.Contents.{Contents, after, rows_in}
use Rattle.sdb_types.proofs.Public.{by_test, eq_of, false_true, none_some}
use Rattle.sdb_store.specs.Store.{Performs}
use Rattle.sdb_stores.specs.Views.{Attached, StoreView, IsCallAt, HaveRisen, index_at, index_in, place_of}
use Rattle.std.specs.Prelude.{unwrap_or}
use Rattle.sdb_stores.proofs.Public.{grown, same_names}
use Rattle.sdb_contents.specs.Writes.{GoOn, Hold, HoldFirst, IsScanned, MayHold, Write, after_write, after_writes, contents_at, contents_of, span_of, write_at}
use Rattle.sdb_catalog.proofs.Public.{left_by}

---- one call

set_here : (xs : List StoreView) (at : ℕ) (x y : StoreView) → slice_get xs at ≡ Some x → slice_get (slice_set xs at y) at ≡ Some y
set_here [] at x y h = none_some x h
set_here (z ∷ zs) zero x y h = refl
set_here (z ∷ zs) (suc at) x y h = set_here zs at x y h

set_there : (xs : List StoreView) (at i : ℕ) (y : StoreView) → (at ≡ i → ⊥) → slice_get (slice_set xs at y) i ≡ slice_get xs i
set_there [] at i y h = refl
set_there (z ∷ zs) zero zero y h = absurd (h refl)
set_there (z ∷ zs) zero (suc i) y h = refl
set_there (z ∷ zs) (suc at) zero y h = refl
set_there (z ∷ zs) (suc at) (suc i) y h = set_there zs at i y (λ e. h (ap suc e))

before_call : (at : ℕ) (q : Request) (r : Reply) (old new : Attached) (c : IsCallAt at q r old new) → contents_at old.views at ≡ c.before.contents
before_call at q r old new c = ap contents_of c.stood

now_call : (at : ℕ) (q : Request) (r : Reply) (old new : Attached) (c : IsCallAt at q r old new) → contents_at new.views at ≡ c.now.contents
now_call at q r old new c = ap (λ (l : List StoreView). contents_at l at) c.rest ∙ ap contents_of (set_here old.views at c.before c.now c.stood)

other_call : (at i : ℕ) (q : Request) (r : Reply) (old new : Attached) (c : IsCallAt at q r old new) → (at ≡ i → ⊥) → contents_at new.views i ≡ contents_at old.views i
other_call at i q r old new c h = ap (λ (l : List StoreView). contents_at l i) c.rest ∙ ap contents_of (set_there old.views at i c.now h)

pub same_itself : (n : ℕ) → (n == n) ≡ true
same_itself n = grind arith

pub apart_of : (a b : ℕ) → (a == b) ≡ false → a ≡ b → ⊥
apart_of a b h e = false_true (sym h ∙ ap (λ n. a == n) (sym e) ∙ same_itself a)

-- what a claim of the contents where the call was made says of each store
one_call : (at i : ℕ) (q : Request) (r : Reply) (old new : Attached) (c : IsCallAt at q r old new) → (at ≡ i → c.now.contents ≡ after q c.before.contents) → contents_at new.views i ≡ after_write i (write_at at q) (contents_at old.views i)
one_call at i q r old new c h = by_test (at == i) here there
  where
    here : (at == i) ≡ true → contents_at new.views i ≡ after_write i (write_at at q) (contents_at old.views i)
    here e =
        let same : at ≡ i = eq_of at i e in
        rw e (subst (λ (n : ℕ). contents_at new.views n ≡ after q (contents_at old.views n)) same (now_call at q r old new c ∙ h same ∙ ap (after q) (sym (before_call at q r old new c))))

    there : (at == i) ≡ false → contents_at new.views i ≡ after_write i (write_at at q) (contents_at old.views i)
    there e = rw e (other_call at i q r old new c (apart_of at i e))

answered_left : (q : Request) (r : Reply) (m n : Contents) → r ≢ reply.Fault → r ≢ reply.NoMemory → Performs q r m n → n ≡ after q m
answered_left q reply.Fault m n f g p = absurd (f refl)
answered_left q reply.NoMemory m n f g p = absurd (g refl)
answered_left q (reply.Found found) m n f g p = p.1
answered_left q (reply.Rows rows) m n f g p = p.1
answered_left q (reply.NotAll place there) m n f g p = p.1
answered_left q reply.Applied m n f g p = p.1
answered_left q (reply.NotMet found) m n f g p = p.1

told_at : (old : Attached) (at i : ℕ) → at ≡ i → old.known i → old.known at
told_at old at i e t = subst old.known (sym e) t

-- an answered call made its write
pub hold_call : (at : ℕ) (q : Request) (r : Reply) (old new : Attached) → IsCallAt at q r old new → r ≢ reply.Fault → r ≢ reply.NoMemory → Hold (write_at at q ∷ []) old new
hold_call at q r old new c f g = λ i t. one_call at i q r old new c (λ e. answered_left q r c.before.contents c.now.contents f g (c.performed (told_at old at i e t)))

-- a call made its write, or not
pub may_hold : (at : ℕ) (q : Request) (r : Reply) (old new : Attached) → IsCallAt at q r old new → MayHold (write_at at q) old new
may_hold at q r old new c = λ i t. by_test (at == i) (here i t) (λ e. inl (other_call at i q r old new c (apart_of at i e)))
  where
    here : (i : ℕ) → old.known i → (at == i) ≡ true → (contents_at new.views i ≡ contents_at old.views i) ⊎ (contents_at new.views i ≡ after_write i (write_at at q) (contents_at old.views i))
    here i t e =
        let same : at ≡ i = eq_of at i e in
        elim (left_by q r c.before.contents c.now.contents (c.performed (told_at old at i same t))) [
          | inl kept ↦ inl (subst (λ (n : ℕ). contents_at new.views n ≡ contents_at old.views n) same (now_call at q r old new c ∙ kept ∙ sym (before_call at q r old new c)))
          | inr done ↦ inr (one_call at i q r old new c (λ _. done))
        ]

pub goes_call : (at : ℕ) (q : Request) (r : Reply) (old new : Attached) → IsCallAt at q r old new → new.places ≡ old.places → GoOn old new
goes_call at q r old new c places = record { names = same_names at q r old new c; places = places; counted = grown at q r old new c; where_known = c.where_known }

---- one after the other

pub goes_none : (old : Attached) → GoOn old old
goes_none old = record { names = refl; places = refl; counted = omega arith; where_known = λ i h. h }

pub goes_more : (old mid new : Attached) → GoOn old mid → GoOn mid new → GoOn old new
goes_more old mid new a b = record { names = b.names ∙ a.names; places = b.places ∙ a.places; counted = omega (arith, a.counted, b.counted); where_known = λ i h. b.where_known i (a.where_known i h) }

pub after_more : (i : ℕ) (a b : List Write) (m : Contents) → after_writes i (a ++ b) m ≡ after_writes i b (after_writes i a m)
after_more i [] b m = refl
after_more i (w ∷ ws) b m = after_more i ws b (after_write i w m)

pub hold_none : (old : Attached) → Hold [] old old
hold_none old = λ i t. refl

pub hold_more : (old mid new : Attached) (a b : List Write) → GoOn old mid → Hold a old mid → Hold b mid new → Hold (a ++ b) old new
hold_more old mid new a b goes h k = λ i t. k i (goes.where_known i t) ∙ ap (after_writes i b) (h i t) ∙ sym (after_more i a b (contents_at old.views i))

-- nothing was written before, or nothing after
pub hold_same : (old mid new : Attached) (ws : List Write) → GoOn old mid → Hold [] old mid → Hold ws mid new → Hold ws old new
hold_same old mid new ws goes h k = hold_more old mid new [] ws goes h k

pub held_first : (old new : Attached) (ws : List Write) → Hold ws old new → HoldFirst ws old new
held_first old new ws h = record { done = ws; later = []; parts = sym (append-nil ws); held = λ i t. inl (h i t) }

-- a write that was made or not, after others
pub first_one : (old mid new : Attached) (ws done later : List Write) (w : Write) → ws ≡ done ++ w ∷ later → GoOn old mid → Hold done old mid → MayHold w mid new → HoldFirst ws old new
first_one old mid new ws done later w parts goes h k = record { done = done; later = w ∷ later; parts = parts; held = λ i t. by_cases i t (k i (goes.where_known i t)) }
  where
    by_cases : (i : ℕ) → old.known i → (contents_at new.views i ≡ contents_at mid.views i) ⊎ (contents_at new.views i ≡ after_write i w (contents_at mid.views i))
        → (contents_at new.views i ≡ after_writes i done (contents_at old.views i)) ⊎ (contents_at new.views i ≡ after_writes i (done ++ w ∷ []) (contents_at old.views i))
    by_cases i t (inl same) = inl (same ∙ h i t)
    by_cases i t (inr made) = inr (made ∙ ap (after_write i w) (h i t) ∙ sym (after_more i done (w ∷ []) (contents_at old.views i)))

-- more writes would have come
pub first_front : (old new : Attached) (a b : List Write) → HoldFirst a old new → HoldFirst (a ++ b) old new
first_front old new a b h = front h.later h.parts h.held
  where
    front : (later : List Write) → a ≡ h.done ++ later → ((i : ℕ) → old.known i → (contents_at new.views i ≡ after_writes i h.done (contents_at old.views i)) ⊎ (contents_at new.views i ≡ after_writes i (h.done ++ take 1 later) (contents_at old.views i)))
        → HoldFirst (a ++ b) old new
    front [] parts held = record { done = h.done; later = b; parts = ap (λ (l : List Write). l ++ b) (parts ∙ append-nil h.done); held = λ i t. inl (none i (held i t)) }
      where
        none : (i : ℕ) → (contents_at new.views i ≡ after_writes i h.done (contents_at old.views i)) ⊎ (contents_at new.views i ≡ after_writes i (h.done ++ []) (contents_at old.views i)) → contents_at new.views i ≡ after_writes i h.done (contents_at old.views i)
        none i (inl e) = e
        none i (inr e) = e ∙ ap (λ (l : List Write). after_writes i l (contents_at old.views i)) (append-nil h.done)
    front (w ∷ ws) parts held = record { done = h.done; later = w ∷ ws ++ b; parts = ap (λ (l : List Write). l ++ b) parts ∙ append_assoc h.done (w ∷ ws) b; held = held }

-- writes that were made before
pub first_back : (old mid new : Attached) (a b : List Write) → GoOn old mid → Hold a old mid → HoldFirst b mid new → HoldFirst (a ++ b) old new
first_back old mid new a b goes h k = record {
  done = a ++ k.done;
  later = k.later;
  parts = ap (λ (l : List Write). a ++ l) k.parts ∙ sym (append_assoc a k.done k.later);
  held = λ i t. by_cases i t (k.held i (goes.where_known i t));
}
  where
    longer : (i : ℕ) (l : List Write) → old.known i → contents_at new.views i ≡ after_writes i l (contents_at mid.views i) → contents_at new.views i ≡ after_writes i (a ++ l) (contents_at old.views i)
    longer i l t e = e ∙ ap (after_writes i l) (h i t) ∙ sym (after_more i a l (contents_at old.views i))

    by_cases : (i : ℕ) → old.known i → (contents_at new.views i ≡ after_writes i k.done (contents_at mid.views i)) ⊎ (contents_at new.views i ≡ after_writes i (k.done ++ take 1 k.later) (contents_at mid.views i))
        → (contents_at new.views i ≡ after_writes i (a ++ k.done) (contents_at old.views i)) ⊎ (contents_at new.views i ≡ after_writes i (a ++ k.done ++ take 1 k.later) (contents_at old.views i))
    by_cases i t (inl e) = inl (longer i k.done t e)
    by_cases i t (inr e) = inr (longer i (k.done ++ take 1 k.later) t e ∙ ap (λ (l : List Write). after_writes i l (contents_at old.views i)) (sym (append_assoc a k.done (take 1 k.later))))

---- names and counts

pub same_index : (old new : Attached) (name : List ℕ) → GoOn old new → index_at new name ≡ index_at old name
same_index old new name goes = ap (λ (ns : List (List ℕ)). unwrap_or (place_of name ns) 0) goes.names

pub still_there : (old new : Attached) (name : List ℕ) → GoOn old new → IsSome (index_in old name) → IsSome (index_in new name)
still_there old new name goes h = subst (λ (ns : List (List ℕ)). IsSome (place_of name ns)) (sym goes.names) h

pub risen_more : (old mid : Attached) (new : List StoreView) → GoOn old mid → HaveRisen mid.views new → HaveRisen old.views new
risen_more old mid new a h =
    elim h [
      | inl rose ↦ inl (omega (arith, a.counted, rose))
      | inr most ↦ inr most
    ]

pub risen_later : (old mid : List StoreView) (new : List StoreView) → mid ≡ new → HaveRisen old mid → HaveRisen old new
risen_later old mid new e h = subst (HaveRisen old) e h

---- rows that were shown later

pub shown_earlier : (old mid : Attached) (at : ℕ) (table : TableName) (rows : List Record) → GoOn old mid → Hold [] old mid → IsScanned at table rows mid → IsScanned at table rows old
shown_earlier old mid at table rows goes same s = record {
  lawful = s.lawful;
  known = λ t. s.known (goes.where_known at t) ∙ ap (rows_in (span_of table)) (same at t);
}
