-- The stores of the program, once each of them is attached.
use Rattle.std.proofs.Common.{◌≡◌, ℕ, ℤ, Option, ◌<◌, ◌≤◌, ◌+◌, zero, suc, List, [], ◌∷◌, ◌++◌, map, length, codes, false, true, Ok, Err, Result, is_ok, OnOk, refl, sym, ap, subst, ◌∙◌, append_assoc, arith}
use Rattle.std.proofs.Math.ListN.{length-append}
use Rattle.sdb_types.specs.Contents.{Contents}
use Rattle.sdb_store.specs.Store.{StoreState, IsNewStore}
use Rattle.sdb_stores.specs.Views.{Attached, StoreView, IsAdded, names_of, view_of}
use Rattle.sdb_app.specs.declared.status.Status.{Status}
use Rattle.sdb_app.specs.declared.status.Status.TheVariants as status
use Rattle.sdb_app.specs.Ends.{Ends, Stream}
use Rattle.sdb_app.specs.Promise.{HasEnded}
use Rattle.sdb_app.specs.Promise.HasEnded.{NoCommand}
use Rattle.sdb_app.proofs.Public.{ended_before}
use Rattle.scalardb.specs.Stores.{HasEndedOn, HasEndedOver, Outside, attached_over, new_store, own_attached, own_stores}

passed : {T E : Type 0} (P : Type 0) (r : Result T E) → is_ok r ≡ true → OnOk r P → P
passed P (Ok x) h p = p
passed P (Err e) h p = absurd (let f : false ≡ true = h in cc)

abbrev one_store : List ℕ → Contents → ℕ → ℕ → StoreView
one_store name contents faults calls = record { name = name; contents = contents; faults = faults; calls = calls }

new_of : (name n : List ℕ) (store : StoreState) → n ≡ name → IsNewStore store → view_of n store ≡ new_store name
new_of name n store same new = λ i. one_store (same i) (new.empty i) (new.sound i) (new.unused i)

-- These are some stores, and then the program's own; the contents of each of these are known.
pub record AreOwnAfter (front : List StoreView) (stores : Attached) : Type 0 where
  pub are : stores.views ≡ front ++ own_stores
  pub first : stores.known (length front)
  pub second : stores.known (length front + 1)
  pub third : stores.known (length front + 2)
  pub fourth : stores.known (length front + 3)

-- A store was attached after others, and is known.
known_at : {T E : Type 0} (r : Result T E) (n : List ℕ) (a : StoreState) (old new : Attached) (at : ℕ) → OnOk r (IsAdded n a old new) → is_ok r ≡ true → IsNewStore a → length old.views ≡ at → new.known at
known_at r n a old new at added ok new_a count = subst (λ (k : ℕ). new.known k) count ((passed _ r ok added).where_known new_a.where_known)

pub all_own : {T E : Type 0} (front : List StoreView) (r1 r2 r3 r4 : Result T E) (n1 n2 n3 n4 : List ℕ) (a b k s : StoreState) (none one two three last : Attached)
    → OnOk r1 (IsAdded n1 a none one) → OnOk r2 (IsAdded n2 b one two) → OnOk r3 (IsAdded n3 k two three) → OnOk r4 (IsAdded n4 s three last) → none.views ≡ front
    → is_ok r1 ≡ true → is_ok r2 ≡ true → is_ok r3 ≡ true → is_ok r4 ≡ true → n1 ≡ codes "ordered" → n2 ≡ codes "hashed" → n3 ≡ codes "sqlite" → n4 ≡ codes "sharded"
    → IsNewStore a → IsNewStore b → IsNewStore k → IsNewStore s → AreOwnAfter front last
all_own front r1 r2 r3 r4 n1 n2 n3 n4 a b k s none one two three last added1 added2 added3 added4 bare ok1 ok2 ok3 ok4 is1 is2 is3 is4 new_a new_b new_k new_s =
    let first = passed _ r1 ok1 added1 in
    let second = passed _ r2 ok2 added2 in
    let third = passed _ r3 ok3 added3 in
    let fourth = passed _ r4 ok4 added4 in
    let s1 : one.views ≡ front ++ view_of n1 a ∷ [] = first.views ∙ ap (λ (ss : List StoreView). ss ++ view_of n1 a ∷ []) bare in
    let s2 : two.views ≡ front ++ view_of n1 a ∷ view_of n2 b ∷ [] = second.views ∙ ap (λ (ss : List StoreView). ss ++ view_of n2 b ∷ []) s1 ∙ append_assoc front (view_of n1 a ∷ []) (view_of n2 b ∷ []) in
    let s3 : three.views ≡ front ++ view_of n1 a ∷ view_of n2 b ∷ view_of n3 k ∷ [] = third.views ∙ ap (λ (ss : List StoreView). ss ++ view_of n3 k ∷ []) s2 ∙ append_assoc front (view_of n1 a ∷ view_of n2 b ∷ []) (view_of n3 k ∷ []) in
    let s4 : last.views ≡ front ++ view_of n1 a ∷ view_of n2 b ∷ view_of n3 k ∷ view_of n4 s ∷ [] =
    fourth.views ∙ ap (λ (ss : List StoreView). ss ++ view_of n4 s ∷ []) s3 ∙ append_assoc front (view_of n1 a ∷ view_of n2 b ∷ view_of n3 k ∷ []) (view_of n4 s ∷ []) in
    record {
      are = s4 ∙ (λ i. front ++ new_of (codes "ordered") n1 a is1 new_a i ∷ new_of (codes "hashed") n2 b is2 new_b i ∷ new_of (codes "sqlite") n3 k is3 new_k i ∷ new_of (codes "sharded") n4 s is4 new_s i ∷ []);
      first = fourth.others _ (third.others _ (second.others _ (known_at r1 n1 a none one (length front) added1 ok1 new_a (ap length bare))));
      second = fourth.others _ (third.others _ (known_at r2 n2 b one two (length front + 1) added2 ok2 new_b (ap length s1 ∙ length-append front (view_of n1 a ∷ []))));
      third = fourth.others _ (known_at r3 n3 k two three (length front + 2) added3 ok3 new_k (ap length s2 ∙ length-append front (view_of n1 a ∷ view_of n2 b ∷ [])));
      fourth = known_at r4 n4 s three last (length front + 3) added4 ok4 new_s (ap length s3 ∙ length-append front (view_of n1 a ∷ view_of n2 b ∷ view_of n3 k ∷ []));
    }

-- what a call was handed beside its stores
abbrev outside_of : Ends → Outside
outside_of run = record { input = run.work.input; rest = run.work.rest; output = run.output; written = run.written; clock = run.clock; clock_then = run.clock_then; ids = run.ids; ids_then = run.ids_then }

-- A call on the program's own stores alone.
pub ended_on_own : (words : List (List ℕ)) (run : Ends) (s : Status) → AreOwnAfter [] run.work.old → HasEnded words run s → HasEndedOn own_attached words (outside_of run) s
ended_on_own words run s own h = (run.work.left, ended_before words own_attached run (record { same = own.are; where_known = by_place }) s h)
  where
    by_place : (at : ℕ) → at < 4 → run.work.old.known at
    by_place zero h = own.first
    by_place (suc zero) h = own.second
    by_place (suc (suc zero)) h = own.third
    by_place (suc (suc (suc zero))) h = own.fourth
    by_place (suc (suc (suc (suc n)))) h = absurd (omega (arith, h))

-- What holds of the four places after others holds of each within them.
within_four : (P : ℕ → Type 0) (n at : ℕ) → ((k : ℕ) → k ≡ n → P k) → ((k : ℕ) → k ≡ n + 1 → P k) → ((k : ℕ) → k ≡ n + 2 → P k) → ((k : ℕ) → k ≡ n + 3 → P k) → n ≤ at → at < n + 4 → P at
within_four P zero zero first second third fourth low high = first zero refl
within_four P zero (suc zero) first second third fourth low high = second (suc zero) (omega (arith))
within_four P zero (suc (suc zero)) first second third fourth low high = third (suc (suc zero)) (omega (arith))
within_four P zero (suc (suc (suc zero))) first second third fourth low high = fourth (suc (suc (suc zero))) (omega (arith))
within_four P zero (suc (suc (suc (suc at)))) first second third fourth low high = absurd (omega (arith, high))
within_four P (suc n) zero first second third fourth low high = absurd (omega (arith, low))
within_four P (suc n) (suc at) first second third fourth low high =
    within_four (λ k. P (suc k)) n at (λ k is. first (suc k) (omega (arith, is))) (λ k is. second (suc k) (omega (arith, is))) (λ k is. third (suc k) (omega (arith, is))) (λ k is. fourth (suc k) (omega (arith, is)))
    (omega (arith, low)) (omega (arith, high))

-- The program's own stores are known.
known_after : (files : List StoreView) (stores : Attached) → AreOwnAfter files stores → (at : ℕ) → (length files ≤ at) × (at < length files + 4) → stores.known at
known_after files stores own at h =
    within_four stores.known (length files) at (λ k is. subst (λ (i : ℕ). stores.known i) (sym is) own.first) (λ k is. subst (λ (i : ℕ). stores.known i) (sym is) own.second) (λ k is. subst (λ (i : ℕ). stores.known i) (sym is) own.third)
    (λ k is. subst (λ (i : ℕ). stores.known i) (sym is) own.fourth) h.0 h.1

-- A call on them after stores of these names.
pub ended_over : (names words : List (List ℕ)) (files : List StoreView) (run : Ends) (s : Status) → names_of files ≡ names → AreOwnAfter files run.work.old → HasEnded words run s → HasEndedOver names words (outside_of run) s
ended_over names words files run s named own h =
    (files, named, (run.work.left, ended_before words (attached_over files) run (record { same = own.are; where_known = known_after files run.work.old own }) s h))

-- One more store was attached.
pub one_more : {T E : Type 0} (r : Result T E) (n : List ℕ) (a : StoreState) (before : List StoreView) (old new : Attached) → OnOk r (IsAdded n a old new) → is_ok r ≡ true → old.views ≡ before → new.views ≡ before ++ view_of n a ∷ []
one_more r n a before old new added ok were = (passed _ r ok added).views ∙ ap (λ (ss : List StoreView). ss ++ view_of n a ∷ []) were

-- There is a store once one was attached.
pub some_added : {T E : Type 0} (r : Result T E) (n : List ℕ) (a : StoreState) (old new : Attached) → OnOk r (IsAdded n a old new) → is_ok r ≡ true → 0 < length new.views
some_added r n a old new added ok =
    subst (λ (ss : List StoreView). 0 < length ss) (sym (passed _ r ok added).views) (subst (λ (k : ℕ). 0 < k) (sym (length-append old.views (view_of n a ∷ []))) (omega (arith)))

-- what is as it was before a call
abbrev pub untouched : Stream → Stream → Option (List ℤ) → Option (List ℕ) → Outside
untouched input output clock ids = record { input = input; rest = input; output = output; written = output; clock = clock; clock_then = clock; ids = ids; ids_then = ids }

-- Memory ran out before a call.
pub out_of_memory : (stores : Attached) (words : List (List ℕ)) (input output : Stream) (clock : Option (List ℤ)) (ids : Option (List ℕ)) → HasEndedOn stores words (untouched input output clock ids) status.NoMemory
out_of_memory stores words input output clock ids = (stores.views, NoCommand tt (record { unchanged = refl; unread = refl; unwritten = refl; undrawn = record { clock = refl; ids = refl } }))

pub starved_over : (names words : List (List ℕ)) (input output : Stream) (clock : Option (List ℤ)) (ids : Option (List ℕ)) → HasEndedOver names words (untouched input output clock ids) status.NoMemory
starved_over names words input output clock ids = (map new_store names, named names, out_of_memory (attached_over (map new_store names)) words input output clock ids)
  where
    named : (ns : List (List ℕ)) → names_of (map new_store ns) ≡ ns
    named [] = refl
    named (n ∷ ns) = ap (λ rest. n ∷ rest) (named ns)
