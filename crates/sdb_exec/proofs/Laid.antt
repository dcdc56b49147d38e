-- Changes laid over tables, key by key.
use Rattle.std.proofs.Common.{◌≡◌, List, [], ◌∷◌, Bool, true, false, cond, map, Option, Some, None, refl, sym, ap, ◌∙◌}
use Rattle.std.specs.Prelude.{filter}
use Rattle.std.specs.declared.cmp.Ordering.TheVariants.{Less, Equal, Greater}
use Rattle.std.specs.Ordering.{is_eq, is_lt}
use Rattle.std.specs.FinMap.{get, find, is_sorted, get-insert, get-remove}
use Rattle.std.specs.FinMap.Entries.{below_all}
use Rattle.std.proofs.lemmas.Bool.{and_parts}
use Rattle.sdb_exec.specs.Types.{Change, Image, Key, Keyed, Pair}
use Rattle.sdb_types.specs.Order.{key_cmp}
use Rattle.sdb_types.proofs.Public.{key_exact, key_total, less_of as less}
use Rattle.sdb_model.specs.Exec.{Tables, row_of_entry, entry_of_row}
use Rattle.sdb_record.specs.Rolls.{row_of_change}
use Rattle.sdb_model.specs.Access.{with_row, with_changes}

apart : (x : Key) (es : List (Key × List Pair)) → below_all key_cmp x es ≡ true → find key_cmp x es ≡ None
apart x [] h = refl
apart x (e ∷ es) h =
    let parts = and_parts (is_lt (key_cmp x e.0)) (below_all key_cmp x es) h in
    rw (less _ parts.0, apart x es parts.1) refl

pub get-with_row : (d : Tables) (k : Key) (row : Option (List Pair)) (q : Key) → get (with_row d k row) q ≡ cond (is_eq (key_cmp q k)) row (get d q)
get-with_row d k (Some columns) q = get-insert key_total d k columns q
get-with_row d k None q = get-remove key_total d k q

abbrev pub keyed : (Image → Change) → Image → Keyed
keyed new r = record { key = r.key; change = new r }

-- what a key has once the rows that pass are changed
abbrev pub outcome : (Image → Bool) → (Image → Change) → Key → Option (List Pair) → Option (List Pair) → Option (List Pair)
outcome p new q None old = old
outcome p new q (Some c) old = cond (p (row_of_entry (q, c))) (row_of_change (new (row_of_entry (q, c)))) old

-- by whether q is the key of the first entry
pub by_key : (q : Key) (e : Key × List Pair) (P : Bool → Type 0) → (is_eq (key_cmp q e.0) ≡ true → q ≡ e.0 → P true) → (is_eq (key_cmp q e.0) ≡ false → P false) → P (is_eq (key_cmp q e.0))
by_key q e P tied other =
    elim (key_cmp q e.0) as (λ o. key_cmp q e.0 ≡ o → P (is_eq o)) [
      | Less ↦ λ h. other (ap is_eq h)
      | Equal ↦ λ h. tied (ap is_eq h) (key_exact q e.0 h)
      | Greater ↦ λ h. other (ap is_eq h)
    ] refl

-- the entry's own change is laid last: its key is nowhere else
own : (p : Image → Bool) (new : Image → Change) (q : Key) (e : Key × List Pair) (f old : Option (List Pair)) → p (row_of_entry e) ≡ true → q ≡ e.0 → f ≡ None
    → outcome p new q f (row_of_change (new (row_of_entry e))) ≡ outcome p new q (Some e.1) old
own p new q e f old b i none =
    let same : row_of_entry (q, e.1) ≡ row_of_entry e = λ j. record { key = i j; columns = e.1 } in
    rw (none, same, b) refl

left : (p : Image → Bool) (new : Image → Change) (q : Key) (e : Key × List Pair) (f old : Option (List Pair)) → p (row_of_entry e) ≡ false → q ≡ e.0 → f ≡ None
    → outcome p new q f old ≡ outcome p new q (Some e.1) old
left p new q e f old b i none =
    let same : row_of_entry (q, e.1) ≡ row_of_entry e = λ j. record { key = i j; columns = e.1 } in
    rw (none, same, b) refl

pub laid : (p : Image → Bool) (new : Image → Change) (es : List (Key × List Pair)) (d : Tables) (q : Key) → is_sorted key_cmp es ≡ true
    → get (with_changes d (map (keyed new) (filter p (map row_of_entry es)))) q ≡ outcome p new q (find key_cmp q es) (get d q)
laid p new [] d q h = refl
laid p new (e ∷ es) d q h =
    let parts = and_parts (below_all key_cmp e.0 es) (is_sorted key_cmp es) h in
    let none : q ≡ e.0 → find key_cmp q es ≡ None = λ i. rw i (apart e.0 es parts.0) in
    let more = laid p new es in
    elim (p (row_of_entry e)) as (λ b. p (row_of_entry e) ≡ b → get (with_changes d (map (keyed new) (cond b (row_of_entry e ∷ filter p (map row_of_entry es)) (filter p (map row_of_entry es))))) q ≡ outcome p new q (cond (is_eq (key_cmp q e.0)) (Some e.1) (find key_cmp q es)) (get d q)) [
      | true ↦ λ b. more (with_row d e.0 (row_of_change (new (row_of_entry e)))) q parts.1
          ∙ ap (outcome p new q (find key_cmp q es)) (get-with_row d e.0 (row_of_change (new (row_of_entry e))) q)
          ∙ by_key q e (λ t. outcome p new q (find key_cmp q es) (cond t (row_of_change (new (row_of_entry e))) (get d q)) ≡ outcome p new q (cond t (Some e.1) (find key_cmp q es)) (get d q))
          (λ t i. own p new q e _ _ b i (none i))
          (λ t. refl)
      | false ↦ λ b. more d q parts.1 ∙ by_key q e (λ t. outcome p new q (find key_cmp q es) (get d q) ≡ outcome p new q (cond t (Some e.1) (find key_cmp q es)) (get d q)) (λ t i. left p new q e _ _ b i (none i)) (λ t. refl)
    ] refl

-- what a key has once each row is mapped
abbrev pub mapped_at : (Image → Image) → Key → Option (List Pair) → Option (List Pair)
mapped_at f q None = None
mapped_at f q (Some c) = Some (f (row_of_entry (q, c))).columns

pub find-mapped : (f : Image → Image) → ((r : Image) → (f r).key ≡ r.key) → (es : List (Key × List Pair)) (q : Key) → find key_cmp q (map entry_of_row (map f (map row_of_entry es))) ≡ mapped_at f q (find key_cmp q es)
find-mapped f keeps [] q = refl
find-mapped f keeps (e ∷ es) q =
    let rest : find key_cmp q (map entry_of_row (map f (map row_of_entry es))) ≡ mapped_at f q (find key_cmp q es) = find-mapped f keeps es q in
    ap (λ k. cond (is_eq (key_cmp q k)) (Some (f (row_of_entry e)).columns) (find key_cmp q (map entry_of_row (map f (map row_of_entry es))))) (keeps (row_of_entry e))
    ∙ by_key q e (λ t. cond t (Some (f (row_of_entry e)).columns) (find key_cmp q (map entry_of_row (map f (map row_of_entry es)))) ≡ mapped_at f q (cond t (Some e.1) (find key_cmp q es)))
    (λ t i. ap (λ k. Some (f (row_of_entry (k, e.1))).columns) (sym i))
    (λ t. rest)

-- what a key has once only the rows that pass are left
abbrev pub sieved_at : (Image → Bool) → Key → Option (List Pair) → Option (List Pair)
sieved_at p q None = None
sieved_at p q (Some c) = cond (p (row_of_entry (q, c))) (Some c) None

pub find-sieved : (p : Image → Bool) (es : List (Key × List Pair)) (q : Key) → is_sorted key_cmp es ≡ true → find key_cmp q (map entry_of_row (filter p (map row_of_entry es))) ≡ sieved_at p q (find key_cmp q es)
find-sieved p [] q h = refl
find-sieved p (e ∷ es) q h =
    let parts = and_parts (below_all key_cmp e.0 es) (is_sorted key_cmp es) h in
    let none : q ≡ e.0 → find key_cmp q es ≡ None = λ i. rw i (apart e.0 es parts.0) in
    let rest : find key_cmp q (map entry_of_row (filter p (map row_of_entry es))) ≡ sieved_at p q (find key_cmp q es) = find-sieved p es q parts.1 in
    let same : q ≡ e.0 → row_of_entry (q, e.1) ≡ row_of_entry e = λ i j. record { key = i j; columns = e.1 } in
    elim (p (row_of_entry e)) as (λ b. p (row_of_entry e) ≡ b → find key_cmp q (map entry_of_row (cond b (row_of_entry e ∷ filter p (map row_of_entry es)) (filter p (map row_of_entry es)))) ≡ sieved_at p q (cond (is_eq (key_cmp q e.0)) (Some e.1) (find key_cmp q es))) [
      | true ↦ λ b. by_key q e (λ t. cond t (Some e.1) (find key_cmp q (map entry_of_row (filter p (map row_of_entry es)))) ≡ sieved_at p q (cond t (Some e.1) (find key_cmp q es)))
          (λ t i. rw (same i, b) refl) (λ t. rest)
      | false ↦ λ b. by_key q e (λ t. find key_cmp q (map entry_of_row (filter p (map row_of_entry es))) ≡ sieved_at p q (cond t (Some e.1) (find key_cmp q es)))
          (λ t i. rest ∙ rw (none i, same i, b) refl) (λ t. rest)
    ] refl
