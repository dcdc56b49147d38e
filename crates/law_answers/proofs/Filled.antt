-- How many keys changes write: at most one for each, and, of rows that a transaction sees, at most one for each record that it noted.
use Rattle.std.proofs.Common.{◌≡◌, ◌≤◌, ◌+◌, ◌⊎◌, inl, inr, ℕ, suc, Bool, true, false, not, cond, List, [], ◌∷◌, map, length, Option, Some, None, refl, sym, ap, subst, ◌∙◌, arith}
use Rattle.std.specs.Prelude.{if◌then◌else◌, ◌&&◌, ◌||◌, is_some}
use Rattle.std.specs.List.{AllByRecursion, count_by}
use Rattle.std.specs.Option.{option_and_then}
use Rattle.std.specs.Cmp.{tied_itself}
use Rattle.std.specs.FinMap.{entries, entries_sorted, find, get-entries, is_sorted}
use Rattle.std.specs.FinMap.Entries.{below_all}
use Rattle.std.proofs.lemmas.Bool.{and_parts}
use Rattle.std.proofs.lemmas.List.Sums.{sum_by-cons, sum_by-le-sum_by}
use Rattle.law_answers.specs.Types.{Access, Image, Key, Keyed, Pair, Record, Write}
use Rattle.sdb_types.specs.Order.{key_cmp, same_key}
use Rattle.sdb_types.proofs.Public.{by_test, clash, key_total, none_some, or_false, same_key_exact, truth}
use Rattle.sdb_record.specs.Among.{is_written, write_among}
use Rattle.sdb_exec.proofs.Public.{by_key}
use Rattle.sdb_model.specs.Access.{in_access}
use Rattle.sdb_model.specs.Exec.{row_of_entry}
use Rattle.sdb_snapshot.specs.Reads.{ReadRecord, base_at, record_read_at}
use Rattle.sdb_snapshot.specs.Rows.{row_found}
use Rattle.sdb_snapshot.specs.Seen.{Seen, overlay, row_with, tables_seen}
use Rattle.sdb_snapshot.specs.Written.{with_change_of, with_write, with_writes, write_of}
use Rattle.sdb_snapshot.proofs.Public.{get_seen}
use Rattle.law_answers.specs.Filled.{records_read_in}
use Rattle.law_answers.proofs.Lists.{each_kept}
use Rattle.sdb_client.proofs.Public.{none_below}

---- one key more

one_up : (n m : ℕ) → n ≤ m + 1 → suc n ≤ suc m + 1
one_up n m l = omega arith

same_up : (n m : ℕ) → n ≤ m → suc n ≤ suc m
same_up n m l = omega arith

length_one : (ws : List Write) (w : Write) → length (with_write ws w) ≤ length ws + 1
length_one [] w = omega arith
length_one (x ∷ xs) w = by (same_key w.key x.key) (length_one xs w)
  where
    plus : (n : ℕ) → suc n ≤ suc n + 1
    plus n = omega arith

    by : (b : Bool) → length (with_write xs w) ≤ length xs + 1 → length (if b then with_change_of x w ∷ xs else x ∷ with_write xs w) ≤ suc (length xs) + 1
    by true ih = plus (length xs)
    by false ih = one_up (length (with_write xs w)) (length xs) ih

-- at most one key for each change
pub length_all : (read_set : List ReadRecord) (ws : List Write) (ks : List Keyed) → length (with_writes read_set ws ks) ≤ length ws + length ks
length_all read_set ws [] = none (length ws)
  where
    none : (n : ℕ) → n ≤ n + 0
    none n = omega arith
length_all read_set ws (k ∷ ks) = both (length (with_writes read_set (with_write ws (write_of read_set k)) ks)) (length (with_write ws (write_of read_set k))) (length ws) (length ks) (length_all read_set (with_write ws (write_of read_set k)) ks) (length_one ws (write_of read_set k))
  where
    both : (a b c d : ℕ) → a ≤ b + d → b ≤ c + 1 → a ≤ c + suc d
    both a b c d l m = omega arith

-- a key that is written takes no place more
length_same : (ws : List Write) (w : Write) → is_written ws w.key ≡ true → length (with_write ws w) ≤ length ws
length_same [] w t = clash (sym t)
length_same (x ∷ xs) w t = by (same_key w.key x.key) t (length_same xs w)
  where
    itself : (n : ℕ) → suc n ≤ suc n
    itself n = omega arith

    by : (b : Bool) → is_some (if b then Some x else write_among xs w.key) ≡ true → (is_written xs w.key ≡ true → length (with_write xs w) ≤ length xs) → length (if b then with_change_of x w ∷ xs else x ∷ with_write xs w) ≤ suc (length xs)
    by true s ih = itself (length xs)
    by false s ih = same_up (length (with_write xs w)) (length xs) (ih s)

-- the keys that are written then
written_now : (ws : List Write) (w : Write) (q : Key) → is_written (with_write ws w) q ≡ (is_written ws q || same_key q w.key)
written_now [] w q = by (same_key q w.key)
  where
    by : (b : Bool) → is_some (if b then Some w else None) ≡ b
    by true = refl
    by false = refl
written_now (x ∷ xs) w q = by_test (same_key w.key x.key) there (later (written_now xs w q))
  where
    there : same_key w.key x.key ≡ true → is_written (with_write (x ∷ xs) w) q ≡ (is_written (x ∷ xs) q || same_key q w.key)
    there t = ap (λ b. is_written (if b then with_change_of x w ∷ xs else x ∷ with_write xs w) q) t ∙ by (same_key q x.key) (write_among xs q) (ap (same_key q) (sym (same_key_exact w.key x.key t)))
      where
        by : (b : Bool) (o : Option Write) → b ≡ same_key q w.key → is_some (if b then Some (with_change_of x w) else o) ≡ (is_some (if b then Some x else o) || same_key q w.key)
        by true o e = refl
        by false o e = sym (or_false (is_some o)) ∙ ap (λ z. is_some o || z) e

    later : is_written (with_write xs w) q ≡ (is_written xs q || same_key q w.key) → same_key w.key x.key ≡ false → is_written (with_write (x ∷ xs) w) q ≡ (is_written (x ∷ xs) q || same_key q w.key)
    later rest f = ap (λ b. is_written (if b then with_change_of x w ∷ xs else x ∷ with_write xs w) q) f ∙ by (same_key q x.key) rest
      where
        by : (b : Bool) → is_written (with_write xs w) q ≡ (is_written xs q || same_key q w.key) → is_some (if b then Some x else write_among (with_write xs w) q) ≡ (is_some (if b then Some x else write_among xs q) || same_key q w.key)
        by true ih = refl
        by false ih = ih

---- the records noted whose keys aren't written

abbrev is_left : List Write → ReadRecord → Bool
is_left ws n = is_some n.1 && not (is_written ws n.0)

abbrev left : List ReadRecord → List Write → ℕ
left read_set ws = count_by (is_left ws) read_set

abbrev one_if : Bool → ℕ
one_if b = cond b 1 0

fewer : (b w s : Bool) → one_if (b && not (w || s)) ≤ one_if (b && not w)
fewer true true s = omega arith
fewer true false true = omega arith
fewer true false false = omega arith
fewer false w s = omega arith

left_one : (ws : List Write) (w : Write) (n : ReadRecord) → one_if (is_left (with_write ws w) n) ≤ one_if (is_left ws n)
left_one ws w n = subst (λ z. one_if (is_some n.1 && not z) ≤ one_if (is_left ws n)) (sym (written_now ws w n.0)) (fewer (is_some n.1) (is_written ws n.0) (same_key n.0 w.key))

-- they only become fewer
left_fewer : (read_set : List ReadRecord) (ws : List Write) (w : Write) → left read_set (with_write ws w) ≤ left read_set ws
left_fewer read_set ws w = sum_by-le-sum_by (λ n. one_if (is_left (with_write ws w) n)) (λ n. one_if (is_left ws n)) read_set (left_one ws w)

left_all : (read_set : List ReadRecord) (ws : List Write) → left read_set ws ≤ records_read_in read_set
left_all read_set ws = sum_by-le-sum_by (λ n. one_if (is_left ws n)) (λ n. one_if (is_some n.1)) read_set (λ n. by (is_some n.1) (is_written ws n.0))
  where
    by : (b w : Bool) → one_if (b && not w) ≤ one_if b
    by true true = omega arith
    by true false = omega arith
    by false w = omega arith

-- and by one where a record was noted at the key
left_less : (read_set : List ReadRecord) (ws : List Write) (w : Write) → is_written ws w.key ≡ false → is_some (base_at read_set w.key) ≡ true → left read_set (with_write ws w) + 1 ≤ left read_set ws
left_less [] ws w f t = clash (sym t)
left_less (e ∷ es) ws w f t = subst (λ n. n + 1 ≤ left (e ∷ es) ws) (sym (sum_by-cons (λ n. one_if (is_left (with_write ws w) n)) e es)) (subst (λ m. one_if (is_left (with_write ws w) e) + left es (with_write ws w) + 1 ≤ m) (sym (sum_by-cons (λ n. one_if (is_left ws n)) e es)) (by_test (same_key w.key e.0) here (there (λ n. left_less es ws w f n))))
  where
    as_read : (b : Bool) → same_key w.key e.0 ≡ b → is_some (option_and_then (λ (x : Option Record). x) (if b then Some e.1 else record_read_at es w.key)) ≡ true
    as_read b h = subst (λ z. is_some (option_and_then (λ (x : Option Record). x) (if z then Some e.1 else record_read_at es w.key)) ≡ true) h t

    at_first : (a b m n : ℕ) → a ≡ 0 → b ≡ 1 → m ≤ n → a + m + 1 ≤ b + n
    at_first a b m n x y l = omega arith

    at_later : (a b m n : ℕ) → a ≤ b → m + 1 ≤ n → a + m + 1 ≤ b + n
    at_later a b m n x l = omega arith

    or_true : (b : Bool) → (b || true) ≡ true
    or_true true = refl
    or_true false = refl

    and_none : (b : Bool) → (b && false) ≡ false
    and_none true = refl
    and_none false = refl

    here : same_key w.key e.0 ≡ true → one_if (is_left (with_write ws w) e) + left es (with_write ws w) + 1 ≤ one_if (is_left ws e) + left es ws
    here s =
        let key : w.key ≡ e.0 = same_key_exact w.key e.0 s in
        at_first (one_if (is_left (with_write ws w) e)) (one_if (is_left ws e)) (left es (with_write ws w)) (left es ws)
        (ap (λ z. one_if (is_some e.1 && not z)) (written_now ws w e.0 ∙ ap (λ z. is_written ws e.0 || z) (subst (λ (z : Key). same_key z w.key ≡ true) key (subst (λ (z : Key). same_key w.key z ≡ true) (sym key) s)) ∙ or_true (is_written ws e.0)) ∙ ap one_if (and_none (is_some e.1)))
        (ap (λ z. one_if (z && not (is_written ws e.0))) (as_read true s) ∙ ap (λ z. one_if (not z)) (ap (is_written ws) (sym key) ∙ f))
        (left_fewer es ws w)

    there : (is_some (base_at es w.key) ≡ true → left es (with_write ws w) + 1 ≤ left es ws) → same_key w.key e.0 ≡ false → one_if (is_left (with_write ws w) e) + left es (with_write ws w) + 1 ≤ one_if (is_left ws e) + left es ws
    there rest s = at_later (one_if (is_left (with_write ws w) e)) (one_if (is_left ws e)) (left es (with_write ws w)) (left es ws) (left_one ws w e) (rest (as_read false s))

---- changes of keys that are written or were read with a record

abbrev pub IsKnown : List ReadRecord → List Write → Key → Type 0
IsKnown read_set ws key = (is_written ws key ≡ true) ⊎ (is_some (base_at read_set key) ≡ true)

known_then : (read_set : List ReadRecord) (ws : List Write) (w : Write) (key : Key) → IsKnown read_set ws key → IsKnown read_set (with_write ws w) key
known_then read_set ws w key (inl t) = inl (written_now ws w key ∙ ap (λ b. b || same_key key w.key) t)
known_then read_set ws w key (inr t) = inr t

-- for each key more one record less is left
none_gained : (read_set : List ReadRecord) (ws : List Write) (w : Write) → IsKnown read_set ws w.key → length (with_write ws w) + left read_set (with_write ws w) ≤ length ws + left read_set ws
none_gained read_set ws w known = by_test (is_written ws w.key) there new
  where
    both : (a b m n : ℕ) → a ≤ b → m ≤ n → a + m ≤ b + n
    both a b m n x y = omega arith

    moved : (a b m n : ℕ) → a ≤ b + 1 → m + 1 ≤ n → a + m ≤ b + n
    moved a b m n x y = omega arith

    there : is_written ws w.key ≡ true → length (with_write ws w) + left read_set (with_write ws w) ≤ length ws + left read_set ws
    there t = both (length (with_write ws w)) (length ws) (left read_set (with_write ws w)) (left read_set ws) (length_same ws w t) (left_fewer read_set ws w)

    as_read : is_written ws w.key ≡ false → IsKnown read_set ws w.key → is_some (base_at read_set w.key) ≡ true
    as_read f (inl t) = clash (sym t ∙ f)
    as_read f (inr t) = t

    new : is_written ws w.key ≡ false → length (with_write ws w) + left read_set (with_write ws w) ≤ length ws + left read_set ws
    new f = moved (length (with_write ws w)) (length ws) (left read_set (with_write ws w)) (left read_set ws) (length_one ws w) (left_less read_set ws w f (as_read f known))

known_all : (read_set : List ReadRecord) (ws : List Write) (w : Write) (ks : List Keyed) → AllByRecursion (λ k. IsKnown read_set ws k.key) ks → AllByRecursion (λ k. IsKnown read_set (with_write ws w) k.key) ks
known_all read_set ws w [] all = tt
known_all read_set ws w (k ∷ ks) all = (known_then read_set ws w k.key all.0, known_all read_set ws w ks all.1)

none_gained_all : (read_set : List ReadRecord) (ws : List Write) (ks : List Keyed) → AllByRecursion (λ k. IsKnown read_set ws k.key) ks → length (with_writes read_set ws ks) + left read_set (with_writes read_set ws ks) ≤ length ws + left read_set ws
none_gained_all read_set ws [] all = itself (length ws + left read_set ws)
  where
    itself : (n : ℕ) → n ≤ n
    itself n = omega arith
none_gained_all read_set ws (k ∷ ks) all = through (length (with_writes read_set (with_write ws (write_of read_set k)) ks) + left read_set (with_writes read_set (with_write ws (write_of read_set k)) ks)) (length (with_write ws (write_of read_set k)) + left read_set (with_write ws (write_of read_set k))) (length ws + left read_set ws) (none_gained_all read_set (with_write ws (write_of read_set k)) ks (known_all read_set ws (write_of read_set k) ks all.1)) (none_gained read_set ws (write_of read_set k) all.0)
  where
    through : (a b c : ℕ) → a ≤ b → b ≤ c → a ≤ c
    through a b c l m = omega arith

-- at most one key for each record noted
pub known_few : (read_set : List ReadRecord) (ws : List Write) (ks : List Keyed) → AllByRecursion (λ k. IsKnown read_set ws k.key) ks → length (with_writes read_set ws ks) ≤ length ws + records_read_in read_set
known_few read_set ws ks all = few (length (with_writes read_set ws ks)) (left read_set (with_writes read_set ws ks)) (length ws) (left read_set ws) (records_read_in read_set) (none_gained_all read_set ws ks all) (left_all read_set ws)
  where
    few : (a b c d e : ℕ) → a + b ≤ c + d → d ≤ e → a ≤ c + e
    few a b c d e l m = omega arith

---- the rows that a transaction sees

-- each entry is found
pub found_all : (P : Key → List Pair → Type 0) (es : List (Key × List Pair)) → is_sorted key_cmp es ≡ true → ((q : Key) (cs : List Pair) → find key_cmp q es ≡ Some cs → P q cs) → AllByRecursion (λ (r : Image). P r.key r.columns) (map row_of_entry es)
found_all P [] h each = tt
found_all P (e ∷ es) h each =
    let parts = and_parts (below_all key_cmp e.0 es) (is_sorted key_cmp es) h in
    (each e.0 e.1 (rw (tied_itself key_total e.0) refl), found_all P es parts.1 (λ q cs found. each q cs (behind q cs parts.0 found)))
  where
    behind : (q : Key) (cs : List Pair) → below_all key_cmp e.0 es ≡ true → find key_cmp q es ≡ Some cs → find key_cmp q (e ∷ es) ≡ Some cs
    behind q cs below found =
        by_key q e (λ b. cond b (Some e.1) (find key_cmp q es) ≡ Some cs)
        (λ t i. none_some cs (sym (ap (λ k. find key_cmp k es) i ∙ none_below e.0 es below) ∙ found))
        (λ t. found)

-- each is of a key that is written, or was read with a record
pub rows_known : (s : Seen) (a : Access) → AllByRecursion (λ (r : Image). IsKnown s.read_set s.writes r.key) (overlay a s)
rows_known s a =
    each_kept (λ (r : Image). IsKnown s.read_set s.writes r.key) (λ r. in_access a r.key) (map row_of_entry (entries (tables_seen s)))
    (found_all (λ q cs. IsKnown s.read_set s.writes q) (entries (tables_seen s)) (truth _ (entries_sorted (tables_seen s))) (λ q cs found. by q cs (write_among s.writes q) refl (sym (get_seen s.read_set s.writes q) ∙ get-entries (tables_seen s) q ∙ found)))
  where
    as_read : (o : Option Record) (cs : List Pair) → row_found o ≡ Some cs → is_some o ≡ true
    as_read None cs e = none_some cs e
    as_read (Some b) cs e = refl

    by : (q : Key) (cs : List Pair) (o : Option Write) → write_among s.writes q ≡ o → row_with (write_among s.writes q) (base_at s.read_set q) ≡ Some cs → IsKnown s.read_set s.writes q
    by q cs (Some w) e h = inl (ap is_some e)
    by q cs None e h = inr (as_read (base_at s.read_set q) cs (subst (λ o. row_with o (base_at s.read_set q) ≡ Some cs) e h))
