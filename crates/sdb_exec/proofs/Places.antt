-- The places of refusals are small.
use Rattle.std.proofs.Common.{◌≡◌, ℕ, ◌+◌, ◌<◌, ◌≤◌, ◌^◌, List, [], ◌∷◌, ◌++◌, Bool, true, false, not, cond, length, Option, Some, None, refl, sym, ap, ◌∙◌, arith}
use Rattle.std.specs.Prelude.{find, nat_lt, nat_le, is_ok, Result}
use Rattle.std.specs.List.{position_or_len, list_any, list_all}
use Rattle.std.proofs.lemmas.Bool.{and_parts, not-false as unnot}
use Rattle.std.proofs.lemmas.Bool.Decides.{nat_tests}
use Rattle.std.proofs.lemmas.List.{length-append, length-map}
use Rattle.sdb_exec.specs.Types.{Mention, Refusal, Statement, Table, TableName, TableRefused}
use Rattle.sdb_schema.specs.Table.{refuse, none_of, first_unknown, first_listed_twice, first_repeated, first_reserved, limit_passed, checked_table, is_table, key_names, order_names, rises}
use Rattle.sdb_record.specs.Parts.{is_column_name}
use Rattle.sdb_model.specs.declared.statement.Statement.TheVariants as statement
use Rattle.sdb_schema.specs.Catalog.{is_catalog, rises as names_rise}
use Rattle.sdb_model.specs.Exec.{named_table, find_table, table_of}
use Rattle.std.specs.Option.{option_map_or}
use Rattle.sdb_model.specs.Refused.{first_place, repeat_place, is_named_by, refusal, or_next, written, looked_at, mentions, set_by, missing_place, is_unknown, names_key, is_of_other_kind, is_null_in_key, is_out_of_range, is_too_long, refusal_on}

refuse-valid : {A B : Type 0} (o : Option A) (f : A → TableRefused) (next : Result B TableRefused) → is_ok (refuse o f next) ≡ true → (o ≡ None) × (is_ok next ≡ true)
refuse-valid None f next h = (refl, h)
refuse-valid (Some a) f next h = absurd (cc)

abbrev pub IsSound : Table → Type 0
IsSound t = (first_repeated [] (key_names t) ≡ None) × (limit_passed t ≡ None)

checked : (t : Table) → is_ok (checked_table t) ≡ true → IsSound t
unfolding checked_table
checked t h =
    let a = refuse-valid (none_of t.partition) _ _ h in
    let b = refuse-valid (first_unknown t.columns (key_names t)) _ _ a.1 in
    let c = refuse-valid (first_unknown t.columns t.indexed) _ _ b.1 in
    let d = refuse-valid (first_listed_twice t.columns) _ _ c.1 in
    let e = refuse-valid (first_repeated [] (key_names t)) _ _ d.1 in
    let f = refuse-valid (first_reserved t.columns) _ _ e.1 in
    let g = refuse-valid (limit_passed t) _ _ f.1 in
    (e.0, g.0)

pub sound : (t : Table) → is_table t ≡ true → IsSound t
sound t h = checked t (and_parts (list_all (λ c. is_column_name c.name) t.columns) (is_ok (checked_table t)) (and_parts (rises t.columns) _ h).1).1

passed : (b : Bool) (n : ℕ) (o : Option ℕ) → ◌≡◌ {A = Option ℕ} (cond b (Some n) o) None → (b ≡ false) × (o ≡ None)
passed true n o h = absurd (cc)
passed false n o h = (refl, h)

keys_few : (t : Table) → is_table t ≡ true → length (key_names t) ≤ 16
keys_few t h =
    let a = passed (not (nat_le (length t.columns) 64)) 64 _ (sound t h).1 in
    let b = passed (not (nat_le (length t.partition) 8)) 8 _ a.1 in
    let c = passed (not (nat_le (length t.clustering) 8)) 8 None b.1 in
    let first : nat_le (length t.partition) 8 ≡ true = unnot _ b.0 in
    let second : nat_le (length t.clustering) 8 ≡ true = unnot _ c.0 in
    let whole : length (key_names t) ≡ length t.partition + length t.clustering = length-append t.partition (order_names t.clustering) ∙ ap (λ (n : ℕ). length t.partition + n) (length-map t.clustering (λ o. o.name)) in
    grind (arith, nat_tests, first, second, whole)

---- where places lie

found_at : (a n m : ℕ) (b : Bool) → nat_lt a n ≡ b → ◌≡◌ {A = Option ℕ} (cond b (Some (a + 1)) None) (Some m) → m ≤ n
found_at a n m true q e = let same : a + 1 ≡ m = cc in grind (arith, nat_tests, q, same)
found_at a n m false q e = absurd (cc)

spread : (b : Bool) (a : ℕ) → ◌≡◌ {A = Option ℕ} (Rattle.std.specs.Option.option_map (λ i. i + 1) (cond b (Some a) None)) (cond b (Some (a + 1)) None)
spread true a = refl
spread false a = refl

place_within : {X : Type 0} (p : X → Bool) (xs : List X) (m : ℕ) → first_place p xs ≡ Some m → m ≤ length xs
place_within p xs m h = found_at (position_or_len p xs) (length xs) m _ refl (sym (spread (nat_lt (position_or_len p xs) (length xs)) (position_or_len p xs)) ∙ h)

repeat_within : (passed ms : List Mention) (m : ℕ) → repeat_place passed ms ≡ Some m → m ≤ length passed + length ms
repeat_within passed [] m h = absurd (cc)
repeat_within passed (x ∷ xs) m h =
    elim (list_any (is_named_by x.name) passed) as (λ b. cond b (Some (length passed + 1)) (repeat_place (passed ++ x ∷ []) xs) ≡ Some m → m ≤ length passed + length (x ∷ xs)) [
      | true ↦ λ e. let same : length passed + 1 ≡ m = cc in omega arith
      | false ↦ λ e. let rest = repeat_within (passed ++ x ∷ []) xs m e in let longer = length-append passed (x ∷ []) in omega arith
    ] h

repeat_first : (ms : List Mention) (m : ℕ) → repeat_place [] ms ≡ Some m → m ≤ length ms
repeat_first ms m h =
    let most : m ≤ length {A = Mention} [] + length ms = repeat_within [] ms m h in
    omega arith

---- refusals

abbrev Within : ℕ → Option Refusal → Type 0
Within n o = (r : Refusal) → o ≡ Some r → r.place ≤ n

both : (n : ℕ) (a b : Option Refusal) → Within n a → Within n b → Within n (or_next a b)
both n None b h k = k
both n (Some r) b h k = h

one : (n k : ℕ) (o : Option ℕ) → ((m : ℕ) → o ≡ Some m → m ≤ n) → Within n (refusal k o)
one n k None h r e = absurd (cc)
one n k (Some m) h r e = let same : m ≡ r.place = cc in rw (← same) (h m refl)

more : (a b m : ℕ) → m ≤ a → a ≤ b → m ≤ b
more a b m h k = omega arith

sets_within : (s : Statement) → length (set_by s) ≤ length (written s)
sets_within (statement.Update s) = omega arith
sets_within (statement.Insert s) = omega arith
sets_within (statement.Upsert s) = omega arith
sets_within (statement.Delete s) = omega arith
sets_within (statement.Select s) = omega arith
sets_within statement.Begin = omega arith
sets_within statement.Commit = omega arith
sets_within statement.Rollback = omega arith
sets_within statement.Vacuum = omega arith

missing_within : (t : Table) (s : Statement) (m : ℕ) → is_table t ≡ true → missing_place t s ≡ Some m → m ≤ 16
missing_within t (statement.Insert s) m h e = more _ _ _ (place_within _ (key_names t) m e) (keys_few t h)
missing_within t (statement.Upsert s) m h e = more _ _ _ (place_within _ (key_names t) m e) (keys_few t h)
missing_within t (statement.Update s) m h e = absurd (cc)
missing_within t (statement.Delete s) m h e = absurd (cc)
missing_within t (statement.Select s) m h e = absurd (cc)
missing_within t statement.Begin m h e = absurd (cc)
missing_within t statement.Commit m h e = absurd (cc)
missing_within t statement.Rollback m h e = absurd (cc)
missing_within t statement.Vacuum m h e = absurd (cc)

all_within : (t : Table) (s : Statement) (n : ℕ) → is_table t ≡ true → length (mentions s) ≤ n → 16 ≤ n → Within n (refusal_on t s)
all_within t s n h all sixteen =
    let whole : length (mentions s) ≡ length (written s) + length (looked_at s) = length-append (written s) (looked_at s) in
    let front : length (written s) ≤ n = omega arith in
    let sets : length (set_by s) ≤ n = more _ _ _ (sets_within s) front in
    let among : (p : Mention → Bool) (k : ℕ) → Within n (refusal k (first_place p (mentions s))) = λ p k. one n k _ (λ m e. more _ _ _ (place_within p (mentions s) m e) all) in
    both n _ _ (both n _ _ (among (is_unknown t) 7) (one n 8 _ (λ m e. more _ _ _ (repeat_first (written s) m e) front)))
    (both n _ _ (one n 9 _ (λ m e. more _ _ _ (place_within (names_key t) (set_by s) m e) sets))
    (both n _ _ (both n _ _ (among (is_of_other_kind t) 10) (both n _ _ (among (is_null_in_key t) 11) (both n _ _ (among (is_out_of_range t) 12) (among is_too_long 13))))
    (one n 14 _ (λ m e. more _ _ _ (missing_within t s m h e) sixteen))))

-- a place is a number of 32 bits where a statement has that many mentions at most
pub place_small : (t : Table) (s : Statement) (r : Refusal) → is_table t ≡ true → length (mentions s) < 2 ^ 32 → refusal_on t s ≡ Some r → r.place < 2 ^ 32
place_small t s r h few e =
    let most : r.place ≤ 4294967295 = all_within t s 4294967295 h (omega arith) (omega arith) r e in
    omega arith

---- the tables of a catalog

found_all : {X : Type 0} (p q : X → Bool) (xs : List X) (x : X) → find p xs ≡ Some x → list_all q xs ≡ true → q x ≡ true
found_all p q [] x h a = absurd (cc)
found_all p q (y ∷ ys) x h a =
    let parts = and_parts (q y) (list_all q ys) a in
    elim (p y) as (λ b. cond b (Some y) (find p ys) ≡ Some x → q x ≡ true) [
      | true ↦ λ e. let same : y ≡ x = cc in ap q (sym same) ∙ parts.0
      | false ↦ λ e. found_all p q ys x e parts.1
    ] h

named : (catalog : List Table) (o : Option TableName) (t : Table) → list_all is_table catalog ≡ true → option_map_or (find_table catalog) o None ≡ Some t → is_table t ≡ true
named catalog None t h e = absurd (cc)
named catalog (Some name) t h e = found_all _ is_table catalog t e h

pub named_is_table : (catalog : List Table) (s : Statement) (t : Table) → is_catalog catalog ≡ true → named_table catalog s ≡ Some t → is_table t ≡ true
named_is_table catalog s t h e = named catalog (table_of s) t (and_parts (nat_le (length catalog) 64) (list_all is_table catalog) (and_parts (names_rise catalog) _ h).1).1 e
