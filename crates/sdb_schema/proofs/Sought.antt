-- A column is found at its place, among columns in the order of their names.
use Rattle.std.proofs.Common.{◌≡◌, ℕ, zero, suc, ◌<◌, ◌≤◌, List, [], ◌∷◌, true, false, cond, None, Some, refl, sym, subst, ap, ◌∙◌, arith, length, drop, get_or}
use Rattle.std.specs.Prelude.{Bool, find}
use Rattle.std.specs.List.Sorted.{IsPartitionPoint}
use Rattle.std.specs.declared.cmp.Ordering.TheVariants.{Less, Greater}
use Rattle.std.specs.Ordering.{is_lt}
use Rattle.sdb_types.specs.Order.{name_cmp}
use Rattle.sdb_types.proofs.Public.{and_first, and_second, by_order, less_of, name_exact, name_total, turned}
use Rattle.sdb_schema.specs.Table.{is_above_column, rises}
use Rattle.sdb_record.specs.Names.{same_name}
use Rattle.sdb_schema.specs.declared.table.Column.{Column}
use Rattle.sdb_schema.specs.Sought.{place_in, first_named}

abbrev pub is_below : List ℕ → Column → Bool
is_below name c = is_lt (name_cmp c.name name)

first_above : (c : Column) (cs : List Column) → rises (c ∷ cs) ≡ true → is_above_column c.name cs ≡ true
first_above c cs r = and_first (is_above_column c.name cs) (rises cs) r

tail_rises : (c : Column) (cs : List Column) → rises (c ∷ cs) ≡ true → rises cs ≡ true
tail_rises c cs r = and_second (is_above_column c.name cs) (rises cs) r

---- where a search ends

-- what is after columns that are above a name is above it
all_above : (name : List ℕ) (cs : List Column) (j : ℕ) (d : Column) → rises cs ≡ true → is_above_column name cs ≡ true → j < length cs → name_cmp name (get_or cs j d).name ≡ Less
all_above name [] j d r k l = absurd (omega (arith, l))
all_above name (c ∷ cs) zero d r k l = less_of _ k
all_above name (c ∷ cs) (suc j) d r k l = name_total.trans name c.name (get_or cs j d).name (less_of _ k) (all_above c.name cs j d (tail_rises c cs r) (first_above c cs r) (omega (arith, l)))

-- before a column that is below a name, each is
pub parted : (name : List ℕ) (cs : List Column) → rises cs ≡ true → (i j : ℕ) (d : Column) → i ≤ j → j < length cs → is_below name (get_or cs j d) ≡ true → is_below name (get_or cs i d) ≡ true
parted name [] r i j d h l b = absurd (omega (arith, l))
parted name (c ∷ cs) r zero zero d h l b = b
parted name (c ∷ cs) r zero (suc j) d h l b = ap is_lt (name_total.trans c.name (get_or cs j d).name name (all_above c.name cs j d (tail_rises c cs r) (first_above c cs r) (omega (arith, l))) (less_of _ b))
parted name (c ∷ cs) r (suc i) zero d h l b = absurd (omega (arith, h))
parted name (c ∷ cs) r (suc i) (suc j) d h l b = parted name cs (tail_rises c cs r) i j d (omega (arith, h)) (omega (arith, l)) b

pub parted-place : (name : List ℕ) (cs : List Column) (n : ℕ) → n ≤ length cs → IsPartitionPoint (λ c. is_below name c ≡ true) (λ c. is_below name c ≡ false) cs n → n ≡ place_in name cs
parted-place name [] n h p = omega (arith, h)
parted-place name (c ∷ cs) zero h p =
    let first : is_below name c ≡ false = p.1 0 c (omega arith) (omega arith) in
    simp first refl
parted-place name (c ∷ cs) (suc n) h p =
    let first : is_below name c ≡ true = p.0 0 c (omega arith) (omega arith) in
    let rest : IsPartitionPoint (λ c. is_below name c ≡ true) (λ c. is_below name c ≡ false) cs n = (λ k d l u. p.0 (suc k) d (omega arith) (omega (arith, u)), λ k d l u. p.1 (suc k) d (omega (arith, l)) (omega (arith, u))) in
    simp first (ap suc (parted-place name cs n (omega (arith, h)) rest))

---- what is at the place

above_more : (name : List ℕ) (c : Column) (cs : List Column) → is_lt (name_cmp name c.name) ≡ true → is_above_column c.name cs ≡ true → is_above_column name cs ≡ true
above_more name c [] h k = refl
above_more name c (d ∷ cs) h k = ap is_lt (name_total.trans name c.name d.name (less_of _ h) (less_of _ k))

none_above : (name : List ℕ) (cs : List Column) → rises cs ≡ true → is_above_column name cs ≡ true → find (λ c. same_name c.name name) cs ≡ None
none_above name [] r h = refl
none_above name (c ∷ cs) r h =
    let q = turned name c.name Less (less_of _ h) in
    simp q (none_above name cs (tail_rises c cs r) (above_more name c cs h (first_above c cs r)))

pub found-at_place : (name : List ℕ) (cs : List Column) → rises cs ≡ true → first_named name (drop (place_in name cs) cs) ≡ find (λ c. same_name c.name name) cs
found-at_place name [] r = refl
found-at_place name (c ∷ cs) r =
    by_order (name_cmp c.name name)
    (λ q. simp q (found-at_place name cs (tail_rises c cs r)))
    (λ q. simp q refl)
    (λ q.
    let above : is_above_column name cs ≡ true = above_more name c cs (ap is_lt (turned c.name name Greater q)) (first_above c cs r) in
    simp q (sym (none_above name cs (tail_rises c cs r) above)))

-- a column of the name, at whatever place
pub found-near : (name : List ℕ) (cs : List Column) (n : ℕ) (c : Column) → rises cs ≡ true → first_named name (drop n cs) ≡ Some c → find (λ d. same_name d.name name) cs ≡ Some c
found-near name [] zero c r h = absurd (cc)
found-near name [] (suc n) c r h = absurd (cc)
found-near name (d ∷ cs) zero c r h =
    elim (same_name d.name name) as (λ b. cond b (Some d) None ≡ Some c → cond b (Some d) (find (λ e. same_name e.name name) cs) ≡ Some c) [
      | true ↦ λ k. k
      | false ↦ λ k. absurd (cc)
    ] h
found-near name (d ∷ cs) (suc n) c r h =
    let rest = found-near name cs n c (tail_rises d cs r) h in
    by_order (name_cmp d.name name)
    (λ q. simp q rest)
    (λ q.
    let above : is_above_column name cs ≡ true = subst (λ x. is_above_column x cs ≡ true) (name_exact d.name name q) (first_above d cs r) in
    let clash : None ≡ Some c = sym (none_above name cs (tail_rises d cs r) above) ∙ rest in
    absurd (cc))
    (λ q. simp q rest)
