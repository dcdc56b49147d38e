-- The order of keys is total, and only equal keys tie.
use Rattle.std.proofs.Common.{◌≡◌, ℕ, List, [], ◌∷◌, ◌++◌, true, refl, sym, ap, ◌∙◌, arith}
use Rattle.std.specs.declared.cmp.Ordering.{Ordering}
use Rattle.std.specs.declared.cmp.Ordering.TheVariants.{Less, Equal, Greater}
use Rattle.std.specs.Ordering.{nat_cmp, ordering_then, is_lt, is_eq}
use Rattle.std.specs.Cmp.{IsTotalOrder}
use Rattle.std.specs.Cmp.Lexicographic.{slice_cmp, lists_total, nat_list_cmp_total}
use Rattle.std.specs.FinMap.{IsAntisymmetric, nat_cmp-IsAntisymmetric, slice_cmp-IsAntisymmetric}
use Rattle.std.specs.Str.{bytes_eq}
use Rattle.std.proofs.lemmas.Map.Text.{is_eq-slice_cmp}
use Rattle.std.proofs.lemmas.Cmp.{on_total, then_total}
use Rattle.sdb_types.specs.declared.key.TableName.{TableName}
use Rattle.std.proofs.lemmas.Bool.Decides.{nat_tests}
use Rattle.std.specs.List.{list_all}
use Rattle.std.specs.Prelude.{nat_le, ◌&&◌, length}
use Rattle.sdb_types.specs.Identifier.{is_start, is_part, is_name}
use Rattle.sdb_types.proofs.Bools.{and_first, and_second, and_both, or_first}
use Rattle.sdb_types.specs.ValueLaws.{then_equal, value_exact, value_total}
use Rattle.sdb_types.specs.Order.{name_cmp, table_cmp, key_cmp, table_text}
use Rattle.sdb_types.specs.declared.key.Key.{Key}
use Rattle.sdb_types.specs.declared.record.Record.{Record}
use Rattle.sdb_types.specs.Contents.{starts_after}
use Rattle.sdb_types.proofs.Basics.{less_of}

pub name_exact : IsAntisymmetric name_cmp
name_exact = slice_cmp-IsAntisymmetric nat_cmp-IsAntisymmetric

pub name_total : IsTotalOrder name_cmp
name_total = nat_list_cmp_total

-- equal bytes are the same name
pub equal_texts : (a b : List ℕ) → bytes_eq a b ≡ is_eq (name_cmp a b)
equal_texts a b = sym (is_eq-slice_cmp a b)

pub table_exact : IsAntisymmetric table_cmp
table_exact a b h =
    let p = then_equal _ _ h in
    let ns = name_exact _ _ p.0 in
    let table = name_exact _ _ p.1 in
    λ i. record { ns = ns i; table = table i }

pub table_total : IsTotalOrder table_cmp
table_total = then_total (on_total (λ t. t.ns) nat_list_cmp_total) (on_total (λ t. t.table) nat_list_cmp_total)

pub key_exact : IsAntisymmetric key_cmp
key_exact a b h =
    let p = then_equal _ _ h in
    let q = then_equal _ _ p.1 in
    let table = table_exact _ _ p.0 in
    let partition = slice_cmp-IsAntisymmetric value_exact _ _ q.0 in
    let clustering = slice_cmp-IsAntisymmetric value_exact _ _ q.1 in
    λ i. record { table = table i; partition = partition i; clustering = clustering i }

pub key_total : IsTotalOrder key_cmp
key_total =
    then_total (on_total (λ k. k.table) table_total) (then_total (on_total (λ k. k.partition) (lists_total value_total)) (on_total (λ k. k.clustering) (lists_total value_total)))

then_assoc : (r s t : Ordering) → ordering_then r (ordering_then s t) ≡ ordering_then (ordering_then r s) t
then_assoc Less s t = refl
then_assoc Equal s t = refl
then_assoc Greater s t = refl

-- a part of an identifier is above the dot
above_dot : (c : ℕ) → is_part c ≡ true → (nat_cmp 46 c ≡ Less) × (nat_cmp c 46 ≡ Greater)
above_dot c h = (grind (arith, nat_tests), grind (arith, nat_tests))

dotted : (xs ys t u : List ℕ) → list_all is_part xs ≡ true → list_all is_part ys ≡ true → slice_cmp nat_cmp (xs ++ 46 ∷ t) (ys ++ 46 ∷ u) ≡ ordering_then (slice_cmp nat_cmp xs ys) (slice_cmp nat_cmp t u)
dotted [] [] t u h k = refl
dotted [] (y ∷ ys) t u h k = rw (above_dot y (and_first _ _ k)).0 refl
dotted (x ∷ xs) [] t u h k = rw (above_dot x (and_first _ _ h)).1 refl
dotted (x ∷ xs) (y ∷ ys) t u h k = ap (ordering_then (nat_cmp x y)) (dotted xs ys t u (and_second _ _ h) (and_second _ _ k)) ∙ then_assoc (nat_cmp x y) _ _

pub parts : (xs : List ℕ) → is_name xs ≡ true → list_all is_part xs ≡ true
parts [] h = refl
parts (x ∷ xs) h =
    let named = and_second (nat_le (length (x ∷ xs)) 71) (is_start x && list_all is_part xs) h in
    let start : is_part x ≡ true = or_first (is_start x) _ (and_first (is_start x) (list_all is_part xs) named) in
    and_both (is_part x) (list_all is_part xs) start (and_second (is_start x) (list_all is_part xs) named)

pub by_text : (a b : TableName) → is_name a.ns ≡ true → is_name b.ns ≡ true → slice_cmp nat_cmp (table_text a) (table_text b) ≡ table_cmp a b
by_text a b h k = dotted a.ns b.ns a.table b.table (parts a.ns h) (parts b.ns k)

pub starts_trans : (k l : Key) (rs : List Record) → key_cmp k l ≡ Less → starts_after l rs ≡ true → starts_after k rs ≡ true
starts_trans k l [] h g = refl
starts_trans k l (r ∷ rs) h g = ap is_lt (key_total.trans k l r.key h (less_of (key_cmp l r.key) g))
