-- The order of values is total, and only equal values tie.
use Rattle.std.proofs.Common.{◌≡◌, true, false, refl, ap, arith}
use Rattle.std.specs.declared.cmp.Ordering.{Ordering}
use Rattle.std.specs.declared.cmp.Ordering.TheVariants.{Less, Equal, Greater}
use Rattle.std.specs.Ordering.{bool_cmp, ordering_then}
use Rattle.std.specs.Cmp.{IsTotalOrder, bool_cmp_total}
use Rattle.std.specs.Cmp.Lexicographic.{nat_list_cmp_total}
use Rattle.std.specs.FinMap.{IsAntisymmetric, nat_cmp-IsAntisymmetric, int_cmp-IsAntisymmetric, slice_cmp-IsAntisymmetric}
use Rattle.std.proofs.lemmas.Cmp.{nat_cmp_total, int_cmp_total, on_total, then_total}
use Rattle.sdb_types.specs.declared.value.Value.{Value}
use Rattle.sdb_types.specs.declared.value.Value.TheVariants as value
use Rattle.sdb_types.specs.Order.{kind_of, truth_of, number_of, bytes_of, value_cmp}

-- ties at each of two orders
pub then_equal : (r s : Ordering) → ordering_then r s ≡ Equal → (r ≡ Equal) × (s ≡ Equal)
then_equal Less s h = cc
then_equal Equal s h = (refl, h)
then_equal Greater s h = cc

pub bool_exact : IsAntisymmetric bool_cmp
bool_exact false false h = refl
bool_exact false true h = cc
bool_exact true false h = cc
bool_exact true true h = refl

same_parts : (a b : Value) → kind_of a ≡ kind_of b → truth_of a ≡ truth_of b → number_of a ≡ number_of b → bytes_of a ≡ bytes_of b → a ≡ b
same_parts value.Null value.Null k t n y = refl
same_parts (value.Bool b) (value.Bool c) k t n y = ap value.Bool t
same_parts (value.Int b) (value.Int c) k t n y = ap value.Int n
same_parts (value.BigInt b) (value.BigInt c) k t n y = ap value.BigInt n
same_parts (value.Text b) (value.Text c) k t n y = ap value.Text y
same_parts (value.Blob b) (value.Blob c) k t n y = ap value.Blob y
same_parts a b k t n y = absurd (omega arith)

pub value_exact : IsAntisymmetric value_cmp
value_exact a b h =
    let p = then_equal _ _ h in
    let q = then_equal _ _ p.1 in
    let r = then_equal _ _ q.1 in
    same_parts a b (nat_cmp-IsAntisymmetric _ _ p.0) (bool_exact _ _ q.0) (int_cmp-IsAntisymmetric _ _ r.0) (slice_cmp-IsAntisymmetric nat_cmp-IsAntisymmetric _ _ r.1)

pub value_total : IsTotalOrder value_cmp
value_total =
    then_total (on_total kind_of nat_cmp_total) (then_total (on_total truth_of bool_cmp_total) (then_total (on_total number_of int_cmp_total) (on_total bytes_of nat_list_cmp_total)))
