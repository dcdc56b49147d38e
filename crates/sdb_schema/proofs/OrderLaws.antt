-- The order of a table's keys is total, and only equal keys tie.
use Rattle.std.proofs.Common.{◌≡◌, List, [], ◌∷◌, refl, sym, ap, ◌∙◌}
use Rattle.std.specs.declared.cmp.Ordering.{Ordering}
use Rattle.std.specs.declared.cmp.Ordering.TheVariants.{Less, Equal, Greater}
use Rattle.std.specs.Ordering.{ordering_reverse, on, then_cmp}
use Rattle.std.specs.Cmp.{IsTotalOrder}
use Rattle.std.specs.Cmp.Lexicographic.{lists_total}
use Rattle.std.specs.FinMap.{IsAntisymmetric, slice_cmp-IsAntisymmetric}
use Rattle.std.proofs.lemmas.Cmp.{on_total, then_total}
use Rattle.sdb_types.specs.declared.value.Value.{Value}
use Rattle.sdb_types.specs.Order.{value_cmp}
use Rattle.sdb_types.specs.ValueLaws.{then_equal, value_exact, value_total}
use Rattle.sdb_types.proofs.Public.{table_exact, table_total}
use Rattle.sdb_schema.specs.declared.table.Direction.{Direction}
use Rattle.sdb_schema.specs.declared.table.Direction.TheVariants.{Asc, Desc}
use Rattle.sdb_schema.specs.declared.table.Order.{Order}
use Rattle.sdb_schema.specs.declared.table.Table.{Table}
use Rattle.sdb_schema.specs.Order.{turned_by, clustering_cmp, row_key_cmp}

reversed : (r : Ordering) → ordering_reverse r ≡ Less → r ≡ Greater
reversed Less h = cc
reversed Equal h = cc
reversed Greater h = refl

unturned : (d : Direction) (r : Ordering) → turned_by d r ≡ Equal → r ≡ Equal
unturned Asc r h = h
unturned Desc Less h = cc
unturned Desc Equal h = refl
unturned Desc Greater h = cc

abbrev value_by : Direction → Value → Value → Ordering
value_by d x y = turned_by d (value_cmp x y)

down-trans : (x y z : Value) → ordering_reverse (value_cmp x y) ≡ Less → ordering_reverse (value_cmp y z) ≡ Less → ordering_reverse (value_cmp x z) ≡ Less
down-trans x y z h k =
    let a : value_cmp y x ≡ Less = value_total.antisymm y x ∙ h in
    let b : value_cmp z y ≡ Less = value_total.antisymm z y ∙ k in
    sym (value_total.antisymm z x) ∙ value_total.trans z y x b a

value_by-total : (d : Direction) → IsTotalOrder (value_by d)
value_by-total Asc = value_total
value_by-total Desc =
    record {
      antisymm = λ x y. ap ordering_reverse (value_total.antisymm x y);
      trans = down-trans;
      congr = λ x y z h. ap ordering_reverse (value_total.congr x y z (unturned Desc (value_cmp x y) h));
    }

abbrev Cell : Type 0
Cell = Value × List Value

-- a head and what follows it, compared one after the other
abbrev cell_cmp : Order → List Order → Cell → Cell → Ordering
cell_cmp o os = then_cmp (on (λ p. p.0) (value_by o.direction)) (on (λ p. p.1) (clustering_cmp os))

clustering-antisymm : (o : Order) (os : List Order) → IsTotalOrder (cell_cmp o os) → (xs ys : List Value) → clustering_cmp (o ∷ os) xs ys ≡ ordering_reverse (clustering_cmp (o ∷ os) ys xs)
clustering-antisymm o os t [] [] = refl
clustering-antisymm o os t [] (y ∷ ys) = refl
clustering-antisymm o os t (x ∷ xs) [] = refl
clustering-antisymm o os t (x ∷ xs) (y ∷ ys) = t.antisymm (x, xs) (y, ys)

clustering-trans : (o : Order) (os : List Order) → IsTotalOrder (cell_cmp o os) → (xs ys zs : List Value) → clustering_cmp (o ∷ os) xs ys ≡ Less → clustering_cmp (o ∷ os) ys zs ≡ Less → clustering_cmp (o ∷ os) xs zs ≡ Less
clustering-trans o os t [] [] zs h k = k
clustering-trans o os t [] (y ∷ ys) [] h k = absurd (cc)
clustering-trans o os t [] (y ∷ ys) (z ∷ zs) h k = refl
clustering-trans o os t (x ∷ xs) [] zs h k = absurd (cc)
clustering-trans o os t (x ∷ xs) (y ∷ ys) [] h k = absurd (cc)
clustering-trans o os t (x ∷ xs) (y ∷ ys) (z ∷ zs) h k = t.trans (x, xs) (y, ys) (z, zs) h k

clustering-congr : (o : Order) (os : List Order) → IsTotalOrder (cell_cmp o os) → (xs ys zs : List Value) → clustering_cmp (o ∷ os) xs ys ≡ Equal → clustering_cmp (o ∷ os) xs zs ≡ clustering_cmp (o ∷ os) ys zs
clustering-congr o os t [] [] zs h = refl
clustering-congr o os t [] (y ∷ ys) zs h = absurd (cc)
clustering-congr o os t (x ∷ xs) [] zs h = absurd (cc)
clustering-congr o os t (x ∷ xs) (y ∷ ys) [] h = refl
clustering-congr o os t (x ∷ xs) (y ∷ ys) (z ∷ zs) h = t.congr (x, xs) (y, ys) (z, zs) h

pub clustering-total : (os : List Order) → IsTotalOrder (clustering_cmp os)
clustering-total [] = lists_total value_total
clustering-total (o ∷ os) =
    let t : IsTotalOrder (cell_cmp o os) = then_total (on_total (λ p. p.0) (value_by-total o.direction)) (on_total (λ p. p.1) (clustering-total os)) in
    record { antisymm = clustering-antisymm o os t; trans = clustering-trans o os t; congr = clustering-congr o os t }

pub clustering-exact : (os : List Order) → IsAntisymmetric (clustering_cmp os)
clustering-exact [] xs ys h = slice_cmp-IsAntisymmetric value_exact xs ys h
clustering-exact (o ∷ os) [] [] h = refl
clustering-exact (o ∷ os) [] (y ∷ ys) h = absurd (cc)
clustering-exact (o ∷ os) (x ∷ xs) [] h = absurd (cc)
clustering-exact (o ∷ os) (x ∷ xs) (y ∷ ys) h =
    let p = then_equal _ _ h in
    let head : x ≡ y = value_exact x y (unturned o.direction (value_cmp x y) p.0) in
    let tail : xs ≡ ys = clustering-exact os xs ys p.1 in
    cc

pub row-total : (t : Table) → IsTotalOrder (row_key_cmp t)
row-total t =
    then_total (on_total (λ k. k.table) table_total) (then_total (on_total (λ k. k.partition) (lists_total value_total)) (on_total (λ k. k.clustering) (clustering-total t.clustering)))

pub row-exact : (t : Table) → IsAntisymmetric (row_key_cmp t)
row-exact t a b h =
    let p = then_equal _ _ h in
    let q = then_equal _ _ p.1 in
    let table = table_exact _ _ p.0 in
    let partition = slice_cmp-IsAntisymmetric value_exact _ _ q.0 in
    let clustering = clustering-exact t.clustering _ _ q.1 in
    λ i. record { table = table i; partition = partition i; clustering = clustering i }
