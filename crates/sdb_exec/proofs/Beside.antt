-- What a row gives a column: what its key gives it, or else the user column.
use Rattle.std.proofs.Common.{◌≡◌, List, [], ◌∷◌, true, false, cond, Option, Some, None, refl, sym, ap, ◌∙◌}
use Rattle.std.specs.Prelude.{unwrap_or}
use Rattle.std.specs.Option.{option_or}
use Rattle.sdb_types.specs.declared.value.Value.TheVariants as value
use Rattle.sdb_types.specs.Columns.{column}
use Rattle.sdb_model.specs.Rows.{Name, same_name, order_names, value_in, value_of}
use Rattle.sdb_exec.specs.Types.{Image, Table, Value}
use Rattle.sdb_exec.specs.Beside.{beside, in_key}

value_in-is : (ns : List Name) (vs : List Value) (name : Name) (rest : Value) → value_in ns vs name rest ≡ unwrap_or (beside ns vs name) rest
value_in-is [] vs name rest = refl
value_in-is (n ∷ ns) [] name rest = refl
value_in-is (n ∷ ns) (v ∷ vs) name rest =
    elim (same_name n name) as (λ b. cond b v (value_in ns vs name rest) ≡ unwrap_or (cond b (Some v) (beside ns vs name)) rest) [
      | true ↦ refl
      | false ↦ value_in-is ns vs name rest
    ]

either : (a b : Option Value) (rest : Value) → unwrap_or a (unwrap_or b rest) ≡ unwrap_or (option_or a b) rest
either None b rest = refl
either (Some v) b rest = refl

pub value_in-of : (ns : List Name) (vs : List Value) (name : Name) (found : Option Value) (rest : Value) → found ≡ beside ns vs name → unwrap_or found rest ≡ value_in ns vs name rest
value_in-of ns vs name found rest h = ap (λ (o : Option Value). unwrap_or o rest) h ∙ sym (value_in-is ns vs name rest)

pub value_of-of : (t : Table) (r : Image) (name : Name) (found : Option Value) → found ≡ in_key t r name → unwrap_or found (unwrap_or (column r.columns name) value.Null) ≡ value_of t r name
value_of-of t r name found h =
    let stored : Value = unwrap_or (column r.columns name) value.Null in
    let first : Option Value = beside t.partition r.key.partition name in
    let second : Option Value = beside (order_names t.clustering) r.key.clustering name in
    ap (λ (o : Option Value). unwrap_or o stored) h
    ∙ sym (either first second stored)
    ∙ ap (unwrap_or first) (sym (value_in-is (order_names t.clustering) r.key.clustering name stored))
    ∙ sym (value_in-is t.partition r.key.partition name (value_in (order_names t.clustering) r.key.clustering name stored))
