-- A record is the version that is read from it.
use Rattle.std.proofs.Common.{◌≡◌, ℕ, List, true, Option, Some, None, refl, sym, ap, ◌∙◌}
use Rattle.std.specs.Option.{option_and_then, option_map}
use Rattle.sdb_contents.specs.Types.{Condition, Record, State, TxId, Value}
use Rattle.sdb_types.specs.declared.record.Condition.TheVariants.{Version}
use Rattle.sdb_types.specs.declared.value.Value.TheVariants as value
use Rattle.sdb_types.specs.Columns.{column}
use Rattle.sdb_types.specs.Contents.{has_value, holds, state_number, tx_id, tx_state}
use Rattle.sdb_types.specs.TxId.{id_text}
use Rattle.sdb_types.proofs.Public.{and_both}
use Rattle.sdb_record.specs.Meta.{id_in, id_in_value, state_in}
use Rattle.sdb_record.proofs.Public.{has_int, id_of_text-is, state_value}
use Rattle.sdb_types.specs.ValueLaws.{value_total}
use Rattle.std.specs.Ordering.{is_eq}
use Rattle.std.specs.Cmp.{tied_itself}
use Rattle.sdb_contents.specs.Copying.{version_in}

id_value : (o : Option Value) (id : TxId) → id_in_value o ≡ Some id → has_value o (value.Text (id_text id.0)) ≡ true
id_value None id h = absurd (cc)
id_value (Some (value.Text text)) id h = ap (λ (t : List ℕ). has_value (Some (value.Text t)) (value.Text (id_text id.0))) (id_of_text-is text id h).1 ∙ ap is_eq (tied_itself value_total (value.Text (id_text id.0)))
id_value (Some v) id h = absurd (cc)

is_both : (o : Option TxId) (p : Option State) (c : Condition) → option_and_then (λ id. option_map (λ s. Version id s) p) o ≡ Some c → (id : TxId) × (s : State) × (o ≡ Some id) × (p ≡ Some s) × (Version id s ≡ c)
is_both None p c h = absurd (let e : ◌≡◌ {A = Option Condition} None (Some c) = h in cc)
is_both (Some id) None c h = absurd (let e : ◌≡◌ {A = Option Condition} None (Some c) = h in cc)
is_both (Some id) (Some s) c h = (id, s, refl, refl, let e : Some (Version id s) ≡ Some c = h in cc)

-- a record meets the condition that it is the version that it is
pub version_is : (r : Record) (c : Condition) → version_in r ≡ Some c → holds c (Some r) ≡ true
version_is r c h =
    let b = is_both (id_in r.columns) (state_in r.columns) c h in
    ap (λ (x : Condition). holds x (Some r)) (sym b.4)
    ∙ and_both (has_value (column r.columns tx_id) (value.Text (id_text b.0.0))) (has_value (column r.columns tx_state) (value.Int (state_number b.1))) (id_value (column r.columns tx_id) b.0 b.2)
    (has_int (column r.columns tx_state) (state_number b.1) (state_value (column r.columns tx_state) b.1 b.3))
