-- The tables that a schema names: their names are the members', in order.
use Rattle.std.proofs.Common.{◌≡◌, ℕ, List, [], ◌∷◌, length, map, true, false, ◌&&◌, ◌==◌, cond, refl, sym, ap, ◌∙◌, Some, None, is_some, Global, String, string_bytes}
use Rattle.std.specs.Prelude.{nat_lt}
use Rattle.std.specs.Option.{option_and_then}
use Rattle.std.specs.List.{before_first, after_first, position_or_len, AllByRecursion}
use Rattle.std.specs.List.Sorted.{IsStrictlySortedBy}
use Rattle.std.specs.declared.cmp.Ordering.TheVariants.{Less}
use Rattle.std.specs.Ordering.{is_lt, nat_cmp}
use Rattle.std.specs.Cmp.Lexicographic.{slice_cmp}
use Rattle.std.specs.String.{string_cmp}
use Rattle.std.proofs.lemmas.Map.Keys.{sorted_head, sorted_tail}
use Rattle.serde_json.specs.Data.{Data, Members, member}
use Rattle.serde_json.specs.View.{view, members_view}
use Rattle.serde_json.specs.declared.value.Value.{Value}
use Rattle.sdb_types.specs.declared.key.TableName.{TableName}
use Rattle.sdb_types.specs.Identifier.{is_name}
use Rattle.sdb_types.specs.Order.{table_cmp, table_text}
use Rattle.sdb_types.proofs.Public.{and_both, and_first, at_byte, by_text, some_is}
use Rattle.sdb_record.specs.Parts.{is_column_name}
use Rattle.sdb_record.proofs.Public.{name_of_column}
use Rattle.sdb_schema.specs.Catalog.{rises, is_above_name}
use Rattle.sdb_loader.specs.Words.{is_open, names_table, table_named}
use Rattle.sdb_loader.specs.Described.{bad_name, named, table_of}

none_is : (t : TableName) → None ≡ Some t → ⊥
none_is t h = cc

-- the text of the table that a text names
pub record IsTextOf (text : List ℕ) (t : TableName) : Type 0 where
  pub text_is : table_text t ≡ text
  pub names_are : names_table t.ns t.table ≡ true
  pub ns_is : is_name t.ns ≡ true

pub text_of : (text : List ℕ) (t : TableName) → table_named text ≡ Some t → IsTextOf text t
unfolding table_named
text_of text t =
    let before = before_first (λ b. b == 46) text in
    let after = after_first (λ b. b == 46) text in
    let found : TableName = record { ns = before; table = after } in
    elim (nat_lt (position_or_len (λ b. b == 46) text) (length text)) as (λ b. nat_lt (position_or_len (λ b. b == 46) text) (length text) ≡ b → option_and_then (λ (p : List ℕ × List ℕ). cond (names_table p.0 p.1) (Some (record { ns = p.0; table = p.1 })) None) (cond b (Some (before, after)) None) ≡ Some t → IsTextOf text t) [
      | true ↦ λ q.
          elim (names_table before after) as (λ b. names_table before after ≡ b → cond b (Some found) None ≡ Some t → IsTextOf text t) [
            | true ↦ λ n h.
                let same = some_is found t h in
                record {
                  text_is = ap table_text (sym same) ∙ sym (at_byte 46 text q);
                  names_are = ap (λ (u : TableName). names_table u.ns u.table) (sym same) ∙ n;
                  ns_is = ap (λ (u : TableName). is_name u.ns) (sym same) ∙ name_of_column before (and_first (is_column_name before) (is_open before && is_column_name after) n);
                }
            | false ↦ λ n h. absurd (none_is t h)
          ] refl
      | false ↦ λ q h. absurd (none_is t h)
    ] refl

---- members in order

-- the first member names a table, and the others have good names if all do
pub record IsGood (text : List ℕ) (ms : Members) : Type 0 where
  pub name : TableName
  pub is : table_named text ≡ Some name
  pub rest : bad_name ms ≡ None

pub good_first : (text : List ℕ) (d : Data) (ms : Members) → bad_name (member text d ms) ≡ None → IsGood text ms
good_first text d ms h =
    elim (table_named text) as (λ o. table_named text ≡ o → cond (is_some o) (bad_name ms) (Some text) ≡ None → IsGood text ms) [
      | Some t ↦ λ q k. record { name = t; is = q; rest = k }
      | None ↦ λ q k. absurd (cc)
    ] refl h

abbrev Entry : Type 0
Entry = String Global × Value

abbrev texts : List Entry → List (String Global)
texts es = map (λ e. e.0) es

pub in_order_of : (a b : List ℕ) (t u : TableName) → table_named a ≡ Some t → table_named b ≡ Some u → slice_cmp nat_cmp a b ≡ Less → is_lt (table_cmp t u) ≡ true
in_order_of a b t u h k l =
    let p = text_of a t h in
    let q = text_of b u k in
    ap is_lt (sym (by_text t u p.ns_is q.ns_is) ∙ ap (λ x. slice_cmp nat_cmp x (table_text u)) p.text_is ∙ ap (slice_cmp nat_cmp a) q.text_is ∙ l)

pub named_is : (text : List ℕ) (d : Data) (ms : Members) (t : TableName) → table_named text ≡ Some t → named (member text d ms) ≡ (t, d) ∷ named ms
named_is text d ms t h = rw h refl

above_next : (a : List ℕ) (t : TableName) (es : List Entry) → table_named a ≡ Some t → AllByRecursion (λ y. slice_cmp nat_cmp a (string_bytes y) ≡ Less) (texts es) → bad_name (members_view es) ≡ None → is_above_name t (map table_of (named (members_view es))) ≡ true
above_next a t [] h l g = refl
above_next a t (e ∷ es) h l g =
    let first = good_first (string_bytes e.0) (view e.1) (members_view es) g in
    ap (λ ts. is_above_name t (map table_of ts)) (named_is (string_bytes e.0) (view e.1) (members_view es) first.name first.is)
    ∙ in_order_of a (string_bytes e.0) t first.name h first.is l.0

-- the names of the tables rise as the members' do
pub tables_rise : (es : List Entry) → IsStrictlySortedBy string_cmp (texts es) → bad_name (members_view es) ≡ None → rises (map table_of (named (members_view es))) ≡ true
tables_rise [] s g = refl
tables_rise (e ∷ es) s g =
    let first = good_first (string_bytes e.0) (view e.1) (members_view es) g in
    ap (λ ts. rises (map table_of ts)) (named_is (string_bytes e.0) (view e.1) (members_view es) first.name first.is)
    ∙ and_both (is_above_name first.name (map table_of (named (members_view es)))) _ (above_next (string_bytes e.0) first.name es first.is (sorted_head string_cmp e.0 (texts es) s) first.rest) (tables_rise es (sorted_tail string_cmp e.0 (texts es) s) first.rest)
