-- Values as data, and texts that are no JSON.
use Rattle.std.proofs.Common.{◌≡◌, ℕ, List, [], ◌∷◌, length, map, true, false, cond, refl, ap, Option, Some, None}
use Rattle.std.specs.Prelude.{nat_le}
use Rattle.std.specs.Option.{option_map, option_map_or, option_and_then}
use Rattle.std.specs.List.{cons_option}
use Rattle.std.specs.Str.{is_utf8, IsUtf8}
use Rattle.std.proofs.lemmas.Str.{IsUtf8-from_is_utf8}
use Rattle.serde_json.specs.Data.{Data, Members, no_members, member}
use Rattle.serde_json.specs.Find.{get, as_object}
use Rattle.serde_json.specs.Read.{read}
use Rattle.serde_json.specs.View.{view, items_view}
use Rattle.serde_json.specs.declared.value.Value.{Value}
use Rattle.sdb_types.specs.Identifier.{is_identifier}
use Rattle.sdb_types.proofs.Public.{and_both, and_first}
use Rattle.sdb_record.specs.Parts.{is_column_name}
use Rattle.sdb_schema.specs.declared.table.Kind.{Kind}
use Rattle.sdb_schema.specs.declared.table.Column.{Column}
use Rattle.sdb_schema.specs.Table.{are_short}
use Rattle.sdb_loader.specs.Fields.{list_of, columns, columns_among, columns_in, kind_given}
use Rattle.sdb_loader.specs.Described.{json_of}

-- the entries of an array of values
pub list_of-items_view : (vs : List Value) → list_of (items_view vs) ≡ map view vs
list_of-items_view [] = refl
list_of-items_view (v ∷ vs) = ap (λ ds. view v ∷ ds) (list_of-items_view vs)

-- a text in UTF-8 that reads as no value, or another text
pub json_of-none : (text : List ℕ) → (IsUtf8 text → read text ≡ None) → json_of text ≡ None
json_of-none text h =
    elim (is_utf8 text) as (λ b. is_utf8 text ≡ b → cond b (read text) None ≡ None) [
      | true ↦ λ q. h (IsUtf8-from_is_utf8 text q)
      | false ↦ λ q. refl
    ] refl

---- columns

kept_short : (name : List ℕ) (k : Option Kind) (rest : List Column) → nat_le (length name) 64 ≡ true → are_short rest ≡ true → are_short (cons_option (option_map (λ (kd : Kind). record { name = name; kind = kd }) k) rest) ≡ true
kept_short name None rest h r = r
kept_short name (Some k) rest h r = and_both (nat_le (length name) 64) (are_short rest) h r

columns_short : (ms : Members) → are_short (columns_among ms) ≡ true
columns_short no_members = refl
columns_short (member k d ms) =
    elim (is_column_name k) as (λ b. is_column_name k ≡ b → are_short (cons_option (cond b (option_map (λ (kd : Kind). record { name = k; kind = kd }) (kind_given d)) None) (columns_among ms)) ≡ true) [
      | true ↦ λ q. kept_short k (kind_given d) (columns_among ms) (and_first (nat_le (length k) 64) (is_identifier k) q) (columns_short ms)
      | false ↦ λ q. columns_short ms
    ] refl

some_short : (ms : Option Members) → are_short (option_map_or columns_among ms []) ≡ true
some_short None = refl
some_short (Some ms) = columns_short ms

-- the columns that a value describes have names of at most 64 bytes
pub are_short-columns_in : (d : Data) → are_short (columns_in d) ≡ true
are_short-columns_in d = some_short (option_and_then as_object (get columns d))

pub not_true : false ≡ true → ⊥
not_true h = cc
