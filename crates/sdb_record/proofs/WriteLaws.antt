-- What a transaction's record of a write says and keeps.
use Rattle.std.proofs.Common.{◌≡◌, ℕ, ℤ, List, [], ◌∷◌, true, false, not, ◌&&◌, refl, sym, ap, ◌∙◌, map, Option, Some, None, IfSome}
use Rattle.std.specs.Prelude.{find, is_ok}
use Rattle.std.specs.List.{list_all}
use Rattle.sdb_types.specs.declared.value.Value.TheVariants as value
use Rattle.sdb_record.specs.Types.{Key, Pair, Record, State, TxId}
use Rattle.sdb_types.specs.TxId.{id_text}
use Rattle.sdb_types.specs.Columns.{column, are_columns, put_pair, is_named, is_null}
use Rattle.sdb_types.specs.Identifier.{is_name}
use Rattle.sdb_types.specs.Contents.{tx_id, tx_state, state_number}
use Rattle.sdb_types.proofs.Public.{and_both, and_false as and-false, and_first, and_second, with_column-are_columns}
use Rattle.sdb_record.specs.declared.write.Write.{Write}
use Rattle.sdb_record.specs.Names.{tx_version, tx_prepared_at, same_name, before_name, is_user, is_before, is_meta, base_name}
use Rattle.sdb_record.specs.Parts.{with_columns, before_pair, user_columns, is_user_pair, is_column_name, are_stored, are_user_columns, before_part}
use Rattle.sdb_record.specs.Meta.{checked}
use Rattle.sdb_record.specs.Rolls.{base_columns, new_columns, IsBaseOf, IsWrite}
use Rattle.sdb_record.proofs.PreparedLaws.{change-user, change-columns}
use Rattle.sdb_record.proofs.ColumnLaws.{stays, leaves, not_before, with_columns-apart, with_columns-none, are_columns-kept, leaves-kept, stays-user, is_before-kept, columns-full, columns-rest}
use Rattle.sdb_record.proofs.Settings.{column-put-same, column-put-other, none-with_columns, misses, filter-with_columns, filter-all, before_part-with_columns, before_part-kept, other_name}
use Rattle.sdb_record.proofs.Checked.{none-make}

---- the parts that make it

-- a row and a base that fit together
pub record Fitting (row base : List Pair) : Type 0 where
  pub row_columns : are_columns row ≡ true
  pub row_user : are_user_columns row ≡ true
  pub base_columns : are_columns base ≡ true

base-in-order : (key : Key) (base : Option Record) → IfSome base (IsBaseOf key) → are_columns (base_columns base) ≡ true
base-in-order key None h = refl
base-in-order key (Some b) h = and_first (are_columns b.columns) (list_all (λ (p : Pair). is_name p.name) b.columns) (and_first (are_stored b.columns) (is_ok (checked b.columns)) h.1)

pub fitting : (w : Write) → IsWrite w → Fitting (new_columns w.change) (base_columns w.base)
fitting w h =
    record { row_columns = change-columns w.change h.change; row_user = change-user w.change h.change; base_columns = base-in-order w.key w.base h.base }

-- the row with the base as it is kept
abbrev pub with_base : List Pair → List Pair → List Pair
with_base row base = with_columns (map before_pair base) row

pub base-first : (row base : List Pair) → Fitting row base → with_base row base ≡ with_columns row (map before_pair base)
base-first row base f =
    ap (with_columns (map before_pair base)) (sym (with_columns-none row f.row_columns))
    ∙ sym (with_columns-apart not_before row (map before_pair base) [] (stays-user row f.row_columns f.row_user) (leaves-kept base f.base_columns))
    ∙ ap (with_columns row) (with_columns-none (map before_pair base) (are_columns-kept base f.base_columns))

pub base-kept : (row base : List Pair) → Fitting row base → before_part (with_base row base) ≡ base
base-kept row base f =
    ap before_part (base-first row base f) ∙ before_part-with_columns row (map before_pair base) (stays-user row f.row_columns f.row_user) ∙ before_part-kept base

pub kept-user : (name : List ℕ) → is_user (before_name name) ≡ false
kept-user name = ap (λ b. not (is_meta (before_name name)) && not b) (is_before-kept name) ∙ and-false (not (is_meta (before_name name)))

leaves-user : (ps : List Pair) → are_columns ps ≡ true → list_all (leaves is_user) (map before_pair ps) ≡ true
leaves-user [] c = refl
leaves-user (p ∷ ps) c =
    and_both (leaves is_user (before_pair p)) _ (and_both (not (is_null p.value)) _ (columns-full p ps c) (ap not (kept-user p.name))) (leaves-user ps (columns-rest p ps c))

pub all-user : (ps : List Pair) → are_user_columns ps ≡ true → list_all is_user_pair ps ≡ true
all-user [] h = refl
all-user (p ∷ ps) h =
    and_both (is_user_pair p) _ (and_first (is_user_pair p) (is_column_name p.name) (and_first (is_user_pair p && is_column_name p.name) (are_user_columns ps) h)) (all-user ps (and_second (is_user_pair p && is_column_name p.name) (are_user_columns ps) h))

pub row-kept : (row base : List Pair) → Fitting row base → user_columns (with_base row base) ≡ row
row-kept row base f =
    filter-with_columns is_user (map before_pair base) row (leaves-user base f.base_columns) ∙ filter-all is_user_pair row (all-user row f.row_user)

---- a metadata column isn't among them

no-user-named : (ps : List Pair) (name : List ℕ) → list_all is_user_pair ps ≡ true → is_user name ≡ false → find (is_named name) ps ≡ None
no-user-named [] name h k = refl
no-user-named (p ∷ ps) name h k =
    none-make (is_named name) p ps (other_name (λ n. not (is_user n)) p.name name (ap not (and_first (is_user_pair p) (list_all is_user_pair ps) h)) (ap not k)) (no-user-named ps name (and_second (is_user_pair p) (list_all is_user_pair ps) h) k)

misses-kept : (ps : List Pair) (name : List ℕ) → are_columns ps ≡ true → is_before name ≡ false → list_all (misses (is_named name)) (map before_pair ps) ≡ true
misses-kept [] name c h = refl
misses-kept (p ∷ ps) name c h =
    and_both (misses (is_named name) (before_pair p)) _ (and_both (not (is_null p.value)) _ (columns-full p ps c) (ap not (other_name (λ n. not (is_before n)) (before_name p.name) name (ap not (is_before-kept p.name)) (ap not h)))) (misses-kept ps name (columns-rest p ps c) h)

pub no-column : (row base : List Pair) (name : List ℕ) → Fitting row base → is_user name ≡ false → is_before name ≡ false → find (is_named name) (with_base row base) ≡ None
no-column row base name f u b =
    none-with_columns (is_named name) (map before_pair base) row (misses-kept base name f.base_columns b) (no-user-named row name (all-user row f.row_user) u)

---- the metadata

abbrev pub id_pair : TxId → Pair
id_pair id = record { name = tx_id; value = value.Text (id_text id.0) }

abbrev pub state_pair : State → Pair
state_pair s = record { name = tx_state; value = value.Int (state_number s) }

abbrev pub version_pair : ℤ → Pair
version_pair n = record { name = tx_version; value = value.Int n }

abbrev pub time_pair : ℤ → Pair
time_pair n = record { name = tx_prepared_at; value = value.BigInt n }

module _ (id : TxId) (s : State) (version now : ℤ) (xs : List Pair) where
  -- columns with the metadata
  abbrev pub marked : List Pair
  marked = put_pair (time_pair now) (put_pair (version_pair version) (put_pair (state_pair s) (put_pair (id_pair id) xs)))

  pub marked-id : column marked tx_id ≡ Some (value.Text (id_text id.0))
  marked-id =
      column-put-other (time_pair now) (put_pair (version_pair version) (put_pair (state_pair s) (put_pair (id_pair id) xs))) tx_id refl
      ∙ column-put-other (version_pair version) (put_pair (state_pair s) (put_pair (id_pair id) xs)) tx_id refl ∙ column-put-other (state_pair s) (put_pair (id_pair id) xs) tx_id refl ∙ column-put-same (id_pair id) xs

  pub marked-state : column marked tx_state ≡ Some (value.Int (state_number s))
  marked-state =
      column-put-other (time_pair now) (put_pair (version_pair version) (put_pair (state_pair s) (put_pair (id_pair id) xs))) tx_state refl
      ∙ column-put-other (version_pair version) (put_pair (state_pair s) (put_pair (id_pair id) xs)) tx_state refl ∙ column-put-same (state_pair s) (put_pair (id_pair id) xs)

  pub marked-version : column marked tx_version ≡ Some (value.Int version)
  marked-version =
      column-put-other (time_pair now) (put_pair (version_pair version) (put_pair (state_pair s) (put_pair (id_pair id) xs))) tx_version refl ∙ column-put-same (version_pair version) (put_pair (state_pair s) (put_pair (id_pair id) xs))

  pub marked-time : column marked tx_prepared_at ≡ Some (value.BigInt now)
  marked-time = column-put-same (time_pair now) (put_pair (version_pair version) (put_pair (state_pair s) (put_pair (id_pair id) xs)))

  pub marked-other : (name : List ℕ) → same_name tx_id name ≡ false → same_name tx_state name ≡ false → same_name tx_version name ≡ false → same_name tx_prepared_at name ≡ false → column marked name ≡ column xs name
  marked-other name a b c d =
      column-put-other (time_pair now) (put_pair (version_pair version) (put_pair (state_pair s) (put_pair (id_pair id) xs))) name d
      ∙ column-put-other (version_pair version) (put_pair (state_pair s) (put_pair (id_pair id) xs)) name c ∙ column-put-other (state_pair s) (put_pair (id_pair id) xs) name b ∙ column-put-other (id_pair id) xs name a

  marks-stay : list_all (stays not_before) (id_pair id ∷ state_pair s ∷ version_pair version ∷ time_pair now ∷ []) ≡ true
  unfolding base_name
  marks-stay = refl

  pub marked-before : before_part marked ≡ before_part xs
  marked-before = before_part-with_columns (id_pair id ∷ state_pair s ∷ version_pair version ∷ time_pair now ∷ []) xs marks-stay

  marks-leave : list_all (leaves is_user) (id_pair id ∷ state_pair s ∷ version_pair version ∷ time_pair now ∷ []) ≡ true
  unfolding is_meta
  marks-leave = refl

  pub marked-user : user_columns marked ≡ user_columns xs
  marked-user = filter-with_columns is_user (id_pair id ∷ state_pair s ∷ version_pair version ∷ time_pair now ∷ []) xs marks-leave

  pub marked-in-order : are_columns xs ≡ true → are_columns marked ≡ true
  marked-in-order h =
      with_column-are_columns (time_pair now) (put_pair (version_pair version) (put_pair (state_pair s) (put_pair (id_pair id) xs)))
      (with_column-are_columns (version_pair version) (put_pair (state_pair s) (put_pair (id_pair id) xs)) (with_column-are_columns (state_pair s) (put_pair (id_pair id) xs) (with_column-are_columns (id_pair id) xs h)))
