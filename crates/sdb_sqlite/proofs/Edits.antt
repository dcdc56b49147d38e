-- What an added, a changed and a removed row make of what the rows hold.
use Rattle.std.proofs.Common.{◌≡◌, ◌⊎◌, inl, inr, ℤ, ◌≤◌, List, [], ◌∷◌, filter, length, Bool, true, false, cond, None, Some, Option, option_map, slice_get, Ok, refl, sym, ap, subst, ◌∙◌, is_eq, arith}
use Rattle.std.specs.Prelude.{not, ◌||◌}
use Rattle.std.specs.List.{AllByRecursion, list_any}
use Rattle.sdb_sqlite.specs.Types.{Key, Ordering, Pair, Record}
use Rattle.std.specs.declared.cmp.Ordering.TheVariants.{Less, Equal, Greater}
use Rattle.std.specs.Ordering.{match_ordering}
use Rattle.std.specs.Cmp.{tied_itself}
use Rattle.std.specs.FinMap.{get, insert, remove, get-insert, get-remove, same_map}
use Rattle.std.proofs.lemmas.Bool.{cases_Bool}
use Rattle.sqlite.specs.declared.types.Value.TheVariants.{Int}
use Rattle.sqlite.specs.Order.{Row, value_cmp}
use Rattle.sqlite.specs.Tree.{IsTable, has_rowid, put_row, without_rowid, rowid}
use Rattle.sqlite.specs.Edit.{is_taken}
use Rattle.sqlite_rules.specs.Lists.{Has}
use Rattle.sqlite_rules.proofs.PlaceLemmas.{tied_same}
use Rattle.sqlite_trees.proofs.ListLemmas.{ascending-filter}
use Rattle.sqlite_value.proofs.OrderLemmas.{value_cmp_total}
use Rattle.sdb_types.specs.Order.{key_cmp, table_text}
use Rattle.sdb_types.specs.Exact.{equal_of}
use Rattle.sdb_types.specs.Fits.{record_fits}
use Rattle.sdb_types.specs.Contents.{record_at, record_of}
use Rattle.sdb_types.proofs.Public.{key_exact, key_total}
use Rattle.sdb_codec.specs.Spelling.{key_bytes, record_bytes, RecordIsEncodable}
use Rattle.sdb_codec.proofs.Public.{record_round_trip}
use Rattle.sdb_sqlite.specs.Spans.{partition_key}
use Rattle.sdb_sqlite.specs.Rows.{stored, IsRowOfStore, row_key, entry_of, own_columns, has_key, rows_at, contents_of_rows}
use Rattle.sdb_sqlite.proofs.Lists.{weaker, passed, each_passed, still_passed, none_passed, none_any}
use Rattle.sdb_sqlite.proofs.Gets.{tied_key, of_key, held_at}

---- maps of rows that differ at one key

module _ (rows news : List Row) (x : Row) where
  changed_at : (o : Option (List Pair)) (xs : List Row) → option_map (λ row. (entry_of row).1) (slice_get xs 0) ≡ o → ((q : Key) → has_key q x ≡ true → rows_at q news ≡ xs) → ((q : Key) → has_key q x ≡ false → rows_at q news ≡ rows_at q rows)
      → (q : Key) → get (contents_of_rows news) q ≡ cond (has_key q x) o (get (contents_of_rows rows) q)
  changed_at o xs is own other q =
      elim (has_key q x) as (λ b. has_key q x ≡ b → get (contents_of_rows news) q ≡ cond b o (get (contents_of_rows rows) q)) [
        | true ↦ λ e. held_at q news ∙ ap (λ (ys : List Row). option_map (λ row. (entry_of row).1) (slice_get ys 0)) (own q e) ∙ is
        | false ↦ λ e. held_at q news ∙ ap (λ (ys : List Row). option_map (λ row. (entry_of row).1) (slice_get ys 0)) (other q e) ∙ sym (held_at q rows)
      ] refl

  pub inserted : ((q : Key) → has_key q x ≡ true → rows_at q news ≡ x ∷ []) → ((q : Key) → has_key q x ≡ false → rows_at q news ≡ rows_at q rows) → contents_of_rows news ≡ insert (contents_of_rows rows) (row_key x) (entry_of x).1
  inserted own other = same_map key_total key_exact _ _ (λ q. changed_at (Some (entry_of x).1) (x ∷ []) refl own other q ∙ sym (get-insert key_total (contents_of_rows rows) (row_key x) (entry_of x).1 q))

  pub removed : ((q : Key) → has_key q x ≡ true → rows_at q news ≡ []) → ((q : Key) → has_key q x ≡ false → rows_at q news ≡ rows_at q rows) → contents_of_rows news ≡ remove (contents_of_rows rows) (row_key x)
  removed own other = same_map key_total key_exact _ _ (λ q. changed_at None [] refl own other q ∙ sym (get-remove key_total (contents_of_rows rows) (row_key x) q))

  pub once_after : (xs : List Row) → length xs ≤ 1 → ((q : Key) → length (rows_at q rows) ≤ 1) → ((q : Key) → has_key q x ≡ true → rows_at q news ≡ xs) → ((q : Key) → has_key q x ≡ false → rows_at q news ≡ rows_at q rows)
      → (q : Key) → length (rows_at q news) ≤ 1
  once_after xs few once own other q = elim (cases_Bool (has_key q x)) [
    | inl e ↦ rw (own q e) few
    | inr e ↦ rw (other q e) (once q)
  ]

---- a row put into its place

open_or : (a b : Bool) → (a || b) ≡ false → (a ≡ false) × (b ≡ false)
open_or true b h = absurd (let e : true ≡ false = h in cc)
open_or false b h = (refl, h)

-- a new row in the table, as a test sees it
filter_put : (p : Row → Bool) (x : Row) (rows : List Row) → is_taken rows x ≡ false → p x ≡ false → filter p (put_row x rows) ≡ filter p rows
filter_put p x [] free out = rw out refl
filter_put p x (r ∷ rows) free out = go (value_cmp (rowid r) (rowid x)) refl (open_or _ _ free).0 (filter_put p x rows (open_or _ _ free).1 out)
  where
    go : (o : Ordering) → value_cmp (rowid r) (rowid x) ≡ o → is_eq (value_cmp (rowid r) (rowid x)) ≡ false → filter p (put_row x rows) ≡ filter p rows → filter p (match_ordering o (r ∷ put_row x rows) (x ∷ rows) (x ∷ r ∷ rows)) ≡ filter p (r ∷ rows)
    go Less e differs more = ap (λ ys. cond (p r) (r ∷ ys) ys) more
    go Equal e differs more = absurd (let f : true ≡ false = sym (ap is_eq e) ∙ differs in cc)
    go Greater e differs more = rw out refl

left_out : (p : Row → Bool) (r : Row) (rows : List Row) → (b : Bool) → cond b (r ∷ filter p rows) (filter p rows) ≡ [] → (b ≡ false) × (filter p rows ≡ [])
left_out p r rows true h = absurd (let e = h in cc)
left_out p r rows false h = (refl, h)

filter_put_in : (p : Row → Bool) (x : Row) (rows : List Row) → is_taken rows x ≡ false → p x ≡ true → filter p rows ≡ [] → filter p (put_row x rows) ≡ x ∷ []
filter_put_in p x [] free it none = rw it refl
filter_put_in p x (r ∷ rows) free it none =
    let both = left_out p r rows (p r) none in
    go (value_cmp (rowid r) (rowid x)) refl (open_or _ _ free).0 both (filter_put_in p x rows (open_or _ _ free).1 it both.1)
  where
    go : (o : Ordering) → value_cmp (rowid r) (rowid x) ≡ o → is_eq (value_cmp (rowid r) (rowid x)) ≡ false → (p r ≡ false) × (filter p rows ≡ []) → filter p (put_row x rows) ≡ x ∷ [] → filter p (match_ordering o (r ∷ put_row x rows) (x ∷ rows) (x ∷ r ∷ rows)) ≡ x ∷ []
    go Less e differs both more = rw (both.0) more
    go Equal e differs both more = absurd (let f : true ≡ false = sym (ap is_eq e) ∙ differs in cc)
    go Greater e differs both more = rw (it, both.0, both.1) refl

---- the row of a record

abbrev pub row_of : ℤ → Record → Row
row_of id r = stored id (key_bytes r.key) (table_text r.key.table) (key_bytes (partition_key r.key.table r.key.partition)) (record_bytes r)

pub row_tied : (id : ℤ) (r : Record) → record_fits r → RecordIsEncodable r → IsRowOfStore (row_of id r)
row_tied id r known fits = record { id = id; key = r.key; body = record_bytes r; known = known.key; fits = fits.key; is = refl }

pub row_key_is : (id : ℤ) (r : Record) → record_fits r → RecordIsEncodable r → row_key (row_of id r) ≡ r.key
unfolding row_tied
row_key_is id r known fits = tied_key (row_of id r) (row_tied id r known fits)

own_body : (r : Record) → own_columns r.key (Ok r) ≡ r.columns
own_body r = ap (λ (o : Ordering). cond (is_eq o) r.columns []) (tied_itself key_total r.key)

pub row_columns_are : (id : ℤ) (r : Record) → record_fits r → RecordIsEncodable r → (entry_of (row_of id r)).1 ≡ r.columns
row_columns_are id r known fits = (λ i. own_columns (row_key_is id r known fits i) (record_round_trip r known fits i)) ∙ own_body r

---- a row added, where no row has its key

module _ (rows : List Row) (x : Row) (key : Key) (is : row_key x ≡ key) (none : rows_at key rows ≡ []) (free : is_taken rows x ≡ false) where
  absent : (q : Key) → has_key q x ≡ true → rows_at q rows ≡ []
  absent q e = ap (λ (k : Key). rows_at k rows) (of_key q x e ∙ is) ∙ none

  pub added_own : (q : Key) → has_key q x ≡ true → rows_at q (put_row x rows) ≡ x ∷ []
  added_own q e = filter_put_in (has_key q) x rows free e (absent q e)

  pub added_other : (q : Key) → has_key q x ≡ false → rows_at q (put_row x rows) ≡ rows_at q rows
  added_other q e = filter_put (has_key q) x rows free e

---- a row accepted out, and another one put in its place

all_of : {X : Type 0} (P : X → Type 0) (xs : List X) → ((x : X) → Has xs x → P x) → AllByRecursion P xs
all_of P [] f = tt
all_of P (x ∷ xs) f = (f x (inl refl), all_of P xs (λ y h. f y (inr h)))

has_first : (p : Row → Bool) (xs : List Row) (y : Row) (ys : List Row) → filter p xs ≡ y ∷ ys → Has xs y
has_first p [] y ys e = absurd cc
has_first p (x ∷ xs) y ys e =
    elim (p x) as (λ b. cond b (x ∷ filter p xs) (filter p xs) ≡ y ∷ ys → (y ≡ x) ⊎ Has xs y) [
      | true ↦ λ h. inl (let same : x ≡ y = cc in sym same)
      | false ↦ λ h. inr (has_first p xs y ys h)
    ] e

module _ (rows : List Row) (up : IsTable rows) (key : Key) (y : Row) (id : ℤ) (own_id : rowid y ≡ Int id) (of : has_key key y ≡ true) (one : rows_at key rows ≡ y ∷ []) where
  there : Has rows y
  there = has_first (has_key key) rows y [] one

  -- the only row of its id
  only : (r : Row) → Has rows r → has_rowid id r ≡ true → r ≡ y
  only r h e = tied_same rows r y up h there (ap (value_cmp (rowid r)) own_id ∙ equal_of (value_cmp (rowid r) (Int id)) e)

  has_own : has_rowid id y ≡ true
  has_own = ap (λ v. is_eq (value_cmp v (Int id))) own_id ∙ ap is_eq (tied_itself value_cmp_total (Int id))

  key_is : key ≡ row_key y
  key_is = of_key key y of

  gone_same : (q : Key) → has_key q y ≡ false → rows_at q (without_rowid id rows) ≡ rows_at q rows
  gone_same q out = still_passed (has_key q) (has_rowid id) rows (all_of (λ r. has_rowid id r ≡ true → has_key q r ≡ false) rows (λ r h e. ap (has_key q) (only r h e) ∙ out))

  gone_own : (q : Key) → has_key q y ≡ true → rows_at q (without_rowid id rows) ≡ []
  gone_own q e =
      let same : q ≡ key = of_key q y e ∙ sym key_is in
      none_passed (has_key q) (has_rowid id) rows (each_passed (λ r. has_rowid id r ≡ true) (has_key q) rows
      (subst (AllByRecursion (λ r. has_rowid id r ≡ true)) (sym (ap (λ (k : Key). rows_at k rows) same ∙ one)) (has_own, tt)))

  pub taken_own : (q : Key) → has_key q y ≡ true → rows_at q (without_rowid id rows) ≡ []
  taken_own = gone_own

  pub taken_other : (q : Key) → has_key q y ≡ false → rows_at q (without_rowid id rows) ≡ rows_at q rows
  taken_other = gone_same

  module _ (x : Row) (x_id : rowid x ≡ Int id) (x_key : row_key x ≡ key) where
    alike : (q : Key) → has_key q x ≡ has_key q y
    alike q = ap (λ (k : Key). is_eq (key_cmp q k)) (x_key ∙ key_is)

    free : is_taken (without_rowid id rows) x ≡ false
    free = ap (λ v. list_any (λ r. is_eq (value_cmp (rowid r) v)) (without_rowid id rows)) x_id ∙ none_any (has_rowid id) rows

    pub changed_own : (q : Key) → has_key q x ≡ true → rows_at q (put_row x (without_rowid id rows)) ≡ x ∷ []
    changed_own q e = filter_put_in (has_key q) x (without_rowid id rows) free e (gone_own q (sym (alike q) ∙ e))

    pub changed_other : (q : Key) → has_key q x ≡ false → rows_at q (put_row x (without_rowid id rows)) ≡ rows_at q rows
    changed_other q e = filter_put (has_key q) x (without_rowid id rows) free e ∙ gone_same q (sym (alike q) ∙ e)

pub kept_tied : (id : ℤ) (rows : List Row) → AllByRecursion IsRowOfStore rows → AllByRecursion IsRowOfStore (without_rowid id rows)
kept_tied id rows all = weaker (λ r. IsRowOfStore r × (not (has_rowid id r) ≡ true)) IsRowOfStore (λ r h. h.0) _ (passed IsRowOfStore (λ r. not (has_rowid id r)) rows all)

pub kept_table : (id : ℤ) (rows : List Row) → IsTable rows → IsTable (without_rowid id rows)
kept_table id rows up = ascending-filter _ (λ r. not (has_rowid id r)) rows up

-- the row that a found record is in
pub found_row : (q : Key) (rows : List Row) (there : Record) → length (rows_at q rows) ≤ 1 → Some there ≡ record_at (contents_of_rows rows) q → (y : Row) × (rows_at q rows ≡ y ∷ [])
found_row q rows there few is = go (rows_at q rows) few (is ∙ ap (λ o. option_map (λ (columns : List Pair). record_of (q, columns)) o) (held_at q rows))
  where
    go : (xs : List Row) → length xs ≤ 1 → Some there ≡ option_map (λ (columns : List Pair). record_of (q, columns)) (option_map (λ row. (entry_of row).1) (slice_get xs 0)) → (y : Row) × (xs ≡ y ∷ [])
    go [] few e = absurd cc
    go (x ∷ []) few e = (x, refl)
    go (x ∷ y ∷ xs) few e = absurd (omega arith)

-- and none is in a row
pub no_row : (q : Key) (rows : List Row) → None ≡ record_at (contents_of_rows rows) q → rows_at q rows ≡ []
no_row q rows is = go (rows_at q rows) (is ∙ ap (λ o. option_map (λ (columns : List Pair). record_of (q, columns)) o) (held_at q rows))
  where
    go : (xs : List Row) → None ≡ option_map (λ (columns : List Pair). record_of (q, columns)) (option_map (λ row. (entry_of row).1) (slice_get xs 0)) → xs ≡ []
    go [] e = refl
    go (x ∷ xs) e = absurd cc
