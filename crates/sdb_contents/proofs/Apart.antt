-- The tables that move come once each, and no key of theirs is a row of the catalog.
use Rattle.std.proofs.Common.{◌≡◌, ◌≢◌, ◌==◌, inl, inr, ℕ, List, [], ◌∷◌, map, Bool, true, false, ◌&&◌, cond, Some, refl, sym, ap, ◌∙◌}
use Rattle.std.specs.Prelude.{filter, if◌then◌else◌}
use Rattle.std.specs.List.{AllByRecursion}
use Rattle.std.specs.Ordering.{is_lt}
use Rattle.std.specs.Str.{bytes_eq}
use Rattle.std.specs.Cmp.{tied_itself}
use Rattle.sdb_contents.specs.Types.{Condition, Entry, Key, Record, TableName}
use Rattle.sdb_types.specs.declared.record.Condition.TheVariants.{Version}
use Rattle.sdb_types.specs.declared.record.Request.TheVariants as ask
use Rattle.sdb_types.specs.declared.record.State.TheVariants.{Committed}
use Rattle.sdb_types.specs.Contents.{Contents, after, holds, record_at, rise, starts_after}
use Rattle.sdb_types.specs.Order.{key_cmp}
use Rattle.sdb_types.proofs.Public.{and_first, and_second, key_total, same_key_decides}
use Rattle.sdb_catalog.specs.Rows.{metadata_key_of, metadata_table, row_of}
use Rattle.sdb_catalog.proofs.Public.{key_of_row}
use Rattle.law_protocol.proofs.Public.{after_put}
use Rattle.sdb_contents.specs.Joined.{AreApart}
use Rattle.sdb_contents.specs.Moving.{is_moving, moving_tables, renewal, renewals, renewed}
use Rattle.sdb_contents.specs.Writes.{after_write, after_writes, write_at, writes_at}
use Rattle.sdb_contents.proofs.Joins.{after_each}

---- tables come once

later_names : (e : Entry) (es : List Entry) → AllByRecursion (λ (r : Record). is_lt (key_cmp (row_of e).key r.key) ≡ true) (map row_of es) → AllByRecursion (λ u. u ≢ e.table.name) (map (λ (a : Entry). a.table.name) es)
later_names e [] h = tt
later_names e (a ∷ as_) h = (differ, later_names e as_ h.1)
  where
    differ : a.table.name ≡ e.table.name → ⊥
    differ same =
        let keys : (row_of a).key ≡ (row_of e).key = key_of_row a ∙ ap metadata_key_of same ∙ sym (key_of_row e) in
        absurd (let f : false ≡ true = sym (ap is_lt (tied_itself key_total (row_of e).key)) ∙ ap (λ (k : Key). is_lt (key_cmp (row_of e).key k)) (sym keys) ∙ h.0 in cc)

names_apart : (es : List Entry) → rise (map row_of es) ≡ true → AreApart (map (λ (e : Entry). e.table.name) es)
names_apart [] up = tt
names_apart (e ∷ es) up = (
  later_names e es (after_each (row_of e).key (map row_of es) (and_second (starts_after (row_of e).key (map row_of es)) (rise (map row_of es)) up) (and_first (starts_after (row_of e).key (map row_of es)) (rise (map row_of es)) up)),
  names_apart es (and_second (starts_after (row_of e).key (map row_of es)) (rise (map row_of es)) up),
)

pub some_names : (P : TableName → Type 0) (p : Entry → Bool) (es : List Entry) → AllByRecursion P (map (λ (e : Entry). e.table.name) es) → AllByRecursion P (map (λ (e : Entry). e.table.name) (filter p es))
some_names P p [] h = tt
some_names P p (e ∷ es) h = elim (p e) as (λ b. AllByRecursion P (map (λ (a : Entry). a.table.name) (cond b (e ∷ filter p es) (filter p es)))) [
  | true ↦ (h.0, some_names P p es h.1)
  | false ↦ some_names P p es h.1
]

some_apart : (p : Entry → Bool) (es : List Entry) → AreApart (map (λ (e : Entry). e.table.name) es) → AreApart (map (λ (e : Entry). e.table.name) (filter p es))
some_apart p [] h = tt
some_apart p (e ∷ es) h = elim (p e) as (λ b. AreApart (map (λ (a : Entry). a.table.name) (cond b (e ∷ filter p es) (filter p es)))) [
  | true ↦ (some_names (λ u. u ≢ e.table.name) p es h.0, some_apart p es h.1)
  | false ↦ some_apart p es h.1
]

pub moving_apart : (from : List ℕ) (es : List Entry) → rise (map row_of es) ≡ true → AreApart (moving_tables from es)
moving_apart from es up = some_apart (λ e. is_moving from es e.table.name.ns) es (names_apart es up)

---- the catalog's rows are at keys of their own

pub row_table : (e : Entry) → (row_of e).key.table ≡ metadata_table
unfolding row_of metadata_key_of
row_table e = refl

put_elsewhere : (e : Entry) (c : Condition) (m : Contents) (k : Key) → k.table ≢ metadata_table → record_at (after (ask.PutIf (row_of e) c) m) k ≡ record_at m k
put_elsewhere e c m k far = after_put (row_of e) c m k ∙ elim (same_key_decides k (row_of e).key) [
  | inl same ↦ absurd (far (ap (λ (x : Key). x.table) same.1 ∙ row_table e))
  | inr n ↦ ap (λ (b : Bool). cond (holds c (record_at m (row_of e).key) && b) (Some (row_of e)) (record_at m k)) n.0 ∙ none (holds c (record_at m (row_of e).key))
]
  where
    none : (b : Bool) → cond (b && false) (Some (row_of e)) (record_at m k) ≡ record_at m k
    none true = refl
    none false = refl

renewals_elsewhere : (i j : ℕ) (to : List ℕ) (es : List Entry) (m : Contents) (k : Key) → k.table ≢ metadata_table → record_at (after_writes i (writes_at j (map (renewal to) es)) m) k ≡ record_at m k
renewals_elsewhere i j to [] m k far = refl
renewals_elsewhere i j to (e ∷ es) m k far = renewals_elsewhere i j to es (after_write i (write_at j (renewal to e)) m) k far ∙ elim (j == i) as (λ b. record_at (if b then after (renewal to e) m else m) k ≡ record_at m k) [
  | true ↦ put_elsewhere (renewed to e) (Version e.revision Committed) m k far
  | false ↦ refl
]

pub elsewhere : (i j : ℕ) (from to : List ℕ) (es : List Entry) (m : Contents) (k : Key) → k.table ≢ metadata_table → record_at (after_writes i (writes_at j (renewals from to es)) m) k ≡ record_at m k
elsewhere i j from to es m k far = renewals_elsewhere i j to (filter (λ e. bytes_eq e.store from) es) m k far
