-- What tables add to a catalog and to its store.
use Rattle.std.proofs.Common.{◌≡◌, ℕ, List, [], ◌∷◌, true, false, cond, Option, Some, None, refl, sym, ap, ◌∙◌, append_assoc, append-nil}
use Rattle.std.specs.FinMap.{insert, get-insert}
use Rattle.std.specs.Ordering.{eq_by_cmp}
use Rattle.sdb_catalog.specs.Types.{Key, Pair, Place, Record, Table}
use Rattle.sdb_types.specs.Contents.{Contents, record_at}
use Rattle.sdb_types.specs.Exact.{equal_of}
use Rattle.sdb_types.specs.Order.{key_cmp}
use Rattle.sdb_types.proofs.Public.{key_exact, key_total, none_some}
use Rattle.sdb_catalog.specs.declared.entry.Entry.{Entry}
use Rattle.sdb_catalog.specs.declared.outcome.Outcome.{Outcome}
use Rattle.sdb_catalog.specs.declared.outcome.Outcome.TheVariants as outcome
use Rattle.sdb_catalog.specs.Known.{CatalogState, IsWith, IncludesRecords, after_entry, after_outcome, after_table, created_in, has_definition, lines_of, outcome_at, outcome_in, state_after}
use Rattle.sdb_catalog.specs.Rows.{row_of}
use Rattle.sdb_catalog.specs.Written.{entry_for, is_full}

---- an entry is created only where no record is at the key of its row

none_at : (e : Entry) (o : Option Record) → outcome_at e o ≡ outcome.Created → o ≡ None
none_at e None h = refl
none_at e (Some x) h =
    elim (has_definition e x) as (λ b. cond b outcome.Exists outcome.Differs ≡ outcome.Created → Some x ≡ None) [
      | true ↦ λ q. absurd (let f : outcome.Exists ≡ outcome.Created = q in cc)
      | false ↦ λ q. absurd (let f : outcome.Differs ≡ outcome.Created = q in cc)
    ] h

created_none : (s : CatalogState) (e : Entry) → outcome_in s e ≡ outcome.Created → record_at s.contents (row_of e).key ≡ None
created_none s e h =
    elim (is_full s.entries e) as (λ b. cond b outcome.Full (outcome_at e (record_at s.contents (row_of e).key)) ≡ outcome.Created → record_at s.contents (row_of e).key ≡ None) [
      | true ↦ λ q. absurd (let f : outcome.Full ≡ outcome.Created = q in cc)
      | false ↦ λ q. none_at e (record_at s.contents (row_of e).key) q
    ] h

---- records stay

put_beside : (m : Contents) (k : Key) (v : List Pair) → record_at m k ≡ None → IncludesRecords m (insert m k v)
put_beside m k v none q found h =
    elim (eq_by_cmp key_cmp q k) as (λ b. eq_by_cmp key_cmp q k ≡ b → record_at (insert m k v) q ≡ Some found) [
      | true ↦ λ e. none_some found (sym none ∙ ap (record_at m) (sym (key_exact q k (equal_of (key_cmp q k) e))) ∙ h)
      | false ↦ λ e. rw (get-insert key_total m k v q, e) h
    ] refl

entry_keeps : (s : CatalogState) (e : Entry) → IncludesRecords s.contents (after_entry s e).contents
entry_keeps s e =
    elim (outcome_in s e) as (λ o. outcome_in s e ≡ o → IncludesRecords s.contents (after_outcome s e o).contents) [
      | outcome.Created ↦ λ q. put_beside s.contents (row_of e).key (row_of e).columns (created_none s e q)
      | outcome.Exists ↦ λ q key found h. h
      | outcome.Differs ↦ λ q key found h. h
      | outcome.Full ↦ λ q key found h. h
    ] refl

---- tables

-- each record that was there is there still
pub keeps : (places : List Place) (first : List ℕ) (s : CatalogState) (ts : List Table) → IncludesRecords s.contents (state_after places first s ts).contents
keeps places first s [] key found h = h
keeps places first s (t ∷ ts) key found h = keeps places first (after_table places first s t) ts key found (entry_keeps s (entry_for s.entries places first t) key found h)

abbrev rest_of : List Place → List ℕ → CatalogState → Table → List Table → Outcome → Type 0
rest_of places first s t ts o =
    let next = after_outcome s (entry_for s.entries places first t) o in
    IsWith (created_in (record { table = t; outcome = o } ∷ lines_of places first next ts)) s (state_after places first next ts)

-- entries and rows of the tables that are created, and nothing else
pub adds : (places : List Place) (first : List ℕ) (s : CatalogState) (ts : List Table) → IsWith (created_in (lines_of places first s ts)) s (state_after places first s ts)
adds places first s [] = record { added = []; tables = refl; entries = sym (append-nil s.entries); contents = refl }
adds places first s (t ∷ ts) =
    let e = entry_for s.entries places first t in
    elim (outcome_in s e) as (rest_of places first s t ts) [
      | outcome.Created ↦
          let rest = adds places first (after_outcome s e outcome.Created) ts in
          record {
            added = e ∷ rest.added;
            tables = ap (λ (us : List Table). t ∷ us) rest.tables;
            entries = rest.entries ∙ append_assoc s.entries (e ∷ []) rest.added;
            contents = rest.contents;
          }
      | outcome.Exists ↦ adds places first s ts
      | outcome.Differs ↦ adds places first s ts
      | outcome.Full ↦ adds places first s ts
    ]
