-- What is written of a catalog where there was none is read back as that catalog.
use Rattle.std.proofs.Common.{◌≡◌, ℕ, zero, suc, ◌<◌, List, [], ◌∷◌, length, map, get_or, Bool, true, false, ◌&&◌, cond, Option, Some, refl, sym, ap, subst, ◌∙◌, arith}
use Rattle.std.specs.Prelude.{find, slice_get, nat_le}
use Rattle.std.specs.List.{list_all}
use Rattle.std.specs.Option.{option_map}
use Rattle.std.specs.Str.{bytes_eq}
use Rattle.std.proofs.lemmas.Slice.Eq.{bytes_eq-Decides}
use Rattle.sdb_types.specs.Contents.{rows_in}
use Rattle.sdb_types.specs.Identifier.{is_name}
use Rattle.sdb_types.proofs.Public.{and_first, and_second}
use Rattle.sdb_catalog.specs.Types.{Place, Table}
use Rattle.sdb_schema.specs.Catalog.{is_catalog, rises}
use Rattle.sdb_schema.specs.Table.{is_table}
use Rattle.sdb_stores.specs.Views.{Attached, StoreView, names_of}
use Rattle.sdb_catalog.specs.declared.entry.Entry.{Entry}
use Rattle.sdb_catalog.specs.Calls.{first_contents, metadata_span, with_states}
use Rattle.sdb_catalog.specs.Known.{IsCatalogIn}
use Rattle.sdb_catalog.specs.Stored.{IsAsStored, IsFresh, IsStoredCatalog, first_entries}
use Rattle.sdb_catalog.specs.Opened.{Follow, store_in, tables_of}
use Rattle.sdb_catalog.specs.Rows.{row_of}
use Rattle.sdb_catalog.specs.Written.{AreWritten, IsStored, Line, store_for, written_tables}
use Rattle.sdb_catalog.proofs.Known.{contents_read, rows_shown}
use Rattle.sdb_catalog.proofs.FirstEntries.{each_named, each_written, first_attached, first_follow, first_tables, place_attached, written_rise}
use Rattle.sdb_catalog.proofs.Kept.{entry, lines_kept}
use Rattle.sdb_catalog.proofs.OneReading.{one_reading}

---- what is written

no_entries : (es : List Entry) → [] ≡ map row_of es → es ≡ []
no_entries [] h = refl
no_entries (e ∷ es) h = absurd (let f : [] ≡ row_of e ∷ map row_of es = h in cc)

pub kept : (places : List Place) (catalog : List Table) (text : List ℕ) (old : Attached) (new : List StoreView) → is_catalog catalog ≡ true → names_of new ≡ names_of old.views → IsStored places catalog text old new → old.known 0 → IsFresh old.views places catalog
    → IsStoredCatalog new places catalog
kept places catalog text old new sound same stored told0 fresh =
    let names = names_of old.views in
    let first = stored.first in
    let all = written_tables catalog in
    let few = and_second (rises catalog) (nat_le (length catalog) 64 && list_all is_table catalog) sound in
    let each = each_written names places first catalog (λ ns. place_attached names places first ns (first_attached names first stored.named) fresh.attached) (and_second (nat_le (length catalog) 64) (list_all is_table catalog) few) fresh.named in
    let follow : Follow names [] (map (entry places first) all) = first_follow names places first catalog each (and_first (nat_le (length catalog) 64) (list_all is_table catalog) few) fresh.named in
    let none : stored.entries ≡ [] = no_entries stored.entries (sym (rows_shown stored.read.rows old stored.mid told0 stored.read.scanned ∙ fresh.none) ∙ stored.read.opens.rows) in
    let lines : List Line = stored.written.lines in
    let done : AreWritten places first [] lines (with_states old stored.mid) new = subst (λ (es : List Entry). AreWritten places first es lines (with_states old stored.mid) new) none stored.written.written in
    let tables : map (λ (l : Line). l.table) lines ≡ all = stored.written.tables in
    let rows : rows_in metadata_span (first_contents new) ≡ map row_of (map (entry places first) all) =
    lines_kept names places first [] lines (with_states old stored.mid) new told0 done (ap (rows_in metadata_span) (contents_read stored.read.rows old stored.mid told0 stored.read.scanned) ∙ fresh.none)
    (ap rises tables ∙ written_rise catalog (and_first (rises catalog) (nat_le (length catalog) 64 && list_all is_table catalog) sound) fresh.named)
    (ap (list_all (λ (t : Table). is_name t.name.ns)) tables ∙ each_named names places first all each)
    (subst (λ (ts : List Table). Follow names [] (map (entry places first) ts)) (sym tables) follow)
    ∙ ap (λ (ts : List Table). map row_of (map (entry places first) ts)) tables in
    record {
      first = first;
      named = ap (λ (ns : List (List ℕ)). slice_get ns 0) same ∙ stored.named;
      rows = record { rows = rows; follow = subst (λ (ns : List (List ℕ)). Follow ns [] (map (entry places first) all)) (sym same) follow };
      tables = first_tables names places first catalog fresh.named;
    }

---- what is opened

-- each namespace of a table is in the store that new entries give it
module _ (places : List Place) (first : List ℕ) where
  abbrev store_if : Table → Bool → List ℕ → List Table → Option (List ℕ)
  store_if u b ns us = option_map (λ (e : Entry). e.store) (cond b (Some (entry places first u)) (find (λ (e : Entry). bytes_eq e.table.name.ns ns) (map (entry places first) us)))

  store_at : (us : List Table) (i : ℕ) (t : Table) → i < length us → get_or us i t ≡ t → store_in (map (entry places first) us) t.name.ns ≡ Some (store_for [] places first t.name.ns)
  store_at [] i t inside is = absurd (omega arith)
  store_at (u ∷ us) zero t inside is =
      ap (λ (b : Bool). store_if u b t.name.ns us) ((bytes_eq-Decides u.name.ns t.name.ns).1 (ap (λ (x : Table). x.name.ns) is)) ∙ ap (λ (x : Table). Some (store_for [] places first x.name.ns)) is
  store_at (u ∷ us) (suc i) t inside is =
      elim (bytes_eq u.name.ns t.name.ns) as (λ b. bytes_eq u.name.ns t.name.ns ≡ b → store_if u b t.name.ns us ≡ Some (store_for [] places first t.name.ns)) [
        | true ↦ λ q. ap (λ (ns : List ℕ). Some (store_for [] places first ns)) ((bytes_eq-Decides u.name.ns t.name.ns).0 q)
        | false ↦ λ q. store_at us i t (omega arith) is
      ] refl

pub read_back : (opened : List Table) (now : List Place) (store_contents : List StoreView) → IsCatalogIn (names_of store_contents) (first_contents store_contents) opened now → IsAsStored store_contents opened now
read_back opened now store_contents found = λ places catalog kept.
    let same : found.entries ≡ first_entries places kept.first catalog = one_reading (names_of store_contents) (rows_in metadata_span (first_contents store_contents)) found.entries (first_entries places kept.first catalog) found.opens kept.rows in
    record {
      same = found.tables ∙ ap tables_of same ∙ kept.tables;
      first = kept.first;
      named = kept.named;
      placed = λ t c. found.placed t.name.ns ∙ ap (λ (fs : List Entry). store_in fs t.name.ns) same ∙ store_at places kept.first (written_tables catalog) c.0 t c.1 c.2;
    }
