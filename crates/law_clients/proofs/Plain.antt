-- Plain tables that are the rows of stores, whatever these contain.
use Rattle.law_clients.specs.Types.{Key, Pair, Place, Record, Table}
use Rattle.sdb_record.specs.Rolls.{row_of_image, image_of}
use Rattle.std.proofs.Common.{◌≡◌, ◌≢◌, Bool, true, false, cond, List, [], ◌∷◌, ◌++◌, map, Option, Some, None, ◌⊎◌, inl, inr, refl, sym, ap, ◌∙◌}
use Rattle.std.specs.Prelude.{◌||◌, if◌then◌else◌, find}
use Rattle.std.specs.Option.{option_and_then, option_map, option_map_or}
use Rattle.std.specs.List.{list_all, list_any}
use Rattle.std.specs.Ordering.{is_eq, is_lt}
use Rattle.std.specs.Cmp.{tied_itself}
use Rattle.std.specs.FinMap.{empty, entries, entries_sorted, find as find_key, get, get-empty, get-entries, is_sorted}
use Rattle.std.specs.FinMap.Entries.{below_all}
use Rattle.std.proofs.lemmas.Bool.{and_parts}
use Rattle.std.proofs.lemmas.List.Folds.{list_any-append}
use Rattle.sdb_types.specs.Contents.{Contents, record_at}
use Rattle.sdb_types.specs.Order.{key_cmp, same_key}
use Rattle.sdb_types.proofs.Public.{and_both, false_true, key_total, less_of, none_some, or_second, same_key_is, same_key_decides, some_is, truth as true_from_T}
use Rattle.sdb_model.specs.Access.{with_row}
use Rattle.sdb_model.specs.Events.{StoreContents, contents_under, stored_at, store_of}
use Rattle.sdb_model.specs.Exec.{Tables, row_of_entry}
use Rattle.sdb_model.specs.Rows.{Name, same_name}
use Rattle.sdb_exec.proofs.Public.{by_key, get-with_row}
use Rattle.law_clients.specs.Fitting.{row_is_well_typed}
use Rattle.law_clients.specs.Database.{Database, database_of, is_listed, row_in, decided_on}
use Rattle.law_clients.specs.OnlyResolves.{IsSound}
use Rattle.law_clients.specs.Seen.{AreImagesOf, HasTables}

---- the keys of stores

abbrev keys_held : List StoreContents → List Key
keys_held [] = []
keys_held (s ∷ ss) = map (λ e. e.0) (entries s.contents) ++ keys_held ss

-- the key of an entry
among_entries : (es : List (Key × List Pair)) (k : Key) (cs : List Pair) → find_key key_cmp k es ≡ Some cs → list_any (same_key k) (map (λ e. e.0) es) ≡ true
among_entries [] k cs h = none_some cs h
among_entries (e ∷ es) k cs h = by (is_eq (key_cmp k e.0)) refl (among_entries es k cs)
  where
    by : (b : Bool) → is_eq (key_cmp k e.0) ≡ b → (find_key key_cmp k es ≡ Some cs → list_any (same_key k) (map (λ x. x.0) es) ≡ true) → (same_key k e.0 || list_any (same_key k) (map (λ x. x.0) es)) ≡ true
    by true f rest = ap (λ b. b || list_any (same_key k) (map (λ x. x.0) es)) (same_key_is k e.0 ∙ f)
    by false f rest = or_second (same_key k e.0) (list_any (same_key k) (map (λ x. x.0) es)) (rest (sym (ap (λ b. cond b (Some e.1) (find_key key_cmp k es)) f) ∙ h))

among_shelves : (ss : List StoreContents) (name : Name) (m : Contents) (k : Key) (cs : List Pair) → contents_under ss name ≡ Some m → get m k ≡ Some cs → list_any (same_key k) (keys_held ss) ≡ true
among_shelves [] name m k cs h g = none_some m h
among_shelves (s ∷ ss) name m k cs h g = list_any-append (same_key k) (map (λ e. e.0) (entries s.contents)) (keys_held ss) ∙ by (same_name s.name name) refl (among_shelves ss name m k cs)
  where
    by : (b : Bool) → same_name s.name name ≡ b → (contents_under ss name ≡ Some m → get m k ≡ Some cs → list_any (same_key k) (keys_held ss) ≡ true) → (list_any (same_key k) (map (λ e. e.0) (entries s.contents)) || list_any (same_key k) (keys_held ss)) ≡ true
    by true f rest =
        let same : s.contents ≡ m = some_is s.contents m (sym (ap (λ b. option_map (λ (x : StoreContents). x.contents) (if b then Some s else find (λ x. same_name x.name name) ss)) f) ∙ h) in
        ap (λ b. b || list_any (same_key k) (keys_held ss)) (among_entries (entries s.contents) k cs (sym (get-entries s.contents k) ∙ ap (λ x. get x k) same ∙ g))
    by false f rest = or_second (list_any (same_key k) (map (λ e. e.0) (entries s.contents))) (list_any (same_key k) (keys_held ss)) (rest (sym (ap (λ b. option_map (λ (x : StoreContents). x.contents) (if b then Some s else find (λ x. same_name x.name name) ss)) f) ∙ h) g)

---- tables with rows at keys

module _ (f : Key → Option (List Pair)) where
  abbrev rows_of : List Key → Tables
  rows_of [] = empty
  rows_of (k ∷ ks) = with_row (rows_of ks) k (f k)

  get_rows : (ks : List Key) (q : Key) → get (rows_of ks) q ≡ (if list_any (same_key q) ks then f q else None)
  get_rows [] q = get-empty key_cmp q
  get_rows (k ∷ ks) q = get-with_row (rows_of ks) k (f k) q ∙ by (same_key_decides q k) (get_rows ks q)
    where
      by : ((same_key q k ≡ true) × (q ≡ k)) ⊎ ((same_key q k ≡ false) × (q ≢ k)) → get (rows_of ks) q ≡ (if list_any (same_key q) ks then f q else None) → cond (is_eq (key_cmp q k)) (f k) (get (rows_of ks) q) ≡ (if same_key q k || list_any (same_key q) ks then f q else None)
      by (inl e) rest = ap (λ b. cond b (f k) (get (rows_of ks) q)) (sym (same_key_is q k) ∙ e.0) ∙ ap f (sym e.1) ∙ sym (ap (λ b. if b || list_any (same_key q) ks then f q else None) e.0)
      by (inr n) rest = ap (λ b. cond b (f k) (get (rows_of ks) q)) (sym (same_key_is q k) ∙ n.0) ∙ rest ∙ sym (ap (λ b. if b || list_any (same_key q) ks then f q else None) n.0)

---- they fit

none_below : (x : Key) (es : List (Key × List Pair)) → below_all key_cmp x es ≡ true → find_key key_cmp x es ≡ None
none_below x [] h = refl
none_below x (e ∷ es) h =
    let parts = and_parts (is_lt (key_cmp x e.0)) (below_all key_cmp x es) h in
    rw (less_of (key_cmp x e.0) parts.0, none_below x es parts.1) refl

later : (e : Key × List Pair) (es : List (Key × List Pair)) (q : Key) (cs : List Pair) → below_all key_cmp e.0 es ≡ true → find_key key_cmp q es ≡ Some cs → find_key key_cmp q (e ∷ es) ≡ Some cs
later e es q cs below found =
    by_key q e (λ b. cond b (Some e.1) (find_key key_cmp q es) ≡ Some cs)
    (λ t i. absurd (let none : find_key key_cmp q es ≡ None = ap (λ k. find_key key_cmp k es) i ∙ none_below e.0 es below in cc))
    (λ t. found)

module _ (P : Key → List Pair → Bool) where
  found_pass : (es : List (Key × List Pair)) → is_sorted key_cmp es ≡ true → ((q : Key) (cs : List Pair) → find_key key_cmp q es ≡ Some cs → P q cs ≡ true) → list_all (λ r. P r.key r.columns) (map row_of_entry es) ≡ true
  found_pass [] h each = refl
  found_pass (e ∷ es) h each =
      let parts = and_parts (below_all key_cmp e.0 es) (is_sorted key_cmp es) h in
      and_both (P e.0 e.1) (list_all (λ r. P r.key r.columns) (map row_of_entry es)) (each e.0 e.1 (rw (tied_itself key_total e.0) refl)) (found_pass es parts.1 (λ q cs found. each q cs (later e es q cs parts.0 found)))

---- the tables

abbrev row_listed : List Table → Database → Key → Option (List Pair)
row_listed catalog g k = if is_listed catalog k then row_in g k else None

pub plain_tables : (catalog : List Table) (places : List Place) (store_contents : List StoreContents) → IsSound catalog (database_of places store_contents) → HasTables catalog (database_of places store_contents)
plain_tables catalog places store_contents sound = record {
  tables = rows_of (row_listed catalog (database_of places store_contents)) (keys_held store_contents);
  are_images = are_images;
  fit = found_pass (row_is_well_typed catalog) (entries (rows_of (row_listed catalog (database_of places store_contents)) (keys_held store_contents))) (true_from_T _ (entries_sorted (rows_of (row_listed catalog (database_of places store_contents)) (keys_held store_contents)))) (λ q cs found. fits q cs (get-entries (rows_of (row_listed catalog (database_of places store_contents)) (keys_held store_contents)) q ∙ found));
}
  where
    absent : (k : Key) → list_any (same_key k) (keys_held store_contents) ≡ false → (if is_listed catalog k then row_in (database_of places store_contents) k else None) ≡ None
    absent k free = by (is_listed catalog k)
      where
        none : (o : Option Contents) → contents_under store_contents (store_of places store_contents k.table.ns) ≡ o → option_map_or (λ m. record_at m k) o None ≡ None
        none None e = refl
        none (Some m) e = on (get m k) refl
          where
            on : (c : Option (List Pair)) → get m k ≡ c → record_at m k ≡ None
            on None f = ap (option_map (λ (columns : List Pair). record { key = k; columns = columns })) f
            on (Some cs) f = false_true (sym free ∙ among_shelves store_contents (store_of places store_contents k.table.ns) m k cs e f)

        nothing : stored_at places store_contents k ≡ None
        nothing = none (contents_under store_contents (store_of places store_contents k.table.ns)) refl

        by : (b : Bool) → (if b then row_in (database_of places store_contents) k else None) ≡ None
        by true = ap (λ o. option_and_then row_of_image (option_and_then (λ r. image_of r (decided_on (database_of places store_contents) r)) o)) nothing
        by false = refl

    are_images : AreImagesOf catalog (database_of places store_contents) (rows_of (row_listed catalog (database_of places store_contents)) (keys_held store_contents))
    are_images k = get_rows (row_listed catalog (database_of places store_contents)) (keys_held store_contents) k ∙ by (list_any (same_key k) (keys_held store_contents)) refl
      where
        by : (b : Bool) → list_any (same_key k) (keys_held store_contents) ≡ b → (if list_any (same_key k) (keys_held store_contents) then (if is_listed catalog k then row_in (database_of places store_contents) k else None) else None) ≡ (if is_listed catalog k then row_in (database_of places store_contents) k else None)
        by true e = ap (λ b. if b then (if is_listed catalog k then row_in (database_of places store_contents) k else None) else None) e
        by false e = ap (λ b. if b then (if is_listed catalog k then row_in (database_of places store_contents) k else None) else None) e ∙ sym (absent k e)

    fits : (q : Key) (cs : List Pair) → get (rows_of (row_listed catalog (database_of places store_contents)) (keys_held store_contents)) q ≡ Some cs → row_is_well_typed catalog q cs ≡ true
    fits q cs e = by (is_listed catalog q) refl (sym (are_images q) ∙ e)
      where
        by : (b : Bool) → is_listed catalog q ≡ b → (if is_listed catalog q then row_in (database_of places store_contents) q else None) ≡ Some cs → row_is_well_typed catalog q cs ≡ true
        by true f h = sound.fits q cs f (sym (ap (λ b. if b then row_in (database_of places store_contents) q else None) f) ∙ h)
        by false f h = none_some cs (sym (ap (λ b. if b then row_in (database_of places store_contents) q else None) f) ∙ h)

-- a record is at its own key
pub own_at : (places : List Place) (store_contents : List StoreContents) (k : Key) (r : Record) → stored_at places store_contents k ≡ Some r → r.key ≡ k
own_at places store_contents k r e = by (contents_under store_contents (store_of places store_contents k.table.ns)) e
  where
    on : (o : Option (List Pair)) → option_map (λ (columns : List Pair). record { key = k; columns = columns }) o ≡ Some r → r.key ≡ k
    on None f = none_some r f
    on (Some cs) f = sym (ap (λ (x : Record). x.key) (some_is _ r f))

    by : (o : Option Contents) → option_map_or (λ m. record_at m k) o None ≡ Some r → r.key ≡ k
    by None f = none_some r f
    by (Some m) f = on (get m k) f
