-- What is printed of the stores' records is what plain tables hold that are their committed images.
use Rattle.std.proofs.Common.{◌≡◌, ◌∙◌, ◌<◌, ◌^◌, Bool, true, false, cond, List, [], ◌∷◌, Option, Some, None, refl, sym, ap}
use Rattle.std.specs.Prelude.{◌&&◌, filter, map, not, is_some}
use Rattle.std.specs.FinMap.{empty, entries, entries_sorted, get, get-empty, get-entries}
use Rattle.std.specs.FinMap.Entries.{same_entries}
use Rattle.std.specs.List.{AllByRecursion, cons_option, filter_map, list_all}
use Rattle.std.specs.Option.{option_and_then, option_map, option_map_or}
use Rattle.std.specs.Ordering.{is_eq}
use Rattle.std.specs.Result.{result_ok}
use Rattle.sdb_contents.specs.Types.{Decided, Image, Key, Pair, Place, Record, Table, TableName, TxId, Value}
use Rattle.sdb_types.specs.declared.value.Value.TheVariants as value
use Rattle.sdb_types.specs.Columns.{column}
use Rattle.sdb_types.specs.Contents.{Contents, in_span, record_at, rise, rows_among, rows_in, tx_id, record_among}
use Rattle.sdb_types.specs.Exact.{equal_of}
use Rattle.sdb_types.specs.Order.{key_cmp, table_cmp}
use Rattle.sdb_types.proofs.Public.{all_each, and_first, key_exact, key_total, none_some, rows_in-are_rows_of, table_exact}
use Rattle.sdb_record.specs.Coordinator.{coordinator_key_of, coordinator_table, decision_in}
use Rattle.sdb_record.specs.Meta.{id_in, id_in_value, is_transactional}
use Rattle.sdb_record.specs.Rolls.{image_of, row_of_image}
use Rattle.sdb_record.proofs.Public.{id_of_text-is}
use Rattle.law_protocol.proofs.Public.{row_there}
use Rattle.sdb_schema.specs.Rows.{fits_table}
use Rattle.sdb_model.specs.Events.{StoreContents, contents_under, stored_at, store_of}
use Rattle.sdb_model.specs.Exec.{Tables, all_rows, find_table, is_row_of, projected, sorted}
use Rattle.sdb_model.specs.Images.{decision_at, decision_on, row_at}
use Rattle.sdb_model.specs.Serial.{AreImages, dump_of, dumps_of}
use Rattle.sdb_contents.specs.Opening.{records_of, whole}
use Rattle.sdb_contents.proofs.RunTables.{each_found}
use Rattle.sdb_contents.specs.Decided.{decision_among}
use Rattle.sdb_contents.specs.Dumped.{dump_by, image_by, is_well_formed, row_by}
use Rattle.sdb_contents.specs.Held.{AreDecisions}
use Rattle.sdb_contents.specs.Refused.{first_unlike}
use Rattle.sdb_contents.proofs.DumpLists.{found_same}
use Rattle.sdb_contents.proofs.DumpTables.{of_table, table_rows}
use Rattle.sdb_contents.proofs.Empty.{nothing_at}

---- decisions

-- an id that a record names is small
id_small : (o : Option Value) (id : TxId) → id_in_value o ≡ Some id → id.0 < 2 ^ 128
id_small (Some (value.Text text)) id e = (id_of_text-is text id e).0
id_small _ id e = absurd (none_some id e)

decision_same : (places : List Place) (store_contents : List StoreContents) (decide : TxId → Option Decided) (r : Record) → AreDecisions places store_contents decide → decision_on places store_contents r ≡ option_and_then decide (id_in r.columns)
decision_same places store_contents decide r are = by (id_in r.columns) refl
  where
    by : (o : Option TxId) → id_in r.columns ≡ o → option_and_then (decision_at places store_contents) o ≡ option_and_then decide o
    by None e = refl
    by (Some id) e = sym (are.at id (id_small (column r.columns tx_id) id e))

row_same : (places : List Place) (store_contents : List StoreContents) (decide : TxId → Option Decided) (found : Option Record) → AreDecisions places store_contents decide → option_and_then row_of_image (option_and_then (λ r. image_of r (decision_on places store_contents r)) found) ≡ option_and_then (row_by decide) found
row_same places store_contents decide None are = refl
row_same places store_contents decide (Some r) are = ap (λ (d : Option Decided). option_and_then row_of_image (image_of r d)) (decision_same places store_contents decide r are)

-- which records are well formed is the same under the decisions of what the stores hold
well_formed_same : (places : List Place) (store_contents : List StoreContents) (decide : TxId → Option Decided) (t : Table) (r : Record) → AreDecisions places store_contents decide → is_well_formed (decision_at places store_contents) t r ≡ is_well_formed decide t r
well_formed_same places store_contents decide t r are = ap (λ (d : Option Decided). is_transactional r && option_map_or (fits_table t r.key) (option_and_then row_of_image (image_of r d)) true) (decision_same places store_contents decide r are)

pub ill_formed_same : (places : List Place) (store_contents : List StoreContents) (decide : TxId → Option Decided) (t : Table) (r : Record) → AreDecisions places store_contents decide → is_well_formed decide t r ≡ false → is_well_formed (decision_at places store_contents) t r ≡ false
ill_formed_same places store_contents decide t r are h = well_formed_same places store_contents decide t r are ∙ h

-- so is the first that isn't
pub first_ill_formed_same : (places : List Place) (store_contents : List StoreContents) (decide : TxId → Option Decided) (t : Table) (rs : List Record) → AreDecisions places store_contents decide → first_unlike (is_well_formed (decision_at places store_contents) t) rs ≡ first_unlike (is_well_formed decide t) rs
first_ill_formed_same places store_contents decide t rs are =
    ap (option_map (λ (r : Record). r.key)) (found_same (λ r. not (is_well_formed (decision_at places store_contents) t r)) (λ r. not (is_well_formed decide t r)) rs (λ r. ap not (well_formed_same places store_contents decide t r are)))

-- the decision in a transaction's row, among those of the coordinator's table
pub decision_there : (places : List Place) (store_contents : List StoreContents) (id : TxId) → decision_among (records_of places store_contents coordinator_table) id ≡ decision_at places store_contents id
unfolding coordinator_key_of
decision_there places store_contents id = ap (option_and_then (λ (row : Record). result_ok (decision_in row))) (by (contents_under store_contents (store_of places store_contents coordinator_table.ns)))
  where
    by : (o : Option Contents) → record_among (option_map_or (rows_in (whole coordinator_table)) o []) (coordinator_key_of id) ≡ option_map_or (λ (m : Contents). record_at m (coordinator_key_of id)) o None
    by None = refl
    by (Some m) = row_there (whole coordinator_table) (coordinator_key_of id) m refl

pub records_rise : (places : List Place) (store_contents : List StoreContents) (table : TableName) → rise (records_of places store_contents table) ≡ true
records_rise places store_contents table = by (contents_under store_contents (store_of places store_contents table.ns))
  where
    by : (o : Option Contents) → rise (option_map_or (rows_in (whole table)) o []) ≡ true
    by None = refl
    by (Some m) = and_first (rise (rows_in (whole table) m)) (list_all (λ r. in_span (whole table) r.key) (rows_in (whole table) m)) (rows_in-are_rows_of (whole table) m)

---- tables

nothing : entries (empty {K = Key} {X = List Pair} {R = key_cmp}) ≡ []
nothing = same_entries key_cmp key_total key_exact (entries empty) [] (entries_sorted empty) tt (λ q. sym (get-entries empty q) ∙ get-empty key_cmp q)

name_of : (t : Table) (key : Key) → of_table t key ≡ true → t.name ≡ key.table
name_of t key h = table_exact t.name key.table (equal_of (table_cmp t.name key.table) (and_first (is_eq (table_cmp t.name key.table)) true h))

-- a table's rows, where its store holds this
rows_there : (decide : TxId → Option Decided) (t : Table) (d : Tables) (o : Option Contents) → ((key : Key) → of_table t key ≡ true → get d key ≡ option_and_then (row_by decide) (option_map_or (λ (m : Contents). record_at m key) o None))
    → filter (is_row_of t) (all_rows d) ≡ filter_map (image_by decide) (option_map_or (rows_in (whole t.name)) o [])
rows_there decide t d None h =
    table_rows (row_by decide) t empty d (record { at = λ key inside. h key inside ∙ ap (option_and_then (row_by decide)) (sym (nothing_at key)) })
    ∙ ap (λ (es : List (Key × List Pair)). filter_map (image_by decide) (rows_among (whole t.name) es)) nothing
rows_there decide t d (Some m) h = table_rows (row_by decide) t m d (record { at = h })

table_dump : (catalog : List Table) (places : List Place) (store_contents : List StoreContents) (decide : TxId → Option Decided) (d : Tables) (t : Table) → is_some (find_table catalog t.name) ≡ true → AreDecisions places store_contents decide → AreImages catalog places store_contents d
    → dump_by decide t (records_of places store_contents t.name) ≡ dump_of d t
table_dump catalog places store_contents decide d t known are images =
    ap (λ (rs : List Image). record { name = t.name; rows = map (projected t None) (sorted t rs) })
    (sym (rows_there decide t d (contents_under store_contents (store_of places store_contents t.name.ns)) (λ key inside.
    let named : t.name ≡ key.table = name_of t key inside in
    let here : is_some (find_table catalog key.table) ≡ true = ap (λ (x : TableName). is_some (find_table catalog x)) (sym named) ∙ known in
    images key ∙ ap (λ (b : Bool). cond b (row_at places store_contents key) None) here ∙ row_same places store_contents decide (stored_at places store_contents key) are
    ∙ ap (λ (x : TableName). option_and_then (row_by decide) (option_map_or (λ (m : Contents). record_at m key) (contents_under store_contents (store_of places store_contents x.ns)) None)) (sym named))))

each_dump : {A B : Type 0} (f g : A → B) (xs : List A) → AllByRecursion (λ x. f x ≡ g x) xs → map f xs ≡ map g xs
each_dump f g [] h = refl
each_dump f g (x ∷ xs) h = let rest = each_dump f g xs h.1 in let here = h.0 in λ i. here i ∷ rest i

-- what is printed of the stores' records is what the plain tables hold
pub dumps_are : (catalog : List Table) (places : List Place) (store_contents : List StoreContents) (decide : TxId → Option Decided) (d : Tables) → AreDecisions places store_contents decide → AreImages catalog places store_contents d
    → map (λ t. dump_by decide t (records_of places store_contents t.name)) catalog ≡ dumps_of catalog d
dumps_are catalog places store_contents decide d are images =
    each_dump (λ t. dump_by decide t (records_of places store_contents t.name)) (dump_of d) catalog
    (all_each (λ (t : Table). is_some (find_table catalog t.name) ≡ true) (λ (t : Table). dump_by decide t (records_of places store_contents t.name) ≡ dump_of d t) catalog
    (λ t known. table_dump catalog places store_contents decide d t known are images) (each_found catalog))

-- the dump of a table's records is the same under the decisions of what the stores hold
pub dump_same : (places : List Place) (store_contents : List StoreContents) (decide : TxId → Option Decided) (t : Table) (rs : List Record) → AreDecisions places store_contents decide → dump_by (decision_at places store_contents) t rs ≡ dump_by decide t rs
dump_same places store_contents decide t rs are = ap (λ (images : List Image). record { name = t.name; rows = map (projected t None) (sorted t images) }) (each_image rs)
  where
    image_same : (r : Record) → image_by (decision_at places store_contents) r ≡ image_by decide r
    image_same r = ap (λ (d : Option Decided). option_map (λ (columns : List Pair). record { key = r.key; columns = columns }) (option_and_then row_of_image (image_of r d))) (decision_same places store_contents decide r are)

    each_image : (xs : List Record) → filter_map (image_by (decision_at places store_contents)) xs ≡ filter_map (image_by decide) xs
    each_image [] = refl
    each_image (x ∷ xs) = ap (λ (o : Option Image). cons_option o (filter_map (image_by (decision_at places store_contents)) xs)) (image_same x) ∙ ap (cons_option (image_by decide x)) (each_image xs)
