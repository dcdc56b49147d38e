-- What a table's value in a schema says: which of its members are of their form, and what is in them. The members of an
-- object are in the order of their names, each once.
use Rattle.std.specs.Prelude.{ℕ, Bool, true, false, ◌&&◌, if◌then◌else◌, List, [], ◌∷◌, codes, Option, Some, None, is_some, is_none}
use Rattle.std.specs.Option.{option_map, option_map_or, option_and_then}
use Rattle.std.specs.List.{filter_map, cons_option}
use Rattle.sdb_record.specs.Parts.{is_column_name}
use Rattle.sdb_schema.specs.declared.table.Kind.{Kind}
use Rattle.sdb_schema.specs.declared.table.Column.{Column}
use Rattle.sdb_schema.specs.declared.table.Order.{Order}
use Rattle.serde_json.specs.Data.{Data, Items, no_items, item, Members, no_members, member}
use Rattle.serde_json.specs.Find.{get, as_bool, as_str, as_array, as_object}
use Rattle.sdb_loader.specs.Words.{column_named, kind_named, order_named}

---- the members that count

abbrev pub clustering_key : List ℕ
clustering_key = codes "clustering-key"

abbrev pub columns : List ℕ
columns = codes "columns"

abbrev pub partition_key : List ℕ
partition_key = codes "partition-key"

abbrev pub secondary_index : List ℕ
secondary_index = codes "secondary-index"

abbrev pub transaction : List ℕ
transaction = codes "transaction"

---- what single values say

-- the column that a string names
abbrev pub name_given : Data → Option (List ℕ)
name_given d = option_and_then column_named (as_str d)

-- the clustering column that a string is
abbrev pub order_given : Data → Option Order
order_given d = option_and_then order_named (as_str d)

-- the kind that a string names
abbrev pub kind_given : Data → Option Kind
kind_given d = option_and_then kind_named (as_str d)

---- members of their form

abbrev pub each_item : (Data → Bool) → Items → Bool
each_item test no_items = true
each_item test (item d ds) = test d && each_item test ds

-- an array, each of whose entries says something
abbrev pub is_array_of : {A : Type 0} → (Data → Option A) → Data → Bool
is_array_of given d = option_map_or (each_item (λ e. is_some (given e))) (as_array d) false

abbrev pub each_named : Members → Bool
each_named no_members = true
each_named (member k d ms) = is_column_name k && each_named ms

-- an object whose members are named as columns are
abbrev pub is_column_object : Data → Bool
is_column_object d = option_map_or each_named (as_object d) false

abbrev pub is_flag : Data → Bool
is_flag d = is_some (as_bool d)

-- a member is of its form, where a missing one counts as given
abbrev pub is_of_form : (Data → Bool) → Bool → List ℕ → Data → Bool
is_of_form test missing key d = option_map_or test (get key d) missing

abbrev pub unless : {A : Type 0} → Bool → A → Option A → Option A
unless true a next = next
unless false a next = Some a

-- the first member, in the order of names, that is missing or isn't of its form
unfoldable pub bad_member : Data → Option (List ℕ)
bad_member d =
    unless (is_of_form (is_array_of order_given) true clustering_key d) clustering_key
    (unless (is_of_form is_column_object false columns d) columns
    (unless (is_of_form (is_array_of name_given) false partition_key d) partition_key
    (unless (is_of_form (is_array_of name_given) true secondary_index d) secondary_index
    (unless (is_of_form is_flag true transaction d) transaction None))))

-- `transaction` is there, and false
abbrev pub is_untransactional : Data → Bool
is_untransactional d = option_map_or (λ b. if b then false else true) (option_and_then as_bool (get transaction d)) false

---- what is in the members

abbrev pub list_of : Items → List Data
list_of no_items = []
list_of (item d ds) = d ∷ list_of ds

-- the entries of an array among the members, or none
abbrev pub entries_at : List ℕ → Data → List Data
entries_at key d = option_map_or list_of (option_and_then as_array (get key d)) []

-- the columns that an array lists
abbrev pub names_at : List ℕ → Data → List (List ℕ)
names_at key d = filter_map name_given (entries_at key d)

-- the clustering columns that an array lists
abbrev pub orders_at : List ℕ → Data → List Order
orders_at key d = filter_map order_given (entries_at key d)

abbrev pub column_given : List ℕ → Data → Option Column
column_given name d = if is_column_name name then option_map (λ k. record { name = name; kind = k }) (kind_given d) else None

abbrev pub columns_among : Members → List Column
columns_among no_members = []
columns_among (member k d ms) = cons_option (column_given k d) (columns_among ms)

-- the columns with their kinds
abbrev pub columns_in : Data → List Column
columns_in d = option_map_or columns_among (option_and_then as_object (get columns d)) []

abbrev pub is_unknown : List ℕ → Data → Bool
is_unknown name d = is_column_name name && is_none (kind_given d)

abbrev pub unknown_among : Members → Option (List ℕ)
unknown_among no_members = None
unknown_among (member k d ms) = if is_unknown k d then Some k else unknown_among ms

-- the first column whose kind isn't known
abbrev pub unknown_column : Data → Option (List ℕ)
unknown_column d = option_and_then unknown_among (option_and_then as_object (get columns d))
