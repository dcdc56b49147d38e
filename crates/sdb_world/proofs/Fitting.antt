-- Where a world has played its script, the rows of the committed images fit their tables.
use Rattle.std.proofs.Common.{◌≡◌, ◌∙◌, inl, inr, ◌<◌, ◌^◌, Bool, true, cond, List, [], ◌∷◌, map, Option, Some, None, refl, sym, ap, ap₂, subst}
use Rattle.std.specs.Prelude.{◌&&◌, ◌↔◌, Contains, IsSomeAnd, is_some}
use Rattle.std.specs.FinMap.{empty, entries, find as find_key, get, get-entries}
use Rattle.std.specs.List.{list_all}
use Rattle.std.specs.Option.{option_and_then}
use Rattle.std.specs.Ordering.{eq_by_cmp, is_eq, is_lt}
use Rattle.std.specs.Cmp.{tied_itself}
use Rattle.sdb_world.specs.Types.{Decided, Key, Pair, Place, Record, Table, TxId}
use Rattle.sdb_types.specs.Exact.{equal_of}
use Rattle.sdb_types.specs.Order.{key_cmp, table_cmp}
use Rattle.sdb_types.proofs.Public.{and_first, and_second, by_test, key_exact, less_of, none_some, or_first, some_is, table_total}
use Rattle.sdb_record.specs.declared.coordinator.Decision.TheVariants as decision
use Rattle.sdb_record.specs.Coordinator.{coordinator_table}
use Rattle.sdb_record.specs.Meta.{id_in}
use Rattle.sdb_record.specs.Rolls.{image_of, row_of_image}
use Rattle.sdb_schema.specs.Catalog.{rises, is_above_name}
use Rattle.sdb_model.specs.Catalogs.{catalog_after}
use Rattle.sdb_model.specs.Events.{StoreContents, stored_at}
use Rattle.sdb_model.specs.Exec.{Tables, find_table, row_of_entry}
use Rattle.sdb_model.specs.Images.{decision_at, decision_on, row_at}
use Rattle.sdb_model.specs.Transactions.{Recorded}
use Rattle.law_clients.specs.Fitting.{row_is_well_typed, tables_are_well_typed}
use Rattle.law_clients.specs.Left.{ContainsTables}
use Rattle.law_clients.proofs.Public.{Entries, is_fitting}
use Rattle.law_protocol.specs.Spread.{one_store}
use Rattle.law_protocol.proofs.Public.{catalog_moved, one_stored, Single, single}
use Rattle.sdb_contents.specs.Opening.{records_of}
use Rattle.sdb_contents.specs.Decided.{recorded_among}
use Rattle.sdb_contents.proofs.Public.{decision_there, first_or_later, none_in, recorded_all, recorded_has, recorded_small, records_rise}
use Rattle.law_runs.proofs.Public.{decides, execution_linked, starts_empty}
use Rattle.law_runs.specs.Linked.{one_name}
use Rattle.law_runs.specs.World.{IsWorld, WorldAt, states_of}
use Rattle.law_clients.specs.States.{doing_of, system_of}
use Rattle.sdb_world.specs.Ran.{HasRun}
use Rattle.sdb_world.proofs.FinalRows.{tables_left}

---- rows of tables that fit

found_fits : (P : Key → List Pair → Bool) (es : Entries) (q : Key) (cs : List Pair) → list_all (λ r. P r.key r.columns) (map row_of_entry es) ≡ true → find_key key_cmp q es ≡ Some cs → P q cs ≡ true
found_fits P [] q cs all e = absurd (none_some cs e)
found_fits P (x ∷ xs) q cs all e =
    by_test (eq_by_cmp key_cmp q x.0)
    (λ t. ap₂ P (key_exact q x.0 (equal_of (key_cmp q x.0) t)) (sym (some_is x.1 cs (sym (ap (λ (b : Bool). cond b (Some x.1) (find_key key_cmp q xs)) t) ∙ e))) ∙ and_first (P x.0 x.1) _ all)
    (λ t. found_fits P xs q cs (and_second (P x.0 x.1) _ all) (sym (ap (λ (b : Bool). cond b (Some x.1) (find_key key_cmp q xs)) t) ∙ e))

row_there : (catalog : List Table) (d : Tables) (key : Key) (columns : List Pair) → tables_are_well_typed catalog d ≡ true → get d key ≡ Some columns → row_is_well_typed catalog key columns ≡ true
row_there catalog d key columns fit found = found_fits (row_is_well_typed catalog) (entries d) key columns fit (sym (get-entries d key) ∙ found)

---- tables of a catalog are found by their names

above_all : (t : Table) (ts : List Table) (u : Table) → (is_above_name t.name ts && rises ts) ≡ true → Contains ts u → is_lt (table_cmp t.name u.name) ≡ true
above_all t [] u up among = absurd (none_in u among)
above_all t (x ∷ xs) u up among =
    let first : is_lt (table_cmp t.name x.name) ≡ true = and_first _ _ up in
    elim (first_or_later x u xs among) [
      | inl same ↦ ap (λ (y : Table). is_lt (table_cmp t.name y.name)) (sym same) ∙ first
      | inr later ↦ lower first (above_all x xs u (and_second (is_above_name t.name (x ∷ xs)) _ up) later)
    ]
  where
    lower : is_lt (table_cmp t.name x.name) ≡ true → is_lt (table_cmp x.name u.name) ≡ true → is_lt (table_cmp t.name u.name) ≡ true
    lower a b = ap is_lt (table_total.trans t.name x.name u.name (less_of (table_cmp t.name x.name) a) (less_of (table_cmp x.name u.name) b))

pub found_by_name : (ts : List Table) (t : Table) → rises ts ≡ true → Contains ts t → find_table ts t.name ≡ Some t
found_by_name [] t up among = absurd (none_in t among)
found_by_name (x ∷ xs) t up among = elim (first_or_later x t xs among) [
  | inl same ↦ ap (λ (b : Bool). cond b (Some x) (find_table xs t.name)) (ap (λ (y : Table). is_eq (table_cmp x.name y.name)) (sym same) ∙ ap is_eq (tied_itself table_total x.name)) ∙ ap Some same
  | inr later ↦
      ap (λ (b : Bool). cond b (Some x) (find_table xs t.name)) (ap is_eq (less_of (table_cmp x.name t.name) (above_all x xs t up later)))
      ∙ found_by_name xs t (and_second (is_above_name x.name xs) (rises xs) up) later
]

---- the rows of the images

then_same : {A B : Type 0} (f g : A → Option B) (o : Option A) → ((x : A) → f x ≡ g x) → option_and_then f o ≡ option_and_then g o
then_same f g None same = refl
then_same f g (Some x) same = same x

abbrev Says : Option Decided → Type 0
Says d = IsSomeAnd d (λ d. d.decision ≡ decision.Committed)

module _ (w : WorldAt) (h : IsWorld w) (opening closing : List StoreContents) (p : HasRun w opening closing) where
  abbrev places : List Place
  places = w.script.places

  -- the last tables
  abbrev tables : List Table
  tables = catalog_after w.script.catalog w.events

  abbrev one : Single w.script.catalog one_name places w.events empty closing
  one = single one_name w.events opening p.moments closing p.traced h.about p.nothing

  abbrev end : List StoreContents
  end = one_store one_name one.last

  decided_there : (id : TxId) → decision_at places closing id ≡ decision_at [] end id
  decided_there id = decides w.script.catalog places closing one_name one.last one.same id

  -- the transactions that the stores record
  abbrev rows : List Record
  rows = records_of places closing coordinator_table

  recorded_here : (id : TxId) → id.0 < 2 ^ 128 → Contains (recorded_among rows) id ↔ Recorded [] end id
  recorded_here id small =
      let same = decision_there places closing id ∙ decided_there id in (
        λ c. subst Says same (recorded_has rows (records_rise places closing coordinator_table) id c),
        λ r. recorded_all rows id small (subst Says (sym same) r),
      )

  -- the tables that these leave fit, and the stores show their rows
  left : (e : Tables) × (tables_are_well_typed tables e ≡ true) × ContainsTables [] end e
  left =
      let fitting = is_fitting w.script.catalog h.playable.apart in
      let running = execution_linked w.script w.events h.playable p.executed in
      let states = states_of p.executed.last.client_slots in
      let there =
      tables_left w.script.catalog tables_are_well_typed _ (system_of states) (doing_of states) running
      [] (one_store one_name empty) end one.singles one.traced (starts_empty one_name) (recorded_among rows) (recorded_small rows) recorded_here fitting in
      (there.0, subst (λ (ts : List Table). tables_are_well_typed ts there.0 ≡ true) (catalog_moved (λ ns. one_name) w.script.catalog w.events) there.1, there.2)

  row_same : (key : Key) → is_some (find_table w.script.catalog key.table) ≡ true → row_at places closing key ≡ row_at [] end key
  row_same key table =
      ap (λ (found : Option Record). option_and_then row_of_image (option_and_then (λ r. image_of r (decision_on places closing r)) found)) (one.same.at key (or_first _ _ table) ∙ sym (one_stored one_name one.last key))
      ∙ ap (option_and_then row_of_image) (then_same _ _ (stored_at [] end key) (λ r. ap (image_of r) (then_same _ _ (id_in r.columns) decided_there)))

  pub final_row_fits : (key : Key) (columns : List Pair) → is_some (find_table w.script.catalog key.table) ≡ true → row_at places closing key ≡ Some columns → row_is_well_typed tables key columns ≡ true
  final_row_fits key columns table observed = row_there tables left.0 key columns left.1 (sym (left.2 key (h.playable.apart key table)) ∙ sym (row_same key table) ∙ observed)
