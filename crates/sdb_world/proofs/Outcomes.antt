-- What the outcome of a world that has played its script is.
use Rattle.std.proofs.Common.{◌≡◌, inl, inr, ℕ, zero, suc, ◌<◌, ◌^◌, Bool, true, false, List, [], ◌∷◌, length, Option, Some, None, refl, sym, ap, subst, ◌∙◌, get_or, arith}
use Rattle.std.specs.Prelude.{◌||◌, All, Contains, ◌↔◌, IsOk, Result, if◌then◌else◌, is_ok, is_some, slice_index_or}
use Rattle.std.specs.FinMap.{empty, get}
use Rattle.std.specs.Option.{option_and_then, option_map, option_map_or}
use Rattle.sdb_world.specs.Types.{Decided, Event, Key, Pair, Place, Point, Record, Table, TableDump, TableName, TxId}
use Rattle.sdb_types.specs.Contents.{Contents, record_at, record_of}
use Rattle.sdb_types.proofs.Public.{and_both, and_first}
use Rattle.sdb_record.specs.Coordinator.{decision_in, is_coordinator_table}
use Rattle.sdb_record.specs.Meta.{is_transactional}
use Rattle.sdb_record.specs.Rolls.{image_of, row_of_image}
use Rattle.sdb_schema.specs.Rows.{fits_table}
use Rattle.sdb_model.specs.Catalogs.{catalog_after}
use Rattle.sdb_stores.specs.Views.{Attached}
use Rattle.sdb_contents.specs.Board.{AreUsable}
use Rattle.sdb_model.proofs.Public.{after_is, same_tables}
use Rattle.sdb_model.specs.Events.{StoreContents, contents_under, stored_at, store_of}
use Rattle.sdb_model.specs.Exec.{Tables, find_table}
use Rattle.sdb_model.specs.Images.{decision_at, decision_on, row_at}
use Rattle.sdb_model.specs.Serial.{AreImages, IsRun, dumps_of, serial}
use Rattle.sdb_model.specs.Transactions.{Recorded}
use Rattle.law_clients.specs.Fitting.{row_is_well_typed}
use Rattle.law_clients.proofs.Public.{is_fitting}
use Rattle.sdb_contents.specs.Dumped.{image_is_well_typed, row_by}
use Rattle.sdb_contents.specs.Odd.{IsOddAt}
use Rattle.law_runs.specs.Ending.{IsEnd}
use Rattle.law_runs.specs.Order.{HasRisen}
use Rattle.law_runs.specs.Stores.{AreSound}
use Rattle.law_runs.proofs.Public.{invariant_is_run_on_stores, invariant_on_one, is_order, points_on_stores, risen_fits, sound_on_stores}
use Rattle.law_runs.specs.World.{IsWorld, WorldAt}
use Rattle.sdb_world.specs.Ran.{HasRun}
use Rattle.sdb_world.proofs.Fitting.{final_row_fits, found_by_name}
use Rattle.law_runs.specs.Traces.{TraceOnStores}

or_same : {A : Type 0} (xs : List A) (i : ℕ) (a b : A) → i < length xs → get_or xs i a ≡ get_or xs i b
or_same [] i a b low = absurd (omega arith)
or_same (x ∷ xs) zero a b low = refl
or_same (x ∷ xs) (suc i) a b low = or_same xs i a b (omega (arith, low))

-- what is so of each that a list contains is so of all of it
all_contained : {A : Type 0} (P : A → Type 0) (xs : List A) → ((x : A) → Contains xs x → P x) → All P xs
all_contained P xs h i d low = h (slice_index_or xs i d) (i, low, or_same xs i (slice_index_or xs i d) d low)

module _ (w : WorldAt) (h : IsWorld w) (opening closing : List StoreContents) (p : HasRun w opening closing) where
  -- the last tables
  abbrev last : List Table
  last = catalog_after w.script.catalog w.events

  -- the clients where the events lead to
  abbrev traced : TraceOnStores w.script
  traced = record { running = invariant_on_one w.script w.events h.playable p.executed; opening = opening; closing = closing; labelled = record { moments = p.moments; traced = p.traced; about = h.about; nothing = p.nothing } }

  -- what an order of the recorded transactions and the rows of the images are
  pub run_is : (recorded : List TxId) (order : List Point) (tables : List TableDump) → ((id : TxId) → id.0 < 2 ^ 128 → Contains recorded id ↔ Recorded w.script.places closing id) → ((id : TxId) → Contains recorded id → id.0 < 2 ^ 128) → HasRisen w.events recorded order
      → ((d : Tables) → AreImages w.script.catalog w.script.places closing d → tables ≡ dumps_of last d) → IsRun w.script opening closing (record { events = w.events; order = order; tables = tables })
  run_is recorded order tables each small risen printed =
      let all_small = all_contained (λ (id : TxId). id.0 < 2 ^ 128) recorded small in
      let have = points_on_stores w.script traced in
      let end : IsEnd w.script w.events opening closing order = record {
        moments = p.moments;
        follows = p.follows;
        traced = p.traced;
        about = h.about;
        nothing = p.nothing;
        ordered = is_order w.script.places w.events closing recorded order all_small each have risen;
        small = risen_fits w.events recorded order all_small risen;
      } in
      let run = invariant_is_run_on_stores w.script (record { running = traced.running; fitting = is_fitting w.script.catalog h.playable.apart; opening = opening; closing = closing; order = order; ends = end }) in
      let same : tables ≡ run.0 = printed (serial w.script.catalog run.1.answered.steps empty).1 run.1.answered.images ∙ sym run.1.answered.printed in
      subst (λ (ts : List TableDump). IsRun w.script opening closing (record { events = w.events; order = order; tables = ts })) (sym same) run.1

  sound : AreSound w.script.catalog w.script.places closing
  sound = sound_on_stores w.script traced

  -- a record that is at a key has that key
  key_is : (key : Key) (r : Record) → stored_at w.script.places closing key ≡ Some r → r.key ≡ key
  key_is key r e = by (contents_under closing (store_of w.script.places closing key.table.ns)) e
    where
      some_is : {A : Type 0} (x y : A) → Some x ≡ Some y → x ≡ y
      some_is x y e = cc

      none_some : {A : Type 0} (x : A) → ◌≡◌ {A = Option A} None (Some x) → ⊥
      none_some x e = cc

      of_columns : (o : Option (List Pair)) → option_map (λ columns. record_of (key, columns)) o ≡ Some r → r.key ≡ key
      of_columns None k = absurd (none_some r k)
      of_columns (Some columns) k = ap (λ (x : Record). x.key) (sym (some_is (record_of (key, columns)) r k))

      by : (o : Option Contents) → option_map_or (λ m. record_at m key) o None ≡ Some r → r.key ≡ key
      by None k = absurd (none_some r k)
      by (Some m) k = of_columns (get m key) k

  true_false : {G : Type 0} → true ≡ false → G
  true_false e = absurd (let f = e in cc)

  or_first : (a b : Bool) → a ≡ true → (a || b) ≡ true
  or_first a b e = ap (λ (x : Bool). x || b) e

  ok_decided : {A B : Type 0} (r : Result A B) → IsOk r → is_ok r ≡ false → ⊥
  ok_decided r a b = absurd (cc)

  abbrev decide : TxId → Option Decided
  decide = decision_at w.script.places closing

  -- the image of a record of a table fits it
  images_fit : (key : Key) (t : Table) (r : Record) → Contains last t → t.name ≡ key.table → r.key ≡ key → stored_at w.script.places closing key ≡ Some r → image_is_well_typed decide t r ≡ true
  images_fit key t r listed named same agrees = by (row_by decide r) refl
    where
      found : find_table last key.table ≡ Some t
      found = ap (find_table last) (sym named) ∙ found_by_name last t (and_first _ _ (after_is w.script.catalog w.events h.playable.catalog)) listed

      observed : (columns : List Pair) → row_by decide r ≡ Some columns → row_at w.script.places closing key ≡ Some columns
      observed columns e = ap (λ (o : Option Record). option_and_then row_of_image (option_and_then (λ x. image_of x (decision_on w.script.places closing x)) o)) agrees ∙ e

      by : (o : Option (List Pair)) → row_by decide r ≡ o → option_map_or (fits_table t r.key) o true ≡ true
      by None e = refl
      by (Some columns) e =
          let fits : row_is_well_typed last key columns ≡ true = final_row_fits w h opening closing p key columns (sym (same_tables w.script.catalog w.events key.table) ∙ ap is_some found) (observed columns e) in
          ap (λ (k : Key). fits_table t k columns) same ∙ sym (ap (λ (o : Option Table). option_map_or (λ (u : Table). fits_table u key columns) o false) found) ∙ fits

  -- no record breaks the rules
  pub none_odd : (key : Key) → IsOddAt last w.script.places closing decide key → ⊥
  none_odd key odd = elim odd.odd [
    | inl of_data ↦ (
        let named : of_data.table.name ≡ key.table = of_data.named ∙ ap (λ (k : Key). k.table) same in
        let table : is_some (find_table w.script.catalog key.table) ≡ true = sym (same_tables w.script.catalog w.events key.table) ∙ ap (λ (n : TableName). is_some (find_table last n)) (sym named) ∙ ap is_some (found_by_name last of_data.table (and_first _ _ (after_is w.script.catalog w.events h.playable.catalog)) of_data.listed) in
        let accepted : is_transactional odd.found ≡ true = sound.accepted key odd.found (or_first (is_some (find_table w.script.catalog key.table)) (is_coordinator_table key.table) table) (h.playable.apart key table) odd.agrees in
        true_false (sym (and_both (is_transactional odd.found) _ accepted (images_fit key of_data.table odd.found of_data.listed named same odd.agrees)) ∙ of_data.ill_formed)
        )
    | inr row_odd ↦ ok_decided (decision_in odd.found) (sound.rows key odd.found (ap (λ (k : Key). is_coordinator_table k.table) (sym same) ∙ row_odd.0) odd.agrees) row_odd.1
  ]
    where
      same : odd.found.key ≡ key
      same = key_is key odd.found odd.agrees

---- what a dump of the stores says of them

-- What was read of stores that are fit for a catalog: the recorded transactions, and the rows of the images.
pub record IsReadOf (F : List Table → Type 0) (catalog : List Table) (places : List Place) (old new : List StoreContents) (recorded : List TxId) (tables : List TableDump) : Type 0 where
  pub printed : F catalog → (d : Tables) → AreImages catalog places old d → tables ≡ dumps_of catalog d
  pub each : F catalog → (id : TxId) → id.0 < 2 ^ 128 → Contains recorded id ↔ Recorded places old id
  pub small : (id : TxId) → Contains recorded id → id.0 < 2 ^ 128
  pub still : F catalog → new ≡ old

module _ (F : List Table → Type 0) (w : WorldAt) (h : IsWorld w) (opening old new : List StoreContents) (places : List Place) (catalog : List Table) (same : catalog ≡ catalog_after w.script.catalog w.events) (usable : F w.script.catalog → F (catalog_after w.script.catalog w.events)) where
  pub outcome_run : (events : List Event) (recorded : List TxId) (order : List Point) (tables : List TableDump) → events ≡ w.events → IsReadOf F catalog places old new recorded tables → HasRisen events recorded order
      → F w.script.catalog → places ≡ w.script.places → HasRun w opening old → IsRun w.script opening new (record { events = events; order = order; tables = tables })
  outcome_run events recorded order tables answered got risen fit placed p =
      let f : F catalog = subst F (sym same) (usable fit) in
      let each = subst (λ (ps : List Place). (id : TxId) → id.0 < 2 ^ 128 → Contains recorded id ↔ Recorded ps old id) placed (got.each f) in
      let there = subst (λ (ps : List Place). (d : Tables) → AreImages catalog ps old d → tables ≡ dumps_of catalog d) placed (got.printed f) in
      let last = subst (λ (ts : List Table). (d : Tables) → AreImages ts w.script.places old d → tables ≡ dumps_of ts d) same there in
      let rose = subst (λ (es : List Event). HasRisen es recorded order) answered risen in
      subst (λ (es : List Event). IsRun w.script opening new (record { events = es; order = order; tables = tables })) (sym answered)
      (subst (λ (ss : List StoreContents). IsRun w.script opening ss (record { events = w.events; order = order; tables = tables })) (sym (got.still f))
      (run_is w h opening old p recorded order tables each got.small rose (λ d there_are. last d (λ key. there_are key ∙ ap (λ (b : Bool). if b then row_at w.script.places old key else None) (sym (same_tables w.script.catalog w.events key.table))))))

  pub outcome_sound : (key : Key) → (F catalog → IsOddAt catalog places old (decision_at places old) key) → F w.script.catalog → places ≡ w.script.places → HasRun w opening old → ⊥
  outcome_sound key odd fit placed p =
      none_odd w h opening old p key
      (subst (λ (ts : List Table). IsOddAt ts w.script.places old (decision_at w.script.places old) key) same
      (subst (λ (ps : List Place). IsOddAt catalog ps old (decision_at ps old) key) placed (odd (subst F (sym same) (usable fit)))))

-- stores that are fit for a run stay so where columns are added
pub usable_after : (catalog : List Table) (events : List Event) (stores : Attached) → AreUsable catalog stores → AreUsable (catalog_after catalog events) stores
usable_after catalog events stores u = record {
  some = u.some;
  distinct = u.distinct;
  homed = u.homed;
  where_known = λ table h. u.where_known table (ap (λ (b : Bool). b || is_coordinator_table table) (sym (same_tables catalog events table)) ∙ h);
}
