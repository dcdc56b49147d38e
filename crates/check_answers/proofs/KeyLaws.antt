-- A transaction has rows only at the keys of records that the stores contained, and at those that it inserts.
use Rattle.std.proofs.Common.{◌≡◌, ℕ, zero, suc, Bool, true, false, cond, List, [], ◌∷◌, ◌++◌, length, map, Option, Some, None, ◌⊎◌, inl, inr, refl, sym, ap, subst, ◌∙◌, arith}
use Rattle.std.specs.Prelude.{find, filter, fold, is_some, not, unwrap_or, if◌then◌else◌}
use Rattle.std.specs.FinMap.{empty, entries, get, get-empty, get-entries, get-from_entries, get-insert, insert, len-empty, len-entries}
use Rattle.std.specs.FinMap as finite
use Rattle.std.specs.List.{cons_option, flat_map}
use Rattle.std.specs.Option.{option_and_then, option_map, option_map_or}
use Rattle.std.specs.Ordering.{is_eq}
use Rattle.check_answers.specs.Types.{Event, Image, Key, Pair, Place, Record, Statement, Table}
use Rattle.sdb_types.specs.Contents.{Contents, record_at}
use Rattle.sdb_types.specs.Exact.{equal_of}
use Rattle.sdb_types.specs.Order.{key_cmp}
use Rattle.sdb_types.proofs.Public.{key_exact, key_total}
use Rattle.sdb_record.specs.Rolls.{image_of, row_of_image}
use Rattle.sdb_model.specs.declared.statement.Statement.TheVariants as statement
use Rattle.sdb_model.specs.Events.{contents_under, moment, stored_at, store_of}
use Rattle.sdb_model.specs.Exec.{Tables, all_rows, entry_of_row, exec_in, find_table, key_of, passes, row_of_entry, updated, with_named}
use Rattle.sdb_model.specs.Images.{decision_on, image_at, row_at}
use Rattle.sdb_model.specs.Rows.{Name, same_name}
use Rattle.sdb_model.specs.DirtyReads.{row_left}
use Rattle.sdb_model.specs.Serial.{AreRead}
use Rattle.sdb_model.specs.Sql.{Reads}
use Rattle.sdb_model.specs.Transactions.{Executed, is_effective}
use Rattle.check_protocol.proofs.Public.{found_in, In, none_some}
use Rattle.check_answers.specs.declared.stores.StoreContents.{StoreContents}
use Rattle.check_answers.specs.declared.stores.Stores.{Stores}
use Rattle.check_answers.specs.declared.turn.Turn.{Turn}
use Rattle.check_answers.specs.Rows.{all_keys, keys_at_stores, keys_in, key_inserted}
use Rattle.check_answers.specs.Turns.{AreTurns}
use Rattle.check_answers.specs.Values.{all_moments, all_contents}
use Rattle.check_answers.proofs.HadLaws.{IsHad}
use Rattle.check_answers.proofs.Members.{flat_in, in_left, in_right}
use Rattle.check_answers.proofs.StoreLaws.{held_is}

---- records that the stores contained

among : (es : List (Key × List Pair)) (key : Key) (columns : List Pair) → finite.find key_cmp key es ≡ Some columns → In (map (λ (r : Image). r.key) (map row_of_entry es)) key
among [] key columns h = none_some h
among (e ∷ es) key columns h = by (is_eq (key_cmp key e.0)) refl h (λ k. among es key columns k)
  where
    by : (b : Bool) → is_eq (key_cmp key e.0) ≡ b → cond b (Some e.1) (finite.find key_cmp key es) ≡ Some columns → (finite.find key_cmp key es ≡ Some columns → In (map (λ (r : Image). r.key) (map row_of_entry es)) key) → (key ≡ e.0) ⊎ In (map (λ (r : Image). r.key) (map row_of_entry es)) key
    by true t k more = inl (key_exact key e.0 (equal_of (key_cmp key e.0) t))
    by false t k more = inr (more k)

some_before : {A B : Type 0} (f : A → Option B) (o : Option A) (b : B) → option_and_then f o ≡ Some b → (a : A) × (o ≡ Some a)
some_before f None b h = none_some h
some_before f (Some a) b h = (a, refl)

some_mapped : {A B : Type 0} (f : A → B) (o : Option A) (b : B) → option_map f o ≡ Some b → (a : A) × (o ≡ Some a) × (f a ≡ b)
some_mapped f None b h = none_some h
some_mapped f (Some a) b h = (a, refl, same (f a) b h)
  where
    same : {C : Type 0} (y z : C) → Some y ≡ Some z → y ≡ z
    same y z k = cc

kept_held : (store_contents : List StoreContents) (o : Option Contents) (name : Name) (key : Key) (r : Record) → contents_under (all_contents store_contents) name ≡ o → option_map_or (λ m. record_at m key) o None ≡ Some r → In (keys_at_stores store_contents) key
kept_held store_contents None name key r e h = none_some h
kept_held store_contents (Some m) name key r e h =
    let s = some_mapped (λ (s : StoreContents). s.rows) (find (λ (s : StoreContents). same_name s.name name) store_contents) m (sym (held_is store_contents name) ∙ e) in
    let i = found_in (λ (s : StoreContents). same_name s.name name) store_contents s.0 s.1 in
    let c = some_mapped (λ (columns : List Pair). record { key = key; columns = columns }) (get m key) r h in
    flat_in keys_in store_contents s.0 key i.0 (subst (λ (d : Contents). In (map (λ (z : Image). z.key) (all_rows d)) key) (sym s.2) (among (entries m) key c.0 (sym (get-entries m key) ∙ c.1)))

kept_row : (places : List Place) (store_contents : List StoreContents) (key : Key) (columns : List Pair) → row_at places (all_contents store_contents) key ≡ Some columns → In (keys_at_stores store_contents) key
kept_row places store_contents key columns h =
    let i = some_before row_of_image (image_at places (all_contents store_contents) key) columns h in
    let r = some_before (λ r. image_of r (decision_on places (all_contents store_contents) r)) (stored_at places (all_contents store_contents) key) i.0 i.1 in
    kept_held store_contents (contents_under (all_contents store_contents) (store_of places (all_contents store_contents) key.table.ns)) (store_of places (all_contents store_contents) key.table.ns) key r.0 refl r.1

kept_then : (places : List Place) (opening : List StoreContents) (ms : List (List StoreContents)) (n : ℕ) (key : Key) (columns : List Pair) → row_at places (moment (all_contents opening) (all_moments ms) n) key ≡ Some columns → In (keys_at_stores opening ++ flat_map keys_at_stores ms) key
kept_then places opening ms zero key columns h = in_left (keys_at_stores opening) (flat_map keys_at_stores ms) key (kept_row places opening key columns h)
kept_then places opening [] (suc n) key columns h = in_left (keys_at_stores opening) [] key (kept_row places opening key columns h)
kept_then places opening (m ∷ ms) (suc n) key columns h = in_right (keys_at_stores opening) (keys_at_stores m ++ flat_map keys_at_stores ms) key (kept_then places m ms n key columns h)

---- keys that are inserted

abbrev none : Tables
none = empty

-- there is no row in none
no_row : {A : Type 0} (key : Key) (columns : List Pair) → get none key ≡ Some columns → A
no_row key columns h = none_some (sym (get-empty key_cmp key) ∙ h)

no_entries : entries none ≡ []
no_entries = by (entries none) (sym (len-entries none) ∙ len-empty key_cmp (List Pair))
  where
    by : (es : List (Key × List Pair)) → length es ≡ 0 → es ≡ []
    by [] e = refl
    by (x ∷ es) e = absurd (omega (arith, e))

put_there : (key k : Key) (c columns : List Pair) → get (insert none k c) key ≡ Some columns → key ≡ k
put_there key k c columns h = by (is_eq (key_cmp key k)) refl (sym (get-insert key_total none k c key) ∙ h)
  where
    by : (b : Bool) → is_eq (key_cmp key k) ≡ b → cond b (Some c) (get none key) ≡ Some columns → key ≡ k
    by true e g = key_exact key k (equal_of (key_cmp key k) e)
    by false e g = no_row key columns g

new_in : (catalog : List Table) (st : Statement) (key : Key) (columns : List Pair) → row_left catalog st key None ≡ Some columns → In (key_inserted catalog (Some st)) key
new_in catalog (statement.Insert i) key columns h = by (find_table catalog i.table) h
  where
    by : (o : Option Table) → get (exec_in o (statement.Insert i) none).1 key ≡ Some columns → In (cons_option (option_map (λ t. key_of t i) o) []) key
    by None g = no_row key columns g
    by (Some t) g = inl (put_there key (key_of t i) (with_named t i.columns i.values []) columns (sym (ap (λ o. get (if is_some o then none else insert none (key_of t i) (with_named t i.columns i.values [])) key) (get-empty key_cmp (key_of t i))) ∙ g))
new_in catalog (statement.Upsert i) key columns h = by (find_table catalog i.table) h
  where
    by : (o : Option Table) → get (exec_in o (statement.Upsert i) none).1 key ≡ Some columns → In (cons_option (option_map (λ t. key_of t i) o) []) key
    by None g = no_row key columns g
    by (Some t) g = inl (put_there key (key_of t i) (with_named t i.columns i.values (unwrap_or (get none (key_of t i)) [])) columns g)
new_in catalog (statement.Update u) key columns h = by (find_table catalog u.table) h
  where
    by : (o : Option Table) → get (exec_in o (statement.Update u) none).1 key ≡ Some columns → In [] key
    by None g = no_row key columns g
    by (Some t) g = none_some (sym (get-from_entries key_total (map entry_of_row (map (updated t u) (all_rows none))) key ∙ ap (λ es. finite.find key_cmp key (map entry_of_row (map (updated t u) (map row_of_entry es)))) no_entries) ∙ g)
new_in catalog (statement.Delete d) key columns h = by (find_table catalog d.table) h
  where
    by : (o : Option Table) → get (exec_in o (statement.Delete d) none).1 key ≡ Some columns → In [] key
    by None g = no_row key columns g
    by (Some t) g = none_some (sym (get-from_entries key_total (map entry_of_row (filter (λ r. not (passes t d.tests r)) (all_rows none))) key ∙ ap (λ es. finite.find key_cmp key (map entry_of_row (filter (λ r. not (passes t d.tests r)) (map row_of_entry es)))) no_entries) ∙ g)
new_in catalog (statement.Select q) key columns h = by (find_table catalog q.table) h
  where
    by : (o : Option Table) → get (exec_in o (statement.Select q) none).1 key ≡ Some columns → In [] key
    by None g = no_row key columns g
    by (Some t) g = no_row key columns g
new_in catalog statement.Begin key columns h = no_row key columns h
new_in catalog statement.Commit key columns h = no_row key columns h
new_in catalog statement.Rollback key columns h = no_row key columns h
new_in catalog statement.Vacuum key columns h = no_row key columns h

module _ (catalog : List Table) (x : Stores) (events : List Event) (client : ℕ) (s : Executed) (key : Key) where
  abbrev inserts : Turn → List Key
  inserts t = key_inserted catalog t.statement

  made_new : (changing later : List Executed) (sts : List Statement) (ts : List Turn) (columns : List Pair) → AreTurns events client (changing ++ s ∷ later) ts → AreRead (filter is_effective changing) sts → Some columns ≡ fold (λ r st. row_left catalog st key r) None sts → In (flat_map inserts ts) key
  made_new changing later [] ts columns a r m = none_some (sym m)
  made_new [] later (st ∷ sts) ts columns a r m = absurd r
  made_new (c ∷ cs) later (st ∷ sts) [] columns a r m = absurd a
  made_new (c ∷ cs) later (st ∷ sts) (t ∷ ts) columns (h, a) r m = skip (is_effective c) r m (λ us k n. made_new cs later us ts columns a k n)
    where
      by : (us : List Statement) (o : Option (List Pair)) → row_left catalog st key None ≡ o → Reads c.text st → Some columns ≡ fold (λ r st. row_left catalog st key r) o us → (Some columns ≡ fold (λ r st. row_left catalog st key r) None us → In (flat_map inserts ts) key) → In (flat_map inserts (t ∷ ts)) key
      by us None e rd k more = in_right (inserts t) (flat_map inserts ts) key (more k)
      by us (Some b) e rd k more = in_left (inserts t) (flat_map inserts ts) key (subst (λ o. In (key_inserted catalog o) key) (sym ((h.read st).0 rd)) (new_in catalog st key b e))

      skip : (b : Bool) → AreRead (if b then c ∷ filter is_effective cs else filter is_effective cs) (st ∷ sts) → Some columns ≡ fold (λ r st. row_left catalog st key r) None (st ∷ sts)
          → ((us : List Statement) → AreRead (filter is_effective cs) us → Some columns ≡ fold (λ r st. row_left catalog st key r) None us → In (flat_map inserts ts) key) → In (flat_map inserts (t ∷ ts)) key
      skip false k n more = in_right (inserts t) (flat_map inserts ts) key (more (st ∷ sts) k n)
      skip true (rd, k) n more = by sts (row_left catalog st key None) refl rd n (λ z. more sts k z)

  later_new : (earlier changing later : List Executed) (sts : List Statement) (ts : List Turn) (columns : List Pair) → AreTurns events client (earlier ++ changing ++ s ∷ later) ts → AreRead (filter is_effective changing) sts → Some columns ≡ fold (λ r st. row_left catalog st key r) None sts → In (flat_map inserts ts) key
  later_new [] changing later sts ts columns a r m = made_new changing later sts ts columns a r m
  later_new (e ∷ es) changing later sts [] columns a r m = absurd a
  later_new (e ∷ es) changing later sts (t ∷ ts) columns (h, a) r m = in_right (inserts t) (flat_map inserts ts) key (later_new es changing later sts ts columns a r m)

  pub key_found : (ss : List Executed) (ts : List Turn) (columns : List Pair) → AreTurns events client ss ts → IsHad catalog x events client ss s key columns → In (all_keys catalog x ts) key
  key_found ss ts columns a h = by h.base refl
    where
      kept : List Key
      kept = keys_at_stores x.opening ++ flat_map keys_at_stores x.moments

      by : (o : Option (List Pair)) → h.base ≡ o → In (all_keys catalog x ts) key
      by None e = in_right kept (flat_map inserts ts) key (later_new h.earlier h.changing h.later h.sts ts columns (subst (λ z. AreTurns events client z ts) h.parts a) h.read (h.made ∙ ap (λ o. fold (λ r st. row_left catalog st key r) o h.sts) e))
      by (Some b) e = in_left kept (flat_map inserts ts) key (kept_then x.places x.opening x.moments h.observed.at key b (h.observed.image ∙ e))
