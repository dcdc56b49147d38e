-- The stores hold what the history says: kept by each kind of write.
use Rattle.std.proofs.Common.{◌≡◌, ◌≢◌, ℕ, ℤ, ◌<◌, ◌^◌, Bool, true, false, List, [], ◌∷◌, map, Option, Some, inl, inr, refl, sym, ap, subst, ◌∙◌, arith}
use Rattle.std.specs.Prelude.{◌&&◌, ◌==◌, if◌then◌else◌}
use Rattle.std.specs.Option.{option_map}
use Rattle.std.specs.List.{AllByRecursion}
use Rattle.law_protocol.specs.Types.{Condition, Decision, Key, Place, Record, TxId}
use Rattle.sdb_record.specs.Coordinator.{coordinator_key_of, coordinator_row_of, id_of_key}
use Rattle.sdb_types.specs.declared.record.Put.{Put}
use Rattle.sdb_types.specs.Contents.{put_keys}
use Rattle.sdb_types.specs.Order.{same_key}
use Rattle.sdb_types.proofs.Public.{clash, same_key_of, same_key_self, same_key_decides, tests}
use Rattle.sdb_record.proofs.Public.{key-of-id}
use Rattle.sdb_model.specs.Events.{StoreContents, stored_at}
use Rattle.law_protocol.specs.Plan.{Plan}
use Rattle.law_protocol.specs.History.{History, Standing, has_key}
use Rattle.law_protocol.specs.Lawful.{id}
use Rattle.law_protocol.specs.Records.{record_for, row_for, ContainsHistory}
use Rattle.law_protocol.specs.Changed.{Change, Changed, change_of, keys_of}
use Rattle.law_protocol.proofs.Changes.{change_keys}
use Rattle.law_protocol.proofs.Each.{all_mapped, both, of_key, weaker}
use Rattle.sdb_model.specs.Tables.{is_data}

---- keys of rows

pub row_is_no_data : (t : ℕ) → is_data (coordinator_key_of (id t)) ≡ false
unfolding coordinator_key_of
row_is_no_data t = refl

pub row_apart : (k : Key) (t : ℕ) → is_data k ≡ true → same_key (coordinator_key_of (id t)) k ≡ false
row_apart k t h = elim (same_key_decides (coordinator_key_of (id t)) k) [
  | inl e ↦ clash (sym h ∙ ap is_data (sym e.1) ∙ row_is_no_data t)
  | inr n ↦ n.0
]

pub data_apart : (k : Key) (t : ℕ) → is_data k ≡ true → same_key k (coordinator_key_of (id t)) ≡ false
data_apart k t h = elim (same_key_decides k (coordinator_key_of (id t))) [
  | inl e ↦ clash (sym h ∙ ap is_data e.1 ∙ row_is_no_data t)
  | inr n ↦ n.0
]

-- rows of two transactions are at two keys
pub rows_apart : (t u : ℕ) → t < 2 ^ 128 → u < 2 ^ 128 → same_key (coordinator_key_of (id t)) (coordinator_key_of (id u)) ≡ (t == u)
rows_apart t u a b = elim (same_key_decides (coordinator_key_of (id t)) (coordinator_key_of (id u))) [
  | inl e ↦ e.0 ∙ sym (same t u (some_number (sym (key-of-id (id t) a) ∙ ap id_of_key e.1 ∙ key-of-id (id u) b)))
  | inr n ↦ n.0 ∙ sym (other t u (λ e. n.1 (ap (λ x. coordinator_key_of (id x)) e)))
]
  where
    some_number : {x y : TxId} → Some x ≡ Some y → x.0 ≡ y.0
    some_number e = cc

    same : (t u : ℕ) → t ≡ u → (t == u) ≡ true
    same t u e = grind (arith, tests)

    other : (t u : ℕ) → t ≢ u → (t == u) ≡ false
    other t u e = grind (arith, tests)

---- the history after an event

-- what a change leaves is what the history has there
pub record IsLeft (plan : ℕ → Plan) (v : History) (c : Change) : Type 0 where
  pub record_is : is_data c.key ≡ true → c.left ≡ option_map (record_for plan c.key) (v.rows c.key)
  pub row_is : (t : ℕ) → t < 2 ^ 128 → c.key ≡ coordinator_key_of (id t) → c.left ≡ row_for v t

-- changes of keys of any tables
pub link_changes : (plan : ℕ → Plan) (places : List Place) (w v : History) (before now : List StoreContents) (cs : List Change) (done : Bool)
    → ContainsHistory plan places w before → Changed places cs before now done
    → (done ≡ true → AllByRecursion (IsLeft plan v) cs)
    → ((q : Key) → done && has_key (keys_of cs) q ≡ false → v.rows q ≡ w.rows q)
    → ((t : ℕ) → t < 2 ^ 128 → done && has_key (keys_of cs) (coordinator_key_of (id t)) ≡ false → row_for v t ≡ row_for w t)
    → ContainsHistory plan places v now
link_changes plan places w v before now cs done held changed left rows same = record {
  records = λ q there. by_record q there done refl (has_key (keys_of cs) q) refl;
  rows = λ t fits. by_row t fits done refl (has_key (keys_of cs) (coordinator_key_of (id t))) refl;
}
  where
    here : (k : Key) → done ≡ true → has_key (keys_of cs) k ≡ true → (c : Change) × (c.key ≡ k) × ((stored_at places now c.key ≡ c.left) × IsLeft plan v c)
    here k d h = of_key (λ (c : Change). c.key) _ cs k (both _ _ cs (changed.left d) (left d)) h

    put : (k : Key) → is_data k ≡ true → (c : Change) × (c.key ≡ k) × ((stored_at places now c.key ≡ c.left) × IsLeft plan v c) → stored_at places now k ≡ option_map (record_for plan k) (v.rows k)
    put k there x = subst (λ y. stored_at places now y ≡ option_map (record_for plan y) (v.rows y)) x.1 (x.2.0 ∙ x.2.1.record_is (ap is_data x.1 ∙ there))

    put_row : (t : ℕ) → t < 2 ^ 128 → (c : Change) × (c.key ≡ coordinator_key_of (id t)) × ((stored_at places now c.key ≡ c.left) × IsLeft plan v c) → stored_at places now (coordinator_key_of (id t)) ≡ row_for v t
    put_row t fits x = ap (stored_at places now) (sym x.1) ∙ x.2.0 ∙ x.2.1.row_is t fits x.1

    by_record : (q : Key) → is_data q ≡ true → (b : Bool) → done ≡ b → (h : Bool) → has_key (keys_of cs) q ≡ h → stored_at places now q ≡ option_map (record_for plan q) (v.rows q)
    by_record q there false d h e = changed.kept d q ∙ held.records q there ∙ ap (option_map (record_for plan q)) (sym (rows q (rw d refl)))
    by_record q there true d false e = changed.others q e ∙ held.records q there ∙ ap (option_map (record_for plan q)) (sym (rows q (rw d e)))
    by_record q there true d true e = put q there (here q d e)

    by_row : (t : ℕ) → t < 2 ^ 128 → (b : Bool) → done ≡ b → (h : Bool) → has_key (keys_of cs) (coordinator_key_of (id t)) ≡ h → stored_at places now (coordinator_key_of (id t)) ≡ row_for v t
    by_row t fits false d h e = changed.kept d (coordinator_key_of (id t)) ∙ held.rows t fits ∙ sym (same t fits (rw d refl))
    by_row t fits true d false e = changed.others (coordinator_key_of (id t)) e ∙ held.rows t fits ∙ sym (same t fits (rw d e))
    by_row t fits true d true e = put_row t fits (here (coordinator_key_of (id t)) d e)

-- a write at a key of a table of records
pub link_write : (plan : ℕ → Plan) (places : List Place) (w v : History) (before now : List StoreContents) (k : Key) (c : Condition) (new : Option Record) (x : Option Standing) (done : Bool)
    → ContainsHistory plan places w before → Changed places (record { key = k; left = new; condition = c } ∷ []) before now done → is_data k ≡ true
    → (done ≡ true → new ≡ option_map (record_for plan k) x)
    → ((q : Key) → v.rows q ≡ (if done && same_key q k then x else w.rows q))
    → ((t : ℕ) → row_for v t ≡ row_for w t)
    → ContainsHistory plan places v now
link_write plan places w v before now k c new x done held changed outside put rows same =
    link_changes plan places w v before now (record { key = k; left = new; condition = c } ∷ []) done held changed
    (λ d. (record { record_is = λ there. put d ∙ ap (option_map (record_for plan k)) (sym (rows k ∙ rw d (rw (same_key_self k) refl))); row_is = λ t fits e. clash (sym outside ∙ ap is_data e ∙ row_is_no_data t) }, tt))
    (λ q h. rows q ∙ rw h refl)
    (λ t fits h. same t)

-- A put is of a record of a table, which the history has there where the put took effect.
pub record IsPutOf (plan : ℕ → Plan) (v : History) (done : Bool) (p : Put) : Type 0 where
  pub stored : is_data p.rec.key ≡ true
  pub left : done ≡ true → Some p.rec ≡ option_map (record_for plan p.rec.key) (v.rows p.rec.key)

-- puts of records of tables
pub link_puts : (plan : ℕ → Plan) (places : List Place) (w v : History) (before now : List StoreContents) (b : List Put) (done : Bool)
    → ContainsHistory plan places w before → Changed places (map change_of b) before now done → AllByRecursion (IsPutOf plan v done) b
    → ((q : Key) → done && has_key (put_keys b) q ≡ false → v.rows q ≡ w.rows q)
    → ((t : ℕ) → row_for v t ≡ row_for w t)
    → ContainsHistory plan places v now
link_puts plan places w v before now b done held changed all rows same =
    link_changes plan places w v before now (map change_of b) done held changed
    (λ d. all_mapped change_of (IsLeft plan v) b (weaker (IsPutOf plan v done) (λ p. IsLeft plan v (change_of p)) b (is_left d) all))
    (λ q h. rows q (ap (λ ks. done && has_key ks q) (sym (change_keys b)) ∙ h))
    (λ t fits h. same t)
  where
    is_left : done ≡ true → (p : Put) → IsPutOf plan v done p → IsLeft plan v (change_of p)
    is_left d p h = record { record_is = λ there. h.left d; row_is = λ t fits e. clash (sym h.stored ∙ ap is_data e ∙ row_is_no_data t) }

-- a put of a row
pub link_row : (plan : ℕ → Plan) (places : List Place) (w v : History) (before now : List StoreContents) (t : ℕ) (d : Decision) (m : ℤ) (c : Condition) (done : Bool)
    → ContainsHistory plan places w before → Changed places (record { key = coordinator_key_of (id t); left = Some (coordinator_row_of (id t) d m); condition = c } ∷ []) before now done → t < 2 ^ 128
    → ((q : Key) → v.rows q ≡ w.rows q)
    → ((u : ℕ) → row_for v u ≡ (if done && u == t then Some (coordinator_row_of (id t) d m) else row_for w u))
    → ContainsHistory plan places v now
link_row plan places w v before now t d m c done held changed fit rows same =
    link_changes plan places w v before now (record { key = coordinator_key_of (id t); left = Some (coordinator_row_of (id t) d m); condition = c } ∷ []) done held changed
    (λ y. (record { record_is = λ there. clash (sym there ∙ row_is_no_data t); row_is = λ u fits e. sym (same u ∙ rw y (rw (sym (rows_apart u t fits fit) ∙ same_key_of (coordinator_key_of (id u)) (coordinator_key_of (id t)) (sym e)) refl)) }, tt))
    (λ q h. rows q)
    (λ u fits h. same u ∙ rw (ap (λ b. done && b) (sym (rows_apart u t fits fit)) ∙ h) refl)

-- what leaves everything as it was
pub link_same : (plan : ℕ → Plan) (places : List Place) (w v : History) (before now : List StoreContents) → ContainsHistory plan places w before → ((k : Key) → stored_at places now k ≡ stored_at places before k) → ((q : Key) → v.rows q ≡ w.rows q) → ((t : ℕ) → row_for v t ≡ row_for w t) → ContainsHistory plan places v now
link_same plan places w v before now held still rows same = record {
  records = λ q there. still q ∙ held.records q there ∙ ap (option_map (record_for plan q)) (sym (rows q));
  rows = λ t fits. still (coordinator_key_of (id t)) ∙ held.rows t fits ∙ sym (same t);
}
