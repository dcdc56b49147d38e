-- The keys that a COMMIT writes, after a call.
use Rattle.std.proofs.Common.{◌≡◌, ◌≢◌, ◌<◌, ℕ, zero, suc, Bool, true, false, List, [], ◌∷◌, map, Option, Some, None, ◌⊎◌, inl, inr, refl, sym, ap, subst, ◌∙◌, arith}
use Rattle.std.specs.Prelude.{slice_get, is_some, if◌then◌else◌}
use Rattle.std.specs.Prelude.{is_ok, Result, Ok, Err}
use Rattle.std.specs.Ordering.{is_eq}
use Rattle.std.specs.Cmp.{tied_itself}
use Rattle.law_clients.specs.Types.{Key, Meta, Record, Reply, Table, TxId, Value, Write}
use Rattle.sdb_types.specs.declared.record.Put.{Put}
use Rattle.sdb_types.specs.declared.value.Value.TheVariants as value
use Rattle.sdb_types.specs.Columns.{column}
use Rattle.sdb_types.specs.TxId.{id_text}
use Rattle.sdb_types.specs.ValueLaws.{value_total}
use Rattle.sdb_types.specs.declared.record.State.TheVariants as state
use Rattle.sdb_types.specs.Contents.{has_value, holds, left_at, put_keys, sent, tx_id}
use Rattle.sdb_types.specs.Order.{are_distinct, has_key, same_key}
use Rattle.sdb_types.proofs.Public.{and_both, and_second, and_true, false_true, left_outside, none_some, once_parts, same_key_self, same_key_decides}
use Rattle.sdb_record.specs.Among.{is_written, write_among}
use Rattle.sdb_record.specs.Coordinator.{coordinator_key_of, is_coordinator_table}
use Rattle.sdb_record.specs.Meta.{checked, id_in, id_in_value, is_in, is_transactional}
use Rattle.sdb_record.specs.Parts.{are_stored}
use Rattle.sdb_record.specs.Groups.{keys_of_writes}
use Rattle.sdb_record.proofs.Public.{accepted, apart_at, id_of_text-is, write_of_key}
use Rattle.sdb_record.specs.Moved.{condition_of, version_of}
use Rattle.sdb_phases.specs.Work.{Work}
use Rattle.sdb_snapshot.specs.Written.{HaveKeysOnce}
use Rattle.law_clients.proofs.Lists.{each_at}
use Rattle.law_clients.specs.Database.{Called, Database, IsWith, Same, TookEffect, are_met, is_committed_or_none, with_batch}
use Rattle.law_clients.specs.OnlyResolves.{IsApart}
use Rattle.law_clients.specs.Commits.{EachWrite, OthersUnchanged, WorkAlone, IsBaseCurrent}
use Rattle.law_clients.proofs.ReadRecords.{coordinators}

---- writes of a list with each key once

write_is : (x w : Write) → Some x ≡ Some w → x ≡ w
write_is x w e = cc

unwritten_other : (ws : List Write) (i : ℕ) (k : Key) (w : Write) → is_written ws k ≡ false → slice_get ws i ≡ Some w → w.key ≢ k
unwritten_other [] i k w free at = none_some w at
unwritten_other (x ∷ xs) zero k w free at = λ e. false_true (sym (other (same_key k x.key) free) ∙ ap (same_key k) (ap (λ (y : Write). y.key) (write_is x w at) ∙ e) ∙ same_key_self k)
  where
    other : (b : Bool) → is_some (if b then Some x else write_among xs k) ≡ false → b ≡ false
    other true e = absurd (cc)
    other false e = refl
unwritten_other (x ∷ xs) (suc i) k w free at = unwritten_other xs i k w (rest (same_key k x.key) free) at
  where
    rest : (b : Bool) → is_some (if b then Some x else write_among xs k) ≡ false → is_written xs k ≡ false
    rest true e = absurd (cc)
    rest false e = e

pub once_at : (ws : List Write) (i : ℕ) (w : Write) → HaveKeysOnce ws → slice_get ws i ≡ Some w → write_among ws w.key ≡ Some w
once_at [] i w once at = none_some w at
once_at (x ∷ xs) zero w once at = ap (λ b. if b then Some x else write_among xs w.key) (ap (same_key w.key) (ap (λ (y : Write). y.key) (write_is x w at)) ∙ same_key_self w.key) ∙ at
once_at (x ∷ xs) (suc i) w once at = by (same_key_decides w.key x.key) (once_at xs i w once.1 at)
  where
    by : ((same_key w.key x.key ≡ true) × (w.key ≡ x.key)) ⊎ ((same_key w.key x.key ≡ false) × (w.key ≢ x.key)) → write_among xs w.key ≡ Some w → write_among (x ∷ xs) w.key ≡ Some w
    by (inl y) ih = absurd (unwritten_other xs i x.key w once.0 at y.1)
    by (inr n) ih = ap (λ b. if b then Some x else write_among xs w.key) n.0 ∙ ih

pub found_at : (ws : List Write) (k : Key) (w : Write) → write_among ws k ≡ Some w → (i : ℕ) × (slice_get ws i ≡ Some w) × (k ≡ w.key)
found_at [] k w h = none_some w h
found_at (x ∷ xs) k w h = by (same_key_decides k x.key) (found_at xs k w)
  where
    by : ((same_key k x.key ≡ true) × (k ≡ x.key)) ⊎ ((same_key k x.key ≡ false) × (k ≢ x.key)) → (write_among xs k ≡ Some w → (i : ℕ) × (slice_get xs i ≡ Some w) × (k ≡ w.key)) → (i : ℕ) × (slice_get (x ∷ xs) i ≡ Some w) × (k ≡ w.key)
    by (inl e) ih =
        let there : Some x ≡ Some w = sym (ap (λ b. if b then Some x else write_among xs k) e.0) ∙ h in
        (zero, there, e.1 ∙ ap (λ (y : Write). y.key) (write_is x w there))
    by (inr n) ih = let f = ih (sym (ap (λ b. if b then Some x else write_among xs k) n.0) ∙ h) in (suc f.0, f.1, f.2)

---- conditions

same_text : (text : List ℕ) → has_value (Some (value.Text text)) (value.Text text) ≡ true
same_text text = ap is_eq (tied_itself value_total (value.Text text))

writer_value : (o : Option Value) (id : TxId) → id_in_value o ≡ Some id → has_value o (value.Text (id_text id.0)) ≡ true
writer_value None id h = none_some id h
writer_value (Some (value.Text text)) id h = subst (λ (t : List ℕ). has_value (Some (value.Text text)) (value.Text t) ≡ true) (id_of_text-is text id h).1 (same_text text)
writer_value (Some v) id h = absurd (cc)

-- a committed record has its version
firm_holds : (r : Record) → is_transactional r ≡ true → is_in state.Committed r.columns ≡ true → holds (condition_of (version_of (Some r))) (Some r) ≡ true
firm_holds r is_write firm = by (checked r.columns) refl (and_second (are_stored r.columns) (is_ok (checked r.columns)) is_write)
  where
    of : (id : TxId) → id_in r.columns ≡ Some id → holds (condition_of (version_of (Some r))) (Some r) ≡ true
    of id w = subst (λ (v : Option TxId). holds (condition_of v) (Some r) ≡ true) (sym w) (and_both (has_value (column r.columns tx_id) (value.Text (id_text id.0))) (is_in state.Committed r.columns) (writer_value (column r.columns tx_id) id w) firm)

    by : (c : Result Meta (List ℕ)) → checked r.columns ≡ c → is_ok c ≡ true → holds (condition_of (version_of (Some r))) (Some r) ≡ true
    by (Ok m) e ok = let t = accepted r.columns m e in of t.0.id t.1.says.id
    by (Err name) e ok = absurd (cc)

-- a record that passes the checks has a writer
pub taken_id : (r : Record) → is_transactional r ≡ true → (id : TxId) × (id_in r.columns ≡ Some id)
taken_id r is_write = by (checked r.columns) refl (and_second (are_stored r.columns) (is_ok (checked r.columns)) is_write)
  where
    by : (c : Result Meta (List ℕ)) → checked r.columns ≡ c → is_ok c ≡ true → (id : TxId) × (id_in r.columns ≡ Some id)
    by (Ok m) e ok = let t = accepted r.columns m e in (t.0.id, t.1.says.id)
    by (Err name) e ok = absurd (cc)

-- the record there still has its version
pub version_holds : (o : Option Record) → is_committed_or_none o ≡ true → ((r : Record) → o ≡ Some r → is_transactional r ≡ true) → holds (condition_of (version_of o)) o ≡ true
version_holds None firm is_write = refl
version_holds (Some r) firm is_write = firm_holds r (is_write r refl) firm

---- the puts of several writes

module _ (f : Write → Put) (same : (w : Write) → (f w).rec.key ≡ w.key) where
  puts_keys : (ws : List Write) → put_keys (map f ws) ≡ keys_of_writes ws
  puts_keys [] = refl
  puts_keys (w ∷ ws) = λ i. same w i ∷ puts_keys ws i

  -- what they leave elsewhere
  pub left_aside : (ws : List Write) (q : Key) (old : Option Record) → has_key (keys_of_writes ws) q ≡ false → left_at (map f ws) q old ≡ old
  left_aside ws q old free = left_outside (map f ws) q old (ap (λ ks. has_key ks q) (puts_keys ws) ∙ free)

  -- and at the key of each
  pub left_there : (ws : List Write) (i : ℕ) (w : Write) (old : Option Record) → are_distinct (keys_of_writes ws) ≡ true → slice_get ws i ≡ Some w → left_at (map f ws) w.key old ≡ Some (f w).rec
  left_there [] i w old once at = none_some w at
  left_there (x ∷ xs) zero w old once at =
      ap (λ b. if b then Some (f x).rec else left_at (map f xs) w.key old) (ap (same_key w.key) (same x ∙ ap (λ (y : Write). y.key) (write_is x w at)) ∙ same_key_self w.key) ∙ ap (λ (y : Write). Some (f y).rec) (write_is x w at)
  left_there (x ∷ xs) (suc i) w old once at =
      ap (λ b. if b then Some (f x).rec else left_at (map f xs) w.key old) (ap (same_key w.key) (same x) ∙ other (same_key_decides w.key x.key))
      ∙ left_there xs i w old (once_parts (has_key (keys_of_writes xs) x.key) (are_distinct (keys_of_writes xs)) once).1 at
    where
      first : 0 < suc i
      first = omega arith

      other : ((same_key w.key x.key ≡ true) × (w.key ≡ x.key)) ⊎ ((same_key w.key x.key ≡ false) × (w.key ≢ x.key)) → same_key w.key x.key ≡ false
      other (inl e) = absurd (apart_at (x ∷ xs) zero (suc i) x w once first refl at e.1)
      other (inr n) = n.0

  -- each condition holds
  pub all_met : (g : Database) (ws : List Write) → ((i : ℕ) (w : Write) → slice_get ws i ≡ Some w → holds (f w).condition (g (f w).rec.key) ≡ true) → are_met (map f ws) g ≡ true
  all_met g [] each = refl
  all_met g (w ∷ ws) each = and_both (holds (f w).condition (g (f w).rec.key)) (are_met (map f ws) g) (each zero w refl) (all_met g ws (λ i v at. each (suc i) v at))

-- What a call of some puts does: it puts them all, or nothing.
pub sent_called : (ps : List Put) (r : Reply) (g h : Database) → Called (sent ps) r g h → (are_met ps g ≡ true → TookEffect (with_batch ps g) r g h) × (are_met ps g ≡ false → Same g h)
sent_called [] r g h c = c
sent_called (p ∷ []) r g h c = (λ met. c.0 (sym (and_true (holds p.condition (g p.rec.key))) ∙ met), λ fails. c.1 (sym (and_true (holds p.condition (g p.rec.key))) ∙ fails))
sent_called (p ∷ q ∷ ps) r g h c = c

---- one change

module _ (catalog : List Table) (apart : IsApart catalog) (start : Database) (p : Work) (work : WorkAlone catalog start p) where
  abbrev row : Key
  row = coordinator_key_of p.id

  pub based_at : (i : ℕ) (w : Write) → slice_get p.writes i ≡ Some w → IsBaseCurrent catalog start w
  based_at i w at = each_at (IsBaseCurrent catalog start) p.writes i w work.writes at

  -- a write's key is none of the coordinator's
  pub not_row : (i : ℕ) (w : Write) → slice_get p.writes i ≡ Some w → same_key w.key row ≡ false
  not_row i w at = elim (same_key_decides w.key row) [
    | inl e ↦ false_true (sym (apart w.key (based_at i w at).listed) ∙ ap (λ x. is_coordinator_table x.table) e.1 ∙ coordinators p.id)
    | inr n ↦ n.0
  ]

  pub row_not : (i : ℕ) (w : Write) → slice_get p.writes i ≡ Some w → same_key row w.key ≡ false
  row_not i w at = elim (same_key_decides row w.key) [
    | inl e ↦ false_true (sym (apart w.key (based_at i w at).listed) ∙ ap (λ x. is_coordinator_table x.table) (sym e.1) ∙ coordinators p.id)
    | inr n ↦ n.0
  ]

  module _ (g h : Database) where
    -- a change at the coordinator's row leaves the writes
    pub each_row : (P : Write → Option Record → Type 0) (new : Option Record) → IsWith row new g h → EachWrite p P g → EachWrite p P h
    each_row P new now each j w at = subst (P w) (sym (now w.key ∙ ap (λ b. if b then new else g w.key) (not_row j w at))) (each j w at)

    pub others_row : (new : Option Record) → IsWith row new g h → OthersUnchanged p start g → OthersUnchanged p start h
    others_row new now others k free other = now k ∙ ap (λ b. if b then new else g k) other ∙ others k free other

    pub row_is : (new : Option Record) → IsWith row new g h → h row ≡ new
    row_is new now = now row ∙ ap (λ b. if b then new else g row) (same_key_self row)

    -- a change at a write's key
    module _ (i : ℕ) (w : Write) (at : slice_get p.writes i ≡ Some w) (new : Option Record) (now : IsWith w.key new g h) where
      pub there : h w.key ≡ new
      there = now w.key ∙ ap (λ b. if b then new else g w.key) (same_key_self w.key)

      pub row_stays : h row ≡ g row
      row_stays = now row ∙ ap (λ b. if b then new else g row) (row_not i w at)

      pub others_stay : OthersUnchanged p start g → OthersUnchanged p start h
      others_stay others k free other = by (same_key_decides k w.key)
        where
          by : ((same_key k w.key ≡ true) × (k ≡ w.key)) ⊎ ((same_key k w.key ≡ false) × (k ≢ w.key)) → h k ≡ start k
          by (inl e) = false_true (sym free ∙ ap (is_written p.writes) e.1 ∙ ap is_some (once_at p.writes i w work.once at))
          by (inr n) = now k ∙ ap (λ b. if b then new else g k) n.0 ∙ others k free other

      pub each_write : (P : Write → Option Record → Type 0) → P w new → EachWrite p P g → EachWrite p P h
      each_write P here each j v there_at = by (same_key_decides v.key w.key)
        where
          by : ((same_key v.key w.key ≡ true) × (v.key ≡ w.key)) ⊎ ((same_key v.key w.key ≡ false) × (v.key ≢ w.key)) → P v (h v.key)
          by (inl e) =
              let one : w ≡ v = write_is w v (sym (once_at p.writes i w work.once at) ∙ ap (write_among p.writes) (sym e.1) ∙ once_at p.writes j v work.once there_at) in
              subst (λ x. P x (h x.key)) one (subst (P w) (sym there) here)
          by (inr n) = subst (P v) (sym (now v.key ∙ ap (λ b. if b then new else g v.key) n.0)) (each j v there_at)

    -- a change at the keys of a group
    module _ (ws : List Write) (f : Write → Put) (same : (w : Write) → (f w).rec.key ≡ w.key) (once : are_distinct (keys_of_writes ws) ≡ true) (own : (i : ℕ) (w : Write) → slice_get ws i ≡ Some w → (j : ℕ) × (slice_get p.writes j ≡ Some w)) (now : Same (with_batch (map f ws) g) h) where
      pub group_aside : (k : Key) → has_key (keys_of_writes ws) k ≡ false → h k ≡ g k
      group_aside k free = now k ∙ left_aside f same ws k (g k) free

      pub group_there : (i : ℕ) (w : Write) → slice_get ws i ≡ Some w → h w.key ≡ Some (f w).rec
      group_there i w at = now w.key ∙ left_there f same ws i w (g w.key) once at

      -- a key that no write has
      other_key : (k : Key) → ((j : ℕ) (w : Write) → slice_get p.writes j ≡ Some w → w.key ≢ k) → h k ≡ g k
      other_key k others = group_aside k (by (has_key (keys_of_writes ws) k) refl)
        where
          by : (b : Bool) → has_key (keys_of_writes ws) k ≡ b → b ≡ false
          by false e = refl
          by true e =
              let found = write_of_key ws k e in
              let mine = own found.0 found.1.0 found.1.1.0 in
              absurd (others mine.0 found.1.0 mine.1 found.1.1.1)

      pub group_row : h row ≡ g row
      group_row = other_key row (λ j w at e. false_true (sym (not_row j w at) ∙ ap (λ k. same_key k row) e ∙ same_key_self row))

      pub group_others : OthersUnchanged p start g → OthersUnchanged p start h
      group_others others k free other = other_key k (λ j w at e. false_true (sym free ∙ ap (is_written p.writes) (sym e) ∙ ap is_some (once_at p.writes j w work.once at))) ∙ others k free other

      pub each_group : (P : Write → Option Record → Type 0) → ((w : Write) → P w (Some (f w).rec)) → EachWrite p P g → EachWrite p P h
      each_group P here each j v at = by (has_key (keys_of_writes ws) v.key) refl
        where
          by : (b : Bool) → has_key (keys_of_writes ws) v.key ≡ b → P v (h v.key)
          by false e = subst (P v) (sym (group_aside v.key e)) (each j v at)
          by true e =
              let found = write_of_key ws v.key e in
              let w = found.1.0 in
              let mine = own found.0 w found.1.1.0 in
              let one : w ≡ v = write_is w v (sym (once_at p.writes mine.0 w work.once mine.1) ∙ ap (write_among p.writes) found.1.1.1 ∙ once_at p.writes j v work.once at) in
              subst (λ x. P x (h x.key)) one (subst (P w) (sym (group_there found.0 w found.1.1.0)) (here w))
