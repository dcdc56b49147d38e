-- What a COMMIT that has ended leaves: images and rows as they were, or with its writes.
use Rattle.std.proofs.Common.{◌≡◌, ◌≢◌, ◌<◌, ◌^◌, ℕ, Bool, true, false, List, Option, Some, None, ◌⊎◌, inl, inr, refl, sym, ap, subst, ◌∙◌}
use Rattle.std.specs.Prelude.{is_some, slice_get, IfSome, IsSomeAnd, if◌then◌else◌}
use Rattle.std.specs.Option.{option_and_then}
use Rattle.std.specs.FinMap.{get}
use Rattle.law_clients.specs.Types.{Decided, Key, Record, Table, TxId, Value, Write}
use Rattle.sdb_types.specs.declared.record.State.TheVariants as state
use Rattle.sdb_types.specs.declared.value.Value.TheVariants as value
use Rattle.sdb_types.specs.Columns.{column}
use Rattle.sdb_types.specs.Contents.{tx_id}
use Rattle.sdb_types.proofs.Public.{false_true, none_some, same_key_decides, some_is}
use Rattle.sdb_record.specs.declared.coordinator.Decision.TheVariants as decision
use Rattle.sdb_record.specs.Among.{is_written, write_among}
use Rattle.sdb_record.specs.Coordinator.{coordinator_key_of, id_of_key, is_coordinator_table}
use Rattle.sdb_record.specs.Meta.{id_in, id_in_value, is_in}
use Rattle.sdb_record.specs.Rolls.{IsBaseOf, forward_record, image_of, image_under, prepared_record, row_of_change, row_of_image}
use Rattle.sdb_record.specs.Parts.{before_record}
use Rattle.sdb_record.proofs.Public.{forward-committed, forward-prepared-row, id_of_text-is, image-open, image-settled, key-of-id, prepared-base, prepared-unsettled, prepared-version, version-writer}
use Rattle.sdb_model.specs.Exec.{Tables}
use Rattle.sdb_phases.specs.Work.{Work}
use Rattle.sdb_snapshot.specs.Rows.{with_own}
use Rattle.sdb_snapshot.proofs.Public.{get_own, own_row}
use Rattle.law_clients.specs.Database.{Database, decided_in, decided_on, image_in, is_committed_or_none, is_listed, row_in}
use Rattle.law_clients.specs.OnlyResolves.{IsApart, IsSound}
use Rattle.law_clients.specs.Recovers.{IsAborted, IsUndecided}
use Rattle.law_clients.specs.Commits.{IsDone, IsGivenUp, IsLoose, IsWon, OthersUnchanged, WorkAlone}
use Rattle.law_clients.specs.Seen.{AreImagesOf}
use Rattle.law_clients.specs.Tombstones.{HasWritten, SameImages}
use Rattle.law_clients.proofs.Recovers.{row_at}
use Rattle.law_clients.proofs.Resolves.{firm_image, under_aborted}
use Rattle.law_clients.proofs.Writes.{found_at, based_at}
use Rattle.law_clients.proofs.ReadRecords.{coordinators}

-- an id that a record has is of 128 bits
id_fits : (o : Option Value) (id : TxId) → id_in_value o ≡ Some id → id.0 < 2 ^ 128
id_fits None id h = none_some id h
id_fits (Some (value.Text text)) id h = (id_of_text-is text id h).0
id_fits (Some v) id h = absurd (cc)

-- the writer of a record fits
pub writer_fits : (r : Record) (id : TxId) → id_in r.columns ≡ Some id → id.0 < 2 ^ 128
writer_fits r id e = id_fits (column r.columns tx_id) id e

-- a row's key has one id
pub row_names : (id x : TxId) → id.0 < 2 ^ 128 → x.0 < 2 ^ 128 → coordinator_key_of id ≡ coordinator_key_of x → x ≡ id
row_names id x fits is_write e = some_is x id (sym (key-of-id x is_write) ∙ ap id_of_key (sym e) ∙ key-of-id id fits)

module _ (catalog : List Table) (apart : IsApart catalog) (start : Database) (sound : IsSound catalog start) (p : Work) (work : WorkAlone catalog start p) (h : Database) (others : OthersUnchanged p start h) where
  abbrev row : Key
  row = coordinator_key_of p.id

  -- no key of the coordinator's table is written
  pub row_unwritten : (k : Key) → is_coordinator_table k.table ≡ true → is_written p.writes k ≡ false
  row_unwritten k there = by (write_among p.writes k) refl
    where
      by : (o : Option Write) → write_among p.writes k ≡ o → is_some o ≡ false
      by None e = refl
      by (Some w) e =
          let f = found_at p.writes k w e in
          false_true (sym (apart w.key (based_at catalog apart start p work f.0 w f.1).listed) ∙ ap (λ x. is_coordinator_table x.table) (sym f.2) ∙ there)

  -- the decision on another transaction is as it was
  decided_other : (id : TxId) → id.0 < 2 ^ 128 → id ≢ p.id → decided_in h id ≡ decided_in start id
  decided_other id fits differs = ap row_at (others (coordinator_key_of id) (row_unwritten (coordinator_key_of id) (coordinators id)) (elim (same_key_decides (coordinator_key_of id) row) [
    | inl e ↦ absurd (differs (some_is id p.id (sym (key-of-id id fits) ∙ ap id_of_key e.1 ∙ key-of-id p.id work.fits)))
    | inr n ↦ n.0
  ]))

  -- at a key that isn't written the image is as it was
  image_kept : (k : Key) → is_listed catalog k ≡ true → is_written p.writes k ≡ false → image_in h k ≡ image_in start k
  image_kept k listed free = images (start k) refl
    where
      present : h k ≡ start k
      present = others k free (elim (same_key_decides k row) [
        | inl e ↦ false_true (sym (apart k listed) ∙ ap (λ x. is_coordinator_table x.table) e.1 ∙ coordinators p.id)
        | inr n ↦ n.0
      ])

      means : Database → Option Record → Option Record
      means j o = option_and_then (λ r. image_of r (decided_on j r)) o

      open_same : (r : Record) → start k ≡ Some r → is_in state.Committed r.columns ≡ false → (o : Option TxId) → id_in r.columns ≡ o → option_and_then (decided_in h) o ≡ option_and_then (decided_in start) o
      open_same r e loose None f = refl
      open_same r e loose (Some id) f = decided_other id (id_fits (column r.columns tx_id) id f) (λ same. work.unused k r listed e loose (f ∙ ap (λ x. Some x) same))

      at : (r : Record) → start k ≡ Some r → (b : Bool) → is_in state.Committed r.columns ≡ b → means h (Some r) ≡ means start (Some r)
      at r e true f = image-settled r (decided_on h r) f ∙ sym (image-settled r (decided_on start r) f)
      at r e false f = image-open r (decided_on h r) f ∙ ap (image_under r) (open_same r e f (id_in r.columns) refl) ∙ sym (image-open r (decided_on start r) f)

      images : (o : Option Record) → start k ≡ o → image_in h k ≡ image_in start k
      images None e = ap (means h) (present ∙ e) ∙ sym (ap (means start) e)
      images (Some r) e = ap (means h) (present ∙ e) ∙ at r e (is_in state.Committed r.columns) refl ∙ sym (ap (means start) e)

  -- what was prepared is of its transaction
  writer : (w : Write) → id_in (prepared_record w p.id p.now).columns ≡ Some p.id
  writer w = version-writer (prepared_record w p.id p.now) p.id _ work.fits (prepared-version w p.id p.now)

  decided_prepared : (w : Write) → decided_on h (prepared_record w p.id p.now) ≡ decided_in h p.id
  decided_prepared w = ap (option_and_then (decided_in h)) (writer w)

  image_prepared : (w : Write) (k : Key) → h k ≡ Some (prepared_record w p.id p.now) → image_in h k ≡ image_under (prepared_record w p.id p.now) (decided_in h p.id)
  image_prepared w k e = ap (λ o. option_and_then (λ r. image_of r (decided_on h r)) o) e ∙ image-open (prepared_record w p.id p.now) (decided_on h (prepared_record w p.id p.now)) (prepared-unsettled w p.id p.now) ∙ ap (image_under (prepared_record w p.id p.now)) (decided_prepared w)

  -- a base is the image that was there
  base_image : (j : ℕ) (w : Write) → slice_get p.writes j ≡ Some w → (image_in h w.key ≡ w.base) → image_in h w.key ≡ image_in start w.key
  base_image j w at e =
      let s = based_at catalog apart start p work j w at in
      e ∙ sym (ap (λ o. option_and_then (λ r. image_of r (decided_on start r)) o) s.base ∙ firm_image w.base (decided_on start) (firm w.base s.is_write.base))
    where
      firm : (o : Option Record) → IfSome o (IsBaseOf w.key) → is_committed_or_none o ≡ true
      firm None f = refl
      firm (Some b) f = f.2

  -- Given up: each image is as it was.
  pub given_up_same : IsGivenUp p h → SameImages catalog start h
  given_up_same up k listed = by (write_among p.writes k) refl
    where
      undecided : (w : Write) → (IsUndecided h p.id ⊎ IsAborted h p.id) → image_under (prepared_record w p.id p.now) (decided_in h p.id) ≡ before_record (prepared_record w p.id p.now)
      undecided w (inl none) = ap (λ o. image_under (prepared_record w p.id p.now) (row_at o)) none
      undecided w (inr aborted) = on (decided_in h p.id) aborted
        where
          on : (o : Option Decided) → IsSomeAnd o (λ d. d.decision ≡ decision.Aborted) → image_under (prepared_record w p.id p.now) o ≡ before_record (prepared_record w p.id p.now)
          on None a = absurd a
          on (Some d) a = under_aborted (prepared_record w p.id p.now) d a

      loose : (j : ℕ) (w : Write) → slice_get p.writes j ≡ Some w → IsLoose p w (h w.key) → image_in h w.key ≡ image_in start w.key
      loose j w at (inl based) =
          let s = based_at catalog apart start p work j w at in
          base_image j w at (ap (λ o. option_and_then (λ r. image_of r (decided_on h r)) o) based ∙ firm_image w.base (decided_on h) (firm w.base s.is_write.base))
        where
          firm : (o : Option Record) → IfSome o (IsBaseOf w.key) → is_committed_or_none o ≡ true
          firm None f = refl
          firm (Some b) f = f.2
      loose j w at (inr prepared) = base_image j w at (image_prepared w w.key prepared ∙ undecided w up.0 ∙ prepared-base w p.id p.now (based_at catalog apart start p work j w at).is_write)

      by : (o : Option Write) → write_among p.writes k ≡ o → image_in h k ≡ image_in start k
      by None e = image_kept k listed (ap is_some e)
      by (Some w) e =
          let f = found_at p.writes k w e in
          subst (λ q. image_in h q ≡ image_in start q) (sym f.2) (loose f.0 w f.1 (up.1 f.0 w f.1))

  pub given_up_rows : IsGivenUp p h → (k : Key) → is_listed catalog k ≡ true → row_in h k ≡ row_in start k
  given_up_rows up k listed = ap (option_and_then row_of_image) (given_up_same up k listed)

  -- Done: each image is as it was, but at the keys that it wrote, where a record is.
  pub done_written : IsDone p h → HasWritten catalog (is_written p.writes) start h
  done_written done = record { there = λ k listed written. there k (write_among p.writes k) refl written; others = λ k listed free. image_kept k listed free }
    where
      won : (w : Write) → IsWon p w (h w.key) → is_some (image_in h w.key) ≡ true
      won w (inl prepared) = ap is_some (image_prepared w w.key prepared ∙ ap (image_under (prepared_record w p.id p.now)) done.0)
      won w (inr forwarded) = ap is_some (ap (λ o. option_and_then (λ r. image_of r (decided_on h r)) o) forwarded ∙ image-settled (forward_record (prepared_record w p.id p.now) p.now) (decided_on h (forward_record (prepared_record w p.id p.now) p.now)) (forward-committed (prepared_record w p.id p.now) p.now))

      there : (k : Key) (o : Option Write) → write_among p.writes k ≡ o → is_written p.writes k ≡ true → is_some (image_in h k) ≡ true
      there k None e written = false_true (sym (ap is_some e) ∙ written)
      there k (Some w) e written =
          let f = found_at p.writes k w e in
          ap (λ q. is_some (image_in h q)) f.2 ∙ won w (done.1 f.0 w f.1)

  -- Done: each row is as it was, but for those that it wrote.
  done_rows : IsDone p h → (k : Key) → is_listed catalog k ≡ true → row_in h k ≡ own_row (write_among p.writes k) (row_in start k)
  done_rows done k listed = by (write_among p.writes k) refl
    where
      won : (j : ℕ) (w : Write) → slice_get p.writes j ≡ Some w → IsWon p w (h w.key) → row_in h w.key ≡ row_of_change w.change
      won j w at (inl prepared) = ap (option_and_then row_of_image) (image_prepared w w.key prepared ∙ ap (image_under (prepared_record w p.id p.now)) done.0) ∙ forward-prepared-row w p.id p.now p.now (based_at catalog apart start p work j w at).is_write
      won j w at (inr forwarded) = ap (option_and_then row_of_image) (ap (λ o. option_and_then (λ r. image_of r (decided_on h r)) o) forwarded ∙ image-settled (forward_record (prepared_record w p.id p.now) p.now) (decided_on h (forward_record (prepared_record w p.id p.now) p.now)) (forward-committed (prepared_record w p.id p.now) p.now)) ∙ forward-prepared-row w p.id p.now p.now (based_at catalog apart start p work j w at).is_write

      by : (o : Option Write) → write_among p.writes k ≡ o → row_in h k ≡ own_row o (row_in start k)
      by None e = ap (option_and_then row_of_image) (image_kept k listed (ap is_some e))
      by (Some w) e =
          let f = found_at p.writes k w e in
          ap (row_in h) f.2 ∙ won f.0 w f.1 (done.1 f.0 w f.1)

  -- So plain tables that were the images are so still, or with the writes over them.
  pub given_up_images : (d : Tables) → AreImagesOf catalog start d → IsGivenUp p h → AreImagesOf catalog h d
  given_up_images d are_images up k = by (is_listed catalog k) refl
    where
      by : (b : Bool) → is_listed catalog k ≡ b → get d k ≡ (if is_listed catalog k then row_in h k else None)
      by true e = are_images k ∙ ap (λ t. if t then row_in start k else None) e ∙ sym (ap (λ t. if t then row_in h k else None) e ∙ given_up_rows up k e)
      by false e = are_images k ∙ ap (λ t. if t then row_in start k else None) e ∙ sym (ap (λ t. if t then row_in h k else None) e)

  pub done_images : (d : Tables) → AreImagesOf catalog start d → IsDone p h → AreImagesOf catalog h (with_own d p.writes)
  done_images d are_images done k = by (is_listed catalog k) refl
    where
      unlisted : is_listed catalog k ≡ false → write_among p.writes k ≡ None
      unlisted e = on (write_among p.writes k) refl
        where
          on : (o : Option Write) → write_among p.writes k ≡ o → write_among p.writes k ≡ None
          on None g = g
          on (Some w) g =
              let f = found_at p.writes k w g in
              false_true (sym e ∙ ap (is_listed catalog) f.2 ∙ (based_at catalog apart start p work f.0 w f.1).listed)

      by : (b : Bool) → is_listed catalog k ≡ b → get (with_own d p.writes) k ≡ (if is_listed catalog k then row_in h k else None)
      by true e = get_own d p.writes k ∙ ap (own_row (write_among p.writes k)) (are_images k ∙ ap (λ t. if t then row_in start k else None) e) ∙ sym (ap (λ t. if t then row_in h k else None) e ∙ done_rows done k e)
      by false e = get_own d p.writes k ∙ ap (own_row (write_among p.writes k)) (are_images k ∙ ap (λ t. if t then row_in start k else None) e) ∙ ap (λ o. own_row o None) (unlisted e) ∙ sym (ap (λ t. if t then row_in h k else None) e)
