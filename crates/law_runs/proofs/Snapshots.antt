-- What a transaction has read and written has no LF, whatever it reads and writes more.
use Rattle.std.proofs.Common.{◌≡◌, Bool, true, false, cond, List, [], ◌∷◌, ◌++◌, slice_get, Option, Some, None, IfSome, sym, ap, subst, ◌∙◌}
use Rattle.std.specs.List.{AllByRecursion}
use Rattle.std.specs.Option.{option_and_then}
use Rattle.sdb_types.specs.Order.{same_key}
use Rattle.law_runs.specs.Types.{Access, Change, Image, Key, Keyed, Pair, Read, Record, Scan, Span, Write}
use Rattle.sdb_types.proofs.Public.{append_all, by_test, none_some, same_key_exact}
use Rattle.sdb_snapshot.specs.Entries.{value_at}
use Rattle.sdb_record.specs.declared.write.Change.TheVariants as change
use Rattle.sdb_record.specs.Among.{write_among}
use Rattle.sdb_record.specs.Moved.{version_of}
use Rattle.sdb_record.specs.Rolls.{new_columns, row_of_change}
use Rattle.sdb_model.specs.Access.{in_access}
use Rattle.sdb_model.specs.Exec.{all_rows}
use Rattle.sdb_snapshot.specs.Reads.{ReadRecord, base_at, is_key_read, read_of, reads_of, with_images, with_read_record}
use Rattle.sdb_snapshot.specs.Rows.{row_found}
use Rattle.sdb_snapshot.specs.Seen.{Seen, nothing, overlay, row_seen, row_with, tables_seen, with_get, with_scan, with_written}
use Rattle.sdb_snapshot.specs.Written.{with_change_of, with_write, with_writes, write_of}
use Rattle.sdb_snapshot.proofs.Public.{get_seen}
use Rattle.law_runs.proofs.Lists.{filter_all, map_all}
use Rattle.law_runs.proofs.Clear.{AreClear, ColumnsClear, FoundClear, KeyClear, RecordClear, RecordsClear, WriteClear, image_clear}
use Rattle.law_runs.proofs.PlainStatements.{ChangesClear, ImageClear, ImagesClear}
use Rattle.law_runs.proofs.Contents.{TablesClear, rows_clear}

abbrev pub NoteClear : ReadRecord → Type 0
NoteClear e = KeyClear e.0 × FoundClear e.1

abbrev pub NotesClear : List ReadRecord → Type 0
NotesClear read_set = AllByRecursion NoteClear read_set

abbrev pub ReadClear : Read → Type 0
ReadClear r = KeyClear r.key

abbrev pub ReadsClear : List Read → Type 0
ReadsClear reads = AllByRecursion ReadClear reads

-- a scan: its span, and the keys that it found
pub record ScanClear (s : Scan) : Type 0 where
  pub span : IfSome s.span.partition AreClear
  pub found : ReadsClear s.found

abbrev pub ScansClear : List Scan → Type 0
ScansClear scans = AllByRecursion ScanClear scans

abbrev pub WritesClear : List Write → Type 0
WritesClear ws = AllByRecursion WriteClear ws

pub record SeenClear (s : Seen) : Type 0 where
  pub read_set : NotesClear s.read_set
  pub reads : ReadsClear s.reads
  pub scans : ScansClear s.scans
  pub writes : WritesClear s.writes

pub nothing_clear : SeenClear nothing
nothing_clear = record { read_set = tt; reads = tt; scans = tt; writes = tt }

---- what is read

first_clear : (images : List Record) → RecordsClear images → FoundClear (slice_get images 0)
first_clear [] h = tt
first_clear (r ∷ rs) h = h.0

pub get_clear : (s : Seen) (key : Key) (images : List Record) → KeyClear key → RecordsClear images → SeenClear s → SeenClear (with_get s key (slice_get images 0))
get_clear s key images k h g = record {
  read_set = append_all NoteClear s.read_set ((key, slice_get images 0) ∷ []) g.read_set ((k, first_clear images h), tt);
  reads = append_all ReadClear s.reads (record { key = key; version = version_of (slice_get images 0) } ∷ []) g.reads (k, tt);
  scans = g.scans;
  writes = g.writes;
}

note_clear : (read_set : List ReadRecord) (r : Record) → RecordClear r → NotesClear read_set → NotesClear (with_read_record read_set r.key (Some r))
note_clear read_set r k h =
    elim (is_key_read read_set r.key) as (λ b. NotesClear (cond b read_set (read_set ++ (r.key, Some r) ∷ []))) [ true ↦ h | false ↦ append_all NoteClear read_set ((r.key, Some r) ∷ []) h ((k.key, k), tt) ]

images_noted : (read_set : List ReadRecord) (rs : List Record) → RecordsClear rs → NotesClear read_set → NotesClear (with_images read_set rs)
images_noted read_set [] k h = h
images_noted read_set (r ∷ rs) k h = images_noted (with_read_record read_set r.key (Some r)) rs k.1 (note_clear read_set r k.0 h)

pub scan_clear : (s : Seen) (span : Span) (images : List Record) → IfSome span.partition AreClear → RecordsClear images → SeenClear s → SeenClear (with_scan s span images)
scan_clear s span images k h g = record {
  read_set = images_noted s.read_set images h g.read_set;
  reads = g.reads;
  scans = append_all ScanClear s.scans (record { span = span; found = reads_of images } ∷ []) g.scans (record { span = k; found = map_all RecordClear ReadClear read_of images (λ r c. c.key) h }, tt);
  writes = g.writes;
}

---- what is written

base_clear : (read_set : List ReadRecord) (key : Key) → NotesClear read_set → FoundClear (base_at read_set key)
base_clear [] key h = tt
base_clear (e ∷ es) key h =
    elim (same_key key e.0) as (λ b. FoundClear (option_and_then (λ (found : Option Record). found) (cond b (Some e.1) (value_at es key)))) [ true ↦ h.0.1 | false ↦ base_clear es key h.1 ]

write_clear : (ws : List Write) (w : Write) → WriteClear w → WritesClear ws → WritesClear (with_write ws w)
write_clear [] w k h = (k, tt)
write_clear (x ∷ xs) w k h =
    let rest = write_clear xs w k h.1 in
    elim (same_key w.key x.key) as (λ b. WritesClear (cond b (with_change_of x w ∷ xs) (x ∷ with_write xs w))) [
      | true ↦ (record { key = h.0.key; base = h.0.base; change = k.change }, h.1)
      | false ↦ (h.0, rest)
    ]

writes_clear : (read_set : List ReadRecord) (ws : List Write) (ks : List Keyed) → ChangesClear ks → NotesClear read_set → WritesClear ws → WritesClear (with_writes read_set ws ks)
writes_clear read_set ws [] k n h = h
writes_clear read_set ws (c ∷ cs) k n h =
    writes_clear read_set (with_write ws (write_of read_set c)) cs k.1 n (write_clear ws (write_of read_set c) (record { key = k.0.key; base = base_clear read_set c.key n; change = k.0.change }) h)

pub written_clear : (s : Seen) (ks : List Keyed) → ChangesClear ks → SeenClear s → SeenClear (with_written s ks)
written_clear s ks k g = record { read_set = g.read_set; reads = g.reads; scans = g.scans; writes = writes_clear s.read_set s.writes ks k g.read_set g.writes }

---- rows that are seen

change_row : (c : Change) → ColumnsClear (new_columns c) → IfSome (row_of_change c) ColumnsClear
change_row (change.Row columns) h = h
change_row change.Delete h = tt

found_row : (o : Option Record) → FoundClear o → IfSome (row_found o) ColumnsClear
found_row None h = tt
found_row (Some r) h = image_clear r h

-- the row of a note, at its key
noted_at : (read_set : List ReadRecord) (q : Key) (row : List Pair) → NotesClear read_set → row_found (base_at read_set q) ≡ Some row → KeyClear q × ColumnsClear row
noted_at [] q row h = λ e. none_some row e
noted_at (n ∷ ns) q row h =
    by_test (same_key q n.0)
    (λ t. λ e.
    let there : row_found n.1 ≡ Some row = sym (ap (λ (b : Bool). row_found (option_and_then (λ (found : Option Record). found) (cond b (Some n.1) (value_at ns q)))) t) ∙ e in
    (subst KeyClear (sym (same_key_exact q n.0 t)) h.0.0, subst (λ (o : Option (List Pair)). IfSome o ColumnsClear) there (found_row n.1 h.0.1)))
    (λ t. λ e.
    noted_at ns q row h.1 (sym (ap (λ (b : Bool). row_found (option_and_then (λ (found : Option Record). found) (cond b (Some n.1) (value_at ns q)))) t) ∙ e))

-- the row that is seen at a key
seen_at : (read_set : List ReadRecord) (ws : List Write) (q : Key) (row : List Pair) → NotesClear read_set → WritesClear ws → row_seen read_set ws q ≡ Some row → KeyClear q × ColumnsClear row
seen_at read_set [] q row n h = λ e. noted_at read_set q row n e
seen_at read_set (w ∷ ws) q row n h =
    by_test (same_key q w.key)
    (λ t. λ e.
    let there : row_of_change w.change ≡ Some row = sym (ap (λ (b : Bool). row_with (cond b (Some w) (write_among ws q)) (base_at read_set q)) t) ∙ e in
    (subst KeyClear (sym (same_key_exact q w.key t)) h.0.key, subst (λ (o : Option (List Pair)). IfSome o ColumnsClear) there (change_row w.change h.0.change)))
    (λ t. λ e. seen_at read_set ws q row n h.1 (sym (ap (λ (b : Bool). row_with (cond b (Some w) (write_among ws q)) (base_at read_set q)) t) ∙ e))

seen_tables : (s : Seen) → SeenClear s → TablesClear (tables_seen s)
seen_tables s h q row e = seen_at s.read_set s.writes q row h.read_set h.writes (sym (get_seen s.read_set s.writes q) ∙ e)

pub overlay_clear : (a : Access) (s : Seen) → SeenClear s → ImagesClear (overlay a s)
overlay_clear a s h = filter_all ImageClear (λ (r : Image). in_access a r.key) (all_rows (tables_seen s)) (rows_clear (tables_seen s) (seen_tables s h))
