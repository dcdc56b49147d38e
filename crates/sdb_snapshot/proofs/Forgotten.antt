-- What is noted goes after what was noted before, so that it may be forgotten.
use Rattle.std.proofs.Common.{◌≡◌, Bool, true, false, List, [], ◌∷◌, ◌++◌, Option, Some, refl, sym, ap, ◌∙◌, length, take}
use Rattle.std.specs.Prelude.{if◌then◌else◌}
use Rattle.std.proofs.lemmas.List.{append_assoc, append-nil}
use Rattle.std.proofs.Math.Seq.{take-append_seam, take-length}
use Rattle.sdb_snapshot.specs.Types.{Key, Record, Span}
use Rattle.sdb_record.specs.Moved.{version_of}
use Rattle.sdb_snapshot.specs.Reads.{ReadRecord, is_key_read, reads_of, with_images, with_read_record}
use Rattle.sdb_snapshot.specs.Seen.{Seen, forgotten, mark_of, with_get, with_scan}

note_behind : (read_set : List ReadRecord) (key : Key) (found : Option Record) → (more : List ReadRecord) × (with_read_record read_set key found ≡ read_set ++ more)
note_behind read_set key found = by (is_key_read read_set key)
  where
    by : (b : Bool) → (more : List ReadRecord) × ((if b then read_set else read_set ++ (key, found) ∷ []) ≡ read_set ++ more)
    by true = ([], sym (append-nil read_set))
    by false = ((key, found) ∷ [], refl)

images_behind : (read_set : List ReadRecord) (rs : List Record) → (more : List ReadRecord) × (with_images read_set rs ≡ read_set ++ more)
images_behind read_set [] = ([], sym (append-nil read_set))
images_behind read_set (r ∷ rs) =
    let first = note_behind read_set r.key (Some r) in
    let rest = images_behind (with_read_record read_set r.key (Some r)) rs in
    (first.0 ++ rest.0, rest.1 ∙ ap (λ ns. ns ++ rest.0) first.1 ∙ append_assoc read_set first.0 rest.0)

images_cut : (read_set : List ReadRecord) (rs : List Record) → take (length read_set) (with_images read_set rs) ≡ read_set
images_cut read_set rs = let b = images_behind read_set rs in ap (take (length read_set)) b.1 ∙ take-append_seam read_set b.0

pub get_forgotten : (s : Seen) (key : Key) (image : Option Record) → forgotten (mark_of s) (with_get s key image) ≡ s
get_forgotten s key image =
    ap (λ ns. record (forgotten (mark_of s) (with_get s key image)) { read_set = ns }) (take-append_seam s.read_set ((key, image) ∷ []))
    ∙ ap (λ rs. record s { reads = rs; scans = take (length s.scans) s.scans }) (take-append_seam s.reads (record { key = key; version = version_of image } ∷ []))
    ∙ ap (λ xs. record s { scans = xs }) (take-length s.scans)

pub scan_forgotten : (s : Seen) (span : Span) (images : List Record) → forgotten (mark_of s) (with_scan s span images) ≡ s
scan_forgotten s span images =
    ap (λ ns. record (forgotten (mark_of s) (with_scan s span images)) { read_set = ns }) (images_cut s.read_set images)
    ∙ ap (λ rs. record s { reads = rs; scans = take (length s.scans) (s.scans ++ record { span = span; found = reads_of images } ∷ []) }) (take-length s.reads)
    ∙ ap (λ xs. record s { scans = xs }) (take-append_seam s.scans (record { span = span; found = reads_of images } ∷ []))
