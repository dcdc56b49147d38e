-- What a transaction of a client that is alone takes into its COMMIT is current.
use Rattle.std.proofs.Common.{◌≡◌, ℤ, true, List, sym, ap, ◌∙◌}
use Rattle.std.specs.Prelude.{◌||◌}
use Rattle.std.specs.List.{AllByRecursion, list_any}
use Rattle.law_clients.specs.Types.{Key, Table, TxId}
use Rattle.sdb_types.specs.Contents.{in_span}
use Rattle.sdb_record.specs.Meta.{is_moment}
use Rattle.sdb_record.specs.Moved.{version_of}
use Rattle.sdb_record.specs.Rolls.{IsWrite}
use Rattle.law_protocol.specs.Lawful.{Labelled}
use Rattle.sdb_snapshot.specs.Reads.{base_at, is_key_read}
use Rattle.sdb_snapshot.specs.Seen.{Seen}
use Rattle.law_clients.specs.Reads.{IsReadOk, work_of}
use Rattle.law_clients.proofs.Lists.{each_both}
use Rattle.law_clients.specs.Database.{Database, is_committed_or_none, is_listed}
use Rattle.law_clients.specs.Commits.{IsReadCurrent, WorkAlone, IsBaseCurrent}
use Rattle.law_clients.specs.Clients.{IsUnused}
use Rattle.law_clients.specs.Seen.{SeenAlone}
use Rattle.law_clients.proofs.SessionSeen.{base_firm}

module _ (catalog : List Table) (past : List Labelled) (g : Database) (s : Seen) (alone : SeenAlone catalog past g s) where
  notes_current : (k : Key) → is_key_read s.read_set k ≡ true → (is_listed catalog k ≡ true) × (g k ≡ base_at s.read_set k)
  notes_current k as_read = alone.matches k (ap (λ b. b || list_any (λ x. in_span x.span k) s.scans) as_read)

  writes_current : AllByRecursion (IsBaseCurrent catalog g) s.writes
  writes_current = each_both (λ w. (is_key_read s.read_set w.key ≡ true) × (w.base ≡ base_at s.read_set w.key)) IsWrite (IsBaseCurrent catalog g) s.writes (λ w b f. let x = notes_current w.key b.0 in record { is_write = f; listed = x.0; base = x.1 ∙ sym b.1 }) alone.ok.kept.based alone.ok.kept.valid

  reads_current : AllByRecursion (IsReadCurrent catalog g) s.reads
  reads_current = each_both (IsReadOk s.read_set) (IsReadOk s.read_set) (IsReadCurrent catalog g) s.reads (λ r x y. let n = notes_current r.key x.0 in record { listed = n.0; firm = ap is_committed_or_none n.1 ∙ base_firm s.read_set alone.ok.kept.bases r.key; version = x.1 ∙ ap version_of (sym n.1) }) alone.ok.reads alone.ok.reads

  pub work_alone : (id : TxId) (now : ℤ) → IsUnused catalog g id → is_moment now ≡ true → WorkAlone catalog g (work_of id now s)
  work_alone id now new time = record {
    fits = new.fits;
    time = time;
    fresh = new.undecided;
    unused = λ k r listed present opened writer. new.unused k r listed present opened writer;
    once = alone.ok.kept.once;
    writes = writes_current;
    reads = reads_current;
    scans = alone.scans;
  }
