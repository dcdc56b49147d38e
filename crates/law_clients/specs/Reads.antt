-- What a transaction has read and written, and what holds of it: from its first read, and as its COMMIT takes it.
use Rattle.std.specs.Prelude.{◌≡◌, ◌≢◌, ◌<◌, ◌^◌, ℕ, ℤ, true, false, List, [], ◌∷◌, Option, Some, None, IfSome, Bool, ◌&&◌, ◌||◌}
use Rattle.std.specs.List.{AllByRecursion, list_any}
use Rattle.law_clients.specs.Types.{Access, Key, Read, Record, Scan, TxId, Write}
use Rattle.sdb_types.specs.Contents.{in_span}
use Rattle.sdb_types.specs.Order.{same_key}
use Rattle.sdb_record.specs.declared.access.Access.TheVariants as access
use Rattle.sdb_record.specs.Meta.{is_moment, id_in}
use Rattle.sdb_record.specs.Moved.{version_of}
use Rattle.sdb_record.specs.Rolls.{IsWrite}
use Rattle.sdb_record.specs.Among.{version_among}
use Rattle.law_protocol.specs.History as laws
use Rattle.law_protocol.specs.History.{ProtocolState}
use Rattle.law_protocol.specs.Lawful.{Labelled, IsSettled}
use Rattle.sdb_phases.specs.Work.{Work}
use Rattle.sdb_phases.specs.Checks.{base_of}
use Rattle.sdb_snapshot.specs.Reads.{ReadRecord, IsUnmoved, is_key_read, base_at}
use Rattle.sdb_snapshot.specs.Written.{HaveKeysOnce}
use Rattle.sdb_snapshot.specs.Seen.{Seen, with_get, with_scan}
use Rattle.sdb_snapshot.specs.Sets.{IsSetInvariant}
use Rattle.sdb_validate.specs.Rescan.{reads_rise}
use Rattle.sdb_model.specs.Tables.{is_data}

---- versions

-- the version found at a key is that of a committed record to which a read came
abbrev pub VersionSettled : List Labelled → Key → Option TxId → Type 0
VersionSettled past k None = Unit {0}
VersionSettled past k (Some u) = (b : Record) × IsSettled past k b × (id_in b.columns ≡ Some u)

-- a read of a key of a table found that version there
abbrev pub IsReadThere : List Labelled → Key → Option TxId → Type 0
IsReadThere past k version = (is_data k ≡ true) × VersionSettled past k version

---- while the transaction is open

-- what was found at a key of a table is a committed record to which a read came
abbrev pub IsReadItemOk : List Labelled → ReadRecord → Type 0
IsReadItemOk past e = (is_data e.0 ≡ true) × IfSome e.1 (IsSettled past e.0)

-- a get found the version that is recorded at its key
abbrev pub IsReadOk : List ReadRecord → Read → Type 0
IsReadOk read_set r = (is_key_read read_set r.key ≡ true) × (r.version ≡ version_of (base_at read_set r.key))

-- a scan found a record at a key
abbrev pub is_found : Scan → Key → Bool
is_found x q = list_any (λ r. same_key q r.key) x.found

-- what a scan found is in the order of keys, and was read at each key of its span
abbrev pub IsScanOk : List Labelled → Scan → Type 0
IsScanOk past s = (reads_rise s.found ≡ true) × ((k : Key) → in_span s.span k ≡ true → IsReadThere past k (version_among s.found k))

-- at each key at which it found a record, that version is recorded
abbrev pub IsFoundOk : List ReadRecord → Scan → Type 0
IsFoundOk read_set x = (q : Key) → is_found x q ≡ true → (is_key_read read_set q ≡ true) × (version_of (base_at read_set q) ≡ version_among x.found q)

-- a key was read by a get, or a scan of a span with it found a record there
abbrev pub was_read : List Read → Key → Bool
was_read reads q = list_any (λ r. same_key q r.key) reads

-- a scan of a span with the key found a record there
abbrev pub was_found : List Scan → Key → Bool
was_found scans q = list_any (λ x. in_span x.span q && is_found x q) scans

-- What holds of what a transaction has read and written, after the events so far.
pub record SeenOk (past : List Labelled) (s : Seen) : Type 0 where
  pub kept : IsSetInvariant s.read_set s.writes
  pub read_set : AllByRecursion (IsReadItemOk past) s.read_set
  pub reads : AllByRecursion (IsReadOk s.read_set) s.reads
  pub scans : AllByRecursion (IsScanOk past) s.scans
  pub found : AllByRecursion (IsFoundOk s.read_set) s.scans
  -- each key that is recorded was read by a get or found by a scan
  pub as_read : (q : Key) → is_key_read s.read_set q ≡ true → (was_read s.reads q || was_found s.scans q) ≡ true

-- A client's transaction is open, its COMMIT was not accepted, and its calls are not part of the protocol's state.
pub record OpenOk (h : ProtocolState) (c t : ℕ) : Type 0 where
  pub fits : t < 2 ^ 128
  pub begun : h.begun t ≢ 0
  pub owner : h.owner t ≡ c
  pub is_open : h.is_open t ≡ true
  pub goes_on : h.stopped c ≡ false
  pub fresh : h.accepted t ≡ false
  pub stage : h.stage t ≡ laws.Preparing
  pub unasked : (k : Key) → h.asked t k ≡ false
  pub safe : h.risked t ≡ false

-- the first of the images, if there is one: a get finds no more
abbrev pub first_image : List Record → Option Record
first_image [] = None
first_image (b ∷ bs) = Some b

-- with the images that a read found
abbrev pub with_read : Seen → Access → List Record → Seen
with_read s (access.Get key) images = with_get s key (first_image images)
with_read s (access.Scan span) images = with_scan s span images

-- A read may be recorded: a get makes a call only of a key that was not read, and a scan finds no other version at a key that was.
abbrev pub MayRecord : Seen → Access → List Record → Type 0
MayRecord s (access.Get key) images = is_key_read s.read_set key ≡ false
MayRecord s (access.Scan span) images = IsUnmoved s.read_set span images

---- as its COMMIT takes it

-- what a transaction goes into its COMMIT with
abbrev pub work_of : TxId → ℤ → Seen → Work
work_of id now s = record { id = id; now = now; writes = s.writes; reads = s.reads; scans = s.scans }

-- a get of a key which is written found the version of the base
abbrev pub ReadAgrees : List Write → Read → Type 0
ReadAgrees own r = (version : Option TxId) → base_of own r.key ≡ Some version → r.version ≡ version

-- What holds of what a transaction takes into its COMMIT, of itself.
pub record Sound (p : Work) : Type 0 where
  pub fits : p.id.0 < 2 ^ 128
  pub moment : is_moment p.now ≡ true
  pub valid : AllByRecursion (λ w. IsWrite w × (is_data w.key ≡ true)) p.writes
  pub once : HaveKeysOnce p.writes
  pub reads : AllByRecursion (ReadAgrees p.writes) p.reads
  pub scans : AllByRecursion (λ s. reads_rise s.found ≡ true) p.scans

-- And of what the events so far showed: each base, each version of a get, and each version of a scan was read.
pub record Settled (past : List Labelled) (p : Work) : Type 0 where
  pub bases : AllByRecursion (λ w. (b : Record) → w.base ≡ Some b → IsSettled past w.key b) p.writes
  pub reads : AllByRecursion (λ r. IsReadThere past r.key r.version) p.reads
  pub scans : AllByRecursion (λ s. (k : Key) → in_span s.span k ≡ true → IsReadThere past k (version_among s.found k)) p.scans
