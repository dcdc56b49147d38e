-- What a retirement comes to.
use Rattle.std.specs.Prelude.{◌≡◌, ◌≢◌, ◌⊎◌, ℕ, true, List, [], ◌++◌, count_by, map}
use Rattle.sdb_contents.specs.Types.{Entry, Key}
use Rattle.sdb_stores.specs.Views.{Attached, StoreView, HaveRisen, index_at}
use Rattle.sdb_types.specs.Contents.{rows_in}
use Rattle.sdb_catalog.specs.Opened.{is_attached}
use Rattle.sdb_catalog.specs.Rows.{metadata_table, row_of}
use Rattle.sdb_contents.specs.declared.retire_refused.RetireRefused.{RetireRefused}
use Rattle.sdb_contents.specs.declared.retire_refused.RetireRefused.TheVariants as refused
use Rattle.sdb_contents.specs.declared.survey.Survey.{Survey}
use Rattle.sdb_catalog.specs.Calls.{with_states}
use Rattle.sdb_contents.specs.Copying.{AreMade, IsBlocked, WasUnmet, is_put, requests_of}
use Rattle.sdb_contents.specs.Joined.{ArePartly, AreStillAttached, IsJoined, settle}
use Rattle.sdb_contents.specs.Moving.{FollowMoving, moving_tables, renewals}
use Rattle.sdb_contents.specs.Read.{AreOpened, AreSeen, IsBadRow}
use Rattle.sdb_contents.specs.Writes.{Hold, HoldFirst, Write, contents_at, span_of, writes_at}

-- The two names of a retirement.
pub record Sides : Type 0 where
  pub from : List ℕ
  pub to : List ℕ

-- the retirement of the store of the first name for that of the second
abbrev pub sides : List ℕ → List ℕ → Sides
sides from to = record { from = from; to = to }

-- The writes that a survey asks for: of `to` each moving table, and then of the first store the rows that name `from`.
abbrev pub writes_of : ℕ → Sides → Survey → List Write
writes_of to s v = writes_at to (requests_of v.seen) ++ writes_at 0 (renewals s.from s.to v.entries)

-- how many records are copied
abbrev pub copies_of : Survey → ℕ
copies_of v = count_by is_put (requests_of v.seen)

-- The first store showed these rows of the catalog, and the two stores these rows of each moving table.
pub record IsSurvey (s : Sides) (old : Attached) (v : Survey) : Type 0 where
  pub opened : AreOpened s.from s.to 0 old v.entries
  pub seen : AreSeen (index_at old s.from) (index_at old s.to) (moving_tables s.from v.entries) old v.seen

-- The contents of the first store and of both sides are known.
pub record AreKnown (s : Sides) (old : Attached) : Type 0 where
  pub first : old.known 0
  pub from : old.known (index_at old s.from)
  pub to : old.known (index_at old s.to)

-- At keys of the moving tables `to` holds what `from` held, and elsewhere what it held, where the contents of both are known. Of rows of
-- the catalog this says nothing.
abbrev pub TablesCopied : Sides → Survey → Attached → Attached → Type 0
TablesCopied s v old new =
    old.known (index_at old s.from) → old.known (index_at old s.to) → (key : Key) → key.table ≢ metadata_table
    → IsJoined (moving_tables s.from v.entries) (contents_at old.views (index_at old s.from)) (contents_at old.views (index_at old s.to)) (contents_at new.views (index_at old s.to)) key

-- The catalog's rows in the first store are those of the entries, each one settled, where all contents are known.
abbrev pub RowsRewritten : Sides → Survey → Attached → Attached → Type 0
RowsRewritten s v old new = AreKnown s old → rows_in (span_of metadata_table) (contents_at new.views 0) ≡ map row_of (map (settle s.from s.to) v.entries)

-- Each store of known contents but the first and `to` holds what it held.
abbrev pub OthersArePreserved : Sides → Attached → Attached → Type 0
OthersArePreserved s old new = (i : ℕ) → i ≢ index_at old s.to → i ≢ 0 → old.known i → contents_at new.views i ≡ contents_at old.views i

-- All writes were made, from what the stores showed once they were read.
pub record AreAllMoved (s : Sides) (n : ℕ) (old new : Attached) : Type 0 where
  pub survey : Survey
  pub observed : IsSurvey s old survey
  pub count : n ≡ copies_of survey
  pub start : List StoreView
  pub read : Hold [] old (with_states old start)
  pub made : AreMade (writes_of (index_at old s.to) s survey) (with_states old start) new.views
  pub held : Hold (writes_of (index_at old s.to) s survey) old new
  pub tables : TablesCopied s survey old new
  pub rows : RowsRewritten s survey old new

-- The first of the writes were made.
pub record IsPart (s : Sides) (old new : Attached) : Type 0 where
  pub survey : Survey
  pub observed : IsSurvey s old survey
  pub held : HoldFirst (writes_of (index_at old s.to) s survey) old new

-- Why the writes were not all made.
abbrev pub IsHalted : ℕ → Sides → Survey → Attached → List StoreView → RetireRefused → Type 0
IsHalted to s v old new refused.StoreFault = HaveRisen old.views new
IsHalted to s v old new (refused.BadRow key) = WasUnmet (writes_of to s v) key old new
IsHalted to s v old new refused.NoMemory = Unit {0}

-- The first store showed entries of a catalog, and two stores rows of one of its moving tables, of which the one of this key blocks the copy.
pub record IsBlockedCopy (s : Sides) (old : Attached) (place : Key) : Type 0 where
  pub entries : List Entry
  pub opened : AreOpened s.from s.to 0 old entries
  pub blocked : IsBlocked (index_at old s.from) (index_at old s.to) old (moving_tables s.from entries) place

-- Why there is no survey: a fault raised the count of the stores, a row of the catalog is bad, or a record blocks the copy.
abbrev pub IsUnsurveyed : Sides → Attached → List StoreView → RetireRefused → Type 0
IsUnsurveyed s old new refused.StoreFault = HaveRisen old.views new
IsUnsurveyed s old new (refused.BadRow key) = IsBadRow s.from s.to 0 old key ⊎ IsBlockedCopy s old key
IsUnsurveyed s old new refused.NoMemory = Unit {0}

-- A write found another record.
pub record IsMetWriting (s : Sides) (old : Attached) (new : List StoreView) (place : Key) : Type 0 where
  pub survey : Survey
  pub observed : IsSurvey s old survey
  pub met : WasUnmet (writes_of (index_at old s.to) s survey) place old new

-- A row of the catalog is bad, or a record blocks the copy, and nothing was written.
abbrev pub IsBarred : Sides → Attached → Attached → Key → Type 0
IsBarred s old new key = (IsBadRow s.from s.to 0 old key ⊎ IsBlockedCopy s old key) × Hold [] old new

-- Why not everything was moved: a fault raised the count of the stores; a row or a record bars it, and nothing was written; or a write
-- found another record.
abbrev pub IsUnmoved : Sides → Attached → Attached → RetireRefused → Type 0
IsUnmoved s old new refused.StoreFault = HaveRisen old.views new.views
IsUnmoved s old new (refused.BadRow key) = IsBarred s old new key ⊎ IsMetWriting s old new.views key
IsUnmoved s old new refused.NoMemory = Unit {0}

-- Why not everything was moved, where all contents are known: no write finds another record then.
abbrev pub IsUnmovedKnown : Sides → Attached → Attached → RetireRefused → Type 0
IsUnmovedKnown s old new refused.StoreFault = HaveRisen old.views new.views
IsUnmovedKnown s old new (refused.BadRow key) = AreKnown s old → IsBarred s old new key
IsUnmovedKnown s old new refused.NoMemory = Unit {0}

-- The entries of a catalog over the stores of some names, of which one is to be given up for another.
pub record Retirement : Type 0 where
  pub names : List (List ℕ)
  pub sides : Sides
  pub entries : List Entry

-- They are those of a catalog of which namespaces move.
abbrev pub IsMovingCatalog : Retirement → Type 0
IsMovingCatalog r = FollowMoving r.names r.sides.from r.sides.to [] r.entries

-- The store that takes over is attached.
abbrev pub HasTarget : Retirement → Type 0
HasTarget r = is_attached r.names r.sides.to ≡ true

-- the entries once the store is given up
abbrev pub settled : Retirement → List Entry
settled r = map (settle r.sides.from r.sides.to) r.entries

-- the same over other entries
abbrev pub over : Retirement → List Entry → Retirement
over r es = record { names = r.names; sides = r.sides; entries = es }

-- Each of these entries is one of before, or that entry once the store is given up.
abbrev pub IsPartlySettled : Retirement → List Entry → Type 0
IsPartlySettled r es = ArePartly r.sides.from r.sides.to r.entries es

-- These stores are left, and the one for which the store is given up is among them.
abbrev pub IsLeftWith : Retirement → List (List ℕ) → Type 0
IsLeftWith r left = AreStillAttached r.names left r.sides.from r.sides.to

-- Nothing was written, or the first of the writes.
abbrev pub IsLeft : Sides → Attached → Attached → Type 0
IsLeft s old new = Hold [] old new ⊎ IsPart s old new
