-- What holds of the records that a read has, after any replies.
use Rattle.std.specs.Prelude.{◌≡◌, true, List, [], ◌∷◌, ◌++◌, Ok}
use Rattle.sdb_txn.specs.Types.{Key, Record, RecoverPhase, Request}
use Rattle.sdb_types.specs.declared.record.Request.TheVariants as ask
use Rattle.sdb_types.specs.Contents.{are_rows_of}
use Rattle.sdb_record.specs.Meta.{checked, is_moment, is_unresolved}
use Rattle.sdb_record.specs.Rolls.{AreCommitted}
use Rattle.sdb_phases.specs.declared.step.RecoverPhase.TheVariants as phase
use Rattle.sdb_txn.specs.declared.read.ReadStep.{ReadStep}
use Rattle.sdb_txn.specs.declared.read.ReadStep.TheVariants as step
use Rattle.sdb_txn.specs.Read.{ReadStage, Asking, Resolving, Ended}

-- at most one record, of that key
abbrev pub IsAtMostOne : Key → List Record → Type 0
IsAtMostOne key [] = Unit {0}
IsAtMostOne key (r ∷ []) = r.key ≡ key
IsAtMostOne key (r ∷ s ∷ rs) = ⊥

-- The records lie where the request asks: at most one at the key of a get, and those of a scan in its span, in the order of their keys.
abbrev pub AreWithin : Request → List Record → Type 0
AreWithin (ask.Get key) rs = IsAtMostOne key rs
AreWithin (ask.Scan span) rs = are_rows_of span rs ≡ true
AreWithin (ask.PutIf r condition) rs = ⊥
AreWithin (ask.DeleteIf key condition) rs = ⊥
AreWithin (ask.PutAll batch) rs = ⊥

-- a record is rolled forward to a moment
abbrev pub IsPhase : RecoverPhase → Type 0
IsPhase (phase.Forward at) = is_moment at ≡ true
IsPhase p = Unit {0}

abbrev pub IsValidStep : Request → ReadStep → Type 0
IsValidStep q (step.Images images) = AreCommitted images × AreWithin q images
IsValidStep q s = Unit {0}

-- Images are committed records, which lie, with the rows that are left, where the request asks; the record that is resolved is an
-- unresolved one.
abbrev pub IsValid : Request → ReadStage → Type 0
IsValid q Asking = Unit {0}
IsValid q (Resolving images rec meta p left) = AreCommitted images × AreWithin q (images ++ rec ∷ left) × (is_unresolved rec ≡ true) × (checked rec.columns ≡ Ok meta) × IsPhase p
IsValid q (Ended s) = IsValidStep q s
