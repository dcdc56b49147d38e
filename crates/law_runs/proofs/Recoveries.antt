-- The recovery of a record, a read and a VACUUM ask for nothing with an LF, where no record that they found has one.
use Rattle.std.proofs.Common.{ℕ, ℤ, ◌+◌, Bool, true, false, cond, List, [], ◌∷◌, ◌++◌, Option, Some, None, IfSome}
use Rattle.std.specs.List.{AllByRecursion}
use Rattle.std.specs.Option.{option_map}
use Rattle.sdb_types.specs.declared.record.Condition.TheVariants as condition
use Rattle.law_runs.specs.Types.{Access, Meta, ReadStep, Record, RecoverPhase, RecoverStep, Reply, Request, Span, Table, TxId, VacuumStep}
use Rattle.sdb_types.specs.declared.record.Reply.TheVariants as reply
use Rattle.sdb_types.specs.declared.record.Request.TheVariants as ask
use Rattle.sdb_types.specs.declared.record.State.TheVariants as state
use Rattle.sdb_types.proofs.Public.{append_all}
use Rattle.sdb_record.specs.declared.access.Access.TheVariants as access
use Rattle.sdb_record.specs.declared.coordinator.Decision.TheVariants as decision
use Rattle.sdb_record.specs.Meta.{id_in}
use Rattle.sdb_record.specs.Parts.{before_record}
use Rattle.sdb_record.specs.Rolls.{is_tombstone}
use Rattle.sdb_phases.specs.declared.step.RecoverPhase.TheVariants as recover
use Rattle.sdb_phases.specs.declared.step.RecoverStep.TheVariants as steps
use Rattle.sdb_phases.specs.Recover.{recover_next, recover_request_at, is_as_found}
use Rattle.sdb_phases.proofs.Public.{by_steps_recover_rows as by_steps}
use Rattle.sdb_txn.specs.declared.read.ReadStep.TheVariants as step
use Rattle.sdb_txn.specs.Read.{Asking, Bad, Ended, Firm, Kind, Open, ReadStage, Resolving, answered, kind_of, read_pending_at, read_step, request_of, resolved, settle, settle_one}
use Rattle.sdb_vacuum.specs.declared.work.VacuumStep.TheVariants as vacuuming
use Rattle.sdb_vacuum.specs.Vacuum.{First, Malformed, Nothing, Over as Ends, Removing, Resolving as Resolves, Scanning as Scans, Tombstone, Unresolved, VacuumAt, VacuumStage, answered as sweep_answered, begun, first_of, first_one, with_call, next_of_row, next_table, pending_at, removal_answered, resolved as sweep_resolved, spans_of, step_at as swept_at, tombstone_or}
use Rattle.law_runs.proofs.Clear.{AreClear, FoundClear, KeyClear, RecordClear, RecordsClear, ReplyClear, RequestClear, before_clear, forward_clear, row_clear, row_key_clear, undo_clear}
use Rattle.law_runs.proofs.PlainStatements.{AccessClear}

---- a recovery

abbrev pub RecoveryClear : RecoverPhase × RecoverStep → Type 0
RecoveryClear (p, steps.More) = Unit {0}
RecoveryClear (p, steps.Image o) = FoundClear o
RecoveryClear (p, steps.Busy id at) = Unit {0}
RecoveryClear (p, steps.Faulted) = Unit {0}
RecoveryClear (p, steps.BadRecord key) = KeyClear key
RecoveryClear (p, steps.NoMemory) = Unit {0}

recovered_clear : (rec : Record) (meta : Meta) (p : RecoverPhase) (now : ℤ) (r : Reply) → RecordClear rec → RecoveryClear (recover_next rec meta p now r)
recovered_clear rec meta p now r k =
    by_steps rec meta RecoveryClear
    (record {
      forward = λ at. tt;
      back = tt;
      abort = λ now. tt;
      again = tt;
      forwarded = λ at. forward_clear rec at k;
      undone = before_clear rec k;
      busy = tt;
      fault = tt;
      bad = row_key_clear meta.id;
      no_memory = tt;
    }) p now r

recovery_asks : (rec : Record) (meta : Meta) (p : RecoverPhase) → RecordClear rec → IfSome (recover_request_at rec meta p) RequestClear
recovery_asks rec meta recover.Look k = row_key_clear meta.id
recovery_asks rec meta (recover.Abort now) k = row_clear meta.id decision.Aborted now
recovery_asks rec meta recover.Again k = row_key_clear meta.id
recovery_asks rec meta (recover.Forward at) k = forward_clear rec at k
recovery_asks rec meta recover.Back k = undo_clear (is_as_found meta) rec.key (before_record rec) k.key (before_clear rec k)
recovery_asks rec meta recover.Ended k = tt

---- a read

abbrev pub EndClear : ReadStep → Type 0
EndClear step.More = Unit {0}
EndClear (step.Images images) = RecordsClear images
EndClear (step.Busy key id at) = KeyClear key
EndClear step.Faulted = Unit {0}
EndClear (step.BadRecord key) = KeyClear key
EndClear step.NoMemory = Unit {0}

abbrev pub StageClear : ReadStage → Type 0
StageClear Asking = Unit {0}
StageClear (Resolving images rec meta p left) = RecordsClear images × RecordClear rec × RecordsClear left
StageClear (Ended s) = EndClear s

settled_clear : (images left : List Record) → RecordsClear images → RecordsClear left → StageClear (settle images left)
settled_clear images [] h g = h
settled_clear images (r ∷ left) h g = by_kind (kind_of r) (settled_clear (images ++ r ∷ []) left (append_all RecordClear images (r ∷ []) h (g.0, tt)) g.1)
  where
    by_kind : (k : Kind) → StageClear (settle (images ++ r ∷ []) left) → StageClear (settle_one k images r left (settle (images ++ r ∷ []) left))
    by_kind Firm rest = rest
    by_kind (Open meta) rest = (h, g.0, g.1)
    by_kind Bad rest = g.0.key

answered_clear : (r : Reply) → ReplyClear r → StageClear (answered r)
answered_clear (reply.Found None) h = tt
answered_clear (reply.Found (Some r)) h = settled_clear [] (r ∷ []) tt (h, tt)
answered_clear (reply.Rows rows) h = settled_clear [] rows tt h
answered_clear reply.Applied h = tt
answered_clear (reply.NotMet found) h = tt
answered_clear (reply.NotAll place there) h = tt
answered_clear reply.Fault h = tt
answered_clear reply.NoMemory h = tt

resolved_clear : (images : List Record) (rec : Record) (meta : Meta) (left : List Record) (n : RecoverPhase × RecoverStep) → RecordsClear images → RecordClear rec → RecordsClear left → RecoveryClear n → StageClear (resolved images rec meta left n)
resolved_clear images rec meta left (p, steps.More) h k g i = (h, k, g)
resolved_clear images rec meta left (p, steps.Image None) h k g i = settled_clear images left h g
resolved_clear images rec meta left (p, steps.Image (Some b)) h k g i = settled_clear (images ++ b ∷ []) left (append_all RecordClear images (b ∷ []) h (i, tt)) g
resolved_clear images rec meta left (p, steps.Busy id at) h k g i = k.key
resolved_clear images rec meta left (p, steps.Faulted) h k g i = tt
resolved_clear images rec meta left (p, steps.BadRecord key) h k g i = i
resolved_clear images rec meta left (p, steps.NoMemory) h k g i = tt

-- where a reply leads a read
pub stage_clear : (s : ReadStage) (now : ℤ) (r : Reply) → StageClear s → ReplyClear r → StageClear (read_step s now r)
stage_clear Asking now r h k = answered_clear r k
stage_clear (Resolving images rec meta p left) now r h k = resolved_clear images rec meta left (recover_next rec meta p now r) h.0 h.1 h.2 (recovered_clear rec meta p now r h.1)
stage_clear (Ended s) now r h k = h

pub asked_clear : (a : Access) → AccessClear a → RequestClear (request_of a)
asked_clear (access.Get key) h = h
asked_clear (access.Scan span) h = h

-- the call that a read has pending
pub read_asks : (q : Request) (s : ReadStage) → RequestClear q → StageClear s → IfSome (read_pending_at q s) RequestClear
read_asks q Asking k h = k
read_asks q (Resolving images rec meta p left) k h = recovery_asks rec meta p h.1
read_asks q (Ended s) k h = tt

---- a VACUUM

abbrev pub SpanClear : Span → Type 0
SpanClear span = IfSome span.partition AreClear

abbrev pub SpansClear : List Span → Type 0
SpansClear spans = AllByRecursion SpanClear spans

abbrev pub SweepClear : VacuumStage → Type 0
SweepClear (Scans span) = SpanClear span
SweepClear (Resolves rec meta p left) = RecordClear rec × RecordsClear left
SweepClear (Removing b left) = RecordClear b × RecordsClear left
SweepClear Ends = Unit {0}

abbrev pub VacuumClear : VacuumAt → Type 0
VacuumClear v = SweepClear v.stage × SpansClear v.spans

abbrev pub SweptClear : VacuumStep → Type 0
SweptClear vacuuming.More = Unit {0}
SweptClear (vacuuming.Count n) = Unit {0}
SweptClear vacuuming.Faulted = Unit {0}
SweptClear (vacuuming.BadRecord key) = KeyClear key
SweptClear vacuuming.NoMemory = Unit {0}

abbrev pub AreSwept : VacuumAt × VacuumStep → Type 0
AreSwept x = VacuumClear x.0 × SweptClear x.1

abbrev FirstClear : First → Type 0
FirstClear Nothing = Unit {0}
FirstClear (Tombstone b left) = RecordClear b × RecordsClear left
FirstClear (Unresolved r meta left) = RecordClear r × RecordsClear left
FirstClear (Malformed key) = KeyClear key

first_clear : (left : List Record) → RecordsClear left → FirstClear (first_of left)
first_clear [] h = tt
first_clear (r ∷ left) h = by_kind (kind_of r) (first_clear left h.1)
  where
    by_mark : (b : Bool) → FirstClear (first_of left) → FirstClear (cond b (Tombstone r left) (first_of left))
    by_mark true rest = (h.0, h.1)
    by_mark false rest = rest

    by_kind : (k : Kind) → FirstClear (first_of left) → FirstClear (first_one k r left (first_of left))
    by_kind Firm rest = by_mark (is_tombstone r) rest
    by_kind (Open meta) rest = (h.0, h.1)
    by_kind Bad rest = h.0.key

next_clear : (ss : List Span) (n : ℕ) → SpansClear ss → AreSwept (next_table ss n)
next_clear [] n h = ((tt, tt), tt)
next_clear (s ∷ ss) n h = ((h.0, h.1), tt)

going_clear : (ss : List Span) (n : ℕ) (f : First) → SpansClear ss → FirstClear f → AreSwept (next_of_row ss n f)
going_clear ss n Nothing h g = next_clear ss n h
going_clear ss n (Tombstone b left) h g = (((g.0, g.1), h), tt)
going_clear ss n (Unresolved r meta left) h g = (((g.0, g.1), h), tt)
going_clear ss n (Malformed key) h g = ((tt, h), g)

goes_clear : (ss : List Span) (n : ℕ) (left : List Record) → SpansClear ss → RecordsClear left → AreSwept (next_of_row ss n (first_of left))
goes_clear ss n left h g = going_clear ss n (first_of left) h (first_clear left g)

rows_swept : (ss : List Span) (n : ℕ) (r : Reply) → SpansClear ss → ReplyClear r → AreSwept (sweep_answered ss n r)
rows_swept ss n (reply.Rows rows) h k = goes_clear ss n rows h k
rows_swept ss n (reply.Found found) h k = ((tt, h), tt)
rows_swept ss n reply.Applied h k = ((tt, h), tt)
rows_swept ss n (reply.NotMet found) h k = ((tt, h), tt)
rows_swept ss n (reply.NotAll place there) h k = ((tt, h), tt)
rows_swept ss n reply.Fault h k = ((tt, h), tt)
rows_swept ss n reply.NoMemory h k = ((tt, h), tt)

image_swept : (ss : List Span) (n : ℕ) (left : List Record) (b : Record) → SpansClear ss → RecordsClear left → RecordClear b → AreSwept (tombstone_or ss n left b)
image_swept ss n left b h g k = by_mark (is_tombstone b)
  where
    by_mark : (t : Bool) → AreSwept (cond t (with_call ss n (Removing b left)) (next_of_row ss n (first_of left)))
    by_mark true = (((k, g), h), tt)
    by_mark false = goes_clear ss n left h g

resolved_swept : (ss : List Span) (n : ℕ) (rec : Record) (meta : Meta) (left : List Record) (x : RecoverPhase × RecoverStep) → SpansClear ss → RecordClear rec → RecordsClear left → RecoveryClear x → AreSwept (sweep_resolved ss n rec meta left x)
resolved_swept ss n rec meta left (p, steps.More) h k g i = (((k, g), h), tt)
resolved_swept ss n rec meta left (p, steps.Image None) h k g i = goes_clear ss n left h g
resolved_swept ss n rec meta left (p, steps.Image (Some b)) h k g i = image_swept ss n left b h g i
resolved_swept ss n rec meta left (p, steps.Busy id at) h k g i = goes_clear ss n left h g
resolved_swept ss n rec meta left (p, steps.Faulted) h k g i = ((tt, h), tt)
resolved_swept ss n rec meta left (p, steps.BadRecord key) h k g i = ((tt, h), i)
resolved_swept ss n rec meta left (p, steps.NoMemory) h k g i = ((tt, h), tt)

removal_swept : (ss : List Span) (n : ℕ) (left : List Record) (r : Reply) → SpansClear ss → RecordsClear left → AreSwept (removal_answered ss n left r)
removal_swept ss n left reply.Applied h g = goes_clear ss (n + 1) left h g
removal_swept ss n left (reply.NotMet found) h g = goes_clear ss n left h g
removal_swept ss n left (reply.Found found) h g = ((tt, h), tt)
removal_swept ss n left (reply.Rows rows) h g = ((tt, h), tt)
removal_swept ss n left (reply.NotAll place there) h g = ((tt, h), tt)
removal_swept ss n left reply.Fault h g = ((tt, h), tt)
removal_swept ss n left reply.NoMemory h g = ((tt, h), tt)

-- where a reply leads a VACUUM
pub swept_clear : (ss : List Span) (n : ℕ) (s : VacuumStage) (now : ℤ) (r : Reply) → SweepClear s → SpansClear ss → ReplyClear r → AreSwept (swept_at ss n s now r)
swept_clear ss n (Scans span) now r h g k = rows_swept ss n r g k
swept_clear ss n (Resolves rec meta p left) now r h g k = resolved_swept ss n rec meta left (recover_next rec meta p now r) g h.0 h.1 (recovered_clear rec meta p now r h.0)
swept_clear ss n (Removing b left) now r h g k = removal_swept ss n left r g h.1
swept_clear ss n Ends now r h g k = ((tt, g), tt)

-- the call that a VACUUM has pending
pub sweep_asks : (s : VacuumStage) → SweepClear s → IfSome (pending_at s) RequestClear
sweep_asks (Scans span) h = h
sweep_asks (Resolves rec meta p left) h = recovery_asks rec meta p h.0
sweep_asks (Removing b left) h = by_id (id_in b.columns)
  where
    by_id : (o : Option TxId) → IfSome (option_map (λ (id : TxId). ask.DeleteIf b.key (condition.Version id state.Committed)) o) RequestClear
    by_id None = tt
    by_id (Some id) = h.0.key
sweep_asks Ends h = tt

spans_clear : (catalog : List Table) → SpansClear (spans_of catalog)
spans_clear [] = tt
spans_clear (t ∷ ts) = (tt, spans_clear ts)

pub begun_clear : (catalog : List Table) → VacuumClear (begun catalog)
begun_clear catalog = (next_clear (spans_of catalog) 0 (spans_clear catalog)).0
