-- A read of a statement: its rows are settled one after the other, each unresolved one by a recovery.
use Rattle.std.specs.Prelude.{◌≡◌, ℤ, true, List, [], ◌∷◌, ◌++◌, map, Option, Some, None, Ok}
use Rattle.std.specs.List.{AllByRecursion}
use Rattle.std.specs.declared.cmp.Ordering.TheVariants.{Less}
use Rattle.law_clients.specs.Types.{Access, Key, Meta, Record, RecoverPhase, RecoverStep, Reply, Request}
use Rattle.sdb_types.specs.declared.record.Reply.TheVariants as reply
use Rattle.sdb_types.specs.declared.record.State.TheVariants as state
use Rattle.sdb_types.specs.Order.{key_cmp}
use Rattle.sdb_record.specs.Meta.{checked, is_in, is_transactional, is_unresolved}
use Rattle.sdb_model.specs.Access.{in_access}
use Rattle.law_protocol.specs.History.{Action, Other}
use Rattle.law_protocol.specs.Lawful.{Labelled, IsObserved, IsSettled}
use Rattle.sdb_phases.specs.declared.step.RecoverStep.TheVariants as steps
use Rattle.sdb_phases.specs.declared.step.RecoverPhase.TheVariants as phase
use Rattle.sdb_phases.specs.Recover.{recover_next, recover_request_at}
use Rattle.law_clients.specs.Reader.{RecoverOk, recover_action}
use Rattle.sdb_txn.specs.Read.{request_of, Kind, Firm, Open, Bad, kind_of}
use Rattle.sdb_model.specs.Tables.{is_data}

---- rows

-- the says what the record is
abbrev pub IsKind : Record → Kind → Type 0
IsKind r Firm = (is_transactional r ≡ true) × (is_in state.Committed r.columns ≡ true)
IsKind r (Open meta) = (is_unresolved r ≡ true) × (checked r.columns ≡ Ok meta)
IsKind r Bad = Unit {0}

---- the model

-- Where a read is: its rows are asked for; it resolves a record, with the images of the rows before and the rows left; it
-- has an image of each row that means one; or it has failed.
pub data ReadAt : Type 0 where
  Asking : ReadAt
  Resolving : (images : List Record) (rec : Record) (meta : Meta) (phase : RecoverPhase) (left : List Record) → ReadAt
  Done : (images : List Record) → ReadAt
  Failed : ReadAt

-- the call that is pending
abbrev pub read_pending : Access → ReadAt → Option Request
read_pending a Asking = Some (request_of a)
read_pending a (Resolving images rec meta p left) = recover_request_at rec meta p
read_pending a s = None

-- one row: an image, or a recovery, or none of ours
abbrev pub settle_one : Kind → List Record → Record → List Record → ReadAt → ReadAt
settle_one Firm images r left rest = rest
settle_one (Open meta) images r left rest = Resolving images r meta phase.Look left
settle_one Bad images r left rest = Failed

-- Committed rows are images, up to the first that is unresolved.
abbrev pub settle : List Record → List Record → ReadAt
settle images [] = Done images
settle images (r ∷ left) = settle_one (kind_of r) images r left (settle (images ++ r ∷ []) left)

-- the rows of a reply begin to be settled
abbrev pub settle_reply : Reply → ReadAt
settle_reply (reply.Found None) = Done []
settle_reply (reply.Found (Some r)) = settle [] (r ∷ [])
settle_reply (reply.Rows rows) = settle [] rows
settle_reply r = Failed

-- The image that a recovery gives takes the record's place. Any other end of it fails the read.
abbrev pub after_recovery : List Record → Record → Meta → List Record → RecoverPhase × RecoverStep → ReadAt
after_recovery images rec meta left (p, steps.More) = Resolving images rec meta p left
after_recovery images rec meta left (p, steps.Image None) = settle images left
after_recovery images rec meta left (p, steps.Image (Some b)) = settle (images ++ b ∷ []) left
after_recovery images rec meta left (p, s) = Failed

-- where a reply at a moment leads
abbrev pub read_step : ReadAt → ℤ → Reply → ReadAt
read_step Asking now r = settle_reply r
read_step (Resolving images rec meta p left) now r = after_recovery images rec meta left (recover_next rec meta p now r)
read_step s now r = s

-- the action of its call
abbrev pub read_action : ReadAt → Reply → Action
read_action (Resolving images rec meta p left) r = recover_action rec meta p r
read_action s r = Other

---- what its client knows

-- An image is a committed record that a read of its key came to.
abbrev pub IsImage : List Labelled → Record → Type 0
IsImage past b = IsSettled past b.key b × (is_transactional b ≡ true) × (is_in state.Committed b.columns ≡ true)

-- a row that is left was observed, and is of a table
abbrev pub IsLeft : List Labelled → Record → Type 0
IsLeft past r = IsObserved past r × (is_data r.key ≡ true)

-- keys rise strictly
abbrev pub Rise : List Key → Type 0
Rise [] = Unit {0}
Rise (k ∷ ks) = AllByRecursion (λ q. key_cmp k q ≡ Less) ks × Rise ks

-- keys that rise, each one that the access reads
abbrev pub AreInOrder : Access → List Key → Type 0
AreInOrder a ks = Rise ks × AllByRecursion (λ k. in_access a k ≡ true) ks

-- the keys of records, in their order
abbrev pub keys_of : List Record → List Key
keys_of rs = map (λ r. r.key) rs

-- an access reads tables of records alone
abbrev pub IsOfData : Access → Type 0
IsOfData a = (k : Key) → in_access a k ≡ true → is_data k ≡ true

-- What the client knows where a read is: of each image and each row left; the keys are those of the access, in order.
abbrev pub ReadOk : List Labelled → Access → ReadAt → Type 0
ReadOk past a Asking = Unit {0}
ReadOk past a (Resolving images rec meta p left) = AllByRecursion (IsImage past) images × RecoverOk past rec meta p × AllByRecursion (IsLeft past) left × AreInOrder a (keys_of images ++ rec.key ∷ keys_of left)
ReadOk past a (Done images) = AllByRecursion (IsImage past) images × AreInOrder a (keys_of images)
ReadOk past a Failed = Unit {0}
