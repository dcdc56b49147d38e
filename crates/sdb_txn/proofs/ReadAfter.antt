-- What a reply leaves of a read.
use Rattle.std.proofs.Common.{◌≡◌, ◌≢◌, ℤ, List, sym, subst, ◌∙◌}
use Rattle.sdb_txn.specs.Types.{Access, Record, Reply, Request, Span}
use Rattle.sdb_record.specs.declared.access.Access.TheVariants as access
use Rattle.sdb_phases.specs.Steps.{CanGet}
use Rattle.sdb_txn.specs.declared.read.ReadStep.{ReadStep}
use Rattle.sdb_txn.specs.declared.read.ReadStep.TheVariants as step
use Rattle.sdb_txn.specs.Read.{ReadAt, ReadStage, Asking, Resolving, Ended, read_result, read_step, request_of}
use Rattle.sdb_txn.specs.Valid.{AreWithin, IsValid, IsValidStep}
use Rattle.sdb_txn.proofs.Keeps.{step_valid}
use Rattle.sdb_snapshot.specs.Seen.{Seen}
use Rattle.sdb_txn.specs.declared.txn.Doing.{Doing}
use Rattle.sdb_txn.specs.declared.txn.Doing.TheVariants as doing
use Rattle.sdb_txn.specs.declared.progress.Progress.{Progress}
use Rattle.sdb_txn.specs.declared.progress.Progress.TheVariants as progress
use Rattle.sdb_txn.specs.Txn.{EndPost, IfReading, ImagesPost, IsReading, IsUnread, ReadPost, SpanPost, StepPost, TxnAt, idle, pending_in}
use Rattle.sdb_txn.specs.Inside.{CanEnd, IsReadOf, IsTxn}
use Rattle.sdb_record.specs.Rolls.{AreCommitted}

images_fine : (q : Request) (s : ReadStage) (images : List Record) → IsValid q s → step.Images images ≡ read_result s → AreCommitted images × AreWithin q images
images_fine q Asking images f h = absurd (cc)
images_fine q (Resolving before rec meta p left) images f h = absurd (cc)
images_fine q (Ended e) images f h = subst (IsValidStep q) (sym h) f

no_memory : (images : List Record) → step.Images images ≢ step.NoMemory
no_memory images h = cc

can_end : (s : Seen) (a : Access) (q : Request) (next : ReadStage) (e : ReadStep) → q ≡ request_of a → IsValid q next → IsUnread s a → (e ≢ step.NoMemory → e ≡ read_result next) → CanEnd s a e
can_end s a q next (step.Images images) is f unread h =
    let valid = images_fine q next images f (h (no_memory images)) in
    record { unread = unread; firm = valid.0; placed = subst (λ (x : Request). AreWithin x images) is valid.1 }
can_end s a q next step.More is f unread h = tt
can_end s a q next (step.Busy key id at) is f unread h = tt
can_end s a q next step.Faulted is f unread h = tt
can_end s a q next (step.BadRecord key) is f unread h = tt
can_end s a q next step.NoMemory is f unread h = tt

pub read_ends : (d : Doing) (s : Seen) (r : Reply) (now : ℤ) (e : ReadStep) (b : Access) → IsReading d → IsTxn d s → CanGet (pending_in d) r → IfReading d (λ a x. e ≢ step.NoMemory → e ≡ read_result (read_step x.stage now r)) → IfReading d (λ a x. b ≡ a) → CanEnd s b e
read_ends (doing.Read a x) s r now e b at inv can answered same =
    subst (λ (y : Access). CanEnd s y e) (sym same) (can_end s a x.request (read_step x.stage now r) e inv.0 (step_valid x.request x.stage now r inv.1 can) inv.2 answered)
read_ends doing.Idle s r now e b at inv can answered same = absurd at
read_ends (doing.Commit c) s r now e b at inv can answered same = absurd at
read_ends doing.Over s r now e b at inv can answered same = absurd at

pub read_goes_on : (d u : Doing) (s : Seen) (r : Reply) (now : ℤ) (e : ReadStep) → IsReading d → IsTxn d s → CanGet (pending_in d) r → IfReading d (λ a x. e ≡ step.More → u ≡ doing.Read a (record x { stage = read_step x.stage now r })) → e ≡ step.More → IsTxn u s
read_goes_on (doing.Read a x) u s r now e at inv can after more =
    subst (λ (y : Doing). IsTxn y s) (sym (after more)) (inv.0, step_valid x.request x.stage now r inv.1 can, inv.2)
read_goes_on doing.Idle u s r now e at inv can after more = absurd at
read_goes_on (doing.Commit c) u s r now e at inv can after more = absurd at
read_goes_on doing.Over u s r now e at inv can after more = absurd at

---- what the end of a read is answered as

span_told : (t u : TxnAt) (span : Span) (images : List Record) (p : Progress) → SpanPost (idle t) span images p u → SpanPost t span images p u
span_told t u span images (progress.Rows rows) h = h
span_told t u span images (progress.Conflict key found) h = h
span_told t u span images progress.More h = absurd h
span_told t u span images (progress.Busy key id at) h = absurd h
span_told t u span images progress.Faulted h = absurd h
span_told t u span images (progress.BadRecord key) h = absurd h
span_told t u span images progress.NoMemory h = absurd h
span_told t u span images progress.Committed h = absurd h
span_told t u span images (progress.Expired id) h = absurd h
span_told t u span images (progress.Unknown id) h = absurd h

images_told : (t u : TxnAt) (a : Access) (images : List Record) (p : Progress) → ImagesPost (idle t) a images p u → ImagesPost t a images p u
images_told t u (access.Get key) images p h = record { unread = h.unread; as_read = h.as_read; rows = h.rows }
images_told t u (access.Scan span) images p h = span_told t u span images p h

step_told : (t u : TxnAt) (a : Access) (x : ReadAt) (next : ReadStage) (e : ReadStep) (p : Progress) → (e ≢ step.NoMemory → e ≡ read_result next) → EndPost (idle t) a e p u → StepPost t a x next (read_result next) p u
step_told t u a x next (step.Images images) p h answered = subst (λ (s : ReadStep). StepPost t a x next s p u) (h (λ e. cc)) (images_told t u a images p answered)
step_told t u a x next step.More p h answered = absurd answered
step_told t u a x next (step.Busy key id at) p h answered = subst (λ (s : ReadStep). StepPost t a x next s p u) (h (λ e. cc)) answered
step_told t u a x next step.Faulted p h answered = subst (λ (s : ReadStep). StepPost t a x next s p u) (h (λ e. cc)) answered
step_told t u a x next (step.BadRecord key) p h answered = subst (λ (s : ReadStep). StepPost t a x next s p u) (h (λ e. cc)) answered
step_told t u a x next step.NoMemory p h answered = absurd answered

told_in : (d : Doing) (t v u : TxnAt) (b : Access) (r : Reply) (now : ℤ) (e : ReadStep) (p : Progress) → IsReading d → IfReading d (λ a x. e ≢ step.NoMemory → e ≡ read_result (read_step x.stage now r)) → IfReading d (λ a x. b ≡ a) → v ≡ idle t → (p ≡ progress.NoMemory → u ≡ v) → (p ≢ progress.NoMemory → EndPost v b e p u) → IfReading d (λ a x. ReadPost t a x r now p u)
told_in (doing.Read a x) t v u b r now e p at step same is memory answered = record {
  memory = λ h. memory h ∙ is;
  answered = λ h. step_told t u a x (read_step x.stage now r) e p step (subst (λ (y : TxnAt). EndPost y a e p u) is (subst (λ (y : Access). EndPost v y e p u) same (answered h)));
}
told_in doing.Idle t v u b r now e p at step same is memory answered = tt
told_in (doing.Commit c) t v u b r now e p at step same is memory answered = tt
told_in doing.Over t v u b r now e p at step same is memory answered = tt

pub end_told : (t v u : TxnAt) (b : Access) (r : Reply) (now : ℤ) (e : ReadStep) (p : Progress) → IsReading t.doing → IfReading t.doing (λ a x. e ≢ step.NoMemory → e ≡ read_result (read_step x.stage now r)) → IfReading t.doing (λ a x. b ≡ a) → v ≡ idle t → (p ≡ progress.NoMemory → u ≡ v) → (p ≢ progress.NoMemory → EndPost v b e p u) → IfReading t.doing (λ a x. ReadPost t a x r now p u)
end_told t v u b r now e p = told_in t.doing t v u b r now e p

pub same_read : (d u : Doing) (b : Access) (y : ReadAt) → IfReading d (λ a x. IsReadOf a u) → u ≡ doing.Read b y → IfReading d (λ a x. b ≡ a)
same_read (doing.Read a x) u b y h e = subst (λ (z : Doing). IsReadOf a z) e h
same_read doing.Idle u b y h e = tt
same_read (doing.Commit c) u b y h e = tt
same_read doing.Over u b y h e = tt
