-- What the call of a read leads its statement to.
use Rattle.std.proofs.Common.{◌≡◌, ◌≢◌, ℤ, Bool, true, List, [], ◌∷◌, Option, Some, None, refl, sym, ap, subst, ◌∙◌, take, slice_get, is_some, cond, ◌++◌, ◌⊎◌, inl, inr}
use Rattle.sdb_client.specs.Types.{Access, Answer, Doing, Image, Key, Mark, Progress, ReadStep, Record, Reply, TxId}
use Rattle.sdb_record.specs.declared.access.Access.TheVariants as access
use Rattle.sdb_model.specs.declared.answer.Answer.TheVariants as answer
use Rattle.sdb_exec.specs.Plans.{Planned, step_of}
use Rattle.sdb_txn.specs.declared.read.ReadStep.TheVariants as step
use Rattle.sdb_txn.specs.Read.{ReadAt, ReadStage, read_result, read_step}
use Rattle.sdb_snapshot.specs.Entries.{value_at}
use Rattle.sdb_snapshot.proofs.Public.{get_forgotten, scan_forgotten, value_last}
use Rattle.sdb_snapshot.specs.Reads.{ReadRecord, is_key_read}
use Rattle.sdb_snapshot.specs.Sets.{IsSetInvariant}
use Rattle.sdb_snapshot.specs.Seen.{Seen, forgotten, mark_of, overlay}
use Rattle.sdb_txn.proofs.Public.{kept_cut}
use Rattle.sdb_txn.specs.declared.txn.Doing.TheVariants as doing
use Rattle.sdb_model.specs.Reads.{access_of}
use Rattle.sdb_client.specs.Inside.{IsKeyRead, IsReadOf}
use Rattle.sdb_txn.specs.declared.progress.Progress.TheVariants as progress
use Rattle.sdb_txn.specs.Txn.{IfReading, ImagesPost as ImagesEnd, ReadPost, StepPost, TxnAt, idle}
use Rattle.sdb_client.specs.declared.next.Next.{Next}
use Rattle.sdb_client.specs.declared.next.Next.TheVariants as next
use Rattle.sdb_client.specs.Client.{CallPost, IsAsRead, IsChangedAt, StagePost, gives, given_answer, given_left, with_rows_read}
use Rattle.sdb_types.proofs.Public.{or_else, same_key_self}
use Rattle.sdb_types.specs.Order.{same_key}

-- neither rows nor a conflict
abbrev pub IsPlain : Progress → Type 0
IsPlain (progress.Rows rows) = ⊥
IsPlain (progress.Conflict key found) = ⊥
IsPlain g = Unit {0}

-- what a statement is answered then
abbrev pub plain_next : Progress → Next
plain_next progress.More = next.Call
plain_next (progress.Busy key id at) = next.Answer (answer.Busy key id at)
plain_next progress.Faulted = next.Answer answer.Faulted
plain_next (progress.BadRecord key) = next.Answer (answer.BadRecord key)
plain_next g = next.Answer answer.NoMemory

no_images : (t u : TxnAt) (a : Access) (images : List Record) (g : Progress) → IsPlain g → ImagesEnd t a images g u → ⊥
no_images t u (access.Get key) images g plain h = subst IsPlain h.rows plain
no_images t u (access.Scan span) images (progress.Rows rows) plain h = plain
no_images t u (access.Scan span) images (progress.Conflict key found) plain h = plain
no_images t u (access.Scan span) images g plain h = h

plain_stage : (t u : TxnAt) (p : Planned) (a : Access) (x : ReadAt) (after : ReadStage) (s : ReadStep) (g : Progress) → IsPlain g → StepPost t a x after s g u → StagePost t p a x after s (plain_next g) u
plain_stage t u p a x after (step.Images images) g plain h = absurd (no_images t u a images g plain h)
plain_stage t u p a x after step.NoMemory g plain h = absurd h
plain_stage t u p a x after s g plain h = (ap plain_next h.0, h.1)

-- only out of memory is answered as such
memory_alone : (t u : TxnAt) (a : Access) (x : ReadAt) (after : ReadStage) (s : ReadStep) (g : Progress) → IsPlain g → StepPost t a x after s g u → plain_next g ≢ next.Answer answer.NoMemory
memory_alone t u a x after step.More g plain h e = absurd (let same : next.Call ≡ next.Answer answer.NoMemory = sym (ap plain_next h.0) ∙ e in cc)
memory_alone t u a x after (step.Images images) g plain h e = absurd (no_images t u a images g plain h)
memory_alone t u a x after (step.Busy key id at) g plain h e = absurd (let same : next.Answer (answer.Busy key id at) ≡ next.Answer answer.NoMemory = sym (ap plain_next h.0) ∙ e in cc)
memory_alone t u a x after step.Faulted g plain h e = absurd (let same : next.Answer answer.Faulted ≡ next.Answer answer.NoMemory = sym (ap plain_next h.0) ∙ e in cc)
memory_alone t u a x after (step.BadRecord key) g plain h e = absurd (let same : next.Answer (answer.BadRecord key) ≡ next.Answer answer.NoMemory = sym (ap plain_next h.0) ∙ e in cc)
memory_alone t u a x after step.NoMemory g plain h e = h

told_call : (t u : TxnAt) (p : Planned) (a : Access) (x : ReadAt) (r : Reply) (now : ℤ) (g : Progress) → g ≢ progress.NoMemory → IsPlain g → ReadPost t a x r now g u → CallPost t p a x r now (plain_next g) u
told_call t u p a x r now g some plain h = record {
  memory = λ e. absurd (memory_alone t u a x (read_step x.stage now r) (read_result (read_step x.stage now r)) g plain (h.answered some) e);
  answered = λ n. plain_stage t u p a x (read_step x.stage now r) (read_result (read_step x.stage now r)) g plain (h.answered some);
}

pub plain_call : (t u : TxnAt) (p : Planned) (a : Access) (x : ReadAt) (r : Reply) (now : ℤ) (g : Progress) → IsPlain g → ReadPost t a x r now g u → CallPost t p a x r now (plain_next g) u
plain_call t u p a x r now progress.NoMemory plain h = record { memory = λ e. h.memory refl; answered = λ n. absurd (n refl) }
plain_call t u p a x r now (progress.Rows rows) plain h = absurd plain
plain_call t u p a x r now (progress.Conflict key found) plain h = absurd plain
plain_call t u p a x r now progress.More plain h = told_call t u p a x r now progress.More (λ e. cc) plain h
plain_call t u p a x r now (progress.Busy key id at) plain h = told_call t u p a x r now (progress.Busy key id at) (λ e. cc) plain h
plain_call t u p a x r now progress.Faulted plain h = told_call t u p a x r now progress.Faulted (λ e. cc) plain h
plain_call t u p a x r now (progress.BadRecord key) plain h = told_call t u p a x r now (progress.BadRecord key) (λ e. cc) plain h
plain_call t u p a x r now progress.Committed plain h = told_call t u p a x r now progress.Committed (λ e. cc) plain h
plain_call t u p a x r now (progress.Expired id) plain h = told_call t u p a x r now (progress.Expired id) (λ e. cc) plain h
plain_call t u p a x r now (progress.Unknown id) plain h = told_call t u p a x r now (progress.Unknown id) (λ e. cc) plain h

---- a scan that differs

moved_images : (t u : TxnAt) (a : Access) (images : List Record) (key : Key) (found : Option Record) → ImagesEnd t a images (progress.Conflict key found) u → IsChangedAt t a images key found
moved_images t u (access.Get k) images key found h = absurd (let e = h.rows in cc)
moved_images t u (access.Scan span) images key found h = h.0

moved_stage : (t u : TxnAt) (p : Planned) (a : Access) (x : ReadAt) (after : ReadStage) (s : ReadStep) (key : Key) (found : Option Record) → StepPost t a x after s (progress.Conflict key found) u → StagePost t p a x after s (next.End (answer.Conflict key found)) u
moved_stage t u p a x after (step.Images images) key found h = moved_images t u a images key found h
moved_stage t u p a x after step.NoMemory key found h = absurd h
moved_stage t u p a x after s key found h = absurd (let e = h.0 in cc)

pub moved_call : (t u : TxnAt) (p : Planned) (a : Access) (x : ReadAt) (r : Reply) (now : ℤ) (key : Key) (found : Option Record) → ReadPost t a x r now (progress.Conflict key found) u → CallPost t p a x r now (next.End (answer.Conflict key found)) u
moved_call t u p a x r now key found h = record {
  memory = λ e. absurd (cc);
  answered = λ n. moved_stage t u p a x (read_step x.stage now r) (read_result (read_step x.stage now r)) key found (h.answered (λ e. cc));
}

---- rows

-- a read was noted, and these are the rows that are seen then
pub record IsNoted (t u : TxnAt) (a : Access) (s : ReadStep) (found : List Image) : Type 0 where
  pub images : List Record
  pub ended : s ≡ step.Images images
  pub with_read : u ≡ with_rows_read t a images
  pub rows : found ≡ overlay a u.seen
  pub as_read : IsAsRead t a images

abbrev rows_in : Progress → List Image
rows_in (progress.Rows rows) = rows
rows_in g = []

read_images : (t u : TxnAt) (a : Access) (images : List Record) (rows : List Image) → ImagesEnd t a images (progress.Rows rows) u → IsNoted t u a (step.Images images) rows
read_images t u (access.Get key) images rows h = record { images = images; ended = refl; with_read = h.as_read; rows = ap rows_in h.rows; as_read = h.unread }
read_images t u (access.Scan span) images rows h = record { images = images; ended = refl; with_read = h.1; rows = h.2; as_read = h.0 }

noted_stage : (t u : TxnAt) (a : Access) (x : ReadAt) (after : ReadStage) (s : ReadStep) (rows : List Image) → StepPost t a x after s (progress.Rows rows) u → IsNoted t u a s rows
noted_stage t u a x after (step.Images images) rows h = read_images t u a images rows h
noted_stage t u a x after step.NoMemory rows h = absurd h
noted_stage t u a x after s rows h = absurd (let e = h.0 in cc)

pub rows_noted : (t u : TxnAt) (a : Access) (x : ReadAt) (r : Reply) (now : ℤ) (rows : List Image) → ReadPost t a x r now (progress.Rows rows) u → IsNoted t u a (read_result (read_step x.stage now r)) rows
rows_noted t u a x r now rows h = noted_stage t u a x (read_step x.stage now r) (read_result (read_step x.stage now r)) rows (h.answered (λ e. cc))

-- without what was recorded after a mark
abbrev pub cut : Mark → TxnAt → TxnAt
cut m t = record t { seen = forgotten m t.seen }

pub noting_forgotten : (t : TxnAt) (a : Access) (images : List Record) → forgotten (mark_of t.seen) (with_rows_read t a images).seen ≡ t.seen
noting_forgotten t (access.Get key) images = get_forgotten t.seen key (slice_get images 0)
noting_forgotten t (access.Scan span) images = scan_forgotten t.seen span images

pub reading_stays_idle : (t : TxnAt) (a : Access) (images : List Record) → (with_rows_read t a images).doing ≡ doing.Idle
reading_stays_idle t (access.Get key) images = refl
reading_stays_idle t (access.Scan span) images = refl

pub reading_keeps_id : (t : TxnAt) (a : Access) (images : List Record) → (with_rows_read t a images).id ≡ t.id
reading_keeps_id t (access.Get key) images = refl
reading_keeps_id t (access.Scan span) images = refl

pub noted_idle : (t u : TxnAt) (a : Access) (s : ReadStep) (rows : List Image) → IsNoted t u a s rows → u.doing ≡ doing.Idle
noted_idle t u a s rows h = ap (λ (v : TxnAt). v.doing) h.with_read ∙ reading_stays_idle t a h.images

cut_of : (t v : TxnAt) (s : Seen) → v.id ≡ t.id → v.doing ≡ doing.Idle → s ≡ t.seen → ◌≡◌ {A = TxnAt} (record v { seen = s }) (idle t)
cut_of t v s a b c = λ i. record { id = a i; seen = c i; doing = b i }

pub cut_is : (t u : TxnAt) (a : Access) (s : ReadStep) (rows : List Image) (m : Mark) → m ≡ mark_of t.seen → IsNoted t u a s rows → cut m u ≡ idle t
cut_is t u a s rows m e h =
    cut_of t u (forgotten m u.seen) (ap (λ (v : TxnAt). v.id) h.with_read ∙ reading_keeps_id t a h.images) (noted_idle t u a s rows h)
    (ap (λ (n : Mark). forgotten n u.seen) e ∙ ap (λ (v : TxnAt). forgotten (mark_of t.seen) v.seen) h.with_read ∙ noting_forgotten t a h.images)

pub kept_cut_of : (t u : TxnAt) (a : Access) (s : ReadStep) (rows : List Image) (m : Mark) → m ≡ mark_of t.seen → IsSetInvariant t.seen.read_set t.seen.writes → IsNoted t u a s rows → IsSetInvariant (take m.read_set u.seen.read_set) u.seen.writes
kept_cut_of t u a s rows m e kept h = kept_cut t.seen u.seen m e (ap (λ (v : TxnAt). forgotten (mark_of t.seen) v.seen) h.with_read ∙ noting_forgotten t a h.images) kept

abbrev pub answer_or : Next → Answer
answer_or (next.Answer z) = z
answer_or n = answer.NoMemory

pub rows_call : (t u v : TxnAt) (p : Planned) (a : Access) (x : ReadAt) (r : Reply) (now : ℤ) (rows : List Image) (m : Mark) (z : Answer) → m ≡ mark_of t.seen → IsNoted t u a (read_result (read_step x.stage now r)) rows
    → (z ≢ answer.NoMemory → z ≡ given_answer u (step_of p rows)) → (z ≢ answer.NoMemory → v ≡ given_left u (step_of p rows)) → (z ≡ answer.NoMemory → v ≡ cut m u) → CallPost t p a x r now (next.Answer z) v
rows_call t u v p a x r now rows m z e h answered left memory =
    let same : cut m u ≡ idle t = cut_is t u a (read_result (read_step x.stage now r)) rows m e h in
    let gave : step_of p rows ≡ gives p a (with_rows_read t a h.images) = ap (step_of p) (h.rows ∙ ap (λ (w : TxnAt). overlay a w.seen) h.with_read) in
    record {
      memory = λ q. memory (ap answer_or q) ∙ same;
      answered = λ n.
          let some : z ≢ answer.NoMemory = λ q. n (ap next.Answer q) in
          subst (λ (s : ReadStep). StagePost t p a x (read_step x.stage now r) s (next.Answer z) v) (sym h.ended) (
            h.as_read,
            answered some ∙ ap (given_answer u) gave ∙ ap (λ (w : TxnAt). given_answer w (gives p a (with_rows_read t a h.images))) h.with_read,
            left some ∙ ap (given_left u) gave ∙ ap (λ (w : TxnAt). given_left w (gives p a (with_rows_read t a h.images))) h.with_read,
          );
    }

or_some : (o : Option (Option Record)) (f : Option Record) (b : Bool) → b ≡ true → is_some (or_else o (cond b (Some f) None)) ≡ true
or_some None f b h = rw h refl
or_some (Some x) f b h = refl

pub last_read : (read_set : List ReadRecord) (k : Key) (f : Option Record) → is_key_read (read_set ++ (k, f) ∷ []) k ≡ true
last_read read_set k f = ap is_some (value_last read_set k f k) ∙ or_some (value_at read_set k) f (same_key k k) (same_key_self k)

-- the key of a get was read then
pub noting_read : (t u : TxnAt) (a : Access) (s : ReadStep) (rows : List Image) → IsNoted t u a s rows → IsKeyRead u.seen.read_set a
noting_read t u a s rows h = subst (λ (w : TxnAt). IsKeyRead w.seen.read_set a) (sym h.with_read) (read_now t a h.images)
  where
    read_now : (t : TxnAt) (a : Access) (images : List Record) → IsKeyRead (with_rows_read t a images).seen.read_set a
    read_now t (access.Get key) images = last_read t.seen.read_set key (slice_get images 0)
    read_now t (access.Scan span) images = tt

---- by what the transaction does

-- What is so of the rows that a statement was read.
pub record AreRead (t u : TxnAt) (p : Planned) (found : List Image) : Type 0 where
  pub idle : u.doing ≡ doing.Idle
  pub rows : found ≡ overlay (access_of p.table p.statement) u.seen
  pub read : IsKeyRead u.seen.read_set (access_of p.table p.statement)
  pub kept : (m : Mark) → m ≡ mark_of t.seen → IsSetInvariant t.seen.read_set t.seen.writes → IsSetInvariant (take m.read_set u.seen.read_set) u.seen.writes

rows_read_at : (t u : TxnAt) (p : Planned) (a : Access) (s : ReadStep) (rows : List Image) → a ≡ access_of p.table p.statement → IsNoted t u a s rows → AreRead t u p rows
rows_read_at t u p a s rows e h = record {
  idle = noted_idle t u a s rows h;
  rows = h.rows ∙ ap (λ (b : Access). overlay b u.seen) e;
  read = subst (IsKeyRead u.seen.read_set) e (noting_read t u a s rows h);
  kept = λ m is kept. kept_cut_of t u a s rows m is kept h;
}

pub rows_read : (d : Doing) (t u : TxnAt) (p : Planned) (r : Reply) (now : ℤ) (rows : List Image) → IsReadOf d p → IfReading d (λ a x. ReadPost t a x r now (progress.Rows rows) u) → AreRead t u p rows
rows_read (doing.Read a x) t u p r now rows at h = rows_read_at t u p a (read_result (read_step x.stage now r)) rows at.1 (rows_noted t u a x r now rows h)
rows_read d t u p r now rows at h = absurd at

pub rows_told : (d : Doing) (t u v : TxnAt) (p : Planned) (r : Reply) (now : ℤ) (rows : List Image) (m : Mark) (z : Answer) → m ≡ mark_of t.seen → IfReading d (λ a x. ReadPost t a x r now (progress.Rows rows) u)
    → (z ≢ answer.NoMemory → z ≡ given_answer u (step_of p rows)) → (z ≢ answer.NoMemory → v ≡ given_left u (step_of p rows)) → (z ≡ answer.NoMemory → v ≡ cut m u) → IfReading d (λ a x. CallPost t p a x r now (next.Answer z) v)
rows_told (doing.Read a x) t u v p r now rows m z e h answered left memory = rows_call t u v p a x r now rows m z e (rows_noted t u a x r now rows h) answered left memory
rows_told d t u v p r now rows m z e h answered left memory = tt

pub plain_told : (d : Doing) (t u : TxnAt) (p : Planned) (r : Reply) (now : ℤ) (g : Progress) → IsPlain g → IfReading d (λ a x. ReadPost t a x r now g u) → IfReading d (λ a x. CallPost t p a x r now (plain_next g) u)
plain_told (doing.Read a x) t u p r now g plain h = plain_call t u p a x r now g plain h
plain_told d t u p r now g plain h = tt

-- what out of memory, and what no read is answered, are answered as
pub other_told : (d : Doing) (t u : TxnAt) (p : Planned) (r : Reply) (now : ℤ) (g : Progress) → (g ≡ progress.NoMemory) ⊎ ((g ≡ progress.Committed) ⊎ (((id : TxId) × (g ≡ progress.Expired id)) ⊎ ((id : TxId) × (g ≡ progress.Unknown id)))) → IfReading d (λ a x. ReadPost t a x r now g u) → IfReading d (λ a x. CallPost t p a x r now (next.Answer answer.NoMemory) u)
other_told d t u p r now g (inl e) h = plain_told d t u p r now progress.NoMemory tt (subst (λ (y : Progress). IfReading d (λ a x. ReadPost t a x r now y u)) e h)
other_told d t u p r now g (inr (inl e)) h = plain_told d t u p r now progress.Committed tt (subst (λ (y : Progress). IfReading d (λ a x. ReadPost t a x r now y u)) e h)
other_told d t u p r now g (inr (inr (inl (id, e)))) h = plain_told d t u p r now (progress.Expired id) tt (subst (λ (y : Progress). IfReading d (λ a x. ReadPost t a x r now y u)) e h)
other_told d t u p r now g (inr (inr (inr (id, e)))) h = plain_told d t u p r now (progress.Unknown id) tt (subst (λ (y : Progress). IfReading d (λ a x. ReadPost t a x r now y u)) e h)
