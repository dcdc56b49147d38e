-- A COMMIT asks for nothing with an LF and answers with none, where nothing that it read, wrote and found has one.
use Rattle.std.proofs.Common.{◌≡◌, ℕ, ℤ, ◌+◌, Bool, true, false, cond, List, [], ◌∷◌, map, filter, length, slice_get, Option, Some, None, IfSome, sym, ap, subst, ◌∙◌}
use Rattle.std.specs.Prelude.{◌-◌, IsSomeAnd, not, nat_lt}
use Rattle.std.specs.List.{AllByRecursion}
use Rattle.std.specs.Option.{option_map, option_map_or}
use Rattle.std.specs.Ordering.{is_lt}
use Rattle.std.specs.FinMap.{empty, entries, get, get-empty, get-insert, insert}
use Rattle.sdb_types.specs.Contents.{CanAnswer, IsUnmet, IsUnmetAt, in_span, put_at, record_among, sent}
use Rattle.sdb_types.specs.Order.{key_cmp, same_key}
use Rattle.law_runs.specs.Types.{Check, DecidePhase, DecideStep, Expected, Key, Outcome, PrepareStep, Read, Record, Reply, Request, Scan, Span, Target, TxId, ValidateStep, Wanted, Write}
use Rattle.sdb_types.specs.declared.record.Put.{Put}
use Rattle.sdb_types.specs.declared.record.Reply.TheVariants as reply
use Rattle.sdb_types.specs.declared.record.Request.TheVariants as ask
use Rattle.sdb_types.proofs.Public.{append_all, by_test, key_exact, key_total, none_some, same_key_exact}
use Rattle.sdb_record.specs.declared.coordinator.Decision.TheVariants as decision
use Rattle.sdb_record.specs.Among.{is_written}
use Rattle.sdb_record.specs.Groups.{grouped, in_groups}
use Rattle.sdb_record.specs.Moved.{is_unchanged, version_of}
use Rattle.sdb_record.specs.Rolls.{prepared_record}
use Rattle.sdb_record.proofs.Public.{grouped_all}
use Rattle.sdb_phases.specs.declared.check.Target.TheVariants as target
use Rattle.sdb_phases.specs.declared.check.Expected.TheVariants as wish
use Rattle.sdb_phases.specs.declared.step.DecidePhase.TheVariants as phase
use Rattle.sdb_phases.specs.declared.step.DecideStep.TheVariants as decide
use Rattle.sdb_phases.specs.declared.step.Outcome.TheVariants as outcome
use Rattle.sdb_phases.specs.declared.step.PrepareStep.TheVariants as prepare
use Rattle.sdb_phases.specs.declared.step.ValidateStep.TheVariants as validate
use Rattle.sdb_phases.specs.Checks.{Wishes, changed, check_of_read, check_of_scan, checks, difference_at, differs, first_difference, keys_among, least, lesser, wanted, wanted_of, wished_version, wishes, with_reads, with_write, with_writes}
use Rattle.sdb_phases.specs.Commit.{Back, Checking, Deciding, Forward, Over, Preparing, Stage, Stopping, after_abort, after_check, after_decide, after_prepare, back, checking, forward, pending, preparing, step}
use Rattle.sdb_phases.specs.Steps.{decide_next, decide_request_at, judged, prepare_step, refused, touched_after, validate_step}
use Rattle.sdb_phases.proofs.Public.{by_steps}
use Rattle.sdb_phases.specs.Work.{Work, back_of, backs, forward_of, forwards, groups_of, prepare_of, prepares, is_as_prepared, writes_before}
use Rattle.sdb_txn.specs.Phases.{IsNext}
use Rattle.law_answers.proofs.Public.{all_in_groups}
use Rattle.sdb_validate.specs.Inside.{Judges}
use Rattle.law_runs.proofs.Lists.{at_all, filter_all, map_all, option_so}
use Rattle.law_runs.proofs.Clear.{FoundClear, KeyClear, RecordClear, RecordsClear, ReplyClear, RequestClear, WriteClear, forward_clear, prepared_clear, row_clear, row_key_clear, undo_clear}
use Rattle.law_runs.proofs.PlainStatements.{FoundAt}
use Rattle.law_runs.proofs.Contents.{keyed_all}
use Rattle.law_runs.proofs.Snapshots.{ReadClear, ReadsClear, ScanClear, ScansClear, WritesClear}

-- what a COMMIT takes
pub record WorkClear (p : Work) : Type 0 where
  pub writes : WritesClear p.writes
  pub reads : ReadsClear p.reads
  pub scans : ScansClear p.scans

abbrev pub ConflictClear : Key → Option Record → Type 0
ConflictClear key found = KeyClear key × IfSome found (FoundAt key)

abbrev pub OutcomeClear : Outcome → Type 0
OutcomeClear outcome.Committed = Unit {0}
OutcomeClear (outcome.Conflict key found) = ConflictClear key found
OutcomeClear (outcome.Expired id) = Unit {0}
OutcomeClear outcome.Faulted = Unit {0}
OutcomeClear (outcome.Unknown id) = Unit {0}
OutcomeClear (outcome.BadRecord key) = KeyClear key
OutcomeClear outcome.NoMemory = Unit {0}

abbrev pub CommitClear : Stage → Type 0
CommitClear (Preparing i) = Unit {0}
CommitClear (Checking i) = Unit {0}
CommitClear (Deciding d) = Unit {0}
CommitClear (Forward i) = Unit {0}
CommitClear (Stopping a n) = OutcomeClear a
CommitClear (Back a n i) = OutcomeClear a
CommitClear (Over a) = OutcomeClear a

-- a record that a call found is of the key of the conflict
pub found_at : (key : Key) (found : Option Record) → FoundClear found → IfSome found (λ r. r.key ≡ key) → IfSome found (FoundAt key)
found_at key None h k = tt
found_at key (Some r) h k = record { clear = h; key_is = k }

pub among_at : (rows : List Record) (key : Key) → RecordsClear rows → IfSome (record_among rows key) (FoundAt key)
among_at [] key h = tt
among_at (r ∷ rs) key h =
    by_test (same_key key r.key)
    (λ t. subst (λ (b : Bool). IfSome (cond b (Some r) (record_among rs key)) (FoundAt key)) (sym t) (record { clear = h.0; key_is = sym (same_key_exact key r.key t) }))
    (λ t. subst (λ (b : Bool). IfSome (cond b (Some r) (record_among rs key)) (FoundAt key)) (sym t) (among_at rs key h.1))

---- what it asks for

abbrev PutClear : Put → Type 0
PutClear u = RecordClear u.rec

sent_clear : (b : List Put) → AllByRecursion PutClear b → RequestClear (sent b)
sent_clear [] h = tt
sent_clear (u ∷ []) h = h.0
sent_clear (u ∷ v ∷ us) h = h

-- the call for each group
groups_ask : (f : Write → Put) → ((w : Write) → WriteClear w → PutClear (f w)) → (ws : List Write) → WritesClear ws → AllByRecursion RequestClear (map (λ g. sent (map f g)) (grouped ws))
groups_ask f clear ws h =
    map_all (AllByRecursion WriteClear) RequestClear (λ g. sent (map f g)) (grouped ws) (λ g k. sent_clear (map f g) (map_all WriteClear PutClear f g clear k)) (grouped_all WriteClear ws h)

prepare_asks : (id : TxId) (now : ℤ) (w : Write) → WriteClear w → PutClear (prepare_of id now w)
prepare_asks id now w h = prepared_clear w id now h

forward_asks : (id : TxId) (now : ℤ) (w : Write) → WriteClear w → PutClear (forward_of id now w)
forward_asks id now w h = forward_clear (prepared_record w id now) now (prepared_clear w id now h)

back_asks : (id : TxId) (w : Write) → WriteClear w → RequestClear (back_of id w)
back_asks id w h = undo_clear (is_as_prepared id w) w.key w.base h.key h.base

abbrev TargetClear : Target → Type 0
TargetClear (target.Version version) = Unit {0}
TargetClear (target.Rows ws) = AllByRecursion (λ (w : Wanted). KeyClear w.key) ws

-- a check: what it asks for, and the keys at which it is to find something
record CheckClear (c : Check) : Type 0 where
  asks : RequestClear c.request
  target : TargetClear c.target

abbrev WishesClear : Wishes → Type 0
WishesClear m = (q : Key) (w : Expected) → get m q ≡ Some w → KeyClear q

wished : (m : Wishes) (key : Key) (w : Expected) → KeyClear key → WishesClear m → WishesClear (insert m key w)
wished m key w k h q x e =
    by_test (Rattle.std.specs.Ordering.eq_by_cmp key_cmp q key)
    (λ t. subst KeyClear (sym (key_exact q key (Rattle.sdb_types.specs.Exact.equal_of (key_cmp q key) t))) k)
    (λ t. h q x (sym (get-insert key_total m key w q ∙ ap (λ (b : Bool). cond b (Some w) (get m q)) t) ∙ e))

reads_wished : (rs : List Read) (m : Wishes) → ReadsClear rs → WishesClear m → WishesClear (with_reads rs m)
reads_wished [] m h k = k
reads_wished (r ∷ rs) m h k = reads_wished rs (insert m r.key (wish.Unchanged r.version)) h.1 (wished m r.key (wish.Unchanged r.version) h.0 k)

write_wished : (span : Span) (w : Write) (m : Wishes) → WriteClear w → WishesClear m → WishesClear (with_write span w m)
write_wished span w m h k = by (in_span span w.key)
  where
    by : (b : Bool) → WishesClear (cond b (insert m w.key (wish.Based (wished_version (get m w.key) (version_of w.base)))) m)
    by true = wished m w.key (wish.Based (wished_version (get m w.key) (version_of w.base))) h.key k
    by false = k

writes_wished : (span : Span) (ws : List Write) (m : Wishes) → WritesClear ws → WishesClear m → WishesClear (with_writes span ws m)
writes_wished span [] m h k = k
writes_wished span (w ∷ ws) m h k = writes_wished span ws (with_write span w m) h.1 (write_wished span w m h.0 k)

no_wishes : WishesClear empty
no_wishes q w e = none_some w (sym (get-empty key_cmp q) ∙ e)

wanted_clear : (own : List Write) (s : Scan) → WritesClear own → ScanClear s → AllByRecursion (λ (w : Wanted). KeyClear w.key) (wanted own s)
wanted_clear own s h k =
    map_all (λ (e : Key × Expected). KeyClear e.0) (λ (w : Wanted). KeyClear w.key) wanted_of (entries (wishes own s)) (λ e c. c)
    (keyed_all (λ q w. KeyClear q) (wishes own s) (writes_wished s.span own (with_reads s.found empty) h (reads_wished s.found empty k.found no_wishes)))

checks_clear : (p : Work) → WorkClear p → AllByRecursion CheckClear (checks p)
checks_clear p h =
    let unwritten : Read → Bool = λ r. not (is_written p.writes r.key) in
    append_all CheckClear (map check_of_read (filter unwritten p.reads)) (map (check_of_scan p.writes) p.scans)
    (map_all ReadClear CheckClear check_of_read (filter unwritten p.reads) (λ r k. record { asks = k; target = tt }) (filter_all ReadClear unwritten p.reads h.reads))
    (map_all ScanClear CheckClear (check_of_scan p.writes) p.scans (λ s k. record { asks = k.span; target = wanted_clear p.writes s h.writes k }) h.scans)

decide_asks : (p : Work) (d : DecidePhase) → IfSome (decide_request_at p.id p.now d) RequestClear
decide_asks p phase.Put = row_clear p.id decision.Committed p.now
decide_asks p phase.Look = row_key_clear p.id
decide_asks p phase.Abort = row_clear p.id decision.Aborted p.now
decide_asks p phase.Again = row_key_clear p.id
decide_asks p phase.Ended = tt

prepares_ask : (p : Work) → WorkClear p → AllByRecursion RequestClear (prepares p)
prepares_ask p h = groups_ask (prepare_of p.id p.now) (prepare_asks p.id p.now) p.writes h.writes

-- the call that a COMMIT has pending
pub commit_asks : (p : Work) (s : Stage) → WorkClear p → IfSome (pending p s) RequestClear
commit_asks p (Preparing i) h = at_all RequestClear (prepares p) i (prepares_ask p h)
commit_asks p (Checking i) h = option_so CheckClear RequestClear (λ (c : Check). c.request) (slice_get (checks p) i) (λ c k. k.asks) (at_all CheckClear (checks p) i (checks_clear p h))
commit_asks p (Deciding d) h = decide_asks p d
commit_asks p (Forward i) h = at_all RequestClear (forwards p) i (groups_ask (forward_of p.id p.now) (forward_asks p.id p.now) p.writes h.writes)
commit_asks p (Stopping a n) h = row_clear p.id decision.Aborted p.now
commit_asks p (Back a n i) h = at_all RequestClear (backs p) i (map_all WriteClear RequestClear (back_of p.id) (in_groups p.writes) (back_asks p.id) (all_in_groups WriteClear p.writes h.writes))
commit_asks p (Over a) h = tt

---- a prepare

abbrev PrepareClear : PrepareStep → Type 0
PrepareClear prepare.More = Unit {0}
PrepareClear prepare.Done = Unit {0}
PrepareClear (prepare.Conflict key found) = ConflictClear key found
PrepareClear prepare.Faulted = Unit {0}
PrepareClear prepare.NoMemory = Unit {0}

refused_clear : (o : Option Request) (found : Option Record) → IfSome o RequestClear → IfSome o (λ q. CanAnswer q (reply.NotMet found)) → FoundClear found → PrepareClear (refused o 1 found)
refused_clear None found h can k = tt
refused_clear (Some (ask.Get key)) found h can k = tt
refused_clear (Some (ask.Scan span)) found h can k = tt
refused_clear (Some (ask.PutIf rec c)) found h can k = (h.key, found_at rec.key found k can.0)
refused_clear (Some (ask.DeleteIf key c)) found h can k = tt
refused_clear (Some (ask.PutAll batch)) found h can k = absurd can

-- and where a put of a group was not met
put_refused : (batch : List Put) (place : ℕ) (found : Option Record) → AllByRecursion PutClear batch → IsUnmetAt batch place found → FoundClear found → PrepareClear (refused (Some (ask.PutAll batch)) place found)
put_refused batch place found h can k = by (put_at batch place) (at_all PutClear batch (place - 1) h) can.1
  where
    by : (o : Option Put) → IfSome o PutClear → IsSomeAnd o (λ u. IsUnmet u.condition u.rec.key found) → PrepareClear (option_map_or (λ (u : Put). prepare.Conflict u.rec.key found) o prepare.NoMemory)
    by None c unmet = tt
    by (Some u) c unmet = (c.key, found_at u.rec.key found k unmet.0)

all_refused : (o : Option Request) (place : ℕ) (found : Option Record) → IfSome o RequestClear → IfSome o (λ q. CanAnswer q (reply.NotAll place found)) → FoundClear found → PrepareClear (refused o place found)
all_refused None place found h can k = tt
all_refused (Some (ask.Get key)) place found h can k = tt
all_refused (Some (ask.Scan span)) place found h can k = tt
all_refused (Some (ask.PutIf rec c)) place found h can k = absurd can
all_refused (Some (ask.DeleteIf key c)) place found h can k = tt
all_refused (Some (ask.PutAll batch)) place found h can k = put_refused batch place found h can k

prepare_clear : (more : Bool) (o : Option Request) (r : Reply) → IfSome o RequestClear → IfSome o (λ q. CanAnswer q r) → ReplyClear r → PrepareClear (prepare_step more o r)
prepare_clear more o reply.Applied h can k = elim more as (λ b. PrepareClear (cond b prepare.More prepare.Done)) [ true ↦ tt | false ↦ tt ]
prepare_clear more o (reply.NotMet found) h can k = refused_clear o found h can k
prepare_clear more o (reply.Found found) h can k = tt
prepare_clear more o (reply.Rows rows) h can k = tt
prepare_clear more o (reply.NotAll place there) h can k = all_refused o place there h can k
prepare_clear more o reply.Fault h can k = tt
prepare_clear more o reply.NoMemory h can k = tt

checking_clear : (p : Work) (i : ℕ) → CommitClear (checking p i)
checking_clear p i = elim (nat_lt i (length (checks p))) as (λ b. CommitClear (cond b (Checking i) (Deciding phase.Put))) [ true ↦ tt | false ↦ tt ]

pub preparing_clear : (p : Work) (i : ℕ) → CommitClear (preparing p i)
preparing_clear p i = by (nat_lt i (groups_of p))
  where
    by : (b : Bool) → CommitClear (cond b (Preparing i) (checking p 0))
    by true = tt
    by false = checking_clear p 0

prepared_stage : (p : Work) (i n : ℕ) (s : PrepareStep) → PrepareClear s → CommitClear (after_prepare p i n s)
prepared_stage p i n prepare.More h = tt
prepared_stage p i n prepare.Done h = checking_clear p 0
prepared_stage p i n (prepare.Conflict key found) h = h
prepared_stage p i n prepare.Faulted h = tt
prepared_stage p i n prepare.NoMemory h = tt

---- a check

abbrev ValidateClear : ValidateStep → Type 0
ValidateClear validate.More = Unit {0}
ValidateClear validate.Valid = Unit {0}
ValidateClear (validate.Conflict key found) = ConflictClear key found
ValidateClear validate.Faulted = Unit {0}
ValidateClear validate.NoMemory = Unit {0}

abbrev DifferenceClear : Option (Key × Option Record) → Type 0
DifferenceClear d = IfSome d (λ x. ConflictClear x.0 x.1)

lesser_clear : (key : Key) (o : Option Key) → KeyClear key → IfSome o KeyClear → KeyClear (lesser key o)
lesser_clear key None h k = h
lesser_clear key (Some other) h k = elim (is_lt (key_cmp other key)) as (λ b. KeyClear (cond b other key)) [ true ↦ k | false ↦ h ]

least_clear : (keys : List Key) → AllByRecursion KeyClear keys → IfSome (least keys) KeyClear
least_clear [] h = tt
least_clear (key ∷ keys) h = lesser_clear key (least keys) h.0 (least_clear keys h.1)

first_clear : (ws : List Wanted) (rows : List Record) → AllByRecursion (λ (w : Wanted). KeyClear w.key) ws → RecordsClear rows → DifferenceClear (first_difference ws rows)
first_clear ws rows h k =
    option_so KeyClear (λ (x : Key × Option Record). ConflictClear x.0 x.1) (λ key. (key, record_among rows key)) (least (filter (differs ws rows) (keys_among ws rows))) (λ key c. (c, among_at rows key k))
    (least_clear (filter (differs ws rows) (keys_among ws rows)) (filter_all KeyClear (differs ws rows) (keys_among ws rows)
    (append_all KeyClear (map (λ (w : Wanted). w.key) ws) (map (λ (r : Record). r.key) rows)
    (map_all (λ (w : Wanted). KeyClear w.key) KeyClear (λ (w : Wanted). w.key) ws (λ w c. c) h)
    (map_all RecordClear KeyClear (λ (r : Record). r.key) rows (λ r c. c.key) k))))

changed_clear : (same : Bool) (key : Key) (found : Option Record) → ConflictClear key found → DifferenceClear (changed same key found)
changed_clear true key found h = tt
changed_clear false key found h = h

difference_clear : (q : Request) (t : Target) (r : Reply) → RequestClear q → TargetClear t → CanAnswer q r → ReplyClear r → DifferenceClear (difference_at q t r)
difference_clear (ask.Get key) (target.Version version) (reply.Found found) h g can k = changed_clear (is_unchanged found version) key found (h, found_at key found k can)
difference_clear (ask.Get key) (target.Version version) (reply.Rows rows) h g can k = tt
difference_clear (ask.Get key) (target.Version version) reply.Applied h g can k = tt
difference_clear (ask.Get key) (target.Version version) (reply.NotMet found) h g can k = tt
difference_clear (ask.Get key) (target.Version version) (reply.NotAll place there) h g can k = tt
difference_clear (ask.Get key) (target.Version version) reply.Fault h g can k = tt
difference_clear (ask.Get key) (target.Version version) reply.NoMemory h g can k = tt
difference_clear (ask.Get key) (target.Rows ws) r h g can k = tt
difference_clear (ask.Scan span) (target.Version version) r h g can k = tt
difference_clear (ask.Scan span) (target.Rows ws) (reply.Found found) h g can k = tt
difference_clear (ask.Scan span) (target.Rows ws) (reply.Rows rows) h g can k = first_clear ws rows g k
difference_clear (ask.Scan span) (target.Rows ws) reply.Applied h g can k = tt
difference_clear (ask.Scan span) (target.Rows ws) (reply.NotMet found) h g can k = tt
difference_clear (ask.Scan span) (target.Rows ws) (reply.NotAll place there) h g can k = tt
difference_clear (ask.Scan span) (target.Rows ws) reply.Fault h g can k = tt
difference_clear (ask.Scan span) (target.Rows ws) reply.NoMemory h g can k = tt
difference_clear (ask.PutIf rec c) t r h g can k = tt
difference_clear (ask.DeleteIf key c) t r h g can k = tt
difference_clear (ask.PutAll batch) t r h g can k = tt

judged_clear : (more : Bool) (d : Option (Key × Option Record)) → DifferenceClear d → ValidateClear (judged more d)
judged_clear more None h = elim more as (λ b. ValidateClear (cond b validate.More validate.Valid)) [ true ↦ tt | false ↦ tt ]
judged_clear more (Some d) h = h

validate_clear : (more : Bool) (o : Option Check) (r : Reply) → IfSome o CheckClear → IfSome o (λ c. CanAnswer c.request r) → ReplyClear r → ValidateClear (validate_step more o r)
validate_clear more o reply.Fault h can k = tt
validate_clear more o reply.NoMemory h can k = tt
validate_clear more None (reply.Found found) h can k = tt
validate_clear more None (reply.Rows rows) h can k = tt
validate_clear more None (reply.NotAll place there) h can k = tt
validate_clear more None reply.Applied h can k = tt
validate_clear more None (reply.NotMet found) h can k = tt
validate_clear more (Some c) (reply.Found found) h can k = judged_clear more _ (difference_clear c.request c.target (reply.Found found) h.asks h.target can k)
validate_clear more (Some c) (reply.Rows rows) h can k = judged_clear more _ (difference_clear c.request c.target (reply.Rows rows) h.asks h.target can k)
validate_clear more (Some c) (reply.NotAll place there) h can k = judged_clear more _ (difference_clear c.request c.target (reply.NotAll place there) h.asks h.target can k)
validate_clear more (Some c) reply.Applied h can k = judged_clear more _ (difference_clear c.request c.target reply.Applied h.asks h.target can k)
validate_clear more (Some c) (reply.NotMet found) h can k = judged_clear more _ (difference_clear c.request c.target (reply.NotMet found) h.asks h.target can k)

checked_stage : (p : Work) (i : ℕ) (v : ValidateStep) → ValidateClear v → CommitClear (after_check p i v)
checked_stage p i validate.More h = tt
checked_stage p i validate.Valid h = tt
checked_stage p i (validate.Conflict key found) h = h
checked_stage p i validate.Faulted h = tt
checked_stage p i validate.NoMemory h = tt

---- the decision

abbrev DecideClear : DecideStep → Type 0
DecideClear decide.More = Unit {0}
DecideClear decide.Committed = Unit {0}
DecideClear (decide.Expired id) = Unit {0}
DecideClear decide.Faulted = Unit {0}
DecideClear (decide.Unknown id) = Unit {0}
DecideClear (decide.BadRecord key) = KeyClear key
DecideClear decide.NoMemory = Unit {0}

decide_clear : (id : TxId) (d : DecidePhase) (r : Reply) → DecideClear (decide_next id d r).1
decide_clear id =
    by_steps id (λ n. DecideClear n.1)
    (record {
      look = tt;
      abort = tt;
      again = tt;
      committed = tt;
      expired = tt;
      faulted = tt;
      unknown = tt;
      bad = row_key_clear id;
      no_memory = tt;
    })

forward_stage : (p : Work) (i : ℕ) → CommitClear (forward p i)
forward_stage p i = elim (nat_lt i (groups_of p)) as (λ b. CommitClear (cond b (Forward i) (Over outcome.Committed))) [ true ↦ tt | false ↦ tt ]

back_stage : (a : Outcome) (n i : ℕ) → OutcomeClear a → CommitClear (back a n i)
back_stage a n i h = elim (nat_lt i n) as (λ b. CommitClear (cond b (Back a n i) (Over a))) [ true ↦ h | false ↦ h ]

decided_stage : (p : Work) (d : DecidePhase) (s : DecideStep) → DecideClear s → CommitClear (after_decide p d s)
decided_stage p d decide.More h = tt
decided_stage p d decide.Committed h = forward_stage p 0
decided_stage p d (decide.Expired id) h = back_stage (outcome.Expired id) (length p.writes) 0 tt
decided_stage p d decide.Faulted h = back_stage outcome.Faulted (length p.writes) 0 tt
decided_stage p d (decide.Unknown id) h = tt
decided_stage p d (decide.BadRecord key) h = h
decided_stage p d decide.NoMemory h = tt

abort_stage : (a : Outcome) (n : ℕ) (r : Reply) → OutcomeClear a → CommitClear (after_abort a n r)
abort_stage a n reply.Applied h = back_stage a n 0 h
abort_stage a n (reply.NotMet found) h = back_stage a n 0 h
abort_stage a n (reply.Found found) h = h
abort_stage a n (reply.Rows rows) h = h
abort_stage a n (reply.NotAll place there) h = h
abort_stage a n reply.Fault h = h
abort_stage a n reply.NoMemory h = h

---- a step

-- the reply is one that the pending call can get
abbrev pub CanGet : Work → Stage → Reply → Type 0
CanGet p s r = IfSome (pending p s) (λ q. CanAnswer q r)

checked_can : (o : Option Check) (r : Reply) → IfSome (option_map (λ (c : Check). c.request) o) (λ q. CanAnswer q r) → IfSome o (λ c. CanAnswer c.request r)
checked_can None r can = tt
checked_can (Some c) r can = can

check_next : (p : Work) (i : ℕ) (r : Reply) → WorkClear p → CanGet p (Checking i) r → ReplyClear r → ValidateClear (validate_step (nat_lt (i + 1) (length (checks p))) (slice_get (checks p) i) r)
check_next p i r h can k =
    validate_clear (nat_lt (i + 1) (length (checks p))) (slice_get (checks p) i) r (at_all CheckClear (checks p) i (checks_clear p h)) (checked_can (slice_get (checks p) i) r can) k

-- where a reply leads a COMMIT
pub commit_step_clear : (p : Work) (s : Stage) (r : Reply) → WorkClear p → CommitClear s → CanGet p s r → ReplyClear r → CommitClear (step p s r)
commit_step_clear p (Preparing i) r h g can k =
    prepared_stage p i (touched_after (slice_get (prepares p) i) (writes_before p i) r) _ (prepare_clear (nat_lt (i + 1) (groups_of p)) (slice_get (prepares p) i) r (at_all RequestClear (prepares p) i (prepares_ask p h)) can k)
commit_step_clear p (Checking i) r h g can k = checked_stage p i _ (check_next p i r h can k)
commit_step_clear p (Deciding d) r h g can k = decided_stage p (decide_next p.id d r).0 (decide_next p.id d r).1 (decide_clear p.id d r)
commit_step_clear p (Forward i) r h g can k = forward_stage p (i + 1)
commit_step_clear p (Stopping a n) r h g can k = abort_stage a n r g
commit_step_clear p (Back a n i) r h g can k = back_stage a n (i + 1) g
commit_step_clear p (Over a) r h g can k = g

judges_clear : (s v : ValidateStep) → Judges s v → ValidateClear s → ValidateClear v
judges_clear s validate.NoMemory j h = tt
judges_clear s validate.More j h = subst ValidateClear (sym j) h
judges_clear s validate.Valid j h = subst ValidateClear (sym j) h
judges_clear s (validate.Conflict key found) j h = subst ValidateClear (sym j) h
judges_clear s validate.Faulted j h = subst ValidateClear (sym j) h

-- where it may lead it
pub next_clear : (p : Work) (s : Stage) (r : Reply) (t : Stage) → WorkClear p → CommitClear s → CanGet p s r → ReplyClear r → IsNext p s r t → CommitClear t
next_clear p (Preparing i) r t h g can k n = subst CommitClear (sym n) (commit_step_clear p (Preparing i) r h g can k)
next_clear p (Checking i) r t h g can k n = subst CommitClear (sym n.2) (checked_stage p i n.0 (judges_clear _ n.0 n.1 (check_next p i r h can k)))
next_clear p (Deciding d) r t h g can k n = subst CommitClear (sym n) (commit_step_clear p (Deciding d) r h g can k)
next_clear p (Forward i) r t h g can k n = subst CommitClear (sym n) (commit_step_clear p (Forward i) r h g can k)
next_clear p (Stopping a m) r t h g can k n = subst CommitClear (sym n) (commit_step_clear p (Stopping a m) r h g can k)
next_clear p (Back a m i) r t h g can k n = subst CommitClear (sym n) (commit_step_clear p (Back a m i) r h g can k)
next_clear p (Over a) r t h g can k n = subst CommitClear (sym n) (commit_step_clear p (Over a) r h g can k)
