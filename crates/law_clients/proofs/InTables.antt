-- What a transaction has read and written, and what a read and a COMMIT do, is of tables of the catalog.
use Rattle.std.proofs.Common.{◌≡◌, ℕ, ℤ, zero, suc, ◌+◌, Bool, true, false, cond, ◌||◌, List, [], ◌∷◌, ◌++◌, map, filter, slice_get, Option, Some, None, IfSome, refl, sym, ap, subst, ◌∙◌, arith}
use Rattle.std.specs.Prelude.{is_some, not}
use Rattle.std.specs.Option.{option_and_then, option_map}
use Rattle.std.specs.List.{AllByRecursion, list_all}
use Rattle.std.specs.Ordering.{is_eq}
use Rattle.std.proofs.lemmas.Bool.{and_parts}
use Rattle.law_clients.specs.Types.{Access, Check, Condition, Decision, Image, Key, Keyed, Meta, Pair, PlanStep, Read, Record, RecoverPhase, RecoverStep, Reply, Request, Scan, Span, Statement, Table, TableName, Test, TxId, VacuumStep, Value, Write}
use Rattle.sdb_types.specs.declared.record.Reply.TheVariants as reply
use Rattle.sdb_types.specs.declared.record.Request.TheVariants as ask
use Rattle.sdb_types.specs.declared.record.Condition.TheVariants as condition
use Rattle.sdb_types.specs.declared.record.State.TheVariants as state
use Rattle.sdb_types.specs.declared.record.Put.{Put}
use Rattle.sdb_types.specs.Contents.{CanAnswer, are_rows_of, in_span, rise, sent}
use Rattle.sdb_types.specs.Order.{table_cmp, same_key}
use Rattle.sdb_types.proofs.Public.{append_all, key_exact, table_exact}
use Rattle.sdb_snapshot.specs.Entries.{value_at}
use Rattle.sdb_record.specs.declared.access.Access.TheVariants as access
use Rattle.sdb_record.specs.declared.coordinator.Decision.TheVariants as decision
use Rattle.sdb_record.specs.declared.write.Change.TheVariants as change
use Rattle.sdb_record.specs.Coordinator.{coordinator_key_of, coordinator_row_of, coordinator_table, is_coordinator_table}
use Rattle.sdb_record.specs.Moved.{version_of}
use Rattle.sdb_record.specs.Parts.{before_part, before_record, record_with}
use Rattle.sdb_record.specs.Meta.{id_in}
use Rattle.sdb_record.specs.Rolls.{forward_record, is_tombstone, prepared_record, undo}
use Rattle.sdb_record.specs.Groups.{IsGroup, grouped, in_groups}
use Rattle.sdb_record.proofs.Public.{all_at, each_group, forward-key, grouped_all, place_of_grouped, prepared-key}
use Rattle.sdb_record.specs.Among.{is_written}
use Rattle.sdb_model.specs.declared.statement.Statement.TheVariants as statement
use Rattle.sdb_model.specs.Access.{in_access}
use Rattle.sdb_model.specs.Events.{table_asked}
use Rattle.sdb_model.specs.Exec.{all_rows, find_table, key_of, passes, with_named, with_sets}
use Rattle.sdb_model.specs.Rows.{order_names}
use Rattle.sdb_exec.specs.declared.plan.PlanStep.TheVariants.{Finished, Read as Wants}
use Rattle.sdb_exec.specs.Plans.{Planned, changes_on, columns_at, finished, first_unfit, put_row, step_at, step_of}
use Rattle.sdb_model.specs.Reads.{access_by, access_for, access_of, all_fixed}
use Rattle.sdb_phases.specs.declared.step.DecidePhase.TheVariants as decides
use Rattle.sdb_phases.specs.declared.step.RecoverStep.TheVariants as steps
use Rattle.sdb_phases.specs.declared.step.RecoverPhase.TheVariants as recover
use Rattle.sdb_phases.specs.Checks.{check_of_read, check_of_scan, checks}
use Rattle.sdb_phases.specs.Commit.{Stage, Preparing, Checking, Deciding, Forward, Stopping, Back, Over, pending}
use Rattle.sdb_phases.specs.Recover.{recover_back, recover_forward, recover_next, recover_request_at, is_as_found}
use Rattle.sdb_phases.proofs.Public.{by_steps_recover_rows as by_steps}
use Rattle.sdb_phases.specs.Work.{Work, abort_of, back_of, backs, decide_of, forward_of, forwards, forwards_of, look_of, prepare_of, prepares, prepares_of, is_as_prepared}
use Rattle.sdb_txn.specs.Read.{Asking, Bad, Ended, Firm, Kind, Open, ReadStage, Resolving, answered, kind_of, read_pending_at, read_step, request_of, resolved, settle, settle_one}
use Rattle.sdb_snapshot.specs.Reads.{ReadRecord, base_at, is_key_read, reads_of, with_images, with_read_record}
use Rattle.sdb_snapshot.specs.Seen.{Seen, overlay, tables_seen, with_get, with_scan, with_written}
use Rattle.sdb_snapshot.specs.Written.{with_change_of, with_write, with_writes, write_of}
use Rattle.sdb_vacuum.specs.Vacuum.{First, Malformed, Nothing, Over as Ends, Removing, Resolving as Resolves, Scanning as Scans, Tombstone, Unresolved, VacuumAt, VacuumStage, answered as sweep_answered, first_of, first_one, with_call, next_of_row, next_table, pending_at, removal_answered, resolved as sweep_resolved, step_at as swept_at, tombstone_or}
use Rattle.law_clients.specs.About.{AreListed, AreReadItemsIn, AreRecordsIn, AreWritesIn, IsIn, IsListed, IsRecordIn, IsSeenIn, IsStageIn, IsVacuumStageIn, IsVacuumIn, IsWorkIn}
use Rattle.sdb_types.specs.Exact.{equal_of}
use Rattle.sdb_model.specs.Tables.{is_table_of_run}
use Rattle.law_clients.proofs.Lists.{each_both, filter_all, map_all}

---- the keys of an access

abbrev pub access_table : Access → TableName
access_table (access.Get key) = key.table
access_table (access.Scan span) = span.table

by_own : (t : TableName) (a b : Option (List Value)) → access_table (access_by t a b) ≡ t
by_own t None b = refl
by_own t (Some ps) None = refl
by_own t (Some ps) (Some cs) = refl

for_own : (t : Table) (ts : List Test) → access_table (access_for t ts) ≡ t.name
for_own t ts = by_own t.name (all_fixed t ts t.partition) (all_fixed t ts (order_names t.clustering))

pub own_table : (t : Table) (s : Statement) → access_table (access_of t s) ≡ t.name
own_table t (statement.Insert s) = refl
own_table t (statement.Upsert s) = refl
own_table t (statement.Update s) = for_own t s.tests
own_table t (statement.Delete s) = for_own t s.tests
own_table t (statement.Select s) = for_own t s.tests
own_table t statement.Begin = for_own t []
own_table t statement.Commit = for_own t []
own_table t statement.Rollback = for_own t []
own_table t statement.Vacuum = for_own t []

pub inside_span : (span : Span) (q : Key) → in_span span q ≡ true → span.table ≡ q.table
inside_span span q h = table_exact span.table q.table (equal_of _ (and_parts (is_eq (table_cmp span.table q.table)) _ h).0)

inside : (a : Access) (q : Key) → in_access a q ≡ true → access_table a ≡ q.table
inside (access.Get key) q h = ap (λ (k : Key). k.table) (key_exact key q (equal_of _ h))
inside (access.Scan span) q h = inside_span span q h

---- lists

passed_all : {A : Type 0} (P : A → Type 0) (p : A → Bool) (xs : List A) → ((x : A) → p x ≡ true → P x) → AllByRecursion P (filter p xs)
passed_all P p [] g = tt
passed_all P p (x ∷ xs) g =
    let rest = passed_all P p xs g in
    elim (p x) as (λ b. p x ≡ b → AllByRecursion P (cond b (x ∷ filter p xs) (filter p xs))) [ true ↦ λ e. (g x e, rest) | false ↦ λ e. rest ] refl

each_all : {A : Type 0} (P : A → Type 0) (p : A → Bool) (xs : List A) → ((x : A) → p x ≡ true → P x) → list_all p xs ≡ true → AllByRecursion P xs
each_all P p [] g h = tt
each_all P p (x ∷ xs) g h = let parts = and_parts (p x) (list_all p xs) h in (g x parts.0, each_all P p xs g parts.1)

some_is : {A : Type 0} (P : A → Type 0) (x y : A) → P x → Some x ≡ Some y → P y
some_is {A} P x y h e = let same : x ≡ y = cc in subst P same h

one_of : {A : Type 0} (P : A → Type 0) (xs : List A) (i : ℕ) (x : A) → AllByRecursion P xs → slice_get xs i ≡ Some x → P x
one_of P [] i x h e = absurd (cc)
one_of P (y ∷ ys) zero x h e = some_is P y x h.0 e
one_of P (y ∷ ys) (suc i) x h e = one_of P ys i x h.1 e

---- of one catalog

module _ (catalog : List Table) where
  in_same : (t u : TableName) → t ≡ u → IsListed catalog t → IsListed catalog u
  in_same t u e h = subst (IsListed catalog) e h

  -- a record of a key
  record_same : (key : Key) (r : Record) → r.key ≡ key → IsIn catalog key → IsIn catalog r.key
  record_same key r e h = in_same key.table r.key.table (ap (λ (k : Key). k.table) (sym e)) h

  ---- what was seen

  first_in : (images : List Record) → AreRecordsIn catalog images → IsRecordIn catalog (slice_get images 0)
  first_in [] h = tt
  first_in (r ∷ rs) h = h.0

  pub get_in : (s : Seen) (key : Key) (images : List Record) → IsIn catalog key → AreRecordsIn catalog images → IsSeenIn catalog s → IsSeenIn catalog (with_get s key (slice_get images 0))
  get_in s key images k h g = record {
    read_set = append_all (λ (e : ReadRecord). IsIn catalog e.0 × IsRecordIn catalog e.1) s.read_set ((key, slice_get images 0) ∷ []) g.read_set ((k, first_in images h), tt);
    reads = append_all (λ (r : Read). IsIn catalog r.key) s.reads (record { key = key; version = version_of (slice_get images 0) } ∷ []) g.reads (k, tt);
    scans = g.scans;
    writes = g.writes;
  }

  note_in : (read_set : List ReadRecord) (r : Record) → IsIn catalog r.key → AreReadItemsIn catalog read_set → AreReadItemsIn catalog (with_read_record read_set r.key (Some r))
  note_in read_set r k h =
      elim (is_key_read read_set r.key) as (λ b. AreReadItemsIn catalog (cond b read_set (read_set ++ (r.key, Some r) ∷ []))) [
        | true ↦ h
        | false ↦ append_all (λ (e : ReadRecord). IsIn catalog e.0 × IsRecordIn catalog e.1) read_set ((r.key, Some r) ∷ []) h ((k, k), tt)
      ]

  images_in : (read_set : List ReadRecord) (rs : List Record) → AreRecordsIn catalog rs → AreReadItemsIn catalog read_set → AreReadItemsIn catalog (with_images read_set rs)
  images_in read_set [] k h = h
  images_in read_set (r ∷ rs) k h = images_in (with_read_record read_set r.key (Some r)) rs k.1 (note_in read_set r k.0 h)

  pub scan_in : (s : Seen) (span : Span) (images : List Record) → IsListed catalog span.table → AreRecordsIn catalog images → IsSeenIn catalog s → IsSeenIn catalog (with_scan s span images)
  scan_in s span images k h g = record {
    read_set = images_in s.read_set images h g.read_set;
    reads = g.reads;
    scans = append_all (λ (x : Scan). IsListed catalog x.span.table) s.scans (record { span = span; found = reads_of images } ∷ []) g.scans (k, tt);
    writes = g.writes;
  }

  base_in : (read_set : List ReadRecord) (key : Key) → AreReadItemsIn catalog read_set → IsRecordIn catalog (base_at read_set key)
  base_in [] key h = tt
  base_in (e ∷ es) key h =
      elim (same_key key e.0) as (λ b. IsRecordIn catalog (option_and_then (λ (found : Option Record). found) (cond b (Some e.1) (value_at es key)))) [ true ↦ h.0.1 | false ↦ base_in es key h.1 ]

  write_in : (ws : List Write) (w : Write) → IsIn catalog w.key × IsRecordIn catalog w.base → AreWritesIn catalog ws → AreWritesIn catalog (with_write ws w)
  write_in [] w k h = (k, tt)
  write_in (x ∷ xs) w k h =
      let rest = write_in xs w k h.1 in
      elim (same_key w.key x.key) as (λ b. AreWritesIn catalog (cond b (with_change_of x w ∷ xs) (x ∷ with_write xs w))) [ true ↦ (h.0, h.1) | false ↦ (h.0, rest) ]

  abbrev pub AreChangesIn : List Keyed → Type 0
  AreChangesIn ks = AllByRecursion (λ k. IsIn catalog k.key) ks

  writes_in : (read_set : List ReadRecord) (ws : List Write) (ks : List Keyed) → AreChangesIn ks → AreReadItemsIn catalog read_set → AreWritesIn catalog ws → AreWritesIn catalog (with_writes read_set ws ks)
  writes_in read_set ws [] k n h = h
  writes_in read_set ws (c ∷ cs) k n h = writes_in read_set (with_write ws (write_of read_set c)) cs k.1 n (write_in ws (write_of read_set c) (k.0, base_in read_set c.key n) h)

  pub written_in : (s : Seen) (ks : List Keyed) → AreChangesIn ks → IsSeenIn catalog s → IsSeenIn catalog (with_written s ks)
  written_in s ks k g = record { read_set = g.read_set; reads = g.reads; scans = g.scans; writes = writes_in s.read_set s.writes ks k g.read_set g.writes }

  ---- what a plan gives

  abbrev pub GivesIn : PlanStep → Type 0
  GivesIn (Finished a ks) = AreChangesIn ks
  GivesIn (Wants a) = Unit {0}

  abbrev IsImageIn : Image → Type 0
  IsImageIn r = IsIn catalog r.key

  abbrev AreImagesIn : List Image → Type 0
  AreImagesIn rows = AllByRecursion IsImageIn rows

  changes_in : (t : Table) (st : Statement) (rows : List Image) → IsListed catalog t.name → AreImagesIn rows → AreChangesIn (changes_on t st rows)
  changes_in t (statement.Insert s) rows k h = elim (is_some (columns_at (key_of t s) rows)) as (λ b. AreChangesIn (cond b [] (put_row (key_of t s) (with_named t s.columns s.values []) ∷ []))) [ true ↦ tt | false ↦ (k, tt) ]
  changes_in t (statement.Upsert s) rows k h = (k, tt)
  changes_in t (statement.Update s) rows k h =
      map_all IsImageIn (λ (c : Keyed). IsIn catalog c.key) (λ (r : Image). record { key = r.key; change = change.Row (with_sets t s.sets r.columns) }) (filter (passes t s.tests) rows) (λ r i. i) (filter_all IsImageIn (passes t s.tests) rows h)
  changes_in t (statement.Delete s) rows k h =
      map_all IsImageIn (λ (c : Keyed). IsIn catalog c.key) (λ (r : Image). record { key = r.key; change = change.Delete }) (filter (passes t s.tests) rows) (λ r i. i) (filter_all IsImageIn (passes t s.tests) rows h)
  changes_in t (statement.Select s) rows k h = tt
  changes_in t statement.Begin rows k h = tt
  changes_in t statement.Commit rows k h = tt
  changes_in t statement.Rollback rows k h = tt
  changes_in t statement.Vacuum rows k h = tt

  finished_in : (t : Table) (st : Statement) (rows : List Image) (o : Option Key) → IsListed catalog t.name → AreImagesIn rows → GivesIn (finished t st rows o)
  finished_in t st rows None k h = changes_in t st rows k h
  finished_in t st rows (Some key) k h = tt

  step_in : (b : Bool) (t : Table) (st : Statement) (rows : List Image) → IsListed catalog t.name → AreImagesIn rows → GivesIn (step_at b t st rows)
  step_in false t st rows k h = tt
  step_in true t st rows k h = finished_in t st rows (first_unfit t rows) k h

  rows_in : (a : Access) (s : Seen) → IsListed catalog (access_table a) → AreImagesIn (overlay a s)
  rows_in a s k = passed_all IsImageIn (λ (r : Image). in_access a r.key) (all_rows (tables_seen s)) (λ r e. in_same (access_table a) r.key.table (inside a r.key e) k)

  -- the access of a plan is on its table
  pub access_in : (p : Planned) (a : Access) → IsListed catalog p.table.name → a ≡ access_of p.table p.statement → IsListed catalog (access_table a)
  access_in p a k e = in_same p.table.name (access_table a) (sym (ap access_table e ∙ own_table p.table p.statement)) k

  pub gives_in : (p : Planned) (a : Access) (s : Seen) → IsListed catalog p.table.name → a ≡ access_of p.table p.statement → GivesIn (step_of p (overlay a s))
  gives_in p a s k e = step_in p.asked p.table p.statement (overlay a s) k (rows_in a s (access_in p a k e))

  ---- the stages of a read

  settled_in : (images left : List Record) → AreRecordsIn catalog images → AreRecordsIn catalog left → IsStageIn catalog (settle images left)
  settled_in images [] h g = h
  settled_in images (r ∷ left) h g = by_kind (kind_of r) (settled_in (images ++ r ∷ []) left (append_all (λ (x : Record). IsIn catalog x.key) images (r ∷ []) h (g.0, tt)) g.1)
    where
      by_kind : (k : Kind) → IsStageIn catalog (settle (images ++ r ∷ []) left) → IsStageIn catalog (settle_one k images r left (settle (images ++ r ∷ []) left))
      by_kind Firm rest = rest
      by_kind (Open meta) rest = (h, g.0, g.1)
      by_kind Bad rest = tt

  rows_of : (span : Span) (rows : List Record) → IsListed catalog span.table → are_rows_of span rows ≡ true → AreRecordsIn catalog rows
  rows_of span rows k h =
      each_all (λ (r : Record). IsIn catalog r.key) (λ (r : Record). in_span span r.key) rows (λ r e. in_same span.table r.key.table (inside_span span r.key e) k) (and_parts (rise rows) (list_all (λ (r : Record). in_span span r.key) rows) h).1

  answered_in : (a : Access) (r : Reply) → IsListed catalog (access_table a) → CanAnswer (request_of a) r → IsStageIn catalog (answered r)
  answered_in (access.Get key) (reply.Found None) k h = tt
  answered_in (access.Get key) (reply.Found (Some r)) k h = settled_in [] (r ∷ []) tt (record_same key r h k, tt)
  answered_in (access.Get key) (reply.Rows rows) k h = absurd h
  answered_in (access.Get key) reply.Applied k h = absurd h
  answered_in (access.Get key) (reply.NotMet found) k h = absurd h
  answered_in (access.Get key) (reply.NotAll place there) k h = absurd h
  answered_in (access.Get key) reply.Fault k h = tt
  answered_in (access.Get key) reply.NoMemory k h = tt
  answered_in (access.Scan span) (reply.Found found) k h = absurd h
  answered_in (access.Scan span) (reply.Rows rows) k h = settled_in [] rows tt (rows_of span rows k h)
  answered_in (access.Scan span) reply.Applied k h = absurd h
  answered_in (access.Scan span) (reply.NotMet found) k h = absurd h
  answered_in (access.Scan span) (reply.NotAll place there) k h = absurd h
  answered_in (access.Scan span) reply.Fault k h = tt
  answered_in (access.Scan span) reply.NoMemory k h = tt

  before_in : (rec : Record) → IsIn catalog rec.key → IsRecordIn catalog (before_record rec)
  unfolding before_record
  before_in rec k = by_part (before_part rec.columns)
    where
      by_part : (ps : List Pair) → IsRecordIn catalog (record_with rec.key ps)
      by_part [] = tt
      by_part (p ∷ ps) = k

  forward_in : (rec : Record) (at : ℤ) → IsIn catalog rec.key → IsIn catalog (forward_record rec at).key
  forward_in rec at k = record_same rec.key (forward_record rec at) (forward-key rec at) k

  -- the record that a recovery ends with
  abbrev FoundIn : RecoverPhase × RecoverStep → Type 0
  FoundIn (p, steps.More) = Unit {0}
  FoundIn (p, steps.Image o) = IsRecordIn catalog o
  FoundIn (p, steps.Busy id at) = Unit {0}
  FoundIn (p, steps.Faulted) = Unit {0}
  FoundIn (p, steps.BadRecord key) = Unit {0}
  FoundIn (p, steps.NoMemory) = Unit {0}

  recovered_in : (rec : Record) (meta : Meta) (p : RecoverPhase) (now : ℤ) (r : Reply) → IsIn catalog rec.key → FoundIn (recover_next rec meta p now r)
  recovered_in rec meta p now r k =
      by_steps rec meta FoundIn
      (record {
        forward = λ at. tt;
        back = tt;
        abort = λ now. tt;
        again = tt;
        forwarded = λ at. forward_in rec at k;
        undone = before_in rec k;
        busy = tt;
        fault = tt;
        bad = tt;
        no_memory = tt;
      }) p now r

  resolved_in : (images : List Record) (rec : Record) (meta : Meta) (left : List Record) (n : RecoverPhase × RecoverStep) → AreRecordsIn catalog images → IsIn catalog rec.key → AreRecordsIn catalog left → FoundIn n → IsStageIn catalog (resolved images rec meta left n)
  resolved_in images rec meta left (p, steps.More) h k g i = (h, k, g)
  resolved_in images rec meta left (p, steps.Image None) h k g i = settled_in images left h g
  resolved_in images rec meta left (p, steps.Image (Some b)) h k g i = settled_in (images ++ b ∷ []) left (append_all (λ (x : Record). IsIn catalog x.key) images (b ∷ []) h (i, tt)) g
  resolved_in images rec meta left (p, steps.Busy id at) h k g i = tt
  resolved_in images rec meta left (p, steps.Faulted) h k g i = tt
  resolved_in images rec meta left (p, steps.BadRecord key) h k g i = tt
  resolved_in images rec meta left (p, steps.NoMemory) h k g i = tt

  -- where a reply that the pending call can get leads a read
  pub stepped_in : (a : Access) (s : ReadStage) (q : Request) (now : ℤ) (r : Reply) → IsListed catalog (access_table a) → IsStageIn catalog s → read_pending_at (request_of a) s ≡ Some q → CanAnswer q r → IsStageIn catalog (read_step s now r)
  stepped_in a Asking q now r k h e can = answered_in a r k (let same : q ≡ request_of a = cc in subst (λ (x : Request). CanAnswer x r) same can)
  stepped_in a (Resolving images rec meta p left) q now r k h e can = resolved_in images rec meta left (recover_next rec meta p now r) h.0 h.1 h.2 (recovered_in rec meta p now r h.1)
  stepped_in a (Ended s) q now r k h e can = absurd (cc)

  ---- what is asked

  abbrev pub IsPlayed : Request → Type 0
  IsPlayed q = is_table_of_run catalog (table_asked q) ≡ true

  listed_played : (t : TableName) → IsListed catalog t → is_table_of_run catalog t ≡ true
  listed_played t h = ap (λ (x : Bool). x || is_coordinator_table t) h

  or_second : (a b : Bool) → b ≡ true → (a || b) ≡ true
  or_second true b e = refl
  or_second false b e = e

  look_played : (id : TxId) → IsPlayed (look_of id)
  unfolding coordinator_key_of
  look_played id = or_second (is_some (find_table catalog coordinator_table)) (is_coordinator_table coordinator_table) refl

  row_played : (id : TxId) (d : Decision) (now : ℤ) → is_table_of_run catalog (coordinator_row_of id d now).key.table ≡ true
  unfolding coordinator_row_of coordinator_key_of
  row_played id d now = or_second (is_some (find_table catalog coordinator_table)) (is_coordinator_table coordinator_table) refl

  abort_played : (id : TxId) (now : ℤ) → IsPlayed (abort_of id now)
  abort_played id now = row_played id decision.Aborted now

  decide_played : (id : TxId) (now : ℤ) → IsPlayed (decide_of id now)
  decide_played id now = row_played id decision.Committed now

  undo_played : (c : Condition) (key : Key) (o : Option Record) → IsIn catalog key → IsRecordIn catalog o → IsPlayed (undo c key o)
  undo_played c key None k h = listed_played key.table k
  undo_played c key (Some b) k h = listed_played b.key.table h

  recover_played : (rec : Record) (meta : Meta) (p : RecoverPhase) (q : Request) → IsIn catalog rec.key → recover_request_at rec meta p ≡ Some q → IsPlayed q
  recover_played rec meta recover.Look q k e = some_is IsPlayed (look_of meta.id) q (look_played meta.id) e
  recover_played rec meta (recover.Abort now) q k e = some_is IsPlayed (abort_of meta.id now) q (abort_played meta.id now) e
  recover_played rec meta recover.Again q k e = some_is IsPlayed (look_of meta.id) q (look_played meta.id) e
  recover_played rec meta (recover.Forward at) q k e = some_is IsPlayed (recover_forward rec meta at) q (listed_played (forward_record rec at).key.table (forward_in rec at k)) e
  recover_played rec meta recover.Back q k e = some_is IsPlayed (recover_back rec meta) q (undo_played (is_as_found meta) rec.key (before_record rec) k (before_in rec k)) e
  recover_played rec meta recover.Ended q k e = absurd (cc)

  asked_played : (a : Access) → IsListed catalog (access_table a) → IsPlayed (request_of a)
  asked_played (access.Get key) k = listed_played key.table k
  asked_played (access.Scan span) k = listed_played span.table k

  pub read_played : (a : Access) (s : ReadStage) (q : Request) → IsListed catalog (access_table a) → IsStageIn catalog s → read_pending_at (request_of a) s ≡ Some q → IsPlayed q
  read_played a Asking q k h e = some_is IsPlayed (request_of a) q (asked_played a k) e
  read_played a (Resolving images rec meta p left) q k h e = recover_played rec meta p q h.1 e
  read_played a (Ended s) q k h e = absurd (cc)

  abbrev IsWriteIn : Write → Type 0
  IsWriteIn w = IsIn catalog w.key × IsRecordIn catalog w.base

  -- puts of records of listed tables
  abbrev AreOfTables : List Put → Type 0
  AreOfTables ps = AllByRecursion (λ (p : Put). IsIn catalog p.rec.key) ps

  sent_played : (p : Put) (ps : List Put) → AreOfTables (p ∷ ps) → IsPlayed (sent (p ∷ ps))
  sent_played p [] h = listed_played p.rec.key.table h.0
  sent_played p (q ∷ ps) h = listed_played p.rec.key.table h.0

  group_played : (f : Write → Put) → ((w : Write) → IsWriteIn w → IsIn catalog (f w).rec.key) → (g : List Write) → IsGroup g × AllByRecursion IsWriteIn g → IsPlayed (sent (map f g))
  group_played f of [] h = absurd (omega (arith, h.0.some))
  group_played f of (w ∷ ws) h = sent_played (f w) (map f ws) (map_all IsWriteIn (λ (p : Put). IsIn catalog p.rec.key) f (w ∷ ws) of h.1)

  -- each group of writes of listed tables
  groups_in : (ws : List Write) → AllByRecursion IsWriteIn ws → AllByRecursion (λ (g : List Write). IsGroup g × AllByRecursion IsWriteIn g) (grouped ws)
  groups_in ws h = each_both IsGroup (AllByRecursion IsWriteIn) (λ g. IsGroup g × AllByRecursion IsWriteIn g) (grouped ws) (λ g a b. (a, b)) (each_group ws) (grouped_all IsWriteIn ws h)

  writes_in_groups : (ws : List Write) → AllByRecursion IsWriteIn ws → AllByRecursion IsWriteIn (in_groups ws)
  writes_in_groups ws h = all_at IsWriteIn (in_groups ws) (λ i w at. let f = place_of_grouped ws i w at in one_of IsWriteIn ws f.0 w h f.1)

  prepare_in : (id : TxId) (now : ℤ) (w : Write) → IsWriteIn w → IsIn catalog (prepare_of id now w).rec.key
  prepare_in id now w h = record_same w.key (prepared_record w id now) (prepared-key w id now) h.0

  forward_in_table : (id : TxId) (now : ℤ) (w : Write) → IsWriteIn w → IsIn catalog (forward_of id now w).rec.key
  forward_in_table id now w h = forward_in (prepared_record w id now) now (prepare_in id now w h)

  back_played : (id : TxId) (w : Write) → IsWriteIn w → IsPlayed (back_of id w)
  back_played id w h = undo_played (is_as_prepared id w) w.key w.base h.0 h.1

  abbrev IsCheckPlayed : Check → Type 0
  IsCheckPlayed c = IsPlayed c.request

  checks_played : (p : Work) → IsWorkIn catalog p → AllByRecursion IsCheckPlayed (checks p)
  checks_played p h =
      let unwritten : Read → Bool = λ r. not (is_written p.writes r.key) in
      append_all IsCheckPlayed (map check_of_read (filter unwritten p.reads)) (map (check_of_scan p.writes) p.scans)
      (map_all (λ (r : Read). IsIn catalog r.key) IsCheckPlayed check_of_read (filter unwritten p.reads) (λ r i. listed_played r.key.table i) (filter_all (λ (r : Read). IsIn catalog r.key) unwritten p.reads h.reads))
      (map_all (λ (s : Scan). IsListed catalog s.span.table) IsCheckPlayed (check_of_scan p.writes) p.scans (λ s i. listed_played s.span.table i) h.scans)

  mapped_played : (o : Option Check) (q : Request) → IfSome o IsCheckPlayed → option_map (λ (c : Check). c.request) o ≡ Some q → IsPlayed q
  mapped_played None q h e = absurd (cc)
  mapped_played (Some c) q h e = some_is IsPlayed c.request q h e

  some_of : (cs : List Check) (i : ℕ) → AllByRecursion IsCheckPlayed cs → IfSome (slice_get cs i) IsCheckPlayed
  some_of [] i h = tt
  some_of (c ∷ cs) zero h = h.0
  some_of (c ∷ cs) (suc i) h = some_of cs i h.1

  pub commit_played : (p : Work) (s : Stage) (q : Request) → IsWorkIn catalog p → pending p s ≡ Some q → IsPlayed q
  commit_played p (Preparing i) q h e = one_of IsPlayed (prepares p) i q (map_all (λ (g : List Write). IsGroup g × AllByRecursion IsWriteIn g) IsPlayed (prepares_of p.id p.now) (grouped p.writes) (group_played (prepare_of p.id p.now) (prepare_in p.id p.now)) (groups_in p.writes h.writes)) e
  commit_played p (Checking i) q h e = mapped_played (slice_get (checks p) i) q (some_of (checks p) i (checks_played p h)) e
  commit_played p (Deciding decides.Put) q h e = some_is IsPlayed (decide_of p.id p.now) q (decide_played p.id p.now) e
  commit_played p (Deciding decides.Look) q h e = some_is IsPlayed (look_of p.id) q (look_played p.id) e
  commit_played p (Deciding decides.Abort) q h e = some_is IsPlayed (abort_of p.id p.now) q (abort_played p.id p.now) e
  commit_played p (Deciding decides.Again) q h e = some_is IsPlayed (look_of p.id) q (look_played p.id) e
  commit_played p (Deciding decides.Ended) q h e = absurd (cc)
  commit_played p (Forward i) q h e = one_of IsPlayed (forwards p) i q (map_all (λ (g : List Write). IsGroup g × AllByRecursion IsWriteIn g) IsPlayed (forwards_of p.id p.now) (grouped p.writes) (group_played (forward_of p.id p.now) (forward_in_table p.id p.now)) (groups_in p.writes h.writes)) e
  commit_played p (Stopping a n) q h e = some_is IsPlayed (abort_of p.id p.now) q (abort_played p.id p.now) e
  commit_played p (Back a n i) q h e = one_of IsPlayed (backs p) i q (map_all IsWriteIn IsPlayed (back_of p.id) (in_groups p.writes) (back_played p.id) (writes_in_groups p.writes h.writes)) e
  commit_played p (Over a) q h e = absurd (cc)

  ---- the stages of a VACUUM

  abbrev AreSweptIn : VacuumAt × VacuumStep → Type 0
  AreSweptIn x = IsVacuumIn catalog x.0

  abbrev IsFirstIn : First → Type 0
  IsFirstIn Nothing = Unit {0}
  IsFirstIn (Tombstone b left) = IsIn catalog b.key × AreRecordsIn catalog left
  IsFirstIn (Unresolved r meta left) = IsIn catalog r.key × AreRecordsIn catalog left
  IsFirstIn (Malformed key) = Unit {0}

  first_row_in : (left : List Record) → AreRecordsIn catalog left → IsFirstIn (first_of left)
  first_row_in [] h = tt
  first_row_in (r ∷ left) h = by_kind (kind_of r) (first_row_in left h.1)
    where
      by_mark : (b : Bool) → IsFirstIn (first_of left) → IsFirstIn (cond b (Tombstone r left) (first_of left))
      by_mark true rest = (h.0, h.1)
      by_mark false rest = rest

      by_kind : (k : Kind) → IsFirstIn (first_of left) → IsFirstIn (first_one k r left (first_of left))
      by_kind Firm rest = by_mark (is_tombstone r) rest
      by_kind (Open meta) rest = (h.0, h.1)
      by_kind Bad rest = tt

  next_table_in : (ss : List Span) (n : ℕ) → AreListed catalog ss → AreSweptIn (next_table ss n)
  next_table_in [] n h = (tt, tt)
  next_table_in (s ∷ ss) n h = (h.0, h.1)

  going_in : (ss : List Span) (n : ℕ) (f : First) → AreListed catalog ss → IsFirstIn f → AreSweptIn (next_of_row ss n f)
  going_in ss n Nothing h g = next_table_in ss n h
  going_in ss n (Tombstone b left) h g = ((g.0, g.1), h)
  going_in ss n (Unresolved r meta left) h g = ((g.0, g.1), h)
  going_in ss n (Malformed key) h g = (tt, h)

  goes_in : (ss : List Span) (n : ℕ) (left : List Record) → AreListed catalog ss → AreRecordsIn catalog left → AreSweptIn (next_of_row ss n (first_of left))
  goes_in ss n left h g = going_in ss n (first_of left) h (first_row_in left g)

  sweep_rows_in : (ss : List Span) (n : ℕ) (span : Span) (r : Reply) → AreListed catalog ss → IsListed catalog span.table → CanAnswer (ask.Scan span) r → AreSweptIn (sweep_answered ss n r)
  sweep_rows_in ss n span (reply.Rows rows) h k can = goes_in ss n rows h (rows_of span rows k can)
  sweep_rows_in ss n span (reply.Found found) h k can = (tt, h)
  sweep_rows_in ss n span reply.Applied h k can = (tt, h)
  sweep_rows_in ss n span (reply.NotMet found) h k can = (tt, h)
  sweep_rows_in ss n span (reply.NotAll place there) h k can = (tt, h)
  sweep_rows_in ss n span reply.Fault h k can = (tt, h)
  sweep_rows_in ss n span reply.NoMemory h k can = (tt, h)

  image_swept_in : (ss : List Span) (n : ℕ) (left : List Record) (b : Record) → AreListed catalog ss → AreRecordsIn catalog left → IsIn catalog b.key → AreSweptIn (tombstone_or ss n left b)
  image_swept_in ss n left b h g k = by_mark (is_tombstone b)
    where
      by_mark : (t : Bool) → AreSweptIn (cond t (with_call ss n (Removing b left)) (next_of_row ss n (first_of left)))
      by_mark true = ((k, g), h)
      by_mark false = goes_in ss n left h g

  resolved_swept_in : (ss : List Span) (n : ℕ) (rec : Record) (meta : Meta) (left : List Record) (x : RecoverPhase × RecoverStep) → AreListed catalog ss → IsIn catalog rec.key → AreRecordsIn catalog left → FoundIn x → AreSweptIn (sweep_resolved ss n rec meta left x)
  resolved_swept_in ss n rec meta left (p, steps.More) h k g i = ((k, g), h)
  resolved_swept_in ss n rec meta left (p, steps.Image None) h k g i = goes_in ss n left h g
  resolved_swept_in ss n rec meta left (p, steps.Image (Some b)) h k g i = image_swept_in ss n left b h g i
  resolved_swept_in ss n rec meta left (p, steps.Busy id at) h k g i = goes_in ss n left h g
  resolved_swept_in ss n rec meta left (p, steps.Faulted) h k g i = (tt, h)
  resolved_swept_in ss n rec meta left (p, steps.BadRecord key) h k g i = (tt, h)
  resolved_swept_in ss n rec meta left (p, steps.NoMemory) h k g i = (tt, h)

  removal_in : (ss : List Span) (n : ℕ) (left : List Record) (r : Reply) → AreListed catalog ss → AreRecordsIn catalog left → AreSweptIn (removal_answered ss n left r)
  removal_in ss n left reply.Applied h g = goes_in ss (n + 1) left h g
  removal_in ss n left (reply.NotMet found) h g = goes_in ss n left h g
  removal_in ss n left (reply.Found found) h g = (tt, h)
  removal_in ss n left (reply.Rows rows) h g = (tt, h)
  removal_in ss n left (reply.NotAll place there) h g = (tt, h)
  removal_in ss n left reply.Fault h g = (tt, h)
  removal_in ss n left reply.NoMemory h g = (tt, h)

  -- where a reply that the pending call can get leads a VACUUM
  pub swept_in : (ss : List Span) (n : ℕ) (s : VacuumStage) (q : Request) (now : ℤ) (r : Reply) → IsVacuumStageIn catalog s → AreListed catalog ss → pending_at s ≡ Some q → CanAnswer q r → AreSweptIn (swept_at ss n s now r)
  swept_in ss n (Scans span) q now r h g e can = sweep_rows_in ss n span r g h (let same : q ≡ ask.Scan span = cc in subst (λ (x : Request). CanAnswer x r) same can)
  swept_in ss n (Resolves rec meta p left) q now r h g e can = resolved_swept_in ss n rec meta left (recover_next rec meta p now r) g h.0 h.1 (recovered_in rec meta p now r h.0)
  swept_in ss n (Removing b left) q now r h g e can = removal_in ss n left r g h.1
  swept_in ss n Ends q now r h g e can = absurd (cc)

  pub sweep_played : (s : VacuumStage) (q : Request) → IsVacuumStageIn catalog s → pending_at s ≡ Some q → IsPlayed q
  sweep_played (Scans span) q h e = some_is IsPlayed (ask.Scan span) q (listed_played span.table h) e
  sweep_played (Resolves rec meta p left) q h e = recover_played rec meta p q h.0 e
  sweep_played (Removing b left) q h e = by_id (id_in b.columns) e
    where
      by_id : (o : Option TxId) → option_map (λ (id : TxId). ask.DeleteIf b.key (condition.Version id state.Committed)) o ≡ Some q → IsPlayed q
      by_id None e = absurd (cc)
      by_id (Some id) e = some_is IsPlayed (ask.DeleteIf b.key (condition.Version id state.Committed)) q (listed_played b.key.table h.0) e
  sweep_played Ends q h e = absurd (cc)
