-- The calls of a COMMIT, one after the other: which groups of keys they prepare, and that all were applied where it decides.
use Rattle.std.proofs.Common.{◌≡◌, ◌⊎◌, inl, inr, ◌<◌, ◌≤◌, ◌+◌, ℕ, ℤ, zero, suc, Bool, true, false, List, [], ◌∷◌, ◌++◌, length, map, take, Option, Some, None, refl, sym, ap, subst, pos, ◌∙◌, arith}
use Rattle.std.specs.Prelude.{Contains, filter, if◌then◌else◌, nat_lt, slice_get}
use Rattle.std.specs.List.{AllByRecursion}
use Rattle.std.specs.Option.{option_and_then, option_map, option_map_or}
use Rattle.std.proofs.lemmas.Bool.Decides.{nat_tests}
use Rattle.std.proofs.lemmas.List.{append-nil, length-map, map-append, take_all}
use Rattle.std.proofs.lemmas.List.Elements.{Contains-push_cases, filter-append}
use Rattle.law_runs.specs.Types.{Check, DecidePhase, DecideStep, Key, Outcome, Pair, Record, Reply, Request, TxId, ValidateStep, Value, Write}
use Rattle.sdb_types.specs.declared.record.Put.{Put}
use Rattle.sdb_types.specs.declared.record.Reply.TheVariants as reply
use Rattle.sdb_types.specs.declared.record.Request.TheVariants as ask
use Rattle.sdb_types.specs.declared.record.Condition.TheVariants as condition
use Rattle.sdb_types.specs.declared.value.Value.TheVariants as value
use Rattle.sdb_types.specs.Contents.{put_at}
use Rattle.sdb_types.specs.Replies.{is_applied}
use Rattle.sdb_types.proofs.Public.{clash, none_some, some_is}
use Rattle.sdb_record.specs.declared.coordinator.Decision.TheVariants as decision
use Rattle.sdb_record.specs.Coordinator.{coordinator_row_of}
use Rattle.sdb_record.specs.Groups.{grouped, in_groups, keys_of_writes}
use Rattle.sdb_record.specs.Rolls.{IsWrite, undo}
use Rattle.sdb_model.specs.Calls.{StoreCall, calls_before, is_read, put_by}
use Rattle.sdb_model.specs.Counted.{prepares_in}
use Rattle.sdb_model.specs.Requests.{keys_asked}
use Rattle.sdb_model.specs.Transactions.{prepares}
use Rattle.sdb_phases.specs.declared.step.DecidePhase.TheVariants as phase
use Rattle.sdb_phases.specs.declared.step.DecideStep.TheVariants as decide
use Rattle.sdb_phases.specs.declared.step.Outcome.TheVariants as outcome
use Rattle.sdb_phases.specs.declared.step.PrepareStep.TheVariants as prepare
use Rattle.sdb_phases.specs.declared.step.ValidateStep.TheVariants as validate
use Rattle.sdb_phases.specs.Checks.{checks}
use Rattle.sdb_phases.specs.Commit.{Stage, Preparing, Checking, Deciding, Forward, Stopping, Back, Over, after_abort, after_check, after_decide, after_prepare, back, checking, forward, pending, preparing}
use Rattle.sdb_phases.specs.Steps.{decide_next, decide_request_at, prepare_step, refused, touched_after}
use Rattle.sdb_phases.proofs.Public.{by_steps}
use Rattle.sdb_phases.specs.Work.{Work, abort_of, back_of, forwards_of, groups_of, look_of, prepares_of, is_as_prepared, writes_before}
use Rattle.sdb_phases.specs.Work as work
use Rattle.sdb_txn.specs.Phases.{IsNext}
use Rattle.law_clients.proofs.Public.{each_at}
use Rattle.law_answers.proofs.Public.{all_in_groups, before_stays, each_in, mapped_at, undo_unprepared}
use Rattle.law_runs.specs.Laws.{row_put}
use Rattle.law_runs.specs.Written.{PreparesAll, PutsCommitted, groups_applied, groups_of_keys, groups_prepared}
use Rattle.law_runs.proofs.GroupPuts.{group_is_prepared, prepare_keys}
use Rattle.law_runs.proofs.KeyGroups.{groups_same}
use Rattle.law_runs.proofs.RowWrites.{checks_read}
use Rattle.law_runs.proofs.Unprepared.{checks_no, decide_no, forwards_no, row_no}
use Rattle.law_runs.proofs.Writing.{write_keys}

---- the groups of keys that calls prepare

prepared_append : (id : TxId) (xs ys : List StoreCall) → groups_prepared id (xs ++ ys) ≡ groups_prepared id xs ++ groups_prepared id ys
prepared_append id xs ys = ap (map (λ (x : StoreCall). keys_asked x.request)) (filter-append (λ (x : StoreCall). prepares id x.request) xs ys) ∙ map-append (λ (x : StoreCall). keys_asked x.request) (prepares_in id xs) (prepares_in id ys)

module _ (id : TxId) (calls : List StoreCall) (m : StoreCall) where
  applied_more : groups_applied id (calls ++ m ∷ []) ≡ groups_applied id calls ++ groups_applied id (m ∷ [])
  applied_more = ap (groups_prepared id) (filter-append (λ (x : StoreCall). is_applied x.reply) calls (m ∷ [])) ∙ prepared_append id (filter (λ (x : StoreCall). is_applied x.reply) calls) (filter (λ (x : StoreCall). is_applied x.reply) (m ∷ []))

  none_prepared : prepares id m.request ≡ false → groups_prepared id (m ∷ []) ≡ []
  none_prepared f = ap (λ b. map (λ (x : StoreCall). keys_asked x.request) (if b then m ∷ [] else [])) f

  none_applied : prepares id m.request ≡ false → groups_applied id (m ∷ []) ≡ []
  none_applied f = by (is_applied m.reply)
    where
      by : (b : Bool) → groups_prepared id (if b then m ∷ [] else []) ≡ []
      by true = none_prepared f
      by false = refl

  pub one_prepared : (ks : List Key) → prepares id m.request ≡ true → keys_asked m.request ≡ ks → groups_prepared id (m ∷ []) ≡ ks ∷ []
  one_prepared ks t e = ap (λ b. map (λ (x : StoreCall). keys_asked x.request) (if b then m ∷ [] else [])) t ∙ ap (λ qs. qs ∷ []) e

  one_applied : (ks : List Key) → is_applied m.reply ≡ true → prepares id m.request ≡ true → keys_asked m.request ≡ ks → groups_applied id (m ∷ []) ≡ ks ∷ []
  one_applied ks a t e = ap (λ b. groups_prepared id (if b then m ∷ [] else [])) a ∙ one_prepared ks t e

  -- a call that prepares none
  prepared_same : prepares id m.request ≡ false → groups_prepared id (calls ++ m ∷ []) ≡ groups_prepared id calls
  prepared_same f = prepared_append id calls (m ∷ []) ∙ ap (λ gs. groups_prepared id calls ++ gs) (none_prepared f) ∙ append-nil (groups_prepared id calls)

  applied_same : prepares id m.request ≡ false → groups_applied id (calls ++ m ∷ []) ≡ groups_applied id calls
  applied_same f = applied_more ∙ ap (λ gs. groups_applied id calls ++ gs) (none_applied f) ∙ append-nil (groups_applied id calls)

---- where a COMMIT is

-- the keys that it writes, in groups
abbrev pub key_groups : Work → List (List Key)
key_groups p = groups_of_keys (write_keys p.writes)

-- its calls prepared these groups, and each prepare was applied
abbrev pub HavePrepared : Work → List StoreCall → List (List Key) → Type 0
HavePrepared p calls groups = (groups_prepared p.id calls ≡ groups) × (groups_applied p.id calls ≡ groups)

-- Until the deciding put each prepare was applied: those of the groups before this one, or of all.
abbrev pub ReadyAt : Work → List StoreCall → Stage → Type 0
ReadyAt p calls (Preparing i) = HavePrepared p calls (take i (key_groups p))
ReadyAt p calls (Checking i) = HavePrepared p calls (key_groups p)
ReadyAt p calls (Deciding phase.Put) = HavePrepared p calls (key_groups p)
ReadyAt p calls s = Unit {0}

pub record CommitPrepares (p : Work) (calls : List StoreCall) (s : Stage) : Type 0 where
  pub ready : ReadyAt p calls s
  pub sofar : PreparesAll (key_groups p) p.id calls

---- lists

take_next : (gs : List (List Write)) (i : ℕ) (g : List Write) → slice_get gs i ≡ Some g → take (i + 1) (map keys_of_writes gs) ≡ take i (map keys_of_writes gs) ++ keys_of_writes g ∷ []
take_next gs i g e = ap (λ n. take n (map keys_of_writes gs)) (one i) ∙ by gs i e
  where
    one : (n : ℕ) → n + 1 ≡ suc n
    one n = omega arith

    by : (xs : List (List Write)) (j : ℕ) → slice_get xs j ≡ Some g → take (suc j) (map keys_of_writes xs) ≡ take j (map keys_of_writes xs) ++ keys_of_writes g ∷ []
    by [] j k = none_some g k
    by (x ∷ xs) zero k = ap (λ (y : List Write). keys_of_writes y ∷ []) (some_is x g k)
    by (x ∷ xs) (suc j) k = ap (λ r. keys_of_writes x ∷ r) (by xs j k)

groups_next : (p : Work) (i : ℕ) (g : List Write) → slice_get (grouped p.writes) i ≡ Some g → take (i + 1) (key_groups p) ≡ take i (key_groups p) ++ keys_of_writes g ∷ []
groups_next p i g e = subst (λ gs. take (i + 1) gs ≡ take i gs ++ keys_of_writes g ∷ []) (groups_same p.writes) (take_next (grouped p.writes) i g e)

groups_long : (p : Work) → length (key_groups p) ≡ groups_of p
groups_long p = ap (λ (gs : List (List Key)). length gs) (sym (groups_same p.writes)) ∙ length-map (grouped p.writes) keys_of_writes

all_before : (n : ℕ) (calls : List StoreCall) → AllByRecursion (λ x. x.at < n) calls → calls_before n calls ≡ calls
all_before n [] all = refl
all_before n (x ∷ xs) all = ap (λ b. if b then x ∷ calls_before n xs else calls_before n xs) (low x.at all.0) ∙ ap (λ ms. x ∷ ms) (all_before n xs all.1)
  where
    low : (k : ℕ) → k < n → nat_lt k n ≡ true
    low k l = grind (arith, nat_tests)

at_end : (i n : ℕ) → nat_lt i n ≡ false → n ≤ i
at_end i n e = grind (arith, nat_tests)

---- requests that decide nothing

abbrev second : List Pair → Option Value
second (x ∷ y ∷ ps) = Some y.value
second ps = None

abort_other : (id : TxId) (a b : ℤ) → abort_of id a ≡ row_put id decision.Committed b → ⊥
unfolding coordinator_row_of
abort_other id a b e = by (ap (λ (q : Request). option_and_then (λ (r : Record). second r.columns) (put_by q)) e)
  where
    by : Some (value.Int (pos 4)) ≡ Some (value.Int (pos 3)) → ⊥
    by k = cc

undo_other : (p : Work) (w : Write) (o : Option Record) (now : ℤ) → undo (is_as_prepared p.id w) w.key o ≡ row_put p.id decision.Committed now → ⊥
undo_other p w None now e = cc
undo_other p w (Some b) now e = cc

---- one call more

module _ (p : Work) (writes : AllByRecursion IsWrite p.writes) (calls : List StoreCall) (m : StoreCall) (older : AllByRecursion (λ x. x.at < m.at) calls) where
  abbrev groups : List (List Key)
  groups = key_groups p

  abbrev more : List StoreCall
  more = calls ++ m ∷ []

  abbrev Decides : ℤ → Type 0
  Decides now = m.request ≡ row_put p.id decision.Committed now

  now_before : calls_before m.at more ≡ calls
  now_before = before_stays p.id calls m older m.at (omega arith) ∙ all_before m.at calls older

  decided_more : PreparesAll groups p.id calls → ((now : ℤ) → Decides now → groups_applied p.id calls ≡ groups) → (x : StoreCall) → Contains more x → PutsCommitted p.id x → groups_applied p.id (calls_before x.at more) ≡ groups
  decided_more h own x has e = by (Contains-push_cases calls m x has)
    where
      le : (a b : ℕ) → a < b → a ≤ b
      le a b l = omega arith

      by : Contains calls x ⊎ (m ≡ x) → groups_applied p.id (calls_before x.at more) ≡ groups
      by (inl old) = ap (groups_applied p.id) (before_stays p.id calls m older x.at (le x.at m.at (each_in (λ (y : StoreCall). y.at < m.at) calls x older old))) ∙ h.decided x old e
      by (inr same) = subst (λ (y : StoreCall). groups_applied p.id (calls_before y.at more) ≡ groups) same (ap (groups_applied p.id) now_before ∙ own e.0 (ap (λ (y : StoreCall). y.request) same ∙ e.1))

  other_more : prepares p.id m.request ≡ false → ((now : ℤ) → Decides now → groups_applied p.id calls ≡ groups) → PreparesAll groups p.id calls → PreparesAll groups p.id more
  other_more f own h = record { count = h.count; prepared = prepared_same p.id calls m f ∙ h.prepared; decided = decided_more h own }

  have_same : (gs : List (List Key)) → prepares p.id m.request ≡ false → HavePrepared p calls gs → HavePrepared p more gs
  have_same gs f h = (prepared_same p.id calls m f ∙ h.0, applied_same p.id calls m f ∙ h.1)

  ---- a prepare

  module _ (i : ℕ) (asked : slice_get (work.prepares p) i ≡ Some m.request) (ready : HavePrepared p calls (take i groups)) where
    abbrev at_group : (g : List Write) × (slice_get (grouped p.writes) i ≡ Some g) × (prepares_of p.id p.now g ≡ m.request)
    at_group = mapped_at (prepares_of p.id p.now) (grouped p.writes) i m.request asked

    is_put : prepares p.id m.request ≡ true
    is_put = sym (ap (prepares p.id) at_group.2) ∙ group_is_prepared p.writes i at_group.0 at_group.1 p.id p.now

    keys_are : keys_asked m.request ≡ keys_of_writes at_group.0
    keys_are = sym (ap keys_asked at_group.2) ∙ prepare_keys p.id p.now at_group.0

    next_groups : take i groups ++ keys_of_writes at_group.0 ∷ [] ≡ take (i + 1) groups
    next_groups = sym (groups_next p i at_group.0 at_group.1)

    prepared_next : groups_prepared p.id more ≡ take (i + 1) groups
    prepared_next = prepared_append p.id calls (m ∷ []) ∙ ap (λ gs. gs ++ groups_prepared p.id (m ∷ [])) ready.0 ∙ ap (λ gs. take i groups ++ gs) (one_prepared p.id calls m (keys_of_writes at_group.0) is_put keys_are) ∙ next_groups

    applied_next : is_applied m.reply ≡ true → HavePrepared p more (take (i + 1) groups)
    applied_next a = (prepared_next, applied_more p.id calls m ∙ ap (λ gs. gs ++ groups_applied p.id (m ∷ [])) ready.1 ∙ ap (λ gs. take i groups ++ gs) (one_applied p.id calls m (keys_of_writes at_group.0) a is_put keys_are) ∙ next_groups)

    prepare_more : PreparesAll groups p.id calls → PreparesAll groups p.id more
    prepare_more h = record { count = i + 1; prepared = prepared_next; decided = decided_more h (λ now e. clash (sym is_put ∙ ap (prepares p.id) e ∙ row_no p.id p.id decision.Committed now condition.Absent)) }

    checking_ready : HavePrepared p more groups → ReadyAt p more (checking p 0)
    checking_ready h = by (nat_lt 0 (length (checks p)))
      where
        by : (b : Bool) → ReadyAt p more (if b then Checking 0 else Deciding phase.Put)
        by true = h
        by false = h

    all_groups : nat_lt (i + 1) (groups_of p) ≡ false → take (i + 1) groups ≡ groups
    all_groups f = take_all (i + 1) groups (long (length groups) (groups_of p) (groups_long p) (at_end (i + 1) (groups_of p) f))
      where
        long : (a b : ℕ) → a ≡ b → b ≤ i + 1 → a ≤ i + 1
        long a b e l = omega (arith, e, l)

    refused_ready : (n : ℕ) (o : Option Request) (place : ℕ) (found : Option Record) → ReadyAt p more (after_prepare p i n (refused o place found))
    refused_ready n None place found = tt
    refused_ready n (Some (ask.PutIf rec c)) place found = tt
    refused_ready n (Some (ask.Get key)) place found = tt
    refused_ready n (Some (ask.Scan span)) place found = tt
    refused_ready n (Some (ask.DeleteIf key c)) place found = tt
    refused_ready n (Some (ask.PutAll batch)) place found = by (put_at batch place)
      where
        by : (o : Option Put) → ReadyAt p more (after_prepare p i n (option_map_or (λ (u : Put). prepare.Conflict u.rec.key found) o prepare.NoMemory))
        by None = tt
        by (Some u) = tt

    prepare_ready : (b : Bool) (n : ℕ) (o : Option Request) (r : Reply) → nat_lt (i + 1) (groups_of p) ≡ b → m.reply ≡ r → ReadyAt p more (after_prepare p i n (prepare_step b o r))
    prepare_ready true n o reply.Applied e a = applied_next (ap is_applied a)
    prepare_ready false n o reply.Applied e a = checking_ready (subst (HavePrepared p more) (all_groups e) (applied_next (ap is_applied a)))
    prepare_ready b n o (reply.NotMet found) e a = refused_ready n o 1 found
    prepare_ready b n o reply.Fault e a = tt
    prepare_ready b n o (reply.Found found) e a = tt
    prepare_ready b n o (reply.Rows rows) e a = tt
    prepare_ready b n o (reply.NotAll place there) e a = refused_ready n o place there
    prepare_ready b n o reply.NoMemory e a = tt

  ---- where a reply leads

  check_ready : (i : ℕ) (v : ValidateStep) → HavePrepared p more groups → ReadyAt p more (after_check p i v)
  check_ready i validate.More h = h
  check_ready i validate.Valid h = h
  check_ready i (validate.Conflict key found) h = tt
  check_ready i validate.Faulted h = tt
  check_ready i validate.NoMemory h = tt

  forward_ready : (i : ℕ) → ReadyAt p more (forward p i)
  forward_ready i = by (nat_lt i (groups_of p))
    where
      by : (b : Bool) → ReadyAt p more (if b then Forward i else Over outcome.Committed)
      by true = tt
      by false = tt

  back_ready : (a : Outcome) (n i : ℕ) → ReadyAt p more (back a n i)
  back_ready a n i = by (nat_lt i n)
    where
      by : (b : Bool) → ReadyAt p more (if b then Back a n i else Over a)
      by true = tt
      by false = tt

  abort_ready : (a : Outcome) (n : ℕ) (r : Reply) → ReadyAt p more (after_abort a n r)
  abort_ready a n reply.Applied = back_ready a n 0
  abort_ready a n (reply.NotMet found) = back_ready a n 0
  abort_ready a n reply.Fault = tt
  abort_ready a n (reply.Found found) = tt
  abort_ready a n (reply.Rows rows) = tt
  abort_ready a n (reply.NotAll place there) = tt
  abort_ready a n reply.NoMemory = tt

  -- the deciding put is not put again
  abbrev IsLater : DecidePhase → Type 0
  IsLater phase.Put = ⊥
  IsLater d = Unit {0}

  next_later : (d : DecidePhase) (r : Reply) → IsLater (decide_next p.id d r).0
  next_later =
      by_steps p.id (λ n. IsLater n.0)
      (record {
        look = tt;
        abort = tt;
        again = tt;
        committed = tt;
        expired = tt;
        faulted = tt;
        unknown = tt;
        bad = tt;
        no_memory = tt;
      })

  open_ready : (d : DecidePhase) → IsLater d → ReadyAt p more (Deciding d)
  open_ready phase.Put l = absurd l
  open_ready phase.Look l = tt
  open_ready phase.Abort l = tt
  open_ready phase.Again l = tt
  open_ready phase.Ended l = tt

  decide_ready : (d : DecidePhase) (x : DecideStep) → IsLater d → ReadyAt p more (after_decide p d x)
  decide_ready d decide.More l = open_ready d l
  decide_ready d decide.Committed l = forward_ready 0
  decide_ready d (decide.Expired id) l = back_ready _ (length p.writes) 0
  decide_ready d decide.Faulted l = back_ready _ (length p.writes) 0
  decide_ready d (decide.Unknown id) l = tt
  decide_ready d (decide.BadRecord key) l = tt
  decide_ready d decide.NoMemory l = tt

  ---- by where it is

  -- only prepares prepare
  check_at : (i : ℕ) → pending p (Checking i) ≡ Some m.request → (prepares p.id m.request ≡ false) × (is_read m.request ≡ true)
  check_at i e = by (slice_get (checks p) i) refl e
    where
      by : (o : Option Check) → slice_get (checks p) i ≡ o → option_map (λ (c : Check). c.request) o ≡ Some m.request → (prepares p.id m.request ≡ false) × (is_read m.request ≡ true)
      by None f k = none_some m.request k
      by (Some c) f k =
          let same = some_is c.request m.request k in
          (ap (prepares p.id) (sym same) ∙ each_at (λ (y : Check). prepares p.id y.request ≡ false) (checks p) i c (checks_no p.id p) f, ap is_read (sym same) ∙ each_at (λ (y : Check). is_read y.request ≡ true) (checks p) i c (checks_read p) f)

  forward_at : (i : ℕ) → slice_get (work.forwards p) i ≡ Some m.request → (prepares p.id m.request ≡ false) × ((now : ℤ) → Decides now → ⊥)
  forward_at i e =
      let x = mapped_at (forwards_of p.id p.now) (grouped p.writes) i m.request e in
      (ap (prepares p.id) (sym x.2) ∙ forwards_no p.id p.id p.now x.0, λ now d. by x.0 now (x.2 ∙ d))
    where
      by : (g : List Write) (now : ℤ) → forwards_of p.id p.now g ≡ row_put p.id decision.Committed now → ⊥
      by [] now k = cc
      by (w ∷ []) now k = cc
      by (v ∷ w ∷ ws) now k = cc

  back_at : (i : ℕ) → slice_get (work.backs p) i ≡ Some m.request → (prepares p.id m.request ≡ false) × ((now : ℤ) → Decides now → ⊥)
  back_at i e =
      let x = mapped_at (back_of p.id) (in_groups p.writes) i m.request e in
      let base = (each_at IsWrite (in_groups p.writes) i x.0 (all_in_groups IsWrite p.writes writes) x.1).base in
      (ap (prepares p.id) (sym x.2) ∙ undo_unprepared p.id x.0.key x.0.base (is_as_prepared p.id x.0) base, λ now d. undo_other p x.0 x.0.base now (x.2 ∙ d))

  decide_at : (d : DecidePhase) → decide_request_at p.id p.now d ≡ Some m.request → ReadyAt p calls (Deciding d) → (now : ℤ) → Decides now → groups_applied p.id calls ≡ groups
  decide_at phase.Put e ready now k = ready.1
  decide_at phase.Look e ready now k = absurd (let z : look_of p.id ≡ row_put p.id decision.Committed now = some_is (look_of p.id) m.request e ∙ k in cc)
  decide_at phase.Abort e ready now k = absurd (abort_other p.id p.now now (some_is (abort_of p.id p.now) m.request e ∙ k))
  decide_at phase.Again e ready now k = absurd (let z : look_of p.id ≡ row_put p.id decision.Committed now = some_is (look_of p.id) m.request e ∙ k in cc)
  decide_at phase.Ended e ready now k = none_some m.request e

  stop_at : Some (abort_of p.id p.now) ≡ Some m.request → (prepares p.id m.request ≡ false) × ((now : ℤ) → Decides now → ⊥)
  stop_at e = let same = some_is (abort_of p.id p.now) m.request e in (ap (prepares p.id) (sym same) ∙ row_no p.id p.id decision.Aborted p.now condition.Absent, λ now k. abort_other p.id p.now now (same ∙ k))

  sofar_on : (s : Stage) → pending p s ≡ Some m.request → ReadyAt p calls s → PreparesAll groups p.id calls → PreparesAll groups p.id more
  sofar_on (Preparing i) e ready h = prepare_more i e ready h
  sofar_on (Checking i) e ready h = let x = check_at i e in other_more x.0 (λ now k. clash (sym x.1 ∙ ap is_read k)) h
  sofar_on (Deciding d) e ready h = other_more (decide_no p.id p.id p.now d m.request e) (decide_at d e ready) h
  sofar_on (Forward i) e ready h = let x = forward_at i e in other_more x.0 (λ now k. absurd (x.1 now k)) h
  sofar_on (Stopping a n) e ready h = let x = stop_at e in other_more x.0 (λ now k. absurd (x.1 now k)) h
  sofar_on (Back a n i) e ready h = let x = back_at i e in other_more x.0 (λ now k. absurd (x.1 now k)) h
  sofar_on (Over a) e ready h = none_some m.request e

  ready_on : (s next : Stage) → pending p s ≡ Some m.request → ReadyAt p calls s → IsNext p s m.reply next → ReadyAt p more next
  ready_on (Preparing i) next e ready n = subst (ReadyAt p more) (sym n) (prepare_ready i e ready (nat_lt (i + 1) (groups_of p)) (touched_after (slice_get (work.prepares p) i) (writes_before p i) m.reply) (slice_get (work.prepares p) i) m.reply refl refl)
  ready_on (Checking i) next e ready n = subst (ReadyAt p more) (sym n.2) (check_ready i n.0 (have_same groups (check_at i e).0 ready))
  ready_on (Deciding d) next e ready n = subst (ReadyAt p more) (sym n) (decide_ready (decide_next p.id d m.reply).0 (decide_next p.id d m.reply).1 (next_later d m.reply))
  ready_on (Forward i) next e ready n = subst (ReadyAt p more) (sym n) (forward_ready (i + 1))
  ready_on (Stopping a k) next e ready n = subst (ReadyAt p more) (sym n) (abort_ready a k m.reply)
  ready_on (Back a k i) next e ready n = subst (ReadyAt p more) (sym n) (back_ready a k (i + 1))
  ready_on (Over a) next e ready n = none_some m.request e

  -- what its calls have prepared, with this one
  pub prepares_with : (s : Stage) → pending p s ≡ Some m.request → CommitPrepares p calls s → PreparesAll groups p.id more
  prepares_with s e h = sofar_on s e h.ready h.sofar

  pub prepares_on : (s next : Stage) → pending p s ≡ Some m.request → CommitPrepares p calls s → IsNext p s m.reply next → CommitPrepares p more next
  prepares_on s next e h n = record { ready = ready_on s next e h.ready n; sofar = sofar_on s e h.ready h.sofar }

-- before its first call
pub prepares_first : (p : Work) → CommitPrepares p [] (preparing p 0)
prepares_first p = record { ready = by (nat_lt 0 (groups_of p)) refl; sofar = record { count = 0; prepared = refl; decided = λ m has e. none_here m has } }
  where
    none_here : (m : StoreCall) → Contains [] m → [] ≡ key_groups p
    none_here m h = absurd (let low : h.0 < 0 = h.1 in omega (arith, low))

    empty : (gs : List (List Key)) → length gs ≤ 0 → [] ≡ gs
    empty [] l = refl
    empty (g ∷ gs) l = absurd (omega (arith, l))

    none_written : nat_lt 0 (groups_of p) ≡ false → [] ≡ key_groups p
    none_written f = empty (key_groups p) (none (length (key_groups p)) (groups_of p) (groups_long p) (at_end 0 (groups_of p) f))
      where
        none : (a b : ℕ) → a ≡ b → b ≤ 0 → a ≤ 0
        none a b e l = omega (arith, e, l)

    checking_first : (b : Bool) → [] ≡ key_groups p → ReadyAt p [] (if b then Checking 0 else Deciding phase.Put)
    checking_first true e = (e, e)
    checking_first false e = (e, e)

    by : (b : Bool) → nat_lt 0 (groups_of p) ≡ b → ReadyAt p [] (if b then Preparing 0 else checking p 0)
    by true e = (refl, refl)
    by false e = checking_first (nat_lt 0 (length (checks p))) (none_written e)
