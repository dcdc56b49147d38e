-- What a VACUUM has scanned and deleted after each of its calls.
use Rattle.std.proofs.Common.{◌≡◌, ◌⊎◌, inl, inr, ◌<◌, ◌+◌, ℕ, ℤ, Bool, true, false, List, [], ◌∷◌, ◌++◌, Option, Some, None, refl, sym, ap, subst, ◌∙◌, append_assoc}
use Rattle.std.specs.Prelude.{◌&&◌, Contains, is_some, if◌then◌else◌}
use Rattle.std.specs.List.{AllByRecursion, cons_option}
use Rattle.std.specs.Option.{option_map}
use Rattle.std.proofs.lemmas.List.{append-nil}
use Rattle.std.proofs.lemmas.List.Elements.{Contains-append_cases, Contains-append_left, Contains-append_right, Contains-push, Contains-push_cases, filter_map-append}
use Rattle.sdb_types.specs.declared.record.Condition.TheVariants as condition
use Rattle.law_runs.specs.Types.{Meta, Record, RecoverPhase, RecoverStep, Reply, Request, Span, State, Table, TxId, VacuumStep}
use Rattle.sdb_types.specs.declared.record.Reply.TheVariants as reply
use Rattle.sdb_types.specs.declared.record.Request.TheVariants as ask
use Rattle.sdb_types.specs.declared.record.State.TheVariants as state
use Rattle.sdb_types.proofs.Public.{and_parts, clash, none_some, some_is}
use Rattle.sdb_record.specs.Meta.{checked, id_in, is_committed, is_in, is_transactional}
use Rattle.sdb_record.specs.Parts.{before_record}
use Rattle.sdb_record.specs.Rolls.{is_tombstone, remove_request, undo}
use Rattle.sdb_model.specs.Calls.{StoreCall, is_removal, put_by, records_read}
use Rattle.sdb_phases.specs.declared.step.RecoverPhase.TheVariants as phase
use Rattle.sdb_phases.specs.declared.step.RecoverStep.TheVariants as steps
use Rattle.sdb_phases.specs.Recover.{recover_back, recover_forward, recover_next, recover_request_at, row_followed, is_as_found}
use Rattle.sdb_phases.proofs.Public.{by_expiry, by_row, by_rows_recover_rows as by_rows}
use Rattle.sdb_txn.specs.Read.{Bad, Firm, Kind, Open, kind_of, opened}
use Rattle.sdb_vacuum.specs.declared.work.VacuumStep.TheVariants as step
use Rattle.sdb_vacuum.specs.Vacuum.{First, Malformed, Nothing, Over, Removing, Resolving, Scanning, Tombstone, Unresolved, VacuumAt, VacuumStage, answered, first_of, first_one, next_of_row, with_call, next_table, pending_at, removal_answered, resolved, step_at, tombstone_or}
use Rattle.sdb_vacuum.proofs.Public.{firm_is, open_state}
use Rattle.law_answers.proofs.Public.{after_last, after_more, each_in, open_is}
use Rattle.law_answers.specs.Vacuums.{VacuumStageBy}
use Rattle.law_runs.proofs.Statements.{none_in}
use Rattle.law_runs.specs.Vacuums.{FindsTombstone, IsDelete, IsDeletedAfter, PutsTombstone, is_committed_tombstone, span_asked, spans_asked, whole_tables}

---- what is so where it is

-- the spans that are not scanned yet
abbrev pub spans_left : VacuumStage → List Span → List Span
spans_left (Scanning span) ss = span ∷ ss
spans_left (Resolving rec meta p left) ss = ss
spans_left (Removing b left) ss = ss
spans_left Over ss = ss

-- a record is still to be deleted
abbrev pub IsLeft : VacuumStage → Record → Type 0
IsLeft (Scanning span) r = ⊥
IsLeft (Resolving rec meta p left) r = Contains left r
IsLeft (Removing b left) r = (b ≡ r) ⊎ Contains left r
IsLeft Over r = ⊥

-- a tombstone was found, or put
pub record IsSeen (calls : List StoreCall) (b : Record) : Type 0 where
  pub call : StoreCall
  pub seen : FindsTombstone calls call b ⊎ PutsTombstone calls call b
  pub tombstone : is_tombstone b ≡ true

-- rows were found by a scan
pub record AreScanned (calls : List StoreCall) (rows : List Record) : Type 0 where
  pub scan : StoreCall
  pub among : Contains calls scan
  pub scans : is_some (span_asked scan.request) ≡ true
  pub found : (r : Record) → Contains rows r → Contains (records_read scan.reply) r

abbrev pub StageSeen : List StoreCall → VacuumStage → Type 0
StageSeen calls (Scanning span) = Unit {0}
StageSeen calls (Resolving rec meta p left) = AreScanned calls left
StageSeen calls (Removing b left) = IsSeen calls b × AreScanned calls left
StageSeen calls Over = Unit {0}

-- each tombstone that was found is deleted, or is left
abbrev pub AllLeft : List StoreCall → VacuumStage → Type 0
AllLeft calls s = (m : StoreCall) (r : Record) → FindsTombstone calls m r → IsDeletedAfter calls m r ⊎ IsLeft s r

abbrev pub AllDeleted : List StoreCall → Type 0
AllDeleted calls = (m : StoreCall) (r : Record) → FindsTombstone calls m r → IsDeletedAfter calls m r

-- each delete of a committed record is of a tombstone that was seen
abbrev pub AllDelete : List StoreCall → Type 0
AllDelete calls = (m : StoreCall) → Contains calls m → is_removal m.request ≡ true → IsDelete calls m

-- Where it goes on.
pub record Going (catalog : List Table) (calls : List StoreCall) (v : VacuumAt) : Type 0 where
  pub scanned : spans_asked calls ++ spans_left v.stage v.spans ≡ whole_tables catalog
  pub seen : StageSeen calls v.stage
  pub left : AllLeft calls v.stage

-- What a reply led to.
abbrev pub LedTo : List Table → List StoreCall → VacuumAt → VacuumStep → Type 0
LedTo catalog calls v step.More = Going catalog calls v
LedTo catalog calls v (step.Count n) = (spans_asked calls ≡ whole_tables catalog) × AllDeleted calls
LedTo catalog calls v step.Faulted = Unit {0}
LedTo catalog calls v (step.BadRecord key) = Unit {0}
LedTo catalog calls v step.NoMemory = Unit {0}

---- records

of_first : {X : Type 0} (r : X) (left : List X) → Contains (r ∷ left) r
of_first r left = Contains-append_left (r ∷ []) left r (Contains-push [] r)

of_rest : {X : Type 0} (r : X) (left : List X) (x : X) → Contains left x → Contains (r ∷ left) x
of_rest r left x h = Contains-append_right (r ∷ []) left x h

first_or_rest : {X : Type 0} (r : X) (left : List X) (x : X) → Contains (r ∷ left) x → (r ≡ x) ⊎ Contains left x
first_or_rest r left x h = by (Contains-append_cases (r ∷ []) left x h)
  where
    one : Contains [] x ⊎ (r ≡ x) → r ≡ x
    one (inl k) = none_in x k
    one (inr e) = e

    by : Contains (r ∷ []) x ⊎ Contains left x → (r ≡ x) ⊎ Contains left x
    by (inl k) = inl (one (Contains-push_cases [] r x k))
    by (inr k) = inr k

both_true : (a b c : Bool) → a ≡ true → b ≡ true → c ≡ true → (a && b && c) ≡ true
both_true true true true e f g = refl
both_true false b c e f g = e
both_true true false c e f g = f
both_true true true false e f g = g

pub firm_dead : (r : Record) → kind_of r ≡ Firm → is_tombstone r ≡ true → is_committed_tombstone r ≡ true
firm_dead r e t = let is = firm_is r e in both_true (is_transactional r) (is_in state.Committed r.columns) (is_tombstone r) is.1 is.2 t

dead_tombstone : (r : Record) → is_committed_tombstone r ≡ true → is_tombstone r ≡ true
dead_tombstone r h = (and_parts (is_transactional r && is_in state.Committed r.columns) (is_tombstone r) h).1

dead_firm : (r : Record) → is_committed_tombstone r ≡ true → kind_of r ≡ Firm
dead_firm r h =
    let b = and_parts (is_transactional r) (is_in state.Committed r.columns) (and_parts (is_transactional r && is_in state.Committed r.columns) (is_tombstone r) h).0 in
    ap (λ (t : Bool). if t then (if is_in state.Committed r.columns then Firm else opened (checked r.columns)) else Bad) b.0 ∙ ap (λ (t : Bool). if t then Firm else opened (checked r.columns)) b.1

---- what a recovery's roll put

-- where it ends with a record, the call put that
abbrev pub HasPut : Request → RecoverPhase × RecoverStep → Type 0
HasPut q (p, steps.Image (Some b)) = put_by q ≡ Some b
HasPut q (p, steps.Image None) = Unit {0}
HasPut q (p, steps.More) = Unit {0}
HasPut q (p, steps.Busy id at) = Unit {0}
HasPut q (p, steps.Faulted) = Unit {0}
HasPut q (p, steps.BadRecord key) = Unit {0}
HasPut q (p, steps.NoMemory) = Unit {0}

row_put : (q : Request) (meta : Meta) (row : Record) → HasPut q (row_followed meta row)
row_put q meta row = by_row meta row (HasPut q) (λ d says is. tt) (λ d says is. tt) (λ column says. tt)

back_put : (rec : Record) (meta : Meta) (q : Request) (o : Option Record) → undo (is_as_found meta) rec.key o ≡ q → HasPut q (phase.Ended, steps.Image o)
back_put rec meta q None e = tt
back_put rec meta q (Some b) e = ap put_by (sym e)

recover_put : (rec : Record) (meta : Meta) (p : RecoverPhase) (now : ℤ) (q : Request) (r : Reply) → recover_request_at rec meta p ≡ Some q → HasPut q (recover_next rec meta p now r)
recover_put rec meta p now q r =
    by_rows rec meta now (λ p r n. recover_request_at rec meta p ≡ Some q → HasPut q n)
    (record {
      look_row = λ row e. row_put q meta row;
      look_none = λ e. by_expiry meta now (HasPut q) (λ is. tt) (λ is. tt);
      abort_applied = λ m e. tt;
      abort_row = λ m row e. row_put q meta row;
      abort_fault = λ m e. tt;
      again_row = λ row e. row_put q meta row;
      again_none = λ e. tt;
      forward = λ at r is e. ap put_by (sym (some_is (recover_forward rec meta at) q e));
      back = λ r is e. back_put rec meta q (before_record rec) (some_is (recover_back rec meta) q e);
      fault = λ p e. tt;
      no_memory = λ p r e. tt;
    }) p r

-- a recovery deletes no committed record, and scans nothing
undo_no : (meta : Meta) (rec : Record) (o : Option Record) → is_committed meta.state ≡ false → is_removal (undo (is_as_found meta) rec.key o) ≡ false
undo_no meta rec None h = by meta.state h
  where
    by : (s : State) → is_committed s ≡ false → is_removal (ask.DeleteIf rec.key (condition.Version meta.id s)) ≡ false
    by state.Prepared k = refl
    by state.Deleted k = refl
    by state.Aborted k = refl
    by state.Committed k = clash k
undo_no meta rec (Some b) h = refl

undo_unscanned : (meta : Meta) (rec : Record) (o : Option Record) → span_asked (undo (is_as_found meta) rec.key o) ≡ None
undo_unscanned meta rec None = refl
undo_unscanned meta rec (Some b) = refl

recovery_no : (rec : Record) (meta : Meta) (p : RecoverPhase) (q : Request) → is_committed meta.state ≡ false → recover_request_at rec meta p ≡ Some q → (is_removal q ≡ false) × (span_asked q ≡ None)
recovery_no rec meta phase.Look q h e = (ap is_removal (sym (some_is _ q e)), ap span_asked (sym (some_is _ q e)))
recovery_no rec meta (phase.Abort n) q h e = (ap is_removal (sym (some_is _ q e)), ap span_asked (sym (some_is _ q e)))
recovery_no rec meta phase.Again q h e = (ap is_removal (sym (some_is _ q e)), ap span_asked (sym (some_is _ q e)))
recovery_no rec meta (phase.Forward n) q h e = (ap is_removal (sym (some_is _ q e)), ap span_asked (sym (some_is _ q e)))
recovery_no rec meta phase.Back q h e = (ap is_removal (sym (some_is _ q e)) ∙ undo_no meta rec (before_record rec) h, ap span_asked (sym (some_is _ q e)) ∙ undo_unscanned meta rec (before_record rec))
recovery_no rec meta phase.Ended q h e = none_some q e

-- the delete of a tombstone scans nothing
remove_unscanned : (b : Record) (o : Option TxId) (q : Request) → option_map (λ id. ask.DeleteIf b.key (condition.Version id state.Committed)) o ≡ Some q → span_asked q ≡ None
remove_unscanned b None q e = none_some q e
remove_unscanned b (Some id) q e = ap span_asked (sym (some_is (ask.DeleteIf b.key (condition.Version id state.Committed)) q e))

---- one call more

module _ (catalog : List Table) (calls : List StoreCall) (m : StoreCall) (older : AllByRecursion (λ x. x.at < m.at) calls) where
  abbrev now_calls : List StoreCall
  now_calls = calls ++ m ∷ []

  abbrev Led : VacuumAt × VacuumStep → Type 0
  Led x = LedTo catalog now_calls x.0 x.1

  spans_more : spans_asked now_calls ≡ spans_asked calls ++ cons_option (span_asked m.request) []
  spans_more = filter_map-append (λ (x : StoreCall). span_asked x.request) calls (m ∷ [])

  spans_same : span_asked m.request ≡ None → spans_asked now_calls ≡ spans_asked calls
  spans_same e = spans_more ∙ ap (λ (o : Option Span). spans_asked calls ++ cons_option o []) e ∙ append-nil (spans_asked calls)

  spans_one : (span : Span) (ss : List Span) → span_asked m.request ≡ Some span → spans_asked now_calls ++ ss ≡ spans_asked calls ++ (span ∷ ss)
  spans_one span ss e = ap (λ (xs : List Span). xs ++ ss) (spans_more ∙ ap (λ (o : Option Span). spans_asked calls ++ cons_option o []) e) ∙ append_assoc (spans_asked calls) (span ∷ []) ss

  find_more : (x : StoreCall) (r : Record) → FindsTombstone calls x r → FindsTombstone now_calls x r
  find_more x r f = record { among = Contains-append_left calls (m ∷ []) x f.among; scans = f.scans; found = f.found; dead = f.dead }

  deleted_more : (x : StoreCall) (r : Record) → IsDeletedAfter calls x r → IsDeletedAfter now_calls x r
  deleted_more x r d = record { delete = d.delete; later = after_more (record { 0 = 0 }) calls m older x.at d.delete d.later; asks = d.asks }

  seen_on : (x : StoreCall) (b : Record) → FindsTombstone calls x b ⊎ PutsTombstone calls x b → FindsTombstone now_calls x b ⊎ PutsTombstone now_calls x b
  seen_on x b (inl f) = inl (find_more x b f)
  seen_on x b (inr p) = inr (Contains-append_left calls (m ∷ []) x p.0, p.1)

  scanned_more : (left : List Record) → AreScanned calls left → AreScanned now_calls left
  scanned_more left h = record { scan = h.scan; among = Contains-append_left calls (m ∷ []) h.scan h.among; scans = h.scans; found = h.found }

  -- a tombstone that was found before, where this call scans nothing
  found_before : (x : StoreCall) (r : Record) → span_asked m.request ≡ None → FindsTombstone now_calls x r → FindsTombstone calls x r
  found_before x r none f = by (Contains-push_cases calls m x f.among)
    where
      by : Contains calls x ⊎ (m ≡ x) → FindsTombstone calls x r
      by (inl has) = record { among = has; scans = f.scans; found = f.found; dead = f.dead }
      by (inr same) = clash (sym f.scans ∙ ap (λ (y : StoreCall). is_some (span_asked y.request)) (sym same) ∙ ap is_some none)

  ---- what rows come to

  abbrev LeftIn : List Record → Type 0
  LeftIn left = (x : StoreCall) (r : Record) → FindsTombstone now_calls x r → IsDeletedAfter now_calls x r ⊎ Contains left r

  abbrev FirstSeen : First → Type 0
  FirstSeen Nothing = AllDeleted now_calls
  FirstSeen (Tombstone b left) = IsSeen now_calls b × AreScanned now_calls left × ((x : StoreCall) (r : Record) → FindsTombstone now_calls x r → IsDeletedAfter now_calls x r ⊎ ((b ≡ r) ⊎ Contains left r))
  FirstSeen (Unresolved rec meta left) = AreScanned now_calls left × LeftIn left
  FirstSeen (Malformed key) = Unit {0}

  without : (r : Record) (left : List Record) → AreScanned now_calls (r ∷ left) → AreScanned now_calls left
  without r left h = record { scan = h.scan; among = h.among; scans = h.scans; found = λ x has. h.found x (of_rest r left x has) }

  -- what isn't a committed tombstone is not left
  passes : (r : Record) (left : List Record) → (is_committed_tombstone r ≡ true → ⊥) → LeftIn (r ∷ left) → LeftIn left
  passes r left other h x y f = by (h x y f)
    where
      by_rest : (r ≡ y) ⊎ Contains left y → IsDeletedAfter now_calls x y ⊎ Contains left y
      by_rest (inl same) = absurd (other (ap is_committed_tombstone same ∙ f.dead))
      by_rest (inr has) = inr has

      by : IsDeletedAfter now_calls x y ⊎ Contains (r ∷ left) y → IsDeletedAfter now_calls x y ⊎ Contains left y
      by (inl d) = inl d
      by (inr has) = by_rest (first_or_rest r left y has)

  first_seen : (left : List Record) → AreScanned now_calls left → LeftIn left → FirstSeen (first_of left)
  first_seen [] scanned h = λ x r f. by x r (h x r f)
    where
      by : (x : StoreCall) (r : Record) → IsDeletedAfter now_calls x r ⊎ Contains [] r → IsDeletedAfter now_calls x r
      by x r (inl d) = d
      by x r (inr k) = none_in r k
  first_seen (r ∷ left) scanned h = by (kind_of r) refl (λ other. first_seen left (without r left scanned) (passes r left other h))
    where
      removed : kind_of r ≡ Firm → is_tombstone r ≡ true → FirstSeen (Tombstone r left)
      removed e t = (
        record { call = scanned.scan; seen = inl (record { among = scanned.among; scans = scanned.scans; found = scanned.found r (of_first r left); dead = firm_dead r e t }); tombstone = t },
        without r left scanned,
        λ x y f. split x y (h x y f),
      )
        where
          split : (x : StoreCall) (y : Record) → IsDeletedAfter now_calls x y ⊎ Contains (r ∷ left) y → IsDeletedAfter now_calls x y ⊎ ((r ≡ y) ⊎ Contains left y)
          split x y (inl d) = inl d
          split x y (inr has) = inr (first_or_rest r left y has)

      firm : (t : Bool) → kind_of r ≡ Firm → is_tombstone r ≡ t → ((is_committed_tombstone r ≡ true → ⊥) → FirstSeen (first_of left)) → FirstSeen (if t then Tombstone r left else first_of left)
      firm true e t rest = removed e t
      firm false e t rest = rest (λ dead. clash (sym (dead_tombstone r dead) ∙ t))

      by : (k : Kind) → kind_of r ≡ k → ((is_committed_tombstone r ≡ true → ⊥) → FirstSeen (first_of left)) → FirstSeen (first_one k r left (first_of left))
      by Firm e rest = firm (is_tombstone r) e refl rest
      by (Open meta) e rest = (without r left scanned, passes r left (λ dead. not_open (sym e ∙ dead_firm r dead)) h)
        where
          not_open : Open meta ≡ Firm → ⊥
          not_open z = cc
      by Bad e rest = tt

  next_led : (ss : List Span) (n : ℕ) → spans_asked now_calls ++ ss ≡ whole_tables catalog → AllDeleted now_calls → Led (next_table ss n)
  next_led [] n e all = (sym (append-nil (spans_asked now_calls)) ∙ e, all)
  next_led (s ∷ ss) n e all = record { scanned = e; seen = tt; left = λ x r f. inl (all x r f) }

  going_led : (ss : List Span) (n : ℕ) (f : First) → spans_asked now_calls ++ ss ≡ whole_tables catalog → FirstSeen f → Led (next_of_row ss n f)
  going_led ss n Nothing e h = next_led ss n e h
  going_led ss n (Tombstone b left) e h = record { scanned = e; seen = (h.0, h.1); left = h.2 }
  going_led ss n (Unresolved r meta left) e h = record { scanned = e; seen = h.0; left = h.1 }
  going_led ss n (Malformed key) e h = tt

  on_led : (ss : List Span) (n : ℕ) (left : List Record) → spans_asked now_calls ++ ss ≡ whole_tables catalog → AreScanned now_calls left → LeftIn left → Led (next_of_row ss n (first_of left))
  on_led ss n left e scanned h = going_led ss n (first_of left) e (first_seen left scanned h)

  ---- replies

  scan_led : (ss : List Span) (n : ℕ) (span : Span) (r : Reply) → m.request ≡ ask.Scan span → m.reply ≡ r → spans_asked calls ++ (span ∷ ss) ≡ whole_tables catalog → AllLeft calls (Scanning span) → Led (answered ss n r)
  scan_led ss n span (reply.Rows rows) q is e left = on_led ss n rows (spans_one span ss (ap span_asked q) ∙ e) scanned all
    where
      scanned : AreScanned now_calls rows
      scanned = record { scan = m; among = Contains-push calls m; scans = ap (λ (x : Request). is_some (span_asked x)) q; found = λ r has. subst (λ (x : Reply). Contains (records_read x) r) (sym is) has }

      all : LeftIn rows
      all x r f = by (Contains-push_cases calls m x f.among)
        where
          old : IsDeletedAfter calls x r ⊎ ⊥ → IsDeletedAfter now_calls x r ⊎ Contains rows r
          old (inl d) = inl (deleted_more x r d)
          old (inr k) = absurd k

          by : Contains calls x ⊎ (m ≡ x) → IsDeletedAfter now_calls x r ⊎ Contains rows r
          by (inl has) = old (left x r (record { among = has; scans = f.scans; found = f.found; dead = f.dead }))
          by (inr same) = inr (subst (λ (y : Reply). Contains (records_read y) r) is (subst (λ (y : StoreCall). Contains (records_read y.reply) r) (sym same) f.found))
  scan_led ss n span (reply.Found found) q is e left = tt
  scan_led ss n span reply.Applied q is e left = tt
  scan_led ss n span (reply.NotMet found) q is e left = tt
  scan_led ss n span (reply.NotAll place there) q is e left = tt
  scan_led ss n span reply.Fault q is e left = tt
  scan_led ss n span reply.NoMemory q is e left = tt

  -- what was left before a call that scans nothing and deletes nothing
  still_left : (left : List Record) → span_asked m.request ≡ None → ((x : StoreCall) (r : Record) → FindsTombstone calls x r → IsDeletedAfter calls x r ⊎ Contains left r) → LeftIn left
  still_left left none h x r f = by (h x r (found_before x r none f))
    where
      by : IsDeletedAfter calls x r ⊎ Contains left r → IsDeletedAfter now_calls x r ⊎ Contains left r
      by (inl d) = inl (deleted_more x r d)
      by (inr has) = inr has

  image_led : (ss : List Span) (n : ℕ) (left : List Record) (b : Record) → spans_asked now_calls ++ ss ≡ whole_tables catalog → put_by m.request ≡ Some b → AreScanned now_calls left → LeftIn left → Led (tombstone_or ss n left b)
  image_led ss n left b e puts scanned h = by (is_tombstone b) refl
    where
      or_left : (x : StoreCall) (r : Record) → IsDeletedAfter now_calls x r ⊎ Contains left r → IsDeletedAfter now_calls x r ⊎ ((b ≡ r) ⊎ Contains left r)
      or_left x r (inl d) = inl d
      or_left x r (inr has) = inr (inr has)

      by : (t : Bool) → is_tombstone b ≡ t → Led (if t then with_call ss n (Removing b left) else next_of_row ss n (first_of left))
      by true t = record { scanned = e; seen = (record { call = m; seen = inr (Contains-push calls m, puts); tombstone = t }, scanned); left = λ x r f. or_left x r (h x r f) }
      by false t = on_led ss n left e scanned h

  resolved_led : (ss : List Span) (n : ℕ) (rec : Record) (meta : Meta) (left : List Record) (x : RecoverPhase × RecoverStep) → spans_asked now_calls ++ ss ≡ whole_tables catalog → HasPut m.request x → AreScanned now_calls left → LeftIn left → Led (resolved ss n rec meta left x)
  resolved_led ss n rec meta left (p, steps.More) e puts scanned h = record { scanned = e; seen = scanned; left = h }
  resolved_led ss n rec meta left (p, steps.Image None) e puts scanned h = on_led ss n left e scanned h
  resolved_led ss n rec meta left (p, steps.Image (Some b)) e puts scanned h = image_led ss n left b e puts scanned h
  resolved_led ss n rec meta left (p, steps.Busy id at) e puts scanned h = on_led ss n left e scanned h
  resolved_led ss n rec meta left (p, steps.Faulted) e puts scanned h = tt
  resolved_led ss n rec meta left (p, steps.BadRecord key) e puts scanned h = tt
  resolved_led ss n rec meta left (p, steps.NoMemory) e puts scanned h = tt

  removal_led : (ss : List Span) (n : ℕ) (left : List Record) (r : Reply) → spans_asked now_calls ++ ss ≡ whole_tables catalog → AreScanned now_calls left → LeftIn left → Led (removal_answered ss n left r)
  removal_led ss n left reply.Applied e scanned h = on_led ss (n + 1) left e scanned h
  removal_led ss n left (reply.NotMet found) e scanned h = on_led ss n left e scanned h
  removal_led ss n left (reply.Found found) e scanned h = tt
  removal_led ss n left (reply.Rows rows) e scanned h = tt
  removal_led ss n left (reply.NotAll place there) e scanned h = tt
  removal_led ss n left reply.Fault e scanned h = tt
  removal_led ss n left reply.NoMemory e scanned h = tt

  -- Where a reply leads it.
  pub sweep_led : (v : VacuumAt) (now : ℤ) → VacuumStageBy calls v.stage → pending_at v.stage ≡ Some m.request → Going catalog calls v → Led (step_at v.spans v.removed v.stage now m.reply)
  sweep_led v now by_calls asks h = by v.stage by_calls asks h.scanned h.seen h.left
    where
      by : (s : VacuumStage) → VacuumStageBy calls s → pending_at s ≡ Some m.request → spans_asked calls ++ spans_left s v.spans ≡ whole_tables catalog → StageSeen calls s → AllLeft calls s → Led (step_at v.spans v.removed s now m.reply)
      by (Scanning span) found e scanned seen left = scan_led v.spans v.removed span m.reply (sym (some_is (ask.Scan span) m.request e)) refl scanned left
      by (Resolving rec meta p rest) found e scanned seen left =
          let is = open_is rec meta found.is_open in
          let no = recovery_no rec meta p m.request (open_state rec meta is.0 is.1) e in
          resolved_led v.spans v.removed rec meta rest (recover_next rec meta p now m.reply) (ap (λ (xs : List Span). xs ++ v.spans) (spans_same no.1) ∙ scanned) (recover_put rec meta p now m.request m.reply e) (scanned_more rest seen) (still_left rest no.1 left)
      by (Removing b rest) found e scanned seen left =
          let none : span_asked m.request ≡ None = remove_unscanned b (id_in b.columns) m.request e in
          removal_led v.spans v.removed rest m.reply (ap (λ (xs : List Span). xs ++ v.spans) (spans_same none) ∙ scanned) (scanned_more rest seen.1) (λ x r f. split x r f (left x r (found_before x r none f)))
        where
          split : (x : StoreCall) (r : Record) → FindsTombstone now_calls x r → IsDeletedAfter calls x r ⊎ ((b ≡ r) ⊎ Contains rest r) → IsDeletedAfter now_calls x r ⊎ Contains rest r
          split x r f (inl d) = inl (deleted_more x r d)
          split x r f (inr (inl same)) = inl (record { delete = m; later = after_last (record { 0 = 0 }) calls m older x (found_before x r (remove_unscanned b (id_in b.columns) m.request e) f).among; asks = ap remove_request (sym same) ∙ e })
          split x r f (inr (inr has)) = inr has
      by Over found e scanned seen left = none_some m.request e

  -- Each delete is of a tombstone that was seen.
  pub deletes_more : (s : VacuumStage) → VacuumStageBy calls s → pending_at s ≡ Some m.request → StageSeen calls s → AllDelete calls → AllDelete now_calls
  deletes_more s by_calls asks seen all x has is = by (Contains-push_cases calls m x has)
    where
      older_than : (y : StoreCall) → Contains calls y → y.at < m.at
      older_than y k = each_in (λ (z : StoreCall). z.at < m.at) calls y older k

      no : (b : Bool) → is_removal m.request ≡ b → b ≡ false → m ≡ x → IsDelete now_calls x
      no b e f same = clash (sym is ∙ ap (λ (y : StoreCall). is_removal y.request) (sym same) ∙ e ∙ f)

      one : (t : VacuumStage) → VacuumStageBy calls t → pending_at t ≡ Some m.request → StageSeen calls t → m ≡ x → IsDelete now_calls x
      one (Scanning span) found e k same = no false (ap is_removal (sym (some_is (ask.Scan span) m.request e))) refl same
      one (Resolving rec meta p left) found e k same = let o = open_is rec meta found.is_open in no false (recovery_no rec meta p m.request (open_state rec meta o.0 o.1) e).0 refl same
      one (Removing b left) found e k same =
          subst (IsDelete now_calls) same (record { call = k.0.call; dead = b; seen = seen_on k.0.call b k.0.seen; earlier = older_than k.0.call (among k.0.seen); tombstone = k.0.tombstone; asks = e })
        where
          among : FindsTombstone calls k.0.call b ⊎ PutsTombstone calls k.0.call b → Contains calls k.0.call
          among (inl f) = f.among
          among (inr p) = p.0
      one Over found e k same = none_some m.request e

      old : IsDelete calls x → IsDelete now_calls x
      old d = record { call = d.call; dead = d.dead; seen = seen_on d.call d.dead d.seen; earlier = d.earlier; tombstone = d.tombstone; asks = d.asks }

      by : Contains calls x ⊎ (m ≡ x) → IsDelete now_calls x
      by (inl k) = old (all x k is)
      by (inr same) = one s by_calls asks seen same

  -- its scans are the first tables
  pub in_order : (v : VacuumAt) → VacuumStageBy calls v.stage → pending_at v.stage ≡ Some m.request → spans_asked calls ++ spans_left v.stage v.spans ≡ whole_tables catalog → spans_asked now_calls ++ v.spans ≡ whole_tables catalog
  in_order v by_calls asks scanned = by v.stage by_calls asks scanned
    where
      by : (s : VacuumStage) → VacuumStageBy calls s → pending_at s ≡ Some m.request → spans_asked calls ++ spans_left s v.spans ≡ whole_tables catalog → spans_asked now_calls ++ v.spans ≡ whole_tables catalog
      by (Scanning span) found e h = spans_one span v.spans (ap span_asked (sym (some_is (ask.Scan span) m.request e))) ∙ h
      by (Resolving rec meta p left) found e h = let o = open_is rec meta found.is_open in ap (λ (xs : List Span). xs ++ v.spans) (spans_same (recovery_no rec meta p m.request (open_state rec meta o.0 o.1) e).1) ∙ h
      by (Removing b left) found e h = ap (λ (xs : List Span). xs ++ v.spans) (spans_same (remove_unscanned b (id_in b.columns) m.request e)) ∙ h
      by Over found e h = none_some m.request e
