-- Each call of a COMMIT keeps what the calls say of what it prepared and checked.
use Rattle.std.proofs.Common.{◌≡◌, ◌<◌, ◌+◌, ◌⊎◌, inl, inr, ℕ, ℤ, zero, suc, Bool, true, false, not, cond, List, [], ◌∷◌, ◌++◌, map, length, Option, Some, None, refl, sym, ap, subst, ◌∙◌, arith}
use Rattle.std.specs.Prelude.{◌-◌, IsSomeAnd, if◌then◌else◌, ◌&&◌, ◌||◌, filter, find, nat_lt, slice_get, Contains, IfSome, is_some}
use Rattle.std.specs.List.{AllByRecursion, list_all, list_any}
use Rattle.std.specs.Option.{option_and_then, option_map, option_map_or}
use Rattle.std.specs.Ordering.{is_eq}
use Rattle.std.specs.Cmp.{eq_by_cmp_equiv}
use Rattle.std.proofs.lemmas.Bool.{and_parts}
use Rattle.std.proofs.lemmas.Bool.Decides.{nat_tests}
use Rattle.std.proofs.lemmas.List.Elements.{Contains-append_left, Contains-push}
use Rattle.std.proofs.lemmas.Option.{slice_get-map}
use Rattle.law_answers.specs.Types.{Change, Check, Condition, DecidePhase, DecideStep, Key, Outcome, Put, Read, Record, Reply, Request, Scan, State, TxId, Write}
use Rattle.sdb_types.specs.declared.record.Reply.TheVariants as reply
use Rattle.sdb_types.specs.declared.record.Request.TheVariants as ask
use Rattle.sdb_types.specs.declared.record.State.TheVariants as state
use Rattle.sdb_types.specs.declared.value.Value.TheVariants as value
use Rattle.sdb_types.specs.Columns.{column}
use Rattle.sdb_types.specs.TxId.{id_text}
use Rattle.sdb_types.specs.Contents.{CanAnswer, IsUnmet, are_rows_of, has_value, in_span, is_version, put_at, rise, state_number, tx_id, tx_state, record_among}
use Rattle.sdb_types.specs.Order.{key_cmp, same_key}
use Rattle.sdb_types.proofs.Public.{all_each as each_any, and_false, append_all as each_append, by_test, clash, key_total, none_some, same_key_exact, same_key_self, some_is}
use Rattle.sdb_record.specs.declared.write.Change.TheVariants as change
use Rattle.sdb_record.specs.Coordinator.{coordinator_row_of}
use Rattle.sdb_record.specs.Groups.{grouped, in_groups}
use Rattle.sdb_record.specs.Moved.{is_unchanged, same_version, version_of}
use Rattle.sdb_record.specs.Rolls.{IsBaseOf, IsWrite, prepared_record, state_of_change, undo}
use Rattle.sdb_record.proofs.Public.{grouped_all, has_value-is, prepared-base, prepared-key, prepared-version}
use Rattle.sdb_record.specs.Among.{version_among, write_among, is_written}
use Rattle.sdb_model.specs.Calls.{StoreCall}
use Rattle.sdb_model.specs.Causes.{ConflictsAtCommit, ScanObserves, prepares_key}
use Rattle.sdb_model.specs.Causes as causes
use Rattle.sdb_model.specs.ReadSet.{KeyRead, ReadItem, SpanRead, version_read}
use Rattle.sdb_model.specs.Requests.{any_of, observed_in, records_put}
use Rattle.sdb_model.specs.Transactions.{is_prepared_record, prepares}
use Rattle.sdb_model.proofs.Public.{any_less, in_only, unmet_all_observed}
use Rattle.sdb_phases.specs.declared.step.DecidePhase.TheVariants as phase
use Rattle.sdb_phases.specs.declared.step.DecideStep.TheVariants as decide
use Rattle.sdb_phases.specs.declared.step.Outcome.TheVariants as outcome
use Rattle.sdb_phases.specs.declared.step.PrepareStep.TheVariants as step_prepare
use Rattle.sdb_phases.specs.Checks.{base_of, check_of_read, check_of_scan, checks, difference_in, first_difference, wanted}
use Rattle.sdb_phases.specs.Commit.{Stage, Preparing, Checking, Deciding, Forward, Stopping, Back, Over, after_abort, after_check, after_decide, after_prepare, back, checking, forward, pending, preparing, out_of_memory, out_of_memory_answer, step}
use Rattle.sdb_phases.specs.Steps.{decide_next, judged, prepare_step, refused, touched_after, validate_step}
use Rattle.sdb_phases.specs.Work.{Work, abort_of, back_of, backs, groups_of, prepare_of, prepares_of, writes_before}
use Rattle.sdb_phases.specs.Work as work
use Rattle.sdb_validate.specs.Rescan.{IsFirstLost, is_unchanged_at, is_unchanged_by, reads_rise}
use Rattle.sdb_validate.proofs.Public.{first_lost}
use Rattle.law_clients.proofs.Public.{each_at, each_filter, each_map, each_more, no_base}
use Rattle.law_answers.specs.Conflicts.{ChecksBy, ConflictBy, HasPrepared, PreparesOnly}
use Rattle.law_answers.specs.Changes.{IsReadAt, WorkBy}
use Rattle.law_answers.proofs.Groups.{all_in_groups, any_at, group_of, map_contains, records_of_group}
use Rattle.law_answers.proofs.PathLists.{contains_at}

---- keys

pub key_turned : (a b : Key) → is_eq (key_cmp a b) ≡ is_eq (key_cmp b a)
key_turned a b = (eq_by_cmp_equiv key_total).symm a b

---- writes

written_at : (ws : List Write) (i : ℕ) (w : Write) → slice_get ws i ≡ Some w → is_written ws w.key ≡ true
written_at [] i w e = none_some w e
written_at (x ∷ xs) zero w e = let same : x ≡ w = cc in ap (λ b. is_some (if b then Some x else write_among xs w.key)) (ap (λ (y : Write). same_key w.key y.key) same ∙ same_key_self w.key)
written_at (x ∷ xs) (suc i) w e = either (same_key w.key x.key) (write_among xs w.key) (written_at xs i w e)
  where
    either : (b : Bool) (o : Option Write) → is_some o ≡ true → is_some (if b then Some x else o) ≡ true
    either true o h = refl
    either false o h = h

pub mapped_at : {A B : Type 0} (f : A → B) (xs : List A) (i : ℕ) (y : B) → slice_get (map f xs) i ≡ Some y → (x : A) × (slice_get xs i ≡ Some x) × (f x ≡ y)
mapped_at f [] i y e = none_some y e
mapped_at f (x ∷ xs) zero y e = (x, refl, some_is (f x) y e)
mapped_at f (x ∷ xs) (suc i) y e = mapped_at f xs i y e

all_places : (P : Write → Type 0) (ws : List Write) → ((i : ℕ) (w : Write) → slice_get ws i ≡ Some w → P w) → AllByRecursion P ws
all_places P [] h = tt
all_places P (w ∷ ws) h = (h 0 w refl, all_places P ws (λ i x e. h (suc i) x e))

pub all_written : (ws : List Write) → AllByRecursion (λ (w : Write). is_written ws w.key ≡ true) ws
all_written ws = all_places (λ (w : Write). is_written ws w.key ≡ true) ws (written_at ws)

-- the base of a written key is that of a write of it
base_at_write : (ws : List Write) (k : Key) (v : Option TxId) → base_of ws k ≡ Some v → (j : ℕ) × (w : Write) × (j < length ws) × (slice_get ws j ≡ Some w) × (w.key ≡ k) × (version_of w.base ≡ v)
base_at_write [] k v e = none_some v e
base_at_write (w ∷ ws) k v e = by (same_key k w.key) refl (λ h. base_at_write ws k v h) e
  where
    up : (j n : ℕ) → j < n → suc j < suc n
    up j n l = omega arith

    first : 0 < suc (length ws)
    first = omega arith

    by : (b : Bool) → same_key k w.key ≡ b → (base_of ws k ≡ Some v → (j : ℕ) × (x : Write) × (j < length ws) × (slice_get ws j ≡ Some x) × (x.key ≡ k) × (version_of x.base ≡ v)) → (if b then Some (version_of w.base) else base_of ws k) ≡ Some v
        → (j : ℕ) × (x : Write) × (j < suc (length ws)) × (slice_get (w ∷ ws) j ≡ Some x) × (x.key ≡ k) × (version_of x.base ≡ v)
    by true t ih h = (0, w, first, refl, sym (same_key_exact k w.key t), some_is (version_of w.base) v h)
    by false t ih h = let r = ih h in (suc r.0, r.1, up r.0 (length ws) r.2, r.3, r.4, r.5)

---- what prepares

unprepared_key : (id : TxId) (q : Key) (m : StoreCall) → prepares id m.request ≡ false → prepares_key id q m ≡ false
unprepared_key id q m f = any_less (is_prepared_record id) (λ r. same_key r.key q) (records_put m.request) f

-- a committed record is no prepared one
base_unprepared : (id : TxId) (k : Key) (b : Record) (c : Condition) → IsBaseOf k b → prepares id (ask.PutIf b c) ≡ false
base_unprepared id k b c is =
    ap (λ t. t || is_version id state.Deleted b) (one state.Prepared refl) ∙ one state.Deleted refl
  where
    at : column b.columns tx_state ≡ Some (value.Int (state_number state.Committed))
    at = has_value-is (column b.columns tx_state) (value.Int (state_number state.Committed)) is.2

    one : (s : State) → has_value (Some (value.Int (state_number state.Committed))) (value.Int (state_number s)) ≡ false → is_version id s b ≡ false
    one s n = ap (λ o. has_value (column b.columns tx_id) (value.Text (id_text id.0)) && has_value o (value.Int (state_number s))) at ∙ ap (λ t. has_value (column b.columns tx_id) (value.Text (id_text id.0)) && t) n ∙ and_false (has_value (column b.columns tx_id) (value.Text (id_text id.0)))

pub undo_unprepared : (id : TxId) (k : Key) (o : Option Record) (c : Condition) → IfSome o (IsBaseOf k) → prepares id (undo c k o) ≡ false
undo_unprepared id k None c is = refl
undo_unprepared id k (Some b) c is = base_unprepared id k b c is

pub row_unprepared : (id : TxId) (now : ℤ) → prepares id (abort_of id now) ≡ false
unfolding coordinator_row_of
row_unprepared id now = refl

pub prepared_is : (id : TxId) (now : ℤ) (w : Write) → is_prepared_record id (prepared_record w id now) ≡ true
prepared_is id now w = by w.change (prepared-version w id now)
  where
    by : (c : Change) → is_version id (state_of_change c) (prepared_record w id now) ≡ true → (is_version id state.Prepared (prepared_record w id now) || is_version id state.Deleted (prepared_record w id now)) ≡ true
    by (change.Row columns) h = ap (λ b. b || is_version id state.Deleted (prepared_record w id now)) h
    by change.Delete h = either (is_version id state.Prepared (prepared_record w id now)) (is_version id state.Deleted (prepared_record w id now)) h
      where
        either : (a b : Bool) → b ≡ true → (a || b) ≡ true
        either true b z = refl
        either false b z = z

none_prepares : (p : Work) (calls : List StoreCall) (q : Key) → PreparesOnly p calls → is_written p.writes q ≡ false → list_any (prepares_key p.id q) calls ≡ false
none_prepares p [] q all f = refl
none_prepares p (m ∷ ms) q all f =
    ap (λ b. b || list_any (prepares_key p.id q) ms) (by_test (prepares_key p.id q m) (λ t. clash (sym (all.0 q t) ∙ f)) (λ z. z))
    ∙ none_prepares p ms q all.1 f

any_more : (id : TxId) (q : Key) (calls : List StoreCall) (m : StoreCall) → list_any (prepares_key id q) calls ≡ false → prepares_key id q m ≡ false → list_any (prepares_key id q) (calls ++ m ∷ []) ≡ false
any_more id q [] m a f = ap (λ b. b || false) f
any_more id q (x ∷ xs) m a f = by (prepares_key id q x) a (λ h. any_more id q xs m h f)
  where
    by : (b : Bool) → (b || list_any (prepares_key id q) xs) ≡ false → (list_any (prepares_key id q) xs ≡ false → list_any (prepares_key id q) (xs ++ m ∷ []) ≡ false) → (b || list_any (prepares_key id q) (xs ++ m ∷ [])) ≡ false
    by true h ih = clash h
    by false h ih = ih h

---- one call more

module _ (p : Work) (read_set : List ReadItem) (w : WorkBy read_set p) (calls : List StoreCall) (m : StoreCall) where
  abbrev more : List StoreCall
  more = calls ++ m ∷ []

  prepared_more : (n : ℕ) → HasPrepared p n calls → HasPrepared p n more
  prepared_more n h j x l e = let r = h j x l e in (r.0, Contains-append_left calls (m ∷ []) r.0 r.1, r.2)

  only_more : PreparesOnly p calls → prepares p.id m.request ≡ false → PreparesOnly p more
  only_more h f = each_more (λ (x : StoreCall). (q : Key) → prepares_key p.id q x ≡ true → is_written p.writes q ≡ true) calls m h (λ q t. clash (sym t ∙ unprepared_key p.id q m f))

  -- a conflict stays, where the call prepares nothing
  unmet_more : (key : Key) (found : Option Record) → causes.IsUnmet calls p.id key found → causes.IsUnmet more p.id key found
  unmet_more key found h = (h.0, Contains-append_left calls (m ∷ []) h.0 h.1, h.2, h.3)

  conflict_more : (key : Key) (found : Option Record) → prepares p.id m.request ≡ false → ConflictsAtCommit calls read_set p.id key found → ConflictsAtCommit more read_set p.id key found
  conflict_more key found f (inl (moved, inl h)) = inl (moved, inl (unmet_more key found h))
  conflict_more key found f (inl (moved, inr h)) = inl (moved, inr (h.0, Contains-append_left calls (m ∷ []) h.0 h.1, h.2, any_more p.id key calls m h.3 (unprepared_key p.id key m f)))
  conflict_more key found f (inr (shows, h)) = inr ((shows.0, Contains-append_left calls (m ∷ []) shows.0 shows.1, shows.2), (h.0, h.1, h.2, Contains-append_left calls (m ∷ []) h.0 h.3, h.4, h.5, h.6))

  by_more : (a : Outcome) → prepares p.id m.request ≡ false → ConflictBy read_set p calls a → ConflictBy read_set p more a
  by_more outcome.Committed f h = tt
  by_more (outcome.Conflict key found) f h = conflict_more key found f h
  by_more (outcome.Expired u) f h = tt
  by_more outcome.Faulted f h = tt
  by_more (outcome.Unknown u) f h = tt
  by_more (outcome.BadRecord key) f h = tt
  by_more outcome.NoMemory f h = tt

  ---- stages

  checking_at : (i : ℕ) → PreparesOnly p more → HasPrepared p (groups_of p) more → ChecksBy read_set p more (checking p i)
  checking_at i o h = elim (nat_lt i (length (checks p))) as (λ b. ChecksBy read_set p more (cond b (Checking i) (Deciding phase.Put))) [ true ↦ (o, h) | false ↦ tt ]

  back_at : (a : Outcome) (n i : ℕ) → ConflictBy read_set p more a → ChecksBy read_set p more (back a n i)
  back_at a n i h = elim (nat_lt i n) as (λ b. ChecksBy read_set p more (cond b (Back a n i) (Over a))) [ true ↦ h | false ↦ h ]

  forward_at : (i : ℕ) → ChecksBy read_set p more (forward p i)
  forward_at i = elim (nat_lt i (groups_of p)) as (λ b. ChecksBy read_set p more (cond b (Forward i) (Over outcome.Committed))) [ true ↦ tt | false ↦ tt ]

  ---- a prepare

  module _ (i : ℕ) (g : List Write) (at : slice_get (grouped p.writes) i ≡ Some g) (asks : m.request ≡ prepares_of p.id p.now g) (only : PreparesOnly p calls) (done : HasPrepared p i calls) where
    abbrev is_prepare_at : Key → Record → Bool
    is_prepare_at q y = is_prepared_record p.id y && same_key y.key q

    prepared_in : (x : Write) (q : Key) → is_written p.writes x.key ≡ true → is_prepare_at q (prepared_record x p.id p.now) ≡ true → is_written p.writes q ≡ true
    prepared_in x q own t =
        let k : same_key (prepared_record x p.id p.now).key q ≡ true = (and_parts (is_prepared_record p.id (prepared_record x p.id p.now)) (same_key (prepared_record x p.id p.now).key q) t).1 in
        let same : x.key ≡ q = same_key_exact x.key q (sym (ap (λ (z : Key). same_key z q) (prepared-key x p.id p.now)) ∙ k) in
        ap (is_written p.writes) (sym same) ∙ own

    one_written : (ws : List Write) (q : Key) → AllByRecursion (λ (x : Write). is_written p.writes x.key ≡ true) ws → any_of (is_prepare_at q) (map (λ (x : Write). prepared_record x p.id p.now) ws) ≡ true → is_written p.writes q ≡ true
    one_written [] q own t = clash (sym t)
    one_written (x ∷ []) q own t = prepared_in x q own.0 t
    one_written (x ∷ y ∷ ys) q own t = either (is_prepare_at q (prepared_record x p.id p.now)) refl t (one_written (y ∷ ys) q own.1)
      where
        either : (b : Bool) → is_prepare_at q (prepared_record x p.id p.now) ≡ b → (b || any_of (is_prepare_at q) (map (λ (z : Write). prepared_record z p.id p.now) (y ∷ ys))) ≡ true
            → (any_of (is_prepare_at q) (map (λ (z : Write). prepared_record z p.id p.now) (y ∷ ys)) ≡ true → is_written p.writes q ≡ true) → is_written p.writes q ≡ true
        either true e h rest = prepared_in x q own.0 e
        either false e h rest = rest h

    puts_group : records_put m.request ≡ map (λ (x : Write). prepared_record x p.id p.now) g
    puts_group = ap records_put asks ∙ records_of_group p.id p.now g

    prepares_it : (q : Key) → prepares_key p.id q m ≡ true → is_written p.writes q ≡ true
    prepares_it q t = one_written g q (each_at (AllByRecursion (λ (x : Write). is_written p.writes x.key ≡ true)) (grouped p.writes) i g (grouped_all (λ (x : Write). is_written p.writes x.key ≡ true) p.writes (all_written p.writes)) at) (sym (ap (any_of (is_prepare_at q)) puts_group) ∙ t)

    only_now : PreparesOnly p more
    only_now = each_more (λ (y : StoreCall). (q : Key) → prepares_key p.id q y ≡ true → is_written p.writes q ≡ true) calls m only prepares_it

    prepared_now : HasPrepared p (i + 1) more
    prepared_now j y l e = by (last j i l)
      where
        last : (j i : ℕ) → j < i + 1 → (j < i) ⊎ (j ≡ i)
        last j i l = grind (arith, nat_tests)

        by : (j < i) ⊎ (j ≡ i) → (z : StoreCall) × Contains more z × (z.request ≡ prepares_of p.id p.now y)
        by (inl k) = prepared_more i done j y k e
        by (inr k) = let same : g ≡ y = some_is g y (sym at ∙ sym (ap (slice_get (grouped p.writes)) k) ∙ e) in (m, Contains-push calls m, asks ∙ ap (prepares_of p.id p.now) same)

    -- the write of that place in the group was read, and its prepare found something else
    unmet_write : (j : ℕ) (x : Write) (found : Option Record) → slice_get g j ≡ Some x → is_unchanged found (version_of x.base) ≡ false → Contains (observed_in m.request m.reply) ((prepared_record x p.id p.now).key, found) → ConflictsAtCommit more read_set p.id (prepared_record x p.id p.now).key found
    unmet_write j x found e changed observed =
        let base : IsReadAt read_set x.key (version_of x.base) =
        each_at (λ (z : Write). IsReadAt read_set z.key (version_of z.base)) g j x (each_at (AllByRecursion (λ (z : Write). IsReadAt read_set z.key (version_of z.base))) (grouped p.writes) i g (grouped_all (λ (z : Write). IsReadAt read_set z.key (version_of z.base)) p.writes w.writes) at) e in
        let key : (prepared_record x p.id p.now).key ≡ x.key = prepared-key x p.id p.now in
        let own : is_prepare_at (prepared_record x p.id p.now).key (prepared_record x p.id p.now) ≡ true = ap (λ b. b && same_key (prepared_record x p.id p.now).key (prepared_record x p.id p.now).key) (prepared_is p.id p.now x) ∙ same_key_self (prepared_record x p.id p.now).key in
        let asked : prepares_key p.id (prepared_record x p.id p.now).key m ≡ true =
        ap (any_of (is_prepare_at (prepared_record x p.id p.now).key)) puts_group
        ∙ any_at (is_prepare_at (prepared_record x p.id p.now).key) (map (λ (z : Write). prepared_record z p.id p.now) g) j (prepared_record x p.id p.now) (slice_get-map (λ (z : Write). prepared_record z p.id p.now) g j ∙ ap (option_map (λ (z : Write). prepared_record z p.id p.now)) e) own in
        inl ((base.item, version_of x.base, base.among, ap (version_read base.item) key ∙ base.as_read, changed), inl (m, Contains-push calls m, asked, observed))

    can_then : (r : Reply) → m.reply ≡ r → CanAnswer m.request m.reply → CanAnswer (prepares_of p.id p.now g) r
    can_then r f can = subst (λ (q : Request). CanAnswer q r) asks (subst (CanAnswer m.request) f can)

    -- what the reply to the prepare shows
    observes : (r : Reply) (key : Key) (found : Option Record) → m.reply ≡ r → Contains (observed_in (prepares_of p.id p.now g) r) (key, found) → Contains (observed_in m.request m.reply) (key, found)
    observes r key found f h = subst (λ (y : Reply). Contains (observed_in m.request y) (key, found)) (sym f) (subst (λ (q : Request). Contains (observed_in q r) (key, found)) (sym asks) h)

    not_met_at : (n : ℕ) (g1 : List Write) (found : Option Record) → g ≡ g1 → m.reply ≡ reply.NotMet found → CanAnswer (prepares_of p.id p.now g1) (reply.NotMet found) → ChecksBy read_set p more (after_prepare p i n (refused (Some (prepares_of p.id p.now g1)) 1 found))
    not_met_at n [] found e f can = absurd can
    not_met_at n (x ∷ []) found e f can =
        unmet_write 0 x found (ap (λ ws. slice_get ws 0) e) can.1 (observes (reply.NotMet found) (prepared_record x p.id p.now).key found f (subst (λ ws. Contains (observed_in (prepares_of p.id p.now ws) (reply.NotMet found)) ((prepared_record x p.id p.now).key, found)) (sym e) (in_only ((prepared_record x p.id p.now).key, found) ((prepared_record x p.id p.now).key, found) refl)))
    not_met_at n (x ∷ y ∷ ys) found e f can = absurd can

    abbrev puts_for : List Write → List Put
    puts_for ws = map (prepare_of p.id p.now) ws

    not_all_at : (n k : ℕ) (g1 : List Write) (found : Option Record) → g ≡ g1 → m.reply ≡ reply.NotAll k found → CanAnswer (prepares_of p.id p.now g1) (reply.NotAll k found) → ChecksBy read_set p more (after_prepare p i n (refused (Some (prepares_of p.id p.now g1)) k found))
    not_all_at n k [] found e f can = tt
    not_all_at n k (x ∷ []) found e f can = absurd can
    not_all_at n k (x ∷ y ∷ ys) found e f can = by (put_at (puts_for (x ∷ y ∷ ys)) k) refl can.1
      where
        conflict : (u : Put) (z : Write) → put_at (puts_for (x ∷ y ∷ ys)) k ≡ Some u → slice_get (x ∷ y ∷ ys) (k - 1) ≡ Some z → prepare_of p.id p.now z ≡ u → IsUnmet u.condition u.rec.key found → ConflictsAtCommit more read_set p.id u.rec.key found
        conflict u z there place same unmet =
            subst (λ (v : Put). ConflictsAtCommit more read_set p.id v.rec.key found) same
            (unmet_write (k - 1) z found (ap (λ ws. slice_get ws (k - 1)) e ∙ place) (subst (λ (v : Put). IsUnmet v.condition v.rec.key found) (sym same) unmet).1
            (observes (reply.NotAll k found) (prepared_record z p.id p.now).key found f (subst (λ ws. Contains (observed_in (prepares_of p.id p.now ws) (reply.NotAll k found)) ((prepared_record z p.id p.now).key, found)) (sym e)
            (unmet_all_observed found (puts_for (x ∷ y ∷ ys)) k (prepare_of p.id p.now z) (there ∙ ap Some (sym same))))))

        by : (o : Option Put) → put_at (puts_for (x ∷ y ∷ ys)) k ≡ o → IsSomeAnd o (λ (u : Put). IsUnmet u.condition u.rec.key found) → ChecksBy read_set p more (after_prepare p i n (option_map_or (λ (u : Put). step_prepare.Conflict u.rec.key found) o step_prepare.NoMemory))
        by None there unmet = tt
        by (Some u) there unmet = let r = mapped_at (prepare_of p.id p.now) (x ∷ y ∷ ys) (k - 1) u there in conflict u r.0 there r.1 r.2 unmet

    refused_at : (n k : ℕ) (o : Option Request) (found : Option Record) → Some (prepares_of p.id p.now g) ≡ o → ChecksBy read_set p more (after_prepare p i n (refused (Some (prepares_of p.id p.now g)) k found)) → ChecksBy read_set p more (after_prepare p i n (refused o k found))
    refused_at n k o found e h = subst (λ (z : Option Request). ChecksBy read_set p more (after_prepare p i n (refused z k found))) e h

    prepared_at : (b : Bool) (n : ℕ) (o : Option Request) (r : Reply) → nat_lt (i + 1) (groups_of p) ≡ b → Some (prepares_of p.id p.now g) ≡ o → m.reply ≡ r → CanAnswer m.request m.reply → ChecksBy read_set p more (after_prepare p i n (prepare_step b o r))
    prepared_at true n o reply.Applied l e f can = (only_now, prepared_now)
    prepared_at false n o reply.Applied l e f can = checking_at 0 only_now (λ j y k z. prepared_now j y (all j (i + 1) (groups_of p) l k) z)
      where
        all : (j n k : ℕ) → nat_lt n k ≡ false → j < k → j < n
        all j n k l h = grind (arith, nat_tests)
    prepared_at b n o (reply.NotMet found) l e f can = refused_at n 1 o found e (not_met_at n g found refl f (can_then (reply.NotMet found) f can))
    prepared_at b n o reply.Fault l e f can = tt
    prepared_at b n o (reply.Found found) l e f can = tt
    prepared_at b n o (reply.Rows rows) l e f can = tt
    prepared_at b n o (reply.NotAll place there) l e f can = refused_at n place o there e (not_all_at n place g there refl f (can_then (reply.NotAll place there) f can))
    prepared_at b n o reply.NoMemory l e f can = tt

  ---- checks

  module _ (only : PreparesOnly p more) (done : HasPrepared p (groups_of p) more) where
    -- where a check differs there is a conflict
    abbrev Differs : Check → Type 0
    Differs c = (r : Reply) → m.request ≡ c.request → m.reply ≡ r → CanAnswer c.request r → (d : Key × Option Record) → difference_in c r ≡ Some d → ConflictsAtCommit more read_set p.id d.0 d.1

    read_differs : (r : Read) → Contains read_set (KeyRead r) → is_written p.writes r.key ≡ false → Differs (check_of_read r)
    read_differs r as_read free (reply.Found found) e f can d h = by (is_unchanged found r.version) refl h
      where
        by : (b : Bool) → is_unchanged found r.version ≡ b → (if b then None else Some (r.key, found)) ≡ Some d → ConflictsAtCommit more read_set p.id d.0 d.1
        by true t k = none_some d k
        by false t k =
            let same : (r.key, found) ≡ d = some_is (r.key, found) d k in
            subst (λ (z : Key × Option Record). ConflictsAtCommit more read_set p.id z.0 z.1) same
            (inl ((KeyRead r, r.version, as_read, ap (λ b. if b then Some r.version else None) (same_key_self r.key), t), inr (m, Contains-push calls m, inl (e, f), none_prepares p more r.key only free)))
    read_differs r as_read free (reply.Rows rows) e f can d h = none_some d h
    read_differs r as_read free (reply.NotAll place there) e f can d h = none_some d h
    read_differs r as_read free reply.Applied e f can d h = none_some d h
    read_differs r as_read free (reply.NotMet found) e f can d h = none_some d h
    read_differs r as_read free reply.Fault e f can d h = none_some d h
    read_differs r as_read free reply.NoMemory e f can d h = none_some d h

    ---- a rescan

    module _ (x : Scan) (as_read : Contains read_set (SpanRead x)) (inside : list_all (λ r. in_span x.span r.key) x.found ≡ true) (rises : reads_rise x.found ≡ true) (rows : List Record) (e : m.request ≡ ask.Scan x.span) (f : m.reply ≡ reply.Rows rows) (can : are_rows_of x.span rows ≡ true) where
      shows_at : (k : Key) → in_span x.span k ≡ true → ScanObserves m k (record_among rows k)
      shows_at k i = (x.span, rows, e, i, f, refl)

      -- a key outside of the span has no record, and no version
      row_outside : (rs : List Record) (k : Key) → list_all (λ (r : Record). in_span x.span r.key) rs ≡ true → in_span x.span k ≡ false → record_among rs k ≡ None
      row_outside [] k h o = refl
      row_outside (r ∷ rs) k h o =
          let a = and_parts (in_span x.span r.key) (list_all (λ (y : Record). in_span x.span y.key) rs) h in
          ap (λ b. if b then Some r else record_among rs k) (by_test (same_key k r.key) (λ t. clash (sym a.0 ∙ ap (in_span x.span) (sym (same_key_exact k r.key t)) ∙ o)) (λ z. z)) ∙ row_outside rs k a.1 o

      version_outside : (rs : List Read) (k : Key) → list_all (λ (r : Read). in_span x.span r.key) rs ≡ true → in_span x.span k ≡ false → version_among rs k ≡ None
      version_outside [] k h o = refl
      version_outside (r ∷ rs) k h o =
          let a = and_parts (in_span x.span r.key) (list_all (λ (y : Read). in_span x.span y.key) rs) h in
          ap (λ b. option_and_then (λ (y : Read). y.version) (if b then Some r else find (λ (y : Read). same_key k y.key) rs)) (by_test (same_key k r.key) (λ t. clash (sym a.0 ∙ ap (in_span x.span) (sym (same_key_exact k r.key t)) ∙ o)) (λ z. z)) ∙ version_outside rs k a.1 o

      lost_unwritten : (k : Key) → in_span x.span k ≡ true → base_of p.writes k ≡ None → is_unchanged (record_among rows k) (version_among x.found k) ≡ false → ConflictsAtCommit more read_set p.id k (record_among rows k)
      lost_unwritten k i free h =
          inl (
            (SpanRead x, version_among x.found k, as_read, ap (λ b. if b then Some (version_among x.found k) else None) i, h),
            inr (m, Contains-push calls m, inr (shows_at k i), none_prepares p more k only (no_base p.writes k free)),
          )

      lost_written : (k : Key) (base : Option TxId) → in_span x.span k ≡ true → base_of p.writes k ≡ Some base → same_version base (version_among x.found k) ≡ false → ConflictsAtCommit more read_set p.id k (record_among rows k)
      lost_written k base i own h =
          let b = base_at_write p.writes k base own in
          let group = group_of p.writes b.1 (contains_at p.writes b.0 b.1 b.3) in
          let made = done group.0 group.1 group.2 group.3 in
          let valid : IsWrite b.1 = each_at IsWrite p.writes b.0 b.1 w.valid b.3 in
          inr (
            (m, Contains-push calls m, shows_at k i),
            (
              made.0,
              base,
              version_among x.found k,
              made.1,
              (
                prepared_record b.1 p.id p.now,
                subst (λ rs. Contains rs (prepared_record b.1 p.id p.now)) (sym (ap records_put made.2 ∙ records_of_group p.id p.now group.1)) (map_contains (λ (y : Write). prepared_record y p.id p.now) group.1 b.1 group.4),
                prepared_is p.id p.now b.1,
                prepared-key b.1 p.id p.now ∙ b.4,
                ap version_of (prepared-base b.1 p.id p.now valid) ∙ b.5,
              ),
              (x, as_read, i, refl),
              h,
            ),
          )

      lost_at : (k : Key) → is_unchanged_at p.writes x rows k ≡ false → ConflictsAtCommit more read_set p.id k (record_among rows k)
      lost_at k h = by_test (in_span x.span k) within without
        where
          without : in_span x.span k ≡ false → ConflictsAtCommit more read_set p.id k (record_among rows k)
          without o =
              clash
              (sym (ap (λ b. is_unchanged_by (if b then base_of p.writes k else None) (version_among x.found k) (record_among rows k)) o
              ∙ ap (λ v. is_unchanged (record_among rows k) v) (version_outside x.found k inside o)
              ∙ ap (λ r. is_unchanged r None) (row_outside rows k (and_parts (rise rows) (list_all (λ (r : Record). in_span x.span r.key) rows) can).1 o)) ∙ h)

          own_case : (o : Option (Option TxId)) → in_span x.span k ≡ true → base_of p.writes k ≡ o → is_unchanged_by o (version_among x.found k) (record_among rows k) ≡ false → ConflictsAtCommit more read_set p.id k (record_among rows k)
          own_case None i own z = lost_unwritten k i own z
          own_case (Some base) i own z = lost_written k base i own z

          within : in_span x.span k ≡ true → ConflictsAtCommit more read_set p.id k (record_among rows k)
          within i = own_case (base_of p.writes k) i refl (sym (ap (λ b. is_unchanged_by (if b then base_of p.writes k else None) (version_among x.found k) (record_among rows k)) i) ∙ h)

      scan_lost : (d : Key × Option Record) → first_difference (wanted p.writes x) rows ≡ Some d → ConflictsAtCommit more read_set p.id d.0 d.1
      scan_lost d h =
          let lost : IsFirstLost p.writes x rows (Some d) = subst (IsFirstLost p.writes x rows) h (first_lost p.writes x rows rises (and_parts (rise rows) (list_all (λ (r : Record). in_span x.span r.key) rows) can).0) in
          subst (ConflictsAtCommit more read_set p.id d.0) (sym lost.0) (lost_at d.0 lost.1)

    scan_differs : (x : Scan) → Contains read_set (SpanRead x) → list_all (λ r. in_span x.span r.key) x.found ≡ true → reads_rise x.found ≡ true → Differs (check_of_scan p.writes x)
    scan_differs x as_read inside rises (reply.Rows rows) e f can d h = scan_lost x as_read inside rises rows e f can d h
    scan_differs x as_read inside rises (reply.Found found) e f can d h = none_some d h
    scan_differs x as_read inside rises reply.Applied e f can d h = none_some d h
    scan_differs x as_read inside rises (reply.NotMet found) e f can d h = none_some d h
    scan_differs x as_read inside rises (reply.NotAll place there) e f can d h = none_some d h
    scan_differs x as_read inside rises reply.Fault e f can d h = none_some d h
    scan_differs x as_read inside rises reply.NoMemory e f can d h = none_some d h

    not_is : (b : Bool) → not b ≡ true → b ≡ false
    not_is true e = clash (sym e)
    not_is false e = refl

    all_differ : AllByRecursion Differs (checks p)
    all_differ =
        each_append Differs (map check_of_read (filter (λ r. not (is_written p.writes r.key)) p.reads)) (map (check_of_scan p.writes) p.scans)
        (each_map Differs check_of_read (filter (λ r. not (is_written p.writes r.key)) p.reads)
        (each_any (λ (r : Read). Contains read_set (KeyRead r) × (not (is_written p.writes r.key) ≡ true)) (λ (r : Read). Differs (check_of_read r)) (filter (λ r. not (is_written p.writes r.key)) p.reads)
        (λ r h. read_differs r h.0 (not_is (is_written p.writes r.key) h.1)) (each_filter (λ (r : Read). Contains read_set (KeyRead r)) (λ (r : Read). not (is_written p.writes r.key)) p.reads w.reads)))
        (each_map Differs (check_of_scan p.writes) p.scans
        (each_any (λ (x : Scan). Contains read_set (SpanRead x) × (list_all (λ r. in_span x.span r.key) x.found ≡ true) × (reads_rise x.found ≡ true)) (λ (x : Scan). Differs (check_of_scan p.writes x)) p.scans (λ x h. scan_differs x h.0 h.1 h.2) w.scans))

    judged_at : (b : Bool) (i : ℕ) (o : Option (Key × Option Record)) → ((d : Key × Option Record) → o ≡ Some d → ConflictsAtCommit more read_set p.id d.0 d.1) → ChecksBy read_set p more (after_check p i (judged b o))
    judged_at true i None h = (only, done)
    judged_at false i None h = tt
    judged_at b i (Some d) h = h d refl

    checked_at : (b : Bool) (i : ℕ) (o : Option Check) (r : Reply) → ((c : Check) → o ≡ Some c → (m.request ≡ c.request) × Differs c) → m.reply ≡ r → CanAnswer m.request m.reply → ChecksBy read_set p more (after_check p i (validate_step b o r))
    checked_at b i o reply.Fault h f can = tt
    checked_at b i o reply.NoMemory h f can = tt
    checked_at b i None reply.Applied h f can = tt
    checked_at b i None (reply.NotMet found) h f can = tt
    checked_at b i None (reply.Found found) h f can = tt
    checked_at b i None (reply.Rows rows) h f can = tt
    checked_at b i None (reply.NotAll place there) h f can = tt
    checked_at b i (Some c) reply.Applied h f can = judged_at b i (difference_in c reply.Applied) (λ d e. let k = h c refl in k.1 reply.Applied k.0 f (subst (λ (q : Request). CanAnswer q reply.Applied) k.0 (subst (CanAnswer m.request) f can)) d e)
    checked_at b i (Some c) (reply.NotMet found) h f can = judged_at b i (difference_in c (reply.NotMet found)) (λ d e. let k = h c refl in k.1 (reply.NotMet found) k.0 f (subst (λ (q : Request). CanAnswer q (reply.NotMet found)) k.0 (subst (CanAnswer m.request) f can)) d e)
    checked_at b i (Some c) (reply.Found found) h f can = judged_at b i (difference_in c (reply.Found found)) (λ d e. let k = h c refl in k.1 (reply.Found found) k.0 f (subst (λ (q : Request). CanAnswer q (reply.Found found)) k.0 (subst (CanAnswer m.request) f can)) d e)
    checked_at b i (Some c) (reply.Rows rows) h f can = judged_at b i (difference_in c (reply.Rows rows)) (λ d e. let k = h c refl in k.1 (reply.Rows rows) k.0 f (subst (λ (q : Request). CanAnswer q (reply.Rows rows)) k.0 (subst (CanAnswer m.request) f can)) d e)
    checked_at b i (Some c) (reply.NotAll place there) h f can = judged_at b i (difference_in c (reply.NotAll place there)) (λ d e. let k = h c refl in k.1 (reply.NotAll place there) k.0 f (subst (λ (q : Request). CanAnswer q (reply.NotAll place there)) k.0 (subst (CanAnswer m.request) f can)) d e)

  ---- the other stages

  decided_at : (d : DecidePhase) (s : DecideStep) → ChecksBy read_set p more (after_decide p d s)
  decided_at d decide.More = tt
  decided_at d decide.Committed = forward_at 0
  decided_at d (decide.Expired id) = back_at (outcome.Expired id) (length p.writes) 0 tt
  decided_at d decide.Faulted = back_at outcome.Faulted (length p.writes) 0 tt
  decided_at d (decide.Unknown id) = tt
  decided_at d (decide.BadRecord key) = tt
  decided_at d decide.NoMemory = tt

  stop_at : (a : Outcome) (n : ℕ) (r : Reply) → ConflictBy read_set p more a → ChecksBy read_set p more (after_abort a n r)
  stop_at a n reply.Applied h = back_at a n 0 h
  stop_at a n (reply.NotMet found) h = back_at a n 0 h
  stop_at a n (reply.Found found) h = h
  stop_at a n (reply.Rows rows) h = h
  stop_at a n (reply.NotAll place there) h = h
  stop_at a n reply.Fault h = h
  stop_at a n reply.NoMemory h = h

  asked_check : (i : ℕ) → AllByRecursion (λ c. prepares p.id c.request ≡ false) (checks p) → option_map (λ c. c.request) (slice_get (checks p) i) ≡ Some m.request → prepares p.id m.request ≡ false
  asked_check i all e = by (slice_get (checks p) i) refl e
    where
      by : (o : Option Check) → slice_get (checks p) i ≡ o → option_map (λ c. c.request) o ≡ Some m.request → prepares p.id m.request ≡ false
      by None k h = none_some m.request h
      by (Some c) k h = sym (ap (prepares p.id) (some_is c.request m.request h)) ∙ each_at (λ (c : Check). prepares p.id c.request ≡ false) (checks p) i c all k

  checks_prepare_none : AllByRecursion (λ c. prepares p.id c.request ≡ false) (checks p)
  checks_prepare_none =
      each_append (λ (c : Check). prepares p.id c.request ≡ false) (map check_of_read (filter (λ r. not (is_written p.writes r.key)) p.reads)) (map (check_of_scan p.writes) p.scans)
      (each_map (λ (c : Check). prepares p.id c.request ≡ false) check_of_read (filter (λ r. not (is_written p.writes r.key)) p.reads) (reads (filter (λ r. not (is_written p.writes r.key)) p.reads)))
      (each_map (λ (c : Check). prepares p.id c.request ≡ false) (check_of_scan p.writes) p.scans (scans p.scans))
    where
      reads : (xs : List Read) → AllByRecursion (λ r. prepares p.id (check_of_read r).request ≡ false) xs
      reads [] = tt
      reads (x ∷ xs) = (refl, reads xs)

      scans : (xs : List Scan) → AllByRecursion (λ s. prepares p.id (check_of_scan p.writes s).request ≡ false) xs
      scans [] = tt
      scans (x ∷ xs) = (refl, scans xs)

  back_prepares_none : (i : ℕ) → slice_get (backs p) i ≡ Some m.request → prepares p.id m.request ≡ false
  back_prepares_none i e =
      let r = mapped_at (back_of p.id) (in_groups p.writes) i m.request e in
      let valid : IsWrite r.0 = each_at IsWrite (in_groups p.writes) i r.0 (all_in_groups IsWrite p.writes w.valid) r.1 in
      sym (ap (prepares p.id) r.2) ∙ undo_unprepared p.id r.0.key r.0.base (work.is_as_prepared p.id r.0) valid.base

  pub checks_on : (s : Stage) → ChecksBy read_set p calls s → pending p s ≡ Some m.request → CanAnswer m.request m.reply → ChecksBy read_set p more (step p s m.reply)
  checks_on (Preparing i) h e can =
      let r = mapped_at (prepares_of p.id p.now) (grouped p.writes) i m.request e in
      prepared_at i r.0 r.1 (sym r.2) h.0 h.1 (nat_lt (i + 1) (groups_of p)) (touched_after (slice_get (work.prepares p) i) (writes_before p i) m.reply) (slice_get (work.prepares p) i) m.reply refl (ap Some r.2 ∙ sym e) refl can
  checks_on (Checking i) h e can =
      let free : prepares p.id m.request ≡ false = asked_check i checks_prepare_none e in
      checked_at (only_more h.0 free) (prepared_more (groups_of p) h.1) (nat_lt (i + 1) (length (checks p))) i (slice_get (checks p) i) m.reply
      (λ c k. (sym (some_is c.request m.request (sym (ap (option_map (λ (z : Check). z.request)) k) ∙ e)), each_at (Differs (only_more h.0 free) (prepared_more (groups_of p) h.1)) (checks p) i c (all_differ (only_more h.0 free) (prepared_more (groups_of p) h.1)) k)) refl can
  checks_on (Deciding d) h e can = decided_at (decide_next p.id d m.reply).0 (decide_next p.id d m.reply).1
  checks_on (Forward i) h e can = forward_at (i + 1)
  checks_on (Stopping a n) h e can = stop_at a n m.reply (by_more a (sym (ap (prepares p.id) (some_is (abort_of p.id p.now) m.request e)) ∙ row_unprepared p.id p.now) h)
  checks_on (Back a n i) h e can = back_at a n (i + 1) (by_more a (back_prepares_none i e) h)
  checks_on (Over a) h e can = none_some m.request e

-- out of memory in place of a conflict
pub starved_checks : (read_set : List ReadItem) (p : Work) (calls : List StoreCall) (s : Stage) → ChecksBy read_set p calls s → ChecksBy read_set p calls (out_of_memory s)
starved_checks read_set p calls (Preparing i) h = h
starved_checks read_set p calls (Checking i) h = h
starved_checks read_set p calls (Deciding d) h = h
starved_checks read_set p calls (Forward i) h = h
starved_checks read_set p calls (Stopping a n) h = by a h
  where
    by : (a : Outcome) → ConflictBy read_set p calls a → ConflictBy read_set p calls (out_of_memory_answer a)
    by outcome.Committed h = tt
    by (outcome.Conflict key found) h = tt
    by (outcome.Expired u) h = tt
    by outcome.Faulted h = tt
    by (outcome.Unknown u) h = tt
    by (outcome.BadRecord key) h = tt
    by outcome.NoMemory h = tt
starved_checks read_set p calls (Back a n i) h = by a h
  where
    by : (a : Outcome) → ConflictBy read_set p calls a → ConflictBy read_set p calls (out_of_memory_answer a)
    by outcome.Committed h = tt
    by (outcome.Conflict key found) h = tt
    by (outcome.Expired u) h = tt
    by outcome.Faulted h = tt
    by (outcome.Unknown u) h = tt
    by (outcome.BadRecord key) h = tt
    by outcome.NoMemory h = tt
starved_checks read_set p calls (Over a) h = by a h
  where
    by : (a : Outcome) → ConflictBy read_set p calls a → ConflictBy read_set p calls (out_of_memory_answer a)
    by outcome.Committed h = tt
    by (outcome.Conflict key found) h = tt
    by (outcome.Expired u) h = tt
    by outcome.Faulted h = tt
    by (outcome.Unknown u) h = tt
    by (outcome.BadRecord key) h = tt
    by outcome.NoMemory h = tt

-- where a COMMIT begins
pub begins_checked : (read_set : List ReadItem) (p : Work) → ChecksBy read_set p [] (preparing p 0)
begins_checked read_set p = by (nat_lt 0 (groups_of p)) refl (nat_lt 0 (length (checks p)))
  where
    below : (j : ℕ) → j < 0 → ⊥
    below j l = absurd (omega arith)

    empty : (j n : ℕ) → nat_lt 0 n ≡ false → j < n → ⊥
    empty j n f l = absurd (grind (arith, nat_tests))

    by : (a : Bool) → nat_lt 0 (groups_of p) ≡ a → (b : Bool) → ChecksBy read_set p [] (if a then Preparing 0 else (if b then Checking 0 else Deciding phase.Put))
    by true e b = (tt, λ j w l k. absurd (below j l))
    by false e true = (tt, λ j w l k. absurd (empty j (groups_of p) e l))
    by false e false = tt
