-- Each call of a read and of a VACUUM keeps which of the unresolved records that were found are dealt with.
use Rattle.std.proofs.Common.{◌≡◌, ◌<◌, ◌+◌, ◌⊎◌, inl, inr, ℕ, ℤ, Bool, true, false, List, [], ◌∷◌, ◌++◌, Option, Some, None, Ok, refl, sym, ap, subst, ◌∙◌, arith}
use Rattle.std.specs.Prelude.{if◌then◌else◌, Contains}
use Rattle.std.specs.List.{AllByRecursion}
use Rattle.std.specs.Option.{option_map}
use Rattle.std.specs.Result.{result_ok}
use Rattle.std.proofs.lemmas.List.Elements.{Contains-push, Contains-push_cases}
use Rattle.law_answers.specs.Types.{Decided, Event, Meta, Record, RecoverPhase, RecoverStep, Reply, Request, Span, TxId, VacuumStep}
use Rattle.sdb_types.specs.declared.record.Condition.TheVariants as condition
use Rattle.sdb_types.specs.declared.record.Reply.TheVariants as reply
use Rattle.sdb_types.specs.declared.record.Request.TheVariants as ask
use Rattle.sdb_types.specs.declared.record.State.TheVariants as state
use Rattle.sdb_types.proofs.Public.{clash, none_some, one_of, some_is}
use Rattle.sdb_record.specs.declared.coordinator.Decision.TheVariants as decision
use Rattle.sdb_record.specs.Coordinator.{coordinator_key_of, coordinator_row_of, decision_in, is_expired}
use Rattle.sdb_record.specs.Meta.{checked, id_in, is_moment, is_unresolved}
use Rattle.sdb_record.specs.Parts.{before_record}
use Rattle.sdb_record.specs.Rolls.{back_to, forward_record, is_tombstone, undo}
use Rattle.sdb_record.proofs.Public.{row-decision, row-key}
use Rattle.sdb_model.specs.Calls.{StoreCall, clock_at, decision_in_reply, is_of_row, is_read, records_read}
use Rattle.sdb_model.specs.Causes.{IsEarly}
use Rattle.sdb_model.specs.Counted.{request_of_back, roll_by}
use Rattle.sdb_model.specs.Counted as counted
use Rattle.sdb_model.specs.ReadSet.{reads_rows}
use Rattle.sdb_phases.specs.declared.step.RecoverPhase.TheVariants as phase
use Rattle.sdb_phases.specs.declared.step.RecoverStep.TheVariants as steps
use Rattle.sdb_phases.specs.Recover.{recover_back, recover_forward, recover_next, recover_request_at, row_followed, is_as_found, undecided}
use Rattle.sdb_phases.proofs.Public.{by_expiry, by_row, by_rows_recover_rows as by_rows}
use Rattle.sdb_phases.specs.Work.{abort_of, look_of}
use Rattle.sdb_txn.specs.Read.{Asking, Bad, Ended, Firm, Kind, Open, ReadStage, Resolving, answered, kind_of, read_pending_at, read_step, resolved, settle, settle_one}
use Rattle.law_clients.proofs.Public.{meta_of, state_says}
use Rattle.sdb_vacuum.specs.declared.work.VacuumStep.TheVariants as vacuuming
use Rattle.sdb_vacuum.specs.Vacuum as vacuum
use Rattle.sdb_vacuum.specs.Vacuum.{First, Malformed, Nothing, Tombstone, Unresolved, VacuumAt, VacuumStage, first_of, first_one, next_of_row, with_call, next_table, pending_at, removal_answered, step_at, tombstone_or}
use Rattle.law_answers.specs.Reads.{NextCall}
use Rattle.law_answers.specs.Rolled.{HasLooked, IsDealtWith, IsRolledBy, PhaseLooks, ReadRolls, RolledBut, VacuumRolls}
use Rattle.law_answers.proofs.ReadSteps.{open_is, prepared_moment}
use Rattle.law_answers.proofs.Rows.{after_last, after_more, asks_row, shown_is}
use Rattle.law_answers.proofs.Observing.{firm_is, look_rows, undo_unread, unread_rows}
use Rattle.sdb_types.specs.Replies.{is_answered}
use Rattle.sdb_txn.proofs.Public.{held_of}

---- what rolls a record

forward_rolls : (rec : Record) (meta : Meta) (d : Decided) (n : ℤ) → d.decision ≡ decision.Committed → d.created_at ≡ n → recover_forward rec meta n ≡ roll_by rec (condition.Version meta.id meta.state) d
forward_rolls rec meta d n w e =
    ap (λ x. ask.PutIf (forward_record rec x) (is_as_found meta)) (sym e)
    ∙ ap (λ b. if b then ask.PutIf (forward_record rec d.created_at) (is_as_found meta) else request_of_back (back_to rec.key (before_record rec)) (is_as_found meta)) (sym (ap counted.is_committed w))

back_rolls : (rec : Record) (meta : Meta) (d : Decided) → d.decision ≡ decision.Aborted → recover_back rec meta ≡ roll_by rec (condition.Version meta.id meta.state) d
back_rolls rec meta d w =
    undone (before_record rec)
    ∙ ap (λ b. if b then ask.PutIf (forward_record rec d.created_at) (is_as_found meta) else request_of_back (back_to rec.key (before_record rec)) (is_as_found meta)) (sym (ap counted.is_committed w))
  where
    undone : (o : Option Record) → undo (is_as_found meta) rec.key o ≡ request_of_back (back_to rec.key o) (is_as_found meta)
    undone None = refl
    undone (Some b) = refl

-- a recovery reads no rows of tables
pub recovery_unread : (rec : Record) (meta : Meta) (p : RecoverPhase) (m : StoreCall) → recover_request_at rec meta p ≡ Some m.request → reads_rows m ≡ false
recovery_unread rec meta phase.Look m e = look_rows m meta.id (sym (some_is (look_of meta.id) m.request e))
recovery_unread rec meta (phase.Abort n) m e = unread_rows m (ap is_read (sym (some_is (abort_of meta.id n) m.request e)))
recovery_unread rec meta phase.Again m e = look_rows m meta.id (sym (some_is (look_of meta.id) m.request e))
recovery_unread rec meta (phase.Forward n) m e = unread_rows m (ap is_read (sym (some_is (recover_forward rec meta n) m.request e)))
recovery_unread rec meta phase.Back m e = unread_rows m (ap is_read (sym (some_is (recover_back rec meta) m.request e)) ∙ undo_unread (is_as_found meta) rec.key (before_record rec))
recovery_unread rec meta phase.Ended m e = none_some m.request e

---- one call more

module _ (events : List Event) (vacuums : Bool) (calls : List StoreCall) (m : StoreCall) (older : AllByRecursion (λ x. x.at < m.at) calls) where
  abbrev more : List StoreCall
  more = calls ++ m ∷ []

  dealt_stays : (read : StoreCall) (r : Record) → IsDealtWith events vacuums calls read r → IsDealtWith events vacuums more read r
  dealt_stays read r (inl h) = inl (record {
    id = h.id;
    state = h.state;
    decided = h.decided;
    look = h.look;
    roll = h.roll;
    writer = h.writer;
    looks = (after_more h.id calls m older read.at h.look h.looks.0, h.looks.1);
    rolls = (after_more h.id calls m older h.look.at h.roll h.rolls.0, h.rolls.1);
    answered = h.answered;
  })
  dealt_stays read r (inr (id, at, is, h)) = inr (id, at, is, record { asked = h.asked; unresolved = h.unresolved; asks = (after_more id calls m older read.at h.asked h.asks.0, h.asks.1, h.asks.2); early = h.early })

  -- a call that reads no rows
  but_stays : (left : List Record) → reads_rows m ≡ false → RolledBut events vacuums calls left → RolledBut events vacuums more left
  but_stays left f h x r has reads found open_still = by (Contains-push_cases calls m x has)
    where
      kept : Contains left r ⊎ IsDealtWith events vacuums calls x r → Contains left r ⊎ IsDealtWith events vacuums more x r
      kept (inl k) = inl k
      kept (inr d) = inr (dealt_stays x r d)

      by : Contains calls x ⊎ (m ≡ x) → Contains left r ⊎ IsDealtWith events vacuums more x r
      by (inl k) = kept (h x r k reads found open_still)
      by (inr e) = clash (sym reads ∙ ap (λ (y : StoreCall). reads_rows y) (sym e) ∙ f)

  -- one that does
  rows_add : (q : Reply) → m.reply ≡ q → RolledBut events vacuums calls [] → RolledBut events vacuums more (records_read q)
  rows_add q is h x r has reads found open_still = by (Contains-push_cases calls m x has)
    where
      kept : Contains [] r ⊎ IsDealtWith events vacuums calls x r → Contains (records_read q) r ⊎ IsDealtWith events vacuums more x r
      kept (inl k) = absurd (omega (arith, k.1))
      kept (inr d) = inr (dealt_stays x r d)

      by : Contains calls x ⊎ (m ≡ x) → Contains (records_read q) r ⊎ IsDealtWith events vacuums more x r
      by (inl k) = kept (h x r k reads found open_still)
      by (inr e) = inl (subst (λ (y : Reply). Contains (records_read y) r) is (subst (λ (y : StoreCall). Contains (records_read y.reply) r) (sym e) found))

  -- one of the records that were left is dealt with
  one_dealt : (r : Record) (left : List Record) → (is_unresolved r ≡ true → (x : StoreCall) → Contains more x → reads_rows x ≡ true → IsDealtWith events vacuums more x r) → RolledBut events vacuums more (r ∷ left) → RolledBut events vacuums more left
  one_dealt r left deals h x y has reads found open_still = by (h x y has reads found open_still)
    where
      first : (r ≡ y) ⊎ Contains left y → Contains left y ⊎ IsDealtWith events vacuums more x y
      first (inl e) = inr (subst (λ (z : Record). IsDealtWith events vacuums more x z) e (deals (subst (λ (z : Record). is_unresolved z ≡ true) (sym e) open_still) x has reads))
      first (inr k) = inl k

      by : Contains (r ∷ left) y ⊎ IsDealtWith events vacuums more x y → Contains left y ⊎ IsDealtWith events vacuums more x y
      by (inl k) = first (one_of r y left k)
      by (inr d) = inr d

  firm_dealt : (r : Record) (left : List Record) → kind_of r ≡ Firm → RolledBut events vacuums more (r ∷ left) → RolledBut events vacuums more left
  firm_dealt r left e h = one_dealt r left (λ u x has reads. clash (sym (firm_is r e) ∙ held_of r u)) h

  settle_rolls : (images left : List Record) → RolledBut events vacuums more left → ReadRolls events vacuums more (settle images left)
  settle_rolls images [] h = h
  settle_rolls images (r ∷ left) h = by (kind_of r) refl (λ k. settle_rolls (images ++ r ∷ []) left (firm_dealt r left k h))
    where
      by : (x : Kind) → kind_of r ≡ x → (kind_of r ≡ Firm → ReadRolls events vacuums more (settle (images ++ r ∷ []) left)) → ReadRolls events vacuums more (settle_one x images r left (settle (images ++ r ∷ []) left))
      by Firm e rest = rest e
      by (Open meta) e rest = (h, e, tt)
      by Bad e rest = tt

  answered_rolls : (q : Reply) → RolledBut events vacuums more (records_read q) → ReadRolls events vacuums more (answered q)
  answered_rolls (reply.Found None) h = h
  answered_rolls (reply.Found (Some row)) h = settle_rolls [] (row ∷ []) h
  answered_rolls (reply.Rows rows) h = settle_rolls [] rows h
  answered_rolls reply.Applied h = tt
  answered_rolls (reply.NotMet found) h = tt
  answered_rolls (reply.NotAll place there) h = tt
  answered_rolls reply.Fault h = tt
  answered_rolls reply.NoMemory h = tt

  ---- the recovery of a record

  module _ (now : ℤ) (clock : clock_at events m.at ≡ now) (moment : is_moment now ≡ true) (rec : Record) (meta : Meta) (is_open : kind_of rec ≡ Open meta) where
    unresolved : is_unresolved rec ≡ true
    unresolved = (open_is rec meta is_open).0

    says : checked rec.columns ≡ Ok meta
    says = (open_is rec meta is_open).1

    -- the reads so far
    old : reads_rows m ≡ false → (read : StoreCall) → Contains more read → reads_rows read ≡ true → Contains calls read
    old f read has reads = by (Contains-push_cases calls m read has)
      where
        by : Contains calls read ⊎ (m ≡ read) → Contains calls read
        by (inl k) = k
        by (inr e) = clash (sym reads ∙ ap (λ (y : StoreCall). reads_rows y) (sym e) ∙ f)

    abbrev OfReads : (StoreCall → Type 0) → Type 0
    OfReads P = (read : StoreCall) → Contains calls read → reads_rows read ≡ true → P read

    -- what a recovery comes to
    abbrev ComesTo : RecoverPhase × RecoverStep → Type 0
    ComesTo (x, steps.More) = PhaseLooks more meta.id x
    ComesTo (x, steps.Image o) = OfReads (λ read. IsRolledBy more read rec)
    ComesTo (x, steps.Busy id at) = OfReads (λ read. IsEarly events more read rec id at)
    ComesTo (x, steps.Faulted) = Unit {0}
    ComesTo (x, steps.BadRecord key) = Unit {0}
    ComesTo (x, steps.NoMemory) = Unit {0}

    looked_now : (d : Decided) → reads_rows m ≡ false → is_of_row meta.id m.request ≡ true → decision_in_reply m.request m.reply ≡ Some d → HasLooked more meta.id d
    looked_now d f t e = record { look = m; among = Contains-push calls m; observed = shown_is meta.id m (Some d) t e; later = λ read has reads. after_last meta.id calls m older read (old f read has reads) }

    rolled_comes : (row : Record) → reads_rows m ≡ false → is_of_row meta.id m.request ≡ true → decision_in_reply m.request m.reply ≡ result_ok (decision_in row) → ComesTo (row_followed meta row)
    rolled_comes row f t executed =
        by_row meta row ComesTo (λ d e w. (d, looked_now d f t (executed ∙ ap result_ok e), w, refl)) (λ d e w. (d, looked_now d f t (executed ∙ ap result_ok e), w)) (λ name e. tt)

    undecided_comes : m.request ≡ look_of meta.id → m.reply ≡ reply.Found None → ComesTo (undecided meta now)
    undecided_comes e f =
        by_expiry meta now ComesTo (λ h. moment)
        (λ h read has reads. record {
          asked = m;
          unresolved = (unresolved, (meta_of rec meta unresolved says).writer, prepared_moment rec meta says);
          asks = (after_last meta.id calls m older read has, e, f);
          early = ap (is_expired meta.prepared_at) clock ∙ h;
        })

    asked_at : (x : Request) → Some x ≡ Some m.request → m.request ≡ x
    asked_at x e = sym (some_is x m.request e)

    look_row : m.request ≡ look_of meta.id → is_of_row meta.id m.request ≡ true
    look_row e = ap (is_of_row meta.id) e ∙ asks_row meta.id (look_of meta.id) (coordinator_key_of meta.id) refl refl

    abort_row : (n : ℤ) → m.request ≡ abort_of meta.id n → is_of_row meta.id m.request ≡ true
    abort_row n e = ap (is_of_row meta.id) e ∙ asks_row meta.id (abort_of meta.id n) (coordinator_row_of meta.id decision.Aborted n).key refl (row-key meta.id decision.Aborted n)

    said_by : (x : Request) (r : Reply) → m.request ≡ x → m.reply ≡ r → decision_in_reply m.request m.reply ≡ decision_in_reply x r
    said_by x r e f = ap (λ (y : Request). decision_in_reply y m.reply) e ∙ ap (decision_in_reply x) f

    -- the roll is answered
    rolls_it : (d : Decided) → HasLooked calls meta.id d → m.request ≡ roll_by rec (condition.Version meta.id meta.state) d → is_answered m.reply ≡ true → OfReads (λ read. IsRolledBy more read rec)
    rolls_it d h e a = λ read has reads. record {
      id = meta.id;
      state = meta.state;
      decided = d;
      look = h.look;
      roll = m;
      writer = ((meta_of rec meta unresolved says).writer, state_says rec meta says);
      looks = (after_more meta.id calls m older read.at h.look (h.later read has reads), h.observed);
      rolls = (after_last meta.id calls m older h.look h.among, e);
      answered = a;
    }

    recovered_comes : (p : RecoverPhase) → PhaseLooks calls meta.id p → recover_request_at rec meta p ≡ Some m.request → ComesTo (recover_next rec meta p now m.reply)
    recovered_comes p k e =
        by_rows rec meta now (λ p r n. PhaseLooks calls meta.id p → recover_request_at rec meta p ≡ Some m.request → m.reply ≡ r → ComesTo n)
        (record {
          look_row = λ row k e f. let q = asked_at (look_of meta.id) e in rolled_comes row (look_rows m meta.id q) (look_row q) (said_by (look_of meta.id) (reply.Found (Some row)) q f);
          look_none = λ k e f. undecided_comes (asked_at (look_of meta.id) e) f;
          abort_applied = λ n k e f. let q = asked_at (abort_of meta.id n) e in (
            record { decision = decision.Aborted; created_at = n },
            looked_now (record { decision = decision.Aborted; created_at = n }) (unread_rows m (ap is_read q)) (abort_row n q) (said_by (abort_of meta.id n) reply.Applied q f ∙ ap result_ok (row-decision meta.id decision.Aborted n (meta_of rec meta unresolved says).fits k)),
            refl,
          );
          abort_row = λ n row k e f. let q = asked_at (abort_of meta.id n) e in rolled_comes row (unread_rows m (ap is_read q)) (abort_row n q) (said_by (abort_of meta.id n) (reply.NotMet (Some row)) q f);
          abort_fault = λ n k e f. tt;
          again_row = λ row k e f. let q = asked_at (look_of meta.id) e in rolled_comes row (look_rows m meta.id q) (look_row q) (said_by (look_of meta.id) (reply.Found (Some row)) q f);
          again_none = λ k e f. tt;
          forward = λ n r is k e f. rolls_it k.0 k.1 (asked_at (recover_forward rec meta n) e ∙ forward_rolls rec meta k.0 n k.2 k.3) (ap is_answered f ∙ is);
          back = λ r is k e f. rolls_it k.0 k.1 (asked_at (recover_back rec meta) e ∙ back_rolls rec meta k.0 k.2) (ap is_answered f ∙ is);
          fault = λ p k e f. tt;
          no_memory = λ p r k e f. tt;
        }) p m.reply k e refl

    -- it was rolled
    rec_dealt : (left : List Record) → reads_rows m ≡ false → OfReads (λ read. IsRolledBy more read rec) → RolledBut events vacuums calls (rec ∷ left) → RolledBut events vacuums more left
    rec_dealt left f c h = one_dealt rec left (λ u x has reads. inl (c x (old f x has reads) reads)) (but_stays (rec ∷ left) f h)

    resolved_rolls : (images left : List Record) → reads_rows m ≡ false → RolledBut events vacuums calls (rec ∷ left) → (n : RecoverPhase × RecoverStep) → ComesTo n → ReadRolls events vacuums more (resolved images rec meta left n)
    resolved_rolls images left f h (x, steps.More) c = (but_stays (rec ∷ left) f h, is_open, c)
    resolved_rolls images left f h (x, steps.Image None) c = settle_rolls images left (rec_dealt left f c h)
    resolved_rolls images left f h (x, steps.Image (Some b)) c = settle_rolls (images ++ b ∷ []) left (rec_dealt left f c h)
    resolved_rolls images left f h (x, steps.Busy id at) c = tt
    resolved_rolls images left f h (x, steps.Faulted) c = tt
    resolved_rolls images left f h (x, steps.BadRecord key) c = tt
    resolved_rolls images left f h (x, steps.NoMemory) c = tt

  stage_rolls : (now : ℤ) → clock_at events m.at ≡ now → is_moment now ≡ true → (q : Request) (s : ReadStage) → ReadRolls events vacuums calls s → read_pending_at q s ≡ Some m.request → ReadRolls events vacuums more (read_step s now m.reply)
  stage_rolls now clock moment q Asking h e = answered_rolls m.reply (rows_add m.reply refl h)
  stage_rolls now clock moment q (Resolving images rec meta p left) h e =
      resolved_rolls now clock moment rec meta h.1 images left (recovery_unread rec meta p m e) h.0 (recover_next rec meta p now m.reply) (recovered_comes now clock moment rec meta h.1 p h.2 e)
  stage_rolls now clock moment q (Ended s) h e = none_some m.request e

  ---- a VACUUM

  -- what rows come to
  abbrev FirstRolls : First → Type 0
  FirstRolls Nothing = RolledBut events vacuums more []
  FirstRolls (Tombstone b left) = RolledBut events vacuums more left
  FirstRolls (Unresolved r meta left) = RolledBut events vacuums more (r ∷ left) × (kind_of r ≡ Open meta)
  FirstRolls (Malformed key) = Unit {0}

  -- where a step leads
  abbrev pub SweepsTo : VacuumStep → VacuumAt → Type 0
  SweepsTo vacuuming.More v = VacuumRolls events vacuums (calls ++ m ∷ []) v.stage
  SweepsTo (vacuuming.Count n) v = RolledBut events vacuums (calls ++ m ∷ []) []
  SweepsTo s v = Unit {0}

  abbrev Sweeps : VacuumAt × VacuumStep → Type 0
  Sweeps x = SweepsTo x.1 x.0

  first_rolls : (left : List Record) → RolledBut events vacuums more left → FirstRolls (first_of left)
  first_rolls [] h = h
  first_rolls (r ∷ left) h = by (kind_of r) refl (λ k. first_rolls left (firm_dealt r left k h))
    where
      here : (b : Bool) → kind_of r ≡ Firm → FirstRolls (first_of left) → FirstRolls (if b then Tombstone r left else first_of left)
      here true k z = firm_dealt r left k h
      here false k z = z

      by : (x : Kind) → kind_of r ≡ x → (kind_of r ≡ Firm → FirstRolls (first_of left)) → FirstRolls (first_one x r left (first_of left))
      by Firm e rest = here (is_tombstone r) e (rest e)
      by (Open meta) e rest = (h, e)
      by Bad e rest = tt

  next_sweeps : (ss : List Span) (n : ℕ) → RolledBut events vacuums more [] → Sweeps (next_table ss n)
  next_sweeps [] n h = h
  next_sweeps (s ∷ ss) n h = h

  going_sweeps : (ss : List Span) (n : ℕ) (f : First) → FirstRolls f → Sweeps (next_of_row ss n f)
  going_sweeps ss n Nothing h = next_sweeps ss n h
  going_sweeps ss n (Tombstone b left) h = h
  going_sweeps ss n (Unresolved r meta left) h = (h.0, h.1, tt)
  going_sweeps ss n (Malformed key) h = tt

  on_sweeps : (ss : List Span) (n : ℕ) (left : List Record) → RolledBut events vacuums more left → Sweeps (next_of_row ss n (first_of left))
  on_sweeps ss n left h = going_sweeps ss n (first_of left) (first_rolls left h)

  answered_sweeps : (ss : List Span) (n : ℕ) (r : Reply) → RolledBut events vacuums more (records_read r) → Sweeps (vacuum.answered ss n r)
  answered_sweeps ss n (reply.Rows rows) h = on_sweeps ss n rows h
  answered_sweeps ss n (reply.Found found) h = tt
  answered_sweeps ss n reply.Applied h = tt
  answered_sweeps ss n (reply.NotMet found) h = tt
  answered_sweeps ss n (reply.NotAll place there) h = tt
  answered_sweeps ss n reply.Fault h = tt
  answered_sweeps ss n reply.NoMemory h = tt

  image_sweeps : (ss : List Span) (n : ℕ) (left : List Record) (b : Record) → RolledBut events vacuums more left → Sweeps (tombstone_or ss n left b)
  image_sweeps ss n left b h = by (is_tombstone b)
    where
      by : (t : Bool) → Sweeps (if t then with_call ss n (vacuum.Removing b left) else next_of_row ss n (first_of left))
      by true = h
      by false = on_sweeps ss n left h

  resolved_sweeps : (now : ℤ) (clock : clock_at events m.at ≡ now) (moment : is_moment now ≡ true) (rec : Record) (meta : Meta) (is_open : kind_of rec ≡ Open meta) → vacuums ≡ true → (ss : List Span) (n : ℕ) (left : List Record) → reads_rows m ≡ false → RolledBut events vacuums calls (rec ∷ left) → (x : RecoverPhase × RecoverStep) → ComesTo now clock moment rec meta is_open x → Sweeps (vacuum.resolved ss n rec meta left x)
  resolved_sweeps now clock moment rec meta is_open is ss n left f h (p, steps.More) c = (but_stays (rec ∷ left) f h, is_open, c)
  resolved_sweeps now clock moment rec meta is_open is ss n left f h (p, steps.Image None) c = on_sweeps ss n left (rec_dealt now clock moment rec meta is_open left f c h)
  resolved_sweeps now clock moment rec meta is_open is ss n left f h (p, steps.Image (Some b)) c = image_sweeps ss n left b (rec_dealt now clock moment rec meta is_open left f c h)
  resolved_sweeps now clock moment rec meta is_open is ss n left f h (p, steps.Busy id at) c = on_sweeps ss n left (one_dealt rec left (λ u x has reads. inr (id, at, is, c x (old now clock moment rec meta is_open f x has reads) reads)) (but_stays (rec ∷ left) f h))
  resolved_sweeps now clock moment rec meta is_open is ss n left f h (p, steps.Faulted) c = tt
  resolved_sweeps now clock moment rec meta is_open is ss n left f h (p, steps.BadRecord key) c = tt
  resolved_sweeps now clock moment rec meta is_open is ss n left f h (p, steps.NoMemory) c = tt

  removal_sweeps : (ss : List Span) (n : ℕ) (left : List Record) (r : Reply) → RolledBut events vacuums more left → Sweeps (removal_answered ss n left r)
  removal_sweeps ss n left reply.Applied h = on_sweeps ss (n + 1) left h
  removal_sweeps ss n left (reply.NotMet found) h = on_sweeps ss n left h
  removal_sweeps ss n left (reply.Found found) h = tt
  removal_sweeps ss n left (reply.Rows rows) h = tt
  removal_sweeps ss n left (reply.NotAll place there) h = tt
  removal_sweeps ss n left reply.Fault h = tt
  removal_sweeps ss n left reply.NoMemory h = tt

  asks_unread : (b : Record) (o : Option TxId) → option_map (λ id. ask.DeleteIf b.key (condition.Version id state.Committed)) o ≡ Some m.request → reads_rows m ≡ false
  asks_unread b None e = none_some m.request e
  asks_unread b (Some id) e = unread_rows m (ap is_read (sym (some_is (ask.DeleteIf b.key (condition.Version id state.Committed)) m.request e)))

  pub sweep_rolls : (now : ℤ) → clock_at events m.at ≡ now → is_moment now ≡ true → vacuums ≡ true → (ss : List Span) (n : ℕ) (s : VacuumStage) → VacuumRolls events vacuums calls s → pending_at s ≡ Some m.request → Sweeps (step_at ss n s now m.reply)
  sweep_rolls now clock moment is ss n (vacuum.Scanning span) h e = answered_sweeps ss n m.reply (rows_add m.reply refl h)
  sweep_rolls now clock moment is ss n (vacuum.Resolving rec meta p left) h e =
      resolved_sweeps now clock moment rec meta h.1 is ss n left (recovery_unread rec meta p m e) h.0 (recover_next rec meta p now m.reply) (recovered_comes now clock moment rec meta h.1 p h.2 e)
  sweep_rolls now clock moment is ss n (vacuum.Removing b left) h e = removal_sweeps ss n left m.reply (but_stays left (asks_unread b (id_in b.columns) e) h)
  sweep_rolls now clock moment is ss n vacuum.Over h e = none_some m.request e

pub read_rolls : (n : NextCall) (vacuums : Bool) → is_moment n.now ≡ true → (q : Request) (s : ReadStage) → ReadRolls n.events vacuums n.calls s → read_pending_at q s ≡ Some n.call.request → ReadRolls n.events vacuums (n.calls ++ n.call ∷ []) (read_step s n.now n.call.reply)
read_rolls n vacuums = stage_rolls n.events vacuums n.calls n.call n.later n.now n.clock
