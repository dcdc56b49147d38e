-- A call of a COMMIT leaves it knowing what its next stage needs.
use Rattle.std.proofs.Common.{◌≡◌, ◌≢◌, ◌≤◌, ◌<◌, ◌+◌, ℕ, ℤ, Bool, true, false, List, [], ◌∷◌, length, Option, Some, None, refl, sym, ap, subst, ◌∙◌, arith, ◌⊎◌, inl, inr, Ok, Err, Result, cond}
use Rattle.std.specs.Prelude.{slice_get, nat_lt, if◌then◌else◌}
use Rattle.std.specs.Option.{option_map_or}
use Rattle.std.specs.Result.{result_ok}
use Rattle.std.proofs.lemmas.Option.{slice_get_within}
use Rattle.std.proofs.lemmas.Bool.Decides.{nat_tests}
use Rattle.law_clients.specs.Types.{Answer, Check, DecidePhase, DecideStep, Decided, Decision, Event, How, Key, Outcome, Record, Reply, Request, Write}
use Rattle.sdb_types.specs.declared.record.Reply.TheVariants as reply
use Rattle.sdb_types.specs.declared.record.Request.TheVariants as ask
use Rattle.sdb_types.specs.declared.record.Put.{Put}
use Rattle.sdb_types.specs.Contents.{CanAnswer, put_at}
use Rattle.sdb_types.specs.Order.{has_key}
use Rattle.sdb_record.specs.declared.coordinator.Decision.TheVariants as decision
use Rattle.sdb_record.specs.Coordinator.{coordinator_key_of, decision_in}
use Rattle.sdb_record.specs.Groups.{grouped, keys_of_writes}
use Rattle.sdb_record.proofs.Public.{row-key}
use Rattle.sdb_model.specs.declared.event.Event.TheVariants as event
use Rattle.sdb_model.specs.Rows.{Name}
use Rattle.law_protocol.specs.Plan.{Plan}
use Rattle.law_protocol.specs.History.{Other, Prepares, Checks, Decides, Aborts, Rolls, ProtocolState, Ack, Yes, No, NoAck, OutOfMemory, state_after_event}
use Rattle.law_protocol.specs.History as laws
use Rattle.law_protocol.specs.Lawful.{Labelled, id, protocol_state, ack_of, IsObserved, IsRowObserved, IsKnownCommitted, IsKnownAborted, IsBadRow, labelled_with}
use Rattle.sdb_phases.specs.declared.step.Outcome.TheVariants as outcome
use Rattle.sdb_phases.specs.declared.step.PrepareStep.TheVariants as prepare
use Rattle.sdb_phases.specs.declared.step.DecideStep.TheVariants as steps
use Rattle.sdb_phases.specs.declared.step.DecidePhase.TheVariants as phase
use Rattle.sdb_phases.specs.Work.{Work, prepares, decide_of, abort_of, look_of, groups_of, writes_before}
use Rattle.sdb_phases.specs.Checks.{checks, difference_in}
use Rattle.sdb_phases.specs.Steps.{step_of_row, followed, puts_of, refused}
use Rattle.sdb_phases.specs.Commit.{Stage, Preparing, Checking, Deciding, Forward, Stopping, Back, Over, step, checking, forward, back, after_prepare, after_check, after_decide}
use Rattle.sdb_phases.specs.CommitLaws.{as_wished, IsLost}
use Rattle.law_clients.specs.Owner.{ItemAgrees, WorkOk, CommitOk, StageOk, AreAcknowledged, AskedTo, UnaskedFrom, CheckedTo, AgreesTo, OverOk}
use Rattle.sdb_phases.proofs.Public.{writes_more}
use Rattle.law_clients.proofs.Groups.{apart_from_group, in_group, more_before, side, whole}
use Rattle.sdb_types.proofs.Public.{lt_of as less}

pub by_test : (plan : ℕ → Plan) (past : List Labelled) (p : Work) (b : Bool) (x y : Stage) → (b ≡ true → StageOk plan past p x) → (b ≡ false → StageOk plan past p y) → StageOk plan past p (cond b x y)
by_test plan past p true x y t f = t refl
by_test plan past p false x y t f = f refl

lost_over : (plan : ℕ → Plan) (past : List Labelled) (p : Work) (a : Outcome) → IsLost a → (IsKnownAborted past p.id.0 ⊎ ((protocol_state past).risked p.id.0 ≡ false) ⊎ IsBadRow past p.id.0) → OverOk plan past p a
lost_over plan past p outcome.Committed l k = absurd l
lost_over plan past p (outcome.Conflict key found) l k = k
lost_over plan past p (outcome.Expired id) l k = k
lost_over plan past p outcome.Faulted l k = k
lost_over plan past p (outcome.Unknown id) l k = absurd l
lost_over plan past p (outcome.BadRecord key) l k = k
lost_over plan past p outcome.NoMemory l k = k

---- what one part changes

acknowledged_yes : (h : ProtocolState) (t : ℕ) (ks : List Key) (q : Key) → (h.answered t q ≡ true) ⊎ (has_key ks q ≡ true) → (state_after_event h (Prepares t ks Yes)).answered t q ≡ true
acknowledged_yes h t ks q a = grind (arith, nat_tests)

asked_any : (h : ProtocolState) (t : ℕ) (ks : List Key) (q : Key) (word : Ack) → (h.asked t q ≡ true) ⊎ (has_key ks q ≡ true) → (state_after_event h (Prepares t ks word)).asked t q ≡ true
asked_any h t ks q word a = grind (arith, nat_tests)

asked_other : (h : ProtocolState) (t : ℕ) (ks : List Key) (q : Key) (word : Ack) → has_key ks q ≡ false → (state_after_event h (Prepares t ks word)).asked t q ≡ h.asked t q
asked_other h t ks q word n = grind (arith, nat_tests)

-- i is the last, or before
earlier : (i j : ℕ) → j < i + 1 → (j < i) ⊎ (j ≡ i)
earlier i j l = grind (arith, nat_tests)

acknowledged_more : (h : ProtocolState) (p : Work) (i : ℕ) (g : List Write) → slice_get (grouped p.writes) i ≡ Some g → AreAcknowledged h p (writes_before p i) → AreAcknowledged (state_after_event h (Prepares p.id.0 (keys_of_writes g) Yes)) p (writes_before p (i + 1))
acknowledged_more h p i g here before j v l at = by (side (writes_before p i) j)
  where
    by : (j < writes_before p i) ⊎ (writes_before p i ≤ j) → (state_after_event h (Prepares p.id.0 (keys_of_writes g) Yes)).answered p.id.0 v.key ≡ true
    by (inl b) = acknowledged_yes h p.id.0 (keys_of_writes g) v.key (inl (before j v b at))
    by (inr n) = acknowledged_yes h p.id.0 (keys_of_writes g) v.key (inr (in_group p i g here j v n l at))

asked_more : (h : ProtocolState) (p : Work) (i : ℕ) (g : List Write) (word : Ack) → slice_get (grouped p.writes) i ≡ Some g → AskedTo h p (writes_before p i) → AskedTo (state_after_event h (Prepares p.id.0 (keys_of_writes g) word)) p (writes_before p (i + 1))
asked_more h p i g word here asked j v l at = by (side (writes_before p i) j)
  where
    by : (j < writes_before p i) ⊎ (writes_before p i ≤ j) → (state_after_event h (Prepares p.id.0 (keys_of_writes g) word)).asked p.id.0 v.key ≡ true
    by (inl b) = asked_any h p.id.0 (keys_of_writes g) v.key word (inl (asked j v b at))
    by (inr n) = asked_any h p.id.0 (keys_of_writes g) v.key word (inr (in_group p i g here j v n l at))

asked_less : (h : ProtocolState) (p : Work) (m n : ℕ) → m ≤ n → AskedTo h p n → AskedTo h p m
asked_less h p m n l asked j v b at = asked j v (omega arith) at

unasked_more : (h : ProtocolState) (p : Work) (i : ℕ) (g : List Write) (word : Ack) → WorkOk p → slice_get (grouped p.writes) i ≡ Some g → UnaskedFrom h p (writes_before p i) → UnaskedFrom (state_after_event h (Prepares p.id.0 (keys_of_writes g) word)) p (writes_before p (i + 1))
unasked_more h p i g word work here un j v l at =
    asked_other h p.id.0 (keys_of_writes g) v.key word (apart_from_group p i g here work.once j v at (inr l)) ∙ un j v (later (writes_before p i) (length g) (more_before p i g here)) at
  where
    later : (m n : ℕ) → m + n ≡ writes_before p (i + 1) → m ≤ j
    later m n e = omega (arith, e, l)

---- prepares

stops : (plan : ℕ → Plan) (past : List Labelled) (p : Work) (n m : ℕ) (a : Outcome) → n ≤ m → IsLost a → AskedTo (protocol_state past) p m → (protocol_state past).risked p.id.0 ≡ false → StageOk plan past p (Stopping a n)
stops plan past p n m a l lost asked safe = (asked_less (protocol_state past) p n m l asked, safe, lost)

-- after the last prepare the checks begin, or the decision
pub checks_begin : (plan : ℕ → Plan) (past : List Labelled) (p : Work) → ((protocol_state past).stage p.id.0 ≢ laws.Deciding) → AreAcknowledged (protocol_state past) p (length p.writes) → AskedTo (protocol_state past) p (length p.writes) → ((protocol_state past).risked p.id.0 ≡ false) → StageOk plan past p (checking p 0)
checks_begin plan past p stage step_of_row asked safe = by_test plan past p (nat_lt 0 (length (checks p))) (Checking 0) (Deciding phase.Put)
    (λ t. (stage, step_of_row, asked, λ j l. absurd (below j l), λ j l. absurd (below j l), safe))
    (λ f. (step_of_row, asked, λ j l. absurd (none j (length (checks p)) l f), λ j l. absurd (none j (length (checks p)) l f), safe))
  where
    below : (j : ℕ) → j < 0 → ⊥
    below j l = omega arith

    none : (j n : ℕ) → j < n → nat_lt 0 n ≡ false → ⊥
    none j n l f = absurd (grind (arith, nat_tests))

pub not_deciding : (s : laws.Stage) → s ≡ laws.Preparing → s ≢ laws.Deciding
not_deciding s e d = absurd (cc)

pub prepare_kept : (plan : ℕ → Plan) (past : List Labelled) (c i : ℕ) (p : Work) (g : List Write) (e : Event) (r : Reply) → CommitOk plan past c p (Preparing i) → slice_get (grouped p.writes) i ≡ Some g
    → StageOk plan (labelled_with (Prepares p.id.0 (keys_of_writes g) (ack_of r)) e ∷ past) p (step p (Preparing i) r)
prepare_kept plan past c i p g e r ok here = by r
  where
    n : ℕ
    n = writes_before p i

    now : Reply → List Labelled
    now x = labelled_with (Prepares p.id.0 (keys_of_writes g) (ack_of x)) e ∷ past

    asked : (x : Reply) → AskedTo (protocol_state (now x)) p (writes_before p (i + 1))
    asked x = asked_more (protocol_state past) p i g (ack_of x) here ok.stage.2

    stop : (x : Reply) (a : Outcome) → IsLost a → StageOk plan (now x) p (Stopping a n)
    stop x a lost = stops plan (now x) p n (writes_before p (i + 1)) a (fewer n (length g) (more_before p i g here)) lost (asked x) ok.stage.4
      where
        fewer : (m k : ℕ) → m + k ≡ writes_before p (i + 1) → m ≤ writes_before p (i + 1)
        fewer m k same = omega (arith, same)

    -- the writes of the prepare
    more : n + puts_of (slice_get (prepares p) i) ≡ writes_before p (i + 1)
    more = writes_more p i (slice_get_within (grouped p.writes) i g here)

    refusal : (x : Reply) (o : Option Request) (k : ℕ) (found : Option Record) → StageOk plan (now x) p (after_prepare p i n (refused o k found))
    refusal x None k found = stop x outcome.NoMemory tt
    refusal x (Some (ask.Get key)) k found = stop x outcome.NoMemory tt
    refusal x (Some (ask.Scan span)) k found = stop x outcome.NoMemory tt
    refusal x (Some (ask.PutIf rec condition)) k found = stop x (outcome.Conflict rec.key found) tt
    refusal x (Some (ask.DeleteIf key condition)) k found = stop x outcome.NoMemory tt
    refusal x (Some (ask.PutAll batch)) k found = at (put_at batch k)
      where
        at : (o : Option Put) → StageOk plan (now x) p (after_prepare p i n (option_map_or (λ (y : Put). prepare.Conflict y.rec.key found) o prepare.NoMemory))
        at None = stop x outcome.NoMemory tt
        at (Some y) = stop x (outcome.Conflict y.rec.key found) tt

    acknowledged : AreAcknowledged (protocol_state (now reply.Applied)) p (writes_before p (i + 1))
    acknowledged = acknowledged_more (protocol_state past) p i g here ok.stage.1

    applied : (b : Bool) → nat_lt (i + 1) (groups_of p) ≡ b → StageOk plan (now reply.Applied) p (after_prepare p i (n + puts_of (slice_get (prepares p) i)) (if b then prepare.More else prepare.Done))
    applied true t = (ok.stage.0, acknowledged, asked reply.Applied, unasked_more (protocol_state past) p i g Yes ok.work here ok.stage.3, ok.stage.4)
    applied false f = checks_begin plan (now reply.Applied) p (not_deciding ((protocol_state past).stage p.id.0) ok.stage.0)
        (subst (AreAcknowledged (protocol_state (now reply.Applied)) p) (whole p i f) acknowledged)
        (subst (AskedTo (protocol_state (now reply.Applied)) p) (whole p i f) (asked reply.Applied))
        ok.stage.4

    by : (x : Reply) → StageOk plan (now x) p (step p (Preparing i) x)
    by reply.Applied = applied (nat_lt (i + 1) (groups_of p)) refl
    by (reply.NotMet found) = refusal (reply.NotMet found) (slice_get (prepares p) i) 1 found
    by (reply.NotAll k found) = refusal (reply.NotAll k found) (slice_get (prepares p) i) k found
    by reply.Fault = subst (λ m. StageOk plan (now reply.Fault) p (Stopping outcome.Faulted m)) (sym more) (asked reply.Fault, ok.stage.4, tt)
    by reply.NoMemory = stop reply.NoMemory outcome.NoMemory tt
    by (reply.Found found) = stop (reply.Found found) outcome.NoMemory tt
    by (reply.Rows rows) = stop (reply.Rows rows) outcome.NoMemory tt

---- decisions

-- the events so far show this row of the transaction
abbrev RowIn : List Labelled → Work → Record → Type 0
RowIn past p row = IsObserved past row × (row.key ≡ coordinator_key_of p.id)

goes_forward : (plan : ℕ → Plan) (past : List Labelled) (p : Work) → AskedTo (protocol_state past) p (length p.writes) → IsKnownCommitted plan past p.id.0 p.now → StageOk plan past p (forward p 0)
goes_forward plan past p asked known = by_test plan past p (nat_lt 0 (groups_of p)) (Forward 0) (Over outcome.Committed) (λ t. (asked, known)) (λ f. known)

goes_back : (plan : ℕ → Plan) (past : List Labelled) (p : Work) (a : Outcome) (n : ℕ) → IsLost a → AskedTo (protocol_state past) p n → IsKnownAborted past p.id.0 → StageOk plan past p (back a n 0)
goes_back plan past p a n lost asked known = by_test plan past p (nat_lt 0 n) (Back a n 0) (Over a) (λ t. (asked, known, lost, less 0 n t)) (λ f. lost_over plan past p a lost (inl known))

-- what a row leads to, where ABORTED gives this answer
row_kept : (plan : ℕ → Plan) (past : List Labelled) (p : Work) (row : Record) (aborted : DecideStep) (a : Outcome) → IsLost a → ((d : DecidePhase) → after_decide p d aborted ≡ back a (length p.writes) 0) → AskedTo (protocol_state past) p (length p.writes) → RowIn past p row → p.now ≡ (plan p.id.0).now → (protocol_state past).accepted p.id.0 ≡ true
    → StageOk plan past p (after_decide p phase.Ended (followed p.id aborted row))
row_kept plan past p row aborted a lost gives asked observed dated is_taken = by (decision_in row) refl
  where
    on : (d : Decided) (x : Decision) → d.decision ≡ x → decision_in row ≡ Ok d → StageOk plan past p (after_decide p phase.Ended (elim x [ decision.Committed ↦ steps.Committed | decision.Aborted ↦ aborted ]))
    on d decision.Committed e says =
        let x : IsRowObserved past p.id.0 decision.Committed d.created_at = record { row = row; observed = observed.0; key = observed.1; says = says ∙ ap (λ y. Ok (record { decision = y; created_at = d.created_at })) e } in
        goes_forward plan past p asked (inr (inr (is_taken, (d.created_at, x), dated)))
    on d decision.Aborted e says =
        subst (StageOk plan past p) (sym (gives phase.Ended)) (goes_back plan past p a (length p.writes) lost asked (inl (d.created_at, record { row = row; observed = observed.0; key = observed.1; says = says ∙ ap (λ y. Ok (record { decision = y; created_at = d.created_at })) e })))

    by : (d : Result Decided (List ℕ)) → decision_in row ≡ d → StageOk plan past p (after_decide p phase.Ended (step_of_row p.id aborted d))
    by (Err column) says = inr (inr (record { row = row; observed = observed.0; key = observed.1; bad = ap result_ok says }))
    by (Ok d) says = on d d.decision refl says

pub decide_kept : (plan : ℕ → Plan) (past : List Labelled) (c : ℕ) (p : Work) (store : Name) (how : How) (r : Reply) (a : Option Answer) → CommitOk plan past c p (Deciding phase.Put) → CanAnswer (decide_of p.id p.now) r
    → StageOk plan (labelled_with (Decides p.id.0 (ack_of r)) (event.Call c store (decide_of p.id p.now) how r a) ∷ past) p (step p (Deciding phase.Put) r)
decide_kept plan past c p store how reply.Applied a ok can = goes_forward plan (labelled_with (Decides p.id.0 Yes) (event.Call c store (decide_of p.id p.now) how reply.Applied a) ∷ past) p ok.stage.1 (inr (inl (won (protocol_state past) p.id.0, sym (ap (λ (x : Plan). x.now) ok.planned))))
  where
    won : (h : ProtocolState) (t : ℕ) → (state_after_event h (Decides t Yes)).won t ≡ true
    won h t = grind (arith, nat_tests)
decide_kept plan past c p store how (reply.NotMet (Some row)) a ok can = row_kept plan (labelled_with (Decides p.id.0 No) (event.Call c store (decide_of p.id p.now) how (reply.NotMet (Some row)) a) ∷ past) p row (steps.Expired p.id) (outcome.Expired p.id) tt (λ d. refl) ok.stage.1 (inl refl, can.0 ∙ row-key p.id decision.Committed p.now) (sym (ap (λ (x : Plan). x.now) ok.planned)) ok.within.accepted
decide_kept plan past c p store how (reply.NotMet None) a ok can = absurd (clash can.1)
  where
    clash : true ≡ false → ⊥
    clash e = cc
decide_kept plan past c p store how reply.Fault a ok can = ok.stage.1
decide_kept plan past c p store how reply.NoMemory a ok can = (ok.stage.1, ok.stage.4, tt)
decide_kept plan past c p store how (reply.Found found) a ok can = absurd can
decide_kept plan past c p store how (reply.Rows rows) a ok can = absurd can
decide_kept plan past c p store how (reply.NotAll place there) a ok can = absurd can

pub look_kept : (plan : ℕ → Plan) (past : List Labelled) (c : ℕ) (p : Work) (store : Name) (how : How) (r : Reply) (a : Option Answer) → CommitOk plan past c p (Deciding phase.Look) → CanAnswer (look_of p.id) r
    → StageOk plan (labelled_with Other (event.Call c store (look_of p.id) how r a) ∷ past) p (step p (Deciding phase.Look) r)
look_kept plan past c p store how (reply.Found None) a ok can = ok.stage
look_kept plan past c p store how (reply.Found (Some row)) a ok can = row_kept plan (labelled_with Other (event.Call c store (look_of p.id) how (reply.Found (Some row)) a) ∷ past) p row (steps.Expired p.id) (outcome.Expired p.id) tt (λ d. refl) ok.stage (inl refl, can) (sym (ap (λ (x : Plan). x.now) ok.planned)) ok.within.accepted
look_kept plan past c p store how reply.Fault a ok can = refl
look_kept plan past c p store how reply.NoMemory a ok can = refl
look_kept plan past c p store how reply.Applied a ok can = refl
look_kept plan past c p store how (reply.NotMet found) a ok can = refl
look_kept plan past c p store how (reply.Rows rows) a ok can = refl
look_kept plan past c p store how (reply.NotAll place there) a ok can = refl

dead : (h : ProtocolState) (t : ℕ) (m : ℤ) → (state_after_event h (Aborts t m Yes)).dead t ≡ true
dead h t m = grind (arith, nat_tests)

met : (h : ProtocolState) (t : ℕ) (m : ℤ) → (state_after_event h (Aborts t m No)).met t ≡ true
met h t m = grind (arith, nat_tests)

pub abort_kept : (plan : ℕ → Plan) (past : List Labelled) (c : ℕ) (p : Work) (store : Name) (how : How) (r : Reply) (a : Option Answer) → CommitOk plan past c p (Deciding phase.Abort) → CanAnswer (abort_of p.id p.now) r
    → StageOk plan (labelled_with (Aborts p.id.0 p.now (ack_of r)) (event.Call c store (abort_of p.id p.now) how r a) ∷ past) p (step p (Deciding phase.Abort) r)
abort_kept plan past c p store how reply.Applied a ok can = goes_back plan (labelled_with (Aborts p.id.0 p.now Yes) (event.Call c store (abort_of p.id p.now) how reply.Applied a) ∷ past) p outcome.Faulted (length p.writes) tt ok.stage (inr (inl (dead (protocol_state past) p.id.0 p.now)))
abort_kept plan past c p store how (reply.NotMet (Some row)) a ok can = row_kept plan (labelled_with (Aborts p.id.0 p.now No) (event.Call c store (abort_of p.id p.now) how (reply.NotMet (Some row)) a) ∷ past) p row (steps.Expired p.id) (outcome.Expired p.id) tt (λ d. refl) ok.stage (inl refl, can.0 ∙ row-key p.id decision.Aborted p.now) (sym (ap (λ (x : Plan). x.now) ok.planned)) ok.within.accepted
abort_kept plan past c p store how (reply.NotMet None) a ok can = refl
abort_kept plan past c p store how reply.Fault a ok can = ok.stage
abort_kept plan past c p store how reply.NoMemory a ok can = refl
abort_kept plan past c p store how (reply.Found found) a ok can = refl
abort_kept plan past c p store how (reply.Rows rows) a ok can = refl
abort_kept plan past c p store how (reply.NotAll place there) a ok can = refl

pub again_kept : (plan : ℕ → Plan) (past : List Labelled) (c : ℕ) (p : Work) (store : Name) (how : How) (r : Reply) (a : Option Answer) → CommitOk plan past c p (Deciding phase.Again) → CanAnswer (look_of p.id) r
    → StageOk plan (labelled_with Other (event.Call c store (look_of p.id) how r a) ∷ past) p (step p (Deciding phase.Again) r)
again_kept plan past c p store how (reply.Found (Some row)) a ok can = row_kept plan (labelled_with Other (event.Call c store (look_of p.id) how (reply.Found (Some row)) a) ∷ past) p row steps.Faulted outcome.Faulted tt (λ d. refl) ok.stage (inl refl, can) (sym (ap (λ (x : Plan). x.now) ok.planned)) ok.within.accepted
again_kept plan past c p store how (reply.Found None) a ok can = refl
again_kept plan past c p store how reply.Fault a ok can = refl
again_kept plan past c p store how reply.NoMemory a ok can = refl
again_kept plan past c p store how reply.Applied a ok can = refl
again_kept plan past c p store how (reply.NotMet found) a ok can = refl
again_kept plan past c p store how (reply.Rows rows) a ok can = refl
again_kept plan past c p store how (reply.NotAll place there) a ok can = refl

---- a stop

pub stop_kept : (plan : ℕ → Plan) (past : List Labelled) (c n : ℕ) (b : Outcome) (p : Work) (e : Event) (r : Reply) → CommitOk plan past c p (Stopping b n) → StageOk plan (labelled_with (Aborts p.id.0 p.now (ack_of r)) e ∷ past) p (step p (Stopping b n) r)
stop_kept plan past c n b p e reply.Applied ok = goes_back plan (labelled_with (Aborts p.id.0 p.now Yes) e ∷ past) p b n ok.stage.2 ok.stage.0 (inr (inl (dead (protocol_state past) p.id.0 p.now)))
stop_kept plan past c n b p e (reply.NotMet found) ok = goes_back plan (labelled_with (Aborts p.id.0 p.now No) e ∷ past) p b n ok.stage.2 ok.stage.0 (inr (inr (met (protocol_state past) p.id.0 p.now, ok.stage.1)))
stop_kept plan past c n b p e reply.Fault ok = lost_over plan (labelled_with (Aborts p.id.0 p.now NoAck) e ∷ past) p b ok.stage.2 (inr (inl ok.stage.1))
stop_kept plan past c n b p e reply.NoMemory ok = lost_over plan (labelled_with (Aborts p.id.0 p.now OutOfMemory) e ∷ past) p b ok.stage.2 (inr (inl ok.stage.1))
stop_kept plan past c n b p e (reply.Found found) ok = lost_over plan (labelled_with (Aborts p.id.0 p.now NoAck) e ∷ past) p b ok.stage.2 (inr (inl ok.stage.1))
stop_kept plan past c n b p e (reply.Rows rows) ok = lost_over plan (labelled_with (Aborts p.id.0 p.now NoAck) e ∷ past) p b ok.stage.2 (inr (inl ok.stage.1))
stop_kept plan past c n b p e (reply.NotAll place there) ok = lost_over plan (labelled_with (Aborts p.id.0 p.now No) e ∷ past) p b ok.stage.2 (inr (inl ok.stage.1))

---- rolls

-- what is known stays known
pub row_later : (q : Labelled) (past : List Labelled) (t : ℕ) (d : Decision) (m : ℤ) → IsRowObserved past t d m → IsRowObserved (q ∷ past) t d m
row_later q past t d m x = record { row = x.row; observed = inr x.observed; key = x.key; says = x.says }

pub forward_kept : (plan : ℕ → Plan) (past : List Labelled) (c i : ℕ) (p : Work) (ks : List Key) (e : Event) (r : Reply) → CommitOk plan past c p (Forward i) → StageOk plan (labelled_with (Rolls p.id.0 ks decision.Committed) e ∷ past) p (step p (Forward i) r)
forward_kept plan past c i p ks e r ok = by_test plan (labelled_with (Rolls p.id.0 ks decision.Committed) e ∷ past) p (nat_lt (i + 1) (groups_of p)) (Forward (i + 1)) (Over outcome.Committed) (λ t. (ok.stage.0, known ok.stage.1)) (λ f. known ok.stage.1)
  where
    known : IsKnownCommitted plan past p.id.0 p.now → IsKnownCommitted plan (labelled_with (Rolls p.id.0 ks decision.Committed) e ∷ past) p.id.0 p.now
    known (inl x) = inl (row_later (labelled_with (Rolls p.id.0 ks decision.Committed) e) past p.id.0 decision.Committed p.now x)
    known (inr (inl x)) = inr (inl x)
    known (inr (inr x)) = inr (inr (x.0, (x.1.0, row_later (labelled_with (Rolls p.id.0 ks decision.Committed) e) past p.id.0 decision.Committed x.1.0 x.1.1), x.2))

pub back_kept : (plan : ℕ → Plan) (past : List Labelled) (c i n : ℕ) (b : Outcome) (p : Work) (k : Key) (e : Event) (r : Reply) → CommitOk plan past c p (Back b n i) → StageOk plan (labelled_with (Rolls p.id.0 (k ∷ []) decision.Aborted) e ∷ past) p (step p (Back b n i) r)
back_kept plan past c i n b p k e r ok = by_test plan (labelled_with (Rolls p.id.0 (k ∷ []) decision.Aborted) e ∷ past) p (nat_lt (i + 1) n) (Back b n (i + 1)) (Over b) (λ t. (ok.stage.0, known ok.stage.1, ok.stage.2, less (i + 1) n t)) (λ f. lost_over plan (labelled_with (Rolls p.id.0 (k ∷ []) decision.Aborted) e ∷ past) p b ok.stage.2 (inl (known ok.stage.1)))
  where
    known : IsKnownAborted past p.id.0 → IsKnownAborted (labelled_with (Rolls p.id.0 (k ∷ []) decision.Aborted) e ∷ past) p.id.0
    known (inl x) = inl (x.0, row_later (labelled_with (Rolls p.id.0 (k ∷ []) decision.Aborted) e) past p.id.0 decision.Aborted x.0 x.1)
    known (inr x) = inr x

---- checks

checked_more : (h : ProtocolState) (t i j : ℕ) → (h.checked t j ≡ true) ⊎ (j ≡ i) → (state_after_event h (Checks t i)).checked t j ≡ true
checked_more h t i j a = grind (arith, nat_tests)

checking_now : (h : ProtocolState) (t i : ℕ) → (state_after_event h (Checks t i)).stage t ≢ laws.Deciding
checking_now h t i d = absurd (apart (sym (now h t i) ∙ d))
  where
    now : (h : ProtocolState) (t i : ℕ) → (state_after_event h (Checks t i)).stage t ≡ laws.Checking
    now h t i = grind (arith, nat_tests)

    apart : laws.Checking ≡ laws.Deciding → ⊥
    apart e = cc

-- a check that passes
pub passed_kept : (plan : ℕ → Plan) (past : List Labelled) (c i : ℕ) (p : Work) (k : Check) (e : Event) (r : Reply) → CommitOk plan past c p (Checking i) → slice_get (checks p) i ≡ Some k → CanAnswer k.request r → as_wished p (Checking i) r ≡ true → difference_in k r ≡ None
    → StageOk plan (labelled_with (Checks p.id.0 i) e ∷ past) p (if nat_lt (i + 1) (length (checks p)) then Checking (i + 1) else Deciding phase.Put)
passed_kept plan past c i p k e r ok here can passed same = by_test plan (labelled_with (Checks p.id.0 i) e ∷ past) p (nat_lt (i + 1) (length (checks p))) (Checking (i + 1)) (Deciding phase.Put)
    (λ t. (checking_now (protocol_state past) p.id.0 i, ok.stage.1, ok.stage.2, checked (i + 1) (λ j l. l), agrees (i + 1) (λ j l. l), ok.stage.5))
    (λ f. (ok.stage.1, ok.stage.2, checked (length (checks p)) (λ j l. last j (length (checks p)) l f), agrees (length (checks p)) (λ j l. last j (length (checks p)) l f), ok.stage.5))
  where
    last : (j n : ℕ) → j < n → nat_lt (i + 1) n ≡ false → j < i + 1
    last j n l f = grind (arith, nat_tests)

    checked : (n : ℕ) → ((j : ℕ) → j < n → j < i + 1) → CheckedTo (state_after_event (protocol_state past) (Checks p.id.0 i)) p n
    checked n below j l = by (earlier i j (below j l))
      where
        by : (j < i) ⊎ (j ≡ i) → (state_after_event (protocol_state past) (Checks p.id.0 i)).checked p.id.0 j ≡ true
        by (inl b) = checked_more (protocol_state past) p.id.0 i j (inl (ok.stage.3 j b))
        by (inr x) = checked_more (protocol_state past) p.id.0 i j (inr x)

    agrees : (n : ℕ) → ((j : ℕ) → j < n → j < i + 1) → AgreesTo p n
    agrees n below j l = by (earlier i j (below j l))
      where
        by : (j < i) ⊎ (j ≡ i) → ItemAgrees p j
        by (inl b) = ok.stage.4 j b
        by (inr x) = subst (ItemAgrees p) (sym x) (ok.work.is_known i k r here can passed).agrees

-- A check of which the reply is no pass stops the COMMIT.
pub failed_kept : (plan : ℕ → Plan) (past : List Labelled) (c i : ℕ) (p : Work) (e : Event) (s : Rattle.sdb_phases.specs.declared.step.ValidateStep.ValidateStep) → CommitOk plan past c p (Checking i) → Rattle.sdb_phases.specs.CommitLaws.is_more s ≡ false → s ≢ Rattle.sdb_phases.specs.declared.step.ValidateStep.TheVariants.Valid → StageOk plan (labelled_with Other e ∷ past) p (after_check p i s)
failed_kept plan past c i p e Rattle.sdb_phases.specs.declared.step.ValidateStep.TheVariants.More ok n v = absurd (cc (n))
failed_kept plan past c i p e Rattle.sdb_phases.specs.declared.step.ValidateStep.TheVariants.Valid ok n v = absurd (v refl)
failed_kept plan past c i p e (Rattle.sdb_phases.specs.declared.step.ValidateStep.TheVariants.Conflict key found) ok n v = (ok.stage.2, ok.stage.5, tt)
failed_kept plan past c i p e Rattle.sdb_phases.specs.declared.step.ValidateStep.TheVariants.Faulted ok n v = (ok.stage.2, ok.stage.5, tt)
failed_kept plan past c i p e Rattle.sdb_phases.specs.declared.step.ValidateStep.TheVariants.NoMemory ok n v = (ok.stage.2, ok.stage.5, tt)
