-- A call of a COMMIT keeps what is so of all clients.
use Rattle.std.proofs.Common.{◌≡◌, ◌≢◌, ◌+◌, ℕ, ℤ, Bool, true, false, List, ◌∷◌, length, Option, Some, None, refl, sym, ap, subst, ◌∙◌, arith, ◌⊎◌, inl, inr}
use Rattle.std.specs.Prelude.{slice_get, nat_lt, if◌then◌else◌}
use Rattle.std.specs.Option.{option_map}
use Rattle.std.proofs.lemmas.Option.{slice_get-map}
use Rattle.std.proofs.lemmas.Bool.Decides.{nat_tests}
use Rattle.law_clients.specs.Types.{Answer, Check, Event, How, Key, Outcome, Record, Reply, Request, Write}
use Rattle.sdb_types.specs.declared.record.Reply.TheVariants as reply
use Rattle.sdb_types.specs.declared.record.Request.TheVariants as ask
use Rattle.sdb_types.specs.Contents.{CanAnswer}
use Rattle.sdb_record.specs.Groups.{grouped, in_groups, keys_of_writes}
use Rattle.sdb_model.specs.declared.answer.Answer.TheVariants as answer
use Rattle.sdb_model.specs.declared.event.Event.TheVariants as event
use Rattle.sdb_model.specs.Rows.{Name}
use Rattle.law_protocol.specs.Plan.{Plan}
use Rattle.law_protocol.specs.History.{Action, Other, Prepares, Checks, Decides, Aborts, Rolls, ProtocolState, state_after_event, state_after}
use Rattle.law_protocol.specs.History as laws
use Rattle.law_protocol.specs.Lawful.{Labelled, protocol_state, ack_of, is_quiet, InCommit, IsKnownCommitted, IsKnownAborted, IsBadRow, IsEnabled, MayAnswer, MayDeny, is_denial, labelled_with}
use Rattle.sdb_phases.specs.declared.step.Outcome.TheVariants as outcome
use Rattle.sdb_phases.specs.declared.step.ValidateStep.TheVariants as validate
use Rattle.sdb_phases.specs.declared.step.DecidePhase.TheVariants as phase
use Rattle.sdb_phases.specs.Work.{Work, prepares_of, forwards_of, back_of, decide_of, abort_of, look_of}
use Rattle.sdb_phases.specs.Checks.{checks, difference_in}
use Rattle.sdb_phases.specs.Steps.{validate_step, judged}
use Rattle.sdb_phases.specs.Commit.{Stage, Preparing, Checking, Deciding, Forward, Stopping, Back, Over, pending, step, after_check, out_of_memory, out_of_memory_answer}
use Rattle.sdb_phases.specs.CommitLaws.{as_wished, is_more, IsLost}
use Rattle.law_clients.specs.Owner.{CommitOk, StageOk, OverOk, IsReading, action_of, prepare_action, forward_action, back_action}
use Rattle.law_clients.specs.System.{ClientAt, Committing, ClientOk, Has, is_in_vacuum, SystemAt, SystemOk, answer_at, ending_at, commit_left, commit_labelled, with_client, ClientCall, call_event, IsReplyTo, IsInState}
use Rattle.sdb_client.specs.Step.{answer_of_outcome}
use Rattle.law_clients.proofs.Own.{prepare_lawful, check_lawful, decide_lawful, abort_lawful, forward_lawful, back_lawful}
use Rattle.law_clients.proofs.Kept.{prepare_kept, decide_kept, look_kept, abort_kept, again_kept, stop_kept, forward_kept, back_kept, passed_kept}
use Rattle.law_clients.proofs.Clients.{BeginsNone, turned, moved}
use Rattle.sdb_types.proofs.Public.{none_some as some_none, some_is}

---- it may play its part

-- over what is at a place, if it is asked
at_place : {A : Type 0} (xs : List A) (f : A → Request) (q : Request) (i : ℕ) (P : Option A → Request → Type 0) → ((x : A) → slice_get xs i ≡ Some x → P (Some x) (f x)) → option_map f (slice_get xs i) ≡ Some q → P (slice_get xs i) q
at_place {A = A} xs f q i P each e = by (slice_get xs i) refl e
  where
    by : (o : Option A) → slice_get xs i ≡ o → option_map f o ≡ Some q → P o q
    by None h e = some_none q e
    by (Some x) h e = subst (P (Some x)) (some_is (f x) q e) (each x h)

quiet : (e : Request) (c : ℕ) (store : Name) (how : How) (r : Reply) (a : Option Answer) → IsReading e → is_quiet (event.Call c store e how r a) ≡ true
quiet (ask.Get key) c store how r a h = refl
quiet (ask.Scan span) c store how r a h = refl
quiet (ask.PutIf rec condition) c store how r a h = absurd h
quiet (ask.DeleteIf key condition) c store how r a h = absurd h
quiet (ask.PutAll batch) c store how r a h = absurd h

pub own_play : (plan : ℕ → Plan) (past : List Labelled) (c : ℕ) (p : Work) (s : Stage) (store : Name) (q : Request) (how : How) (r : Reply) (a : Option Answer) → CommitOk plan past c p s → pending p s ≡ Some q → CanAnswer q r → IsEnabled plan past (event.Call c store q how r a) (action_of p s r)
own_play plan past c p (Preparing i) store q how r a ok e can =
    at_place (grouped p.writes) (prepares_of p.id p.now) q i (λ o x. IsEnabled plan past (event.Call c store x how r a) (prepare_action p.id.0 o r)) (λ g here. prepare_lawful plan past c i p g store how r a ok here) (sym (slice_get-map (prepares_of p.id p.now) (grouped p.writes) i) ∙ e)
own_play plan past c p (Checking i) store q how r a ok e can = by (slice_get (checks p) i) refl e
  where
    on : (k : Check) (b : Bool) → slice_get (checks p) i ≡ Some k → CanAnswer k.request r → as_wished p (Checking i) r ≡ b → IsEnabled plan past (event.Call c store k.request how r a) (if b then Checks p.id.0 i else Other)
    on k true at can t = check_lawful plan past c i p k store how r a ok at can t
    on k false at can f = quiet k.request c store how r a (ok.work.reads i k at)

    by : (o : Option Check) → slice_get (checks p) i ≡ o → option_map (λ (x : Check). x.request) o ≡ Some q → IsEnabled plan past (event.Call c store q how r a) (if as_wished p (Checking i) r then Checks p.id.0 i else Other)
    by None at e = some_none q e
    by (Some k) at e = subst (λ x. IsEnabled plan past (event.Call c store x how r a) (if as_wished p (Checking i) r then Checks p.id.0 i else Other)) (some_is k.request q e) (on k (as_wished p (Checking i) r) at (subst (λ x. CanAnswer x r) (sym (some_is k.request q e)) can) refl)
own_play plan past c p (Deciding phase.Put) store q how r a ok e can = subst (λ x. IsEnabled plan past (event.Call c store x how r a) (Decides p.id.0 (ack_of r))) (some_is (decide_of p.id p.now) q e) (decide_lawful plan past c p store how r a ok)
own_play plan past c p (Deciding phase.Look) store q how r a ok e can = subst (λ x. is_quiet (event.Call c store x how r a) ≡ true) (some_is (look_of p.id) q e) refl
own_play plan past c p (Deciding phase.Abort) store q how r a ok e can = subst (λ x. IsEnabled plan past (event.Call c store x how r a) (Aborts p.id.0 p.now (ack_of r))) (some_is (abort_of p.id p.now) q e) (abort_lawful plan past c p (Deciding phase.Abort) store how r a ok)
own_play plan past c p (Deciding phase.Again) store q how r a ok e can = subst (λ x. is_quiet (event.Call c store x how r a) ≡ true) (some_is (look_of p.id) q e) refl
own_play plan past c p (Deciding phase.Ended) store q how r a ok e can = some_none q e
own_play plan past c p (Forward i) store q how r a ok e can =
    at_place (grouped p.writes) (forwards_of p.id p.now) q i (λ o x. IsEnabled plan past (event.Call c store x how r a) (forward_action p.id.0 o)) (λ g here. forward_lawful plan past c i p g store how r a ok here) (sym (slice_get-map (forwards_of p.id p.now) (grouped p.writes) i) ∙ e)
own_play plan past c p (Stopping b n) store q how r a ok e can = subst (λ x. IsEnabled plan past (event.Call c store x how r a) (Aborts p.id.0 p.now (ack_of r))) (some_is (abort_of p.id p.now) q e) (abort_lawful plan past c p (Stopping b n) store how r a ok)
own_play plan past c p (Back b n i) store q how r a ok e can =
    at_place (in_groups p.writes) (back_of p.id) q i (λ o x. IsEnabled plan past (event.Call c store x how r a) (back_action p.id.0 o)) (λ w here. back_lawful plan past c i n b p w store how r a ok ok.stage.3 here) (sym (slice_get-map (back_of p.id) (in_groups p.writes) i) ∙ e)
own_play plan past c p (Over b) store q how r a ok e can = some_none q e

---- it goes on knowing what it needs

checks_kept : (plan : ℕ → Plan) (past : List Labelled) (c i : ℕ) (p : Work) (e : Event) (r : Reply) (k : Check) → CommitOk plan past c p (Checking i) → slice_get (checks p) i ≡ Some k → CanAnswer k.request r → StageOk plan (labelled_with (action_of p (Checking i) r) e ∷ past) p (step p (Checking i) r)
checks_kept plan past c i p e r k ok here can = subst (λ o. StageOk plan (labelled_with (if is_more (validate_step true o r) then Checks p.id.0 i else Other) e ∷ past) p (after_check p i (validate_step (nat_lt (i + 1) (length (checks p))) o r))) (sym here) (by r refl)
  where
    more : (b : Bool) → StageOk plan (labelled_with (Checks p.id.0 i) e ∷ past) p (if b then Checking (i + 1) else Deciding phase.Put) → StageOk plan (labelled_with (Checks p.id.0 i) e ∷ past) p (after_check p i (if b then validate.More else validate.Valid))
    more true x = x
    more false x = x

    on : (x : Reply) → r ≡ x → validate_step true (Some k) x ≡ judged true (difference_in k x) → (d : Option (Key × Option Record)) → difference_in k x ≡ d → StageOk plan (labelled_with (if is_more (judged true d) then Checks p.id.0 i else Other) e ∷ past) p (after_check p i (judged (nat_lt (i + 1) (length (checks p))) d))
    on x at is None same =
        let passed : as_wished p (Checking i) r ≡ true = ap (λ o. is_more (validate_step true o r)) here ∙ ap (λ y. is_more (validate_step true (Some k) y)) at ∙ ap is_more is ∙ ap (λ d. is_more (judged true d)) same in
        more (nat_lt (i + 1) (length (checks p))) (passed_kept plan past c i p k e r ok here can passed (ap (difference_in k) at ∙ same))
    on x at is (Some d) same = (ok.stage.2, ok.stage.5, tt)

    by : (x : Reply) → r ≡ x → StageOk plan (labelled_with (if is_more (validate_step true (Some k) x) then Checks p.id.0 i else Other) e ∷ past) p (after_check p i (validate_step (nat_lt (i + 1) (length (checks p))) (Some k) x))
    by reply.Fault at = (ok.stage.2, ok.stage.5, tt)
    by reply.NoMemory at = (ok.stage.2, ok.stage.5, tt)
    by reply.Applied at = on reply.Applied at refl (difference_in k reply.Applied) refl
    by (reply.NotMet found) at = on (reply.NotMet found) at refl (difference_in k (reply.NotMet found)) refl
    by (reply.Found found) at = on (reply.Found found) at refl (difference_in k (reply.Found found)) refl
    by (reply.Rows rows) at = on (reply.Rows rows) at refl (difference_in k (reply.Rows rows)) refl
    by (reply.NotAll place there) at = on (reply.NotAll place there) at refl (difference_in k (reply.NotAll place there)) refl

pub own_kept : (plan : ℕ → Plan) (past : List Labelled) (c : ℕ) (p : Work) (s : Stage) (store : Name) (q : Request) (how : How) (r : Reply) (a : Option Answer) → CommitOk plan past c p s → pending p s ≡ Some q → CanAnswer q r
    → StageOk plan (labelled_with (action_of p s r) (event.Call c store q how r a) ∷ past) p (step p s r)
own_kept plan past c p (Preparing i) store q how r a ok e can =
    at_place (grouped p.writes) (prepares_of p.id p.now) q i (λ o x. StageOk plan (labelled_with (prepare_action p.id.0 o r) (event.Call c store q how r a) ∷ past) p (step p (Preparing i) r)) (λ g here. prepare_kept plan past c i p g (event.Call c store q how r a) r ok here) (sym (slice_get-map (prepares_of p.id p.now) (grouped p.writes) i) ∙ e)
own_kept plan past c p (Checking i) store q how r a ok e can = by (slice_get (checks p) i) refl e
  where
    by : (o : Option Check) → slice_get (checks p) i ≡ o → option_map (λ (x : Check). x.request) o ≡ Some q → StageOk plan (labelled_with (action_of p (Checking i) r) (event.Call c store q how r a) ∷ past) p (step p (Checking i) r)
    by None at h = some_none q h
    by (Some k) at h = checks_kept plan past c i p (event.Call c store q how r a) r k ok at (subst (λ x. CanAnswer x r) (sym (some_is k.request q h)) can)
own_kept plan past c p (Deciding phase.Put) store q how r a ok e can = subst (λ x. CanAnswer x r → StageOk plan (labelled_with (Decides p.id.0 (ack_of r)) (event.Call c store x how r a) ∷ past) p (step p (Deciding phase.Put) r)) (some_is (decide_of p.id p.now) q e) (decide_kept plan past c p store how r a ok) can
own_kept plan past c p (Deciding phase.Look) store q how r a ok e can = subst (λ x. CanAnswer x r → StageOk plan (labelled_with Other (event.Call c store x how r a) ∷ past) p (step p (Deciding phase.Look) r)) (some_is (look_of p.id) q e) (look_kept plan past c p store how r a ok) can
own_kept plan past c p (Deciding phase.Abort) store q how r a ok e can = subst (λ x. CanAnswer x r → StageOk plan (labelled_with (Aborts p.id.0 p.now (ack_of r)) (event.Call c store x how r a) ∷ past) p (step p (Deciding phase.Abort) r)) (some_is (abort_of p.id p.now) q e) (abort_kept plan past c p store how r a ok) can
own_kept plan past c p (Deciding phase.Again) store q how r a ok e can = subst (λ x. CanAnswer x r → StageOk plan (labelled_with Other (event.Call c store x how r a) ∷ past) p (step p (Deciding phase.Again) r)) (some_is (look_of p.id) q e) (again_kept plan past c p store how r a ok) can
own_kept plan past c p (Deciding phase.Ended) store q how r a ok e can = some_none q e
own_kept plan past c p (Forward i) store q how r a ok e can =
    at_place (grouped p.writes) (forwards_of p.id p.now) q i (λ o x. StageOk plan (labelled_with (forward_action p.id.0 o) (event.Call c store q how r a) ∷ past) p (step p (Forward i) r)) (λ g here. forward_kept plan past c i p (keys_of_writes g) (event.Call c store q how r a) r ok) (sym (slice_get-map (forwards_of p.id p.now) (grouped p.writes) i) ∙ e)
own_kept plan past c p (Stopping b n) store q how r a ok e can = stop_kept plan past c n b p (event.Call c store q how r a) r ok
own_kept plan past c p (Back b n i) store q how r a ok e can =
    at_place (in_groups p.writes) (back_of p.id) q i (λ o x. StageOk plan (labelled_with (back_action p.id.0 o) (event.Call c store q how r a) ∷ past) p (step p (Back b n i) r)) (λ w here. back_kept plan past c i n b p w.key (event.Call c store q how r a) r ok) (sym (slice_get-map (back_of p.id) (in_groups p.writes) i) ∙ e)
own_kept plan past c p (Over b) store q how r a ok e can = some_none q e

-- a call of a COMMIT begins, takes, ends and stops nothing
abbrev IsCallRole : Action → Type 0
IsCallRole (laws.Begins t c) = ⊥
IsCallRole (laws.Takes t) = ⊥
IsCallRole (laws.Ends t) = ⊥
IsCallRole (laws.Stops c) = ⊥
IsCallRole r = Unit {0}

call_role : (p : Work) (s : Stage) (r : Reply) → IsCallRole (action_of p s r)
call_role p (Preparing i) r = by (slice_get (grouped p.writes) i)
  where
    by : (o : Option (List Write)) → IsCallRole (prepare_action p.id.0 o r)
    by None = tt
    by (Some g) = tt
call_role p (Checking i) r = by (as_wished p (Checking i) r)
  where
    by : (b : Bool) → IsCallRole (if b then Checks p.id.0 i else Other)
    by true = tt
    by false = tt
call_role p (Deciding phase.Put) r = tt
call_role p (Deciding phase.Look) r = tt
call_role p (Deciding phase.Abort) r = tt
call_role p (Deciding phase.Again) r = tt
call_role p (Deciding phase.Ended) r = tt
call_role p (Forward i) r = by (slice_get (grouped p.writes) i)
  where
    by : (o : Option (List Write)) → IsCallRole (forward_action p.id.0 o)
    by None = tt
    by (Some g) = tt
call_role p (Stopping a n) r = tt
call_role p (Back a n i) r = by (slice_get (in_groups p.writes) i)
  where
    by : (o : Option Write) → IsCallRole (back_action p.id.0 o)
    by None = tt
    by (Some w) = tt
call_role p (Over a) r = tt

pub within_kept : (h : ProtocolState) (c t : ℕ) (r : Action) → IsCallRole r → InCommit h c t → InCommit (state_after_event h r) c t
within_kept h c t Other f ok = record { accepted = ok.accepted; is_open = ok.is_open; owner = ok.owner; goes_on = ok.goes_on }
within_kept h c t (laws.Begins u d) f ok = absurd f
within_kept h c t (laws.Takes u) f ok = absurd f
within_kept h c t (Prepares u k word) f ok = record { accepted = ok.accepted; is_open = ok.is_open; owner = ok.owner; goes_on = ok.goes_on }
within_kept h c t (Checks u i) f ok = record { accepted = ok.accepted; is_open = ok.is_open; owner = ok.owner; goes_on = ok.goes_on }
within_kept h c t (Decides u word) f ok = record { accepted = ok.accepted; is_open = ok.is_open; owner = ok.owner; goes_on = ok.goes_on }
within_kept h c t (Aborts u m word) f ok = record { accepted = ok.accepted; is_open = ok.is_open; owner = ok.owner; goes_on = ok.goes_on }
within_kept h c t (Rolls u k d) f ok = record { accepted = ok.accepted; is_open = ok.is_open; owner = ok.owner; goes_on = ok.goes_on }
within_kept h c t (laws.Removes k u) f ok = record { accepted = ok.accepted; is_open = ok.is_open; owner = ok.owner; goes_on = ok.goes_on }
within_kept h c t (laws.Ends u) f ok = absurd f
within_kept h c t (laws.Stops d) f ok = absurd f

begun_kept : (h : ProtocolState) (t : ℕ) (r : Action) → IsCallRole r → h.begun t ≢ 0 → (state_after_event h r).begun t ≢ 0
begun_kept h t Other f b = b
begun_kept h t (laws.Begins u d) f b = absurd f
begun_kept h t (laws.Takes u) f b = absurd f
begun_kept h t (Prepares u k word) f b = b
begun_kept h t (Checks u i) f b = b
begun_kept h t (Decides u word) f b = b
begun_kept h t (Aborts u m word) f b = b
begun_kept h t (Rolls u k d) f b = b
begun_kept h t (laws.Removes k u) f b = b
begun_kept h t (laws.Ends u) f b = absurd f
begun_kept h t (laws.Stops d) f b = absurd f

-- what is known when an answer ends the transaction
known_ended : (plan : ℕ → Plan) (past : List Labelled) (e : Event) (action : Action) (t u : ℕ) (m : ℤ) → IsKnownCommitted plan (labelled_with action e ∷ past) t m → IsKnownCommitted plan (record { event = e; action = action; ends = Some u } ∷ past) t m
known_ended plan past e action t u m (inl x) = inl (record { row = x.row; observed = x.observed; key = x.key; says = x.says })
known_ended plan past e action t u m (inr (inl x)) = inr (inl x)
known_ended plan past e action t u m (inr (inr x)) = inr (inr (x.0, (x.1.0, record { row = x.1.1.row; observed = x.1.1.observed; key = x.1.1.key; says = x.1.1.says }), x.2))

denied_ended : (past : List Labelled) (e : Event) (action : Action) (t u : ℕ) → (IsKnownAborted (labelled_with action e ∷ past) t ⊎ ((protocol_state (labelled_with action e ∷ past)).risked t ≡ false) ⊎ IsBadRow (labelled_with action e ∷ past) t) → (IsKnownAborted (record { event = e; action = action; ends = Some u } ∷ past) t ⊎ ((protocol_state (record { event = e; action = action; ends = Some u } ∷ past)).risked t ≡ false) ⊎ IsBadRow (record { event = e; action = action; ends = Some u } ∷ past) t)
denied_ended past e action t u (inl (inl x)) = inl (inl (x.0, record { row = x.1.row; observed = x.1.observed; key = x.1.key; says = x.1.says }))
denied_ended past e action t u (inl (inr x)) = inl (inr x)
denied_ended past e action t u (inr (inl r)) = inr (inl r)
denied_ended past e action t u (inr (inr b)) = inr (inr (record { row = b.row; observed = b.observed; key = b.key; bad = b.bad }))

told_at : (plan : ℕ → Plan) (past : List Labelled) (p : Work) (e : Event) (action : Action) (s : Stage) → (protocol_state past).accepted p.id.0 ≡ true → StageOk plan (labelled_with action e ∷ past) p s → answer_at s ≡ Some answer.Committed → MayAnswer plan past (record { event = e; action = action; ends = ending_at p.id.0 s })
told_at plan past p e action (Over outcome.Committed) accepted ok a = record { t = p.id.0; ends = refl; accepted = accepted; moment = p.now; known = known_ended plan past e action p.id.0 p.id.0 p.now ok }
told_at plan past p e action (Over (outcome.Conflict key found)) accepted ok a = absurd (cc)
told_at plan past p e action (Over (outcome.Expired id)) accepted ok a = absurd (cc)
told_at plan past p e action (Over outcome.Faulted) accepted ok a = absurd (cc)
told_at plan past p e action (Over (outcome.Unknown id)) accepted ok a = absurd (cc)
told_at plan past p e action (Over (outcome.BadRecord key)) accepted ok a = absurd (cc)
told_at plan past p e action (Over outcome.NoMemory) accepted ok a = absurd (cc)
told_at plan past p e action (Preparing i) accepted ok a = some_none answer.Committed a
told_at plan past p e action (Checking i) accepted ok a = some_none answer.Committed a
told_at plan past p e action (Deciding d) accepted ok a = some_none answer.Committed a
told_at plan past p e action (Forward i) accepted ok a = some_none answer.Committed a
told_at plan past p e action (Stopping b n) accepted ok a = some_none answer.Committed a
told_at plan past p e action (Back b n i) accepted ok a = some_none answer.Committed a

over_why : (plan : ℕ → Plan) (past : List Labelled) (p : Work) (o : Outcome) → is_denial (answer_of_outcome o) ≡ true → OverOk plan past p o → IsKnownAborted past p.id.0 ⊎ ((protocol_state past).risked p.id.0 ≡ false) ⊎ IsBadRow past p.id.0
over_why plan past p outcome.Committed d ok = absurd (cc)
over_why plan past p (outcome.Conflict key found) d ok = ok
over_why plan past p (outcome.Expired id) d ok = ok
over_why plan past p outcome.Faulted d ok = ok
over_why plan past p (outcome.Unknown id) d ok = absurd (cc)
over_why plan past p (outcome.BadRecord key) d ok = ok
over_why plan past p outcome.NoMemory d ok = ok

denied_at : (plan : ℕ → Plan) (past : List Labelled) (p : Work) (e : Event) (action : Action) (s : Stage) (a : Answer) → StageOk plan (labelled_with action e ∷ past) p s → answer_at s ≡ Some a → is_denial a ≡ true → MayDeny past (record { event = e; action = action; ends = ending_at p.id.0 s })
denied_at plan past p e action (Over o) a ok executed denial u ends accepted = subst (λ t. IsKnownAborted (record { event = e; action = action; ends = Some p.id.0 } ∷ past) t ⊎ ((protocol_state (record { event = e; action = action; ends = Some p.id.0 } ∷ past)).risked t ≡ false) ⊎ IsBadRow (record { event = e; action = action; ends = Some p.id.0 } ∷ past) t) (some_is p.id.0 u ends) (denied_ended past e action p.id.0 p.id.0 (over_why plan (labelled_with action e ∷ past) p o (ap is_denial (some_is (answer_of_outcome o) a executed) ∙ denial) ok))
denied_at plan past p e action (Preparing i) a ok executed denial u ends accepted = some_none a executed
denied_at plan past p e action (Checking i) a ok executed denial u ends accepted = some_none a executed
denied_at plan past p e action (Deciding d) a ok executed denial u ends accepted = some_none a executed
denied_at plan past p e action (Forward i) a ok executed denial u ends accepted = some_none a executed
denied_at plan past p e action (Stopping b n) a ok executed denial u ends accepted = some_none a executed
denied_at plan past p e action (Back b n i) a ok executed denial u ends accepted = some_none a executed

left_ok : (plan : ℕ → Plan) (past : List Labelled) (c : ℕ) (p : Work) (s : Stage) (e : Event) (action : Action) (n : Stage) → CommitOk plan past c p s → IsCallRole action → StageOk plan (labelled_with action e ∷ past) p n → ClientOk plan (record { event = e; action = action; ends = ending_at p.id.0 n } ∷ past) c (commit_left p n)
left_ok plan past c p s e action n ok call now = by n now
  where
    agrees : (n : Stage) → StageOk plan (labelled_with action e ∷ past) p n → CommitOk plan (labelled_with action e ∷ past) c p n
    agrees n now = record { work = ok.work; within = within_kept (protocol_state past) c p.id.0 action call ok.within; begun = begun_kept (protocol_state past) p.id.0 action call ok.begun; planned = ok.planned; stage = now }

    by : (n : Stage) → StageOk plan (labelled_with action e ∷ past) p n → ClientOk plan (record { event = e; action = action; ends = ending_at p.id.0 n } ∷ past) c (commit_left p n)
    by (Over a) now = (within_kept (protocol_state past) c p.id.0 action call ok.within).goes_on
    by (Preparing i) now = agrees (Preparing i) now
    by (Checking i) now = agrees (Checking i) now
    by (Deciding d) now = agrees (Deciding d) now
    by (Forward i) now = agrees (Forward i) now
    by (Stopping b n) now = agrees (Stopping b n) now
    by (Back b n i) now = agrees (Back b n i) now

---- the turn

begins_none : (action : Action) → IsCallRole action → BeginsNone action
begins_none Other f = tt
begins_none (laws.Begins t c) f = absurd f
begins_none (laws.Takes t) f = tt
begins_none (Prepares t k word) f = tt
begins_none (Checks t i) f = tt
begins_none (Decides t word) f = tt
begins_none (Aborts t m word) f = tt
begins_none (Rolls t k d) f = tt
begins_none (laws.Removes k t) f = tt
begins_none (laws.Ends t) f = tt
begins_none (laws.Stops c) f = tt

pub never_vacuum : (p : Work) (n : Stage) → is_in_vacuum (commit_left p n) ≡ false
never_vacuum p (Over a) = refl
never_vacuum p (Preparing i) = refl
never_vacuum p (Checking i) = refl
never_vacuum p (Deciding d) = refl
never_vacuum p (Forward i) = refl
never_vacuum p (Stopping a m) = refl
never_vacuum p (Back a m i) = refl

pub no_start : {A : Type 0} (x : ClientAt) → is_in_vacuum x ≡ false → is_in_vacuum x ≡ true → A
no_start x f t = absurd (clash (sym f ∙ t))
  where
    clash : false ≡ true → ⊥
    clash e = cc

-- an answer that ends a transaction leaves it not open
pub not_open : (h : ProtocolState) (action : Action) (t u : ℕ) → t ≡ u → (state_after (state_after_event h action) (laws.Ends t)).is_open u ≡ true → ⊥
not_open h action t u e o = clash (sym (closed (state_after_event h action) t u e) ∙ o)
  where
    clash : false ≡ true → ⊥
    clash e = cc

    closed : (v : ProtocolState) (t u : ℕ) → t ≡ u → (state_after v (laws.Ends t)).is_open u ≡ false
    closed v t u e = grind (arith, nat_tests)

pub commit_turn : (plan : ℕ → Plan) (past : List Labelled) (sys : SystemAt) (x : ClientCall) (p : Work) (s : Stage) → IsInState plan past sys x.client (Committing p s) → IsReplyTo (pending p s) x
    → SystemOk plan (commit_labelled p s x ∷ past) (with_client sys x.client (commit_left p (step p s x.reply)))
commit_turn plan past sys x p s agrees reply = turned plan past sys c (commit_labelled p s x) (commit_left p (step p s r)) ok (record {
  by = refl;
  may = may;
  ends = λ u e. owned (step p s r) u e;
  begins = begins_none (action_of p s r) (call_role p s r);
  is_known = told_at plan past p e (action_of p s r) (step p s r) here.within.accepted now;
  denies = λ a executed denial. denied_at plan past p e (action_of p s r) (step p s r) a now executed denial;
  knows = left_ok plan past c p s e (action_of p s r) (step p s r) here (call_role p s r) now;
  holds = λ u h o. holds u (subst (λ y. Has y u) agrees.at h) (step p s r) o;
  starts = no_start (commit_left p (step p s r)) (never_vacuum p (step p s r));
})
  where
    c : ℕ
    c = x.client

    r : Reply
    r = x.reply

    ok : SystemOk plan past sys
    ok = agrees.ok

    e : Event
    e = call_event x (answer_at (step p s r))

    here : CommitOk plan past c p s
    here = subst (ClientOk plan past c) agrees.at (ok.each c)

    may : IsEnabled plan past e (action_of p s r)
    may = own_play plan past c p s x.store x.request x.how r (answer_at (step p s r)) here reply.asked reply.can

    now : StageOk plan (labelled_with (action_of p s r) e ∷ past) p (step p s r)
    now = own_kept plan past c p s x.store x.request x.how r (answer_at (step p s r)) here reply.asked reply.can

    owned : (n : Stage) (u : ℕ) → ending_at p.id.0 n ≡ Some u → (protocol_state past).owner u ≡ c
    owned (Over a) u e = subst (λ t. (protocol_state past).owner t ≡ c) (some_is p.id.0 u e) here.within.owner
    owned (Preparing i) u e = some_none u e
    owned (Checking i) u e = some_none u e
    owned (Deciding d) u e = some_none u e
    owned (Forward i) u e = some_none u e
    owned (Stopping b n) u e = some_none u e
    owned (Back b n i) u e = some_none u e

    holds : (u : ℕ) → p.id.0 ≡ u → (n : Stage) → (protocol_state (record { event = e; action = action_of p s r; ends = ending_at p.id.0 n } ∷ past)).is_open u ≡ true → ((protocol_state (record { event = e; action = action_of p s r; ends = ending_at p.id.0 n } ∷ past)).stopped c ≡ true) ⊎ Has (commit_left p n) u
    holds u h (Over a) o = absurd (not_open (protocol_state past) (action_of p s r) p.id.0 u h o)
    holds u h (Preparing i) o = inr h
    holds u h (Checking i) o = inr h
    holds u h (Deciding d) o = inr h
    holds u h (Forward i) o = inr h
    holds u h (Stopping b n) o = inr h
    holds u h (Back b n i) o = inr h

---- out of memory in place of a conflict

starved_lost : (a : Outcome) → IsLost a → IsLost (out_of_memory_answer a)
starved_lost outcome.Committed l = l
starved_lost (outcome.Conflict key found) l = tt
starved_lost (outcome.Expired id) l = l
starved_lost outcome.Faulted l = l
starved_lost (outcome.Unknown id) l = l
starved_lost (outcome.BadRecord key) l = l
starved_lost outcome.NoMemory l = l

starved_over : (plan : ℕ → Plan) (past : List Labelled) (p : Work) (a : Outcome) → OverOk plan past p a → OverOk plan past p (out_of_memory_answer a)
starved_over plan past p outcome.Committed ok = ok
starved_over plan past p (outcome.Conflict key found) ok = ok
starved_over plan past p (outcome.Expired id) ok = ok
starved_over plan past p outcome.Faulted ok = ok
starved_over plan past p (outcome.Unknown id) ok = ok
starved_over plan past p (outcome.BadRecord key) ok = ok
starved_over plan past p outcome.NoMemory ok = ok

starved_stage : (plan : ℕ → Plan) (past : List Labelled) (p : Work) (s : Stage) → StageOk plan past p s → StageOk plan past p (out_of_memory s)
starved_stage plan past p (Preparing i) ok = ok
starved_stage plan past p (Checking i) ok = ok
starved_stage plan past p (Deciding d) ok = ok
starved_stage plan past p (Forward i) ok = ok
starved_stage plan past p (Stopping a n) ok = (ok.0, ok.1, starved_lost a ok.2)
starved_stage plan past p (Back a n i) ok = (ok.0, ok.1, starved_lost a ok.2, ok.3)
starved_stage plan past p (Over a) ok = starved_over plan past p a ok

pub starved_commit : (plan : ℕ → Plan) (past : List Labelled) (sys : SystemAt) (c : ℕ) (p : Work) (s : Stage) → IsInState plan past sys c (Committing p s) → SystemOk plan past (with_client sys c (Committing p (out_of_memory s)))
starved_commit plan past sys c p s agrees = moved plan past sys c (Committing p (out_of_memory s)) agrees.ok (record { work = here.work; within = here.within; begun = here.begun; planned = here.planned; stage = starved_stage plan past p s here.stage }) (λ u h. subst (λ x. Has x u) agrees.at h) (λ t. no_start (Committing p (out_of_memory s)) refl t)
  where
    here : CommitOk plan past c p s
    here = subst (ClientOk plan past c) agrees.at (agrees.ok.each c)
