-- A list passes the tests exactly where it is lawful.
use Rattle.std.proofs.Common.{◌≡◌, ℕ, Bool, true, false, List, [], ◌∷◌, Option, Some, None, ◌⊎◌, inl, inr, refl, sym, ap, subst, ◌∙◌}
use Rattle.std.specs.Prelude.{◌&&◌, ◌||◌, ◌↔◌, not, Result, Ok, Err, IfOk, IsTrue}
use Rattle.std.specs.Option.{option_map}
use Rattle.check_protocol.specs.Types.{Answer, Event, Key, TxId}
use Rattle.sdb_record.specs.Coordinator.{coordinator_key_of}
use Rattle.sdb_model.specs.declared.answer.Answer.TheVariants as answer
use Rattle.sdb_model.specs.declared.event.Event.TheVariants as event
use Rattle.law_protocol.specs.Lawful.{id, protocol_state, answer_of, is_denial, IsEnabled, MayOccur, MayAnswer, MayDeny, IsKnownAborted, IsBadRow, IsLawful}
use Rattle.check_protocol.specs.declared.plan.Plan.{Plan}
use Rattle.check_protocol.specs.declared.labelled.Action.{Action}
use Rattle.check_protocol.specs.declared.labelled.Action.TheVariants as action
use Rattle.check_protocol.specs.declared.labelled.Labelled.{Labelled}
use Rattle.check_protocol.specs.Values.{all_labelled, labelled_of, action_of, plan_in}
use Rattle.check_protocol.specs.Started.{commit_started_in, risked_in}
use Rattle.check_protocol.specs.Observed.{observed, observes_bad_row}
use Rattle.check_protocol.specs.Rules.{acts_well, occurs_well, stops_well, denies, may_answer, may_deny, is_known_committed, is_known_aborted, obeys_rules}
use Rattle.check_protocol.proofs.Lists.{none_some, right, or_left, not_true, true_not, not_both}
use Rattle.check_protocol.proofs.StateLaws.{taken_is, asked_is, risked_is}
use Rattle.check_protocol.proofs.ObservedLaws.{number_is, is_number, bad_row_shown, shows_bad_row_of}
use Rattle.check_protocol.proofs.LateLaws.{delayed_is, is_delayed}
use Rattle.check_protocol.proofs.TakeLaws.{begin_is, is_begin, take_is, is_take}
use Rattle.check_protocol.proofs.CallLaws.{each_sound, prepare_is, is_prepare, check_is, is_check, decide_is, is_decide, abort_is, is_abort}
use Rattle.check_protocol.proofs.KnownLaws.{known_is, is_known, aborted_is, is_aborted, lawful_sound, lawful_asked}
use Rattle.check_protocol.proofs.RollLaws.{Sound, roll_is, is_roll, remove_is, is_remove}
use Rattle.sdb_types.proofs.Public.{and_both as both, and_first as left, clash, decides as decide, either, or_second as or_right, some_is}
use Rattle.sdb_model.specs.Transactions.{is_committed_answer}

---- parts

stop_is : (e : Event) (c : ℕ) → stops_well e c ≡ true → e ≡ event.Stop c
stop_is (event.Stop client) c h = ap event.Stop (number_is client c h)
stop_is (event.Take client text answer) c h = clash (sym h)
stop_is (event.Call client store q how r answer) c h = clash (sym h)
stop_is (event.Clock moment) c h = clash (sym h)
stop_is (event.Idle client) c h = clash (sym h)
stop_is (event.Land number store q how r) c h = clash (sym h)
stop_is (event.Alter table column kind altered) c h = clash (sym h)

enabled_is : (past : List Labelled) (plans : List Plan) (e : Event) (r : Action) → acts_well (observed past) past plans e r ≡ true → IsEnabled (plan_in plans) (all_labelled past) e (action_of r)
enabled_is past plans e action.Other h = h
enabled_is past plans e (action.Begins t c) h = begin_is past e t.0 c h
enabled_is past plans e (action.Takes t) h = take_is past plans e t.0 h
enabled_is past plans e (action.Prepares t ks w) h = prepare_is past plans e t.0 ks w h
enabled_is past plans e (action.Checks t i) h = check_is past plans e t.0 i h
enabled_is past plans e (action.Decides t w) h = decide_is past plans e t.0 w h
enabled_is past plans e (action.Aborts t moment w) h = abort_is past e t.0 moment w h
enabled_is past plans e (action.Rolls t ks d) h = roll_is past plans e t.0 ks d h
enabled_is past plans e (action.Removes k t) h = remove_is past plans e k t.0 h
enabled_is past plans e (action.Ends t) h = clash (sym h)
enabled_is past plans e (action.Stops c) h = stop_is e c h

pub sound : (past : List Labelled) (plans : List Plan) (t : ℕ) (k : Key) → IsLawful (plan_in plans) (all_labelled past) → Sound past plans t k
sound past plans t k l asked w at = lawful_sound plans past t l (lawful_asked plans past t k l (sym (asked_is past t k) ∙ asked)) k w at

is_enabled_of : (past : List Labelled) (plans : List Plan) (e : Event) (r : Action) → IsLawful (plan_in plans) (all_labelled past) → IsEnabled (plan_in plans) (all_labelled past) e (action_of r) → acts_well (observed past) past plans e r ≡ true
is_enabled_of past plans e action.Other l m = m
is_enabled_of past plans e (action.Begins t c) l m = is_begin past e t.0 c m
is_enabled_of past plans e (action.Takes t) l m = is_take past plans e t.0 m
is_enabled_of past plans e (action.Prepares t ks w) l m = is_prepare past plans e t.0 ks w m (each_sound (plan_in plans t.0) m.group (lawful_sound plans past t.0 l (sym (taken_is past t.0) ∙ m.within.accepted)) m.each)
is_enabled_of past plans e (action.Checks t i) l m = is_check past plans e t.0 i m
is_enabled_of past plans e (action.Decides t w) l m = is_decide past plans e t.0 w m
is_enabled_of past plans e (action.Aborts t moment w) l m = is_abort past e t.0 moment w m
is_enabled_of past plans e (action.Rolls t ks d) l m = is_roll past plans e t.0 ks d (λ k. sound past plans t.0 k l) m
is_enabled_of past plans e (action.Removes k t) l m = is_remove past e k t.0 m
is_enabled_of past plans e (action.Ends t) l m = absurd m
is_enabled_of past plans e (action.Stops c) l m = ap (λ x. stops_well x c) m ∙ is_number c c refl

occurs_is : (past : List Labelled) (plans : List Plan) (e : Event) (a : Action) → occurs_well (observed past) past plans e a ≡ true → MayOccur (plan_in plans) (all_labelled past) e (action_of a)
occurs_is past plans (event.Land number store q how r) a h = delayed_is past q a h
occurs_is past plans e a h = enabled_is past plans e a h

is_occurring : (past : List Labelled) (plans : List Plan) (e : Event) (a : Action) → IsLawful (plan_in plans) (all_labelled past) → MayOccur (plan_in plans) (all_labelled past) e (action_of a) → occurs_well (observed past) past plans e a ≡ true
is_occurring past plans (event.Land number store q how r) a l m = is_delayed past q a m
is_occurring past plans e a l m = is_enabled_of past plans e a l m

---- answers

committed_is : (o : Option Answer) → is_committed_answer o ≡ true → o ≡ Some answer.Committed
committed_is None h = clash (sym h)
committed_is (Some answer.Committed) h = refl
committed_is (Some _) h = clash (sym h)

tell_is : (plans : List Plan) (past : List Labelled) (p : Labelled) → (not (is_committed_answer (answer_of p.event)) || may_answer (observed (p ∷ past)) (p ∷ past) past p.ends) ≡ true → answer_of p.event ≡ Some answer.Committed → MayAnswer (plan_in plans) (all_labelled past) (labelled_of p)
tell_is plans past p h e = elim (either (not (is_committed_answer (answer_of p.event))) (may_answer (observed (p ∷ past)) (p ∷ past) past p.ends) h) [
  | inl n ↦ not_both (is_committed_answer (answer_of p.event)) (ap is_committed_answer e) (not_true (is_committed_answer (answer_of p.event)) n)
  | inr m ↦ by p.ends refl m
]
  where
    by : (o : Option TxId) → p.ends ≡ o → may_answer (observed (p ∷ past)) (p ∷ past) past o ≡ true → MayAnswer (plan_in plans) (all_labelled past) (labelled_of p)
    by None e m = clash (sym m)
    by (Some t) e m =
        let k = known_is (p ∷ past) plans t.0 (right (commit_started_in past t.0) (is_known_committed (observed (p ∷ past)) (p ∷ past) t.0) m) in
        record { t = t.0; ends = ap (option_map (λ x. x.0)) e; accepted = taken_is past t.0 ∙ left (commit_started_in past t.0) (is_known_committed (observed (p ∷ past)) (p ∷ past) t.0) m; moment = k.0; known = k.1 }

is_tell : (plans : List Plan) (past : List Labelled) (p : Labelled) → (answer_of p.event ≡ Some answer.Committed → MayAnswer (plan_in plans) (all_labelled past) (labelled_of p)) → (not (is_committed_answer (answer_of p.event)) || may_answer (observed (p ∷ past)) (p ∷ past) past p.ends) ≡ true
is_tell plans past p f = elim (decide (is_committed_answer (answer_of p.event))) [
  | inr n ↦ or_left (not (is_committed_answer (answer_of p.event))) (may_answer (observed (p ∷ past)) (p ∷ past) past p.ends) (true_not (is_committed_answer (answer_of p.event)) n)
  | inl y ↦ or_right (not (is_committed_answer (answer_of p.event))) (may_answer (observed (p ∷ past)) (p ∷ past) past p.ends) (by p.ends (f (committed_is (answer_of p.event) y)) (f (committed_is (answer_of p.event) y)).ends)
]
  where
    by : (o : Option TxId) (m : MayAnswer (plan_in plans) (all_labelled past) (labelled_of p)) → option_map (λ x. x.0) o ≡ Some m.t → may_answer (observed (p ∷ past)) (p ∷ past) past o ≡ true
    by None m e = none_some e
    by (Some t) m e =
        let same = some_is t.0 m.t e in
        both (commit_started_in past t.0) (is_known_committed (observed (p ∷ past)) (p ∷ past) t.0) (ap (commit_started_in past) same ∙ sym (taken_is past m.t) ∙ m.accepted) (ap (is_known_committed (observed (p ∷ past)) (p ∷ past)) same ∙ is_known (p ∷ past) plans m.t m.moment m.known)

abbrev Denied : List Labelled → ℕ → Type 0
Denied whole t = IsKnownAborted (all_labelled whole) t ⊎ ((protocol_state (all_labelled whole)).risked t ≡ false) ⊎ IsBadRow (all_labelled whole) t

denied_is : (whole past : List Labelled) (t : TxId) → may_deny (observed whole) whole past (Some t) ≡ true → commit_started_in past t.0 ≡ true → Denied whole t.0
denied_is whole past t h accepted =
    let bad = observes_bad_row (observed whole) (coordinator_key_of (id t.0)) in
    elim (either (not (commit_started_in past t.0)) (is_known_aborted (observed whole) whole t.0 || (not (risked_in whole t.0) || bad)) h) [
      | inl n ↦ not_both (commit_started_in past t.0) accepted (not_true (commit_started_in past t.0) n)
      | inr a ↦ elim (either (is_known_aborted (observed whole) whole t.0) (not (risked_in whole t.0) || bad) a) [
        | inl k ↦ inl (aborted_is whole t.0 k)
        | inr b ↦ elim (either (not (risked_in whole t.0)) bad b) [ inl n ↦ inr (inl (risked_is whole t.0 ∙ not_true (risked_in whole t.0) n)) | inr s ↦ inr (inr (bad_row_shown whole t.0 s)) ]
      ]
    ]

is_denied : (whole past : List Labelled) (t : TxId) → (commit_started_in past t.0 ≡ true → Denied whole t.0) → may_deny (observed whole) whole past (Some t) ≡ true
is_denied whole past t f = elim (decide (commit_started_in past t.0)) [
  | inr n ↦ or_left (not (commit_started_in past t.0)) (is_known_aborted (observed whole) whole t.0 || (not (risked_in whole t.0) || observes_bad_row (observed whole) (coordinator_key_of (id t.0)))) (true_not (commit_started_in past t.0) n)
  | inl y ↦ or_right (not (commit_started_in past t.0)) (is_known_aborted (observed whole) whole t.0 || (not (risked_in whole t.0) || observes_bad_row (observed whole) (coordinator_key_of (id t.0)))) (by (f y))
]
  where
    by : Denied whole t.0 → (is_known_aborted (observed whole) whole t.0 || (not (risked_in whole t.0) || observes_bad_row (observed whole) (coordinator_key_of (id t.0)))) ≡ true
    by (inl k) = or_left (is_known_aborted (observed whole) whole t.0) (not (risked_in whole t.0) || observes_bad_row (observed whole) (coordinator_key_of (id t.0))) (is_aborted whole t.0 k)
    by (inr (inl n)) =
        or_right (is_known_aborted (observed whole) whole t.0) (not (risked_in whole t.0) || observes_bad_row (observed whole) (coordinator_key_of (id t.0))) (or_left (not (risked_in whole t.0)) (observes_bad_row (observed whole) (coordinator_key_of (id t.0))) (true_not (risked_in whole t.0) (sym (risked_is whole t.0) ∙ n)))
    by (inr (inr s)) =
        or_right (is_known_aborted (observed whole) whole t.0) (not (risked_in whole t.0) || observes_bad_row (observed whole) (coordinator_key_of (id t.0))) (or_right (not (risked_in whole t.0)) (observes_bad_row (observed whole) (coordinator_key_of (id t.0))) (shows_bad_row_of whole t.0 s))

deny_is : (past : List Labelled) (p : Labelled) → (not (denies (answer_of p.event)) || may_deny (observed (p ∷ past)) (p ∷ past) past p.ends) ≡ true → (a : Answer) → answer_of p.event ≡ Some a → is_denial a ≡ true → MayDeny (all_labelled past) (labelled_of p)
deny_is past p h a e d t ends accepted = elim (either (not (denies (answer_of p.event))) (may_deny (observed (p ∷ past)) (p ∷ past) past p.ends) h) [
  | inl n ↦ not_both (denies (answer_of p.event)) (ap denies e ∙ d) (not_true (denies (answer_of p.event)) n)
  | inr m ↦ by p.ends ends m
]
  where
    by : (o : Option TxId) → option_map (λ x. x.0) o ≡ Some t → may_deny (observed (p ∷ past)) (p ∷ past) past o ≡ true → Denied (p ∷ past) t
    by None e m = none_some e
    by (Some u) e m = let same = some_is u.0 t e in subst (λ x. Denied (p ∷ past) x) same (denied_is (p ∷ past) past u m (ap (commit_started_in past) same ∙ sym (taken_is past t) ∙ accepted))

is_deny : (past : List Labelled) (p : Labelled) → ((a : Answer) → answer_of p.event ≡ Some a → is_denial a ≡ true → MayDeny (all_labelled past) (labelled_of p)) → (not (denies (answer_of p.event)) || may_deny (observed (p ∷ past)) (p ∷ past) past p.ends) ≡ true
is_deny past p f = by (answer_of p.event) refl
  where
    of_ends : (o : Option TxId) → p.ends ≡ o → MayDeny (all_labelled past) (labelled_of p) → may_deny (observed (p ∷ past)) (p ∷ past) past o ≡ true
    of_ends None e m = refl
    of_ends (Some u) e m = is_denied (p ∷ past) past u (λ accepted. m u.0 (ap (option_map (λ x. x.0)) e) (taken_is past u.0 ∙ accepted))

    by : (o : Option Answer) → answer_of p.event ≡ o → (not (denies o) || may_deny (observed (p ∷ past)) (p ∷ past) past p.ends) ≡ true
    by None e = refl
    by (Some a) e = elim (decide (is_denial a)) [
      | inr n ↦ or_left (not (is_denial a)) (may_deny (observed (p ∷ past)) (p ∷ past) past p.ends) (true_not (is_denial a) n)
      | inl d ↦ or_right (not (is_denial a)) (may_deny (observed (p ∷ past)) (p ∷ past) past p.ends) (of_ends p.ends refl (f a e d))
    ]

---- the whole list

pub lawful_is : (plans : List Plan) (past : List Labelled) → obeys_rules plans past ≡ true → IsLawful (plan_in plans) (all_labelled past)
lawful_is plans [] h = tt
lawful_is plans (p ∷ past) h =
    let occurs = occurs_well (observed past) past plans p.event p.action in
    let knows = not (is_committed_answer (answer_of p.event)) || may_answer (observed (p ∷ past)) (p ∷ past) past p.ends in
    let denies_it = not (denies (answer_of p.event)) || may_deny (observed (p ∷ past)) (p ∷ past) past p.ends in
    let one = right (obeys_rules plans past) (occurs && (knows && denies_it)) h in
    let two = right occurs (knows && denies_it) one in
    (lawful_is plans past (left (obeys_rules plans past) (occurs && (knows && denies_it)) h), occurs_is past plans p.event p.action (left occurs (knows && denies_it) one), tell_is plans past p (left knows denies_it two), deny_is past p (right knows denies_it two))

pub is_lawful : (plans : List Plan) (past : List Labelled) → IsLawful (plan_in plans) (all_labelled past) → obeys_rules plans past ≡ true
is_lawful plans [] l = refl
is_lawful plans (p ∷ past) l =
    let occurs = occurs_well (observed past) past plans p.event p.action in
    let knows = not (is_committed_answer (answer_of p.event)) || may_answer (observed (p ∷ past)) (p ∷ past) past p.ends in
    let denies_it = not (denies (answer_of p.event)) || may_deny (observed (p ∷ past)) (p ∷ past) past p.ends in
    both (obeys_rules plans past) (occurs && (knows && denies_it)) (is_lawful plans past l.0)
    (both occurs (knows && denies_it) (is_occurring past plans p.event p.action l.0 l.1) (both knows denies_it (is_tell plans past p l.2) (is_deny past p l.3)))

-- what passes the tests or not is so of the law
pub decided : {E : Type 0} (plans : List Plan) (past : List Labelled) (r : Result Bool E) → IfOk r (λ w. w ≡ obeys_rules plans past) → IfOk r (λ w. IsTrue w ↔ IsLawful (plan_in plans) (all_labelled past))
decided plans past (Ok w) e = (λ h. lawful_is plans past (sym e ∙ h), λ l. e ∙ is_lawful plans past l)
decided plans past (Err x) e = tt
