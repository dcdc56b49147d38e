-- What is known of a transaction, and what it has prepared, as the tests tell them; and what a lawful list has checked before.
use Rattle.std.proofs.Common.{◌≡◌, ℕ, Bool, true, false, List, [], ◌∷◌, ◌++◌, Option, Some, None, inl, inr, refl, sym, ap, subst, ◌∙◌}
use Rattle.std.specs.Prelude.{ℤ, ◌&&◌, ◌||◌, ◌==◌, not, if◌then◌else◌}
use Rattle.std.specs.Option.{option_map}
use Rattle.check_protocol.specs.Types.{Key, Record, Write}
use Rattle.sdb_record.specs.Coordinator.{coordinator_key_of}
use Rattle.sdb_record.specs.Rolls.{IsWrite, prepared_record}
use Rattle.law_protocol.specs.Plan.{write_at}
use Rattle.law_protocol.specs.Lawful.{id, protocol_state, IsKnownCommitted, IsKnownAborted, prepared_at, IsLawful, IsEnabled}
use Rattle.check_protocol.specs.declared.plan.Plan.{Plan}
use Rattle.check_protocol.specs.declared.labelled.Action.{Action}
use Rattle.check_protocol.specs.declared.labelled.Action.TheVariants as action
use Rattle.check_protocol.specs.declared.labelled.Labelled.{Labelled}
use Rattle.check_protocol.specs.Values.{all_labelled, action_of, plan_in, writes_in, moment_in}
use Rattle.check_protocol.specs.Started.{is_take_of, is_prepare_of, commit_started_in, asked_in, risked_in, won_in, dead_in, met_in}
use Rattle.check_protocol.specs.Observed.{observed, moments, observes_commit, observes_abort}
use Rattle.check_protocol.specs.Rules.{is_sound, is_known_committed, is_known_aborted, prepared_by, own, with_own, has_own_moment, known_moments}
use Rattle.law_protocol.proofs.Public.{occurs_by}
use Rattle.check_protocol.proofs.LateLaws.{delayed_before}
use Rattle.check_protocol.proofs.Lists.{none_some, right, or_left, not_true, true_not, In}
use Rattle.check_protocol.proofs.StateLaws.{taken_is, asked_is, won_is, dead_is, met_is, risked_is}
use Rattle.check_protocol.proofs.ObservedLaws.{in_more, more_in, last_in, number_is, commit_shown, shows_commit_of, abort_shown, shows_abort_of, moment_shown, shown_moment}
use Rattle.check_protocol.proofs.PlanLaws.{is_sound_of, write_is}
use Rattle.sdb_types.proofs.Public.{and_both as both, and_first as left, clash, either, or_second as or_right, some_is}
use Rattle.sdb_types.specs.Order.{has_key}
use Rattle.sdb_record.specs.Among.{write_among}

---- decisions that are known

pub known_is : (past : List Labelled) (plans : List Plan) (t : ℕ) → is_known_committed (observed past) past t ≡ true → (m : ℤ) × IsKnownCommitted (plan_in plans) (all_labelled past) t m
known_is past plans t h = elim (either (won_in past t) (observes_commit (observed past) (coordinator_key_of (id t))) h) [
  | inl w ↦ (moment_in plans t, inr (inl (won_is past t ∙ w, refl)))
  | inr s ↦ let r = commit_shown past t s in (r.0, inl r.1)
]

pub is_known : (past : List Labelled) (plans : List Plan) (t : ℕ) (m : ℤ) → IsKnownCommitted (plan_in plans) (all_labelled past) t m → is_known_committed (observed past) past t ≡ true
is_known past plans t m (inl r) = or_right (won_in past t) (observes_commit (observed past) (coordinator_key_of (id t))) (shows_commit_of past t m r)
is_known past plans t m (inr (inl w)) = or_left (won_in past t) (observes_commit (observed past) (coordinator_key_of (id t))) (sym (won_is past t) ∙ w.0)
is_known past plans t m (inr (inr o)) = or_right (won_in past t) (observes_commit (observed past) (coordinator_key_of (id t))) (shows_commit_of past t o.1.0 o.1.1)

pub moment_known : (past : List Labelled) (plans : List Plan) (t : ℕ) (m : ℤ) → In (known_moments (observed past) past plans t) m → IsKnownCommitted (plan_in plans) (all_labelled past) t m
unfolding has_own_moment
moment_known past plans t m i = by (has_own_moment (observed past) past t) refl i
  where
    own : has_own_moment (observed past) past t ≡ true → m ≡ moment_in plans t → IsKnownCommitted (plan_in plans) (all_labelled past) t m
    own e same = elim (either (won_in past t) (commit_started_in past t && observes_commit (observed past) (coordinator_key_of (id t))) e) [
      | inl w ↦ inr (inl (won_is past t ∙ w, same))
      | inr s ↦ inr (inr (taken_is past t ∙ left (commit_started_in past t) (observes_commit (observed past) (coordinator_key_of (id t))) s, commit_shown past t (right (commit_started_in past t) (observes_commit (observed past) (coordinator_key_of (id t))) s), same))
    ]

    by : (b : Bool) → has_own_moment (observed past) past t ≡ b → In (with_own b (moment_in plans t) (moments (observed past) (coordinator_key_of (id t)))) m → IsKnownCommitted (plan_in plans) (all_labelled past) t m
    by true e i = elim (in_more (moments (observed past) (coordinator_key_of (id t))) (moment_in plans t) m i) [ inl r ↦ inl (moment_shown past t m r) | inr same ↦ own e same ]
    by false e i = inl (moment_shown past t m i)

own_in : (past : List Labelled) (plans : List Plan) (t : ℕ) (m : ℤ) → has_own_moment (observed past) past t ≡ true → m ≡ moment_in plans t → In (known_moments (observed past) past plans t) m
own_in past plans t m has same =
    subst (λ b. In (with_own b (moment_in plans t) (moments (observed past) (coordinator_key_of (id t)))) m) (sym has)
    (subst (λ x. In (moments (observed past) (coordinator_key_of (id t)) ++ moment_in plans t ∷ []) x) (sym same) (last_in (moments (observed past) (coordinator_key_of (id t))) (moment_in plans t)))

pub known_moment : (past : List Labelled) (plans : List Plan) (t : ℕ) (m : ℤ) → IsKnownCommitted (plan_in plans) (all_labelled past) t m → In (known_moments (observed past) past plans t) m
unfolding has_own_moment
known_moment past plans t m (inl r) = by (has_own_moment (observed past) past t) (shown_moment past t m r)
  where
    by : (b : Bool) → In (moments (observed past) (coordinator_key_of (id t))) m → In (with_own b (moment_in plans t) (moments (observed past) (coordinator_key_of (id t)))) m
    by true i = more_in (moments (observed past) (coordinator_key_of (id t))) (moment_in plans t) m i
    by false i = i
known_moment past plans t m (inr (inl w)) = own_in past plans t m (or_left (won_in past t) (commit_started_in past t && observes_commit (observed past) (coordinator_key_of (id t))) (sym (won_is past t) ∙ w.0)) w.1
known_moment past plans t m (inr (inr o)) =
    own_in past plans t m (or_right (won_in past t) (commit_started_in past t && observes_commit (observed past) (coordinator_key_of (id t))) (both (commit_started_in past t) (observes_commit (observed past) (coordinator_key_of (id t))) (sym (taken_is past t) ∙ o.0) (shows_commit_of past t o.1.0 o.1.1))) o.2

pub aborted_is : (past : List Labelled) (t : ℕ) → is_known_aborted (observed past) past t ≡ true → IsKnownAborted (all_labelled past) t
aborted_is past t h =
    let lost = met_in past t && not (risked_in past t) in
    elim (either (dead_in past t || lost) (observes_abort (observed past) (coordinator_key_of (id t))) h) [
      | inr s ↦ inl (abort_shown past t s)
      | inl a ↦ elim (either (dead_in past t) lost a) [
        | inl d ↦ inr (inl (dead_is past t ∙ d))
        | inr l ↦ inr (inr (met_is past t ∙ left (met_in past t) (not (risked_in past t)) l, risked_is past t ∙ not_true (risked_in past t) (right (met_in past t) (not (risked_in past t)) l)))
      ]
    ]

pub is_aborted : (past : List Labelled) (t : ℕ) → IsKnownAborted (all_labelled past) t → is_known_aborted (observed past) past t ≡ true
is_aborted past t (inl r) = or_right (dead_in past t || (met_in past t && not (risked_in past t))) (observes_abort (observed past) (coordinator_key_of (id t))) (shows_abort_of past t r.0 r.1)
is_aborted past t (inr (inl d)) =
    or_left (dead_in past t || (met_in past t && not (risked_in past t))) (observes_abort (observed past) (coordinator_key_of (id t))) (or_left (dead_in past t) (met_in past t && not (risked_in past t)) (sym (dead_is past t) ∙ d))
is_aborted past t (inr (inr l)) =
    or_left (dead_in past t || (met_in past t && not (risked_in past t))) (observes_abort (observed past) (coordinator_key_of (id t)))
    (or_right (dead_in past t) (met_in past t && not (risked_in past t)) (both (met_in past t) (not (risked_in past t)) (sym (met_is past t) ∙ l.0) (true_not (risked_in past t) (sym (risked_is past t) ∙ l.1))))

---- what it has prepared itself

pub own_is : (past : List Labelled) (plans : List Plan) (t : ℕ) (k : Key) (r : Record) → own past plans t k ≡ Some r → ((protocol_state (all_labelled past)).asked t k ≡ true) × (prepared_at (plan_in plans) t k ≡ Some r)
own_is past plans t k r h = by (asked_in past t k) refl h
  where
    of_sound : (w : Write) (b : Bool) → (if b then Some (prepared_record w (id t) (moment_in plans t)) else None) ≡ Some r → prepared_record w (id t) (moment_in plans t) ≡ r
    of_sound w true e = some_is (prepared_record w (id t) (moment_in plans t)) r e
    of_sound w false e = none_some e

    of_write : (o : Option Write) → prepared_by t (moment_in plans t) o ≡ Some r → option_map (λ w. prepared_record w (id t) (moment_in plans t)) o ≡ Some r
    of_write None e = none_some e
    of_write (Some w) e = ap Some (of_sound w (is_sound w) e)

    by : (b : Bool) → asked_in past t k ≡ b → (if b then prepared_by t (moment_in plans t) (write_among (writes_in plans t) k) else None) ≡ Some r → ((protocol_state (all_labelled past)).asked t k ≡ true) × (prepared_at (plan_in plans) t k ≡ Some r)
    by true e f = (asked_is past t k ∙ e, ap (option_map (λ w. prepared_record w (id t) (moment_in plans t))) (write_is plans t k) ∙ of_write (write_among (writes_in plans t) k) f)
    by false e f = none_some f

pub is_own : (past : List Labelled) (plans : List Plan) (t : ℕ) (k : Key) (r : Record) → ((w : Write) → write_at (plan_in plans t) k ≡ Some w → IsWrite w) → (protocol_state (all_labelled past)).asked t k ≡ true → prepared_at (plan_in plans) t k ≡ Some r → own past plans t k ≡ Some r
is_own past plans t k r sound asked there =
    ap (λ b. if b then prepared_by t (moment_in plans t) (write_among (writes_in plans t) k) else None) (sym (asked_is past t k) ∙ asked)
    ∙ of_write (write_among (writes_in plans t) k) (write_is plans t k) (sym (ap (option_map (λ w. prepared_record w (id t) (moment_in plans t))) (write_is plans t k)) ∙ there)
  where
    of_write : (o : Option Write) → write_at (plan_in plans t) k ≡ o → option_map (λ w. prepared_record w (id t) (moment_in plans t)) o ≡ Some r → prepared_by t (moment_in plans t) o ≡ Some r
    of_write None e f = f
    of_write (Some w) e f = ap (λ b. if b then Some (prepared_record w (id t) (moment_in plans t)) else None) (is_sound_of w (sound w e)) ∙ f

---- what a lawful list has checked

-- A COMMIT that was accepted has writes of the form of records.
take_sound : (plans : List Plan) (past : List Labelled) (p : Labelled) (t : ℕ) → IsEnabled (plan_in plans) (all_labelled past) p.event (action_of p.action) → is_take_of t p.action ≡ true → (k : Key) (w : Write) → write_at (plan_in plans t) k ≡ Some w → IsWrite w
take_sound plans past p t m h k w at = by p.action m h
  where
    by : (r : Action) → IsEnabled (plan_in plans) (all_labelled past) p.event (action_of r) → is_take_of t r ≡ true → IsWrite w
    by (action.Takes u) m h = (m.writes k w (ap (λ x. write_at (plan_in plans x) k) (sym (number_is t u.0 h)) ∙ at)).0
    by _ m h = clash (sym h)

pub lawful_sound : (plans : List Plan) (past : List Labelled) (t : ℕ) → IsLawful (plan_in plans) (all_labelled past) → commit_started_in past t ≡ true → (k : Key) (w : Write) → write_at (plan_in plans t) k ≡ Some w → IsWrite w
lawful_sound plans [] t l h k w at = clash (sym h)
lawful_sound plans (p ∷ past) t l h k w at = elim (either (is_take_of t p.action) (commit_started_in past t) h) [
  | inl e ↦ elim (occurs_by (plan_in plans) (all_labelled past) p.event (action_of p.action) l.1) [
    | inl m ↦ take_sound plans past p t m e k w at
    | inr d ↦ lawful_sound plans past t l.0 (delayed_before (is_take_of t) past d.request p.action d.was e) k w at
  ]
  | inr e ↦ lawful_sound plans past t l.0 e k w at
]

ask_taken : (plans : List Plan) (past : List Labelled) (p : Labelled) (t : ℕ) (k : Key) → IsEnabled (plan_in plans) (all_labelled past) p.event (action_of p.action) → is_prepare_of t k p.action ≡ true → commit_started_in past t ≡ true
ask_taken plans past p t k m h = by p.action m h
  where
    by : (r : Action) → IsEnabled (plan_in plans) (all_labelled past) p.event (action_of r) → is_prepare_of t k r ≡ true → commit_started_in past t ≡ true
    by (action.Prepares u ks w) m h = subst (λ x. commit_started_in past x ≡ true) (sym (number_is t u.0 (left (t == u.0) (has_key ks k) h))) (sym (taken_is past u.0) ∙ m.within.accepted)
    by _ m h = clash (sym h)

pub lawful_asked : (plans : List Plan) (past : List Labelled) (t : ℕ) (k : Key) → IsLawful (plan_in plans) (all_labelled past) → asked_in past t k ≡ true → commit_started_in past t ≡ true
lawful_asked plans [] t k l h = clash (sym h)
lawful_asked plans (p ∷ past) t k l h = or_right (is_take_of t p.action) (commit_started_in past t) (elim (either (is_prepare_of t k p.action) (asked_in past t k) h) [
  | inl e ↦ elim (occurs_by (plan_in plans) (all_labelled past) p.event (action_of p.action) l.1) [
    | inl m ↦ ask_taken plans past p t k m e
    | inr d ↦ lawful_asked plans past t k l.0 (delayed_before (is_prepare_of t k) past d.request p.action d.was e)
  ]
  | inr e ↦ lawful_asked plans past t k l.0 e
])
