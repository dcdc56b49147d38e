-- The test of a call that was delayed decides its rule; and which events may occur.
use Rattle.std.proofs.Common.{◌≡◌, ℕ, Bool, true, List, [], ◌∷◌, inl, inr, refl, sym, ap, ◌∙◌, Option}
use Rattle.std.specs.Prelude.{◌&&◌, ◌==◌}
use Rattle.std.specs.Cmp.{first_so, second_so, signed_Decides, unsigned_Decides}
use Rattle.std.specs.Cmp.Lexicographic.{pointwise, pointwise_decides}
use Rattle.std.specs.List.{list_any}
use Rattle.std.specs.Ordering.{int_eq}
use Rattle.check_protocol.specs.Types.{Answer, Event, Request, TxId}
use Rattle.sdb_types.specs.Exactness.{IsExact, id_is_exact, key_is_exact}
use Rattle.sdb_types.specs.contracts.key.KeyPartialEq.TheImpl as key_eq
use Rattle.sdb_types.specs.contracts.txid.TxIdPartialEq.TheImpl as id_eq
use Rattle.sdb_types.specs.declared.record.Reply.TheVariants as reply
use Rattle.sdb_types.proofs.Public.{and_both as both, and_first as left, clash, either, or_second as or_right}
use Rattle.sdb_record.specs.contracts.coordinator.DecisionPartialEq.TheImpl as decision_eq
use Rattle.sdb_record.specs.declared.coordinator.Decision.TheVariants as decision
use Rattle.sdb_model.specs.Rows.{Name}
use Rattle.sdb_model.specs.declared.event.Event.TheVariants as event
use Rattle.sdb_model.specs.declared.event.How.TheVariants.{Delayed}
use Rattle.law_protocol.specs.Lawful.{WasDelayed}
use Rattle.check_protocol.specs.contracts.labelled.AckPartialEq.TheImpl as ack_eq
use Rattle.check_protocol.specs.contracts.labelled.ActionPartialEq.TheImpl as action_eq
use Rattle.check_protocol.specs.declared.labelled.Ack.{Ack}
use Rattle.check_protocol.specs.declared.labelled.Ack.TheVariants as ack
use Rattle.check_protocol.specs.declared.labelled.Action.{Action}
use Rattle.check_protocol.specs.declared.labelled.Action.TheVariants as action
use Rattle.check_protocol.specs.declared.labelled.Labelled.{Labelled}
use Rattle.check_protocol.specs.Values.{ack_of, action_of, all_labelled}
use Rattle.check_protocol.specs.Rules.{delays, same_action, was_delayed}
use Rattle.check_protocol.proofs.Lists.{right, or_left}
use Rattle.check_protocol.proofs.Requests.{request_is, is_request}

---- actions that are the same in the law

id_of : (t u : TxId) → t.0 ≡ u.0 → t ≡ u
id_of t u e i = record { 0 = e i }

ack_is_one : (v w : Ack) → ack_of v ≡ ack_of w → v ≡ w
ack_is_one ack.Yes ack.Yes e = refl
ack_is_one ack.No ack.No e = refl
ack_is_one ack.NoAck ack.NoAck e = refl
ack_is_one ack.OutOfMemory ack.OutOfMemory e = refl
ack_is_one v w e = absurd (cc)

pub action_is_one : (a b : Action) → action_of a ≡ action_of b → a ≡ b
action_is_one action.Other action.Other e = refl
action_is_one (action.Begins t c) (action.Begins u d) e = let id : t.0 ≡ u.0 = cc in let client : c ≡ d = cc in λ i. action.Begins (id_of t u id i) (client i)
action_is_one (action.Takes t) (action.Takes u) e = let id : t.0 ≡ u.0 = cc in λ i. action.Takes (id_of t u id i)
action_is_one (action.Prepares t ks v) (action.Prepares u qs w) e = let id : t.0 ≡ u.0 = cc in let keys : ks ≡ qs = cc in let acked : ack_of v ≡ ack_of w = cc in λ i. action.Prepares (id_of t u id i) (keys i) (ack_is_one v w acked i)
action_is_one (action.Checks t n) (action.Checks u m) e = let id : t.0 ≡ u.0 = cc in let item : n ≡ m = cc in λ i. action.Checks (id_of t u id i) (item i)
action_is_one (action.Decides t v) (action.Decides u w) e = let id : t.0 ≡ u.0 = cc in let acked : ack_of v ≡ ack_of w = cc in λ i. action.Decides (id_of t u id i) (ack_is_one v w acked i)
action_is_one (action.Aborts t m v) (action.Aborts u n w) e = let id : t.0 ≡ u.0 = cc in let moment : m ≡ n = cc in let acked : ack_of v ≡ ack_of w = cc in λ i. action.Aborts (id_of t u id i) (moment i) (ack_is_one v w acked i)
action_is_one (action.Rolls t ks d) (action.Rolls u qs f) e = let id : t.0 ≡ u.0 = cc in let keys : ks ≡ qs = cc in let way : d ≡ f = cc in λ i. action.Rolls (id_of t u id i) (keys i) (way i)
action_is_one (action.Removes k t) (action.Removes q u) e = let id : t.0 ≡ u.0 = cc in let key : k ≡ q = cc in λ i. action.Removes (key i) (id_of t u id i)
action_is_one (action.Ends t) (action.Ends u) e = let id : t.0 ≡ u.0 = cc in λ i. action.Ends (id_of t u id i)
action_is_one (action.Stops c) (action.Stops d) e = let client : c ≡ d = cc in ap action.Stops client
action_is_one a b e = absurd (cc)

---- the test of actions

keys_are_exact : IsExact (pointwise (key_eq.ghosts).eq)
keys_are_exact = pointwise_decides key_is_exact

ack_is_exact : IsExact (ack_eq.ghosts).eq
ack_is_exact ack.Yes ack.Yes = (λ h. refl, λ e. refl)
ack_is_exact ack.No ack.No = (λ h. refl, λ e. refl)
ack_is_exact ack.NoAck ack.NoAck = (λ h. refl, λ e. refl)
ack_is_exact ack.OutOfMemory ack.OutOfMemory = (λ h. refl, λ e. refl)
ack_is_exact v w = (λ h. cc, λ e. cc)

decision_is_exact : IsExact (decision_eq.ghosts).eq
decision_is_exact decision.Committed decision.Committed = (λ h. refl, λ e. refl)
decision_is_exact decision.Aborted decision.Aborted = (λ h. refl, λ e. refl)
decision_is_exact d e = (λ h. cc, λ e. cc)

action_is_exact : IsExact (action_eq.ghosts).eq
action_is_exact action.Other action.Other = (λ h. refl, λ e. refl)
action_is_exact (action.Begins t c) (action.Begins u d) =
    let x = (id_eq.ghosts).eq t u in
    let y = c == d in
    (λ h i. action.Begins ((id_is_exact t u).0 (first_so x y h) i) ((unsigned_Decides c d).0 (second_so x y h) i), λ e. both x y ((id_is_exact t u).1 (cc)) ((unsigned_Decides c d).1 (cc)))
action_is_exact (action.Takes t) (action.Takes u) = (λ h. ap action.Takes ((id_is_exact t u).0 h), λ e. (id_is_exact t u).1 (cc))
action_is_exact (action.Prepares t ks v) (action.Prepares u qs w) =
    let x = (id_eq.ghosts).eq t u in
    let y = pointwise (key_eq.ghosts).eq ks qs in
    let z = (ack_eq.ghosts).eq v w in (
      λ h i. action.Prepares ((id_is_exact t u).0 (first_so x (y && z) h) i) ((keys_are_exact ks qs).0 (first_so y z (second_so x (y && z) h)) i) ((ack_is_exact v w).0 (second_so y z (second_so x (y && z) h)) i),
      λ e. both x (y && z) ((id_is_exact t u).1 (cc)) (both y z ((keys_are_exact ks qs).1 (cc)) ((ack_is_exact v w).1 (cc))),
    )
action_is_exact (action.Checks t n) (action.Checks u m) =
    let x = (id_eq.ghosts).eq t u in
    let y = n == m in
    (λ h i. action.Checks ((id_is_exact t u).0 (first_so x y h) i) ((unsigned_Decides n m).0 (second_so x y h) i), λ e. both x y ((id_is_exact t u).1 (cc)) ((unsigned_Decides n m).1 (cc)))
action_is_exact (action.Decides t v) (action.Decides u w) =
    let x = (id_eq.ghosts).eq t u in
    let y = (ack_eq.ghosts).eq v w in
    (λ h i. action.Decides ((id_is_exact t u).0 (first_so x y h) i) ((ack_is_exact v w).0 (second_so x y h) i), λ e. both x y ((id_is_exact t u).1 (cc)) ((ack_is_exact v w).1 (cc)))
action_is_exact (action.Aborts t m v) (action.Aborts u n w) =
    let x = (id_eq.ghosts).eq t u in
    let y = int_eq m n in
    let z = (ack_eq.ghosts).eq v w in (
      λ h i. action.Aborts ((id_is_exact t u).0 (first_so x (y && z) h) i) ((signed_Decides m n).0 (first_so y z (second_so x (y && z) h)) i) ((ack_is_exact v w).0 (second_so y z (second_so x (y && z) h)) i),
      λ e. both x (y && z) ((id_is_exact t u).1 (cc)) (both y z ((signed_Decides m n).1 (cc)) ((ack_is_exact v w).1 (cc))),
    )
action_is_exact (action.Rolls t ks d) (action.Rolls u qs f) =
    let x = (id_eq.ghosts).eq t u in
    let y = pointwise (key_eq.ghosts).eq ks qs in
    let z = (decision_eq.ghosts).eq d f in (
      λ h i. action.Rolls ((id_is_exact t u).0 (first_so x (y && z) h) i) ((keys_are_exact ks qs).0 (first_so y z (second_so x (y && z) h)) i) ((decision_is_exact d f).0 (second_so y z (second_so x (y && z) h)) i),
      λ e. both x (y && z) ((id_is_exact t u).1 (cc)) (both y z ((keys_are_exact ks qs).1 (cc)) ((decision_is_exact d f).1 (cc))),
    )
action_is_exact (action.Removes k t) (action.Removes q u) =
    let x = (key_eq.ghosts).eq k q in
    let y = (id_eq.ghosts).eq t u in
    (λ h i. action.Removes ((key_is_exact k q).0 (first_so x y h) i) ((id_is_exact t u).0 (second_so x y h) i), λ e. both x y ((key_is_exact k q).1 (cc)) ((id_is_exact t u).1 (cc)))
action_is_exact (action.Ends t) (action.Ends u) = (λ h. ap action.Ends ((id_is_exact t u).0 h), λ e. (id_is_exact t u).1 (cc))
action_is_exact (action.Stops c) (action.Stops d) = (λ h. ap action.Stops ((unsigned_Decides c d).0 h), λ e. (unsigned_Decides c d).1 (cc))
action_is_exact a b = (λ h. cc, λ e. cc)

same_is : (a b : Action) → same_action a b ≡ true → action_of a ≡ action_of b
unfolding same_action
same_is a b h = ap action_of ((action_is_exact a b).0 h)

is_same : (a b : Action) → action_of a ≡ action_of b → same_action a b ≡ true
unfolding same_action
is_same a b e = (action_is_exact a b).1 (action_is_one a b e)

---- a call that was delayed

-- an event is a call of a request that was delayed
record IsDelayedCall (q : Request) (e : Event) : Type 0 where
  pub client : ℕ
  pub store : Name
  pub answer : Option Answer
  pub call : e ≡ event.Call client store q Delayed reply.Fault answer

call_delayed : (q : Request) (e : Event) → delays q e ≡ true → IsDelayedCall q e
call_delayed q (event.Call client store asked Delayed reply.Fault answer) h = record { client = client; store = store; answer = answer; call = ap (λ x. event.Call client store x Delayed reply.Fault answer) (request_is asked q h) }
call_delayed q e h = clash (sym h)

pub delayed_is : (past : List Labelled) (q : Request) (a : Action) → was_delayed past q a ≡ true → WasDelayed (all_labelled past) q (action_of a)
delayed_is [] q a h = clash (sym h)
delayed_is (p ∷ past) q a h = elim (either (delays q p.event && same_action p.action a) (was_delayed past q a) h) [
  | inl e ↦ let call = call_delayed q p.event (left (delays q p.event) (same_action p.action a) e) in
      inl (record { client = call.client; store = call.store; answer = call.answer; call = call.call; action_is = same_is p.action a (right (delays q p.event) (same_action p.action a) e) })
  | inr e ↦ inr (delayed_is past q a e)
]

pub is_delayed : (past : List Labelled) (q : Request) (a : Action) → WasDelayed (all_labelled past) q (action_of a) → was_delayed past q a ≡ true
is_delayed [] q a w = absurd w
is_delayed (p ∷ past) q a (inl d) =
    or_left (delays q p.event && same_action p.action a) (was_delayed past q a)
    (both (delays q p.event) (same_action p.action a) (ap (delays q) d.call ∙ is_request q q refl) (is_same p.action a d.action_is))
is_delayed (p ∷ past) q a (inr w) = or_right (delays q p.event && same_action p.action a) (was_delayed past q a) (is_delayed past q a w)

-- what its action is, the action of an event before is
pub delayed_before : (f : Action → Bool) (past : List Labelled) (q : Request) (a : Action) → WasDelayed (all_labelled past) q (action_of a) → f a ≡ true → list_any (λ p. f p.action) past ≡ true
delayed_before f [] q a w h = absurd w
delayed_before f (p ∷ past) q a (inl d) h = or_left (f p.action) (list_any (λ x. f x.action) past) (ap f (action_is_one p.action a d.action_is) ∙ h)
delayed_before f (p ∷ past) q a (inr w) h = or_right (f p.action) (list_any (λ x. f x.action) past) (delayed_before f past q a w h)
