-- A call of a recovery is one that the rules of the protocol let through, and its image is a record that a read may come to.
use Rattle.std.proofs.Common.{◌≡◌, ℕ, ℤ, true, List, [], ◌∷◌, Option, Some, None, refl, sym, ap, subst, ◌∙◌, arith, inl, inr, Ok, Result}
use Rattle.std.proofs.lemmas.Bool.Decides.{nat_tests}
use Rattle.law_clients.specs.Types.{Answer, Decided, Decision, How, Key, Meta, Record, RecoverPhase, RecoverStep, Reply, Request}
use Rattle.sdb_types.specs.declared.record.Reply.TheVariants as reply
use Rattle.sdb_types.specs.Contents.{CanAnswer}
use Rattle.sdb_types.proofs.Public.{some_is}
use Rattle.sdb_record.specs.declared.coordinator.Decision.TheVariants as decision
use Rattle.sdb_record.specs.Coordinator.{coordinator_key_of}
use Rattle.sdb_record.specs.Meta.{is_moment}
use Rattle.sdb_record.specs.Parts.{before_record}
use Rattle.sdb_record.specs.Rolls.{forward_record}
use Rattle.sdb_record.proofs.Public.{row-key}
use Rattle.sdb_model.specs.declared.event.Event.TheVariants as event
use Rattle.sdb_model.specs.Rows.{Name}
use Rattle.law_protocol.specs.Plan.{Plan}
use Rattle.law_protocol.specs.History.{Other, Aborts, ProtocolState, Yes, state_after_event}
use Rattle.law_protocol.specs.Lawful.{Labelled, protocol_state, IsObserved, IsPreparedObserved, IsKnownAborted, IsSettled, Forward, Back, IsEnabled, MayRoll, labelled_with}
use Rattle.sdb_phases.specs.declared.step.RecoverStep.TheVariants as steps
use Rattle.sdb_phases.specs.declared.step.RecoverPhase.TheVariants as phase
use Rattle.sdb_phases.specs.Work.{look_of, abort_of}
use Rattle.sdb_phases.specs.Recover.{recover_request_at, recover_next, recover_forward, recover_back, row_followed}
use Rattle.sdb_phases.proofs.Public.{by_expiry, by_row, by_rows_recover_rows as by_rows, no_image_of_none, no_image_of_row}
use Rattle.law_clients.specs.Reader.{recover_action, PhaseOk, IsLearnedAborted, RecoverOk}
use Rattle.law_clients.proofs.Meta.{IsFirm, forward_firm, before_firm}
use Rattle.sdb_txn.proofs.Public.{decided_at}

held : (past : List Labelled) (rec : Record) (meta : Meta) (p : RecoverPhase) → RecoverOk past rec meta p → IsPreparedObserved past meta.id.0 rec.key rec
held past rec meta p ok = record { observed = ok.observed; key = refl; held = ok.of.held; writer = ok.of.writer }

rolls : (plan : ℕ → Plan) (past : List Labelled) (rec : Record) (meta : Meta) (p : RecoverPhase) → RecoverOk past rec meta p → MayRoll plan past meta.id.0 rec.key rec meta.state
rolls plan past rec meta p ok = record { is_open = ok.of.is_open; outside = ok.outside; prepared = inl (held past rec meta p ok) }

learned : (past : List Labelled) (t : ℕ) → IsLearnedAborted past t → IsKnownAborted past t
learned past t (inl x) = inl x
learned past t (inr d) = inr (inl d)

-- Whatever call of a recovery is pending, it may play its part.
pub recover_lawful : (plan : ℕ → Plan) (past : List Labelled) (c : ℕ) (rec : Record) (meta : Meta) (p : RecoverPhase) (store : Name) (q : Request) (how : How) (r : Reply) (a : Option Answer) → RecoverOk past rec meta p → recover_request_at rec meta p ≡ Some q
    → IsEnabled plan past (event.Call c store q how r a) (recover_action rec meta p r)
recover_lawful plan past c rec meta phase.Look store q how r a ok e = subst (λ x. IsEnabled plan past (event.Call c store x how r a) Other) (some_is (look_of meta.id) q e) refl
recover_lawful plan past c rec meta phase.Again store q how r a ok e = subst (λ x. IsEnabled plan past (event.Call c store x how r a) Other) (some_is (look_of meta.id) q e) refl
recover_lawful plan past c rec meta (phase.Abort moment) store q how r a ok e = record {
  client = c;
  r = r;
  call = record { store = store; how = how; answer = a; call = ap (λ x. event.Call c store x how r a) (some_is q (abort_of meta.id moment) (sym e)) };
  word_is = refl;
  fits = ok.of.fits;
  moment_is = ok.phase;
}
recover_lawful plan past c rec meta (phase.Forward at) store q how r a ok e = record {
  client = c;
  rolled = (rec, meta.state) ∷ [];
  r = r;
  keys = refl;
  some = omega arith;
  once_each = refl;
  each = (rolls plan past rec meta (phase.Forward at) ok, tt);
  moment = at;
  known = inl ok.phase.0;
  call = record { store = store; how = how; answer = a; call = ap (λ x. event.Call c store x how r a) (some_is q (recover_forward rec meta at) (sym e)) };
}
recover_lawful plan past c rec meta phase.Back store q how r a ok e = record {
  client = c;
  rolled = rec;
  s = meta.state;
  r = r;
  roll = rolls plan past rec meta phase.Back ok;
  known = learned past meta.id.0 ok.phase;
  call = record { store = store; how = how; answer = a; call = ap (λ x. event.Call c store x how r a) (some_is q (recover_back rec meta) (sym e)) };
}
recover_lawful plan past c rec meta phase.Ended store q how r a ok e = absurd (cc)

---- it goes on knowing what it needs

later : (q : Labelled) (past : List Labelled) (rec : Record) (meta : Meta) (p n : RecoverPhase) → RecoverOk past rec meta p → PhaseOk (q ∷ past) meta n → RecoverOk (q ∷ past) rec meta n
later q past rec meta p n ok now = record { of = ok.of; unresolved = ok.unresolved; observed = inr ok.observed; outside = ok.outside; phase = now }

-- a row that is shown is followed
follows : (past : List Labelled) (meta : Meta) (row : Record) → IsObserved past row → row.key ≡ coordinator_key_of meta.id → PhaseOk past meta (row_followed meta row).0
follows past meta row observed key =
    by_row meta row (λ n. PhaseOk past meta n.0)
    (λ d says is. (record { row = row; observed = observed; key = key; says = says ∙ as_decided d decision.Committed is }, decided_at row d says))
    (λ d says is. inl (d.created_at, record { row = row; observed = observed; key = key; says = says ∙ as_decided d decision.Aborted is }))
    (λ column says. tt)
  where
    as_decided : (d : Decided) (x : Decision) → d.decision ≡ x → ◌≡◌ {A = Result Decided (List ℕ)} (Ok d) (Ok (record { decision = x; created_at = d.created_at }))
    as_decided d x is = ap (λ y. Ok (record { decision = y; created_at = d.created_at })) is

-- the pending call got that reply
can_get : (x q : Request) (r : Reply) → Some x ≡ Some q → CanAnswer q r → CanAnswer x r
can_get x q r e can = subst (λ z. CanAnswer z r) (sym (some_is x q e)) can

aborted_now : (h : ProtocolState) (t : ℕ) (m : ℤ) → (state_after_event h (Aborts t m Yes)).dead t ≡ true
aborted_now h t m = grind (arith, nat_tests)

pub phase_kept : (past : List Labelled) (c : ℕ) (rec : Record) (meta : Meta) (p : RecoverPhase) (now : ℤ) (store : Name) (q : Request) (how : How) (r : Reply) (a : Option Answer) → RecoverOk past rec meta p → recover_request_at rec meta p ≡ Some q → CanAnswer q r → is_moment now ≡ true
    → PhaseOk (labelled_with (recover_action rec meta p r) (event.Call c store q how r a) ∷ past) meta (recover_next rec meta p now r).0
phase_kept past c rec meta p now store q how r a ok e can moment =
    by_rows rec meta now (λ p r n. recover_request_at rec meta p ≡ Some q → CanAnswer q r → PhaseOk (labelled_with (recover_action rec meta p r) (event.Call c store q how r a) ∷ past) meta n.0)
    (record {
      look_row = λ row e can. follows (labelled_with (recover_action rec meta phase.Look (reply.Found (Some row))) (event.Call c store q how (reply.Found (Some row)) a) ∷ past) meta row (inl refl) (can_get (look_of meta.id) q (reply.Found (Some row)) e can);
      look_none = λ e can. by_expiry meta now (λ n. PhaseOk (labelled_with (recover_action rec meta phase.Look (reply.Found None)) (event.Call c store q how (reply.Found None) a) ∷ past) meta n.0) (λ is. moment) (λ is. tt);
      abort_applied = λ m e can. inr (aborted_now (protocol_state past) meta.id.0 m);
      abort_row = λ m row e can. follows (labelled_with (recover_action rec meta (phase.Abort m) (reply.NotMet (Some row))) (event.Call c store q how (reply.NotMet (Some row)) a) ∷ past) meta row (inl refl) ((can_get (abort_of meta.id m) q (reply.NotMet (Some row)) e can).0 ∙ row-key meta.id decision.Aborted m);
      abort_fault = λ m e can. tt;
      again_row = λ row e can. follows (labelled_with (recover_action rec meta phase.Again (reply.Found (Some row))) (event.Call c store q how (reply.Found (Some row)) a) ∷ past) meta row (inl refl) (can_get (look_of meta.id) q (reply.Found (Some row)) e can);
      again_none = λ e can. tt;
      forward = λ at r is e can. tt;
      back = λ r is e can. tt;
      fault = λ p e can. tt;
      no_memory = λ p r e can. tt;
    }) p r e can

---- the image

-- a committed record of the key to which a read may come
abbrev pub IsImageOf : List Labelled → Key → Record → Type 0
IsImageOf past k b = IsSettled past k b × IsFirm k b

forward_is : (past : List Labelled) (rec : Record) (meta : Meta) (at : ℤ) (b : Record) → RecoverOk past rec meta (phase.Forward at) → b ≡ forward_record rec at → IsImageOf past rec.key b
forward_is past rec meta at b ok e = (Forward meta.id.0 rec at (held past rec meta (phase.Forward at) ok) ok.phase.0 e, subst (IsFirm rec.key) (sym e) (forward_firm rec at ok.unresolved ok.phase.1))

back_is : (past : List Labelled) (rec : Record) (meta : Meta) (b : Record) → RecoverOk past rec meta phase.Back → before_record rec ≡ Some b → IsImageOf past rec.key b
back_is past rec meta b ok e = (Back meta.id.0 rec (held past rec meta phase.Back ok) e, before_firm rec b ok.unresolved e)

-- What a recovery gives as the image is a committed record that a read of the key may come to, or none.
pub image_settled : (past : List Labelled) (rec : Record) (meta : Meta) (p : RecoverPhase) (now : ℤ) (r : Reply) (b : Record) → RecoverOk past rec meta p → (recover_next rec meta p now r).1 ≡ steps.Image (Some b) → IsImageOf past rec.key b
image_settled past rec meta p now r b =
    by_rows rec meta now (λ p r n. RecoverOk past rec meta p → n.1 ≡ steps.Image (Some b) → IsImageOf past rec.key b)
    (record {
      look_row = λ row ok e. absurd (no_image_of_row meta row (Some b) e);
      look_none = λ ok e. absurd (no_image_of_none meta now (Some b) e);
      abort_applied = λ m ok e. absurd (cc);
      abort_row = λ m row ok e. absurd (no_image_of_row meta row (Some b) e);
      abort_fault = λ m ok e. absurd (cc);
      again_row = λ row ok e. absurd (no_image_of_row meta row (Some b) e);
      again_none = λ ok e. absurd (cc);
      forward = λ at r is ok e. forward_is past rec meta at b ok (sym (some_is (forward_record rec at) b (image_is (Some (forward_record rec at)) (Some b) e)));
      back = λ r is ok e. back_is past rec meta b ok (image_is (before_record rec) (Some b) e);
      fault = λ p ok e. absurd (cc);
      no_memory = λ p r ok e. absurd (cc);
    }) p r
  where
    image_is : (x y : Option Record) → ◌≡◌ {A = RecoverStep} (steps.Image x) (steps.Image y) → x ≡ y
    image_is x y e = cc
