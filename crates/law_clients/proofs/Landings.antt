-- A request whose call was delayed lands: all clients know what they knew.
use Rattle.std.proofs.Common.{◌≡◌, ◌⊎◌, ℕ, true, List, ◌∷◌, inl, inr, sym, subst, ◌∙◌}
use Rattle.law_clients.specs.Types.{How, Reply, Request}
use Rattle.sdb_model.specs.declared.event.Event.TheVariants as event
use Rattle.sdb_model.specs.Rows.{Name}
use Rattle.law_protocol.specs.Plan.{Plan}
use Rattle.law_protocol.specs.History as laws
use Rattle.law_protocol.specs.History.{Action, Other, ProtocolState}
use Rattle.law_protocol.specs.Lawful.{Labelled, WasDelayed, labelled_with, protocol_state}
use Rattle.law_clients.specs.System.{Has, SystemAt, SystemOk}
use Rattle.law_clients.proofs.Clients.{BeginsNone, Goes, Spares, client_later, event_goes, gate_goes}
use Rattle.law_clients.proofs.Delayed.{IsUnanswered, delayed_unanswered}
use Rattle.law_clients.proofs.Foreign.{StopsNot, landed_same}
use Rattle.law_clients.proofs.InvariantOwn.{IsPlainRole}

-- it begins, takes, ends and stops nothing
pub landed_plain : (h : ProtocolState) (r : Action) → IsUnanswered h r → IsPlainRole r
landed_plain h Other u = tt
landed_plain h (laws.Begins t c) u = absurd u
landed_plain h (laws.Takes t) u = absurd u
landed_plain h (laws.Prepares t ks word) u = tt
landed_plain h (laws.Checks t i) u = tt
landed_plain h (laws.Decides t word) u = tt
landed_plain h (laws.Aborts t n word) u = tt
landed_plain h (laws.Rolls t ks d) u = tt
landed_plain h (laws.Removes k t) u = tt
landed_plain h (laws.Ends t) u = absurd u
landed_plain h (laws.Stops c) u = tt

pub stops_none : (h : ProtocolState) (d : ℕ) (r : Action) → IsUnanswered h r → StopsNot d r
stops_none h d Other u = tt
stops_none h d (laws.Begins t c) u = tt
stops_none h d (laws.Takes t) u = tt
stops_none h d (laws.Prepares t ks word) u = tt
stops_none h d (laws.Checks t i) u = tt
stops_none h d (laws.Decides t word) u = tt
stops_none h d (laws.Aborts t n word) u = tt
stops_none h d (laws.Rolls t ks e) u = tt
stops_none h d (laws.Removes k t) u = tt
stops_none h d (laws.Ends t) u = tt
stops_none h d (laws.Stops c) u = absurd u

begins_none : (r : Action) → IsPlainRole r → BeginsNone r
begins_none Other p = tt
begins_none (laws.Begins t c) p = absurd p
begins_none (laws.Takes t) p = tt
begins_none (laws.Prepares t ks word) p = tt
begins_none (laws.Checks t i) p = tt
begins_none (laws.Decides t word) p = tt
begins_none (laws.Aborts t n word) p = tt
begins_none (laws.Rolls t ks e) p = tt
begins_none (laws.Removes k t) p = tt
begins_none (laws.Ends t) p = tt
begins_none (laws.Stops c) p = tt

pub land_turn : (plan : ℕ → Plan) (past : List Labelled) (sys : SystemAt) (number : ℕ) (store : Name) (q : Request) (how : How) (r : Reply) (action : Action) → SystemOk plan past sys → WasDelayed past q action → SystemOk plan (labelled_with action (event.Land number store q how r) ∷ past) sys
land_turn plan past sys number store q how r action ok was = record {
  lawful = (ok.lawful, was, λ a. absurd (cc (a)), λ a executed. absurd (cc (executed)));
  each = λ d. client_later plan past d one (sys.clients d) (spares d) (ok.each d);
  opened = λ u o. subst (λ d. ((protocol_state (one ∷ past)).stopped d ≡ true) ⊎ Has (sys.clients d) u) (sym (go.owner u)) (later u (ok.opened u (go.is_open u o)));
  gate = λ d s. gate_goes (protocol_state past) (protocol_state (one ∷ past)) go (ok.gate d s);
  ids = λ u b. let i = ok.ids u (λ e. b (go.begun u ∙ e)) in record { ordinal = i.ordinal; most = i.most; owner = go.owner u ∙ i.owner };
}
  where
    one : Labelled
    one = labelled_with action (event.Land number store q how r)

    late : IsUnanswered (protocol_state past) action
    late = delayed_unanswered plan past q action ok.lawful was

    spares : (d : ℕ) → Spares past d (sys.clients d) one
    spares d = record { parts = λ t h. landed_same t d (protocol_state past) action late; goes_on = stops_none (protocol_state past) d action late }

    go : Goes (protocol_state past) (protocol_state (one ∷ past))
    go = event_goes past one (begins_none action (landed_plain (protocol_state past) action late))

    later : (u : ℕ) → (((protocol_state past).stopped ((protocol_state past).owner u) ≡ true) ⊎ Has (sys.clients ((protocol_state past).owner u)) u) → ((protocol_state (one ∷ past)).stopped ((protocol_state past).owner u) ≡ true) ⊎ Has (sys.clients ((protocol_state past).owner u)) u
    later u (inl s) = inl (go.stopped ((protocol_state past).owner u) s)
    later u (inr h) = inr h
