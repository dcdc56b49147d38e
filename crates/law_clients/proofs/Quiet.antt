-- Turns that play no part: statements accepted and answered, moves of the clock, idle steps; and moves without an event.
use Rattle.std.proofs.Common.{◌≡◌, ℕ, true, false, List, ◌∷◌, refl, sym, ap, subst, ◌∙◌, ◌⊎◌, inl, inr}
use Rattle.law_clients.specs.Types.{Access, Event, Keyed, Record, Span, TxId}
use Rattle.sdb_record.specs.declared.access.Access.TheVariants as access
use Rattle.sdb_model.specs.declared.event.Event.TheVariants as event
use Rattle.law_protocol.specs.Plan.{Plan}
use Rattle.law_protocol.specs.History.{Other, Stops, ProtocolState, state_after_event}
use Rattle.law_protocol.specs.Lawful.{Labelled, MayOccur, is_quiet, protocol_state, labelled_with, ends_with}
use Rattle.sdb_snapshot.specs.Seen.{Seen, with_written}
use Rattle.sdb_snapshot.specs.Written.{AreChanges}
use Rattle.law_clients.specs.Reads.{OpenOk, SeenOk, with_read, MayRecord}
use Rattle.law_clients.specs.ReadAt.{ReadAt, Asking, Done, IsOfData, ReadOk}
use Rattle.law_clients.specs.Vacuum.{VacuumModel, Scanning}
use Rattle.law_clients.specs.System.{ClientAt, Resting, Open, Reading, Committing, RunsVacuum, Stopped, ClientOk, Has, has_open, is_in_vacuum, Gate, SystemAt, SystemOk, with_client, IsBy, IsInState, IsQuiet, NoneOpen}
use Rattle.law_clients.proofs.Clients.{turned, moved, Spares, client_later}
use Rattle.law_clients.proofs.Commit.{no_start, not_open}
use Rattle.law_clients.proofs.Foreign.{event_same}
use Rattle.law_clients.proofs.Seen.{read_noted, write_kept}
use Rattle.sdb_types.proofs.Public.{clash as apart_bools, some_is}

---- events without a part

quiet_spares : (past : List Labelled) (d : ℕ) (x : ClientAt) (e : Event) → Spares past d x (labelled_with Other e)
quiet_spares past d x e = record { parts = λ t h. event_same t d past (labelled_with Other e) (record { part = tt; ends = λ u n. absurd (cc (n)) }); goes_on = tt }

quiet_occurs : (plan : ℕ → Plan) (past : List Labelled) (e : Event) → is_quiet e ≡ true → MayOccur plan past e Other
quiet_occurs plan past (event.Take d text answered) q = q
quiet_occurs plan past (event.Call d store ask how r answered) q = q
quiet_occurs plan past (event.Stop d) q = q
quiet_occurs plan past (event.Clock moment) q = q
quiet_occurs plan past (event.Idle d) q = q
quiet_occurs plan past (event.Alter table column kind altered) q = q
quiet_occurs plan past (event.Land number store ask how r) q = apart_bools (sym q)

pub quiet_turn : (plan : ℕ → Plan) (past : List Labelled) (sys : SystemAt) (e : Event) → SystemOk plan past sys → IsQuiet e → SystemOk plan (labelled_with Other e ∷ past) sys
quiet_turn plan past sys e ok quiet = record {
  lawful = (ok.lawful, quiet_occurs plan past e quiet.quiet, λ a. absurd (quiet.other a), λ a executed denial u ends accepted. absurd (cc (ends)));
  each = λ d. client_later plan past d (labelled_with Other e) (sys.clients d) (quiet_spares past d (sys.clients d) e) (ok.each d);
  opened = ok.opened;
  gate = ok.gate;
  ids = λ u b. let i = ok.ids u b in record { ordinal = i.ordinal; most = i.most; owner = i.owner };
}

-- An answer that isn't Committed ends a transaction whose COMMIT was not accepted.
pub leave_turn : (plan : ℕ → Plan) (past : List Labelled) (sys : SystemAt) (c : ℕ) (id : TxId) (seen : Seen) (e : Event) → IsInState plan past sys c (Open id seen) → IsBy c e → IsQuiet e
    → SystemOk plan (ends_with id.0 Other e ∷ past) (with_client sys c Resting)
leave_turn plan past sys c id seen e agrees by quiet = turned plan past sys c (ends_with id.0 Other e) Resting agrees.ok (record {
  by = by;
  may = quiet.quiet;
  ends = λ u n. subst (λ t. (protocol_state past).owner t ≡ c) (some_is id.0 u n) here.0.owner;
  begins = tt;
  is_known = λ a. absurd (quiet.other a);
  denies = λ a executed denial u n accepted. absurd (clash (sym accepted ∙ ap (protocol_state past).accepted (sym (some_is id.0 u n)) ∙ here.0.fresh));
  knows = here.0.goes_on;
  holds = λ u h o. absurd (not_open (protocol_state past) Other id.0 u (subst (λ x. Has x u) agrees.at h) o);
  starts = no_start Resting refl;
})
  where
    clash : true ≡ false → ⊥
    clash e = cc

    here : OpenOk (protocol_state past) c id.0 × SeenOk past seen
    here = subst (ClientOk plan past c) agrees.at (agrees.ok.each c)

pub stop_turn : (plan : ℕ → Plan) (past : List Labelled) (sys : SystemAt) (c : ℕ) → SystemOk plan past sys → SystemOk plan (labelled_with (Stops c) (event.Stop c) ∷ past) (with_client sys c Stopped)
stop_turn plan past sys c ok = turned plan past sys c (labelled_with (Stops c) (event.Stop c)) Stopped ok (record {
  by = refl;
  may = refl;
  ends = λ u n. absurd (cc (n));
  begins = tt;
  is_known = λ a. absurd (cc (a));
  denies = λ a executed. absurd (cc (executed));
  knows = stopped (protocol_state past) c;
  holds = λ u h o. inl (stopped (protocol_state past) c);
  starts = no_start Stopped refl;
})
  where
    stopped : (h : ProtocolState) (c : ℕ) → (state_after_event h (Stops c)).stopped c ≡ true
    stopped h c = grind (Rattle.std.proofs.Common.arith, Rattle.std.proofs.lemmas.Bool.Decides.nat_tests)

---- moves without an event

no_gate : (h : ProtocolState) (x : ClientAt) → is_in_vacuum x ≡ false → is_in_vacuum x ≡ true → Gate h
no_gate h x f t = no_start x f t

pub asks : (plan : ℕ → Plan) (past : List Labelled) (sys : SystemAt) (c : ℕ) (id : TxId) (seen : Seen) (a : Access) → IsInState plan past sys c (Open id seen) → IsOfData a → SystemOk plan past (with_client sys c (Reading id seen a Asking))
asks plan past sys c id seen a agrees tables =
    let here : OpenOk (protocol_state past) c id.0 × SeenOk past seen = subst (ClientOk plan past c) agrees.at (agrees.ok.each c) in
    moved plan past sys c (Reading id seen a Asking) agrees.ok (here.0, here.1, tables, tt) (λ u h. subst (λ x. Has x u) agrees.at h) (no_gate (protocol_state past) (Reading id seen a Asking) refl)

pub read_set : (plan : ℕ → Plan) (past : List Labelled) (sys : SystemAt) (c : ℕ) (id : TxId) (seen : Seen) (a : Access) (images : List Record) → IsInState plan past sys c (Reading id seen a (Done images)) → MayRecord seen a images → SystemOk plan past (with_client sys c (Open id (with_read seen a images)))
read_set plan past sys c id seen a images agrees free =
    let here : OpenOk (protocol_state past) c id.0 × SeenOk past seen × IsOfData a × ReadOk past a (Done images) = subst (ClientOk plan past c) agrees.at (agrees.ok.each c) in
    moved plan past sys c (Open id (with_read seen a images)) agrees.ok (here.0, read_noted past seen a images here.1 here.2 free here.3.0 here.3.1) (λ u h. subst (λ x. Has x u) agrees.at h) (no_gate (protocol_state past) (Open id (with_read seen a images)) refl)

pub gives_up : (plan : ℕ → Plan) (past : List Labelled) (sys : SystemAt) (c : ℕ) (id : TxId) (seen : Seen) (a : Access) (s : ReadAt) → IsInState plan past sys c (Reading id seen a s) → SystemOk plan past (with_client sys c (Open id seen))
gives_up plan past sys c id seen a s agrees =
    let here : OpenOk (protocol_state past) c id.0 × SeenOk past seen × IsOfData a × ReadOk past a s = subst (ClientOk plan past c) agrees.at (agrees.ok.each c) in
    moved plan past sys c (Open id seen) agrees.ok (here.0, here.1) (λ u h. subst (λ x. Has x u) agrees.at h) (no_gate (protocol_state past) (Open id seen) refl)

pub writes : (plan : ℕ → Plan) (past : List Labelled) (sys : SystemAt) (c : ℕ) (id : TxId) (seen : Seen) (changes : List Keyed) → IsInState plan past sys c (Open id seen) → AreChanges seen.read_set changes → SystemOk plan past (with_client sys c (Open id (with_written seen changes)))
writes plan past sys c id seen changes agrees valid =
    let here : OpenOk (protocol_state past) c id.0 × SeenOk past seen = subst (ClientOk plan past c) agrees.at (agrees.ok.each c) in
    moved plan past sys c (Open id (with_written seen changes)) agrees.ok (here.0, write_kept past seen changes here.1 valid) (λ u h. subst (λ x. Has x u) agrees.at h) (no_gate (protocol_state past) (Open id (with_written seen changes)) refl)

---- VACUUM's start and end

has_is_open : (x : ClientAt) (u : ℕ) → Has x u → has_open x ≡ true
has_is_open Resting u h = absurd h
has_is_open (Open id seen) u h = refl
has_is_open (Reading id seen a r) u h = refl
has_is_open (Committing p s) u h = refl
has_is_open (RunsVacuum v) u h = absurd h
has_is_open Stopped u h = absurd h

gate_shut : (plan : ℕ → Plan) (past : List Labelled) (sys : SystemAt) → SystemOk plan past sys → NoneOpen sys → Gate (protocol_state past)
gate_shut plan past sys ok none u o = by (ok.opened u o)
  where
    clash : true ≡ false → ⊥
    clash e = cc

    by : (((protocol_state past).stopped ((protocol_state past).owner u) ≡ true) ⊎ Has (sys.clients ((protocol_state past).owner u)) u) → (protocol_state past).stopped ((protocol_state past).owner u) ≡ true
    by (inl s) = s
    by (inr h) = absurd (clash (sym (has_is_open (sys.clients ((protocol_state past).owner u)) u h) ∙ none ((protocol_state past).owner u)))

pub sweep_starts : (plan : ℕ → Plan) (past : List Labelled) (sys : SystemAt) (c : ℕ) (span : Span) → IsInState plan past sys c Resting → NoneOpen sys → IsOfData (access.Scan span) → SystemOk plan past (with_client sys c (RunsVacuum (Scanning span)))
sweep_starts plan past sys c span agrees none tables =
    moved plan past sys c (RunsVacuum (Scanning span)) agrees.ok (subst (ClientOk plan past c) agrees.at (agrees.ok.each c), tables) (λ u h. absurd (subst (λ x. Has x u) agrees.at h)) (λ t. gate_shut plan past sys agrees.ok none)

pub sweep_goes : (plan : ℕ → Plan) (past : List Labelled) (sys : SystemAt) (c : ℕ) (v : VacuumModel) (span : Span) → IsInState plan past sys c (RunsVacuum v) → IsOfData (access.Scan span) → SystemOk plan past (with_client sys c (RunsVacuum (Scanning span)))
sweep_goes plan past sys c v span agrees tables =
    moved plan past sys c (RunsVacuum (Scanning span)) agrees.ok ((running).0, tables) (λ u h. absurd (subst (λ x. Has x u) agrees.at h)) (λ t. agrees.ok.gate c (ap is_in_vacuum agrees.at))
  where
    running : ClientOk plan past c (RunsVacuum v)
    running = subst (ClientOk plan past c) agrees.at (agrees.ok.each c)

pub sweep_ends : (plan : ℕ → Plan) (past : List Labelled) (sys : SystemAt) (c : ℕ) (v : VacuumModel) → IsInState plan past sys c (RunsVacuum v) → SystemOk plan past (with_client sys c Resting)
sweep_ends plan past sys c v agrees =
    moved plan past sys c Resting agrees.ok (running.0) (λ u h. absurd (subst (λ x. Has x u) agrees.at h)) (no_gate (protocol_state past) Resting refl)
  where
    running : ClientOk plan past c (RunsVacuum v)
    running = subst (ClientOk plan past c) agrees.at (agrees.ok.each c)
