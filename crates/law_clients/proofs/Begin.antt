-- BEGIN keeps what is so of all clients: its id was never used.
use Rattle.std.proofs.Common.{◌≡◌, ◌≢◌, ◌≤◌, ◌<◌, ◌+◌, ◌*◌, ℕ, zero, suc, Bool, true, false, List, [], ◌∷◌, Option, Some, refl, sym, ap, subst, ◌∙◌, arith, ◌⊎◌, inl, inr}
use Rattle.std.specs.Prelude.{◌==◌, ◌/◌, ◌%◌, ◌^◌, if◌then◌else◌}
use Rattle.std.proofs.lemmas.Bool.Decides.{nat_tests}
use Rattle.sdb_model.specs.declared.answer.Answer.TheVariants as answer
use Rattle.sdb_model.specs.declared.event.Event.TheVariants as event
use Rattle.law_protocol.specs.Plan.{Plan}
use Rattle.law_protocol.specs.History as laws
use Rattle.law_protocol.specs.History.{Begins, ProtocolState, state_after_event}
use Rattle.law_protocol.specs.Lawful.{Labelled, MayBegin, protocol_state, labelled_with}
use Rattle.sdb_snapshot.specs.Seen.{nothing}
use Rattle.law_clients.specs.Reads.{OpenOk}
use Rattle.law_clients.specs.System.{ClientAt, Resting, Open, ClientOk, Has, is_in_vacuum, IsNumbered, SystemAt, SystemOk, with_client, with_begun, next_id, idle, IsInState, IsBegin, NoneRunVacuum, begin_labelled}
use Rattle.law_clients.proofs.Clients.{client_later, others_spared, with_here}
use Rattle.law_clients.proofs.Fresh.{in_turn}
use Rattle.law_clients.proofs.Seen.{seen_nothing}
use Rattle.sdb_types.proofs.Public.{id_fits as fits}

---- numbers

half : (c n : ℕ) → n < 2 ^ 64 → (c * 2 ^ 64 + n) / 2 ^ 64 ≡ c
half c n l = omega arith

rest : (c n : ℕ) → n < 2 ^ 64 → (c * 2 ^ 64 + n) % 2 ^ 64 ≡ n
rest c n l = omega arith

zero_or : (n : ℕ) → (n ≡ 0) ⊎ (n ≢ 0)
zero_or zero = inl refl
zero_or (suc n) = inr (λ e. absurd (omega arith))

test_of : (u t : ℕ) → ((u ≡ t) × ((u == t) ≡ true)) ⊎ ((u ≢ t) × ((u == t) ≡ false))
test_of u t = by (u == t) refl
  where
    same : (u t : ℕ) → (u == t) ≡ true → u ≡ t
    same u t h = grind (arith, nat_tests)

    apart : (u t : ℕ) → (u == t) ≡ false → u ≢ t
    apart u t h e = absurd (grind (arith, nat_tests))

    by : (b : Bool) → (u == t) ≡ b → ((u ≡ t) × ((u == t) ≡ true)) ⊎ ((u ≢ t) × ((u == t) ≡ false))
    by true h = inl (same u t h, h)
    by false h = inr (apart u t h, h)

-- the next id of a client was not used
pub unused : (plan : ℕ → Plan) (past : List Labelled) (sys : SystemAt) (c : ℕ) → SystemOk plan past sys → sys.begun c + 1 < 2 ^ 64 → (protocol_state past).begun (next_id sys c).0 ≡ 0
unused plan past sys c ok small = by (zero_or ((protocol_state past).begun t))
  where
    t : ℕ
    t = c * 2 ^ 64 + (sys.begun c + 1)

    more : (n : ℕ) → n + 1 ≤ n → ⊥
    more n l = omega arith

    by : (((protocol_state past).begun t) ≡ 0) ⊎ ((protocol_state past).begun t ≢ 0) → (protocol_state past).begun t ≡ 0
    by (inl z) = z
    by (inr n) =
        let l = subst (λ d. t % 2 ^ 64 ≤ sys.begun d) (half c (sys.begun c + 1) small) (ok.ids t n).most in
        absurd (more (sys.begun c) (subst (λ m. m ≤ sys.begun c) (rest c (sys.begun c + 1) small) l))

---- what is said

here_begun : (h : ProtocolState) (t c : ℕ) → (state_after_event h (Begins t c)).begun t ≢ 0
here_begun h t c e = absurd (clash (h.now) (sym (now h t c) ∙ e))
  where
    now : (h : ProtocolState) (t c : ℕ) → (state_after_event h (Begins t c)).begun t ≡ h.now + 1
    now h t c = grind (arith, nat_tests)

    clash : (n : ℕ) → n + 1 ≡ 0 → ⊥
    clash n e = omega arith

pub here_owner : (h : ProtocolState) (t c : ℕ) → (state_after_event h (Begins t c)).owner t ≡ c
here_owner h t c = grind (arith, nat_tests)

here_open : (h : ProtocolState) (t c : ℕ) → (state_after_event h (Begins t c)).is_open t ≡ true
here_open h t c = grind (arith, nat_tests)

other_open : (h : ProtocolState) (t c u : ℕ) → u ≢ t → (state_after_event h (Begins t c)).is_open u ≡ h.is_open u
other_open h t c u n = grind (arith, nat_tests)

other_owner : (h : ProtocolState) (t c u : ℕ) → u ≢ t → (state_after_event h (Begins t c)).owner u ≡ h.owner u
other_owner h t c u n = grind (arith, nat_tests)

other_begun : (h : ProtocolState) (t c u : ℕ) → u ≢ t → (state_after_event h (Begins t c)).begun u ≡ h.begun u
other_begun h t c u n = grind (arith, nat_tests)

---- the turn

pub begin_turn : (plan : ℕ → Plan) (past : List Labelled) (sys : SystemAt) (c : ℕ) (text : List ℕ) → IsInState plan past sys c Resting → IsBegin sys c text → NoneRunVacuum sys
    → SystemOk plan (begin_labelled sys c text ∷ past) (with_begun sys c (Open (next_id sys c) nothing))
begin_turn plan past sys c text agrees begin none = record {
  lawful = (ok.lawful, may, λ a. absurd (answered a), λ a executed denial u ends. absurd (cc (ends)));
  each = λ d. with_here sys c x (ClientOk plan (q ∷ past)) d (opens, seen_nothing (q ∷ past)) (λ apart. client_later plan past d q (sys.clients d) (others_spared plan past c d q (sys.clients d) apart refl may (λ u ends. absurd (cc (ends))) (ok.each d)) (ok.each d));
  opened = λ u o. opened u o (test_of u t);
  gate = λ d s. absurd (clash (sym (with_here sys c x (λ e y. is_in_vacuum y ≡ false) d refl (λ apart. none d)) ∙ s));
  ids = λ u b. ids u b (test_of u t);
}
  where
    ok : SystemOk plan past sys
    ok = agrees.ok

    t : ℕ
    t = (next_id sys c).0

    x : ClientAt
    x = Open (next_id sys c) nothing

    q : Labelled
    q = labelled_with (Begins t c) (event.Take c text (Some answer.Done))

    clash : false ≡ true → ⊥
    clash e = cc

    answered : ◌≡◌ {A = Option Rattle.sdb_model.specs.declared.answer.Answer.Answer} (Some answer.Done) (Some answer.Committed) → ⊥
    answered e = absurd (cc)

    fresh : (protocol_state past).begun t ≡ 0
    fresh = unused plan past sys c ok begin.ordinal

    may : MayBegin past (event.Take c text (Some answer.Done)) t c
    may = record { text = text; begin = begin.reads; take = refl; fresh = fresh; fits = fits c (sys.begun c + 1) begin.client begin.ordinal }

    opens : OpenOk (protocol_state (q ∷ past)) c t
    opens = let executed = in_turn plan past t ok.lawful in let none = executed.accepted fresh in record {
      fits = fits c (sys.begun c + 1) begin.client begin.ordinal;
      begun = here_begun (protocol_state past) t c;
      owner = here_owner (protocol_state past) t c;
      is_open = here_open (protocol_state past) t c;
      goes_on = subst (ClientOk plan past c) agrees.at (ok.each c);
      fresh = none;
      stage = executed.stage none;
      unasked = λ k. executed.asked k none;
      safe = executed.risked none;
    }

    held : (u : ℕ) → (((protocol_state past).stopped ((protocol_state past).owner u) ≡ true) ⊎ Has (sys.clients ((protocol_state past).owner u)) u) → ((protocol_state past).stopped ((protocol_state past).owner u) ≡ true) ⊎ Has ((with_client sys c x).clients ((protocol_state past).owner u)) u
    held u (inl s) = inl s
    held u (inr h) = with_here sys c x (λ d y. Has (sys.clients d) u → ((protocol_state past).stopped d ≡ true) ⊎ Has y u) ((protocol_state past).owner u) (λ h. absurd (subst (λ y. Has y u) agrees.at h)) (λ apart h. inr h) h

    opened : (u : ℕ) → (protocol_state (q ∷ past)).is_open u ≡ true → (((u ≡ t) × ((u == t) ≡ true)) ⊎ ((u ≢ t) × ((u == t) ≡ false))) → ((protocol_state (q ∷ past)).stopped ((protocol_state (q ∷ past)).owner u) ≡ true) ⊎ Has ((with_client sys c x).clients ((protocol_state (q ∷ past)).owner u)) u
    opened u o (inl e) = inr (subst (λ d. Has ((with_client sys c x).clients d) u) (sym (ap (protocol_state (q ∷ past)).owner e.0 ∙ here_owner (protocol_state past) t c)) (here (sym e.0)))
      where
        here : t ≡ u → Has ((with_client sys c x).clients c) u
        here e = with_here sys c x (λ d y. c ≡ d → Has y u) c (λ r. e) (λ apart r. absurd (apart r)) refl
    opened u o (inr n) = subst (λ d. ((protocol_state past).stopped d ≡ true) ⊎ Has ((with_client sys c x).clients d) u) (sym (other_owner (protocol_state past) t c u n.0)) (held u (ok.opened u (sym (other_open (protocol_state past) t c u n.0) ∙ o)))

    more : (d : ℕ) → sys.begun d ≤ laws.at sys.begun c (sys.begun c + 1) d
    more d = by (test_of d c)
      where
        up : (m n : ℕ) → m ≡ n → m ≤ n + 1
        up m n e = omega arith

        itself : (m : ℕ) → m ≤ m
        itself m = omega arith

        by : (((d ≡ c) × ((d == c) ≡ true)) ⊎ ((d ≢ c) × ((d == c) ≡ false))) → sys.begun d ≤ (if d == c then sys.begun c + 1 else sys.begun d)
        by (inl e) = subst (λ b. sys.begun d ≤ (if b then sys.begun c + 1 else sys.begun d)) (sym e.1) (up (sys.begun d) (sys.begun c) (ap sys.begun e.0))
        by (inr n) = subst (λ b. sys.begun d ≤ (if b then sys.begun c + 1 else sys.begun d)) (sym n.1) (itself (sys.begun d))

    positive : (n : ℕ) → 0 < n + 1
    positive n = omega arith

    within : (m n k : ℕ) → m ≤ n → n ≤ k → m ≤ k
    within m n k a b = omega arith

    last : t % 2 ^ 64 ≤ laws.at sys.begun c (sys.begun c + 1) (t / 2 ^ 64)
    last = subst (λ d. t % 2 ^ 64 ≤ laws.at sys.begun c (sys.begun c + 1) d) (sym (half c (sys.begun c + 1) begin.ordinal)) (subst (λ m. m ≤ laws.at sys.begun c (sys.begun c + 1) c) (sym (rest c (sys.begun c + 1) begin.ordinal)) (by (test_of c c)))
      where
        itself : (m : ℕ) → m ≤ m
        itself m = omega arith

        by : (((c ≡ c) × ((c == c) ≡ true)) ⊎ ((c ≢ c) × ((c == c) ≡ false))) → sys.begun c + 1 ≤ (if c == c then sys.begun c + 1 else sys.begun c)
        by (inl e) = subst (λ b. sys.begun c + 1 ≤ (if b then sys.begun c + 1 else sys.begun c)) (sym e.1) (itself (sys.begun c + 1))
        by (inr n) = absurd (n.0 refl)

    ids : (u : ℕ) → (protocol_state (q ∷ past)).begun u ≢ 0 → (((u ≡ t) × ((u == t) ≡ true)) ⊎ ((u ≢ t) × ((u == t) ≡ false))) → IsNumbered (protocol_state (q ∷ past)) (laws.at sys.begun c (sys.begun c + 1)) u
    ids u b (inl e) = subst (IsNumbered (protocol_state (q ∷ past)) (laws.at sys.begun c (sys.begun c + 1))) (sym e.0) (record {
      ordinal = subst (λ m. 0 < m) (sym (rest c (sys.begun c + 1) begin.ordinal)) (positive (sys.begun c));
      most = last;
      owner = here_owner (protocol_state past) t c ∙ sym (half c (sys.begun c + 1) begin.ordinal);
    })
    ids u b (inr n) = let old = ok.ids u (λ e. b (other_begun (protocol_state past) t c u n.0 ∙ e)) in record {
      ordinal = old.ordinal;
      most = within (u % 2 ^ 64) (sys.begun (u / 2 ^ 64)) (laws.at sys.begun c (sys.begun c + 1) (u / 2 ^ 64)) old.most (more (u / 2 ^ 64));
      owner = other_owner (protocol_state past) t c u n.0 ∙ old.owner;
    }

-- Before the first event all is so.
pub begins : (plan : ℕ → Plan) → SystemOk plan [] idle
begins plan = record { lawful = tt; each = λ c. refl; opened = λ u o. absurd (cc (o)); gate = λ c s. absurd (cc (s)); ids = λ t b. absurd (b refl) }

-- A transaction whose COMMIT was accepted has begun.
pub accepted_numbered : (plan : ℕ → Plan) (past : List Labelled) (sys : SystemAt) (t : ℕ) → SystemOk plan past sys → (protocol_state past).accepted t ≡ true → IsNumbered (protocol_state past) sys.begun t
accepted_numbered plan past sys t ok accepted = by (zero_or ((protocol_state past).begun t))
  where
    clash : true ≡ false → ⊥
    clash e = cc

    by : ((protocol_state past).begun t ≡ 0) ⊎ ((protocol_state past).begun t ≢ 0) → IsNumbered (protocol_state past) sys.begun t
    by (inl z) = absurd (clash (sym accepted ∙ (in_turn plan past t ok.lawful).accepted z))
    by (inr n) = ok.ids t n

pub accepted_begun : (plan : ℕ → Plan) (past : List Labelled) (sys : SystemAt) (t : ℕ) → SystemOk plan past sys → (protocol_state past).accepted t ≡ true → 0 < t % 2 ^ 64
accepted_begun plan past sys t ok accepted = (accepted_numbered plan past sys t ok accepted).ordinal

pub untaken : (plan : ℕ → Plan) (past : List Labelled) (sys : SystemAt) (c : ℕ) → SystemOk plan past sys → sys.begun c + 1 < 2 ^ 64 → (protocol_state past).accepted (next_id sys c).0 ≡ false
untaken plan past sys c ok small = (in_turn plan past (next_id sys c).0 ok.lawful).accepted (unused plan past sys c ok small)
