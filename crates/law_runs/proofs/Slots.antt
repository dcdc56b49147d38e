-- The clients of a world, place by place.
use Rattle.std.proofs.Common.{◌≡◌, ◌≢◌, ℕ, zero, suc, Bool, true, false, List, [], ◌∷◌, length, Option, Some, None, IfSome, refl, ap, ◌∙◌, slice_set}
use Rattle.std.specs.Prelude.{◌==◌, IsSomeAnd, is_some, slice_get}
use Rattle.std.proofs.lemmas.Bool.{eqb-false, eqb-true, ne_eqb}
use Rattle.law_protocol.specs.History.{at}
use Rattle.law_clients.specs.States.{ClientState}
use Rattle.sdb_client.specs.declared.slot.ClientSlot.{ClientSlot}
use Rattle.law_runs.specs.World.{state_in, states_of}
use Rattle.sdb_types.proofs.Public.{none_some}

-- at the place that is set is what was set
pub set_here : {A : Type 0} (xs : List A) (i : ℕ) (x y : A) → slice_get xs i ≡ Some x → slice_get (slice_set xs i y) i ≡ Some y
set_here [] i x y e = absurd (none_some x e)
set_here (z ∷ zs) zero x y e = refl
set_here (z ∷ zs) (suc i) x y e = set_here zs i x y e

-- elsewhere is what was there
pub set_other : {A : Type 0} (xs : List A) (i j : ℕ) (y : A) → j ≢ i → slice_get (slice_set xs i y) j ≡ slice_get xs j
set_other [] i j y n = refl
set_other (z ∷ zs) zero zero y n = absurd (n refl)
set_other (z ∷ zs) zero (suc j) y n = refl
set_other (z ∷ zs) (suc i) zero y n = refl
set_other (z ∷ zs) (suc i) (suc j) y n = set_other zs i j y (λ e. n (ap suc e))

pub set_length : {A : Type 0} (xs : List A) (i : ℕ) (y : A) → length (slice_set xs i y) ≡ length xs
set_length [] i y = refl
set_length (z ∷ zs) zero y = refl
set_length (z ∷ zs) (suc i) y = ap suc (set_length zs i y)

---- the clients by their numbers

pub suc_is : (i j : ℕ) → suc i ≡ suc j → i ≡ j
suc_is i j e = cc

-- a client that goes on has a transaction open, or runs VACUUM
abbrev pub HasOpen : ClientState → Type 0
HasOpen x = (x.stopped ≡ false) × (is_some x.client.txn ≡ true)

abbrev pub RunsVacuum : ClientState → Type 0
RunsVacuum x = (x.stopped ≡ false) × (is_some x.client.vacuum ≡ true)

-- what is so of the client at a place is so of it by its number
pub some_client : (P : ClientState → Type 0) (o : Option ClientSlot) (c : ℕ) → IsSomeAnd o (λ s. P (record { client = s.client; stopped = s.stopped })) → P (state_in o c)
some_client P None c h = absurd h
some_client P (Some s) c h = h

-- what is so of it if there is one, and of a client that has done nothing
pub each_client : (P : ClientState → Type 0) (o : Option ClientSlot) (c : ℕ) → P (state_in None c) → IfSome o (λ s. P (record { client = s.client; stopped = s.stopped })) → P (state_in o c)
each_client P None c first h = first
each_client P (Some s) c first h = h

-- with one client elsewhere
pub hands_moved : (client_slots : List ClientSlot) (i : ℕ) (s t : ClientSlot) (c : ℕ) → slice_get client_slots i ≡ Some s → states_of (slice_set client_slots i t) c ≡ at (states_of client_slots) (suc i) (record { client = t.client; stopped = t.stopped }) c
hands_moved client_slots i s t zero here = rw (ne_eqb 0 (suc i) (λ e. cc)) refl
hands_moved client_slots i s t (suc j) here = by (suc j == suc i) refl
  where
    by : (b : Bool) → (suc j == suc i) ≡ b → states_of (slice_set client_slots i t) (suc j) ≡ at (states_of client_slots) (suc i) (record { client = t.client; stopped = t.stopped }) (suc j)
    by true e =
        let same : j ≡ i = suc_is j i (eqb-true (suc j) (suc i) e) in
        rw e (ap (λ (k : ℕ). state_in (slice_get (slice_set client_slots i t) k) (suc k)) same ∙ ap (λ (o : Option ClientSlot). state_in o (suc i)) (set_here client_slots i s t here))
    by false e = rw e (ap (λ (o : Option ClientSlot). state_in o (suc j)) (set_other client_slots i j t (λ same. eqb-false (suc j) (suc i) e (ap suc same))))
