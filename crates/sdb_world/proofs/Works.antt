-- Which client has work, by where it is.
use Rattle.std.proofs.Common.{◌≡◌, ◌≢◌, ℕ, suc, ◌<◌, Bool, true, false, length, Option, Some, None, IfSome, refl, sym, ap, ◌∙◌, ◌⊎◌, inl, inr, get_or}
use Rattle.std.specs.Prelude.{◌&&◌, ◌||◌, not, nat_lt, IsSome, IsSomeAnd, slice_get}
use Rattle.std.proofs.lemmas.Option.{slice_get_read}
use Rattle.sdb_model.specs.Follows.{has_work, is_pending, takes_of, texts_of}
use Rattle.sdb_client.specs.Client.{ClientAt, IsBusy, IsIdle}
use Rattle.sdb_txn.specs.declared.txn.Doing.TheVariants as doing
use Rattle.sdb_txn.specs.Txn.{TxnAt}
use Rattle.sdb_vacuum.specs.Vacuum.{VacuumAt}
use Rattle.sdb_client.specs.declared.slot.ClientSlot.{ClientSlot}
use Rattle.law_runs.specs.World.{IsClientState, IsWorld, WorldAt}

-- a client waits for one thing
pub not_both : (c : ClientAt) → IsIdle c → IsBusy c → ⊥
not_both c idle busy = at busy
  where
    by : (o : Option TxnAt) → IfSome o (λ t. t.doing ≡ doing.Idle) → IsSomeAnd o (λ t. t.doing ≢ doing.Idle) → ⊥
    by None i b = b
    by (Some t) i b = b i

    vacuums : (o : Option VacuumAt) → o ≡ None → IsSome o → ⊥
    vacuums None e s = cc
    vacuums (Some v) e s = cc

    at : IsSomeAnd c.txn (λ t. t.doing ≢ doing.Idle) ⊎ IsSome c.vacuum → ⊥
    at (inl b) = by c.txn idle.still b
    at (inr b) = vacuums c.vacuum idle.free b

-- a call is pending exactly where a client isn't idle
pends_is : (w : WorldAt) (i : ℕ) (s : ClientSlot) (idle : Bool) → IsClientState w.script w.events i s → (idle ≡ true → IsIdle s.client) → (idle ≡ false → IsBusy s.client) → is_pending (suc i) w.events ≡ not idle
pends_is w i s idle client_slot is busy = by (is_pending (suc i) w.events) idle refl refl
  where
    by : (p b : Bool) → is_pending (suc i) w.events ≡ p → idle ≡ b → p ≡ not b
    by true true e f = absurd (not_both s.client (is f) (client_slot.busy e))
    by true false e f = refl
    by false true e f = refl
    by false false e f = absurd (not_both s.client (client_slot.idle e) (busy f))

pub work_is : (w : WorldAt) (i : ℕ) (s : ClientSlot) (idle : Bool) → IsWorld w → slice_get w.client_slots i ≡ Some s → (idle ≡ true → IsIdle s.client) → (idle ≡ false → IsBusy s.client) → has_work w.script.clients (suc i) w.events ≡ (not s.stopped && (not idle || nat_lt s.accepted (length (texts_of w.script.clients (suc i)))))
work_is w i s idle h here is busy =
    let client_slot : IsClientState w.script w.events i s = h.each i s here in
    ap (λ (b : Bool). not b && (is_pending (suc i) w.events || nat_lt (takes_of (suc i) w.events) (length (texts_of w.script.clients (suc i))))) (sym client_slot.stopped)
    ∙ ap (λ (b : Bool). not s.stopped && (b || nat_lt (takes_of (suc i) w.events) (length (texts_of w.script.clients (suc i))))) (pends_is w i s idle client_slot is busy)
    ∙ ap (λ (n : ℕ). not s.stopped && (not idle || nat_lt n (length (texts_of w.script.clients (suc i))))) (sym client_slot.accepted)

-- Where a seat that was read stops, has a call pending, or neither.
module _ (w : WorldAt) (i : ℕ) (s : ClientSlot) (h : IsWorld w) (low : i < length w.client_slots) (read : s ≡ get_or w.client_slots i s) where
  at_seat : slice_get w.client_slots i ≡ Some s
  at_seat = slice_get_read w.client_slots (length w.client_slots) i s refl low read

  pub works_not : s.stopped ≡ true → not s.stopped ≡ has_work w.script.clients (suc i) w.events
  works_not over =
      ap not over
      ∙ ap (λ (b : Bool). not b && (is_pending (suc i) w.events || nat_lt (takes_of (suc i) w.events) (length (texts_of w.script.clients (suc i))))) (sym over ∙ (h.each i s at_seat).stopped)

  module _ (idle : Bool) (is : idle ≡ true → IsIdle s.client) (busy : idle ≡ false → IsBusy s.client) (goes : s.stopped ≡ false) where
    all_of : has_work w.script.clients (suc i) w.events ≡ (not idle || nat_lt s.accepted (length (texts_of w.script.clients (suc i))))
    all_of = work_is w i s idle h at_seat is busy ∙ ap (λ (b : Bool). not b && (not idle || nat_lt s.accepted (length (texts_of w.script.clients (suc i))))) goes

    pub works_busy : idle ≡ false → not idle ≡ has_work w.script.clients (suc i) w.events
    works_busy e = ap not e ∙ sym (all_of ∙ ap (λ (b : Bool). not b || nat_lt s.accepted (length (texts_of w.script.clients (suc i)))) e)

    pub works_left : (left : ℕ) → idle ≡ true → left ≡ length (texts_of w.script.clients (suc i)) → nat_lt s.accepted left ≡ has_work w.script.clients (suc i) w.events
    works_left left e same = ap (λ (n : ℕ). nat_lt s.accepted n) same ∙ sym (all_of ∙ ap (λ (b : Bool). not b || nat_lt s.accepted (length (texts_of w.script.clients (suc i)))) e)
