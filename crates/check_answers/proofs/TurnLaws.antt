-- The statements of a transaction, as the program has them.
use Rattle.std.proofs.Common.{◌≡◌, ℕ, Bool, true, false, List, [], ◌∷◌, ◌++◌, inl, inr, refl, sym, subst, append_assoc}
use Rattle.sdb_model.specs.declared.event.Event.{Event}
use Rattle.std.specs.Prelude.{if◌then◌else◌}
use Rattle.sdb_model.specs.Transactions.{Executed, ends, through_end}
use Rattle.check_protocol.proofs.Public.{In}
use Rattle.check_answers.specs.declared.turn.Turn.{Turn}
use Rattle.check_answers.specs.Turns.{AreTurns, IsTurn}

pub turns_more : (events : List Event) (client : ℕ) (ss : List Executed) (ts : List Turn) (s : Executed) (t : Turn) → AreTurns events client ss ts → IsTurn events client s t → AreTurns events client (ss ++ s ∷ []) (ts ++ t ∷ [])
turns_more events client [] [] s t a h = (h, tt)
turns_more events client [] (u ∷ ts) s t a h = absurd a
turns_more events client (r ∷ ss) [] s t a h = absurd a
turns_more events client (r ∷ ss) (u ∷ ts) s t (k, a) h = (k, turns_more events client ss ts s t a h)

pub turn_found : (events : List Event) (client : ℕ) (ss : List Executed) (ts : List Turn) (s : Executed) → AreTurns events client ss ts → In ss s → (t : Turn) × In ts t × IsTurn events client s t
turn_found events client [] ts s a i = absurd i
turn_found events client (r ∷ ss) [] s a i = absurd a
turn_found events client (r ∷ ss) (u ∷ ts) s (k, a) (inl e) = (u, inl refl, subst (λ x. IsTurn events client x u) (sym e) k)
turn_found events client (r ∷ ss) (u ∷ ts) s (k, a) (inr i) = let f = turn_found events client ss ts s a i in (f.0, inr f.1, f.2)

pub found_turn : (events : List Event) (client : ℕ) (ss : List Executed) (ts : List Turn) (t : Turn) → AreTurns events client ss ts → In ts t → (s : Executed) × In ss s × IsTurn events client s t
found_turn events client ss [] t a i = absurd i
found_turn events client [] (u ∷ ts) t a i = absurd a
found_turn events client (r ∷ ss) (u ∷ ts) t (k, a) (inl e) = (r, inl refl, subst (IsTurn events client r) (sym e) k)
found_turn events client (r ∷ ss) (u ∷ ts) t (k, a) (inr i) = let f = found_turn events client ss ts t a i in (f.0, inr f.1, f.2)

---- a statement that is added

module _ (events : List Event) (client : ℕ) (past : List Executed) (s : Executed) (ts : List Turn) where
  abbrev With : List Executed → List Turn → Type 0
  With ss us = AreTurns events client (past ++ ss) us

  pub ended : (ss : List Executed) → ends s ≡ true → With (s ∷ []) ts → With (through_end (s ∷ ss)) ts
  ended ss e a = subst (λ (b : Bool). With (if b then s ∷ [] else s ∷ through_end ss) ts) (sym e) a

  pub gone_on : (ss : List Executed) → ends s ≡ false → AreTurns events client ((past ++ s ∷ []) ++ through_end ss) ts → With (through_end (s ∷ ss)) ts
  gone_on ss e a = subst (λ (b : Bool). With (if b then s ∷ [] else s ∷ through_end ss) ts) (sym e) (subst (λ z. AreTurns events client z ts) (append_assoc past (s ∷ []) (through_end ss)) a)
