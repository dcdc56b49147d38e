-- Clients that have done nothing; and what is so of those at other places.
use Rattle.std.proofs.Common.{◌≡◌, ◌≢◌, ℕ, zero, suc, ◌+◌, ◌<◌, List, [], ◌∷◌, ◌++◌, length, Some, refl, sym, ap, subst, ◌∙◌, length-append}
use Rattle.std.specs.Prelude.{slice_get}
use Rattle.sdb_client.specs.declared.slot.ClientSlot.{ClientSlot}
use Rattle.sdb_client.specs.Execution.{AreFresh, initial_client}
use Rattle.sdb_types.proofs.Public.{none_some, some_is}

-- what is so of each by its place is so with one more
each_more : {A : Type 0} (P : ℕ → A → Type 0) (xs : List A) (x : A) → ((j : ℕ) (s : A) → slice_get xs j ≡ Some s → P j s) → P (length xs) x → (j : ℕ) (s : A) → slice_get (xs ++ x ∷ []) j ≡ Some s → P j s
each_more P [] x h p zero s e = subst (λ y. P 0 y) (some_is x s e) p
each_more P [] x h p (suc j) s e = absurd (none_some s e)
each_more P (y ∷ ys) x h p zero s e = h zero s e
each_more P (y ∷ ys) x h p (suc j) s e = each_more (λ k. P (suc k)) ys x (λ k t. h (suc k) t) p j s e

pub fresh_none : AreFresh 0 []
fresh_none = record { size = refl; each = λ i s e. absurd (none_some s e) }

-- one client more
pub fresh_more : (i : ℕ) (client_slots more : List ClientSlot) (s : ClientSlot) → AreFresh i client_slots → s ≡ initial_client i → more ≡ client_slots ++ s ∷ [] → AreFresh (i + 1) more
fresh_more i client_slots more s h is same = subst (λ (xs : List ClientSlot). AreFresh (i + 1) xs) (sym same) (record {
  size = length-append client_slots (s ∷ []) ∙ ap (λ (n : ℕ). n + 1) h.size;
  each = each_more (λ (j : ℕ) (t : ClientSlot). t ≡ initial_client j) client_slots s h.each (is ∙ ap initial_client (sym h.size));
})

-- what is so of each client before a place, but for one
abbrev pub AreBefore : (ℕ → Type 0) → (at i : ℕ) → Type 0
AreBefore P at i = (j : ℕ) → j < i → j ≢ at → P j
