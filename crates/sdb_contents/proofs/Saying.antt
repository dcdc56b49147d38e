-- Statements, as they are said and answered.
use Rattle.std.proofs.Common.{◌≡◌, ℕ, zero, suc, ◌-◌, List, [], ◌∷◌, Option, Some, None, length, refl, sym, ap, arith}
use Rattle.std.specs.Prelude.{slice_get, slice_set}
use Rattle.sdb_model.specs.declared.answer.Answer.{Answer}
use Rattle.sdb_model.specs.Transactions.{with_answer}
use Rattle.sdb_contents.specs.declared.executed.Executed.{Executed}
use Rattle.sdb_contents.specs.Commits.{executed_of, all_executed}

answered_at : (ss : List Executed) (k : ℕ) (s : Executed) (n : ℕ) (a : Answer) → suc k ≡ length ss → slice_get ss k ≡ Some s
    → all_executed (slice_set ss k (record { accepted = s.accepted; text = s.text; answer = Some a; reached = n })) ≡ with_answer (all_executed ss) n a
answered_at [] k s n a e h = absurd (omega (arith, e))
answered_at (t ∷ []) zero s n a e h = let same : t ≡ s = cc in rw same refl
answered_at (t ∷ []) (suc k) s n a e h = absurd (omega (arith, e))
answered_at (t ∷ u ∷ us) zero s n a e h = absurd (omega (arith, e))
answered_at (t ∷ u ∷ us) (suc k) s n a e h = ap (λ xs. executed_of t ∷ xs) (answered_at (u ∷ us) k s n a (omega (arith, e)) h)

one_less : (ss : List Executed) (s : Executed) → Some s ≡ slice_get ss (length ss - 1) → suc (length ss - 1) ≡ length ss
one_less [] s h = absurd cc
one_less (t ∷ ts) s h = omega arith

-- the last statement is answered
pub last_answered : (ss : List Executed) (s : Executed) (n : ℕ) (a : Answer) → Some s ≡ slice_get ss (length ss - 1)
    → all_executed (slice_set ss (length ss - 1) (record { accepted = s.accepted; text = s.text; answer = Some a; reached = n })) ≡ with_answer (all_executed ss) n a
last_answered ss s n a h = answered_at ss (length ss - 1) s n a (one_less ss s h) (sym h)

got : (ss : List Executed) (k : ℕ) → suc k ≡ length ss → ◌≡◌ {A = Option Executed} None (slice_get ss k) → ⊥
got [] k e h = omega (arith, e)
got (t ∷ ts) zero e h = cc
got (t ∷ ts) (suc k) e h = got ts k (omega (arith, e)) h

-- where nothing was said, nothing is answered
pub none_answered : (ss : List Executed) (n : ℕ) (a : Answer) → ◌≡◌ {A = Option Executed} None (slice_get ss (length ss - 1)) → all_executed ss ≡ with_answer (all_executed ss) n a
none_answered [] n a h = refl
none_answered (t ∷ ts) n a h = absurd (got (t ∷ ts) (length (t ∷ ts) - 1) (omega arith) h)
