-- The draws of a bench, and the names of its clients.
use Rattle.std.proofs.Common.{◌≡◌, ℕ, suc, ◌+◌, ◌*◌, ◌<◌, true, List, [], ◌∷◌, ◌++◌, map, codes, sym, ap, ◌∙◌, subst, arith}
use Rattle.std.specs.Prelude.{decimal}
use Rattle.std.proofs.lemmas.Fmt.{decimal_digit}
use Rattle.std.proofs.lemmas.Bool.Decides.{nat_tests}
use Rattle.sdb_types.specs.Identifier.{is_name}
use Rattle.sdb_types.proofs.Public.{map_last}
use Rattle.sdb_bench.specs.declared.texts.Turn.{Turn}
use Rattle.sdb_bench.specs.Draws.{numbers_below, state_after}
use Rattle.sdb_bench.specs.Script.{turn_after, turn_of, writer_name}

pub numbers_more : (n : ℕ) → numbers_below (n + 1) ≡ numbers_below n ++ n ∷ []
numbers_more n = let e : n + 1 ≡ suc n = omega arith in ap numbers_below e

-- four draws more
pub four_more : (x t : ℕ) → state_after (state_after x (4 * t)) 4 ≡ state_after x (4 * (t + 1))
four_more x t = let e : 4 * (t + 1) ≡ suc (suc (suc (suc (4 * t)))) = omega arith in sym (ap (state_after x) e)

pub state_more : (n t s u : ℕ) → s ≡ state_after n (4 * t) → u ≡ state_after s 4 → u ≡ state_after n (4 * (t + 1))
state_more n t s u is more = more ∙ ap (λ (x : ℕ). state_after x 4) is ∙ four_more n t

pub turn_more : (n t s : ℕ) (turns more : List Turn) (turn : Turn) → s ≡ state_after n (4 * t) → turn ≡ turn_after s t → turns ≡ map (turn_of n) (numbers_below t)
    → more ≡ turns ++ turn ∷ [] → more ≡ map (turn_of n) (numbers_below (t + 1))
turn_more n t s turns more turn is drawn before pushed =
    pushed
    ∙ ap (λ (ts : List Turn). ts ++ turn ∷ []) before
    ∙ ap (λ (x : Turn). map (turn_of n) (numbers_below t) ++ x ∷ []) (drawn ∙ ap (λ (x : ℕ). turn_after x t) is)
    ∙ sym (map_last (turn_of n) (numbers_below t) t)
    ∙ ap (map (turn_of n)) (sym (numbers_more t))

pub name_fits : (w : ℕ) → w < 8 → is_name (writer_name w) ≡ true
name_fits w h =
    let digit : decimal (w + 1) ≡ (48 + (w + 1)) ∷ [] = decimal_digit (w + 1) (omega arith) in
    subst (λ (ds : List ℕ). is_name (codes "w" ++ ds) ≡ true) (sym digit) (grind (arith, nat_tests))
