-- What a quote encloses, byte by byte.
use Rattle.std.proofs.Common.{◌≡◌, ℕ, ◌+◌, true, false, List, [], ◌∷◌, ◌++◌, drop, Option, Some, None, refl, ap, arith, append_assoc, add_assoc}
use Rattle.std.proofs.lemmas.Bool.Decides.{nat_tests}
use Rattle.sdb_model.specs.SqlTokens.{begins, is_single_quote, onto_text, enclosed}

pub onto_twice : (t u : List ℕ) (n m : ℕ) (r : Option (List ℕ × ℕ)) → onto_text t n (onto_text u m r) ≡ onto_text (t ++ u) (n + m) r
onto_twice t u n m None = refl
onto_twice t u n m (Some p) = rw (append_assoc, add_assoc) refl

pub encloses_none : (c : ℕ) (more : List ℕ) → is_single_quote c ≡ true → begins is_single_quote more ≡ false → enclosed (c ∷ more) ≡ Some ([], 1)
encloses_none c [] q b = rw q refl
encloses_none c (d ∷ ds) q b = rw (q, b) refl

pub encloses_byte : (c : ℕ) (more : List ℕ) → is_single_quote c ≡ false → enclosed (c ∷ more) ≡ onto_text (c ∷ []) 1 (enclosed more)
encloses_byte c [] q = rw q refl
encloses_byte c (d ∷ ds) q = rw q refl

quote_is : (c : ℕ) → is_single_quote c ≡ true → 39 ≡ c
quote_is c q = grind (arith, nat_tests)

pub encloses_quote : (c : ℕ) (more : List ℕ) → is_single_quote c ≡ true → begins is_single_quote more ≡ true → enclosed (c ∷ more) ≡ onto_text (c ∷ []) 2 (enclosed (drop 1 more))
encloses_quote c [] q b = absurd cc
encloses_quote c (d ∷ ds) q b = rw (q, b) (ap (λ x. onto_text (x ∷ []) 2 (enclosed ds)) (quote_is c q))
