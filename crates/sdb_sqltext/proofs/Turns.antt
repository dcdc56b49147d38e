-- One more item of a list is read.
use Rattle.std.proofs.Common.{◌≡◌, ℕ, suc, ◌+◌, ◌-◌, ◌<◌, List, [], ◌∷◌, ◌++◌, Option, Some, Ok, sym, ap, ◌∙◌, arith}
use Rattle.sdb_model.specs.declared.token.Placed.{Placed}
use Rattle.sdb_sqltext.specs.Parsing.{then as and_then}
use Rattle.sdb_sqltext.specs.Readers.{Read, choose, items_on}

pub one_more : {A : Type 0} (item : List Placed → ℕ → Read A) (next : List Placed → Option (List Placed)) (end turns counter : ℕ) (xs : List A) (ps more : List Placed) (x : A) (behind : List Placed) (whole : Read (List A)) → counter < turns → Some more ≡ next ps → item more end ≡ Ok (x, behind)
    → items_on item next end (turns - counter) xs ps ≡ whole → items_on item next end (turns - (counter + 1)) (xs ++ x ∷ []) behind ≡ whole
one_more {A} item next end turns counter xs ps more x behind whole lt comes reads h =
    let n = turns - (counter + 1) in
    let turn : turns - counter ≡ suc n = omega arith in
    let rest_of = λ (r : A × List Placed). items_on item next end n (xs ++ r.0 ∷ []) r.1 in
    let first = ap (λ (k : ℕ). items_on item next end k xs ps) turn in
    let second = ap (λ (o : Option (List Placed)). choose o (λ qs. and_then (item qs end) rest_of) (Ok (xs, ps))) (sym comes) in
    let third = ap (λ (r : Read A). and_then r rest_of) reads in
    sym (first ∙ second ∙ third) ∙ h
