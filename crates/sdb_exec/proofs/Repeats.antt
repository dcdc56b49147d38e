-- The first mention whose column is mentioned before it, by the names that were passed.
use Rattle.std.proofs.Common.{◌≡◌, ℕ, suc, ◌+◌, ◌<◌, List, [], ◌∷◌, ◌++◌, true, false, cond, Some, refl, sym, ap, ◌∙◌, arith, add-one, length, take, drop, get_or}
use Rattle.std.specs.Prelude.{Bool, ◌||◌}
use Rattle.std.specs.List.{list_any}
use Rattle.std.proofs.Math.Seq.{drop-cons, take-suc}
use Rattle.std.proofs.lemmas.List.{length-take-le}
use Rattle.std.proofs.lemmas.List.Folds.{list_any-append}
use Rattle.sdb_exec.specs.Types.{Mention}
use Rattle.sdb_model.specs.Rows.{Name, same_name}
use Rattle.sdb_model.specs.Refused.{is_named_by, repeat_place}

-- the mention at i is taken from those that are left
module _ (ms : List Mention) (i : ℕ) (m : Mention) (within : i < length ms) (at : m ≡ get_or ms i m) where
  rest_of : drop i ms ≡ m ∷ drop (i + 1) ms
  rest_of = drop-cons ms i m within ∙ ap (λ x. x ∷ drop (suc i) ms) (sym at) ∙ ap (λ n. m ∷ drop n ms) (sym (add-one i))

  taken : take (i + 1) ms ≡ take i ms ++ m ∷ []
  taken = ap (λ n. take n ms) (add-one i) ∙ take-suc ms i m within ∙ ap (λ x. take i ms ++ x ∷ []) (sym at)

  pub repeated : list_any (is_named_by m.name) (take i ms) ≡ true → repeat_place (take i ms) (drop i ms) ≡ Some (i + 1)
  repeated h =
      ap (repeat_place (take i ms)) rest_of
      ∙ ap (λ b. cond b (Some (length (take i ms) + 1)) (repeat_place (take i ms ++ m ∷ []) (drop (i + 1) ms))) h
      ∙ ap (λ n. Some (n + 1)) (length-take-le i ms (omega arith))

  pub not_repeated : list_any (is_named_by m.name) (take i ms) ≡ false → repeat_place (take (i + 1) ms) (drop (i + 1) ms) ≡ repeat_place (take i ms) (drop i ms)
  not_repeated h =
      ap (λ xs. repeat_place xs (drop (i + 1) ms)) taken
      ∙ sym (ap (repeat_place (take i ms)) rest_of ∙ ap (λ b. cond b (Some (length (take i ms) + 1)) (repeat_place (take i ms ++ m ∷ []) (drop (i + 1) ms))) h)

  -- a name is among those passed, where the mention's name was added to them
  pub passed_more : (q : Name) (old new : Bool) → new ≡ cond (same_name m.name q) true old → old ≡ list_any (is_named_by q) (take i ms) → new ≡ list_any (is_named_by q) (take (i + 1) ms)
  passed_more q old new e h =
      e
      ∙ ap (λ b. cond (same_name m.name q) true b) h
      ∙ last (same_name m.name q) (list_any (is_named_by q) (take i ms))
      ∙ sym (ap (list_any (is_named_by q)) taken ∙ list_any-append (is_named_by q) (take i ms) (m ∷ []))
    where
      last : (b c : Bool) → cond b true c ≡ (c || (b || false))
      last true true = refl
      last true false = refl
      last false true = refl
      last false false = refl
