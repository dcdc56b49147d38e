-- The spans of the first tables of a catalog, with one table more.
use Rattle.std.proofs.Common.{◌≡◌, ℕ, ◌+◌, List, [], ◌∷◌, ◌++◌, map, take, Some, slice_get, sym, ap, ◌∙◌}
use Rattle.std.proofs.lemmas.List.{map-append, take_more}
use Rattle.std.proofs.lemmas.Option.{get_or_from_slice_get, slice_get_within}
use Rattle.sdb_vacuum.specs.Types.{Span, Table}
use Rattle.sdb_vacuum.specs.Vacuum.{whole}

pub span_more : (ts : List Table) (spans more : List Span) (i : ℕ) (t : Table) (s : Span) → slice_get ts i ≡ Some t → s ≡ whole t → spans ≡ map whole (take i ts) → more ≡ spans ++ s ∷ [] → more ≡ map whole (take (i + 1) ts)
span_more ts spans more i t s here is so pushed =
    pushed ∙ ap (λ (x : Span). spans ++ x ∷ []) is ∙ ap (λ (xs : List Span). xs ++ whole t ∷ []) so
    ∙ sym (map-append whole (take i ts) (t ∷ []))
    ∙ ap (map whole) (ap (λ (x : Table). take i ts ++ x ∷ []) (sym (get_or_from_slice_get ts i t t here)) ∙ sym (take_more ts i t (slice_get_within ts i t here)))
