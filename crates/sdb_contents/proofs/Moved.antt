-- Entries read one after the other, where some namespaces move.
use Rattle.std.proofs.Common.{◌≡◌, ℕ, suc, ◌<◌, List, [], ◌∷◌, ◌++◌, length, map, take, drop, get_or, take-append-drop, true, Option, Some, None, refl, sym, ap, subst, ◌∙◌, append_assoc, append-nil}
use Rattle.std.specs.List.{list_all}
use Rattle.std.proofs.Math.Seq.{drop-cons}
use Rattle.sdb_contents.specs.Types.{Entry, Key, Record}
use Rattle.sdb_types.proofs.Public.{and_both}
use Rattle.sdb_schema.specs.Table.{rises}
use Rattle.sdb_catalog.specs.Rows.{row_of}
use Rattle.sdb_catalog.proofs.Public.{kept_rises}
use Rattle.sdb_contents.specs.Moving.{FollowMoving, FollowsMoving, IsFirstBadMoving}

pub follow_more : (names : List (List ℕ)) (from to : List ℕ) (passed es : List Entry) (e : Entry) → FollowMoving names from to passed es → FollowsMoving names from to (passed ++ es) e → FollowMoving names from to passed (es ++ e ∷ [])
follow_more names from to passed [] e h k = (subst (λ (l : List Entry). FollowsMoving names from to l e) (append-nil passed) k, tt)
follow_more names from to passed (x ∷ xs) e h k =
    (h.0, follow_more names from to (passed ++ x ∷ []) xs e h.1 (subst (λ (l : List Entry). FollowsMoving names from to l e) (sym (append_assoc passed (x ∷ []) xs)) k))

pub first_bad : (names : List (List ℕ)) (from to : List ℕ) (rows : List Record) (i : ℕ) (row : Record) (es : List Entry) (found : Option Entry) (place : Key) → i < length rows → row ≡ get_or rows i row → take i rows ≡ map row_of es → FollowMoving names from to [] es
    → ((e : Entry) → row_of e ≡ row → FollowsMoving names from to es e → found ≡ Some e) → found ≡ None → place ≡ row.key → IsFirstBadMoving names from to rows place
first_bad names from to rows i row es found place inside is h follow read none at = record {
  passed = es;
  bad = row;
  later = drop (suc i) rows;
  rows = sym (take-append-drop i rows) ∙ ap (λ (l : List Record). l ++ drop i rows) h ∙ ap (λ (l : List Record). map row_of es ++ l) (drop-cons rows i row inside) ∙ ap (λ (r : Record). map row_of es ++ r ∷ drop (suc i) rows) (sym is);
  follow = follow;
  stops = λ e same fit. absurd (let f : None ≡ Some e = sym none ∙ read e same fit in cc);
  key = sym at;
}

-- the columns of each table that has a row are in the order of their names
pub each_rises : (names : List (List ℕ)) (from to : List ℕ) (passed es : List Entry) → FollowMoving names from to passed es → list_all (λ (e : Entry). rises e.table.columns) es ≡ true
each_rises names from to passed [] h = refl
each_rises names from to passed (e ∷ es) h = and_both (rises e.table.columns) (list_all (λ (a : Entry). rises a.table.columns) es) (kept_rises e.table h.0.0.table) (each_rises names from to (passed ++ e ∷ []) es h.1)
