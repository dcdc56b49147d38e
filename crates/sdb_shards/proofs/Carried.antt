-- What is known of a move by what is known of its copies.
use Rattle.std.proofs.Common.{◌≡◌, ◌≢◌, ℕ, ◌≤◌, cond, List, [], length, sym, ap, subst, ◌∙◌}
use Rattle.std.specs.Prelude.{◌==◌}
use Rattle.std.proofs.lemmas.Bool.{eq-eqb, ne_eqb}
use Rattle.sdb_types.specs.declared.key.Key.{Key}
use Rattle.sdb_types.specs.declared.record.Record.{Record}
use Rattle.sdb_types.specs.declared.record.Span.{Span}
use Rattle.sdb_types.specs.Contents.{in_span, rows_in}
use Rattle.sdb_types.proofs.Public.{by_test}
use Rattle.sdb_shards.specs.declared.part.Part.{Part}
use Rattle.sdb_shards.specs.declared.refused.MoveRefused.{MoveRefused}
use Rattle.sdb_shards.specs.declared.shards.Shards.{Shards}
use Rattle.sdb_shards.specs.Boxes.{HaveRisen, contents_at}
use Rattle.sdb_shards.specs.Homes.{span_of}
use Rattle.sdb_shards.specs.Moves.{AreFree, IsBlocked, IsCopyRefusal, IsRefusal}
use Rattle.sdb_shards.specs.Moved.{IsMove, rows_of}
use Rattle.sdb_shards.specs.Whole.{home_in}
use Rattle.sdb_shards.proofs.Copies.{free_along}
use Rattle.sdb_shards.proofs.Moving.{home_inside}
use Rattle.sdb_shards.proofs.Risen.{refused_as}

module _ (key : Key) (span : Span) (from to : ℕ) (old : Shards) (span_is : span ≡ span_of key) (here : from ≡ home_in old key) where
  rows_there : (at : ℕ) → rows_in span (contents_at old.boxes at) ≡ rows_of old key at
  rows_there at = ap (λ (s : Span). rows_in s (contents_at old.boxes at)) span_is

  rows_here : rows_in span (contents_at old.boxes from) ≡ rows_of old key (home_in old key)
  rows_here = rows_there from ∙ ap (rows_of old key) here

  pub free_there : AreFree (rows_in span (contents_at old.boxes from)) (rows_in span (contents_at old.boxes to)) → AreFree (rows_of old key (home_in old key)) (rows_of old key to)
  free_there free = free_along (rows_in span (contents_at old.boxes from)) (rows_in span (contents_at old.boxes to)) (rows_of old key (home_in old key)) (rows_of old key to) rows_here (rows_there to) free

  pub why_not : (later : List Part) (e : MoveRefused) → IsCopyRefusal (rows_in span (contents_at old.boxes from)) (rows_in span (contents_at old.boxes to)) old.boxes later e
      → IsRefusal (length old.boxes ≤ to) (HaveRisen old.boxes later) (IsBlocked (rows_of old key (home_in old key)) (rows_of old key to)) e
  why_not later e why = refused_as e (λ h. absurd h) (λ h. h)
      (λ k h. subst (λ (z : List Record). IsBlocked z (rows_of old key to) k) rows_here (subst (λ (z : List Record). IsBlocked (rows_in span (contents_at old.boxes from)) z k) (rows_there to) h)) why

  pub counted : from ≢ to → (rows : List Record) → rows ≡ rows_in span (contents_at old.boxes from) → length rows ≡ cond (home_in old key == to) 0 (length (rows_of old key (home_in old key)))
  counted other rows are =
      ap length (are ∙ rows_here) ∙ sym (ap (λ b. cond b 0 (length (rows_of old key (home_in old key)))) (ne_eqb (home_in old key) to (λ e. other (here ∙ e))))

-- a partition whose home the box is
pub already : (key : Key) (flat : key.clustering ≡ []) (from to : ℕ) (old : Shards) → from ≡ home_in old key → from ≡ to → IsMove key to old old 0
already key flat from to old here same = record {
  count = sym (ap (λ b. cond b 0 (length (rows_of old key (home_in old key)))) (eq-eqb (home_in old key) to (sym here ∙ same)));
  homes = λ k. by_test (in_span (span_of key) k)
      (λ t. home_inside key flat old.moved (length old.boxes) from here k t ∙ same ∙ sym (ap (λ b. cond b to (home_in old k)) t))
      (λ f. sym (ap (λ b. cond b to (home_in old k)) f));
  free = λ other. absurd (other (sym here ∙ same));
}
