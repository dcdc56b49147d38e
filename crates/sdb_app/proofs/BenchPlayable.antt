-- The script of a bench is playable, and its moves can be made.
use Rattle.std.proofs.Common.{◌≡◌, ◌≢◌, ℕ, zero, suc, ◌<◌, ◌≤◌, not, List, [], ◌∷◌, codes, length, sym, ap, subst, arith}
use Rattle.std.specs.Prelude.{◌-◌, All, AllPairs, Contains}
use Rattle.std.proofs.lemmas.Option.{unwrap_or-slice_get}
use Rattle.std.proofs.lemmas.List.Elements.{Contains-get_or}
use Rattle.std.proofs.lemmas.List.{length-map}
use Rattle.std.specs.Str.{bytes_eq}
use Rattle.sdb_types.proofs.Public.{all_each, clash}
use Rattle.sdb_model.specs.declared.script.Act.TheVariants as act
use Rattle.sdb_app.specs.Types.{Move, Outcome, Place}
use Rattle.sdb_model.specs.declared.script.Move.TheVariants as move
use Rattle.sdb_client.specs.Execution.{IsPlayable}
use Rattle.sdb_world.specs.Step.{CanFollow, CanMove}
use Rattle.sdb_bench.specs.Script.{IsOfNine, bench_script_of}
use Rattle.sdb_stores.specs.Views.{Attached, StoreView as Counted, names_of}
use Rattle.sdb_model.specs.Events.{StoreContents}
use Rattle.sdb_model.specs.Serial.{IsRun}
use Rattle.sdb_bench.specs.Counts.{bench_text_of, uneven_of}
use Rattle.sdb_app.specs.Bench.{IsBenchedOn, bench_over, name_at}
use Rattle.sdb_app.specs.Run.{CanBePlaced, IsReportable}
use Rattle.sdb_bench.proofs.Public.{bench_apart, bench_catalog_is, bench_moves_are, bench_nine, bench_short}

-- The script of a bench is playable.
pub playable : (n : ℕ) (first last : List ℕ) → IsPlayable (bench_script_of n first last)
playable n first last =
    record {
      catalog = bench_catalog_is n first last;
      apart = λ k f. ap not (bench_apart n first last k.table f);
      few = let nine = bench_nine n first last in omega arith;
      short = bench_short n first last;
    }

can_move : (n : ℕ) (first last : List ℕ) (m : Move) → IsOfNine m → CanMove (bench_script_of n first last) m
can_move n first last (move.Act (act.Step c)) h = (h.0, subst (λ (k : ℕ). c ≤ k) (sym (bench_nine n first last)) h.1)
can_move n first last (move.Act (act.Lose c)) h = absurd h
can_move n first last (move.Act (act.Discard c)) h = absurd h
can_move n first last (move.Act (act.Delay c)) h = absurd h
can_move n first last (move.Act (act.Land number)) h = absurd h
can_move n first last (move.Act (act.Stop c)) h = absurd h
can_move n first last (move.Act (act.Clock moment)) h = absurd h
can_move n first last (move.Act (act.Alter table column kind)) h = absurd h
can_move n first last (move.Repeat c times) h = (h.0, subst (λ (k : ℕ). c ≤ k) (sym (bench_nine n first last)) h.1)
can_move n first last move.Rest h = tt

-- Each of its moves can be made.
pub followable : (n : ℕ) (first last : List ℕ) → CanFollow (bench_script_of n first last)
followable n first last =
    all_each IsOfNine (CanMove (bench_script_of n first last)) (bench_script_of n first last).moves (can_move n first last) (bench_moves_are n first last)

both : {X : Type 0} (P : X → Type 0) (x y : X) → P x → P y → All P (x ∷ y ∷ [])
both P x y px py zero d less = px
both P x y px py (suc zero) d less = py
both P x y px py (suc (suc k)) d less = absurd (omega arith)

differ : {X : Type 0} (x y : X) → x ≢ y → AllPairs ◌≢◌ (x ∷ y ∷ [])
differ x y apart zero zero d less within = absurd (omega arith)
differ x y apart zero (suc zero) d less within = apart
differ x y apart zero (suc (suc j)) d less within = absurd (omega arith)
differ x y apart (suc i) zero d less within = absurd (omega arith)
differ x y apart (suc i) (suc j) d less within = absurd (omega arith)

sides_differ : codes "benchl" ≡ codes "benchr" → ⊥
sides_differ e = clash (ap (bytes_eq (codes "benchl")) e)

-- Its places can be made, where these two stores are attached.
pub placeable : (stores : List (List ℕ)) (n : ℕ) (first last : List ℕ) → Contains stores first → Contains stores last → CanBePlaced stores (bench_script_of n first last).places
unfolding bench_script_of
placeable stores n first last has_first has_last =
    let left : Place = record { ns = codes "benchl"; store = first } in
    let right : Place = record { ns = codes "benchr"; store = last } in
    record {
      once = differ (codes "benchl") (codes "benchr") sides_differ;
      attached = both (λ (p : Place). Contains stores p.store) left right has_first has_last;
    }

-- a name that stores of these names have at a place
name_there : (stores : List (List ℕ)) (i : ℕ) → i < length stores → Contains stores (name_at stores i)
name_there stores i within = subst (λ (n : List ℕ). Contains stores n) (sym (unwrap_or-slice_get stores i [])) (Contains-get_or stores i [] within)

named_count : (store_contents : List Counted) → length (names_of store_contents) ≡ length store_contents
named_count store_contents = length-map store_contents (λ (s : Counted). s.name)

-- The places of a bench over attached stores can be made.
pub placed_over : (n : ℕ) (store_contents : List Counted) → 0 < length store_contents → CanBePlaced (names_of store_contents) (bench_over n (names_of store_contents)).places
placed_over n store_contents some =
    let count = named_count store_contents in
    placeable (names_of store_contents) n (name_at (names_of store_contents) 0) (name_at (names_of store_contents) (length (names_of store_contents) - 1)) (name_there (names_of store_contents) 0 (omega arith)) (name_there (names_of store_contents) (length (names_of store_contents) - 1) (omega arith))

-- What is counted over its outcome.
pub benched_on : (n : ℕ) (old : Attached) (left : List Counted) (o : Outcome) (answer : List ℕ) → IsReportable (bench_over n (names_of old.views)) old left o → answer ≡ bench_text_of n o
    → ((first last : List ℕ) (opening closing : List StoreContents) → IsRun (bench_script_of n first last) opening closing o → uneven_of o.tables ≡ 0) → IsBenchedOn n old left answer
benched_on n old left o answer made is even = record {
  outcome = o;
  made = made;
  text = is;
  even = λ all. even _ _ _ _ (made.correct all).run;
}
