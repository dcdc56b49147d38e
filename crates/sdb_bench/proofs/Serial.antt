-- The transactions of a bench, run whole one after the other, leave even rows.
use Rattle.std.proofs.Common.{◌≡◌, ℕ, suc, ◌+◌, ◌<◌, true, false, List, [], ◌∷◌, ◌++◌, drop, map, take, sym, ap, subst, ◌∙◌, arith}
use Rattle.std.specs.Prelude.{All, ◌==◌, slice_index}
use Rattle.std.specs.List.{AllByRecursion}
use Rattle.std.specs.List.Sorted.{IsStrictlyIncreasing}
use Rattle.std.specs.FinMap.{empty}
use Rattle.sdb_bench.specs.Types.{Event, Outcome, Pair, Point, Statement, Table, TxId}
use Rattle.sdb_types.specs.Order.{key_cmp}
use Rattle.sdb_types.proofs.Public.{all_each, by_test, clash, eq_of}
use Rattle.sdb_model.specs.Events.{StoreContents}
use Rattle.sdb_model.specs.Exec.{Tables, exec}
use Rattle.sdb_model.specs.Serial.{AreRead, AreSteps, Body, IsRun, Step, additions, dumps_of, run_body, serial}
use Rattle.sdb_model.specs.Transactions.{body, point}
use Rattle.sdb_bench.specs.Counts.{uneven_of}
use Rattle.sdb_bench.specs.Script.{bench_clients, bench_script_of}
use Rattle.sdb_bench.specs.Setup.{bench_catalog}
use Rattle.sdb_bench.proofs.Bodied.{other_body, setup_body, setup_id}
use Rattle.sdb_bench.proofs.Even.{AreCells, HasNone, IsEven, all_zero, insert_zero, no_entries, none_zero, update_even, update_none}
use Rattle.sdb_bench.proofs.Evenness.{even_dumps}
use Rattle.sdb_bench.proofs.ReadAs.{Changes, Closes, Inserts, IsInsert, IsOf, IsUpdate, Opens, Updates}
use Rattle.sdb_bench.proofs.AcceptedTexts.{AreTaken, all_taken}
use Rattle.sdb_bench.proofs.Fixed.{AddsNone, moves_add_none, none_between, none_later, same_tables}
use Rattle.sdb_bench.proofs.Playable.{bench_moves_are}
use Rattle.law_protocol.proofs.Public.{rest_rising}

---- one body

abbrev pub after : Statement → Tables → Tables
after st d = (exec bench_catalog st d).1

abbrev pub after_body : List Statement → Tables → Tables
after_body b d = (run_body bench_catalog b d).1

-- What each statement of a body preserves, the body preserves.
body_preserves : (P : Statement → Type 0) (Q : Tables → Type 0) → ((st : Statement) (d : Tables) → P st → Q d → Q (after st d)) → (b : List Statement) (d : Tables) → AllByRecursion P b → Q d → Q (after_body b d)
body_preserves P Q each [] d h q = q
body_preserves P Q each (st ∷ b) d h q = body_preserves P Q each b (after st d) h.1 (each st d h.0 q)

-- So does a BEGIN or a COMMIT, which changes nothing.
kind_preserves : (P : Statement → Type 0) (Q : Tables → Type 0) → ((st : Statement) (d : Tables) → P st → Q d → Q (after st d)) → (st : Statement) (d : Tables) → IsOf P st → Q d → Q (after st d)
kind_preserves P Q each st d (Opens e) q = subst (λ (s : Statement). Q (after s d)) (sym e) q
kind_preserves P Q each st d (Closes e) q = subst (λ (s : Statement). Q (after s d)) (sym e) q
kind_preserves P Q each st d (Changes h) q = each st d h q

inserts_zero : (st : Statement) (d : Tables) → Inserts st → AreCells all_zero d → AreCells all_zero (after st d)
inserts_zero st d h q = subst (λ (s : Statement). AreCells all_zero (after s d)) (sym h.same) (insert_zero h.side h.p h.n d q)

updates_even : (st : Statement) (d : Tables) → Updates st → IsEven d → IsEven (after st d)
updates_even st d h q = subst (λ (s : Statement). IsEven (after s d)) (sym h.same) (update_even h.side h.p h.v d q)

updates_none : (st : Statement) (d : Tables) → Updates st → HasNone d → HasNone (after st d)
updates_none st d h q = subst (λ (s : Statement). HasNone (after s d)) (sym h.same) (update_none h.side h.p h.v d q)

setup_even : (b : List Statement) (d : Tables) → AllByRecursion IsInsert b → HasNone d → IsEven (after_body b d)
setup_even b d h q = (all_zero, body_preserves IsInsert (AreCells all_zero) (kind_preserves Inserts (AreCells all_zero) inserts_zero) b d h (none_zero d q))

other_even : (b : List Statement) (d : Tables) → AllByRecursion IsUpdate b → IsEven d → IsEven (after_body b d)
other_even = body_preserves IsUpdate IsEven (kind_preserves Updates IsEven updates_even)

other_none : (b : List Statement) (d : Tables) → AllByRecursion IsUpdate b → HasNone d → HasNone (after_body b d)
other_none = body_preserves IsUpdate HasNone (kind_preserves Updates HasNone updates_none)

---- all bodies

-- a transaction that is not the setup
abbrev pub IsOther : Point → Type 0
IsOther p = p.id ≡ setup_id → ⊥

-- no transaction comes twice
abbrev pub AreOnce : List Point → Type 0
AreOnce [] = Unit {0}
AreOnce (p ∷ ps) = AllByRecursion (λ q. p.id ≡ q.id → ⊥) ps × AreOnce ps

-- the rows that steps leave
abbrev pub left : List Step → Tables → Tables
left steps d = (serial bench_catalog steps d).1

-- Where no column is added, the steps after so many events are the bodies alone.
last_step : (events : List Event) (m : ℕ) (steps : List Step) (Q : Tables → Type 0) (d : Tables) → AllByRecursion AddsNone events → AreSteps events m [] steps → Q d → Q (left steps d)
last_step events m steps Q d none read h = subst (λ (ss : List Step). Q (left ss d)) (sym (read ∙ none_later events m none)) h

next_step : (events : List Event) (m at : ℕ) (steps : List Step) (b : List Statement) (later : List Step) (Q : Tables → Type 0) (d : Tables) → AllByRecursion AddsNone events → steps ≡ additions (drop m (take at events)) ++ Body b ∷ later → Q (left later (after_body b d)) → Q (left steps d)
next_step events m at steps b later Q d none whole h =
    subst (λ (ss : List Step). Q (left ss d)) (sym (whole ∙ ap (λ (ss : List Step). ss ++ Body b ∷ later) (none_between events m at none))) h

after_setup : (n : ℕ) (events : List Event) → AreTaken (bench_clients n) events → AllByRecursion AddsNone events → (m : ℕ) (ps : List Point) (steps : List Step) (d : Tables) → AreSteps events m ps steps → AllByRecursion IsOther ps → IsEven d → IsEven (left steps d)
after_setup n events accepted none m [] steps d read other h = last_step events m steps IsEven d none read h
after_setup n events accepted none m (p ∷ ps) steps d (b, later, whole, body_read, rest) other h =
    next_step events m p.event steps b later IsEven d none whole
    (after_setup n events accepted none p.event ps later (after_body b d) rest other.1 (other_even b d (other_body n events p.id b accepted other.0 body_read) h))

same_id : (id : TxId) → (id.0 == setup_id.0) ≡ true → id ≡ setup_id
same_id id e = let same : id.0 ≡ setup_id.0 = eq_of id.0 setup_id.0 e in λ i. record { 0 = same i }

other_id : (id : TxId) → (id.0 == setup_id.0) ≡ false → id ≡ setup_id → ⊥
other_id id e same = clash (sym (ap (λ (x : TxId). x.0 == setup_id.0) same) ∙ e)

before_setup : (n : ℕ) (events : List Event) → AreTaken (bench_clients n) events → AllByRecursion AddsNone events → (m : ℕ) (ps : List Point) (steps : List Step) (d : Tables) → AreSteps events m ps steps → AreOnce ps → HasNone d → IsEven (left steps d)
before_setup n events accepted none m [] steps d read once h = last_step events m steps IsEven d none read (all_zero, none_zero d h)
before_setup n events accepted none m (p ∷ ps) steps d (b, later, whole, body_read, rest) once h =
    next_step events m p.event steps b later IsEven d none whole
    (by_test (p.id.0 == setup_id.0)
    (λ e.
    let own : p.id ≡ setup_id = same_id p.id e in
    let inserts : AllByRecursion IsInsert b = setup_body n events b accepted (subst (λ (id : TxId). AreRead (body events id) b) own body_read) in
    after_setup n events accepted none p.event ps later (after_body b d) rest (all_each (λ q. p.id ≡ q.id → ⊥) IsOther ps (λ q apart same. apart (own ∙ sym same)) once.0) (setup_even b d inserts h))
    (λ e.
    let updates : AllByRecursion IsUpdate b = other_body n events p.id b accepted (other_id p.id e) body_read in
    before_setup n events accepted none p.event ps later (after_body b d) rest once.1 (other_none b d updates h)))

---- an order has each transaction once

-- events after this one
abbrev pub AreAfter : ℕ → List Point → Type 0
AreAfter m ps = AllByRecursion (λ p. m < p.event) ps

first_below : (p : Point) (ps : List Point) → IsStrictlyIncreasing (map (λ (x : Point). x.event) (p ∷ ps)) → AreAfter p.event ps
first_below p [] r = tt
first_below p (q ∷ ps) r =
    let first : p.event < q.event = r 0 (omega arith) in
    (first, all_each (λ (x : Point). q.event < x.event) (λ x. p.event < x.event) ps (λ x more. omega arith) (first_below q ps (rest_rising p.event (map (λ (x : Point). x.event) (q ∷ ps)) r)))

at_points : (f : TxId → ℕ) (ps : List Point) → All (λ p. p.event ≡ f p.id) ps → AllByRecursion (λ p. p.event ≡ f p.id) ps
at_points f [] h = tt
at_points f (p ∷ ps) h = (h 0 p (omega arith), at_points f ps (λ k d less. h (suc k) d (omega arith)))

apart_from : (f : TxId → ℕ) (p : Point) (ps : List Point) → p.event ≡ f p.id → AllByRecursion (λ q. q.event ≡ f q.id) ps → AreAfter p.event ps → AllByRecursion (λ q. p.id ≡ q.id → ⊥) ps
apart_from f p [] own points later = tt
apart_from f p (q ∷ ps) own points later = (
  (λ same.
      let one : p.event ≡ q.event = own ∙ ap f same ∙ sym points.0 in
      let less : p.event < q.event = later.0 in
      omega arith),
  apart_from f p ps own points.1 later.1,
)

are_once : (f : TxId → ℕ) (ps : List Point) → AllByRecursion (λ p. p.event ≡ f p.id) ps → IsStrictlyIncreasing (map (λ (x : Point). x.event) ps) → AreOnce ps
are_once f [] points r = tt
are_once f (p ∷ ps) points r =
    (apart_from f p ps points.0 points.1 (first_below p ps r), are_once f ps points.1 (rest_rising p.event (map (λ (x : Point). x.event) ps) r))

---- a run

pub run_is_even : (n : ℕ) (first last : List ℕ) (opening closing : List StoreContents) (outcome : Outcome) → IsRun (bench_script_of n first last) opening closing outcome → uneven_of outcome.tables ≡ 0
unfolding bench_script_of
run_is_even n first last opening closing outcome run =
    let accepted = all_taken (bench_script_of n first last) outcome.events run.follows in
    let once = are_once (point outcome.events) outcome.order (at_points (point outcome.events) outcome.order run.order.points) run.order.rising in
    let none : HasNone (empty {X = List Pair} {R = key_cmp}) = subst (AllByRecursion (λ e. ⊥)) (sym no_entries) tt in
    let fixed = moves_add_none (bench_script_of n first last) (bench_script_of n first last).moves [] outcome.events (bench_moves_are n first last) run.follows in
    let even = before_setup n outcome.events accepted fixed 0 outcome.order run.answered.steps empty run.answered.read once none in
    let rows : Tables = left run.answered.steps empty in
    ap uneven_of (run.answered.printed ∙ ap (λ (ts : List Table). dumps_of ts rows) (same_tables bench_catalog outcome.events fixed)) ∙ even_dumps rows even
