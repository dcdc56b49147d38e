-- What a run owes its clients follows from what its transactions did and said.
use Rattle.std.proofs.Common.{◌≡◌, ◌≤◌, ◌<◌, ◌^◌, ℕ, zero, suc, Bool, true, false, List, [], ◌∷◌, ◌++◌, length, map, Some, None, refl, sym, ap, subst, ◌∙◌, arith}
use Rattle.std.specs.Prelude.{All, Contains, drop, is_some, slice_index_or, take, if◌then◌else◌}
use Rattle.std.specs.FinMap.{get, empty}
use Rattle.std.specs.List.{AllByRecursion}
use Rattle.std.proofs.lemmas.List.{append-nil}
use Rattle.law_clients.specs.Types.{Answer, Event, Place, Point, Statement, Table, TableDump}
use Rattle.sdb_record.specs.declared.coordinator.Decision.TheVariants.{Committed}
use Rattle.sdb_record.specs.Coordinator.{coordinator_key_of}
use Rattle.sdb_model.specs.declared.event.Altered.TheVariants as altered
use Rattle.sdb_model.specs.declared.event.Event.TheVariants as event
use Rattle.sdb_model.specs.Catalogs.{added, catalog_after, with_added}
use Rattle.sdb_model.specs.Events.{StoreContents}
use Rattle.sdb_model.specs.Exec.{Tables, find_table}
use Rattle.sdb_model.specs.Images.{row_at}
use Rattle.sdb_model.specs.Serial.{AreImages, AreSteps, Body, IsSerial, RespectsRealTime, Step, TransactionsInRealTime, CommittedIsOwned, additions, answers_given, dumps_of, run_body, serial}
use Rattle.sdb_model.specs.Transactions.{IsOrder, Recorded}
use Rattle.law_protocol.specs.Plan.{Plan}
use Rattle.law_protocol.specs.History.{History, ProtocolState}
use Rattle.law_protocol.specs.Lawful.{Labelled, id, protocol_state}
use Rattle.law_protocol.specs.Serial.{IsOrdered}
use Rattle.law_protocol.specs.Trace.{closing, history}
use Rattle.law_protocol.specs.Explained.{IsRunOf, newest_first, events_of}
use Rattle.law_protocol.specs.Faithful.{IsFaithful}
use Rattle.law_protocol.proofs.Public.{answers_true, keeps_real_time, ordered_of, point_of, recorded_row, whole_of}
use Rattle.law_clients.specs.Catalogs.{catalog_at_point}
use Rattle.law_clients.specs.Left.{Execution, ExecutionOk, BodyIsExecuted, AllBodiesExecuted, IsFitting, RunsWhole, ContainsTables, body_at_point, ordinals_of, run_bodies}
use Rattle.law_clients.proofs.Catalogs.{now_after, upto_after}
use Rattle.law_clients.proofs.Wholes.{RiseFrom, order_runs, rise_all}
use Rattle.sdb_types.proofs.Public.{all_each as each_any}

---- steps

-- the steps of an order, after the first n events
abbrev steps_after : List Event → (ℕ → Execution) → ℕ → List Point → List Step
steps_after events ran n [] = additions (drop n events)
steps_after events ran n (p ∷ ps) = additions (drop n (take p.event events)) ++ Body (ran p.id.0).body ∷ steps_after events ran p.event ps

steps_read : (catalog : List Table) (fit : List Table → Tables → Bool) (plan : ℕ → Plan) (events : List Event) (past : List Labelled) (ran : ℕ → Execution) (n : ℕ) (order : List Point) → AllBodiesExecuted catalog fit plan events past ran (ordinals_of order) → AreSteps events n order (steps_after events ran n order)
steps_read catalog fit plan events past ran n [] all = refl
steps_read catalog fit plan events past ran n (p ∷ ps) all = ((ran p.id.0).body, steps_after events ran p.event ps, refl, all.0.1.read, steps_read catalog fit plan events past ran p.event ps all.1)

-- columns that are added change the catalog alone
additions_run : (catalog : List Table) (es : List Event) (ss : List Step) (d : Tables) → serial catalog (additions es ++ ss) d ≡ serial (catalog_after catalog es) ss d
additions_run catalog [] ss d = refl
additions_run catalog (event.Alter table column kind altered.Done ∷ es) ss d = additions_run (with_added catalog table (record { name = column; kind = kind })) es ss d
additions_run catalog (event.Alter table column kind altered.Open ∷ es) ss d = additions_run catalog es ss d
additions_run catalog (event.Alter table column kind (altered.Refused k) ∷ es) ss d = additions_run catalog es ss d
additions_run catalog (event.Take c text a ∷ es) ss d = additions_run catalog es ss d
additions_run catalog (event.Call c store q how r a ∷ es) ss d = additions_run catalog es ss d
additions_run catalog (event.Stop c ∷ es) ss d = additions_run catalog es ss d
additions_run catalog (event.Clock moment ∷ es) ss d = additions_run catalog es ss d
additions_run catalog (event.Idle c ∷ es) ss d = additions_run catalog es ss d
additions_run catalog (event.Land number store q how r ∷ es) ss d = additions_run catalog es ss d

additions_last : (catalog : List Table) (es : List Event) (d : Tables) → serial catalog (additions es) d ≡ ([], d)
additions_last catalog es d = ap (λ (ss : List Step). serial catalog ss d) (sym (append-nil (additions es))) ∙ additions_run catalog es [] d

-- the catalog after the first n events, and then after those up to event m
between : (catalog : List Table) (n m : ℕ) (es : List Event) → n ≤ m → catalog_after (catalog_after catalog (take n es)) (drop n (take m es)) ≡ catalog_after catalog (take m es)
between catalog zero m es l = refl
between catalog (suc n) zero es l = absurd (omega (arith, l))
between catalog (suc n) (suc m) [] l = refl
between catalog (suc n) (suc m) (e ∷ es) l = between (added catalog e) n m es (less n m l)
  where
    less : (n m : ℕ) → suc n ≤ suc m → n ≤ m
    less n m l = omega arith

-- each transaction of an order stands at its point
abbrev IsAtPoint : List Labelled → Point → Type 0
IsAtPoint past p = p.event ≡ (protocol_state past).point p.id.0

-- Run after the first n events, the steps of an order are its bodies, each under the catalog of its point.
steps_run : (catalog : List Table) (labelled : List Labelled) (ran : ℕ → Execution) (n : ℕ) (order : List Point) (d : Tables) → RiseFrom (newest_first labelled) n (ordinals_of order) → AllByRecursion (IsAtPoint (newest_first labelled)) order
    → serial (catalog_after catalog (take n (events_of labelled))) (steps_after (events_of labelled) ran n order) d ≡ run_bodies (map (body_at_point catalog (newest_first labelled) ran) (ordinals_of order)) d
steps_run catalog labelled ran n [] d rise points = additions_last (catalog_after catalog (take n (events_of labelled))) (drop n (events_of labelled)) d
steps_run catalog labelled ran n (p ∷ ps) d rise points =
    additions_run (catalog_after catalog (take n events)) (drop n (take p.event events)) (Body body ∷ later) d
    ∙ ap (λ (ts : List Table). serial ts (Body body ∷ later) d) (between catalog n p.event events (subst (λ (m : ℕ). n ≤ m) (sym points.0) rise.0))
    ∙ ap (λ (z : List (List Answer) × Tables). ((run_body tables body d).0 ∷ z.0, z.1)) (steps_run catalog labelled ran p.event ps (run_body tables body d).1 (subst (λ (m : ℕ). RiseFrom past m (ordinals_of ps)) (sym points.0) rise.1) points.1)
    ∙ ap (λ (ts : List Table). ((run_body ts body d).0 ∷ (run_bodies bodies (run_body ts body d).1).0, (run_bodies bodies (run_body ts body d).1).1)) there
  where
    events : List Event
    events = events_of labelled

    past : List Labelled
    past = newest_first labelled

    body : List Statement
    body = (ran p.id.0).body

    later : List Step
    later = steps_after events ran p.event ps

    bodies : List (List Table × List Statement)
    bodies = map (body_at_point catalog past ran) (ordinals_of ps)

    tables : List Table
    tables = catalog_after catalog (take p.event events)

    there : tables ≡ catalog_at_point catalog past p.id.0
    there = ap (λ (m : ℕ). catalog_after catalog (take m events)) points.0 ∙ sym (upto_after catalog labelled ((protocol_state past).point p.id.0))

---- a recorded transaction's COMMIT was accepted

pub taken_of : (plan : ℕ → Plan) (places : List Place) (opening : List StoreContents) (past : List Labelled) (ss : List (List StoreContents)) (t : ℕ) → IsRunOf plan places opening past ss → t < 2 ^ 128 → Recorded places (closing opening ss) (id t) → (protocol_state past).accepted t ≡ true
taken_of plan places opening past ss t run fits recorded = by ((protocol_state past).accepted t) refl
  where
    w : History
    w = history plan places opening past ss

    row : w.row t ≡ Some Committed
    row = recorded_row plan places w past (closing opening ss) t (whole_of plan places opening past ss run) fits recorded

    by : (b : Bool) → (protocol_state past).accepted t ≡ b → b ≡ true
    by true e = refl
    by false e = absurd (((whole_of plan places opening past ss run).all.one.accepted t (coordinator_key_of (id t)) 0 (ap (λ (x : ProtocolState). x.accepted t) (sym (whole_of plan places opening past ss run).knows.talks) ∙ e)).4 row)

pub index_map : (ps : List Point) (k : ℕ) (d e : Point) → k < length ps → slice_index_or (map (λ (p : Point). p.id) ps) k e.id ≡ (slice_index_or ps k d).id
index_map [] k d e l = absurd (omega (arith, l))
index_map (p ∷ ps) zero d e l = refl
index_map (p ∷ ps) (suc k) d e l = index_map ps k d e (omega (arith, l))

pub length_ids : (ps : List Point) → length (map (λ (p : Point). p.id) ps) ≡ length ps
length_ids [] = refl
length_ids (p ∷ ps) = ap suc (length_ids ps)

pub all_by : {A : Type 0} (P : A → Type 0) (xs : List A) → All P xs → AllByRecursion P xs
all_by P [] all = tt
all_by P (x ∷ xs) all = (all 0 x (omega arith), all_by P xs (λ k d l. all (suc k) d (omega (arith, l))))

-- each stands at its point
are_at_points : (plan : ℕ → Plan) (places : List Place) (opening : List StoreContents) (labelled : List Labelled) (ss : List (List StoreContents)) (order : List Point)
    → IsRunOf plan places opening (newest_first labelled) ss → IsFaithful (events_of labelled) (newest_first labelled) → IsOrder places (events_of labelled) (closing opening ss) order → All (λ (p : Point). p.id.0 < 2 ^ 128) order
    → AllByRecursion (IsAtPoint (newest_first labelled)) order
are_at_points plan places opening labelled ss order run faithful ordered small = all_by (IsAtPoint (newest_first labelled)) order (λ k d l.
    let p : Point = slice_index_or order k d in
    let among : Contains (map (λ (q : Point). q.id) order) p.id = (k, subst (λ m. k < m) (sym (length_ids order)) l, index_map order k d p l) in
    let recorded : Recorded places (closing opening ss) p.id = (ordered.recorded p.id (small k d l)).0 among in
    ordered.points k d l ∙ point_of labelled p.id.0 run faithful (small k d l) (taken_of plan places opening (newest_first labelled) ss p.id.0 run (small k d l) recorded))

-- and their answers
answers_are : (catalog : List Table) (fit : List Table → Tables → Bool) (plan : ℕ → Plan) (events : List Event) (past : List Labelled) (ran : ℕ → Execution) (order : List Point) → AllBodiesExecuted catalog fit plan events past ran (ordinals_of order) → map (answers_given events) order ≡ map (map Some) (map (λ t. (ran t).answers) (ordinals_of order))
answers_are catalog fit plan events past ran [] all = refl
answers_are catalog fit plan events past ran (p ∷ ps) all = ap (λ x. x ∷ map (answers_given events) ps) all.0.1.answered ∙ ap (λ xs. map Some (ran p.id.0).answers ∷ xs) (answers_are catalog fit plan events past ran ps all.1)

-- the rows that are shown are all
images_are : (catalog : List Table) (fit : List Table → Tables → Bool) (places : List Place) (store_contents : List StoreContents) (e : Tables) → IsFitting catalog fit → (events : List Event) → fit (catalog_after catalog events) e ≡ true → ContainsTables places store_contents e → AreImages catalog places store_contents e
images_are catalog fit places store_contents e fitting events f shows k = by (is_some (find_table catalog k.table)) refl
  where
    by : (b : Bool) → is_some (find_table catalog k.table) ≡ b → get e k ≡ (if b then row_at places store_contents k else None)
    by true t = sym (shows k (fitting.apart k t))
    by false t = fitting.inside events e k f t

-- An order that keeps real time among transactions keeps it as clients see it.
clients_see : (places : List Place) (events : List Event) (store_contents : List StoreContents) (order : List Point) → TransactionsInRealTime places events store_contents order → CommittedIsOwned places events store_contents → RespectsRealTime places events store_contents order
clients_see places events store_contents order real owned client s within answered late fits recorded m n at began less =
    let r = owned client s within answered in
    (r.id, r.commit, real r.id late r.fits fits s r.commit answered recorded m n at began less)

pub run_told : (catalog : List Table) (fit : List Table → Tables → Bool) (plan : ℕ → Plan) (places : List Place) (opening : List StoreContents) (labelled : List Labelled) (ss : List (List StoreContents)) (ran : ℕ → Execution) (order : List Point)
    → IsRunOf plan places opening (newest_first labelled) ss → IsFaithful (events_of labelled) (newest_first labelled) → IsOrder places (events_of labelled) (closing opening ss) order → All (λ (p : Point). p.id.0 < 2 ^ 128) order → IsFitting catalog fit → AllBodiesExecuted catalog fit plan (events_of labelled) (newest_first labelled) ran (ordinals_of order)
    → (tables : List TableDump) × IsSerial catalog places (events_of labelled) (closing opening ss) order tables × RespectsRealTime places (events_of labelled) (closing opening ss) order
run_told catalog fit plan places opening labelled ss ran order run faithful ordered small fitting all = (
  dumps_of (catalog_after catalog events) (serial catalog steps empty).1,
  record {
    steps = steps;
    read = steps_read catalog fit plan events past ran 0 order all;
    answers = answers_are catalog fit plan events past ran order all ∙ ap (λ (x : List (List Answer) × Tables). map (map Some) x.0) (sym whole);
    printed = refl;
    images = subst (AreImages catalog places (closing opening ss)) (ap (λ (x : List (List Answer) × Tables). x.1) (sym whole)) (images_are catalog fit places (closing opening ss) runs.0 fitting events (subst (λ (ts : List Table). fit ts runs.0 ≡ true) (now_after catalog labelled past events refl refl) runs.1.fits) runs.2);
    committed = true_answers.committed;
    owned = true_answers.owned;
    known = true_answers.known;
  },
  clients_see places events (closing opening ss) order (keeps_real_time plan places opening labelled ss order run faithful ordered) true_answers.owned,
)
  where
    events : List Event
    events = events_of labelled

    past : List Labelled
    past = newest_first labelled

    steps : List Step
    steps = steps_after events ran 0 order

    in_order : IsOrdered (history plan places opening past ss) (ordinals_of order)
    in_order = ordered_of labelled order run faithful ordered small

    runs : (e : Tables) × RunsWhole catalog fit past ran (ordinals_of order) empty e × ContainsTables places (closing opening ss) e
    runs = order_runs catalog fit ran (ordinals_of order) run in_order (each_any (λ t. ExecutionOk catalog fit plan past t (ran t) × BodyIsExecuted events t (ran t)) (λ t. ExecutionOk catalog fit plan past t (ran t)) (ordinals_of order) (λ t h. h.0) all) fitting

    -- the steps come to the answers of the order, and to the rows that are shown
    whole : serial catalog steps empty ≡ (map (λ t. (ran t).answers) (ordinals_of order), runs.0)
    whole =
        steps_run catalog labelled ran 0 order empty (rise_all (history plan places opening past ss) past (ordinals_of order) (whole_of plan places opening past ss run).knows.talks in_order.rising) (are_at_points plan places opening labelled ss order run faithful ordered small)
        ∙ runs.1.runs

    true_answers : Rattle.law_protocol.specs.Faithful.AnswersAreTrue places events (closing opening ss)
    true_answers = answers_true plan places opening labelled ss run faithful
