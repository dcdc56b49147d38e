-- The transactions of the order, run whole one after the other, give the answers that their statements had.
use Rattle.std.proofs.Common.{◌≡◌, ◌≤◌, ◌<◌, ◌+◌, ℕ, true, List, [], ◌∷◌, ◌++◌, length, map, refl, sym, ap, subst, ◌∙◌, Bool, arith}
use Rattle.std.specs.FinMap.{empty}
use Rattle.std.specs.FinMap as map
use Rattle.std.proofs.lemmas.List.{append_assoc, append-nil}
use Rattle.law_clients.specs.Types.{Answer, Place, Record, Statement, Table}
use Rattle.sdb_types.specs.Order.{key_cmp}
use Rattle.sdb_record.specs.Meta.{id_in}
use Rattle.sdb_record.specs.Rolls.{row_of_image}
use Rattle.sdb_model.specs.Events.{StoreContents}
use Rattle.sdb_model.specs.Exec.{Tables}
use Rattle.sdb_snapshot.specs.Rows.{with_own}
use Rattle.sdb_snapshot.specs.Seen.{Seen}
use Rattle.law_protocol.specs.Plan.{Plan}
use Rattle.law_protocol.specs.History.{History, ProtocolState}
use Rattle.law_protocol.specs.Lawful.{Labelled, id, protocol_state}
use Rattle.law_protocol.specs.Records.{write_there}
use Rattle.law_protocol.specs.Trace.{closing, history}
use Rattle.law_protocol.specs.Explained.{IsRunOf}
use Rattle.law_protocol.specs.Serial.{AllAbove, IsOrdered, IsRising, ReadsSerial}
use Rattle.law_protocol.proofs.Public.{firm_of, firm_row, firm_writer, reads_serial, rows_serial, whole_of, writer_accepted, writes_it}
use Rattle.law_clients.specs.Reads.{SeenOk}
use Rattle.law_clients.proofs.Seen.{base_settled, base_table}
use Rattle.law_clients.specs.Body.{AgreesAll}
use Rattle.law_clients.specs.Catalogs.{catalog_at_point, catalog_upto}
use Rattle.law_clients.specs.Left.{AreLeft, AreAfter, Execution, AllExecutions, IsFitting, RunsWhole, ContainsTables, body_at_point, run_bodies}
use Rattle.law_clients.proofs.Catalogs.{upto_grows, upto_none, upto_now}
use Rattle.law_clients.proofs.Steps.{agrees, next}

---- what is noted was left

pub notes_left : (plan : ℕ → Plan) (places : List Place) (opening : List StoreContents) (past : List Labelled) (ss : List (List StoreContents)) (s : Seen) → IsRunOf plan places opening past ss → SeenOk past s → AreLeft plan s
notes_left plan places opening past ss s run ok k b e =
    let w = history plan places opening past ss in
    let all = whole_of plan places opening past ss run in
    let firm = firm_of plan w past k b all.knows (base_table past s.read_set k b ok.read_set e) (base_settled past s.read_set k b ok.read_set e) in
    let accepted : w.protocol.accepted firm.t ≡ true = writer_accepted plan w k firm.t all.knows.inv.accepted firm.writer in (
      firm.t,
      ap (λ (x : Record). id_in x.columns) firm.same ∙ firm_writer plan firm.t k firm.fits,
      ap row_of_image firm.same ∙ firm_row plan firm.t k ((all.knows.planned firm.t accepted).write k (write_there (plan firm.t) k) (writes_it (plan firm.t) k firm.writer.1)).0,
    )

---- one after the other

abbrev bodies : List Table → List Labelled → (ℕ → Execution) → List ℕ → List (List Table × List Statement)
bodies catalog past ran order = map (body_at_point catalog past ran) order

-- the points don't fall, from that number on
abbrev pub RiseFrom : List Labelled → ℕ → List ℕ → Type 0
RiseFrom past n [] = Unit {0}
RiseFrom past n (t ∷ ts) = (n ≤ (protocol_state past).point t) × RiseFrom past ((protocol_state past).point t) ts

at_most : (m n : ℕ) → m < n → m ≤ n
at_most m n l = omega arith

rise_above : (w : History) (past : List Labelled) (n : ℕ) (order : List ℕ) → protocol_state past ≡ w.protocol → AllAbove w n order → IsRising w order → RiseFrom past n order
rise_above w past n [] same above rising = tt
rise_above w past n (t ∷ ts) same above rising = (
  at_most n ((protocol_state past).point t) (subst (λ (h : ProtocolState). n < h.point t) (sym same) above.0),
  rise_above w past ((protocol_state past).point t) ts same (subst (λ (h : ProtocolState). AllAbove w (h.point t) ts) (sym same) rising.0) rising.1,
)

pub rise_all : (w : History) (past : List Labelled) (order : List ℕ) → protocol_state past ≡ w.protocol → IsRising w order → RiseFrom past 0 order
rise_all w past [] same rising = tt
rise_all w past (t ∷ ts) same rising = (omega arith, rise_above w past ((protocol_state past).point t) ts same (subst (λ (h : ProtocolState). AllAbove w (h.point t) ts) (sym same) rising.0) rising.1)

module _ (catalog : List Table) (fit : List Table → Tables → Bool) (fitting : IsFitting catalog fit) (plan : ℕ → Plan) (w : History) (past : List Labelled) (ran : ℕ → Execution) (order : List ℕ) (left : (s : Seen) → SeenOk past s → AreLeft plan s) (serial_reads : ReadsSerial plan w order) where
  -- the rest of the order, after its first transactions, the last of which has its point there
  rest_runs : (front back : List ℕ) (n : ℕ) (d : Tables) → order ≡ front ++ back → AllExecutions catalog fit plan past ran back → RiseFrom past n back → AreAfter plan front d → fit (catalog_upto catalog past n) d ≡ true
      → (e : Tables) × RunsWhole catalog fit past ran back d e × AreAfter plan order e
  rest_runs front [] n d is all rise after f = (d, record { runs = refl; fits = subst (λ ts. fit ts d ≡ true) (upto_now catalog past (n + length past) (all_of n (length past))) (upto_grows fit fitting.grows catalog past n (n + length past) d (more n (length past)) f) }, subst (λ o. AreAfter plan o d) (sym (is ∙ append-nil front)) after)
    where
      all_of : (n m : ℕ) → m ≤ n + m
      all_of n m = omega arith

      more : (n m : ℕ) → n ≤ n + m
      more n m = omega arith
  rest_runs front (t ∷ back) n d is all rise after f =
      by (rest_runs (front ++ t ∷ []) back ((protocol_state past).point t) (with_own d r.seen.writes) (is ∙ sym (append_assoc front (t ∷ []) back)) all.1 rise.1 (next plan front t (Rattle.law_clients.specs.Reads.work_of (id t) r.now r.seen) r.seen d all.0.planned refl after) (all.0.body.fits d fits agree))
    where
      r : Execution
      r = ran t

      fits : fit (catalog_at_point catalog past t) d ≡ true
      fits = upto_grows fit fitting.grows catalog past n ((protocol_state past).point t) d rise.0 f

      agree : AgreesAll r.seen d
      agree = agrees plan w past front back t (Rattle.law_clients.specs.Reads.work_of (id t) r.now r.seen) r.seen d (subst (ReadsSerial plan w) is serial_reads) all.0.planned refl refl all.0.seen (left r.seen all.0.seen) after

      by : (e : Tables) × RunsWhole catalog fit past ran back (with_own d r.seen.writes) e × AreAfter plan order e → (e : Tables) × RunsWhole catalog fit past ran (t ∷ back) d e × AreAfter plan order e
      by x = (
        x.0,
        record {
          runs = ap (λ (y : List Answer × Tables). (y.0 ∷ (run_bodies (bodies catalog past ran back) y.1).0, (run_bodies (bodies catalog past ran back) y.1).1)) (all.0.body.runs d fits agree) ∙ ap (λ (z : List (List Answer) × Tables). (r.answers ∷ z.0, z.1)) x.1.runs;
          fits = x.1.fits;
        },
        x.2,
      )

-- Over a run, the recorded transactions in the order of their points, run whole one after the other from empty tables, each under the catalog
-- of its point, give the answers that their statements had, and leave the rows that the stores show.
pub order_runs : (catalog : List Table) (fit : List Table → Tables → Bool) {plan : ℕ → Plan} {places : List Place} {opening : List StoreContents} {past : List Labelled} {ss : List (List StoreContents)} (ran : ℕ → Execution) (order : List ℕ) → IsRunOf plan places opening past ss → IsOrdered (history plan places opening past ss) order → AllExecutions catalog fit plan past ran order → IsFitting catalog fit
    → (e : Tables) × RunsWhole catalog fit past ran order empty e × ContainsTables places (closing opening ss) e
order_runs catalog fit {plan} {places} {opening} {past} {ss} ran order run ordered all fitting =
    let all_so = whole_of plan places opening past ss run in
    let x = rest_runs catalog fit fitting plan w past ran order (λ s ok. notes_left plan places opening past ss s run ok) (reads_serial plan places w past (closing opening ss) order all_so ordered) [] order 0 empty refl all (rise_all w past order all_so.knows.talks ordered.rising) (record { row = λ k. map.get-empty key_cmp k })
    (subst (λ (ts : List Table). fit ts empty ≡ true) (sym (upto_none catalog past)) fitting.starts) in
    (x.0, x.1, λ k outside. rows_serial plan places w past (closing opening ss) order all_so ordered k outside ∙ sym (x.2.row k))
  where
    w : History
    w = history plan places opening past ss
