-- Where the reading of a report stops: the first line that no report has there.
use Rattle.std.proofs.Common.{◌≡◌, ℕ, ◌+◌, ◌-◌, ◌^◌, ◌<◌, ◌==◌, true, false, cond, List, [], ◌∷◌, ◌++◌, length, All, Option, Some, None, Result, Ok, Err, refl, sym, ap, subst, ◌∙◌, append_assoc, arith}
use Rattle.std.specs.Prelude.{codes}
use Rattle.std.specs.Fmt.{decimal}
use Rattle.std.specs.List.{count_by}
use Rattle.std.proofs.lemmas.List.{append-nil}
use Rattle.std.proofs.lemmas.List.Sums.{sum_by-cons}
use Rattle.std.proofs.lemmas.List.Elements.{All-from_recursion, recursion_from_All}
use Rattle.sdb_types.specs.Fits.{value_fits}
use Rattle.sdb_report.specs.Types.{Event, Outcome, Point, TableDump, Value}
use Rattle.sdb_types.proofs.Public.{and_first, and_second, by_test, done}
use Rattle.sdb_model.specs.Plain.{is_counted, table_is_plain, is_no_lf, is_one_line, IsPlainEvent, IsPlainPoint, IsPlainRow, IsPlainDump, IsPlain}
use Rattle.sdb_model.specs.Report.{event_text_of, point_line, table_lines, events_text_of, order_text_of, tables_text_of, report_text_of}
use Rattle.sdb_model.specs.Texts.{row_text_of}
use Rattle.sdb_model.specs.declared.event.Event.TheVariants as event
use Rattle.sdb_report.specs.Lines.{numbered_event_of, is_empty}
use Rattle.sdb_report.proofs.Lists.{Each}
use Rattle.sdb_report.specs.Reading.{Positioned, cut_line, line_at, lines_at, fixed_of, heading_of, point_of, row_of, table_of, event_at, point_at, row_line_at, dump_at, part_at, title_at, end_at, events_at, order_at, tables_at, Places, places_at, outcome_of, parts_at, body_at, report_at, all_of, report_in}
use Rattle.sdb_report.specs.Reports.{is_lf, text_of_lines, IsLoose, IsDead}
use Rattle.sdb_report.proofs.Cuts.{cut_is, cut_again}
use Rattle.sdb_report.proofs.Readers.{Reads, with_lf, line_reads, texts, Items}
use Rattle.sdb_report.proofs.LineLaws.{lines_joined, decimal_one}
use Rattle.sdb_report.proofs.Forms.{itself, IsWord, fixed_form, IsCount, heading_form, event_form, point_text, point_form, row_form, Headed, headed_text, IsNext, table_form}
use Rattle.sdb_report.proofs.PartLaws.{part_text, IsPart, const_texts, each_all, all_each, event_text, EventAfter, event_reads, event_texts, EventsPlain, events_read, point_after, PointAfter, point_reads, OrderPlain, order_read, row_after, RowAfter, row_reads, DumpAfter, dump_of, RowsOf, dump_same, dump_after, dump_reads, TablesPlain, rising_each, PlacesPlain, places_text, parts_text, parts_read, title, end_word, pieces, report_read, in_again}
use Rattle.sdb_report.proofs.Stops.{AreLines, lines_append, SameLine, failed, err_is, Stopping, line_stopping, Filled, both_stopping, items_fill, items_stopping, stopping_as}
use Rattle.sdb_codec.specs.Reading.{last_of}

---- a part

module _ {X : Type 0} (word : List ℕ) (one : is_one_line word ≡ true) (item_at : List X → List ℕ → Positioned X) (text : List X → X → List ℕ) (P L : List X → X → Type 0)
    (each : (before : List X) → length before + 1 < 2 ^ 64 → Reads (item_at before) (text before) (P before))
    (ends : (before : List X) → length before + 1 < 2 ^ 64 → Stopping (item_at before) (text before) (P before) (L before)) where
  abbrev pub IsLoosePart : List X → Type 0
  IsLoosePart xs = is_counted xs × Each L [] xs

  pub part_stopping : Stopping (part_at word item_at) (part_text word one item_at text P each) (IsPart word one item_at text P each) IsLoosePart
  part_stopping =
      both_stopping (line_at (heading_of word)) (λ n. lines_at item_at [] n) (λ n xs. xs) (with_lf (λ n. word ++ decimal n)) (λ n xs. texts text [] xs) (part_text word one item_at text P each)
      IsCount IsCount (λ n xs. Items P [] n xs) (λ n xs. Items L [] n xs) (IsPart word one item_at text P each) IsLoosePart
      (λ n xs p q. ap (λ (k : ℕ). ((word ++ decimal k) ++ codes "\n") ++ texts text [] xs) q.0) (λ n xs p q. (subst (λ (k : ℕ). k < 2 ^ 64) (sym q.0) p, q.1))
      (λ xs p. record { first = length xs; second = xs; made = refl; has_first = p.0; has_second = (refl, p.1) })
      (λ n lt. items_fill item_at text P L each ends n [] (omega (arith, lt)))
      (line_reads (heading_of word) (λ n. word ++ decimal n) IsCount (heading_form word one))
      (line_stopping (heading_of word) (λ n. word ++ decimal n) IsCount IsCount (heading_form word one) (λ n p. p) 0 (omega arith))
      (λ n lt. items_stopping item_at text P L each ends n [] (omega (arith, lt)))

---- events and order

idle_plain : IsPlainEvent (event.Idle 1)
idle_plain = record { parts = omega arith; one_line = lines_joined (codes "idle ") (decimal 1) refl (decimal_one 1 (omega arith)) }

event_stopping : (before : List Event) → length before + 1 < 2 ^ 64 → Stopping (event_at before) (event_text before) (EventAfter before) (EventAfter before)
event_stopping before lt =
    line_stopping (numbered_event_of (length before + 1)) (λ e. decimal (length before + 1) ++ codes " " ++ event_text_of e) IsPlainEvent IsPlainEvent (event_form (length before + 1) lt) (λ e p. p) (event.Idle 1) idle_plain

events_stopping : Stopping events_at events_text_of EventsPlain EventsPlain
events_stopping =
    stopping_as events_at (part_text (codes "events ") refl event_at event_text EventAfter event_reads) events_text_of (IsPart (codes "events ") refl event_at event_text EventAfter event_reads) EventsPlain
    (IsLoosePart (codes "events ") refl event_at event_text EventAfter EventAfter event_reads event_stopping) EventsPlain
    (λ es. ap (λ (t : List ℕ). ((codes "events " ++ decimal (length es)) ++ codes "\n") ++ t) (event_texts [] es))
    (λ es p. (p.0, all_each IsPlainEvent es p.1)) (λ es p. (p.0, each_all IsPlainEvent es p.1))
    (part_stopping (codes "events ") refl event_at event_text EventAfter EventAfter event_reads event_stopping)

point_stopping : (before : List Point) → length before + 1 < 2 ^ 64 → Stopping (point_at before) (point_after before) (PointAfter before) (PointAfter before)
point_stopping before lt =
    line_stopping point_of point_text IsPlainPoint IsPlainPoint point_form (λ p q. q) (record { id = record { 0 = 0 }; event = 0 }) (record { id = omega arith; event = omega arith })

order_stopping : Stopping order_at order_text_of OrderPlain OrderPlain
order_stopping =
    stopping_as order_at (part_text (codes "order ") refl point_at point_after PointAfter point_reads) order_text_of (IsPart (codes "order ") refl point_at point_after PointAfter point_reads) OrderPlain
    (IsLoosePart (codes "order ") refl point_at point_after PointAfter PointAfter point_reads point_stopping) OrderPlain
    (λ ps. ap (λ (t : List ℕ). ((codes "order " ++ decimal (length ps)) ++ codes "\n") ++ t) (const_texts point_line [] ps))
    (λ ps p. (p.0, all_each IsPlainPoint ps p.1)) (λ ps p. (p.0, each_all IsPlainPoint ps p.1))
    (part_stopping (codes "order ") refl point_at point_after PointAfter PointAfter point_reads point_stopping)

---- tables

row_stopping : (before : List (List Value)) → length before + 1 < 2 ^ 64 → Stopping (row_line_at before) (row_after before) (RowAfter before) (RowAfter before)
row_stopping before lt = line_stopping row_of row_text_of IsPlainRow IsPlainRow row_form (λ r p. p) [] (record { fits = All-from_recursion value_fits [] tt; one_line = refl })

-- a heading in any order
pub record IsHeaded (t : Headed) : Type 0 where
  pub name : table_is_plain t.0
  pub count : IsCount t.1

some_headed : Headed
some_headed = (record { ns = codes "a"; table = codes "a" }, 0)

some_fits : IsHeaded some_headed
unfolding some_headed
some_fits = record { name = record { ns = refl; table = refl }; count = omega arith }

headed_stopping : (before : Option TableDump) → Stopping (line_at (table_of before)) (with_lf headed_text) (IsNext before) IsHeaded
headed_stopping before = line_stopping (table_of before) headed_text (IsNext before) IsHeaded (table_form before) (λ t p. record { name = p.name; count = p.count }) some_headed some_fits

abbrev DumpLoose : List TableDump → TableDump → Type 0
DumpLoose before d = IsPlainDump d

dump_stopping : (before : List TableDump) → length before + 1 < 2 ^ 64 → Stopping (dump_at before) (dump_after before) (DumpAfter before) (DumpLoose before)
dump_stopping before lt =
    both_stopping (line_at (table_of (last_of before))) (λ t. lines_at row_line_at [] t.1) dump_of (with_lf headed_text) (λ t rows. texts row_after [] rows) table_lines
    (IsNext (last_of before)) IsHeaded RowsOf RowsOf (DumpAfter before) IsPlainDump
    (λ t rows p q. dump_same t rows q)
    (λ t rows p q. record { name = p.name; counted = subst (λ (k : ℕ). k < 2 ^ 64) (sym q.0) p.count; rows = each_all IsPlainRow rows q.1 })
    (λ d r. record {
      first = (d.name, length d.rows);
      second = d.rows;
      made = refl;
      has_first = record { name = r.plain.name; count = r.plain.counted; after = r.after };
      has_second = (refl, all_each IsPlainRow d.rows r.plain.rows);
    })
    (λ t p. items_fill row_line_at row_after RowAfter RowAfter row_reads row_stopping t.1 [] (omega (arith, p.count)))
    (line_reads (table_of (last_of before)) headed_text (IsNext (last_of before)) (table_form (last_of before))) (headed_stopping (last_of before))
    (λ t p. items_stopping row_line_at row_after RowAfter RowAfter row_reads row_stopping t.1 [] (omega (arith, p.count)))

abbrev TablesLoose : List TableDump → Type 0
TablesLoose ds = is_counted ds × All IsPlainDump ds

tables_stopping : Stopping tables_at tables_text_of TablesPlain TablesLoose
tables_stopping =
    stopping_as tables_at (part_text (codes "tables ") refl dump_at dump_after DumpAfter dump_reads) tables_text_of (IsPart (codes "tables ") refl dump_at dump_after DumpAfter dump_reads) TablesPlain
    (IsLoosePart (codes "tables ") refl dump_at dump_after DumpAfter DumpLoose dump_reads dump_stopping) TablesLoose
    (λ ds. ap (λ (t : List ℕ). ((codes "tables " ++ decimal (length ds)) ++ codes "\n") ++ t) (const_texts table_lines [] ds))
    (λ ds p. (p.counted, rising_each [] ds (λ d es q. refl) p.rising (recursion_from_All IsPlainDump ds p.plain)))
    (λ ds p. (p.0, each_all IsPlainDump ds p.1))
    (part_stopping (codes "tables ") refl dump_at dump_after DumpAfter DumpLoose dump_reads dump_stopping)

---- the whole

filled : {X : Type 0} {read : List ℕ → Positioned X} {text : X → List ℕ} {P L : X → Type 0} → Stopping read text P L → Filled L
filled s = record { value = s.value; fits = s.some }

abbrev PlacesLoose : Places → Type 0
PlacesLoose q = OrderPlain q.0 × TablesLoose q.1

places_stopping : Stopping places_at places_text PlacesPlain PlacesLoose
places_stopping =
    both_stopping order_at (λ ps. tables_at) (λ ps ts. (ps, ts)) order_text_of (λ ps ts. tables_text_of ts) places_text OrderPlain OrderPlain (λ ps ts. TablesPlain ts) (λ ps ts. TablesLoose ts) PlacesPlain PlacesLoose
    (λ ps ts p q. refl) (λ ps ts p q. (p, q)) (λ z r. record { first = z.0; second = z.1; made = refl; has_first = r.0; has_second = r.1 }) (λ ps p. filled tables_stopping)
    order_read order_stopping (λ ps p. tables_stopping)

parts_stopping : Stopping parts_at parts_text IsPlain IsLoose
parts_stopping =
    both_stopping events_at (λ es. places_at) outcome_of events_text_of (λ es q. places_text q) parts_text EventsPlain EventsPlain (λ es q. PlacesPlain q) (λ es q. PlacesLoose q) IsPlain IsLoose
    (λ es q p r. refl)
    (λ es q p r. record { events_counted = p.0; events = p.1; order_counted = r.0.0; order = r.0.1; tables_counted = r.1.0; tables = r.1.1 })
    (λ o p. record {
      first = o.events;
      second = (o.order, o.tables);
      made = refl;
      has_first = (p.events_counted, p.events);
      has_second = ((p.order_counted, p.order), record { counted = p.tables_counted; plain = p.tables; rising = p.rising });
    })
    (λ es p. filled places_stopping) events_read events_stopping (λ es p. places_stopping)

fixed_stopping : (word : List ℕ) (one : is_one_line word ≡ true) → Stopping (line_at (fixed_of word)) (with_lf itself) (IsWord word) (IsWord word)
fixed_stopping word one = line_stopping (fixed_of word) itself (IsWord word) (IsWord word) (fixed_form word one) (λ w p. p) word refl

body_stopping : Stopping body_at (λ o. parts_text o ++ codes "end\n") IsPlain IsLoose
body_stopping =
    both_stopping parts_at (λ o. end_at) (λ o word. o) parts_text (λ o word. with_lf itself word) (λ o. parts_text o ++ codes "end\n") IsPlain IsLoose (λ o word. IsWord end_word word) (λ o word. IsWord end_word word) IsPlain IsLoose
    (λ o word p q. ap (λ (w : List ℕ). parts_text o ++ (w ++ codes "\n")) (sym q)) (λ o word p q. p) (λ o p. record { first = o; second = end_word; made = refl; has_first = p; has_second = refl })
    (λ o p. record { value = end_word; fits = refl }) parts_read parts_stopping (λ o p. fixed_stopping end_word refl)

pub report_stopping : Stopping report_at report_text_of IsPlain IsLoose
report_stopping =
    stopping_as report_at (λ o. codes "scalardb report 1\n" ++ (parts_text o ++ codes "end\n")) report_text_of IsPlain IsPlain IsLoose IsLoose
    (λ o. pieces (codes "scalardb report 1\n") (events_text_of o.events) (order_text_of o.order) (tables_text_of o.tables) (codes "end\n")) (λ o p. p) (λ o p. p)
    (both_stopping title_at (λ word. body_at) (λ word o. o) (with_lf itself) (λ word o. parts_text o ++ codes "end\n") (λ o. codes "scalardb report 1\n" ++ (parts_text o ++ codes "end\n"))
    (IsWord title) (IsWord title) (λ word o. IsPlain o) (λ word o. IsLoose o) IsPlain IsLoose
    (λ word o p q. ap (λ (w : List ℕ). (w ++ codes "\n") ++ (parts_text o ++ codes "end\n")) (sym p)) (λ word o p q. q) (λ o p. record { first = title; second = o; made = refl; has_first = refl; has_second = p })
    (λ word p. filled body_stopping) (line_reads (fixed_of title) itself (IsWord title) (fixed_form title refl)) (fixed_stopping title refl) (λ word p. body_stopping))

---- all of the bytes

-- The report of some outcome begins with these lines.
pub record Opens (lines : List (List ℕ)) : Type 0 where
  pub outcome : Outcome
  pub loose : IsLoose outcome
  pub rest : List ℕ
  pub text : report_text_of outcome ≡ text_of_lines lines ++ rest

-- what is known where the reading of all of the bytes stops
pub record Halt (bytes : List ℕ) (left : ℕ) : Type 0 where
  pub lines : List (List ℕ)
  pub tail : List ℕ
  pub split : bytes ≡ text_of_lines lines ++ tail
  pub whole : AreLines lines
  pub here : length tail ≡ left
  pub begins : Opens lines
  pub local : (t : List ℕ) → SameLine (cut_line tail) tail t → report_in (text_of_lines lines ++ t) ≡ Err (length t)

abbrev left_over : Outcome × List ℕ → Result Outcome ℕ
left_over x = cond (is_empty x.1) (Ok x.0) (Err (length x.1))

-- a text with a line at its start isn't empty
not_empty : (tail t : List ℕ) → is_empty tail ≡ false → SameLine (cut_line tail) tail t → is_empty t ≡ false
not_empty tail t full same =
    elim (cut_line tail) as (λ o. SameLine o tail t → is_empty t ≡ false) [
      | None ↦ λ e. subst (λ (b : List ℕ). is_empty b ≡ false) e full
      | Some cut ↦ λ e. begun t cut.0 e.0 e.1
    ] same
  where
    begun : (t line more : List ℕ) → cut_line t ≡ Some (line, more) → is_empty t ≡ false
    begun [] line more h = absurd cc
    begun (b ∷ bs) line more h = refl

behind_whole : (bytes : List ℕ) (left : ℕ) (x : Outcome × List ℕ) → report_at bytes ≡ Ok x → left_over x ≡ Err left → Halt bytes left
behind_whole bytes left x q k =
    let s = report_read.sound bytes x q in
    let w = report_stopping.lines x.0 s.fits in
    by_test (is_empty x.1)
    (λ e. let bad : done x.0 ≡ Err left = rw e at k in absurd cc)
    (λ e.
    let here : failed {A = Outcome} (length x.1) ≡ failed left = rw e at k in
    record {
      lines = w.lines;
      tail = x.1;
      split = s.parts ∙ ap (λ (t : List ℕ). t ++ x.1) w.is;
      whole = w.whole;
      here = err_is {A = Outcome} (length x.1) left here;
      begins = record { outcome = x.0; loose = report_stopping.loose x.0 s.fits; rest = []; text = w.is ∙ sym (append-nil (text_of_lines w.lines)) };
      local = λ t same. ap report_in (ap (λ (l : List ℕ). l ++ t) (sym w.is)) ∙ rw (report_read.again x.0 t s.fits, not_empty x.1 t e same) refl;
    })

pub halted : (bytes : List ℕ) (left : ℕ) → report_in bytes ≡ Err left → Halt bytes left
halted bytes left h =
    elim (report_at bytes) as (λ r. report_at bytes ≡ r → all_of r ≡ Err left → Halt bytes left) [
      | Err l ↦ λ q k.
          let s = report_stopping.stops bytes left (q ∙ ap failed (err_is {A = Outcome} l left k)) in
          record {
            lines = s.lines;
            tail = s.tail;
            split = s.split;
            whole = s.whole;
            here = s.here;
            begins = record { outcome = s.value; loose = s.loose; rest = s.rest; text = s.begins };
            local = λ t same. rw (s.local t same) refl;
          }
      | Ok x ↦ λ q k. behind_whole bytes left x q k
    ] refl h

no_outcome : (o : Outcome) (n : ℕ) → done o ≡ Err n → ⊥
no_outcome o n e = absurd cc

pub dead_of : (lines : List (List ℕ)) (tail : List ℕ) → ((t : List ℕ) → SameLine (cut_line tail) tail t → report_in (text_of_lines lines ++ t) ≡ Err (length t)) → IsDead lines tail (cut_line tail)
dead_of lines tail local =
    elim (cut_line tail) as (λ o. cut_line tail ≡ o → IsDead lines tail o) [
      | None ↦ λ q o plain e.
          let bad = local tail (subst (λ (c : Option (List ℕ × List ℕ)). SameLine c tail tail) (sym q) refl) in
          no_outcome o (length tail) (sym (in_again o plain) ∙ ap report_in e ∙ bad)
      | Some cut ↦ λ q o rest plain e.
          let t : List ℕ = (cut.0 ++ codes "\n") ++ rest in
          let same : SameLine (cut_line tail) tail t = subst (λ (c : Option (List ℕ × List ℕ)). SameLine c tail t) (sym q) (rest, cut_again cut.0 rest (cut_is tail cut q).line) in
          let regrouped : text_of_lines (lines ++ cut.0 ∷ []) ++ rest ≡ text_of_lines lines ++ t =
          ap (λ (l : List ℕ). l ++ rest) (lines_append lines (cut.0 ∷ []) ∙ ap (λ (l : List ℕ). text_of_lines lines ++ l) (append-nil (cut.0 ++ codes "\n"))) ∙ append_assoc (text_of_lines lines) (cut.0 ++ codes "\n") rest in
          no_outcome o (length t) (sym (in_again o plain) ∙ ap report_in (e ∙ regrouped) ∙ local t same)
    ] refl

---- the number of the line

abbrev ends_line : ℕ → ℕ
ends_line b = cond (is_lf b) 1 0

count_line : (line rest : List ℕ) → is_one_line line ≡ true → count_by is_lf ((line ++ codes "\n") ++ rest) ≡ 1 + count_by is_lf rest
count_line [] rest h = sum_by-cons ends_line 10 rest
count_line (b ∷ bs) rest h =
    by_test (b == 10)
    (λ q. let k = and_first (is_no_lf b) _ h in let bad : false ≡ true = rw q at k in absurd cc)
    (λ q. let none : ends_line b ≡ 0 = rw q refl in omega (arith, sum_by-cons ends_line b ((bs ++ codes "\n") ++ rest), none, count_line bs rest (and_second (is_no_lf b) _ h)))

pub count_lines : (lines : List (List ℕ)) → AreLines lines → count_by is_lf (text_of_lines lines) ≡ length lines
count_lines [] h = refl
count_lines (l ∷ ls) h = count_line l (text_of_lines ls) h.0 ∙ omega (arith, count_lines ls h.1)
