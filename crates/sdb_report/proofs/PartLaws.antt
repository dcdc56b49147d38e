-- The parts of a report, and the whole: what is read is the report of a plain outcome, and each such report is read.
use Rattle.std.proofs.Common.{◌≡◌, ℕ, ◌+◌, ◌^◌, ◌<◌, Bool, cond, true, false, List, [], ◌∷◌, ◌++◌, length, All, Option, Result, Ok, Err, refl, sym, ap, subst, ◌∙◌, append_assoc, arith, flat_map}
use Rattle.std.specs.Prelude.{codes}
use Rattle.std.specs.Fmt.{decimal}
use Rattle.std.specs.List.{AllByRecursion}
use Rattle.std.proofs.lemmas.List.{append-nil, length-append}
use Rattle.std.proofs.lemmas.List.Elements.{All-from_recursion, recursion_from_All}
use Rattle.sdb_types.specs.Order.{table_text}
use Rattle.sdb_report.specs.Types.{Event, Outcome, Point, TableDump, Value}
use Rattle.sdb_types.proofs.Public.{and_both, and_first, and_second}
use Rattle.sdb_model.specs.Plain.{is_counted, is_one_line, IsPlainEvent, IsPlainPoint, IsPlainRow, IsPlainDump, starts_after, are_rising, IsPlain}
use Rattle.sdb_model.specs.Report.{event_text_of, event_line, event_lines, point_line, row_line, table_lines, events_text_of, order_text_of, tables_text_of, report_text_of}
use Rattle.sdb_report.specs.Lines.{numbered_event_of, is_empty}
use Rattle.sdb_report.proofs.Lists.{Each, Each-all, Each-from_all}
use Rattle.sdb_report.specs.Reading.{Positioned, line_at, lines_at, fixed_of, heading_of, point_of, row_of, is_after, table_of, event_at, point_at, row_line_at, dump_at, part_at, title_at, end_at, events_at, order_at, tables_at, Places, places_at, outcome_of, parts_at, body_at, report_at, all_of, report_in}
use Rattle.sdb_report.proofs.Readers.{Reads, with_lf, line_reads, both_reads, texts, Items, items_read, read_as}
use Rattle.sdb_report.proofs.Forms.{itself, IsWord, fixed_form, IsCount, heading_form, event_form, point_text, point_form, row_form, Headed, headed_text, IsNext, table_form}
use Rattle.sdb_codec.specs.Reading.{last_of}
use Rattle.sdb_codec.proofs.Public.{last_of-push, ok_is}

---- a part

module _ {X : Type 0} (word : List ℕ) (one : is_one_line word ≡ true) (item_at : List X → List ℕ → Positioned X) (text : List X → X → List ℕ) (P : List X → X → Type 0)
    (each : (before : List X) → length before + 1 < 2 ^ 64 → Reads (item_at before) (text before) (P before)) where
  abbrev pub part_text : List X → List ℕ
  part_text xs = ((word ++ decimal (length xs)) ++ codes "\n") ++ texts text [] xs

  abbrev pub IsPart : List X → Type 0
  IsPart xs = is_counted xs × Each P [] xs

  pub part_reads : Reads (part_at word item_at) part_text IsPart
  part_reads =
      both_reads (line_at (heading_of word)) (λ n. lines_at item_at [] n) (λ n xs. xs) (with_lf (λ n. word ++ decimal n)) (λ n xs. texts text [] xs) part_text
      IsCount (λ n xs. Items P [] n xs) IsPart
      (λ n xs p q. ap (λ (k : ℕ). ((word ++ decimal k) ++ codes "\n") ++ texts text [] xs) q.0) (λ n xs p q. (subst (λ (k : ℕ). k < 2 ^ 64) (sym q.0) p, q.1))
      (λ xs p. record { first = length xs; second = xs; made = refl; has_first = p.0; has_second = (refl, p.1) })
      (line_reads (heading_of word) (λ n. word ++ decimal n) IsCount (heading_form word one)) (λ n lt. items_read item_at text P each n [] (omega (arith, lt)))

pub const_texts : {X : Type 0} (text : X → List ℕ) (before xs : List X) → texts (λ before x. text x) before xs ≡ flat_map text xs
const_texts text before [] = refl
const_texts text before (x ∷ xs) = ap (λ (t : List ℕ). text x ++ t) (const_texts text (before ++ x ∷ []) xs)

pub each_all : {X : Type 0} (P : X → Type 0) (xs : List X) → Each (λ before x. P x) [] xs → All P xs
each_all P xs h = All-from_recursion P xs (Each-all (λ before x. P x) P (λ before x p. p) [] xs h)

pub all_each : {X : Type 0} (P : X → Type 0) (xs : List X) → All P xs → Each (λ before x. P x) [] xs
all_each P xs h = Each-from_all (λ before x. P x) P (λ before x p. p) [] xs (recursion_from_All P xs h)

---- events

abbrev pub event_text : List Event → Event → List ℕ
event_text before e = event_line (length before + 1) e

abbrev pub EventAfter : List Event → Event → Type 0
EventAfter before e = IsPlainEvent e

pub event_reads : (before : List Event) → length before + 1 < 2 ^ 64 → Reads (event_at before) (event_text before) (EventAfter before)
event_reads before lt =
    line_reads (numbered_event_of (length before + 1)) (λ e. decimal (length before + 1) ++ codes " " ++ event_text_of e) IsPlainEvent (event_form (length before + 1) lt)

pub event_texts : (before es : List Event) → texts event_text before es ≡ event_lines (length before + 1) es
event_texts before [] = refl
event_texts before (e ∷ es) =
    let k : length (before ++ e ∷ []) ≡ length before + 1 = length-append before (e ∷ []) in
    ap (λ (t : List ℕ). event_line (length before + 1) e ++ t) (event_texts (before ++ e ∷ []) es ∙ ap (λ (n : ℕ). event_lines (n + 1) es) k)

abbrev pub EventsPlain : List Event → Type 0
EventsPlain es = is_counted es × All IsPlainEvent es

pub events_read : Reads events_at events_text_of EventsPlain
events_read =
    read_as events_at (part_text (codes "events ") refl event_at event_text EventAfter event_reads) events_text_of (IsPart (codes "events ") refl event_at event_text EventAfter event_reads) EventsPlain
    (λ es. ap (λ (t : List ℕ). ((codes "events " ++ decimal (length es)) ++ codes "\n") ++ t) (event_texts [] es))
    (λ es p. (p.0, each_all IsPlainEvent es p.1)) (λ es p. (p.0, all_each IsPlainEvent es p.1))
    (part_reads (codes "events ") refl event_at event_text EventAfter event_reads)

---- order

abbrev pub point_after : List Point → Point → List ℕ
point_after before p = point_line p

abbrev pub PointAfter : List Point → Point → Type 0
PointAfter before p = IsPlainPoint p

pub point_reads : (before : List Point) → length before + 1 < 2 ^ 64 → Reads (point_at before) (point_after before) (PointAfter before)
point_reads before lt = line_reads point_of point_text IsPlainPoint point_form

abbrev pub OrderPlain : List Point → Type 0
OrderPlain ps = is_counted ps × All IsPlainPoint ps

pub order_read : Reads order_at order_text_of OrderPlain
order_read =
    read_as order_at (part_text (codes "order ") refl point_at point_after PointAfter point_reads) order_text_of (IsPart (codes "order ") refl point_at point_after PointAfter point_reads) OrderPlain
    (λ ps. ap (λ (t : List ℕ). ((codes "order " ++ decimal (length ps)) ++ codes "\n") ++ t) (const_texts point_line [] ps))
    (λ ps p. (p.0, each_all IsPlainPoint ps p.1)) (λ ps p. (p.0, all_each IsPlainPoint ps p.1))
    (part_reads (codes "order ") refl point_at point_after PointAfter point_reads)

---- tables

abbrev pub row_after : List (List Value) → List Value → List ℕ
row_after before row = row_line row

abbrev pub RowAfter : List (List Value) → List Value → Type 0
RowAfter before row = IsPlainRow row

pub row_reads : (before : List (List Value)) → length before + 1 < 2 ^ 64 → Reads (row_line_at before) (row_after before) (RowAfter before)
row_reads before lt = line_reads row_of _ IsPlainRow row_form

-- a table that may follow those before it
pub record DumpAfter (before : List TableDump) (d : TableDump) : Type 0 where
  pub plain : IsPlainDump d
  pub after : is_after (last_of before) d.name ≡ true

abbrev pub dump_of : Headed → List (List Value) → TableDump
dump_of t rows = record { name = t.0; rows = rows }

abbrev pub RowsOf : Headed → List (List Value) → Type 0
RowsOf t rows = Items RowAfter [] t.1 rows

pub dump_same : (t : Headed) (rows : List (List Value)) → RowsOf t rows → table_lines (dump_of t rows) ≡ with_lf headed_text t ++ texts row_after [] rows
dump_same t rows q =
    ap (λ (n : ℕ). (codes "table " ++ table_text t.0 ++ codes " " ++ decimal n ++ codes "\n") ++ flat_map row_line rows) q.0
    ∙ ap (λ (r : List ℕ). (codes "table " ++ table_text t.0 ++ codes " " ++ decimal t.1 ++ codes "\n") ++ r) (sym (const_texts row_line [] rows))

abbrev pub dump_after : List TableDump → TableDump → List ℕ
dump_after before d = table_lines d

pub dump_reads : (before : List TableDump) → length before + 1 < 2 ^ 64 → Reads (dump_at before) (dump_after before) (DumpAfter before)
dump_reads before lt =
    both_reads (line_at (table_of (last_of before))) (λ t. lines_at row_line_at [] t.1) dump_of (with_lf headed_text) (λ t rows. texts row_after [] rows) table_lines
    (IsNext (last_of before)) RowsOf (DumpAfter before)
    (λ t rows p q. dump_same t rows q)
    (λ t rows p q. record { plain = record { name = p.name; counted = subst (λ (k : ℕ). k < 2 ^ 64) (sym q.0) p.count; rows = each_all IsPlainRow rows q.1 }; after = p.after })
    (λ d r. record {
      first = (d.name, length d.rows);
      second = d.rows;
      made = refl;
      has_first = record { name = r.plain.name; count = r.plain.counted; after = r.after };
      has_second = (refl, all_each IsPlainRow d.rows r.plain.rows);
    })
    (line_reads (table_of (last_of before)) headed_text (IsNext (last_of before)) (table_form (last_of before))) (λ t p. items_read row_line_at row_after RowAfter row_reads t.1 [] (omega (arith, p.count)))

rising_starts : (d : TableDump) (ds before : List TableDump) → Each DumpAfter (before ++ d ∷ []) ds → starts_after d.name ds ≡ true
rising_starts d [] before h = refl
rising_starts d (e ∷ es) before h = subst (λ (o : Option TableDump). is_after o e.name ≡ true) (last_of-push before d) h.0.after

pub each_rising : (before ds : List TableDump) → Each DumpAfter before ds → are_rising ds ≡ true
each_rising before [] h = refl
each_rising before (d ∷ ds) h = and_both (starts_after d.name ds) _ (rising_starts d ds before h.1) (each_rising (before ++ d ∷ []) ds h.1)

abbrev pub StartsAfter : List TableDump → List TableDump → Type 0
StartsAfter before ds = (d : TableDump) (es : List TableDump) → ds ≡ d ∷ es → is_after (last_of before) d.name ≡ true

pub rising_each : (before ds : List TableDump) → StartsAfter before ds → are_rising ds ≡ true → AllByRecursion IsPlainDump ds → Each DumpAfter before ds
rising_each before [] first rising h = tt
rising_each before (d ∷ ds) first rising h =
    let next : StartsAfter (before ++ d ∷ []) ds = λ e es q.
    subst (λ (o : Option TableDump). is_after o e.name ≡ true) (sym (last_of-push before d)) (subst (λ (l : List TableDump). starts_after d.name l ≡ true) q (and_first (starts_after d.name ds) _ rising)) in
    (record { plain = h.0; after = first d ds refl }, rising_each (before ++ d ∷ []) ds next (and_second (starts_after d.name ds) _ rising) h.1)

pub record TablesPlain (ds : List TableDump) : Type 0 where
  pub counted : is_counted ds
  pub plain : All IsPlainDump ds
  pub rising : are_rising ds ≡ true

pub tables_read : Reads tables_at tables_text_of TablesPlain
tables_read =
    read_as tables_at (part_text (codes "tables ") refl dump_at dump_after DumpAfter dump_reads) tables_text_of (IsPart (codes "tables ") refl dump_at dump_after DumpAfter dump_reads) TablesPlain
    (λ ds. ap (λ (t : List ℕ). ((codes "tables " ++ decimal (length ds)) ++ codes "\n") ++ t) (const_texts table_lines [] ds))
    (λ ds p. record { counted = p.0; plain = All-from_recursion IsPlainDump ds (Each-all DumpAfter IsPlainDump (λ before d q. q.plain) [] ds p.1); rising = each_rising [] ds p.1 })
    (λ ds p. (p.counted, rising_each [] ds (λ d es q. refl) p.rising (recursion_from_All IsPlainDump ds p.plain)))
    (part_reads (codes "tables ") refl dump_at dump_after DumpAfter dump_reads)

---- the whole

abbrev pub PlacesPlain : Places → Type 0
PlacesPlain q = OrderPlain q.0 × TablesPlain q.1

abbrev pub places_text : Places → List ℕ
places_text q = order_text_of q.0 ++ tables_text_of q.1

pub places_read : Reads places_at places_text PlacesPlain
places_read =
    both_reads order_at (λ ps. tables_at) (λ ps ts. (ps, ts)) order_text_of (λ ps ts. tables_text_of ts) places_text OrderPlain (λ ps ts. TablesPlain ts) PlacesPlain
    (λ ps ts p q. refl) (λ ps ts p q. (p, q)) (λ z r. record { first = z.0; second = z.1; made = refl; has_first = r.0; has_second = r.1 }) order_read (λ ps p. tables_read)

abbrev pub parts_text : Outcome → List ℕ
parts_text o = events_text_of o.events ++ places_text (o.order, o.tables)

pub parts_read : Reads parts_at parts_text IsPlain
parts_read =
    both_reads events_at (λ es. places_at) outcome_of events_text_of (λ es q. places_text q) parts_text EventsPlain (λ es q. PlacesPlain q) IsPlain
    (λ es q p r. refl)
    (λ es q p r. record { events_counted = p.0; events = p.1; order_counted = r.0.0; order = r.0.1; tables_counted = r.1.counted; tables = r.1.plain; rising = r.1.rising })
    (λ o p. record {
      first = o.events;
      second = (o.order, o.tables);
      made = refl;
      has_first = (p.events_counted, p.events);
      has_second = ((p.order_counted, p.order), record { counted = p.tables_counted; plain = p.tables; rising = p.rising });
    })
    events_read (λ es p. places_read)

abbrev pub title : List ℕ
title = codes "scalardb report 1"

abbrev pub end_word : List ℕ
end_word = codes "end"

pub body_read : Reads body_at (λ o. parts_text o ++ codes "end\n") IsPlain
body_read =
    both_reads parts_at (λ o. end_at) (λ o word. o) parts_text (λ o word. with_lf itself word) (λ o. parts_text o ++ codes "end\n") IsPlain (λ o word. IsWord end_word word) IsPlain
    (λ o word p q. ap (λ (w : List ℕ). parts_text o ++ (w ++ codes "\n")) (sym q)) (λ o word p q. p) (λ o p. record { first = o; second = end_word; made = refl; has_first = p; has_second = refl })
    parts_read (λ o p. line_reads (fixed_of end_word) itself (IsWord end_word) (fixed_form end_word refl))

pub pieces : (t e o d n : List ℕ) → t ++ ((e ++ (o ++ d)) ++ n) ≡ t ++ e ++ o ++ d ++ n
pieces t e o d n = simp append_assoc

pub report_read : Reads report_at report_text_of IsPlain
report_read =
    read_as report_at (λ o. codes "scalardb report 1\n" ++ (parts_text o ++ codes "end\n")) report_text_of IsPlain IsPlain
    (λ o. pieces (codes "scalardb report 1\n") (events_text_of o.events) (order_text_of o.order) (tables_text_of o.tables) (codes "end\n")) (λ o p. p) (λ o p. p)
    (both_reads title_at (λ word. body_at) (λ word o. o) (with_lf itself) (λ word o. parts_text o ++ codes "end\n") (λ o. codes "scalardb report 1\n" ++ (parts_text o ++ codes "end\n")) (IsWord title) (λ word o. IsPlain o) IsPlain
    (λ word o p q. ap (λ (w : List ℕ). (w ++ codes "\n") ++ (parts_text o ++ codes "end\n")) (sym p)) (λ word o p q. q) (λ o p. record { first = title; second = o; made = refl; has_first = refl; has_second = p })
    (line_reads (fixed_of title) itself (IsWord title) (fixed_form title refl)) (λ word p. body_read))

---- all of the bytes

nothing : (rest : List ℕ) → is_empty rest ≡ true → rest ≡ []
nothing [] e = refl
nothing (b ∷ bs) e = absurd cc

pub in_sound : (bytes : List ℕ) (o : Outcome) → report_in bytes ≡ Ok o → IsPlain o × (bytes ≡ report_text_of o)
in_sound bytes o h =
    elim (report_at bytes) as (λ r. report_at bytes ≡ r → all_of r ≡ Ok o → IsPlain o × (bytes ≡ report_text_of o)) [
      | Err left ↦ λ q k. absurd cc
      | Ok x ↦ λ q k. ended x (is_empty x.1) q refl k
    ] refl h
  where
    ended : (x : Outcome × List ℕ) (b : Bool) → report_at bytes ≡ Ok x → is_empty x.1 ≡ b → cond {A = Result Outcome ℕ} b (Ok x.0) (Err (length x.1)) ≡ Ok o → IsPlain o × (bytes ≡ report_text_of o)
    ended x true q e k =
        let s = report_read.sound bytes x q in
        let whole : bytes ≡ report_text_of x.0 = s.parts ∙ ap (λ (t : List ℕ). report_text_of x.0 ++ t) (nothing x.1 e) ∙ append-nil (report_text_of x.0) in
        subst (λ (p : Outcome). IsPlain p × (bytes ≡ report_text_of p)) (ok_is x.0 o k) (s.fits, whole)
    ended x false q e k = absurd cc

pub in_again : (o : Outcome) → IsPlain o → report_in (report_text_of o) ≡ Ok o
in_again o p =
    let read : report_at (report_text_of o) ≡ Ok (o, []) = ap report_at (sym (append-nil (report_text_of o))) ∙ report_read.again o [] p in
    rw read refl

pub one_text_of : (o p : Outcome) → IsPlain o → IsPlain p → report_text_of o ≡ report_text_of p → o ≡ p
one_text_of o p h k e = ok_is o p (sym (in_again o h) ∙ ap report_in e ∙ in_again p k)
