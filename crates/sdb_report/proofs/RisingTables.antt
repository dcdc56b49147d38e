-- Of the tables of an outcome whose report begins with the lines before a bad line, those that the lines show rise.
use Rattle.std.proofs.Common.{◌≡◌, ◌⊎◌, inl, inr, ℕ, suc, ◌+◌, ◌-◌, ◌^◌, ◌<◌, true, false, List, [], ◌∷◌, ◌++◌, length, take, drop, Option, Some, None, Result, Ok, Err, IfErr, refl, sym, ap, subst, ◌∙◌, append_assoc, arith, flat_map}
use Rattle.std.specs.Prelude.{codes}
use Rattle.std.specs.Fmt.{decimal}
use Rattle.std.specs.List.{AllByRecursion, count_by}
use Rattle.std.proofs.lemmas.List.{append-nil, length-append, take_at, drop_at}
use Rattle.std.proofs.lemmas.List.Concat.{flat_map-append}
use Rattle.std.proofs.lemmas.List.Elements.{recursion_from_All}
use Rattle.std.proofs.lemmas.Option.{same_Some}
use Rattle.sdb_types.specs.Order.{table_text}
use Rattle.sdb_model.specs.Plain.{is_counted, is_one_line, table_is_plain, IsPlainDump}
use Rattle.sdb_model.specs.Report.{heading, row_line, table_lines, events_text_of, order_text_of, tables_text_of, report_text_of}
use Rattle.sdb_report.specs.Types.{Outcome, TableDump}
use Rattle.sdb_report.proofs.KeyLaws.{table_again}
use Rattle.sdb_report.proofs.Lists.{Each}
use Rattle.sdb_report.specs.Reading.{Positioned, then_read, cut_line, lines_at, fixed_of, heading_of, is_after, table_of, dump_at, tables_at, places_at, parts_at, body_at, report_at, all_of, report_in}
use Rattle.sdb_report.specs.Reports.{is_lf, Reads as ReadsAs, text_of_lines, IsLoose, Begins, IsFirstBad, IsRefusedAt}
use Rattle.sdb_report.specs.declared.refused.ReportRefused.{ReportRefused}
use Rattle.sdb_report.specs.declared.refused.ReportRefused.TheVariants as refused
use Rattle.sdb_report.proofs.Cuts.{cut_again}
use Rattle.sdb_report.proofs.Readers.{with_lf, line_reads}
use Rattle.sdb_report.proofs.Forms.{itself, IsWord, fixed_form, heading_form, Headed, headed_text, table_form}
use Rattle.sdb_report.proofs.PartLaws.{DumpAfter, dump_reads, each_rising, events_read, order_read, places_text, parts_text, title, pieces}
use Rattle.sdb_report.proofs.Stops.{AreLines, SameLine, Stop, err_is, failed}
use Rattle.sdb_report.proofs.StopLaws.{Halt, halted, report_stopping, dead_of, count_lines}
use Rattle.sdb_types.proofs.Public.{by_test, done}
use Rattle.sdb_codec.specs.Reading.{last_of}

---- the first table that doesn't come after the one before

-- Tables of which the first rise, and the next one doesn't.
record Falls (before ds : List TableDump) : Type 0 where
  observed : List TableDump
  low : TableDump
  later : List TableDump
  is : ds ≡ observed ++ low ∷ later
  rise : Each DumpAfter before observed
  falls : is_after (last_of (before ++ observed)) low.name ≡ false
  plain : IsPlainDump low

fall_of : (before ds : List TableDump) → AllByRecursion IsPlainDump ds → Each DumpAfter before ds ⊎ Falls before ds
fall_of before [] h = inl tt
fall_of before (d ∷ ds) h =
    by_test (is_after (last_of before) d.name)
    (λ t. elim (fall_of (before ++ d ∷ []) ds h.1) [
      | inl e ↦ inl (record { plain = h.0; after = t }, e)
      | inr f ↦ inr (record {
        observed = d ∷ f.observed;
        low = f.low;
        later = f.later;
        is = ap (λ (l : List TableDump). d ∷ l) f.is;
        rise = (record { plain = h.0; after = t }, f.rise);
        falls = ap (λ (l : List TableDump). is_after (last_of l) f.low.name) (sym (append_assoc before (d ∷ []) f.observed)) ∙ f.falls;
        plain = f.plain;
      })
    ])
    (λ t. inr (record { observed = []; low = d; later = ds; is = refl; rise = tt; falls = ap (λ (l : List TableDump). is_after (last_of l) d.name) (append-nil before) ∙ t; plain = h.0 }))

---- reading stops there

table_none : (before : Option TableDump) (t : Headed) → table_is_plain t.0 → is_after before t.0 ≡ false → table_of before (headed_text t) ≡ None
unfolding table_of
table_none before t fits low =
    ap (table_of before) (pieces_of (codes "table ") (table_text t.0) (codes " ") (decimal t.1)) ∙ rw (table_again t.0 (32 ∷ decimal t.1) fits refl, low) refl
  where
    pieces_of : (w t s n : List ℕ) → w ++ t ++ s ++ n ≡ w ++ (t ++ (s ++ n))
    pieces_of w t s n = simp append_assoc

dump_text : (d : TableDump) (rest : List ℕ) → table_lines d ++ rest ≡ with_lf headed_text (d.name, length d.rows) ++ (flat_map row_line d.rows ++ rest)
dump_text d rest = append_assoc (with_lf headed_text (d.name, length d.rows)) (flat_map row_line d.rows) rest

low_stops : (before : List TableDump) (d : TableDump) (rest : List ℕ) → IsPlainDump d → is_after (last_of before) d.name ≡ false → dump_at before (table_lines d ++ rest) ≡ Err (length (table_lines d ++ rest))
low_stops before d rest plain low =
    let t : Headed = (d.name, length d.rows) in
    let one = (table_form None).one t (record { name = plain.name; count = plain.counted; after = refl }) in
    subst (λ (b : List ℕ). dump_at before b ≡ Err (length b)) (sym (dump_text d rest))
    (rw (cut_again (headed_text t) (flat_map row_line d.rows ++ rest) one, table_none (last_of before) t plain.name low) refl)

texts_after : (d : TableDump) (ds : List TableDump) (rest : List ℕ) → flat_map table_lines (d ∷ ds) ++ rest ≡ table_lines d ++ (flat_map table_lines ds ++ rest)
texts_after d ds rest = append_assoc (table_lines d) (flat_map table_lines ds) rest

dumps_stop : (before observed : List TableDump) (d : TableDump) (later : List TableDump) (rest : List ℕ) → length before + length (observed ++ d ∷ later) < 2 ^ 64 → Each DumpAfter before observed → IsPlainDump d
    → is_after (last_of (before ++ observed)) d.name ≡ false → lines_at dump_at before (length (observed ++ d ∷ later)) (flat_map table_lines (observed ++ d ∷ later) ++ rest) ≡ Err (length (flat_map table_lines (d ∷ later) ++ rest))
unfolding lines_at
dumps_stop before [] d later rest lt rise plain low =
    let low_here : is_after (last_of before) d.name ≡ false = ap (λ (l : List TableDump). is_after (last_of l) d.name) (sym (append-nil before)) ∙ low in
    subst (λ (b : List ℕ). lines_at dump_at before (suc (length later)) b ≡ Err (length b)) (sym (texts_after d later rest)) (rw (low_stops before d (flat_map table_lines later ++ rest) plain low_here) refl)
dumps_stop before (f ∷ fs) d later rest lt rise plain low =
    let more = flat_map table_lines (fs ++ d ∷ later) ++ rest in
    let read = (dump_reads before (omega (arith, lt))).again f more rise.0 in
    let next = dumps_stop (before ++ f ∷ []) fs d later rest (omega (arith, lt, length-append before (f ∷ []))) rise.1 plain (ap (λ (l : List TableDump). is_after (last_of l) d.name) (append_assoc before (f ∷ []) fs) ∙ low) in
    ap (lines_at dump_at before (suc (length (fs ++ d ∷ later)))) (texts_after f (fs ++ d ∷ later) rest) ∙ rw (read, next) refl

tables_stop : (observed : List TableDump) (d : TableDump) (later : List TableDump) (rest : List ℕ) → is_counted (observed ++ d ∷ later) → Each DumpAfter [] observed → IsPlainDump d
    → is_after (last_of observed) d.name ≡ false → tables_at (tables_text_of (observed ++ d ∷ later) ++ rest) ≡ Err (length (flat_map table_lines (d ∷ later) ++ rest))
tables_stop observed d later rest counted rise plain low =
    let ts = observed ++ d ∷ later in
    let head = (line_reads (heading_of (codes "tables ")) (λ n. codes "tables " ++ decimal n) (λ n. n < 2 ^ 64) (heading_form (codes "tables ") refl)).again (length ts) (flat_map table_lines ts ++ rest) counted in
    ap tables_at (append_assoc ((codes "tables " ++ decimal (length ts)) ++ codes "\n") (flat_map table_lines ts) rest) ∙ rw (head, dumps_stop [] observed d later rest (omega (arith, counted)) rise plain low) refl

---- a report whose tables don't all rise

module _ (o : Outcome) (loose : IsLoose o) (f : Falls [] o.tables) where
  abbrev hidden : List ℕ
  hidden = flat_map table_lines (f.low ∷ f.later) ++ codes "end\n"

  tables_fall : tables_at (tables_text_of o.tables ++ codes "end\n") ≡ Err (length hidden)
  tables_fall =
      ap (λ (ts : List TableDump). tables_at (tables_text_of ts ++ codes "end\n")) f.is
      ∙ tables_stop f.observed f.low f.later (codes "end\n") (subst (λ (ts : List TableDump). is_counted ts) f.is loose.tables_counted) f.rise f.plain f.falls

  places_fall : places_at (places_text (o.order, o.tables) ++ codes "end\n") ≡ Err (length hidden)
  places_fall =
      ap places_at (append_assoc (order_text_of o.order) (tables_text_of o.tables) (codes "end\n"))
      ∙ rw (order_read.again o.order (tables_text_of o.tables ++ codes "end\n") (loose.order_counted, loose.order), tables_fall) refl

  parts_fall : parts_at (parts_text o ++ codes "end\n") ≡ Err (length hidden)
  parts_fall =
      ap parts_at (append_assoc (events_text_of o.events) (places_text (o.order, o.tables)) (codes "end\n"))
      ∙ rw (events_read.again o.events (places_text (o.order, o.tables) ++ codes "end\n") (loose.events_counted, loose.events), places_fall) refl

  body_falls : body_at (parts_text o ++ codes "end\n") ≡ Err (length hidden)
  body_falls = rw parts_fall refl

  -- where the reading of its report stops
  report_falls : report_at (report_text_of o) ≡ Err (length hidden)
  report_falls =
      let start = (line_reads (fixed_of title) itself (IsWord title) (fixed_form title refl)).again title (parts_text o ++ codes "end\n") refl in
      ap report_at (sym (pieces (codes "scalardb report 1\n") (events_text_of o.events) (order_text_of o.order) (tables_text_of o.tables) (codes "end\n")))
      ∙ ap (λ (r : Positioned (List ℕ)). then_read r (λ w. then_read (body_at w.1) (λ (y : Outcome × List ℕ). done (y.0, y.1)))) start
      ∙ ap (λ (r : Positioned Outcome). then_read r (λ (y : Outcome × List ℕ). done (y.0, y.1))) body_falls

  -- the text before what is hidden
  abbrev front : List ℕ
  front = (codes "scalardb report 1\n" ++ events_text_of o.events ++ order_text_of o.order) ++ (heading (codes "tables") (length o.tables) ++ flat_map table_lines f.observed)

  text_is : report_text_of o ≡ front ++ hidden
  text_is =
      ap (λ (t : List ℕ). codes "scalardb report 1\n" ++ events_text_of o.events ++ order_text_of o.order ++ (heading (codes "tables") (length o.tables) ++ t) ++ codes "end\n")
      (ap (flat_map table_lines) f.is ∙ flat_map-append table_lines f.observed (f.low ∷ f.later))
      ∙ grouped (codes "scalardb report 1\n" ++ events_text_of o.events ++ order_text_of o.order) (heading (codes "tables") (length o.tables)) (flat_map table_lines f.observed) (flat_map table_lines (f.low ∷ f.later)) (codes "end\n")
    where
      grouped : (f h a b n : List ℕ) → f ++ (h ++ (a ++ b)) ++ n ≡ (f ++ (h ++ a)) ++ (b ++ n)
      grouped f h a b n = simp append_assoc

---- texts of lines that begin one text

abbrev Lines : Type 0
Lines = List (List ℕ)

record Before (rest tail : List ℕ) : Type 0 where
  more : Lines
  is : rest ≡ text_of_lines more ++ tail

record Beyond (lines ends : Lines) (rest tail : List ℕ) : Type 0 where
  line : List ℕ
  more : Lines
  one : is_one_line line ≡ true
  text : text_of_lines lines ≡ text_of_lines ends ++ text_of_lines (line ∷ more)
  is : tail ≡ text_of_lines (line ∷ more) ++ rest

-- One of two beginnings of a text goes on to the other.
compare : (lines ends : Lines) (rest tail : List ℕ) → AreLines lines → AreLines ends → text_of_lines lines ++ rest ≡ text_of_lines ends ++ tail → Before rest tail ⊎ Beyond lines ends rest tail
compare [] ends rest tail h k e = inl (record { more = ends; is = e })
compare (l ∷ ls) [] rest tail h k e = inr (record { line = l; more = ls; one = h.0; text = refl; is = sym e })
compare (l ∷ ls) (m ∷ ms) rest tail h k e =
    let parts : (l ++ codes "\n") ++ (text_of_lines ls ++ rest) ≡ (m ++ codes "\n") ++ (text_of_lines ms ++ tail) =
    sym (append_assoc (l ++ codes "\n") (text_of_lines ls) rest) ∙ e ∙ append_assoc (m ++ codes "\n") (text_of_lines ms) tail in
    let cut : Some (l, text_of_lines ls ++ rest) ≡ Some (m, text_of_lines ms ++ tail) =
    sym (cut_again l (text_of_lines ls ++ rest) h.0) ∙ ap cut_line parts ∙ cut_again m (text_of_lines ms ++ tail) k.0 in
    let both = same_Some (l, text_of_lines ls ++ rest) (m, text_of_lines ms ++ tail) cut in
    elim (compare ls ms rest tail h.1 k.1 (ap (λ (p : List ℕ × List ℕ). p.1) both)) [
      | inl x ↦ inl x
      | inr x ↦ inr (record {
        line = x.line;
        more = x.more;
        one = x.one;
        text = ap (λ (n : List ℕ). (n ++ codes "\n") ++ text_of_lines ls) (ap (λ (p : List ℕ × List ℕ). p.0) both) ∙ ap (λ (t : List ℕ). (m ++ codes "\n") ++ t) x.text
            ∙ sym (append_assoc (m ++ codes "\n") (text_of_lines ms) (text_of_lines (x.line ∷ x.more)));
        is = x.is;
      })
    ]

suffix_same : (a x b y : List ℕ) → a ++ x ≡ b ++ y → length x ≡ length y → x ≡ y
suffix_same a x b y e l =
    let len : length b ≡ length a = omega (arith, ap (λ (t : List ℕ). length t) e, length-append a x, length-append b y, l) in
    sym (drop_at a x (length a) refl) ∙ ap (drop (length a)) e ∙ drop_at b y (length a) len

---- what the lines before a bad line show

module _ (bytes : List ℕ) (left : ℕ) (h : Halt bytes left) (stops : report_in bytes ≡ Err left) where
  first_cut : (line : List ℕ) (more : Lines) (t : List ℕ) → is_one_line line ≡ true → cut_line (text_of_lines (line ∷ more) ++ t) ≡ Some (line, text_of_lines more ++ t)
  first_cut line more t one = ap cut_line (append_assoc (line ++ codes "\n") (text_of_lines more) t) ∙ cut_again line (text_of_lines more ++ t) one

  longer : (line : List ℕ) (more : Lines) (t : List ℕ) → length t < length (text_of_lines (line ∷ more) ++ t)
  longer line more t =
      omega (arith, length-append (text_of_lines (line ∷ more)) t, length-append (line ++ codes "\n") (text_of_lines more), length-append line (codes "\n"))

  -- the lines don't go beyond the place where the reading of that outcome's report stops
  not_beyond : {n : ℕ} (s : Stop report_at report_text_of IsLoose (report_text_of h.begins.outcome) n) → Beyond h.lines s.lines h.begins.rest s.tail → ⊥
  not_beyond s x =
      let t : List ℕ = text_of_lines (x.line ∷ x.more) ++ h.tail in
      let cut : cut_line s.tail ≡ Some (x.line, text_of_lines x.more ++ h.begins.rest) = ap cut_line x.is ∙ first_cut x.line x.more h.begins.rest x.one in
      let same : SameLine (cut_line s.tail) s.tail t =
      subst (λ (c : Option (List ℕ × List ℕ)). SameLine c s.tail t) (sym cut) (text_of_lines x.more ++ h.tail, first_cut x.line x.more h.tail x.one) in
      let all : text_of_lines s.lines ++ t ≡ bytes =
      sym (append_assoc (text_of_lines s.lines) (text_of_lines (x.line ∷ x.more)) h.tail) ∙ ap (λ (u : List ℕ). u ++ h.tail) (sym x.text) ∙ sym h.split in
      let read : report_at bytes ≡ Err (length t) = ap report_at (sym all) ∙ s.local t same in
      let bad : failed {A = Outcome} (length t) ≡ failed left = sym (ap all_of read) ∙ stops in
      absurd (omega (arith, err_is {A = Outcome} (length t) left bad, h.here, longer x.line x.more h.tail))

  shown_with : Falls [] h.begins.outcome.tables → Begins h.lines
  shown_with f =
      let o = h.begins.outcome in
      let s = report_stopping.stops (report_text_of o) (length (hidden o h.begins.loose f)) (report_falls o h.begins.loose f) in
      let rest : List ℕ = hidden o h.begins.loose f in
      let tail_is : s.tail ≡ rest = suffix_same (text_of_lines s.lines) s.tail (front o h.begins.loose f) rest (sym s.split ∙ text_is o h.begins.loose f) s.here in
      elim (compare h.lines s.lines h.begins.rest s.tail h.whole s.whole (sym h.begins.text ∙ s.split)) [
        | inl x ↦ record {
          outcome = o;
          loose = h.begins.loose;
          rest = h.begins.rest;
          text = h.begins.text;
          observed = f.observed;
          later = f.low ∷ f.later;
          tables = f.is;
          rising = each_rising [] f.observed f.rise;
          hidden = (text_of_lines x.more, x.is ∙ ap (λ (t : List ℕ). text_of_lines x.more ++ t) tail_is);
        }
        | inr x ↦ absurd (not_beyond s x)
      ]

  pub begins_shown : Begins h.lines
  begins_shown =
      elim (fall_of [] h.begins.outcome.tables (recursion_from_All IsPlainDump h.begins.outcome.tables h.begins.loose.tables)) [
        | inl e ↦ record {
          outcome = h.begins.outcome;
          loose = h.begins.loose;
          rest = h.begins.rest;
          text = h.begins.text;
          observed = h.begins.outcome.tables;
          later = [];
          tables = sym (append-nil h.begins.outcome.tables);
          rising = each_rising [] h.begins.outcome.tables e;
          hidden = tt;
        }
        | inr f ↦ shown_with f
      ]

---- the bad line

first_bad : (bytes : List ℕ) (n left : ℕ) (h : Halt bytes left) → report_in bytes ≡ Err left → n ≡ count_by is_lf (take (length bytes - left) bytes) + 1 → IsFirstBad bytes n
first_bad bytes n left h stops e =
    let before : List ℕ = text_of_lines h.lines in
    let len : length before ≡ length bytes - left = omega (arith, h.here, ap (λ (b : List ℕ). length b) h.split, length-append before h.tail) in
    let cut : take (length bytes - left) bytes ≡ before = ap (λ (b : List ℕ). take (length bytes - left) b) h.split ∙ take_at before h.tail (length bytes - left) len in
    record {
      lines = h.lines;
      tail = h.tail;
      split = h.split;
      whole = h.whole;
      here = e ∙ ap (λ (t : List ℕ). count_by is_lf t + 1) cut ∙ ap (λ (k : ℕ). k + 1) (count_lines h.lines h.whole);
      begins = begins_shown bytes left h stops;
      dead = dead_of h.lines h.tail h.local;
    }

pub bad_told : (bytes : List ℕ) (r : Result Outcome ReportRefused) → ReadsAs bytes r (report_in bytes) → IfErr r (IsRefusedAt bytes)
bad_told bytes (Ok o) h = tt
bad_told bytes (Err refused.NoMemory) h = tt
bad_told bytes (Err (refused.BadLine n)) h = first_bad bytes n h.0 (halted bytes h.0 h.1) h.1 h.2
