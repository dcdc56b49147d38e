-- The forms of a report's lines.
use Rattle.std.proofs.Common.{◌≡◌, ℕ, ◌^◌, ◌<◌, true, List, [], ◌∷◌, ◌++◌, Option, Some, refl, sym, ap, subst, ◌∙◌, append_assoc}
use Rattle.std.specs.Prelude.{codes}
use Rattle.std.specs.Fmt.{decimal}
use Rattle.std.specs.Str.{bytes_eq}
use Rattle.std.proofs.lemmas.List.{append-nil}
use Rattle.std.proofs.lemmas.Option.{same_Some, cond_some}
use Rattle.std.proofs.lemmas.Slice.Eq.{bytes_eq-Decides}
use Rattle.sdb_types.specs.Order.{table_text}
use Rattle.sdb_types.specs.TxId.{id_text}
use Rattle.sdb_report.specs.Types.{Point, TableDump, TableName}
use Rattle.sdb_model.specs.Plain.{table_is_plain, is_one_line, IsPlainEvent, IsPlainPoint, IsPlainRow}
use Rattle.sdb_model.specs.Report.{event_text_of}
use Rattle.sdb_model.specs.Texts.{row_text_of}
use Rattle.sdb_report.specs.FieldReading.{after, natural_at, row_at, table_at, id_at}
use Rattle.sdb_report.specs.Lines.{whole, numbered_event_of}
use Rattle.sdb_report.proofs.WordLaws.{join, after_is, after_again}
use Rattle.sdb_report.proofs.NumberLaws.{natural_sound, natural_again, id_text_of, id_sound, id_again}
use Rattle.sdb_report.proofs.ValueLaws.{row_sound, row_again}
use Rattle.sdb_report.proofs.KeyLaws.{table_sound, table_again}
use Rattle.sdb_report.proofs.LineLaws.{lines_joined, line_ends, decimal_one, table_one, id_one}
use Rattle.sdb_report.proofs.EventLaws.{whole_is, numbered_is, numbered_again}
use Rattle.sdb_report.specs.Reading.{fixed_of, heading_of, point_of, row_of, is_after, next_table_of, table_of}
use Rattle.sdb_report.proofs.Readers.{HasForm}
use Rattle.sdb_types.proofs.Public.{bind_some}
use Rattle.sdb_types.specs.Options.{◌>>=◌}

---- fixed lines

abbrev pub itself : List ℕ → List ℕ
itself text = text

abbrev pub IsWord : List ℕ → List ℕ → Type 0
IsWord word text = text ≡ word

pub fixed_form : (word : List ℕ) → is_one_line word ≡ true → HasForm (fixed_of word) itself (IsWord word)
fixed_form word one = record {
  is = λ line x l h. let c = cond_some (bytes_eq line word) word x h in ((bytes_eq-Decides line word).0 c.0 ∙ c.1, sym c.1);
  again = λ x p. subst (λ (t : List ℕ). fixed_of word t ≡ Some t) (sym p) (rw ((bytes_eq-Decides word word).1 refl) refl);
  one = λ x p. subst (λ (t : List ℕ). is_one_line t ≡ true) (sym p) one;
}

---- headings

abbrev pub IsCount : ℕ → Type 0
IsCount n = n < 2 ^ 64

count_is : (bytes : List ℕ) (n : ℕ) → whole (natural_at bytes) ≡ Some n → (bytes ≡ decimal n) × IsCount n
count_is bytes n h = whole_is natural_at decimal IsCount natural_sound bytes n h

count_again : (n : ℕ) → IsCount n → natural_at (decimal n) ≡ Some (n, [])
count_again n lt = ap natural_at (sym (append-nil (decimal n))) ∙ natural_again n [] lt refl

pub heading_form : (word : List ℕ) → is_one_line word ≡ true → HasForm (heading_of word) (λ n. word ++ decimal n) IsCount
heading_form word one = record {
  is = λ line n l h.
      let a = bind_some (after word line) (λ rest. whole (natural_at rest)) n h in
      let c = count_is a.0 n a.2 in
      (after_is word line a.0 a.1 ∙ ap (λ (t : List ℕ). word ++ t) c.0, c.1);
  again = λ n lt. rw (after_again word (decimal n), count_again n lt) refl;
  one = λ n lt. lines_joined word (decimal n) one (decimal_one n lt);
}

---- items

pub event_form : (n : ℕ) → n < 2 ^ 64 → HasForm (numbered_event_of n) (λ e. decimal n ++ codes " " ++ event_text_of e) IsPlainEvent
event_form n lt = record {
  is = λ line e l h.
      let s = numbered_is n line e h in
      let whole_line : is_one_line (decimal n ++ codes " " ++ event_text_of e) ≡ true = subst (λ (t : List ℕ). is_one_line t ≡ true) s.0 l in
      (s.0, record { parts = s.1; one_line = line_ends (decimal n ++ codes " ") (event_text_of e) whole_line });
  again = λ e p. numbered_again n e p.parts;
  one = λ e p. lines_joined (decimal n ++ codes " ") (event_text_of e) (lines_joined (decimal n) (codes " ") (decimal_one n lt) refl) p.one_line;
}

abbrev pub point_text : Point → List ℕ
point_text p = id_text p.id.0 ++ codes " " ++ decimal p.event

point_is : (line : List ℕ) (p : Point) → is_one_line line ≡ true → point_of line ≡ Some p → (line ≡ point_text p) × IsPlainPoint p
unfolding point_of
point_is line p l h =
    let a = bind_some (id_at line) (λ id. after (codes " ") id.1 >>= λ rest. whole (natural_at rest) >>= λ n. Some (record { id = id.0; event = n })) p h in
    let b = bind_some (after (codes " ") a.0.1) (λ rest. whole (natural_at rest) >>= λ n. Some (record { id = a.0.0; event = n })) p a.2 in
    let c = bind_some (whole (natural_at b.0)) (λ n. Some (record { id = a.0.0; event = n })) p b.2 in
    let i = id_sound line a.0 a.1 in
    let n = count_is b.0 c.0 c.1 in
    let two : line ≡ (id_text_of a.0.0 ++ codes " ") ++ b.0 = join (id_text_of a.0.0) (codes " ") b.0 i.parts (after_is (codes " ") a.0.1 b.0 b.1) in
    let made : Point = record { id = a.0.0; event = c.0 } in
    subst (λ (q : Point). (line ≡ point_text q) × IsPlainPoint q) (same_Some made p c.2) (two ∙ ap (λ (t : List ℕ). (id_text_of a.0.0 ++ codes " ") ++ t) n.0, record { id = i.fits; event = n.1 })

point_again : (p : Point) → IsPlainPoint p → point_of (point_text p) ≡ Some p
unfolding point_of
point_again p fits = ap point_of (append_assoc (id_text p.id.0) (codes " ") (decimal p.event)) ∙ rw (id_again p.id (32 ∷ decimal p.event) fits.id, count_again p.event fits.event) refl

pub point_form : HasForm point_of point_text IsPlainPoint
point_form = record {
  is = point_is;
  again = point_again;
  one = λ p fits. lines_joined (id_text p.id.0 ++ codes " ") (decimal p.event) (lines_joined (id_text p.id.0) (codes " ") (id_one p.id.0) refl) (decimal_one p.event fits.event);
}

pub row_form : HasForm row_of row_text_of IsPlainRow
row_form = record {
  is = λ line row l h. let s = whole_is row_at row_text_of _ row_sound line row h in (s.0, record { fits = s.1; one_line = subst (λ (t : List ℕ). is_one_line t ≡ true) s.0 l });
  again = λ row p. let r : row_at (row_text_of row) ≡ Some (row, []) = ap row_at (sym (append-nil (row_text_of row))) ∙ row_again row [] p.fits in rw r refl;
  one = λ row p. p.one_line;
}

abbrev pub Headed : Type 0
Headed = TableName × ℕ

abbrev pub headed_text : Headed → List ℕ
headed_text t = codes "table " ++ table_text t.0 ++ codes " " ++ decimal t.1

pub record IsNext (before : Option TableDump) (t : Headed) : Type 0 where
  pub name : table_is_plain t.0
  pub count : IsCount t.1
  pub after : is_after before t.0 ≡ true

table_is : (before : Option TableDump) (line : List ℕ) (t : Headed) → is_one_line line ≡ true → table_of before line ≡ Some t → (line ≡ headed_text t) × IsNext before t
unfolding table_of
table_is before line t l h =
    let last : TableName → List ℕ → Option Headed = λ table rest. whole (natural_at rest) >>= λ n. Some (table, n) in
    let a = bind_some (after (codes "table ") line) (λ rest. table_at rest >>= λ name. next_table_of before name.0 >>= λ table. after (codes " ") name.1 >>= last table) t h in
    let b = bind_some (table_at a.0) (λ name. next_table_of before name.0 >>= λ table. after (codes " ") name.1 >>= last table) t a.2 in
    let c = bind_some (next_table_of before b.0.0) (λ table. after (codes " ") b.0.1 >>= last table) t b.2 in
    let d = bind_some (after (codes " ") b.0.1) (last c.0) t c.2 in
    let e = bind_some (whole (natural_at d.0)) (λ n. Some (c.0, n)) t d.2 in
    let name = table_sound a.0 b.0 b.1 in
    let passed = cond_some (is_after before b.0.0) b.0.0 c.0 c.1 in
    let n = count_is d.0 e.0 e.1 in
    let two = join (codes "table ") (table_text b.0.0) b.0.1 (after_is (codes "table ") line a.0 a.1) name.parts in
    let three : line ≡ (codes "table " ++ table_text b.0.0 ++ codes " ") ++ d.0 = join (codes "table " ++ table_text b.0.0) (codes " ") d.0 two (after_is (codes " ") b.0.1 d.0 d.1) in
    let four : line ≡ headed_text (b.0.0, e.0) = three ∙ ap (λ (r : List ℕ). (codes "table " ++ table_text b.0.0 ++ codes " ") ++ r) n.0 in
    let said : (line ≡ headed_text (b.0.0, e.0)) × IsNext before (b.0.0, e.0) = (four, record { name = name.fits; count = n.1; after = passed.0 }) in
    subst (λ (u : Headed). (line ≡ headed_text u) × IsNext before u) (same_Some (c.0, e.0) t e.2) (subst (λ (u : TableName). (line ≡ headed_text (u, e.0)) × IsNext before (u, e.0)) passed.1 said)

headed_pieces : (w t s n : List ℕ) → w ++ t ++ s ++ n ≡ w ++ (t ++ (s ++ n))
headed_pieces w t s n = simp append_assoc

table_form_again : (before : Option TableDump) (t : Headed) → IsNext before t → table_of before (headed_text t) ≡ Some t
unfolding table_of
table_form_again before t p =
    ap (table_of before) (headed_pieces (codes "table ") (table_text t.0) (codes " ") (decimal t.1))
    ∙ rw (table_again t.0 (32 ∷ decimal t.1) p.name refl, p.after, count_again t.1 p.count) refl

pub table_form : (before : Option TableDump) → HasForm (table_of before) headed_text (IsNext before)
table_form before = record {
  is = table_is before;
  again = table_form_again before;
  one = λ t p. lines_joined (codes "table " ++ table_text t.0 ++ codes " ") (decimal t.1) (lines_joined (codes "table " ++ table_text t.0) (codes " ") (lines_joined (codes "table ") (table_text t.0) refl (table_one t.0 p.name)) refl) (decimal_one t.1 p.count);
}
