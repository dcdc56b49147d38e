-- Tables written one after the other.
use Rattle.std.proofs.Common.{◌≡◌, ℕ, zero, suc, ◌+◌, ◌<◌, List, [], ◌∷◌, ◌++◌, length, map, take, get_or, add-one, Bool, true, false, ◌&&◌, cond, refl, sym, ap, subst, ◌∙◌, arith, append-nil, Some}
use Rattle.std.specs.Prelude.{flat_map, insert, slice_get, take_while, nat_le}
use Rattle.std.specs.List.{list_all}
use Rattle.std.specs.Ordering.{is_lt}
use Rattle.std.proofs.Math.Seq.{take-suc}
use Rattle.std.proofs.lemmas.Grind.{flat_map-append}
use Rattle.std.proofs.lemmas.List.{map-append}
use Rattle.std.proofs.lemmas.Option.{slice_get_within, get_or_from_slice_get}
use Rattle.sdb_catalog.specs.Types.{Place, Reply, Request, Table}
use Rattle.sdb_types.specs.Order.{table_cmp}
use Rattle.sdb_types.proofs.Public.{and_both, and_first, and_second}
use Rattle.sdb_schema.specs.Catalog.{is_catalog, rises as names_rise, with_table}
use Rattle.sdb_schema.specs.Table.{is_table, rises}
use Rattle.sdb_schema.proofs.Public.{with_table-is}
use Rattle.sdb_stores.specs.Views.{Attached, StoreView, names_of}
use Rattle.sdb_catalog.specs.declared.entry.Entry.{Entry}
use Rattle.sdb_catalog.specs.declared.outcome.Outcome.{Outcome}
use Rattle.sdb_catalog.specs.declared.outcome.Outcome.TheVariants as outcome
use Rattle.sdb_catalog.specs.Calls.{Called, IsRead, with_states}
use Rattle.sdb_catalog.specs.Rows.{coordinators}
use Rattle.sdb_catalog.specs.Written.{AreWritten, HasWritten, IsStored, IsWritten, Line, entry_for, grown, line_text, written_tables}
use Rattle.sdb_catalog.proofs.Again.{rising_columns}
use Rattle.sdb_catalog.proofs.Reading.{own_rises}

---- what was answered at first goes on being answered

pub called_from : (q : Request) (r : Reply) (old mid : Attached) (new : List StoreView) → ((i : ℕ) → old.known i → mid.known i) → Called q r mid new → Called q r (with_states old mid.views) new
called_from q r old mid new goes call = record {
  formed = call.formed;
  before = call.before;
  now = call.now;
  stood = call.stood;
  rest = call.rest;
  name = call.name;
  performed = λ h. call.performed (goes 0 h);
  lawful = call.lawful;
  counted = call.counted;
  cause = call.cause;
  where_known = λ i h. h;
}

written_from : (known : List Entry) (e : Entry) (o : Outcome) (old mid : Attached) (new : List StoreView) → ((i : ℕ) → old.known i → mid.known i) → IsWritten known e o mid new → IsWritten known e o (with_states old mid.views) new
written_from known e outcome.Created old mid new goes h = (h.0, called_from _ _ old mid new goes h.1)
written_from known e outcome.Exists old mid new goes h = (h.0, (h.1.0, called_from _ _ old mid new goes h.1.1, h.1.2))
written_from known e outcome.Differs old mid new goes h = (h.0, (h.1.0, called_from _ _ old mid new goes h.1.1, h.1.2))
written_from known e outcome.Full old mid new goes h = h

---- one line more

-- the entries that are known after lines
abbrev pub known_after : List Place → List ℕ → List Entry → List Line → List Entry
known_after places first known [] = known
known_after places first known (l ∷ ls) = known_after places first (grown known (entry_for known places first l.table) l.outcome) ls

lines_known : (places : List Place) (first : List ℕ) (known : List Entry) (ls : List Line) (l : Line) → known_after places first known (ls ++ l ∷ []) ≡ grown (known_after places first known ls) (entry_for (known_after places first known ls) places first l.table) l.outcome
lines_known places first known [] l = refl
lines_known places first known (x ∷ xs) l = lines_known places first (grown known (entry_for known places first x.table) x.outcome) xs l

are_written_more : (places : List Place) (first : List ℕ) (known : List Entry) (ls : List Line) (l : Line) (old : Attached) (mid new : List StoreView) → AreWritten places first known ls old mid
    → IsWritten (known_after places first known ls) (entry_for (known_after places first known ls) places first l.table) l.outcome (with_states old mid) new → AreWritten places first known (ls ++ l ∷ []) old new
are_written_more places first known [] l old mid new h k =
    (new, subst (λ (s : List StoreView). IsWritten known (entry_for known places first l.table) l.outcome (with_states old s) new) h k, refl)
are_written_more places first known (x ∷ xs) l old mid new h k =
    (h.0, h.1, are_written_more places first (grown known (entry_for known places first x.table) x.outcome) xs l (with_states old h.0) mid new h.2 k)

-- what the loop keeps
pub record WrittenSo (places : List Place) (first : List ℕ) (known now : List Entry) (ts : List Table) (answer : List ℕ) (old : Attached) (new : List StoreView) : Type 0 where
  pub lines : List Line
  pub tables : map (λ (l : Line). l.table) lines ≡ ts
  pub written : AreWritten places first known lines old new
  pub known_now : now ≡ known_after places first known lines
  pub text : answer ≡ flat_map line_text lines

pub written_none : (places : List Place) (first : List ℕ) (known : List Entry) (old : Attached) → WrittenSo places first known known [] [] old old.views
written_none places first known old = record { lines = []; tables = refl; written = refl; known_now = refl; text = refl }

abbrev pub line_of : Table → Outcome → Line
line_of t o = record { table = t; outcome = o }

pub written_one : (places : List Place) (first : List ℕ) (known now next : List Entry) (ts more : List Table) (t : Table) (o : Outcome) (e : Entry) (answer longer : List ℕ) (old mid : Attached) (new : List StoreView)
    → WrittenSo places first known now ts answer old mid.views → ((i : ℕ) → old.known i → mid.known i) → e ≡ entry_for now places first t → IsWritten now e o mid new → next ≡ grown now e o
    → longer ≡ answer ++ line_text (line_of t o) → more ≡ ts ++ t ∷ [] → WrittenSo places first known next more longer old new
written_one places first known now next ts more t o e answer longer old mid new so goes is step known_is text_is more_is =
    let l = line_of t o in
    let here : IsWritten (known_after places first known so.lines) (entry_for (known_after places first known so.lines) places first t) o (with_states old mid.views) new =
    subst (λ (k : List Entry). IsWritten k (entry_for k places first t) o (with_states old mid.views) new) so.known_now (subst (λ (x : Entry). IsWritten now x o (with_states old mid.views) new) is (written_from now e o old mid new goes step)) in
    record {
      lines = so.lines ++ l ∷ [];
      tables = map-append (λ (x : Line). x.table) so.lines (l ∷ []) ∙ ap (λ (xs : List Table). xs ++ t ∷ []) so.tables ∙ sym more_is;
      written = are_written_more places first known so.lines l old mid.views new so.written here;
      known_now = known_is ∙ ap (λ (x : Entry). grown now x o) is ∙ ap (λ (k : List Entry). grown k (entry_for k places first t) o) so.known_now ∙ sym (lines_known places first known so.lines l);
      text = text_is ∙ ap (λ (s : List ℕ). s ++ line_text l) so.text ∙ ap (λ (s : List ℕ). flat_map line_text so.lines ++ s) (sym (append-nil (line_text l))) ∙ sym (flat_map-append line_text so.lines (l ∷ []));
    }

pub has_written : (places : List Place) (first : List ℕ) (known now : List Entry) (ts all : List Table) (answer : List ℕ) (old : Attached) (new : List StoreView) → WrittenSo places first known now ts answer old new → ts ≡ all → HasWritten places first known all answer old new
has_written places first known now ts all answer old new so is = record { lines = so.lines; tables = so.tables ∙ is; written = so.written; text = so.text }

---- the tables

pub table_more : (ts more : List Table) (i : ℕ) (t : Table) → slice_get ts i ≡ Some t → more ≡ take i ts ++ t ∷ [] → more ≡ take (i + 1) ts
table_more ts more i t here is =
    is ∙ ap (λ (x : Table). take i ts ++ x ∷ []) (sym (get_or_from_slice_get ts i t t here)) ∙ sym (take-suc ts i t (slice_get_within ts i t here)) ∙ ap (λ (n : ℕ). take n ts) (sym (add-one i))

pub item_more : (ts : List Table) (i : ℕ) (t : Table) → i < length ts → t ≡ get_or ts i t → take (i + 1) ts ≡ take i ts ++ t ∷ []
item_more ts i t inside is = ap (λ (n : ℕ). take n ts) (add-one i) ∙ take-suc ts i t inside ∙ ap (λ (x : Table). take i ts ++ x ∷ []) (sym is)

all_with : (p : Table → Bool) (t : Table) (us : List Table) → p t ≡ true → list_all p us ≡ true → list_all p (with_table t us) ≡ true
all_with p t [] h k = and_both (p t) true h refl
all_with p t (u ∷ us) h k =
    elim (is_lt (table_cmp u.name t.name)) as (λ b. list_all p (cond b (u ∷ with_table t us) (t ∷ u ∷ us)) ≡ true) [
      | true ↦ and_both (p u) (list_all p (with_table t us)) (and_first (p u) (list_all p us) k) (all_with p t us h (and_second (p u) (list_all p us) k))
      | false ↦ and_both (p t) (list_all p (u ∷ us)) h k
    ]

each_rises : (us : List Table) → list_all is_table us ≡ true → list_all (λ (u : Table). rises u.columns) us ≡ true
each_rises [] h = refl
each_rises (u ∷ us) h = and_both (rises u.columns) (list_all (λ (x : Table). rises x.columns) us) (rising_columns u (and_first (is_table u) (list_all is_table us) h)) (each_rises us (and_second (is_table u) (list_all is_table us) h))

each_table : (ts : List Table) → is_catalog ts ≡ true → list_all is_table ts ≡ true
each_table ts h =
    and_second (nat_le (length ts) 64) (list_all is_table ts) (and_second (names_rise ts) (nat_le (length ts) 64 && list_all is_table ts) h)

-- the columns of each written table are in the order of their names
pub written_rise : (ts : List Table) → is_catalog ts ≡ true → list_all (λ (u : Table). rises u.columns) (written_tables ts) ≡ true
written_rise ts h = all_with (λ (u : Table). rises u.columns) coordinators ts own_rises (each_rises ts (each_table ts h))

pub rises_at : (ts : List Table) (i : ℕ) (t : Table) → list_all (λ (u : Table). rises u.columns) ts ≡ true → i < length ts → t ≡ get_or ts i t → rises t.columns ≡ true
rises_at [] i t h inside is = absurd (omega arith)
rises_at (x ∷ xs) zero t h inside is = ap (λ (u : Table). rises u.columns) is ∙ and_first (rises x.columns) (list_all (λ (u : Table). rises u.columns) xs) h
rises_at (x ∷ xs) (suc i) t h inside is = rises_at xs i t (and_second (rises x.columns) (list_all (λ (u : Table). rises u.columns) xs) h) (omega arith) is

---- the whole

are_written_from : (places : List Place) (first : List ℕ) (known : List Entry) (ls : List Line) (old mid : Attached) (new : List StoreView) → ((i : ℕ) → old.known i → mid.known i) → AreWritten places first known ls mid new → AreWritten places first known ls (with_states old mid.views) new
are_written_from places first known [] old mid new goes h = h
are_written_from places first known (l ∷ ls) old mid new goes h =
    (h.0, written_from known (entry_for known places first l.table) l.outcome old mid h.0 goes h.1, are_written_from places first (grown known (entry_for known places first l.table) l.outcome) ls old (with_states mid h.0) new goes h.2)

pub stored : (places : List Place) (catalog ts : List Table) (first text answer : List ℕ) (es : List Entry) (old mid : Attached) (new : List StoreView) → IsRead old mid.views es → slice_get (names_of old.views) 0 ≡ Some first → ((i : ℕ) → old.known i → mid.known i)
    → HasWritten places first es ts text mid new → ts ≡ written_tables catalog → answer ≡ text → IsStored places catalog answer old new
stored places catalog ts first text answer es old mid new read named goes written is same = record {
  entries = es;
  mid = mid.views;
  read = read;
  first = first;
  named = named;
  written = record {
    lines = written.lines;
    tables = written.tables ∙ is;
    written = are_written_from places first es written.lines old mid new goes written.written;
    text = same ∙ written.text;
  };
}

pub all_written : (catalog ts seen more : List Table) (own : Table) (place : ℕ) → more ≡ insert ts place own → place ≡ length (take_while (λ (t : Table). is_lt (table_cmp t.name own.name)) seen) → seen ≡ ts → ts ≡ catalog → own ≡ coordinators → more ≡ written_tables catalog
all_written catalog ts seen more own place put at same is own_is =
    put ∙ ap (λ (n : ℕ). insert ts n own) (at ∙ ap (λ (l : List Table). length (take_while (λ (t : Table). is_lt (table_cmp t.name own.name)) l)) same)
    ∙ with_table-is own ts ∙ ap (with_table own) is ∙ ap (λ (t : Table). with_table t catalog) own_is
