-- The rows that a transaction has, as statements and events come.
use Rattle.std.proofs.Common.{◌≡◌, ℕ, Bool, true, false, not, List, [], ◌∷◌, ◌++◌, Option, Some, refl, sym, ap, subst, ◌∙◌}
use Rattle.std.specs.Prelude.{if◌then◌else◌, filter}
use Rattle.std.specs.List.{AllByRecursion}
use Rattle.std.specs.Option.{option_map_or}
use Rattle.std.proofs.lemmas.List.{append-nil, append_assoc}
use Rattle.std.proofs.lemmas.List.Elements.{filter-append}
use Rattle.std.proofs.lemmas.List.Sums.{fold-append}
use Rattle.law_answers.specs.Types.{Answer, Event, Image, Key, Pair, Statement, Table, Value}
use Rattle.sdb_types.proofs.Public.{all_each as each_any, clash}
use Rattle.sdb_model.specs.declared.answer.Answer.TheVariants as answer
use Rattle.sdb_model.specs.Calls.{StoreCall, calls_of}
use Rattle.sdb_model.specs.ReadSet.{has_finished}
use Rattle.sdb_model.specs.DirtyReads.{StartsWith, WasFound, row_left}
use Rattle.sdb_model.specs.Sql.{Reads}
use Rattle.sdb_model.specs.Serial.{AreRead}
use Rattle.sdb_model.specs.Transactions.{Executed, changes_nothing, is_effective}
use Rattle.sdb_snapshot.specs.Seen.{Seen}
use Rattle.law_answers.specs.Views.{FoundFor, HasAfter, HasBefore, SeesOwn, GivesOwn, GivesRows}
use Rattle.law_answers.specs.Invariant.{IsAnswered}
use Rattle.law_answers.proofs.Calls.{calls_stay}

---- lists of statements

starts_more : (s x : Executed) (ss : List Executed) → StartsWith s ss → StartsWith s (ss ++ x ∷ [])
starts_more s x [] h = absurd h
starts_more s x (y ∷ ys) h = h

pub read_more : (xs : List Executed) (sts : List Statement) (x : Executed) (st : Statement) → AreRead xs sts → Reads x.text st → AreRead (xs ++ x ∷ []) (sts ++ st ∷ [])
read_more [] [] x st h r = (r, tt)
read_more [] (y ∷ ys) x st h r = absurd h
read_more (z ∷ zs) [] x st h r = absurd h
read_more (z ∷ zs) (y ∷ ys) x st h r = (h.0, read_more zs ys x st h.1 r)

effective_more : (body : List Executed) (s : Executed) → is_effective s ≡ true → filter is_effective (body ++ s ∷ []) ≡ filter is_effective body ++ s ∷ []
effective_more body s e = filter-append is_effective body (s ∷ []) ∙ ap (λ b. filter is_effective body ++ (if b then s ∷ [] else [])) e

effective_same : (body : List Executed) (s : Executed) → is_effective s ≡ false → filter is_effective (body ++ s ∷ []) ≡ filter is_effective body
effective_same body s e = filter-append is_effective body (s ∷ []) ∙ ap (λ b. filter is_effective body ++ (if b then s ∷ [] else [])) e ∙ append-nil (filter is_effective body)

pub effective_by : (s : Executed) (b : Answer) (t : Bool) → s.answer ≡ Some b → changes_nothing b ≡ t → is_effective s ≡ not t
effective_by s b t is e = ap (λ (o : Option Answer). not (option_map_or changes_nothing o false)) is ∙ ap not e

---- one statement more

module _ (catalog : List Table) (events : List Event) (c : ℕ) where
  -- what a transaction has it has before the next statement
  pub has_before : (body : List Executed) (s : Executed) (key : Key) (row : Option (List Pair)) → HasAfter catalog events c body key row → HasBefore catalog events c body s key row
  has_before body s key row h = record { first = h.first; earlier = h.earlier; changing = h.changing; sts = h.sts; base = h.base; parts = h.parts; begins = starts_more h.first s h.changing h.begins; observed = h.observed; read = h.read; made = h.made }

  -- what the statement itself was shown
  pub has_shown : (body : List Executed) (s : Executed) (key : Key) (row : Option (List Pair)) → FoundFor catalog events c s key row → HasBefore catalog events c body s key row
  has_shown body s key row f = record { first = s; earlier = body; changing = []; sts = []; base = row; parts = sym (append-nil body); begins = refl; observed = f; read = tt; made = refl }

  -- and what the statement then leaves
  pub has_next : (body : List Executed) (s : Executed) (key : Key) (row left : Option (List Pair)) (st : Statement) → is_effective s ≡ true → Reads s.text st → row_left catalog st key row ≡ left → HasBefore catalog events c body s key row → HasAfter catalog events c (body ++ s ∷ []) key left
  has_next body s key row left st e reads leaves h = record {
    first = h.first;
    earlier = h.earlier;
    changing = h.changing ++ s ∷ [];
    sts = h.sts ++ st ∷ [];
    base = h.base;
    parts = ap (λ xs. xs ++ s ∷ []) h.parts ∙ append_assoc h.earlier h.changing (s ∷ []);
    begins = h.begins;
    observed = h.observed;
    read = subst (λ xs. AreRead xs (h.sts ++ st ∷ [])) (sym (effective_more h.changing s e)) (read_more (filter is_effective h.changing) h.sts s st h.read reads);
    made = sym leaves ∙ ap (row_left catalog st key) h.made ∙ sym (fold-append (λ r x. row_left catalog x key r) h.base h.sts (st ∷ []));
  }

  -- one that changes nothing leaves all as it was
  has_same : (body : List Executed) (s : Executed) (key : Key) (row : Option (List Pair)) → is_effective s ≡ false → HasAfter catalog events c body key row → HasAfter catalog events c (body ++ s ∷ []) key row
  has_same body s key row e h = record {
    first = h.first;
    earlier = h.earlier;
    changing = h.changing ++ s ∷ [];
    sts = h.sts;
    base = h.base;
    parts = ap (λ xs. xs ++ s ∷ []) h.parts ∙ append_assoc h.earlier h.changing (s ∷ []);
    begins = starts_more h.first s h.changing h.begins;
    observed = h.observed;
    read = subst (λ xs. AreRead xs h.sts) (sym (effective_same h.changing s e)) h.read;
    made = h.made;
  }

  -- also what it was shown itself
  pub has_kept : (body : List Executed) (s : Executed) (key : Key) (row : Option (List Pair)) → is_effective s ≡ false → HasBefore catalog events c body s key row → HasAfter catalog events c (body ++ s ∷ []) key row
  has_kept body s key row e h = record {
    first = h.first;
    earlier = h.earlier;
    changing = h.changing ++ s ∷ [];
    sts = h.sts;
    base = h.base;
    parts = ap (λ xs. xs ++ s ∷ []) h.parts ∙ append_assoc h.earlier h.changing (s ∷ []);
    begins = h.begins;
    observed = h.observed;
    read = subst (λ xs. AreRead xs h.sts) (sym (effective_same h.changing s e)) h.read;
    made = h.made;
  }

  pub sees_same : (body : List Executed) (s : Executed) (v : Seen) → is_effective s ≡ false → SeesOwn catalog events c body v → SeesOwn catalog events c (body ++ s ∷ []) v
  sees_same body s v e sees key as_read fits = has_same body s key _ e (sees key as_read fits)

  -- an answer that says that nothing was changed shows no row
  pub tells_none : (body : List Executed) (s : Executed) (a : Answer) → changes_nothing a ≡ true → GivesOwn catalog events c body s a
  tells_none body s (answer.Rows rows) e = clash (sym e)
  tells_none body s (answer.Duplicate key) e = clash (sym e)
  tells_none body s a e = tt

---- one event more

each_behind : (P : Executed → Type 0) (xs ys : List Executed) → AllByRecursion P (xs ++ ys) → AllByRecursion P ys
each_behind P [] ys all = all
each_behind P (x ∷ xs) ys all = each_behind P xs ys all.1

-- what is so of the statements of a body is so of those from one on
pub each_changing : (P : Executed → Type 0) (body earlier changing : List Executed) → body ≡ earlier ++ changing → AllByRecursion P body → AllByRecursion P changing
each_changing P body earlier changing parts all = each_behind P earlier changing (subst (AllByRecursion P) parts all)

pub first_so : (P : Executed → Type 0) (xs : List Executed) (s first : Executed) → StartsWith first (xs ++ s ∷ []) → AllByRecursion P xs → P s → P first
first_so P [] s first b all p = subst P (sym b) p
first_so P (x ∷ xs) s first b all p = subst P (sym b) all.0

first_front : (P : Executed → Type 0) (xs : List Executed) (first : Executed) → StartsWith first xs → AllByRecursion P xs → P first
first_front P [] first b all = absurd b
first_front P (x ∷ xs) first b all = subst P (sym b) all.0

module _ (catalog under : List Table) (events : List Event) (e : Event) (c : ℕ) where
  abbrev E : List Event
  E = events ++ e ∷ []

  -- the calls of a statement stay
  abbrev Stays : Executed → Type 0
  Stays s = calls_of E c s ≡ calls_of events c s

  stay_all : (ss : List Executed) → AllByRecursion (IsAnswered catalog events c) ss → AllByRecursion Stays ss
  stay_all ss all = each_any (IsAnswered catalog events c) Stays ss (λ s h. calls_stay c events e s h.given h.is h.answered) all

  stay_changing : (body earlier changing : List Executed) → AllByRecursion (IsAnswered catalog events c) body → body ≡ earlier ++ changing → AllByRecursion Stays changing
  stay_changing body earlier changing all parts = each_changing Stays body earlier changing parts (stay_all body all)

  found_still : (s : Executed) (key : Key) (row : Option (List Pair)) → Stays s → FoundFor under events c s key row → FoundFor under E c s key row
  found_still s key row same f = record { answered = ap (λ ms. has_finished ms s) same ∙ f.answered; no_vacuum = f.no_vacuum; table = f.table; found = subst (λ (ms : List StoreCall). WasFound ms key row) (sym same) f.found }

  before_still : (body : List Executed) (s : Executed) (key : Key) (row : Option (List Pair)) → AllByRecursion (IsAnswered catalog events c) body → Stays s → HasBefore under events c body s key row → HasBefore under E c body s key row
  before_still body s key row all same h = record { first = h.first; earlier = h.earlier; changing = h.changing; sts = h.sts; base = h.base; parts = h.parts; begins = h.begins; observed = found_still h.first key h.base (first_so Stays h.changing s h.first h.begins (stay_changing body h.earlier h.changing all h.parts) same) h.observed; read = h.read; made = h.made }

  after_still : (body : List Executed) (key : Key) (row : Option (List Pair)) → AllByRecursion (IsAnswered catalog events c) body → HasAfter under events c body key row → HasAfter under E c body key row
  after_still body key row all h = record { first = h.first; earlier = h.earlier; changing = h.changing; sts = h.sts; base = h.base; parts = h.parts; begins = h.begins; observed = found_still h.first key h.base (first_front Stays h.changing h.first h.begins (stay_changing body h.earlier h.changing all h.parts)) h.observed; read = h.read; made = h.made }

  pub sees_still : (body : List Executed) (v : Seen) → AllByRecursion (IsAnswered catalog events c) body → SeesOwn under events c body v → SeesOwn under E c body v
  sees_still body v all sees key as_read fits = after_still body key _ all (sees key as_read fits)

  rows_still : (body : List Executed) (s : Executed) (rows : List (List Value)) → AllByRecursion (IsAnswered catalog events c) body → Stays s → GivesRows under events c body s rows → GivesRows under E c body s rows
  rows_still body s rows all same (t, select, images, reads, found, observed, own) = (t, select, images, reads, found, observed, each_any (λ (r : Image). HasBefore under events c body s r.key (Some r.columns)) (λ (r : Image). HasBefore under E c body s r.key (Some r.columns)) images (λ r h. before_still body s r.key (Some r.columns) all same h) own)

  pub tells_still : (body : List Executed) (s : Executed) (a : Answer) → AllByRecursion (IsAnswered catalog events c) body → Stays s → GivesOwn under events c body s a → GivesOwn under E c body s a
  tells_still body s (answer.Rows rows) all same h = rows_still body s rows all same h
  tells_still body s (answer.Duplicate key) all same h = (h.0, before_still body s key (Some h.0) all same h.1)
  tells_still body s a all same h = tt
