-- Each row that a client is shown is one that its transaction has.
use Rattle.std.proofs.Common.{◌≡◌, ◌⊎◌, inl, inr, ℕ, ℤ, Bool, true, false, List, [], ◌∷◌, ◌++◌, Option, Some, None, refl, sym, ap, subst, ◌∙◌, arith}
use Rattle.std.specs.Prelude.{if◌then◌else◌, is_some, IfSome, Contains}
use Rattle.std.specs.List.{AllByRecursion}
use Rattle.std.proofs.lemmas.List.{append-nil}
use Rattle.std.proofs.lemmas.List.Elements.{All-contains_itself, recursion_from_All}
use Rattle.law_answers.specs.Types.{Answer, Event, Image, Key, Pair, Table, TxId}
use Rattle.sdb_types.proofs.Public.{all_each as each_any, one_of}
use Rattle.sdb_model.specs.Catalogs.{catalog_after}
use Rattle.sdb_model.specs.Causes.{before}
use Rattle.sdb_model.proofs.Public.{same_tables}
use Rattle.sdb_model.specs.declared.answer.Answer.TheVariants as answer
use Rattle.sdb_model.specs.DirtyReads.{AnswersHaveRows, HasRow, AnswersAreOf}
use Rattle.sdb_model.specs.ReadSet.{has_read}
use Rattle.sdb_model.specs.Transactions.{Executed, client_of, ends, from_begin, ordinal_of, rest_of, statements_by, statements_of, through_end}
use Rattle.law_clients.specs.States.{ClientState}
use Rattle.law_clients.specs.History.{waiting_of}
use Rattle.law_answers.specs.Views.{AllGiveOwn, HasBefore, RowsAreOwn, GivesOwn, WasRead}
use Rattle.law_answers.specs.Invariant.{CauseInvariant, IsWaiting, Knows}
use Rattle.law_answers.proofs.ReadSets.{each_left, each_middle, since_all}
use Rattle.law_answers.proofs.OwnRows.{each_changing, first_so}
use Rattle.law_answers.proofs.OwnRowsAnswered.{own_waits}

---- the statements of a transaction

-- A statement among those up to the end, with those before it, none of which ends the transaction.
record IsPart (ss through : List Executed) (s : Executed) : Type 0 where
  body : List Executed
  post : List Executed
  tail : List Executed
  through_is : through ≡ body ++ s ∷ post
  all_is : ss ≡ body ++ s ∷ tail
  goes_on : AllByRecursion (λ x. ends x ≡ false) body

parted : (ss : List Executed) (s : Executed) → Contains (through_end ss) s → IsPart ss (through_end ss) s
parted [] s has = absurd (omega (arith, has.1))
parted (x ∷ xs) s has = by (ends x) refl (λ h. parted xs s h) has
  where
    first : (more : List Executed) → x ≡ s → IsPart (x ∷ xs) (x ∷ more) s
    first more same = record { body = []; post = more; tail = xs; through_is = ap (λ (y : Executed). y ∷ more) same; all_is = ap (λ (y : Executed). y ∷ xs) same; goes_on = tt }

    later : ends x ≡ false → IsPart xs (through_end xs) s → IsPart (x ∷ xs) (x ∷ through_end xs) s
    later e h = record { body = x ∷ h.body; post = h.post; tail = h.tail; through_is = ap (λ ys. x ∷ ys) h.through_is; all_is = ap (λ ys. x ∷ ys) h.all_is; goes_on = (e, h.goes_on) }

    only : (x ≡ s) ⊎ Contains [] s → IsPart (x ∷ xs) (x ∷ []) s
    only (inl same) = first [] same
    only (inr none) = absurd (omega (arith, none.1))

    either : ends x ≡ false → (Contains (through_end xs) s → IsPart xs (through_end xs) s) → (x ≡ s) ⊎ Contains (through_end xs) s → IsPart (x ∷ xs) (x ∷ through_end xs) s
    either e ih (inl same) = first (through_end xs) same
    either e ih (inr h) = later e (ih h)

    by : (b : Bool) → ends x ≡ b → (Contains (through_end xs) s → IsPart xs (through_end xs) s) → Contains (if b then x ∷ [] else x ∷ through_end xs) s → IsPart (x ∷ xs) (if b then x ∷ [] else x ∷ through_end xs) s
    by true e ih h = only (one_of x s [] h)
    by false e ih h = either e ih (one_of x s (through_end xs) h)

---- its rows

module _ (catalog : List Table) (events : List Event) (c : ℕ) (id : TxId) (client : client_of id ≡ c) (s : Executed) (body post : List Executed) (statements : statements_of events id ≡ body ++ s ∷ post)
    (among : AllByRecursion (Contains (statements_by c events)) body) (last : Contains (statements_by c events) s) where
  -- the catalog under which it ran
  abbrev under : List Table
  under = catalog_after catalog (before s events)

  row_own : (key : Key) (row : Option (List Pair)) → HasBefore under events c body s key row → HasRow catalog (WasRead catalog events c) events id s key row
  row_own key row h = record {
    first = h.first;
    earlier = h.earlier;
    changing = h.changing;
    later = post;
    sts = h.sts;
    base = h.base;
    parts = statements ∙ ap (λ xs. xs ++ s ∷ post) h.parts;
    begins = h.begins;
    finished = subst (λ d. has_read events d h.first ≡ true) (sym client) h.observed.answered;
    observed = (first_so (Contains (statements_by c events)) h.changing s h.first h.begins (each_changing (Contains (statements_by c events)) body h.earlier h.changing h.parts among) last, record { answered = h.observed.answered; no_vacuum = h.observed.no_vacuum; table = sym (same_tables catalog (before s events) key.table) ∙ h.observed.table; found = h.observed.found });
    read = h.read;
    made = h.made;
  }

  shows_own : (a : Answer) → s.answer ≡ Some a → GivesOwn under events c body s a → AnswersAreOf catalog (WasRead catalog events c) events id s a
  shows_own (answer.Rows rows) is (t, select, images, reads, found, observed, own) = (
    t,
    select,
    images,
    reads,
    found,
    observed,
    each_any (λ (r : Image). HasBefore under events c body s r.key (Some r.columns)) (λ (r : Image). HasRow catalog (WasRead catalog events c) events id s r.key (Some r.columns)) images (λ r h. row_own r.key (Some r.columns) h) own,
  )
  shows_own (answer.Duplicate key) is h = (h.0, row_own key (Some h.0) h.1)
  shows_own a is h = tt

---- all clients

module _ (catalog : List Table) (events : List Event) (now : ℤ) (states : ℕ → ClientState) (ex : CauseInvariant catalog events now states) (c : ℕ) where
  abbrev k : Knows catalog events c (states c).client
  k = ex.each c

  all_own : AllGiveOwn catalog events c (statements_by c events)
  all_own = subst (AllGiveOwn catalog events c) (sym k.same) (by k.waiting k.waits)
    where
      by : (o : Option Executed) → IfSome o (IsWaiting catalog events c (is_some (states c).client.vacuum)) → AllGiveOwn catalog events c (k.entries ++ waiting_of o)
      by None w = subst (AllGiveOwn catalog events c) (sym (append-nil k.entries)) k.shows.given_own
      by (Some w) waits = own_waits catalog events c k.entries w waits.unanswered k.counted.paired k.shows.given_own

  all_said : AllByRecursion (Contains (statements_by c events)) (statements_by c events)
  all_said = recursion_from_All (Contains (statements_by c events)) (statements_by c events) (All-contains_itself (statements_by c events))

  rows_own : (id : TxId) (s : Executed) (a : Answer) → client_of id ≡ c → Contains (statements_of events id) s → s.answer ≡ Some a → AnswersAreOf catalog (WasRead catalog events c) events id s a
  rows_own id s a is has answered = by (from_begin (ordinal_of id) (statements_by c events)) refl
    where
      statements : statements_of events id ≡ through_end (rest_of (from_begin (ordinal_of id) (statements_by c events)))
      statements = ap (λ d. through_end (rest_of (from_begin (ordinal_of id) (statements_by d events)))) is

      at : (b : Executed) (rest : List Executed) → from_begin (ordinal_of id) (statements_by c events) ≡ b ∷ rest → statements_of events id ≡ through_end rest → IsPart rest (through_end rest) s → AnswersAreOf catalog (WasRead catalog events c) events id s a
      at b rest e whole p =
          let all : AllByRecursion (Contains (statements_by c events)) (p.body ++ s ∷ p.tail) = subst (AllByRecursion (Contains (statements_by c events))) p.all_is (since_all (Contains (statements_by c events)) (ordinal_of id) (statements_by c events) b rest all_said e) in
          shows_own catalog events c id is s p.body p.post (whole ∙ p.through_is) (each_left (Contains (statements_by c events)) p.body (s ∷ p.tail) all) (each_middle (Contains (statements_by c events)) p.body p.tail s all) a answered (all_own (ordinal_of id) b p.body s p.tail a (e ∙ ap (λ r. b ∷ r) p.all_is) p.goes_on answered)

      by : (r : List Executed) → from_begin (ordinal_of id) (statements_by c events) ≡ r → AnswersAreOf catalog (WasRead catalog events c) events id s a
      by [] e = absurd (none (subst (λ ss. Contains ss s) (statements ∙ ap (λ r. through_end (rest_of r)) e) has))
        where
          none : Contains {X = Executed} [] s → ⊥
          none y = absurd (omega (arith, y.1))
      by (b ∷ rest) e =
          let whole : statements_of events id ≡ through_end rest = statements ∙ ap (λ r. through_end (rest_of r)) e in
          at b rest e whole (parted rest s (subst (λ ss. Contains ss s) whole has))

pub rows_shown : (catalog : List Table) (events : List Event) (now : ℤ) (states : ℕ → ClientState) → CauseInvariant catalog events now states → RowsAreOwn catalog events
rows_shown catalog events now states ex c id s a is has answered = rows_own catalog events now states ex c id s a is has answered

-- So each answer of a run shows own rows.
pub answers_own : (catalog : List Table) (events : List Event) → RowsAreOwn catalog events → AnswersHaveRows catalog (WasRead catalog events) events
answers_own catalog events observed id s a has is = observed (client_of id) id s a refl has is
