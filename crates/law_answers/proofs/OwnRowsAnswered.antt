-- What the statements of each transaction were answered shows rows that it has, as statements come.
use Rattle.std.proofs.Common.{◌≡◌, ◌⊎◌, inl, inr, ℕ, true, false, List, [], ◌∷◌, ◌++◌, Option, Some, None, refl, sym, ap, subst, ◌∙◌}
use Rattle.std.specs.Prelude.{IfSome}
use Rattle.std.specs.List.{AllByRecursion}
use Rattle.law_answers.specs.Types.{Answer, Doing, Event, Table}
use Rattle.sdb_model.specs.Transactions.{Executed, changes_nothing, from_begin, rest_of}
use Rattle.sdb_snapshot.specs.Seen.{Seen}
use Rattle.sdb_txn.specs.declared.txn.Doing.TheVariants as doing
use Rattle.sdb_txn.specs.Txn.{TxnAt}
use Rattle.sdb_client.specs.Client.{ClientAt}
use Rattle.sdb_types.proofs.Public.{some_is}
use Rattle.law_answers.specs.Counts.{ArePaired}
use Rattle.law_answers.specs.Views.{AllGiveOwn, IsViewOf, SeesOwn, SeesOwnIn, ViewBy, GivesOwn}
use Rattle.law_answers.specs.Invariant.{IsAnswered, begun_in, open_after}
use Rattle.law_answers.proofs.Calls.{before_same, calls_stay}
use Rattle.sdb_model.specs.Catalogs.{catalog_after}
use Rattle.sdb_model.specs.Causes.{before}
use Rattle.law_answers.proofs.CountsNotes.{last_or, open_only}
use Rattle.law_answers.proofs.Lists.{since_more, since_none}
use Rattle.law_answers.proofs.ReadSets.{each_left, each_middle, rest_all, since_all}
use Rattle.law_answers.proofs.OwnRows.{effective_by, sees_same, sees_still, tells_none, tells_still}

---- statements that were answered

own_still : (catalog : List Table) (events : List Event) (e : Event) (c : ℕ) (answered : List Executed) → AllByRecursion (IsAnswered catalog events c) answered → AllGiveOwn catalog events c answered → AllGiveOwn catalog (events ++ e ∷ []) c answered
own_still catalog events e c answered all k n begin body s tail a since goes is =
    let whole : AllByRecursion (IsAnswered catalog events c) (body ++ s ∷ tail) = since_all (IsAnswered catalog events c) n answered begin (body ++ s ∷ tail) all since in
    let here : IsAnswered catalog events c s = each_middle (IsAnswered catalog events c) body tail s whole in
    subst (λ (es : List Event). GivesOwn (catalog_after catalog es) (events ++ e ∷ []) c body s a) (sym (before_same s events e here.accepted))
    (tells_still catalog (catalog_after catalog (before s events)) events e c body s a (each_left (IsAnswered catalog events c) body (s ∷ tail) whole) (calls_stay c events e s here.given here.is here.answered) (k n begin body s tail a since goes is))

-- what the statements since the newest BEGIN are followed by
abbrev pub GivesLast : List Table → List Event → ℕ → List Executed → Executed → Type 0
GivesLast catalog events c answered z = (a : Answer) → z.answer ≡ Some a → open_after answered ≡ true → GivesOwn (catalog_after catalog (before z events)) events c (rest_of (from_begin (begun_in answered) answered)) z a

-- with one statement more, which is of the open transaction or of none
pub own_more : (catalog : List Table) (events : List Event) (c : ℕ) (answered : List Executed) (z : Executed) → ArePaired false answered → AllGiveOwn catalog events c answered → GivesLast catalog events c answered z → AllGiveOwn catalog events c (answered ++ z ∷ [])
own_more catalog events c answered z pairs k last n begin body s tail a since goes is = by (from_begin n answered) refl
  where
    none : (ys : List Executed) → ys ++ s ∷ tail ≡ [] → ⊥
    none [] h = absurd (cc)
    none (w ∷ ys) h = absurd (cc)

    here : (b : Executed) (r : List Executed) → from_begin n answered ≡ b ∷ r → b ≡ begin → ((r ≡ body) × (z ≡ s)) ⊎ ((front : List Executed) × (r ≡ body ++ s ∷ front)) → GivesOwn (catalog_after catalog (before s events)) events c body s a
    here b r e f (inr h) = k n b body s h.0 a (e ∙ ap (λ x. b ∷ x) h.1) goes is
    here b r e f (inl h) =
        let from : from_begin n answered ≡ b ∷ body = e ∙ ap (λ x. b ∷ x) h.0 in
        let only = open_only n answered false b body pairs from goes in
        let rest : rest_of (from_begin (begun_in answered) answered) ≡ body = ap (λ i. rest_of (from_begin i answered)) (sym only.0) ∙ ap rest_of from in
        subst (λ (y : Executed). GivesOwn (catalog_after catalog (before y events)) events c body y a) h.1 (subst (λ (r : List Executed). GivesOwn (catalog_after catalog (before z events)) events c r z a) rest (last a (ap (λ (y : Executed). y.answer) h.1 ∙ is) only.1))

    by : (r : List Executed) → from_begin n answered ≡ r → GivesOwn (catalog_after catalog (before s events)) events c body s a
    by [] e = absurd (none body (sym (ap rest_of since) ∙ since_none n answered z e))
    by (b ∷ r) e =
        let whole : b ∷ (r ++ z ∷ []) ≡ begin ∷ (body ++ s ∷ tail) = sym (since_more n answered z b r e) ∙ since in
        let first : b ≡ begin = cc in
        let rest : r ++ z ∷ [] ≡ body ++ s ∷ tail = cc in
        here b r e first (last_or r z body s tail rest)

-- one that has no answer shows nothing
pub own_waits : (catalog : List Table) (events : List Event) (c : ℕ) (answered : List Executed) (z : Executed) → z.answer ≡ None → ArePaired false answered → AllGiveOwn catalog events c answered → AllGiveOwn catalog events c (answered ++ z ∷ [])
own_waits catalog events c answered z none pairs k = own_more catalog events c answered z pairs k (λ a is opened. absurd (let e : ◌≡◌ {A = Option Answer} None (Some a) = sym none ∙ is in cc))

---- an open transaction

in_still : (catalog under : List Table) (events : List Event) (e : Event) (c : ℕ) (body : List Executed) (v : Seen) (d : Doing) → AllByRecursion (IsAnswered catalog events c) body → SeesOwnIn under events c body v d → SeesOwnIn under (events ++ e ∷ []) c body v d
in_still catalog under events e c body v doing.Idle all h = sees_still catalog under events e c body v all h
in_still catalog under events e c body v (doing.Read a x) all h = sees_still catalog under events e c body v all h
in_still catalog under events e c body v (doing.Commit k) all h = tt
in_still catalog under events e c body v doing.Over all h = sees_still catalog under events e c body v all h

pub showing_stays : (catalog under : List Table) (events : List Event) (e : Event) (c n : ℕ) (answered : List Executed) (o : Option TxnAt) → AllByRecursion (IsAnswered catalog events c) answered → IfSome o (IsViewOf under events c (rest_of (from_begin n answered))) → IfSome o (IsViewOf under (events ++ e ∷ []) c (rest_of (from_begin n answered)))
showing_stays catalog under events e c n answered None all h = tt
showing_stays catalog under events e c n answered (Some t) all h = in_still catalog under events e c (rest_of (from_begin n answered)) t.seen t.doing (rest_all (IsAnswered catalog events c) n answered all) h

-- of a transaction that does nothing
pub showing_idle : (catalog : List Table) (events : List Event) (c n : ℕ) (answered : List Executed) (s begin : Executed) (body : List Executed) (t : TxnAt) → from_begin n answered ≡ begin ∷ body → t.doing ≡ doing.Idle → SeesOwn catalog events c (body ++ s ∷ []) t.seen → IsViewOf catalog events c (rest_of (from_begin n (answered ++ s ∷ []))) t
showing_idle catalog events c n answered s begin body t since idle h =
    subst (λ r. SeesOwnIn catalog events c (rest_of r) t.seen t.doing) (sym (since_more n answered s begin body since)) (subst (SeesOwnIn catalog events c (body ++ s ∷ []) t.seen) (sym idle) h)

---- as events come

-- what is to be so of a statement that is answered, and of the client that this leaves
abbrev pub ShowsNext : List Table → List Table → List Event → ℕ → List Executed → Executed → Answer → ClientAt → Type 0
ShowsNext catalog under events c answered z b d = (open_after answered ≡ true → GivesOwn (catalog_after catalog (before z events)) events c (rest_of (from_begin (begun_in answered) answered)) z b) × IfSome d.txn (IsViewOf under events c (rest_of (from_begin d.begun (answered ++ z ∷ []))))

module _ (catalog under : List Table) (c : ℕ) (events : List Event) (e : Event) (answered : List Executed) (all : AllByRecursion (IsAnswered catalog events c) answered) where
  abbrev E : List Event
  E = events ++ e ∷ []

  module _ (h : ClientAt) (k : ViewBy catalog under events c answered h) where
    -- where the client goes on with what it saw
    pub shows_further : (next : List Table) (d : ClientAt) → (ViewBy catalog under events c answered h → IfSome d.txn (IsViewOf next E c (rest_of (from_begin d.begun answered)))) → ViewBy catalog next E c answered d
    shows_further next d sees = record { given_own = own_still catalog events e c answered all k.given_own; sees_own = sees k }

    pub shows_stay : ViewBy catalog under E c answered h
    shows_stay = shows_further under h (λ x. showing_stays catalog under events e c h.begun answered h.txn all x.sees_own)

    -- where a statement is answered
    pub shows_end : ArePaired false answered → (next : List Table) (z : Executed) (b : Answer) (d : ClientAt) → z.answer ≡ Some b → ShowsNext catalog next E c answered z b d → ViewBy catalog next E c (answered ++ z ∷ []) d
    shows_end pairs next z b d is given = record {
      given_own = own_more catalog E c answered z pairs (own_still catalog events e c answered all k.given_own) (λ a has opened. subst (GivesOwn (catalog_after catalog (before z E)) E c (rest_of (from_begin (begun_in answered) answered)) z) (some_is b a (sym is ∙ has)) (given.0 opened));
      sees_own = given.1;
    }

  module _ (n : ℕ) (begin : Executed) (body : List Executed) (since : from_begin n answered ≡ begin ∷ body) (v : Seen) (sees : SeesOwn under events c body v) (z : Executed) where
    -- what the open transaction saw before
    pub sees_then : SeesOwn under E c body v
    sees_then = sees_still catalog under events e c body v (since_all (IsAnswered catalog events c) n answered begin body all since) sees

    -- a statement that changes nothing leaves that
    pub next_same : (b : Answer) (t : TxnAt) → z.answer ≡ Some b → changes_nothing b ≡ true → t.doing ≡ doing.Idle → t.seen ≡ v → (open_after answered ≡ true → GivesOwn (catalog_after catalog (before z E)) E c (rest_of (from_begin (begun_in answered) answered)) z b) × IsViewOf under E c (rest_of (from_begin n (answered ++ z ∷ []))) t
    next_same b t is nothing idle same = (
      λ opened. tells_none (catalog_after catalog (before z E)) E c (rest_of (from_begin (begun_in answered) answered)) z b nothing,
      showing_idle under E c n answered z begin body t since idle (subst (SeesOwn under E c (body ++ z ∷ [])) (sym same) (sees_same under E c body z v (effective_by z b true is nothing) sees_then)),
    )
