-- What is known of a client: whether its transaction is open, and what is so after one event more.
use Rattle.std.proofs.Common.{◌≡◌, ◌+◌, inl, ℕ, Bool, true, false, List, [], ◌∷◌, ◌++◌, length, Option, Some, None, refl, sym, ap, subst, ◌∙◌}
use Rattle.std.specs.Prelude.{if◌then◌else◌, ◌&&◌, ◌||◌, fold, is_none, is_some, IfSome}
use Rattle.std.specs.List.{AllByRecursion}
use Rattle.std.proofs.lemmas.List.{append-nil}
use Rattle.std.proofs.lemmas.List.Sums.{fold-append}
use Rattle.law_answers.specs.Types.{Answer, Doing, Event, Table}
use Rattle.sdb_model.specs.Calls.{calls_of, made_by}
use Rattle.sdb_model.specs.Follows.{is_open, is_open_after, runs_vacuum}
use Rattle.sdb_model.specs.Sql.{reads_begin, reads_commit, reads_rollback, reads_vacuum}
use Rattle.sdb_model.specs.Transactions.{Executed, begins, ends, from_begin, is_conflict, is_done, rest_of, statements_by}
use Rattle.sdb_exec.specs.Plans.{Planned}
use Rattle.sdb_txn.specs.declared.txn.Doing.TheVariants as doing
use Rattle.sdb_txn.specs.Txn.{TxnAt}
use Rattle.sdb_vacuum.specs.Vacuum.{VacuumAt}
use Rattle.sdb_client.specs.Client.{ClientAt}
use Rattle.law_clients.specs.History.{waiting_of}
use Rattle.law_clients.proofs.Public.{each_more}
use Rattle.sdb_types.proofs.Public.{none_some}
use Rattle.law_answers.specs.Commits.{StageByCalls}
use Rattle.law_answers.specs.Reads.{ReadsBy}
use Rattle.law_answers.specs.Conflicts.{ChecksBy}
use Rattle.law_answers.specs.Changes.{StageObserves, WorkBy, read_items_of_body}
use Rattle.law_answers.proofs.Misfits.{fits_stay}
use Rattle.law_answers.proofs.ReadSets.{body_answered, moved_still, noted_still, notes_stay, rest_all}
use Rattle.law_answers.specs.Vacuums.{VacuumBy}
use Rattle.law_answers.specs.Unfit.{AreStoredReplies}
use Rattle.law_answers.specs.Invariant.{IsAnswered, IsDoing, IsReadSetOf, IsOpenAs, IsInVacuum, IsWaiting, Knows, DoingByHistory, ClientByHistory, open_after}
use Rattle.law_answers.proofs.Filling.{filled_stays}
use Rattle.law_answers.proofs.Lists.{since_more}
use Rattle.sdb_model.specs.Catalogs.{catalog_after}
use Rattle.sdb_model.specs.Causes.{before}
use Rattle.law_answers.proofs.Calls.{before_same, calls_open, end_waiting, later_same, none_made}
use Rattle.law_answers.proofs.Later.{answered_stay, waiting_stays}
use Rattle.law_answers.proofs.Counting.{counts_stay}
use Rattle.law_answers.proofs.Rolled.{rolls_stay}
use Rattle.law_answers.proofs.OwnRowsAnswered.{shows_stay}

---- one statement more

-- a statement without an answer opens nothing, and ends nothing
opened_none : (was a b c : Bool) (o : Option Answer) → o ≡ None → (if a && is_done o then true else if (b || is_conflict o || (c && is_done o)) && is_some o then false else was) ≡ was
opened_none was a b c None e = by a (b || false || (c && false))
  where
    by : (x y : Bool) → (if x && false then true else if y && false then false else was) ≡ was
    by true true = refl
    by true false = refl
    by false true = refl
    by false false = refl
opened_none was a b c (Some x) e = none_some x (sym e)

pub waits_open : (was : Bool) (w : Executed) → w.answer ≡ None → is_open_after was w ≡ was
waits_open was w e = opened_none was (reads_begin w.text) (reads_commit w.text) (reads_rollback w.text) w.answer e

pub after_more : (acked : List Executed) (s : Executed) → open_after (acked ++ s ∷ []) ≡ is_open_after (open_after acked) s
after_more acked s = fold-append is_open_after false acked (s ∷ [])

-- a statement that neither begins nor ends one
pub after_plain : (was : Bool) (s : Executed) → begins s ≡ false → (was ≡ true → ends s ≡ false) → is_open_after was s ≡ was
after_plain true s b e = ap (λ x. if x then true else if ends s && is_some s.answer then false else true) b ∙ ap (λ x. if x && is_some s.answer then false else true) (e refl)
after_plain false s b e = ap (λ x. if x then true else if ends s && is_some s.answer then false else false) b ∙ same (ends s && is_some s.answer)
  where
    same : (x : Bool) → (if x then false else false) ≡ false
    same true = refl
    same false = refl

-- one that ends one
pub after_end : (was : Bool) (s : Executed) (a : Answer) → begins s ≡ false → ends s ≡ true → s.answer ≡ Some a → is_open_after was s ≡ false
after_end was s a b e is = ap (λ x. if x then true else if ends s && is_some s.answer then false else was) b ∙ ap (λ x. if x && is_some s.answer then false else was) e ∙ ap (λ o. if is_some o then false else was) is

pub after_begin : (was : Bool) (s : Executed) → begins s ≡ true → is_open_after was s ≡ true
after_begin was s b = ap (λ x. if x then true else if ends s && is_some s.answer then false else was) b

---- what is known

-- a client has a transaction open where its events say so
pub open_now : (catalog : List Table) (events : List Event) (c : ℕ) (h : ClientAt) → Knows catalog events c h → is_open events c ≡ is_some h.txn
open_now catalog events c h k = ap open_after k.same ∙ all_told k.waiting k.waits ∙ either h.vacuum k.agrees
  where
    all_told : (o : Option Executed) → IfSome o (IsWaiting catalog events c (is_some h.vacuum)) → open_after (k.entries ++ waiting_of o) ≡ open_after k.entries
    all_told None w = ap open_after (append-nil k.entries)
    all_told (Some w) waits = after_more k.entries w ∙ waits_open (open_after k.entries) w waits.unanswered

    by : (o : Option TxnAt) → DoingByHistory events c h.begun k.entries k.waiting h.plan o → open_after k.entries ≡ is_some o
    by None s = s.1
    by (Some t) s = s.0

    vacuums : (w : Option Executed) (v : VacuumAt) → IsInVacuum events c k.entries w h.txn v → open_after k.entries ≡ is_some h.txn
    vacuums None v s = absurd s
    vacuums (Some w) v s = s.1 ∙ sym (ap is_some s.0)

    either : (v : Option VacuumAt) → ClientByHistory events c h.begun k.entries k.waiting h.plan h.txn v → open_after k.entries ≡ is_some h.txn
    either None s = by h.txn s
    either (Some v) s = vacuums k.waiting v s

abbrev sweeping : Bool → Executed → Bool
sweeping was s = reads_vacuum s.text && is_none s.answer

-- it runs VACUUM where its events say so
pub sweeps_now : (catalog : List Table) (events : List Event) (c : ℕ) (h : ClientAt) → Knows catalog events c h → runs_vacuum events c ≡ is_some h.vacuum
sweeps_now catalog events c h k = ap (fold sweeping false) k.same ∙ fold-append sweeping false k.entries (waiting_of k.waiting) ∙ ap (λ b. fold sweeping b (waiting_of k.waiting)) (none k.entries false refl k.answered) ∙ last k.waiting k.waits (only h.vacuum k.waiting k.agrees)
  where
    not_none : (b : Bool) → (b && false) ≡ false
    not_none true = refl
    not_none false = refl

    answered : (s : Executed) (a : Answer) → s.answer ≡ Some a → (reads_vacuum s.text && is_none s.answer) ≡ false
    answered s a e = ap (λ o. reads_vacuum s.text && is_none o) e ∙ not_none (reads_vacuum s.text)

    none : (ss : List Executed) (b : Bool) → b ≡ false → AllByRecursion (IsAnswered catalog events c) ss → fold sweeping b ss ≡ false
    none [] b e all = e
    none (s ∷ ss) b e all = none ss (sweeping b s) (answered s all.0.given all.0.is) all.1

    -- one that runs VACUUM waits for a statement
    only : (v : Option VacuumAt) (o : Option Executed) → ClientByHistory events c h.begun k.entries o h.plan h.txn v → o ≡ None → is_some v ≡ false
    only None o s e = refl
    only (Some v) None s e = absurd s
    only (Some v) (Some w) s e = none_some w (sym e)

    and_true : (b : Bool) → (b && true) ≡ b
    and_true true = refl
    and_true false = refl

    last : (o : Option Executed) → IfSome o (IsWaiting catalog events c (is_some h.vacuum)) → (o ≡ None → is_some h.vacuum ≡ false) → fold sweeping false (waiting_of o) ≡ is_some h.vacuum
    last None w rests = sym (rests refl)
    last (Some w) waits rests = ap (λ a. reads_vacuum w.text && is_none a) waits.unanswered ∙ and_true (reads_vacuum w.text) ∙ waits.vacuum

---- an event that isn't of a client

-- the calls of the statement that waits stay
pub calls_wait : (catalog : List Table) (c : ℕ) (events : List Event) (e : Event) (w : Executed) → made_by c (1 + length events, e) ≡ None → w.answer ≡ None → calls_of (events ++ e ∷ []) c w ≡ calls_of events c w
calls_wait catalog c events e w none unanswered =
    calls_open c (events ++ e ∷ []) w (end_waiting (events ++ e ∷ []) w unanswered) ∙ later_same c events e w.accepted none ∙ sym (calls_open c events w (end_waiting events w unanswered))

doing_stays : (c : ℕ) (events : List Event) (e : Event) (t : TxnAt) (p : Option Planned) (w : Option Executed) (d : Doing) → ((x : Executed) → w ≡ Some x → calls_of (events ++ e ∷ []) c x ≡ calls_of events c x) → IsDoing events c t p w d → IsDoing (events ++ e ∷ []) c t p w d
doing_stays c events e t p w doing.Idle same h = h
doing_stays c events e t (Some p) (Some w) (doing.Read a x) same h = record { text = h.text; inner = h.inner; stage = subst (λ ms. ReadsBy ms x.stage) (sym (same w refl)) h.stage; shows = subst (λ ms. StageObserves x.request ms x.stage) (sym (same w refl)) h.shows }
doing_stays c events e t (Some p) None (doing.Read a x) same h = h
doing_stays c events e t None w (doing.Read a x) same h = h
doing_stays c events e t p (Some w) (doing.Commit k) same h = record { text = h.text; same = h.same; moment = h.moment; stage = subst (λ ms. StageByCalls k.work ms k.stage) (sym (same w refl)) h.stage }
doing_stays c events e t p None (doing.Commit k) same h = h
doing_stays c events e t p w doing.Over same h = h

noting_stays : (catalog : List Table) (c : ℕ) (events : List Event) (e : Event) (n : ℕ) (acked : List Executed) (t : TxnAt) (o : IsOpenAs c n acked t) (d : Doing) (w : Option Executed) → ((x : Executed) → w ≡ Some x → calls_of (events ++ e ∷ []) c x ≡ calls_of events c x) → AllByRecursion (IsAnswered catalog events c) acked
    → IsReadSetOf events c acked o.body t d w → IsReadSetOf (events ++ e ∷ []) c acked o.body t d w
noting_stays catalog c events e n acked t o doing.Idle w same all h = noted_still catalog events e c n acked t o all t.seen h
noting_stays catalog c events e n acked t o (doing.Read a x) w same all h = noted_still catalog events e c n acked t o all t.seen h
noting_stays catalog c events e n acked t o (doing.Commit k) None same all h = tt
noting_stays catalog c events e n acked t o (doing.Commit k) (Some x) same all h =
    let read_set : read_items_of_body events c o.body ≡ read_items_of_body (events ++ e ∷ []) c o.body = sym (notes_stay catalog events e c o.body (body_answered catalog events e c n acked t o all)) in
    (subst (λ ns. WorkBy ns k.work) read_set h.0, subst (λ ns. ChecksBy ns k.work (calls_of (events ++ e ∷ []) c x) k.stage) read_set (subst (λ ms. ChecksBy (read_items_of_body events c o.body) k.work ms k.stage) (sym (same x refl)) h.1))
noting_stays catalog c events e n acked t o doing.Over w same all h = noted_still catalog events e c n acked t o all t.seen h

stands_stay : (catalog : List Table) (c : ℕ) (events : List Event) (e : Event) (n : ℕ) (acked : List Executed) (w : Option Executed) (p : Option Planned) (o : Option TxnAt) → AllByRecursion (IsAnswered catalog events c) acked → ((x : Executed) → w ≡ Some x → calls_of (events ++ e ∷ []) c x ≡ calls_of events c x) → DoingByHistory events c n acked w p o → DoingByHistory (events ++ e ∷ []) c n acked w p o
stands_stay catalog c events e n acked w p None all same s = s
stands_stay catalog c events e n acked w p (Some t) all same s = (s.0, s.1, doing_stays c events e t p w t.doing same s.2, noting_stays catalog c events e n acked t s.1 t.doing w same all s.3)

-- and so does a client that runs VACUUM
stays_on : (catalog : List Table) (c : ℕ) (events : List Event) (e : Event) (n : ℕ) (acked : List Executed) (w : Option Executed) (p : Option Planned) (o : Option TxnAt) (v : Option VacuumAt) → AllByRecursion (IsAnswered catalog events c) acked → ((x : Executed) → w ≡ Some x → calls_of (events ++ e ∷ []) c x ≡ calls_of events c x) → ClientByHistory events c n acked w p o v → ClientByHistory (events ++ e ∷ []) c n acked w p o v
stays_on catalog c events e n acked w p o None all same s = stands_stay catalog c events e n acked w p o all same s
stays_on catalog c events e n acked None p o (Some v) all same s = s
stays_on catalog c events e n acked (Some w) p o (Some v) all same s = (s.0, s.1, subst (λ ms. VacuumBy ms v) (sym (same w refl)) s.2)

-- what is known of a client, whose open transaction runs under that catalog
abbrev pub KnowsUnder : List Table → List Event → ℕ → ClientAt → List Table → Type 0
KnowsUnder catalog events c h under = (k : Knows catalog events c h) × (k.under ≡ under)

-- An event that isn't of a client, with which it says and calls nothing, leaves what is known of it.
pub knows_still : (catalog : List Table) (c : ℕ) (events : List Event) (e : Event) (h : ClientAt) → statements_by c (events ++ e ∷ []) ≡ statements_by c events → made_by c (1 + length events, e) ≡ None → (k : Knows catalog events c h) → KnowsUnder catalog (events ++ e ∷ []) c h k.under
knows_still catalog c events e h nothing none k = (
  record {
    entries = k.entries;
    waiting = k.waiting;
    under = k.under;
    asked = asked k.waiting k.waits k.asked;
    same = nothing ∙ k.same;
    answered = answered_stay catalog c events e k.entries (inl nothing) k.answered;
    waits = waits k.waiting k.waits;
    moved = moved_still catalog events e c k.entries k.entries k.answered k.moved;
    number = k.number;
    begun = k.begun;
    small = k.small;
    agrees = stays_on catalog c events e h.begun k.entries k.waiting h.plan h.txn h.vacuum k.answered (λ x is. calls_wait catalog c events e x none (unanswered k.waiting k.waits x is)) k.agrees;
    counted = counts_stay catalog c events e k.entries k.waiting h k.answered k.counted (λ x is. calls_wait catalog c events e x none (unanswered k.waiting k.waits x is));
    filled = filled_stays catalog events e c (rest_of (from_begin h.begun k.entries)) h.txn (rest_all (IsAnswered catalog events c) h.begun k.entries k.answered) k.filled;
    fits = fits_stay catalog k.under events e c h.begun k.entries h.txn k.answered k.fits;
    stored = subst AreStoredReplies (sym (none_made c events e none)) k.stored;
    rolled = rolls_stay catalog c events e k.entries k.waiting h k.answered k.rolled (λ x is. calls_wait catalog c events e x none (unanswered k.waiting k.waits x is));
    shows = shows_stay catalog k.under c events e k.entries k.answered h k.shows;
  },
  refl,
)
  where
    asked : (o : Option Executed) → IfSome o (IsWaiting catalog events c (is_some h.vacuum)) → IfSome o (λ w. catalog_after catalog (before w events) ≡ k.under) → IfSome o (λ w. catalog_after catalog (before w (events ++ e ∷ [])) ≡ k.under)
    asked None w u = tt
    asked (Some x) w u = ap (catalog_after catalog) (before_same x events e w.accepted) ∙ u

    waits : (o : Option Executed) → IfSome o (IsWaiting catalog events c (is_some h.vacuum)) → IfSome o (IsWaiting catalog (events ++ e ∷ []) c (is_some h.vacuum))
    waits None w = tt
    waits (Some x) w = waiting_stays catalog c events e (is_some h.vacuum) x w

    unanswered : (o : Option Executed) → IfSome o (IsWaiting catalog events c (is_some h.vacuum)) → (x : Executed) → o ≡ Some x → x.answer ≡ None
    unanswered None w x is = none_some x is
    unanswered (Some y) w x is = let same : y ≡ x = cc in subst (λ z. z.answer ≡ None) same w.unanswered

---- one statement more of an open transaction

abbrev pub open_more : (c n : ℕ) (acked : List Executed) (t u : TxnAt) (s : Executed) → u.id ≡ t.id → ends s ≡ false → IsOpenAs c n acked t → IsOpenAs c n (acked ++ s ∷ []) u
open_more c n acked t u s same e o = record {
  begin = o.begin;
  body = o.body ++ s ∷ [];
  since = since_more n acked s o.begin o.body o.since;
  goes_on = each_more (λ (x : Executed). ends x ≡ false) o.body s o.goes_on e;
  id = same ∙ o.id;
  client = o.client;
}
