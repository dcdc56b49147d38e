-- A statement that is answered from the rows that its transaction sees shows rows that it has, and leaves such.
use Rattle.std.proofs.Common.{◌≡◌, ◌⊎◌, inl, inr, ℕ, Bool, true, false, not, List, [], ◌∷◌, ◌++◌, Option, Some, None, refl, sym, ap, subst, ◌∙◌}
use Rattle.std.specs.Prelude.{if◌then◌else◌, ◌&&◌, is_some}
use Rattle.law_answers.specs.Types.{Access, Answer, Event, Image, Key, Keyed, Pair, PlanStep, Table}
use Rattle.sdb_types.proofs.Public.{all_each as each_any}
use Rattle.sdb_schema.specs.Catalog.{is_catalog}
use Rattle.sdb_model.specs.declared.answer.Answer.TheVariants as answer
use Rattle.sdb_model.specs.Causes.{refused}
use Rattle.sdb_model.specs.Access.{in_access}
use Rattle.sdb_model.specs.Exec.{named_table, table_of}
use Rattle.sdb_model.specs.Sql.{Reads}
use Rattle.sdb_model.specs.Transactions.{Executed, changes_nothing, from_begin, rest_of}
use Rattle.sdb_exec.specs.declared.plan.PlanStep.TheVariants.{Finished}
use Rattle.sdb_exec.specs.Plans.{Planned, answer_on, changes_on, first_unfit}
use Rattle.sdb_model.specs.Reads.{access_of}
use Rattle.sdb_snapshot.specs.Sets.{WereRead}
use Rattle.sdb_snapshot.specs.Reads.{is_key_read}
use Rattle.sdb_snapshot.specs.Seen.{overlay, row_seen}
use Rattle.sdb_snapshot.specs.Written.{with_writes}
use Rattle.sdb_snapshot.proofs.Public.{no_row}
use Rattle.sdb_txn.specs.declared.txn.Doing.TheVariants as doing
use Rattle.sdb_txn.specs.Txn.{TxnAt}
use Rattle.sdb_client.specs.Client.{given_answer, given_left, gives, left_by_answer, too_many, written}
use Rattle.law_answers.specs.Views.{HasBefore, IsViewOf, SeesOwn, GivesOwn}
use Rattle.law_answers.specs.Invariant.{begun_in, open_after}
use Rattle.law_clients.proofs.Public.{access_table, found_itself, own_table}
use Rattle.law_answers.specs.Unfit.{fits_if_any}
use Rattle.law_answers.proofs.Given.{asked_gives}
use Rattle.law_answers.proofs.OneRow.{IsSeen, fits_before, key_told, one_row_left, rows_told}
use Rattle.law_answers.proofs.OwnRows.{effective_by, has_kept, has_next, tells_none}
use Rattle.law_answers.proofs.OwnRowsAnswered.{showing_idle}
use Rattle.law_answers.proofs.Unfit.{inside_fits}

---- what a plan gives

-- It says that nothing was changed, and what was read stays; or it gives an answer, and its changes are written.
abbrev IsKept : TxnAt → PlanStep → Type 0
IsKept v x = (changes_nothing (given_answer v x) ≡ true) × (given_left v x ≡ v)

abbrev IsGiven : TxnAt → Answer → List Keyed → PlanStep → Type 0
IsGiven v b ks x = IsKept v x ⊎ ((changes_nothing (given_answer v x) ≡ false) × (given_answer v x ≡ b) × (given_left v x ≡ written v ks))

module _ (v : TxnAt) (b : Answer) (ks : List Keyed) where
  abbrev IsSo : Answer → Type 0
  IsSo z = ((changes_nothing z ≡ true) × (left_by_answer v z ks ≡ v)) ⊎ ((changes_nothing z ≡ false) × (z ≡ b) × (left_by_answer v z ks ≡ written v ks))

  given_on : IsGiven v b ks (Finished b ks)
  given_on = by (not (changes_nothing b) && too_many v ks)
    where
      left_as : (t : Bool) → changes_nothing b ≡ t → left_by_answer v b ks ≡ (if t then v else written v ks)
      left_as t e = ap (λ x. if x then v else written v ks) e

      itself : (t : Bool) → changes_nothing b ≡ t → IsSo b
      itself true e = inl (e, left_as true e)
      itself false e = inr (e, refl, left_as false e)

      by : (z : Bool) → IsSo (if z then refused 15 else b)
      by true = inl (refl, refl)
      by false = itself (changes_nothing b) refl

-- what it gives on rows that fit, or else nothing
abbrev Gives : Planned → Access → TxnAt → Type 0
Gives p a v = IsKept v (gives p a v) ⊎ ((first_unfit p.table (overlay a v.seen) ≡ None) × IsGiven v (answer_on p.table p.statement (overlay a v.seen)) (changes_on p.table p.statement (overlay a v.seen)) (gives p a v))

given_by : (p : Planned) (a : Access) (v : TxnAt) → p.asked ≡ true → Gives p a v
given_by p a v asked = by (first_unfit p.table (overlay a v.seen)) refl
  where
    by : (o : Option Key) → first_unfit p.table (overlay a v.seen) ≡ o → Gives p a v
    by None e = inr (e, subst (IsGiven v (answer_on p.table p.statement (overlay a v.seen)) (changes_on p.table p.statement (overlay a v.seen))) (sym (asked_gives p (overlay a v.seen) None asked e)) (given_on v (answer_on p.table p.statement (overlay a v.seen)) (changes_on p.table p.statement (overlay a v.seen))))
    by (Some key) e = let same = asked_gives p (overlay a v.seen) (Some key) asked e in inl (ap (λ x. changes_nothing (given_answer v x)) same, ap (λ x. given_left v x) same)

---- a statement

module _ (catalog : List Table) (events : List Event) (c : ℕ) (body : List Executed) (s : Executed) (p : Planned) (a : Access) (is : is_catalog catalog ≡ true) (reads : Reads s.text p.statement) (named : named_table catalog p.statement ≡ Some p.table) (asked : p.asked ≡ true) (access_is : a ≡ access_of p.table p.statement) (v : TxnAt)
    (answered : s.answer ≡ Some (given_answer v (gives p a v)))
    (now : (key : Key) → is_key_read v.seen.read_set key ≡ true → fits_if_any catalog key (row_seen v.seen.read_set v.seen.writes key) ≡ true → HasBefore catalog events c body s key (row_seen v.seen.read_set v.seen.writes key)) where
  -- a row that is seen where it reads is one that it has
  has_here : first_unfit p.table (overlay a v.seen) ≡ None → WereRead v.seen.read_set v.seen.writes → (key : Key) (columns : List Pair) → row_seen v.seen.read_set v.seen.writes key ≡ Some columns → in_access a key ≡ true → HasBefore catalog events c body s key (Some columns)
  has_here none kept key columns found inside =
      subst (HasBefore catalog events c body s key) found
      (now key (no_row v.seen.read_set v.seen.writes key kept (ap is_some found))
      (ap (fits_if_any catalog key) found ∙ inside_fits catalog p a (found_itself catalog (table_of p.statement) p.table named) (ap access_table access_is ∙ own_table p.table p.statement) v.seen none key columns inside found))

  -- what it is answered on the rows that it sees
  tells_on : first_unfit p.table (overlay a v.seen) ≡ None → WereRead v.seen.read_set v.seen.writes → (b : Answer) → answer_on p.table p.statement (overlay a v.seen) ≡ b → GivesOwn catalog events c body s b
  tells_on none kept (answer.Rows rows) e =
      let r = rows_told p.table p.statement a v.seen rows e in (
        p.table,
        r.0,
        r.1,
        subst (Reads s.text) r.2 reads,
        ap (named_table catalog) (sym r.2) ∙ named,
        r.3,
        each_any (IsSeen a v.seen) (λ (x : Image). HasBefore catalog events c body s x.key (Some x.columns)) r.1 (λ x f. has_here none kept x.key x.columns f.0 f.1) r.4,
      )
  tells_on none kept (answer.Duplicate key) e = let r = key_told p.table p.statement a v.seen key e in (r.0, has_here none kept key r.0 r.1 r.2)
  tells_on none kept b e = tt

  pub tells_given : WereRead v.seen.read_set v.seen.writes → GivesOwn catalog events c body s (given_answer v (gives p a v))
  tells_given kept = by (given_by p a v asked)
    where
      by : Gives p a v → GivesOwn catalog events c body s (given_answer v (gives p a v))
      by (inl h) = tells_none catalog events c body s (given_answer v (gives p a v)) h.0
      by (inr (none, inl h)) = tells_none catalog events c body s (given_answer v (gives p a v)) h.0
      by (inr (none, inr h)) = tells_on none kept (given_answer v (gives p a v)) (sym h.1)

  -- where what was read stays
  sees_kept : IsKept v (gives p a v) → SeesOwn catalog events c (body ++ s ∷ []) (given_left v (gives p a v)).seen
  sees_kept k =
      subst (λ (u : TxnAt). SeesOwn catalog events c (body ++ s ∷ []) u.seen) (sym k.1)
      (λ key as_read fits. has_kept catalog events c body s key (row_seen v.seen.read_set v.seen.writes key) (effective_by s (given_answer v (gives p a v)) true answered k.0) (now key as_read fits))

  abbrev row_after : Access → Key → Option (List Pair)
  row_after x key = row_seen v.seen.read_set (with_writes v.seen.read_set v.seen.writes (changes_on p.table p.statement (overlay x v.seen))) key

  -- where its changes are written
  sees_written : changes_nothing (given_answer v (gives p a v)) ≡ false → first_unfit p.table (overlay a v.seen) ≡ None → SeesOwn catalog events c (body ++ s ∷ []) (written v (changes_on p.table p.statement (overlay a v.seen))).seen
  sees_written some unfit key as_read fits =
      let none : first_unfit p.table (overlay (access_of p.table p.statement) v.seen) ≡ None = subst (λ (x : Access). first_unfit p.table (overlay x v.seen) ≡ None) access_is unfit in
      let fitted : fits_if_any catalog key (row_seen v.seen.read_set v.seen.writes key) ≡ true = fits_before catalog p.table p.statement v.seen is named none key (ap (λ x. fits_if_any catalog key (row_after x key)) (sym access_is) ∙ fits) in
      has_next catalog events c body s key (row_seen v.seen.read_set v.seen.writes key) (row_after a key) p.statement (effective_by s (given_answer v (gives p a v)) false answered some) reads
      (one_row_left catalog p.table p.statement v.seen is named none key fitted ∙ ap (λ x. row_after x key) (sym access_is)) (now key as_read fitted)

  pub sees_given : SeesOwn catalog events c (body ++ s ∷ []) (given_left v (gives p a v)).seen
  sees_given = by (given_by p a v asked)
    where
      by : Gives p a v → SeesOwn catalog events c (body ++ s ∷ []) (given_left v (gives p a v)).seen
      by (inl h) = sees_kept h
      by (inr (none, inl h)) = sees_kept h
      by (inr (none, inr h)) = subst (λ (u : TxnAt). SeesOwn catalog events c (body ++ s ∷ []) u.seen) (sym h.2) (sees_written h.0 none)

-- A statement that is answered so shows rows that its transaction has, and the transaction goes on with such.
pub next_given : (catalog : List Table) (events : List Event) (c n : ℕ) (acked : List Executed) (s begin : Executed) (body : List Executed) (p : Planned) (a : Access) (v : TxnAt) → from_begin n acked ≡ begin ∷ body → n ≡ begun_in acked → is_catalog catalog ≡ true → Reads s.text p.statement → named_table catalog p.statement ≡ Some p.table → p.asked ≡ true → a ≡ access_of p.table p.statement
    → s.answer ≡ Some (given_answer v (gives p a v)) → (given_left v (gives p a v)).doing ≡ doing.Idle → WereRead v.seen.read_set v.seen.writes → ((key : Key) → is_key_read v.seen.read_set key ≡ true → fits_if_any catalog key (row_seen v.seen.read_set v.seen.writes key) ≡ true → HasBefore catalog events c body s key (row_seen v.seen.read_set v.seen.writes key))
    → (open_after acked ≡ true → GivesOwn catalog events c (rest_of (from_begin (begun_in acked) acked)) s (given_answer v (gives p a v))) × IsViewOf catalog events c (rest_of (from_begin n (acked ++ s ∷ []))) (given_left v (gives p a v))
next_given catalog events c n acked s begin body p a v since number is reads named asked access_is answered idles kept now = (
  λ opened. subst (λ r. GivesOwn catalog events c r s (given_answer v (gives p a v))) (sym (ap (λ i. rest_of (from_begin i acked)) (sym number) ∙ ap rest_of since)) (tells_given catalog events c body s p a is reads named asked access_is v answered now kept),
  showing_idle catalog events c n acked s begin body (given_left v (gives p a v)) since idles (sees_given catalog events c body s p a is reads named asked access_is v answered now),
)
