-- Between two statements again: what the answer of a statement leaves of its session's open transaction.
use Rattle.std.proofs.Common.{◌≡◌, Bool, true, false, List, [], ◌∷◌, ◌++◌, Option, Some, None, Ok, refl, sym, ap, subst, ◌∙◌}
use Rattle.std.specs.Prelude.{fold, is_some, map, ◌&&◌, ◌||◌, if◌then◌else◌}
use Rattle.sdb_types.proofs.Public.{and_false, by_test, map_last, none_some, some_is}
use Rattle.law_clients.specs.Types.{Access, Answer, Statement, Table}
use Rattle.sdb_model.specs.declared.answer.Answer.TheVariants as answer
use Rattle.sdb_model.specs.Transactions.{changes_nothing, is_conflict, is_done}
use Rattle.sdb_exec.specs.Plans.{Planned}
use Rattle.sdb_snapshot.specs.Seen.{Seen}
use Rattle.sdb_client.specs.Client.{ClientAt}
use Rattle.law_clients.specs.Database.{Database}
use Rattle.law_clients.specs.Between.{Answered, Begun, Between, Ended, IsStill, IsTxnOf, OpenTransaction, RolledBack, StatementEnds, Vacuumed, Turned}
use Rattle.law_clients.specs.Chain.{Answers, Exchanged, OutOfMemory, open_after, open_of, transaction_of}
use Rattle.law_clients.specs.Clients.{Added, AnsweredAlone, IsAskedFor, Kept, OpenAlone}
use Rattle.law_clients.specs.Session.{Exchange, Part, Parts, begins, body_in, ends, is_begin, is_commit, is_rollback, no_parts, part_after, parts_after, parts_of, statements_in, rejected}
use Rattle.law_clients.proofs.SessionLaws.{away_none, away_open, idle_meek, mild_meek, no_word, none_open, one_open, rows_meek, stays_by}
use Rattle.law_clients.proofs.SessionStatements.{rows_change}

-- the transaction with one statement more
abbrev with_one : Part → Exchange → Part
with_one t e = record { id = t.id; inside = t.inside ++ e ∷ []; last = None }

same_transaction : (t : Part) (e : Exchange) → changes_nothing e.answer ≡ true → transaction_of (with_one t e) ≡ transaction_of t
same_transaction t e n = ap (λ bs. record { id = t.id; statements = map (λ b. b.0) bs; answers = map (λ b. b.1) bs }) (none_open t.inside e n)

one_transaction : (t : Part) (e : Exchange) (st : Statement) → e.says ≡ Ok st → changes_nothing e.answer ≡ false → transaction_of (with_one t e) ≡ record { id = t.id; statements = (transaction_of t).statements ++ st ∷ []; answers = (transaction_of t).answers ++ e.answer ∷ [] }
one_transaction t e st is n =
    ap (λ (bs : List (Statement × Answer)). record { id = t.id; statements = map (λ b. b.0) bs; answers = map (λ b. b.1) bs }) (one_open t.inside e st is n)
    ∙ ap (λ (ss : List Statement). record { id = t.id; statements = ss; answers = map (λ (b : Statement × Answer). b.1) (body_in t.inside ++ (st, e.answer) ∷ []) }) (map_last (λ (b : Statement × Answer). b.0) (body_in t.inside) (st, e.answer))
    ∙ ap (λ (ys : List Answer). record { id = t.id; statements = statements_in t.inside ++ st ∷ []; answers = ys }) (map_last (λ (b : Statement × Answer). b.1) (body_in t.inside) (st, e.answer))

module _ (catalog : List Table) (g h : Database) (ts : List Part) (e : Exchange) (c : ClientAt) where
  abbrev After : Option Part → Type 0
  After p = Between catalog h (open_of (part_after ts p e).opened) c

  -- a transaction that was open has ended, or has one statement more
  abbrev by_end : Part → Bool → Parts
  by_end t b = if b then record { ended = ts ++ record { id = t.id; inside = t.inside; last = Some e } ∷ []; opened = None } else record { ended = ts; opened = Some (with_one t e) }

  -- none was open, and none is
  outside : begins e ≡ false → Between catalog h None c → After None
  outside n k = subst (λ (o : Option OpenTransaction). Between catalog h o c) (sym (ap (λ b. open_of (if b then Some (record { id = e.id; inside = []; last = None }) else None)) n)) k

  begun : begins e ≡ true → Between catalog h (Some (record { id = e.id; statements = []; answers = [] })) c → After None
  begun n k = subst (λ (o : Option OpenTransaction). Between catalog h o c) (sym (ap (λ b. open_of (if b then Some (record { id = e.id; inside = []; last = None }) else None)) n)) k

  over : (t : Part) → ends e ≡ true → Between catalog h None c → After (Some t)
  over t n k = subst (λ (b : Bool). Between catalog h (open_of (by_end t b).opened) c) (sym n) k

  inside : (t : Part) → ends e ≡ false → Between catalog h (Some (transaction_of (with_one t e))) c → After (Some t)
  inside t n k = subst (λ (b : Bool). Between catalog h (open_of (by_end t b).opened) c) (sym n) k

  nothing : (t : Part) → ends e ≡ false → changes_nothing e.answer ≡ true → Between catalog h (Some (transaction_of t)) c → After (Some t)
  nothing t n k b = inside t n (subst (λ x. Between catalog h (Some x) c) (sym (same_transaction t e k)) b)

  commit_ends : is_commit e.says ≡ true → ends e ≡ true
  commit_ends k = ap (λ b. b || (is_conflict (Some e.answer) || (is_rollback e.says && is_done (Some e.answer)))) k

  -- turned away
  turned : (p : Option Part) → rejected catalog (is_some (open_of p)) e.says ≡ Some e.answer → Between catalog h (open_of p) c → After p
  turned None away k = let a = away_none catalog e.says e.answer away in outside (ap (λ b. b && is_done (Some e.answer)) a.begin) k
  turned (Some t) away k =
      let a = away_open catalog e.says e.answer away in
      let m = mild_meek e.answer a.mild in
      nothing t (stays_by e a.commit m.0.conflict a.rollback) m.1 k

  -- out of memory as it was accepted
  out_of_memory : (p : Option Part) → e.answer ≡ answer.NoMemory → (is_commit e.says ≡ true → Between catalog h None c) → (is_commit e.says ≡ false → Between catalog h (open_of p) c) → After p
  out_of_memory None gone commit other = outside (ap (λ z. is_begin e.says && is_done (Some z)) gone ∙ and_false (is_begin e.says)) (by_test (is_commit e.says) commit other)
  out_of_memory (Some t) gone commit other = by_test (is_commit e.says)
      (λ k. over t (commit_ends k) (commit k))
      (λ k. nothing t (ap (λ b. b || (is_conflict (Some e.answer) || (is_rollback e.says && is_done (Some e.answer)))) k ∙ ap (λ z. is_conflict (Some z) || (is_rollback e.says && is_done (Some z))) gone ∙ and_false (is_rollback e.says)) (ap changes_nothing gone) (other k))

  -- answered from its read
  still_open : (b : OpenTransaction) (s : Seen) (statements : List Statement) (answers : List Answer) → IsStill b s c → OpenAlone catalog h statements answers b.id s → Between catalog h (Some (record { id = b.id; statements = statements; answers = answers })) c
  still_open b s statements answers still opened = record {
    free = still.free;
    plan = still.plan;
    txn = subst (IsTxnOf catalog h (Some (record { id = b.id; statements = statements; answers = answers }))) (sym still.txn) (still.idle, still.id, subst (OpenAlone catalog h statements answers b.id) (sym still.seen) opened);
  }

  answered : (t : Part) (st : Statement) (p : Planned) (a : Access) (s : Seen) → e.says ≡ Ok st → p.statement ≡ st → IsAskedFor catalog p a → AnsweredAlone catalog h (transaction_of t).statements (transaction_of t).answers st a e.moment t.id e.answer s → IsStill (transaction_of t) s c → After (Some t)
  answered t st p a s is of asked so still =
      let w = no_word catalog p.statement p.table asked.named in
      let commit : is_commit e.says ≡ false = ap is_commit (is ∙ ap (λ x. Ok x) (sym of)) ∙ w.commit in
      let rollback : is_rollback e.says ≡ false = ap is_rollback (is ∙ ap (λ x. Ok x) (sym of)) ∙ w.rollback in
      by commit rollback so
    where
      by : is_commit e.says ≡ false → is_rollback e.says ≡ false → AnsweredAlone catalog h (transaction_of t).statements (transaction_of t).answers st a e.moment t.id e.answer s → After (Some t)
      by commit rollback (Kept same why many opened) = nothing t (stays_by e commit (idle_meek h a e.moment e.answer why).conflict rollback) same (still_open (transaction_of t) s (transaction_of t).statements (transaction_of t).answers still opened)
      by commit rollback (Added rows few opened) =
          let changed = rows_change e.answer rows in
          inside t (stays_by e commit (rows_meek e.answer rows).0.conflict rollback)
          (subst (λ (x : OpenTransaction). Between catalog h (Some x) c) (sym (one_transaction t e st is changed))
          (still_open (transaction_of t) s ((transaction_of t).statements ++ st ∷ []) ((transaction_of t).answers ++ e.answer ∷ []) still opened))

  ends_between : (p : Option Part) → StatementEnds catalog g e.id e.moment e.says h (open_of p) e.answer c → After p
  ends_between p (Turned away same left) = turned p away left
  ends_between None (Begun is none done same left) = begun (ap (λ x. is_begin x && is_done (Some e.answer)) is ∙ ap (λ z. is_done (Some z)) done) left
  ends_between (Some t) (Begun is none done same left) = none_some (transaction_of t) (sym none)
  ends_between None (RolledBack b is some done same left) = none_some b some
  ends_between (Some t) (RolledBack b is some done same left) = over t (ap (λ x. is_commit x || (is_conflict (Some e.answer) || (is_rollback x && is_done (Some e.answer)))) is ∙ ap (λ z. is_conflict (Some z) || is_done (Some z)) done) left
  ends_between None (Answered b st p a s is of asked stays some settles so still) = none_some b some
  ends_between (Some t) (Answered b st p a s is of asked stays some settles so still) =
      answered t st p a s is of asked (subst (λ (x : OpenTransaction). AnsweredAlone catalog h x.statements x.answers st a e.moment x.id e.answer s) (sym (some_is (transaction_of t) b some)) so) (subst (λ (x : OpenTransaction). IsStill x s c) (sym (some_is (transaction_of t) b some)) still)
  ends_between None (Ended b s is some opened later ends left) = none_some b some
  ends_between (Some t) (Ended b s is some opened later ends left) = over t (commit_ends (ap is_commit is)) left
  ends_between None (Vacuumed is none quiet all left) = outside (ap (λ x. is_begin x && is_done (Some e.answer)) is) left
  ends_between (Some t) (Vacuumed is none quiet all left) = none_some (transaction_of t) (sym none)

  pub between_after : (p : Option Part) → Exchanged catalog g (open_of p) e h c → After p
  between_after p (Answers ends) = ends_between p ends
  between_after p (OutOfMemory gone same commit other) = out_of_memory p gone commit other

-- one exchange more
fold_more : (p : Parts) (es : List Exchange) (e : Exchange) → fold parts_after p (es ++ e ∷ []) ≡ parts_after (fold parts_after p es) e
fold_more p [] e = refl
fold_more p (x ∷ es) e = fold_more (parts_after p x) es e

pub parts_more : (es : List Exchange) (e : Exchange) → parts_of (es ++ e ∷ []) ≡ parts_after (parts_of es) e
parts_more es e = fold_more no_parts es e

pub between_more : (catalog : List Table) (g h : Database) (es : List Exchange) (e : Exchange) (c : ClientAt) → Exchanged catalog g (open_after es) e h c → Between catalog h (open_after (es ++ e ∷ [])) c
between_more catalog g h es e c x = subst (λ (p : Parts). Between catalog h (open_of p.opened) c) (sym (parts_more es e)) (between_after catalog g h (parts_of es).ended e c (parts_of es).opened x)
