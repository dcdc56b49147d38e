-- A group of rows, from its statements.
use Rattle.std.proofs.Common.{◌≡◌, ℕ, ◌+◌, cond, true, false, List, [], ◌∷◌, ◌++◌, Option, Some, None, refl, sym, ap, subst, ◌∙◌, append_assoc}
use Rattle.std.specs.Prelude.{is_some}
use Rattle.std.proofs.lemmas.List.{map_push}
use Rattle.std.proofs.lemmas.List.Sums.{sum_by_push}
use Rattle.sdb_shell.specs.Types.{Answer, Table, Value}
use Rattle.sdb_stores.specs.Views.{Attached}
use Rattle.sdb_contents.specs.Board.{GoOn}
use Rattle.sdb_model.specs.declared.statement.Statement.TheVariants as statement
use Rattle.sdb_model.specs.Transactions.{is_done}
use Rattle.law_clients.specs.Session.{Exchange}
use Rattle.sdb_shell.specs.declared.group.Ending.{Ending}
use Rattle.sdb_shell.specs.declared.load.Load.{Load}
use Rattle.sdb_shell.specs.Groups.{AreLoaded, Ended, IsRolledBackIf, NotBegun, Stopped, is_loaded, is_open, is_written, statements_of, written_in}
use Rattle.sdb_shell.specs.Statements.{row_statement}
use Rattle.sdb_shell.specs.Turns.{AreAllExecuted, AreRolledBack, AreStopped, AreExecutedBy, EndBy, HasLoaded, IsExecuted, HaveLoaded, IsSoFar, Point}
use Rattle.sdb_shell.proofs.Points.{answered_more, said, taken_more, taken_none}

---- rows

pub none_taken : {S : Type 0} (state : S → Attached) (catalog : List Table) (load : Load) (p : Point S) → AreAllExecuted state catalog load [] p p 0
none_taken state catalog load p = record { es = []; loads = tt; counted = refl; accepted = taken_none state catalog p }

-- one row more was accepted
pub row_more : {S : Type 0} (state : S → Attached) (catalog : List Table) (load : Load) (rows : List (List Value)) (row : List Value) (p q r : Point S) (written : ℕ) (a : Answer)
    → AreAllExecuted state catalog load rows p q written → IsExecuted state catalog (row_statement load row) q a r → GoOn (state q.stores) (state r.stores) → is_loaded a ≡ true → AreAllExecuted state catalog load (rows ++ row ∷ []) p r (written + cond (is_written a) 1 0)
row_more state catalog load rows row p q r written a h one goes good =
    let s = said state catalog (row_statement load row) q r a one goes in
    let e = s.e in
    record {
      es = h.es ++ e ∷ [];
      loads = subst (λ sts. AreLoaded sts (h.es ++ e ∷ [])) (sym (map_push (row_statement load) rows row)) (answered_more (λ st x. is_loaded x) (statements_of load rows) h.es (row_statement load row) e h.loads s.is (ap is_loaded s.answer ∙ good));
      counted = ap (λ n. n + cond (is_written a) 1 0) h.counted ∙ ap (λ x. written_in h.es + cond (is_written x) 1 0) (sym s.answer) ∙ sym (sum_by_push (λ (x : Exchange). cond (is_written x.answer) 1 0) h.es e);
      accepted = taken_more state catalog p q r h.es (e ∷ []) h.accepted s.accepted;
    }

-- a row's statement stopped them
pub row_stops : {S : Type 0} (state : S → Attached) (catalog : List Table) (load : Load) (rows front back : List (List Value)) (row : List Value) (p q r : Point S) (written : ℕ) (a : Answer)
    → AreAllExecuted state catalog load front p q written → IsExecuted state catalog (row_statement load row) q a r → GoOn (state q.stores) (state r.stores) → is_loaded a ≡ false → rows ≡ front ++ row ∷ back → AreStopped state catalog load rows p r written a
row_stops state catalog load rows front back row p q r written a h one goes bad split =
    let s = said state catalog (row_statement load row) q r a one goes in
    record {
      loaded = h.es;
      last = s.e;
      front = front;
      row = row;
      back = back;
      split = split;
      loads = h.loads;
      stops = s.is;
      answer = s.answer;
      bad = ap is_loaded s.answer ∙ bad;
      counted = h.counted;
      accepted = taken_more state catalog p q r h.es (s.e ∷ []) h.accepted s.accepted;
    }

---- rolled back

pub rolled_none : {S : Type 0} (state : S → Attached) (catalog : List Table) (p : Point S) → is_some p.session.client.txn ≡ false → AreRolledBack state catalog p p
rolled_none state catalog p closed = record { es = []; are = subst (λ b. IsRolledBackIf b []) (sym closed) refl; accepted = taken_none state catalog p }

pub rolled_one : {S : Type 0} (state : S → Attached) (catalog : List Table) (p q : Point S) (a : Answer) → is_some p.session.client.txn ≡ true → IsExecuted state catalog statement.Rollback p a q → GoOn (state p.stores) (state q.stores) → AreRolledBack state catalog p q
rolled_one state catalog p q a opened one goes =
    let s = said state catalog statement.Rollback p q a one goes in
    record { es = s.e ∷ []; are = subst (λ b. IsRolledBackIf b (s.e ∷ [])) (sym opened) (s.e, refl, s.is); accepted = s.accepted }

---- the end of a group

-- the statements of a group after those before it
past_begin : (before : List Exchange) (begin : Exchange) (xs ys : List Exchange) → ((before ++ begin ∷ []) ++ xs) ++ ys ≡ before ++ (begin ∷ (xs ++ ys))
past_begin before begin xs ys = append_assoc (before ++ begin ∷ []) xs ys ∙ append_assoc before (begin ∷ []) (xs ++ ys)

pub group_ends : {S : Type 0} (state : S → Attached) (catalog : List Table) (load : Load) (rows : List (List Value)) (p q r : Point S) (written : ℕ) (bad : Option Answer) (ending : Ending)
    → AreExecutedBy state catalog load rows p q written bad → EndBy state catalog written bad q r ending → GoOn (state q.stores) (state r.stores) → HaveLoaded state catalog load rows p r ending
group_ends state catalog load rows p q r written None ending t k goes = λ first before begin begins done so.
    let s = said state catalog statement.Commit q r ending.answer k.1 goes in
    record {
      es = t.es ++ s.e ∷ [];
      is = Ended (record {
        begin = begin;
        loaded = t.es;
        commit = s.e;
        exchanges = refl;
        begins = begins;
        begun = done;
        loads = t.loads;
        commits = s.is;
        written = k.0 ∙ t.counted;
        ends = sym s.answer;
      });
      so = subst (IsSoFar state catalog first r) (past_begin before begin t.es (s.e ∷ [])) (s.accepted first ((before ++ begin ∷ []) ++ t.es) (t.accepted first (before ++ begin ∷ []) so));
    }
group_ends state catalog load rows p q r written (Some a) ending t k goes = λ first before begin begins done so.
    let mid = t.accepted first (before ++ begin ∷ []) so in
    let opened : is_some q.session.client.txn ≡ is_open (before ++ begin ∷ (t.loaded ++ t.last ∷ [])) = mid.opened ∙ ap is_open (append_assoc before (begin ∷ []) (t.loaded ++ t.last ∷ [])) in
    record {
      es = t.loaded ++ t.last ∷ k.2.es;
      is = Stopped (record {
        begin = begin;
        loaded = t.loaded;
        last = t.last;
        undone = k.2.es;
        front = t.front;
        row = t.row;
        back = t.back;
        exchanges = refl;
        begins = begins;
        begun = done;
        rows = t.split;
        loads = t.loads;
        stops = t.stops;
        bad = t.bad;
        rolled_back = subst (λ b. IsRolledBackIf b k.2.es) opened k.2.are;
        written = k.0 ∙ t.counted;
        ends = k.1 ∙ sym t.answer;
      });
      so = subst (IsSoFar state catalog first r) (past_begin before begin (t.loaded ++ t.last ∷ []) k.2.es ∙ ap (λ es. before ++ (begin ∷ es)) (append_assoc t.loaded (t.last ∷ []) k.2.es)) (k.2.accepted first ((before ++ begin ∷ []) ++ (t.loaded ++ t.last ∷ [])) mid);
    }

-- BEGIN was answered Done
pub group_begun : {S : Type 0} (state : S → Attached) (catalog : List Table) (load : Load) (rows : List (List Value)) (p q r : Point S) (a : Answer) (ending : Ending)
    → IsExecuted state catalog statement.Begin p a q → GoOn (state p.stores) (state q.stores) → is_done (Some a) ≡ true → HaveLoaded state catalog load rows q r ending → HasLoaded state catalog load rows p r ending
group_begun state catalog load rows p q r a ending one goes done h = λ first before so.
    let s = said state catalog statement.Begin p q a one goes in
    let g = h first before s.e s.is (ap (λ x. is_done (Some x)) s.answer ∙ done) (s.accepted first before so) in
    record { es = s.e ∷ g.es; is = g.is; so = g.so }

-- BEGIN was answered otherwise
pub group_not_begun : {S : Type 0} (state : S → Attached) (catalog : List Table) (load : Load) (rows : List (List Value)) (p q r : Point S) (a : Answer)
    → IsExecuted state catalog statement.Begin p a q → GoOn (state p.stores) (state q.stores) → is_done (Some a) ≡ false → AreRolledBack state catalog q r → HasLoaded state catalog load rows p r (record { written = 0; answer = a })
group_not_begun state catalog load rows p q r a one goes other rolled = λ first before so.
    let s = said state catalog statement.Begin p q a one goes in
    let mid = s.accepted first before so in
    record {
      es = s.e ∷ rolled.es;
      is = NotBegun (record {
        begin = s.e;
        undone = rolled.es;
        exchanges = refl;
        begins = s.is;
        other = ap (λ x. is_done (Some x)) s.answer ∙ other;
        rolled_back = subst (λ b. IsRolledBackIf b rolled.es) mid.opened rolled.are;
        written = refl;
        ends = sym s.answer;
      });
      so = subst (IsSoFar state catalog first r) (append_assoc before (s.e ∷ []) rolled.es) (rolled.accepted first (before ++ s.e ∷ []) mid);
    }
