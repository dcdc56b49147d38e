-- A table's rows, read as one transaction.
use Rattle.std.proofs.Common.{◌≡◌, ℕ, List, [], ◌∷◌, ◌++◌, refl, sym, ap, subst, ◌∙◌}
use Rattle.sdb_shell.specs.Types.{Answer, Statement, Table}
use Rattle.sdb_stores.specs.Views.{Attached}
use Rattle.sdb_contents.specs.Board.{GoOn}
use Rattle.sdb_contents.proofs.Public.{goes_more, goes_none}
use Rattle.sdb_model.specs.declared.statement.Statement.TheVariants as statement
use Rattle.law_clients.specs.Session.{Exchange}
use Rattle.sdb_shell.proofs.Chains.{session_whole}
use Rattle.sdb_shell.specs.declared.export_refused.ExportRefused.{ExportRefused}
use Rattle.sdb_shell.specs.declared.export_refused.ExportRefused.TheVariants as refused
use Rattle.sdb_shell.specs.Exports.{IsLeftUnanswered, IsAnsweredAsExpected, HaveNotRead, HaveRead, IsExport, IsNotExported, IsExportOutOfMemory, IsReadOutOfMemory, IsTextOf, export_statements, is_wanted}
use Rattle.sdb_shell.specs.Groups.{AreAnswered}
use Rattle.sdb_shell.specs.Statements.{select_all}
use Rattle.sdb_shell.specs.Turns.{AreExecutedBetween, IsSoFar, Point, ends_between}
use Rattle.sdb_shell.proofs.Points.{answered_more, said, session_before, taken_more, taken_none}

-- Statements of an export that were accepted between two points, each answered as it should be.
pub record AreWanted {S : Type 0} (state : S → Attached) (catalog : List Table) (sts : List Statement) (p q : Point S) (es : List Exchange) : Type 0 where
  pub are : AreAnswered is_wanted sts es
  pub accepted : AreExecutedBetween state catalog p q es

pub wanted_more : {S : Type 0} (state : S → Attached) (catalog : List Table) (sts : List Statement) (st : Statement) (p q r : Point S) (es : List Exchange) (a : Answer) → AreWanted state catalog sts p q es → (h : IsAnsweredAsExpected state catalog st q r a) → (goes : GoOn (state q.stores) (state r.stores)) → AreWanted state catalog (sts ++ st ∷ []) p r (es ++ (said state catalog st q r a h.0 goes).e ∷ [])
wanted_more state catalog sts st p q r es a w h goes =
    let s = said state catalog st q r a h.0 goes in
    record { are = answered_more is_wanted sts es st s.e w.are s.is (ap (is_wanted st) s.answer ∙ h.1); accepted = taken_more state catalog p q r es (s.e ∷ []) w.accepted s.accepted }

-- memory ran out before the next one was answered
pub starved_at : {S : Type 0} (state : S → Attached) (catalog : List Table) (t : Table) (front back : List Statement) (p q r : Point S) (es : List Exchange) → export_statements t ≡ front ++ back → AreWanted state catalog front p q es → GoOn (state p.stores) (state q.stores) → GoOn (state q.stores) (state r.stores) → IsReadOutOfMemory state catalog t p r
starved_at state catalog t front back p q r es split w before goes = record { mid = q; front = front; back = back; es = es; statements = split; are = w.are; accepted = w.accepted; before = before; goes = goes }

pub starved_first : {S : Type 0} (state : S → Attached) (catalog : List Table) (t : Table) (p : Point S) → IsReadOutOfMemory state catalog t p p
starved_first state catalog t p = starved_at state catalog t [] (export_statements t) p p p [] refl (record { are = tt; accepted = taken_none state catalog p }) (goes_none (state p.stores)) (goes_none (state p.stores))

-- the next one wasn't answered so
pub cut_at : {S : Type 0} (state : S → Attached) (catalog : List Table) (t : Table) (front : List Statement) (st : Statement) (back : List Statement) (p q r : Point S) (es : List Exchange) (why : ExportRefused) → export_statements t ≡ front ++ st ∷ back → AreWanted state catalog front p q es → IsLeftUnanswered state catalog st q r why → GoOn (state p.stores) (state q.stores) → GoOn (state q.stores) (state r.stores) → HaveNotRead state catalog t p r why
cut_at state catalog t front st back p q r es (refused.NotCommitted a) split w h before goes =
    let s = said state catalog st q r a h.1 goes in (
      h.0,
      record {
        es = es;
        last = s.e;
        cut = record { front = front; st = st; back = back; statements = split; accepted = w.are; stops = s.is; other = ap (is_wanted st) s.answer ∙ h.2; answer = s.answer };
        accepted = taken_more state catalog p q r es (s.e ∷ []) w.accepted s.accepted;
      },
    )
cut_at state catalog t front st back p q r es refused.NoMemory split w h before goes = starved_at state catalog t front (st ∷ back) p q r es split w before goes

---- the three statements

module _ {S : Type 0} (state : S → Attached) (catalog : List Table) (t : Table) (select : Statement) (is : select ≡ select_all t) (p q : Point S) where
  none_wanted : AreWanted state catalog [] p p []
  none_wanted = record { are = tt; accepted = taken_none state catalog p }

  pub cut_first : (why : ExportRefused) → IsLeftUnanswered state catalog statement.Begin p q why → GoOn (state p.stores) (state q.stores) → HaveNotRead state catalog t p q why
  cut_first why h goes = cut_at state catalog t [] statement.Begin (select_all t ∷ statement.Commit ∷ []) p p q [] why refl none_wanted h (goes_none (state p.stores)) goes

  module _ (a : Answer) (began : IsAnsweredAsExpected state catalog statement.Begin p q a) (goes : GoOn (state p.stores) (state q.stores)) (r : Point S) where
    one_wanted : AreWanted state catalog (statement.Begin ∷ []) p q ((said state catalog statement.Begin p q a began.0 goes).e ∷ [])
    one_wanted = wanted_more state catalog [] statement.Begin p p q [] a none_wanted began goes

    pub cut_second : (why : ExportRefused) → IsLeftUnanswered state catalog select q r why → GoOn (state q.stores) (state r.stores) → HaveNotRead state catalog t p r why
    cut_second why h on = cut_at state catalog t (statement.Begin ∷ []) (select_all t) (statement.Commit ∷ []) p q r _ why refl one_wanted (subst (λ s. IsLeftUnanswered state catalog s q r why) is h) goes on

    module _ (b : Answer) (showed : IsAnsweredAsExpected state catalog select q r b) (on : GoOn (state q.stores) (state r.stores)) (x : Point S) where
      observed : IsAnsweredAsExpected state catalog (select_all t) q r b
      observed = subst (λ s. IsAnsweredAsExpected state catalog s q r b) is showed

      two_wanted : AreWanted state catalog (statement.Begin ∷ select_all t ∷ []) p r ((said state catalog statement.Begin p q a began.0 goes).e ∷ (said state catalog (select_all t) q r b observed.0 on).e ∷ [])
      two_wanted = wanted_more state catalog (statement.Begin ∷ []) (select_all t) p q r ((said state catalog statement.Begin p q a began.0 goes).e ∷ []) b one_wanted observed on

      pub cut_third : (why : ExportRefused) → IsLeftUnanswered state catalog statement.Commit r x why → GoOn (state r.stores) (state x.stores) → HaveNotRead state catalog t p x why
      cut_third why h last = cut_at state catalog t (statement.Begin ∷ select_all t ∷ []) statement.Commit [] p r x _ why refl two_wanted h (goes_more _ _ _ goes on) last

      pub read_all : (d : Answer) → IsAnsweredAsExpected state catalog statement.Commit r x d → GoOn (state r.stores) (state x.stores) → HaveRead state catalog t p x b
      read_all d h last =
          let w = wanted_more state catalog (statement.Begin ∷ select_all t ∷ []) statement.Commit p r x ((said state catalog statement.Begin p q a began.0 goes).e ∷ (said state catalog (select_all t) q r b observed.0 on).e ∷ []) d two_wanted h last in
          record {
            begin = (said state catalog statement.Begin p q a began.0 goes).e;
            select = (said state catalog (select_all t) q r b observed.0 on).e;
            commit = (said state catalog statement.Commit r x d h.0 last).e;
            are = w.are;
            observed = (said state catalog (select_all t) q r b observed.0 on).answer;
            accepted = w.accepted;
          }

---- the whole

pub exported : {S : Type 0} (state : S → Attached) (catalog : List Table) (t : Table) (first p q : Point S) (a : Answer) (text : List ℕ) → IsSoFar state catalog first p [] → HaveRead state catalog t p q a → IsTextOf t a text → IsExport catalog t (ends_between state first q) text
exported state catalog t first p q a text so h is = record {
  begin = h.begin;
  select = h.select;
  commit = h.commit;
  accepted = h.are;
  observed = subst (λ x. IsTextOf t x text) (sym h.observed) is;
  session = session_whole catalog (state first.stores) (state q.stores) first.clock q.clock first.ids q.ids (h.begin ∷ h.select ∷ h.commit ∷ []) q.session (h.accepted first [] so);
}

pub not_exported : {S : Type 0} (state : S → Attached) (catalog : List Table) (t : Table) (first p q : Point S) (why : ExportRefused) → GoOn (state first.stores) (state p.stores) → IsSoFar state catalog first p [] → HaveNotRead state catalog t p q why → IsNotExported catalog t (ends_between state first q) why
not_exported state catalog t first p q (refused.NotCommitted a) start so h =
    let x = h.1 in
    (h.0, record { es = x.es; last = x.last; cut = x.cut; session = session_whole catalog (state first.stores) (state q.stores) first.clock q.clock first.ids q.ids (x.es ++ x.last ∷ []) q.session (x.accepted first [] so) })
not_exported state catalog t first p q refused.NoMemory start so h =
    record { front = h.front; back = h.back; es = h.es; statements = h.statements; accepted = h.are; session = session_before state catalog first h.mid q h.es (h.accepted first [] so) (goes_more _ _ _ start h.before) h.goes }

-- memory ran out after all of them
pub starved_last : {S : Type 0} (state : S → Attached) (catalog : List Table) (t : Table) (first p q : Point S) (a : Answer) → IsSoFar state catalog first p [] → GoOn (state first.stores) (state q.stores) → HaveRead state catalog t p q a → IsExportOutOfMemory catalog t (ends_between state first q)
starved_last state catalog t first p q a so goes h = record {
  front = export_statements t;
  back = [];
  es = h.begin ∷ h.select ∷ h.commit ∷ [];
  statements = refl;
  accepted = h.are;
  session = session_before state catalog first q q (h.begin ∷ h.select ∷ h.commit ∷ []) (h.accepted first [] so) goes (goes_none (state q.stores));
}
