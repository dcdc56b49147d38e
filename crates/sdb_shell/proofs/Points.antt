-- Statements that are accepted between points of a call.
use Rattle.std.proofs.Common.{◌≡◌, ◌≤◌, ℕ, ℤ, Bool, true, List, [], ◌∷◌, ◌++◌, Option, refl, sym, ap, subst, ◌∙◌, append_assoc}
use Rattle.std.proofs.lemmas.List.{append-nil}
use Rattle.std.specs.Prelude.{IfErr, IfOk, IsErrAnd, Result, Ok, Err}
use Rattle.sdb_types.specs.Draws.{IsAppended}
use Rattle.sdb_shell.specs.Types.{Answer, Statement, Table}
use Rattle.sdb_stores.specs.Views.{Attached, total_faults}
use Rattle.sdb_contents.specs.Board.{GoOn, contents_of_views}
use Rattle.sdb_model.specs.Sql.{statement_text_of}
use Rattle.sdb_client.specs.Client.{IsIdle, nothing_done}
use Rattle.law_clients.specs.Database.{Database, database_of}
use Rattle.law_clients.specs.Session.{Exchange, IsSerialSession}
use Rattle.sdb_shell.specs.Answering.{database_in, exchange}
use Rattle.sdb_shell.specs.Drawn.{drawn_id}
use Rattle.sdb_shell.specs.Sessions.{IsSession, IsSessionSoFar, SessionAt}
use Rattle.sdb_shell.proofs.Chains.{session_more, session_none, session_whole}
use Rattle.sdb_shell.specs.Ends.{Ends, IsSessionBefore}
use Rattle.sdb_shell.specs.Groups.{AreAnswered, IsOf}
use Rattle.sdb_shell.specs.Turns.{AreExecutedBetween, IsExecuted, IsSoFar, Point, ends_between}

-- a statement that was accepted between two points
pub record Said {S : Type 0} (state : S → Attached) (catalog : List Table) (st : Statement) (p : Point S) (a : Answer) (q : Point S) : Type 0 where
  pub e : Exchange
  pub is : IsOf st e
  pub answer : e.answer ≡ a
  pub accepted : AreExecutedBetween state catalog p q (e ∷ [])

pub said : {S : Type 0} (state : S → Attached) (catalog : List Table) (st : Statement) (p q : Point S) (a : Answer) → IsExecuted state catalog st p a q → GoOn (state p.stores) (state q.stores) → Said state catalog st p a q
said state catalog st p q a h goes = record {
  e = exchange h.answered.says h.now p.session.fresh a;
  is = h.answered.reads;
  answer = refl;
  accepted = λ first before so. session_more catalog (state first.stores) (state p.stores) (state q.stores) first.clock p.clock q.clock first.ids p.ids q.ids before p.session q.session (statement_text_of st) a so h goes;
}

pub idle_after : {S : Type 0} (state : S → Attached) (catalog : List Table) (st : Statement) (p q : Point S) (a : Answer) → IsExecuted state catalog st p a q → IsIdle q.session.client
idle_after state catalog st p q a h = h.answered.ended.idle

pub taken_none : {S : Type 0} (state : S → Attached) (catalog : List Table) (p : Point S) → AreExecutedBetween state catalog p p []
taken_none state catalog p = λ first before so. subst (IsSoFar state catalog first p) (sym (append-nil before)) so

pub taken_more : {S : Type 0} (state : S → Attached) (catalog : List Table) (p q r : Point S) (xs ys : List Exchange) → AreExecutedBetween state catalog p q xs → AreExecutedBetween state catalog q r ys → AreExecutedBetween state catalog p r (xs ++ ys)
taken_more state catalog p q r xs ys h k = λ first before so. subst (IsSoFar state catalog first r) (append_assoc before xs ys) (k first (before ++ xs) (h first before so))

-- a call's first point: its session has accepted nothing
pub so_none : {S : Type 0} (state : S → Attached) (catalog : List Table) (first p : Point S) → p.stores ≡ first.stores → p.clock ≡ first.clock → p.session.client ≡ nothing_done 1 → ((draw : ℕ) × IsAppended draw first.ids p.ids × (p.session.fresh ≡ drawn_id draw)) → IsSoFar state catalog first p []
so_none state catalog first p stores clock client fresh =
    let start = session_none catalog (state first.stores) first.clock first.ids p.ids 1 fresh.0 fresh.1 in
    let is : record { client = nothing_done 1; fresh = drawn_id fresh.0 } ≡ p.session = sym (ap (λ c. record { client = c; fresh = p.session.fresh }) client ∙ ap (λ i. record { client = nothing_done 1; fresh = i }) fresh.2) in
    subst (λ s. IsSessionSoFar catalog (state first.stores) (state s) first.clock p.clock first.ids p.ids [] p.session) (sym stores)
    (subst (λ c. IsSessionSoFar catalog (state first.stores) (state first.stores) first.clock c first.ids p.ids [] p.session) (sym clock)
    (subst (λ (x : SessionAt). IsSessionSoFar catalog (state first.stores) (state first.stores) first.clock first.clock first.ids p.ids [] x) is start))

---- a call that runs out of memory

pub over_before : (catalog : List Table) (e : Ends) (mid : Attached) (clock_mid : Option (List ℤ)) (ids_mid : Option (List ℕ)) (es : List Exchange) → mid.places ≡ e.old.places → total_faults mid.views ≤ total_faults e.new.views → IsSession catalog e.old mid e.clock clock_mid e.ids ids_mid es → IsSessionBefore catalog e es
over_before catalog e mid clock_mid ids_mid es places counted so = record {
  held = mid.views;
  clock_mid = clock_mid;
  ids_mid = ids_mid;
  session = record {
    moments = so.moments;
    drawn = so.drawn;
    spare = so.spare;
    draws = so.draws;
    begun = so.begun;
    accepted = so.accepted;
    faults = so.faults;
    serial = λ f w n. subst (λ (d : Database). IsSerialSession catalog (database_in e.old) d w.tables es) (ap (λ ps. database_of ps (contents_of_views mid.views)) places) (so.serial f w n);
  };
  counted = counted;
}

-- what a session so far comes to, where the call goes on to other stores
pub session_before : {S : Type 0} (state : S → Attached) (catalog : List Table) (first mid q : Point S) (es : List Exchange) → IsSoFar state catalog first mid es → GoOn (state first.stores) (state mid.stores) → GoOn (state mid.stores) (state q.stores) → IsSessionBefore catalog (ends_between state first q) es
session_before state catalog first mid q es so before goes = over_before catalog (ends_between state first q) (state mid.stores) mid.clock mid.ids es before.places goes.counted
    (session_whole catalog (state first.stores) (state mid.stores) first.clock mid.clock first.ids mid.ids es mid.session so)

---- statements that are answered

pub answered_more : (good : Statement → Answer → Bool) (sts : List Statement) (es : List Exchange) (st : Statement) (e : Exchange) → AreAnswered good sts es → IsOf st e → good st e.answer ≡ true → AreAnswered good (sts ++ st ∷ []) (es ++ e ∷ [])
answered_more good [] [] st e h is g = (is, g, tt)
answered_more good (s ∷ sts) (x ∷ es) st e h is g = (h.0, h.1, answered_more good sts es st e h.2 is g)
answered_more good [] (x ∷ es) st e h is g = absurd h
answered_more good (s ∷ sts) [] st e h is g = absurd h

---- outcomes

pub map_ok : {T E : Type 0} (P Q : T → Type 0) (r : Result T E) → ((x : T) → P x → Q x) → IfOk r P → IfOk r Q
map_ok P Q (Ok x) f h = f x h
map_ok P Q (Err e) f h = tt

pub passed : {T E : Type 0} (P : E → Type 0) (r : Result T E) (e : E) → IsErrAnd r (λ y. y ≡ e) → P e → IfErr r P
passed P (Ok x) e h p = absurd h
passed P (Err y) e h p = subst P (sym h) p

pub all_errs : {T E : Type 0} (P : Type 0) (r : Result T E) → P → IfErr r (λ _. P)
all_errs P (Ok x) p = tt
all_errs P (Err e) p = p
