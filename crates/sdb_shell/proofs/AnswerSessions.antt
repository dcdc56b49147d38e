-- The statements of a session, one after the other.
use Rattle.std.proofs.Common.{◌≡◌, ℕ, ℤ, Bool, true, false, List, Option, Some, None, Result, Ok, Err, refl, sym, ap, subst, ◌∙◌, ◌⊎◌, inl, inr}
use Rattle.std.specs.Prelude.{is_some, not, ◌&&◌}
use Rattle.sdb_shell.specs.Types.{Answer, Refusal, Statement, Table, TxId}
use Rattle.sdb_types.specs.Draws.{IsAppended}
use Rattle.sdb_model.specs.declared.answer.Answer.TheVariants as answer
use Rattle.sdb_model.specs.declared.statement.Statement.TheVariants as statement
use Rattle.sdb_model.specs.Causes.{refused}
use Rattle.sdb_model.specs.Transactions.{is_done}
use Rattle.sdb_client.specs.Client.{ClientAt}
use Rattle.sdb_record.specs.Meta.{is_moment}
use Rattle.sdb_stores.specs.Views.{Attached}
use Rattle.sdb_shell.specs.Answering.{IsAnswered, exchange}
use Rattle.sdb_shell.specs.Sessions.{HasAnswered, IsNextId, SessionAt}
use Rattle.law_clients.specs.Session.{Exchange, IsAccepted, begins, is_begin, rejected}
use Rattle.law_clients.specs.Working.{IsEnded}

-- a BEGIN inside of a transaction begins none
inside_begins : (catalog : List Table) (e : Exchange) → IsAccepted catalog true e → begins e ≡ false
inside_begins catalog e accepted = by e.says refl
  where
    undone : (a : Answer) → (a ≡ refused 4) ⊎ (a ≡ answer.NoMemory) → is_done (Some a) ≡ false
    undone a (inl f) = ap (λ z. is_done (Some z)) f
    undone a (inr f) = ap (λ z. is_done (Some z)) f

    other : (x : Result Statement Refusal) → e.says ≡ x → is_begin x ≡ false → begins e ≡ false
    other x f n = ap (λ y. is_begin y && is_done (Some e.answer)) f ∙ ap (λ b. b && is_done (Some e.answer)) n

    by : (x : Result Statement Refusal) → e.says ≡ x → begins e ≡ false
    by (Err r) f = other (Err r) f refl
    by (Ok statement.Begin) f = ap (λ y. is_begin y && is_done (Some e.answer)) f ∙ undone e.answer (accepted.away (refused 4) (ap (rejected catalog true) f))
    by (Ok statement.Commit) f = other (Ok statement.Commit) f refl
    by (Ok statement.Rollback) f = other (Ok statement.Rollback) f refl
    by (Ok statement.Vacuum) f = other (Ok statement.Vacuum) f refl
    by (Ok (statement.Insert s)) f = other (Ok (statement.Insert s)) f refl
    by (Ok (statement.Upsert s)) f = other (Ok (statement.Upsert s)) f refl
    by (Ok (statement.Update s)) f = other (Ok (statement.Update s)) f refl
    by (Ok (statement.Delete s)) f = other (Ok (statement.Delete s)) f refl
    by (Ok (statement.Select s)) f = other (Ok (statement.Select s)) f refl

-- one was open before and isn't, or the other way round
pub began_is : (catalog : List Table) (opened : Bool) (e : Exchange) (d : ClientAt) → IsEnded catalog opened e d → (not opened && is_some d.txn) ≡ begins e
began_is catalog true e d h = sym (inside_begins catalog e h.accepted)
began_is catalog false e d h = h.has_txn

pub has_answered : (catalog : List Table) (text : List ℕ) (old new : Attached) (clock clock_then : Option (List ℤ)) (ids ids_then : Option (List ℕ)) (u s : SessionAt) → u ≡ s → (now : ℤ) → is_moment now ≡ true → IsAppended now clock clock_then → (a : Answer) (d : ClientAt) → IsAnswered catalog text u.fresh now old u.client a new d
    → (fresh : TxId) (began : Bool) → began ≡ (not (is_some u.client.txn) && is_some d.txn) → IsNextId began u.fresh fresh ids ids_then → HasAnswered catalog text old new clock clock_then ids ids_then s a (record { client = d; fresh = fresh })
has_answered catalog text old new clock clock_then ids ids_then u s same now time moment a d x fresh began is next_state =
    subst (λ (y : SessionAt). HasAnswered catalog text old new clock clock_then ids ids_then y a (record { client = d; fresh = fresh })) same (record {
      now = now;
      time = time;
      moment = moment;
      answered = x;
      next_state = subst (λ b. IsNextId b u.fresh fresh ids ids_then) (is ∙ began_is catalog (is_some u.client.txn) (exchange x.says now u.fresh a) d x.ended) next_state;
    })
