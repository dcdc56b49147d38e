-- The first worked run has a trace from an empty store.
use Rattle.std.proofs.Common.{◌≡◌, Bool, true, false, [], Some, None, inl, refl, ap, ◌∙◌, option_map}
use Rattle.std.specs.Prelude.{codes, pos, ◌&&◌, if◌then◌else◌}
use Rattle.std.specs.FinMap.{empty, get-empty}
use Rattle.law_protocol.specs.Types.{Condition, Key, Record, Reply, Request, Write}
use Rattle.sdb_types.specs.declared.record.State.TheVariants as state
use Rattle.sdb_types.specs.declared.record.Condition.TheVariants as condition
use Rattle.sdb_types.specs.declared.record.Request.TheVariants as ask
use Rattle.sdb_types.specs.declared.record.Reply.TheVariants as reply
use Rattle.sdb_types.specs.Order.{key_cmp, same_key}
use Rattle.sdb_types.specs.Contents.{Contents, IsWellFormed, record_at, record_of, holds, reply_to, after}
use Rattle.sdb_record.specs.declared.coordinator.Decision.TheVariants.{Committed}
use Rattle.sdb_record.specs.Coordinator.{coordinator_key_of}
use Rattle.sdb_record.proofs.Public.{forward-key, prepared-key, prepared-version, row-key}
use Rattle.sdb_model.specs.declared.event.How.TheVariants.{Seen}
use Rattle.sdb_model.specs.Events.{IsCall}
use Rattle.law_protocol.specs.Lawful.{id}
use Rattle.law_protocol.specs.Trace.{IsTraced, StartsEmpty, history}
use Rattle.law_protocol.proofs.Times.{told_recorded}
use Rattle.law_protocol.specs.Explained.{IsRunOf}
use Rattle.law_protocol.specs.Worked.{account, one, inserts, prepared, forward, put_row, row, plan_with, first_run, store_with, when_prepared, when_decided, first_moments}
use Rattle.law_protocol.proofs.Effects.{after_put}
use Rattle.law_protocol.proofs.Examples.{first_lawful}

nothing_there : (k : Key) → record_at empty k ≡ None
nothing_there k = ap (option_map (λ columns. record_of (k, columns))) (get-empty key_cmp k)

-- a call on the one store, seen
seen : (q : Request) (r : Reply) (m : Contents) → IsWellFormed q → reply_to q m ≡ r → IsCall [] (codes "ordered") q Seen r (store_with m) (store_with (after q m))
seen q r m formed e = record { formed = formed; held = m; left = after q m; placed = refl; found = refl; performed = inl (ap (λ x. (x, after q m)) e); others = refl }

applied : (rec : Record) (c : Condition) (m : Contents) → holds c (record_at m rec.key) ≡ true → reply_to (ask.PutIf rec c) m ≡ reply.Applied
applied rec c m h = ap (λ b. if b then reply.Applied else reply.NotMet (record_at m rec.key)) h

-- another key
passed : (rec : Record) (c : Condition) (m : Contents) (k : Key) → same_key k rec.key ≡ false → record_at (after (ask.PutIf rec c) m) k ≡ record_at m k
passed rec c m k apart = after_put rec c m k ∙ ap (λ b. if holds c (record_at m rec.key) && b then Some rec else record_at m k) apart ∙ by (holds c (record_at m rec.key))
  where
    by : (b : Bool) → (if b && false then Some rec else record_at m k) ≡ record_at m k
    by true = refl
    by false = refl

put_there : (rec : Record) (c : Condition) (m : Contents) (k : Key) → holds c (record_at m rec.key) ≡ true → same_key k rec.key ≡ true → record_at (after (ask.PutIf rec c) m) k ≡ Some rec
put_there rec c m k h e = after_put rec c m k ∙ ap (λ b. if b && same_key k rec.key then Some rec else record_at m k) h ∙ ap (λ b. if b then Some rec else record_at m k) e

---- the three puts

prepare_holds : holds condition.Absent (record_at empty (prepared inserts one).key) ≡ true
prepare_holds = ap (holds condition.Absent) (nothing_there (prepared inserts one).key)

row_away : same_key (coordinator_key_of (id one)) account ≡ false
unfolding same_key coordinator_key_of
row_away = refl

account_away : same_key account (coordinator_key_of (id one)) ≡ false
unfolding same_key coordinator_key_of
account_away = refl

account_same : same_key account account ≡ true
unfolding same_key
account_same = refl

row_free : record_at when_prepared (row one).key ≡ None
row_free = passed (prepared inserts one) condition.Absent empty (row one).key (ap (λ k. same_key k (prepared inserts one).key) (row-key (id one) Committed (pos 0)) ∙ ap (same_key (coordinator_key_of (id one))) (prepared-key inserts (id one) (pos 0)) ∙ row_away) ∙ nothing_there (row one).key

agrees : record_at when_decided account ≡ Some (prepared inserts one)
agrees = passed (row one) condition.Absent when_prepared account (ap (same_key account) (row-key (id one) Committed (pos 0)) ∙ account_away)
    ∙ put_there (prepared inserts one) condition.Absent empty account prepare_holds (ap (same_key account) (prepared-key inserts (id one) (pos 0)) ∙ account_same)

roll_holds : holds (condition.Version (id one) state.Prepared) (record_at when_decided (forward inserts one).key) ≡ true
roll_holds = ap (λ k. holds (condition.Version (id one) state.Prepared) (record_at when_decided k)) (forward-key (prepared inserts one) (pos 0) ∙ prepared-key inserts (id one) (pos 0)) ∙ ap (holds (condition.Version (id one) state.Prepared)) agrees ∙ prepared-version inserts (id one) (pos 0)

traced : IsTraced [] (store_with empty) first_run first_moments
traced = (
  (
    (
      ((((tt, refl), refl), seen (ask.Get account) (reply.Found None) empty tt (ap (λ x. reply.Found x) (nothing_there account))), refl),
      seen (ask.PutIf (prepared inserts one) condition.Absent) reply.Applied empty tt (applied (prepared inserts one) condition.Absent empty prepare_holds),
    ),
    seen (put_row one) reply.Applied when_prepared tt (applied (row one) condition.Absent when_prepared (ap (holds condition.Absent) row_free)),
  ),
  seen (ask.PutIf (forward inserts one) (condition.Version (id one) state.Prepared)) reply.Applied when_decided tt (applied (forward inserts one) (condition.Version (id one) state.Prepared) when_decided roll_holds),
)

starts_empty : StartsEmpty [] (store_with empty)
starts_empty k = nothing_there k

pub first_is_run : (w : Write) → IsRunOf (plan_with w) [] (store_with empty) first_run first_moments
first_is_run w = record { empty = starts_empty; lawful = first_lawful w; traced = traced }

pub first_is_recorded : (w : Write) → (history (plan_with w) [] (store_with empty) first_run first_moments).row one ≡ Some Committed
first_is_recorded w = told_recorded (plan_with w) [] (store_with empty) first_run first_moments one (first_is_run w) (inl (refl, refl))
