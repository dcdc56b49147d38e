-- A call that stops, as a call of a store.
use Rattle.std.proofs.Common.{◌≡◌, Ok, ℕ, Bool, refl, sym, subst, ◌∙◌, ap}
use Rattle.sqlite.specs.Store.{Ghosts}
use Rattle.sqlite.specs.Held.{Held as Connected}
use Rattle.sdb_sqlite.specs.Types.{Reply, Request}
use Rattle.sdb_types.specs.Draws.{counted as next_number}
use Rattle.sdb_types.specs.Contents.{CanAnswer}
use Rattle.sdb_store.specs.Store.{IsStoreCall, faults_after}
use Rattle.sdb_sqlite.specs.declared.calls.Written.{Written}
use Rattle.sdb_sqlite.specs.declared.calls.Written.TheVariants.{Applied, NotMet}
use Rattle.sdb_sqlite.specs.declared.batch.BatchWritten.{BatchWritten}
use Rattle.sdb_sqlite.specs.declared.batch.BatchWritten.TheVariants.{AllWritten, FirstUnmet}
use Rattle.sdb_sqlite.specs.Asked.{batch_reply, write_reply}
use Rattle.sdb_sqlite.specs.declared.refused.Stopped.{Stopped}
use Rattle.sdb_sqlite.specs.Stopping.{stop_reply}
use Rattle.sdb_sqlite.specs.Database.{PerformsIn, store_state_of}
use Rattle.sdb_sqlite.proofs.Lawful.{stopped_lawful}

-- a call that is answered, as a call of a store
pub answered_call : {S : Type 0} (g : Ghosts S) (is_known : Bool) (q : Request) (old new : Connected S) (r due : Reply) (faults now calls later : ℕ) → r ≡ due → CanAnswer q due → now ≡ faults_after due faults → later ≡ next_number calls → PerformsIn g is_known q due old new
    → IsStoreCall q r (store_state_of g is_known old faults calls) (store_state_of g is_known new now later)
answered_call g is_known q old new r due faults now calls later is lawful cause counted performs =
    subst (λ (x : Reply). IsStoreCall q x (store_state_of g is_known old faults calls) (store_state_of g is_known new now later)) (sym is)
    (record {
      where_known = λ h. (h.0, (performs h).kept);
      performed = λ h. (performs h).performed;
      lawful = lawful;
      counted = counted;
      cause = cause;
    })

-- no write that has an answer is a fault
pub written_cause : (w : Written) (n : ℕ) → n ≡ faults_after (write_reply (Ok w)) n
written_cause Applied n = refl
written_cause (NotMet found) n = refl

pub batch_cause : (w : BatchWritten) (n : ℕ) → n ≡ faults_after (batch_reply (Ok w)) n
batch_cause AllWritten n = refl
batch_cause (FirstUnmet k found) n = refl

-- a call that stops is answered as such, and its fault is counted
pub stopped_call : {S : Type 0} (g : Ghosts S) (is_known : Bool) (q : Request) (old new : Connected S) (s : Stopped) (r : Reply) (before now calls later : ℕ) → r ≡ stop_reply s → now ≡ faults_after r before → later ≡ next_number calls
    → PerformsIn g is_known q (stop_reply s) old new → IsStoreCall q r (store_state_of g is_known old before calls) (store_state_of g is_known new now later)
stopped_call g is_known q old new s r before now calls later is count counted performs =
    answered_call g is_known q old new r (stop_reply s) before now calls later is (stopped_lawful q s) (count ∙ ap (λ (x : Reply). faults_after x before) is) counted performs
