-- Why a statement was answered so stays, whatever event comes.
use Rattle.std.proofs.Common.{◌≡◌, ◌≤◌, ◌⊎◌, inl, inr, ℕ, Bool, true, false, List, [], ◌∷◌, ◌++◌, length, Option, Some, None, refl, sym, ap, subst, ◌∙◌, arith}
use Rattle.std.specs.Prelude.{if◌then◌else◌, find, nat_lt, All, Contains}
use Rattle.std.specs.List.{AllByRecursion, count_by}
use Rattle.std.specs.Option.{option_and_then}
use Rattle.law_answers.specs.Types.{Answer, Event, Key, Record, Statement, Table, TxId}
use Rattle.sdb_types.specs.declared.record.Reply.TheVariants as reply
use Rattle.sdb_types.specs.declared.record.Request.TheVariants as ask
use Rattle.sdb_record.specs.declared.coordinator.Decision.TheVariants as decision
use Rattle.sdb_record.specs.Coordinator.{coordinator_key_of, is_expired}
use Rattle.sdb_model.specs.Catalogs.{catalog_after}
use Rattle.sdb_model.specs.Exec.{find_table}
use Rattle.sdb_model.specs.declared.answer.Answer.TheVariants as answer
use Rattle.sdb_model.specs.declared.statement.Statement.TheVariants as statement
use Rattle.sdb_model.specs.Calls.{StoreCall, calls_after, calls_before, calls_of, decision_learned, is_of_row, is_read, records_read, records_observed}
use Rattle.sdb_model.specs.Causes.{HasReply, IsBad, IsBusy, IsCaused, IsCommitOf, IsCounted, IsDecided, IsRejected, MayPassMost, PutsRow, removes}
use Rattle.sdb_model.specs.Follows.{is_open}
use Rattle.sdb_model.specs.Sql.{reads_commit}
use Rattle.sdb_model.specs.Transactions.{Executed, client_of, ends, from_begin, is_conflict, ordinal_of, rest_of, statements_by}
use Rattle.sdb_types.proofs.Public.{clash, none_some, some_is}
use Rattle.law_answers.specs.Invariant.{IsAnswered, IsWaiting}
use Rattle.law_answers.proofs.Lists.{ending_front, ending_stays, kept_in}
use Rattle.law_answers.proofs.Misfits.{meets_stays}
use Rattle.law_answers.proofs.Passing.{Grows, pass_stays}
use Rattle.law_answers.proofs.Calls.{before_same, calls_stay, clock_same, of_within, within_more}
use Rattle.sdb_types.specs.Replies.{is_fault}

---- the COMMIT of a transaction

abbrev ending_in : ℕ → List Executed → Option Executed
ending_in n ss = find ends (rest_of (from_begin n ss))

-- what ended a transaction still does
ends_still : (n : ℕ) (ss ts : List Executed) (s : Executed) (a : Answer) → Grows ss ts → s.answer ≡ Some a → ending_in n ss ≡ Some s → ending_in n ts ≡ Some s
ends_still n ss ts s a (inl e) is h = ap (ending_in n) e ∙ h
ends_still n ss ts s a (inr (inl (x, e))) is h = ap (ending_in n) e ∙ ending_stays n ss x s h
ends_still n ss ts s a (inr (inr (front, w, x, e, none, f))) is h = ap (ending_in n) f ∙ ending_stays n front x s (by (ending_front n front w s (sym (ap (ending_in n) e) ∙ h)))
  where
    by : (ending_in n front ≡ Some s) ⊎ (w ≡ s) → ending_in n front ≡ Some s
    by (inl k) = k
    by (inr k) = absurd (none_some a (sym none ∙ ap (λ (y : Executed). y.answer) k ∙ is))

commit_in_stays : (o p : Option Executed) (s : Executed) → ((x : Executed) → o ≡ Some x → x ≡ s → p ≡ Some s) → option_and_then (λ x. if reads_commit x.text then Some x else None) o ≡ Some s → option_and_then (λ x. if reads_commit x.text then Some x else None) p ≡ Some s
commit_in_stays None p s f h = none_some s h
commit_in_stays (Some x) p s f h = by (reads_commit x.text) refl h
  where
    by : (b : Bool) → reads_commit x.text ≡ b → (if b then Some x else None) ≡ Some s → option_and_then (λ x. if reads_commit x.text then Some x else None) p ≡ Some s
    by true t k =
        let same : x ≡ s = some_is x s k in
        ap (λ (o : Option Executed). option_and_then (λ (x : Executed). if reads_commit x.text then Some x else None) o) (f x refl same) ∙ ap (λ (b : Bool). if b then Some s else None) (sym (ap (λ (y : Executed). reads_commit y.text) same) ∙ t)
    by false t k = none_some s k

-- A statement that was answered, the COMMIT of a transaction, stays that.
pub commit_stays : (c : ℕ) (events later : List Event) (s : Executed) (a : Answer) (id : TxId) → Grows (statements_by c events) (statements_by c later) → s.answer ≡ Some a → IsCommitOf events c s id → IsCommitOf later c s id
commit_stays c events later s a id grows is h = (
  h.0,
  commit_in_stays (ending_in (ordinal_of id) (statements_by (client_of id) events)) (ending_in (ordinal_of id) (statements_by (client_of id) later)) s
      (λ x e same. ends_still (ordinal_of id) (statements_by (client_of id) events) (statements_by (client_of id) later) s a (subst (λ n. Grows (statements_by n events) (statements_by n later)) (sym h.0) grows) is (e ∙ ap (λ (y : Executed). Some y) same)) h.1,
)

---- causes

-- where a statement was answered within the events so far, by an event more
record IsPast (c : ℕ) (events : List Event) (e : Event) (s : Executed) (a : Answer) : Type 0 where
  is : s.answer ≡ Some a
  accepted : s.accepted ≤ length events
  answered : s.reached ≤ length events
  commit : (id : TxId) → IsCommitOf events c s id → IsCommitOf (events ++ e ∷ []) c s id
  passes : MayPassMost events c s → MayPassMost (events ++ e ∷ []) c s
  grows : Grows (statements_by c events) (statements_by c (events ++ e ∷ []))

counted_stays : (c : ℕ) (events : List Event) (e : Event) (s : Executed) (st : Statement) (n : ℕ) → calls_of (events ++ e ∷ []) c s ≡ calls_of events c s → IsCounted events c s st n → IsCounted (events ++ e ∷ []) c s st n
counted_stays c events e s (statement.Insert i) n same h = h
counted_stays c events e s (statement.Upsert i) n same h = h
counted_stays c events e s (statement.Update i) n same h = h
counted_stays c events e s (statement.Delete i) n same h = h
counted_stays c events e s (statement.Select i) n same h = h
counted_stays c events e s statement.Begin n same h = h
counted_stays c events e s statement.Commit n same h = h
counted_stays c events e s statement.Rollback n same h = h
counted_stays c events e s statement.Vacuum n same h = h ∙ ap (λ (ms : List StoreCall). count_by removes ms) (sym same)

-- a record of that key among these calls is bad
abbrev BadIn : Key → List StoreCall → Type 0
BadIn key calls = (m : StoreCall) × (r : Record) × Contains calls m × Contains (records_observed m.reply) r × (r.key ≡ key) × IsBad r

caused_stays : (catalog : List Table) (c : ℕ) (events : List Event) (e : Event) (s : Executed) (a : Answer) → IsPast c events e s a → is_conflict (Some a) ≡ false → IsCaused catalog events c s a → IsCaused catalog (events ++ e ∷ []) c s a
caused_stays catalog c events e s (answer.Rows rows) k t h = (h.0, h.1, h.2, ap (λ es. is_open es c) (before_same s events e k.accepted) ∙ h.3)
caused_stays catalog c events e s (answer.Count n) k t h = (h.0, h.1, counted_stays c events e s h.0 n (calls_stay c events e s (answer.Count n) k.is k.answered) h.2)
caused_stays catalog c events e s answer.Done k t h = h
caused_stays catalog c events e s answer.Committed k t h = (h.0, k.commit h.0 h.1, subst (λ ms. IsDecided decision.Committed (decision_learned ms h.0)) (sym (calls_stay c events e s answer.Committed k.is k.answered)) h.2)
caused_stays catalog c events e s (answer.Duplicate key) k t h = (h.0, h.1, h.2, ap (λ (es : List Event). find_table (catalog_after catalog es) h.1.table) (before_same s events e k.accepted) ∙ h.3, h.4)
caused_stays catalog c events e s (answer.Busy key id at) k t h = busy (sym (calls_stay c events e s (answer.Busy key id at) k.is k.answered))
  where
    within : h.early.asked.at ≤ length events
    within = omega (arith, of_within c events s h.early.asked (after_in h.read.at (calls_of events c s) h.early.asked h.early.asks.0))
      where
        after_in : (n : ℕ) (ms : List StoreCall) (m : StoreCall) → Contains (calls_after n ms) m → Contains ms m
        after_in n ms m has = kept_in (λ (x : StoreCall). nat_lt n x.at) ms m has

    busy : calls_of events c s ≡ calls_of (events ++ e ∷ []) c s → IsBusy (events ++ e ∷ []) c s key id at
    busy same = record {
      read = h.read;
      found = h.found;
      reads = subst (λ ms. Contains ms h.read × (is_read h.read.request ≡ true) × Contains (records_read h.read.reply) h.found × (h.found.key ≡ key)) same h.reads;
      early = record {
        asked = h.early.asked;
        unresolved = h.early.unresolved;
        asks = subst (λ ms. Contains (calls_after h.read.at ms) h.early.asked × (h.early.asked.request ≡ ask.Get (coordinator_key_of id)) × (h.early.asked.reply ≡ reply.Found None)) same h.early.asks;
        early = ap (is_expired at) (clock_same events e h.early.asked.at within) ∙ h.early.early;
      };
    }
caused_stays catalog c events e s (answer.Conflict key found) k t h = clash t
caused_stays catalog c events e s (answer.Expired id) k t h = record {
  commit = k.commit id h.commit;
  call = h.call;
  among = subst (λ ms. Contains ms h.call) (sym (calls_stay c events e s (answer.Expired id) k.is k.answered)) h.among;
  aborted = h.aborted;
  not_own = subst (λ ms. All (λ m. PutsRow id decision.Aborted m → ⊥) (calls_before h.call.at ms)) (sym (calls_stay c events e s (answer.Expired id) k.is k.answered)) h.not_own;
}
caused_stays catalog c events e s answer.Faulted k t h = subst (HasReply is_fault) (sym (calls_stay c events e s answer.Faulted k.is k.answered)) h
caused_stays catalog c events e s (answer.Unknown id) k t h = record {
  commit = k.commit id h.commit;
  put = h.put;
  later = h.later;
  deciding = subst (λ ms. Contains ms h.put × PutsRow id decision.Committed h.put × (h.put.reply ≡ reply.Fault)) (sym (calls_stay c events e s (answer.Unknown id) k.is k.answered)) h.deciding;
  failed = subst (λ ms. Contains (calls_after h.put.at ms) h.later × (is_of_row id h.later.request ≡ true) × ((h.later.reply ≡ reply.Fault) ⊎ (h.later.reply ≡ reply.NoMemory))) (sym (calls_stay c events e s (answer.Unknown id) k.is k.answered)) h.failed;
}
caused_stays catalog c events e s (answer.BadRecord key) k t h = by h
  where
    by : IsCaused catalog events c s (answer.BadRecord key) → IsCaused catalog (events ++ e ∷ []) c s (answer.BadRecord key)
    by (inl x) = inl (subst (BadIn key) (sym (calls_stay c events e s (answer.BadRecord key) k.is k.answered)) x)
    by (inr x) = inr (meets_stays catalog c events e s (answer.BadRecord key) key k.grows k.is k.accepted x)
caused_stays catalog c events e s (answer.Refused r) k t h = by h
  where
    by : IsCaused catalog events c s (answer.Refused r) → IsCaused catalog (events ++ e ∷ []) c s (answer.Refused r)
    by (inl x) = inl (subst (λ es. IsRejected catalog es c s.text (answer.Refused r)) (sym (before_same s events e k.accepted)) x)
    by (inr x) = inr (x.0, x.1, k.passes x.2)
caused_stays catalog c events e s answer.Vacuuming k t h = subst (λ es. IsRejected catalog es c s.text answer.Vacuuming) (sym (before_same s events e k.accepted)) h
caused_stays catalog c events e s answer.OpenTransactions k t h = subst (λ es. IsRejected catalog es c s.text answer.OpenTransactions) (sym (before_same s events e k.accepted)) h
caused_stays catalog c events e s answer.NoMemory k t h = tt

---- what is so of a client's statements

answered_one : (catalog : List Table) (c : ℕ) (events : List Event) (e : Event) (s : Executed) → Grows (statements_by c events) (statements_by c (events ++ e ∷ [])) → IsAnswered catalog events c s → IsAnswered catalog (events ++ e ∷ []) c s
answered_one catalog c events e s grows k = record {
  given = k.given;
  is = k.is;
  accepted = within_more s.accepted events e k.accepted;
  answered = within_more s.reached events e k.answered;
  caused = λ t. caused_stays catalog c events e s k.given (record { is = k.is; accepted = k.accepted; answered = k.answered; commit = λ id h. commit_stays c events (events ++ e ∷ []) s k.given id grows k.is h; passes = pass_stays c events e s k.given grows k.is; grows = grows }) t (k.caused t);
  rejected = λ a h. k.rejected a (subst (λ es. IsRejected catalog es c s.text a) (before_same s events e k.accepted) h);
}

pub answered_stay : (catalog : List Table) (c : ℕ) (events : List Event) (e : Event) (ss : List Executed) → Grows (statements_by c events) (statements_by c (events ++ e ∷ [])) → AllByRecursion (IsAnswered catalog events c) ss → AllByRecursion (IsAnswered catalog (events ++ e ∷ []) c) ss
answered_stay catalog c events e [] grows all = tt
answered_stay catalog c events e (s ∷ ss) grows all = (answered_one catalog c events e s grows all.0, answered_stay catalog c events e ss grows all.1)

pub waiting_stays : (catalog : List Table) (c : ℕ) (events : List Event) (e : Event) (vacuums : Bool) (w : Executed) → IsWaiting catalog events c vacuums w → IsWaiting catalog (events ++ e ∷ []) c vacuums w
waiting_stays catalog c events e vacuums w k = record {
  unanswered = k.unanswered;
  accepted = within_more w.accepted events e k.accepted;
  begin = k.begin;
  vacuum = k.vacuum;
  opened = ap (λ es. is_open es c) (before_same w events e k.accepted) ∙ k.opened;
  stays = λ a h. k.stays a (subst (λ es. IsRejected catalog es c w.text a) (before_same w events e k.accepted) h);
}
