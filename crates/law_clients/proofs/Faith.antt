-- Where each client's story is filed among what was said, the parts say what the texts say.
use Rattle.std.proofs.Common.{◌≡◌, ◌≤◌, ◌<◌, ◌+◌, ◌*◌, ◌/◌, ◌%◌, ◌^◌, ℕ, zero, suc, Bool, true, false, List, [], ◌∷◌, ◌++◌, length, Option, Some, None, refl, sym, ap, subst, ◌∙◌, arith, ◌⊎◌, inl, inr}
use Rattle.std.specs.Prelude.{if◌then◌else◌, ◌&&◌, ◌||◌, Contains}
use Rattle.std.specs.List.{AllByRecursion}
use Rattle.std.proofs.lemmas.List.Elements.{All-contains, All-from_recursion}
use Rattle.std.specs.Option.{option_map, option_map_or, option_and_then}
use Rattle.std.proofs.lemmas.Bool.Decides.{nat_tests}
use Rattle.law_clients.specs.Types.{Answer, Event, TxId}
use Rattle.sdb_model.specs.declared.answer.Answer.TheVariants as answer
use Rattle.sdb_model.specs.Sql.{reads_begin, reads_commit, reads_rollback}
use Rattle.sdb_model.specs.Transactions.{Executed, statements_by, begun, commit_of, client_of, begins, ends, is_conflict, is_done}
use Rattle.law_protocol.specs.Lawful.{Labelled, id, is_denial, protocol_state}
use Rattle.law_protocol.specs.Faithful.{IsFaithful, IsAnsweredCommittedAt, IsCommitOf}
use Rattle.law_protocol.specs.Explained.{IsDenied}
use Rattle.law_clients.specs.Filed.{number, IsFiledAt, IsOpenAt, Filed}
use Rattle.law_clients.specs.Story.{Finished, Rest, Closed, Opened, saids_of, statements_in, IsPlain, IsInside, IsEndedTxn, IsRest, txn_ended_at, commit_in}
use Rattle.law_clients.proofs.Places.{finished_is, finished_ok, open_is, none_is}
use Rattle.sdb_types.proofs.Public.{all_each as each_any, append_all as each_append, none_some, some_is}

---- one transaction

pub beyond : (fs : List Finished) (k : ℕ) → txn_ended_at fs k ≡ None → length fs ≤ k
beyond [] k e = omega arith
beyond (f ∷ fs) zero e = absurd (cc)
beyond (f ∷ fs) (suc k) e = more (length fs) k (beyond fs k e)
  where
    more : (m k : ℕ) → m ≤ k → suc m ≤ suc k
    more m k l = omega arith

-- what is wanted of one transaction
pub record Says (events : List Event) (past : List Labelled) (t : ℕ) : Type 0 where
  pub begun : (n : ℕ) → begun events (id t) ≡ Some n → (protocol_state past).begun t ≡ n
  pub accepted : (protocol_state past).accepted t ≡ true → option_map_or (λ s. s.accepted) (commit_of events (id t)) 0 ≡ (protocol_state past).accepted_at t
  pub answered : (s : Executed) → commit_of events (id t) ≡ Some s → s.answer ≡ Some answer.Committed → IsAnsweredCommittedAt past t s.reached
  pub denied : (s : Executed) (a : Answer) → commit_of events (id t) ≡ Some s → s.answer ≡ Some a → is_denial a ≡ true → (protocol_state past).accepted t ≡ true → IsDenied past t
  pub unknown : (s : Executed) (u : TxId) → commit_of events (id t) ≡ Some s → s.answer ≡ Some (answer.Unknown u) → u ≡ id t

commit_is : (s x : Executed) → commit_in s ≡ Some x → s ≡ x
commit_is s x e = by (reads_commit s.text) e
  where
    by : (b : Bool) → (if b then Some s else None) ≡ Some x → s ≡ x
    by true e = some_is s x e
    by false e = none_some x e

finished_says : (events : List Event) (past : List Labelled) (t : ℕ) (f : Finished) → begun events (id t) ≡ Some f.begin.accepted → commit_of events (id t) ≡ commit_in f.last → IsFiledAt past t f → Says events past t
finished_says events past t f began commit filed = record {
  begun = λ n e. filed.begun ∙ some_is f.begin.accepted n (sym began ∙ e);
  accepted = λ h. let x = filed.accepted h in ap (λ o. option_map_or (λ (s : Executed). s.accepted) o 0) (commit ∙ ap (λ b. if b then Some f.last else None) x.0) ∙ x.1;
  answered = λ s e a. let same = commit_is f.last s (sym commit ∙ e) in subst (λ (x : Executed). IsAnsweredCommittedAt past t x.reached) same (filed.answered (ap (λ (x : Executed). x.answer) same ∙ a));
  denied = λ s a e statements_by denial accepted. filed.denied a (ap (λ (x : Executed). x.answer) (commit_is f.last s (sym commit ∙ e)) ∙ statements_by) denial accepted;
  unknown = λ s u e a. filed.unknown u (ap (λ (x : Executed). x.answer) (commit_is f.last s (sym commit ∙ e)) ∙ a);
}

-- one that began, or did not, and has no COMMIT
silent_says : (events : List Event) (past : List Labelled) (t : ℕ) → ((n : ℕ) → begun events (id t) ≡ Some n → (protocol_state past).begun t ≡ n) → commit_of events (id t) ≡ None → ((protocol_state past).accepted t ≡ true → ⊥) → Says events past t
silent_says events past t began commit untaken = record {
  begun = began;
  accepted = λ h. absurd (untaken h);
  answered = λ s e a. none_some s (sym commit ∙ e);
  denied = λ s a e statements_by denial accepted. none_some s (sym commit ∙ e);
  unknown = λ s u e a. none_some s (sym commit ∙ e);
}

says_at : (events : List Event) (past : List Labelled) (t k : ℕ) (x : Filed (t / 2 ^ 64) events past) → t % 2 ^ 64 ≡ suc k → number (t / 2 ^ 64) k ≡ t → Says events past t
says_at events past t k x ordinal same = by (txn_ended_at x.whole k) refl
  where
    small : (t k : ℕ) → t % 2 ^ 64 ≡ suc k → suc k < 2 ^ 64
    small t k e = omega (arith, e)

    clash : true ≡ false → ⊥
    clash e = cc

    open_at : (gap : List Executed) (b : Executed) (body : List Executed) → x.rest ≡ Opened gap b body → txn_ended_at x.whole k ≡ None → (k ≡ length x.whole) ⊎ (length x.whole < k) → Says events past t
    open_at gap b body rest none (inl e) =
        let o = open_is events (id t) x.whole gap b body (x.same ∙ ap (λ r. saids_of x.whole ++ statements_in r) rest) (ordinal ∙ ap suc e) x.ok (subst IsRest rest x.rest_ok) in
        let here = subst (λ n. IsOpenAt past n b) (ap (number (t / 2 ^ 64)) (sym e) ∙ same) (x.is_open gap b body rest) in
        silent_says events past t (λ n h. here.begun ∙ some_is b.accepted n (sym o.0 ∙ h)) o.1 (λ h. clash (sym h ∙ here.untaken))
    open_at gap b body rest none (inr l) =
        let o = Rattle.law_clients.proofs.Places.past_is events (id t) x.whole gap b body k (x.same ∙ ap (λ r. saids_of x.whole ++ statements_in r) rest) ordinal l x.ok (subst IsRest rest x.rest_ok) in
        silent_says events past t (λ n h. none_some n (sym o.0 ∙ h)) o.1 (λ h. x.none k (small t k ordinal) none (subst (λ m. (protocol_state past).accepted m ≡ true) (sym same) h))

    rest_at : (r : Rest) → x.rest ≡ r → txn_ended_at x.whole k ≡ None → Says events past t
    rest_at (Closed gap) rest none =
        let o = none_is events (id t) x.whole gap k (x.same ∙ ap (λ r. saids_of x.whole ++ statements_in r) rest) ordinal (beyond x.whole k none) x.ok (subst IsRest rest x.rest_ok) in
        silent_says events past t (λ n h. none_some n (sym o.0 ∙ h)) o.1 (λ h. x.none k (small t k ordinal) none (subst (λ m. (protocol_state past).accepted m ≡ true) (sym same) h))
    rest_at (Opened gap b body) rest none = open_at gap b body rest none (side k (length x.whole) (beyond x.whole k none))
      where
        side : (k n : ℕ) → n ≤ k → (k ≡ n) ⊎ (n < k)
        side k n l = grind (arith, nat_tests)

    by : (o : Option Finished) → txn_ended_at x.whole k ≡ o → Says events past t
    by (Some f) at =
        let o = finished_is events (id t) x.whole (statements_in x.rest) k f x.same ordinal x.ok at in
        finished_says events past t f o.0 o.1 (subst (λ n. IsFiledAt past n f) same (x.filed k f at))
    by None at = rest_at x.rest refl at

-- an ordinal of none
no_ordinal : (events : List Event) (past : List Labelled) (t : ℕ) → t % 2 ^ 64 ≡ 0 → ((protocol_state past).accepted t ≡ true → ⊥) → Says events past t
no_ordinal events past t ordinal untaken = silent_says events past t
    (λ n h. none_some n (sym (ap (λ m. option_map (λ (s : Executed). s.accepted) (Rattle.sdb_model.specs.Transactions.first_of (Rattle.sdb_model.specs.Transactions.from_begin m (statements_by (t / 2 ^ 64) events)))) ordinal) ∙ h))
    (ap (λ m. option_and_then commit_in (Rattle.std.specs.Prelude.find Rattle.sdb_model.specs.Transactions.ends (Rattle.sdb_model.specs.Transactions.rest_of (Rattle.sdb_model.specs.Transactions.from_begin m (statements_by (t / 2 ^ 64) events))))) ordinal)
    untaken

pub says : (events : List Event) (past : List Labelled) (t : ℕ) → ((c : ℕ) → Filed c events past) → ((c : ℕ) → (protocol_state past).accepted (c * 2 ^ 64) ≡ true → ⊥) → Says events past t
says events past t filed first = by (t % 2 ^ 64) refl
  where
    whole : (t o : ℕ) → t % 2 ^ 64 ≡ o → t / 2 ^ 64 * 2 ^ 64 + o ≡ t
    whole t o e = omega (arith, e)

    by : (o : ℕ) → t % 2 ^ 64 ≡ o → Says events past t
    by zero e = no_ordinal events past t e (λ h. first (t / 2 ^ 64) (subst (λ m. (protocol_state past).accepted m ≡ true) (sym (zero_is t (whole t 0 e))) h))
      where
        zero_is : (t : ℕ) → t / 2 ^ 64 * 2 ^ 64 + 0 ≡ t → t / 2 ^ 64 * 2 ^ 64 ≡ t
        zero_is t e = omega (arith, e)
    by (suc k) e = says_at events past t k (filed (t / 2 ^ 64)) e (whole t (suc k) e)

---- who is answered Committed

-- a statement that is answered Committed is the COMMIT of a transaction
abbrev IsOwned : List Event → ℕ → Executed → Type 0
IsOwned events c s = s.answer ≡ Some answer.Committed → IsCommitOf events c s

-- what ends a transaction and is answered Committed reads as COMMIT
commit_reads : (s : Executed) → ends s ≡ true → s.answer ≡ Some answer.Committed → reads_commit s.text ≡ true
commit_reads s e a = by (reads_commit s.text) (reads_rollback s.text) (sym (ap (λ x. reads_commit s.text || is_conflict x || (reads_rollback s.text && is_done x)) a) ∙ e)
  where
    by : (a b : Bool) → (a || false || (b && false)) ≡ true → a ≡ true
    by true b h = refl
    by false true h = absurd (cc (h))
    by false false h = absurd (cc (h))

-- a BEGIN that begins a transaction is answered Done
begin_done : (s : Executed) → begins s ≡ true → s.answer ≡ Some answer.Committed → ⊥
begin_done s e a = by (reads_begin s.text) (sym (ap (λ x. reads_begin s.text && is_done x) a) ∙ e)
  where
    by : (b : Bool) → (b && false) ≡ true → ⊥
    by true h = cc (h)
    by false h = cc (h)

plain_owned : (events : List Event) (c : ℕ) (ss : List Executed) → AllByRecursion IsPlain ss → AllByRecursion (IsOwned events c) ss
plain_owned events c ss all = each_any IsPlain (IsOwned events c) ss (λ s p a. absurd (p.1 a)) all

inside_owned : (events : List Event) (c : ℕ) (ss : List Executed) → AllByRecursion IsInside ss → AllByRecursion (IsOwned events c) ss
inside_owned events c ss all = each_any IsInside (IsOwned events c) ss (λ s p a. absurd (p.2 a)) all

whole_owned : (events : List Event) (c : ℕ) (fs : List Finished) → AllByRecursion IsEndedTxn fs → ((k : ℕ) (f : Finished) → txn_ended_at fs k ≡ Some f → IsOwned events c f.last) → AllByRecursion (IsOwned events c) (saids_of fs)
whole_owned events c [] ok last = tt
whole_owned events c (f ∷ fs) ok last =
    each_append (IsOwned events c) f.gap (f.begin ∷ (f.body ++ f.last ∷ saids_of fs)) (plain_owned events c f.gap ok.0.gap)
    (λ a. absurd (begin_done f.begin ok.0.begin a), each_append (IsOwned events c) f.body (f.last ∷ saids_of fs) (inside_owned events c f.body ok.0.body) (last 0 f refl, whole_owned events c fs ok.1 (λ k g e. last (suc k) g e)))

rest_owned : (events : List Event) (c : ℕ) (r : Rest) → IsRest r → AllByRecursion (IsOwned events c) (statements_in r)
rest_owned events c (Closed gap) ok = plain_owned events c gap ok
rest_owned events c (Opened gap b body) ok = each_append (IsOwned events c) gap (b ∷ body) (plain_owned events c gap ok.0) (λ a. absurd (begin_done b ok.1 a), inside_owned events c body ok.2)

last_owned : (events : List Event) (past : List Labelled) (c : ℕ) (x : Filed c events past) (k : ℕ) (f : Finished) → txn_ended_at x.whole k ≡ Some f → IsOwned events c f.last
last_owned events past c x k f e a =
    let small = x.fits k f e in
    let client : client_of (id (number c k)) ≡ c = half c (suc k) small.1 in
    let is = finished_is events (id (number c k)) x.whole (statements_in x.rest) k f (ap (λ d. statements_by d events) client ∙ x.same) (rest_is c (suc k) small.1) x.ok e in
    record { t = number c k; fits = fits c (suc k) small.0 small.1; owner = client; commit = is.1 ∙ ap (λ b. if b then Some f.last else None) (commit_reads f.last (finished_ok x.whole k f x.ok e).last a) }
  where
    half : (c n : ℕ) → n < 2 ^ 64 → (c * 2 ^ 64 + n) / 2 ^ 64 ≡ c
    half c n l = omega arith

    rest_is : (c n : ℕ) → n < 2 ^ 64 → (c * 2 ^ 64 + n) % 2 ^ 64 ≡ n
    rest_is c n l = omega arith

    fits : (c n : ℕ) → c < 2 ^ 64 → n < 2 ^ 64 → c * 2 ^ 64 + n < 2 ^ 128
    fits c n l m = omega arith

all_owned : (events : List Event) (past : List Labelled) (c : ℕ) (s : Executed) → Filed c events past → Contains (statements_by c events) s → s.answer ≡ Some answer.Committed → IsCommitOf events c s
all_owned events past c s x within = All-contains (IsOwned events c) (statements_by c events) s (All-from_recursion (IsOwned events c) (statements_by c events) (subst (AllByRecursion (IsOwned events c)) (sym x.same) (each_append (IsOwned events c) (saids_of x.whole) (statements_in x.rest) (whole_owned events c x.whole x.ok (last_owned events past c x)) (rest_owned events c x.rest x.rest_ok)))) within

-- Where each client's story is filed, the parts that are played are those that the texts tell.
pub faithful : (events : List Event) (past : List Labelled) → ((c : ℕ) → Filed c events past) → ((c : ℕ) → (protocol_state past).accepted (c * 2 ^ 64) ≡ true → ⊥) → IsFaithful events past
faithful events past filed first = record {
  begun = λ t n fits e. (says events past t filed first).begun n e;
  accepted = λ t h. (says events past t filed first).accepted h;
  answered = λ t s fits e a. (says events past t filed first).answered s e a;
  denied = λ t s a fits e statements_by denial accepted. (says events past t filed first).denied s a e statements_by denial accepted;
  owned = λ c s within a. all_owned events past c s (filed c) within a;
  unknown = λ t s u e a. (says events past t filed first).unknown s u e a;
}
