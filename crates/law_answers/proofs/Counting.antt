-- The counts of calls of all statements, as events come, and what follows of them.
use Rattle.std.proofs.Common.{◌≡◌, ◌≤◌, ◌<◌, ◌^◌, ◌+◌, ◌*◌, ◌%◌, ◌⊎◌, inl, inr, ℕ, ℤ, Bool, true, false, List, [], ◌∷◌, ◌++◌, length, Option, Some, None, refl, sym, ap, subst, ◌∙◌, arith}
use Rattle.std.specs.Prelude.{if◌then◌else◌, find, is_some, IfSome, All, Contains}
use Rattle.std.specs.List.{AllByRecursion}
use Rattle.std.specs.Option.{option_and_then}
use Rattle.std.proofs.lemmas.List.{append-nil}
use Rattle.std.proofs.lemmas.List.Elements.{All-contains_itself, All-contains, Contains-append_cases, Contains-append_left, Contains-append_right, Contains-push, Contains-push_cases, recursion_from_All}
use Rattle.law_answers.specs.Types.{Answer, Doing, Event, Table, TxId}
use Rattle.sdb_types.proofs.Public.{all_each as each_any, clash, none_some, some_is}
use Rattle.sdb_model.specs.Calls.{StoreCall, calls_of}
use Rattle.sdb_model.specs.Counted.{AreCounted, is_seen}
use Rattle.sdb_model.specs.ReadSet.{ReadItem, read_set_of}
use Rattle.sdb_model.specs.Sql.{reads_commit, reads_vacuum}
use Rattle.sdb_model.specs.declared.statement.Statement.TheVariants as statement
use Rattle.sdb_sqltext.proofs.Public.{vacuum_read}
use Rattle.law_clients.proofs.Public.{each_more, other_no_commit}
use Rattle.sdb_model.specs.Transactions.{Executed, begins, client_of, commit_of, ends, from_begin, id_of, ordinal_of, rest_of, statements_by}
use Rattle.law_clients.specs.History.{waiting_of}
use Rattle.law_clients.specs.States.{ClientState}
use Rattle.sdb_txn.specs.declared.txn.Doing.TheVariants as doing
use Rattle.sdb_txn.specs.Txn.{TxnAt, pending_in}
use Rattle.sdb_vacuum.specs.Vacuum.{VacuumAt}
use Rattle.sdb_client.specs.Client.{ClientAt, pending_by}
use Rattle.law_answers.specs.Counts.{CallsAreCounted, CommitIsCounted, CommitsAreCounted, CountsBy, DoingCounted, IsCountedBy, NoneFaulted, ReadByTxn, ReadByDoing, SeenAreNoFaults, WaitCounted, read_items_since}
use Rattle.law_answers.specs.Changes.{read_items_of_body}
use Rattle.law_answers.specs.Invariant.{CauseInvariant, IsAnswered, IsWaiting, Knows, begun_in, open_after}
use Rattle.law_answers.proofs.Calls.{calls_stay}
use Rattle.law_answers.proofs.Counts.{read_enough, read_so_far, sweep_enough, sweep_so_far}
use Rattle.law_answers.proofs.CountsCommit.{commit_so_far}
use Rattle.law_answers.proofs.CountsNotes.{commits_more, commits_still, paired_more, since_stay}
use Rattle.law_answers.proofs.Lists.{each_in}
use Rattle.law_answers.proofs.ReadSets.{noted_since, since_all, take_ends, take_open}
use Rattle.sdb_types.specs.Replies.{is_fault}
use Rattle.sdb_model.proofs.Public.{id_again}

---- one statement

-- one that makes no call
pub none_counted : (catalog : List Table) (text : List ℕ) (calls : List StoreCall) → calls ≡ [] → IsCountedBy catalog text calls
none_counted catalog text calls none = subst (IsCountedBy catalog text) (sym none) (record { reads = λ a b. few; vacuums = λ a. fewest (length catalog) })
  where
    few : 0 ≤ 1 + 4 * 0
    few = omega arith

    fewest : (n : ℕ) → 0 ≤ n + (0 + 5 * 0)
    fewest n = omega arith

-- with the call that is pending
pub call_counted : (catalog : List Table) (text : List ℕ) (calls : List StoreCall) (m : StoreCall) (v : Option VacuumAt) (o : Option TxnAt) (id : TxId) (read_set : List ReadItem) → reads_vacuum text ≡ is_some v → pending_by v o ≡ Some m.request → WaitCounted catalog text id read_set calls v o → IsCountedBy catalog text (calls ++ m ∷ [])
call_counted catalog text calls m None None id read_set is e h = absurd h
call_counted catalog text calls m None (Some t) id read_set is e h = by t.doing e h
  where
    by : (d : Doing) → pending_in d ≡ Some m.request → DoingCounted text id read_set calls d → IsCountedBy catalog text (calls ++ m ∷ [])
    by doing.Idle f k = absurd k
    by (doing.Read a x) f k = record { reads = λ a b. read_enough calls m x.request x.stage k.1 f; vacuums = λ a. clash (sym a ∙ is) }
    by (doing.Commit j) f k = record { reads = λ a b. clash (sym k.0 ∙ a); vacuums = λ a. clash (sym a ∙ is) }
    by doing.Over f k = absurd k
call_counted catalog text calls m (Some v) o id read_set is e h = record { reads = λ a b. clash (sym is ∙ b); vacuums = λ a. sweep_enough catalog calls m v h e }

-- without it
so_far : (catalog : List Table) (text : List ℕ) (calls : List StoreCall) (v : Option VacuumAt) (o : Option TxnAt) (id : TxId) (read_set : List ReadItem) → reads_vacuum text ≡ is_some v → WaitCounted catalog text id read_set calls v o → IsCountedBy catalog text calls
so_far catalog text calls None None id read_set is h = absurd h
so_far catalog text calls None (Some t) id read_set is h = by t.doing h
  where
    by : (d : Doing) → DoingCounted text id read_set calls d → IsCountedBy catalog text calls
    by doing.Idle k = absurd k
    by (doing.Read a x) k = record { reads = λ a b. read_so_far calls x.stage k.1; vacuums = λ a. clash (sym a ∙ is) }
    by (doing.Commit j) k = record { reads = λ a b. clash (sym k.0 ∙ a); vacuums = λ a. clash (sym a ∙ is) }
    by doing.Over k = absurd k
so_far catalog text calls (Some v) o id read_set is h = record { reads = λ a b. clash (sym is ∙ b); vacuums = λ a. sweep_so_far catalog calls v h }

-- a COMMIT, without it
fits_so_far : (catalog : List Table) (text : List ℕ) (calls : List StoreCall) (v : Option VacuumAt) (o : Option TxnAt) (id : TxId) (read_set : List ReadItem) → reads_commit text ≡ true → reads_vacuum text ≡ is_some v → ReadByTxn read_set o → WaitCounted catalog text id read_set calls v o → CommitIsCounted read_set id None calls
fits_so_far catalog text calls None None id read_set reads is as_read h = absurd h
fits_so_far catalog text calls None (Some t) id read_set reads is as_read h = by t.doing as_read h
  where
    by : (d : Doing) → ReadByDoing read_set t.seen d → DoingCounted text id read_set calls d → CommitIsCounted read_set id None calls
    by doing.Idle n k = absurd k
    by (doing.Read a x) n k = clash (sym reads ∙ k.0)
    by (doing.Commit j) n k = subst (λ (i : TxId). CommitIsCounted read_set i None calls) k.1 (commit_so_far read_set j.work calls j.stage n k.3)
    by doing.Over n k = absurd k
fits_so_far catalog text calls (Some v) o id read_set reads is as_read h = clash (sym reads ∙ other_no_commit text statement.Vacuum ((vacuum_read text).0 is) (λ e. cc))

---- as events come

abbrev pub CountedIn : List Table → List Event → ℕ → List Executed → Type 0
CountedIn catalog events c ss = AllByRecursion (λ s. IsCountedBy catalog s.text (calls_of events c s)) ss

module _ (catalog : List Table) (c : ℕ) (events : List Event) (e : Event) where
  abbrev E : List Event
  E = events ++ e ∷ []

  still_counted : (ss : List Executed) → AllByRecursion (IsAnswered catalog events c) ss → CountedIn catalog events c ss → CountedIn catalog E c ss
  still_counted [] all h = tt
  still_counted (s ∷ ss) all h = (subst (IsCountedBy catalog s.text) (sym (calls_stay c events e s all.0.given all.0.is all.0.answered)) h.0, still_counted ss all.1 h.1)

  module _ (answered : List Executed) (o : Option Executed) (h : ClientAt) (all : AllByRecursion (IsAnswered catalog events c) answered) (k : CountsBy catalog events c answered o h) where
    abbrev id : TxId
    id = id_of c h.begun

    -- what its open transaction has noted
    abbrev pub read_set : List ReadItem
    read_set = read_items_since events c h.begun answered

    notes_now : read_set ≡ read_items_since E c h.begun answered
    notes_now = sym (since_stay catalog events e c h.begun answered all)

    -- where the calls of the one that waits stay
    pub counts_stay : ((x : Executed) → o ≡ Some x → calls_of E c x ≡ calls_of events c x) → CountsBy catalog E c answered o h
    counts_stay same = record {
      answered = still_counted answered all k.answered;
      commits = commits_still catalog events e c answered all k.commits;
      paired = k.paired;
      as_read = subst (λ ns. ReadByTxn ns h.txn) notes_now k.as_read;
      waits = by o k.waits same;
    }
      where
        by : (w : Option Executed) → IfSome w (λ x. WaitCounted catalog x.text id read_set (calls_of events c x) h.vacuum h.txn) → ((x : Executed) → w ≡ Some x → calls_of E c x ≡ calls_of events c x) → IfSome w (λ x. WaitCounted catalog x.text id (read_items_since E c h.begun answered) (calls_of E c x) h.vacuum h.txn)
        by None w same = tt
        by (Some x) w same = subst (λ ns. WaitCounted catalog x.text id ns (calls_of E c x) h.vacuum h.txn) notes_now (subst (λ ms. WaitCounted catalog x.text id read_set ms h.vacuum h.txn) (sym (same x refl)) w)

    -- where one waits, with these calls
    pub counts_on : (w : Executed) (d : ClientAt) (calls : List StoreCall) → d.begun ≡ h.begun → calls_of E c w ≡ calls → ReadByTxn read_set d.txn → WaitCounted catalog w.text id read_set calls d.vacuum d.txn → CountsBy catalog E c answered (Some w) d
    counts_on w d calls begun are as_read waits = record {
      answered = still_counted answered all k.answered;
      commits = commits_still catalog events e c answered all k.commits;
      paired = k.paired;
      as_read = subst (λ n. ReadByTxn (read_items_since E c n answered) d.txn) (sym begun) (subst (λ ns. ReadByTxn ns d.txn) notes_now as_read);
      waits = subst (λ n. WaitCounted catalog w.text (id_of c n) (read_items_since E c n answered) (calls_of E c w) d.vacuum d.txn) (sym begun) (subst (λ ns. WaitCounted catalog w.text id ns (calls_of E c w) d.vacuum d.txn) notes_now (subst (λ ms. WaitCounted catalog w.text id read_set ms d.vacuum d.txn) (sym are) waits));
    }

    -- where one is answered, with these calls
    pub counts_end : (w : Executed) (d : ClientAt) (calls : List StoreCall) → h.begun ≡ begun_in answered → calls_of E c w ≡ calls → IsCountedBy catalog w.text calls → (begins w ≡ true → open_after answered ≡ false) → (reads_commit w.text ≡ true → open_after answered ≡ true → CommitIsCounted read_set id w.answer calls) → ReadByTxn (read_items_since E c d.begun (answered ++ w ∷ [])) d.txn → CountsBy catalog E c (answered ++ w ∷ []) None d
    counts_end w d calls begun are now pairs fits as_read = record {
      answered = each_more (λ (s : Executed). IsCountedBy catalog s.text (calls_of E c s)) answered w (still_counted answered all k.answered) (subst (IsCountedBy catalog w.text) (sym are) now);
      commits = commits_more E c answered w k.paired (commits_still catalog events e c answered all k.commits) (λ reads opened. subst (λ n. CommitIsCounted (read_items_since E c n answered) (id_of c n) w.answer (calls_of E c w)) begun (subst (λ ns. CommitIsCounted ns id w.answer (calls_of E c w)) notes_now (subst (CommitIsCounted read_set id w.answer) (sym are) (fits reads opened))));
      paired = paired_more answered false w k.paired pairs;
      as_read = as_read;
      waits = tt;
    }

---- what follows

module _ (catalog : List Table) (events : List Event) (c : ℕ) (h : ClientAt) (k : Knows catalog events c h) where
  module _ (s : Executed) where
    last_counted : (o : Option Executed) → IfSome o (IsWaiting catalog events c (is_some h.vacuum)) → IfSome o (λ w. WaitCounted catalog w.text (id_of c h.begun) (read_items_since events c h.begun k.entries) (calls_of events c w) h.vacuum h.txn) → Contains (waiting_of o) s → IsCountedBy catalog s.text (calls_of events c s)
    last_counted None w n x = absurd (omega (arith, x.1))
    last_counted (Some w) waits n x = only (Contains-push_cases [] w s x)
      where
        only : Contains [] s ⊎ (w ≡ s) → IsCountedBy catalog s.text (calls_of events c s)
        only (inl y) = absurd (omega (arith, y.1))
        only (inr e) = subst (λ (z : Executed). IsCountedBy catalog z.text (calls_of events c z)) e (so_far catalog w.text (calls_of events c w) h.vacuum h.txn (id_of c h.begun) (read_items_since events c h.begun k.entries) waits.vacuum n)

    said_counted : Contains (statements_by c events) s → IsCountedBy catalog s.text (calls_of events c s)
    said_counted has = either (Contains-append_cases k.entries (waiting_of k.waiting) s (subst (λ ss. Contains ss s) k.same has))
      where
        either : Contains k.entries s ⊎ Contains (waiting_of k.waiting) s → IsCountedBy catalog s.text (calls_of events c s)
        either (inl x) = each_in (λ (z : Executed). IsCountedBy catalog z.text (calls_of events c z)) k.entries s k.counted.answered x
        either (inr x) = last_counted k.waiting k.waits k.counted.waits x

  -- the COMMIT that waits, too
  all_fit : CommitsAreCounted events c (statements_by c events)
  all_fit = subst (CommitsAreCounted events c) (sym k.same) (by k.waiting k.waits k.counted.waits)
    where
      by : (o : Option Executed) → IfSome o (IsWaiting catalog events c (is_some h.vacuum)) → IfSome o (λ w. WaitCounted catalog w.text (id_of c h.begun) (read_items_since events c h.begun k.entries) (calls_of events c w) h.vacuum h.txn) → CommitsAreCounted events c (k.entries ++ waiting_of o)
      by None waits n = subst (CommitsAreCounted events c) (sym (append-nil k.entries)) k.counted.commits
      by (Some w) waits n = commits_more events c k.entries w k.counted.paired k.counted.commits (λ reads opened.
          subst (λ (a : Option Answer). CommitIsCounted (read_items_since events c (begun_in k.entries) k.entries) (id_of c (begun_in k.entries)) a (calls_of events c w)) (sym waits.unanswered)
          (subst (λ i. CommitIsCounted (read_items_since events c i k.entries) (id_of c i) None (calls_of events c w)) k.begun
          (fits_so_far catalog w.text (calls_of events c w) h.vacuum h.txn (id_of c h.begun) (read_items_since events c h.begun k.entries) reads waits.vacuum k.counted.as_read n)))

ordinal_small : (id : TxId) → ordinal_of id < 2 ^ 64
ordinal_small id = small id.0
  where
    small : (n : ℕ) → n % 2 ^ 64 < 2 ^ 64
    small n = omega arith

-- what a search finds is after what fails
found_split : (ss : List Executed) (s : Executed) → find ends ss ≡ Some s → (body : List Executed) × (tail : List Executed) × (ss ≡ body ++ s ∷ tail) × AllByRecursion (λ x. ends x ≡ false) body × (ends s ≡ true)
found_split [] s e = none_some s e
found_split (x ∷ xs) s e = by (ends x) refl (λ h. found_split xs s h) e
  where
    by : (b : Bool) → ends x ≡ b → (find ends xs ≡ Some s → (body : List Executed) × (tail : List Executed) × (xs ≡ body ++ s ∷ tail) × AllByRecursion (λ y. ends y ≡ false) body × (ends s ≡ true)) → (if b then Some x else find ends xs) ≡ Some s
        → (body : List Executed) × (tail : List Executed) × (x ∷ xs ≡ body ++ s ∷ tail) × AllByRecursion (λ y. ends y ≡ false) body × (ends s ≡ true)
    by true t ih h = let same : x ≡ s = some_is x s h in ([], xs, ap (λ (y : Executed). y ∷ xs) same, tt, ap ends (sym same) ∙ t)
    by false f ih h = let r = ih h in (x ∷ r.0, r.1, ap (λ ys. x ∷ ys) r.2, (f, r.3), r.4)

module _ (events : List Event) (id : TxId) (s : Executed) where
  abbrev n : ℕ
  n = ordinal_of id

  abbrev c : ℕ
  c = client_of id

  -- the body before it, and what it has noted
  counted_at : (b : Executed) (rest : List Executed) → CommitsAreCounted events c (statements_by c events) → from_begin n (statements_by c events) ≡ b ∷ rest → find ends rest ≡ Some s → reads_commit s.text ≡ true → CommitIsCounted (read_set_of events id) id s.answer (calls_of events c s)
  counted_at b rest fit from ended reads =
      let f = found_split rest s ended in
      let since : from_begin n (statements_by c events) ≡ b ∷ (f.0 ++ s ∷ f.1) = from ∙ ap (λ r. b ∷ r) f.2 in
      let read_set : read_set_of events (id_of c n) ≡ read_items_of_body events c f.0 = noted_since events c n b (f.0 ++ s ∷ f.1) (ordinal_small id) since ∙ ap (read_items_of_body events c) (take_open f.0 (s ∷ f.1) f.3 ∙ ap (λ r. f.0 ++ r) (take_ends s f.1 f.4) ∙ append-nil f.0) in
      subst (λ (i : TxId). CommitIsCounted (read_set_of events i) i s.answer (calls_of events c s)) (id_again id)
      (subst (λ ns. CommitIsCounted ns (id_of c n) s.answer (calls_of events c s)) (sym read_set) (fit n b f.0 s f.1 since f.3 reads))

  commit_found : commit_of events id ≡ Some s → (b : Executed) × (rest : List Executed) × (from_begin n (statements_by c events) ≡ b ∷ rest) × (find ends rest ≡ Some s) × (reads_commit s.text ≡ true)
  commit_found e = by (from_begin n (statements_by c events)) refl e
    where
      ended : (rest : List Executed) (o : Option Executed) → find ends rest ≡ o → option_and_then (λ (x : Executed). if reads_commit x.text then Some x else None) o ≡ Some s → (find ends rest ≡ Some s) × (reads_commit s.text ≡ true)
      ended rest None k h = none_some s h
      ended rest (Some x) k h = test (reads_commit x.text) refl h
        where
          test : (t : Bool) → reads_commit x.text ≡ t → (if t then Some x else None) ≡ Some s → (find ends rest ≡ Some s) × (reads_commit s.text ≡ true)
          test true t z = let same : x ≡ s = some_is x s z in (k ∙ z, ap (λ (y : Executed). reads_commit y.text) (sym same) ∙ t)
          test false t z = none_some s z

      by : (r : List Executed) → from_begin n (statements_by c events) ≡ r → option_and_then (λ (x : Executed). if reads_commit x.text then Some x else None) (find ends (rest_of r)) ≡ Some s → (b : Executed) × (rest : List Executed) × (from_begin n (statements_by c events) ≡ b ∷ rest) × (find ends rest ≡ Some s) × (reads_commit s.text ≡ true)
      by [] k h = none_some s h
      by (b ∷ rest) k h = let z = ended rest (find ends rest) refl h in (b, rest, k, z.0, z.1)

  said_in : (b : Executed) (rest : List Executed) → from_begin n (statements_by c events) ≡ b ∷ rest → find ends rest ≡ Some s → Contains (statements_by c events) s
  said_in b rest from ended =
      let f = found_split rest s ended in
      let all : AllByRecursion (Contains (statements_by c events)) rest = since_all (Contains (statements_by c events)) n (statements_by c events) b rest (recursion_from_All (Contains (statements_by c events)) (statements_by c events) (All-contains_itself (statements_by c events))) from in
      each_in (Contains (statements_by c events)) rest s all (subst (λ r. Contains r s) (sym f.2) (Contains-append_right f.0 (s ∷ f.1) s (Contains-append_left (s ∷ []) f.1 s (Contains-push [] s))))

  commit_fits : CommitsAreCounted events c (statements_by c events) → commit_of events id ≡ Some s → CommitIsCounted (read_set_of events id) id s.answer (calls_of events c s)
  commit_fits fit e = let z = commit_found e in counted_at z.0 z.1 fit z.2 z.3 z.4

  commit_said : commit_of events id ≡ Some s → Contains (statements_by c events) s
  commit_said e = let z = commit_found e in said_in z.0 z.1 z.2 z.3

-- a statement all of whose calls were seen had no fault
none_faulted : (events : List Event) (c : ℕ) (s : Executed) → SeenAreNoFaults events → Contains (statements_by c events) s → All (λ (m : StoreCall). is_seen m.how ≡ true) (calls_of events c s) → NoneFaulted (calls_of events c s)
none_faulted events c s none has seen =
    each_any (Contains (calls_of events c s)) (λ (m : StoreCall). is_fault m.reply ≡ false) (calls_of events c s) (λ m x. none c s m has x (All-contains (λ (y : StoreCall). is_seen y.how ≡ true) (calls_of events c s) m seen x))
    (recursion_from_All (Contains (calls_of events c s)) (calls_of events c s) (All-contains_itself (calls_of events c s)))

pub calls_counted : (catalog : List Table) (events : List Event) (now : ℤ) (states : ℕ → ClientState) → CauseInvariant catalog events now states → CallsAreCounted catalog events
calls_counted catalog events now states ex = record {
  commits = λ id s is. commit_fits events id s (all_fit catalog events (client_of id) (states (client_of id)).client (ex.each (client_of id))) is;
  reads = λ c s has. (said_counted catalog events c (states c).client (ex.each c) s has).reads;
  vacuums = λ c s has. (said_counted catalog events c (states c).client (ex.each c) s has).vacuums;
}

pub all_counted : (catalog : List Table) (events : List Event) → CallsAreCounted catalog events → SeenAreNoFaults events → AreCounted catalog events
all_counted catalog events h none = record {
  commits = λ id s is. record { exact = λ committed seen. (h.commits id s is).exact committed (none_faulted events (client_of id) s none (commit_said events id s is) seen); most = (h.commits id s is).most };
  reads = h.reads;
  vacuums = h.vacuums;
}
