-- The bodies of the transactions of a bench: one has INSERTs, and the others have UPDATEs.
use Rattle.std.proofs.Common.{◌≡◌, ℕ, zero, suc, Bool, false, not, ◌&&◌, List, [], ◌∷◌, map, take, filter, refl, sym, ap, subst, ◌∙◌, arith}
use Rattle.std.specs.Prelude.{◌==◌, take_while}
use Rattle.std.specs.List.{AllByRecursion, prefix_len}
use Rattle.std.proofs.lemmas.Bool.Decides.{nat_tests}
use Rattle.sdb_bench.specs.Types.{Event, ScriptClient, Statement, TxId}
use Rattle.sdb_types.proofs.Public.{all_each, by_test, clash, eq_of}
use Rattle.sdb_model.specs.declared.statement.Statement.TheVariants as statement
use Rattle.sdb_model.specs.Follows.{takes_of, texts_of}
use Rattle.sdb_model.specs.Sql.{Reads, statement_text_of}
use Rattle.sdb_model.specs.Serial.{AreRead}
use Rattle.sdb_model.specs.Transactions.{Executed, begins, body, client_of, ends, from_begin, id_of, is_done, is_effective, ordinal_of, rest_of, statements_by, statements_since}
use Rattle.sdb_model.proofs.Public.{id_again}
use Rattle.sdb_bench.specs.Script.{bench_clients}
use Rattle.sdb_bench.proofs.AcceptedTexts.{AreTaken, taken_texts}
use Rattle.sdb_bench.proofs.ReadAs.{IsInsert, IsLater, IsText, IsUpdate, all_kept, insert_kind, later_begins, later_statements, later_texts, setup_kind, setup_texts, update_kind, update_texts}
use Rattle.law_clients.proofs.Public.{take_all}

---- what is so of all statements of a client is so of a body

all_rest : (P : Executed → Type 0) (ss : List Executed) → AllByRecursion P ss → AllByRecursion P (rest_of ss)
all_rest P [] h = tt
all_rest P (s ∷ ss) h = h.1

all_while : (P : Executed → Type 0) (p : Executed → Bool) (ss : List Executed) → AllByRecursion P ss → AllByRecursion P (take_while p ss)
all_while P p ss h = take_all P (prefix_len p ss) ss h

all_since : (P : Executed → Type 0) (k : ℕ) (ss : List Executed) → AllByRecursion P ss → AllByRecursion P (from_begin k ss)
all_since P zero ss h = tt
all_since P (suc k) [] h = tt
all_since P (suc k) (s ∷ ss) h =
    by_test (begins s)
    (λ e. by_test (k == 0) (λ z. rw e (rw z h)) (λ z. rw e (rw z (all_since P k ss h.1))))
    (λ e. rw e (all_since P (suc k) ss h.1))

all_body : (P : Executed → Type 0) (events : List Event) (id : TxId) → AllByRecursion P (statements_by (client_of id) events) → AllByRecursion P (body events id)
all_body P events id h =
    let since = all_since P (ordinal_of id) (statements_by (client_of id) events) h in
    let rest = all_rest P (statements_since events id) since in
    all_kept P is_effective (take_while (λ s. not (ends s)) (rest_of (statements_since events id))) (all_while P (λ s. not (ends s)) (rest_of (statements_since events id)) rest)

of_texts : (Q : List ℕ → Type 0) (ss : List Executed) → AllByRecursion Q (taken_texts ss) → AllByRecursion (λ s. Q s.text) ss
of_texts Q [] h = tt
of_texts Q (s ∷ ss) h = (h.0, of_texts Q ss h.1)

taken_all : (Q : List ℕ → Type 0) (clients : List ScriptClient) (events : List Event) (c : ℕ) → AreTaken clients events → AllByRecursion Q (texts_of clients c) → AllByRecursion (λ s. Q s.text) (statements_by c events)
taken_all Q clients events c accepted h = of_texts Q (statements_by c events) (subst (AllByRecursion Q) (sym (accepted c)) (take_all Q (takes_of c events) (texts_of clients c) h))

read_all : (P : Statement → Type 0) (Q : List ℕ → Type 0) → ((text : List ℕ) (st : Statement) → Q text → Reads text st → P st) → (ss : List Executed) (b : List Statement) → AllByRecursion (λ s. Q s.text) ss → AreRead ss b → AllByRecursion P b
read_all P Q each [] [] h read = tt
read_all P Q each [] (st ∷ b) h read = absurd read
read_all P Q each (s ∷ ss) [] h read = absurd read
read_all P Q each (s ∷ ss) (st ∷ b) h read = (each s.text st h.0 read.0, read_all P Q each ss b h.1 read.1)

---- the first client begins one transaction

none_begins : (k : ℕ) (ss : List Executed) → AllByRecursion (λ s. begins s ≡ false) ss → from_begin (suc k) ss ≡ []
none_begins k [] h = refl
none_begins k (s ∷ ss) h = let e = h.0 in rw e (none_begins k ss h.1)

not_zero : (k : ℕ) → (suc k == 0) ≡ false
not_zero k = grind (arith, nat_tests)

begins_once : (k : ℕ) (s : Executed) (ss : List Executed) → AllByRecursion (λ x. begins x ≡ false) ss → from_begin (suc (suc k)) (s ∷ ss) ≡ []
begins_once k s ss h =
    by_test (begins s)
    (λ e. let z = not_zero k in rw e (rw z (none_begins k ss h)))
    (λ e. rw e (none_begins (suc k) ss h))

-- the texts after the first
abbrev pub tail_of : List (List ℕ) → List (List ℕ)
tail_of [] = []
tail_of (x ∷ xs) = xs

no_begins : (ss : List Executed) → AllByRecursion (λ s. IsText IsLater s.text) ss → AllByRecursion (λ s. begins s ≡ false) ss
no_begins ss h = all_each (λ s. IsText IsLater s.text) (λ s. begins s ≡ false) ss (λ s t. ap (λ (b : Bool). b && is_done s.answer) (later_begins s.text t)) h

second_none : (k accepted : ℕ) (first : List ℕ) (later : List (List ℕ)) (ss : List Executed) → AllByRecursion (IsText IsLater) later → taken_texts ss ≡ take accepted (first ∷ later) → from_begin (suc (suc k)) ss ≡ []
second_none k accepted first later [] h e = refl
second_none k zero first later (s ∷ ss) h e = absurd (cc)
second_none k (suc n) first later (s ∷ ss) h e =
    let rest : taken_texts ss ≡ take n later = ap tail_of e in
    begins_once k s ss (no_begins ss (of_texts (IsText IsLater) ss (subst (AllByRecursion (IsText IsLater)) (sym rest) (take_all (IsText IsLater) n later h))))

no_second : (n k : ℕ) (events : List Event) → AreTaken (bench_clients n) events → from_begin (suc (suc k)) (statements_by 1 events) ≡ []
no_second n k events accepted =
    second_none k (takes_of 1 events) (statement_text_of statement.Begin) (map statement_text_of later_statements) (statements_by 1 events) later_texts
    (accepted 1 ∙ ap (take (takes_of 1 events)) (setup_texts n))

-- the one transaction with INSERTs
abbrev pub setup_id : TxId
setup_id = id_of 1 1

no_body : (n k : ℕ) (events : List Event) → AreTaken (bench_clients n) events → (k ≡ 1 → ⊥) → from_begin k (statements_by 1 events) ≡ []
no_body n zero events accepted other = refl
no_body n (suc zero) events accepted other = absurd (other refl)
no_body n (suc (suc k)) events accepted other = no_second n k events accepted

is_setup : (id : TxId) → client_of id ≡ 1 → ordinal_of id ≡ 1 → id ≡ setup_id
is_setup id c k = sym (id_again id) ∙ ap (λ (x : ℕ). id_of x (ordinal_of id)) c ∙ ap (id_of 1) k

-- The body of the setup is read as INSERTs.
pub setup_body : (n : ℕ) (events : List Event) (b : List Statement) → AreTaken (bench_clients n) events → AreRead (body events setup_id) b → AllByRecursion IsInsert b
setup_body n events b accepted read =
    read_all IsInsert (IsText IsInsert) insert_kind (body events setup_id) b
    (all_body (λ s. IsText IsInsert s.text) events setup_id (taken_all (IsText IsInsert) (bench_clients n) events 1 accepted (setup_kind n))) read

-- The body of another transaction is read as UPDATEs.
pub other_body : (n : ℕ) (events : List Event) (id : TxId) (b : List Statement) → AreTaken (bench_clients n) events → (id ≡ setup_id → ⊥) → AreRead (body events id) b → AllByRecursion IsUpdate b
other_body n events id b accepted other read =
    by_test (client_of id == 1)
    (λ e.
    let first : client_of id ≡ 1 = eq_of (client_of id) 1 e in
    let none : statements_since events id ≡ [] = ap (λ (c : ℕ). from_begin (ordinal_of id) (statements_by c events)) first ∙ no_body n (ordinal_of id) events accepted (λ k. other (is_setup id first k)) in
    let empty : body events id ≡ [] = ap (λ (ss : List Executed). filter is_effective (take_while (λ s. not (ends s)) (rest_of ss))) none in
    read_all IsUpdate (IsText IsUpdate) update_kind [] b tt (subst (λ (ss : List Executed). AreRead ss b) empty read))
    (λ e.
    read_all IsUpdate (IsText IsUpdate) update_kind (body events id) b
    (all_body (λ s. IsText IsUpdate s.text) events id (taken_all (IsText IsUpdate) (bench_clients n) events (client_of id) accepted (update_texts n (client_of id) (apart (client_of id) e))))
    read)
  where
    apart : (c : ℕ) → (c == 1) ≡ false → c ≡ 1 → ⊥
    apart c e is = clash (sym (ap (λ (x : ℕ). x == 1) is) ∙ e)
