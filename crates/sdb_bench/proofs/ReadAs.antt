-- Which statements the texts of a bench's clients are read as.
use Rattle.std.proofs.Common.{◌≡◌, ℕ, zero, suc, ◌*◌, ◌<◌, ◌^◌, pos, Bool, false, List, [], ◌∷◌, ◌++◌, map, filter, flat_map, refl, sym, ap, subst, arith, mod-lt}
use Rattle.std.specs.Prelude.{FitsSigned, slice_get, ◌/◌}
use Rattle.std.specs.Option.{option_map_or}
use Rattle.std.specs.List.{AllByRecursion}
use Rattle.std.specs.Int.{w64}
use Rattle.sdb_types.proofs.Public.{all_each, append_all, by_test}
use Rattle.sdb_bench.specs.Types.{ScriptClient, Statement}
use Rattle.sdb_model.specs.declared.statement.Statement.TheVariants as statement
use Rattle.sdb_model.specs.declared.token.Token.TheVariants.{Name}
use Rattle.sdb_model.specs.Follows.{texts_of}
use Rattle.sdb_model.specs.Sql.{CanSpell, Reads, reads_begin, statement_text_of}
use Rattle.sdb_sqltext.proofs.Public.{begin_read, one_statement, statement_read}
use Rattle.sdb_bench.specs.declared.side.Side.{Side}
use Rattle.sdb_bench.specs.declared.side.Side.TheVariants.{Left, Right}
use Rattle.sdb_bench.specs.declared.texts.Turn.{Turn}
use Rattle.sdb_bench.specs.Draws.{draw, numbers_below, state_after}
use Rattle.sdb_bench.specs.Setup.{insert_of, inserts_at, inserts_of, namespace_of, setup_statements, update_of}
use Rattle.sdb_bench.specs.Script.{bench_clients, bench_turns, is_of_writer, turn_of, turn_statements, writer_of, writer_statements}
use Rattle.sdb_bench.proofs.Even.{all_map}

---- kinds of statements

pub record Inserts (st : Statement) : Type 0 where
  pub side : Side
  pub p : ℕ
  pub n : ℕ
  pub low_p : p < 8
  pub low_n : n < 4
  pub same : st ≡ insert_of side p n

pub record Updates (st : Statement) : Type 0 where
  pub side : Side
  pub p : ℕ
  pub v : ℕ
  pub low_p : p < 8
  pub low_v : v < 1000
  pub same : st ≡ update_of side p v

pub data IsOf (P : Statement → Type 0) (st : Statement) : Type 0 where
  Opens : st ≡ statement.Begin → IsOf P st
  Closes : st ≡ statement.Commit → IsOf P st
  Changes : P st → IsOf P st

abbrev pub IsInsert : Statement → Type 0
IsInsert = IsOf Inserts

abbrev pub IsUpdate : Statement → Type 0
IsUpdate = IsOf Updates

---- each statement is read again from its text

fits : (n : ℕ) → n < 2 ^ 63 → FitsSigned w64 (pos n)
fits n h = record { sfits = h }

spelled_name : (side : Side) → CanSpell (Name (namespace_of side))
spelled_name Left = (refl, refl)
spelled_name Right = (refl, refl)

insert_reads : (side : Side) (p n : ℕ) → p < 8 → n < 4 → Reads (statement_text_of (insert_of side p n)) (insert_of side p n)
insert_reads side p n hp hn =
    let name = spelled_name side in
    let first = fits p (omega arith) in
    let second = fits n (omega arith) in
    let third = fits 0 (omega arith) in
    statement_read (insert_of side p n) (tt, refl, (tt, (tt, (tt, tt))))
    (tt, (tt, (name, (tt, ((refl, refl), (tt, ((refl, refl), (tt, ((refl, refl), (tt, ((refl, refl), (tt, (tt, (tt, (first, (tt, (second, (tt, (third, (tt, tt))))))))))))))))))))

update_reads : (side : Side) (p v : ℕ) → p < 8 → v < 1000 → Reads (statement_text_of (update_of side p v)) (update_of side p v)
update_reads side p v hp hv =
    let name = spelled_name side in
    let first = fits v (omega arith) in
    let second = fits p (omega arith) in
    statement_read (update_of side p v) (tt, (tt, tt), (tt, tt)) (tt, (name, (tt, ((refl, refl), (tt, ((refl, refl), (tt, (first, (tt, ((refl, refl), (tt, (second, tt))))))))))))

begin_reads : Reads (statement_text_of statement.Begin) statement.Begin
begin_reads = statement_read statement.Begin tt (tt, tt)

commit_reads : Reads (statement_text_of statement.Commit) statement.Commit
commit_reads = statement_read statement.Commit tt (tt, tt)

-- a kind of statements that are read again
abbrev pub AreReadAgain : (Statement → Type 0) → Type 0
AreReadAgain P = (st : Statement) → P st → Reads (statement_text_of st) st

inserts_again : AreReadAgain Inserts
inserts_again st h = subst (λ (x : Statement). Reads (statement_text_of x) x) (sym h.same) (insert_reads h.side h.p h.n h.low_p h.low_n)

updates_again : AreReadAgain Updates
updates_again st h = subst (λ (x : Statement). Reads (statement_text_of x) x) (sym h.same) (update_reads h.side h.p h.v h.low_p h.low_v)

kind_again : (P : Statement → Type 0) → AreReadAgain P → AreReadAgain (IsOf P)
kind_again P again st (Opens e) = subst (λ (x : Statement). Reads (statement_text_of x) x) (sym e) begin_reads
kind_again P again st (Closes e) = subst (λ (x : Statement). Reads (statement_text_of x) x) (sym e) commit_reads
kind_again P again st (Changes h) = again st h

---- texts of a kind

-- a text is that of a statement of this kind
pub record IsText (P : Statement → Type 0) (text : List ℕ) : Type 0 where
  pub statement : Statement
  pub kind : P statement
  pub same : text ≡ statement_text_of statement

pub insert_kind : (text : List ℕ) (st : Statement) → IsText IsInsert text → Reads text st → IsInsert st
insert_kind text st t read =
    subst IsInsert (one_statement (statement_text_of t.statement) t.statement st (kind_again Inserts inserts_again t.statement t.kind) (subst (λ (x : List ℕ). Reads x st) t.same read)) t.kind

pub update_kind : (text : List ℕ) (st : Statement) → IsText IsUpdate text → Reads text st → IsUpdate st
update_kind text st t read =
    subst IsUpdate (one_statement (statement_text_of t.statement) t.statement st (kind_again Updates updates_again t.statement t.kind) (subst (λ (x : List ℕ). Reads x st) t.same read)) t.kind

texts_are : (P : Statement → Type 0) (ss : List Statement) → AllByRecursion P ss → AllByRecursion (IsText P) (map statement_text_of ss)
texts_are P ss h = all_map P (IsText P) statement_text_of (λ s k. record { statement = s; kind = k; same = refl }) ss h

---- the setup

all_below : (n : ℕ) → AllByRecursion (λ k. k < n) (numbers_below n)
all_below zero = tt
all_below (suc n) = append_all (λ k. k < suc n) (numbers_below n) (n ∷ []) (all_each (λ k. k < n) (λ k. k < suc n) (numbers_below n) (λ k h. omega arith) (all_below n)) (omega arith, tt)

all_flat : {A B : Type 0} (P : A → Type 0) (Q : B → Type 0) (f : A → List B) → ((x : A) → P x → AllByRecursion Q (f x)) → (xs : List A) → AllByRecursion P xs → AllByRecursion Q (flat_map f xs)
all_flat P Q f each [] h = tt
all_flat P Q f each (x ∷ xs) h = append_all Q (f x) (flat_map f xs) (each x h.0) (all_flat P Q f each xs h.1)

-- a statement of the setup after its BEGIN
pub record IsLater (st : Statement) : Type 0 where
  pub kind : IsInsert st
  pub other : st ≡ statement.Begin → ⊥

no_begin : (side : Side) (p n : ℕ) → insert_of side p n ≡ statement.Begin → ⊥
no_begin side p n e = cc

no_begin_commit : statement.Commit ≡ statement.Begin → ⊥
no_begin_commit e = cc

later_insert : (side : Side) (p n : ℕ) → p < 8 → n < 4 → IsLater (insert_of side p n)
later_insert side p n low less = record { kind = Changes (record { side = side; p = p; n = n; low_p = low; low_n = less; same = refl }); other = no_begin side p n }

all_inserts : (side : Side) → AllByRecursion IsLater (inserts_of side)
unfolding inserts_of
all_inserts side =
    all_flat (λ p. p < 8) IsLater (inserts_at side)
    (λ p low. all_map (λ n. n < 4) IsLater (insert_of side p) (λ n less. later_insert side p n low less) (numbers_below 4) (all_below 4))
    (numbers_below 8) (all_below 8)

abbrev pub later_statements : List Statement
later_statements = inserts_of Left ++ inserts_of Right ++ statement.Commit ∷ []

all_later : AllByRecursion IsLater later_statements
all_later =
    append_all IsLater (inserts_of Left ++ inserts_of Right) (statement.Commit ∷ [])
    (append_all IsLater (inserts_of Left) (inserts_of Right) (all_inserts Left) (all_inserts Right))
    (record { kind = Closes refl; other = no_begin_commit }, tt)

pub setup_is : setup_statements ≡ statement.Begin ∷ later_statements
unfolding setup_statements
setup_is = refl

pub setup_texts : (n : ℕ) → texts_of (bench_clients n) 1 ≡ statement_text_of statement.Begin ∷ map statement_text_of later_statements
setup_texts n = ap (map statement_text_of) setup_is

pub later_texts : AllByRecursion (IsText IsLater) (map statement_text_of later_statements)
later_texts = texts_are IsLater later_statements all_later

pub setup_kind : (n : ℕ) → AllByRecursion (IsText IsInsert) (texts_of (bench_clients n) 1)
setup_kind n =
    subst (AllByRecursion (IsText IsInsert)) (sym (setup_texts n)) (
      record { statement = statement.Begin; kind = Opens refl; same = refl },
      all_each (IsText IsLater) (IsText IsInsert) (map statement_text_of later_statements) (λ t h. record { statement = h.statement; kind = h.kind.kind; same = h.same }) later_texts,
    )

-- no text after the first begins a transaction
pub later_begins : (text : List ℕ) → IsText IsLater text → reads_begin text ≡ false
later_begins text t =
    by_test (reads_begin text)
    (λ e.
    let begin : Reads text statement.Begin = (begin_read text).0 e in
    let own : Reads text t.statement = subst (λ (x : List ℕ). Reads x t.statement) (sym t.same) (kind_again Inserts inserts_again t.statement t.kind.kind) in
    absurd (t.kind.other (one_statement text t.statement statement.Begin own begin)))
    (λ e. e)

---- the writers

-- a transaction whose draws are in their ranges
pub record IsFit (turn : Turn) : Type 0 where
  pub left_p : turn.left_p < 8
  pub left_v : turn.left_v < 1000
  pub right_p : turn.right_p < 8
  pub right_v : turn.right_v < 1000

turn_fits : (n t : ℕ) → IsFit (turn_of n t)
turn_fits n t =
    let x = state_after n (4 * t) in
    record { left_p = small x 0 8 (omega arith); left_v = small x 1 1000 (omega arith); right_p = small x 2 8 (omega arith); right_v = small x 3 1000 (omega arith) }
  where
    small : (x k m : ℕ) → 0 < m → draw x k m < m
    small x k m h = mod-lt (state_after x (suc k) / 2 ^ 33) h

turns_fit : (n : ℕ) (ks : List ℕ) → AllByRecursion IsFit (map (turn_of n) ks)
turns_fit n [] = tt
turns_fit n (k ∷ ks) = (turn_fits n k, turns_fit n ks)

turn_kind : (turn : Turn) → IsFit turn → AllByRecursion IsUpdate (turn_statements turn)
turn_kind turn fit = (
  Opens refl,
  (
    Changes (record { side = Left; p = turn.left_p; v = turn.left_v; low_p = fit.left_p; low_v = fit.left_v; same = refl }),
    (
      Changes (record { side = Right; p = turn.right_p; v = turn.right_v; low_p = fit.right_p; low_v = fit.right_v; same = refl }),
      (Closes refl, tt),
    ),
  ),
)

pub all_kept : {A : Type 0} (P : A → Type 0) (p : A → Bool) (xs : List A) → AllByRecursion P xs → AllByRecursion P (filter p xs)
all_kept P p [] h = tt
all_kept P p (x ∷ xs) h = by_test (p x) (λ e. rw e (h.0, all_kept P p xs h.1)) (λ e. rw e (all_kept P p xs h.1))

writer_kind : (w : ℕ) (turns : List Turn) → AllByRecursion IsFit turns → AllByRecursion (IsText IsUpdate) (writer_of turns w).statements
unfolding writer_statements
writer_kind w turns fit = texts_are IsUpdate (writer_statements w turns) (all_flat IsFit IsUpdate turn_statements turn_kind (filter (is_of_writer w) turns) (all_kept IsFit (is_of_writer w) turns fit))

texts_at : (cs : List ScriptClient) (i : ℕ) → AllByRecursion (λ c. AllByRecursion (IsText IsUpdate) c.statements) cs → AllByRecursion (IsText IsUpdate) (option_map_or (λ (c : ScriptClient). c.statements) (slice_get cs i) [])
texts_at [] i h = tt
texts_at (c ∷ cs) zero h = h.0
texts_at (c ∷ cs) (suc i) h = texts_at cs i h.1

writers_kind : (n : ℕ) (ws : List ℕ) → AllByRecursion (λ c. AllByRecursion (IsText IsUpdate) c.statements) (map (writer_of (bench_turns n)) ws)
writers_kind n [] = tt
writers_kind n (w ∷ ws) = (writer_kind w (bench_turns n) (turns_fit n (numbers_below n)), writers_kind n ws)

-- All clients but the first have texts of updates.
pub update_texts : (n c : ℕ) → (c ≡ 1 → ⊥) → AllByRecursion (IsText IsUpdate) (texts_of (bench_clients n) c)
update_texts n zero h = tt
update_texts n (suc zero) h = absurd (h refl)
update_texts n (suc (suc i)) h = texts_at (map (writer_of (bench_turns n)) (numbers_below 8)) i (writers_kind n (numbers_below 8))
