-- The COMMITs of a client prepare what the statements of their transactions wrote, as statements and events come.
use Rattle.std.proofs.Common.{◌≡◌, ◌⊎◌, inl, inr, ℕ, true, false, List, [], ◌∷◌, ◌++◌, Option, refl, sym, ap, subst, ◌∙◌}
use Rattle.std.specs.List.{AllByRecursion}
use Rattle.law_runs.specs.Types.{Event, Statement, Table, TxId}
use Rattle.sdb_model.specs.Calls.{StoreCall, calls_of}
use Rattle.sdb_model.specs.Sql.{reads_commit}
use Rattle.sdb_model.specs.Transactions.{Executed, ends, from_begin, id_of, rest_of}
use Rattle.law_answers.specs.Counts.{ArePaired}
use Rattle.law_answers.specs.Invariant.{IsAnswered, begun_in, open_after}
use Rattle.law_answers.proofs.Public.{calls_stay, each_kept, each_left, each_middle, last_or, open_only, since_all, since_more, since_none}
use Rattle.law_runs.specs.Found.{AllRunAs, AreUnder, is_answered, nothing_found, takes_part}
use Rattle.law_runs.specs.Written.{PreparesAll, groups_of_keys, keys_of, written_on_found}
use Rattle.law_runs.proofs.Running.{each_taken, finds_stay, goes_on, running, running_of, running_stays, under_was}
use Rattle.law_runs.proofs.Statements.{none_in}

-- the calls of a COMMIT prepare what statements wrote, under the catalog with which they were accepted
abbrev pub CommitWrote : List Table → List Event → ℕ → List Executed → TxId → List StoreCall → Type 0
CommitWrote catalog events c ss id calls = (under : List Table) → AreUnder catalog events under ss → (statements : List (Option Statement)) → AllRunAs ss statements → PreparesAll (groups_of_keys (keys_of under events c ss statements)) id calls

-- A statement is the COMMIT that ends a client's transaction of that number, after these.
pub record EndsAs (answered : List Executed) (n : ℕ) (body : List Executed) (s : Executed) : Type 0 where
  pub begin : Executed
  pub tail : List Executed
  pub since : from_begin n answered ≡ begin ∷ (body ++ s ∷ tail)
  pub opens : AllByRecursion (λ x. ends x ≡ false) body
  pub commits : reads_commit s.text ≡ true

abbrev pub CommitsWrote : List Table → List Event → ℕ → List Executed → Type 0
CommitsWrote catalog events c answered = (n : ℕ) (body : List Executed) (s : Executed) → EndsAs answered n body s → CommitWrote catalog events c (running events c body) (id_of c n) (calls_of events c s)

-- so does the last statement, where it is the COMMIT of the open transaction
abbrev pub LastWrote : List Table → List Event → ℕ → List Executed → Executed → Type 0
LastWrote catalog events c answered z = reads_commit z.text ≡ true → open_after answered ≡ true → CommitWrote catalog events c (running_of events c (begun_in answered) answered) (id_of c (begun_in answered)) (calls_of events c z)

-- a COMMIT without a call
pub none_wrote : (catalog : List Table) (events : List Event) (c : ℕ) (ss : List Executed) (id : TxId) (calls : List StoreCall) → calls ≡ [] → CommitWrote catalog events c ss id calls
none_wrote catalog events c ss id calls none under accepted statements read = subst (PreparesAll (groups_of_keys (keys_of under events c ss statements)) id) (sym none) (record { count = 0; prepared = refl; decided = λ m has e. none_in m has })

-- what was answered stays so
pub commits_still : (catalog : List Table) (events : List Event) (e : Event) (c : ℕ) (answered : List Executed) → AllByRecursion (IsAnswered catalog events c) answered → CommitsWrote catalog events c answered → CommitsWrote catalog (events ++ e ∷ []) c answered
commits_still catalog events e c answered all k n body s x under accepted statements read =
    let whole : AllByRecursion (IsAnswered catalog events c) (body ++ s ∷ x.tail) = since_all (IsAnswered catalog events c) n answered x.begin (body ++ s ∷ x.tail) all x.since in
    let here : IsAnswered catalog events c s = each_middle (IsAnswered catalog events c) body x.tail s whole in
    let front : AllByRecursion (IsAnswered catalog events c) body = each_left (IsAnswered catalog events c) body (s ∷ x.tail) whole in
    let ran : AllByRecursion (IsAnswered catalog events c) (running events c body) =
    each_kept (IsAnswered catalog events c) is_answered _ (each_kept (IsAnswered catalog events c) (takes_part events c) _ (each_taken (IsAnswered catalog events c) goes_on body front)) in
    let same : running (events ++ e ∷ []) c body ≡ running events c body = running_stays catalog events e c body front in
    subst (λ ks. PreparesAll (groups_of_keys ks) (id_of c n) (calls_of (events ++ e ∷ []) c s))
    (ap (λ fs. written_on_found under fs statements nothing_found []) (sym (finds_stay catalog events e c (running events c body) ran)) ∙ ap (λ ss. keys_of under (events ++ e ∷ []) c ss statements) (sym same))
    (subst (PreparesAll (groups_of_keys (keys_of under events c (running events c body) statements)) (id_of c n)) (sym (calls_stay c events e s here.given here.is here.answered))
    (k n body s x under (under_was catalog events e c under (running events c body) ran (subst (AreUnder catalog (events ++ e ∷ []) under) same accepted)) statements (subst (λ ss. AllRunAs ss statements) same read)))

-- with one statement more
pub commits_more : (catalog : List Table) (events : List Event) (c : ℕ) (answered : List Executed) (z : Executed) → ArePaired false answered → CommitsWrote catalog events c answered → LastWrote catalog events c answered z → CommitsWrote catalog events c (answered ++ z ∷ [])
commits_more catalog events c answered z pairs k last n body s x = by (from_begin n answered) refl
  where
    none : (ys : List Executed) → ys ++ s ∷ x.tail ≡ [] → ⊥
    none [] h = absurd (cc)
    none (w ∷ ys) h = absurd (cc)

    here : (b : Executed) (r : List Executed) → from_begin n answered ≡ b ∷ r → ((r ≡ body) × (z ≡ s)) ⊎ ((front : List Executed) × (r ≡ body ++ s ∷ front)) → CommitWrote catalog events c (running events c body) (id_of c n) (calls_of events c s)
    here b r e (inr h) = k n body s (record { begin = b; tail = h.0; since = e ∙ ap (λ y. b ∷ y) h.1; opens = x.opens; commits = x.commits })
    here b r e (inl h) =
        let from : from_begin n answered ≡ b ∷ body = e ∙ ap (λ y. b ∷ y) h.0 in
        let only = open_only n answered false b body pairs from x.opens in
        let ran : running_of events c (begun_in answered) answered ≡ running events c body = ap (λ i. running_of events c i answered) (sym only.0) ∙ ap (λ y. running events c (rest_of y)) from in
        subst (λ (y : Executed). CommitWrote catalog events c (running events c body) (id_of c n) (calls_of events c y)) h.1
        (subst (λ i. CommitWrote catalog events c (running events c body) (id_of c i) (calls_of events c z)) (sym only.0)
        (subst (λ ss. CommitWrote catalog events c ss (id_of c (begun_in answered)) (calls_of events c z)) ran (last (ap (λ (y : Executed). reads_commit y.text) h.1 ∙ x.commits) only.1)))

    by : (r : List Executed) → from_begin n answered ≡ r → CommitWrote catalog events c (running events c body) (id_of c n) (calls_of events c s)
    by [] e = absurd (none body (sym (ap rest_of x.since) ∙ since_none n answered z e))
    by (b ∷ r) e =
        let whole : b ∷ (r ++ z ∷ []) ≡ x.begin ∷ (body ++ s ∷ x.tail) = sym (since_more n answered z b r e) ∙ x.since in
        let rest : r ++ z ∷ [] ≡ body ++ s ∷ x.tail = cc in
        here b r e (last_or r z body s x.tail rest)
