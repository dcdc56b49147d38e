-- Where a fault is: at the first token with which no statement begins.
use Rattle.std.proofs.Common.{◌≡◌, ℕ, Bool, List, [], ◌∷◌, ◌++◌, Option, Some, None, Result, Ok, Err, refl, sym, ap, subst, ◌∙◌, append_assoc, ◌⊎◌, inl, inr}
use Rattle.std.specs.List.{AllByRecursion}
use Rattle.std.proofs.lemmas.List.{append-nil}
use Rattle.sdb_sqltext.specs.Types.{Placed, Statement, TableName, Token, Value}
use Rattle.sdb_model.specs.declared.token.Sign.TheVariants as sign
use Rattle.sdb_model.specs.declared.token.Token.TheVariants.{Sign as Mark}
use Rattle.sdb_model.specs.Sql.{Tokens, insert_word, insert_tokens, statement_tokens, tokens_of, Spells, HasItems, IsLiteral, IsWhole, Begins, NoneBegins, IsFirstWrong}
use Rattle.sdb_sqltext.specs.States.{State}
use Rattle.sdb_sqltext.specs.States as state
use Rattle.sdb_sqltext.specs.Machine.{untested, filtered, step}
use Rattle.sdb_sqltext.specs.Parsing.{finish, or_at, then, parse_from}
use Rattle.sdb_sqltext.proofs.Reached.{so_far, Fine, answered, filter_is, whole_filter}
use Rattle.sdb_sqltext.proofs.Complete.{run, run_append, spelled_reads, open_insert, open_insert_run, open_insert_is, draft}
use Rattle.sdb_sqltext.proofs.Viable.{viable}
use Rattle.sdb_types.proofs.Public.{bind_some, none_some, some_is}
use Rattle.sdb_types.specs.Options.{◌>>=◌}

pub run_so : (ts : Tokens) (s n : State) → Fine s → run s ts ≡ Some n → (so_far n ≡ so_far s ++ ts) × Fine n
run_so [] s n valid h = subst (λ (m : State). (so_far m ≡ so_far s ++ []) × Fine m) (some_is s n h) (sym (append-nil (so_far s)), valid)
run_so (t ∷ ts) s n valid h =
    let b = bind_some (step s t) (λ m. run m ts) n h in
    let is_known = answered s t b.0 valid b.1 in
    let more = run_so ts b.0 n is_known.1 b.2 in
    (more.0 ∙ ap (λ (x : Tokens). x ++ ts) is_known.0 ∙ append_assoc (so_far s) (t ∷ []) ts, more.1)

-- ---- what is read is spelled so

pub finish_spells : (s : State) (st : Statement) → Fine s → finish s ≡ Some st → IsWhole st × Spells (so_far s) st
finish_spells (state.Ended x) st valid h = subst (λ (y : Statement). IsWhole y × Spells (statement_tokens x) y) (some_is x st h) (valid, inl refl)
finish_spells (state.Closed x) st valid h = subst (λ (y : Statement). IsWhole y × Spells (statement_tokens x ++ Mark sign.Semicolon ∷ []) y) (some_is x st h) (valid, inr refl)
finish_spells (state.Target x) st valid h = subst (λ (y : Statement). IsWhole y × Spells (so_far (state.Target x)) y) (some_is (filtered (untested x) None) st h) (whole_filter x [] valid tt, inl (filter_is x []))
finish_spells (state.TestEnd f) st valid h =
    subst (λ (y : Statement). IsWhole y × Spells (so_far (state.TestEnd f)) y) (some_is (filtered f None) st h) (whole_filter f.head f.tests valid.1.0 valid.1.1, inl (filter_is f.head f.tests))
finish_spells _ st valid h = absurd cc

then_ok : (place : ℕ) (r : Option State) (f : State → Result Statement ℕ) (st : Statement) → then (or_at place r) f ≡ Ok st → (n : State) × (r ≡ Some n) × (f n ≡ Ok st)
then_ok place (Some n) f st e = (n, refl, e)
then_ok place None f st e = absurd cc

or_ok : (place : ℕ) (r : Option Statement) (st : Statement) → or_at place r ≡ Ok st → r ≡ Some st
or_ok place (Some x) st e = let is : x ≡ st = cc in ap Some is
or_ok place None st e = absurd cc

pub found_from : (ps : List Placed) (s : State) (end : ℕ) (st : Statement) → Fine s → parse_from s ps end ≡ Ok st → IsWhole st × Spells (so_far s ++ tokens_of ps) st
found_from [] s end st valid h = subst (λ (ts : Tokens). IsWhole st × Spells ts st) (sym (append-nil (so_far s))) (finish_spells s st valid (or_ok end (finish s) st h))
found_from (p ∷ ps) s end st valid h =
    let b = then_ok p.at (step s p.token) (λ n. parse_from n ps end) st h in
    let is_known = answered s p.token b.0 valid b.1 in
    subst (λ (ts : Tokens). IsWhole st × Spells ts st) (ap (λ (ts : Tokens). ts ++ tokens_of ps) is_known.0 ∙ append_assoc (so_far s) (p.token ∷ []) (tokens_of ps)) (found_from ps b.0 end st is_known.1 b.2)

pub parse_run : (ps : List Placed) (s : State) (end : ℕ) (st : Statement) → (run s (tokens_of ps) >>= finish) ≡ Some st → parse_from s ps end ≡ Ok st
parse_run [] s end st h = rw h refl
parse_run (p ∷ ps) s end st h =
    let cases : (r : Option State) → ((r >>= λ n. run n (tokens_of ps)) >>= finish) ≡ Some st → then (or_at p.at r) (λ n. parse_from n ps end) ≡ Ok st = λ r. elim r as (λ r. ((r >>= λ n. run n (tokens_of ps)) >>= finish) ≡ Some st → then (or_at p.at r) (λ n. parse_from n ps end) ≡ Ok st) [
      | Some n ↦ λ h. parse_run ps n end st h
      | None ↦ λ h. absurd cc
    ] in
    cases (step s p.token) h

-- ---- the place of a fault

-- what happened where nothing was read
abbrev Stops : List Placed → State → ℕ → ℕ → Type 0
Stops ps s end at =
    ((front : List Placed) × (p : Placed) × (back : List Placed) × (n : State) × (ps ≡ front ++ p ∷ back) × (at ≡ p.at) × (run s (tokens_of front) ≡ Some n) × (step n p.token ≡ None))
    ⊎ ((n : State) × (at ≡ end) × (run s (tokens_of ps) ≡ Some n) × (finish n ≡ None))

or_err : (place at : ℕ) (r : Option Statement) → or_at place r ≡ Err at → (r ≡ None) × (at ≡ place)
or_err place at (Some x) e = absurd cc
or_err place at None e = (refl, cc)

stops : (ps : List Placed) (s : State) (end at : ℕ) → parse_from s ps end ≡ Err at → Stops ps s end at
stops [] s end at h = let e = or_err end at (finish s) h in inr (s, e.1, refl, e.0)
stops (p ∷ ps) s end at h =
    let cases : (r : Option State) → step s p.token ≡ r → then (or_at p.at r) (λ n. parse_from n ps end) ≡ Err at → Stops (p ∷ ps) s end at = λ r. elim r as (λ r. step s p.token ≡ r → then (or_at p.at r) (λ n. parse_from n ps end) ≡ Err at → Stops (p ∷ ps) s end at) [
      | Some n ↦ λ e h. elim (stops ps n end at h) as (λ _. Stops (p ∷ ps) s end at) [
        | inl w ↦ inl (p ∷ w.0, w.1, w.2, w.3, ap (λ (qs : List Placed). p ∷ qs) w.4, w.5, ap (λ (r : Option State). r >>= λ n. run n (tokens_of w.0)) e ∙ w.6, w.7)
        | inr w ↦ inr (w.0, w.1, ap (λ (r : Option State). r >>= λ n. run n (tokens_of ps)) e ∙ w.2, w.3)
      ]
      | None ↦ λ e h. inl ([], p, ps, s, refl, let same : at ≡ p.at = cc in same, refl, e)
    ] in
    cases (step s p.token) refl h

pub begins_at : (ts : Tokens) (n : State) → run state.Start ts ≡ Some n → Begins ts
begins_at ts n h = let so = run_so ts state.Start n tt h in subst Begins so.0 (viable n so.1)

-- no more tokens help where a step was not accepted
stuck : (front : Tokens) (t : Token) (n : State) (more : Tokens) → run state.Start front ≡ Some n → step n t ≡ None → run state.Start ((front ++ t ∷ []) ++ more) ≡ None
stuck front t n more h none =
    let first : run state.Start (front ++ (t ∷ more)) ≡ None = run_append front (t ∷ more) state.Start ∙ ap (λ (r : Option State). r >>= λ n. run n (t ∷ more)) h ∙ ap (λ (r : Option State). r >>= λ n. run n more) none in
    ap (run state.Start) (append_assoc front (t ∷ []) more) ∙ first

-- what is before the last token has each prefix that does not reach it
pub front_of : (xs : Tokens) (y : Token) (ys zs : Tokens) (w : Token) → xs ++ y ∷ ys ≡ zs ++ w ∷ [] → (r : Tokens) × (zs ≡ xs ++ r)
front_of [] y ys zs w e = (zs, refl)
front_of (x ∷ []) y ys [] w e = absurd cc
front_of (x ∷ v ∷ xs) y ys [] w e = absurd cc
front_of (x ∷ xs) y ys (z ∷ zs) w e =
    let same : x ≡ z = cc in
    let tails : xs ++ y ∷ ys ≡ zs ++ w ∷ [] = cc in
    let more = front_of xs y ys zs w tails in
    (more.0, ap (λ (ts : Tokens). z ∷ ts) more.1 ∙ ap (λ (v : Token). v ∷ (xs ++ more.0)) (sym same))

-- an INSERT whose numbers of names and literals may differ does not begin so
no_insert : (front : Tokens) (t : Token) (n : State) (u : Bool) (tn : TableName) (cs : List (List ℕ)) (vs : List Value) (next : Token) (more : Tokens) → run state.Start front ≡ Some n → step n t ≡ None
    → HasItems cs → HasItems vs → AllByRecursion IsLiteral vs → (front ++ t ∷ []) ++ next ∷ more ≡ insert_tokens (insert_word u) (record { table = tn; columns = cs; values = vs }) → ⊥
no_insert front t n u tn [] vs next more h none names literals all e = absurd names
no_insert front t n u tn (c ∷ cs) [] next more h none names literals all e = absurd literals
no_insert front t n u tn (c ∷ cs) (v ∷ vs) next more h none names literals all e =
    let begun = front_of (front ++ t ∷ []) next more (open_insert u tn c cs v vs) (Mark sign.Close) (e ∙ open_insert_is u tn c cs v vs) in
    none_some (state.LiteralEnd (draft u tn (c ∷ cs) (v ∷ vs))) (sym (stuck front t n begun.0 h none) ∙ ap (run state.Start) (sym begun.1) ∙ open_insert_run u tn c cs v vs all)

no_statement : (front : Tokens) (t : Token) (n : State) (st : Statement) (more : Tokens) → run state.Start front ≡ Some n → step n t ≡ None → IsWhole st → Spells ((front ++ t ∷ []) ++ more) st → ⊥
no_statement front t n st more h none whole spelled =
    none_some st (sym (ap (λ (r : Option State). r >>= finish) (stuck front t n more h none)) ∙ spelled_reads ((front ++ t ∷ []) ++ more) st whole spelled)

none_begins : (front : Tokens) (t : Token) (n : State) → run state.Start front ≡ Some n → step n t ≡ None → NoneBegins (front ++ t ∷ [])
none_begins front t n h none (inl b) = no_statement front t n b.0 b.1 h none b.3 b.4
none_begins front t n h none (inr b) = no_insert front t n b.0 b.1.table b.1.columns b.1.values b.2 b.3 h none b.5 b.6 b.7 b.8

pub place_from : (ps : List Placed) (end at : ℕ) → parse_from state.Start ps end ≡ Err at → IsFirstWrong ps end at
place_from ps end at h =
    elim (stops ps state.Start end at h) as (λ _. IsFirstWrong ps end at) [
      | inl w ↦ inl (w.0, w.1, w.2, w.4, w.5, begins_at (tokens_of w.0) w.3 w.6, none_begins (tokens_of w.0) w.1.token w.3 w.6 w.7)
      | inr w ↦ inr (w.1, begins_at (tokens_of ps) w.0 w.2, λ st whole spelled. none_some st (sym (ap (λ (r : Option State). r >>= finish) w.2 ∙ w.3) ∙ spelled_reads (tokens_of ps) st whole spelled))
    ]
