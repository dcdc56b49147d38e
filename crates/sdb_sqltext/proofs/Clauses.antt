-- What the reader's answer is to the grammar: it is what a text is read as, or what it is refused for, and each text has
-- one such answer.
use Rattle.std.proofs.Common.{◌≡◌, ℕ, Bool, List, [], ◌∷◌, ◌++◌, length, Option, Some, None, Result, Ok, Err, refl, sym, ap, subst, ◌∙◌, inl, inr}
use Rattle.std.specs.List.{AllByRecursion}
use Rattle.sdb_sqltext.specs.Types.{Placed, Refusal, Statement, TableName, Token, Value}
use Rattle.sdb_model.specs.declared.token.Sign.TheVariants as sign
use Rattle.sdb_model.specs.declared.token.Token.TheVariants.{Sign as Mark}
use Rattle.sdb_model.specs.SqlTokens.{Fault, Bad, Wide, Lexed, lexed}
use Rattle.sdb_model.specs.Sql.{Tokens, insert_word, insert_tokens, tokens_of, Spells, HasItems, IsLiteral, IsWhole, Reads, BeginsBy, Begins, NoneBegins, IsFirstWrong, Refuses}
use Rattle.sdb_sqltext.specs.States.{State}
use Rattle.sdb_sqltext.specs.States as state
use Rattle.sdb_sqltext.specs.Machine.{step}
use Rattle.sdb_sqltext.specs.Parsing.{finish, or_at, then, parse_from, no_statement, of_tokens, of_fault, parsed_by, parsed}
use Rattle.sdb_sqltext.proofs.Complete.{run, run_append, spelled_reads, open_insert, open_insert_run, open_insert_is, draft}
use Rattle.sdb_sqltext.proofs.Places.{run_so, finish_spells, found_from, parse_run, front_of, begins_at, place_from}
use Rattle.sdb_types.proofs.Public.{bind_some, by_option}
use Rattle.sdb_types.specs.Options.{◌>>=◌}

-- ---- from the reader to the grammar

of_ok : (r : Result Statement ℕ) (st : Statement) → of_tokens r ≡ Ok st → r ≡ Ok st
of_ok (Ok x) st e = let is : x ≡ st = cc in ap Ok is
of_ok (Err at) st e = absurd cc

pub of_err : (r : Result Statement ℕ) (f : Refusal) → of_tokens r ≡ Err f → (at : ℕ) × (r ≡ Err at) × (no_statement at ≡ f)
of_err (Ok x) f e = absurd cc
of_err (Err at) f e = (at, refl, cc)

pub reads_by : (text : List ℕ) (l : Lexed) (st : Statement) → lexed text ≡ l → parsed_by (length text) l ≡ Ok st → Reads text st
reads_by text (Ok ps) st e h =
    let found = found_from ps state.Start (length text) st tt (of_ok (parse_from state.Start ps (length text)) st h) in
    (ps, e, found.0, found.1)
reads_by text (Err f) st e h = absurd cc

fault_refuses : (text : List ℕ) (k : Fault) (at : ℕ) → lexed text ≡ Err (k, at) → Refuses text (of_fault k at)
fault_refuses text Bad at e = inl (refl, e)
fault_refuses text Wide at e = inr (inr (refl, e))

pub refuses_by : (text : List ℕ) (l : Lexed) (r : Refusal) → lexed text ≡ l → parsed_by (length text) l ≡ Err r → Refuses text r
refuses_by text (Ok ps) r e h =
    let fault = of_err (parse_from state.Start ps (length text)) r h in
    subst (Refuses text) fault.2 (inr (inl (refl, (ps, e, place_from ps (length text) fault.0 fault.1))))
refuses_by text (Err f) r e h =
    let is : of_fault f.0 f.1 ≡ r = cc in
    subst (Refuses text) is (fault_refuses text f.0 f.1 e)

-- ---- from the grammar to the reader

pub reads_parsed : (text : List ℕ) (st : Statement) → Reads text st → parsed text ≡ Ok st
reads_parsed text st (ps, lexes, whole, spelled) =
    ap (parsed_by (length text)) lexes ∙ ap of_tokens (parse_run ps state.Start (length text) st (spelled_reads (tokens_of ps) st whole spelled))

-- tokens with which some statement begins are read

insert_run : (ts : Tokens) (u : Bool) (t : TableName) (cs : List (List ℕ)) (vs : List Value) (next : Token) (more : Tokens) → HasItems cs → HasItems vs → AllByRecursion IsLiteral vs
    → ts ++ next ∷ more ≡ insert_tokens (insert_word u) (record { table = t; columns = cs; values = vs }) → (n : State) × (run state.Start ts ≡ Some n)
insert_run ts u t [] vs next more names literals all e = absurd names
insert_run ts u t (c ∷ cs) [] next more names literals all e = absurd literals
insert_run ts u t (c ∷ cs) (v ∷ vs) next more names literals all e =
    let begun = front_of ts next more (open_insert u t c cs v vs) (Mark sign.Close) (e ∙ open_insert_is u t c cs v vs) in
    let whole = sym (run_append ts begun.0 state.Start) ∙ ap (run state.Start) (sym begun.1) ∙ open_insert_run u t c cs v vs all in
    let split = bind_some (run state.Start ts) (λ n. run n begun.0) (state.LiteralEnd (draft u t (c ∷ cs) (v ∷ vs))) whole in
    (split.0, split.1)

begins_run : (ts : Tokens) → Begins ts → (n : State) × (run state.Start ts ≡ Some n)
begins_run ts (inl b) =
    let ended = bind_some (run state.Start (ts ++ b.1)) finish b.0 (spelled_reads (ts ++ b.1) b.0 b.3 b.4) in
    let split = bind_some (run state.Start ts) (λ n. run n b.1) ended.0 (sym (run_append ts b.1 state.Start) ∙ ended.1) in
    (split.0, split.1)
begins_run ts (inr b) = insert_run ts b.0 b.1.table b.1.columns b.1.values b.2 b.3 b.5 b.6 b.7 b.8

begins_any : (ts : Tokens) → Begins ts → BeginsBy (λ more. Unit {0}) ts
begins_any ts (inl b) = inl (b.0, b.1, tt, b.3, b.4)
begins_any ts (inr b) = inr (b.0, b.1, b.2, b.3, tt, b.5, b.6, b.7, b.8)

not_taken : (ts : Tokens) (t : Token) (n : State) → run state.Start ts ≡ Some n → NoneBegins (ts ++ t ∷ []) → step n t ≡ None
not_taken ts t n h none =
    by_option (step n t)
    (λ m e. absurd (none (begins_any (ts ++ t ∷ []) (begins_at (ts ++ t ∷ []) m
    (run_append ts (t ∷ []) state.Start ∙ ap (λ (r : Option State). r >>= λ n. run n (t ∷ [])) h ∙ ap (λ (r : Option State). r >>= λ n. Some n) e)))))
    (λ e. e)

parse_stops : (front back : List Placed) (p : Placed) (s n : State) (end : ℕ) → run s (tokens_of front) ≡ Some n → step n p.token ≡ None → parse_from s (front ++ p ∷ back) end ≡ Err p.at
parse_stops [] back p s n end h e =
    let is : s ≡ n = cc in
    ap (λ (r : Option State). then (or_at p.at r) (λ n. parse_from n back end)) (ap (λ (m : State). step m p.token) is ∙ e)
parse_stops (q ∷ front) back p s n end h e =
    let b = bind_some (step s q.token) (λ m. run m (tokens_of front)) n h in
    ap (λ (r : Option State). then (or_at q.at r) (λ n. parse_from n (front ++ p ∷ back) end)) b.1 ∙ parse_stops front back p b.0 n end b.2 e

parse_ends : (ps : List Placed) (s n : State) (end : ℕ) → run s (tokens_of ps) ≡ Some n → finish n ≡ None → parse_from s ps end ≡ Err end
parse_ends [] s n end h e =
    let is : s ≡ n = cc in
    ap (or_at end) (ap finish is ∙ e)
parse_ends (q ∷ ps) s n end h e =
    let b = bind_some (step s q.token) (λ m. run m (tokens_of ps)) n h in
    ap (λ (r : Option State). then (or_at q.at r) (λ n. parse_from n ps end)) b.1 ∙ parse_ends ps b.0 n end b.2 e

not_ended : (ps : List Placed) (n : State) → run state.Start (tokens_of ps) ≡ Some n → ((st : Statement) → IsWhole st → Spells (tokens_of ps) st → ⊥) → finish n ≡ None
not_ended ps n h none =
    let so = run_so (tokens_of ps) state.Start n tt h in
    by_option (finish n)
    (λ st e. let spelled = finish_spells n st so.1 e in absurd (none st spelled.0 (subst (λ (ts : Tokens). Spells ts st) so.0 spelled.1)))
    (λ e. e)

wrong_parsed : (ps : List Placed) (end at : ℕ) → IsFirstWrong ps end at → parse_from state.Start ps end ≡ Err at
wrong_parsed ps end at (inl w) =
    let begun = begins_run (tokens_of w.0) w.5 in
    ap (λ (qs : List Placed). parse_from state.Start qs end) w.3 ∙ parse_stops w.0 w.2 w.1 state.Start begun.0 end begun.1 (not_taken (tokens_of w.0) w.1.token begun.0 begun.1 w.6) ∙ ap Err (sym w.4)
wrong_parsed ps end at (inr w) =
    let begun = begins_run (tokens_of ps) w.1 in
    parse_ends ps state.Start begun.0 end begun.1 (not_ended ps begun.0 begun.1 w.2) ∙ ap Err (sym w.0)

of_kind : (kind : ℕ) (r : Refusal) → r.kind ≡ kind → record { kind = kind; place = r.place } ≡ r
of_kind kind r e = ap (λ (k : ℕ). record { kind = k; place = r.place }) (sym e)

refused_parsed : (text : List ℕ) (r : Refusal) → Refuses text r → parsed text ≡ Err r
refused_parsed text r (inl (kind, e)) = ap (parsed_by (length text)) e ∙ ap Err (of_kind 1 r kind)
refused_parsed text r (inr (inl (kind, (ps, e, wrong)))) = ap (parsed_by (length text)) e ∙ ap of_tokens (wrong_parsed ps (length text) r.place wrong) ∙ ap Err (of_kind 2 r kind)
refused_parsed text r (inr (inr (kind, e))) = ap (parsed_by (length text)) e ∙ ap Err (of_kind 3 r kind)

-- ---- one answer

pub one_statement : (text : List ℕ) (a b : Statement) → Reads text a → Reads text b → a ≡ b
one_statement text a b x y = let p = reads_parsed text a x in let q = reads_parsed text b y in cc

pub one_refusal : (text : List ℕ) (a b : Refusal) → Refuses text a → Refuses text b → a ≡ b
one_refusal text a b x y = let p = refused_parsed text a x in let q = refused_parsed text b y in cc

pub not_both : (text : List ℕ) (st : Statement) (r : Refusal) → Reads text st → Refuses text r → ⊥
not_both text st r x y = let p = reads_parsed text st x in let q = refused_parsed text r y in cc
