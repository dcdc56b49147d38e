-- Each statement's tokens are read as it.
use Rattle.std.proofs.Common.{◌≡◌, ℕ, ℤ, pos, negsuc, Bool, true, false, List, [], ◌∷◌, ◌++◌, length, Option, Some, None, refl, sym, ap, ◌∙◌, append_assoc, inl, inr, arith}
use Rattle.std.specs.Prelude.{IfSome}
use Rattle.std.specs.List.{flat_map, AllByRecursion}
use Rattle.std.proofs.lemmas.Bool.{eq-eqb}
use Rattle.std.proofs.lemmas.List.{append-nil}
use Rattle.sdb_sqltext.specs.Types.{Comparison, Pair, Statement, TableName, Test, Token, Value}
use Rattle.sdb_types.specs.declared.value.Value.TheVariants as value
use Rattle.sdb_model.specs.declared.statement.Comparison.TheVariants.{Eq, Ne, Lt, Le, Gt, Ge}
use Rattle.sdb_model.specs.declared.statement.Statement.TheVariants as statement
use Rattle.sdb_model.specs.declared.statement.Test.TheVariants as test
use Rattle.sdb_model.specs.declared.token.Keyword.TheVariants as word
use Rattle.sdb_model.specs.declared.token.Sign.TheVariants as sign
use Rattle.sdb_model.specs.declared.token.Token.TheVariants.{Word, Name, Sign as Mark}
use Rattle.sdb_sqltext.specs.States.{Draft}
use Rattle.sdb_sqltext.specs.Heads.{Head}
use Rattle.sdb_sqltext.specs.Heads as head
use Rattle.sdb_sqltext.specs.States.{Filter}
use Rattle.sdb_sqltext.specs.States.{State}
use Rattle.sdb_sqltext.specs.States as state
use Rattle.sdb_model.specs.Sql.{Tokens, name_tokens, names_tokens, literal_token, literal_tokens, literals_tokens, comparison_sign, test_tokens, where_tokens, limit_tokens, set_tokens, table_tokens, insert_word, insert_tokens, update_tokens, select_tokens, statement_tokens, Spells, HasItems, IsLiteral, IsValue, IsTest, IsSet, IsFromZero, IsWhole}
use Rattle.sdb_sqltext.specs.Machine.{literal_of, value_of, sign_comparison, with_name, with_literal, with_test, with_set, inserted, filtered_by, untested, step}
use Rattle.sdb_sqltext.specs.Parsing.{finish}
use Rattle.sdb_types.specs.Options.{◌>>=◌}

-- what tokens make of a state
abbrev pub run : State → Tokens → Option State
run s [] = Some s
run s (t ∷ ts) = step s t >>= λ n. run n ts

pub run_append : (xs ys : Tokens) (s : State) → run s (xs ++ ys) ≡ (run s xs >>= λ n. run n ys)
run_append [] ys s = refl
run_append (x ∷ xs) ys s =
    let cases : (r : Option State) → (r >>= λ n. run n (xs ++ ys)) ≡ ((r >>= λ n. run n xs) >>= λ n. run n ys) = λ r. elim r as (λ r. (r >>= λ n. run n (xs ++ ys)) ≡ ((r >>= λ n. run n xs) >>= λ n. run n ys)) [
      | Some n ↦ run_append xs ys n
      | None ↦ refl
    ] in
    cases (step s x)

-- one step
goes : (s n : State) (t : Token) (rest : Tokens) → step s t ≡ Some n → run s (t ∷ rest) ≡ run n rest
goes s n t rest e = ap (λ (r : Option State). r >>= λ n. run n rest) e

-- ---- parts of tokens

value_known : (v : Value) → IsValue v → value_of (literal_token v) ≡ Some v
value_known value.Null h = absurd h
value_known (value.Bool true) h = refl
value_known (value.Bool false) h = refl
value_known (value.Int n) h = absurd h
value_known (value.BigInt n) h = refl
value_known (value.Text t) h = refl
value_known (value.Blob b) h = refl

literal_known : (v : Value) → IsLiteral v → literal_of (literal_token v) ≡ Some v
literal_known value.Null h = refl
literal_known (value.Bool true) h = refl
literal_known (value.Bool false) h = refl
literal_known (value.Int n) h = absurd h
literal_known (value.BigInt n) h = refl
literal_known (value.Text t) h = refl
literal_known (value.Blob b) h = refl

comparison_known : (c : Comparison) → sign_comparison (comparison_sign c) ≡ Some c
comparison_known Eq = refl
comparison_known Ne = refl
comparison_known Lt = refl
comparison_known Le = refl
comparison_known Gt = refl
comparison_known Ge = refl

-- ---- lists

names_run : (names : List (List ℕ)) (d : Draft) (rest : Tokens) → run (state.NameEnd d) (flat_map (λ y. Mark sign.Comma ∷ name_tokens y) names ++ rest) ≡ run (state.NameEnd (record d { columns = d.columns ++ names })) rest
names_run [] d rest = ap (λ (ns : List (List ℕ)). run (state.NameEnd (record d { columns = ns })) rest) (sym (append-nil d.columns))
names_run (n ∷ ns) d rest = names_run ns (with_name d n) rest ∙ ap (λ (ms : List (List ℕ)). run (state.NameEnd (record d { columns = ms })) rest) (append_assoc d.columns (n ∷ []) ns)

literal_run : (v : Value) (d : Draft) (rest : Tokens) → IsLiteral v → run (state.NextLiteral d) (literal_token v ∷ rest) ≡ run (state.LiteralEnd (with_literal d v)) rest
literal_run v d rest is = goes (state.NextLiteral d) (state.LiteralEnd (with_literal d v)) (literal_token v) rest (ap (λ (r : Option Value). r >>= λ v. Some (state.LiteralEnd (with_literal d v))) (literal_known v is))

literals_run : (vs : List Value) (d : Draft) (rest : Tokens) → AllByRecursion IsLiteral vs → run (state.LiteralEnd d) (flat_map (λ y. Mark sign.Comma ∷ literal_tokens y) vs ++ rest) ≡ run (state.LiteralEnd (record d { values = d.values ++ vs })) rest
literals_run [] d rest all = ap (λ (ns : List Value). run (state.LiteralEnd (record d { values = ns })) rest) (sym (append-nil d.values))
literals_run (v ∷ vs) d rest all =
    literal_run v d (flat_map (λ y. Mark sign.Comma ∷ literal_tokens y) vs ++ rest) all.0 ∙ literals_run vs (with_literal d v) rest all.1
    ∙ ap (λ (ms : List Value). run (state.LiteralEnd (record d { values = ms })) rest) (append_assoc d.values (v ∷ []) vs)

columns_run : (cs front : List (List ℕ)) (rest : Tokens) → run (state.ColumnEnd front) (flat_map (λ y. Mark sign.Comma ∷ name_tokens y) cs ++ rest) ≡ run (state.ColumnEnd (front ++ cs)) rest
columns_run [] front rest = ap (λ (ns : List (List ℕ)). run (state.ColumnEnd ns) rest) (sym (append-nil front))
columns_run (c ∷ cs) front rest = columns_run cs (front ++ c ∷ []) rest ∙ ap (λ (ms : List (List ℕ)). run (state.ColumnEnd ms) rest) (append_assoc front (c ∷ []) cs)

set_run : (p : Pair) (t : TableName) (sets : List Pair) (rest : Tokens) → IsSet p → run (state.NextSet t sets) (set_tokens p ++ rest) ≡ run (state.Target (head.Update t (sets ++ p ∷ []))) rest
set_run p t sets rest is =
    goes (state.SetTo t sets p.name) (with_set t sets p.name p.value) (literal_token p.value) rest (ap (λ (r : Option Value). r >>= λ v. Some (with_set t sets p.name v)) (literal_known p.value is))

sets_run : (ps : List Pair) (t : TableName) (sets : List Pair) (rest : Tokens) → AllByRecursion IsSet ps → run (state.Target (head.Update t sets)) (flat_map (λ y. Mark sign.Comma ∷ set_tokens y) ps ++ rest) ≡ run (state.Target (head.Update t (sets ++ ps))) rest
sets_run [] t sets rest all = ap (λ (ns : List Pair). run (state.Target (head.Update t ns)) rest) (sym (append-nil sets))
sets_run (p ∷ ps) t sets rest all =
    set_run p t sets (flat_map (λ y. Mark sign.Comma ∷ set_tokens y) ps ++ rest) all.0 ∙ sets_run ps t (sets ++ p ∷ []) rest all.1
    ∙ ap (λ (ms : List Pair). run (state.Target (head.Update t ms)) rest) (append_assoc sets (p ∷ []) ps)

-- ---- tests

compare_run : (n : List ℕ) (c : Comparison) (v : Value) (f : Filter) (rest : Tokens) → IsValue v → run (state.NextTest f) (test_tokens (test.Compare n c v) ++ rest) ≡ run (state.TestEnd (with_test f (test.Compare n c v))) rest
compare_run n c v f rest is =
    goes (state.Compare f n) (state.Right f n c) (Mark (comparison_sign c)) (literal_token v ∷ rest) (ap (λ (r : Option Comparison). r >>= λ c. Some (state.Right f n c)) (comparison_known c))
    ∙ goes (state.Right f n c) (state.TestEnd (with_test f (test.Compare n c v))) (literal_token v) rest (ap (λ (r : Option Value). r >>= λ v. Some (state.TestEnd (with_test f (test.Compare n c v)))) (value_known v is))

test_run : (t : Test) (f : Filter) (rest : Tokens) → IsTest t → run (state.NextTest f) (test_tokens t ++ rest) ≡ run (state.TestEnd (with_test f t)) rest
test_run (test.Compare n c v) f rest is = compare_run n c v f rest is
test_run (test.IsNull n) f rest is = refl
test_run (test.NotNull n) f rest is = refl

abbrev more_tests : List Test → Tokens
more_tests ts = flat_map (λ y. Word word.And ∷ test_tokens y) ts

tests_run : (ts : List Test) (f : Filter) (rest : Tokens) → AllByRecursion IsTest ts → run (state.TestEnd f) (more_tests ts ++ rest) ≡ run (state.TestEnd (record f { tests = f.tests ++ ts })) rest
tests_run [] f rest all = ap (λ (ts : List Test). run (state.TestEnd (record f { tests = ts })) rest) (sym (append-nil f.tests))
tests_run (t ∷ ts) f rest all =
    let grouped : more_tests (t ∷ ts) ++ rest ≡ Word word.And ∷ (test_tokens t ++ (more_tests ts ++ rest)) = ap (λ (x : Tokens). Word word.And ∷ x) (append_assoc (test_tokens t) (more_tests ts) rest) in
    ap (run (state.TestEnd f)) grouped ∙ test_run t f (more_tests ts ++ rest) all.0 ∙ tests_run ts (with_test f t) rest all.1
    ∙ ap (λ (us : List Test). run (state.TestEnd (record f { tests = us })) rest) (append_assoc f.tests (t ∷ []) ts)

where_run : (h : Head) (t : Test) (ts : List Test) (rest : Tokens) → AllByRecursion IsTest (t ∷ ts) → run (state.Target h) (where_tokens (t ∷ ts) ++ rest) ≡ run (state.TestEnd (record { head = h; tests = t ∷ ts })) rest
where_run h t ts rest all =
    let f : Filter = untested h in
    ap (run (state.NextTest f)) (append_assoc (test_tokens t) (more_tests ts) rest) ∙ test_run t f (more_tests ts ++ rest) all.0 ∙ tests_run ts (with_test f t) rest all.1

-- ---- what ends a statement

pub record Ends (k : State → Option Statement) : Type 0 where
  pub ended : (st : Statement) → k (state.Ended st) ≡ Some st
  pub target : (h : Head) → k (state.Target h) ≡ Some (filtered_by h [] None)
  pub tested : (h : Head) (ts : List Test) → k (state.TestEnd (record { head = h; tests = ts })) ≡ Some (filtered_by h ts None)

abbrev pub reads : (State → Option Statement) → Tokens → Option Statement
reads k ts = run state.Start ts >>= k

abbrev onto_end : (State → Option Statement) → Option State → Option Statement
onto_end k r = r >>= k

where_end : (k : State → Option Statement) → Ends k → (h : Head) (ts : List Test) → AllByRecursion IsTest ts → (run (state.Target h) (where_tokens ts) >>= k) ≡ Some (filtered_by h ts None)
where_end k e h [] all = e.target h
where_end k e h (t ∷ ts) all = ap (onto_end k) (ap (run (state.Target h)) (sym (append-nil (where_tokens (t ∷ ts)))) ∙ where_run h t ts [] all) ∙ e.tested h (t ∷ ts)

limit_end : (k : State → Option Statement) → Ends k → (t : TableName) (cs : Option (List (List ℕ))) (ts : List Test) (o : Option ℤ) → AllByRecursion IsTest ts → IfSome o IsFromZero
    → (run (state.Target (head.Select t cs)) (where_tokens ts ++ limit_tokens o) >>= k) ≡ Some (filtered_by (head.Select t cs) ts o)
limit_end k e t cs [] None all lim = e.target (head.Select t cs)
limit_end k e t cs [] (Some (pos n)) all lim = e.ended (filtered_by (head.Select t cs) [] (Some (pos n)))
limit_end k e t cs [] (Some (negsuc n)) all lim = absurd lim
limit_end k e t cs (u ∷ us) None all lim = ap (onto_end k) (where_run (head.Select t cs) u us [] all) ∙ e.tested (head.Select t cs) (u ∷ us)
limit_end k e t cs (u ∷ us) (Some (pos n)) all lim =
    ap (onto_end k) (where_run (head.Select t cs) u us (limit_tokens (Some (pos n))) all) ∙ e.ended (filtered_by (head.Select t cs) (u ∷ us) (Some (pos n)))
limit_end k e t cs (u ∷ us) (Some (negsuc n)) all lim = absurd lim

-- ---- the statements

grouped_four : (x a b c : Tokens) → ((x ++ a) ++ b) ++ c ≡ x ++ (a ++ (b ++ c))
grouped_four x a b c = simp append_assoc

select_end : (k : State → Option Statement) → Ends k → (t : TableName) (cs : Option (List (List ℕ))) (ts : List Test) (o : Option ℤ) → IfSome cs HasItems → AllByRecursion IsTest ts → IfSome o IsFromZero
    → reads k (select_tokens (record { table = t; columns = cs; tests = ts; limit = o })) ≡ Some (filtered_by (head.Select t cs) ts o)
select_end k e t None ts o has all lim = limit_end k e t None ts o all lim
select_end k e t (Some []) ts o has all lim = absurd has
select_end k e t (Some (c ∷ cs)) ts o has all lim =
    let from : Tokens = Word word.From ∷ table_tokens t in
    let names : Tokens = flat_map (λ y. Mark sign.Comma ∷ name_tokens y) cs in
    ap (λ (x : Tokens). onto_end k (run (state.ColumnEnd (c ∷ [])) x)) (grouped_four names from (where_tokens ts) (limit_tokens o))
    ∙ ap (onto_end k) (columns_run cs (c ∷ []) (from ++ (where_tokens ts ++ limit_tokens o)))
    ∙ limit_end k e t (Some (c ∷ cs)) ts o all lim

update_end : (k : State → Option Statement) → Ends k → (t : TableName) (ps : List Pair) (ts : List Test) → HasItems ps → AllByRecursion IsSet ps → AllByRecursion IsTest ts
    → reads k (update_tokens (record { table = t; sets = ps; tests = ts })) ≡ Some (filtered_by (head.Update t ps) ts None)
update_end k e t [] ts has sets all = absurd has
update_end k e t (p ∷ ps) ts has sets all =
    let more : Tokens = flat_map (λ y. Mark sign.Comma ∷ set_tokens y) ps in
    ap (onto_end k) (set_run p t [] (more ++ where_tokens ts) sets.0 ∙ sets_run ps t (p ∷ []) (where_tokens ts) sets.1) ∙ where_end k e (head.Update t (p ∷ ps)) ts all

-- an INSERT up to the `)` that closes its literals
abbrev pub open_insert : Bool → TableName → List ℕ → List (List ℕ) → Value → List Value → Tokens
open_insert u t c cs v vs =
    Word (insert_word u) ∷ Word word.Into ∷ Name t.ns ∷ Mark sign.Dot ∷ Name t.table ∷ Mark sign.Open ∷ (names_tokens (c ∷ cs) ++ (Mark sign.Close ∷ Word word.Values ∷ Mark sign.Open ∷ literals_tokens (v ∷ vs)))

abbrev pub draft : Bool → TableName → List (List ℕ) → List Value → Draft
draft u t cs vs = record { upsert = u; table = t; columns = cs; values = vs }

insert_begins : (u : Bool) (t : TableName) (c : List ℕ) (rest : Tokens) → run state.Start (Word (insert_word u) ∷ Word word.Into ∷ Name t.ns ∷ Mark sign.Dot ∷ Name t.table ∷ Mark sign.Open ∷ Name c ∷ rest) ≡ run (state.NameEnd (draft u t (c ∷ []) [])) rest
insert_begins true t c rest = refl
insert_begins false t c rest = refl

pub open_insert_run : (u : Bool) (t : TableName) (c : List ℕ) (cs : List (List ℕ)) (v : Value) (vs : List Value) → AllByRecursion IsLiteral (v ∷ vs) → run state.Start (open_insert u t c cs v vs) ≡ Some (state.LiteralEnd (draft u t (c ∷ cs) (v ∷ vs)))
open_insert_run u t c cs v vs all =
    let more : Tokens = flat_map (λ y. Mark sign.Comma ∷ literal_tokens y) vs in
    let values : Tokens = Mark sign.Close ∷ Word word.Values ∷ Mark sign.Open ∷ literal_token v ∷ more in
    insert_begins u t c (flat_map (λ y. Mark sign.Comma ∷ name_tokens y) cs ++ values) ∙ names_run cs (draft u t (c ∷ []) []) values
    ∙ literal_run v (draft u t (c ∷ cs) []) more all.0
    ∙ ap (run (state.LiteralEnd (draft u t (c ∷ cs) (v ∷ [])))) (sym (append-nil more)) ∙ literals_run vs (draft u t (c ∷ cs) (v ∷ [])) [] all.1

pub open_insert_is : (u : Bool) (t : TableName) (c : List ℕ) (cs : List (List ℕ)) (v : Value) (vs : List Value) → insert_tokens (insert_word u) (record { table = t; columns = c ∷ cs; values = v ∷ vs }) ≡ open_insert u t c cs v vs ++ Mark sign.Close ∷ []
open_insert_is u t c cs v vs = refl

closed_insert : (k : State → Option Statement) → Ends k → (d : Draft) → length d.columns ≡ length d.values → (run (state.LiteralEnd d) (Mark sign.Close ∷ []) >>= k) ≡ Some (inserted d)
closed_insert k e d same = rw (eq-eqb _ _ same) (e.ended (inserted d))

insert_end : (k : State → Option Statement) → Ends k → (u : Bool) (t : TableName) (cs : List (List ℕ)) (vs : List Value) → HasItems cs → length cs ≡ length vs → AllByRecursion IsLiteral vs
    → reads k (insert_tokens (insert_word u) (record { table = t; columns = cs; values = vs })) ≡ Some (inserted (draft u t cs vs))
insert_end k e u t [] vs has same all = absurd has
insert_end k e u t (c ∷ cs) [] has same all = absurd (omega arith)
insert_end k e u t (c ∷ cs) (v ∷ vs) has same all =
    ap (onto_end k) (run_append (open_insert u t c cs v vs) (Mark sign.Close ∷ []) state.Start ∙ ap (λ (r : Option State). r >>= λ n. run n (Mark sign.Close ∷ [])) (open_insert_run u t c cs v vs all))
    ∙ closed_insert k e (draft u t (c ∷ cs) (v ∷ vs)) same

pub statement_reads : (k : State → Option Statement) → Ends k → (st : Statement) → IsWhole st → reads k (statement_tokens st) ≡ Some st
statement_reads k e statement.Begin whole = e.ended statement.Begin
statement_reads k e statement.Commit whole = e.ended statement.Commit
statement_reads k e statement.Rollback whole = e.ended statement.Rollback
statement_reads k e statement.Vacuum whole = e.ended statement.Vacuum
statement_reads k e (statement.Insert i) whole = insert_end k e false i.table i.columns i.values whole.0 whole.1 whole.2
statement_reads k e (statement.Upsert i) whole = insert_end k e true i.table i.columns i.values whole.0 whole.1 whole.2
statement_reads k e (statement.Update u) whole = update_end k e u.table u.sets u.tests whole.0 whole.1 whole.2
statement_reads k e (statement.Delete d) whole = where_end k e (head.Delete d.table) d.tests whole
statement_reads k e (statement.Select s) whole = select_end k e s.table s.columns s.tests s.limit whole.0 whole.1 whole.2

-- ---- with `;` or without

abbrev then_semicolon : State → Option Statement
then_semicolon n = run n (Mark sign.Semicolon ∷ []) >>= finish

regrouped : (r : Option State) (ys : Tokens) → ((r >>= λ n. run n ys) >>= finish) ≡ (r >>= λ n. run n ys >>= finish)
regrouped (Some n) ys = refl
regrouped None ys = refl

target_semicolon : (h : Head) → then_semicolon (state.Target h) ≡ Some (filtered_by h [] None)
target_semicolon (head.Update t sets) = refl
target_semicolon (head.Delete t) = refl
target_semicolon (head.Select t cs) = refl

tested_semicolon : (h : Head) (ts : List Test) → then_semicolon (state.TestEnd (record { head = h; tests = ts })) ≡ Some (filtered_by h ts None)
tested_semicolon (head.Update t sets) ts = refl
tested_semicolon (head.Delete t) ts = refl
tested_semicolon (head.Select t cs) ts = refl

pub whole_reads : (st : Statement) → IsWhole st → reads finish (statement_tokens st) ≡ Some st
whole_reads st whole = statement_reads finish (record { ended = λ st. refl; target = λ h. refl; tested = λ h ts. refl }) st whole

pub spelled_reads : (ts : Tokens) (st : Statement) → IsWhole st → Spells ts st → reads finish ts ≡ Some st
spelled_reads ts st whole (inl e) = rw e (whole_reads st whole)
spelled_reads ts st whole (inr e) =
    rw e (ap (λ (r : Option State). r >>= finish) (run_append (statement_tokens st) (Mark sign.Semicolon ∷ []) state.Start) ∙ regrouped (run state.Start (statement_tokens st)) (Mark sign.Semicolon ∷ [])
    ∙ statement_reads then_semicolon (record { ended = λ st. refl; target = target_semicolon; tested = tested_semicolon }) st whole)
