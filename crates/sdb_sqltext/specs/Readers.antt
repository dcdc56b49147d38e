-- What each part of a statement is read as, from the placed tokens at the start: the part and the tokens after it, or the
-- place where it breaks off.
use Rattle.std.specs.Prelude.{ℕ, ℤ, zero, suc, ◌==◌, if◌then◌else◌, List, [], ◌∷◌, ◌++◌, length, Option, Some, None, Result, Ok, Err}
use Rattle.sdb_sqltext.specs.Types.{Insert, Keyword, Pair, Placed, Refusal, Sign, Statement, TableName, Test, Token, Value}
use Rattle.sdb_model.specs.declared.statement.Statement.TheVariants as statement
use Rattle.sdb_model.specs.declared.statement.Test.TheVariants as test
use Rattle.sdb_model.specs.declared.token.Keyword.TheVariants as word
use Rattle.sdb_model.specs.declared.token.Sign.TheVariants as sign
use Rattle.sdb_model.specs.Sql.{is_word, is_sign}
use Rattle.sdb_sqltext.specs.Machine.{name_of, value_of, literal_of, comparison_of, limit_of}
use Rattle.sdb_sqltext.specs.Parsing.{or_at, then as and_then, of_tokens, of_fault}
use Rattle.sdb_model.specs.SqlTokens.{Lexed}

abbrev pub Read : Type 0 → Type 0
Read A = Result (A × List Placed) ℕ

-- where the next token is, or the text's end
abbrev pub place : List Placed → ℕ → ℕ
place [] end = end
place (p ∷ ps) end = p.at

-- the tokens after this word or sign, where it comes next
abbrev pub next_word : Keyword → List Placed → Option (List Placed)
next_word k [] = None
next_word k (p ∷ ps) = if is_word k p.token then Some ps else None

abbrev pub next_sign : Sign → List Placed → Option (List Placed)
next_sign k [] = None
next_sign k (p ∷ ps) = if is_sign k p.token then Some ps else None

abbrev pub after_word : Keyword → List Placed → ℕ → Result (List Placed) ℕ
after_word k ps end = or_at (place ps end) (next_word k ps)

abbrev pub after_sign : Sign → List Placed → ℕ → Result (List Placed) ℕ
after_sign k ps end = or_at (place ps end) (next_sign k ps)

-- a token with a part
abbrev pub part_at : {A : Type 0} → (Token → Option A) → List Placed → ℕ → Read A
part_at part [] end = Err end
part_at part (p ∷ ps) end = and_then (or_at p.at (part p.token)) (λ x. Ok (x, ps))

abbrev pub choose : {A B : Type 0} → Option A → (A → B) → B → B
choose (Some x) f y = f x
choose None f y = y

-- more items, each after what comes between, in at most so many turns
abbrev pub items_on : {A : Type 0} → (List Placed → ℕ → Read A) → (List Placed → Option (List Placed)) → ℕ → ℕ → List A → List Placed → Read (List A)
items_on item next end zero xs ps = Ok (xs, ps)
items_on item next end (suc n) xs ps = choose (next ps) (λ more. and_then (item more end) (λ r. items_on item next end n (xs ++ r.0 ∷ []) r.1)) (Ok (xs, ps))

abbrev pub list_at : {A : Type 0} → (List Placed → ℕ → Read A) → (List Placed → Option (List Placed)) → List Placed → ℕ → Read (List A)
list_at item next ps end = and_then (item ps end) (λ r. items_on item next end (length r.1) (r.0 ∷ []) r.1)

abbrev pub name_at : List Placed → ℕ → Read (List ℕ)
name_at = part_at name_of

abbrev pub literal_at : List Placed → ℕ → Read Value
literal_at = part_at literal_of

abbrev pub names_at : List Placed → ℕ → Read (List (List ℕ))
names_at = list_at name_at (next_sign sign.Comma)

abbrev pub literals_at : List Placed → ℕ → Read (List Value)
literals_at = list_at literal_at (next_sign sign.Comma)

abbrev pub table_at : List Placed → ℕ → Read TableName
table_at ps end = and_then (name_at ps end) (λ ns. and_then (after_sign sign.Dot ns.1 end) (λ qs. and_then (name_at qs end) (λ t. Ok (record { ns = ns.0; table = t.0 }, t.1))))

abbrev pub set_at : List Placed → ℕ → Read Pair
set_at ps end = and_then (name_at ps end) (λ n. and_then (after_sign sign.Equal n.1 end) (λ qs. and_then (literal_at qs end) (λ v. Ok (record { name = n.0; value = v.0 }, v.1))))

abbrev pub sets_at : List Placed → ℕ → Read (List Pair)
sets_at = list_at set_at (next_sign sign.Comma)

-- after a name and IS
abbrev pub null_test_at : List ℕ → List Placed → ℕ → Read Test
null_test_at n ps end = choose (next_word word.Not ps) (λ qs. and_then (after_word word.Null qs end) (λ rest. Ok (test.NotNull n, rest))) (and_then (after_word word.Null ps end) (λ rest. Ok (test.IsNull n, rest)))

abbrev pub comparison_at : List ℕ → List Placed → ℕ → Read Test
comparison_at n ps end = and_then (part_at comparison_of ps end) (λ c. and_then (part_at value_of c.1 end) (λ v. Ok (test.Compare n c.0 v.0, v.1)))

abbrev pub test_at : List Placed → ℕ → Read Test
test_at ps end = and_then (name_at ps end) (λ n. choose (next_word word.Is n.1) (λ qs. null_test_at n.0 qs end) (comparison_at n.0 n.1 end))

abbrev pub where_at : List Placed → ℕ → Read (List Test)
where_at ps end = choose (next_word word.Where ps) (λ qs. list_at test_at (next_word word.And) qs end) (Ok ([], ps))

abbrev pub limit_at : List Placed → ℕ → Read (Option ℤ)
limit_at ps end = choose (next_word word.Limit ps) (λ qs. and_then (part_at limit_of qs end) (λ n. Ok (Some n.0, n.1))) (Ok (None, ps))

abbrev pub columns_at : List Placed → ℕ → Read (Option (List (List ℕ)))
columns_at ps end = choose (next_sign sign.Star ps) (λ qs. Ok (None, qs)) (and_then (names_at ps end) (λ r. Ok (Some r.0, r.1)))

-- the names of an INSERT, in parentheses
abbrev pub listed_names_at : List Placed → ℕ → Read (List (List ℕ))
listed_names_at ps end = and_then (after_sign sign.Open ps end) (λ qs. and_then (names_at qs end) (λ r. and_then (after_sign sign.Close r.1 end) (λ rest. Ok (r.0, rest))))

-- as many literals, in parentheses
abbrev pub listed_literals_at : ℕ → List Placed → ℕ → Read (List Value)
listed_literals_at count ps end =
    and_then (after_sign sign.Open ps end) (λ qs. and_then (literals_at qs end) (λ r. if count == length r.0 then and_then (after_sign sign.Close r.1 end) (λ rest. Ok (r.0, rest)) else Err (place r.1 end)))

abbrev pub insert_at : List Placed → ℕ → Read Insert
insert_at ps end =
    and_then (after_word word.Into ps end) (λ ps1. and_then (table_at ps1 end) (λ t. and_then (listed_names_at t.1 end) (λ cs. and_then (after_word word.Values cs.1 end) (λ ps2.
    and_then (listed_literals_at (length cs.0) ps2 end) (λ vs. Ok (record { table = t.0; columns = cs.0; values = vs.0 }, vs.1))))))

abbrev pub update_at : List Placed → ℕ → Read Statement
update_at ps end =
    and_then (table_at ps end) (λ t. and_then (after_word word.Set t.1 end) (λ ps1. and_then (sets_at ps1 end) (λ s. and_then (where_at s.1 end) (λ w. Ok (statement.Update (record { table = t.0; sets = s.0; tests = w.0 }), w.1)))))

abbrev pub delete_at : List Placed → ℕ → Read Statement
delete_at ps end = and_then (after_word word.From ps end) (λ ps1. and_then (table_at ps1 end) (λ t. and_then (where_at t.1 end) (λ w. Ok (statement.Delete (record { table = t.0; tests = w.0 }), w.1))))

abbrev pub select_at : List Placed → ℕ → Read Statement
select_at ps end =
    and_then (columns_at ps end) (λ c. and_then (after_word word.From c.1 end) (λ ps1. and_then (table_at ps1 end) (λ t. and_then (where_at t.1 end) (λ w. and_then (limit_at w.1 end) (λ l.
    Ok (statement.Select (record { table = t.0; columns = c.0; tests = w.0; limit = l.0 }), l.1))))))

-- a statement by its first token, at this place
abbrev pub statement_by : Token → ℕ → List Placed → ℕ → Read Statement
statement_by t at ps end =
    if is_word word.Begin t then Ok (statement.Begin, ps) else
    if is_word word.Commit t then Ok (statement.Commit, ps) else
    if is_word word.Rollback t then Ok (statement.Rollback, ps) else
    if is_word word.Vacuum t then Ok (statement.Vacuum, ps) else
    if is_word word.Insert t then and_then (insert_at ps end) (λ r. Ok (statement.Insert r.0, r.1)) else
    if is_word word.Upsert t then and_then (insert_at ps end) (λ r. Ok (statement.Upsert r.0, r.1)) else
    if is_word word.Update t then update_at ps end else
    if is_word word.Delete t then delete_at ps end else
    if is_word word.Select t then select_at ps end else Err at

abbrev pub statement_at : List Placed → ℕ → Read Statement
statement_at [] end = Err end
statement_at (p ∷ ps) end = statement_by p.token p.at ps end

-- the tokens after a `;`, if one comes next
abbrev pub after_semicolon : List Placed → List Placed
after_semicolon ps = choose (next_sign sign.Semicolon ps) (λ qs. qs) ps

-- no tokens are left
abbrev pub nothing_left : {A : Type 0} → A → List Placed → Result A ℕ
nothing_left x [] = Ok x
nothing_left x (p ∷ ps) = Err p.at

-- the statement that all tokens are
abbrev pub whole_at : List Placed → ℕ → Result Statement ℕ
whole_at ps end = and_then (statement_at ps end) (λ r. nothing_left r.0 (after_semicolon r.1))

-- the statement of what a text was lexed to, or the first refusal
abbrev pub read_by : ℕ → Lexed → Result Statement Refusal
read_by end (Ok ps) = of_tokens (whole_at ps end)
read_by end (Err f) = Err (of_fault f.0 f.1)
