-- What each token makes of what was read before it.
use Rattle.std.specs.Prelude.{ℕ, ℤ, pos, negsuc, Bool, true, false, ◌&&◌, if◌then◌else◌, ◌==◌, List, [], ◌∷◌, ◌++◌, length, Option, Some, None}
use Rattle.sdb_sqltext.specs.Types.{Comparison, Insert, Keyword, Pair, Sign, Statement, TableName, Test, Token, Value}
use Rattle.sdb_types.specs.declared.value.Value.TheVariants as value
use Rattle.sdb_model.specs.declared.statement.Comparison.TheVariants.{Eq, Ne, Lt, Le, Gt, Ge}
use Rattle.sdb_model.specs.declared.statement.Statement.TheVariants as statement
use Rattle.sdb_model.specs.declared.statement.Test.TheVariants as test
use Rattle.sdb_model.specs.declared.token.Keyword.TheVariants as word
use Rattle.sdb_model.specs.declared.token.Sign.TheVariants as sign
use Rattle.sdb_model.specs.declared.token.Token.TheVariants.{Word, Name, Number, Text, Blob, Sign as Mark}
use Rattle.sdb_model.specs.Sql.{is_word, is_sign}
use Rattle.sdb_sqltext.specs.Verbs.{Verb}
use Rattle.sdb_sqltext.specs.Verbs as verb
use Rattle.sdb_sqltext.specs.States.{Draft}
use Rattle.sdb_sqltext.specs.Heads.{Head}
use Rattle.sdb_sqltext.specs.Heads as head
use Rattle.sdb_sqltext.specs.States.{Filter}
use Rattle.sdb_sqltext.specs.States.{State}
use Rattle.sdb_sqltext.specs.States as state
use Rattle.sdb_types.specs.Options.{◌>>=◌}

abbrev pub on_word : Keyword → State → Token → Option State
on_word k next t = if is_word k t then Some next else None

abbrev pub on_sign : Sign → State → Token → Option State
on_sign k next t = if is_sign k t then Some next else None

abbrev pub name_of : Token → Option (List ℕ)
name_of (Name n) = Some n
name_of _ = None

abbrev pub word_value : Keyword → Option Value
word_value word.True = Some (value.Bool true)
word_value word.False = Some (value.Bool false)
word_value _ = None

abbrev pub value_of : Token → Option Value
value_of (Word w) = word_value w
value_of (Number n) = Some (value.BigInt n)
value_of (Text t) = Some (value.Text t)
value_of (Blob b) = Some (value.Blob b)
value_of _ = None

abbrev pub literal_of : Token → Option Value
literal_of t = if is_word word.Null t then Some value.Null else value_of t

abbrev pub not_negative : ℤ → Option ℤ
not_negative (pos n) = Some (pos n)
not_negative (negsuc n) = None

abbrev pub limit_of : Token → Option ℤ
limit_of (Number n) = not_negative n
limit_of _ = None

abbrev pub sign_comparison : Sign → Option Comparison
sign_comparison sign.Equal = Some Eq
sign_comparison sign.NotEqual = Some Ne
sign_comparison sign.Less = Some Lt
sign_comparison sign.LessOrEqual = Some Le
sign_comparison sign.Greater = Some Gt
sign_comparison sign.GreaterOrEqual = Some Ge
sign_comparison _ = None

abbrev pub comparison_of : Token → Option Comparison
comparison_of (Mark s) = sign_comparison s
comparison_of _ = None

abbrev pub with_name : Draft → List ℕ → Draft
with_name d n = record d { columns = d.columns ++ n ∷ [] }

abbrev pub with_literal : Draft → Value → Draft
with_literal d v = record d { values = d.values ++ v ∷ [] }

abbrev pub with_test : Filter → Test → Filter
with_test f t = record f { tests = f.tests ++ t ∷ [] }

abbrev pub insert_of : Draft → Insert
insert_of d = record { table = d.table; columns = d.columns; values = d.values }

abbrev pub inserted : Draft → Statement
inserted d = if d.upsert then statement.Upsert (insert_of d) else statement.Insert (insert_of d)

abbrev pub filtered_by : Head → List Test → Option ℤ → Statement
filtered_by (head.Update t sets) tests limit = statement.Update (record { table = t; sets = sets; tests = tests })
filtered_by (head.Delete t) tests limit = statement.Delete (record { table = t; tests = tests })
filtered_by (head.Select t columns) tests limit = statement.Select (record { table = t; columns = columns; tests = tests; limit = limit })

abbrev pub filtered : Filter → Option ℤ → Statement
filtered f limit = filtered_by f.head f.tests limit

abbrev pub is_select : Head → Bool
is_select (head.Update t sets) = false
is_select (head.Delete t) = false
is_select (head.Select t columns) = true

abbrev pub ended : Statement → State
ended st = state.Ended st

abbrev pub after_start : Token → Option State
after_start t =
    if is_word word.Begin t then Some (state.Ended statement.Begin) else
    if is_word word.Commit t then Some (state.Ended statement.Commit) else
    if is_word word.Rollback t then Some (state.Ended statement.Rollback) else
    if is_word word.Vacuum t then Some (state.Ended statement.Vacuum) else
    if is_word word.Insert t then Some (state.Into false) else
    if is_word word.Upsert t then Some (state.Into true) else
    if is_word word.Update t then Some (state.Namespace verb.Update) else
    if is_word word.Delete t then Some state.DeleteFrom else
    on_word word.Select state.FirstColumn t

abbrev pub after_first_column : Token → Option State
after_first_column t = if is_sign sign.Star t then Some state.StarEnd else (name_of t >>= λ n. Some (state.ColumnEnd (n ∷ [])))

abbrev pub after_column : List (List ℕ) → Token → Option State
after_column cs t = if is_sign sign.Comma t then Some (state.NextColumn cs) else on_word word.From (state.Namespace (verb.Select (Some cs))) t

abbrev pub begun : Verb → List ℕ → List ℕ → State
begun (verb.Insert u) ns t = state.OpenNames (record { upsert = u; table = record { ns = ns; table = t }; columns = []; values = [] })
begun verb.Update ns t = state.Set (record { ns = ns; table = t })
begun verb.Delete ns t = state.Target (head.Delete (record { ns = ns; table = t }))
begun (verb.Select cs) ns t = state.Target (head.Select (record { ns = ns; table = t }) cs)

abbrev pub after_name : Draft → Token → Option State
after_name d t = if is_sign sign.Comma t then Some (state.NextName d) else on_sign sign.Close (state.Values d) t

abbrev pub after_literal : Draft → Token → Option State
after_literal d t =
    if is_sign sign.Comma t then Some (state.NextLiteral d) else
    if length d.columns == length d.values then on_sign sign.Close (state.Ended (inserted d)) t else None

abbrev pub with_set : TableName → List Pair → List ℕ → Value → State
with_set t sets n v = state.Target (head.Update t (sets ++ record { name = n; value = v } ∷ []))

abbrev pub ending : Filter → Token → Option State
ending f t = if is_select f.head && is_word word.Limit t then Some (state.Limit f) else on_sign sign.Semicolon (state.Closed (filtered f None)) t

abbrev pub more_sets : Head → Option State
more_sets (head.Update t sets) = Some (state.NextSet t sets)
more_sets (head.Delete t) = None
more_sets (head.Select t columns) = None

abbrev pub untested : Head → Filter
untested h = record { head = h; tests = [] }

abbrev pub after_target : Head → Token → Option State
after_target h t =
    if is_word word.Where t then Some (state.NextTest (untested h)) else
    if is_sign sign.Comma t then more_sets h else ending (untested h) t

abbrev pub after_test : Filter → Token → Option State
after_test f t = if is_word word.And t then Some (state.NextTest f) else ending f t

abbrev pub after_tested : Filter → List ℕ → Token → Option State
after_tested f n t = if is_word word.Is t then Some (state.Is f n) else (comparison_of t >>= λ c. Some (state.Right f n c))

abbrev pub after_is : Filter → List ℕ → Token → Option State
after_is f n t = if is_word word.Not t then Some (state.Not f n) else on_word word.Null (state.TestEnd (with_test f (test.IsNull n))) t

abbrev pub after_not : Filter → List ℕ → Token → Option State
after_not f n t = on_word word.Null (state.TestEnd (with_test f (test.NotNull n))) t

abbrev pub after_comparison : Filter → List ℕ → Comparison → Token → Option State
after_comparison f n c t = value_of t >>= λ v. Some (state.TestEnd (with_test f (test.Compare n c v)))

abbrev pub after_limit : Filter → Token → Option State
after_limit f t = limit_of t >>= λ n. Some (state.Ended (filtered f (Some n)))

abbrev pub step : State → Token → Option State
step state.Start t = after_start t
step (state.Into u) t = on_word word.Into (state.Namespace (verb.Insert u)) t
step state.DeleteFrom t = on_word word.From (state.Namespace verb.Delete) t
step state.FirstColumn t = after_first_column t
step (state.NextColumn cs) t = name_of t >>= λ n. Some (state.ColumnEnd (cs ++ n ∷ []))
step (state.ColumnEnd cs) t = after_column cs t
step state.StarEnd t = on_word word.From (state.Namespace (verb.Select None)) t
step (state.Namespace v) t = name_of t >>= λ n. Some (state.Dot v n)
step (state.Dot v ns) t = on_sign sign.Dot (state.Table v ns) t
step (state.Table v ns) t = name_of t >>= λ n. Some (begun v ns n)
step (state.OpenNames d) t = on_sign sign.Open (state.NextName d) t
step (state.NextName d) t = name_of t >>= λ n. Some (state.NameEnd (with_name d n))
step (state.NameEnd d) t = after_name d t
step (state.Values d) t = on_word word.Values (state.OpenLiterals d) t
step (state.OpenLiterals d) t = on_sign sign.Open (state.NextLiteral d) t
step (state.NextLiteral d) t = literal_of t >>= λ v. Some (state.LiteralEnd (with_literal d v))
step (state.LiteralEnd d) t = after_literal d t
step (state.Set tn) t = on_word word.Set (state.NextSet tn []) t
step (state.NextSet tn sets) t = name_of t >>= λ n. Some (state.SetName tn sets n)
step (state.SetName tn sets n) t = on_sign sign.Equal (state.SetTo tn sets n) t
step (state.SetTo tn sets n) t = literal_of t >>= λ v. Some (with_set tn sets n v)
step (state.Target h) t = after_target h t
step (state.NextTest f) t = name_of t >>= λ n. Some (state.Compare f n)
step (state.Compare f n) t = after_tested f n t
step (state.Right f n c) t = after_comparison f n c t
step (state.Is f n) t = after_is f n t
step (state.Not f n) t = after_not f n t
step (state.TestEnd f) t = after_test f t
step (state.Limit f) t = after_limit f t
step (state.Ended st) t = on_sign sign.Semicolon (state.Closed st) t
step (state.Closed st) t = None
