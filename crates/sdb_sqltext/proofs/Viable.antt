-- Where a fault is.
use Rattle.std.proofs.Common.{◌≡◌, ℕ, pos, Bool, true, List, [], ◌∷◌, ◌++◌, Some, None, refl, sym, ap, subst, ◌∙◌, append_assoc, inl, inr, arith}
use Rattle.std.specs.Prelude.{codes}
use Rattle.std.proofs.lemmas.List.{append-nil}
use Rattle.sdb_sqltext.specs.Types.{Comparison, Pair, Statement, TableName, Token}
use Rattle.sdb_types.specs.declared.value.Value.TheVariants as value
use Rattle.sdb_model.specs.declared.statement.Test.TheVariants as test
use Rattle.sdb_model.specs.declared.token.Keyword.TheVariants as word
use Rattle.sdb_model.specs.declared.token.Sign.TheVariants as sign
use Rattle.sdb_model.specs.declared.token.Token.TheVariants.{Word, Name, Number, Sign as Mark}
use Rattle.sdb_sqltext.specs.Verbs.{Verb}
use Rattle.sdb_sqltext.specs.Verbs as verb
use Rattle.sdb_sqltext.specs.States.{Draft}
use Rattle.sdb_sqltext.specs.Heads.{Head}
use Rattle.sdb_sqltext.specs.Heads as head
use Rattle.sdb_sqltext.specs.States.{Filter}
use Rattle.sdb_sqltext.specs.States.{State}
use Rattle.sdb_sqltext.specs.States as state
use Rattle.sdb_model.specs.Sql.{Tokens, statement_tokens, Spells, IsWhole, CanSpell, Begins}
use Rattle.sdb_sqltext.specs.Machine.{with_name, with_literal, with_test, with_set, filtered, filtered_by, insert_of, begun, step}
use Rattle.sdb_sqltext.proofs.Reached.{so_far, Fine, VerbFine, FilterFine, answered, head_so, tested, insert_is, filter_is, whole_filter}
use Rattle.sdb_sqltext.proofs.Complete.{draft}

-- ---- every state can still become a statement

via : (s : State) (t : Token) (n : State) → Fine s → step s t ≡ Some n → CanSpell t → (Fine n → Begins (so_far n)) → Begins (so_far s)
via s t n valid h can begins =
    let is_known = answered s t n valid h in
    let grouped : (more : Tokens) → so_far n ++ more ≡ so_far s ++ (t ∷ more) = λ more. ap (λ (ts : Tokens). ts ++ more) is_known.0 ∙ append_assoc (so_far s) (t ∷ []) more in
    elim (begins is_known.1) as (λ _. Begins (so_far s)) [
      | inl b ↦ inl (b.0, t ∷ b.1, (can, b.2), b.3, subst (λ (ts : Tokens). Spells ts b.0) (grouped b.1) b.4)
      | inr b ↦ inr (b.0, b.1, t, b.2 ∷ b.3, (can, b.4), b.5, b.6, b.7, sym (grouped (b.2 ∷ b.3)) ∙ b.8)
    ]

at_end : (ts : Tokens) (st : Statement) → IsWhole st → Spells ts st → Begins ts
at_end ts st whole h = inl (st, [], tt, whole, subst (λ (ts : Tokens). Spells ts st) (sym (append-nil ts)) h)

-- some name
abbrev a_name : List ℕ
a_name = codes "a"

can_name : CanSpell (Name a_name)
can_name = (refl, refl)

v_ended : (st : Statement) → Fine (state.Ended st) → Begins (so_far (state.Ended st))
v_ended st valid = at_end (statement_tokens st) st valid (inl refl)

v_closed : (st : Statement) → Fine (state.Closed st) → Begins (so_far (state.Closed st))
v_closed st valid = at_end (so_far (state.Closed st)) st valid (inr refl)

v_literal_end : (d : Draft) → Fine (state.LiteralEnd d) → Begins (so_far (state.LiteralEnd d))
v_literal_end d valid = inr (d.upsert, insert_of d, Mark sign.Close, [], (tt, tt), valid.0, valid.1, valid.2, insert_is d.upsert d.table d.columns d.values)

v_next_literal : (d : Draft) → Fine (state.NextLiteral d) → Begins (so_far (state.NextLiteral d))
v_next_literal d valid = via (state.NextLiteral d) (Word word.Null) (state.LiteralEnd (with_literal d value.Null)) valid refl tt (v_literal_end (with_literal d value.Null))

v_open_literals : (d : Draft) → Fine (state.OpenLiterals d) → Begins (so_far (state.OpenLiterals d))
v_open_literals d valid = via (state.OpenLiterals d) (Mark sign.Open) (state.NextLiteral d) valid refl tt (v_next_literal d)

v_values : (d : Draft) → Fine (state.Values d) → Begins (so_far (state.Values d))
v_values d valid = via (state.Values d) (Word word.Values) (state.OpenLiterals d) valid refl tt (v_open_literals d)

v_name_end : (d : Draft) → Fine (state.NameEnd d) → Begins (so_far (state.NameEnd d))
v_name_end d valid = via (state.NameEnd d) (Mark sign.Close) (state.Values d) valid refl tt (v_values d)

v_next_name : (d : Draft) → Fine (state.NextName d) → Begins (so_far (state.NextName d))
v_next_name d valid = via (state.NextName d) (Name a_name) (state.NameEnd (with_name d a_name)) valid refl can_name (v_name_end (with_name d a_name))

v_open_names : (d : Draft) → Fine (state.OpenNames d) → Begins (so_far (state.OpenNames d))
v_open_names d valid = via (state.OpenNames d) (Mark sign.Open) (state.NextName d) valid refl tt (v_next_name d)

v_target : (h : Head) → Fine (state.Target h) → Begins (so_far (state.Target h))
v_target h valid = at_end (head_so h) (filtered_by h [] None) (whole_filter h [] valid tt) (inl (filter_is h []))

v_set_to : (t : TableName) (sets : List Pair) (n : List ℕ) → Fine (state.SetTo t sets n) → Begins (so_far (state.SetTo t sets n))
v_set_to t sets n valid = via (state.SetTo t sets n) (Word word.Null) (with_set t sets n value.Null) valid refl tt (v_target (head.Update t (sets ++ record { name = n; value = value.Null } ∷ [])))

v_set_name : (t : TableName) (sets : List Pair) (n : List ℕ) → Fine (state.SetName t sets n) → Begins (so_far (state.SetName t sets n))
v_set_name t sets n valid = via (state.SetName t sets n) (Mark sign.Equal) (state.SetTo t sets n) valid refl tt (v_set_to t sets n)

v_next_set : (t : TableName) (sets : List Pair) → Fine (state.NextSet t sets) → Begins (so_far (state.NextSet t sets))
v_next_set t sets valid = via (state.NextSet t sets) (Name a_name) (state.SetName t sets a_name) valid refl can_name (v_set_name t sets a_name)

v_set : (t : TableName) → Begins (so_far (state.Set t))
v_set t = via (state.Set t) (Word word.Set) (state.NextSet t []) tt refl tt (v_next_set t [])

v_begun : (v : Verb) (ns t : List ℕ) → Fine (begun v ns t) → Begins (so_far (begun v ns t))
v_begun (verb.Insert u) ns t valid = v_open_names (draft u (record { ns = ns; table = t }) [] []) valid
v_begun verb.Update ns t valid = v_set (record { ns = ns; table = t })
v_begun verb.Delete ns t valid = v_target (head.Delete (record { ns = ns; table = t })) valid
v_begun (verb.Select cs) ns t valid = v_target (head.Select (record { ns = ns; table = t }) cs) valid

v_table : (v : Verb) (ns : List ℕ) → VerbFine v → Begins (so_far (state.Table v ns))
v_table v ns valid = via (state.Table v ns) (Name a_name) (begun v ns a_name) valid refl can_name (v_begun v ns a_name)

v_dot : (v : Verb) (ns : List ℕ) → VerbFine v → Begins (so_far (state.Dot v ns))
v_dot v ns valid = via (state.Dot v ns) (Mark sign.Dot) (state.Table v ns) valid refl tt (v_table v ns)

v_namespace : (v : Verb) → VerbFine v → Begins (so_far (state.Namespace v))
v_namespace v valid = via (state.Namespace v) (Name a_name) (state.Dot v a_name) valid refl can_name (v_dot v a_name)

v_column_end : (cs : List (List ℕ)) → Fine (state.ColumnEnd cs) → Begins (so_far (state.ColumnEnd cs))
v_column_end cs valid = via (state.ColumnEnd cs) (Word word.From) (state.Namespace (verb.Select (Some cs))) valid refl tt (v_namespace (verb.Select (Some cs)))

v_next_column : (cs : List (List ℕ)) → Fine (state.NextColumn cs) → Begins (so_far (state.NextColumn cs))
v_next_column cs valid = via (state.NextColumn cs) (Name a_name) (state.ColumnEnd (cs ++ a_name ∷ [])) valid refl can_name (v_column_end (cs ++ a_name ∷ []))

v_star_end : Begins (so_far state.StarEnd)
v_star_end = via state.StarEnd (Word word.From) (state.Namespace (verb.Select None)) tt refl tt (v_namespace (verb.Select None))

v_first_column : Begins (so_far state.FirstColumn)
v_first_column = via state.FirstColumn (Mark sign.Star) state.StarEnd tt refl tt (λ _. v_star_end)

v_test_end : (f : Filter) → Fine (state.TestEnd f) → Begins (so_far (state.TestEnd f))
v_test_end f valid = at_end (tested f) (filtered f None) (whole_filter f.head f.tests valid.1.0 valid.1.1) (inl (filter_is f.head f.tests))

v_is : (f : Filter) (n : List ℕ) → FilterFine f → Begins (so_far (state.Is f n))
v_is f n valid = via (state.Is f n) (Word word.Null) (state.TestEnd (with_test f (test.IsNull n))) valid refl tt (v_test_end (with_test f (test.IsNull n)))

v_not : (f : Filter) (n : List ℕ) → FilterFine f → Begins (so_far (state.Not f n))
v_not f n valid = via (state.Not f n) (Word word.Null) (state.TestEnd (with_test f (test.NotNull n))) valid refl tt (v_test_end (with_test f (test.NotNull n)))

v_right : (f : Filter) (n : List ℕ) (c : Comparison) → FilterFine f → Begins (so_far (state.Right f n c))
v_right f n c valid =
    via (state.Right f n c) (Word word.True) (state.TestEnd (with_test f (test.Compare n c (value.Bool true)))) valid refl tt (v_test_end (with_test f (test.Compare n c (value.Bool true))))

v_compare : (f : Filter) (n : List ℕ) → FilterFine f → Begins (so_far (state.Compare f n))
v_compare f n valid = via (state.Compare f n) (Word word.Is) (state.Is f n) valid refl tt (v_is f n)

v_next_test : (f : Filter) → FilterFine f → Begins (so_far (state.NextTest f))
v_next_test f valid = via (state.NextTest f) (Name a_name) (state.Compare f a_name) valid refl can_name (v_compare f a_name)

can_zero : CanSpell (Number (pos 0))
can_zero = omega arith

v_limit : (f : Filter) → Fine (state.Limit f) → Begins (so_far (state.Limit f))
v_limit f valid = via (state.Limit f) (Number (pos 0)) (state.Ended (filtered f (Some (pos 0)))) valid refl can_zero (v_ended (filtered f (Some (pos 0))))

v_into : (u : Bool) → Begins (so_far (state.Into u))
v_into u = via (state.Into u) (Word word.Into) (state.Namespace (verb.Insert u)) tt refl tt (v_namespace (verb.Insert u))

v_delete_from : Begins (so_far state.DeleteFrom)
v_delete_from = via state.DeleteFrom (Word word.From) (state.Namespace verb.Delete) tt refl tt (v_namespace verb.Delete)

pub viable : (s : State) → Fine s → Begins (so_far s)
viable state.Start valid = via state.Start (Word word.Select) state.FirstColumn tt refl tt (λ _. v_first_column)
viable (state.Into u) valid = v_into u
viable state.DeleteFrom valid = v_delete_from
viable state.FirstColumn valid = v_first_column
viable (state.NextColumn cs) valid = v_next_column cs valid
viable (state.ColumnEnd cs) valid = v_column_end cs valid
viable state.StarEnd valid = v_star_end
viable (state.Namespace v) valid = v_namespace v valid
viable (state.Dot v ns) valid = v_dot v ns valid
viable (state.Table v ns) valid = v_table v ns valid
viable (state.OpenNames d) valid = v_open_names d valid
viable (state.NextName d) valid = v_next_name d valid
viable (state.NameEnd d) valid = v_name_end d valid
viable (state.Values d) valid = v_values d valid
viable (state.OpenLiterals d) valid = v_open_literals d valid
viable (state.NextLiteral d) valid = v_next_literal d valid
viable (state.LiteralEnd d) valid = v_literal_end d valid
viable (state.Set t) valid = v_set t
viable (state.NextSet t sets) valid = v_next_set t sets valid
viable (state.SetName t sets n) valid = v_set_name t sets n valid
viable (state.SetTo t sets n) valid = v_set_to t sets n valid
viable (state.Target h) valid = v_target h valid
viable (state.NextTest f) valid = v_next_test f valid
viable (state.Compare f n) valid = v_compare f n valid
viable (state.Right f n c) valid = v_right f n c valid
viable (state.Is f n) valid = v_is f n valid
viable (state.Not f n) valid = v_not f n valid
viable (state.TestEnd f) valid = v_test_end f valid
viable (state.Limit f) valid = v_limit f valid
viable (state.Ended st) valid = v_ended st valid
viable (state.Closed st) valid = v_closed st valid
