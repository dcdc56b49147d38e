-- What the readers read of tokens is what the machine of one token a step reads.
use Rattle.std.proofs.Common.{◌≡◌, ℕ, ℤ, ◌≤◌, Bool, true, false, cond, ◌==◌, List, [], ◌∷◌, ◌++◌, length, Option, Some, None, Result, Ok, Err, refl, sym, ap, subst, ◌∙◌, arith}
use Rattle.sdb_sqltext.specs.Types.{Comparison, Insert, Pair, Placed, Statement, TableName, Test, Token, Value}
use Rattle.sdb_model.specs.declared.statement.Statement.TheVariants as statement
use Rattle.sdb_model.specs.declared.statement.Test.TheVariants as test
use Rattle.sdb_model.specs.declared.token.Keyword.TheVariants as word
use Rattle.sdb_model.specs.declared.token.Sign.TheVariants as sign
use Rattle.sdb_model.specs.SqlTokens.{Lexed}
use Rattle.sdb_sqltext.specs.Verbs.{Verb}
use Rattle.sdb_sqltext.specs.Verbs as verb
use Rattle.sdb_sqltext.specs.Heads.{Head}
use Rattle.sdb_sqltext.specs.Heads as head
use Rattle.sdb_sqltext.specs.States.{State, Draft, Filter}
use Rattle.sdb_sqltext.specs.States as state
use Rattle.sdb_model.specs.Sql.{is_word, is_sign}
use Rattle.sdb_sqltext.specs.Machine.{on_word, on_sign, name_of, value_of, literal_of, comparison_of, limit_of, with_name, with_literal, with_test, with_set, inserted, filtered_by, filtered, more_sets, untested, ending, begun, step}
use Rattle.sdb_sqltext.specs.Parsing.{or_at, then as and_then, parse_from, of_tokens, parsed_by}
use Rattle.sdb_sqltext.specs.Readers.{Read, place, next_word, next_sign, after_word, after_sign, part_at, choose, list_at, name_at, literal_at, names_at, literals_at, table_at, set_at, sets_at, null_test_at, comparison_at, test_at, where_at, limit_at, columns_at, listed_names_at, listed_literals_at, insert_at, update_at, delete_at, select_at, statement_by, after_semicolon, nothing_left, whole_at, read_by}
use Rattle.sdb_sqltext.proofs.Reached.{sign_is}
use Rattle.sdb_sqltext.proofs.Complete.{draft}
use Rattle.sdb_sqltext.proofs.Linked.{onward, other, all_other, other_part, other_word, other_sign, word_goes, sign_goes, word_stops, sign_stops, left_len, part_shorter, word_shorter, sign_shorter, then_shorter, Follows, list_follows}
use Rattle.sdb_types.proofs.Public.{by_option, by_test as by_bool}
use Rattle.sdb_types.specs.Options.{◌>>=◌}

-- ---- what is left is shorter

abbrev read : {A : Type 0} → A → List Placed → Read A
read x ps = Ok (x, ps)

ok_shorter : {A : Type 0} (y x : A) (ps qs : List Placed) → read y ps ≡ read x qs → length qs ≤ length ps
ok_shorter y x ps qs e = let same : length ps ≡ length qs = ap left_len e in omega (arith, same)

list_shorter : {A : Type 0} (r : Result (List Placed) ℕ) (f : List Placed → Read A) (most : ℕ) (x : A) (qs : List Placed) → ((rs : List Placed) → r ≡ Ok rs → length rs ≤ most) → ((rs : List Placed) → f rs ≡ Ok (x, qs) → length qs ≤ length rs)
    → and_then r f ≡ Ok (x, qs) → length qs ≤ most
list_shorter (Ok rs) f most x qs h k e = let a = h rs refl in let b = k rs e in omega arith
list_shorter (Err at) f most x qs h k e = absurd cc

or_at_ok : (at : ℕ) (r : Option (List Placed)) (qs : List Placed) → or_at at r ≡ Ok qs → r ≡ Some qs
or_at_ok at (Some ps) qs e = let is : ps ≡ qs = cc in ap Some is
or_at_ok at None qs e = absurd cc

after_word_shorter : (k : Rattle.sdb_model.specs.declared.token.Keyword.Keyword) (ps : List Placed) (end : ℕ) (qs : List Placed) → after_word k ps end ≡ Ok qs → length qs ≤ length ps
after_word_shorter k ps end qs e = let s = word_shorter k ps qs (or_at_ok (place ps end) (next_word k ps) qs e) in omega arith

after_sign_shorter : (k : Rattle.sdb_model.specs.declared.token.Sign.Sign) (ps : List Placed) (end : ℕ) (qs : List Placed) → after_sign k ps end ≡ Ok qs → length qs ≤ length ps
after_sign_shorter k ps end qs e = let s = sign_shorter k ps qs (or_at_ok (place ps end) (next_sign k ps) qs e) in omega arith

choose_shorter : {A : Type 0} (o : Option (List Placed)) (f : List Placed → Read A) (g : Read A) (most : ℕ) (x : A) (qs : List Placed) → ((ms : List Placed) → o ≡ Some ms → f ms ≡ Ok (x, qs) → length qs ≤ most) → (g ≡ Ok (x, qs) → length qs ≤ most) → choose o f g ≡ Ok (x, qs) → length qs ≤ most
choose_shorter (Some ms) f g most x qs h k e = h ms refl e
choose_shorter None f g most x qs h k e = k e

set_shorter : (end : ℕ) (ps : List Placed) (x : Pair) (qs : List Placed) → set_at ps end ≡ Ok (x, qs) → length qs ≤ length ps
set_shorter end ps x qs e =
    then_shorter (name_at ps end) (λ n. and_then (after_sign sign.Equal n.1 end) (λ qs. and_then (literal_at qs end) (λ v. Ok (record { name = n.0; value = v.0 }, v.1)))) (length ps) x qs (part_shorter name_of ps end)
    (λ n rs e. list_shorter (after_sign sign.Equal rs end) (λ qs. and_then (literal_at qs end) (λ v. Ok (record { name = n; value = v.0 }, v.1))) (length rs) x qs (after_sign_shorter sign.Equal rs end)
    (λ ms e. then_shorter (literal_at ms end) (λ v. Ok (record { name = n; value = v.0 }, v.1)) (length ms) x qs (part_shorter literal_of ms end) (λ v ls e. ok_shorter (record { name = n; value = v }) x ls qs e) e) e) e

null_shorter : (end : ℕ) (n : List ℕ) (ps : List Placed) (x : Test) (qs : List Placed) → null_test_at n ps end ≡ Ok (x, qs) → length qs ≤ length ps
null_shorter end n ps x qs e =
    choose_shorter (next_word word.Not ps) (λ qs. and_then (after_word word.Null qs end) (λ rest. Ok (test.NotNull n, rest))) (and_then (after_word word.Null ps end) (λ rest. Ok (test.IsNull n, rest))) (length ps) x qs
    (λ ms is e. let s = word_shorter word.Not ps ms is in let t = list_shorter (after_word word.Null ms end) (λ rest. Ok (test.NotNull n, rest)) (length ms) x qs (after_word_shorter word.Null ms end) (λ rs e. ok_shorter (test.NotNull n) x rs qs e) e in omega arith)
    (λ e. list_shorter (after_word word.Null ps end) (λ rest. Ok (test.IsNull n, rest)) (length ps) x qs (after_word_shorter word.Null ps end) (λ rs e. ok_shorter (test.IsNull n) x rs qs e) e) e

comparison_shorter : (end : ℕ) (n : List ℕ) (ps : List Placed) (x : Test) (qs : List Placed) → comparison_at n ps end ≡ Ok (x, qs) → length qs ≤ length ps
comparison_shorter end n ps x qs e =
    then_shorter (part_at comparison_of ps end) (λ c. and_then (part_at value_of c.1 end) (λ v. Ok (test.Compare n c.0 v.0, v.1))) (length ps) x qs (part_shorter comparison_of ps end)
    (λ c rs e. then_shorter (part_at value_of rs end) (λ v. Ok (test.Compare n c v.0, v.1)) (length rs) x qs (part_shorter value_of rs end) (λ v ls e. ok_shorter (test.Compare n c v) x ls qs e) e) e

test_shorter : (end : ℕ) (ps : List Placed) (x : Test) (qs : List Placed) → test_at ps end ≡ Ok (x, qs) → length qs ≤ length ps
test_shorter end ps x qs e =
    then_shorter (name_at ps end) (λ n. choose (next_word word.Is n.1) (λ qs. null_test_at n.0 qs end) (comparison_at n.0 n.1 end)) (length ps) x qs (part_shorter name_of ps end)
    (λ n rs e. choose_shorter (next_word word.Is rs) (λ qs. null_test_at n qs end) (comparison_at n rs end) (length rs) x qs
    (λ ms is e. let s = word_shorter word.Is rs ms is in let t = null_shorter end n ms x qs e in omega arith) (λ e. comparison_shorter end n rs x qs e) e) e

-- ---- the end

closed_link : (end : ℕ) (st : Statement) (ps : List Placed) → parse_from (state.Closed st) ps end ≡ nothing_left st ps
closed_link end st [] = refl
closed_link end st (p ∷ ps) = refl

semicolon_by : (end : ℕ) (b : Bool) (st : Statement) (p : Placed) (ps : List Placed) → and_then (or_at p.at (cond b (Some (state.Closed st)) None)) (λ n. parse_from n ps end) ≡ nothing_left st (choose (cond b (Some ps) None) (λ qs. qs) (p ∷ ps))
semicolon_by end true st p ps = closed_link end st ps
semicolon_by end false st p ps = refl

ended_link : (end : ℕ) (st : Statement) (ps : List Placed) → parse_from (state.Ended st) ps end ≡ nothing_left st (after_semicolon ps)
ended_link end st [] = refl
ended_link end st (p ∷ ps) = semicolon_by end (is_sign sign.Semicolon p.token) st p ps

abbrev tail : ℕ → Head → List Test → List Placed → Result Statement ℕ
tail end (head.Update t sets) ts ps = nothing_left (filtered_by (head.Update t sets) ts None) (after_semicolon ps)
tail end (head.Delete t) ts ps = nothing_left (filtered_by (head.Delete t) ts None) (after_semicolon ps)
tail end (head.Select t cs) ts ps = and_then (limit_at ps end) (λ l. nothing_left (filtered_by (head.Select t cs) ts l.0) (after_semicolon l.1))

abbrev limit_read : ℕ → Option (List Placed) → List Placed → Read (Option ℤ)
limit_read end o ps = choose o (λ qs. and_then (part_at limit_of qs end) (λ n. Ok (Some n.0, n.1))) (Ok (None, ps))

limit_by : (end : ℕ) (b : Bool) (t : TableName) (cs : Option (List (List ℕ))) (ts : List Test) (p : Placed) (ps : List Placed)
    → and_then (or_at p.at (cond b (Some (state.Limit (record { head = head.Select t cs; tests = ts }))) (on_sign sign.Semicolon (state.Closed (filtered_by (head.Select t cs) ts None)) p.token))) (λ n. parse_from n ps end)
    ≡ and_then (limit_read end (cond b (Some ps) None) (p ∷ ps)) (λ l. nothing_left (filtered_by (head.Select t cs) ts l.0) (after_semicolon l.1))
limit_by end true t cs ts p ps =
    let f : Filter = record { head = head.Select t cs; tests = ts } in
    all_other (state.Limit f) ps end ∙ other_part limit_of (λ n. state.Ended (filtered f (Some n))) ps end
    ∙ onward (part_at limit_of ps end) (λ n. Ok (Some n.0, n.1)) (λ (l : Option ℤ × List Placed). nothing_left (filtered_by (head.Select t cs) ts l.0) (after_semicolon l.1)) (λ r. parse_from (state.Ended (filtered f (Some r.0))) r.1 end) (λ r. ended_link end (filtered f (Some r.0)) r.1)
limit_by end false t cs ts p ps = semicolon_by end (is_sign sign.Semicolon p.token) (filtered_by (head.Select t cs) ts None) p ps

ending_link : (end : ℕ) (h : Head) (ts : List Test) (ps : List Placed) → other (Some (filtered_by h ts None)) (ending (record { head = h; tests = ts })) ps end ≡ tail end h ts ps
ending_link end (head.Update t sets) ts [] = refl
ending_link end (head.Delete t) ts [] = refl
ending_link end (head.Select t cs) ts [] = refl
ending_link end (head.Update t sets) ts (p ∷ ps) = semicolon_by end (is_sign sign.Semicolon p.token) (filtered_by (head.Update t sets) ts None) p ps
ending_link end (head.Delete t) ts (p ∷ ps) = semicolon_by end (is_sign sign.Semicolon p.token) (filtered_by (head.Delete t) ts None) p ps
ending_link end (head.Select t cs) ts (p ∷ ps) = limit_by end (is_word word.Limit p.token) t cs ts p ps

-- ---- tests

abbrev tested : ℕ → Filter → Test × List Placed → Result Statement ℕ
tested end f r = parse_from (state.TestEnd (with_test f r.0)) r.1 end

null_link : (end : ℕ) (f : Filter) (n : List ℕ) (ps : List Placed) → parse_from (state.Is f n) ps end ≡ and_then (null_test_at n ps end) (tested end f)
null_link end f n ps =
    let yes = λ (qs : List Placed). and_then (after_word word.Null qs end) (λ rest. Ok (test.NotNull n, rest)) in
    let no_word = and_then (after_word word.Null ps end) (λ rest. Ok (test.IsNull n, rest)) in
    by_option (next_word word.Not ps)
    (λ qs e. word_goes (state.Is f n) (state.Not f n) word.Not refl ps qs end e ∙ all_other (state.Not f n) qs end ∙ other_word word.Null (state.TestEnd (with_test f (test.NotNull n))) qs end
    ∙ onward (after_word word.Null qs end) (λ rest. Ok (test.NotNull n, rest)) (tested end f) (λ rest. parse_from (state.TestEnd (with_test f (test.NotNull n))) rest end) (λ rest. refl)
    ∙ ap (λ (o : Option (List Placed)). and_then (choose o yes no_word) (tested end f)) (sym e))
    (λ e. word_stops (state.Is f n) word.Not (Some (state.Not f n)) (on_word word.Null (state.TestEnd (with_test f (test.IsNull n)))) (λ t. refl) ps end e ∙ other_word word.Null (state.TestEnd (with_test f (test.IsNull n))) ps end
    ∙ onward (after_word word.Null ps end) (λ rest. Ok (test.IsNull n, rest)) (tested end f) (λ rest. parse_from (state.TestEnd (with_test f (test.IsNull n))) rest end) (λ rest. refl)
    ∙ ap (λ (o : Option (List Placed)). and_then (choose o yes no_word) (tested end f)) (sym e))

right_link : (end : ℕ) (f : Filter) (n : List ℕ) (c : Comparison) (ps : List Placed) → parse_from (state.Right f n c) ps end ≡ and_then (and_then (part_at value_of ps end) (λ v. Ok (test.Compare n c v.0, v.1))) (tested end f)
right_link end f n c ps =
    all_other (state.Right f n c) ps end ∙ other_part value_of (λ v. state.TestEnd (with_test f (test.Compare n c v))) ps end
    ∙ onward (part_at value_of ps end) (λ v. Ok (test.Compare n c v.0, v.1)) (tested end f) (λ r. parse_from (state.TestEnd (with_test f (test.Compare n c r.0))) r.1 end) (λ r. refl)

compare_link : (end : ℕ) (f : Filter) (n : List ℕ) (ps : List Placed) → other None (λ t. comparison_of t >>= λ c. Some (state.Right f n c)) ps end ≡ and_then (comparison_at n ps end) (tested end f)
compare_link end f n ps =
    other_part comparison_of (state.Right f n) ps end
    ∙ onward (part_at comparison_of ps end) (λ c. and_then (part_at value_of c.1 end) (λ v. Ok (test.Compare n c.0 v.0, v.1))) (tested end f) (λ r. parse_from (state.Right f n r.0) r.1 end) (λ c. right_link end f n c.0 c.1)

named_link : (end : ℕ) (f : Filter) (n : List ℕ) (ps : List Placed) → parse_from (state.Compare f n) ps end ≡ and_then (choose (next_word word.Is ps) (λ qs. null_test_at n qs end) (comparison_at n ps end)) (tested end f)
named_link end f n ps =
    by_option (next_word word.Is ps)
    (λ qs e. word_goes (state.Compare f n) (state.Is f n) word.Is refl ps qs end e ∙ null_link end f n qs
    ∙ ap (λ (o : Option (List Placed)). and_then (choose o (λ qs. null_test_at n qs end) (comparison_at n ps end)) (tested end f)) (sym e))
    (λ e. word_stops (state.Compare f n) word.Is (Some (state.Is f n)) (λ t. comparison_of t >>= λ c. Some (state.Right f n c)) (λ t. refl) ps end e ∙ compare_link end f n ps
    ∙ ap (λ (o : Option (List Placed)). and_then (choose o (λ qs. null_test_at n qs end) (comparison_at n ps end)) (tested end f)) (sym e))

test_link : (end : ℕ) (f : Filter) (ps : List Placed) → parse_from (state.NextTest f) ps end ≡ and_then (test_at ps end) (tested end f)
test_link end f ps =
    all_other (state.NextTest f) ps end ∙ other_part name_of (state.Compare f) ps end
    ∙ onward (name_at ps end) (λ n. choose (next_word word.Is n.1) (λ qs. null_test_at n.0 qs end) (comparison_at n.0 n.1 end)) (tested end f) (λ r. parse_from (state.Compare f r.0) r.1 end) (λ n. named_link end f n.0 n.1)

abbrev filter : Head → List Test → Filter
filter h ts = record { head = h; tests = ts }

tests_follow : (end : ℕ) (h : Head) → Follows test_at (next_word word.And) end (λ ts. state.TestEnd (filter h ts)) (λ ts. state.NextTest (filter h ts)) (tail end h)
tests_follow end h =
    record {
      shorter = test_shorter end;
      smaller = word_shorter word.And;
      running = λ xs ps qs e. word_goes (state.TestEnd (filter h xs)) (state.NextTest (filter h xs)) word.And refl ps qs end e;
      one = λ xs ps. test_link end (filter h xs) ps;
      stopping = λ xs ps e. word_stops (state.TestEnd (filter h xs)) word.And (Some (state.NextTest (filter h xs))) (ending (filter h xs)) (λ t. refl) ps end e ∙ ending_link end h xs ps;
    }

-- no column that is set follows
abbrev Set_ends : Head → List Placed → Type 0
Set_ends (head.Update t sets) ps = next_sign sign.Comma ps ≡ None
Set_ends (head.Delete t) ps = Unit {0}
Set_ends (head.Select t cs) ps = Unit {0}

comma_wrong : (end : ℕ) (h : Head) (p : Placed) (ps : List Placed) → is_sign sign.Comma p.token ≡ true → Set_ends h (p ∷ ps) → and_then (or_at p.at (more_sets h)) (λ n. parse_from n ps end) ≡ tail end h [] (p ∷ ps)
comma_wrong end (head.Update t sets) p ps c ends = let some = ap (λ (b : Bool). cond b (Some ps) None) c in let bad = sym some ∙ ends in absurd cc
comma_wrong end (head.Delete t) p ps c ends = sym (subst (λ (k : Token). tail end (head.Delete t) [] (record { at = p.at; token = k } ∷ ps) ≡ Err p.at) (sym (sign_is sign.Comma p.token c)) refl)
comma_wrong end (head.Select t cs) p ps c ends = sym (subst (λ (k : Token). tail end (head.Select t cs) [] (record { at = p.at; token = k } ∷ ps) ≡ Err p.at) (sym (sign_is sign.Comma p.token c)) refl)

no_tests : (end : ℕ) (h : Head) (ps : List Placed) → Set_ends h ps → other (Some (filtered_by h [] None)) (λ t. cond (is_sign sign.Comma t) (more_sets h) (ending (untested h) t)) ps end ≡ tail end h [] ps
no_tests end h [] ends = ending_link end h [] []
no_tests end h (p ∷ ps) ends =
    let turn = λ (b : Bool). and_then (or_at p.at (cond b (more_sets h) (ending (untested h) p.token))) (λ n. parse_from n ps end) in
    by_bool (is_sign sign.Comma p.token) (λ c. ap turn c ∙ comma_wrong end h p ps c ends) (λ c. ap turn c ∙ ending_link end h [] (p ∷ ps))

abbrev where_tail : ℕ → Head → List Placed → Result Statement ℕ
where_tail end h ps = and_then (where_at ps end) (λ w. tail end h w.0 w.1)

target_link : (end : ℕ) (h : Head) (ps : List Placed) → Set_ends h ps → parse_from (state.Target h) ps end ≡ where_tail end h ps
target_link end h ps ends =
    let wrap = λ (o : Option (List Placed)). and_then (choose o (λ qs. list_at test_at (next_word word.And) qs end) (Ok ([], ps))) (λ w. tail end h w.0 w.1) in
    by_option (next_word word.Where ps)
    (λ qs e. word_goes (state.Target h) (state.NextTest (untested h)) word.Where refl ps qs end e
    ∙ list_follows test_at (next_word word.And) end (λ ts. state.TestEnd (filter h ts)) (λ ts. state.NextTest (filter h ts)) (tail end h) (tests_follow end h) qs ∙ ap wrap (sym e))
    (λ e. word_stops (state.Target h) word.Where (Some (state.NextTest (untested h))) (λ t. cond (is_sign sign.Comma t) (more_sets h) (ending (untested h) t)) (λ t. refl) ps end e ∙ no_tests end h ps ends ∙ ap wrap (sym e))

-- ---- columns that are set

set_link : (end : ℕ) (t : TableName) (sets : List Pair) (ps : List Placed) → parse_from (state.NextSet t sets) ps end ≡ and_then (set_at ps end) (λ r. parse_from (state.Target (head.Update t (sets ++ r.0 ∷ []))) r.1 end)
set_link end t sets ps =
    let done = λ (r : Pair × List Placed). parse_from (state.Target (head.Update t (sets ++ r.0 ∷ []))) r.1 end in
    all_other (state.NextSet t sets) ps end ∙ other_part name_of (state.SetName t sets) ps end
    ∙ onward (name_at ps end) (λ n. and_then (after_sign sign.Equal n.1 end) (λ qs. and_then (literal_at qs end) (λ v. Ok (record { name = n.0; value = v.0 }, v.1)))) done (λ r. parse_from (state.SetName t sets r.0) r.1 end)
    (λ n. all_other (state.SetName t sets n.0) n.1 end ∙ other_sign sign.Equal (state.SetTo t sets n.0) n.1 end
    ∙ onward (after_sign sign.Equal n.1 end) (λ qs. and_then (literal_at qs end) (λ v. Ok (record { name = n.0; value = v.0 }, v.1))) done (λ rest. parse_from (state.SetTo t sets n.0) rest end)
    (λ qs. all_other (state.SetTo t sets n.0) qs end ∙ other_part literal_of (with_set t sets n.0) qs end
    ∙ onward (literal_at qs end) (λ v. Ok (record { name = n.0; value = v.0 }, v.1)) done (λ r. parse_from (with_set t sets n.0 r.0) r.1 end) (λ v. refl)))

sets_follow : (end : ℕ) (t : TableName) → Follows set_at (next_sign sign.Comma) end (λ ss. state.Target (head.Update t ss)) (state.NextSet t) (λ ss. where_tail end (head.Update t ss))
sets_follow end t =
    record {
      shorter = set_shorter end;
      smaller = sign_shorter sign.Comma;
      running = λ xs ps qs e. sign_goes (state.Target (head.Update t xs)) (state.NextSet t xs) sign.Comma refl ps qs end e;
      one = λ xs ps. set_link end t xs ps;
      stopping = λ xs ps e. target_link end (head.Update t xs) ps e;
    }

-- ---- names and literals

names_follow : (end : ℕ) (u : Bool) (t : TableName) → Follows name_at (next_sign sign.Comma) end (λ cs. state.NameEnd (draft u t cs [])) (λ cs. state.NextName (draft u t cs [])) (λ cs ps. and_then (after_sign sign.Close ps end) (λ rest. parse_from (state.Values (draft u t cs [])) rest end))
names_follow end u t =
    record {
      shorter = λ ps x qs e. part_shorter name_of ps end x qs e;
      smaller = sign_shorter sign.Comma;
      running = λ xs ps qs e. sign_goes (state.NameEnd (draft u t xs [])) (state.NextName (draft u t xs [])) sign.Comma refl ps qs end e;
      one = λ xs ps. all_other (state.NextName (draft u t xs [])) ps end ∙ other_part name_of (λ x. state.NameEnd (with_name (draft u t xs []) x)) ps end;
      stopping = λ xs ps e. sign_stops (state.NameEnd (draft u t xs [])) sign.Comma (Some (state.NextName (draft u t xs []))) (on_sign sign.Close (state.Values (draft u t xs []))) (λ k. refl) ps end e ∙ other_sign sign.Close (state.Values (draft u t xs [])) ps end;
    }

columns_follow : (end : ℕ) → Follows name_at (next_sign sign.Comma) end state.ColumnEnd state.NextColumn (λ cs ps. and_then (after_word word.From ps end) (λ rest. parse_from (state.Namespace (verb.Select (Some cs))) rest end))
columns_follow end =
    record {
      shorter = λ ps x qs e. part_shorter name_of ps end x qs e;
      smaller = sign_shorter sign.Comma;
      running = λ xs ps qs e. sign_goes (state.ColumnEnd xs) (state.NextColumn xs) sign.Comma refl ps qs end e;
      one = λ xs ps. all_other (state.NextColumn xs) ps end ∙ other_part name_of (λ x. state.ColumnEnd (xs ++ x ∷ [])) ps end;
      stopping = λ xs ps e. sign_stops (state.ColumnEnd xs) sign.Comma (Some (state.NextColumn xs)) (on_word word.From (state.Namespace (verb.Select (Some xs)))) (λ k. refl) ps end e ∙ other_word word.From (state.Namespace (verb.Select (Some xs))) ps end;
    }

none_other : (end : ℕ) (ps : List Placed) → other None (λ t. None) ps end ≡ Err (place ps end)
none_other end [] = refl
none_other end (p ∷ ps) = refl

counted : (end : ℕ) (b : Bool) (n : State) (ps : List Placed) → other None (λ t. cond b (on_sign sign.Close n t) None) ps end ≡ cond b (and_then (after_sign sign.Close ps end) (λ rest. parse_from n rest end)) (Err (place ps end))
counted end true n ps = other_sign sign.Close n ps end
counted end false n ps = none_other end ps

abbrev closes : ℕ → Draft → List Placed → Result Statement ℕ
closes end d ps = cond (length d.columns == length d.values) (and_then (after_sign sign.Close ps end) (λ rest. parse_from (state.Ended (inserted d)) rest end)) (Err (place ps end))

literals_follow : (end : ℕ) (u : Bool) (t : TableName) (cs : List (List ℕ)) → Follows literal_at (next_sign sign.Comma) end (λ vs. state.LiteralEnd (draft u t cs vs)) (λ vs. state.NextLiteral (draft u t cs vs)) (λ vs. closes end (draft u t cs vs))
literals_follow end u t cs =
    record {
      shorter = λ ps x qs e. part_shorter literal_of ps end x qs e;
      smaller = sign_shorter sign.Comma;
      running = λ xs ps qs e. sign_goes (state.LiteralEnd (draft u t cs xs)) (state.NextLiteral (draft u t cs xs)) sign.Comma refl ps qs end e;
      one = λ xs ps. all_other (state.NextLiteral (draft u t cs xs)) ps end ∙ other_part literal_of (λ x. state.LiteralEnd (with_literal (draft u t cs xs) x)) ps end;
      stopping = λ xs ps e. sign_stops (state.LiteralEnd (draft u t cs xs)) sign.Comma (Some (state.NextLiteral (draft u t cs xs)))
          (λ k. cond (length cs == length xs) (on_sign sign.Close (state.Ended (inserted (draft u t cs xs))) k) None) (λ k. refl) ps end e
          ∙ counted end (length cs == length xs) (state.Ended (inserted (draft u t cs xs))) ps;
    }

-- ---- statements

table_link : (end : ℕ) (v : Verb) (ps : List Placed) → parse_from (state.Namespace v) ps end ≡ and_then (table_at ps end) (λ t. parse_from (begun v t.0.ns t.0.table) t.1 end)
table_link end v ps =
    let done = λ (t : TableName × List Placed). parse_from (begun v t.0.ns t.0.table) t.1 end in
    all_other (state.Namespace v) ps end ∙ other_part name_of (state.Dot v) ps end
    ∙ onward (name_at ps end) (λ ns. and_then (after_sign sign.Dot ns.1 end) (λ qs. and_then (name_at qs end) (λ t. Ok (record { ns = ns.0; table = t.0 }, t.1)))) done (λ r. parse_from (state.Dot v r.0) r.1 end)
    (λ ns. all_other (state.Dot v ns.0) ns.1 end ∙ other_sign sign.Dot (state.Table v ns.0) ns.1 end
    ∙ onward (after_sign sign.Dot ns.1 end) (λ qs. and_then (name_at qs end) (λ t. Ok (record { ns = ns.0; table = t.0 }, t.1))) done (λ rest. parse_from (state.Table v ns.0) rest end)
    (λ qs. all_other (state.Table v ns.0) qs end ∙ other_part name_of (begun v ns.0) qs end
    ∙ onward (name_at qs end) (λ t. Ok (record { ns = ns.0; table = t.0 }, t.1)) done (λ r. parse_from (begun v ns.0 r.0) r.1 end) (λ t. refl)))

listed_names_link : (end : ℕ) (u : Bool) (t : TableName) (ps : List Placed) → parse_from (state.OpenNames (draft u t [] [])) ps end ≡ and_then (listed_names_at ps end) (λ cs. parse_from (state.Values (draft u t cs.0 [])) cs.1 end)
listed_names_link end u t ps =
    let done = λ (cs : List (List ℕ) × List Placed). parse_from (state.Values (draft u t cs.0 [])) cs.1 end in
    let rest_of = λ (cs : List (List ℕ)) (qs : List Placed). and_then (after_sign sign.Close qs end) (λ rest. parse_from (state.Values (draft u t cs [])) rest end) in
    all_other (state.OpenNames (draft u t [] [])) ps end ∙ other_sign sign.Open (state.NextName (draft u t [] [])) ps end
    ∙ onward (after_sign sign.Open ps end) (λ qs. and_then (names_at qs end) (λ r. and_then (after_sign sign.Close r.1 end) (λ rest. Ok (r.0, rest)))) done (λ rest. parse_from (state.NextName (draft u t [] [])) rest end)
    (λ qs. list_follows name_at (next_sign sign.Comma) end (λ cs. state.NameEnd (draft u t cs [])) (λ cs. state.NextName (draft u t cs [])) rest_of (names_follow end u t) qs
    ∙ onward (names_at qs end) (λ r. and_then (after_sign sign.Close r.1 end) (λ rest. Ok (r.0, rest))) done (λ r. rest_of r.0 r.1)
    (λ r. onward (after_sign sign.Close r.1 end) (λ rest. Ok (r.0, rest)) done (λ rest. parse_from (state.Values (draft u t r.0 [])) rest end) (λ rest. refl)))

counted_onward : (b : Bool) (r : Result (List Placed) ℕ) (vs : List Value) (at : ℕ) (k : List Placed → Result Statement ℕ) (done : List Value × List Placed → Result Statement ℕ) → ((rest : List Placed) → k rest ≡ done (vs, rest)) → cond b (and_then r k) (Err at) ≡ and_then (cond b (and_then r (λ rest. Ok (vs, rest))) (Err at)) done
counted_onward true r vs at k done h = onward r (λ rest. Ok (vs, rest)) done k h
counted_onward false r vs at k done h = refl

listed_literals_link : (end : ℕ) (u : Bool) (t : TableName) (cs : List (List ℕ)) (ps : List Placed) → parse_from (state.OpenLiterals (draft u t cs [])) ps end ≡ and_then (listed_literals_at (length cs) ps end) (λ vs. parse_from (state.Ended (inserted (draft u t cs vs.0))) vs.1 end)
listed_literals_link end u t cs ps =
    let done = λ (vs : List Value × List Placed). parse_from (state.Ended (inserted (draft u t cs vs.0))) vs.1 end in
    let close = λ (r : List Value × List Placed). cond (length cs == length r.0) (and_then (after_sign sign.Close r.1 end) (λ rest. Ok (r.0, rest))) (Err (place r.1 end)) in
    all_other (state.OpenLiterals (draft u t cs [])) ps end ∙ other_sign sign.Open (state.NextLiteral (draft u t cs [])) ps end
    ∙ onward (after_sign sign.Open ps end) (λ qs. and_then (literals_at qs end) close) done (λ rest. parse_from (state.NextLiteral (draft u t cs [])) rest end)
    (λ qs. list_follows literal_at (next_sign sign.Comma) end (λ vs. state.LiteralEnd (draft u t cs vs)) (λ vs. state.NextLiteral (draft u t cs vs)) (λ vs. closes end (draft u t cs vs)) (literals_follow end u t cs) qs
    ∙ onward (literals_at qs end) close done (λ r. closes end (draft u t cs r.0) r.1)
    (λ r. counted_onward (length cs == length r.0) (after_sign sign.Close r.1 end) r.0 (place r.1 end) (λ rest. parse_from (state.Ended (inserted (draft u t cs r.0))) rest end) done (λ rest. refl)))

insert_link : (end : ℕ) (u : Bool) (ps : List Placed) → parse_from (state.Into u) ps end ≡ and_then (insert_at ps end) (λ r. parse_from (state.Ended (inserted (draft u r.0.table r.0.columns r.0.values))) r.1 end)
insert_link end u ps =
    let done = λ (r : Insert × List Placed). parse_from (state.Ended (inserted (draft u r.0.table r.0.columns r.0.values))) r.1 end in
    all_other (state.Into u) ps end ∙ other_word word.Into (state.Namespace (verb.Insert u)) ps end
    ∙ onward (after_word word.Into ps end) _ done (λ rest. parse_from (state.Namespace (verb.Insert u)) rest end)
    (λ ps1. table_link end (verb.Insert u) ps1
    ∙ onward (table_at ps1 end) _ done (λ t. parse_from (state.OpenNames (draft u t.0 [] [])) t.1 end)
    (λ t. listed_names_link end u t.0 t.1
    ∙ onward (listed_names_at t.1 end) _ done (λ cs. parse_from (state.Values (draft u t.0 cs.0 [])) cs.1 end)
    (λ cs. all_other (state.Values (draft u t.0 cs.0 [])) cs.1 end ∙ other_word word.Values (state.OpenLiterals (draft u t.0 cs.0 [])) cs.1 end
    ∙ onward (after_word word.Values cs.1 end) _ done (λ rest. parse_from (state.OpenLiterals (draft u t.0 cs.0 [])) rest end)
    (λ ps2. listed_literals_link end u t.0 cs.0 ps2
    ∙ onward (listed_literals_at (length cs.0) ps2 end) (λ vs. Ok (record { table = t.0; columns = cs.0; values = vs.0 }, vs.1)) done (λ vs. parse_from (state.Ended (inserted (draft u t.0 cs.0 vs.0))) vs.1 end) (λ vs. refl)))))

-- what follows a statement
abbrev last : Statement × List Placed → Result Statement ℕ
last r = nothing_left r.0 (after_semicolon r.1)

update_link : (end : ℕ) (ps : List Placed) → parse_from (state.Namespace verb.Update) ps end ≡ and_then (update_at ps end) last
update_link end ps =
    table_link end verb.Update ps
    ∙ onward (table_at ps end) _ last (λ t. parse_from (state.Set t.0) t.1 end)
    (λ t. all_other (state.Set t.0) t.1 end ∙ other_word word.Set (state.NextSet t.0 []) t.1 end
    ∙ onward (after_word word.Set t.1 end) _ last (λ rest. parse_from (state.NextSet t.0 []) rest end)
    (λ ps1. list_follows set_at (next_sign sign.Comma) end (λ ss. state.Target (head.Update t.0 ss)) (state.NextSet t.0) (λ ss. where_tail end (head.Update t.0 ss)) (sets_follow end t.0) ps1
    ∙ onward (sets_at ps1 end) _ last (λ s. where_tail end (head.Update t.0 s.0) s.1)
    (λ s. onward (where_at s.1 end) (λ w. Ok (statement.Update (record { table = t.0; sets = s.0; tests = w.0 }), w.1)) last (λ w. tail end (head.Update t.0 s.0) w.0 w.1) (λ w. refl))))

delete_link : (end : ℕ) (ps : List Placed) → parse_from state.DeleteFrom ps end ≡ and_then (delete_at ps end) last
delete_link end ps =
    all_other state.DeleteFrom ps end ∙ other_word word.From (state.Namespace verb.Delete) ps end
    ∙ onward (after_word word.From ps end) _ last (λ rest. parse_from (state.Namespace verb.Delete) rest end)
    (λ ps1. table_link end verb.Delete ps1
    ∙ onward (table_at ps1 end) _ last (λ t. parse_from (state.Target (head.Delete t.0)) t.1 end)
    (λ t. target_link end (head.Delete t.0) t.1 tt
    ∙ onward (where_at t.1 end) (λ w. Ok (statement.Delete (record { table = t.0; tests = w.0 }), w.1)) last (λ w. tail end (head.Delete t.0) w.0 w.1) (λ w. refl)))

abbrev from : ℕ → Option (List (List ℕ)) × List Placed → Result Statement ℕ
from end c = and_then (after_word word.From c.1 end) (λ rest. parse_from (state.Namespace (verb.Select c.0)) rest end)

columns_link : (end : ℕ) (ps : List Placed) → parse_from state.FirstColumn ps end ≡ and_then (columns_at ps end) (from end)
columns_link end ps =
    let named = and_then (names_at ps end) (λ r. Ok (Some r.0, r.1)) in
    let wrap = λ (o : Option (List Placed)). and_then (choose o (λ qs. Ok (None, qs)) named) (from end) in
    by_option (next_sign sign.Star ps)
    (λ qs e. sign_goes state.FirstColumn state.StarEnd sign.Star refl ps qs end e ∙ all_other state.StarEnd qs end ∙ other_word word.From (state.Namespace (verb.Select None)) qs end ∙ ap wrap (sym e))
    (λ e. sign_stops state.FirstColumn sign.Star (Some state.StarEnd) (λ t. name_of t >>= λ n. Some (state.ColumnEnd (n ∷ []))) (λ t. refl) ps end e ∙ sym (all_other (state.NextColumn []) ps end)
    ∙ list_follows name_at (next_sign sign.Comma) end state.ColumnEnd state.NextColumn (λ cs ps. and_then (after_word word.From ps end) (λ rest. parse_from (state.Namespace (verb.Select (Some cs))) rest end)) (columns_follow end) ps
    ∙ onward (names_at ps end) (λ r. Ok (Some r.0, r.1)) (from end) (λ r. and_then (after_word word.From r.1 end) (λ rest. parse_from (state.Namespace (verb.Select (Some r.0))) rest end)) (λ r. refl) ∙ ap wrap (sym e))

select_link : (end : ℕ) (ps : List Placed) → parse_from state.FirstColumn ps end ≡ and_then (select_at ps end) last
select_link end ps =
    columns_link end ps
    ∙ onward (columns_at ps end) _ last (from end)
    (λ c. onward (after_word word.From c.1 end) _ last (λ rest. parse_from (state.Namespace (verb.Select c.0)) rest end)
    (λ ps1. table_link end (verb.Select c.0) ps1
    ∙ onward (table_at ps1 end) _ last (λ t. parse_from (state.Target (head.Select t.0 c.0)) t.1 end)
    (λ t. target_link end (head.Select t.0 c.0) t.1 tt
    ∙ onward (where_at t.1 end) _ last (λ w. tail end (head.Select t.0 c.0) w.0 w.1)
    (λ w. onward (limit_at w.1 end) (λ l. Ok (statement.Select (record { table = t.0; columns = c.0; tests = w.0; limit = l.0 }), l.1)) last (λ l. nothing_left (filtered_by (head.Select t.0 c.0) w.0 l.0) (after_semicolon l.1)) (λ l. refl)))))

chain : (end : ℕ) (b : Bool) (n : State) (others : Option State) (at : ℕ) (ps : List Placed) (x y : Read Statement) → parse_from n ps end ≡ and_then x last → and_then (or_at at others) (λ n. parse_from n ps end) ≡ and_then y last
    → and_then (or_at at (cond b (Some n) others)) (λ n. parse_from n ps end) ≡ and_then (cond b x y) last
chain end true n others at ps x y h k = h
chain end false n others at ps x y h k = k

start_link : (end : ℕ) (t : Token) (at : ℕ) (ps : List Placed) → and_then (or_at at (step state.Start t)) (λ n. parse_from n ps end) ≡ and_then (statement_by t at ps end) last
start_link end t at ps =
    chain end (is_word word.Begin t) (state.Ended statement.Begin) _ at ps (Ok (statement.Begin, ps)) _ (ended_link end statement.Begin ps)
    (chain end (is_word word.Commit t) (state.Ended statement.Commit) _ at ps (Ok (statement.Commit, ps)) _ (ended_link end statement.Commit ps)
    (chain end (is_word word.Rollback t) (state.Ended statement.Rollback) _ at ps (Ok (statement.Rollback, ps)) _ (ended_link end statement.Rollback ps)
    (chain end (is_word word.Vacuum t) (state.Ended statement.Vacuum) _ at ps (Ok (statement.Vacuum, ps)) _ (ended_link end statement.Vacuum ps)
    (chain end (is_word word.Insert t) (state.Into false) _ at ps (and_then (insert_at ps end) (λ r. Ok (statement.Insert r.0, r.1))) _
    (insert_link end false ps ∙ onward (insert_at ps end) (λ r. Ok (statement.Insert r.0, r.1)) last (λ r. parse_from (state.Ended (statement.Insert r.0)) r.1 end) (λ r. ended_link end (statement.Insert r.0) r.1))
    (chain end (is_word word.Upsert t) (state.Into true) _ at ps (and_then (insert_at ps end) (λ r. Ok (statement.Upsert r.0, r.1))) _
    (insert_link end true ps ∙ onward (insert_at ps end) (λ r. Ok (statement.Upsert r.0, r.1)) last (λ r. parse_from (state.Ended (statement.Upsert r.0)) r.1 end) (λ r. ended_link end (statement.Upsert r.0) r.1))
    (chain end (is_word word.Update t) (state.Namespace verb.Update) _ at ps (update_at ps end) _ (update_link end ps)
    (chain end (is_word word.Delete t) state.DeleteFrom _ at ps (delete_at ps end) _ (delete_link end ps)
    (chain end (is_word word.Select t) state.FirstColumn None at ps (select_at ps end) (Err at) (select_link end ps) refl))))))))

pub whole_link : (end : ℕ) (ps : List Placed) → parse_from state.Start ps end ≡ whole_at ps end
whole_link end [] = refl
whole_link end (p ∷ ps) = start_link end p.token p.at ps

pub read_link : (end : ℕ) (l : Lexed) → read_by end l ≡ parsed_by end l
read_link end (Ok ps) = ap of_tokens (sym (whole_link end ps))
read_link end (Err f) = refl
