-- The tokens that a state of the reader was reached by, and what holds of a state that is reached.
use Rattle.std.proofs.Common.{◌≡◌, ℕ, ℤ, pos, negsuc, Bool, true, false, cond, ◌&&◌, List, [], ◌∷◌, ◌++◌, length, Option, Some, None, refl, sym, ap, subst, ◌∙◌, append_assoc, ◌⊎◌, inl, inr, ◌==◌, rules}
use Rattle.std.specs.Prelude.{IfSome}
use Rattle.std.specs.List.{AllByRecursion}
use Rattle.std.proofs.lemmas.List.{append-nil, flat_map_more}
use denote.Enum.Bare.{same_true}
use Rattle.sdb_sqltext.specs.Types.{Comparison, Keyword, Pair, Sign, TableName, Test, Token, Value}
use Rattle.sdb_types.specs.declared.value.Value.TheVariants as value
use Rattle.sdb_model.specs.contracts.token.Keyword as keyword_type
use Rattle.sdb_model.specs.contracts.token.Sign as sign_type
use Rattle.sdb_model.specs.declared.statement.Comparison.TheVariants.{Eq, Ne, Lt, Le, Gt, Ge}
use Rattle.sdb_model.specs.declared.statement.Statement.TheVariants as statement
use Rattle.sdb_model.specs.declared.statement.Test.TheVariants as test
use Rattle.sdb_model.specs.declared.token.Keyword.TheVariants as word
use Rattle.sdb_model.specs.declared.token.Sign.TheVariants as sign
use Rattle.sdb_model.specs.declared.token.Token.TheVariants.{Word, Name, Overlong, Number, Text, Blob, Sign as Mark}
use Rattle.sdb_model.specs.Sql.{is_word, is_sign, Tokens, separated, name_tokens, names_tokens, literal_token, literal_tokens, literals_tokens, comparison_sign, test_tokens, columns_tokens, set_tokens, insert_word, insert_tokens, statement_tokens, HasItems, IsLiteral, IsValue, IsTest, IsSet, IsFromZero, IsWhole}
use Rattle.sdb_sqltext.specs.Verbs.{Verb}
use Rattle.sdb_sqltext.specs.Verbs as verb
use Rattle.sdb_sqltext.specs.States.{Draft}
use Rattle.sdb_sqltext.specs.Heads.{Head}
use Rattle.sdb_sqltext.specs.Heads as head
use Rattle.sdb_sqltext.specs.States.{Filter}
use Rattle.sdb_sqltext.specs.States.{State}
use Rattle.sdb_sqltext.specs.States as state
use Rattle.sdb_sqltext.specs.Machine.{on_sign, name_of, word_value, value_of, literal_of, limit_of, sign_comparison, comparison_of, with_name, with_literal, with_test, inserted, filtered, filtered_by, is_select, begun, ending, more_sets, untested, with_set, step}
use Rattle.sdb_types.proofs.Public.{all_last as all_more, and_parts as and_both, bind_some, eq_of as same_length, some_is}
use Rattle.sdb_types.specs.Options.{◌>>=◌}

-- ---- the tokens so far

abbrev pub one : Token → Tokens
one t = t ∷ []

abbrev pub verb_so : Verb → Tokens
verb_so (verb.Insert u) = Word (insert_word u) ∷ Word word.Into ∷ []
verb_so verb.Update = one (Word word.Update)
verb_so verb.Delete = Word word.Delete ∷ Word word.From ∷ []
verb_so (verb.Select cs) = (Word word.Select ∷ columns_tokens cs) ++ one (Word word.From)

abbrev pub tabled : Verb → List ℕ → List ℕ → Tokens
tabled v ns t = ((verb_so v ++ one (Name ns)) ++ one (Mark sign.Dot)) ++ one (Name t)

abbrev pub table_so : Verb → TableName → Tokens
table_so v t = tabled v t.ns t.table

-- what is before one more item
abbrev pub before_item : {X : Type 0} → Tokens → Token → (X → Tokens) → List X → Tokens
before_item front between f [] = front
before_item front between f (x ∷ xs) = (front ++ separated between f (x ∷ xs)) ++ one between

abbrev pub opened : Draft → Tokens
opened d = table_so (verb.Insert d.upsert) d.table ++ one (Mark sign.Open)

abbrev pub named : Draft → Tokens
named d = opened d ++ names_tokens d.columns

abbrev pub valued : Draft → Tokens
valued d = (named d ++ one (Mark sign.Close)) ++ one (Word word.Values)

abbrev pub listed : Draft → Tokens
listed d = (valued d ++ one (Mark sign.Open)) ++ literals_tokens d.values

abbrev pub set_so : TableName → Tokens
set_so t = table_so verb.Update t ++ one (Word word.Set)

abbrev pub before_set : TableName → List Pair → Tokens
before_set t sets = before_item (set_so t) (Mark sign.Comma) set_tokens sets

abbrev pub head_so : Head → Tokens
head_so (head.Update t sets) = set_so t ++ separated (Mark sign.Comma) set_tokens sets
head_so (head.Delete t) = table_so verb.Delete t
head_so (head.Select t cs) = table_so (verb.Select cs) t

abbrev pub tested_by : Tokens → List Test → Tokens
tested_by front [] = front
tested_by front (t ∷ ts) = (front ++ one (Word word.Where)) ++ separated (Word word.And) test_tokens (t ∷ ts)

abbrev pub tested : Filter → Tokens
tested f = tested_by (head_so f.head) f.tests

abbrev pub before_test : Filter → Tokens
before_test f = before_item (head_so f.head ++ one (Word word.Where)) (Word word.And) test_tokens f.tests

abbrev pub so_far : State → Tokens
so_far state.Start = []
so_far (state.Into u) = one (Word (insert_word u))
so_far state.DeleteFrom = one (Word word.Delete)
so_far state.FirstColumn = one (Word word.Select)
so_far (state.NextColumn cs) = before_item (one (Word word.Select)) (Mark sign.Comma) name_tokens cs
so_far (state.ColumnEnd cs) = one (Word word.Select) ++ names_tokens cs
so_far state.StarEnd = Word word.Select ∷ Mark sign.Star ∷ []
so_far (state.Namespace v) = verb_so v
so_far (state.Dot v ns) = verb_so v ++ one (Name ns)
so_far (state.Table v ns) = (verb_so v ++ one (Name ns)) ++ one (Mark sign.Dot)
so_far (state.OpenNames d) = table_so (verb.Insert d.upsert) d.table
so_far (state.NextName d) = before_item (opened d) (Mark sign.Comma) name_tokens d.columns
so_far (state.NameEnd d) = named d
so_far (state.Values d) = named d ++ one (Mark sign.Close)
so_far (state.OpenLiterals d) = valued d
so_far (state.NextLiteral d) = before_item (valued d ++ one (Mark sign.Open)) (Mark sign.Comma) literal_tokens d.values
so_far (state.LiteralEnd d) = listed d
so_far (state.Set t) = table_so verb.Update t
so_far (state.NextSet t sets) = before_set t sets
so_far (state.SetName t sets n) = before_set t sets ++ one (Name n)
so_far (state.SetTo t sets n) = (before_set t sets ++ one (Name n)) ++ one (Mark sign.Equal)
so_far (state.Target h) = head_so h
so_far (state.NextTest f) = before_test f
so_far (state.Compare f n) = before_test f ++ one (Name n)
so_far (state.Right f n c) = (before_test f ++ one (Name n)) ++ one (Mark (comparison_sign c))
so_far (state.Is f n) = (before_test f ++ one (Name n)) ++ one (Word word.Is)
so_far (state.Not f n) = ((before_test f ++ one (Name n)) ++ one (Word word.Is)) ++ one (Word word.Not)
so_far (state.TestEnd f) = tested f
so_far (state.Limit f) = tested f ++ one (Word word.Limit)
so_far (state.Ended st) = statement_tokens st
so_far (state.Closed st) = statement_tokens st ++ one (Mark sign.Semicolon)

-- ---- what holds of a state that is reached

abbrev pub VerbFine : Verb → Type 0
VerbFine (verb.Insert u) = Unit {0}
VerbFine verb.Update = Unit {0}
VerbFine verb.Delete = Unit {0}
VerbFine (verb.Select cs) = IfSome cs HasItems

abbrev pub HeadFine : Head → Type 0
HeadFine (head.Update t sets) = HasItems sets × AllByRecursion IsSet sets
HeadFine (head.Delete t) = Unit {0}
HeadFine (head.Select t cs) = IfSome cs HasItems

abbrev pub FilterFine : Filter → Type 0
FilterFine f = HeadFine f.head × AllByRecursion IsTest f.tests

abbrev pub Fine : State → Type 0
Fine (state.NextColumn cs) = HasItems cs
Fine (state.ColumnEnd cs) = HasItems cs
Fine (state.Namespace v) = VerbFine v
Fine (state.Dot v ns) = VerbFine v
Fine (state.Table v ns) = VerbFine v
Fine (state.OpenNames d) = (d.columns ≡ []) × (d.values ≡ [])
Fine (state.NextName d) = d.values ≡ []
Fine (state.NameEnd d) = HasItems d.columns × (d.values ≡ [])
Fine (state.Values d) = HasItems d.columns × (d.values ≡ [])
Fine (state.OpenLiterals d) = HasItems d.columns × (d.values ≡ [])
Fine (state.NextLiteral d) = HasItems d.columns × AllByRecursion IsLiteral d.values
Fine (state.LiteralEnd d) = HasItems d.columns × HasItems d.values × AllByRecursion IsLiteral d.values
Fine (state.NextSet t sets) = AllByRecursion IsSet sets
Fine (state.SetName t sets n) = AllByRecursion IsSet sets
Fine (state.SetTo t sets n) = AllByRecursion IsSet sets
Fine (state.Target h) = HeadFine h
Fine (state.NextTest f) = FilterFine f
Fine (state.Compare f n) = FilterFine f
Fine (state.Right f n c) = FilterFine f
Fine (state.Is f n) = FilterFine f
Fine (state.Not f n) = FilterFine f
Fine (state.TestEnd f) = HasItems f.tests × FilterFine f
Fine (state.Limit f) = (is_select f.head ≡ true) × FilterFine f
Fine (state.Ended st) = IsWhole st
Fine (state.Closed st) = IsWhole st
Fine _ = Unit {0}

-- a token leads from a state to another
abbrev pub Tells : State → Token → State → Type 0
Tells s t n = (so_far n ≡ so_far s ++ one t) × Fine n

-- ---- tests

pub chosen : {A : Type 0} (b : Bool) (x y z : A) → cond b x y ≡ z → ((b ≡ true) × (x ≡ z)) ⊎ ((b ≡ false) × (y ≡ z))
chosen true x y z e = inl (refl, e)
chosen false x y z e = inr (refl, e)

pub word_is : (k : Keyword) (t : Token) → is_word k t ≡ true → t ≡ Word k
word_is k (Word w) h = ap Word (same_true keyword_type.the_type (search rules) w k h)
word_is k (Name n) h = absurd cc
word_is k Overlong h = absurd cc
word_is k (Number n) h = absurd cc
word_is k (Text x) h = absurd cc
word_is k (Blob x) h = absurd cc
word_is k (Mark s) h = absurd cc

pub sign_is : (k : Sign) (t : Token) → is_sign k t ≡ true → t ≡ Mark k
sign_is k (Word w) h = absurd cc
sign_is k (Name n) h = absurd cc
sign_is k Overlong h = absurd cc
sign_is k (Number n) h = absurd cc
sign_is k (Text x) h = absurd cc
sign_is k (Blob x) h = absurd cc
sign_is k (Mark s) h = ap Mark (same_true sign_type.the_type (search rules) s k h)

none : {G : Type 0} (n : State) → None ≡ Some n → G
none n h = absurd cc

-- one test of a chain
on_test : (b : Bool) (k : Token) (first : Option State) (s : State) (t : Token) (n : State) (others : Option State) → (b ≡ true → t ≡ k) → (b ≡ true → first ≡ Some n → Tells s k n) → (others ≡ Some n → Tells s t n)
    → cond b first others ≡ Some n → Tells s t n
on_test b k first s t n others is answered rest h =
    elim (chosen b first others (Some n) h) as (λ _. Tells s t n) [
      | inl p ↦ subst (λ (x : Token). Tells s x n) (sym (is p.0)) (answered p.0 p.1)
      | inr p ↦ rest p.1
    ]

one_state : (s : State) (k : Token) (next n : State) → Tells s k next → Some next ≡ Some n → Tells s k n
one_state s k next n answered e = subst (λ (m : State). Tells s k m) (some_is next n e) answered

if_word : (k : Keyword) (next : State) (s : State) (t : Token) (n : State) (others : Option State) → Tells s (Word k) next → (others ≡ Some n → Tells s t n) → cond (is_word k t) (Some next) others ≡ Some n → Tells s t n
if_word k next s t n others answered rest h = on_test (is_word k t) (Word k) (Some next) s t n others (word_is k t) (λ b. one_state s (Word k) next n answered) rest h

if_sign_then : (k : Sign) (first : Option State) (s : State) (t : Token) (n : State) (others : Option State) → (first ≡ Some n → Tells s (Mark k) n) → (others ≡ Some n → Tells s t n) → cond (is_sign k t) first others ≡ Some n → Tells s t n
if_sign_then k first s t n others answered rest h = on_test (is_sign k t) (Mark k) first s t n others (sign_is k t) (λ b. answered) rest h

if_sign : (k : Sign) (next : State) (s : State) (t : Token) (n : State) (others : Option State) → Tells s (Mark k) next → (others ≡ Some n → Tells s t n) → cond (is_sign k t) (Some next) others ≡ Some n → Tells s t n
if_sign k next s t n others answered rest h = if_sign_then k (Some next) s t n others (one_state s (Mark k) next n answered) rest h

-- a token with a part that is as asked
if_part : {A : Type 0} (Asked : A → Type 0) (part : Token → Option A) (spell : A → Token) (back : (t : Token) (x : A) → part t ≡ Some x → (t ≡ spell x) × Asked x) (f : A → State) (s : State) (t : Token) (n : State)
    → ((x : A) → Asked x → Tells s (spell x) (f x)) → (part t >>= λ x. Some (f x)) ≡ Some n → Tells s t n
if_part Asked part spell back f s t n answered h =
    let b = bind_some (part t) (λ x. Some (f x)) n h in
    let is = back t b.0 b.1 in
    subst (λ (k : Token). Tells s k n) (sym is.0) (subst (λ (m : State). Tells s (spell b.0) m) (some_is (f b.0) n b.2) (answered b.0 is.1))

abbrev IsAny : {A : Type 0} → A → Type 0
IsAny x = Unit {0}

name_back : (t : Token) (x : List ℕ) → name_of t ≡ Some x → (t ≡ Name x) × IsAny x
name_back (Name n) x h = (ap Name (some_is n x h), tt)
name_back (Word w) x h = absurd cc
name_back Overlong x h = absurd cc
name_back (Number n) x h = absurd cc
name_back (Text n) x h = absurd cc
name_back (Blob b) x h = absurd cc
name_back (Mark s) x h = absurd cc

abbrev SpellsValue : Token → Value → Type 0
SpellsValue t v = (t ≡ literal_token v) × IsValue v

found_value : (t : Token) (v x : Value) → SpellsValue t v → Some v ≡ Some x → SpellsValue t x
found_value t v x h e = subst (λ (y : Value). SpellsValue t y) (some_is v x e) h

word_back : (w : Keyword) (x : Value) → word_value w ≡ Some x → SpellsValue (Word w) x
word_back word.True x h = found_value (Word word.True) (value.Bool true) x (refl, tt) h
word_back word.False x h = found_value (Word word.False) (value.Bool false) x (refl, tt) h
word_back _ x h = absurd cc

value_back : (t : Token) (x : Value) → value_of t ≡ Some x → SpellsValue t x
value_back (Word w) x h = word_back w x h
value_back (Number n) x h = found_value (Number n) (value.BigInt n) x (refl, tt) h
value_back (Text n) x h = found_value (Text n) (value.Text n) x (refl, tt) h
value_back (Blob n) x h = found_value (Blob n) (value.Blob n) x (refl, tt) h
value_back (Name n) x h = absurd cc
value_back Overlong x h = absurd cc
value_back (Mark s) x h = absurd cc

is_literal : (x : Value) → IsValue x → IsLiteral x
is_literal value.Null h = tt
is_literal (value.Bool b) h = tt
is_literal (value.Int n) h = h
is_literal (value.BigInt n) h = tt
is_literal (value.Text n) h = tt
is_literal (value.Blob n) h = tt

abbrev SpellsLiteral : Token → Value → Type 0
SpellsLiteral t v = (t ≡ literal_token v) × IsLiteral v

literal_back : (t : Token) (x : Value) → literal_of t ≡ Some x → SpellsLiteral t x
literal_back t x h =
    elim (chosen (is_word word.Null t) (Some value.Null) (value_of t) (Some x) h) as (λ _. SpellsLiteral t x) [
      | inl p ↦ subst (λ (y : Value). SpellsLiteral t y) (some_is value.Null x p.1) (word_is word.Null t p.0, tt)
      | inr p ↦ let v = value_back t x p.1 in (v.0, is_literal x v.1)
    ]

limit_back : (t : Token) (x : ℤ) → limit_of t ≡ Some x → (t ≡ Number x) × IsFromZero x
limit_back (Number (pos n)) x h = subst (λ (y : ℤ). (Number (pos n) ≡ Number y) × IsFromZero y) (some_is (pos n) x h) (refl, tt)
limit_back (Number (negsuc n)) x h = absurd cc
limit_back (Name n) x h = absurd cc
limit_back Overlong x h = absurd cc
limit_back (Word w) x h = absurd cc
limit_back (Text n) x h = absurd cc
limit_back (Blob n) x h = absurd cc
limit_back (Mark s) x h = absurd cc

abbrev SpellsComparison : Token → Comparison → Type 0
SpellsComparison t c = (t ≡ Mark (comparison_sign c)) × IsAny c

found_comparison : (t : Token) (v x : Comparison) → SpellsComparison t v → Some v ≡ Some x → SpellsComparison t x
found_comparison t v x h e = subst (λ (y : Comparison). SpellsComparison t y) (some_is v x e) h

sign_back : (s : Sign) (x : Comparison) → sign_comparison s ≡ Some x → SpellsComparison (Mark s) x
sign_back sign.Equal x h = found_comparison (Mark sign.Equal) Eq x (refl, tt) h
sign_back sign.NotEqual x h = found_comparison (Mark sign.NotEqual) Ne x (refl, tt) h
sign_back sign.Less x h = found_comparison (Mark sign.Less) Lt x (refl, tt) h
sign_back sign.LessOrEqual x h = found_comparison (Mark sign.LessOrEqual) Le x (refl, tt) h
sign_back sign.Greater x h = found_comparison (Mark sign.Greater) Gt x (refl, tt) h
sign_back sign.GreaterOrEqual x h = found_comparison (Mark sign.GreaterOrEqual) Ge x (refl, tt) h
sign_back _ x h = absurd cc

comparison_back : (t : Token) (x : Comparison) → comparison_of t ≡ Some x → SpellsComparison t x
comparison_back (Mark s) x h = sign_back s x h
comparison_back (Number n) x h = absurd cc
comparison_back (Name n) x h = absurd cc
comparison_back Overlong x h = absurd cc
comparison_back (Word w) x h = absurd cc
comparison_back (Text n) x h = absurd cc
comparison_back (Blob n) x h = absurd cc

-- ---- lists

items_more : {X : Type 0} (xs : List X) (x : X) → HasItems (xs ++ x ∷ [])
items_more [] x = tt
items_more (y ∷ ys) x = tt

all_none : {X : Type 0} (P : X → Type 0) (xs : List X) → xs ≡ [] → AllByRecursion P xs
all_none P [] h = tt
all_none P (x ∷ xs) h = absurd cc

no_items : {X : Type 0} (front : Tokens) (between : Token) (f : X → Tokens) (xs : List X) → xs ≡ [] → before_item front between f xs ≡ front
no_items front between f [] h = refl
no_items front between f (x ∷ xs) h = absurd cc

some_items : {X : Type 0} (front : Tokens) (between : Token) (f : X → Tokens) (xs : List X) → HasItems xs → before_item front between f xs ≡ (front ++ separated between f xs) ++ one between
some_items front between f [] h = absurd h
some_items front between f (x ∷ xs) h = refl

separated_more : {X : Type 0} (between : Token) (f : X → Tokens) (x : X) (xs : List X) (y : X) → separated between f (x ∷ (xs ++ y ∷ [])) ≡ (separated between f (x ∷ xs) ++ one between) ++ f y
separated_more between f x xs y = sym (flat_map_more (λ y. between ∷ f y) (f x) xs y) ∙ sym (append_assoc (separated between f (x ∷ xs)) (one between) (f y))

regrouped : (front items between more : Tokens) → front ++ ((items ++ between) ++ more) ≡ ((front ++ items) ++ between) ++ more
regrouped front items between more = simp append_assoc

one_item_more : {X : Type 0} (front : Tokens) (between : Token) (f : X → Tokens) (xs : List X) (y : X) → front ++ separated between f (xs ++ y ∷ []) ≡ before_item front between f xs ++ f y
one_item_more front between f [] y = ap (λ (ts : Tokens). front ++ ts) (append-nil (f y))
one_item_more front between f (x ∷ xs) y =
    ap (λ (ts : Tokens). front ++ ts) (separated_more between f x xs y) ∙ regrouped front (separated between f (x ∷ xs)) (one between) (f y)

test_more : (front : Tokens) (ts : List Test) (t : Test) → tested_by front (ts ++ t ∷ []) ≡ before_item (front ++ one (Word word.Where)) (Word word.And) test_tokens ts ++ test_tokens t
test_more front [] t = one_item_more (front ++ one (Word word.Where)) (Word word.And) test_tokens [] t
test_more front (u ∷ us) t = one_item_more (front ++ one (Word word.Where)) (Word word.And) test_tokens (u ∷ us) t

one_test_more : (front : Tokens) (ts : List Test) → HasItems ts → before_item (front ++ one (Word word.Where)) (Word word.And) test_tokens ts ≡ tested_by front ts ++ one (Word word.And)
one_test_more front [] h = absurd h
one_test_more front (t ∷ ts) h = refl

three : (b : Tokens) (x y z : Token) → b ++ (x ∷ y ∷ z ∷ []) ≡ ((b ++ one x) ++ one y) ++ one z
three b x y z = simp append_assoc

four : (b : Tokens) (w x y z : Token) → b ++ (w ∷ x ∷ y ∷ z ∷ []) ≡ (((b ++ one w) ++ one x) ++ one y) ++ one z
four b w x y z = simp append_assoc

-- ---- the statements that were read

shape_insert : (n l : Tokens) (a b c d : Token) → ((((n ++ one a) ++ one b) ++ one c) ++ l) ++ one d ≡ (n ++ (a ∷ b ∷ c ∷ l)) ++ one d
shape_insert n l a b c d = simp append_assoc

pub insert_is : (u : Bool) (t : TableName) (cs : List (List ℕ)) (vs : List Value) → listed (record { upsert = u; table = t; columns = cs; values = vs }) ++ one (Mark sign.Close) ≡ insert_tokens (insert_word u) (record { table = t; columns = cs; values = vs })
insert_is u t cs vs =
    ap (λ (x : Tokens). Word (insert_word u) ∷ Word word.Into ∷ Name t.ns ∷ Mark sign.Dot ∷ Name t.table ∷ Mark sign.Open ∷ x)
    (shape_insert (names_tokens cs) (literals_tokens vs) (Mark sign.Close) (Word word.Values) (Mark sign.Open) (Mark sign.Close))

draft_is : (u : Bool) (t : TableName) (cs : List (List ℕ)) (vs : List Value) → statement_tokens (inserted (record { upsert = u; table = t; columns = cs; values = vs })) ≡ listed (record { upsert = u; table = t; columns = cs; values = vs }) ++ one (Mark sign.Close)
draft_is true t cs vs = sym (insert_is true t cs vs)
draft_is false t cs vs = sym (insert_is false t cs vs)

whole_draft : (u : Bool) (t : TableName) (cs : List (List ℕ)) (vs : List Value) → HasItems cs → length cs ≡ length vs → AllByRecursion IsLiteral vs → IsWhole (inserted (record { upsert = u; table = t; columns = cs; values = vs }))
whole_draft true t cs vs has same all = (has, same, all)
whole_draft false t cs vs has same all = (has, same, all)

shape_update : (s items : Tokens) (w : Token) → (s ++ one w) ++ items ≡ s ++ (w ∷ items)
shape_update s items w = append_assoc s (one w) items

shape_select : (c : Tokens) (a b d e : Token) → (((c ++ one a) ++ one b) ++ one d) ++ one e ≡ ((c ++ (a ∷ b ∷ d ∷ e ∷ [])) ++ []) ++ []
shape_select c a b d e = simp (append_assoc, append-nil)

shape_tested : (c items : Tokens) (a b d e w : Token) → (((((c ++ one a) ++ one b) ++ one d) ++ one e) ++ one w) ++ items ≡ ((c ++ (a ∷ b ∷ d ∷ e ∷ [])) ++ (w ∷ items)) ++ []
shape_tested c items a b d e w = simp (append_assoc, append-nil)

shape_limit : (c : Tokens) (a b d e l n : Token) → (((((c ++ one a) ++ one b) ++ one d) ++ one e) ++ one l) ++ one n ≡ ((c ++ (a ∷ b ∷ d ∷ e ∷ [])) ++ []) ++ (l ∷ n ∷ [])
shape_limit c a b d e l n = simp (append_assoc, append-nil)

shape_tested_limit : (c items : Tokens) (a b d e w l n : Token) → (((((((c ++ one a) ++ one b) ++ one d) ++ one e) ++ one w) ++ items) ++ one l) ++ one n ≡ ((c ++ (a ∷ b ∷ d ∷ e ∷ [])) ++ (w ∷ items)) ++ (l ∷ n ∷ [])
shape_tested_limit c items a b d e w l n = simp append_assoc

-- a statement that ends after its tests
pub filter_is : (h : Head) (ts : List Test) → tested (record { head = h; tests = ts }) ≡ statement_tokens (filtered_by h ts None)
filter_is (head.Update t sets) [] =
    ap (λ (x : Tokens). Word word.Update ∷ Name t.ns ∷ Mark sign.Dot ∷ Name t.table ∷ Word word.Set ∷ x) (sym (append-nil (separated (Mark sign.Comma) set_tokens sets)))
filter_is (head.Update t sets) (u ∷ us) =
    ap (λ (x : Tokens). Word word.Update ∷ Name t.ns ∷ Mark sign.Dot ∷ Name t.table ∷ Word word.Set ∷ x)
    (shape_update (separated (Mark sign.Comma) set_tokens sets) (separated (Word word.And) test_tokens (u ∷ us)) (Word word.Where))
filter_is (head.Delete t) [] = refl
filter_is (head.Delete t) (u ∷ us) = refl
filter_is (head.Select t cs) [] = ap (λ (x : Tokens). Word word.Select ∷ x) (shape_select (columns_tokens cs) (Word word.From) (Name t.ns) (Mark sign.Dot) (Name t.table))
filter_is (head.Select t cs) (u ∷ us) =
    ap (λ (x : Tokens). Word word.Select ∷ x)
    (shape_tested (columns_tokens cs) (separated (Word word.And) test_tokens (u ∷ us)) (Word word.From) (Name t.ns) (Mark sign.Dot) (Name t.table) (Word word.Where))

-- a SELECT with its limit
limit_is : (h : Head) (ts : List Test) (n : ℤ) → is_select h ≡ true → statement_tokens (filtered_by h ts (Some n)) ≡ (tested (record { head = h; tests = ts }) ++ one (Word word.Limit)) ++ one (Number n)
limit_is (head.Update t sets) ts n h = absurd cc
limit_is (head.Delete t) ts n h = absurd cc
limit_is (head.Select t cs) [] n h =
    ap (λ (x : Tokens). Word word.Select ∷ x) (sym (shape_limit (columns_tokens cs) (Word word.From) (Name t.ns) (Mark sign.Dot) (Name t.table) (Word word.Limit) (Number n)))
limit_is (head.Select t cs) (u ∷ us) n h =
    ap (λ (x : Tokens). Word word.Select ∷ x)
    (sym (shape_tested_limit (columns_tokens cs) (separated (Word word.And) test_tokens (u ∷ us)) (Word word.From) (Name t.ns) (Mark sign.Dot) (Name t.table) (Word word.Where) (Word word.Limit) (Number n)))

pub whole_filter : (h : Head) (ts : List Test) → HeadFine h → AllByRecursion IsTest ts → IsWhole (filtered_by h ts None)
whole_filter (head.Update t sets) ts valid all = (valid.0, valid.1, all)
whole_filter (head.Delete t) ts valid all = all
whole_filter (head.Select t cs) ts valid all = (valid, all, tt)

whole_limit : (h : Head) (ts : List Test) (n : ℤ) → is_select h ≡ true → IsFromZero n → HeadFine h → AllByRecursion IsTest ts → IsWhole (filtered_by h ts (Some n))
whole_limit (head.Update t sets) ts n h lim valid all = absurd cc
whole_limit (head.Delete t) ts n h lim valid all = absurd cc
whole_limit (head.Select t cs) ts n h lim valid all = (valid, all, lim)

-- ---- the steps

told_ending : (f : Filter) (here : State) (t : Token) (n : State) → so_far here ≡ tested f → FilterFine f → ending f t ≡ Some n → Tells here t n
told_ending f here t n at valid h =
    on_test (is_select f.head && is_word word.Limit t) (Word word.Limit) (Some (state.Limit f)) here t n _
    (λ b. word_is word.Limit t (and_both (is_select f.head) (is_word word.Limit t) b).1)
    (λ b. one_state here (Word word.Limit) (state.Limit f) n (ap (λ (x : Tokens). x ++ one (Word word.Limit)) (sym at), ((and_both (is_select f.head) (is_word word.Limit t) b).0, valid)))
    (if_sign sign.Semicolon (state.Closed (filtered f None)) here t n _ (ap (λ (x : Tokens). x ++ one (Mark sign.Semicolon)) (sym (at ∙ filter_is f.head f.tests)), whole_filter f.head f.tests valid.0 valid.1) (none n)) h

told_more_sets : (h : Head) (n : State) → HeadFine h → more_sets h ≡ Some n → Tells (state.Target h) (Mark sign.Comma) n
told_more_sets (head.Update t sets) n valid e =
    one_state (state.Target (head.Update t sets)) (Mark sign.Comma) (state.NextSet t sets) n (some_items (set_so t) (Mark sign.Comma) set_tokens sets valid.0, valid.1) e
told_more_sets (head.Delete t) n valid e = none n e
told_more_sets (head.Select t cs) n valid e = none n e

told_table : (v : Verb) (ns x : List ℕ) → VerbFine v → Tells (state.Table v ns) (Name x) (begun v ns x)
told_table (verb.Insert u) ns x valid = (refl, (refl, refl))
told_table verb.Update ns x valid = (refl, tt)
told_table verb.Delete ns x valid = (refl, tt)
told_table (verb.Select cs) ns x valid = (refl, valid)

told_test : (f : Filter) (t : Test) (here : State) (last : Token) → before_test f ++ test_tokens t ≡ so_far here ++ one last → FilterFine f → IsTest t → Tells here last (state.TestEnd (with_test f t))
told_test f t here last shape valid is = (test_more (head_so f.head) f.tests t ∙ shape, (items_more f.tests t, (valid.0, all_more IsTest f.tests t valid.1 is)))

pub answered : (s : State) (t : Token) (n : State) → Fine s → step s t ≡ Some n → Tells s t n
answered state.Start t n valid h =
    if_word word.Begin (state.Ended statement.Begin) state.Start t n _ (refl, tt)
    (if_word word.Commit (state.Ended statement.Commit) state.Start t n _ (refl, tt)
    (if_word word.Rollback (state.Ended statement.Rollback) state.Start t n _ (refl, tt)
    (if_word word.Vacuum (state.Ended statement.Vacuum) state.Start t n _ (refl, tt)
    (if_word word.Insert (state.Into false) state.Start t n _ (refl, tt)
    (if_word word.Upsert (state.Into true) state.Start t n _ (refl, tt)
    (if_word word.Update (state.Namespace verb.Update) state.Start t n _ (refl, tt)
    (if_word word.Delete state.DeleteFrom state.Start t n _ (refl, tt)
    (if_word word.Select state.FirstColumn state.Start t n _ (refl, tt) (none n))))))))) h
answered (state.Into u) t n valid h = if_word word.Into (state.Namespace (verb.Insert u)) (state.Into u) t n _ (refl, tt) (none n) h
answered state.DeleteFrom t n valid h = if_word word.From (state.Namespace verb.Delete) state.DeleteFrom t n _ (refl, tt) (none n) h
answered state.FirstColumn t n valid h =
    if_sign sign.Star state.StarEnd state.FirstColumn t n _ (refl, tt)
    (if_part IsAny name_of Name name_back (λ x. state.ColumnEnd (x ∷ [])) state.FirstColumn t n (λ x _. (refl, tt))) h
answered (state.NextColumn cs) t n valid h =
    if_part IsAny name_of Name name_back (λ x. state.ColumnEnd (cs ++ x ∷ [])) (state.NextColumn cs) t n (λ x _. (one_item_more (one (Word word.Select)) (Mark sign.Comma) name_tokens cs x, items_more cs x)) h
answered (state.ColumnEnd cs) t n valid h =
    if_sign sign.Comma (state.NextColumn cs) (state.ColumnEnd cs) t n _ (some_items (one (Word word.Select)) (Mark sign.Comma) name_tokens cs valid, valid)
    (if_word word.From (state.Namespace (verb.Select (Some cs))) (state.ColumnEnd cs) t n _ (refl, valid) (none n)) h
answered state.StarEnd t n valid h = if_word word.From (state.Namespace (verb.Select None)) state.StarEnd t n _ (refl, tt) (none n) h
answered (state.Namespace v) t n valid h = if_part IsAny name_of Name name_back (state.Dot v) (state.Namespace v) t n (λ x _. (refl, valid)) h
answered (state.Dot v ns) t n valid h = if_sign sign.Dot (state.Table v ns) (state.Dot v ns) t n _ (refl, valid) (none n) h
answered (state.Table v ns) t n valid h = if_part IsAny name_of Name name_back (begun v ns) (state.Table v ns) t n (λ x _. told_table v ns x valid) h
answered (state.OpenNames d) t n valid h =
    if_sign sign.Open (state.NextName d) (state.OpenNames d) t n _ (no_items (opened d) (Mark sign.Comma) name_tokens d.columns valid.0, valid.1) (none n) h
answered (state.NextName d) t n valid h =
    if_part IsAny name_of Name name_back (λ x. state.NameEnd (with_name d x)) (state.NextName d) t n (λ x _. (one_item_more (opened d) (Mark sign.Comma) name_tokens d.columns x, (items_more d.columns x, valid))) h
answered (state.NameEnd d) t n valid h =
    if_sign sign.Comma (state.NextName d) (state.NameEnd d) t n _ (some_items (opened d) (Mark sign.Comma) name_tokens d.columns valid.0, valid.1)
    (if_sign sign.Close (state.Values d) (state.NameEnd d) t n _ (refl, valid) (none n)) h
answered (state.Values d) t n valid h = if_word word.Values (state.OpenLiterals d) (state.Values d) t n _ (refl, valid) (none n) h
answered (state.OpenLiterals d) t n valid h =
    if_sign sign.Open (state.NextLiteral d) (state.OpenLiterals d) t n _ (no_items (valued d ++ one (Mark sign.Open)) (Mark sign.Comma) literal_tokens d.values valid.1, (valid.0, all_none IsLiteral d.values valid.1)) (none n) h
answered (state.NextLiteral d) t n valid h =
    if_part IsLiteral literal_of literal_token literal_back (λ x. state.LiteralEnd (with_literal d x)) (state.NextLiteral d) t n
    (λ x is. (one_item_more (valued d ++ one (Mark sign.Open)) (Mark sign.Comma) literal_tokens d.values x, (valid.0, items_more d.values x, all_more IsLiteral d.values x valid.1 is))) h
answered (state.LiteralEnd d) t n valid h =
    if_sign sign.Comma (state.NextLiteral d) (state.LiteralEnd d) t n _ (some_items (valued d ++ one (Mark sign.Open)) (Mark sign.Comma) literal_tokens d.values valid.1, (valid.0, valid.2))
    (λ h. elim (chosen (length d.columns == length d.values) (on_sign sign.Close (state.Ended (inserted d)) t) None (Some n) h) as (λ _. Tells (state.LiteralEnd d) t n) [
      | inl p ↦ if_sign sign.Close (state.Ended (inserted d)) (state.LiteralEnd d) t n _
          (draft_is d.upsert d.table d.columns d.values, whole_draft d.upsert d.table d.columns d.values valid.0 (same_length (length d.columns) (length d.values) p.0) valid.2) (none n) p.1
      | inr p ↦ none n p.1
    ]) h
answered (state.Set tn) t n valid h = if_word word.Set (state.NextSet tn []) (state.Set tn) t n _ (refl, tt) (none n) h
answered (state.NextSet tn sets) t n valid h = if_part IsAny name_of Name name_back (state.SetName tn sets) (state.NextSet tn sets) t n (λ x _. (refl, valid)) h
answered (state.SetName tn sets m) t n valid h = if_sign sign.Equal (state.SetTo tn sets m) (state.SetName tn sets m) t n _ (refl, valid) (none n) h
answered (state.SetTo tn sets m) t n valid h =
    if_part IsLiteral literal_of literal_token literal_back (with_set tn sets m) (state.SetTo tn sets m) t n
    (λ x is. (one_item_more (set_so tn) (Mark sign.Comma) set_tokens sets (record { name = m; value = x }) ∙ three (before_set tn sets) (Name m) (Mark sign.Equal) (literal_token x), (items_more sets (record { name = m; value = x }), all_more IsSet sets (record { name = m; value = x }) valid is))) h
answered (state.Target hd) t n valid h =
    if_word word.Where (state.NextTest (untested hd)) (state.Target hd) t n _ (refl, (valid, tt))
    (if_sign_then sign.Comma (more_sets hd) (state.Target hd) t n _ (told_more_sets hd n valid) (told_ending (untested hd) (state.Target hd) t n refl (valid, tt))) h
answered (state.NextTest f) t n valid h = if_part IsAny name_of Name name_back (state.Compare f) (state.NextTest f) t n (λ x _. (refl, valid)) h
answered (state.Compare f m) t n valid h =
    if_word word.Is (state.Is f m) (state.Compare f m) t n _ (refl, valid)
    (if_part IsAny comparison_of (λ c. Mark (comparison_sign c)) comparison_back (state.Right f m) (state.Compare f m) t n (λ x _. (refl, valid))) h
answered (state.Right f m c) t n valid h =
    if_part IsValue value_of literal_token value_back (λ x. state.TestEnd (with_test f (test.Compare m c x))) (state.Right f m c) t n
    (λ x is. told_test f (test.Compare m c x) (state.Right f m c) (literal_token x) (three (before_test f) (Name m) (Mark (comparison_sign c)) (literal_token x)) valid is) h
answered (state.Is f m) t n valid h =
    if_word word.Not (state.Not f m) (state.Is f m) t n _ (refl, valid)
    (if_word word.Null (state.TestEnd (with_test f (test.IsNull m))) (state.Is f m) t n _ (told_test f (test.IsNull m) (state.Is f m) (Word word.Null) (three (before_test f) (Name m) (Word word.Is) (Word word.Null)) valid tt) (none n)) h
answered (state.Not f m) t n valid h =
    if_word word.Null (state.TestEnd (with_test f (test.NotNull m))) (state.Not f m) t n _ (told_test f (test.NotNull m) (state.Not f m) (Word word.Null) (four (before_test f) (Name m) (Word word.Is) (Word word.Not) (Word word.Null)) valid tt) (none n) h
answered (state.TestEnd f) t n valid h =
    if_word word.And (state.NextTest f) (state.TestEnd f) t n _ (one_test_more (head_so f.head) f.tests valid.0, valid.1) (told_ending f (state.TestEnd f) t n refl valid.1) h
answered (state.Limit f) t n valid h =
    if_part IsFromZero limit_of Number limit_back (λ x. state.Ended (filtered f (Some x))) (state.Limit f) t n
    (λ x is. (limit_is f.head f.tests x valid.0, whole_limit f.head f.tests x valid.0 is valid.1.0 valid.1.1)) h
answered (state.Ended st) t n valid h = if_sign sign.Semicolon (state.Closed st) (state.Ended st) t n _ (refl, valid) (none n) h
answered (state.Closed st) t n valid h = none n h
