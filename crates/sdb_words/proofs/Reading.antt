-- What the parser took is what it read, and it takes as many words as each command has.
use Rattle.std.proofs.Common.{◌≡◌, ◌≢◌, ◌∙◌, List, [], ◌∷◌, true, false, Option, Some, None, refl, sym, subst, ap, codes}
use Rattle.std.specs.Str.{bytes_eq}
use Rattle.std.proofs.lemmas.Slice.Eq.{bytes_eq-Decides}
use Rattle.sdb_types.proofs.Public.{and_first, and_second, by_test, some_is}
use Rattle.clap.specs.Lexer.{strip_byte}
use Rattle.clap.specs.Kinds.{Kinds, or_else}
use Rattle.clap.specs.Walk.{Row, Text, nothing_held, rows_after}
use Rattle.clap.specs.Simple.{App, subcommand_of}
use Rattle.clap.specs.Faults.{fault_of, level_fault}
use Rattle.clap.specs.declared.error.kind.ErrorKind.{ErrorKind}
use Rattle.clap.specs.declared.error.kind.ErrorKind.TheVariants as kind
use Rattle.sdb_words.specs.Parser.{are_undashed, arguments, is_undashed, leaf0, leaf1, leaf2, leaf3, leaves, program, IsParsed}
use Rattle.sdb_words.proofs.Steps.{unstripped}
use Rattle.sdb_words.proofs.ParsedWords.{IsStray, IsSub, leaf, replay_sub, sql_sub, audit_sub, bench_sub, export_sub, retire_sub, load_sub, alter_sub, schema_sub, none_taken, none_more, one_missing, one_taken, one_read, one_more, two_missing, two_missing_one, two_taken, two_read, two_more, three_missing, three_missing_two, three_missing_one, three_taken, three_read, three_more, nothing_refused, stray_refused}

first_plain : (w : Text) (rest : List Text) → are_undashed (w ∷ rest) ≡ true → strip_byte 45 w ≡ None
first_plain w rest h = unstripped w (and_first (is_undashed w) (are_undashed rest) h)

others_plain : (w : Text) (rest : List Text) → are_undashed (w ∷ rest) ≡ true → are_undashed rest ≡ true
others_plain w rest h = and_second (is_undashed w) (are_undashed rest) h

-- a parse with a fault isn't one without
one_kind : {X : Type 0} (f : Kinds) (k : ErrorKind) → f ≡ k ∷ [] → f ≡ [] → X
one_kind f k e h = let bad : k ∷ [] ≡ [] = sym e ∙ h in absurd cc

two_kinds : {X : Type 0} (f : Kinds) (k j : ErrorKind) → f ≡ k ∷ j ∷ [] → f ≡ [] → X
two_kinds f k j e h = let bad : k ∷ j ∷ [] ≡ [] = sym e ∙ h in absurd cc

-- Words are the name that was read and the words after it. Those after any name but `schema` are what was read of them.
pub record IsRead (words : List Text) (name : Text) (rows : List Row) : Type 0 where
  pub rest : List Text
  pub words_are : words ≡ name ∷ rest
  pub arguments_are : name ≢ codes "schema" → rest ≡ arguments rows

abbrev Found : Type 0
Found = Option (Text × List Row)

read_as : (given : Text) (rest : List Text) (read : List Row) (name : Text) (rows : List Row) → (given ≢ codes "schema" → arguments read ≡ rest) → ◌≡◌ {A = Found} (Some (given, read)) (Some (name, rows)) → IsRead (given ∷ rest) name rows
read_as given rest read name rows e h =
    let p : ◌≡◌ {A = Text × List Row} (given, read) (name, rows) = some_is {A = Text × List Row} (given, read) (name, rows) h in
    let n : given ≡ name = ap (λ (q : Text × List Row). q.0) p in
    let r : read ≡ rows = ap (λ (q : Text × List Row). q.1) p in
    record {
      rest = rest;
      words_are = ap (λ (x : Text). x ∷ rest) n;
      arguments_are = λ other. sym (e (λ is. other (sym n ∙ is))) ∙ ap arguments r;
    }

-- what a subcommand's words are read as, and that they are accepted
module _ (given : Text) (a : App) (sub : IsSub given a) where
  faulted : {X : Type 0} (rest : List Text) (k : ErrorKind) → level_fault (leaf a) [] nothing_held rest false [] ≡ k ∷ [] → fault_of program (given ∷ rest) ≡ [] → X
  faulted rest k e f = one_kind (fault_of program (given ∷ rest)) k (sub.named rest ∙ ap (λ (x : Kinds). or_else x []) e) f

  pub fits_sub : (rest : List Text) → level_fault (leaf a) [] nothing_held rest false [] ≡ [] → fault_of program (given ∷ rest) ≡ []
  fits_sub rest e = sub.named rest ∙ ap (λ (x : Kinds). or_else x []) e

  read_sub : (rest : List Text) (name : Text) (rows : List Row) → (given ≢ codes "schema" → arguments (rows_after (leaf a).rules [] rest) ≡ rest) → subcommand_of program (given ∷ rest) ≡ Some (name, rows) → IsRead (given ∷ rest) name rows
  read_sub rest name rows e s = read_as given rest (rows_after (leaf a).rules [] rest) name rows e (sym (sub.read rest) ∙ s)

-- the words after a name, where they have no fault
abbrev Reads : List Text → Text → List Row → Text → Type 0
Reads rest name rows given = fault_of program (given ∷ rest) ≡ [] → subcommand_of program (given ∷ rest) ≡ Some (name, rows) → IsRead (given ∷ rest) name rows

-- a subcommand with no word
none_is : (given : Text) → IsSub given (leaf0 given) → (rest : List Text) (name : Text) (rows : List Row) → are_undashed rest ≡ true → Reads rest name rows given
none_is given sub [] name rows u f s = read_sub given (leaf0 given) sub [] name rows (λ _. refl) s
none_is given sub (a ∷ more) name rows u f s =
    faulted given (leaf0 given) sub (a ∷ more) kind.UnknownArgument (none_more given a more (first_plain a more u)) f

pub none_fits : (given : Text) → IsSub given (leaf0 given) → fault_of program (given ∷ []) ≡ []
none_fits given sub = fits_sub given (leaf0 given) sub [] (none_taken given)

-- with one
one_is : (given : Text) → IsSub given (leaf1 given) → (rest : List Text) (name : Text) (rows : List Row) → are_undashed rest ≡ true → Reads rest name rows given
one_is given sub [] name rows u f s = faulted given (leaf1 given) sub [] kind.MissingRequiredArgument (one_missing given) f
one_is given sub (a ∷ []) name rows u f s = read_sub given (leaf1 given) sub (a ∷ []) name rows (λ _. one_read given a (first_plain a [] u)) s
one_is given sub (a ∷ b ∷ more) name rows u f s =
    faulted given (leaf1 given) sub (a ∷ b ∷ more) kind.UnknownArgument (one_more given a b more (first_plain a (b ∷ more) u) (first_plain b more (others_plain a (b ∷ more) u))) f

pub one_fits : (given : Text) → IsSub given (leaf1 given) → (a : Text) → is_undashed a ≡ true → fault_of program (given ∷ a ∷ []) ≡ []
one_fits given sub a u = fits_sub given (leaf1 given) sub (a ∷ []) (one_taken given a (unstripped a u))

-- with two
two_is : (given : Text) → IsSub given (leaf2 given) → (rest : List Text) (name : Text) (rows : List Row) → are_undashed rest ≡ true → Reads rest name rows given
two_is given sub [] name rows u f s = faulted given (leaf2 given) sub [] kind.MissingRequiredArgument (two_missing given) f
two_is given sub (a ∷ []) name rows u f s = faulted given (leaf2 given) sub (a ∷ []) kind.MissingRequiredArgument (two_missing_one given a (first_plain a [] u)) f
two_is given sub (a ∷ b ∷ []) name rows u f s =
    read_sub given (leaf2 given) sub (a ∷ b ∷ []) name rows (λ _. two_read given a b (first_plain a (b ∷ []) u) (first_plain b [] (others_plain a (b ∷ []) u))) s
two_is given sub (a ∷ b ∷ x ∷ more) name rows u f s =
    let v = others_plain a (b ∷ x ∷ more) u in
    faulted given (leaf2 given) sub (a ∷ b ∷ x ∷ more) kind.UnknownArgument
    (two_more given a b x more (first_plain a (b ∷ x ∷ more) u) (first_plain b (x ∷ more) v) (first_plain x more (others_plain b (x ∷ more) v))) f

pub two_fits : (given : Text) → IsSub given (leaf2 given) → (a b : Text) → is_undashed a ≡ true → is_undashed b ≡ true → fault_of program (given ∷ a ∷ b ∷ []) ≡ []
two_fits given sub a b u v = fits_sub given (leaf2 given) sub (a ∷ b ∷ []) (two_taken given a b (unstripped a u) (unstripped b v))

-- with three
three_is : (given : Text) → IsSub given (leaf3 given) → (rest : List Text) (name : Text) (rows : List Row) → are_undashed rest ≡ true → Reads rest name rows given
three_is given sub [] name rows u f s = faulted given (leaf3 given) sub [] kind.MissingRequiredArgument (three_missing given) f
three_is given sub (a ∷ []) name rows u f s = faulted given (leaf3 given) sub (a ∷ []) kind.MissingRequiredArgument (three_missing_two given a (first_plain a [] u)) f
three_is given sub (a ∷ b ∷ []) name rows u f s =
    faulted given (leaf3 given) sub (a ∷ b ∷ []) kind.MissingRequiredArgument
    (three_missing_one given a b (first_plain a (b ∷ []) u) (first_plain b [] (others_plain a (b ∷ []) u))) f
three_is given sub (a ∷ b ∷ c ∷ []) name rows u f s =
    let v = others_plain a (b ∷ c ∷ []) u in
    read_sub given (leaf3 given) sub (a ∷ b ∷ c ∷ []) name rows
    (λ _. three_read given a b c (first_plain a (b ∷ c ∷ []) u) (first_plain b (c ∷ []) v) (first_plain c [] (others_plain b (c ∷ []) v))) s
three_is given sub (a ∷ b ∷ c ∷ x ∷ more) name rows u f s =
    let v = others_plain a (b ∷ c ∷ x ∷ more) u in
    let w = others_plain b (c ∷ x ∷ more) v in
    faulted given (leaf3 given) sub (a ∷ b ∷ c ∷ x ∷ more) kind.UnknownArgument
    (three_more given a b c x more (first_plain a (b ∷ c ∷ x ∷ more) u) (first_plain b (c ∷ x ∷ more) v) (first_plain c (x ∷ more) w) (first_plain x more (others_plain c (x ∷ more) w))) f

pub three_fits : (given : Text) → IsSub given (leaf3 given) → (a b c : Text) → is_undashed a ≡ true → is_undashed b ≡ true → is_undashed c ≡ true → fault_of program (given ∷ a ∷ b ∷ c ∷ []) ≡ []
three_fits given sub a b c u v w = fits_sub given (leaf3 given) sub (a ∷ b ∷ c ∷ []) (three_taken given a b c (unstripped a u) (unstripped b v) (unstripped c w))

-- with any number
any_is : (rest : List Text) (name : Text) (rows : List Row) → Reads rest name rows (codes "schema")
any_is rest name rows f s = read_sub (codes "schema") (leaves (codes "schema")) schema_sub rest name rows (λ other. absurd (other refl)) s

---- whatever the words are

-- a word is this one, or it isn't
by_word : (G : Text → Type 0) (word w : Text) → G word → (bytes_eq word w ≡ false → G w) → G w
by_word G word w it not = by_test (bytes_eq word w) (λ e. subst G ((bytes_eq-Decides word w).0 e) it) not

-- what is accepted is the name of a subcommand and what was read of its words
pub taken_is : (words : List Text) (name : Text) (rows : List Row) → IsParsed words name rows → IsRead words name rows
taken_is [] name rows t = one_kind (fault_of program []) kind.MissingSubcommand nothing_refused t.accepted
taken_is (w ∷ rest) name rows t =
    let u = others_plain w rest t.undashed in
    let G = Reads rest name rows in
    by_word G (codes "replay") w (none_is (codes "replay") replay_sub rest name rows u) (λ k0.
    by_word G (codes "sql") w (none_is (codes "sql") sql_sub rest name rows u) (λ k1.
    by_word G (codes "audit") w (none_is (codes "audit") audit_sub rest name rows u) (λ k2.
    by_word G (codes "bench") w (one_is (codes "bench") bench_sub rest name rows u) (λ k3.
    by_word G (codes "export") w (one_is (codes "export") export_sub rest name rows u) (λ k4.
    by_word G (codes "retire") w (two_is (codes "retire") retire_sub rest name rows u) (λ k5.
    by_word G (codes "load") w (three_is (codes "load") load_sub rest name rows u) (λ k6.
    by_word G (codes "alter") w (three_is (codes "alter") alter_sub rest name rows u) (λ k7.
    by_word G (codes "schema") w (any_is rest name rows) (λ k8 f s.
    let stray : IsStray w = record { not_replay = k0; not_sql = k1; not_audit = k2; not_bench = k3; not_export = k4; not_retire = k5; not_load = k6; not_alter = k7; not_schema = k8 } in
    two_kinds (fault_of program (w ∷ rest)) kind.UnknownArgument kind.InvalidSubcommand (stray_refused w rest (first_plain w rest t.undashed) stray) f))))))))) t.accepted t.read
