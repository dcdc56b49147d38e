-- Which words the parser takes, and what it reads of them.
use Rattle.std.proofs.Common.{Ok, Err, inl, inr, subst, ◌≡◌, ◌∙◌, ℕ, List, [], ◌∷◌, ◌++◌, true, false, Some, None, refl, ap, ap₂, codes, append-nil, append_assoc, length, ◌≤◌, arith}
use Rattle.std.proofs.lemmas.Bool.Decides.{nat_tests}
use Rattle.std.specs.Prelude.{fold, is_some, nat_lt}
use Rattle.std.specs.Str.{bytes_eq}
use Rattle.sdb_types.proofs.Public.{and_first, and_second}
use Rattle.clap.specs.Lexer.{strip_byte, usize_max}
use Rattle.clap.specs.Kinds.{FailsBy, HasKind, Kinds, or_else, values_kinds}
use Rattle.clap.specs.Values.{kind_of}
use Rattle.clap.specs.declared.error.Error.{Error}
use Rattle.clap.specs.declared.parser.matches.ArgMatches.{ArgMatches}
use Rattle.clap.specs.declared.builder.value_parser.ValueParser.TheVariants as vp
use Rattle.clap.specs.Walk.{Held, Names, Text, Walk, finished, idle, positional, nothing_held, rows_after, settled, walk, walk_from, walked}
use Rattle.clap.specs.Simple.{App, HasMatchesOf, Shape, is_simple, subcommand_rows_of, built, built_leaf, entered, inherited, marked_built, names_of, on_top, subcommand_of, with_leaf_noted}
use Rattle.clap.specs.Faults.{is_simple_and_free, check_fault, defaults_fault, entered_fault, fault_of, level_fault, settle_fault, turn_fault, walk_fault}
use Rattle.clap.proofs.FaultLemmas.{stopped_fault}
use Rattle.clap.proofs.OnLiterals.{clap_on_literals}
use Rattle.clap.specs.declared.error.kind.ErrorKind.TheVariants as kind
use Rattle.sdb_words.specs.Parser.{arguments, are_undashed, is_undashed, leaf0, leaf1, leaf2, leaf3, leaves, program}
use Rattle.sdb_words.proofs.Steps.{gathered, no_long, no_short, not_dashes, unstripped}

-- a subcommand of the program, as the parse builds it
abbrev pub leaf : App → Shape
leaf a = built_leaf (inherited (on_top with_leaf_noted (on_top marked_built program)).top a.top)

---- the first word

abbrev whole : App
whole = built program

abbrev names : Names
names = names_of whole

-- the walk after the name of a subcommand, and the words after it
abbrev stopped_at : Text → List Text → Walk
stopped_at n rest = record { held = nothing_held; waiting = idle; position = 1; is_trailing = false; stopped = Some (n, rest) }

-- a level's fault, by where its walk ended and by the fault of the walk
abbrev ended : Walk → Kinds → Kinds
ended w walked_by =
    or_else walked_by (or_else (entered_fault whole w.stopped) (or_else (settle_fault [] false w.held)
    (or_else (defaults_fault (settled [] w.held).rows []) (check_fault whole.top (finished [] w.held) (is_some (entered whole w.stopped))))))

is_ended : (words : List Text) → fault_of program words ≡ ended (walk [] names nothing_held words) (walk_fault whole.top names (walk_from nothing_held) words)
is_ended words = refl

walks_on : (w n : Text) → walked [] names (walk_from nothing_held) w ≡ stopped_at n [] → (rest : List Text) → walk [] names nothing_held (w ∷ rest) ≡ stopped_at n rest
walks_on w n e rest = ap (λ (x : Walk). fold (walked [] names) x rest) e ∙ gathered [] names nothing_held idle 1 n [] rest

no_fault : (w n : Text) → walked [] names (walk_from nothing_held) w ≡ stopped_at n [] → turn_fault whole.top names (walk_from nothing_held) w ≡ [] → (rest : List Text) → walk_fault whole.top names (walk_from nothing_held) (w ∷ rest) ≡ []
unfolding walk_fault
no_fault w n e f rest =
    ap₂ or_else f (ap (λ (x : Walk). walk_fault whole.top names x rest) e ∙ stopped_fault whole.top names (stopped_at n []) (n, []) rest)

fault_ends : (w n : Text) → walked [] names (walk_from nothing_held) w ≡ stopped_at n [] → turn_fault whole.top names (walk_from nothing_held) w ≡ [] → (rest : List Text) → fault_of program (w ∷ rest) ≡ ended (stopped_at n rest) []
fault_ends w n e f rest = is_ended (w ∷ rest) ∙ ap₂ ended (walks_on w n e rest) (no_fault w n e f rest)

reads_on : (w n : Text) → walked [] names (walk_from nothing_held) w ≡ stopped_at n [] → (rest : List Text) → subcommand_of program (w ∷ rest) ≡ entered whole (Some (n, rest))
reads_on w n e rest = ap (λ (x : Walk). entered whole x.stopped) (walks_on w n e rest)

-- A subcommand of the program: how the words after its name are accepted, and what is read of them.
pub record IsSub (name : Text) (a : App) : Type 0 where
  pub named : (rest : List Text) → fault_of program (name ∷ rest) ≡ or_else (level_fault (leaf a) [] nothing_held rest false []) []
  pub read : (rest : List Text) → subcommand_of program (name ∷ rest) ≡ Some (name, rows_after (leaf a).rules [] rest)

replay_met : walked [] names (walk_from nothing_held) (codes "replay") ≡ stopped_at (codes "replay") []
unfolding walked
replay_met = refl

pub replay_sub : IsSub (codes "replay") (leaf0 (codes "replay"))
unfolding defaults_fault
replay_sub = record { named = fault_ends (codes "replay") (codes "replay") replay_met refl; read = reads_on (codes "replay") (codes "replay") replay_met }

sql_met : walked [] names (walk_from nothing_held) (codes "sql") ≡ stopped_at (codes "sql") []
unfolding walked
sql_met = refl

pub sql_sub : IsSub (codes "sql") (leaf0 (codes "sql"))
unfolding defaults_fault
sql_sub = record { named = fault_ends (codes "sql") (codes "sql") sql_met refl; read = reads_on (codes "sql") (codes "sql") sql_met }

audit_met : walked [] names (walk_from nothing_held) (codes "audit") ≡ stopped_at (codes "audit") []
unfolding walked
audit_met = refl

pub audit_sub : IsSub (codes "audit") (leaf0 (codes "audit"))
unfolding defaults_fault
audit_sub = record { named = fault_ends (codes "audit") (codes "audit") audit_met refl; read = reads_on (codes "audit") (codes "audit") audit_met }

bench_met : walked [] names (walk_from nothing_held) (codes "bench") ≡ stopped_at (codes "bench") []
unfolding walked
bench_met = refl

pub bench_sub : IsSub (codes "bench") (leaf1 (codes "bench"))
unfolding defaults_fault
bench_sub = record { named = fault_ends (codes "bench") (codes "bench") bench_met refl; read = reads_on (codes "bench") (codes "bench") bench_met }

export_met : walked [] names (walk_from nothing_held) (codes "export") ≡ stopped_at (codes "export") []
unfolding walked
export_met = refl

pub export_sub : IsSub (codes "export") (leaf1 (codes "export"))
unfolding defaults_fault
export_sub = record { named = fault_ends (codes "export") (codes "export") export_met refl; read = reads_on (codes "export") (codes "export") export_met }

retire_met : walked [] names (walk_from nothing_held) (codes "retire") ≡ stopped_at (codes "retire") []
unfolding walked
retire_met = refl

pub retire_sub : IsSub (codes "retire") (leaf2 (codes "retire"))
unfolding defaults_fault
retire_sub = record { named = fault_ends (codes "retire") (codes "retire") retire_met refl; read = reads_on (codes "retire") (codes "retire") retire_met }

load_met : walked [] names (walk_from nothing_held) (codes "load") ≡ stopped_at (codes "load") []
unfolding walked
load_met = refl

pub load_sub : IsSub (codes "load") (leaf3 (codes "load"))
unfolding defaults_fault
load_sub = record { named = fault_ends (codes "load") (codes "load") load_met refl; read = reads_on (codes "load") (codes "load") load_met }

alter_met : walked [] names (walk_from nothing_held) (codes "alter") ≡ stopped_at (codes "alter") []
unfolding walked
alter_met = refl

pub alter_sub : IsSub (codes "alter") (leaf3 (codes "alter"))
unfolding defaults_fault
alter_sub = record { named = fault_ends (codes "alter") (codes "alter") alter_met refl; read = reads_on (codes "alter") (codes "alter") alter_met }

schema_met : walked [] names (walk_from nothing_held) (codes "schema") ≡ stopped_at (codes "schema") []
unfolding walked
schema_met = refl

pub schema_sub : IsSub (codes "schema") (leaves (codes "schema"))
unfolding defaults_fault
schema_sub = record { named = fault_ends (codes "schema") (codes "schema") schema_met refl; read = reads_on (codes "schema") (codes "schema") schema_met }

-- a subcommand with no word
module _ (name : Text) where
  pub none_taken : level_fault (leaf (leaf0 name)) [] nothing_held [] false [] ≡ []
  unfolding clap_on_literals
  none_taken = refl

  pub none_more : (a : Text) (more : List Text) → strip_byte 45 a ≡ None → level_fault (leaf (leaf0 name)) [] nothing_held (a ∷ more) false [] ≡ kind.UnknownArgument ∷ []
  unfolding clap_on_literals
  none_more a more h = let d = not_dashes a h in let l = no_long a h in let t = no_short a h in rw (d, l, t) refl

-- with one
module _ (name : Text) where
  pub one_missing : level_fault (leaf (leaf1 name)) [] nothing_held [] false [] ≡ kind.MissingRequiredArgument ∷ []
  unfolding clap_on_literals
  one_missing = refl

  pub one_taken : (a : Text) → strip_byte 45 a ≡ None → level_fault (leaf (leaf1 name)) [] nothing_held (a ∷ []) false [] ≡ []
  unfolding clap_on_literals
  one_taken a h = let d = not_dashes a h in let l = no_long a h in let t = no_short a h in rw (d, l, t) refl

  pub one_read : (a : Text) → strip_byte 45 a ≡ None → arguments (rows_after (leaf (leaf1 name)).rules [] (a ∷ [])) ≡ a ∷ []
  unfolding clap_on_literals
  one_read a h = let d = not_dashes a h in let l = no_long a h in let t = no_short a h in rw (d, l, t) refl

  pub one_more : (a b : Text) (more : List Text) → strip_byte 45 a ≡ None → strip_byte 45 b ≡ None → level_fault (leaf (leaf1 name)) [] nothing_held (a ∷ b ∷ more) false [] ≡ kind.UnknownArgument ∷ []
  unfolding clap_on_literals
  one_more a b more h k =
      let d = not_dashes a h in let l = no_long a h in let t = no_short a h in
      let e = not_dashes b k in let m = no_long b k in let u = no_short b k in rw (d, l, t, e, m, u) refl

-- with two
module _ (name : Text) where
  pub two_missing : level_fault (leaf (leaf2 name)) [] nothing_held [] false [] ≡ kind.MissingRequiredArgument ∷ []
  unfolding clap_on_literals
  two_missing = refl

  pub two_missing_one : (a : Text) → strip_byte 45 a ≡ None → level_fault (leaf (leaf2 name)) [] nothing_held (a ∷ []) false [] ≡ kind.MissingRequiredArgument ∷ []
  unfolding clap_on_literals
  two_missing_one a h = let d = not_dashes a h in let l = no_long a h in let t = no_short a h in rw (d, l, t) refl

  pub two_taken : (a b : Text) → strip_byte 45 a ≡ None → strip_byte 45 b ≡ None → level_fault (leaf (leaf2 name)) [] nothing_held (a ∷ b ∷ []) false [] ≡ []
  unfolding clap_on_literals
  two_taken a b h k =
      let d = not_dashes a h in let l = no_long a h in let t = no_short a h in
      let e = not_dashes b k in let m = no_long b k in let u = no_short b k in rw (d, l, t, e, m, u) refl

  pub two_read : (a b : Text) → strip_byte 45 a ≡ None → strip_byte 45 b ≡ None → arguments (rows_after (leaf (leaf2 name)).rules [] (a ∷ b ∷ [])) ≡ a ∷ b ∷ []
  unfolding clap_on_literals
  two_read a b h k =
      let d = not_dashes a h in let l = no_long a h in let t = no_short a h in
      let e = not_dashes b k in let m = no_long b k in let u = no_short b k in rw (d, l, t, e, m, u) refl

  pub two_more : (a b x : Text) (more : List Text) → strip_byte 45 a ≡ None → strip_byte 45 b ≡ None → strip_byte 45 x ≡ None → level_fault (leaf (leaf2 name)) [] nothing_held (a ∷ b ∷ x ∷ more) false [] ≡ kind.UnknownArgument ∷ []
  unfolding clap_on_literals
  two_more a b x more h k i =
      let d = not_dashes a h in let l = no_long a h in let t = no_short a h in
      let e = not_dashes b k in let m = no_long b k in let u = no_short b k in
      let g = not_dashes x i in let o = no_long x i in let w = no_short x i in rw (d, l, t, e, m, u, g, o, w) refl

-- with three
module _ (name : Text) where
  pub three_missing : level_fault (leaf (leaf3 name)) [] nothing_held [] false [] ≡ kind.MissingRequiredArgument ∷ []
  unfolding clap_on_literals
  three_missing = refl

  pub three_missing_two : (a : Text) → strip_byte 45 a ≡ None → level_fault (leaf (leaf3 name)) [] nothing_held (a ∷ []) false [] ≡ kind.MissingRequiredArgument ∷ []
  unfolding clap_on_literals
  three_missing_two a h = let d = not_dashes a h in let l = no_long a h in let t = no_short a h in rw (d, l, t) refl

  pub three_missing_one : (a b : Text) → strip_byte 45 a ≡ None → strip_byte 45 b ≡ None → level_fault (leaf (leaf3 name)) [] nothing_held (a ∷ b ∷ []) false [] ≡ kind.MissingRequiredArgument ∷ []
  unfolding clap_on_literals
  three_missing_one a b h k =
      let d = not_dashes a h in let l = no_long a h in let t = no_short a h in
      let e = not_dashes b k in let m = no_long b k in let u = no_short b k in rw (d, l, t, e, m, u) refl

  pub three_taken : (a b c : Text) → strip_byte 45 a ≡ None → strip_byte 45 b ≡ None → strip_byte 45 c ≡ None → level_fault (leaf (leaf3 name)) [] nothing_held (a ∷ b ∷ c ∷ []) false [] ≡ []
  unfolding clap_on_literals
  three_taken a b c h k j =
      let d = not_dashes a h in let l = no_long a h in let t = no_short a h in
      let e = not_dashes b k in let m = no_long b k in let u = no_short b k in
      let f = not_dashes c j in let n = no_long c j in let v = no_short c j in rw (d, l, t, e, m, u, f, n, v) refl

  pub three_read : (a b c : Text) → strip_byte 45 a ≡ None → strip_byte 45 b ≡ None → strip_byte 45 c ≡ None → arguments (rows_after (leaf (leaf3 name)).rules [] (a ∷ b ∷ c ∷ [])) ≡ a ∷ b ∷ c ∷ []
  unfolding clap_on_literals
  three_read a b c h k j =
      let d = not_dashes a h in let l = no_long a h in let t = no_short a h in
      let e = not_dashes b k in let m = no_long b k in let u = no_short b k in
      let f = not_dashes c j in let n = no_long c j in let v = no_short c j in rw (d, l, t, e, m, u, f, n, v) refl

  pub three_more : (a b c x : Text) (more : List Text) → strip_byte 45 a ≡ None → strip_byte 45 b ≡ None → strip_byte 45 c ≡ None → strip_byte 45 x ≡ None → level_fault (leaf (leaf3 name)) [] nothing_held (a ∷ b ∷ c ∷ x ∷ more) false [] ≡ kind.UnknownArgument ∷ []
  unfolding clap_on_literals
  three_more a b c x more h k j i =
      let d = not_dashes a h in let l = no_long a h in let t = no_short a h in
      let e = not_dashes b k in let m = no_long b k in let u = no_short b k in
      let f = not_dashes c j in let n = no_long c j in let v = no_short c j in
      let g = not_dashes x i in let o = no_long x i in let w = no_short x i in rw (d, l, t, e, m, u, f, n, v, g, o, w) refl

-- no words
pub nothing_refused : fault_of program [] ≡ kind.MissingSubcommand ∷ []
unfolding clap_on_literals
nothing_refused = refl

-- a first word that names no subcommand
-- The word is the name of no subcommand.
pub record IsStray (w : Text) : Type 0 where
  pub not_replay : bytes_eq (codes "replay") w ≡ false
  pub not_sql : bytes_eq (codes "sql") w ≡ false
  pub not_audit : bytes_eq (codes "audit") w ≡ false
  pub not_bench : bytes_eq (codes "bench") w ≡ false
  pub not_export : bytes_eq (codes "export") w ≡ false
  pub not_retire : bytes_eq (codes "retire") w ≡ false
  pub not_load : bytes_eq (codes "load") w ≡ false
  pub not_alter : bytes_eq (codes "alter") w ≡ false
  pub not_schema : bytes_eq (codes "schema") w ≡ false

stray_turn : (w : Text) → strip_byte 45 w ≡ None → IsStray w → turn_fault whole.top names (walk_from nothing_held) w ≡ kind.UnknownArgument ∷ kind.InvalidSubcommand ∷ []
stray_turn w h k =
    let d = not_dashes w h in let o = no_long w h in let t = no_short w h in
    rw (k.not_replay, k.not_sql, k.not_audit, k.not_bench, k.not_export, k.not_retire, k.not_load, k.not_alter, k.not_schema, d, o, t) refl

pub stray_refused : (w : Text) (rest : List Text) → strip_byte 45 w ≡ None → IsStray w → fault_of program (w ∷ rest) ≡ kind.UnknownArgument ∷ kind.InvalidSubcommand ∷ []
unfolding walk_fault
stray_refused w rest h k =
    ap (λ (f : Kinds). ended (walk [] names nothing_held (w ∷ rest)) (or_else f (walk_fault whole.top names (walked [] names (walk_from nothing_held) w) rest))) (stray_turn w h k)

---- any number of words

abbrev any : Shape
any = leaf (leaves (codes "schema"))

-- what is held after so many words
abbrev held_after : List Text → Held
held_after vs = record { rows = []; pending = Some (codes "places", vs); skip = 0 }

abbrev at : List Text → Walk
at vs = record { held = held_after vs; waiting = positional; position = 1; is_trailing = false; stopped = None }

first_any : (a : Text) → strip_byte 45 a ≡ None → walked any.rules [] (walk_from nothing_held) a ≡ at (a ∷ [])
unfolding walked
first_any a h = let d = not_dashes a h in let l = no_long a h in let t = no_short a h in rw (d, l, t) refl

next_any : (vs : List Text) (a : Text) → strip_byte 45 a ≡ None → walked any.rules [] (at vs) a ≡ at (vs ++ a ∷ [])
unfolding walked
next_any vs a h = let d = not_dashes a h in let l = no_long a h in let t = no_short a h in rw (d, l, t) refl

first_turn : (a : Text) → strip_byte 45 a ≡ None → turn_fault any [] (walk_from nothing_held) a ≡ []
first_turn a h = let d = not_dashes a h in let l = no_long a h in let t = no_short a h in rw (d, l, t) refl

next_turn : (vs : List Text) (a : Text) → strip_byte 45 a ≡ None → turn_fault any [] (at vs) a ≡ []
next_turn vs a h = let d = not_dashes a h in let l = no_long a h in let t = no_short a h in rw (d, l, t) refl

any_walk : (vs rest : List Text) → are_undashed rest ≡ true → fold (walked any.rules []) (at vs) rest ≡ at (vs ++ rest)
any_walk vs [] u = rw append-nil refl
any_walk vs (a ∷ rest) u =
    ap (λ (x : Walk). fold (walked any.rules []) x rest) (next_any vs a (unstripped a (and_first (is_undashed a) (are_undashed rest) u)))
    ∙ any_walk (vs ++ a ∷ []) rest (and_second (is_undashed a) (are_undashed rest) u) ∙ rw append_assoc refl

any_turns : (vs rest : List Text) → are_undashed rest ≡ true → walk_fault any [] (at vs) rest ≡ []
unfolding walk_fault
any_turns vs [] u = refl
any_turns vs (a ∷ rest) u =
    let h = unstripped a (and_first (is_undashed a) (are_undashed rest) u) in
    ap₂ or_else (next_turn vs a h) (ap (λ (x : Walk). walk_fault any [] x rest) (next_any vs a h) ∙ any_turns (vs ++ a ∷ []) rest (and_second (is_undashed a) (are_undashed rest) u))

-- a level's fault, by where its walk ended and by the fault of the walk
abbrev any_ended : Walk → Kinds → Kinds
any_ended w walked_by =
    or_else walked_by (or_else [] (or_else (settle_fault any.rules false w.held)
    (or_else (defaults_fault (settled any.rules w.held).rows any.rules) (check_fault any (finished any.rules w.held) false))))

all_strings : (vs : List Text) → values_kinds false vp.String vs ≡ []
all_strings [] = refl
all_strings (v ∷ vs) = all_strings vs

never_below : (n : ℕ) → nat_lt n 0 ≡ false
never_below n = grind (arith, nat_tests)

not_above : (n : ℕ) → n ≤ usize_max → nat_lt usize_max n ≡ false
not_above n h = grind (arith, nat_tests)

any_fits : (v : Text) (vs : List Text) → length (v ∷ vs) ≤ usize_max → any_ended (at (v ∷ vs)) [] ≡ []
unfolding defaults_fault
any_fits v vs h =
    let s = all_strings vs in
    let b = never_below (length (v ∷ vs)) in
    let t = not_above (length (v ∷ vs)) h in rw (b, t, s) refl

pub any_taken : (rest : List Text) → are_undashed rest ≡ true → length rest ≤ usize_max → level_fault any [] nothing_held rest false [] ≡ []
unfolding walk_fault defaults_fault
any_taken [] u h = refl
any_taken (a ∷ rest) u h =
    let k = unstripped a (and_first (is_undashed a) (are_undashed rest) u) in
    let v = and_second (is_undashed a) (are_undashed rest) u in
    ap₂ any_ended
    (ap (λ (x : Walk). fold (walked any.rules []) x rest) (first_any a k) ∙ any_walk (a ∷ []) rest v)
    (ap₂ or_else (first_turn a k) (ap (λ (x : Walk). walk_fault any [] x rest) (first_any a k) ∙ any_turns (a ∷ []) rest v))
    ∙ any_fits a rest h

---- what `clap` answers

program_simple : is_simple program ≡ true
program_simple = refl

program_free : is_simple_and_free program ≡ true
program_free = refl

pub program_takes : (a : App) (words : List Text) (m : ArgMatches) → a ≡ program → (is_simple_and_free a ≡ true → FailsBy (fault_of a words) (Ok m)) → HasMatchesOf a words m → (fault_of program words ≡ []) × (subcommand_rows_of m ≡ subcommand_of program words)
program_takes a words m is fails has =
    let f : is_simple_and_free program ≡ true → fault_of program words ≡ [] = subst (λ (x : App). is_simple_and_free x ≡ true → fault_of x words ≡ []) is fails in
    let h : HasMatchesOf program words m = subst (λ (x : App). HasMatchesOf x words m) is has in
    (f program_free, (h program_simple).1)

pub program_fails : (a : App) (words : List Text) (e : Error) → a ≡ program → (is_simple_and_free a ≡ true → FailsBy {T = ArgMatches} (fault_of a words) (Err e)) → (kind_of e ≡ kind.OutOfMemory → ⊥) → fault_of program words ≡ [] → ⊥
program_fails a words e is fails other none =
    let f : is_simple_and_free program ≡ true → HasKind (fault_of program words) e = subst (λ (x : App). is_simple_and_free x ≡ true → HasKind (fault_of x words) e) is fails in
    let k : HasKind [] e = subst (λ (x : Kinds). HasKind x e) none (f program_free) in
    elim k [ inl memory ↦ other memory | inr among ↦ among ]
