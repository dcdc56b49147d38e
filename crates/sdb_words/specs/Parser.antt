-- The parser of the words, as `clap` sees it, and what it makes of words none of which begins with `-`.
use Rattle.std.specs.Prelude.{◌≡◌, Bool, true, not, List, [], ◌∷◌, Option, Some, None, is_some, codes}
use Rattle.std.specs.List.{list_all}
use Rattle.std.specs.Borrow.{Bor}
use Rattle.std.specs.Option.{option_map}
use Rattle.clap.specs.Lexer.{strip_byte, usize_max}
use Rattle.clap.specs.Walk.{Row, Rule, Text, first_of}
use Rattle.clap.specs.Simple.{App, new_app, new_rule, new_shape, subcommand_of, subcommand_rows_of, with_rule, with_subcommand}
use Rattle.clap.specs.Faults.{fault_of}
use Rattle.clap.specs.declared.parser.matches.ArgMatches.{ArgMatches}

-- an argument that has to be there
abbrev pub wanted : Text → Rule
wanted id = record (new_rule id) { required = true }

-- any number of arguments
abbrev pub many : Rule
many = record (new_rule (codes "places")) { range = Some (record { start_inclusive = 0; end_inclusive = usize_max }) }

-- subcommands that take no, one, two and three words, and any number
abbrev pub leaf0 : Text → App
leaf0 name = new_app name

abbrev pub leaf1 : Text → App
leaf1 name = with_rule (leaf0 name) (wanted (codes "first"))

abbrev pub leaf2 : Text → App
leaf2 name = with_rule (leaf1 name) (wanted (codes "second"))

abbrev pub leaf3 : Text → App
leaf3 name = with_rule (leaf2 name) (wanted (codes "third"))

abbrev pub leaves : Text → App
leaves name = with_rule (leaf0 name) many

-- the program without its subcommands: no help, no version, and the words without the program's name
abbrev pub bare : App
bare = record {
  top = record (new_shape (codes "scalardb")) {
    no_binary_name = true;
    disable_help_flag = true;
    disable_help_subcommand = true;
    subcommand_required = true;
  };
  subs = [];
}

-- with the subcommands that take no word
abbrev pub plain : App
plain = with_subcommand (with_subcommand (with_subcommand bare (leaf0 (codes "replay")).top) (leaf0 (codes "sql")).top) (leaf0 (codes "audit")).top

-- with those that take one and two
abbrev pub short : App
short = with_subcommand (with_subcommand (with_subcommand plain (leaf1 (codes "bench")).top) (leaf1 (codes "export")).top) (leaf2 (codes "retire")).top

-- with those that take three, and any number
abbrev pub program : App
program = with_subcommand (with_subcommand (with_subcommand short (leaf3 (codes "load")).top) (leaf3 (codes "alter")).top) (leaves (codes "schema")).top

-- no word begins with `-`
abbrev pub is_undashed : Text → Bool
is_undashed word = not (is_some (strip_byte 45 word))

abbrev pub are_undashed : List Text → Bool
are_undashed = list_all is_undashed

-- The words were accepted, and these are the name of the subcommand and what was read of its words.
pub record IsParsed (words : List Text) (name : Text) (rows : List Row) : Type 0 where
  pub undashed : are_undashed words ≡ true
  pub accepted : fault_of program words ≡ []
  pub read : subcommand_of program words ≡ Some (name, rows)

-- These matches are what `clap` makes of the words, in which it finds no fault.
abbrev pub AreMatchesOf : List Text → ArgMatches → Type 0
AreMatchesOf words m = (fault_of program words ≡ []) × (subcommand_rows_of m ≡ subcommand_of program words)

abbrev pub text_read : Option (Bor Text) → Option Text
text_read = option_map (λ s. s.now)

-- the words that were read, in their order
abbrev pub in_order : Option Text → Option Text → Option Text → List Text
in_order None second third = []
in_order (Some a) None third = a ∷ []
in_order (Some a) (Some b) None = a ∷ b ∷ []
in_order (Some a) (Some b) (Some c) = a ∷ b ∷ c ∷ []

abbrev pub arguments : List Row → List Text
arguments rows = in_order (first_of (codes "first") rows) (first_of (codes "second") rows) (first_of (codes "third") rows)
