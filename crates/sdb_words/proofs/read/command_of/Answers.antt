use Rattle.std.proofs.Common.{◌≡◌, ◌∙◌, ◌≤◌, Err, None, ap, false, true, length, map, string_bytes, sym, rules, arith}
use Rattle.std.specs.Box.{box_value}
use Rattle.clap.specs.Lexer.{usize_max}
use Rattle.clap.specs.Words.{found_of, rows_of, subcommand_of}
use Rattle.clap.specs.declared.parser.matches.ArgMatches.TheViews.{out-ArgMatches, out-SubCommand}
use Rattle.sdb_words.specs.declared.command.WordsRefused.TheVariants as refused
use Rattle.sdb_words.specs.Parser.{are_undashed, program}
use Rattle.sdb_words.proofs.Entered.{entered_is, entered_none, passed_on}
use Rattle.sdb_words.proofs.Fits.{fits, is_read}
use Rattle.sdb_types.proofs.Public.{false_true}
use Rattle.sdb_words.proofs.read.command_of.Goals as goal

pub returns-then-not-are_undashed-clause-usage : goal.returns-then-not-are_undashed-clause-usage
returns-then-not-are_undashed-clause-usage c =
    λ _ asked h.
    let small : length (map string_bytes c.args.words.now) ≤ usize_max = omega (arith, c.are_undashed.ensures.few) in
    let dashed : are_undashed (map string_bytes c.args.words.now) ≡ false = search rules in
    false_true (sym dashed ∙ (fits c.args.stores.now asked (map string_bytes c.args.words.now) small h).undashed)

pub returns-in_err-matches-clause-usage : goal.returns-in_err-matches-clause-usage
returns-in_err-matches-clause-usage c = λ e asked h.
    let small : length (map string_bytes c.args.words.now) ≤ usize_max = omega (arith, c.are_undashed.ensures.few) in
    c.in_err-matches.ensures.usage (ap Err (passed_on c.from_residual.result c.in_err-matches.field-0.0 refused.Usage c.from_residual.ensures.1 e)) (fits c.args.stores.now asked (map string_bytes c.args.words.now) small h).accepted

pub command_taken-requires : goal.command_taken-requires
command_taken-requires c =
    let words = map string_bytes c.args.words.now in
    let u : are_undashed words ≡ true = search rules in
    record {
      undashed = u;
      accepted = c.in_ok-matches.ensures.ok.0;
      read = sym c.in_ok-matches.ensures.ok.1
          ∙ entered_is (out-ArgMatches c.in_ok-matches.matches).subcommand (λ b. (out-SubCommand (box_value b)).name.now) (λ b. rows_of (found_of (out-SubCommand (box_value b)).matches)) c.in-Some.name.now (rows_of (found_of c.in-Some.given.now)) c.in-Some.ensures.name c.in-Some.ensures.rows;
    }

pub returns-clause-usage : goal.returns-clause-usage
returns-clause-usage c =
    λ _ asked h.
    let none : subcommand_of program (map string_bytes c.args.words.now) ≡ None =
    sym c.in_ok-matches.ensures.ok.1 ∙ entered_none (out-ArgMatches c.in_ok-matches.matches).subcommand (λ b. (out-SubCommand (box_value b)).name.now) (λ b. rows_of (found_of (out-SubCommand (box_value b)).matches)) c.in-None.ensures.name in
    is_read c.args.stores.now asked (map string_bytes c.args.words.now) h none
