use Rattle.std.proofs.Common.{◌≡◌, ◌∙◌, List, ℕ, ◌∷◌, ap, ◌-◌, codes, drop, length, map, string_bytes, subst, sym, take, IfOk, IsErrOf}
use Rattle.clap.specs.Words.{found_of, rows_of}
use Rattle.sdb_words.specs.Commands.{AreOfNone, AreWordsOf}
use Rattle.sdb_words.specs.Parser.{arguments}
use Rattle.sdb_words.specs.declared.command.WordsRefused.TheVariants as refused
use Rattle.sdb_words.proofs.Fits.{first_and_rest}
use Rattle.sdb_words.proofs.Reading.{taken_is}
use Rattle.sdb_words.proofs.read.command_taken.Goals as goal

abbrev Words : Type 0
Words = List (List ℕ)

pub returns-in-schema-clause-ok : goal.returns-in-schema-clause-ok
returns-in-schema-clause-ok c =
    let read = taken_is (map string_bytes c.args.words.now) c.args.name.now (rows_of (found_of c.args.given.now)) c.requires in
    let words : map string_bytes c.args.words.now ≡ codes "schema" ∷ map string_bytes (take (length c.args.words.now - 1) (drop 1 c.args.words.now)) =
    first_and_rest string_bytes c.args.words.now (codes "schema") read.rest (read.words_are ∙ ap (λ (n : List ℕ). n ∷ read.rest) c.in-schema.is) in
    subst (λ (ws : Words). IfOk c.schema_of.result (λ x. AreWordsOf c.args.stores.now x ws)) (sym words) c.schema_of.ensures.ok

pub returns-in-schema-clause-usage : goal.returns-in-schema-clause-usage
returns-in-schema-clause-usage c =
    let read = taken_is (map string_bytes c.args.words.now) c.args.name.now (rows_of (found_of c.args.given.now)) c.requires in
    let words : map string_bytes c.args.words.now ≡ codes "schema" ∷ map string_bytes (take (length c.args.words.now - 1) (drop 1 c.args.words.now)) =
    first_and_rest string_bytes c.args.words.now (codes "schema") read.rest (read.words_are ∙ ap (λ (n : List ℕ). n ∷ read.rest) c.in-schema.is) in
    subst (λ (ws : Words). IsErrOf c.schema_of.result refused.Usage → AreOfNone c.args.stores.now ws) (sym words) c.schema_of.ensures.usage

pub returns-in_default-clause-ok : goal.returns-in_default-clause-ok
returns-in_default-clause-ok c =
    let rows = rows_of (found_of c.args.given.now) in
    let read = taken_is (map string_bytes c.args.words.now) c.args.name.now rows c.requires in
    let words : map string_bytes c.args.words.now ≡ c.args.name.now ∷ arguments rows = read.words_are ∙ ap (λ (ws : Words). c.args.name.now ∷ ws) (read.arguments_are c.in_default.not-schema) in
    subst (λ (ws : Words). IfOk c.command_read.result (λ x. AreWordsOf c.args.stores.now x ws)) (sym words) c.command_read.ensures.ok

pub returns-in_default-clause-usage : goal.returns-in_default-clause-usage
returns-in_default-clause-usage c =
    let rows = rows_of (found_of c.args.given.now) in
    let read = taken_is (map string_bytes c.args.words.now) c.args.name.now rows c.requires in
    let words : map string_bytes c.args.words.now ≡ c.args.name.now ∷ arguments rows = read.words_are ∙ ap (λ (ws : Words). c.args.name.now ∷ ws) (read.arguments_are c.in_default.not-schema) in
    subst (λ (ws : Words). IsErrOf c.command_read.result refused.Usage → AreOfNone c.args.stores.now ws) (sym words) c.command_read.ensures.usage
