use Rattle.std.proofs.Common.{◌∙◌, map, string_bytes}
use Rattle.clap.specs.Words.{app_of}
use Rattle.sdb_words.proofs.ParsedWords.{program_fails, program_takes}
use Rattle.sdb_words.proofs.read.parsed.Goals as goal

pub returns-in-Ok-clause-ok : goal.returns-in-Ok-clause-ok
returns-in-Ok-clause-ok c =
    program_takes (app_of c.in_ok-parser.field-0) (map string_bytes c.args.words.now) c.in-Ok.matches c.in_ok-parser.ensures c.in-Ok.ensures.kinds c.in-Ok.ensures.matches

pub returns : goal.returns
returns c = record {
  ok = tt;
  usage = λ _. program_fails (app_of c.in_ok-parser.field-0) (map string_bytes c.args.words.now) c.in-Err.error c.in_ok-parser.ensures c.in-Err.ensures.kinds (λ e. c.in_default.not-OutOfMemory (c.kind.ensures ∙ e));
}
