-- The clauses of the reader.
use Rattle.std.proofs.Common.{◌≡◌, ℕ, List, Option, Some, None, Result, Ok, Err, refl}
use Rattle.std.specs.Prelude.{IfOk, IfErr, IfSome}
use Rattle.sdb_sqltext.specs.Types.{Refusal, Statement}
use Rattle.sdb_model.specs.SqlTokens.{lexed}
use Rattle.sdb_model.specs.Sql.{Reads, Refuses}
use Rattle.sdb_sqltext.specs.declared.fault.ParseRefused.{ParseRefused}
use Rattle.sdb_sqltext.specs.Parsing.{parsed}
use Rattle.sdb_sqltext.specs.Answers.{refusal_of, Gives, Answers}
use Rattle.sdb_sqltext.proofs.Clauses.{reads_by, refuses_by, reads_parsed}

pub parsed_reads : (r : Result Statement ParseRefused) (text : List ℕ) → Gives r (parsed text) → IfOk r (Reads text)
parsed_reads (Ok st) text h = reads_by text (lexed text) st refl h
parsed_reads (Err e) text h = tt

if_refused : (o : Option Refusal) (text : List ℕ) → IfSome o (λ r. parsed text ≡ Err r) → IfSome o (Refuses text)
if_refused None text h = tt
if_refused (Some r) text h = refuses_by text (lexed text) r refl h

pub parsed_refuses : (r : Result Statement ParseRefused) (text : List ℕ) → Gives r (parsed text) → IfErr r (λ e. IfSome (refusal_of e) (Refuses text))
parsed_refuses (Ok st) text h = tt
parsed_refuses (Err e) text h = if_refused (refusal_of e) text h

no_refusal : (o : Option Refusal) (read : Result Statement Refusal) (st : Statement) → IfSome o (λ r. read ≡ Err r) → read ≡ Ok st → o ≡ None
no_refusal None read st h e = refl
no_refusal (Some r) read st h e = absurd cc

answers : (r : Result Statement ParseRefused) (read : Result Statement Refusal) (st : Statement) → Gives r read → read ≡ Ok st → Answers r st
answers (Ok found) read st h e = cc
answers (Err f) read st h e = no_refusal (refusal_of f) read st h e

pub parsed_accepts : (r : Result Statement ParseRefused) (text : List ℕ) → Gives r (parsed text) → (st : Statement) → Reads text st → Answers r st
parsed_accepts r text h st reads = answers r (parsed text) st h (reads_parsed text st reads)
