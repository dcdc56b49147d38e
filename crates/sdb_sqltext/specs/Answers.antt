-- How the answer of the reader agrees with what a text is read as.
use Rattle.std.specs.Prelude.{◌≡◌, Option, Some, None, IfSome, Result, Ok, Err}
use Rattle.sdb_sqltext.specs.Types.{Refusal, Statement}
use Rattle.sdb_sqltext.specs.declared.fault.ParseRefused.{ParseRefused}
use Rattle.sdb_sqltext.specs.declared.fault.ParseRefused.TheVariants as refused

-- the number of the kind and the place, as answers give them; none where memory ran out
abbrev pub refusal_of : ParseRefused → Option Refusal
refusal_of refused.NoMemory = None
refusal_of (refused.BadToken at) = Some (record { kind = 1; place = at })
refusal_of (refused.NotAStatement at) = Some (record { kind = 2; place = at })
refusal_of (refused.TooWide at) = Some (record { kind = 3; place = at })

-- the answer is this statement or refusal, unless memory runs out
abbrev pub Gives : Result Statement ParseRefused → Result Statement Refusal → Type 0
Gives (Ok st) read = read ≡ Ok st
Gives (Err e) read = IfSome (refusal_of e) (λ r. read ≡ Err r)

-- this statement is answered, unless memory runs out
abbrev pub Answers : Result Statement ParseRefused → Statement → Type 0
Answers (Ok found) st = found ≡ st
Answers (Err e) st = refusal_of e ≡ None
