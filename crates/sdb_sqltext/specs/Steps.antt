-- How what a reader of parts answers agrees with what the part is read as.
use Rattle.std.specs.Prelude.{◌≡◌, ℕ, Result, Ok, Err}
use Rattle.sdb_sqltext.specs.declared.fault.StepError.{StepError}
use Rattle.sdb_sqltext.specs.declared.fault.StepError.TheVariants.{NoMemory, Wrong}

abbrev pub Breaks : {Y : Type 0} → StepError → Result Y ℕ → Type 0
Breaks NoMemory read = Unit {0}
Breaks (Wrong at) read = read ≡ Err at

-- the answer is what is defined, unless memory runs out
abbrev pub Steps : {X Y : Type 0} → (X → Y) → Result X StepError → Result Y ℕ → Type 0
Steps view (Ok x) read = read ≡ Ok (view x)
Steps view (Err e) read = Breaks e read
