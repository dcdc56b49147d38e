-- Why a closing dump stopped.
use Rattle.std.specs.Prelude.{Bool, not, List, Option, find}
use Rattle.std.specs.Option.{option_map}
use Rattle.sdb_contents.specs.Types.{Key, Record}
use Rattle.sdb_stores.specs.Views.{Attached, HaveRisen}
use Rattle.sdb_contents.specs.declared.refused.CallRefused.{CallRefused}
use Rattle.sdb_contents.specs.declared.refused.CallRefused.TheVariants as call
use Rattle.sdb_contents.specs.declared.dump_refused.ClosingRefused.{ClosingRefused}
use Rattle.sdb_contents.specs.declared.dump_refused.ClosingRefused.TheVariants as refused

-- the key of the first record that isn't so
abbrev pub first_unlike : (Record → Bool) → List Record → Option Key
first_unlike is_so records = option_map (λ r. r.key) (find (λ r. not (is_so r)) records)

-- A record is refused only where it is bad, and a fault comes only where there was one; out of memory may be returned in their place.
abbrev pub Refuses : (Key → Type 0) → Type 0 → ClosingRefused → Type 0
Refuses bad faulted refused.StoreFault = faulted
Refuses bad faulted (refused.BadRecord key) = bad key
Refuses bad faulted refused.NoMemory = Unit {0}

-- The same, where a fault comes only where one of the stores failed.
abbrev pub RefusesOn : Attached → Attached → (Key → Type 0) → ClosingRefused → Type 0
RefusesOn old new bad = Refuses bad (HaveRisen old.views new.views)

-- why a scan stopped
abbrev pub of_call : CallRefused → ClosingRefused
of_call call.StoreFault = refused.StoreFault
of_call call.NoMemory = refused.NoMemory
