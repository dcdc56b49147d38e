-- What a call of the program begins with and ends with.
use Rattle.std.specs.Prelude.{◌≡◌, ℕ, ℤ, ◌<◌, ◌≤◌, ◌+◌, List, Option, Some, remove}
use Rattle.sdb_stores.specs.Views.{Attached, StoreView as Counted, names_of, place_of, total_faults}

-- Bytes, where they are known, and how often a call for them has failed.
pub record Stream : Type 0 where
  pub bytes : Option (List ℕ)
  pub faults : ℕ

abbrev pub stream : {A : Type 0} → (A → Option (List ℕ)) → (A → ℕ) → A → Stream
stream bytes faults a = record { bytes = bytes a; faults = faults a }

-- What a command works on: the attached stores, and what they hold when it has ended; and what is left of the input before and after it.
pub record Work : Type 1 where
  pub old : Attached
  pub left : List Counted
  pub input : Stream
  pub rest : Stream

abbrev pub work_of : {S R : Type 0} → (S → Attached) → (R → Stream) → S → S → R → R → Work
work_of state input s0 s1 r0 r1 = record { old = state s0; left = (state s1).views; input = input r0; rest = input r1 }

-- work on stores that showed this before it and show that after it, of whose input nothing was read
abbrev pub work_on : Attached → Attached → Stream → Work
work_on old new input = record { old = old; left = new.views; input = input; rest = input }

-- The answers that a clock and ids gave before a call and after it, where they are known.
pub record Draws : Type 0 where
  pub clock : Option (List ℤ)
  pub clock_then : Option (List ℤ)
  pub ids : Option (List ℕ)
  pub ids_then : Option (List ℕ)

abbrev pub draws : {C I : Type 0} → (C → Option (List ℤ)) → (I → Option (List ℕ)) → C → C → I → I → Draws
draws clock ids c0 c1 i0 i1 = record { clock = clock c0; clock_then = clock c1; ids = ids i0; ids_then = ids i1 }

-- Nothing was asked of the clock or the ids.
pub record IsUndrawn (d : Draws) : Type 0 where
  pub clock : d.clock_then ≡ d.clock
  pub ids : d.ids_then ≡ d.ids

-- A call of the program: its work, what the output contains before and after it, and the answers that the clock and the ids gave before
-- and after it, where these are known.
pub record Ends : Type 1 where
  pub work : Work
  pub output : Stream
  pub written : Stream
  pub clock : Option (List ℤ)
  pub clock_then : Option (List ℤ)
  pub ids : Option (List ℕ)
  pub ids_then : Option (List ℕ)

-- what its clock and ids answered
abbrev pub draws_of : Ends → Draws
draws_of run = record { clock = run.clock; clock_then = run.clock_then; ids = run.ids; ids_then = run.ids_then }

-- What contracts see of what a call is handed: the stores, the input, the output, the clock and the ids.
pub record Views (S R W C I : Type 0) : Type 1 where
  pub state : S → Attached
  pub input : R → Stream
  pub output : W → Stream
  pub clock : C → Option (List ℤ)
  pub ids : I → Option (List ℕ)

abbrev pub views : {S R W C I : Type 0} → (S → Attached) → (R → Stream) → (W → Stream) → (C → Option (List ℤ)) → (I → Option (List ℕ)) → Views S R W C I
views state input output clock ids = record { state = state; input = input; output = output; clock = clock; ids = ids }

abbrev pub ends : {S R W C I : Type 0} → Views S R W C I → S → S → R → R → W → W → C → C → I → I → Ends
ends v s0 s1 r0 r1 w0 w1 c0 c1 i0 i1 =
    record { work = work_of v.state v.input s0 s1 r0 r1; output = v.output w0; written = v.output w1; clock = v.clock c0; clock_then = v.clock c1; ids = v.ids i0; ids_then = v.ids i1 }

-- The stores are those that were attached, in their order, no count of failures falls, and known contents stay known.
pub record AreKept (old new : Attached) : Type 0 where
  pub names : names_of new.views ≡ names_of old.views
  pub counted : total_faults old.views ≤ total_faults new.views
  pub where_known : (at : ℕ) → old.known at → new.known at

-- The stores were kept, and then the one of that name was dropped. The others stay in their order, and known contents stay known.
pub record AreKeptBut (name : List ℕ) (old new : Attached) : Type 0 where
  pub mid : List Counted
  pub names : names_of mid ≡ names_of old.views
  pub counted : total_faults old.views ≤ total_faults mid
  pub at : ℕ
  pub found : place_of name (names_of mid) ≡ Some at
  pub rest : new.views ≡ remove mid at
  pub before : (i : ℕ) → i < at → old.known i → new.known i
  pub after : (i : ℕ) → at ≤ i → old.known (i + 1) → new.known i

-- The stores are kept, or all but one that may be dropped.
pub data AreKeptOr (may_drop : List ℕ → Type 0) (old new : Attached) : Type 0 where
  Kept : AreKept old new → AreKeptOr may_drop old new
  Dropped : (name : List ℕ) → may_drop name → AreKeptBut name old new → AreKeptOr may_drop old new

-- No command has changed what the stores hold.
abbrev pub AreUnchanged : Work → Type 0
AreUnchanged work = work.left ≡ work.old.views
