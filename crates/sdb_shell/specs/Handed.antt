-- What the contracts of a session see of what a call is handed.
use Rattle.std.specs.Prelude.{ℕ, ℤ, List, Option}
use Rattle.sdb_stores.specs.Views.{Attached}
use Rattle.sdb_shell.specs.Ahead.{left}
use Rattle.sdb_shell.specs.declared.bytes.Bytes.{Bytes}

-- The stores, the answers that the clock and the ids gave, and what the output contains, before a call and after it.
pub record Handed : Type 1 where
  pub old : Attached
  pub new : Attached
  pub clock : Option (List ℤ)
  pub clock_then : Option (List ℤ)
  pub ids : Option (List ℕ)
  pub ids_then : Option (List ℕ)
  pub written : Option (List ℕ)
  pub written_then : Option (List ℕ)

-- how each of them is seen
pub record Views (S C I W : Type 0) : Type 1 where
  pub state : S → Attached
  pub clock : C → Option (List ℤ)
  pub ids : I → Option (List ℕ)
  pub output : W → Option (List ℕ)

abbrev pub views : {S C I W : Type 0} → (S → Attached) → (C → Option (List ℤ)) → (I → Option (List ℕ)) → (W → Option (List ℕ)) → Views S C I W
views state clock ids output = record { state = state; clock = clock; ids = ids; output = output }

abbrev pub handed : {S C I W : Type 0} → Views S C I W → S → S → C → C → I → I → W → W → Handed
handed v s0 s1 c0 c1 i0 i1 w0 w1 =
    record { old = v.state s0; new = v.state s1; clock = v.clock c0; clock_then = v.clock c1; ids = v.ids i0; ids_then = v.ids i1; written = v.output w0; written_then = v.output w1 }

-- What is left of an input, with the bytes that were read and not used, and how many were used, before a call and after it.
pub record Reading : Type 0 where
  pub left : Option (List ℕ)
  pub left_then : Option (List ℕ)
  pub used : ℕ
  pub used_then : ℕ

abbrev pub reading : {R : Type 0} → (R → Option (List ℕ)) → Bytes → Bytes → R → R → Reading
reading remaining b0 b1 r0 r1 = record { left = left b0 (remaining r0); left_then = left b1 (remaining r1); used = b0.used; used_then = b1.used }
