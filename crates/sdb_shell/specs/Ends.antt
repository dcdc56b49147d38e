-- What a call over attached stores begins with and ends with, and the statements that it takes.
use Rattle.std.specs.Prelude.{ℕ, ℤ, ◌≤◌, List, Option}
use Rattle.sdb_schema.specs.declared.table.Table.{Table}
use Rattle.sdb_stores.specs.Views.{Attached, StoreView, total_faults}
use Rattle.law_clients.specs.Session.{Exchange}
use Rattle.sdb_shell.specs.Sessions.{IsSession}

-- The stores before and after a call, and the answers that the clock and the ids gave before and after it, where these are known.
pub record Ends : Type 1 where
  pub old : Attached
  pub new : Attached
  pub clock : Option (List ℤ)
  pub clock_then : Option (List ℤ)
  pub ids : Option (List ℕ)
  pub ids_then : Option (List ℕ)

abbrev pub ends : {S C I : Type 0} → (S → Attached) → (C → Option (List ℤ)) → (I → Option (List ℕ)) → S → S → C → C → I → I → Ends
ends state clock ids s0 s1 c0 c1 i0 i1 = record { old = state s0; new = state s1; clock = clock c0; clock_then = clock c1; ids = ids i0; ids_then = ids i1 }

-- The statements that were accepted in a call are a session, of one client from the start.
abbrev pub IsSessionOver : List Table → Ends → List Exchange → Type 0
IsSessionOver catalog e es = IsSession catalog e.old e.new e.clock e.clock_then e.ids e.ids_then es

-- The statements that were answered in a call, before memory ran out, are a session. The stores held this after them.
pub record IsSessionBefore (catalog : List Table) (e : Ends) (es : List Exchange) : Type 0 where
  pub held : List StoreView
  pub clock_mid : Option (List ℤ)
  pub ids_mid : Option (List ℕ)
  pub session : IsSession catalog e.old (record e.old { views = held }) e.clock clock_mid e.ids ids_mid es
  pub counted : total_faults held ≤ total_faults e.new.views
