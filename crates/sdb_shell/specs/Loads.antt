-- Rows that are loaded into a table, group by group, and the lines that say how.
use Rattle.std.specs.Prelude.{◌≡◌, ◌⊎◌, ◌<◌, ◌≤◌, ℕ, ◌+◌, List, [], ◌∷◌, ◌++◌, length, codes, decimal}
use Rattle.std.specs.List.{flat_map}
use Rattle.sdb_shell.specs.Types.{Answer, Mode, Table, Value}
use Rattle.sdb_model.specs.Texts.{answer_text_of}
use Rattle.law_clients.specs.Session.{Exchange}
use Rattle.sdb_shell.specs.declared.load.Load.{Load}
use Rattle.sdb_shell.specs.Ends.{Ends, IsSessionBefore, IsSessionOver}
use Rattle.sdb_shell.specs.Groups.{AreGroups, Group}
use Rattle.sdb_shell.specs.Statements.{load_of, rows_after}

-- all rows of groups
abbrev pub rows_of : List Group → List (List Value)
rows_of gs = flat_map (λ g. g.rows) gs

-- all statements that were accepted for groups
abbrev pub exchanges_of : List Group → List Exchange
exchanges_of gs = flat_map (λ g. g.exchanges) gs

-- a group has `size` rows where others follow it, and else from 1 to `size`
abbrev pub IsOfSize : ℕ → Group → List Group → Type 0
IsOfSize size g [] = (0 < length g.rows) × (length g.rows ≤ size)
IsOfSize size g (h ∷ gs) = length g.rows ≡ size

abbrev pub AreOfSize : ℕ → List Group → Type 0
AreOfSize size [] = Unit {0}
AreOfSize size (g ∷ gs) = IsOfSize size g gs × AreOfSize size gs

---- lines

-- a group's line: its number, how many rows it has, how many were written, and the answer that ended it
abbrev pub line_of : ℕ → ℕ → ℕ → Answer → List ℕ
line_of k rows written a = decimal k ++ codes " rows " ++ decimal rows ++ codes " written " ++ decimal written ++ codes " " ++ answer_text_of a ++ 10 ∷ []

abbrev pub group_line : ℕ → Group → List ℕ
group_line k g = line_of k (length g.rows) g.written g.answer

-- the lines of groups that are counted from a number
abbrev pub group_lines : ℕ → List Group → List ℕ
group_lines k [] = []
group_lines k (g ∷ gs) = group_line k g ++ group_lines (k + 1) gs

---- a load

-- Rows were loaded, `size` at a time: each group in its turn, whatever came of those before it; the text is their lines, counted from 1;
-- and all statements that were accepted are a session.
pub record IsLoad (catalog : List Table) (load : Load) (rows : List (List Value)) (size : ℕ) (e : Ends) (text : List ℕ) : Type 0 where
  pub groups : List Group
  pub all : rows_of groups ≡ rows
  pub sizes : AreOfSize size groups
  pub each : AreGroups load [] groups
  pub lines : text ≡ group_lines 1 groups
  pub session : IsSessionOver catalog e (exchanges_of groups)

-- Rows that were read for a table and in a mode were loaded.
abbrev pub IsLoadOf : List Table → Table → Mode → List (List Value) → ℕ → Ends → List ℕ → Type 0
IsLoadOf catalog t m rows size e text = IsLoad catalog (load_of t m rows) (rows_after rows) size e text

---- a load that runs out of memory

-- Memory ran out: the first groups were loaded, and these rows are left; the statements of these groups are a session.
pub record IsLoadOutOfMemory (catalog : List Table) (load : Load) (rows : List (List Value)) (size : ℕ) (e : Ends) : Type 0 where
  pub groups : List Group
  pub rest : List (List Value)
  pub all : rows_of groups ++ rest ≡ rows
  pub sizes : AreOfSize size groups
  pub each : AreGroups load [] groups
  pub session : IsSessionBefore catalog e (exchanges_of groups)

-- Nothing was accepted.
pub record IsUntaken (e : Ends) : Type 0 where
  pub stores : e.new.views ≡ e.old.views
  pub clock : e.clock_then ≡ e.clock
  pub ids : e.ids_then ≡ e.ids

-- Memory ran out before the first group was begun, or after some were loaded.
abbrev pub IsLoadOfOutOfMemory : List Table → Table → Mode → List (List Value) → ℕ → Ends → Type 0
IsLoadOfOutOfMemory catalog t m rows size e = IsUntaken e ⊎ IsLoadOutOfMemory catalog (load_of t m rows) (rows_after rows) size e
