-- Contents once tables were copied into them.
use Rattle.std.specs.Prelude.{◌≡◌, ◌≢◌, ◌⊎◌, ℕ, Bool, true, false, List, [], ◌∷◌, if◌then◌else◌}
use Rattle.std.specs.List.{AllByRecursion, list_any}
use Rattle.sdb_contents.specs.Types.{Entry, Key, Request, TableName}
use Rattle.sdb_types.specs.Contents.{Contents, after, in_span, record_at, rows_in}
use Rattle.sdb_contents.specs.declared.seen.Seen.{Seen}
use Rattle.sdb_contents.specs.Copying.{AreFree}
use Rattle.sdb_catalog.specs.Opened.{is_attached}
use Rattle.sdb_contents.specs.Moving.{renewed}
use Rattle.sdb_contents.specs.Writes.{span_of}
use Rattle.std.specs.Str.{bytes_eq}

-- what a store holds after requests, one after the other
abbrev pub after_all : List Request → Contents → Contents
after_all [] m = m
after_all (q ∷ qs) m = after_all qs (after q m)

-- What the two stores showed of a table is what they held there, and no record blocks the copy.
pub record IsWhole (to from : Contents) (s : Seen) : Type 0 where
  pub in_to : s.in_to ≡ rows_in (span_of s.table) to
  pub in_from : s.in_from ≡ rows_in (span_of s.table) from
  pub free : AreFree s.in_from s.in_to

-- a key of one of these tables
abbrev pub is_among : List TableName → Key → Bool
is_among tables key = list_any (λ t. in_span (span_of t) key) tables

-- no table comes twice
abbrev pub AreApart : List TableName → Type 0
AreApart [] = Unit {0}
AreApart (t ∷ ts) = AllByRecursion (λ u. u ≢ t) ts × AreApart ts

-- At a key of one of these tables there is what `from` holds, and elsewhere what `to` held.
abbrev pub IsJoined : List TableName → Contents → Contents → Contents → Key → Type 0
IsJoined tables from to new key = record_at new key ≡ (if is_among tables key then record_at from key else record_at to key)

-- an entry once `from` is given up
abbrev pub settle : List ℕ → List ℕ → Entry → Entry
settle from to e = if bytes_eq e.store from then renewed to e else e

-- Of the stores with some names those are left that aren't `from`, and `to` among them.
pub record AreStillAttached (names left : List (List ℕ)) (from to : List ℕ) : Type 0 where
  pub kept : is_attached left to ≡ true
  pub others : (store : List ℕ) → is_attached names store ≡ true → bytes_eq store from ≡ false → is_attached left store ≡ true

-- Each entry, or what it is once `from` is given up.
abbrev pub ArePartly : List ℕ → List ℕ → List Entry → List Entry → Type 0
ArePartly from to [] [] = Unit {0}
ArePartly from to [] (f ∷ fs) = ⊥
ArePartly from to (e ∷ es) [] = ⊥
ArePartly from to (e ∷ es) (f ∷ fs) = ((f ≡ e) ⊎ (f ≡ settle from to e)) × ArePartly from to es fs
