-- The name of the subcommand that a parse entered, with what was read of its words.
use Rattle.std.proofs.Common.{Result, Ok, Err, IsErrOf, ◌≡◌, ◌∙◌, Option, Some, None, ap₂, refl, sym, option_map}
use Rattle.std.specs.Prelude.{IsErrAnd}
use Rattle.sdb_types.proofs.Public.{none_some, some_is}

abbrev pub pair : {N R : Type 0} → N → R → Option (N × R)
pair x y = Some (x, y)

pub entered_is : {B N R : Type 0} (sub : Option B) (nm : B → N) (rd : B → R) (n : N) (r : R) → Some n ≡ option_map nm sub → Some r ≡ option_map (λ (p : N × R). p.1) (option_map {U = N × R} (λ (b : B). (nm b, rd b)) sub) → option_map {U = N × R} (λ (b : B). (nm b, rd b)) sub ≡ Some (n, r)
entered_is {B} {N} {R} None nm rd n r h k = none_some n (sym h)
entered_is {B} {N} {R} (Some b) nm rd n r h k = ap₂ (λ (x : N) (y : R). pair x y) (sym (some_is n (nm b) h)) (sym (some_is r (rd b) k))

-- where none was entered, there is no name
pub entered_none : {B N R : Type 0} (sub : Option B) (nm : B → N) (rd : B → R) → None ≡ option_map nm sub → option_map {U = N × R} (λ (b : B). (nm b, rd b)) sub ≡ None
entered_none {B} {N} {R} None nm rd h = refl
entered_none {B} {N} {R} (Some b) nm rd h = none_some (nm b) h

-- the error that a `?` passes on
pub passed_on : {T E : Type 0} (r : Result T E) (e u : E) → IsErrAnd r (λ y. y ≡ e) → IsErrOf r u → e ≡ u
passed_on (Ok x) e u h k = absurd h
passed_on (Err y) e u h k = let same : y ≡ u = cc in sym h ∙ same
