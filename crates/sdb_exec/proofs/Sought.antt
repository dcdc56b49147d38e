-- A column of a name is found where there is one.
use Rattle.std.proofs.Common.{◌≡◌, List, [], ◌∷◌, true, false, cond, Option, Some, None, Bor, refl, sym, ap, ◌∙◌}
use Rattle.std.specs.Prelude.{Bool, ◌||◌, find, is_some}
use Rattle.std.specs.List.{list_any}
use Rattle.std.specs.Option.{option_copied}
use Rattle.sdb_types.specs.Exact.{equal_of}
use Rattle.sdb_types.specs.Order.{name_cmp}
use Rattle.sdb_types.proofs.Public.{by_test, clash, name_exact}
use Rattle.sdb_model.specs.Rows.{Name, same_name}
use Rattle.sdb_exec.specs.Types.{Column}

pub found-is : {X : Type 0} (p : X → Bool) (xs : List X) → is_some (find p xs) ≡ list_any p xs
found-is p [] = refl
found-is p (x ∷ xs) = elim (p x) as (λ b. is_some (cond b (Some x) (find p xs)) ≡ (b || list_any p xs)) [ true ↦ refl | false ↦ found-is p xs ]

pub found-named : (name : Name) (r : Option (Bor Column)) (xs cs : List Column) → xs ≡ cs → option_copied r ≡ find (λ c. same_name c.name name) xs → is_some r ≡ list_any (λ c. same_name c.name name) cs
found-named name None xs cs e h = ap is_some h ∙ found-is (λ c. same_name c.name name) xs ∙ ap (list_any (λ c. same_name c.name name)) e
found-named name (Some b) xs cs e h = ap is_some h ∙ found-is (λ c. same_name c.name name) xs ∙ ap (list_any (λ c. same_name c.name name)) e

-- the column that is found has the name
pub has_name : (name : Name) (cs : List Column) (c : Column) → find (λ d. same_name d.name name) cs ≡ Some c → c.name ≡ name
has_name name [] c h = absurd (cc)
has_name name (d ∷ ds) c h =
    by_test (same_name d.name name)
    (λ t. let one : d ≡ c = cc in ap (λ (x : Column). x.name) (sym one) ∙ name_exact d.name name (equal_of (name_cmp d.name name) t))
    (λ t. has_name name ds c (ap (λ b. cond b (Some d) (find (λ (x : Column). same_name x.name name) ds)) (sym t) ∙ h))
