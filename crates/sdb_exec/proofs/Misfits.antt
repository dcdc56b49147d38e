-- Mentions that a table does not fit.
use Rattle.std.proofs.Common.{◌≡◌, ◌+◌, List, [], ◌∷◌, Bool, true, false, not, ◌||◌, cond, length, Option, Some, None, refl, sym, ap, ◌∙◌, arith}
use Rattle.std.specs.Prelude.{find, is_some, nat_lt, position}
use Rattle.std.specs.List.{list_any, position_or_len}
use Rattle.std.specs.Option.{option_map, option_map_or}
use Rattle.std.proofs.lemmas.Bool.Decides.{nat_tests}
use Rattle.sdb_schema.specs.declared.table.Kind.TheVariants as kind
use Rattle.sdb_schema.specs.Table.{kind_in}
use Rattle.sdb_model.specs.Rows.{same_name}
use Rattle.sdb_model.specs.Refused.{suits, is_unknown, is_of_other_kind}
use Rattle.sdb_exec.specs.Types.{Column, Kind, Mention, Table}
use Rattle.sdb_exec.specs.Misfits.{is_misfit, has_misfit}
use Rattle.sdb_exec.proofs.Sought.{found-is}

---- one look for a column

known_kind : (o : Option Column) (k : Kind) → option_map (λ c. c.kind) o ≡ Some k → (is_some o ≡ true) × (option_map_or (λ c. c.kind) o kind.Text ≡ k)
known_kind None k h = absurd (cc)
known_kind (Some c) k h = (refl, cc)

no_kind : (o : Option Column) → option_map (λ c. c.kind) o ≡ None → is_some o ≡ false
no_kind None h = refl
no_kind (Some c) h = absurd (cc)

pub misfit_of_kind : (t : Table) (m : Mention) (k : Kind) → kind_in t.columns m.name ≡ Some k → is_misfit t m ≡ option_map_or (λ v. not (suits k v)) m.literal false
misfit_of_kind t m k h =
    let known = known_kind (find (λ c. same_name c.name m.name) t.columns) k h in
    ap (λ b. not b || is_of_other_kind t m) (sym (found-is (λ c. same_name c.name m.name) t.columns) ∙ known.0)
    ∙ ap (λ j. option_map_or (λ v. not (suits j v)) m.literal false) known.1

pub misfit_unknown : (t : Table) (m : Mention) → kind_in t.columns m.name ≡ None → is_misfit t m ≡ true
misfit_unknown t m h =
    ap (λ b. not b || is_of_other_kind t m) (sym (found-is (λ c. same_name c.name m.name) t.columns) ∙ no_kind (find (λ c. same_name c.name m.name) t.columns) h)

---- no misfits

neither : (a b : Bool) → (a || b) ≡ false → (a ≡ false) × (b ≡ false)
neither true b h = absurd (cc)
neither false b h = (refl, h)

module _ {X : Type 0} (p q : X → Bool) where
  none_of_either : (xs : List X) → list_any (λ x. p x || q x) xs ≡ false → (list_any p xs ≡ false) × (list_any q xs ≡ false)
  none_of_either [] h = (refl, refl)
  none_of_either (x ∷ xs) h =
      let parts = neither (p x || q x) (list_any (λ y. p y || q y) xs) h in
      let here = neither (p x) (q x) parts.0 in
      let rest = none_of_either xs parts.1 in
      (ap (λ b. b || list_any p xs) here.0 ∙ rest.0, ap (λ b. b || list_any q xs) here.1 ∙ rest.1)

not_placed : {X : Type 0} (p : X → Bool) (xs : List X) → list_any p xs ≡ false → nat_lt (position_or_len p xs) (length xs) ≡ false
not_placed p [] h = refl
not_placed p (x ∷ xs) h =
    elim (p x) as (λ b. (b || list_any p xs) ≡ false → nat_lt (cond (not b) (1 + position_or_len p xs) 0) (length (x ∷ xs)) ≡ false) [
      | true ↦ λ k. absurd (cc)
      | false ↦ λ k. let rest = not_placed p xs k in grind (arith, nat_tests, rest)
    ] h

no_place : {X : Type 0} (p : X → Bool) (xs : List X) → list_any p xs ≡ false → position p xs ≡ None
no_place p xs h = ap (λ b. cond b (Some (position_or_len p xs)) None) (not_placed p xs h)

pub no_unknown : (t : Table) (ms : List Mention) → has_misfit t ms ≡ false → position (is_unknown t) ms ≡ None
no_unknown t ms h = no_place (is_unknown t) ms (none_of_either (is_unknown t) (is_of_other_kind t) ms h).0

pub no_other_kind : (t : Table) (ms : List Mention) → has_misfit t ms ≡ false → position (is_of_other_kind t) ms ≡ None
no_other_kind t ms h = no_place (is_of_other_kind t) ms (none_of_either (is_unknown t) (is_of_other_kind t) ms h).1
