-- Mentions that name each column once.
use Rattle.std.proofs.Common.{◌≡◌, ℕ, ◌+◌, List, [], ◌∷◌, ◌++◌, Bool, true, false, ◌||◌, cond, length, Option, Some, None, refl, ap, ◌∙◌}
use Rattle.std.specs.List.{list_any}
use Rattle.std.specs.Ordering.{is_lt}
use Rattle.std.specs.declared.cmp.Ordering.TheVariants.{Less}
use Rattle.sdb_types.specs.Order.{name_cmp}
use Rattle.sdb_types.proofs.Public.{and_first, and_second, less_of, name_total, or_neither, turned, by_order}
use Rattle.sdb_exec.specs.Types.{Mention}
use Rattle.sdb_exec.specs.Risen.{starts_above, names_rise}
use Rattle.sdb_model.specs.Rows.{Name, same_name}
use Rattle.sdb_model.specs.Refused.{is_named_by, repeat_place}

not_found : (b : Bool) (n : ℕ) (o : Option ℕ) → cond b (Some n) o ≡ None → (b ≡ false) × (o ≡ None)
not_found true n o h = absurd (cc)
not_found false n o h = (refl, h)

unlike : (a b : Name) → same_name a b ≡ false → same_name b a ≡ false
unlike a b h =
    by_order (name_cmp a b)
    (λ q. let t = turned a b _ q in simp t refl)
    (λ q. let t = simp q at h in cc)
    (λ q. let t = turned a b _ q in simp t refl)

-- a mention may be among those passed that none of the others repeats
passed_too : (m : Mention) (ms passed : List Mention) → list_any (is_named_by m.name) ms ≡ false → repeat_place passed ms ≡ None → repeat_place (m ∷ passed) ms ≡ None
passed_too m [] passed h k = refl
passed_too m (x ∷ xs) passed h k =
    let differs = or_neither (same_name x.name m.name) (list_any (is_named_by m.name) xs) h in
    let fresh = not_found (list_any (is_named_by x.name) passed) (length passed + 1) (repeat_place (passed ++ x ∷ []) xs) k in
    ap (λ b. cond b (Some (length (m ∷ passed) + 1)) (repeat_place (m ∷ passed ++ x ∷ []) xs)) (ap (λ b. b || list_any (is_named_by x.name) passed) (unlike x.name m.name differs.0) ∙ fresh.0)
    ∙ passed_too m xs (passed ++ x ∷ []) differs.1 fresh.1

pub first_once : (m : Mention) (ms : List Mention) → list_any (is_named_by m.name) ms ≡ false → repeat_place [] ms ≡ None → repeat_place [] (m ∷ ms) ≡ None
first_once m ms h k = passed_too m ms [] h k

above_more : (name : Name) (m : Mention) (ms : List Mention) → is_lt (name_cmp name m.name) ≡ true → starts_above m.name ms ≡ true → starts_above name ms ≡ true
above_more name m [] h k = refl
above_more name m (x ∷ xs) h k = ap is_lt (name_total.trans name m.name x.name (less_of _ h) (less_of _ k))

none_named : (name : Name) (ms : List Mention) → starts_above name ms ≡ true → names_rise ms ≡ true → list_any (is_named_by name) ms ≡ false
none_named name [] h r = refl
none_named name (m ∷ ms) h r =
    let q = turned name m.name Less (less_of _ h) in
    simp q (none_named name ms (above_more name m ms h (and_first (starts_above m.name ms) (names_rise ms) r)) (and_second (starts_above m.name ms) (names_rise ms) r))

pub once_where_rising : (ms : List Mention) → names_rise ms ≡ true → repeat_place [] ms ≡ None
once_where_rising [] r = refl
once_where_rising (m ∷ ms) r =
    let rest = and_second (starts_above m.name ms) (names_rise ms) r in
    first_once m ms (none_named m.name ms (and_first (starts_above m.name ms) (names_rise ms) r) rest) (once_where_rising ms rest)
