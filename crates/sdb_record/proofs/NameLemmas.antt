-- Names with a prefix.
use Rattle.std.proofs.Common.{◌≡◌, ℕ, List, length, Bool, true, false, not, cond, refl, sym, ap, ◌∙◌, Option, Some, None, MatchOption}
use Rattle.std.specs.Prelude.{nat_le}
use Rattle.sdb_types.specs.Identifier.{is_identifier, is_name}
use Rattle.sdb_types.specs.NameText.{before_prefix, after_front, if_identifier, name_within}
use Rattle.sdb_types.proofs.Public.{after_front-append, and_both, and_first, and_second, is_front, longer, name_exact, name_total, no_front, rest-is_name, strips}
use Rattle.std.specs.Borrow.{Bor}
use Rattle.std.specs.Option.{option_copied}
use Rattle.std.specs.Str.Pattern.{FindsTextPrefix, StripsPrefix}
use Rattle.std.specs.Cmp.{tied_itself}
use Rattle.std.specs.Ordering.{is_eq}
use Rattle.sdb_types.specs.Exact.{equal_of}
use Rattle.sdb_types.specs.Order.{name_cmp}
use Rattle.sdb_record.specs.Names.{before_name, base_name, same_name}
use Rattle.sdb_record.specs.Meta.{is_badly_named}
use Rattle.sdb_record.specs.Parts.{is_column_name}

pub base_name-before_name : (name : List ℕ) → base_name (before_name name) ≡ Some name
unfolding base_name
base_name-before_name name = after_front-append before_prefix name

pub base_name-is : (text name : List ℕ) → base_name text ≡ Some name → text ≡ before_name name
unfolding base_name
base_name-is text name h = is_front before_prefix text name h

pub base_name-none : (text : List ℕ) → ((rest : List ℕ) → text ≡ before_name rest → ⊥) → base_name text ≡ None
unfolding base_name
base_name-none text h = no_front before_prefix text h

-- what `strip_prefix` gives
pub stripped : (text : List ℕ) (r : Option (Bor (List ℕ))) → MatchOption r (FindsTextPrefix before_prefix text None) (λ x. StripsPrefix (FindsTextPrefix before_prefix) text x.now) → option_copied r ≡ base_name text
unfolding base_name
stripped text r h = strips before_prefix text r h

well_named : (o : Option (List ℕ)) → is_badly_named o ≡ false → if_identifier o ≡ o
well_named None h = refl
well_named (Some text) h = ap (λ (b : Bool). cond b (Some text) None) (unrefused (is_identifier text) h)
  where
    unrefused : (b : Bool) → not b ≡ false → b ≡ true
    unrefused true k = refl
    unrefused false k = absurd (cc)

-- the name within one whose before image keeps an identifier
pub within_base : (text : List ℕ) → is_badly_named (base_name text) ≡ false → name_within text ≡ base_name text
unfolding base_name
within_base text h = well_named (after_front before_prefix text) h

---- names that are the same

pub same_name-true : (a b : List ℕ) → same_name a b ≡ true → a ≡ b
same_name-true a b h = name_exact a b (equal_of (name_cmp a b) h)

pub same_name-itself : (a : List ℕ) → same_name a a ≡ true
same_name-itself a = ap is_eq (tied_itself name_total a)

-- what a name of a before image keeps is a name, where it is an identifier
pub kept-is_name : (text name : List ℕ) → is_name text ≡ true → base_name text ≡ Some name → is_identifier name ≡ true → is_name name ≡ true
kept-is_name text name h k i = rest-is_name name (ap is_name (sym (base_name-is text name k)) ∙ h) i

pub name_of_column : (text : List ℕ) → is_column_name text ≡ true → is_name text ≡ true
name_of_column text h = and_both (nat_le (length text) 71) _ (longer (length text) (and_first (nat_le (length text) 64) (is_identifier text) h)) (and_second (nat_le (length text) 64) (is_identifier text) h)
