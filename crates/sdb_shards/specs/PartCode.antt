-- The code of a box.
use Rattle.std.specs.Prelude.{◌≡◌, Bool, true, false, List, refl}
use Rattle.std.specs.Coded.{Coded, code_by, coded×, coded_bool, coded_list}
use Rattle.sdb_store.specs.FaultPlans.{Held}
use Rattle.sdb_store.specs.HeldCode.{code_of_contents}
use Rattle.sdb_shards.specs.declared.part.Part.{Part}
use Rattle.sdb_shards.specs.declared.part.Part.TheVariants.{Ordered, Hashed}

abbrev pub coded : Part → Bool × Held
coded (Ordered held) = (true, held)
coded (Hashed held) = (false, held)

abbrev pub decoded : Bool × Held → Part
decoded (true, held) = Ordered held
decoded (false, held) = Hashed held

pub back : (part : Part) → decoded (coded part) ≡ part
back (Ordered held) = refl
back (Hashed held) = refl

abbrev pub code_of_part : Coded Part
code_of_part = code_by (Bool × Held) (coded× coded_bool code_of_contents) coded decoded back

abbrev pub code_of_parts : Coded (List Part)
code_of_parts = coded_list code_of_part
