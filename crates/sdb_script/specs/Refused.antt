-- How the fault of a schema refuses its line.
use Rattle.std.specs.Prelude.{◌≡◌, Result, Err}
use Rattle.sdb_loader.specs.declared.fault.SchemaFault.{SchemaFault}
use Rattle.sdb_loader.specs.declared.fault.SchemaFault.TheVariants as schema
use Rattle.sdb_script.specs.declared.fault.LineFault.TheVariants as fault
use Rattle.sdb_script.specs.declared.fault.LineRefused.{LineRefused}
use Rattle.sdb_script.specs.declared.fault.LineRefused.TheVariants as refused

abbrev pub refused_for : SchemaFault → LineRefused
refused_for schema.NoMemory = refused.NoMemory
refused_for f = refused.Bad (fault.Schema f)

-- A refusal that names the fault of an outcome; out of memory may be returned in its place.
abbrev pub Described : {A : Type 0} → Result A SchemaFault → LineRefused → Type 0
Described r (refused.Bad fault.Text) = ⊥
Described r (refused.Bad fault.Form) = ⊥
Described r (refused.Bad fault.Store) = ⊥
Described r (refused.Bad (fault.Schema f)) = r ≡ Err f
Described r (refused.Bad fault.Missing) = ⊥
Described r (refused.Limit w) = ⊥
Described r refused.NoMemory = Unit {0}
