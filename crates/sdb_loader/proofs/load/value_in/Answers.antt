use Rattle.std.proofs.Common.{ap, [], ◌∷◌, Err}
use Rattle.std.specs.Option.{option_map_or}
use Rattle.sdb_loader.specs.Described.{described_tables}
use Rattle.sdb_loader.specs.declared.fault.SchemaFault.TheVariants as fault
use Rattle.sdb_loader.proofs.Values.{not_true}
use Rattle.sdb_loader.proofs.load.value_in.Goals as goal

pub returns-else-is_memory-clause-fault : goal.returns-else-is_memory-clause-fault
returns-else-is_memory-clause-fault c =
    ap (λ o. option_map_or (λ d. described_tables ((c.args.name.now, d) ∷ [])) o (Err fault.NotJson)) (c.in-Err.ensures.err (λ m. not_true (c.if-is_memory.ensures.1 m)))
