use Rattle.std.proofs.Common.{ap, Err}
use Rattle.std.specs.Option.{option_map_or}
use Rattle.std.proofs.lemmas.Str.{is_utf8-from_IsUtf8}
use Rattle.sdb_loader.specs.Described.{described}
use Rattle.sdb_loader.specs.declared.fault.SchemaFault.TheVariants as fault
use Rattle.sdb_loader.proofs.Values.{json_of-none, not_true}
use Rattle.sdb_loader.proofs.load.value_of.Goals as goal

pub returns-in-Ok-clause-ok : goal.returns-in-Ok-clause-ok
returns-in-Ok-clause-ok c = rw (is_utf8-from_IsUtf8 c.args.json.now c.in-Ok.ensures.ok.0) c.in-Ok.ensures.ok.1

pub returns-else-is_memory-clause-fault : goal.returns-else-is_memory-clause-fault
returns-else-is_memory-clause-fault c =
    ap (λ o. option_map_or described o (Err fault.NotJson)) (json_of-none c.args.json.now (c.in-Err.ensures.err (λ m. not_true (c.if-is_memory.ensures.1 m))))
