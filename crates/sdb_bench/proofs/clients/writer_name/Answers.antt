use Rattle.std.proofs.Common.{◌∙◌, ap}
use Rattle.sdb_types.specs.Identifier.{is_name}
use Rattle.sdb_bench.proofs.Drawing.{name_fits}
use Rattle.sdb_bench.proofs.clients.writer_name.Goals as goal

pub from_string-requires : goal.from_string-requires
from_string-requires c = ap is_name c.in_ok-format.ensures.ok ∙ name_fits c.args.writer c.requires
