use Rattle.std.proofs.Common.{sym}
use Rattle.sdb_data.proofs.FieldsAgain.{not-accepted}
use Rattle.sdb_data.proofs.field.suits.Goals as goal

pub returns-in-None : goal.returns-in-None
returns-in-None c = not-accepted c.args.head c.args.field.now (sym c.in-None.ensures.utf8)
