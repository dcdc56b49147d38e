use Rattle.std.proofs.Common.{subst}
use Rattle.sdb_shell.specs.Texts.{IsBad}
use Rattle.sdb_shell.proofs.Refusing.{refuses, stops}
use Rattle.sdb_shell.proofs.texts.next_text.Goals as goal

pub returns-in-Err-text_of-clause-refused : goal.returns-in-Err-text_of-clause-refused
returns-in-Err-text_of-clause-refused g c = refuses _ _ _ _ _ _ c.in-Ok.end c.read_line.new.line.items c.in-Ok.ensures.line (subst (λ l. IsBad c.args.n l c.in-Err-text_of.refused) c.as_slice.ensures.value c.in-Err-text_of.ensures.bad)

pub returns-in-Err-clause-refused : goal.returns-in-Err-clause-refused
returns-in-Err-clause-refused g c = stops _ _ _ _ _ _ c.in-Err.stop c.refused_at.ensures c.in-Err.ensures.cut
