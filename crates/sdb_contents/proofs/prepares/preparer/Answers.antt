use Rattle.std.proofs.Common.{rules, ◌≡◌, true, sym}
use Rattle.sdb_contents.proofs.Prepared.{by_writer, is_open}
use Rattle.sdb_contents.proofs.prepares.preparer.Goals as goal

pub returns-in-Some-Prepared : goal.returns-in-Some-Prepared
returns-in-Some-Prepared c = λ id small.
    let here : is_open c.state_in.result ≡ true = search rules in
    by_writer c.args.rec.now id c.state_in.result c.writer_of.result small (sym c.state_in.ensures) here (sym c.writer_of.ensures)
