use Rattle.std.proofs.Common.{refl}
use Rattle.std.proofs.lemmas.Str.{is_utf8-from_IsUtf8}
use Rattle.sdb_report.proofs.WordLaws.{not_utf8}
use Rattle.sdb_report.proofs.words.text_of.Goals as goal

pub returns-in_ok-new-in-Ok : goal.returns-in_ok-new-in-Ok
returns-in_ok-new-in-Ok c =
    let e = is_utf8-from_IsUtf8 c.args.bytes.now c.in-Ok.ensures.cases.1 in
    rw e (cc (c.in-Ok.ensures.cases.0, c.in_ok-new-in-Ok.ensures))

pub returns-in-Err : goal.returns-in-Err
returns-in-Err c = rw (not_utf8 c.args.bytes.now c.in-Err.ensures.cases.0) refl
