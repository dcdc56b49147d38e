use Rattle.std.proofs.Common.{refl}
use Rattle.std.proofs.lemmas.Str.{is_utf8-from_IsUtf8}
use Rattle.sdb_codec.proofs.Texts.{not_utf8}
use Rattle.sdb_codec.specs.Reading.{text_at}
use Rattle.sdb_codec.proofs.fields.text_at.Goals as goal

pub returns-in_ok-new-in-Ok : goal.returns-in_ok-new-in-Ok
unfolding text_at
returns-in_ok-new-in-Ok c =
    rw (c.in_ok-text.ensures, is_utf8-from_IsUtf8 c.in_ok-text.text.now c.in-Ok.ensures.cases.1, c.in_ok-new-in-Ok.ensures, c.in-Ok.ensures.cases.0) refl

pub returns-in-Err : goal.returns-in-Err
unfolding text_at
returns-in-Err c = rw (c.in_ok-text.ensures, not_utf8 c.in_ok-text.text.now c.in-Err.ensures.cases.0) refl
