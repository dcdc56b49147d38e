use Rattle.sdb_picture.specs.Lanes.{lanes_of}
use Rattle.sdb_picture.proofs.ArrowLaws.{groups_have_texts}
use Rattle.sdb_picture.proofs.laws.texts_are_statements.Goals as goal

pub returns : goal.returns
returns c = λ o. groups_have_texts (lanes_of o.events) o.events 0 o.events
