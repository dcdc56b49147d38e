use Rattle.sdb_picture.specs.Lanes.{lanes_of}
use Rattle.sdb_picture.proofs.ArrowLaws.{groups_have_answers}
use Rattle.sdb_picture.proofs.laws.answers_are_marked.Goals as goal

pub returns : goal.returns
returns c = λ o. groups_have_answers (lanes_of o.events) o.events 0 o.events
