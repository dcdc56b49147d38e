use Rattle.sdb_picture.specs.Lanes.{lanes_of}
use Rattle.sdb_picture.proofs.ArrowLaws.{groups_have_landings}
use Rattle.sdb_picture.proofs.laws.landings_are_drawn.Goals as goal

pub returns : goal.returns
returns c = λ o. groups_have_landings (lanes_of o.events) o.events 0 o.events
