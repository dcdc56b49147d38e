use Rattle.sdb_picture.specs.Lanes.{lanes_of}
use Rattle.sdb_picture.proofs.ArrowLaws.{groups_have_calls}
use Rattle.sdb_picture.proofs.laws.calls_are_arrows.Goals as goal

pub returns : goal.returns
returns c = λ o. groups_have_calls (lanes_of o.events) o.events 0 o.events
