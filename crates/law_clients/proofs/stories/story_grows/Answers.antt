use Rattle.law_clients.proofs.Places.{story_same, story_kept}
use Rattle.law_clients.proofs.stories.story_grows.Goals as goal

pub returns : goal.returns
returns c = record { same = story_same; kept = story_kept }
