use Rattle.law_clients.proofs.Files.{story_starts}
use Rattle.law_clients.proofs.history.initial_story.Goals as goal

pub returns : goal.returns
returns c = story_starts
