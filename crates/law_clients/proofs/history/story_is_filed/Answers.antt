use Rattle.law_clients.proofs.Files.{story_files}
use Rattle.law_clients.proofs.history.story_is_filed.Goals as goal

pub returns : goal.returns
returns c = λ plan k ok. story_files plan k.events k.past k.sys k.client k.answered ok k.story
