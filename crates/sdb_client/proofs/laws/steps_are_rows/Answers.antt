use Rattle.sdb_client.proofs.Steps.{reply_of_step, step_of_reply, step_of_text, text_of_step}
use Rattle.sdb_client.proofs.laws.steps_are_rows.Goals as goal

pub returns : goal.returns
returns x = record { text_rows = step_of_text; rows_text = text_of_step; reply_rows = λ c q r now result d h. step_of_reply c q r now h.0 result d h.1; rows_reply = reply_of_step }
