use Rattle.sdb_client.proofs.Public.{step_of_text as step_of}
use Rattle.law_clients.specs.Turns.{TextExecuted, TextInRun}
use Rattle.law_clients.proofs.Whole.{TakesNow, takes_so}
use Rattle.law_clients.proofs.texts.step_of_text.Goals as goal

pub returns : goal.returns
returns x = λ (i : TextInRun). let t : TextExecuted = i.taken in
    let now : TakesNow i.catalog i.events t.states t.client t.q = record { current = i.current; of_data = t.of_data; moment = t.moment; ready = t.ready; gated = i.gated; numbered = t.numbered } in
    takes_so i.invariant now t.text t.few (step_of t.q t.text (t.states t.client).client t.result t.after t.takes)
