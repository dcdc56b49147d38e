use Rattle.law_runs.proofs.Ordered.{is_order, risen_fits}
use Rattle.law_runs.proofs.order.points_are_order.Goals as goal

pub returns : goal.returns
returns c = record {
  order = λ r have. is_order r.places r.events r.closing r.ids r.order r.fit r.recorded have r.risen;
  fits = risen_fits;
}
