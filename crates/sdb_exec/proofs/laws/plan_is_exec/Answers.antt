use Rattle.sdb_exec.proofs.Whole.{is_exec, fitting_is_exec}
use Rattle.sdb_exec.proofs.laws.plan_is_exec.Goals as goal

pub returns : goal.returns
returns c =
    record {
      fitting = λ a d. fitting_is_exec a.catalog a.plan d a.table a.named a.asked;
      shaped = λ a d r. is_exec a.catalog a.plan d a.table a.named a.asked r.shaped r.fit;
    }
