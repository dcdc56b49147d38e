-- A prepare after which another is asked for was applied.
use Rattle.std.proofs.Common.{◌≡◌, ℕ, Bool, Option, Some, None, refl}
use Rattle.std.specs.Option.{option_map_or}
use Rattle.sdb_phases.specs.Types.{Put, Record, Reply, Request}
use Rattle.sdb_types.specs.declared.record.Reply.TheVariants as reply
use Rattle.sdb_types.specs.declared.record.Request.TheVariants as ask
use Rattle.sdb_types.specs.Contents.{put_at}
use Rattle.sdb_phases.specs.declared.step.PrepareStep.TheVariants as prepare
use Rattle.sdb_phases.specs.Steps.{prepare_step, refused}

refused_put : (found : Option Record) (o : Option Put) → option_map_or (λ p. prepare.Conflict p.rec.key found) o prepare.NoMemory ≡ prepare.More → ⊥
refused_put found None e = cc
refused_put found (Some p) e = cc

pub refused_ends : (q : Option Request) (k : ℕ) (found : Option Record) → refused q k found ≡ prepare.More → ⊥
refused_ends None k found e = cc
refused_ends (Some (ask.PutIf r condition)) k found e = cc
refused_ends (Some (ask.Get key)) k found e = cc
refused_ends (Some (ask.Scan span)) k found e = cc
refused_ends (Some (ask.DeleteIf key condition)) k found e = cc
refused_ends (Some (ask.PutAll batch)) k found e = refused_put found (put_at batch k) e

pub more_applied : (more : Bool) (q : Option Request) (r : Reply) → prepare_step more q r ≡ prepare.More → r ≡ reply.Applied
more_applied more q reply.Applied e = refl
more_applied more q (reply.NotMet found) e = absurd (refused_ends q 1 found e)
more_applied more q (reply.NotAll k found) e = absurd (refused_ends q k found e)
more_applied more q reply.Fault e = absurd (cc)
more_applied more q reply.NoMemory e = absurd (cc)
more_applied more q (reply.Found found) e = absurd (cc)
more_applied more q (reply.Rows rows) e = absurd (cc)
