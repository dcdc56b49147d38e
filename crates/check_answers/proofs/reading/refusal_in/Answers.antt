use Rattle.std.proofs.Common.{◌≡◌, Some, ap, sym, subst, ◌∙◌}
use Rattle.std.specs.Prelude.{IfSome}
use Rattle.sdb_model.specs.Sql.{Reads, Refuses}
use Rattle.sdb_sqltext.specs.Answers.{refusal_of}
use Rattle.check_protocol.proofs.Public.{none_some}
use Rattle.check_answers.proofs.reading.refusal_in.Goals as goal
use Rattle.sdb_types.proofs.Public.{some_is}

pub returns-in-Ok : goal.returns-in-Ok
returns-in-Ok c r = (
  λ f. absurd (c.one_reading.ensures.either c.args.text.now c.in-Ok.field-0 r (subst (λ x. Reads x c.in-Ok.field-0) c.as_str-2.ensures c.in-Ok.ensures.read) f),
  λ e. none_some e,
)

pub returns-in-Some : goal.returns-in-Some
returns-in-Some c r =
    let o : refusal_of c.in-Err.refused ≡ Some c.in-Some.refusal = sym c.refusal.ensures ∙ c.in-Some.is in
    let here : Refuses c.as_str-2.result.now c.in-Some.refusal = subst (λ x. IfSome x (Refuses c.as_str-2.result.now)) o c.in-Err.ensures.refused in
    let f : Refuses c.args.text.now c.in-Some.refusal = subst (λ x. Refuses x c.in-Some.refusal) c.as_str-2.ensures here in
    (λ g. ap Some (c.one_reading.ensures.refusal c.args.text.now c.in-Some.refusal r f g), λ e. subst (Refuses c.args.text.now) (some_is c.in-Some.refusal r e) f)
