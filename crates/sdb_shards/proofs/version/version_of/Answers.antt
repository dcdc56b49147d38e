use Rattle.std.proofs.Common.{ap, sym, ◌∙◌}
use Rattle.std.specs.Option.{option_copied}
use Rattle.sdb_types.specs.Columns.{column}
use Rattle.sdb_types.specs.Contents.{tx_id, tx_state}
use Rattle.sdb_shards.proofs.Versions.{has_both, if_none, lacks_id, lacks_state, lacks_text}
use Rattle.sdb_shards.proofs.version.version_of.Goals as goal

pub returns-in_err-text-clause-none : goal.returns-in_err-text-clause-none
returns-in_err-text-clause-none c =
    if_none c.from_residual.result (lacks_text c.args.rec.now (option_copied c.value_named.result) (c.value_named.ensures ∙ ap (λ ps. column ps tx_id) c.pairs.ensures) (sym c.in_err-text.ensures))

pub returns-in_err-id-clause-none : goal.returns-in_err-id-clause-none
returns-in_err-id-clause-none c =
    if_none c.from_residual-in_err-id.result
    (lacks_id c.args.rec.now (option_copied c.value_named.result) c.in_ok-text.text.now (c.value_named.ensures ∙ ap (λ ps. column ps tx_id) c.pairs.ensures) c.in_ok-text.ensures c.in_err-id.ensures.none)

pub returns-in_err-state-clause-none : goal.returns-in_err-state-clause-none
returns-in_err-state-clause-none c =
    if_none c.from_residual-in_err-state.result (lacks_state c.args.rec.now (option_copied c.value_named-2.result) (c.value_named-2.ensures ∙ ap (λ ps. column ps tx_state) c.pairs-2.ensures) c.in_err-state.ensures)

pub returns-clause-some : goal.returns-clause-some
returns-clause-some c = (
  c.in_ok-id.ensures.some.0,
  has_both c.args.rec.now c.in_ok-id.id c.in_ok-state.state (option_copied c.value_named.result) (option_copied c.value_named-2.result) c.in_ok-text.text.now (c.value_named.ensures ∙ ap (λ ps. column ps tx_id) c.pairs.ensures)
      (c.value_named-2.ensures ∙ ap (λ ps. column ps tx_state) c.pairs-2.ensures) c.in_ok-text.ensures c.in_ok-id.ensures.some.1 c.in_ok-state.ensures,
)
