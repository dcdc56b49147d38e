use Rattle.std.proofs.Common.{◌≡◌, ℕ, List, IfOk, ◌∙◌, ap, subst}
use Rattle.uuid.specs.Text.{hyphenated_text, lower}
use Rattle.sdb_types.specs.TxId.{id_text}
use Rattle.sdb_types.proofs.txid.TxId.text.Goals as goal

pub returns : goal.returns
returns c =
    let e : c.encode_lower-text.result.now ≡ id_text c.args.self.0 = c.encode_lower-text.ensures.text ∙ ap (hyphenated_text lower) (c.hyphenated-hyphenated.ensures ∙ c.from_u128-id.ensures) in
    subst (λ (x : List ℕ). IfOk c.new.result (λ t. t ≡ x)) e c.new.ensures
