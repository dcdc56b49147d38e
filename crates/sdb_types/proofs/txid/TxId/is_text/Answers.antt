use Rattle.std.proofs.Common.{◌≡◌, ℕ, List, IsTrue, ◌↔◌, ◌∙◌, ap, subst, rules}
use Rattle.uuid.specs.Text.{hyphenated_text, lower}
use Rattle.sdb_types.specs.TxId.{id_text}
use Rattle.sdb_types.proofs.txid.TxId.is_text.Goals as goal

pub returns : goal.returns
returns c =
    let e : c.encode_lower-own.result.now ≡ id_text c.args.self.0 = c.encode_lower-own.ensures.text ∙ ap (hyphenated_text lower) (c.hyphenated-hyphenated.ensures ∙ c.from_u128-id.ensures) in
    let answered : IsTrue c.eq.result ↔ (c.args.text.now ≡ c.encode_lower-own.result.now) = search rules in
    subst (λ (x : List ℕ). IsTrue c.eq.result ↔ (c.args.text.now ≡ x)) e answered
