use Rattle.std.proofs.Common.{ℕ, Option, Some, ◌∙◌, ap, sym, true≢false}
use Rattle.sdb_types.specs.declared.txid.TxId.{TxId}
use Rattle.sdb_types.specs.TxId.{id_text}
use Rattle.sdb_types.proofs.TxIdLemmas.{number_read, read_or_refused}
use Rattle.sdb_types.proofs.txid.TxId.from_text.Goals as goal

pub returns-then-is_text-clause-read : goal.returns-then-is_text-clause-read
returns-then-is_text-clause-read c = λ n small e.
    let some : ℕ → Option TxId = λ m. Some (record { 0 = m }) in
    ap some (number_read c.parse_str.result c.as_str.result.now c.in-Ok.parsed c.as_u128.result n c.parse_str.ensures.ok c.parse_str.ensures.bytes c.in-Ok.is c.as_u128.ensures small (c.as_str.ensures ∙ e))

pub returns-else-is_text-clause-read : goal.returns-else-is_text-clause-read
returns-else-is_text-clause-read c = λ n small e.
    let same = number_read c.parse_str.result c.as_str.result.now c.in-Ok.parsed c.as_u128.result n c.parse_str.ensures.ok c.parse_str.ensures.bytes c.in-Ok.is c.as_u128.ensures small (c.as_str.ensures ∙ e) in
    absurd (true≢false (sym (c.is_text.ensures.1 (c.as_str-in-Ok.ensures ∙ e ∙ ap id_text (sym same))) ∙ c.if-is_text.false))

pub returns-in-Err-clause-read : goal.returns-in-Err-clause-read
returns-in-Err-clause-read c = λ n small e.
    absurd (read_or_refused c.parse_str.result c.as_str.result.now c.in-Err.field-0 n c.parse_str.ensures.ok c.parse_str.ensures.bytes c.in-Err.is (c.as_str.ensures ∙ e))
