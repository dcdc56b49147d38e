use Rattle.std.proofs.Common.{sym, ap, ◌∙◌, ◌+◌, List, ℕ, Option, Some, take}
use Rattle.std.proofs.lemmas.List.{take_rest}
use Rattle.sdb_codec.proofs.Texts.{dot_none, dot_some}
use Rattle.sdb_codec.proofs.fields.split_at_dot.Goals as goal

pub returns-in-Some : goal.returns-in-Some
returns-in-Some c =
    let some : List ℕ → Option (List ℕ × List ℕ) = λ rest. Some (take c.in-Some.at c.args.text.now, rest) in
    ap some (take_rest c.args.text.now (c.in-Some.at + 1)) ∙ sym (dot_some c.args.text.now c.in-Some.at (sym c.in-Some.ensures)).1

pub returns-in-None : goal.returns-in-None
returns-in-None c = sym (dot_none c.args.text.now (sym c.in-None.ensures))
