use Rattle.std.proofs.Common.{◌≤◌, ◌+◌, List, ℕ, length, Option, [], ◌∷◌, take, drop, ◌++◌, get_or, subst, arith}
use Rattle.std.specs.Prelude.{option_map}
use Rattle.sdb_types.specs.Bytes.{Takes}
use Rattle.sdb_shell.proofs.Used.{byte_taken}
use Rattle.sdb_shell.proofs.bytes.Bytes.next.Goals as goal

pub returns-then-self-eq-MOST_INPUT-clause-too_many :
    goal.returns-then-self-eq-MOST_INPUT-clause-too_many
returns-then-self-eq-MOST_INPUT-clause-too_many g c =
    let fits : c.fill.new.self.end ≤ length c.fill.new.self.piece = omega (arith, c.fill.new.self.whole, c.fill.new.self.ends) in
    λ e. (
      c.if-self-eq-MOST_INPUT.true,
      (get_or c.fill.new.self.piece c.fill.new.self.at 0, _, byte_taken c.fill.new.self.piece c.fill.new.self.at c.fill.new.self.end (g.R.Source.remaining c.fill.new.source) (c.in_ok-fill.ensures.some c.if-not-branch.false) fits),
    )

pub returns-clause-byte : goal.returns-clause-byte
returns-clause-byte g c =
    let fits : c.fill.new.self.end ≤ length c.fill.new.self.piece = omega (arith, c.fill.new.self.whole, c.fill.new.self.ends) in
    subst (λ (old : Option (List ℕ)). Takes (get_or c.fill.new.self.piece c.fill.new.self.at 0 ∷ []) old (option_map (λ r. drop (c.fill.new.self.at + 1) (take c.fill.new.self.end c.fill.new.self.piece) ++ r) (g.R.Source.remaining c.fill.new.source))) c.fill.ensures.same
    (byte_taken c.fill.new.self.piece c.fill.new.self.at c.fill.new.self.end (g.R.Source.remaining c.fill.new.source) (c.in_ok-fill.ensures.some c.if-not-branch.false) fits)
