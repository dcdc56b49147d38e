use Rattle.std.proofs.Common.{◌≡◌, ◌≤◌, ◌<◌, ℕ, false, List, length, take, ap, subst, sym, ◌∙◌, rules}
use Rattle.std.specs.Result.{is_err}
use Rattle.sdb_record.specs.declared.write.Write.{Write}
use Rattle.sdb_snapshot.specs.Opened.{with_news, with_laids}
use Rattle.sdb_snapshot.specs.Written.{most_writes, with_writes}
use Rattle.sdb_snapshot.proofs.Fronts.{starts_take, ok_of}
use Rattle.sdb_snapshot.proofs.Opening.{laid_all, length_writes}
use Rattle.sdb_snapshot.proofs.write_set.WriteSet.write.Goals as goal

pub returns-then-is_err-clause-err : goal.returns-then-is_err-clause-err
returns-then-is_err-clause-err c =
    c.cut.ensures ∙ ap (λ (n : ℕ). take n c.open_each.new.self) (c.len-len.ensures ∙ ap length c.self.view_is) ∙ starts_take c.args.self.now c.open_each.new.self c.open_each.ensures.front

pub returns-then-len-gt-MOST_WRITES-clause-many : goal.returns-then-len-gt-MOST_WRITES-clause-many
returns-then-len-gt-MOST_WRITES-clause-many c =
    let ok : is_err c.open_each.result ≡ false = search rules in
    let news : c.open_each.new.self ≡ with_news c.args.read_set.now c.args.self.now c.args.changes =
    ok_of _ c.open_each.result ok c.open_each.ensures.ok ∙ ap (with_news c.args.read_set.now c.args.self.now) c.as_slice.ensures in
    let n : length (with_writes c.args.read_set.now c.args.self.now c.args.changes) ≡ c.len.result =
    length_writes c.args.read_set.now c.args.self.now c.args.changes ∙ sym (ap length news) ∙ sym (ap length c.self-2.view_is) ∙ sym c.len.ensures in
    let more : most_writes < c.len.result = search rules in
    λ _. subst (λ (x : ℕ). most_writes < x) (sym n) more

pub returns-then-len-gt-MOST_WRITES-clause-err : goal.returns-then-len-gt-MOST_WRITES-clause-err
returns-then-len-gt-MOST_WRITES-clause-err c =
    c.cut-then-len-gt-MOST_WRITES.ensures ∙ ap (λ (n : ℕ). take n c.open_each.new.self) (c.len-len.ensures ∙ ap length c.self.view_is) ∙ starts_take c.args.self.now c.open_each.new.self c.open_each.ensures.front

pub returns-clause-ok : goal.returns-clause-ok
returns-clause-ok c =
    let ok : is_err c.open_each.result ≡ false = search rules in
    let news : c.open_each.new.self ≡ with_news c.args.read_set.now c.args.self.now c.args.changes =
    ok_of _ c.open_each.result ok c.open_each.ensures.ok ∙ ap (with_news c.args.read_set.now c.args.self.now) c.as_slice.ensures in
    c.lay_all.ensures ∙ ap (λ (ws : List Write). with_laids ws c.args.changes) news ∙ laid_all c.args.read_set.now c.args.self.now c.args.changes

pub returns-clause-fits : goal.returns-clause-fits
returns-clause-fits c =
    let ok : is_err c.open_each.result ≡ false = search rules in
    let news : c.open_each.new.self ≡ with_news c.args.read_set.now c.args.self.now c.args.changes =
    ok_of _ c.open_each.result ok c.open_each.ensures.ok ∙ ap (with_news c.args.read_set.now c.args.self.now) c.as_slice.ensures in
    let n : length (with_writes c.args.read_set.now c.args.self.now c.args.changes) ≡ c.len.result =
    length_writes c.args.read_set.now c.args.self.now c.args.changes ∙ sym (ap length news) ∙ sym (ap length c.self-2.view_is) ∙ sym c.len.ensures in
    let few : c.len.result ≤ most_writes = search rules in
    subst (λ (x : ℕ). x ≤ most_writes) (sym n) few
