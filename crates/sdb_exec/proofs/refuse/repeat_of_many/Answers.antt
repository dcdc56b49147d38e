use Rattle.std.proofs.Common.{◌≡◌, ◌<◌, Bool, true, false, not, cond, sym, ap, ◌∙◌, refl, arith, rules, length}
use Rattle.std.specs.BTreeSet.{contains}
use Rattle.sdb_types.specs.Order.{name_cmp}
use Rattle.sdb_model.specs.Rows.{same_name}
use Rattle.sdb_exec.proofs.Repeats.{not_repeated, passed_more}
use Rattle.sdb_exec.proofs.refuse.repeat_of_many.Goals as goal

absent : (added there : Bool) → added ≡ not there → added ≡ true → there ≡ false
absent added true e h = sym h ∙ e
absent added false e h = refl

pub loop-i-preserved : goal.loop-i-preserved
loop-i-preserved c =
    let ms = c.args.mentions.now in
    let i = c.loop-i.i in
    let m = c.index-mentions-i.result in
    let old = c.loop-i.passed in
    let within : i < length ms = omega arith in
    let added : c.in_ok-insert.field-0 ≡ true = search rules in
    let fresh : contains name_cmp old c.in_ok-copy.field-0 ≡ false = absent c.in_ok-insert.field-0 _ c.in_ok-insert.ensures.added added in
    let other : contains name_cmp old m.name ≡ false = sym (ap (contains name_cmp old) c.in_ok-copy.ensures) ∙ fresh in
    record {
      same = not_repeated ms i m within c.index-mentions-i.is (sym (c.loop-i.invariant.passed m.name) ∙ other) ∙ c.loop-i.invariant.same;
      passed = λ q. passed_more ms i m within c.index-mentions-i.is q (contains name_cmp old q) (contains name_cmp c.insert.new.self q) (c.in_ok-insert.ensures.updates.0 q ∙ ap (λ n. cond (same_name n q) true (contains name_cmp old q)) c.in_ok-copy.ensures) (c.loop-i.invariant.passed q);
    }
