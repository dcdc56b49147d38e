use Rattle.std.proofs.Common.{◌≡◌, ◌∙◌, ◌++◌, ◌∷◌, [], ap, sym, arith, rules, true, false}
use Rattle.std.specs.Prelude.{is_none}
use Rattle.std.specs.BTreeMap.{get}
use Rattle.std.proofs.lemmas.List.{append-nil}
use Rattle.sdb_types.specs.Order.{key_cmp}
use Rattle.sdb_phases.specs.Checks.{check_of_read}
use Rattle.sdb_validate.proofs.Places.{one_reread, unwritten}
use Rattle.sdb_validate.proofs.checks.put_rereads.Goals as goal
use Rattle.sdb_validate.proofs.checks.put_rereads.Goals.{then-is_none+in_ok-reread+in_ok-push, else-is_none}

pub loop-read-preserved : goal.loop-read-preserved
loop-read-preserved c =
    let own = c.args.own.now in
    let reads = c.args.reads.now in
    let r = c.read-item.result in
    let checks = c.args.checks.now in
    let before = c.loop-read.checks in
    let test = ap is_none (c.requires r.key) ∙ unwritten own r.key in
    elim c.if-is_none.branch [
      | then-is_none+in_ok-reread+in_ok-push w ↦
          let free : is_none (get key_cmp c.args.bases.now r.key) ≡ true = search (rules, w.if-is_none) in
          let new : c.if-is_none.checks ≡ before ++ check_of_read r ∷ [] = w.checks-is ∙ w.in_ok-push.ensures.ok ∙ ap (λ x. before ++ x ∷ []) w.in_ok-reread.ensures in
          one_reread own reads c.loop-read.read-index r checks before c.if-is_none.checks true (omega arith) c.read-item.is (sym test ∙ free) c.loop-read.invariant new
      | else-is_none w ↦
          let there : is_none (get key_cmp c.args.bases.now r.key) ≡ false = search (rules, w.if-is_none) in
          let new : c.if-is_none.checks ≡ before ++ [] = w.checks-is ∙ sym (append-nil before) in
          one_reread own reads c.loop-read.read-index r checks before c.if-is_none.checks false (omega arith) c.read-item.is (sym test ∙ there) c.loop-read.invariant new
    ]
