use Rattle.std.proofs.Common.{rules, is_lt, ◌≡◌, Bool, ap, ◌∙◌, subst}
use Rattle.std.specs.Prelude.{reverse}
use Rattle.std.specs.List.Sorted.{IsStableBy}
use Rattle.std.proofs.lemmas.List.Sorted.{ranks_by}
use Rattle.std.proofs.lemmas.Fn.{always_returns_same}
use Rattle.sdb_schema.specs.Order.{row_key_cmp}
use Rattle.sdb_schema.proofs.Public.{row-total}
use Rattle.sdb_exec.proofs.Sorting.{sorts}
use Rattle.sdb_record.specs.declared.access.Image.{Image}
use Rattle.sdb_exec.proofs.select.sorted.Goals as goal

pub returns : goal.returns
returns c =
    let below : Image → Image → Bool = λ a b. is_lt (row_key_cmp c.args.table.now a.key b.key) in
    let rank = ranks_by (row-total c.args.table.now) (λ (r : Image). r.key) in
    let ascend = c.in_ok-sort_by.ensures.sorted below rank (always_returns_same _ _ _ (λ a r f k. search rules)) in
    let stable = c.sort_by.ensures.stable below rank (always_returns_same _ _ _ (λ a r f k. search rules)) in
    let before : c.reverse.new.self.items ≡ reverse c.args.rows = c.reverse.ensures.items ∙ ap (λ l. reverse l) c.into_vec-rows.ensures in
    c.from_vec.ensures ∙ sorts below rank c.args.rows c.sort_by.new.self.items ascend (subst (λ l. IsStableBy below l c.sort_by.new.self.items) before stable)
