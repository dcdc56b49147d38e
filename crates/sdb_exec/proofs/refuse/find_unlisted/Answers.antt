use Rattle.std.proofs.Common.{rules, ◌≡◌, ◌+◌, List, Bool, not, length, Some, None, sym, ap, ◌∙◌}
use Rattle.std.specs.Prelude.{position}
use Rattle.std.specs.List.{list_any}
use Rattle.std.specs.Option.{option_map}
use Rattle.sdb_model.specs.Rows.{Name, order_names, same_name}
use Rattle.sdb_exec.proofs.Firsts.{first_before, first_behind, position-map}
use Rattle.sdb_exec.proofs.refuse.find_unlisted.Goals as goal

abbrev is_unlisted : List Name → Name → Bool
is_unlisted names key = not (list_any (λ n. same_name n key) names)

pub returns-in-Some : goal.returns-in-Some
returns-in-Some c =
    let t = c.args.table.now in
    let p = is_unlisted c.args.names.now in
    let found : position p t.partition ≡ Some c.in-Some.i = ap (position p) (sym c.as_slice-partition.ensures) ∙ sym c.find_unlisted_name.ensures ∙ c.in-Some.is in
    sym (first_before p t.partition (order_names t.clustering) c.in-Some.i found)

pub returns-in-Some-find_unlisted_order : goal.returns-in-Some-find_unlisted_order
returns-in-Some-find_unlisted_order c =
    let t = c.args.table.now in
    let p = is_unlisted c.args.names.now in
    let none : c.find_unlisted_name.result ≡ None = search rules in
    let before : position p t.partition ≡ None = ap (position p) (sym c.as_slice-partition.ensures) ∙ sym c.find_unlisted_name.ensures ∙ none in
    let found : position (λ o. p o.name) t.clustering ≡ Some c.in-Some-find_unlisted_order.i = ap (position (λ o. p o.name)) (sym c.as_slice.ensures) ∙ sym c.find_unlisted_order.ensures ∙ c.in-Some-find_unlisted_order.is in
    ap (λ l. Some (length l + c.in-Some-find_unlisted_order.i)) c.as_slice-partition.ensures
    ∙ sym (ap (option_map (λ i. length t.partition + i)) (position-map p (λ o. o.name) t.clustering ∙ found))
    ∙ sym (first_behind p t.partition (order_names t.clustering) before)

pub returns-in-None : goal.returns-in-None
returns-in-None c =
    let t = c.args.table.now in
    let p = is_unlisted c.args.names.now in
    let none : c.find_unlisted_name.result ≡ None = search rules in
    let before : position p t.partition ≡ None = ap (position p) (sym c.as_slice-partition.ensures) ∙ sym c.find_unlisted_name.ensures ∙ none in
    let found : position (λ o. p o.name) t.clustering ≡ None = ap (position (λ o. p o.name)) (sym c.as_slice.ensures) ∙ sym c.find_unlisted_order.ensures ∙ c.in-None.is in
    sym (ap (option_map (λ i. length t.partition + i)) (position-map p (λ o. o.name) t.clustering ∙ found))
    ∙ sym (first_behind p t.partition (order_names t.clustering) before)
