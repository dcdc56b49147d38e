use Rattle.std.proofs.Common.{◌≡◌, ◌∙◌, ap, map, rules}
use Rattle.std.specs.FinMap.{get, get-empty}
use Rattle.std.specs.Map.Iter.{deref_pair}
use Rattle.std.proofs.lemmas.List.{map-append}
use Rattle.std.proofs.lemmas.Map.Iter.{iter_end}
use Rattle.sdb_types.specs.Order.{key_cmp}
use Rattle.sdb_hashed.specs.Put.{with_rows}
use Rattle.sdb_hashed.proofs.Spans.{gather_more, gathered_all}
use Rattle.sdb_hashed.proofs.parts.gather.Goals as goal

pub loop-rows-init : goal.loop-rows-init
loop-rows-init g c = λ q h. ap (λ m. get m q) c.new-all.ensures ∙ get-empty key_cmp q

pub loop-rows-preserved : goal.loop-rows-preserved
loop-rows-preserved g c =
    let f = g.R.Rows.contents in
    rw map-append
    (gather_more f c.args.span.now c.loop-rows.all c.add_rows.new.all (map deref_pair c.loop-rows.yielded) (c.in-Some.field-0-0.now, c.in-Some.rows.now) c.loop-rows.invariant
    (c.in_ok-add_rows.ensures ∙ ap (λ rs. with_rows rs c.loop-rows.all) c.in_ok-list.ensures))

pub returns : goal.returns
returns g c =
    let all : map deref_pair c.loop-rows.yielded ≡ c.args.parts.now.entries = search (rules, iter_end) in
    gathered_all g.R.Rows.contents c.args.span.now c.loop-rows.all (map deref_pair c.loop-rows.yielded) c.args.parts.now.entries all c.loop-rows.invariant
