use Rattle.std.proofs.Common.{◌≡◌, None, IfOk, map, List, sym, ap, subst, rules, ◌∙◌, true}
use Rattle.std.specs.BTreeMap.{get}
use Rattle.std.specs.FinMap.{entries, empty}
use Rattle.sdb_types.specs.declared.key.Key.{Key}
use Rattle.sdb_types.specs.Order.{key_cmp}
use Rattle.sdb_phases.specs.Checks.{base_of, with_reads, with_writes, wanted_of}
use Rattle.sdb_validate.specs.Rescan.{reads_rise, wanted_of_read}
use Rattle.sdb_validate.specs.Types.{Wanted}
use Rattle.sdb_validate.proofs.Ranges.{wished_same}
use Rattle.sdb_validate.proofs.Unwritten.{none_at, unwritten_wanted}
use Rattle.sdb_validate.proofs.checks.wanted.Goals as goal

pub returns-then-rise : goal.returns-then-rise
returns-then-rise c =
    let own = c.args.own.now in
    let scan = c.args.scan.now in
    let none : (q : Key) → base_of own q ≡ None = λ q. sym (c.requires q) ∙ none_at c.args.bases.now q (c.is_empty.ensures.0 c.if-is_empty.true) in
    let up : reads_rise scan.found ≡ true = ap reads_rise (sym c.as_slice-found.ensures) ∙ sym c.rise.ensures ∙ c.if-rise.true in
    subst (λ (ws : List Wanted). IfOk c.unchanged.result (λ wants. wants ≡ ws)) (ap (map wanted_of_read) c.as_slice-found.ensures ∙ unwritten_wanted own scan none up) c.unchanged.ensures

pub returns : goal.returns
returns c =
    let own = c.args.own.now in
    let scan = c.args.scan.now in
    let read : c.put_reads.new.wishes ≡ with_reads scan.found empty = search rules in
    let written : c.put_writes.new.wishes ≡ with_writes scan.span own c.put_reads.new.wishes = wished_same scan.span own c.put_reads.new.wishes c.put_writes.new.wishes (λ q. get key_cmp c.args.bases.now q) c.requires c.in_ok-put_writes.ensures in
    subst (λ (ws : List Wanted). IfOk c.list.result (λ wants. wants ≡ ws)) (ap (λ m. map wanted_of (entries m)) (written ∙ ap (with_writes scan.span own) read)) c.list.ensures
