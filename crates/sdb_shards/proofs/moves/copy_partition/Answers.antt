use Rattle.std.proofs.Common.{ap, ◌∙◌}
use Rattle.sdb_types.specs.Contents.{in_span, rows_in}
use Rattle.sdb_shards.specs.Boxes.{contents_at, held_at}
use Rattle.sdb_shards.proofs.Copies.{blocked_along, copy_whole, free_along, held_same, taken_out, then_copied}
use Rattle.sdb_shards.proofs.Risen.{grown_then, passed}
use Rattle.sdb_shards.proofs.moves.copy_partition.Goals as goal

pub returns-in_err-rows-clause-changes : goal.returns-in_err-rows-clause-changes
returns-in_err-rows-clause-changes c = held_same (in_span c.args.span.now) c.args.to c.args.boxes.now c.rows_at.new.boxes c.rows_at.ensures.held c.rows_at.ensures.grown

pub returns-in_err-there-clause-changes : goal.returns-in_err-there-clause-changes
returns-in_err-there-clause-changes c = held_same (in_span c.args.span.now) c.args.to c.args.boxes.now c.rows_at-2.new.boxes (c.rows_at-2.ensures.held ∙ c.rows_at.ensures.held) (grown_then c.args.boxes.now c.rows_at.new.boxes c.rows_at-2.new.boxes c.rows_at.ensures.grown c.rows_at-2.ensures.grown)

pub returns-in_err-check_free-clause-changes : goal.returns-in_err-check_free-clause-changes
returns-in_err-check_free-clause-changes c = held_same (in_span c.args.span.now) c.args.to c.args.boxes.now c.rows_at-2.new.boxes (c.rows_at-2.ensures.held ∙ c.rows_at.ensures.held) (grown_then c.args.boxes.now c.rows_at.new.boxes c.rows_at-2.new.boxes c.rows_at.ensures.grown c.rows_at-2.ensures.grown)

pub returns-in_err-check_free-clause-err : goal.returns-in_err-check_free-clause-err
returns-in_err-check_free-clause-err c =
    passed _ c.from_residual-in_err-check_free.result c.in_err-check_free.field-0.0 c.from_residual-in_err-check_free.ensures.1
    (blocked_along c.as_slice-2.result.now c.as_slice.result.now (rows_in c.args.span.now (contents_at c.args.boxes.now c.args.from)) (rows_in c.args.span.now (contents_at c.args.boxes.now c.args.to)) c.args.boxes.now c.rows_at-2.new.boxes c.in_err-check_free.field-0.0
    (c.as_slice-2.ensures ∙ c.in_ok-rows.ensures.rows) (c.as_slice.ensures ∙ c.in_ok-there.ensures.rows ∙ ap (λ ms. rows_in c.args.span.now (held_at ms c.args.to)) c.rows_at.ensures.held) c.in_err-check_free.ensures.err)

pub returns-in_err-clear-clause-changes : goal.returns-in_err-clear-clause-changes
returns-in_err-clear-clause-changes c =
    taken_out c.args.span.now c.args.to c.args.boxes.now c.rows_at-2.new.boxes c.clear.new.boxes c.as_slice-3.result.now (contents_at c.args.boxes.now c.args.to) (c.rows_at-2.ensures.held ∙ c.rows_at.ensures.held)
    (grown_then c.args.boxes.now c.rows_at.new.boxes c.rows_at-2.new.boxes c.rows_at.ensures.grown c.rows_at-2.ensures.grown)
    (c.as_slice-3.ensures ∙ c.in_ok-there.ensures.rows ∙ ap (λ ms. rows_in c.args.span.now (held_at ms c.args.to)) c.rows_at.ensures.held) c.clear.ensures.changes

pub returns-in_err-copy-clause-changes : goal.returns-in_err-copy-clause-changes
returns-in_err-copy-clause-changes c =
    then_copied c.args.span.now c.args.to c.args.boxes.now c.clear.new.boxes c.copy.new.boxes c.as_slice-4.result.now (contents_at c.args.boxes.now c.args.from)
    (taken_out c.args.span.now c.args.to c.args.boxes.now c.rows_at-2.new.boxes c.clear.new.boxes c.as_slice-3.result.now (contents_at c.args.boxes.now c.args.to) (c.rows_at-2.ensures.held ∙ c.rows_at.ensures.held)
    (grown_then c.args.boxes.now c.rows_at.new.boxes c.rows_at-2.new.boxes c.rows_at.ensures.grown c.rows_at-2.ensures.grown)
    (c.as_slice-3.ensures ∙ c.in_ok-there.ensures.rows ∙ ap (λ ms. rows_in c.args.span.now (held_at ms c.args.to)) c.rows_at.ensures.held) c.clear.ensures.changes)
    (c.as_slice-4.ensures ∙ c.in_ok-rows.ensures.rows) c.copy.ensures.changes

pub returns-clause-changes : goal.returns-clause-changes
returns-clause-changes c =
    then_copied c.args.span.now c.args.to c.args.boxes.now c.clear.new.boxes c.copy.new.boxes c.as_slice-4.result.now (contents_at c.args.boxes.now c.args.from)
    (taken_out c.args.span.now c.args.to c.args.boxes.now c.rows_at-2.new.boxes c.clear.new.boxes c.as_slice-3.result.now (contents_at c.args.boxes.now c.args.to) (c.rows_at-2.ensures.held ∙ c.rows_at.ensures.held)
    (grown_then c.args.boxes.now c.rows_at.new.boxes c.rows_at-2.new.boxes c.rows_at.ensures.grown c.rows_at-2.ensures.grown)
    (c.as_slice-3.ensures ∙ c.in_ok-there.ensures.rows ∙ ap (λ ms. rows_in c.args.span.now (held_at ms c.args.to)) c.rows_at.ensures.held) c.clear.ensures.changes)
    (c.as_slice-4.ensures ∙ c.in_ok-rows.ensures.rows) c.copy.ensures.changes

pub returns-clause-copied : goal.returns-clause-copied
returns-clause-copied c =
    copy_whole c.args.span.now c.args.from c.args.to c.args.boxes.now c.rows_at-2.new.boxes c.clear.new.boxes c.copy.new.boxes c.as_slice-4.result.now c.as_slice-3.result.now (c.rows_at-2.ensures.held ∙ c.rows_at.ensures.held)
    (c.as_slice-4.ensures ∙ c.in_ok-rows.ensures.rows) (c.as_slice-3.ensures ∙ c.in_ok-there.ensures.rows ∙ ap (λ ms. rows_in c.args.span.now (held_at ms c.args.to)) c.rows_at.ensures.held)
    (free_along c.as_slice-2.result.now c.as_slice.result.now (rows_in c.args.span.now (contents_at c.args.boxes.now c.args.from)) (rows_in c.args.span.now (contents_at c.args.boxes.now c.args.to)) (c.as_slice-2.ensures ∙ c.in_ok-rows.ensures.rows)
    (c.as_slice.ensures ∙ c.in_ok-there.ensures.rows ∙ ap (λ ms. rows_in c.args.span.now (held_at ms c.args.to)) c.rows_at.ensures.held) c.in_ok-check_free.ensures.free)
    c.clear.ensures.shrinks c.in_ok-clear.ensures.gone c.copy.ensures.changes c.in_ok-copy.ensures.copied

pub returns-clause-free : goal.returns-clause-free
returns-clause-free c =
    free_along c.as_slice-2.result.now c.as_slice.result.now (rows_in c.args.span.now (contents_at c.args.boxes.now c.args.from)) (rows_in c.args.span.now (contents_at c.args.boxes.now c.args.to)) (c.as_slice-2.ensures ∙ c.in_ok-rows.ensures.rows)
    (c.as_slice.ensures ∙ c.in_ok-there.ensures.rows ∙ ap (λ ms. rows_in c.args.span.now (held_at ms c.args.to)) c.rows_at.ensures.held) c.in_ok-check_free.ensures.free
