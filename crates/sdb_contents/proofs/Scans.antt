-- Scans change nothing, and show what is there.
use Rattle.std.proofs.Common.{◌≡◌, ◌==◌, inl, inr, ℕ, [], true, false, refl, sym, ap, subst, ◌∙◌, List}
use Rattle.std.specs.Prelude.{if◌then◌else◌}
use Rattle.sdb_contents.specs.Types.{Record, Reply, Request, Span, TableName}
use Rattle.sdb_types.specs.declared.record.Reply.TheVariants as reply
use Rattle.sdb_types.specs.declared.record.Request.TheVariants as ask
use Rattle.sdb_types.specs.Contents.{Contents, rows_in}
use Rattle.sdb_stores.specs.Views.{Attached, IsCallAt}
use Rattle.sdb_contents.specs.Writes.{Hold, IsScanned, MayHold, after_write, contents_at, contents_of, span_of, write_at}

scan_same : (i at : ℕ) (span : Span) (m : Contents) → after_write i (write_at at (ask.Scan span)) m ≡ m
scan_same i at span m = elim (at == i) as (λ b. (if b then m else m) ≡ m) [ true ↦ refl | false ↦ refl ]

pub held_scan : (at : ℕ) (q : Request) (span : Span) (old new : Attached) → q ≡ ask.Scan span → MayHold (write_at at q) old new → Hold [] old new
held_scan at q span old new same h = λ i t. elim (h i t) [
  | inl e ↦ e
  | inr e ↦ e ∙ ap (λ (x : Request). after_write i (write_at at x) (contents_at old.views i)) same ∙ scan_same i at span (contents_at old.views i)
]

rows_are : (a b : List Record) → reply.Rows a ≡ reply.Rows b → a ≡ b
rows_are a b e = cc

pub shown_rows : (at : ℕ) (q : Request) (r : Reply) (table : TableName) (rows : List Record) (old new : Attached) → q ≡ ask.Scan (span_of table) → r ≡ reply.Rows rows → IsCallAt at q r old new → IsScanned at table rows old
shown_rows at q r table rows old new asked is call =
    let c = subst (λ (x : Reply). IsCallAt at (ask.Scan (span_of table)) x old new) is (subst (λ (x : Request). IsCallAt at x r old new) asked call) in
    record {
      lawful = c.lawful;
      known = λ t. rows_are rows (rows_in (span_of table) (contents_at old.views at)) ((c.performed t).0 ∙ ap (λ (m : Contents). reply.Rows (rows_in (span_of table) m)) (sym (ap contents_of c.stood)));
    }
