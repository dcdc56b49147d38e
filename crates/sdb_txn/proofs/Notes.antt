-- What was noted after a mark may be forgotten.
use Rattle.std.proofs.Common.{◌≡◌, sym, subst, ap, ◌∙◌, take}
use Rattle.sdb_snapshot.specs.declared.snapshot.Mark.{Mark}
use Rattle.sdb_snapshot.specs.Sets.{IsSetInvariant}
use Rattle.sdb_snapshot.specs.Seen.{Seen, forgotten, mark_of}

pub kept_cut : (s x : Seen) (m : Mark) → m ≡ mark_of s → forgotten (mark_of s) x ≡ s → IsSetInvariant s.read_set s.writes → IsSetInvariant (take m.read_set x.read_set) x.writes
kept_cut s x m e f kept = subst (λ (n : Mark). IsSetInvariant (take n.read_set x.read_set) x.writes) (sym e) (subst (λ (y : Seen). IsSetInvariant y.read_set y.writes) (sym f) kept)

pub cut_is : (s x y : Seen) (m : Mark) → m ≡ mark_of s → forgotten (mark_of s) x ≡ s → y ≡ forgotten m x → y ≡ s
cut_is s x y m e f g = g ∙ ap (λ (n : Mark). forgotten n x) e ∙ f
