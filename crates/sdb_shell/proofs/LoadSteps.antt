-- Rows that are loaded group by group.
use Rattle.std.proofs.Common.{◌≡◌, ◌<◌, ◌≤◌, ℕ, ◌+◌, min, List, [], ◌∷◌, ◌++◌, length, take, drop, refl, sym, ap, subst, ◌∙◌, append_assoc, length-append, arith}
use Rattle.std.specs.List.{AllByRecursion, flat_map}
use Rattle.std.proofs.lemmas.List.{append-nil, length-take, take-append-drop}
use Rattle.sdb_shell.specs.Types.{Table, Value}
use Rattle.sdb_stores.specs.Views.{Attached}
use Rattle.sdb_contents.specs.Board.{GoOn}
use Rattle.law_clients.specs.Session.{Exchange}
use Rattle.sdb_shell.proofs.Chains.{session_whole}
use Rattle.sdb_shell.specs.declared.group.Ending.{Ending}
use Rattle.sdb_shell.specs.declared.load.Load.{Load}
use Rattle.sdb_shell.specs.Ends.{Ends}
use Rattle.sdb_shell.specs.Groups.{AreGroups, Group, IsGroup}
use Rattle.sdb_shell.specs.Loads.{AreOfSize, IsLoad, IsLoadOutOfMemory, exchanges_of, group_line, group_lines, line_of, rows_of}
use Rattle.sdb_shell.specs.Turns.{HasLoaded, IsSoFar, Point, ends_between, group_of}
use Rattle.sdb_shell.proofs.Points.{over_before, session_before}
use Rattle.sdb_shell.proofs.SoFar.{flat_more}

---- lists with one more

-- each group has as many rows as a group has at most
abbrev AreFull : ℕ → List Group → Type 0
AreFull size gs = AllByRecursion (λ g. length g.rows ≡ size) gs

full_more : (size : ℕ) (gs : List Group) (g : Group) → AreFull size gs → length g.rows ≡ size → AreFull size (gs ++ g ∷ [])
full_more size [] g h k = (k, tt)
full_more size (x ∷ gs) g h k = (h.0, full_more size gs g h.1 k)

sizes_more : (size : ℕ) (gs : List Group) (g : Group) → AreFull size gs → 0 < length g.rows → length g.rows ≤ size → AreOfSize size (gs ++ g ∷ [])
sizes_more size [] g h some few = ((some, few), tt)
sizes_more size (x ∷ []) g h some few = (h.0, sizes_more size [] g tt some few)
sizes_more size (x ∷ y ∷ gs) g h some few = (h.0, sizes_more size (y ∷ gs) g h.1 some few)

groups_more : (load : Load) (before : List Exchange) (gs : List Group) (g : Group) → AreGroups load before gs → IsGroup load (before ++ exchanges_of gs) g → AreGroups load before (gs ++ g ∷ [])
groups_more load before [] g h k = (subst (λ es. IsGroup load es g) (append-nil before) k, tt)
groups_more load before (x ∷ gs) g h k = (h.0, groups_more load (before ++ x.exchanges) gs g h.1 (subst (λ es. IsGroup load es g) (sym (append_assoc before x.exchanges (exchanges_of gs))) k))

lines_more : (k : ℕ) (gs : List Group) (g : Group) → group_lines k (gs ++ g ∷ []) ≡ group_lines k gs ++ group_line (k + length gs) g
lines_more k [] g = append-nil (group_line k g) ∙ ap (λ n. group_line n g) (let e : k ≡ k + 0 = omega arith in e)
lines_more k (x ∷ gs) g =
    let e : (k + 1) + length gs ≡ k + length (x ∷ gs) = omega arith in
    ap (λ ls. group_line k x ++ ls) (lines_more (k + 1) gs g ∙ ap (λ n. group_lines (k + 1) gs ++ group_line n g) e)
    ∙ sym (append_assoc (group_line k x) (group_lines (k + 1) gs) (group_line (k + length (x ∷ gs)) g))

---- the groups so far

-- Some groups were loaded since a first point, and these rows are left.
pub record AreLoadedSoFar {S : Type 0} (state : S → Attached) (catalog : List Table) (load : Load) (rows : List (List Value)) (size : ℕ) (first p : Point S) (rest : List (List Value)) (k : ℕ) (out : List ℕ) : Type 0 where
  pub groups : List Group
  pub all : rows_of groups ++ rest ≡ rows
  pub sizes : AreOfSize size groups
  pub full : 0 < length rest → AreFull size groups
  pub each : AreGroups load [] groups
  pub lines : out ≡ group_lines 1 groups
  pub number : k ≡ length groups
  pub few : k + length rest ≤ length rows
  pub so : IsSoFar state catalog first p (exchanges_of groups)

pub so_start : {S : Type 0} (state : S → Attached) (catalog : List Table) (load : Load) (rows : List (List Value)) (size : ℕ) (first p : Point S) (out : List ℕ) → out ≡ [] → IsSoFar state catalog first p [] → AreLoadedSoFar state catalog load rows size first p rows 0 out
so_start state catalog load rows size first p out none so = record {
  groups = [];
  all = refl;
  sizes = tt;
  full = λ h. tt;
  each = tt;
  lines = none;
  number = refl;
  few = omega arith;
  so = so;
}

-- one group more
pub so_more : {S : Type 0} (state : S → Attached) (catalog : List Table) (load : Load) (rows : List (List Value)) (size : ℕ) (first p q : Point S) (rest group after : List (List Value)) (k : ℕ) (out out_then : List ℕ) (ending : Ending)
    → AreLoadedSoFar state catalog load rows size first p rest k out → 1 ≤ size → 0 < length rest → group ≡ take (min size (length rest)) rest → after ≡ drop (min size (length rest)) rest → HasLoaded state catalog load group p q ending
    → out_then ≡ out ++ line_of (k + 1) (length group) ending.written ending.answer → AreLoadedSoFar state catalog load rows size first q after (k + 1) out_then
so_more state catalog load rows size first p q rest group after k out out_then ending h one some is_group is_after loaded put =
    let l = loaded first (exchanges_of h.groups) h.so in
    let g : Group = group_of group ending l.es in
    let long : length group ≡ min (min size (length rest)) (length rest) = ap length is_group ∙ length-take (min size (length rest)) rest in
    let split : group ++ after ≡ rest = ap (λ xs. xs ++ after) is_group ∙ ap (λ xs. take (min size (length rest)) rest ++ xs) is_after ∙ take-append-drop (min size (length rest)) rest in
    let parts : length group + length after ≡ length rest = sym (length-append group after) ∙ ap length split in
    record {
      groups = h.groups ++ g ∷ [];
      all = ap (λ xs. xs ++ after) (flat_more (λ (x : Group). x.rows) h.groups g) ∙ append_assoc (rows_of h.groups) group after ∙ ap (λ xs. rows_of h.groups ++ xs) split ∙ h.all;
      sizes = sizes_more size h.groups g (h.full some) (omega (arith, long, one, some)) (omega (arith, long));
      full = λ left. full_more size h.groups g (h.full some) (omega (arith, long, parts, left));
      each = groups_more load [] h.groups g h.each l.is;
      lines = put ∙ ap (λ ls. ls ++ line_of (k + 1) (length group) ending.written ending.answer) h.lines ∙ ap (λ n. group_lines 1 h.groups ++ line_of n (length group) ending.written ending.answer) (let e : k + 1 ≡ 1 + length h.groups = omega (arith, h.number) in e) ∙ sym (lines_more 1 h.groups g);
      number = ap (λ n. n + 1) h.number ∙ sym (length-append h.groups (g ∷ []));
      few = omega (arith, h.few, parts, long, one, some);
      so = subst (IsSoFar state catalog first q) (sym (flat_more (λ (x : Group). x.exchanges) h.groups g)) l.so;
    }

-- memory ran out in the next group
pub starved_so_far : {S : Type 0} (state : S → Attached) (catalog : List Table) (load : Load) (rows : List (List Value)) (size : ℕ) (first p q : Point S) (rest : List (List Value)) (k : ℕ) (out : List ℕ) → AreLoadedSoFar state catalog load rows size first p rest k out → GoOn (state first.stores) (state p.stores) → GoOn (state p.stores) (state q.stores) → IsLoadOutOfMemory catalog load rows size (ends_between state first q)
starved_so_far state catalog load rows size first p q rest k out h before goes = record {
  groups = h.groups;
  rest = rest;
  all = h.all;
  sizes = h.sizes;
  each = h.each;
  session = session_before state catalog first p q (exchanges_of h.groups) h.so before goes;
}

-- memory ran out after all groups
pub starved_after : (catalog : List Table) (load : Load) (rows : List (List Value)) (size : ℕ) (e : Ends) (out : List ℕ) → IsLoad catalog load rows size e out → GoOn e.old e.new → IsLoadOutOfMemory catalog load rows size e
starved_after catalog load rows size e out h goes = record {
  groups = h.groups;
  rest = [];
  all = append-nil (rows_of h.groups) ∙ h.all;
  sizes = h.sizes;
  each = h.each;
  session = over_before catalog e e.new e.clock_then e.ids_then (exchanges_of h.groups) goes.places (omega arith) h.session;
}

-- all groups
pub loaded_all : {S : Type 0} (state : S → Attached) (catalog : List Table) (load : Load) (rows : List (List Value)) (size : ℕ) (first p : Point S) (rest : List (List Value)) (k : ℕ) (out : List ℕ) → AreLoadedSoFar state catalog load rows size first p rest k out → length rest ≡ 0 → IsLoad catalog load rows size (ends_between state first p) out
loaded_all state catalog load rows size first p rest k out h none = record {
  groups = h.groups;
  all = sym (append-nil (rows_of h.groups)) ∙ ap (λ xs. rows_of h.groups ++ xs) (sym (no_rows rest none)) ∙ h.all;
  sizes = h.sizes;
  each = h.each;
  lines = h.lines;
  session = session_whole catalog (state first.stores) (state p.stores) first.clock p.clock first.ids p.ids (exchanges_of h.groups) p.session h.so;
}
  where
    no_rows : (xs : List (List Value)) → length xs ≡ 0 → xs ≡ []
    no_rows [] e = refl
    no_rows (x ∷ xs) e = absurd (omega (arith, e))
