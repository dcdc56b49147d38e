-- The prepares that were applied are the first calls, and what they left.
use Rattle.std.proofs.Common.{◌≡◌, ℕ, zero, suc, ◌+◌, ℤ, List, [], ◌∷◌, ◌++◌, length, take, map, Some, refl, sym, ap, ◌∙◌, subst, arith, append_assoc}
use Rattle.std.specs.Prelude.{slice_get}
use Rattle.std.proofs.lemmas.List.{append-nil, take_all}
use Rattle.law_answers.specs.Types.{Reply, Request, TxId, Write}
use Rattle.sdb_types.specs.declared.record.Reply.TheVariants as reply
use Rattle.sdb_record.specs.Groups.{grouped, ungrouped}
use Rattle.sdb_record.proofs.Public.{in_groups_length}
use Rattle.sdb_phases.specs.Work.{Work, groups_of, prepares, prepares_of, writes_before}
use Rattle.sdb_phases.specs.CommitLaws.{writes_of}
use Rattle.law_answers.specs.Paths.{Call, touched, touched_by, Begins, BeginsSo}
use Rattle.sdb_types.proofs.Public.{some_is}

abbrev pub applied : Request → Call
applied q = record { request = q; reply = reply.Applied }

-- whatever is called then, so many of the writes may have accepted effect: those of the first groups
pub record Touches (p : Work) (calls : List Call) (n : ℕ) : Type 0 where
  pub groups : ℕ
  pub writes : writes_before p groups ≡ n
  pub done : (more : List Call) → touched (grouped p.writes) (calls ++ more) ≡ take groups (grouped p.writes)
  pub begins : (more : List Call) → Begins p (calls ++ more)

pub touches_more : (p : Work) (calls : List Call) (n : ℕ) (c : Call) → Touches p calls n → Touches p (calls ++ c ∷ []) n
touches_more p calls n c t = record {
  groups = t.groups;
  writes = t.writes;
  done = λ more. ap (touched (grouped p.writes)) (append_assoc calls (c ∷ []) more) ∙ t.done (c ∷ more);
  begins = λ more. subst (Begins p) (sym (append_assoc calls (c ∷ []) more)) (t.begins (c ∷ more));
}

pub begins_here : (p : Work) (calls : List Call) (n : ℕ) → Touches p calls n → Begins p calls
begins_here p calls n t = subst (Begins p) (append-nil calls) (t.begins [])

pub groups_here : (p : Work) (calls : List Call) (n : ℕ) (t : Touches p calls n) → touched (grouped p.writes) calls ≡ take t.groups (grouped p.writes)
groups_here p calls n t = ap (touched (grouped p.writes)) (sym (append-nil calls)) ∙ t.done []

---- all of them

touched_all : (id : TxId) (now : ℤ) (gs : List (List Write)) (more : List Call) → touched gs (map applied (map (prepares_of id now) gs) ++ more) ≡ gs
touched_all id now [] more = refl
touched_all id now (g ∷ gs) more = ap (λ r. g ∷ r) (touched_all id now gs more)

begins_all : (id : TxId) (now : ℤ) (gs : List (List Write)) (more : List Call) → BeginsSo id now gs (map applied (map (prepares_of id now) gs) ++ more)
begins_all id now [] more = tt
begins_all id now (g ∷ gs) more = (refl, λ e. begins_all id now gs more)

-- the first so many groups, where there are no more, have all writes
writes_all : (p : Work) → writes_before p (groups_of p) ≡ writes_of p
writes_all p = ap (λ gs. length (ungrouped gs)) (take_all (groups_of p) (grouped p.writes) (omega arith)) ∙ in_groups_length p.writes

pub touches_all : (p : Work) (calls more : List Call) → calls ≡ map applied (prepares p) ++ more → Touches p calls (writes_of p)
touches_all p calls more e = record {
  groups = groups_of p;
  writes = writes_all p;
  done = λ rest. ap (λ cs. touched (grouped p.writes) (cs ++ rest)) e ∙ ap (touched (grouped p.writes)) (append_assoc (map applied (prepares p)) more rest) ∙ touched_all p.id p.now (grouped p.writes) (more ++ rest) ∙ sym (take_all (groups_of p) (grouped p.writes) (omega arith));
  begins = λ rest. subst (λ cs. Begins p (cs ++ rest)) (sym e) (subst (Begins p) (sym (append_assoc (map applied (prepares p)) more rest)) (begins_all p.id p.now (grouped p.writes) (more ++ rest)));
}

---- up to one that wasn't applied

-- its reply ends them, with or without its group
touched_at : (id : TxId) (now : ℤ) (gs : List (List Write)) (i : ℕ) (g : List Write) (r : Reply) (tail : List (List Write)) (more : List Call) → slice_get gs i ≡ Some g → ((rest : List (List Write)) → touched_by g r rest ≡ tail)
    → touched gs (map applied (take i (map (prepares_of id now) gs)) ++ record { request = prepares_of id now g; reply = r } ∷ more) ≡ take i gs ++ tail
touched_at id now [] i g r tail more h ends = absurd (cc)
touched_at id now (v ∷ gs) zero g r tail more h ends = ap (λ x. touched_by x r (touched gs more)) (some_is v g h) ∙ ends (touched gs more)
touched_at id now (v ∷ gs) (suc i) g r tail more h ends = ap (λ rest. v ∷ rest) (touched_at id now gs i g r tail more h ends)

begins_at : (id : TxId) (now : ℤ) (gs : List (List Write)) (i : ℕ) (g : List Write) (r : Reply) (more : List Call) → slice_get gs i ≡ Some g → (r ≡ reply.Applied → ⊥)
    → BeginsSo id now gs (map applied (take i (map (prepares_of id now) gs)) ++ record { request = prepares_of id now g; reply = r } ∷ more)
begins_at id now [] i g r more h not = tt
begins_at id now (v ∷ gs) zero g r more h not = (ap (prepares_of id now) (sym (some_is v g h)), λ e. absurd (not e))
begins_at id now (v ∷ gs) (suc i) g r more h not = (refl, λ e. begins_at id now gs i g r more h not)

take_one : {A : Type 0} (xs : List A) (i : ℕ) (x : A) → slice_get xs i ≡ Some x → take i xs ++ x ∷ [] ≡ take (suc i) xs
take_one [] i x h = absurd (cc)
take_one (y ∷ xs) zero x h = ap (λ z. z ∷ []) (sym (some_is y x h))
take_one (y ∷ xs) (suc i) x h = ap (λ r. y ∷ r) (take_one xs i x h)

one_more : (i : ℕ) → suc i ≡ i + 1
one_more i = omega arith

-- the call of a prepare
abbrev prepare_call : Work → List Write → Reply → Call
prepare_call p g r = record { request = prepares_of p.id p.now g; reply = r }

-- a prepare that faulted may have accepted effect
pub touches_fault : (p : Work) (calls : List Call) (i : ℕ) (g : List Write) → calls ≡ map applied (take i (prepares p)) → slice_get (grouped p.writes) i ≡ Some g
    → Touches p (calls ++ record { request = prepares_of p.id p.now g; reply = reply.Fault } ∷ []) (writes_before p (i + 1))
touches_fault p calls i g e h = record {
  groups = i + 1;
  writes = refl;
  done = λ more. ap (λ cs. touched (grouped p.writes) ((cs ++ prepare_call p g reply.Fault ∷ []) ++ more)) e ∙ ap (touched (grouped p.writes)) (append_assoc (map applied (take i (prepares p))) (prepare_call p g reply.Fault ∷ []) more)
      ∙ touched_at p.id p.now (grouped p.writes) i g reply.Fault (g ∷ []) more h (λ rest. refl) ∙ take_one (grouped p.writes) i g h ∙ ap (λ n. take n (grouped p.writes)) (one_more i);
  begins = λ more. subst (λ cs. Begins p ((cs ++ prepare_call p g reply.Fault ∷ []) ++ more)) (sym e) (subst (Begins p) (sym (append_assoc (map applied (take i (prepares p))) (prepare_call p g reply.Fault ∷ []) more)) (begins_at p.id p.now (grouped p.writes) i g reply.Fault more h (λ f. cc)));
}

-- one that wasn't met, or was out of memory, has not
pub touches_stop : (p : Work) (calls : List Call) (i : ℕ) (g : List Write) (r : Reply) → calls ≡ map applied (take i (prepares p)) → slice_get (grouped p.writes) i ≡ Some g → ((rest : List (List Write)) → touched_by g r rest ≡ []) → (r ≡ reply.Applied → ⊥)
    → Touches p (calls ++ record { request = prepares_of p.id p.now g; reply = r } ∷ []) (writes_before p i)
touches_stop p calls i g r e h ends not = record {
  groups = i;
  writes = refl;
  done = λ more. ap (λ cs. touched (grouped p.writes) ((cs ++ prepare_call p g r ∷ []) ++ more)) e ∙ ap (touched (grouped p.writes)) (append_assoc (map applied (take i (prepares p))) (prepare_call p g r ∷ []) more)
      ∙ touched_at p.id p.now (grouped p.writes) i g r [] more h ends ∙ append-nil (take i (grouped p.writes));
  begins = λ more. subst (λ cs. Begins p ((cs ++ prepare_call p g r ∷ []) ++ more)) (sym e) (subst (Begins p) (sym (append_assoc (map applied (take i (prepares p))) (prepare_call p g r ∷ []) more)) (begins_at p.id p.now (grouped p.writes) i g r more h not));
}

-- before any prepare that wasn't applied, the calls begin with them
pub begins_front : (id : TxId) (now : ℤ) (gs : List (List Write)) (i : ℕ) → BeginsSo id now gs (map applied (take i (map (prepares_of id now) gs)))
begins_front id now [] zero = tt
begins_front id now [] (suc i) = tt
begins_front id now (g ∷ gs) zero = tt
begins_front id now (g ∷ gs) (suc i) = (refl, λ e. begins_front id now gs i)
