-- The prepares of a COMMIT put each write once.
use Rattle.std.proofs.Common.{◌≡◌, ◌<◌, ◌≤◌, ℕ, zero, suc, ◌+◌, ℤ, List, [], ◌∷◌, map, length, length-append, get_or, Some, Option, refl, sym, true, ap, subst, ◌∙◌, arith}
use Rattle.std.specs.Prelude.{slice_get, sum_by}
use Rattle.std.specs.Option.{option_map}
use Rattle.std.specs.List.{AllByRecursion}
use Rattle.std.proofs.lemmas.List.{length-map}
use Rattle.std.proofs.lemmas.List.Sums.{sum_by-cons}
use Rattle.std.proofs.lemmas.Option.{slice_get-get_or, slice_get-map}
use Rattle.sdb_phases.specs.Types.{Put, Reply, Request, TxId, Write}
use Rattle.sdb_types.specs.declared.record.Reply.TheVariants as reply
use Rattle.sdb_types.specs.Contents.{IsWellFormed, put_keys, sent}
use Rattle.sdb_types.specs.Order.{are_distinct, in_one_partition}
use Rattle.sdb_record.specs.Groups.{AreGroups, IsGroup, grouped, in_groups, keys_of_writes, ungrouped}
use Rattle.sdb_types.proofs.Public.{none_some, some_is}
use Rattle.sdb_record.specs.Rolls.{prepared_record}
use Rattle.sdb_record.proofs.Public.{each_once, forward-key, groups_few, in_groups_length, prepared-key, taken_more, taken_within}
use Rattle.sdb_phases.specs.Work.{Work, back_of, backs, forward_of, forwards, groups_of, prepare_of, prepares, prepares_of, writes_before}
use Rattle.sdb_phases.specs.Steps.{puts_from, puts_of, touched_after}
use Rattle.sdb_phases.specs.CommitLaws.{writes_of}

pub few_groups : (p : Work) → groups_of p ≤ writes_of p
few_groups p = groups_few p.writes

pub puts_sent : (ps : List Put) → puts_of (Some (sent ps)) ≡ length ps
puts_sent [] = refl
puts_sent (p ∷ []) = refl
puts_sent (p ∷ q ∷ ps) = refl

pub writes_within : (p : Work) (i : ℕ) → writes_before p i ≤ writes_of p
writes_within p i = subst (λ n. writes_before p i ≤ n) (in_groups_length p.writes) (taken_within (grouped p.writes) i)

puts_at : (p : Work) (o : Option (List Write)) → (g : List Write) → o ≡ Some g → puts_of (option_map (prepares_of p.id p.now) o) ≡ length g
puts_at p o g e = ap (λ x. puts_of (option_map (prepares_of p.id p.now) x)) e ∙ puts_sent (map (prepare_of p.id p.now) g) ∙ length-map g (prepare_of p.id p.now)

-- the writes of one group more
pub writes_more : (p : Work) (i : ℕ) → i < groups_of p → writes_before p i + puts_of (slice_get (prepares p) i) ≡ writes_before p (i + 1)
writes_more p i within =
    let g = get_or (grouped p.writes) i [] in
    let e = slice_get-get_or (grouped p.writes) i [] within in
    let count = ap puts_of (slice_get-map (prepares_of p.id p.now) (grouped p.writes) i) ∙ puts_at p (slice_get (grouped p.writes) i) g e in
    ap (λ n. writes_before p i + n) count ∙ taken_more (grouped p.writes) i g e

-- the writes that may have accepted effect are some of them
pub touched_within : (p : Work) (i : ℕ) (r : Reply) → i < groups_of p → touched_after (slice_get (prepares p) i) (writes_before p i) r ≤ writes_of p
touched_within p i reply.Applied h = subst (λ n. n ≤ writes_of p) (sym (writes_more p i h)) (writes_within p (i + 1))
touched_within p i reply.Fault h = subst (λ n. n ≤ writes_of p) (sym (writes_more p i h)) (writes_within p (i + 1))
touched_within p i (reply.NotMet found) h = writes_within p i
touched_within p i (reply.Found found) h = writes_within p i
touched_within p i (reply.Rows rows) h = writes_within p i
touched_within p i (reply.NotAll place there) h = writes_within p i
touched_within p i reply.NoMemory h = writes_within p i

-- each write has a roll back
pub backs_length : (p : Work) → length (backs p) ≡ writes_of p
backs_length p = length-map (in_groups p.writes) (back_of p.id) ∙ in_groups_length p.writes

pub puts_all : (id : TxId) (now : ℤ) (gs : List (List Write)) → sum_by (λ q. puts_of (Some q)) (map (prepares_of id now) gs) ≡ length (ungrouped gs)
puts_all id now [] = refl
puts_all id now (g ∷ gs) = omega (arith, sum_by-cons (λ q. puts_of (Some q)) (prepares_of id now g) (map (prepares_of id now) gs), puts_sent (map (prepare_of id now) g), length-map g (prepare_of id now), puts_all id now gs, length-append g (ungrouped gs))

next_place : (i : ℕ) → suc i + 1 ≡ suc (i + 1)
next_place i = omega arith

-- the prepares from one place on, and from the next
pub puts_next : (asks : List Request) (at : ℕ) → at < length asks → puts_from asks at ≡ puts_of (slice_get asks at) + puts_from asks (at + 1)
puts_next [] at within = absurd (omega (arith, within))
puts_next (q ∷ asks) zero within = sum_by-cons (λ x. puts_of (Some x)) q asks
puts_next (q ∷ asks) (suc at) within = subst (λ n. puts_from asks at ≡ puts_of (slice_get asks at) + puts_from (q ∷ asks) n) (sym (next_place at)) (puts_next asks at (omega (arith, within)))

---- well-formed calls

put_keys_of : (f : Write → Put) → ((w : Write) → (f w).rec.key ≡ w.key) → (ws : List Write) → put_keys (map f ws) ≡ keys_of_writes ws
put_keys_of f same [] = refl
put_keys_of f same (w ∷ ws) = λ i. same w i ∷ put_keys_of f same ws i

group_formed : (f : Write → Put) → ((w : Write) → (f w).rec.key ≡ w.key) → (g : List Write) → IsGroup g → are_distinct (keys_of_writes g) ≡ true → IsWellFormed (sent (map f g))
group_formed f same [] it once = absurd (omega (arith, it.some))
group_formed f same (w ∷ []) it once = tt
group_formed f same (v ∷ w ∷ ws) it once =
    let keys = put_keys_of f same (v ∷ w ∷ ws) in
    record {
      some = omega arith;
      few = omega (arith, it.few, length-map (v ∷ w ∷ ws) f);
      once = ap are_distinct keys ∙ once;
      one = ap in_one_partition keys ∙ it.one;
    }

each_formed : (f : Write → Put) → ((w : Write) → (f w).rec.key ≡ w.key) → (gs : List (List Write)) → AllByRecursion IsGroup gs → AllByRecursion (λ g. are_distinct (keys_of_writes g) ≡ true) gs → (i : ℕ) (q : Request) → slice_get (map (λ g. sent (map f g)) gs) i ≡ Some q → IsWellFormed q
each_formed f same [] each once i q e = none_some q e
each_formed f same (g ∷ gs) each once zero q e = subst IsWellFormed (some_is (sent (map f g)) q e) (group_formed f same g each.0 once.0)
each_formed f same (g ∷ gs) each once (suc i) q e = each_formed f same gs each.1 once.1 i q e

pub prepares_formed : (p : Work) → AreGroups (grouped p.writes) → (i : ℕ) (q : Request) → slice_get (prepares p) i ≡ Some q → IsWellFormed q
prepares_formed p are = each_formed (prepare_of p.id p.now) (λ w. prepared-key w p.id p.now) (grouped p.writes) are.each (each_once (grouped p.writes) are.once)

pub forwards_formed : (p : Work) → AreGroups (grouped p.writes) → (i : ℕ) (q : Request) → slice_get (forwards p) i ≡ Some q → IsWellFormed q
forwards_formed p are = each_formed (forward_of p.id p.now) (λ w. forward-key (prepared_record w p.id p.now) p.now ∙ prepared-key w p.id p.now) (grouped p.writes) are.each (each_once (grouped p.writes) are.once)
