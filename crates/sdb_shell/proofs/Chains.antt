-- A session so far, with one statement more.
use Rattle.std.proofs.Common.{arith, ◌+◌, cond, ◌≡◌, ◌≢◌, ℕ, ℤ, Bool, true, false, List, [], ◌∷◌, ◌++◌, Option, Some, None, refl, sym, ap, subst, ◌∙◌, ◌⊎◌, inl, inr, append_assoc}
use Rattle.std.proofs.lemmas.List.{append-nil}
use Rattle.std.proofs.lemmas.List.Sums.{sum_by_push}
use Rattle.std.specs.Prelude.{is_some, map, not, if◌then◌else◌}
use Rattle.std.specs.List.{AllByRecursion}
use Rattle.sdb_shell.specs.Types.{Answer, Table, TxId}
use Rattle.sdb_types.specs.Draws.{IsAppended}
use Rattle.sdb_types.proofs.Public.{map_last}
use Rattle.sdb_stores.specs.Views.{Attached, HaveRisen}
use Rattle.sdb_contents.specs.Board.{AreUsable, GoOn, contents_of_views}
use Rattle.sdb_client.specs.Client.{nothing_done}
use Rattle.law_clients.specs.Database.{Database}
use Rattle.law_clients.specs.Between.{Between}
use Rattle.law_clients.specs.Chain.{Chain, IsReached, open_after}
use Rattle.law_clients.specs.Session.{AreNewIds, AreAccepted, Exchange, IsNewId, IsAccepted, Part, Parts, begins, begun_ids, ends, faults_in, is_of_fault, no_parts, part_after, parts_of}
use Rattle.law_clients.specs.SessionTurns.{IsWellFormed}
use Rattle.law_clients.specs.Working.{is_open_after}
use Rattle.law_clients.proofs.Public.{between_more, chain_more, fresh_ids, own_at, parts_more, reached, session_serial}
use Rattle.sdb_shell.specs.Answering.{IsAlone, database_in, exchange}
use Rattle.sdb_shell.specs.Drawn.{drawn_id}
use Rattle.sdb_shell.specs.Sessions.{FaultsWithin, HasAnswered, IsNextId, IsSession, IsSessionSoFar, SessionAt, AreAppended}

---- what was given

pub tell_none : {X : Type 0} (old : Option (List X)) → AreAppended [] old old
tell_none None = tt
tell_none (Some old) = sym (append-nil old)

pub tell_one : {X : Type 0} (x : X) (old new : Option (List X)) → IsAppended x old new → AreAppended (x ∷ []) old new
tell_one x old None h = tt
tell_one x None (Some new) h = h
tell_one x (Some old) (Some new) h = h

pub tell_more : {X : Type 0} (xs : List X) (x : X) (a b c : Option (List X)) → AreAppended xs a b → IsAppended x b c → AreAppended (xs ++ x ∷ []) a c
tell_more xs x a b None h k = tt
tell_more xs x a None (Some c) h k = absurd k
tell_more xs x None (Some b) (Some c) h k = absurd h
tell_more xs x (Some a) (Some b) (Some c) h k = k ∙ ap (λ ys. ys ++ x ∷ []) h ∙ append_assoc a xs (x ∷ [])

---- lists with one more

nil_not : {X : Type 0} (front : List X) (x : X) (back : List X) → ◌≡◌ {A = List X} [] (front ++ x ∷ back) → ⊥
nil_not [] x back h = cc
nil_not (y ∷ front) x back h = cc

head_same : {X : Type 0} (x y : X) (xs ys : List X) → x ∷ xs ≡ y ∷ ys → x ≡ y
head_same x y xs ys h = cc

tail_same : {X : Type 0} (x y : X) (xs ys : List X) → x ∷ xs ≡ y ∷ ys → xs ≡ ys
tail_same x y xs ys h = cc

-- an item of a list with one more is of the list, or that one
split_more : {X : Type 0} (xs : List X) (x : X) (front : List X) (y : X) (back : List X) → xs ++ x ∷ [] ≡ front ++ y ∷ back → ((rest : List X) × (xs ≡ front ++ y ∷ rest)) ⊎ ((front ≡ xs) × (y ≡ x))
split_more [] x [] y back h = inr (refl, sym (head_same x y [] back h))
split_more [] x (z ∷ front) y back h = absurd (nil_not front y back (tail_same x z [] (front ++ y ∷ back) h))
split_more (w ∷ xs) x [] y back h = inl (xs, ap (λ v. v ∷ xs) (head_same w y (xs ++ x ∷ []) back h))
split_more (w ∷ xs) x (z ∷ front) y back h = by (split_more xs x front y back (tail_same w z (xs ++ x ∷ []) (front ++ y ∷ back) h))
  where
    first : w ≡ z
    first = head_same w z (xs ++ x ∷ []) (front ++ y ∷ back) h

    by : ((rest : List _) × (xs ≡ front ++ y ∷ rest)) ⊎ ((front ≡ xs) × (y ≡ x)) → ((rest : List _) × (w ∷ xs ≡ (z ∷ front) ++ y ∷ rest)) ⊎ ((z ∷ front ≡ w ∷ xs) × (y ≡ x))
    by (inl (rest, e)) = inl (rest, ap (λ v. v ∷ xs) first ∙ ap (λ vs. z ∷ vs) e)
    by (inr (e, f)) = inr (ap (λ v. v ∷ front) (sym first) ∙ ap (λ vs. w ∷ vs) e, f)

all_front : (P : TxId → Type 0) (xs : List TxId) (y : TxId) → AllByRecursion P (xs ++ y ∷ []) → AllByRecursion P xs × P y
all_front P [] y h = (tt, h.0)
all_front P (x ∷ xs) y h = let r = all_front P xs y h.1 in ((h.0, r.0), r.1)

new_front : (catalog : List Table) (o : Database) (xs : List TxId) (y : TxId) → AreNewIds catalog o (xs ++ y ∷ []) → AreNewIds catalog o xs
new_front catalog o [] y h = tt
new_front catalog o (x ∷ xs) y h = (h.0, (all_front (λ z. x ≢ z) xs y h.1).0, new_front catalog o xs y h.2)

new_last : (catalog : List Table) (o : Database) (xs : List TxId) (y : TxId) → AreNewIds catalog o (xs ++ y ∷ []) → IsNewId catalog o y × AllByRecursion (λ x. x ≢ y) xs
new_last catalog o [] y h = (h.0, tt)
new_last catalog o (x ∷ xs) y h = let r = new_last catalog o xs y h.2 in (r.0, ((all_front (λ z. x ≢ z) xs y h.1).1, r.1))

begun_more : (es : List Exchange) (e : Exchange) → begun_ids (es ++ e ∷ []) ≡ begun_ids es ++ (if begins e then e.id ∷ [] else [])
begun_more [] e = by (begins e)
  where
    by : (b : Bool) → (if b then e.id ∷ [] else []) ≡ [] ++ (if b then e.id ∷ [] else [])
    by true = refl
    by false = refl
begun_more (x ∷ es) e = by (begins x) (begun_more es e)
  where
    by : (b : Bool) → begun_ids (es ++ e ∷ []) ≡ begun_ids es ++ (if begins e then e.id ∷ [] else []) → (if b then x.id ∷ begun_ids (es ++ e ∷ []) else begun_ids (es ++ e ∷ [])) ≡ (if b then x.id ∷ begun_ids es else begun_ids es) ++ (if begins e then e.id ∷ [] else [])
    by true h = ap (λ ys. x.id ∷ ys) h
    by false h = h

open_one : (ts : List Part) (p : Option Part) (e : Exchange) → is_some (part_after ts p e).opened ≡ is_open_after (is_some p) e
open_one ts None e = by (begins e)
  where
    by : (b : Bool) → is_some {T = Part} (if b then Some (record { id = e.id; inside = []; last = None }) else None) ≡ b
    by true = refl
    by false = refl
open_one ts (Some t) e = by (ends e)
  where
    by : (b : Bool) → is_some (if◌then◌else◌ {A = Parts} b (record { ended = ts ++ record { id = t.id; inside = t.inside; last = Some e } ∷ []; opened = None }) (record { ended = ts; opened = Some (record { id = t.id; inside = t.inside ++ e ∷ []; last = None }) })).opened ≡ not b
    by true = refl
    by false = refl

---- the session

pub session_none : (catalog : List Table) (old : Attached) (clock : Option (List ℤ)) (ids ids_then : Option (List ℕ)) (number : ℕ) (draw : ℕ) → IsAppended draw ids ids_then → IsSessionSoFar catalog old old clock clock ids ids_then [] (record { client = nothing_done number; fresh = drawn_id draw })
session_none catalog old clock ids ids_then number draw is_known = record {
  moments = tell_none clock;
  drawn = [];
  spare = draw;
  draws = tell_one draw ids ids_then is_known;
  begun = refl;
  next_state = refl;
  accepted = λ front e back h. absurd (nil_not front e back h);
  faults = inl (omega arith);
  idle = record { free = refl; still = tt };
  opened = refl;
  about = record { txn = tt; vacuum = tt };
  fit = λ f. f;
  chain = λ f w n. (refl, record { free = refl; plan = refl; txn = tt });
}

module _ (catalog : List Table) (old mid new : Attached) (clock clock_mid clock_then : Option (List ℤ)) (ids ids_mid ids_then : Option (List ℕ)) (es : List Exchange) (s t : SessionAt) (text : List ℕ) (a : Answer) (so : IsSessionSoFar catalog old mid clock clock_mid ids ids_mid es s) (h : HasAnswered catalog text mid new clock_mid clock_then ids_mid ids_then s a t) (goes : GoOn mid new) where
  abbrev e : Exchange
  e = exchange h.answered.says h.now s.fresh a

  taken_more : AreAccepted catalog (es ++ e ∷ [])
  taken_more front y back f = by (split_more es e front y back f)
    where
      by : ((rest : List Exchange) × (es ≡ front ++ y ∷ rest)) ⊎ ((front ≡ es) × (y ≡ e)) → IsAccepted catalog (is_some (parts_of front).opened) y
      by (inl (rest, k)) = so.accepted front y rest k
      by (inr (k, l)) = subst (λ (x : Exchange). IsAccepted catalog (is_some (parts_of front).opened) x) (sym l) (subst (λ b. IsAccepted catalog b e) (so.opened ∙ ap (λ (xs : List Exchange). is_some (parts_of xs).opened) (sym k)) h.answered.ended.accepted)

  faults_more : FaultsWithin (faults_in (es ++ e ∷ [])) old.views new.views
  faults_more = by (is_of_fault a) refl h.answered.fault
    where
      count : (b : Bool) → is_of_fault a ≡ b → faults_in (es ++ e ∷ []) ≡ faults_in es + cond b 1 0
      count b k = sum_by_push (λ (x : Exchange). cond (is_of_fault x.answer) 1 0) es e ∙ ap (λ b. faults_in es + cond b 1 0) k

      by : (b : Bool) → is_of_fault a ≡ b → (b ≡ true → HaveRisen mid.views new.views) → FaultsWithin (faults_in (es ++ e ∷ [])) old.views new.views
      by true k rise = elim so.faults [
        | inl few ↦ elim (rise refl) [
          | inl rose ↦ inl (omega (arith, few, rose, count true k))
          | inr full ↦ inr full
        ]
        | inr full ↦ inr (goes.full full)
      ]
      by false k rise = elim so.faults [
        | inl few ↦ inl (omega (arith, few, goes.counted, count false k))
        | inr full ↦ inr (goes.full full)
      ]

  opened_more : is_some t.client.txn ≡ is_some (parts_of (es ++ e ∷ [])).opened
  opened_more = h.answered.ended.has_txn ∙ ap (λ b. is_open_after b e) so.opened ∙ sym (open_one (parts_of es).ended (parts_of es).opened e) ∙ ap (λ (p : Parts). is_some p.opened) (sym (parts_more es e))

  -- the ids so far are new
  new_so_far : AreNewIds catalog (database_in old) (map drawn_id (so.drawn ++ so.spare ∷ [])) → AreNewIds catalog (database_in old) (begun_ids es)
  new_so_far n = subst (AreNewIds catalog (database_in old)) (sym so.begun) (new_front catalog (database_in old) (map drawn_id so.drawn) (drawn_id so.spare) (subst (AreNewIds catalog (database_in old)) (map_last drawn_id so.drawn so.spare) n))

  chain_now : AreUsable catalog old → (w : IsWellFormed catalog (database_in old)) → AreNewIds catalog (database_in old) (map drawn_id (so.drawn ++ so.spare ∷ [])) → Chain catalog (database_in old) no_parts (es ++ e ∷ []) (database_in new) × Between catalog (database_in new) (open_after (es ++ e ∷ [])) t.client
  chain_now f w n =
      let before = so.chain f w n in
      let there : IsReached catalog (database_in old) (database_in mid) w.tables es = reached catalog w.apart (database_in old) w.tables w.sound w.are_images w.fit (new_so_far n) before.0 in
      let last = new_last catalog (database_in old) (map drawn_id so.drawn) (drawn_id so.spare) (subst (AreNewIds catalog (database_in old)) (map_last drawn_id so.drawn so.spare) n) in
      let alone : IsAlone catalog s.fresh h.now mid s.client = record {
        fit = so.fit f;
        about = so.about;
        well_formed = record { apart = w.apart; is = w.is; sound = there.sound; tables = _; are_images = there.are_images; fit = there.fit };
        time = h.time;
        opened = open_after es;
        between = before.1;
        new = there.unused s.fresh (subst (IsNewId catalog (database_in old)) (sym so.next_state) last.0) (subst (λ xs. AllByRecursion (λ x. x ≢ s.fresh) xs) (sym so.begun) (subst (λ y. AllByRecursion (λ x. x ≢ y) (map drawn_id so.drawn)) (sym so.next_state) last.1));
      } in
      let x = h.answered.alone alone in
      (chain_more catalog no_parts (database_in old) (database_in mid) (database_in new) es before.0 (own_at new.places (contents_of_views new.views)) x, between_more catalog (database_in mid) (database_in new) es e t.client x)

  pub session_more : IsSessionSoFar catalog old new clock clock_then ids ids_then (es ++ e ∷ []) t
  session_more = by (begins e) refl h.next_state
    where
      moments : AreAppended (map (λ (x : Exchange). x.moment) (es ++ e ∷ [])) clock clock_then
      moments = subst (λ xs. AreAppended xs clock clock_then) (sym (map_last (λ (x : Exchange). x.moment) es e)) (tell_more (map (λ (x : Exchange). x.moment) es) h.now clock clock_mid clock_then so.moments h.moment)

      by : (b : Bool) → begins e ≡ b → IsNextId b s.fresh t.fresh ids_mid ids_then → IsSessionSoFar catalog old new clock clock_then ids ids_then (es ++ e ∷ []) t
      by true k (draw, is_known, is) = record {
        moments = moments;
        drawn = so.drawn ++ so.spare ∷ [];
        spare = draw;
        draws = tell_more (so.drawn ++ so.spare ∷ []) draw ids ids_mid ids_then so.draws is_known;
        begun = begun_more es e ∙ ap (λ b. begun_ids es ++ (if b then s.fresh ∷ [] else [])) k ∙ ap (λ xs. xs ++ s.fresh ∷ []) so.begun ∙ ap (λ x. map drawn_id so.drawn ++ x ∷ []) so.next_state ∙ sym (map_last drawn_id so.drawn so.spare);
        next_state = is;
        accepted = taken_more;
        faults = faults_more;
        idle = h.answered.ended.idle;
        opened = opened_more;
        about = h.answered.about so.about;
        fit = λ f. goes.fit catalog (so.fit f);
        chain = λ f w n. chain_now f w (new_front catalog (database_in old) (map drawn_id (so.drawn ++ so.spare ∷ [])) (drawn_id draw) (subst (AreNewIds catalog (database_in old)) (map_last drawn_id (so.drawn ++ so.spare ∷ []) draw) n));
      }
      by false k (same, is) = record {
        moments = moments;
        drawn = so.drawn;
        spare = so.spare;
        draws = subst (AreAppended (so.drawn ++ so.spare ∷ []) ids) (sym same) so.draws;
        begun = begun_more es e ∙ ap (λ b. begun_ids es ++ (if b then s.fresh ∷ [] else [])) k ∙ append-nil (begun_ids es) ∙ so.begun;
        next_state = is ∙ so.next_state;
        accepted = taken_more;
        faults = faults_more;
        idle = h.answered.ended.idle;
        opened = opened_more;
        about = h.answered.about so.about;
        fit = λ f. goes.fit catalog (so.fit f);
        chain = λ f w n. chain_now f w n;
      }

-- what a session comes to
pub session_whole : (catalog : List Table) (old new : Attached) (clock clock_then : Option (List ℤ)) (ids ids_then : Option (List ℕ)) (es : List Exchange) (s : SessionAt) → IsSessionSoFar catalog old new clock clock_then ids ids_then es s → IsSession catalog old new clock clock_then ids ids_then es
session_whole catalog old new clock clock_then ids ids_then es s so = record {
  moments = so.moments;
  drawn = so.drawn;
  spare = so.spare;
  draws = so.draws;
  begun = so.begun;
  accepted = so.accepted;
  faults = so.faults;
  serial = λ f w n. session_serial catalog w.apart (database_in old) w.tables w.sound w.are_images w.fit
      (fresh_ids catalog w.apart (database_in old) w.tables es (subst (AreNewIds catalog (database_in old)) (sym so.begun) (new_front catalog (database_in old) (map drawn_id so.drawn) (drawn_id so.spare) (subst (AreNewIds catalog (database_in old)) (map_last drawn_id so.drawn so.spare) n)))) (so.chain f w n).0;
}
