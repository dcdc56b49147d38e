-- A read knows of each image that a read of its key came to it, whatever it resolves on its way.
use Rattle.std.proofs.Common.{◌≡◌, ℕ, ℤ, true, false, List, [], ◌∷◌, ◌++◌, Option, Some, None, refl, sym, ap, subst, ◌∙◌, inl, inr}
use Rattle.std.specs.Prelude.{if◌then◌else◌}
use Rattle.std.specs.List.{AllByRecursion, list_all}
use Rattle.std.specs.Ordering.{is_eq}
use Rattle.std.specs.declared.cmp.Ordering.TheVariants.{Less}
use Rattle.std.specs.Cmp.{tied_itself}
use Rattle.std.proofs.lemmas.List.{append_assoc, append-nil, map-append}
use Rattle.law_clients.specs.Types.{Access, Answer, How, Key, Meta, Record, RecoverPhase, RecoverStep, Reply, Request, Span}
use Rattle.sdb_types.specs.declared.record.Reply.TheVariants as reply
use Rattle.sdb_types.specs.declared.record.Request.TheVariants as ask
use Rattle.sdb_types.specs.Order.{key_cmp, same_key}
use Rattle.sdb_types.specs.Contents.{CanAnswer, in_span, rise, starts_after, record_among}
use Rattle.sdb_types.proofs.Public.{all_each as each_any, and_first, and_second, key_total, less_of, same_key_is, same_key_self, same_key_turned}
use Rattle.sdb_record.specs.declared.access.Access.TheVariants as access
use Rattle.sdb_record.specs.declared.coordinator.Decision.TheVariants as decision
use Rattle.sdb_record.specs.Meta.{is_moment}
use Rattle.sdb_model.specs.Access.{in_access}
use Rattle.sdb_model.specs.declared.event.Event.TheVariants as event
use Rattle.sdb_model.specs.Rows.{Name}
use Rattle.law_protocol.specs.Lawful.{Labelled, IsObserved, IsPreparedObserved, IsSettled, Itself, Forward, Back, labelled_with}
use Rattle.sdb_phases.specs.declared.step.RecoverStep.TheVariants as steps
use Rattle.sdb_phases.specs.Recover.{recover_next, recover_request_at}
use Rattle.law_clients.specs.Reader.{RecoverOk, recover_action}
use Rattle.law_clients.specs.ReadAt.{IsKind, ReadAt, Asking, Resolving, Done, Failed, read_pending, read_action, read_step, settle, settle_one, settle_reply, after_recovery, IsImage, IsLeft, IsOfData, Rise, AreInOrder, keys_of, ReadOk}
use Rattle.law_clients.proofs.Kept.{row_later}
use Rattle.law_clients.proofs.Lists.{each_both, each_drop, each_more, each_unmap}
use Rattle.law_clients.proofs.Meta.{meta_of}
use Rattle.law_clients.proofs.Reading.{IsImageOf, phase_kept, image_settled}
use Rattle.sdb_txn.specs.Read.{request_of, Kind, Firm, Open, Bad}
use Rattle.sdb_model.specs.Tables.{is_data}
use Rattle.law_clients.proofs.Machine.{kind_is}
use Rattle.sdb_txn.specs.Read.{kind_of}

---- what stays

held_later : (past : List Labelled) (q : Labelled) (t : ℕ) (k : Key) (r : Record) → IsPreparedObserved past t k r → IsPreparedObserved (q ∷ past) t k r
held_later past q t k r h = record { observed = inr h.observed; key = h.key; held = h.held; writer = h.writer }

pub settled_later : (past : List Labelled) (q : Labelled) (k : Key) (b : Record) → IsSettled past k b → IsSettled (q ∷ past) k b
settled_later past q k b (Itself observed key firm) = Itself (inr observed) key firm
settled_later past q k b (Forward t r moment held row same) = Forward t r moment (held_later past q t k r held) (row_later q past t decision.Committed moment row) same
settled_later past q k b (Back t r held same) = Back t r (held_later past q t k r held) same

pub image_later : (past : List Labelled) (q : Labelled) (b : Record) → IsImage past b → IsImage (q ∷ past) b
image_later past q b i = (settled_later past q b.key b i.0, i.1, i.2)

pub images_later : (past : List Labelled) (q : Labelled) (images : List Record) → AllByRecursion (IsImage past) images → AllByRecursion (IsImage (q ∷ past)) images
images_later past q images all = each_any (IsImage past) (IsImage (q ∷ past)) images (λ b i. image_later past q b i) all

pub left_later : (past : List Labelled) (q : Labelled) (left : List Record) → AllByRecursion (IsLeft past) left → AllByRecursion (IsLeft (q ∷ past)) left
left_later past q left all = each_any (IsLeft past) (IsLeft (q ∷ past)) left (λ x s. (inr s.0, s.1)) all

---- keys that rise

-- all rows after a key have greater ones
behind : (k : Key) (rs : List Record) → starts_after k rs ≡ true → rise rs ≡ true → AllByRecursion (λ q. key_cmp k q ≡ Less) (keys_of rs)
behind k [] s h = tt
behind k (r ∷ rs) s h =
    let less = less_of (key_cmp k r.key) s in
    (less, each_any (λ q. key_cmp r.key q ≡ Less) (λ q. key_cmp k q ≡ Less) (keys_of rs) (λ q l. key_total.trans k r.key q less l) (behind r.key rs (and_first (starts_after r.key rs) (rise rs) h) (and_second (starts_after r.key rs) (rise rs) h)))

pub rise_is : (rs : List Record) → rise rs ≡ true → Rise (keys_of rs)
rise_is [] h = tt
rise_is (r ∷ rs) h = let later = and_second (starts_after r.key rs) (rise rs) h in (behind r.key rs (and_first (starts_after r.key rs) (rise rs) h) later, rise_is rs later)

rise_drop : (xs : List Key) (k : Key) (ys : List Key) → Rise (xs ++ k ∷ ys) → Rise (xs ++ ys)
rise_drop [] k ys h = h.1
rise_drop (x ∷ xs) k ys h = (each_drop (λ q. key_cmp x q ≡ Less) xs k ys h.0, rise_drop xs k ys h.1)

place_drop : (a : Access) (xs : List Key) (k : Key) (ys : List Key) → AreInOrder a (xs ++ k ∷ ys) → AreInOrder a (xs ++ ys)
place_drop a xs k ys h = (rise_drop xs k ys h.0, each_drop (λ q. in_access a q ≡ true) xs k ys h.1)

-- one image more, and the keys are the same
keys_more : (images : List Record) (b : Record) (ks : List Key) → keys_of images ++ b.key ∷ ks ≡ keys_of (images ++ b ∷ []) ++ ks
keys_more images b ks = sym (append_assoc (keys_of images) (b.key ∷ []) ks) ∙ ap (λ xs. xs ++ ks) (sym (map-append (λ (r : Record). r.key) images (b ∷ [])))

place_more : (a : Access) (images : List Record) (b : Record) (k : Key) (ks : List Key) → b.key ≡ k → AreInOrder a (keys_of images ++ k ∷ ks) → AreInOrder a (keys_of (images ++ b ∷ []) ++ ks)
place_more a images b k ks e h = subst (AreInOrder a) (ap (λ q. keys_of images ++ q ∷ ks) (sym e) ∙ keys_more images b ks) h

pub differ_of : (k q : Key) → key_cmp k q ≡ Less → same_key q k ≡ false
differ_of k q l = same_key_turned q k ∙ same_key_is k q ∙ ap is_eq l

-- each of rows that rise is found by its key
pub found_each : (rs : List Record) → Rise (keys_of rs) → AllByRecursion (λ x. record_among rs x.key ≡ Some x) rs
found_each [] h = tt
found_each (r ∷ rs) h = (
  ap (λ b. if b then Some r else record_among rs r.key) (same_key_self r.key),
  each_both (λ x. record_among rs x.key ≡ Some x) (λ x. key_cmp r.key x.key ≡ Less) (λ x. record_among (r ∷ rs) x.key ≡ Some x) rs
      (λ x f l. ap (λ b. if b then Some r else record_among rs x.key) (differ_of r.key x.key l) ∙ f)
      (found_each rs h.1) (each_unmap (λ q. key_cmp r.key q ≡ Less) (λ (x : Record). x.key) rs h.0),
)

pub inside_each : (span : Span) (rs : List Record) → list_all (λ r. in_span span r.key) rs ≡ true → AllByRecursion (λ k. in_span span k ≡ true) (keys_of rs)
inside_each span [] h = tt
inside_each span (r ∷ rs) h = (and_first (in_span span r.key) (list_all (λ x. in_span span x.key) rs) h, inside_each span rs (and_second (in_span span r.key) (list_all (λ x. in_span span x.key) rs) h))

---- rows are settled

pub settle_ok : (past : List Labelled) (a : Access) (images left : List Record) → AllByRecursion (IsImage past) images → AllByRecursion (IsLeft past) left → AreInOrder a (keys_of images ++ keys_of left) → ReadOk past a (settle images left)
settle_ok past a images [] i l place = (i, subst (AreInOrder a) (append-nil (keys_of images)) place)
settle_ok past a images (r ∷ left) i l place = by (kind_of r) (kind_is r) (λ firm. settle_ok past a (images ++ r ∷ []) left (each_more (IsImage past) images r i (Itself l.0.0 refl firm.1, firm.0, firm.1)) l.1 (place_more a images r r.key (keys_of left) refl place))
  where
    by : (x : Kind) → IsKind r x → (IsKind r Firm → ReadOk past a (settle (images ++ r ∷ []) left)) → ReadOk past a (settle_one x images r left (settle (images ++ r ∷ []) left))
    by Firm k rest = rest k
    by (Open meta) k rest = (i, record { of = meta_of r meta k.0 k.1; unresolved = k.0; observed = l.0.0; outside = l.0.1; phase = tt }, l.1, place)
    by Bad k rest = tt

---- the first reply

-- the rows of a reply were shown
pub rows_left : (past : List Labelled) (q : Labelled) (rs : List Record) → ((x : Record) → record_among rs x.key ≡ Some x → IsObserved (q ∷ past) x) → Rise (keys_of rs) → AllByRecursion (λ k. is_data k ≡ true) (keys_of rs) → AllByRecursion (IsLeft (q ∷ past)) rs
rows_left past q rs observed up outside = each_both (λ x. record_among rs x.key ≡ Some x) (λ x. is_data x.key ≡ true) (IsLeft (q ∷ past)) rs (λ x f d. (observed x f, d)) (found_each rs up) (each_unmap (λ k. is_data k ≡ true) (λ (x : Record). x.key) rs outside)

key_itself : (k q : Key) → q ≡ k → in_access (access.Get k) q ≡ true
key_itself k q e = subst (λ x. is_eq (key_cmp k x) ≡ true) (sym e) (ap is_eq (tied_itself key_total k))

pub asked_ok : (past : List Labelled) (c : ℕ) (a : Access) (store : Name) (how : How) (r : Reply) (answer : Option Answer) → IsOfData a → CanAnswer (request_of a) r
    → ReadOk (labelled_with Rattle.law_protocol.specs.History.Other (event.Call c store (request_of a) how r answer) ∷ past) a (settle_reply r)
asked_ok past c (access.Get k) store how reply.Fault answer tables can = tt
asked_ok past c (access.Get k) store how reply.NoMemory answer tables can = tt
asked_ok past c (access.Get k) store how reply.Applied answer tables can = absurd can
asked_ok past c (access.Get k) store how (reply.NotMet found) answer tables can = absurd can
asked_ok past c (access.Get k) store how (reply.NotAll place there) answer tables can = absurd can
asked_ok past c (access.Get k) store how (reply.Rows rows) answer tables can = absurd can
asked_ok past c (access.Get k) store how (reply.Found None) answer tables can = (tt, (tt, tt))
asked_ok past c (access.Get k) store how (reply.Found (Some r)) answer tables can =
    let here = key_itself k r.key can in
    settle_ok (labelled_with Rattle.law_protocol.specs.History.Other (event.Call c store (ask.Get k) how (reply.Found (Some r)) answer) ∷ past) (access.Get k) [] (r ∷ []) tt ((inl refl, tables r.key here), tt) ((tt, tt), (here, tt))
asked_ok past c (access.Scan span) store how reply.Fault answer tables can = tt
asked_ok past c (access.Scan span) store how reply.NoMemory answer tables can = tt
asked_ok past c (access.Scan span) store how reply.Applied answer tables can = absurd can
asked_ok past c (access.Scan span) store how (reply.NotMet found) answer tables can = absurd can
asked_ok past c (access.Scan span) store how (reply.NotAll place there) answer tables can = absurd can
asked_ok past c (access.Scan span) store how (reply.Found found) answer tables can = absurd can
asked_ok past c (access.Scan span) store how (reply.Rows rows) answer tables can =
    let up = rise_is rows (and_first (rise rows) (list_all (λ r. in_span span r.key) rows) can) in
    let inside = inside_each span rows (and_second (rise rows) (list_all (λ r. in_span span r.key) rows) can) in
    let q : Labelled = labelled_with Rattle.law_protocol.specs.History.Other (event.Call c store (ask.Scan span) how (reply.Rows rows) answer) in
    settle_ok (q ∷ past) (access.Scan span) [] rows tt (rows_left past q rows (λ x f. inl f) up (each_any (λ k. in_span span k ≡ true) (λ k. is_data k ≡ true) (keys_of rows) tables inside)) (up, inside)

---- a reply to a recovery

image_key : (past : List Labelled) (k : Key) (b : Record) → IsImageOf past k b → IsImage past b
image_key past k b s = (subst (λ x. IsSettled past x b) (sym s.1.key) s.0, s.1.accepted, s.1.committed)

pub image_after : (past : List Labelled) (q : Labelled) (rec : Record) (meta : Meta) (p : RecoverPhase) (now : ℤ) (r : Reply) (b : Record) → RecoverOk past rec meta p → (recover_next rec meta p now r).1 ≡ steps.Image (Some b) → IsImage (q ∷ past) b × (b.key ≡ rec.key)
image_after past q rec meta p now r b ok says = let i = image_settled past rec meta p now r b ok says in (image_later past q b (image_key past rec.key b i), i.1.key)

pub recover_kept : (past : List Labelled) (c : ℕ) (rec : Record) (meta : Meta) (p : RecoverPhase) (now : ℤ) (store : Name) (q : Request) (how : How) (r : Reply) (a : Option Answer) → RecoverOk past rec meta p → recover_request_at rec meta p ≡ Some q → CanAnswer q r → is_moment now ≡ true
    → RecoverOk (labelled_with (recover_action rec meta p r) (event.Call c store q how r a) ∷ past) rec meta (recover_next rec meta p now r).0
recover_kept past c rec meta p now store q how r a ok asked can moment = record { of = ok.of; unresolved = ok.unresolved; observed = inr ok.observed; outside = ok.outside; phase = phase_kept past c rec meta p now store q how r a ok asked can moment }

resolved_ok : (past : List Labelled) (a : Access) (c : ℕ) (images : List Record) (rec : Record) (meta : Meta) (p : RecoverPhase) (left : List Record) (now : ℤ) (store : Name) (q : Request) (how : How) (r : Reply) (answer : Option Answer)
    → ReadOk past a (Resolving images rec meta p left) → recover_request_at rec meta p ≡ Some q → CanAnswer q r → is_moment now ≡ true
    → ReadOk (labelled_with (recover_action rec meta p r) (event.Call c store q how r answer) ∷ past) a (after_recovery images rec meta left (recover_next rec meta p now r))
resolved_ok past a c images rec meta p left now store q how r answer ok asked can moment = by (recover_next rec meta p now r) refl
  where
    one : Labelled
    one = labelled_with (recover_action rec meta p r) (event.Call c store q how r answer)

    images_now : AllByRecursion (IsImage (one ∷ past)) images
    images_now = images_later past one images ok.0

    left_now : AllByRecursion (IsLeft (one ∷ past)) left
    left_now = left_later past one left ok.2

    by : (n : RecoverPhase × RecoverStep) → recover_next rec meta p now r ≡ n → ReadOk (one ∷ past) a (after_recovery images rec meta left n)
    by (n, steps.More) e = (images_now, subst (λ (x : RecoverPhase × RecoverStep). RecoverOk (one ∷ past) rec meta x.0) e (recover_kept past c rec meta p now store q how r answer ok.1 asked can moment), left_now, ok.3)
    by (n, steps.Image None) e = settle_ok (one ∷ past) a images left images_now left_now (place_drop a (keys_of images) rec.key (keys_of left) ok.3)
    by (n, steps.Image (Some b)) e =
        let i = image_after past one rec meta p now r b ok.1 (ap (λ (x : RecoverPhase × RecoverStep). x.1) e) in
        settle_ok (one ∷ past) a (images ++ b ∷ []) left (each_more (IsImage (one ∷ past)) images b images_now i.0) left_now (place_more a images b rec.key (keys_of left) i.1 ok.3)
    by (n, steps.Busy id prepared_at) e = tt
    by (n, steps.Faulted) e = tt
    by (n, steps.BadRecord key) e = tt
    by (n, steps.NoMemory) e = tt

-- A reply leaves a read knowing of each image that it came to it.
pub read_kept : (past : List Labelled) (a : Access) (c : ℕ) (s : ReadAt) (now : ℤ) (store : Name) (q : Request) (how : How) (r : Reply) (answer : Option Answer)
    → IsOfData a → ReadOk past a s → read_pending a s ≡ Some q → CanAnswer q r → is_moment now ≡ true
    → ReadOk (labelled_with (read_action s r) (event.Call c store q how r answer) ∷ past) a (read_step s now r)
read_kept past a c Asking now store q how r answer tables ok asked can moment = subst (λ x. CanAnswer x r → ReadOk (labelled_with Rattle.law_protocol.specs.History.Other (event.Call c store x how r answer) ∷ past) a (settle_reply r)) (some_is (request_of a) q asked) (asked_ok past c a store how r answer tables) can
  where
    some_is : (x y : Request) → Some x ≡ Some y → x ≡ y
    some_is x y e = cc
read_kept past a c (Resolving images rec meta p left) now store q how r answer tables ok asked can moment = resolved_ok past a c images rec meta p left now store q how r answer ok asked can moment
read_kept past a c (Done images) now store q how r answer tables ok asked can moment = absurd (cc)
read_kept past a c Failed now store q how r answer tables ok asked can moment = tt
