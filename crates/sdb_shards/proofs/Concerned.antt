-- A call that concerns some keys alone: it answers by what is at them, and changes nothing elsewhere.
use Rattle.std.proofs.Common.{◌≡◌, ℕ, ◌+◌, Bool, true, false, cond, List, [], ◌∷◌, Option, Some, None, refl, sym, ap, ◌∙◌, option_map}
use Rattle.std.specs.Prelude.{is_none, if◌then◌else◌}
use Rattle.std.specs.List.{AllByRecursion}
use Rattle.std.specs.FinMap.{get, insert, remove, get-insert, get-remove}
use Rattle.std.specs.Ordering.{eq_by_cmp}
use Rattle.sdb_types.specs.declared.key.Key.{Key}
use Rattle.sdb_types.specs.declared.pair.Pair.{Pair}
use Rattle.sdb_types.specs.declared.record.Put.{Put}
use Rattle.sdb_types.specs.declared.record.Request.{Request}
use Rattle.sdb_types.specs.declared.record.Request.TheVariants as ask
use Rattle.sdb_types.specs.declared.record.Reply.TheVariants as reply
use Rattle.sdb_types.specs.Exact.{equal_of}
use Rattle.sdb_types.specs.Order.{key_cmp}
use Rattle.sdb_types.specs.Contents.{Contents, record_of, record_at, in_span, holds, put_reply, batch_reply, unmet_from, all_put, reply_to, after}
use Rattle.sdb_types.proofs.Public.{clash, false_by, key_exact, key_total, same_rows}

-- Each key that a request is about passes the test.
abbrev pub Concerns : (Key → Bool) → Request → Type 0
Concerns p (ask.Get key) = p key ≡ true
Concerns p (ask.Scan span) = (k : Key) → in_span span k ≡ true → p k ≡ true
Concerns p (ask.PutIf r condition) = p r.key ≡ true
Concerns p (ask.DeleteIf key condition) = p key ≡ true
Concerns p (ask.PutAll b) = AllByRecursion (λ x. p x.rec.key ≡ true) b

-- two contents have the same at each key that passes the test
abbrev pub Agree : (Key → Bool) → Contents → Contents → Type 0
Agree p m n = (k : Key) → p k ≡ true → get m k ≡ get n k

at_same : (m n : Contents) (k : Key) → get m k ≡ get n k → record_at m k ≡ record_at n k
at_same m n k e = ap (option_map (λ columns. record_of (k, columns))) e

unmet_same : (p : Key → Bool) (b : List Put) (i : ℕ) (m n : Contents) → AllByRecursion (λ x. p x.rec.key ≡ true) b → Agree p m n → unmet_from i b m ≡ unmet_from i b n
unmet_same p [] i m n own agree = refl
unmet_same p (x ∷ xs) i m n own agree =
    let there = at_same m n x.rec.key (agree x.rec.key own.0) in
    let rest = unmet_same p xs (i + 1) m n own.1 agree in
    (λ j. if holds x.condition (there j) then rest j else Some (i, there j))

---- the reply

pub reply_same : (p : Key → Bool) (q : Request) (m n : Contents) → Concerns p q → Agree p m n → reply_to q m ≡ reply_to q n
reply_same p (ask.Get key) m n own agree = ap reply.Found (at_same m n key (agree key own))
reply_same p (ask.Scan span) m n own agree = ap reply.Rows (same_rows span m n (λ k h. agree k (own k h)))
reply_same p (ask.PutIf r condition) m n own agree = ap (put_reply condition) (at_same m n r.key (agree r.key own))
reply_same p (ask.DeleteIf key condition) m n own agree = ap (put_reply condition) (at_same m n key (agree key own))
reply_same p (ask.PutAll b) m n own agree = ap batch_reply (unmet_same p b 1 m n own agree)

---- what it leaves at the keys

insert_alike : (m n : Contents) (key : Key) (v : List Pair) (k : Key) → get m k ≡ get n k → get (insert m key v) k ≡ get (insert n key v) k
insert_alike m n key v k e = get-insert key_total m key v k ∙ ap (cond (eq_by_cmp key_cmp k key) (Some v)) e ∙ sym (get-insert key_total n key v k)

remove_alike : (m n : Contents) (key k : Key) → get m k ≡ get n k → get (remove m key) k ≡ get (remove n key) k
remove_alike m n key k e = get-remove key_total m key k ∙ ap (cond (eq_by_cmp key_cmp k key) None) e ∙ sym (get-remove key_total n key k)

all_put_alike : (b : List Put) (m n : Contents) (k : Key) → get m k ≡ get n k → get (all_put b m) k ≡ get (all_put b n) k
all_put_alike [] m n k e = e
all_put_alike (x ∷ xs) m n k e = all_put_alike xs (insert m x.rec.key x.rec.columns) (insert n x.rec.key x.rec.columns) k (insert_alike m n x.rec.key x.rec.columns k e)

cond_alike : (b c : Bool) (m n m' n' : Contents) (k : Key) → b ≡ c → get m k ≡ get m' k → get n k ≡ get n' k → get (cond b m n) k ≡ get (cond c m' n') k
cond_alike b c m n m' n' k same e f = ap (λ x. get (cond x m n) k) same ∙ elim c as (λ x. get (cond x m n) k ≡ get (cond x m' n') k) [ true ↦ e | false ↦ f ]

pub after_inside : (p : Key → Bool) (q : Request) (m n : Contents) → Concerns p q → Agree p m n → (k : Key) → p k ≡ true → get (after q m) k ≡ get (after q n) k
after_inside p (ask.Get key) m n own agree k h = agree k h
after_inside p (ask.Scan span) m n own agree k h = agree k h
after_inside p (ask.PutIf r condition) m n own agree k h =
    cond_alike (holds condition (record_at m r.key)) (holds condition (record_at n r.key)) (insert m r.key r.columns) m (insert n r.key r.columns) n k
    (ap (holds condition) (at_same m n r.key (agree r.key own))) (insert_alike m n r.key r.columns k (agree k h)) (agree k h)
after_inside p (ask.DeleteIf key condition) m n own agree k h =
    cond_alike (holds condition (record_at m key)) (holds condition (record_at n key)) (remove m key) m (remove n key) n k
    (ap (holds condition) (at_same m n key (agree key own))) (remove_alike m n key k (agree k h)) (agree k h)
after_inside p (ask.PutAll b) m n own agree k h =
    cond_alike (is_none (unmet_from 1 b m)) (is_none (unmet_from 1 b n)) (all_put b m) m (all_put b n) n k
    (ap is_none (unmet_same p b 1 m n own agree)) (all_put_alike b m n k (agree k h)) (agree k h)

---- and at others

other_key : (p : Key → Bool) (k own : Key) → p own ≡ true → p k ≡ false → eq_by_cmp key_cmp k own ≡ false
other_key p k own h g = false_by (eq_by_cmp key_cmp k own) (λ e.
    let one : k ≡ own = key_exact k own (equal_of (key_cmp k own) e) in
    clash (sym h ∙ sym (ap p one) ∙ g))

insert_else : (p : Key → Bool) (m : Contents) (key : Key) (v : List Pair) (k : Key) → p key ≡ true → p k ≡ false → get (insert m key v) k ≡ get m k
insert_else p m key v k own out = get-insert key_total m key v k ∙ ap (λ b. cond b (Some v) (get m k)) (other_key p k key own out)

all_put_else : (p : Key → Bool) (b : List Put) (m : Contents) (k : Key) → AllByRecursion (λ x. p x.rec.key ≡ true) b → p k ≡ false → get (all_put b m) k ≡ get m k
all_put_else p [] m k own out = refl
all_put_else p (x ∷ xs) m k own out =
    all_put_else p xs (insert m x.rec.key x.rec.columns) k own.1 out ∙ insert_else p m x.rec.key x.rec.columns k own.0 out

cond_else : (b : Bool) (m n : Contents) (k : Key) → get m k ≡ get n k → get (cond b m n) k ≡ get n k
cond_else true m n k e = e
cond_else false m n k e = refl

pub after_outside : (p : Key → Bool) (q : Request) (m : Contents) → Concerns p q → (k : Key) → p k ≡ false → get (after q m) k ≡ get m k
after_outside p (ask.Get key) m own k out = refl
after_outside p (ask.Scan span) m own k out = refl
after_outside p (ask.PutIf r condition) m own k out = cond_else (holds condition (record_at m r.key)) (insert m r.key r.columns) m k (insert_else p m r.key r.columns k own out)
after_outside p (ask.DeleteIf key condition) m own k out =
    cond_else (holds condition (record_at m key)) (remove m key) m k (get-remove key_total m key k ∙ ap (λ b. cond b None (get m k)) (other_key p k key own out))
after_outside p (ask.PutAll b) m own k out = cond_else (is_none (unmet_from 1 b m)) (all_put b m) m k (all_put_else p b m k own out)
