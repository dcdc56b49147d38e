-- What one write does, at every key, whatever became of the call.
use Rattle.std.proofs.Common.{◌≡◌, ◌≢◌, Bool, true, false, List, Option, Some, None, ◌⊎◌, inl, inr, refl, sym, ap, ◌∙◌}
use Rattle.std.specs.Prelude.{◌&&◌, not, if◌then◌else◌}
use Rattle.law_protocol.specs.Types.{Condition, How, Key, Place, Record, Reply, Request}
use Rattle.sdb_types.specs.declared.record.Request.TheVariants as ask
use Rattle.sdb_types.specs.declared.record.Reply.TheVariants as reply
use Rattle.sdb_types.specs.Contents.{Contents, record_at, holds, put_reply, reply_to, after}
use Rattle.sdb_types.specs.Order.{same_key}
use Rattle.sdb_types.specs.Replies.{is_refused}
use Rattle.sdb_types.proofs.Public.{clash, same_key_self, same_key_decides}
use Rattle.sdb_model.specs.Rows.{Name}
use Rattle.sdb_model.specs.Events.{StoreContents, stored_at, table_asked, IsCall}
use Rattle.law_protocol.specs.Trace.{takes_effect_at}
use Rattle.law_protocol.proofs.Effects.{AtCall, at_call, after_put, after_delete}

-- Where a write took effect, its key has what it puts or nothing; every other key is as it was. Applied says that it did,
-- not met that its condition failed, out of memory that it did not.
pub record IsWritten (places : List Place) (key : Key) (c : Condition) (new : Option Record) (r : Reply) (before now : List StoreContents) : Type 0 where
  pub at : (k : Key) → stored_at places now k ≡ (if takes_effect_at places key c before now && same_key k key then new else stored_at places before k)
  pub applied : r ≡ reply.Applied → takes_effect_at places key c before now ≡ true
  pub unmet : is_refused r ≡ true → holds c (stored_at places before key) ≡ false
  pub wanting : r ≡ reply.NoMemory → takes_effect_at places key c before now ≡ false

reply_applied : (c : Condition) (s : Option Record) (r : Reply) → r ≡ put_reply c s → r ≡ reply.Applied → holds c s ≡ true
reply_applied c s r e a = by (holds c s) refl (sym a ∙ e)
  where
    by : (b : Bool) → holds c s ≡ b → reply.Applied ≡ (if b then reply.Applied else reply.NotMet s) → holds c s ≡ true
    by true h x = h
    by false h x = absurd (cc)

reply_unmet : (c : Condition) (s : Option Record) (r : Reply) → r ≡ put_reply c s → is_refused r ≡ true → holds c s ≡ false
reply_unmet c s r e a = by (holds c s) refl (ap is_refused (sym e) ∙ a)
  where
    by : (b : Bool) → holds c s ≡ b → is_refused (if b then reply.Applied else reply.NotMet s) ≡ true → holds c s ≡ false
    by true h x = clash (sym x)
    by false h x = h

reply_wanting : (c : Condition) (s : Option Record) (r : Reply) → r ≡ put_reply c s → r ≡ reply.NoMemory → ⊥
reply_wanting c s r e a = by (holds c s) (sym a ∙ e)
  where
    by : (b : Bool) → reply.NoMemory ≡ (if b then reply.Applied else reply.NotMet s) → ⊥
    by true x = cc
    by false x = cc

-- a write that was performed took effect where its condition held
took_done : (b : Bool) (c : Condition) (s n new : Option Record) → holds c s ≡ b → n ≡ (if b && true then new else s) → holds c new ≡ false → holds c s && not (holds c n) ≡ b
took_done true c s n new h e f = rw h (rw e (rw f refl))
took_done false c s n new h e f = rw h refl

-- and one that wasn't did not
took_undone : (b : Bool) → b && not b ≡ false
took_undone true = refl
took_undone false = refl

written_done : (places : List Place) (q : Request) (key : Key) (c : Condition) (new : Option Record) (r : Reply) (before now : List StoreContents) (a : AtCall places q r before now) → key.table.ns ≡ (table_asked q).ns
    → ((m : Contents) → reply_to q m ≡ put_reply c (record_at m key))
    → ((m : Contents) (k : Key) → record_at (after q m) k ≡ (if holds c (record_at m key) && same_key k key then new else record_at m k))
    → holds c new ≡ false → a.left ≡ after q a.held → ((r ≡ reply_to q a.held) ⊎ (r ≡ reply.Fault))
    → IsWritten places key c new r before now
written_done places q key c new r before now a ns replies afters fresh moved executed = record {
  at = λ k. rw took_effect (elim (a.there k) [
    | inl x ↦ x.1 ∙ ap (λ m. record_at m k) moved ∙ afters a.held k ∙ rw here (rw (sym x.0) refl)
    | inr x ↦ x.0 ∙ rw (apart k x.1) (unchanged (holds c (stored_at places before key)) (stored_at places before k))
  ]);
  applied = λ e. took_effect ∙ elim executed [
    | inl x ↦ rw here (reply_applied c (record_at a.held key) r (x ∙ replies a.held) e)
    | inr x ↦ absurd (fault_applied (sym x ∙ e))
  ];
  unmet = λ e. elim executed [
    | inl x ↦ rw here (reply_unmet c (record_at a.held key) r (x ∙ replies a.held) e)
    | inr x ↦ clash (sym e ∙ ap is_refused x)
  ];
  wanting = λ e. elim executed [
    | inl x ↦ absurd (reply_wanting c (record_at a.held key) r (x ∙ replies a.held) e)
    | inr x ↦ absurd (fault_wanting (sym x ∙ e))
  ];
}
  where
    here : stored_at places before key ≡ record_at a.held key
    here = (a.here key ns).0

    now_here : stored_at places now key ≡ (if holds c (stored_at places before key) && true then new else stored_at places before key)
    now_here = (a.here key ns).1 ∙ ap (λ m. record_at m key) moved ∙ afters a.held key ∙ rw (same_key_self key) (rw here refl)

    took_effect : takes_effect_at places key c before now ≡ holds c (stored_at places before key)
    took_effect = took_done (holds c (stored_at places before key)) c (stored_at places before key) (stored_at places now key) new refl now_here fresh

    apart : (k : Key) → k.table.ns ≢ (table_asked q).ns → same_key k key ≡ false
    apart k n = elim (same_key_decides k key) [
      | inl e ↦ absurd (n (ap (λ x. x.table.ns) e.1 ∙ ns))
      | inr f ↦ f.0
    ]

    unchanged : (b : Bool) (x : Option Record) → x ≡ (if b && false then new else x)
    unchanged true x = refl
    unchanged false x = refl

    fault_applied : reply.Fault ≡ reply.Applied → ⊥
    fault_applied e = cc

    fault_wanting : reply.Fault ≡ reply.NoMemory → ⊥
    fault_wanting e = cc

written_undone : (places : List Place) (q : Request) (key : Key) (c : Condition) (new : Option Record) (r : Reply) (before now : List StoreContents) (a : AtCall places q r before now) → key.table.ns ≡ (table_asked q).ns
    → a.left ≡ a.held → ((r ≡ reply.NoMemory) ⊎ (r ≡ reply.Fault)) → IsWritten places key c new r before now
written_undone places q key c new r before now a ns moved executed = record {
  at = λ k. same k ∙ rw took_effect refl;
  applied = λ e. absurd (elim executed [ inl x ↦ wanting_applied (sym x ∙ e) | inr x ↦ fault_applied (sym x ∙ e) ]);
  unmet = λ e. elim executed [ inl x ↦ clash (sym e ∙ ap is_refused x) | inr x ↦ clash (sym e ∙ ap is_refused x) ];
  wanting = λ e. took_effect;
}
  where
    same : (k : Key) → stored_at places now k ≡ stored_at places before k
    same k = elim (a.there k) [
      | inl x ↦ x.1 ∙ ap (λ m. record_at m k) moved ∙ sym x.0
      | inr x ↦ x.0
    ]

    took_effect : takes_effect_at places key c before now ≡ false
    took_effect = ap (λ x. holds c (stored_at places before key) && not (holds c x)) (same key) ∙ took_undone (holds c (stored_at places before key))

    wanting_applied : reply.NoMemory ≡ reply.Applied → ⊥
    wanting_applied e = cc

    fault_applied : reply.Fault ≡ reply.Applied → ⊥
    fault_applied e = cc

pub put_written : (places : List Place) (store : Name) (rec : Record) (c : Condition) (how : How) (r : Reply) (before now : List StoreContents) → IsCall places store (ask.PutIf rec c) how r before now → holds c (Some rec) ≡ false → IsWritten places rec.key c (Some rec) r before now
put_written places store rec c how r before now call fresh =
    let a = at_call places store (ask.PutIf rec c) how r before now call in
    elim a.moved [
      | inl x ↦ written_done places (ask.PutIf rec c) rec.key c (Some rec) r before now a refl (λ m. refl) (after_put rec c) fresh x.0 x.1
      | inr x ↦ written_undone places (ask.PutIf rec c) rec.key c (Some rec) r before now a refl x.0 x.1
    ]

pub delete_written : (places : List Place) (store : Name) (key : Key) (c : Condition) (how : How) (r : Reply) (before now : List StoreContents) → IsCall places store (ask.DeleteIf key c) how r before now → holds c None ≡ false → IsWritten places key c None r before now
delete_written places store key c how r before now call fresh =
    let a = at_call places store (ask.DeleteIf key c) how r before now call in
    elim a.moved [
      | inl x ↦ written_done places (ask.DeleteIf key c) key c None r before now a refl (λ m. refl) (after_delete key c) fresh x.0 x.1
      | inr x ↦ written_undone places (ask.DeleteIf key c) key c None r before now a refl x.0 x.1
    ]
