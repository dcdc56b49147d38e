-- The puts of requests, and keys that are each new.
use Rattle.std.proofs.Common.{◌≡◌, ℕ, suc, ◌<◌, Bool, true, false, List, [], ◌∷◌, length, Option, Some, None, inl, inr, refl, sym, ap, ◌∙◌, arith}
use Rattle.std.specs.Prelude.{not}
use Rattle.std.specs.Option.{option_map_or}
use Rattle.check_protocol.specs.Types.{Key, Put, Request}
use Rattle.sdb_types.specs.declared.record.Request.TheVariants as ask
use Rattle.sdb_types.specs.Contents.{sent}
use Rattle.sdb_types.specs.Exactness.{put_is_exact}
use Rattle.sdb_types.specs.Order.{are_distinct, has_key, same_key}
use Rattle.law_protocol.specs.Lawful.{protocol_state}
use Rattle.check_protocol.specs.declared.labelled.Labelled.{Labelled}
use Rattle.check_protocol.specs.Started.{asked_in}
use Rattle.check_protocol.specs.Values.{all_labelled, same_put}
use Rattle.check_protocol.specs.Rules.{are_new, are_some, one_put, puts_asked}
use Rattle.check_protocol.proofs.Lists.{none_some, not_true, or_left, right, true_not}
use Rattle.check_protocol.proofs.StateLaws.{asked_is}
use Rattle.sdb_types.proofs.Public.{and_both as both, and_first as left, clash, either, or_second as or_right, same_key_exact, same_key_of, some_is}

pub put_is : (a b : Put) → same_put a b ≡ true → a ≡ b
unfolding same_put
put_is a b h = (put_is_exact a b).0 h

pub is_same_put : (a : Put) → same_put a a ≡ true
unfolding same_put
is_same_put a = (put_is_exact a a).1 refl

---- what a request puts

-- a request is the call that makes its puts
pub asked_sent : (q : Request) (ps : List Put) → puts_asked q ≡ Some ps → q ≡ sent ps
asked_sent (ask.Get key) ps h = none_some h
asked_sent (ask.Scan span) ps h = none_some h
asked_sent (ask.DeleteIf key c) ps h = none_some h
asked_sent (ask.PutIf r c) ps h = ap sent (some_is (one_put r c) ps h)
asked_sent (ask.PutAll []) ps h = ap sent (some_is [] ps h)
asked_sent (ask.PutAll (p ∷ [])) ps h = none_some h
asked_sent (ask.PutAll (p ∷ q ∷ b)) ps h = ap sent (some_is (p ∷ q ∷ b) ps h)

pub sent_asked : (ps : List Put) → puts_asked (sent ps) ≡ Some ps
sent_asked [] = refl
sent_asked (p ∷ []) = refl
sent_asked (p ∷ q ∷ ps) = refl

-- a test of a value that may be there
pub some_of : {X : Type 0} (f : X → Bool) (o : Option X) → option_map_or f o false ≡ true → (x : X) × (o ≡ Some x) × (f x ≡ true)
some_of f None h = clash (sym h)
some_of f (Some x) h = (x, refl, h)

---- keys

pub some_keys : (ks : List Key) → are_some ks ≡ true → (0 < length ks) × (are_distinct ks ≡ true)
some_keys [] h = clash (sym h)
some_keys (k ∷ ks) h = (more (length ks), h)
  where
    more : (n : ℕ) → 0 < suc n
    more n = omega arith

pub keys_some : (ks : List Key) → 0 < length ks → are_distinct ks ≡ true → are_some ks ≡ true
keys_some [] h d = absurd (omega (arith, h))
keys_some (k ∷ ks) h d = d

-- where no prepare was asked of any, none was asked of one among them
pub none_asked : (past : List Labelled) (t : ℕ) (ks : List Key) → are_new past t ks ≡ true → (q : Key) → has_key ks q ≡ true → (protocol_state (all_labelled past)).asked t q ≡ false
none_asked past t [] h q e = clash (sym e)
none_asked past t (k ∷ ks) h q e = elim (either (has_key ks q) (same_key q k) e) [
  | inl there ↦ none_asked past t ks (right (not (asked_in past t k)) (are_new past t ks) h) q there
  | inr same ↦ asked_is past t q ∙ ap (asked_in past t) (same_key_exact q k same) ∙ not_true (asked_in past t k) (left (not (asked_in past t k)) (are_new past t ks) h)
]

pub asked_none : (past : List Labelled) (t : ℕ) (ks : List Key) → ((q : Key) → has_key ks q ≡ true → (protocol_state (all_labelled past)).asked t q ≡ false) → are_new past t ks ≡ true
asked_none past t [] f = refl
asked_none past t (k ∷ ks) f =
    both (not (asked_in past t k)) (are_new past t ks)
    (true_not (asked_in past t k) (sym (asked_is past t k) ∙ f k (or_right (has_key ks k) (same_key k k) (same_key_of k k refl))))
    (asked_none past t ks (λ q e. f q (or_left (has_key ks q) (same_key q k) e)))
