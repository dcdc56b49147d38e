-- Pieces that were accepted or written one after another.
use Rattle.std.proofs.Common.{◌-◌, length-drop, ◌≡◌, ◌∙◌, sym, ap, ℕ, ◌+◌, ◌≤◌, List, ◌++◌, length, take, drop, append_assoc, arith}
use Rattle.std.proofs.lemmas.List.{length-take, take_all, take-append-le, drop-drop, take-append-drop}
use Rattle.std.proofs.Math.Seq.{take-add}
use Rattle.std.specs.Prelude.{Option, Some, None, option_map}
use Rattle.sdb_types.specs.Bytes.{Takes, Appends}

pub appends_more : (a b : List ℕ) (x y z : Option (List ℕ)) → Appends a x y → Appends b y z → Appends (a ++ b) x z
appends_more a b None y z p q = q ∙ ap (option_map (λ before. before ++ b)) p
appends_more a b (Some x) y z p q = q ∙ ap (option_map (λ before. before ++ b)) p ∙ ap Some (append_assoc x a b)

pub takes_more : (a b : List ℕ) (x y z : Option (List ℕ)) → Takes a x y → Takes b y z → Takes (a ++ b) x z
takes_more a b x y None p q = p ∙ ap (option_map (λ rest. a ++ rest)) q
takes_more a b x y (Some z) p q = p ∙ ap (option_map (λ rest. a ++ rest)) q ∙ ap Some (sym (append_assoc a b z))

-- the piece that follows the prefix
pub take_piece : (bytes : List ℕ) (at n : ℕ) → take (at + n) bytes ≡ take at bytes ++ take n (take (length bytes - at) (drop at bytes))
take_piece bytes at n = take-add at n bytes ∙ ap (λ xs. take at bytes ++ take n xs) (sym (take_all (length bytes - at) (drop at bytes) (simp length-drop (omega arith))))

-- what was written so far, with the piece that a call wrote
pub appends_piece : (bytes : List ℕ) (at n : ℕ) (x y z : Option (List ℕ)) → Appends (take at bytes) x y → Appends (take n (take (length bytes - at) (drop at bytes))) y z → Appends (take (at + n) bytes) x z
appends_piece bytes at n x y z p q = rw take_piece (appends_more (take at bytes) _ x y z p q)

-- a buffer that was filled from the start of what is left
pub filled : (n m at : ℕ) (bytes back put : List ℕ) → put ≡ take m (drop at bytes) → m ≡ n → n ≤ length bytes - at → drop at bytes ≡ take n (put ++ back) ++ drop (at + n) bytes
filled n m at bytes back put is same fits =
    let xs : List ℕ = drop at bytes in
    let len : length (take n xs) ≡ n = omega (arith, length-take n xs, length-drop at bytes) in
    let read : take n (take n xs ++ back) ≡ take n xs = take-append-le n (take n xs) back (omega arith) ∙ take_all n (take n xs) (omega arith) in
    rw (is, same) (sym (ap (λ ys. ys ++ drop (at + n) bytes) read ∙ ap (λ ys. take n xs ++ ys) (sym (drop-drop n at bytes)) ∙ take-append-drop n xs))
