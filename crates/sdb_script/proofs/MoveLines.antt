-- A line that says a move is read as that move, and as no other.
use Rattle.std.proofs.Common.{◌≡◌, inl, inr, ℕ, pos, negsuc, ◌^◌, ◌<◌, ◌≤◌, Bool, true, false, List, [], ◌∷◌, ◌++◌, map, Some, None, refl, sym, ap, subst, ◌∙◌, arith, cond, codes}
use Rattle.std.specs.Prelude.{nat_le, int_le, All}
use Rattle.std.specs.List.{list_all}
use Rattle.std.specs.Fmt.{decimal}
use Rattle.std.specs.Option.{option_map, option_and_then}
use Rattle.std.specs.Str.{bytes_eq}
use Rattle.std.proofs.lemmas.Bool.Decides.{nat_tests}
use Rattle.std.proofs.lemmas.List.Elements.{All-head, All-tail}
use Rattle.std.proofs.lemmas.List.Sums.{sum_by-cons}
use Rattle.sdb_types.proofs.Public.{and_both, and_first, and_second, by_test, is_front, some_is}
use Rattle.sdb_types.specs.NameText.{after_front}
use Rattle.sdb_schema.specs.Kinds.{kind_text}
use Rattle.sdb_script.specs.Types.{Act, Kind, Move, TableName}
use Rattle.sdb_model.specs.declared.script.Act.TheVariants as act
use Rattle.sdb_model.specs.declared.script.Move.TheVariants as move
use Rattle.sdb_script.specs.Words.{Counts, numeral_in}
use Rattle.sdb_script.specs.Lines.{act_line, move_line, IsActText, IsMoveText, are_names, is_client, is_delayed_number, is_act, is_move, turns, turns_of, latest, most_moves}
use Rattle.sdb_script.specs.Begun.{AreMoveTexts}
use Rattle.sdb_script.specs.Reading.{client_in, act_in, repeat_of, step_in, clock_of, clock_in, rest_in, clock_or, stop_or, land_of, land_in, land_or, delay_or, drop_or, lose_or, step_or, alter_in, move_in}
use Rattle.sdb_script.proofs.Pieces.{same_bytes, no_some, map_is, bind_is, map_or_is}
use Rattle.sdb_script.proofs.Numerals.{numeral_no_space, around_again, around_none, around_is, counted_is, counted_again, text_counts, counts_text}
use Rattle.sdb_catalog.proofs.Public.{kind_again}
use Rattle.sdb_script.proofs.AlterLines.{alter_is, alter_again}
use Rattle.sdb_types.specs.NameText.{around}

abbrev Says : ℕ → List ℕ → Move → Type 0
Says n line m = IsMoveText line m × (is_move n m ≡ true)

---- what is read is said

client_is : (n : ℕ) (word : List ℕ) (c : ℕ) → client_in n word ≡ Some c → Counts word c × (is_client n c ≡ true)
client_is n word c h =
    let b = bind_is (λ (x : ℕ). cond (is_client n x) (Some x) None) (numeral_in word) c h in
    by_test (is_client n b.0)
    (λ t. subst (λ (x : ℕ). Counts word x × (is_client n x ≡ true)) (some_is b.0 c (rw t at b.2)) (counted_is word b.0 b.1, t))
    (λ t. no_some c (rw t at b.2))

act_said : (n : ℕ) (made : ℕ → Act) (word : List ℕ) (m : Move) → act_in n made word ≡ Some m → (c : ℕ) × (move.Act (made c) ≡ m) × Counts word c × (is_client n c ≡ true)
act_said n made word m h =
    let a = map_is (λ (c : ℕ). move.Act (made c)) (client_in n word) m h in
    let k = client_is n word a.0 a.1 in
    (a.0, a.2, k.0, k.1)

repeat_is : (n : ℕ) (line word more : List ℕ) (c : ℕ) (m : Move) → line ≡ codes "step " ++ (word ++ 32 ∷ more) → Counts word c → is_client n c ≡ true → option_and_then (repeat_of c) (numeral_in more) ≡ Some m → Says n line m
repeat_is n line word more c m e k one h =
    let b = bind_is (repeat_of c) (numeral_in more) m h in
    by_test (nat_le 2 b.0)
    (λ t. subst (Says n line) (some_is (move.Repeat c b.0) m (rw t at b.2)) ((word, more, e, k, counted_is more b.0 b.1), and_both (is_client n c) (nat_le 2 b.0) one t))
    (λ t. no_some m (rw t at b.2))

step_is : (n : ℕ) (line words : List ℕ) (m : Move) → line ≡ codes "step " ++ words → step_in n words ≡ Some m → Says n line m
step_is n line words m e h =
    elim (map_or_is (λ (w : List ℕ × List ℕ). option_and_then (λ (c : ℕ). option_and_then (repeat_of c) (numeral_in w.1)) (client_in n w.0)) (act_in n act.Step words) (around 32 words) (Some m) h) [
      | inl two ↦
          let c = bind_is (λ (c : ℕ). option_and_then (repeat_of c) (numeral_in two.0.1)) (client_in n two.0.0) m two.2 in
          let one = client_is n two.0.0 c.0 c.1 in
          repeat_is n line two.0.0 two.0.1 c.0 m (e ∙ ap (λ (x : List ℕ). codes "step " ++ x) (around_is words two.0 two.1)) one.0 one.1 c.2
      | inr one ↦ let a = act_said n act.Step words m one.1 in subst (Says n line) a.1 ((words, e, a.2), a.3)
    ]

clock_is : (n : ℕ) (line word : List ℕ) (m : Move) → line ≡ codes "clock " ++ word → clock_in word ≡ Some m → Says n line m
clock_is n line word m e h =
    let b = bind_is clock_of (numeral_in word) m h in
    by_test (nat_le b.0 9007199254740992)
    (λ t.
    let late : int_le (pos b.0) latest ≡ true = grind (arith, nat_tests) in
    let early : int_le (pos 0) (pos b.0) ≡ true = grind (arith, nat_tests) in
    subst (Says n line) (some_is (move.Act (act.Clock (pos b.0))) m (rw t at b.2)) ((word, e, counted_is word b.0 b.1), and_both (int_le (pos 0) (pos b.0)) (int_le (pos b.0) latest) early late))
    (λ t. no_some m (rw t at b.2))

rest_is : (n : ℕ) (line : List ℕ) (m : Move) → rest_in line ≡ Some m → Says n line m
rest_is n line m h =
    by_test (bytes_eq line (codes "rest"))
    (λ t. subst (Says n line) (some_is move.Rest m (rw t at h)) (same_bytes line (codes "rest") t, refl))
    (λ t. no_some m (rw t at h))

land_is : (n : ℕ) (line word : List ℕ) (m : Move) → line ≡ codes "land " ++ word → land_in word ≡ Some m → Says n line m
land_is n line word m e h =
    let b = bind_is land_of (numeral_in word) m h in
    by_test (is_delayed_number b.0)
    (λ t. subst (Says n line) (some_is (move.Act (act.Land b.0)) m (rw t at b.2)) ((word, e, counted_is word b.0 b.1), t))
    (λ t. no_some m (rw t at b.2))

clock_or_is : (n : ℕ) (line : List ℕ) (m : Move) → clock_or line ≡ Some m → Says n line m
clock_or_is n line m h =
    elim (map_or_is clock_in (rest_in line) (after_front (codes "clock ") line) (Some m) h) [
      | inl f ↦ clock_is n line f.0 m (is_front (codes "clock ") line f.0 f.1) f.2
      | inr g ↦ rest_is n line m g.1
    ]

stop_or_is : (n : ℕ) (line : List ℕ) (m : Move) → stop_or n line ≡ Some m → Says n line m
stop_or_is n line m h =
    elim (map_or_is (act_in n act.Stop) (clock_or line) (after_front (codes "stop ") line) (Some m) h) [
      | inl f ↦ let a = act_said n act.Stop f.0 m f.2 in subst (Says n line) a.1 ((f.0, is_front (codes "stop ") line f.0 f.1, a.2), a.3)
      | inr g ↦ clock_or_is n line m g.1
    ]

land_or_is : (n : ℕ) (line : List ℕ) (m : Move) → land_or n line ≡ Some m → Says n line m
land_or_is n line m h =
    elim (map_or_is land_in (stop_or n line) (after_front (codes "land ") line) (Some m) h) [
      | inl f ↦ land_is n line f.0 m (is_front (codes "land ") line f.0 f.1) f.2
      | inr g ↦ stop_or_is n line m g.1
    ]

delay_or_is : (n : ℕ) (line : List ℕ) (m : Move) → delay_or n line ≡ Some m → Says n line m
delay_or_is n line m h =
    elim (map_or_is (act_in n act.Delay) (land_or n line) (after_front (codes "delay ") line) (Some m) h) [
      | inl f ↦ let a = act_said n act.Delay f.0 m f.2 in subst (Says n line) a.1 ((f.0, is_front (codes "delay ") line f.0 f.1, a.2), a.3)
      | inr g ↦ land_or_is n line m g.1
    ]

drop_or_is : (n : ℕ) (line : List ℕ) (m : Move) → drop_or n line ≡ Some m → Says n line m
drop_or_is n line m h =
    elim (map_or_is (act_in n act.Discard) (delay_or n line) (after_front (codes "drop ") line) (Some m) h) [
      | inl f ↦ let a = act_said n act.Discard f.0 m f.2 in subst (Says n line) a.1 ((f.0, is_front (codes "drop ") line f.0 f.1, a.2), a.3)
      | inr g ↦ delay_or_is n line m g.1
    ]

lose_or_is : (n : ℕ) (line : List ℕ) (m : Move) → lose_or n line ≡ Some m → Says n line m
lose_or_is n line m h =
    elim (map_or_is (act_in n act.Lose) (drop_or n line) (after_front (codes "lose ") line) (Some m) h) [
      | inl f ↦ let a = act_said n act.Lose f.0 m f.2 in subst (Says n line) a.1 ((f.0, is_front (codes "lose ") line f.0 f.1, a.2), a.3)
      | inr g ↦ drop_or_is n line m g.1
    ]

step_or_is : (n : ℕ) (line : List ℕ) (m : Move) → step_or n line ≡ Some m → Says n line m
step_or_is n line m h =
    elim (map_or_is (step_in n) (lose_or n line) (after_front (codes "step ") line) (Some m) h) [
      | inl f ↦ step_is n line f.0 m (is_front (codes "step ") line f.0 f.1) f.2
      | inr g ↦ lose_or_is n line m g.1
    ]

pub move_is : (n : ℕ) (line : List ℕ) (m : Move) → move_in n line ≡ Some m → IsMoveText line m × (is_move n m ≡ true)
unfolding move_in
move_is n line m h =
    elim (map_or_is alter_in (step_or n line) (after_front (codes "alter ") line) (Some m) h) [
      | inl f ↦ alter_is n line f.0 m (is_front (codes "alter ") line f.0 f.1) f.2
      | inr g ↦ step_or_is n line m g.1
    ]

---- what is said is read

client_again : (n : ℕ) (word : List ℕ) (c : ℕ) → Counts word c → is_client n c ≡ true → client_in n word ≡ Some c
client_again n word c k one = rw (counted_again word c k, one) refl

step_again : (n : ℕ) (word : List ℕ) (c : ℕ) → Counts word c → is_client n c ≡ true → step_in n word ≡ Some (move.Act (act.Step c))
step_again n word c k one = rw (around_none word (numeral_no_space word k.0), client_again n word c k one) refl

repeat_again : (n : ℕ) (word more : List ℕ) (c k : ℕ) → Counts word c → Counts more k → is_client n c ≡ true → nat_le 2 k ≡ true → step_in n (word ++ 32 ∷ more) ≡ Some (move.Repeat c k)
repeat_again n word more c k one two client ge = rw (around_again word more (numeral_no_space word one.0), client_again n word c one client, counted_again more k two, ge) refl

act_again : (n : ℕ) (made : ℕ → Act) (word : List ℕ) (c : ℕ) → Counts word c → is_client n c ≡ true → act_in n made word ≡ Some (move.Act (made c))
act_again n made word c k one = ap (option_map (λ (x : ℕ). move.Act (made x))) (client_again n word c k one)

clock_again : (word : List ℕ) (ms : ℕ) → Counts word ms → int_le (pos ms) latest ≡ true → clock_in word ≡ Some (move.Act (act.Clock (pos ms)))
clock_again word ms k late =
    let t : nat_le ms 9007199254740992 ≡ true = grind (arith, nat_tests) in
    rw (counted_again word ms k, t) refl

land_again : (word : List ℕ) (k : ℕ) → Counts word k → is_delayed_number k ≡ true → land_in word ≡ Some (move.Act (act.Land k))
land_again word k counts fits = rw (counted_again word k counts, fits) refl

act_line_again : (n : ℕ) (line : List ℕ) (a : Act) → IsActText line a → is_act n a ≡ true → move_in n line ≡ Some (move.Act a)
unfolding move_in
act_line_again n line (act.Step c) s h = subst (λ (x : List ℕ). move_in n x ≡ Some (move.Act (act.Step c))) (sym s.1) (step_again n s.0 c s.2 h)
act_line_again n line (act.Lose c) s h = subst (λ (x : List ℕ). move_in n x ≡ Some (move.Act (act.Lose c))) (sym s.1) (act_again n act.Lose s.0 c s.2 h)
act_line_again n line (act.Discard c) s h = subst (λ (x : List ℕ). move_in n x ≡ Some (move.Act (act.Discard c))) (sym s.1) (act_again n act.Discard s.0 c s.2 h)
act_line_again n line (act.Delay c) s h = subst (λ (x : List ℕ). move_in n x ≡ Some (move.Act (act.Delay c))) (sym s.1) (act_again n act.Delay s.0 c s.2 h)
act_line_again n line (act.Land k) s h = subst (λ (x : List ℕ). move_in n x ≡ Some (move.Act (act.Land k))) (sym s.1) (land_again s.0 k s.2 h)
act_line_again n line (act.Stop c) s h = subst (λ (x : List ℕ). move_in n x ≡ Some (move.Act (act.Stop c))) (sym s.1) (act_again n act.Stop s.0 c s.2 h)
act_line_again n line (act.Clock (pos ms)) s h =
    subst (λ (x : List ℕ). move_in n x ≡ Some (move.Act (act.Clock (pos ms)))) (sym s.1) (clock_again s.0 ms s.2 (and_second (int_le (pos 0) (pos ms)) _ h))
act_line_again n line (act.Clock (negsuc ms)) s h = absurd s
act_line_again n line (act.Alter t c k) s h = subst (λ (x : List ℕ). move_in n x ≡ Some (move.Act (act.Alter t c k))) (sym s.1) (alter_again t c s.0 k h s.2)

pub move_again : (n : ℕ) (line : List ℕ) (m : Move) → IsMoveText line m → is_move n m ≡ true → move_in n line ≡ Some m
unfolding move_in
move_again n line (move.Act a) s h = act_line_again n line a s h
move_again n line (move.Repeat c k) s h =
    subst (λ (x : List ℕ). move_in n x ≡ Some (move.Repeat c k)) (sym s.2) (repeat_again n s.0 s.1 c k s.3 s.4 (and_first (is_client n c) _ h) (and_second (is_client n c) _ h))
move_again n line move.Rest s h = subst (λ (x : List ℕ). move_in n x ≡ Some move.Rest) (sym s) refl

---- the one spelling of a move within the limits

client_small : (n c : ℕ) → n ≤ 64 → is_client n c ≡ true → c < 2 ^ 64
client_small n c few h = let k = and_second (nat_le 1 c) _ h in grind (arith, nat_tests)

numbered : (front line : List ℕ) (n c : ℕ) → n ≤ 64 → is_client n c ≡ true → (word : List ℕ) × (line ≡ front ++ word) × Counts word c → line ≡ front ++ decimal c
numbered front line n c few h s = s.1 ∙ ap (λ (x : List ℕ). front ++ x) (counts_text s.0 c s.2 (client_small n c few h))

delayed_small : (k : ℕ) → is_delayed_number k ≡ true → k < 2 ^ 64
delayed_small k h = let e = and_second (nat_le 1 k) (nat_le k most_moves) h in grind (arith, nat_tests)

-- A test that each line in its one spelling passes that adds a column.
abbrev pub PassesAlters : (List ℕ → Bool) → Type 0
PassesAlters p = (t : TableName) (c : List ℕ) (k : Kind) → are_names t.ns t.table c ≡ true → p (act_line (act.Alter t c k)) ≡ true

-- where a line passes such a test, its act's one spelling does
act_kept : (p : List ℕ → Bool) (n : ℕ) (line : List ℕ) (a : Act) → PassesAlters p → n ≤ 64 → is_act n a ≡ true → IsActText line a → p line ≡ true → p (act_line a) ≡ true
act_kept p n line (act.Step c) alters few h s ok = subst (λ (x : List ℕ). p x ≡ true) (numbered (codes "step ") line n c few h s) ok
act_kept p n line (act.Lose c) alters few h s ok = subst (λ (x : List ℕ). p x ≡ true) (numbered (codes "lose ") line n c few h s) ok
act_kept p n line (act.Discard c) alters few h s ok = subst (λ (x : List ℕ). p x ≡ true) (numbered (codes "drop ") line n c few h s) ok
act_kept p n line (act.Delay c) alters few h s ok = subst (λ (x : List ℕ). p x ≡ true) (numbered (codes "delay ") line n c few h s) ok
act_kept p n line (act.Land k) alters few h s ok =
    subst (λ (x : List ℕ). p x ≡ true) (s.1 ∙ ap (λ (x : List ℕ). codes "land " ++ x) (counts_text s.0 k s.2 (delayed_small k h))) ok
act_kept p n line (act.Stop c) alters few h s ok = subst (λ (x : List ℕ). p x ≡ true) (numbered (codes "stop ") line n c few h s) ok
act_kept p n line (act.Clock (pos ms)) alters few h s ok =
    let late = and_second (int_le (pos 0) (pos ms)) _ h in
    let small : ms < 2 ^ 64 = grind (arith, nat_tests) in
    subst (λ (x : List ℕ). p x ≡ true) (s.1 ∙ ap (λ (x : List ℕ). codes "clock " ++ x) (counts_text s.0 ms s.2 small)) ok
act_kept p n line (act.Clock (negsuc ms)) alters few h s ok = absurd s
act_kept p n line (act.Alter t c k) alters few h s ok = alters t c k h

move_kept : (p : List ℕ → Bool) (n : ℕ) (line : List ℕ) (m : Move) → PassesAlters p → n ≤ 64 → is_move n m ≡ true → turns m ≤ 200000 → IsMoveText line m → p line ≡ true → p (move_line m) ≡ true
move_kept p n line (move.Act a) alters few h small s ok = act_kept p n line a alters few h s ok
move_kept p n line (move.Repeat c k) alters few h small s ok =
    let lt : k < 2 ^ 64 = omega arith in
    subst (λ (x : List ℕ). p x ≡ true)
    (s.2 ∙ ap (λ (x : List ℕ). codes "step " ++ (x ++ 32 ∷ s.1)) (counts_text s.0 c s.3 (client_small n c few (and_first (is_client n c) _ h)))
    ∙ ap (λ (x : List ℕ). codes "step " ++ (decimal c ++ 32 ∷ x)) (counts_text s.1 k s.4 lt)) ok
move_kept p n line move.Rest alters few h small s ok = subst (λ (x : List ℕ). p x ≡ true) s ok

-- where each line passes such a test, the one spelling of each move does
pub moves_kept : (p : List ℕ → Bool) (n : ℕ) (lines : List (List ℕ)) (ms : List Move) → PassesAlters p → n ≤ 64 → All (λ m. is_move n m ≡ true) ms → turns_of ms ≤ 200000 → AreMoveTexts lines ms → list_all p lines ≡ true → list_all p (map move_line ms) ≡ true
moves_kept p n [] [] alters few are small s ok = refl
moves_kept p n (line ∷ lines) (m ∷ ms) alters few are small s ok =
    let sum = sum_by-cons turns m ms in
    and_both (p (move_line m)) (list_all p (map move_line ms))
    (move_kept p n line m alters few (All-head (λ (x : Move). is_move n x ≡ true) m ms are) (omega (arith, small, sum)) s.0 (and_first (p line) (list_all p lines) ok))
    (moves_kept p n lines ms alters few (All-tail (λ (x : Move). is_move n x ≡ true) m ms are) (omega (arith, small, sum)) s.1 (and_second (p line) (list_all p lines) ok))
moves_kept p n [] (m ∷ ms) alters few are small s ok = absurd s
moves_kept p n (line ∷ lines) [] alters few are small s ok = absurd s

said : (n c : ℕ) → n ≤ 64 → is_client n c ≡ true → Counts (decimal c) c
said n c few h = text_counts c (client_small n c few h)

text_act : (n : ℕ) (a : Act) → n ≤ 64 → is_act n a ≡ true → IsActText (act_line a) a
text_act n (act.Step c) few h = (decimal c, refl, said n c few h)
text_act n (act.Lose c) few h = (decimal c, refl, said n c few h)
text_act n (act.Discard c) few h = (decimal c, refl, said n c few h)
text_act n (act.Delay c) few h = (decimal c, refl, said n c few h)
text_act n (act.Land k) few h = (decimal k, refl, text_counts k (delayed_small k h))
text_act n (act.Stop c) few h = (decimal c, refl, said n c few h)
text_act n (act.Clock (pos ms)) few h =
    let late = and_second (int_le (pos 0) (pos ms)) _ h in
    let small : ms < 2 ^ 64 = grind (arith, nat_tests) in
    (decimal ms, refl, text_counts ms small)
text_act n (act.Alter t c k) few h = (kind_text k, refl, kind_again k)
text_act n (act.Clock (negsuc ms)) few h = absurd (let k : false ≡ true = and_first (int_le (pos 0) (negsuc ms)) (int_le (negsuc ms) latest) h in cc)

text_move : (n : ℕ) (m : Move) → n ≤ 64 → is_move n m ≡ true → turns m ≤ 200000 → IsMoveText (move_line m) m
text_move n (move.Act a) few h small = text_act n a few h
text_move n (move.Repeat c k) few h small =
    let lt : k < 2 ^ 64 = omega arith in
    (decimal c, decimal k, refl, said n c few (and_first (is_client n c) _ h), text_counts k lt)
text_move n move.Rest few h small = refl

pub text_moves : (n : ℕ) (ms : List Move) → n ≤ 64 → All (λ m. is_move n m ≡ true) ms → turns_of ms ≤ 200000 → AreMoveTexts (map move_line ms) ms
text_moves n [] few are small = tt
text_moves n (m ∷ ms) few are small =
    let sum = sum_by-cons turns m ms in
    (text_move n m few (All-head (λ (x : Move). is_move n x ≡ true) m ms are) (omega (arith, small, sum)), text_moves n ms few (All-tail (λ (x : Move). is_move n x ≡ true) m ms are) (omega (arith, small, sum)))
