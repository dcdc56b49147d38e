-- The records that a reader gives, to the end of a text, are those of the text.
use Rattle.std.proofs.Common.{◌≡◌, ℕ, zero, suc, ◌+◌, ◌<◌, ◌≤◌, ◌==◌, List, [], ◌∷◌, ◌++◌, length, Bool, true, false, cond, ◌||◌, refl, sym, ap, subst, ◌∙◌, arith, Some, None}
use Rattle.csv.specs.Machine.{Read, next_record, step, ends_at_end, is_end, fields_after, field_after}
use Rattle.csv.specs.Reading.{AreRecords, Reached, default_config, records, records_from}
use Rattle.csv.specs.declared.parser.State.{State}
use Rattle.csv.specs.declared.parser.State.TheVariants as st
use Rattle.csv.specs.declared.parser.Action.{Action}
use Rattle.csv.specs.declared.parser.Action.TheVariants as act

-- an action that ends a record leaves a state in which the end of the text ends none
abbrev Ends : State × Action → Type 0
Ends x = is_end x.1 ≡ true → ends_at_end x.0 ≡ false

choose : (b : Bool) (x y : State × Action) → Ends x → Ends y → Ends (cond b x y)
choose true x y p q = p
choose false x y p q = q

after : (b : Bool) → ends_at_end (cond b st.AfterCr st.StartRecord) ≡ false
after true = refl
after false = refl

skips : (s : State) → Ends (s, act.Skip)
skips s h = cc h

copies : (s : State) → Ends (s, act.Copy)
copies s h = cc h

parts : (s : State) → Ends (s, act.EndField)
parts s h = cc h

in_field-ends : (c : ℕ) → Ends (step default_config st.InField c)
in_field-ends c =
    choose (c == 44) (st.StartField, act.EndField) (cond ((c == 13) || (c == 10)) (cond (c == 13) st.AfterCr st.StartRecord, act.EndRecord) (st.InField, act.Copy)) (parts st.StartField)
    (choose ((c == 13) || (c == 10)) (cond (c == 13) st.AfterCr st.StartRecord, act.EndRecord) (st.InField, act.Copy) (λ h. after (c == 13)) (copies st.InField))

start_field-ends : (c : ℕ) → Ends (step default_config st.StartField c)
start_field-ends c = choose (c == 34) (st.InQuoted, act.Skip) (step default_config st.InField c) (skips st.InQuoted) (in_field-ends c)

start_record-ends : (c : ℕ) → Ends (step default_config st.StartRecord c)
start_record-ends c = choose ((c == 13) || (c == 10)) (st.StartRecord, act.Skip) (step default_config st.StartField c) (skips st.StartRecord) (start_field-ends c)

step-ends : (s : State) (c : ℕ) → Ends (step default_config s c)
step-ends st.StartRecord c = start_record-ends c
step-ends st.StartField c = start_field-ends c
step-ends st.InField c = in_field-ends c
step-ends st.InQuoted c = choose (c == 34) (st.AfterQuote, act.Skip) (st.InQuoted, act.Copy) (skips st.AfterQuote) (copies st.InQuoted)
step-ends st.InEscape c = copies st.InQuoted
step-ends st.AfterQuote c = choose (c == 34) (st.InQuoted, act.Copy) (step default_config st.InField c) (copies st.InQuoted) (in_field-ends c)
step-ends st.InComment c = choose (c == 10) (st.StartRecord, act.Skip) (st.InComment, act.Skip) (skips st.StartRecord) (skips st.InComment)
step-ends st.AfterCr c = choose (c == 10) (st.StartRecord, act.Skip) (step default_config st.StartRecord c) (skips st.StartRecord) (start_record-ends c)

-- a record takes a byte at least, where the end of the text would end none
abbrev Shorter : State → List ℕ → Read → Type 0
Shorter s xs r = (ends_at_end r.1 ≡ false) × (length r.2 ≤ length xs) × (ends_at_end s ≡ false → length r.2 < length xs)

shorter : (s : State) (fs : List (List ℕ)) (f xs : List ℕ) (r : Read) → next_record default_config s fs f xs ≡ Some r → Shorter s xs r
unfolding next_record
shorter s fs f [] r h =
    elim (ends_at_end s) as (λ b. cond b (Some (fs ++ (f ∷ []), st.StartRecord, [])) None ≡ Some r → (ends_at_end r.1 ≡ false) × (length r.2 ≤ 0) × (b ≡ false → length r.2 < 0)) [
      | true ↦ λ k.
          let e : (fs ++ (f ∷ []), st.StartRecord, []) ≡ r = cc in
          (ap (λ (q : Read). ends_at_end q.1) (sym e), subst (λ (q : Read). length q.2 ≤ 0) e (omega arith), λ n. absurd (cc))
      | false ↦ λ k. absurd (cc)
    ] h
shorter s fs f (c ∷ xs) r h =
    elim (is_end (step default_config s c).1) as (λ b. is_end (step default_config s c).1 ≡ b → cond b (Some (fields_after (step default_config s c).1 fs f, (step default_config s c).0, xs)) (next_record default_config (step default_config s c).0 (fields_after (step default_config s c).1 fs f) (field_after (step default_config s c).1 c f) xs) ≡ Some r → Shorter s (c ∷ xs) r) [
      | true ↦ λ q k.
          let e : (fields_after (step default_config s c).1 fs f, (step default_config s c).0, xs) ≡ r = cc in
          let n : length r.2 ≡ length xs = ap (λ (p : Read). length p.2) (sym e) in
          (ap (λ (p : Read). ends_at_end p.1) (sym e) ∙ step-ends s c q, omega arith, λ m. omega arith)
      | false ↦ λ q k.
          let ih = shorter (step default_config s c).0 (fields_after (step default_config s c).1 fs f) (field_after (step default_config s c).1 c f) xs r k in
          (ih.0, omega (arith, ih.1), λ m. omega (arith, ih.1))
    ] refl h

-- all records from a state, however many steps there are room for
all_from : (n : ℕ) (s : State) (xs : List ℕ) (rows : List (List (List ℕ))) → ends_at_end s ≡ false → length xs < n → AreRecords default_config s xs rows → records_from default_config n s xs ≡ rows
unfolding records_from Reached
all_from zero s xs rows b l h = absurd (omega arith)
all_from (suc n) s xs [] b l h =
    let e : next_record default_config s [] [] xs ≡ None = rw (h.2.0, h.2.1) h.3 in
    rw e refl
all_from (suc n) s xs (r ∷ rs) b l h =
    let p = h.2.0 in
    let e : next_record default_config s [] [] xs ≡ Some p = h.2.1 in
    let less = shorter s [] [] xs p e in
    let fewer : length p.2 < n = omega (arith, less.2 b) in
    let ih = all_from n p.1 p.2 rs less.0 fewer (h.0, h.1, h.2.3, h.3) in
    let same : r ≡ p.0 = h.2.2 in
    rw e (cc)

pub all-read : (xs : List ℕ) (rows : List (List (List ℕ))) → AreRecords default_config st.StartRecord xs rows → records default_config xs ≡ rows
all-read xs rows h = all_from (length xs + 1) st.StartRecord xs rows refl (omega arith) h
