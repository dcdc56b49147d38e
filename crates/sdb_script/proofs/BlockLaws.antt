-- Clients, of which the last may get further statements.
use Rattle.std.proofs.Common.{◌≡◌, ℕ, ◌||◌, Bool, true, false, List, [], ◌∷◌, ◌++◌, length, Option, Some, None, option_to_list, refl, sym, ap, subst, ◌∙◌, ◌≤◌, arith, Result, Ok, Err, OnOk, OnErr}
use Rattle.std.specs.Option.{option_map}
use Rattle.std.proofs.lemmas.List.{length-append}
use Rattle.sdb_model.specs.declared.script.ScriptClient.{ScriptClient}
use Rattle.std.specs.Str.{bytes_eq}
use Rattle.std.proofs.lemmas.List.Folds.{list_any-append}
use Rattle.sdb_script.specs.Begun.{last_count, is_known}
use Rattle.sdb_script.specs.Reading.{with_statement, add_text}

pub add_last : (done : List ScriptClient) (c : ScriptClient) (text : List ℕ) → add_text (done ++ c ∷ []) text ≡ done ++ with_statement c text ∷ []
add_last [] c text = refl
add_last (d ∷ []) c text = refl
add_last (d ∷ e ∷ done) c text = ap (λ (x : List ScriptClient). d ∷ x) (add_last (e ∷ done) c text)

pub count_last : (done : List ScriptClient) (c : ScriptClient) → last_count (done ++ c ∷ []) ≡ length c.statements
count_last [] c = refl
count_last (d ∷ []) c = refl
count_last (d ∷ e ∷ done) c = count_last (e ∷ done) c

-- a statement more of the last
pub add_to_last : (ended : List ScriptClient) (last : Option ScriptClient) (text : List ℕ) → (last ≡ None → ended ≡ []) → ended ++ option_to_list (option_map (λ (c : ScriptClient). with_statement c text) last) ≡ add_text (ended ++ option_to_list last) text
add_to_last ended (Some c) text h = sym (add_last ended c text)
add_to_last ended None text h = let none = h refl in rw none refl

pub count_of_last : (ended : List ScriptClient) (last : Option ScriptClient) → (last ≡ None → ended ≡ []) → last_count (option_to_list last) ≡ last_count (ended ++ option_to_list last)
count_of_last ended (Some c) h = sym (count_last ended c)
count_of_last ended None h = let none = h refl in rw none refl

---- at most 64 clients, and none where there is no last

abbrev pub IsKept : List ScriptClient → Option ScriptClient → Type 0
IsKept ended last = (length (ended ++ option_to_list last) ≤ 64) × (last ≡ None → ended ≡ [])

kept_more : (ended : List ScriptClient) (last : Option ScriptClient) (text : List ℕ) → IsKept ended last → IsKept ended (option_map (λ (c : ScriptClient). with_statement c text) last)
kept_more ended (Some c) text k = (omega (arith, k.0, length-append ended (c ∷ []), length-append ended (with_statement c text ∷ [])), λ e. absurd cc)
kept_more ended None text k = k

pub kept_still : {X E : Type 0} (r : Result X E) (ended : List ScriptClient) (old new : Option ScriptClient) (text : List ℕ) → IsKept ended old → OnOk r (new ≡ option_map (λ (c : ScriptClient). with_statement c text) old) → OnErr r (new ≡ old) → IsKept ended new
kept_still (Ok x) ended old new text k ok err = subst (IsKept ended) (sym ok) (kept_more ended old text k)
kept_still (Err e) ended old new text k ok err = subst (IsKept ended) (sym err) k

pub said_still : {X E : Type 0} (r : Result X E) (ended all : List ScriptClient) (old new : Option ScriptClient) (text : List ℕ) → IsKept ended old → ended ++ option_to_list old ≡ all → OnOk r (new ≡ option_map (λ (c : ScriptClient). with_statement c text) old) → OnOk r (ended ++ option_to_list new ≡ add_text all text)
said_still (Ok x) ended all old new text k is ok = ap (λ (o : Option ScriptClient). ended ++ option_to_list o) ok ∙ add_to_last ended old text k.1 ∙ ap (λ (cs : List ScriptClient). add_text cs text) is
said_still (Err e) ended all old new text k is ok = tt

---- names that are known

known_all : (ended all : List ScriptClient) (last : Option ScriptClient) (name : List ℕ) → ended ++ option_to_list last ≡ all → (is_known ended name || is_known (option_to_list last) name) ≡ is_known all name
known_all ended all last name is = sym (list_any-append (λ (c : ScriptClient). bytes_eq c.name name) ended (option_to_list last)) ∙ ap (λ (cs : List ScriptClient). is_known cs name) is

pub known_first : (ended all : List ScriptClient) (last : Option ScriptClient) (name : List ℕ) → is_known ended name ≡ true → ended ++ option_to_list last ≡ all → true ≡ is_known all name
known_first ended all last name h is = ap (λ (b : Bool). b || is_known (option_to_list last) name) (sym h) ∙ known_all ended all last name is

pub known_last : (ended all : List ScriptClient) (last : Option ScriptClient) (name : List ℕ) (b : Bool) → is_known ended name ≡ false → b ≡ is_known (option_to_list last) name → ended ++ option_to_list last ≡ all → b ≡ is_known all name
known_last ended all last name b h q is = q ∙ ap (λ (x : Bool). x || is_known (option_to_list last) name) (sym h) ∙ known_all ended all last name is
