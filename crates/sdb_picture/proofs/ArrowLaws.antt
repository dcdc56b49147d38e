-- Each call is one arrow, each text one statement, and each answer and each landing one mark.
use Rattle.std.proofs.Common.{◌≡◌, ℕ, ◌+◌, Bool, true, false, List, [], ◌∷◌, ◌++◌, refl, ap, ◌∙◌, if◌then◌else◌, ◌==◌}
use Rattle.std.specs.Prelude.{Option, Some, None, take}
use Rattle.std.specs.List.{filter_map, flat_map}
use Rattle.std.proofs.lemmas.List.Elements.{filter_map-append}
use Rattle.sdb_picture.specs.Types.{Answer, Event, How, Reply, Request}
use Rattle.sdb_types.specs.declared.record.Put.{Put}
use Rattle.sdb_types.specs.declared.record.Request.TheVariants as ask
use Rattle.sdb_model.specs.Rows.{Name}
use Rattle.sdb_model.specs.declared.event.Event.TheVariants as event
use Rattle.sdb_picture.specs.declared.effect.Effect.{Effect}
use Rattle.sdb_picture.specs.declared.effect.Stage.{Stage}
use Rattle.sdb_picture.specs.declared.effect.Verdict.{Verdict}
use Rattle.sdb_picture.specs.declared.lanes.Lanes.{Lanes}
use Rattle.sdb_picture.specs.Effects.{is_decision, may_change}
use Rattle.sdb_picture.specs.Known.{effect_at}
use Rattle.sdb_picture.specs.Lanes.{client_lane}
use Rattle.sdb_picture.specs.Arrows.{answer_at, answer_of, answers_from, arrow_of, calls_from, landing_of, landings_from, marks_in, statement_of, texts_from}
use Rattle.sdb_picture.specs.Marks.{Mark, Band, Decided, Rested, Ticked, answer_marks, effect_marks, groups_of, idle_marks, written_marks}

---- lists

skipped : {X : Type 0} (a b : List X) {c : List X} → a ≡ [] → b ≡ c → a ++ b ≡ c
skipped a b h k = rw h k

same_head : {X : Type 0} (x : X) {a b : List X} → a ≡ b → x ∷ a ≡ x ∷ b
same_head x h = ap (λ t. x ∷ t) h

joined : {X : Type 0} {a b c d : List X} → a ≡ c → b ≡ d → a ++ b ≡ c ++ d
joined h k = cc

---- what a call leaves has none of these marks

none_if : {X : Type 0} (f : Mark → Option X) (b d : Bool) (m n : Mark) → f m ≡ None → f n ≡ None → filter_map f (if b then (if d then m ∷ [] else n ∷ []) else []) ≡ []
none_if f true true m n h k = rw h refl
none_if f true false m n h k = rw k refl
none_if f false d m n h k = refl

-- nothing is read from decisions and bands
IsBlind : {X : Type 0} → (Mark → Option X) → Type 0
IsBlind f =
    ((row store : ℕ) (verdict : Verdict) (effect : Effect) → f (Decided row store verdict effect) ≡ None)
    × ((lane row rows : ℕ) (stage : Stage) (effect : Effect) → f (Band lane row rows stage effect) ≡ None)

no_written_mark : {X : Type 0} (f : Mark → Option X) → IsBlind f → (lanes : Lanes) (past : List Event) (row : ℕ) (store : Name) (q : Request) (effect : Put → Effect) (rest : List Event) (puts : List Put)
    → filter_map f (flat_map (λ p. written_marks lanes past row store q p.rec p.condition (effect p) rest) puts) ≡ []
unfolding IsBlind
no_written_mark f blind lanes past row store q effect rest [] = refl
no_written_mark f blind lanes past row store q effect rest (p ∷ ps) =
    filter_map-append f (written_marks lanes past row store q p.rec p.condition (effect p) rest) _
    ∙ skipped _ _ (none_if f (may_change (effect p)) (is_decision p.rec) _ _ (blind.0 _ _ _ _) (blind.1 _ _ _ _ _)) (no_written_mark f blind lanes past row store q effect rest ps)

no_effect_mark : {X : Type 0} (f : Mark → Option X) → IsBlind f → (lanes : Lanes) (past : List Event) (row : ℕ) (store : Name) (q : Request) (how : How) (r : Reply) (rest : List Event) → filter_map f (effect_marks lanes past row store q how r rest) ≡ []
unfolding IsBlind
no_effect_mark f blind lanes past row store (ask.Get key) how r rest = refl
no_effect_mark f blind lanes past row store (ask.Scan span) how r rest = refl
no_effect_mark f blind lanes past row store (ask.PutIf w condition) how r rest =
    none_if f (may_change (effect_at past store w.key (ask.PutIf w condition) how r)) (is_decision w) _ _ (blind.0 _ _ _ _) (blind.1 _ _ _ _ _)
no_effect_mark f blind lanes past row store (ask.DeleteIf key condition) how r rest = refl
no_effect_mark f blind lanes past row store (ask.PutAll batch) how r rest = no_written_mark f blind lanes past row store (ask.PutAll batch) (λ p. effect_at past store p.rec.key (ask.PutAll batch) how r) rest batch

-- what is read from a call's effect and answer is read from its answer
after_effect : {X : Type 0} (f : Mark → Option X) → IsBlind f → (lanes : Lanes) (past : List Event) (row : ℕ) (store : Name) (q : Request) (how : How) (r : Reply) (rest : List Event) (more : List Mark) → filter_map f (effect_marks lanes past row store q how r rest ++ more) ≡ filter_map f more
after_effect f blind lanes past row store q how r rest more =
    filter_map-append f (effect_marks lanes past row store q how r rest) more
    ∙ skipped _ _ (no_effect_mark f blind lanes past row store q how r rest) refl

-- nothing is read from what is idle
IsDeaf : {X : Type 0} → (Mark → Option X) → Type 0
IsDeaf f = ((row : ℕ) (text : List ℕ) → f (Ticked row text) ≡ None) × ((row client : ℕ) (text : List ℕ) → f (Rested row client text) ≡ None)

one_of_two : {X : Type 0} (f : Mark → Option X) (b : Bool) (m n : Mark) → f m ≡ None → f n ≡ None → filter_map f (if b then m ∷ [] else n ∷ []) ≡ []
one_of_two f true m n h k = rw h refl
one_of_two f false m n h k = rw k refl

no_idle_mark : {X : Type 0} (f : Mark → Option X) → IsDeaf f → (lanes : Lanes) (row client : ℕ) → filter_map f (idle_marks lanes row client) ≡ []
unfolding IsDeaf
no_idle_mark f deaf lanes row client = one_of_two f (client == 0) _ _ (deaf.0 _ _) (deaf.1 _ _ _)

---- calls

arrow_blind : IsBlind arrow_of
unfolding IsBlind
arrow_blind = (λ row store verdict effect. refl, λ lane row rows stage effect. refl)

arrow_deaf : IsDeaf arrow_of
unfolding IsDeaf
arrow_deaf = (λ row text. refl, λ row client text. refl)

no_answer_arrow : (row client : ℕ) (given : Option Answer) → filter_map arrow_of (answer_marks row client given) ≡ []
no_answer_arrow row client None = refl
no_answer_arrow row client (Some a) = refl

pub groups_have_calls : (lanes : Lanes) (events : List Event) (row : ℕ) (es : List Event) → marks_in arrow_of (groups_of lanes events row es) ≡ calls_from lanes row es
groups_have_calls lanes events row [] = refl
groups_have_calls lanes events row (event.Take client text given ∷ es) =
    skipped _ _ (no_answer_arrow row (client_lane lanes client) given) (groups_have_calls lanes events (row + 1) es)
groups_have_calls lanes events row (event.Call client store q how r given ∷ es) =
    same_head _
    (skipped _ _
    (after_effect arrow_of arrow_blind lanes (take row events) row store q how r es (answer_marks row (client_lane lanes client) given) ∙ no_answer_arrow row (client_lane lanes client) given)
    (groups_have_calls lanes events (row + 1) es))
groups_have_calls lanes events row (event.Stop client ∷ es) = groups_have_calls lanes events (row + 1) es
groups_have_calls lanes events row (event.Clock moment ∷ es) = groups_have_calls lanes events (row + 1) es
groups_have_calls lanes events row (event.Alter table column kind altered ∷ es) = groups_have_calls lanes events (row + 1) es
groups_have_calls lanes events row (event.Idle client ∷ es) =
    skipped _ _ (no_idle_mark arrow_of arrow_deaf lanes row client) (groups_have_calls lanes events (row + 1) es)
groups_have_calls lanes events row (event.Land number store q how r ∷ es) =
    skipped _ _ (no_effect_mark arrow_of arrow_blind lanes (take row events) row store q how r es) (groups_have_calls lanes events (row + 1) es)

---- texts

statement_blind : IsBlind statement_of
unfolding IsBlind
statement_blind = (λ row store verdict effect. refl, λ lane row rows stage effect. refl)

statement_deaf : IsDeaf statement_of
unfolding IsDeaf
statement_deaf = (λ row text. refl, λ row client text. refl)

no_answer_statement : (row client : ℕ) (given : Option Answer) → filter_map statement_of (answer_marks row client given) ≡ []
no_answer_statement row client None = refl
no_answer_statement row client (Some a) = refl

pub groups_have_texts : (lanes : Lanes) (events : List Event) (row : ℕ) (es : List Event) → marks_in statement_of (groups_of lanes events row es) ≡ texts_from lanes row es
groups_have_texts lanes events row [] = refl
groups_have_texts lanes events row (event.Take client text given ∷ es) =
    same_head _ (skipped _ _ (no_answer_statement row (client_lane lanes client) given) (groups_have_texts lanes events (row + 1) es))
groups_have_texts lanes events row (event.Call client store q how r given ∷ es) =
    skipped _ _
    (after_effect statement_of statement_blind lanes (take row events) row store q how r es (answer_marks row (client_lane lanes client) given) ∙ no_answer_statement row (client_lane lanes client) given)
    (groups_have_texts lanes events (row + 1) es)
groups_have_texts lanes events row (event.Stop client ∷ es) = groups_have_texts lanes events (row + 1) es
groups_have_texts lanes events row (event.Clock moment ∷ es) = groups_have_texts lanes events (row + 1) es
groups_have_texts lanes events row (event.Alter table column kind altered ∷ es) = groups_have_texts lanes events (row + 1) es
groups_have_texts lanes events row (event.Idle client ∷ es) =
    skipped _ _ (no_idle_mark statement_of statement_deaf lanes row client) (groups_have_texts lanes events (row + 1) es)
groups_have_texts lanes events row (event.Land number store q how r ∷ es) =
    skipped _ _ (no_effect_mark statement_of statement_blind lanes (take row events) row store q how r es) (groups_have_texts lanes events (row + 1) es)

---- answers

answer_blind : IsBlind answer_of
unfolding IsBlind
answer_blind = (λ row store verdict effect. refl, λ lane row rows stage effect. refl)

answer_deaf : IsDeaf answer_of
unfolding IsDeaf
answer_deaf = (λ row text. refl, λ row client text. refl)

one_answer : (row client : ℕ) (given : Option Answer) → filter_map answer_of (answer_marks row client given) ≡ answer_at row client given
one_answer row client None = refl
one_answer row client (Some a) = refl

pub groups_have_answers : (lanes : Lanes) (events : List Event) (row : ℕ) (es : List Event) → marks_in answer_of (groups_of lanes events row es) ≡ answers_from lanes row es
groups_have_answers lanes events row [] = refl
groups_have_answers lanes events row (event.Take client text given ∷ es) =
    joined (one_answer row (client_lane lanes client) given) (groups_have_answers lanes events (row + 1) es)
groups_have_answers lanes events row (event.Call client store q how r given ∷ es) =
    joined
    (after_effect answer_of answer_blind lanes (take row events) row store q how r es (answer_marks row (client_lane lanes client) given) ∙ one_answer row (client_lane lanes client) given)
    (groups_have_answers lanes events (row + 1) es)
groups_have_answers lanes events row (event.Stop client ∷ es) = groups_have_answers lanes events (row + 1) es
groups_have_answers lanes events row (event.Clock moment ∷ es) = groups_have_answers lanes events (row + 1) es
groups_have_answers lanes events row (event.Alter table column kind altered ∷ es) = groups_have_answers lanes events (row + 1) es
groups_have_answers lanes events row (event.Idle client ∷ es) =
    skipped _ _ (no_idle_mark answer_of answer_deaf lanes row client) (groups_have_answers lanes events (row + 1) es)
groups_have_answers lanes events row (event.Land number store q how r ∷ es) =
    skipped _ _ (no_effect_mark answer_of answer_blind lanes (take row events) row store q how r es) (groups_have_answers lanes events (row + 1) es)

---- landings

landing_blind : IsBlind landing_of
unfolding IsBlind
landing_blind = (λ row store verdict effect. refl, λ lane row rows stage effect. refl)

landing_deaf : IsDeaf landing_of
unfolding IsDeaf
landing_deaf = (λ row text. refl, λ row client text. refl)

no_answer_landing : (row client : ℕ) (given : Option Answer) → filter_map landing_of (answer_marks row client given) ≡ []
no_answer_landing row client None = refl
no_answer_landing row client (Some a) = refl

pub groups_have_landings : (lanes : Lanes) (events : List Event) (row : ℕ) (es : List Event) → marks_in landing_of (groups_of lanes events row es) ≡ landings_from lanes row es
groups_have_landings lanes events row [] = refl
groups_have_landings lanes events row (event.Take client text given ∷ es) =
    skipped _ _ (no_answer_landing row (client_lane lanes client) given) (groups_have_landings lanes events (row + 1) es)
groups_have_landings lanes events row (event.Call client store q how r given ∷ es) =
    skipped _ _
    (after_effect landing_of landing_blind lanes (take row events) row store q how r es (answer_marks row (client_lane lanes client) given) ∙ no_answer_landing row (client_lane lanes client) given)
    (groups_have_landings lanes events (row + 1) es)
groups_have_landings lanes events row (event.Stop client ∷ es) = groups_have_landings lanes events (row + 1) es
groups_have_landings lanes events row (event.Clock moment ∷ es) = groups_have_landings lanes events (row + 1) es
groups_have_landings lanes events row (event.Alter table column kind altered ∷ es) = groups_have_landings lanes events (row + 1) es
groups_have_landings lanes events row (event.Idle client ∷ es) =
    skipped _ _ (no_idle_mark landing_of landing_deaf lanes row client) (groups_have_landings lanes events (row + 1) es)
groups_have_landings lanes events row (event.Land number store q how r ∷ es) =
    same_head _ (skipped _ _ (no_effect_mark landing_of landing_blind lanes (take row events) row store q how r es) (groups_have_landings lanes events (row + 1) es))
