-- A session, line by line.
use Rattle.std.proofs.Common.{◌≡◌, ◌≢◌, ◌≤◌, ℕ, ℤ, ◌+◌, Bool, true, false, not, List, [], ◌∷◌, ◌++◌, length, Option, Some, None, refl, sym, ap, subst, ◌∙◌, ◌⊎◌, inl, inr, append_assoc, length-append, arith}
use Rattle.std.specs.Prelude.{IfSome, IsSome, ◌&&◌, ◌==◌, ◌||◌, nat_le, nat_lt, option_map, if◌then◌else◌}
use Rattle.std.specs.List.{flat_map, list_all}
use Rattle.std.specs.Str.{is_utf8}
use Rattle.std.proofs.lemmas.List.{append-nil}
use Rattle.std.proofs.lemmas.Bool.Decides.{nat_tests}
use Rattle.sdb_types.specs.Bytes.{Appends, IsAtEnd, Takes}
use Rattle.sdb_types.specs.Draws.{IsAppended}
use Rattle.sdb_types.proofs.Public.{appends_more, takes_more}
use Rattle.sdb_schema.specs.declared.table.Table.{Table}
use Rattle.sdb_model.specs.Form.{lines_of, onto_first}
use Rattle.sdb_model.specs.Rows.{Name}
use Rattle.sdb_stores.specs.Views.{Attached, AreDistinct, home, place_of, route_of}
use Rattle.sdb_contents.specs.Board.{GoOn, HoldTheSame, contents_of_views}
use Rattle.sdb_contents.proofs.Public.{some_more}
use Rattle.sdb_client.specs.Client.{Parses, nothing_done}
use Rattle.law_clients.specs.Database.{Database, database_of}
use Rattle.law_clients.specs.Between.{Between}
use Rattle.law_clients.specs.Chain.{Chain, open_after}
use Rattle.law_clients.specs.Session.{Exchange, no_parts}
use Rattle.sdb_shell.specs.Answering.{database_in, exchange}
use Rattle.sdb_shell.specs.Drawn.{drawn_id}
use Rattle.sdb_shell.specs.Sessions.{IsSessionSoFar, SessionAt}
use Rattle.sdb_shell.proofs.Chains.{session_more, session_none, session_whole}
use Rattle.sdb_shell.specs.declared.lines.LineEnd.{LineEnd}
use Rattle.sdb_shell.specs.declared.lines.LineEnd.TheVariants as line_end
use Rattle.sdb_shell.specs.declared.refused.SessionRefused.{SessionRefused}
use Rattle.sdb_shell.specs.declared.refused.SessionRefused.TheVariants as refused
use Rattle.sdb_shell.specs.Answers.{answer_line_of}
use Rattle.sdb_shell.specs.Handed.{Handed}
use Rattle.sdb_shell.specs.Lines.{IsLine, has_lf, most_input, most_line, with_end}
use Rattle.sdb_shell.specs.Session.{AreExecutedFrom, CutShort, HasPassed, HasReplied, HasStopped, HasExecutedLine, IsAnsweredSoFar, IsCutLine, IsCutSession, IsSoFar, Refused, OutOfMemory, Starves, Unwritten, IsWhole, answer_lines, filled, is_line, is_text, with_lfs}

---- lists with one more

pub flat_more : {A B : Type 0} (f : A → List B) (xs : List A) (x : A) → flat_map f (xs ++ x ∷ []) ≡ flat_map f xs ++ f x
flat_more f [] x = append-nil (f x)
flat_more f (y ∷ xs) x = ap (λ ys. f y ++ ys) (flat_more f xs x) ∙ sym (append_assoc (f y) (flat_map f xs) (f x))

all_more : (p : List ℕ → Bool) (xs : List (List ℕ)) (x : List ℕ) → list_all p xs ≡ true → p x ≡ true → list_all p (xs ++ x ∷ []) ≡ true
all_more p [] x h k = ap (λ b. b && true) k
all_more p (y ∷ xs) x h k = by (p y) h (λ g. all_more p xs x g k)
  where
    by : (b : Bool) → (b && list_all p xs) ≡ true → (list_all p xs ≡ true → list_all p (xs ++ x ∷ []) ≡ true) → (b && list_all p (xs ++ x ∷ [])) ≡ true
    by true g rest = rest g
    by false g rest = absurd (cc)

filled_none : (xs : List (List ℕ)) → filled (xs ++ [] ∷ []) ≡ filled xs
filled_none [] = refl
filled_none (y ∷ xs) = by (nat_lt 0 (length y)) (filled_none xs)
  where
    by : (b : Bool) → filled (xs ++ [] ∷ []) ≡ filled xs → (if b then y ∷ filled (xs ++ [] ∷ []) else filled (xs ++ [] ∷ [])) ≡ (if b then y ∷ filled xs else filled xs)
    by true h = ap (λ ys. y ∷ ys) h
    by false h = h

filled_one : (xs : List (List ℕ)) (x : List ℕ) → x ≢ [] → filled (xs ++ x ∷ []) ≡ filled xs ++ x ∷ []
filled_one [] [] n = absurd (n refl)
filled_one [] (b ∷ x) n = let long : nat_lt 0 (length (b ∷ x)) ≡ true = grind (arith, nat_tests) in ap (λ t. if t then (b ∷ x) ∷ [] else []) long
filled_one (y ∷ xs) x n = by (nat_lt 0 (length y)) (filled_one xs x n)
  where
    by : (b : Bool) → filled (xs ++ x ∷ []) ≡ filled xs ++ x ∷ [] → (if b then y ∷ filled (xs ++ x ∷ []) else filled (xs ++ x ∷ [])) ≡ (if b then y ∷ filled xs else filled xs) ++ x ∷ []
    by true h = ap (λ ys. y ∷ ys) h
    by false h = h

taken_more : (ls : List (List ℕ)) (es : List Exchange) (l : List ℕ) (e : Exchange) → AreExecutedFrom ls es → Parses l e.says → AreExecutedFrom (ls ++ l ∷ []) (es ++ e ∷ [])
taken_more [] [] l e h s = (s, tt)
taken_more (k ∷ ls) (d ∷ es) l e h s = (h.0, taken_more ls es l e h.1 s)
taken_more [] (d ∷ es) l e h s = absurd h
taken_more (k ∷ ls) [] l e h s = absurd h

---- lines of a text

or_parts : (a b : Bool) → (a || b) ≡ false → (a ≡ false) × (b ≡ false)
or_parts false b h = (refl, h)
or_parts true b h = absurd (cc)

line_first : (l rest : List ℕ) → has_lf l ≡ false → lines_of (l ++ 10 ∷ rest) ≡ l ∷ lines_of rest
line_first [] rest h = refl
line_first (b ∷ l) rest h =
    let p = or_parts (b == 10) (has_lf l) h in
    ap (λ t. if t then [] ∷ lines_of (l ++ 10 ∷ rest) else onto_first b (lines_of (l ++ 10 ∷ rest))) p.0 ∙ ap (onto_first b) (line_first l rest p.1)

-- the last line, which has no LF
abbrev last_line : List ℕ → List (List ℕ)
last_line [] = []
last_line (b ∷ l) = (b ∷ l) ∷ []

line_last : (l : List ℕ) → has_lf l ≡ false → lines_of l ≡ last_line l
line_last [] h = refl
line_last (b ∷ l) h =
    let p = or_parts (b == 10) (has_lf l) h in
    ap (λ t. if t then [] ∷ lines_of l else onto_first b (lines_of l)) p.0 ∙ ap (onto_first b) (line_last l p.1) ∙ onto l
  where
    onto : (xs : List ℕ) → onto_first b (last_line xs) ≡ (b ∷ xs) ∷ []
    onto [] = refl
    onto (x ∷ xs) = refl

is_line_one : (l : List ℕ) → is_line l ≡ true → has_lf l ≡ false
is_line_one l h = by (has_lf l) h
  where
    by : (b : Bool) → (not b && (nat_le (length l) most_line && is_text l)) ≡ true → b ≡ false
    by true g = absurd (cc)
    by false g = refl

lines_whole : (ls : List (List ℕ)) (last : List ℕ) → list_all is_line ls ≡ true → has_lf last ≡ false → lines_of (with_lfs ls ++ last) ≡ ls ++ last_line last
lines_whole [] last h n = line_last last n
lines_whole (l ∷ ls) last h n = by (is_line l) refl h (λ g. lines_whole ls last g n)
  where
    by : (b : Bool) → is_line l ≡ b → (b && list_all is_line ls) ≡ true → (list_all is_line ls ≡ true → lines_of (with_lfs ls ++ last) ≡ ls ++ last_line last) → lines_of (((l ++ 10 ∷ []) ++ with_lfs ls) ++ last) ≡ l ∷ (ls ++ last_line last)
    by true e g rest = ap lines_of (append_assoc (l ++ 10 ∷ []) (with_lfs ls) last ∙ append_assoc l (10 ∷ []) (with_lfs ls ++ last)) ∙ line_first l (with_lfs ls ++ last) (is_line_one l e) ∙ ap (λ xs. l ∷ xs) (rest g)
    by false e g rest = absurd (cc)

utf8_text : (l : List ℕ) → is_utf8 l ≡ true → is_text l ≡ true
utf8_text [] h = refl
utf8_text (b ∷ l) h = h

line_fits : (l : List ℕ) → has_lf l ≡ false → length l ≤ most_line → is_utf8 l ≡ true → is_line l ≡ true
line_fits l one few utf8 =
    let text : is_text l ≡ true = utf8_text l utf8 in
    let low : nat_le (length l) most_line ≡ true = grind (arith, nat_tests) in
    ap (λ b. not b && (nat_le (length l) most_line && is_text l)) one ∙ ap (λ b. b && is_text l) low ∙ text

---- what is left

pub left_start : (bytes : List ℕ) (rem : Option (List ℕ)) → bytes ≡ [] → Takes [] rem (option_map (λ r. bytes ++ r) rem)
left_start bytes None e = refl
left_start bytes (Some r) e = ap (λ xs. Some (xs ++ r)) (sym e)

nil_parts : (xs ys : List ℕ) → xs ++ ys ≡ [] → (xs ≡ []) × (ys ≡ [])
nil_parts [] ys h = (refl, h)
nil_parts (x ∷ xs) ys h = absurd (let k : x ∷ (xs ++ ys) ≡ [] = h in cc)

pub at_end : (bytes : List ℕ) (rem : Option (List ℕ)) → IsAtEnd (option_map (λ r. bytes ++ r) rem) → IsAtEnd rem × (option_map (λ r. bytes ++ r) rem ≡ rem)
at_end bytes None h = (tt, refl)
at_end bytes (Some r) h = let p = nil_parts bytes r h in (p.1, ap (λ xs. Some (xs ++ r)) p.0)

---- the session

-- stores that hold what they held, at their places
same_database : (old new : Attached) → GoOn old new → HoldTheSame old new → database_in new ≡ database_in old
same_database old new goes held = ap (λ ps. database_of ps (contents_of_views new.views)) goes.places ∙ ap (λ ss. database_of old.places ss) held

session_same : (catalog : List Table) (old mid new : Attached) (clock clock_mid : Option (List ℤ)) (ids ids_mid : Option (List ℕ)) (es : List Exchange) (s : SessionAt) → IsSessionSoFar catalog old mid clock clock_mid ids ids_mid es s → GoOn mid new → HoldTheSame mid new → IsSessionSoFar catalog old new clock clock_mid ids ids_mid es s
session_same catalog old mid new clock clock_mid ids ids_mid es s so goes held = record {
  moments = so.moments;
  drawn = so.drawn;
  spare = so.spare;
  draws = so.draws;
  begun = so.begun;
  next_state = so.next_state;
  accepted = so.accepted;
  faults = elim so.faults [
    | inl few ↦ inl (omega (arith, few, goes.counted))
    | inr full ↦ inr (goes.full full)
  ];
  idle = so.idle;
  opened = so.opened;
  about = so.about;
  fit = λ f. goes.fit catalog (so.fit f);
  chain = λ f w n. subst (λ (g : Database). Chain catalog (database_in old) no_parts es g × Between catalog g (open_after es) s.client) (sym (same_database mid new goes held)) (so.chain f w n);
}

pub so_start : (catalog : List Table) (old : Attached) (clock : Option (List ℤ)) (ids ids_then : Option (List ℕ)) (written left left_then : Option (List ℕ)) (used : ℕ) (s : SessionAt) → s.client ≡ nothing_done 1 → ((draw : ℕ) × IsAppended draw ids ids_then × (s.fresh ≡ drawn_id draw)) → Takes [] left left_then → used ≡ 0 → IsSoFar catalog old old clock clock ids ids_then written written left left_then used 1 s
so_start catalog old clock ids ids_then written left left_then used s client fresh accepted none = record {
  lines = [];
  es = [];
  accepted = accepted;
  fit = refl;
  counted = none;
  number = refl;
  answered = tt;
  output = none_added written;
  session = subst (λ (x : SessionAt). IsSessionSoFar catalog old old clock clock ids ids_then [] x) (sym (ap (λ c. record { client = c; fresh = s.fresh }) client ∙ ap (λ i. record { client = nothing_done 1; fresh = i }) fresh.2)) (session_none catalog old clock ids ids_then 1 fresh.0 fresh.1);
}
  where
    none_added : (w : Option (List ℕ)) → Appends [] w w
    none_added None = refl
    none_added (Some w) = ap (λ xs. Some xs) (sym (append-nil w))

-- what callers know of it
answered_so_far : (catalog : List Table) (old new : Attached) (clock clock_then : Option (List ℤ)) (ids ids_then : Option (List ℕ)) (written written_then left left_then : Option (List ℕ)) (used n : ℕ) (s : SessionAt) → IsSoFar catalog old new clock clock_then ids ids_then written written_then left left_then used n s → IsAnsweredSoFar catalog old new clock clock_then ids ids_then written written_then left left_then used n
answered_so_far catalog old new clock clock_then ids ids_then written written_then left left_then used n s so = record {
  lines = so.lines;
  es = so.es;
  accepted = so.accepted;
  fit = so.fit;
  counted = so.counted;
  number = so.number;
  answered = so.answered;
  output = so.output;
  session = session_whole catalog old new clock clock_then ids ids_then so.es s so.session;
}

-- nothing was done since
so_passed : (catalog : List Table) (old mid new : Attached) (clock clock_mid clock_then : Option (List ℤ)) (ids ids_mid ids_then : Option (List ℕ)) (written written_mid written_then : Option (List ℕ)) (left left_mid : Option (List ℕ)) (used n : ℕ) (s t : SessionAt) → IsSoFar catalog old mid clock clock_mid ids ids_mid written written_mid left left_mid used n s → GoOn mid new → HasPassed (record { old = mid; new = new; clock = clock_mid; clock_then = clock_then; ids = ids_mid; ids_then = ids_then; written = written_mid; written_then = written_then }) s t → IsSoFar catalog old new clock clock_then ids ids_then written written_then left left_mid used n s
so_passed catalog old mid new clock clock_mid clock_then ids ids_mid ids_then written written_mid written_then left left_mid used n s t so goes h = record {
  lines = so.lines;
  es = so.es;
  accepted = so.accepted;
  fit = so.fit;
  counted = so.counted;
  number = so.number;
  answered = so.answered;
  output = subst (Appends (answer_lines so.es) written) (sym h.written_same) so.output;
  session = subst (λ i. IsSessionSoFar catalog old new clock clock_then ids i so.es s) (sym h.ids_same) (subst (λ c. IsSessionSoFar catalog old new clock c ids ids_mid so.es s) (sym h.clock_same) (session_same catalog old mid new clock clock_mid ids ids_mid so.es s so.session goes h.held));
}

-- the same stores, with the places and the known contents of those before them
session_held : (catalog : List Table) (old mid : Attached) (clock clock_mid : Option (List ℤ)) (ids ids_mid : Option (List ℕ)) (es : List Exchange) (s : SessionAt) → IsSessionSoFar catalog old mid clock clock_mid ids ids_mid es s → GoOn old mid → IsSessionSoFar catalog old (record old { views = mid.views }) clock clock_mid ids ids_mid es s
session_held catalog old mid clock clock_mid ids ids_mid es s so goes =
    let same : database_in (record old { views = mid.views }) ≡ database_in mid = ap (λ ps. database_of ps (contents_of_views mid.views)) (sym goes.places) in
    record {
      moments = so.moments;
      drawn = so.drawn;
      spare = so.spare;
      draws = so.draws;
      begun = so.begun;
      next_state = so.next_state;
      accepted = so.accepted;
      faults = so.faults;
      idle = so.idle;
      opened = so.opened;
      about = so.about;
      fit = λ f. record {
        some = some_more _ _ goes.names f.some;
        distinct = subst (λ (ns : List Name). AreDistinct ns) (sym goes.names) f.distinct;
        homed = λ ns. subst (λ (xs : List Name). IfSome (route_of ns old.places) (λ store. IsSome (place_of store xs))) (sym goes.names) (f.homed ns);
        where_known = λ table about. subst (λ (xs : List Name). old.known (home table.ns old.places xs)) (sym goes.names) (f.where_known table about);
      };
      chain = λ f w n. subst (λ (g : Database). Chain catalog (database_in old) no_parts es g × Between catalog g (open_after es) s.client) (sym same) (so.chain f w n);
    }

-- memory ran out, and nothing more was written
starves : (catalog : List Table) (old mid : Attached) (clock clock_mid : Option (List ℤ)) (ids ids_mid : Option (List ℕ)) (written written_mid written_then left left_mid : Option (List ℕ)) (remaining_then : Option (List ℕ)) {new : Attached} {clock_then : Option (List ℤ)} {ids_then : Option (List ℕ)} (used n : ℕ) (s : SessionAt) (why : SessionRefused)
    → IsSoFar catalog old mid clock clock_mid ids ids_mid written written_mid left left_mid used n s → GoOn old mid → why ≡ refused.NoMemory → written_then ≡ written_mid → IsCutSession catalog old new clock clock_then ids ids_then written written_then left remaining_then why
starves catalog old mid clock clock_mid ids ids_mid written written_mid written_then left left_mid remaining_then used n s why so goes is written_same = Starves is (record {
  n = n;
  used = used;
  left = left_mid;
  held = mid.views;
  clock_mid = clock_mid;
  ids_mid = ids_mid;
  before = record {
    lines = so.lines;
    es = so.es;
    accepted = so.accepted;
    fit = so.fit;
    counted = so.counted;
    number = so.number;
    answered = so.answered;
    output = subst (Appends (answer_lines so.es) written) (sym written_same) so.output;
    session = session_whole catalog old (record old { views = mid.views }) clock clock_mid ids ids_mid so.es s (session_held catalog old mid clock clock_mid ids ids_mid so.es s so.session goes);
  };
})

-- no number is left for a line
pub so_past : (catalog : List Table) (old new : Attached) (clock clock_then : Option (List ℤ)) (ids ids_then : Option (List ℕ)) (written written_then : Option (List ℕ)) (left left_mid : Option (List ℕ)) (remaining_then : Option (List ℕ)) (used n : ℕ) (s : SessionAt) → IsSoFar catalog old new clock clock_then ids ids_then written written_then left left_mid used n s → GoOn old new
    → IsCutSession catalog old new clock clock_then ids ids_then written written_then left remaining_then refused.NoMemory
so_past catalog old new clock clock_then ids ids_then written written_then left left_mid remaining_then used n s so goes = starves catalog old new clock clock_then ids ids_then written written_then written_then left left_mid remaining_then used n s refused.NoMemory so goes refl refl

module _ (catalog : List Table) (old mid new : Attached) (clock clock_mid clock_then : Option (List ℤ)) (ids ids_mid ids_then : Option (List ℕ)) (written written_mid written_then : Option (List ℕ)) (left left_mid left_then : Option (List ℕ)) (used used_then n : ℕ) (s t : SessionAt) (so : IsSoFar catalog old mid clock clock_mid ids ids_mid written written_mid left left_mid used n s) (goes : GoOn mid new) where
  -- what the line is handed
  abbrev u : Handed
  u = record { old = mid; new = new; clock = clock_mid; clock_then = clock_then; ids = ids_mid; ids_then = ids_then; written = written_mid; written_then = written_then }

  -- what a line comes to, however it ends
  record HasDone (line : List ℕ) : Type 0 where
    es : List Exchange
    fits : is_line line ≡ true
    answered : AreExecutedFrom (filled (so.lines ++ line ∷ [])) es
    output : Appends (answer_lines es) written written_then
    session : IsSessionSoFar catalog old new clock clock_then ids ids_then es t

  passed : (line : List ℕ) → has_lf line ≡ false → length line ≤ most_line → line ≡ [] → HasPassed u s t → HasDone line
  passed line one few none h = record {
    es = so.es;
    fits = subst (λ l. is_line l ≡ true) (sym none) refl;
    answered = subst (λ ls. AreExecutedFrom ls so.es) (sym (ap (λ l. filled (so.lines ++ l ∷ [])) none ∙ filled_none so.lines)) so.answered;
    output = subst (Appends (answer_lines so.es) written) (sym h.written_same) so.output;
    session = subst (λ (x : SessionAt). IsSessionSoFar catalog old new clock clock_then ids ids_then so.es x) (sym h.same)
        (subst (λ i. IsSessionSoFar catalog old new clock clock_then ids i so.es s) (sym h.ids_same) (subst (λ c. IsSessionSoFar catalog old new clock c ids ids_mid so.es s) (sym h.clock_same) (session_same catalog old mid new clock clock_mid ids ids_mid so.es s so.session goes h.held)));
  }

  replied : (line : List ℕ) → has_lf line ≡ false → length line ≤ most_line → line ≢ [] → is_utf8 line ≡ true → HasReplied catalog line u s t → HasDone line
  replied line one few some utf8 h =
      let e : Exchange = exchange h.answered.answered.says h.answered.now s.fresh h.answer in
      record {
        es = so.es ++ e ∷ [];
        fits = line_fits line one few utf8;
        answered = subst (λ ls. AreExecutedFrom ls (so.es ++ e ∷ [])) (sym (filled_one so.lines line some)) (taken_more (filled so.lines) so.es line e so.answered h.answered.answered.reads);
        output = subst (λ bs. Appends bs written written_then) (sym (flat_more (λ (x : Exchange). answer_line_of x.answer) so.es e)) (appends_more (answer_lines so.es) (answer_line_of h.answer) written written_mid written_then so.output h.put);
        session = session_more catalog old mid new clock clock_mid clock_then ids ids_mid ids_then so.es s t line h.answer so.session h.answered goes;
      }

  -- a statement stops the session
  stopped : (goes_mid : GoOn old mid) (ahead : List ℕ) (remaining_then : Option (List ℕ)) (why : SessionRefused) (end : LineEnd) (line : List ℕ) → IsLine left_mid (option_map (λ rest. ahead ++ rest) remaining_then) used used_then end line → line ≢ [] → is_utf8 line ≡ true → HasStopped catalog line u s t why
      → IsCutSession catalog old new clock clock_then ids ids_then written written_then left remaining_then why
  stopped goes_mid ahead remaining_then why end line read some utf8 (OutOfMemory is written_same) = starves catalog old mid clock clock_mid ids ids_mid written written_mid written_then left left_mid remaining_then used n s why so goes_mid is written_same
  stopped goes_mid ahead remaining_then why end line read some utf8 (Unwritten kind a answered put) =
      let e : Exchange = exchange answered.answered.says answered.now s.fresh a in
      CutShort kind (record {
        lines = so.lines;
        line = line;
        end = end;
        es = so.es;
        last = e;
        ahead = ahead;
        written_mid = written_mid;
        accepted = takes_more (with_lfs so.lines) (with_end end line) left left_mid (option_map (λ rest. ahead ++ rest) remaining_then) so.accepted read.accepted;
        fit = so.fit;
        fits = line_fits line read.one read.fits utf8;
        some = some;
        answered = taken_more (filled so.lines) so.es line e so.answered answered.answered.reads;
        output = so.output;
        prefix = put;
        session = session_whole catalog old new clock clock_then ids ids_then (so.es ++ e ∷ []) t (session_more catalog old mid new clock clock_mid clock_then ids ids_mid ids_then so.es s t line a so.session answered goes);
      })

  done_of : (line : List ℕ) → has_lf line ≡ false → length line ≤ most_line → ((line ≡ []) × HasPassed u s t) ⊎ ((line ≢ []) × (is_utf8 line ≡ true) × HasReplied catalog line u s t) → HasDone line
  done_of line one few (inl h) = passed line one few h.0 h.1
  done_of line one few (inr h) = replied line one few h.0 h.1 h.2

  pub so_more : HasExecutedLine catalog u (record { left = left_mid; left_then = left_then; used = used; used_then = used_then }) s t line_end.Lf → IsSoFar catalog old new clock clock_then ids ids_then written written_then left left_then used_then (n + 1) t
  so_more h =
      let d = done_of h.line h.read.one h.read.fits h.done in
      let grown : with_lfs (so.lines ++ h.line ∷ []) ≡ with_lfs so.lines ++ (h.line ++ 10 ∷ []) = flat_more (λ l. l ++ 10 ∷ []) so.lines h.line in
      record {
        lines = so.lines ++ h.line ∷ [];
        es = d.es;
        accepted = subst (λ bs. Takes bs left left_then) (sym grown) (takes_more (with_lfs so.lines) (h.line ++ 10 ∷ []) left left_mid left_then so.accepted h.read.accepted);
        fit = all_more is_line so.lines h.line so.fit d.fits;
        counted = h.read.counted ∙ ap (λ k. k + length (h.line ++ 10 ∷ [])) so.counted ∙ sym (length-append (with_lfs so.lines) (h.line ++ 10 ∷ [])) ∙ ap length (sym grown);
        number = ap (λ k. k + 1) (so.number ∙ sym (length-append so.lines (h.line ∷ [])));
        answered = d.answered;
        output = d.output;
        session = d.session;
      }

  pub so_whole : HasExecutedLine catalog u (record { left = left_mid; left_then = left_then; used = used; used_then = used_then }) s t line_end.Input → used_then ≤ most_input → (remaining_then : Option (List ℕ)) → IsAtEnd remaining_then → left_then ≡ remaining_then → IsWhole catalog old new clock clock_then ids ids_then written written_then left remaining_then
  so_whole h few remaining_then ends same =
      let d = done_of h.line h.read.one h.read.fits h.done in
      let text : List ℕ = with_lfs so.lines ++ h.line in
      let size : length text ≡ used_then = length-append (with_lfs so.lines) h.line ∙ ap (λ k. k + length h.line) (sym so.counted) ∙ sym h.read.counted in
      let cut : lines_of text ≡ so.lines ++ last_line h.line = lines_whole so.lines h.line so.fit h.read.one in
      record {
        text = text;
        es = d.es;
        accepted = subst (Takes text left) same (takes_more (with_lfs so.lines) h.line left left_mid left_then so.accepted h.read.accepted);
        ends = ends;
        most = subst (λ k. k ≤ most_input) (sym size) few;
        fit = subst (λ ls. list_all is_line ls ≡ true) (sym cut) (last_fits h.line d.fits);
        answered = subst (λ ls. AreExecutedFrom ls d.es) (sym (ap filled cut ∙ last_filled h.line)) d.answered;
        output = d.output;
        session = session_whole catalog old new clock clock_then ids ids_then d.es t d.session;
      }
    where
      last_fits : (l : List ℕ) → is_line l ≡ true → list_all is_line (so.lines ++ last_line l) ≡ true
      last_fits [] f = subst (λ ls. list_all is_line ls ≡ true) (sym (append-nil so.lines)) so.fit
      last_fits (b ∷ l) f = all_more is_line so.lines (b ∷ l) so.fit f

      last_filled : (l : List ℕ) → filled (so.lines ++ last_line l) ≡ filled (so.lines ++ l ∷ [])
      last_filled [] = ap filled (append-nil so.lines) ∙ sym (filled_none so.lines)
      last_filled (b ∷ l) = refl

  -- a line stops the session
  pub so_cut : (goes_mid : GoOn old mid) (ahead : List ℕ) (remaining_then : Option (List ℕ)) (why : SessionRefused) → IsCutLine catalog n u (record { left = left_mid; left_then = option_map (λ rest. ahead ++ rest) remaining_then; used = used; used_then = used_then }) s t why → IsCutSession catalog old new clock clock_then ids ids_then written written_then left remaining_then why
  so_cut goes_mid ahead remaining_then why (inl h) = Refused (record {
    n = n;
    used = used;
    used_then = used_then;
    left = left_mid;
    ahead = ahead;
    before = answered_so_far catalog old new clock clock_then ids ids_then written written_then left left_mid used n s (so_passed catalog old mid new clock clock_mid clock_then ids ids_mid ids_then written written_mid written_then left left_mid used n s t so goes h.0);
    refused = h.1;
  })
  so_cut goes_mid ahead remaining_then why (inr h) = stopped goes_mid ahead remaining_then why h.end h.line h.read h.some h.utf8 h.stopped
