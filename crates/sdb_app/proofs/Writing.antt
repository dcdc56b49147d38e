-- A text that is written piece by piece.
use Rattle.std.proofs.Common.{◌≡◌, ◌∙◌, sym, ap, refl, subst, ℕ, zero, ◌+◌, ◌<◌, ◌≤◌, List, [], ◌∷◌, ◌++◌, length, take, drop, get_or, Result, Ok, Err, append_assoc, append-nil, length-append, arith}
use Rattle.std.proofs.lemmas.List.{length-take, take-append-le, take-append-drop, take_all}
use Rattle.std.specs.Prelude.{OnErr, Option, Some, None, option_map}
use Rattle.sdb_types.specs.Bytes.{Appends}
use Rattle.sdb_types.proofs.Public.{appends_more, drop_next}
use Rattle.sdb_model.specs.declared.event.Event.{Event}
use Rattle.sdb_model.specs.declared.event.Outcome.{Outcome}
use Rattle.sdb_model.specs.Report.{event_line, event_lines, report_start_of, report_end_of, report_text_of}
use Rattle.sdb_model.proofs.Public.{report_parts}
use Rattle.sdb_app.specs.Promise.{IsPrefixAdded}
use Rattle.sdb_app.specs.Streams.{IsWriting}

-- what holds whatever the refusal
pub on_err : {A E : Type 0} (r : Result A E) (P : Type 0) → P → OnErr r P
on_err (Ok a) P p = tt
on_err (Err e) P p = p

-- nothing was written
nothing : (x : Option (List ℕ)) → Appends [] x x
nothing None = refl
nothing (Some xs) = ap Some (sym (append-nil xs))

-- what is behind a part that was left is left too
pub on : (text part left rest : List ℕ) (x y z : Option (List ℕ)) → IsWriting text x y (part ++ rest) → IsWriting part y z left → IsWriting text x z (left ++ rest)
on text part left rest x y z a b = record {
  put = a.put ++ b.put;
  appended = appends_more a.put b.put x y z a.appended b.appended;
  whole = append_assoc a.put b.put (left ++ rest)
      ∙ ap (λ (t : List ℕ). a.put ++ t) (sym (append_assoc b.put left rest) ∙ ap (λ (t : List ℕ). t ++ rest) b.whole)
      ∙ a.whole;
}

-- all that was left was written
pub ended : (text left : List ℕ) (x y z : Option (List ℕ)) → IsWriting text x y left → Appends left y z → Appends text x z
ended text left x y z a p = subst (λ (t : List ℕ). Appends t x z) a.whole (appends_more a.put left x y z a.appended p)

-- a prefix of what was left is one of the text
pub cut : (text part rest : List ℕ) (x y z : Option (List ℕ)) → IsWriting text x y (part ++ rest) → IsPrefixAdded part y z → IsPrefixAdded text x z
cut text part rest x y z a (k, within, p) =
    let both : List ℕ = a.put ++ take k part in
    let whole : both ++ (drop k part ++ rest) ≡ text =
    append_assoc a.put (take k part) (drop k part ++ rest)
    ∙ ap (λ (t : List ℕ). a.put ++ t) (sym (append_assoc (take k part) (drop k part) rest) ∙ ap (λ (t : List ℕ). t ++ rest) (take-append-drop k part))
    ∙ a.whole in
    let inside : length both ≤ length text = subst (λ (t : List ℕ). length both ≤ length t) whole (omega (arith, length-append both (drop k part ++ rest))) in
    let same : take (length both) text ≡ both =
    subst (λ (t : List ℕ). take (length both) t ≡ both) whole (take-append-le (length both) both (drop k part ++ rest) (omega arith) ∙ take_all (length both) both (omega arith)) in
    (length both, inside, subst (λ (t : List ℕ). Appends t x z) (sym same) (appends_more a.put (take k part) x y z a.appended p))

pub cut_all : (text left : List ℕ) (x y z : Option (List ℕ)) → IsWriting text x y left → IsPrefixAdded left y z → IsPrefixAdded text x z
cut_all text left x y z a p = cut text left [] x y z (subst (λ (t : List ℕ). IsWriting text x y t) (sym (append-nil left)) a) p

-- so much as was written of a text is a prefix of it
pub begun : (text left : List ℕ) (x y : Option (List ℕ)) → IsWriting text x y left → IsPrefixAdded text x y
begun text left x y a = cut_all text left x y y a (zero, omega (arith), nothing y)

---- the lines of events

-- what is left before an event's line: what is held, with the line, and the lines behind it
pub before_line : (text held : List ℕ) (events : List Event) (i : ℕ) (e : Event) (x y : Option (List ℕ)) → i < length events → e ≡ get_or events i e
    → IsWriting text x y (held ++ event_lines (i + 1) (drop i events)) → IsWriting text x y ((held ++ event_line (i + 1) e) ++ event_lines (i + 1 + 1) (drop (i + 1) events))
before_line text held events i e x y low is a =
    subst (λ (t : List ℕ). IsWriting text x y t)
    (ap (λ (es : List Event). held ++ event_lines (i + 1) es) (drop_next events i e low is) ∙ sym (append_assoc held (event_line (i + 1) e) (event_lines (i + 1 + 1) (drop (i + 1) events)))) a

-- nothing of a report is written, and its start is held
pub report_begun : (o : Outcome) (start : List ℕ) (x : Option (List ℕ)) → start ≡ report_start_of o.events → IsWriting (report_text_of o) x x ((start ++ event_lines 1 o.events) ++ report_end_of o)
report_begun o start x is =
    subst (λ (t : List ℕ). IsWriting (report_text_of o) x x t)
    (report_parts o ∙ ap (λ (t : List ℕ). (t ++ event_lines 1 o.events) ++ report_end_of o) (sym is))
    (record { put = []; appended = nothing x; whole = refl })
