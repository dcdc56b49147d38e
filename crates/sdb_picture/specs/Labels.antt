-- Texts as XML has them.
use Rattle.std.specs.Prelude.{ℕ, Bool, ◌==◌, ◌||◌, ◌&&◌, nat_le, nat_lt, if◌then◌else◌, List, ◌++◌, length, take, codes}
use Rattle.std.specs.List.{flat_map}
use Rattle.std.specs.Str.{chars}
use Rattle.std.specs.Char.{encode_utf8}

-- The characters below a space, which XML doesn't have, those from 127 to 159, and the two last of the first 65,536.
abbrev pub is_control : ℕ → Bool
is_control c = nat_lt c 32 || nat_le 127 c && nat_le c 159 || c == 65534 || c == 65535

-- A character in a text: what would end the text is written by its name, and a control character as the replacement character.
abbrev pub escaped : ℕ → List ℕ
escaped c =
    if is_control c then encode_utf8 65533
    else if c == 38 then codes "&amp;"
    else if c == 60 then codes "&lt;"
    else if c == 62 then codes "&gt;"
    else if c == 34 then codes "&quot;"
    else encode_utf8 c

-- a whole text
abbrev pub escaped_text : List ℕ → List ℕ
escaped_text text = flat_map escaped (chars text)

-- characters cut to a width, with an ellipsis where some are left out
abbrev pub cut_text : ℕ → List ℕ → List ℕ
cut_text width cs = if nat_lt width (length cs) then flat_map escaped (take width cs) ++ encode_utf8 8230 else flat_map escaped cs

-- a text cut to a width
abbrev pub label_text : ℕ → List ℕ → List ℕ
label_text width text = cut_text width (chars text)
