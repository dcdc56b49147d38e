use Rattle.std.proofs.Common.{◌≡◌, map, string_bytes, take}
use Rattle.sdb_words.specs.Places.{place_text, ArePlaces}
use Rattle.sdb_words.proofs.places.places_in.Given as goal

abbrev pub invariant-loop-word : goal.invariant-loop-word
invariant-loop-word l = ArePlaces l.stores l.places × (map string_bytes (take l.word-index l.words) ≡ map place_text l.places)
