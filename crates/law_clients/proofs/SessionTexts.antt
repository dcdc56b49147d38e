-- Each text reads as a statement, or is refused.
use Rattle.std.proofs.Common.{◌≡◌, ℕ, List, Result, Ok, Err, refl}
use Rattle.law_clients.specs.Types.{Refusal, Statement}
use Rattle.sdb_model.specs.SqlTokens.{lexed}
use Rattle.sdb_sqltext.specs.Parsing.{parsed}
use Rattle.sdb_sqltext.proofs.Public.{reads_by, refuses_by}
use Rattle.sdb_client.specs.Client.{Parses}

pub text_is_read : (text : List ℕ) → (x : Result Statement Refusal) × Parses text x
text_is_read text = by (parsed text) refl
  where
    by : (x : Result Statement Refusal) → parsed text ≡ x → (x : Result Statement Refusal) × Parses text x
    by (Ok st) e = (Ok st, reads_by text (lexed text) st refl e)
    by (Err r) e = (Err r, refuses_by text (lexed text) r refl e)
