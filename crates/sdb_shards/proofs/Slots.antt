-- A call of one box of a list.
use Rattle.std.proofs.Common.{◌≡◌, ℕ, ◌<◌, List, length, get_or, slice_set, ap, ◌∙◌}
use Rattle.sdb_types.specs.declared.record.Request.{Request}
use Rattle.sdb_types.specs.declared.record.Reply.{Reply}
use Rattle.sdb_store.specs.Store.{IsStoreCall}
use Rattle.sdb_shards.specs.declared.part.Part.{Part}
use Rattle.sdb_shards.specs.Boxes.{IsBoxCall, part_state}

pub called_box : (q : Request) (r : Reply) (xs ps : List Part) (at : ℕ) (x y : Part) → xs ≡ ps → at < length ps → x ≡ get_or xs at x → IsStoreCall q r (part_state x) (part_state y) → IsBoxCall at q r ps (slice_set xs at y)
called_box q r xs ps at x y same inside is call = record {
  before = x;
  now = y;
  stood = is ∙ ap (λ zs. get_or zs at x) same;
  rest = ap (λ zs. slice_set zs at y) same;
  performed = call.performed tt;
  lawful = call.lawful;
  cause = call.cause;
}
