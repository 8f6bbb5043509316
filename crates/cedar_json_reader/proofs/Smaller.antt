-- Parts are smaller than what they are parts of.
use Rattle.std.proofs.Common.{◌≡◌, ◌<◌, ℕ, length, Option, Some, None}
use Rattle.json.specs.Json.{Json, Items, Members}
use Rattle.json.specs.Tree.{json_tokens, items_tokens, members_tokens}
use Rattle.cedar_json_reader.specs.Shapes.{Member}

abbrev pub size : Json → ℕ
size j = length (json_tokens j)

abbrev pub items_size : Items → ℕ
items_size js = length (items_tokens js)

abbrev pub members_size : Members → ℕ
members_size ms = length (members_tokens ms)

abbrev value_or : Json → Option Member → Json
value_or x None = x
value_or x (Some m) = m.1
