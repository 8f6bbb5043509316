-- What a text that was read is.
use Rattle.std.proofs.Common.{◌≡◌, Some}
use Rattle.json.specs.Json.{Json, document}
use Rattle.json.specs.Strict.{HasUniqueKeys}
use Rattle.cedar_endpoints.specs.Asked.{Text}
use Rattle.cedar_endpoints.specs.Documents.{IsDocument}

pub read_as : (text : Text) (j : Json) → document text ≡ Some j → HasUniqueKeys j → IsDocument text j
read_as text j is unique = record { is_json = is; unique = unique }

pub ruleset unread = (read_as)
