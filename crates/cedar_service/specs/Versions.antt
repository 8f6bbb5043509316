-- Versions of what is decided.
use Rattle.std.specs.Prelude.{[], ◌++◌, ◌∷◌}
use Rattle.sha2.specs.Sha256.{sha256}
use Rattle.hex.specs.Hex.{encode_lower}
use Rattle.cedar_model.specs.Terms.{Text}

-- the SHA-256 of the policies and the entities, with a zero between them, in hexadecimal digits
abbrev pub version_text : Text → Text → Text
version_text policies entities = encode_lower (sha256 ((policies ++ 0 ∷ []) ++ entities))
