use Rattle.std.proofs.Common.{◌≡◌, ◌++◌, map, drop, string_bytes}
use Rattle.cedar_service.proofs.Listed.{told}
use Rattle.cedar_service.proofs.found.texts_of.Given as goal

-- the texts, and those of the entities that are left, are the texts of all
abbrev pub invariant-found : goal.invariant-found
invariant-found l = map string_bytes l.texts.items ++ told l.part (drop l.uid-index l.found) ≡ told l.part l.found
