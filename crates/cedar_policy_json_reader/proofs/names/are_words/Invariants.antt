use Rattle.std.proofs.Common.{◌≡◌, drop, Some}
use Rattle.cedar_policy_json_reader.specs.Words.{goes_on_from, are_words}
use Rattle.cedar_policy_json_reader.proofs.names.are_words.Given as goal

abbrev pub invariant-bytes : goal.invariant-bytes
invariant-bytes l = goes_on_from (Some l.place) (drop l.byte-index l.bytes) ≡ are_words l.initial.bytes
