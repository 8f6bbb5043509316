use Rattle.std.proofs.Common.{◌≡◌, true, length}
use Rattle.cedar_policy_json_reader.specs.Words.{has_no_reserved}
use Rattle.cedar_policy_json_reader.proofs.names.has_no_reserved.Given as goal

abbrev pub invariant-bytes : goal.invariant-bytes
invariant-bytes l = has_no_reserved l.begins l.rest ≡ has_no_reserved true l.initial.bytes

abbrev pub decreases-bytes : goal.decreases-bytes
decreases-bytes l = length l.rest
