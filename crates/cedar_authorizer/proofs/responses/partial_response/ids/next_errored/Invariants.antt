use Rattle.std.proofs.Common.{◌≡◌, length}
use Rattle.cedar_authorizer.specs.responses.Readers.{errored_ids}
use Rattle.cedar_authorizer.proofs.responses.partial_response.ids.next_errored.Given as goal

-- the entries that were passed did not err
abbrev pub invariant-walk : goal.invariant-walk
invariant-walk l = errored_ids l.entries ≡ errored_ids l.initial.entries

abbrev pub decreases-walk : goal.decreases-walk
decreases-walk l = length l.entries
