-- What is printed of a decision, and the exit status.
use Rattle.std.specs.Prelude.{ℕ, Option, Some, None, codes}
use Rattle.cedar_model.specs.Terms.{Text}
use Rattle.cedar_model.specs.Policies.{Decision, allow, deny}

-- the exit status
abbrev pub status : Decision → ℕ
status allow = 0
status deny = 2

-- the decision in capitals
abbrev pub word : Decision → Text
word allow = codes "ALLOW"
word deny = codes "DENY"

-- the exit status, where the decision may not be known: that is none of the two
abbrev pub partial_status : Option Decision → ℕ
partial_status None = 4
partial_status (Some d) = status d

-- the decision in capitals, where it may not be known
abbrev pub partial_word : Option Decision → Text
partial_word None = codes "UNKNOWN"
partial_word (Some d) = word d
