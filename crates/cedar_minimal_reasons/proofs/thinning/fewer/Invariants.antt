use Rattle.std.proofs.Common.{ℕ, ◌<◌, None}
use Rattle.cedar_reasons.specs.Facts.{facts_view}
use Rattle.cedar_minimal_reasons.specs.Questions.{question, Answers}
use Rattle.cedar_minimal_reasons.specs.Reasons.{without}
use Rattle.cedar_minimal_reasons.proofs.thinning.fewer.Given as goal

-- none of those before can be left out
abbrev pub invariant-each : goal.invariant-each
invariant-each g l = (j : ℕ) → j < l.at → Answers (question l.fn.authorizer l.fn.case) (without j (facts_view l.fn.facts)) None
