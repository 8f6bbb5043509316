-- Claims as plain data.
use Rattle.cedar_model.specs.Terms.{Term}
use Rattle.cedar_names.specs.Names.{type_text}
use Rattle.cedar_names.specs.Leaves.{literal_view}
use Rattle.cedar_expressions.specs.View.{view}
use Rattle.cedar_unsatisfiable.specs.declared.claims.Claim as claims
use Rattle.cedar_unsatisfiable.specs.declared.claims.Claim.TheVariants.{OfType, EqualTo}
use Rattle.cedar_unsatisfiable.specs.declared.claims.Claimed.{Claimed}
use Rattle.cedar_unsatisfiable.specs.Claims.{Claim, of_type, equal_to}

abbrev pub claim_view : claims.Claim → Claim
claim_view (OfType t) = of_type (type_text t.now)
claim_view (EqualTo l) = equal_to (literal_view l.now)

abbrev pub claimed_view : Claimed → Term × Claim
claimed_view c = (view c.subject.now, claim_view c.claim)
