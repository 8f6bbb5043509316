-- What is permitted where nothing else is unknown.
use Rattle.std.proofs.Common.{◌≡◌, sym, ap, ◌∙◌, ◌&&◌, Bool, List}
use Rattle.cedar_model.specs.Terms.{Text, EntityName}
use Rattle.cedar_model.specs.Values.{AbstractValue}
use Rattle.cedar_model.specs.World.{Functions}
use Rattle.cedar_model.specs.Agreement.{AgreesWithFunctions}
use Rattle.cedar_model.specs.Authorizations.{HaveKnownConditions, AreNoHigher}
use Rattle.cedar_search.specs.Questions.{Question, asked_with}
use Rattle.cedar_search.specs.Found.{AreThePermitted, AreThoseMeant, HasNothingElseUnknown, IsDecided, can, can_not}
use Rattle.cedar_search.specs.Found.{is_allow, is_meant, is_meant_allowed}
use Rattle.cedar_search.proofs.Keeping.{kept_by}

module _ (q : Question) (nothing : HasNothingElseUnknown q) (ans : Functions)
    (agree : AgreesWithFunctions ans q.configuration.calls) (known : HaveKnownConditions ans q.policies)
    (low : AreNoHigher q.policies q.configuration.levels) (sigma : Text → AbstractValue) where
  meant : (e : EntityName) (b : Bool) → IsDecided q e b → b ≡ is_meant q ans sigma e
  meant e b (can may is) =
      let unlimited = is.responds.within_limit (nothing e) ans agree known low in
      let exact = is.responds.by_meaning (nothing e) ans agree known sigma unlimited in
      is.is_decision ∙ ap is_allow exact.decision_is
      ∙ ap (λ c. c && is_meant_allowed q ans sigma (asked_with q e)) (sym may)
  meant e b (can_not never is) = is ∙ ap (λ c. c && is_meant_allowed q ans sigma (asked_with q e)) (sym never)

pub those_meant : (q : Question) (es found : List EntityName) → AreThePermitted q es found → AreThoseMeant q es found
those_meant q es found h nothing ans agree known low sigma =
    kept_by (IsDecided q) (is_meant q ans sigma) (meant q nothing ans agree known low sigma) es found h
