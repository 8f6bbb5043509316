use Rattle.std.proofs.Common.{◌≡◌, refl, ap}
use Rattle.cedar_model.proofs.Stability as stable
use Rattle.cedar_decisions.specs.declared.decision.Decision.{Decision}
use Rattle.cedar_decisions.specs.declared.decision.Decision.TheVariants.{Allow, Deny}
use Rattle.cedar_decisions.specs.Decisions.{decision_view}
use Rattle.cedar_authorizer.proofs.authorizer.laws.responses_are_stable.Goals as goal

same_decision : (d e : Decision) → decision_view d ≡ decision_view e → d ≡ e
same_decision Allow Allow h = refl
same_decision Allow Deny h = absurd (cc)
same_decision Deny Allow h = absurd (cc)
same_decision Deny Deny h = refl

pub returns-clause-order : goal.returns-clause-order
returns-clause-order c =
    λ mode X ans w ps qs o e f. let z = stable.order_same X ans w mode ps qs _ _ o e f in (same_decision _ _ z.0, z.1)

pub returns-clause-forbids : goal.returns-clause-forbids
returns-clause-forbids c =
    λ mode X ans w before after p h e f d. same_decision _ _ (stable.forbid_keeps X ans w mode before after p _ _ h e f (ap decision_view d))

pub returns-clause-permits : goal.returns-clause-permits
returns-clause-permits c =
    λ mode X ans w before after p h e f d. same_decision _ _ (stable.permit_keeps X ans w mode before after p _ _ h e f (ap decision_view d))

pub returns-clause-erring : goal.returns-clause-erring
returns-clause-erring c =
    λ X ans w before after p h e f. let z = stable.erring_same X ans w before after p _ _ h e f in (same_decision _ _ z.0, z.1)

pub returns-clause-erring_permit : goal.returns-clause-erring_permit
returns-clause-erring_permit c =
    λ mode X ans w before after p k h e f. let z = stable.erring_permit_same X ans w mode before after p _ _ k h e f in (same_decision _ _ z.0, z.1)

pub returns-clause-erring_forbid : goal.returns-clause-erring_forbid
returns-clause-erring_forbid c =
    λ X ans w before after p k h e f n. stable.erring_forbid_alone X ans w before after p _ _ k h e f (λ d. n (same_decision _ _ d))
