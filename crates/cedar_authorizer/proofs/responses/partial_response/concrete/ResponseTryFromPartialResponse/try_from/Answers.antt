use Rattle.std.proofs.Common.{Result, Ok, Err, IfOk}
use Rattle.cedar_authorizer.specs.responses.Concrete.{IsConcreteOf}
use Rattle.cedar_authorizer.proofs.responses.partial_response.concrete.ResponseTryFromPartialResponse.try_from.Goals as goal

if_all : {A E : Type 0} (r : Result A E) (P Q R S T : A → Type 0) → ((x : A) → P x → Q x → R x → S x → T x)
    → IfOk r P → IfOk r Q → IfOk r R → IfOk r S → IfOk r T
if_all (Ok x) P Q R S T step p q r s = step x p q r s
if_all (Err e) P Q R S T step p q r s = tt

pub returns : goal.returns
returns c =
    if_all c.concretize.result _ _ _ _ (IsConcreteOf c.args.response)
    (λ r a b d e. record { response = a; places = b; given = d; decided = e })
    c.concretize.ensures.response c.concretize.ensures.places c.concretize.ensures.given c.concretize.ensures.decided
