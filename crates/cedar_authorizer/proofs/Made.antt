-- What a response keeps of vectors whose items it is handed in turn.
use Rattle.std.specs.Prelude.{◌≡◌, List, Result, Ok, Err, IfOk}
use Rattle.std.specs.declared.alloc.Global.{Global}
use Rattle.std.specs.declared.vec.IntoIter.{IntoIter}
use Rattle.std.proofs.Common.{ap, ◌∙◌}
use Rattle.std.proofs.IntoIterSteps.{All-taken, takes}
use Rattle.cedar_layers.specs.declared.policies.policy.PolicyID.{PolicyID}
use Rattle.cedar_authorizer.specs.declared.responses.err.AuthorizationError.{AuthorizationError}
use Rattle.cedar_authorizer.specs.responses.Kept.{kept, Keeps, GivesItems}

pub kept_items : {V : Type 0} (it : IntoIter (PolicyID × V) Global) (items entries : List (PolicyID × V)) → it.rest.items ≡ items → Keeps takes it entries → entries ≡ kept items
kept_items it items entries r (pairs, d, e) = e ∙ ap kept (All-taken it pairs d ∙ r)

pub given_items : (it : IntoIter AuthorizationError Global) (items given : List AuthorizationError) → it.rest.items ≡ items → GivesItems takes it given → given ≡ items
given_items it items given r (errors, d, e) = e ∙ All-taken it errors d ∙ r

pub if_ok_seven : {T E : Type 0} (r : Result T E) (A B C D F G H Q : T → Type 0) → ((v : T) → A v → B v → C v → D v → F v → G v → H v → Q v) → IfOk r A → IfOk r B → IfOk r C → IfOk r D → IfOk r F → IfOk r G → IfOk r H → IfOk r Q
if_ok_seven (Ok v) A B C D F G H Q k a b c d f g h = k v a b c d f g h
if_ok_seven (Err e) A B C D F G H Q k a b c d f g h = tt
