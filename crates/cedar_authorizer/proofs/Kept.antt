-- What an authorizer is given is sound: the types keep it.
use Rattle.std.specs.Prelude.{◌≡◌, Some}
use Rattle.cedar_model.specs.Terms.{Text}
use Rattle.cedar_model.specs.Values.{Represented}
use Rattle.cedar_model.specs.Restricted.{IsSound, IsSoundContext, IsGivenSound}
use Rattle.cedar_extensions.specs.Extensions.{calls_of}
use Rattle.cedar_extensions.specs.StoredLaws.{calls_sound}
use Rattle.cedar_layers.specs.declared.policies.entities.Entities.{Entities}
use Rattle.cedar_layers.proofs.Sound.{store_is_sound, mapping_is_sound}
use Rattle.cedar_requests.specs.declared.request.Request.{Request}
use Rattle.cedar_requests.specs.Requests.{request_view}
use Rattle.cedar_requests.specs.Substitutions.{values_for}
use Rattle.cedar_requests.proofs.Soundness.{request_is_sound}
use Rattle.cedar_authorizer.specs.declared.authorizer.Authorizer.{Authorizer}
use Rattle.cedar_authorizer.specs.Configured.{configuration, extensions_of, asked}
use Rattle.cedar_authorizer.specs.Steps.{ValuesByName, step_by, under}
use Rattle.cedar_model.proofs.Injections.{none_is_not_some}

pub values_sound : (values : ValuesByName) (n : Text) (v : Represented) → values_for values.entries n ≡ Some v → IsSound v
values_sound values = mapping_is_sound values.entries

-- of what is asked first
pub asked_sound : {X : Type 0} {F : X → Type 0} {g : _} (a : Authorizer X F g) (request : Request) (entities : Entities)
    → IsGivenSound (calls_of (extensions_of a)) (asked a request entities)
asked_sound a request entities = record {
  context_sound = request_is_sound request;
  stored_sound = store_is_sound entities;
  mapped_sound = λ n v e. absurd (none_is_not_some e);
  answers_sound = calls_sound (extensions_of a);
}

-- and of a step
pub step_sound : {X : Type 0} {F : X → Type 0} {g : _} (a : Authorizer X F g) (values : ValuesByName) (entities : Entities) (request : Request)
    → IsGivenSound (calls_of (extensions_of a)) (under (configuration a) (step_by values entities) (request_view request))
step_sound a values entities request = record {
  context_sound = request_is_sound request;
  stored_sound = store_is_sound entities;
  mapped_sound = mapping_is_sound values.entries;
  answers_sound = calls_sound (extensions_of a);
}
