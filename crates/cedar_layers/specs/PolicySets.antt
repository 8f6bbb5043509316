-- Sets of policies as plain data.
use Rattle.std.specs.Prelude.{◌≡◌, Bool, true, false, List, [], ◌∷◌, ◌++◌, map, length, Option, None, Some}
use Rattle.std.specs.List.{list_any}
use Rattle.std.specs.Map.{keys_of, values_of}
use Rattle.cedar_model.specs.Terms.{Text}
use Rattle.cedar_model.specs.Outcomes.{text_eq}
use Rattle.cedar_layers.specs.declared.policies.policy.Policy.{Policy}
use Rattle.cedar_layers.specs.declared.policies.policy.PolicyID.{PolicyID}
use Rattle.cedar_layers.specs.declared.policies.policy_set.Policies.{Policies}
use Rattle.cedar_layers.specs.declared.policies.policy_set.PolicySet.{PolicySet}
use Rattle.cedar_layers.specs.declared.policies.policy_set.PolicySetError.{PolicySetError}
use Rattle.cedar_layers.specs.declared.policies.policy_set.PolicySetError.TheVariants.{Occupied, Memory}
use Rattle.cedar_layers.specs.Policies.{PolicyView, policy_view, policy_id_text}
use Rattle.cedar_layers.specs.Scopes.{is_mostly_rest}

-- the policies of a set, in order of insertion
abbrev pub policies_view : PolicySet → List PolicyView
policies_view s = map policy_view (values_of s.policies.entries)

-- the policies themselves, in order of insertion
abbrev pub stored_policies : PolicySet → List Policy
stored_policies s = values_of s.policies.entries

-- the index binds less than half of the policies to entities, so that it leaves out too few
abbrev pub leaves_out_few : PolicySet → Bool
leaves_out_few s = is_mostly_rest s.index (length s.policies.entries)

-- the policies that an iterator has left
abbrev pub policies_left : Policies → List Policy
policies_left s = s.policies

-- the id that an error names
abbrev pub occupied_id : PolicySetError → Option Text
occupied_id (Occupied i) = Some (policy_id_text i)
occupied_id (Memory e) = None

-- the ids that a set's entries stand under
abbrev pub entry_ids : List (PolicyID × Policy) → List Text
entry_ids es = map policy_id_text (keys_of es)

-- the new entries are the old ones and then this policy, whose id was not there
pub record Adds (old new : List (PolicyID × Policy)) (p : Policy) : Type 0 where
  pub values : values_of new ≡ values_of old ++ p ∷ []
  pub ids : entry_ids new ≡ entry_ids old ++ (policy_view p).id ∷ []
  pub fresh : list_any (text_eq (policy_view p).id) (entry_ids old) ≡ false

-- the text is the policy's id, and an entry stands under it
pub record IsIdTaken (old : List (PolicyID × Policy)) (p : Policy) (i : Text) : Type 0 where
  pub own : i ≡ (policy_view p).id
  pub there : list_any (text_eq i) (entry_ids old) ≡ true
