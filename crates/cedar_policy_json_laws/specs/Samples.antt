-- Instances of the premises of `Policies`, `PolicySets` and `Conditions`: a template, a policy that is linked of it,
-- the set of a policy, the template and the link, and a policy with a constraint that no scope has.
use Rattle.std.specs.Prelude.{true, false, [], ◌∷◌, Some, None, codes}
use Rattle.cedar_model.specs.Terms.{Text, EntityName, entity_literal, principal, action, resource, context}
use Rattle.cedar_model.specs.Terms.{principal_slot, eq_operator, in_operator, Term, literal, variable}
use Rattle.cedar_model.specs.Terms.{slot, both, binary, get_attribute, is_of_type, set_of, no_terms, one_term}
use Rattle.cedar_model.specs.Agreement.{no_slots}
use Rattle.cedar_model.specs.Policies.{permit}
use Rattle.cedar_model.specs.World.{Slots}
use Rattle.cedar_functions.specs.Functions.{any}
use Rattle.cedar_layers.specs.Policies.{PolicyView, linked}
use Rattle.cedar_policy_json_reader.specs.Scopes.{truth}
use Rattle.cedar_policy_json_writer.specs.Links.{Link}
use Rattle.cedar_template_links.specs.Linking.{slots_with}
use Rattle.cedar_policy_json_laws.specs.Conditions.{IsReadableAnywhere}
use Rattle.cedar_policy_json_laws.specs.Policies.{IsReadablePolicy}
use Rattle.cedar_policy_json_laws.specs.PolicySets.{IsReadableSet}

abbrev pub entity : Text → Text → EntityName
entity n id = record { type_name = n; id = id }

-- `principal == ?principal`
abbrev pub sample_principal : Term
sample_principal = binary eq_operator (variable principal) (slot principal_slot)

abbrev pub action_named : Text → Term
action_named id = literal (entity_literal (entity (codes "Action") id))

-- `action in [Action::"read", Action::"list"]`
abbrev pub sample_action : Term
sample_action =
    binary in_operator (variable action)
    (set_of (one_term (action_named (codes "read")) (one_term (action_named (codes "list")) no_terms)))

-- `resource is Photo in Album::"trip"`
abbrev pub sample_resource : Term
sample_resource =
    both (is_of_type (variable resource) (codes "Photo"))
    (binary in_operator (variable resource) (literal (entity_literal (entity (codes "Album") (codes "trip")))))

-- `@key("guests") permit(..) when { context.ok }`, with these entities for its slots
abbrev pub sample : Slots → PolicyView
sample s = record {
  effect = permit;
  id = codes "guests";
  annotations = (codes "key", codes "guests") ∷ [];
  principal_constraint = sample_principal;
  action_constraint = sample_action;
  resource_constraint = sample_resource;
  when_clause = get_attribute (variable context) (codes "ok");
  slots = s;
}

-- `?principal` is `User::"ann"`
abbrev pub sample_slots : Slots
sample_slots = slots_with (Some (entity (codes "User") (codes "ann")), None)

-- the same for each principal
abbrev pub sample_policy : PolicyView
sample_policy = record (sample no_slots) { id = codes "everyone"; principal_constraint = truth }

abbrev pub sample_link : Link
sample_link = record { template_id = codes "guests"; new_id = codes "ann"; values = sample_slots }

abbrev pub TemplateIsReadable : Type 0
TemplateIsReadable = IsReadablePolicy true any 2 (sample no_slots)

abbrev pub PolicyIsReadable : Type 0
PolicyIsReadable = IsReadablePolicy false any 2 (sample sample_slots)

abbrev pub SetIsReadable : Type 0
SetIsReadable =
    IsReadableSet any 2 (sample_policy ∷ []) (sample no_slots ∷ []) (sample_link ∷ [])
    (linked (sample no_slots) (codes "ann") sample_slots ∷ [])

-- `principal.guest`, which no scope has
abbrev pub sample_constraint : PolicyView
sample_constraint = record sample_policy { principal_constraint = get_attribute (variable principal) (codes "guest") }

abbrev pub ConditionsAreReadable : Type 0
ConditionsAreReadable = IsReadableAnywhere false any 3 sample_constraint
