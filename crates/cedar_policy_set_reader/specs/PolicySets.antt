-- What the JSON of a set of policies says: its policies and its templates.
use Rattle.std.specs.Prelude.{ℕ, ◌+◌, ◌==◌, ◌||◌, Bool, true, false, if◌then◌else◌, List, [], ◌∷◌, ◌++◌, map, Option, Some, None, Ok, codes}
use Rattle.json.specs.Json.{Json, Members, no_members, member}
use Rattle.json.specs.Find.{as_object, get}
use Rattle.cedar_model.specs.Terms.{Text}
use Rattle.cedar_functions.specs.Functions.{Knowledge}
use Rattle.cedar_layers.specs.Policies.{PolicyView, policy_view, policy_ids, first_repeated}
use Rattle.cedar_layers.specs.PolicySets.{policies_view}
use Rattle.cedar_policy_json_reader.specs.declared.errors.RefusalReason.TheVariants as reasons
use Rattle.cedar_policy_json_reader.specs.Expressions.{Reading, expression_said}
use Rattle.cedar_policy_json_reader.specs.Paths.{at_key}
use Rattle.cedar_policy_json_reader.specs.Policies.{policy_by}
use Rattle.cedar_policy_json_reader.specs.Refusals.{Said, refused, under, and_then}
use Rattle.cedar_policy_json_reader.specs.Shapes.{member_count}
use Rattle.cedar_template_links.specs.declared.forms.LinkForm.TheVariants as forms
use Rattle.cedar_template_links.specs.Links.{LinkView, link_view, links_said}
use Rattle.cedar_template_links.specs.Linking.{has_id, links_made}
use Rattle.cedar_policy_set_reader.specs.declared.policy_sets.ReadPolicies.{ReadPolicies}

-- the policies, those of links last, the templates and the links, in the order of the JSON
pub record PolicySetView : Type 0 where
  pub policies : List PolicyView
  pub templates : List PolicyView
  pub links : List LinkView

abbrev pub set_view : ReadPolicies → PolicySetView
set_view r = record {
  policies = policies_view r.policies;
  templates = map policy_view r.templates.items;
  links = map link_view r.links.items;
}

-- ---- ids

-- the id, which none of these and none of the others has
abbrev pub new_id : List PolicyView → List PolicyView → Text → Said Text
new_id done others k = if has_id k done || has_id k others then refused reasons.RepeatedKey else Ok k

-- ---- policies, and templates, under their ids

abbrev pub policy_of : Bool → Reading → Json → Text → Said PolicyView
policy_of is_open says j k = policy_by is_open says k j

-- a policy, or where it is open a template, under an id that none before it has
abbrev pub member_said : Bool → Reading → List PolicyView → List PolicyView → Text → Json → Said PolicyView
member_said is_open says done others k j = and_then (policy_of is_open says j) (new_id done others k)

-- behind those that are read already
abbrev pub members_from : Bool → Reading → List PolicyView → List PolicyView → Members → Said (List PolicyView)
members_from is_open says others done no_members = Ok done
members_from is_open says others done (member k j ms) =
    and_then (λ p. members_from is_open says others (done ++ p ∷ []) ms) (under (at_key k) (member_said is_open says done others k j))

abbrev pub members_in : Bool → Reading → List PolicyView → Option Members → Said (List PolicyView)
members_in is_open says others None = refused reasons.NotAnObject
members_in is_open says others (Some ms) = members_from is_open says others [] ms

abbrev pub members_said : Bool → Reading → List PolicyView → Json → Said (List PolicyView)
members_said is_open says others j = members_in is_open says others (as_object j)

-- ---- the whole

-- what a member says that may be left out
abbrev pub section_in : {T : Type 0} → Text → T → (Json → Said T) → Option Json → Said T
section_in k none says None = Ok none
section_in k none says (Some j) = under (at_key k) (says j)

abbrev pub policies_at : Reading → Json → Said (List PolicyView)
policies_at says j = section_in (codes "staticPolicies") [] (members_said false says []) (get (codes "staticPolicies") j)

abbrev pub templates_at : Reading → List PolicyView → Json → Said (List PolicyView)
templates_at says ps j = section_in (codes "templates") [] (members_said true says ps) (get (codes "templates") j)

abbrev pub links_at : Json → Said (List LinkView)
links_at j = section_in (codes "templateLinks") [] links_said (get (codes "templateLinks") j)

-- no two of the policies have one id, as was looked at of each already
abbrev pub set_made : List PolicyView → List LinkView → List PolicyView → Option Text → Said PolicySetView
set_made templates links ps None = Ok (record { policies = ps; templates = templates; links = links })
set_made templates links ps (Some k) = refused reasons.RepeatedKey

abbrev pub set_of : List PolicyView → List LinkView → List PolicyView → Said PolicySetView
set_of templates links ps = set_made templates links ps (first_repeated (policy_ids ps))

-- the static policies, and behind them those of links
abbrev pub set_of_all : List PolicyView → List PolicyView → List LinkView → List PolicyView → Said PolicySetView
set_of_all ps templates links linked = set_of templates links (ps ++ linked)

abbrev pub linked_policies : List PolicyView → List PolicyView → List LinkView → Said (List PolicyView)
linked_policies ps templates links = under (at_key (codes "templateLinks")) (links_made forms.Set ps templates links)

abbrev pub with_linked : List PolicyView → List PolicyView → List LinkView → Said PolicySetView
with_linked ps templates links = and_then (set_of_all ps templates links) (linked_policies ps templates links)

abbrev pub with_links : Json → List PolicyView → List PolicyView → Said PolicySetView
with_links j ps templates = and_then (with_linked ps templates) (links_at j)

abbrev pub with_templates : Reading → Json → List PolicyView → Said PolicySetView
with_templates says j ps = and_then (with_links j ps) (templates_at says ps j)

abbrev pub sections_said : Reading → Json → Said PolicySetView
sections_said says j = and_then (with_templates says j) (policies_at says j)

abbrev pub one_if_there : Option Json → ℕ
one_if_there None = 0
one_if_there (Some j) = 1

-- how many of its members the set has
abbrev pub section_count : Json → ℕ
section_count j =
    one_if_there (get (codes "staticPolicies") j) + one_if_there (get (codes "templates") j) + one_if_there (get (codes "templateLinks") j)

abbrev pub set_counted : Reading → Json → Option ℕ → Said PolicySetView
set_counted says j None = refused reasons.NotAnObject
set_counted says j (Some n) = if n == section_count j then sections_said says j else refused reasons.UnexpectedMember

-- an object of `staticPolicies`, `templates` and `templateLinks`, each of which may be left out, and of nothing else
abbrev pub policy_set_said : Knowledge → ℕ → Json → Said PolicySetView
policy_set_said fs n j = set_counted (expression_said fs n) j (member_count j)
