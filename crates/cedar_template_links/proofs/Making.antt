-- Lists that are made one by one.
use Rattle.std.proofs.Common.{◌≡◌, List, [], ◌∷◌, ◌++◌, Ok, Err, ap, map, ◌∙◌}
use Rattle.std.proofs.lemmas.List.{map-append}
use Rattle.cedar_model.specs.Terms.{Text}
use Rattle.cedar_layers.specs.Policies.{policy_view, policy_id_text}
use Rattle.cedar_layers.specs.declared.policies.policy.Policy.{Policy}
use Rattle.cedar_policy_json_reader.specs.Refusals.{Said, made_of, and_then}
use Rattle.cedar_template_links.specs.declared.links.Link.{Link}
use Rattle.cedar_template_links.specs.Links.{link_view, link_as, name_of}

-- what goes on behind one more goes on behind the new list
pub then_on : {T U : Type 0} (next : List T → Said U) (done new : List T) (s : Said T) → made_of (λ t. done ++ t ∷ []) s ≡ Ok new → and_then (λ t. next (done ++ t ∷ [])) s ≡ next new
then_on next done new (Ok t) h =
    let same : done ++ t ∷ [] ≡ new = cc in
    ap next same
then_on next done new (Err r) h = absurd (cc)

-- policies behind others
pub joined_views : (ps qs all : List Policy) → all ≡ ps ++ qs → map policy_view all ≡ map policy_view ps ++ map policy_view qs
joined_views ps qs all is = ap (map policy_view) is ∙ map-append policy_view ps qs

pub ruleset joins = (joined_views)

-- a link, part by part
pub link_is : (l : Link) (t n : Text) → policy_id_text l.template_id ≡ t → policy_id_text l.new_id ≡ n → link_view l ≡ link_as t n (name_of l.principal) (name_of l.resource)
link_is l t n template id = λ i. link_as (template i) (id i) (name_of l.principal) (name_of l.resource)

pub ruleset made = (link_is)
