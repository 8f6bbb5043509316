-- What the JSON of a policy says: its effect, its scope, its conditions and its annotations.
use Rattle.std.specs.Prelude.{ℕ, ◌+◌, ◌==◌, nat_lt, length, Bool, true, false, List, [], ◌∷◌, if◌then◌else◌, Option, Some, None, Ok, bytes_eq, codes}
use Rattle.std.specs.Option.{option_and_then}
use Rattle.std.specs.Ordering.{nat_cmp, match_ordering}
use Rattle.std.specs.Cmp.Lexicographic.{slice_cmp}
use Rattle.json.specs.Json.{Json, Items, no_items, item, Members, no_members, member}
use Rattle.json.specs.Find.{as_object, as_array, as_str, get}
use Rattle.json.specs.Strict.{keys}
use Rattle.cedar_text_lexer.specs.Words.{is_word}
use Rattle.cedar_model.specs.Terms.{Text, Variable, principal, action, resource, not_operator, Term, both, unary}
use Rattle.cedar_model.specs.Agreement.{no_slots}
use Rattle.cedar_model.specs.Policies.{Effect, permit, forbid}
use Rattle.cedar_functions.specs.Functions.{Knowledge}
use Rattle.cedar_layers.specs.Policies.{PolicyView}
use Rattle.cedar_policy_json_reader.specs.declared.errors.RefusalReason.TheVariants as reasons
use Rattle.cedar_policy_json_reader.specs.Expressions.{Reading, expression_said}
use Rattle.cedar_policy_json_reader.specs.Leaves.{or_refused}
use Rattle.cedar_policy_json_reader.specs.Paths.{at_key, at_index}
use Rattle.cedar_policy_json_reader.specs.Refusals.{Said, refused, under, before, both_said, made_of, and_then}
use Rattle.cedar_policy_json_reader.specs.Scopes.{truth, scope_said}
use Rattle.cedar_policy_json_reader.specs.Shapes.{member_count, missing, two_at, text_said}

-- ---- effect

abbrev pub effect_named : Text → Option Effect
effect_named t =
    if bytes_eq t (codes "permit") then Some permit else (
    if bytes_eq t (codes "forbid") then Some forbid else
    None)

abbrev pub effect_said : Json → Said Effect
effect_said j = or_refused reasons.NotAnEffect (option_and_then effect_named (as_str j))

-- ---- conditions

-- behind `unless` the condition is negated
abbrev pub of_kind : Text → Term → Option Term
of_kind k t =
    if bytes_eq k (codes "when") then Some t else (
    if bytes_eq k (codes "unless") then Some (unary not_operator t) else
    None)

abbrev pub kind_of_said : Text → Term → Said Term
kind_of_said k t = under (at_key (codes "kind")) (or_refused reasons.NotAKind (of_kind k t))

abbrev pub kind_and_body_said : Reading → Json × Json → Said Term
kind_and_body_said says p =
    and_then (λ q. kind_of_said q.0 q.1) (both_said (under (at_key (codes "kind")) (text_said p.0)) (under (at_key (codes "body")) (says p.1)))

abbrev pub condition_said : Reading → Json → Said Term
condition_said says j = and_then (kind_and_body_said says) (two_at (codes "kind") (codes "body") j)

-- conditions in order, the first of this index
abbrev pub conditions_from : Reading → ℕ → Items → Said (List Term)
conditions_from says n no_items = Ok []
conditions_from says n (item j js) = before (under (at_index n) (condition_said says j)) (conditions_from says (n + 1) js)

-- joined by `&&`, the first two first
abbrev pub joined_behind : Term → List Term → Term
joined_behind t [] = t
joined_behind t (u ∷ us) = joined_behind (both t u) us

abbrev pub joined : List Term → Term
joined [] = truth
joined (t ∷ ts) = joined_behind t ts

abbrev pub conditions_in : Reading → Option Items → Said Term
conditions_in says None = refused reasons.NotAnArray
conditions_in says (Some js) = made_of joined (conditions_from says 0 js)

abbrev pub conditions_said : Reading → Json → Said Term
conditions_said says j = conditions_in says (as_array j)

-- ---- annotations

-- texts under their keys, with one more, in the order of the keys' bytes
abbrev pub put_annotation : List (Text × Text) → Text → Text → List (Text × Text)
put_annotation [] k v = (k, v) ∷ []
put_annotation (p ∷ ps) k v =
    match_ordering (slice_cmp nat_cmp k p.0) ((k, v) ∷ p ∷ ps) ((p.0, v) ∷ ps) (p ∷ put_annotation ps k v)

-- a text, under a word
abbrev pub annotation_said : Text → Json → Said Text
annotation_said k j = if is_word k then text_said j else refused reasons.NotAWord

-- members in order, put in one after the other
abbrev pub annotations_from : List (Text × Text) → Members → Said (List (Text × Text))
annotations_from done no_members = Ok done
annotations_from done (member k j ms) =
    and_then (λ v. annotations_from (put_annotation done k v) ms) (under (at_key k) (annotation_said k j))

-- none took the place of another
abbrev pub distinct : ℕ → List (Text × Text) → Said (List (Text × Text))
distinct n ps = if length ps == n then Ok ps else refused reasons.RepeatedKey

abbrev pub annotations_of : Members → Said (List (Text × Text))
annotations_of ms = and_then (distinct (length (keys ms))) (annotations_from [] ms)

abbrev pub annotations_in : Option Members → Said (List (Text × Text))
annotations_in None = refused reasons.NotAnObject
annotations_in (Some ms) = annotations_of ms

abbrev pub annotations_said : Json → Said (List (Text × Text))
annotations_said j = annotations_in (as_object j)

-- none where there is no such member
abbrev pub annotations_by : Option Json → Said (List (Text × Text))
annotations_by None = Ok []
annotations_by (Some j) = under (at_key (codes "annotations")) (annotations_said j)

-- ---- the whole

-- what the member of this key says, which must be there
abbrev pub part_in : {T : Type 0} → Text → (Json → Said T) → Option Json → Said T
part_in k says None = missing k
part_in k says (Some j) = under (at_key k) (says j)

abbrev pub scope_at : Bool → Text → Variable → Json → Said Term
scope_at is_open k v j = part_in k (scope_said is_open v) (get k j)

abbrev pub action_and_resource : Bool → Json → Said (Term × Term)
action_and_resource is_open j = both_said (scope_at is_open (codes "action") action j) (scope_at is_open (codes "resource") resource j)

abbrev pub scopes_said : Bool → Json → Said (Term × (Term × Term))
scopes_said is_open j = both_said (scope_at is_open (codes "principal") principal j) (action_and_resource is_open j)

abbrev pub conditions_at : Reading → Json → Said Term
conditions_at says j = part_in (codes "conditions") (conditions_said says) (get (codes "conditions") j)

-- the constraints, and the conditions
abbrev pub terms_said : Bool → Reading → Json → Said ((Term × (Term × Term)) × Term)
terms_said is_open says j = both_said (scopes_said is_open j) (conditions_at says j)

abbrev pub effect_at : Json → Said Effect
effect_at j = part_in (codes "effect") effect_said (get (codes "effect") j)

abbrev pub annotations_at : Json → Said (List (Text × Text))
annotations_at j = annotations_by (get (codes "annotations") j)

abbrev pub annotated_said : Bool → Reading → Json → Said (((Term × (Term × Term)) × Term) × List (Text × Text))
annotated_said is_open says j = both_said (terms_said is_open says j) (annotations_at j)

-- the policy of these parts, none of whose slots is linked
abbrev pub policy_made : Text → Effect × (((Term × (Term × Term)) × Term) × List (Text × Text)) → PolicyView
policy_made id q = record {
  effect = q.0;
  id = id;
  annotations = q.1.1;
  principal_constraint = q.1.0.0.0;
  action_constraint = q.1.0.0.1.0;
  resource_constraint = q.1.0.0.1.1;
  when_clause = q.1.0.1;
  slots = no_slots;
}

abbrev pub whole_said : Bool → Reading → Text → Json → Said PolicyView
whole_said is_open says id j = made_of (policy_made id) (both_said (effect_at j) (annotated_said is_open says j))

-- how many members a policy has
abbrev pub member_limit : Option Json → ℕ
member_limit None = 5
member_limit (Some j) = 6

abbrev pub within_members : Option ℕ → ℕ → Said PolicyView → Said PolicyView
within_members None limit s = refused reasons.NotAnObject
within_members (Some n) limit s = if nat_lt limit n then refused reasons.UnexpectedMember else s

-- the policy, or the template, of this id: no member besides these
abbrev pub policy_by : Bool → Reading → Text → Json → Said PolicyView
policy_by is_open says id j =
    within_members (member_count j) (member_limit (get (codes "annotations") j)) (whole_said is_open says id j)

-- a policy, in whose scope no slot stands
abbrev pub policy_said : Knowledge → ℕ → Text → Json → Said PolicyView
policy_said fs n id j = policy_by false (expression_said fs n) id j

-- a template, in whose scope slots may stand
abbrev pub template_said : Knowledge → ℕ → Text → Json → Said PolicyView
template_said fs n id j = policy_by true (expression_said fs n) id j
