use Rattle.std.proofs.Common.{◌≡◌, ◌∙◌, List, codes, Result, Ok, Err, IfOk}
use Rattle.cedar_policy_core.specs.Model.Terms.{Text, Term}
use Rattle.cedar_policy_core.specs.Model.World.{Slots}
use Rattle.cedar_policy_core.specs.Model.Agreement.{no_slots}
use Rattle.cedar_policy_core.specs.Model.Policies.{permit}
use Rattle.cedar_policy_core.specs.Ast.Names.{uid_name}
use Rattle.cedar_policy_core.specs.Ast.View.{view}
use Rattle.cedar_policy_core.specs.Types.Policy.{Policy}
use Rattle.cedar_policy_core.specs.Ast.Policies.{PolicyView, policy_view, policy_id_text, annotations_view, slots_view}
use Rattle.cedar_policy_core.specs.Lemmas.Slots.{slots_view-empty}
use Rattle.cedar_example_service.specs.Stages.{owner_may}
use Rattle.cedar_example_service.proofs.stages.owner_may.Goals as goal

-- a permit of these parts
abbrev permit_of : Text → List (Text × Text) → Term → Term → Term → Term → Slots → PolicyView
permit_of id annotations principal action resource clause slots = record {
  effect = permit;
  id = id;
  annotations = annotations;
  principal_constraint = principal;
  action_constraint = action;
  resource_constraint = resource;
  when_clause = clause;
  slots = slots;
}

of_equal_parts : {E : Type 0} (r : Result Policy E) (v w : PolicyView) → v ≡ w → IfOk r (λ p. policy_view p ≡ v)
    → IfOk r (λ p. policy_view p ≡ w)
of_equal_parts (Ok p) v w e h = h ∙ e
of_equal_parts (Err x) v w e h = tt

pub returns : goal.returns
returns c =
    let id : policy_id_text c.from_string-id.result ≡ codes "owner" =
    c.from_string-id.ensures ∙ c.in_ok-from_str.ensures.ok in
    let slots : slots_view c.new-slots.result ≡ no_slots =
    slots_view-empty c.new-slots.result c.new-slots.ensures.empty in
    of_equal_parts c.new-2.result
    (permit_of (policy_id_text c.from_string-id.result) (annotations_view c.new.result)
    (view c.in_ok-principal.principal) (view c.any.result) (view c.any-2.result) (view c.any-3.result)
    (slots_view c.new-slots.result))
    (owner_may (uid_name c.args.owner.now))
    (λ i. permit_of (id i) (c.new.ensures i) (c.in_ok-principal.ensures i) (c.any.ensures i) (c.any-2.ensures i)
    (c.any-3.ensures i) (slots i))
    c.new-2.ensures.view
