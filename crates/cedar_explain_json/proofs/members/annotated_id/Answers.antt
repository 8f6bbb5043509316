-- What the map has under the key is what stands there in the view.
use Rattle.std.proofs.Common.{ap, ◌∙◌, Some, option_map, codes}
use Rattle.std.specs.Map.{lookup}
use Rattle.std.specs.Rc.{rc_str_bytes}
use Rattle.cedar_model.specs.Outcomes.{text_eq}
use Rattle.cedar_layers.specs.Policies.{annotations_view}
use Rattle.cedar_layers.specs.declared.policies.policy.Annotations.{Annotations}
use Rattle.cedar_explain_json.proofs.Calls.{found_at}
use Rattle.cedar_explain_json.proofs.members.annotated_id.Goals as goal

pub returns-in-Some : goal.returns-in-Some
returns-in-Some c =
    ap Some c.as_str.ensures.value ∙ ap (option_map rc_str_bytes) c.in-Some.ensures.value
    ∙ found_at (codes "id") c.deref.result.now.0.entries
    ∙ ap (λ (a : Annotations). lookup (text_eq (codes "id")) (annotations_view a)) c.deref.ensures
    ∙ ap (lookup (text_eq (codes "id"))) c.annotations_rc.ensures

pub returns-in-None : goal.returns-in-None
returns-in-None c =
    ap (option_map rc_str_bytes) c.in-None.ensures.value
    ∙ found_at (codes "id") c.deref.result.now.0.entries
    ∙ ap (λ (a : Annotations). lookup (text_eq (codes "id")) (annotations_view a)) c.deref.ensures
    ∙ ap (lookup (text_eq (codes "id"))) c.annotations_rc.ensures
