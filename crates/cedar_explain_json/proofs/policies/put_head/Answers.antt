-- The id, the name, the effect, the place, and what the policy came to.
use Rattle.std.proofs.Common.{ap, ◌∙◌, [], ◌∷◌, ◌++◌, codes}
use Rattle.json.specs.Json.{string}
use Rattle.cedar_text_printer.specs.Policies.{effect_text}
use Rattle.cedar_layers.specs.Policies.{policy_view, policy_location}
use Rattle.cedar_layers.specs.declared.policies.policy.Policy.{Policy}
use Rattle.cedar_json_writer.specs.Trees.{members_seen}
use Rattle.cedar_places.specs.Texts.{text_in}
use Rattle.cedar_explain.specs.declared.explanations.Explanation.{Explanation}
use Rattle.cedar_explain.specs.Requests.{explained_policy, explanation_of, its_view}
use Rattle.cedar_explain.specs.Views.{told_outcome}
use Rattle.cedar_explain_printer.specs.Names.{annotated}
use Rattle.cedar_explain_json.specs.Documents.{id_member, name_members, place_members}
use Rattle.cedar_explain_json.specs.Words.{policy_outcome}
use Rattle.cedar_explain_json.proofs.Ordered.{five_put}
use Rattle.cedar_explain_json.proofs.policies.put_head.Goals as goal

pub returns : goal.returns
returns c =
    let x = c.args.explained.now in
    let text = text_in c.args.places.now in
    five_put _ _ _ _ _ _
    (id_member (its_view x).id ∷ []) (name_members (annotated (its_view x)))
    ((codes "effect", string (effect_text (its_view x).effect)) ∷ [])
    (place_members text (policy_location (explained_policy x))) (policy_outcome (told_outcome (explanation_of x)))
    c.requires
    (c.in_ok-put_id.ensures ∙ ap (λ i. members_seen c.args.members.now.items ++ id_member i ∷ []) c.id.ensures)
    (c.in_ok-put_name.ensures
    ∙ ap (λ (p : Policy). members_seen c.put_id.new.members.items ++ name_members (annotated (policy_view p))) c.policy.ensures)
    (c.in_ok-put_text.ensures
    ∙ ap (λ t. members_seen c.put_name.new.members.items ++ (codes "effect", string t) ∷ [])
    (c.effect_text.ensures ∙ ap effect_text c.effect.ensures))
    (c.in_ok-put_place.ensures
    ∙ ap (λ o. members_seen c.put_text.new.members.items ++ place_members text o)
    (c.loc.ensures ∙ ap policy_location c.policy-2.ensures))
    (c.in_ok-put_policy_outcome.ensures
    ∙ ap (λ o. members_seen c.put_place.new.members.items ++ policy_outcome o)
    (c.outcome.ensures ∙ ap (λ (e : Explanation). told_outcome e) c.explanation.ensures))
