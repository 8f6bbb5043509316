use Rattle.std.proofs.Common.{sym, ap, subst, ◌∙◌, List, [], ◌∷◌, ◌++◌, map, length, nat_eq}
use Rattle.cedar_layers.specs.PolicySets.{policies_view}
use Rattle.cedar_json_writer.specs.Trees.{json_view}
use Rattle.cedar_json_writer.specs.declared.tree.JsonValue.{JsonValue}
use Rattle.cedar_json_writer.specs.declared.tree.JsonValue.TheVariants.{Array}
use Rattle.cedar_json_writer.proofs.Trees.{view_array}
use Rattle.cedar_cli.specs.declared.steps.Taken.{Taken}
use Rattle.cedar_cli.specs.Stages.{AreDocuments, one_document}
use Rattle.cedar_cli.proofs.Staged.{is_none, is_some_list, documented_alone, documented_in_order}
use Rattle.cedar_cli.proofs.documents.stages_document.Goals as goal

pub returns-then-is_empty : goal.returns-then-is_empty
returns-then-is_empty c =
    let later = c.args.stages.now.later.items in
    documented_alone c.args.deciding.places.now.source.text.now (policies_view c.args.deciding.policies.now) c.args.stages.now.first later (json_view c.in_ok-first.first)
    (is_none later (ap (λ (l : List Taken). nat_eq (length l) 0) (sym c.as_slice.ensures.value) ∙ sym c.is_empty.ensures
    ∙ c.if-is_empty.true)) c.in_ok-first.ensures

pub returns : goal.returns
returns c =
    let first = c.args.stages.now.first in
    let later = c.args.stages.now.later.items in
    let all = c.put_stages.new.all in
    let text = c.args.deciding.places.now.source.text.now in
    let ps = policies_view c.args.deciding.policies.now in
    documented_in_order text ps first later (map json_view all.items) (json_view (Array all))
    (subst (λ l. AreDocuments text ps first l (map json_view all.items)) c.deref.ensures.value
    (c.in_ok-put_stages.ensures (subst (AreDocuments text ps first [])
    (sym (c.in_ok-put_item.ensures
    ∙ ap (λ (l : List JsonValue). map json_view l ++ json_view c.in_ok-first.first ∷ []) c.new-all.ensures.items))
    (one_document c.in_ok-first.ensures))))
    (is_some_list later (ap (λ (l : List Taken). nat_eq (length l) 0) (sym c.as_slice.ensures.value) ∙ sym c.is_empty.ensures
    ∙ c.if-is_empty.false)) (view_array all)
