use Rattle.std.proofs.Common.{ap, ◌∙◌, ◌||◌}
use Rattle.cedar_model.specs.Outcomes.{has_text}
use Rattle.cedar_model.specs.Terms.{Text}
use Rattle.cedar_layers.specs.PolicySets.{policies_view}
use Rattle.cedar_authorizer.specs.responses.Responses.{errors_view}
use Rattle.cedar_json_writer.specs.Texts.{object_of}
use Rattle.cedar_cli.specs.Documents.{names_where}
use Rattle.cedar_cli.specs.Named.{erred_ids}
use Rattle.cedar_cli.proofs.Composed.{of_ok}
use Rattle.cedar_cli.proofs.documents.stage_names.Goals as goal

pub returns : goal.returns
returns c =
    let ps = policies_view c.args.policies.now in
    of_ok _ _
    (λ j h. h ∙ ap (λ (is : Text → _). object_of (names_where is ps))
    (λ i t. (c.in_ok-erred.ensures t ∙ ap (λ es. has_text t (erred_ids (errors_view es))) c.deref.ensures.value) i
    || c.in_ok-told.ensures t i))
    c.names_of_two-names.result c.names_of_two-names.ensures
