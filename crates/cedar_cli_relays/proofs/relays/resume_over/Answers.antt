use Rattle.std.proofs.Common.{◌≡◌, subst}
use Rattle.cedar_model.specs.Configurations.{Configuration, configured}
use Rattle.cedar_model.specs.Settings.{shallow}
use Rattle.cedar_authorizer.specs.declared.responses.partial_response.PartialResponse.{PartialResponse}
use Rattle.cedar_extensions.specs.Extensions.{extensions_view, calls_of}
use Rattle.cedar_response_json.specs.Extensions.{names_of}
use Rattle.cedar_cli.specs.Reasons.{IsToldFor}
use Rattle.cedar_cli.specs.Stages.{levels_in, AreTakenFrom}
use Rattle.cedar_cli.specs.Stopped.{AreNotTakenFrom}
use Rattle.cedar_cli_relays.specs.Saved.{ArePrintedAndSaved}
use Rattle.cedar_cli_relays.proofs.relays.resume_over.Goals as goal

pub returns-in-Ok-saved-clause-answered : goal.returns-in-Ok-saved-clause-answered
returns-in-Ok-saved-clause-answered g c =
    let x = c.args.extensions.now in
    let w = c.args.way in
    let first = c.args.response in
    let later = c.in-Ok.stages.later.items in
    let made = c.in-Ok-saved.ensures.saved in
    record {
      later = later;
      taken = subst (λ (d : Configuration). AreTakenFrom d first c.args.store.now.entities c.args.steps.now later)
          (λ i. configured (calls_of x) (c.error_handling.ensures i) shallow (extensions_view x) (levels_in w.limit))
          c.in-Ok.ensures.taken;
      no_policies = made.0;
      none_are = made.1;
      saved = subst (λ (r : PartialResponse). ArePrintedAndSaved (names_of x) c.args.line.text.now made.0 w.is_json r
          later c.in-Ok-saved.saved) c.in-Ok.ensures.first made.2;
    }

pub returns-in-Err-clause-refused : goal.returns-in-Err-clause-refused
returns-in-Err-clause-refused g c =
    let x = c.args.extensions.now in
    subst (λ (d : Configuration). IsToldFor
    (AreNotTakenFrom d c.args.response c.args.store.now.entities c.args.steps.now) c.in-Err.refusal)
    (λ i. configured (calls_of x) (c.error_handling.ensures i) shallow (extensions_view x) (levels_in c.args.way.limit))
    c.in-Err.ensures.refused
