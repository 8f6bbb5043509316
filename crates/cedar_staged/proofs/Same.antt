-- A step from a response that says the same.
use Rattle.std.specs.Prelude.{Result, Ok, Err}
use Rattle.cedar_model.specs.Settings.{Store}
use Rattle.cedar_model.specs.Configurations.{Configuration}
use Rattle.cedar_model.specs.Refusals.{Refusal}
use Rattle.cedar_model.specs.Chains.{Mapping}
use Rattle.cedar_authorizer.specs.declared.responses.partial_response.PartialResponse.{PartialResponse}
use Rattle.cedar_authorizer.specs.responses.Rows.{rows_view}
use Rattle.cedar_authorizer.specs.Steps.{response_said, IsStep}
use Rattle.cedar_authorizer.proofs.Same.{same_carried, same_step}
use Rattle.cedar_authorizer.proofs.Stepped.{same_rows}
use Rattle.cedar_staged.specs.Wires.{SaysTheSame}

pub from_the_same : (c : Configuration) (step : Mapping × Store) (r read : PartialResponse) (x : Result PartialResponse Refusal) → SaysTheSame r read → IsStep c step (response_said read) x → IsStep c step (response_said r) x
from_the_same c step r read (Ok n) same (new, h, says) = (
  new,
  same_step c step.0 step.1 (response_said read) (response_said r) same.mode_is same.request_is
      (same_carried (rows_view r) (rows_view read) (same_rows (rows_view r) read same.held)) (Ok new) h,
  says,
)
from_the_same c step r read (Err e) same h =
    same_step c step.0 step.1 (response_said read) (response_said r) same.mode_is same.request_is
    (same_carried (rows_view r) (rows_view read) (same_rows (rows_view r) read same.held)) (Err e) h
