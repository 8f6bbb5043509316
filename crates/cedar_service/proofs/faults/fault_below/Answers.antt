use Rattle.std.proofs.Common.{◌≡◌, ◌∙◌, ap, string_bytes}
use Rattle.cedar_service.specs.Faults.{fault_text, IsFaultBelow}
use Rattle.cedar_service.proofs.Composed.{of_ok}
use Rattle.cedar_service.proofs.faults.fault_below.Goals as goal

pub returns : goal.returns
returns c =
    of_ok (λ s. string_bytes s ≡ fault_text c.as_str.result.now c.args.reason.now)
    (λ s. IsFaultBelow c.args.path.now (string_bytes s))
    (λ s h. record {
      rest = c.args.steps.now;
      reason = c.args.reason.now;
      told = h ∙ ap (λ p. fault_text p c.args.reason.now) (c.as_str.ensures.value ∙ c.in_ok-joined.ensures);
    }) c.fault_text.result c.fault_text.ensures
