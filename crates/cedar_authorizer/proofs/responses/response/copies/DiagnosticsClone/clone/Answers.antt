use Rattle.std.proofs.Common.{rules}
use Rattle.cedar_authorizer.proofs.Copies.{errors_view-copied, error_places-copied, is_among-copied}
use Rattle.cedar_authorizer.proofs.responses.response.copies.DiagnosticsClone.clone.Goals as goal

pub returns : goal.returns
returns c = record {
  cases = record {
    reasons = λ k t. is_among-copied _ (λ i j h. search rules) t c.args.self.now.reason.keys c.in_ok-reason.reason.keys c.in_ok-reason.ensures.cases k;
    errors = errors_view-copied c.args.self.now.errors.items c.in_ok-errors.errors.items c.in_ok-errors.ensures.cases.0;
    places = error_places-copied c.args.self.now.errors.items c.in_ok-errors.errors.items c.in_ok-errors.ensures.cases.0;
  };
}
