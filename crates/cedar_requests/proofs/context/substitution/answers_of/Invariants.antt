use Rattle.std.proofs.Common.{◌≡◌, take}
use Rattle.cedar_model.specs.Settings.{Setting}
use Rattle.cedar_model.specs.Rules.{Runs}
use Rattle.cedar_restricted.specs.Evaluations.{IsBare}
use Rattle.cedar_restricted.specs.Evaluators.{extensions_read, calls_in, limit_of}
use Rattle.cedar_restricted.specs.Parts.{answered_locs}
use Rattle.cedar_requests.specs.Contexts.{expr_locs}
use Rattle.cedar_requests.proofs.ByParts.{HaveAnswered}
use Rattle.cedar_requests.proofs.context.substitution.answers_of.Given as goal

abbrev pub invariant-parts : goal.invariant-parts
invariant-parts g l = record {
  read : (s : Setting) → IsBare (extensions_read l.fn.evaluator) s →
      HaveAnswered (Runs s (calls_in l.fn.evaluator) (limit_of l.fn.evaluator)) l.parts l.part-index l.answers;
  places : answered_locs l.answers ≡ expr_locs (take l.part-index l.parts);
}
