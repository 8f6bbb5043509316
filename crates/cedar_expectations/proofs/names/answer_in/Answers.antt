use Rattle.std.proofs.Common.{refl, subst, map, string_bytes}
use Rattle.cedar_layers.specs.PolicySets.{policies_view}
use Rattle.cedar_expectations.specs.Named.{AreErrorTexts}
use Rattle.cedar_expectations.proofs.names.answer_in.Goals as goal

pub returns : goal.returns
returns c = record {
  decision_is = refl;
  reasons_are = c.in_ok-reasons.ensures;
  errors_are = subst
      (λ es. AreErrorTexts (policies_view c.args.policies.now) es (map string_bytes c.in_ok-errors.errors.items))
      c.deref.ensures.value c.in_ok-errors.ensures;
}
