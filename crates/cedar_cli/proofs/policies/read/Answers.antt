use Rattle.cedar_functions.specs.Functions.{knowledge}
use Rattle.cedar_cli.specs.Reasons.{IsOfPolicies, ArePoliciesUnread}
use Rattle.cedar_cli.proofs.Reasoned.{because}
use Rattle.cedar_cli.proofs.policies.read.Goals as goal

pub returns-in-Err-clause-refused : goal.returns-in-Err-clause-refused
returns-in-Err-clause-refused c =
    because (IsOfPolicies c.in-Err.errors.first)
    (ArePoliciesUnread (knowledge c.args.functions.now) c.args.source.text.now)
    (λ of. record {
      first = c.in-Err.errors.first;
      others = c.in-Err.errors.rest.items;
      of_policies = of;
      refused = c.in-Err.ensures.told;
    })
    c.refusal.result c.refusal.ensures
