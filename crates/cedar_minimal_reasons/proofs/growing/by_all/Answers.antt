use Rattle.std.proofs.Common.{Some, None, Option}
use Rattle.cedar_minimal_reasons.specs.Questions.{question}
use Rattle.cedar_minimal_reasons.proofs.Leaving.{answers_some, answers_none}
use Rattle.cedar_minimal_reasons.proofs.growing.by_all.Goals as goal

pub returns-in-Some-clause-given : goal.returns-in-Some-clause-given
returns-in-Some-clause-given g c =
    answers_some (question c.args.authorizer.now c.args.case.now) c.deref.result.now c.args.all.items c.deref.ensures.value c.in_ok-decision.field-0 c.in-Some.decision c.in-Some.is c.in_ok-decision.ensures

pub returns-clause-undecided : goal.returns-clause-undecided
returns-clause-undecided g c =
    answers_none (question c.args.authorizer.now c.args.case.now) c.deref.result.now c.args.all.items c.deref.ensures.value c.in_ok-decision.field-0 c.in-None.is c.in_ok-decision.ensures
