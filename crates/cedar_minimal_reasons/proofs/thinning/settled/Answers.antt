use Rattle.cedar_decisions.specs.Decisions.{decision_view}
use Rattle.cedar_minimal_reasons.specs.Questions.{question}
use Rattle.cedar_minimal_reasons.proofs.Leaving.{reason_given, reason_minimal}
use Rattle.cedar_minimal_reasons.proofs.thinning.settled.Goals as goal

pub returns-then-len-left-clause-given : goal.returns-then-len-left-clause-given
returns-then-len-left-clause-given g c =
    reason_given (question c.args.authorizer.now c.args.case.now) c.reason_of.result c.args.decision c.passes.facts c.reason_of.ensures.decision c.reason_of.ensures.facts c.passes.invariant

pub returns-in-Minimal-clause-given : goal.returns-in-Minimal-clause-given
returns-in-Minimal-clause-given g c =
    reason_given (question c.args.authorizer.now c.args.case.now) c.reason_of-in-Minimal.result c.args.decision c.passes.facts c.reason_of-in-Minimal.ensures.decision c.reason_of-in-Minimal.ensures.facts c.passes.invariant

pub returns-in-Minimal-clause-minimal : goal.returns-in-Minimal-clause-minimal
returns-in-Minimal-clause-minimal g c told =
    reason_minimal (question c.args.authorizer.now c.args.case.now) c.reason_of-in-Minimal.result (decision_view c.args.decision) c.deref.result.now c.passes.facts c.in_ok-fewer.field-0
    c.reason_of-in-Minimal.ensures.facts c.deref.ensures.value c.in-Minimal.is c.in_ok-fewer.ensures

pub returns-in-Undecided-clause-given : goal.returns-in-Undecided-clause-given
returns-in-Undecided-clause-given g c =
    reason_given (question c.args.authorizer.now c.args.case.now) c.reason_of-in-Undecided.result c.args.decision c.passes.facts c.reason_of-in-Undecided.ensures.decision c.reason_of-in-Undecided.ensures.facts c.passes.invariant

pub returns-clause-given : goal.returns-clause-given
returns-clause-given g c =
    reason_given (question c.args.authorizer.now c.args.case.now) c.reason_of-2.result c.args.decision c.passes.facts c.reason_of-2.ensures.decision c.reason_of-2.ensures.facts c.passes.invariant
