use Rattle.cedar_reasons.specs.Facts.{facts_view}
use Rattle.cedar_minimal_reasons.specs.Questions.{question, all_of}
use Rattle.cedar_minimal_reasons.proofs.Leaving.{none_by_all}
use Rattle.cedar_minimal_reasons.proofs.growing.grown.Goals as goal

pub returns-clause-undecided : goal.returns-clause-undecided
returns-clause-undecided g c =
    none_by_all (question c.args.authorizer.now c.args.case.now) (facts_view c.in_ok-all.all.items)
    (all_of (question c.args.authorizer.now c.args.case.now)) c.in_ok-all.ensures
    c.by_all.result c.by_all.ensures.undecided
