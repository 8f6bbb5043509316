use Rattle.std.proofs.Common.{ap, ◌∙◌, subst}
use Rattle.cedar_expressions.specs.View.{view}
use Rattle.cedar_extensions.specs.Extensions.{calls_of}
use Rattle.cedar_restricted.specs.Views.{pairs_in}
use Rattle.cedar_requests.specs.Creations.{is_record, IsOfRecord}
use Rattle.cedar_requests.proofs.Creations.{pairs_answer}
use Rattle.cedar_requests.proofs.Records.{is_record-record_of}
use Rattle.cedar_requests.proofs.context.Context.from_pairs.Goals as goal

pub of_record-context-requires : goal.of_record-context-requires
of_record-context-requires g c =
    ap is_record (ap view c.as_borrowed.ensures ∙ c.in-Ok.ensures.view) ∙ is_record-record_of _

pub returns-in-Ok-clause-created : goal.returns-in-Ok-clause-created
returns-in-Ok-clause-created g c = λ s is_bare.
    pairs_answer s (calls_of c.args.extensions.now) _ (pairs_in c.args.pairs.items) c.of_record-context.result c.in-Ok.ensures.distinct
    (subst (λ t. IsOfRecord s (calls_of c.args.extensions.now) c.args.limit t c.of_record-context.result)
    (ap view c.as_borrowed.ensures
    ∙ c.in-Ok.ensures.view) (c.of_record-context.ensures.created s is_bare))
