use Rattle.std.proofs.Common.{◌≢◌}
use Rattle.cedar_model.specs.Failures.{PartialValue, answers, fails, out_of_memory}
use Rattle.cedar_model.proofs.Injections.{answers_is_not_fails}
use Rattle.cedar_extensions.specs.Extensions.{calls_of}
use Rattle.cedar_restricted.specs.Views.{borrowed_term}
use Rattle.cedar_requests.proofs.Creations.{refused_answer}
use Rattle.cedar_requests.proofs.context.creation.of_record.Goals as goal

pub returns-in-Ok-clause-created : goal.returns-in-Ok-clause-created
returns-in-Ok-clause-created g c = λ s is_bare. c.in-Ok.ensures.answer s is_bare (answers_is_not_fails _ out_of_memory)

pub returns-in-Err-clause-created : goal.returns-in-Err-clause-created
returns-in-Err-clause-created g c = λ s is_bare.
    refused_answer s (calls_of c.args.extensions.now) c.args.limit (borrowed_term c.args.expr) c.in-Err.error
    c.from.result c.from.ensures (c.in-Err.ensures.answer s is_bare)
