use Rattle.cedar_text_parser.proofs.Kept.{field_kept}
use Rattle.cedar_text_parser.proofs.builder.Builder.field.Goals as goal

pub returns-in_ok-push-in-Some-clause-ok : goal.returns-in_ok-push-in-Some-clause-ok
returns-in_ok-push-in-Some-clause-ok c = λ s e.
    field_kept s e c.in-Some.ensures c.in_ok-key-in-Some.ensures.ok c.in_ok-push-in-Some.ensures
