use Rattle.cedar_text_parser.specs.Paths.{IsPathRefused, for_out_of_memory}
use Rattle.cedar_text_parser.proofs.Places.{passed_up}
use Rattle.cedar_text_parser.proofs.paths.parse_entity_uid.Goals as goal

pub returns-in_err-tokens-clause-err : goal.returns-in_err-tokens-clause-err
returns-in_err-tokens-clause-err c =
    passed_up c.from_residual.result _ (IsPathRefused c.args.text.now) c.from_residual.ensures.1
    (for_out_of_memory)

pub returns-clause-ok : goal.returns-clause-ok
returns-clause-ok c = rw c.of.ensures at c.in_ok-uid.ensures.ok
