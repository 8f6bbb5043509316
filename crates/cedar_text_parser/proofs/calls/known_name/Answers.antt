use Rattle.cedar_text_parser.specs.Calls.{for_out_of_memory}
use Rattle.cedar_text_parser.proofs.calls.known_name.Goals as goal

pub returns-in-Err-clause-err : goal.returns-in-Err-clause-err
returns-in-Err-clause-err c = for_out_of_memory
