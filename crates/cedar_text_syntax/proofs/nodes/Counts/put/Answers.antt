use Rattle.cedar_text_syntax.specs.Places.{for_memory}
use Rattle.cedar_text_syntax.proofs.nodes.Counts.put.Goals as goal

pub returns-in-Err-clause-err : goal.returns-in-Err-clause-err
returns-in-Err-clause-err c = for_memory
