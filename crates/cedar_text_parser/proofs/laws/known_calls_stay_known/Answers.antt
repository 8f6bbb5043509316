use Rattle.cedar_text_parser.proofs.TermCalls.{stays_known, read_known}
use Rattle.cedar_text_parser.proofs.laws.known_calls_stay_known.Goals as goal

pub returns-clause-trees : goal.returns-clause-trees
returns-clause-trees c = λ k source x p is h. stays_known k x p is h

pub returns-clause-read : goal.returns-clause-read
returns-clause-read c = λ k text limit x is. read_known k x is
