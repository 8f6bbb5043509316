use Rattle.cedar_decimal.proofs.Written.{decimal_read, decimal_written}
use Rattle.cedar_decimal.proofs.laws.parsing_is_of_the_grammar.Goals as goal

pub returns-clause-reads : goal.returns-clause-reads
returns-clause-reads c = decimal_read

pub returns-clause-no_others : goal.returns-clause-no_others
returns-clause-no_others c = decimal_written
