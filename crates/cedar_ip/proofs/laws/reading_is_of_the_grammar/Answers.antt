use Rattle.cedar_ip.proofs.Written.{range_read, range_written}
use Rattle.cedar_ip.proofs.laws.reading_is_of_the_grammar.Goals as goal

pub returns-clause-reads : goal.returns-clause-reads
returns-clause-reads c = range_read

pub returns-clause-no_others : goal.returns-clause-no_others
returns-clause-no_others c = range_written
