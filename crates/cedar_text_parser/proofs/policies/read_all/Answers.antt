use Rattle.cedar_text_parser.proofs.policies.read_all.Goals as goal

pub returns-clause-ok : goal.returns-clause-ok
returns-clause-ok c = rw c.of.ensures at c.in_ok-reading.ensures.ok

pub returns-clause-told : goal.returns-clause-told
returns-clause-told c = rw c.of.ensures at c.in_ok-reading.ensures.told
