use Rattle.cedar_template_links.proofs.parts.read_parts.Goals as goal

pub returns-in-Set-clause-said : goal.returns-in-Set-clause-said
returns-in-Set-clause-said c = rw c.in-Set.is c.parts_at.ensures.said

pub returns-in-Set-clause-refused : goal.returns-in-Set-clause-refused
returns-in-Set-clause-refused c = rw c.in-Set.is c.parts_at.ensures.refused

pub returns-in-File-clause-said : goal.returns-in-File-clause-said
returns-in-File-clause-said c = rw c.in-File.is c.parts_at-in-File.ensures.said

pub returns-in-File-clause-refused : goal.returns-in-File-clause-refused
returns-in-File-clause-refused c = rw c.in-File.is c.parts_at-in-File.ensures.refused
