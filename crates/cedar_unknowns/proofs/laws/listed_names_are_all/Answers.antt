use Rattle.cedar_unknowns.proofs.Naming.{names_all_by_lists, listed_names_are_all}
use Rattle.cedar_unknowns.proofs.laws.listed_names_are_all.Goals as goal

pub returns-clause-lists : goal.returns-clause-lists
returns-clause-lists c = names_all_by_lists

pub returns-clause-all : goal.returns-clause-all
returns-clause-all c = listed_names_are_all
