use Rattle.cedar_model.specs.Outcomes.{entity_eq}
use Rattle.cedar_search.specs.Questions.{question}
use Rattle.cedar_search.specs.Found.{IsDecided}
use Rattle.cedar_search.proofs.Keeping.{kept_distinct}
use Rattle.cedar_search.proofs.Meant.{those_meant}
use Rattle.cedar_search.proofs.laws.permitted_are_meant.Goals as goal

pub returns-clause-meant : goal.returns-clause-meant
returns-clause-meant g c us found h = those_meant (question c.args.authorizer.now c.args.search.now) us found h

pub returns-clause-once : goal.returns-clause-once
returns-clause-once g c us found h d = kept_distinct (IsDecided (question c.args.authorizer.now c.args.search.now)) entity_eq us found h d
