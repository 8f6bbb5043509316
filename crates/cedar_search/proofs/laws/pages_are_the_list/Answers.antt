use Rattle.cedar_search.specs.Questions.{question}
use Rattle.cedar_search.proofs.Paging.{pages_together}
use Rattle.cedar_search.proofs.laws.pages_are_the_list.Goals as goal

pub returns : goal.returns
returns g c us after pages h = pages_together (question c.args.authorizer.now c.args.search.now) us after pages h
