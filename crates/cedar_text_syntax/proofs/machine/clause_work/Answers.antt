use Rattle.std.proofs.Common.{ap, ◌∙◌, ◌∷◌}
use Rattle.cedar_text_syntax.specs.Places.{for_memory}
use Rattle.cedar_text_syntax.specs.Trees.{trees}
use Rattle.cedar_text_syntax.specs.declared.frames.Wait.TheVariants as wait
use Rattle.cedar_text_syntax.proofs.Turns.{clause_begun}
use Rattle.cedar_text_syntax.proofs.machine.clause_work.Goals as goal

pub returns-in-Ok-clause-ok : goal.returns-in-Ok-clause-ok
returns-in-Ok-clause-ok c =
    clause_begun c.requires.opens c.start_at.ensures
    (c.in-Ok.ensures.frames ∙ ap (λ fs. record { wait = wait.Clause c.args.brace; start = c.start_at.result; height = 0 } ∷ fs) c.new.ensures)
    (c.wait.ensures.trees ∙ ap trees c.new-2.ensures.items)

pub returns-in-Err-clause-err : goal.returns-in-Err-clause-err
returns-in-Err-clause-err c = for_memory
