use Rattle.cedar_expressions.specs.View.{expr_loc}
use Rattle.cedar_interpreter.specs.Settings.{evaluation_setting, calls_in}
use Rattle.cedar_interpreter.proofs.PartsLaws.{parts_start}
use Rattle.cedar_interpreter.proofs.ElementLaws.{taken_stands}
use Rattle.cedar_interpreter.proofs.evaluation.Evaluation.begin_set.Goals as goal

pub returns-clause-starts : goal.returns-clause-starts
returns-clause-starts g c r k =
    parts_start (evaluation_setting r c.args.self.now) (calls_in c.args.self.now) k _ (expr_loc c.args.whole.now.value) c.loc_of.result c.set-next.result c.first_part.result c.set-next.ensures.begins c.first_part.ensures.taken

pub returns-clause-elements : goal.returns-clause-elements
returns-clause-elements g c =
    taken_stands c.args.parts.now.value.items (expr_loc c.args.whole.now.value) c.set-next.result c.first_part.result c.set-next.ensures.elements c.first_part.ensures.taken c.first_part.ensures.same
