use Rattle.cedar_expressions.specs.View.{expr_loc}
use Rattle.cedar_interpreter.specs.Settings.{evaluation_setting, calls_in}
use Rattle.cedar_interpreter.proofs.PartsLaws.{parts_start}
use Rattle.cedar_interpreter.proofs.evaluation.Evaluation.begin_call.Goals as goal

pub returns : goal.returns
returns g c r k =
    parts_start (evaluation_setting r c.args.self.now) (calls_in c.args.self.now) k _ (expr_loc c.args.whole.now.value) c.loc_of.result c.call-next.result c.first_part.result c.call-next.ensures c.first_part.ensures.taken
