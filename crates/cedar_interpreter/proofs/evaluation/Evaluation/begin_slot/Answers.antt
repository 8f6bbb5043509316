use Rattle.cedar_model.specs.Terms.{slot}
use Rattle.cedar_model.specs.Operators.{slot_answer}
use Rattle.cedar_names.specs.Leaves.{slot_view}
use Rattle.cedar_expressions.specs.View.{expr_loc}
use Rattle.cedar_layers.specs.Policies.{slots_view}
use Rattle.cedar_interpreter.specs.Settings.{evaluation_setting, calls_in}
use Rattle.cedar_interpreter.proofs.Laws.{gives_starts, or_out_of_memory_gives}
use Rattle.cedar_interpreter.proofs.evaluation.Evaluation.begin_slot.Goals as goal

pub returns : goal.returns
returns g c r k =
    let b = slot_answer (slot_view c.args.slot) (slots_view c.args.self.now.slots.now (slot_view c.args.slot)) in
    gives_starts (evaluation_setting r c.args.self.now) (calls_in c.args.self.now) k (expr_loc c.args.whole.now.value) (slot (slot_view c.args.slot)) b c.or_out_of_memory.result (λ a ok is. is)
    (or_out_of_memory_gives (expr_loc c.args.whole.now.value) b c.slot_answer.result c.or_out_of_memory.result c.slot_answer.ensures c.or_out_of_memory.ensures)
