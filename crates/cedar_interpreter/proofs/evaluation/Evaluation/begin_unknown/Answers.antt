use Rattle.std.proofs.Common.{sym, subst}
use Rattle.std.specs.Option.{option_map}
use Rattle.std.specs.Rc.{rc_str_bytes}
use Rattle.cedar_model.specs.Terms.{unknown}
use Rattle.cedar_model.specs.Operators.{unknown_answer}
use Rattle.cedar_names.specs.Leaves.{type_view}
use Rattle.cedar_expressions.specs.View.{expr_loc}
use Rattle.cedar_interpreter.specs.Settings.{evaluation_setting, calls_in, mapper_view}
use Rattle.cedar_interpreter.specs.Tasks.{Starts}
use Rattle.cedar_interpreter.proofs.Laws.{gives_starts, or_out_of_memory_gives}
use Rattle.cedar_interpreter.proofs.evaluation.Evaluation.begin_unknown.Goals as goal

pub returns : goal.returns
returns g c r k =
    let n = rc_str_bytes c.args.unknown.now.name in
    let t = option_map type_view c.args.unknown.now.type_annotation in
    let b = unknown_answer (mapper_view c.args.self.now.given.now.mapper) n t in
    subst (λ u. Starts (evaluation_setting r c.args.self.now) (calls_in c.args.self.now) k (expr_loc c.args.whole.now.value) u c.or_out_of_memory.result) (sym c.requires)
    (gives_starts (evaluation_setting r c.args.self.now) (calls_in c.args.self.now) k (expr_loc c.args.whole.now.value) (unknown n t) b c.or_out_of_memory.result (λ a ok is. is)
    (or_out_of_memory_gives (expr_loc c.args.whole.now.value) b c.begin_unknown_mapped.result c.or_out_of_memory.result c.begin_unknown_mapped.ensures c.or_out_of_memory.ensures))
