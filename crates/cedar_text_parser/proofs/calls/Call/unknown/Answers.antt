use Rattle.cedar_functions.specs.Functions.{knowledge}
use Rattle.cedar_text_parser.specs.Calls.{callee_named, IsCalleeRefused, for_out_of_memory, for_why, unknown_name}
use Rattle.cedar_text_parser.proofs.Places.{passed_up}
use Rattle.cedar_text_parser.proofs.calls.Call.unknown.Goals as goal

pub returns-in_err-nearest-clause-err : goal.returns-in_err-nearest-clause-err
returns-in_err-nearest-clause-err c =
    passed_up c.from_residual.result _
    (IsCalleeRefused (knowledge c.args.functions.now) (callee_named c.args.self c.args.name.now) c.args.self.arguments)
    c.from_residual.ensures.1 for_out_of_memory

pub returns-in_err-name-clause-err : goal.returns-in_err-name-clause-err
returns-in_err-name-clause-err c =
    passed_up c.from_residual-in_err-name.result _
    (IsCalleeRefused (knowledge c.args.functions.now) (callee_named c.args.self c.args.name.now) c.args.self.arguments)
    c.from_residual-in_err-name.ensures.1 for_out_of_memory

pub returns-clause-err : goal.returns-clause-err
returns-clause-err c = for_why (unknown_name c.requires c.in_ok-name.ensures.ok c.in_ok-nearest.ensures)
