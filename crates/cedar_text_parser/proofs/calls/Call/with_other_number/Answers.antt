use Rattle.cedar_text_parser.specs.Calls.{callee_named, IsCalleeRefused, for_out_of_memory, for_why, other_number}
use Rattle.cedar_text_parser.proofs.Places.{passed_up}
use Rattle.cedar_text_parser.proofs.calls.Call.with_other_number.Goals as goal

pub returns-in_err-name-clause-err : goal.returns-in_err-name-clause-err
returns-in_err-name-clause-err c =
    λ k is not.
    passed_up c.from_residual.result _
    (IsCalleeRefused k (callee_named c.args.self c.args.name.now) c.args.self.arguments)
    c.from_residual.ensures.1 for_out_of_memory

pub returns-clause-err : goal.returns-clause-err
returns-clause-err c = λ k is not. for_why (other_number is not c.in_ok-name.ensures.ok)
