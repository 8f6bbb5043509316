use Rattle.std.proofs.Common.{arith, refl}
use Rattle.cedar_functions.specs.Functions.{knowledge}
use Rattle.cedar_names.specs.declared.names.CallStyle.TheVariants.{FunctionStyle}
use Rattle.cedar_text_syntax.specs.declared.steps.Bracketed.TheVariants as brackets
use Rattle.cedar_text_syntax.specs.declared.steps.What.TheVariants as what
use Rattle.cedar_text_parser.specs.Calls.{IsCallRefused, by_name, callee_at}
use Rattle.cedar_text_parser.proofs.Known.{call_refused, told_on}
use Rattle.cedar_text_parser.proofs.calls.known_call.Goals as goal

pub returns-then-to-len-clause-err : goal.returns-then-to-len-clause-err
returns-then-to-len-clause-err c =
    told_on c.known_name.result
    (IsCallRefused (knowledge c.args.functions.now) c.args.source.now
    (what.Bracketed (brackets.Call c.args.from c.args.to) c.args.count))
    (λ e h.
    call_refused (brackets.Call c.args.from c.args.to) c.args.count
    (callee_at c.args.source.now FunctionStyle c.args.from c.args.to) e (omega arith, omega arith) refl
    h) c.known_name.ensures.err

pub returns-else-from-to-clause-err : goal.returns-else-from-to-clause-err
returns-else-from-to-clause-err c = by_name c.ill_made.ensures
