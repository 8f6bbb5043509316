use Rattle.std.proofs.Common.{◌∙◌, ◌+◌, arith, sym}
use Rattle.cedar_functions.specs.Functions.{knowledge}
use Rattle.cedar_names.specs.declared.names.CallStyle.TheVariants.{MethodStyle}
use Rattle.cedar_text_syntax.specs.declared.steps.Bracketed.TheVariants as brackets
use Rattle.cedar_text_syntax.specs.declared.steps.What.TheVariants as what
use Rattle.cedar_text_parser.specs.Calls.{IsCallRefused, by_name, callee_at}
use Rattle.cedar_text_parser.proofs.Known.{call_refused, told_on, method_callee_is}
use Rattle.cedar_text_parser.proofs.calls.known_method.Goals as goal

pub returns-in-Function-clause-err : goal.returns-in-Function-clause-err
returns-in-Function-clause-err c =
    let is = rw c.word_at.ensures at (sym c.method.ensures ∙ c.in-Function.is) in
    told_on c.known_name.result
    (IsCallRefused (knowledge c.args.functions.now) c.args.source.now
    (what.Bracketed (brackets.Method c.args.at) c.args.count))
    (λ e h.
    call_refused (brackets.Method c.args.at) c.args.count
    (callee_at c.args.source.now MethodStyle c.args.at (c.args.at + 1)) e (omega arith)
    (method_callee_is c.args.source.now c.args.at is) h) c.known_name.ensures.err

pub returns-else-at-len-clause-err : goal.returns-else-at-len-clause-err
returns-else-at-len-clause-err c = by_name c.ill_made.ensures
