use Rattle.std.proofs.Common.{sym, subst}
use Rattle.cedar_model.specs.Rules.{LooksUp}
use Rattle.cedar_names.specs.Names.{name_text}
use Rattle.cedar_values.specs.Sound.{whats}
use Rattle.cedar_extensions.specs.Extensions.{extensions_view, calls_of}
use Rattle.cedar_restricted.specs.Evaluations.{partial_answer}
use Rattle.cedar_restricted.specs.Parts.{CallMakes}
use Rattle.cedar_restricted.proofs.made.call_of.Goals as goal

pub returns-in-Values : goal.returns-in-Values
returns-in-Values g c = λ ok.
    let x = extensions_view c.args.extensions.now in
    let calls = calls_of c.args.extensions.now in
    let name = name_text c.args.fn_name in
    let a = partial_answer c.call_function.result in
    subst (λ l. CallMakes x calls c.args.fn_name l a) (sym c.in-Values.is)
    (subst (λ vs. LooksUp calls (x.arity name) name (whats vs) a) c.as_slice.ensures.value (c.call_function.ensures ok))
