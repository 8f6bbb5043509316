use Rattle.std.proofs.Common.{◌≡◌, ◌∙◌, length, rules}
use Rattle.cedar_extensions.proofs.Agreeing.{computes_by_calls}
use Rattle.cedar_extensions.proofs.function.ExtensionFunction.new.Goals as goal

pub new-requires-clause-functional : goal.new-requires-clause-functional
new-requires-clause-functional g c =
    let e : c.len-arity.result ≡ length c.args.arg_types.items = search rules in
    λ xs o p x y. c.requires.functional xs o p (x.0, x.1, x.2 ∙ e, x.3, x.4, x.5) (y.0, y.1, y.2 ∙ e, y.3, y.4, y.5)

pub returns-clause-answers : goal.returns-clause-answers
returns-clause-answers g c = search rules

pub returns-clause-computes : goal.returns-clause-computes
returns-clause-computes g c f comes vs a can =
    computes_by_calls _ _ f c.requires.lawful comes vs a ((returns-clause-answers g c vs a).0 can)
