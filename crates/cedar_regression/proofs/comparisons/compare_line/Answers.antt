use Rattle.std.proofs.Common.{subst, IfOk}
use Rattle.cedar_extensions.specs.Extensions.{extensions_view, calls_of}
use Rattle.cedar_model.specs.Terms.{Text}
use Rattle.cedar_expectations.specs.Compared.{comparison_view}
use Rattle.cedar_regression.specs.Compared.{IsLineOver}
use Rattle.cedar_regression.proofs.comparisons.compare_line.Goals as goal

pub returns : goal.returns
returns g c =
    let x = c.args.extensions.now in
    subst
    (λ (t : Text). IfOk c.compare_request-one.result (λ r. IsLineOver (extensions_view x) (calls_of x) c.args.old.now
    c.args.new.now c.args.entities.now c.args.asked.now c.args.way c.args.number t (comparison_view r)))
    c.text_or.ensures c.compare_request-one.ensures
