use Rattle.std.proofs.Common.{◌∙◌, ap}
use Rattle.std.specs.Result.{result_ok}
use Rattle.std.proofs.lemmas.Fmt.{parse-decimal}
use Rattle.cedar_endpoints.proofs.tokens.number_in.Goals as goal

pub returns : goal.returns
returns c = λ n small is.
    c.ok.ensures.value
    ∙ ap result_ok (parse-decimal 64 n c.args.text.now c.parse.result small small is c.parse.ensures.value.0)
