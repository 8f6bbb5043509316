use Rattle.std.proofs.Common.{◌≡◌, ◌∙◌, Some, None, codes, string_bytes, subst, IfOk, option_map}
use Rattle.cedar_log.specs.Lines.{Text, stamp_text}
use Rattle.cedar_log.specs.Exchanges.{AreFoundOf}
use Rattle.cedar_log.proofs.exchanges.request_line.Goals as goal

pub returns : goal.returns
returns c =
    let stamp : c.as_str.result.now ≡ stamp_text (Some c.args.version.now) None =
    c.as_str.ensures.value ∙ c.in_ok-stamp.ensures in
    let told : IfOk c.read_body.result (λ o. AreFoundOf (stamp_text (Some c.args.version.now) None)
    (codes "/v1/authorize") c.args.request.now c.as_bytes.result.now (option_map string_bytes o)) =
    subst (λ (t : Text). IfOk c.read_body.result (λ o. AreFoundOf t (codes "/v1/authorize")
    c.args.request.now c.as_bytes.result.now (option_map string_bytes o))) stamp c.read_body.ensures in
    subst (λ (t : Text). IfOk c.read_body.result (λ o. AreFoundOf (stamp_text (Some c.args.version.now) None)
    (codes "/v1/authorize") c.args.request.now t (option_map string_bytes o))) c.as_bytes.ensures.value told
