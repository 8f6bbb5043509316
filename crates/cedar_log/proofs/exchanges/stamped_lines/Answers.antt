use Rattle.std.proofs.Common.{◌≡◌, ◌∙◌, ap, option_map, string_bytes}
use Rattle.http.specs.Request.{head_of}
use Rattle.http_uri.specs.Uri.{uri_path}
use Rattle.cedar_log.specs.Exchanges.{AreFound, AreFoundOf}
use Rattle.cedar_log.proofs.Carried.{of_ok}
use Rattle.cedar_log.proofs.Telling.{found_of_parts}
use Rattle.cedar_log.proofs.exchanges.stamped_lines.Goals as goal

pub returns : goal.returns
returns c =
    let q = c.args.request.now in
    let p = c.args.response.now in
    let path : c.path.result.now ≡ uri_path (head_of q).uri = c.path.ensures.value ∙ ap uri_path c.uri.ensures in
    of_ok
    (λ o. AreFoundOf c.as_str.result.now c.path.result.now c.as_slice.result.now c.args.answer.now (option_map string_bytes o))
    (λ o. AreFound q p (option_map string_bytes o))
    (λ o. found_of_parts q p (option_map string_bytes o) (string_bytes c.in_ok-stamp.stamp) c.as_str.result.now
    c.path.result.now c.as_slice.result.now c.args.answer.now c.in_ok-stamp.ensures c.as_str.ensures.value path
    (c.as_slice.ensures ∙ c.body.ensures) c.requires)
    c.read_body.result c.read_body.ensures
