use Rattle.std.proofs.Common.{◌≡◌, ◌∙◌, ap}
use Rattle.http.specs.Request.{head_of}
use Rattle.http_uri.specs.Uri.{uri_path}
use Rattle.cedar_endpoints.specs.Routes.{route_of}
use Rattle.cedar_endpoints.proofs.service.asked_route.Goals as goal

pub returns : goal.returns
returns c =
    let q = c.args.request.now in
    let method : c.as_str.result.now ≡ (head_of q).method = c.as_str.ensures.value ∙ c.method.ensures in
    let path : c.path.result.now ≡ uri_path (head_of q).uri = c.path.ensures.value ∙ ap uri_path c.uri.ensures in
    c.route_of.ensures ∙ (λ i. route_of (method i) (path i))
