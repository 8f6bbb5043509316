use Rattle.std.proofs.Common.{◌≡◌, ◌∙◌, ap, subst, codes, Option, OnOk, option_copied}
use Rattle.http_header.specs.FieldValue.{FieldValue}
use Rattle.http_header.specs.HeaderMap.{Entries, get}
use Rattle.cedar_endpoints.specs.Answers.{IsSent}
use Rattle.cedar_endpoints.specs.Served.{request_id}
use Rattle.cedar_endpoints.proofs.service.send_to.Goals as goal

pub returns : goal.returns
returns c =
    let id : option_copied c.get-id.result ≡ request_id c.args.request.now =
    c.get-id.ensures.value ∙ ap (λ (m : Entries FieldValue). get m (codes "x-request-id")) c.headers.ensures in
    subst
    (λ (i : Option FieldValue). OnOk c.send.result
    (IsSent c.args.status c.args.version.now i c.args.body.now c.send.new.response))
    id c.send.ensures
