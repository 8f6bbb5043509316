use Rattle.std.proofs.Common.{option_map, string_bytes}
use Rattle.cedar_endpoints.specs.Ids.{with_id}
use Rattle.cedar_endpoints.specs.Replies.{Replies}
use Rattle.cedar_endpoints.specs.Served.{IsAuthorized, of_text}
use Rattle.cedar_endpoints.proofs.Texts.{of_ok}
use Rattle.cedar_endpoints.proofs.authorized.authorize_text.Goals as goal

pub returns : goal.returns
returns g c =
    let id = option_map string_bytes c.in_ok-id.id in
    let due = c.in_ok-reply.reply in
    of_ok (Replies due.status (with_id id (string_bytes due.body)))
    (IsAuthorized (g.D.Decider.authorizes c.args.decider.now) c.args.text.now)
    (λ r h. of_text c.in_ok-id.ensures (record { due = due; is_due = c.in_ok-reply.ensures; is_put = h }))
    c.put_id.result c.put_id.ensures
