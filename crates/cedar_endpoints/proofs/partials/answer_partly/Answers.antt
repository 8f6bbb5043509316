use Rattle.std.proofs.Common.{Option, subst, option_map, string_bytes}
use Rattle.json.specs.Value.{value_view}
use Rattle.cedar_endpoints.specs.Asked.{Text, Said}
use Rattle.cedar_endpoints.specs.Ids.{with_id}
use Rattle.cedar_endpoints.specs.Partials.{Partial, IsLeft, IsPartlyAnswered}
use Rattle.cedar_endpoints.specs.Replies.{Replies}
use Rattle.cedar_endpoints.proofs.Texts.{of_ok}
use Rattle.cedar_endpoints.proofs.partials.answer_partly.Goals as goal

pub returns : goal.returns
returns g c =
    let id = option_map string_bytes c.in_ok-id.id in
    let due = c.in_ok-reply.reply in
    of_ok (Replies due.status (with_id id (string_bytes due.body)))
    (IsPartlyAnswered (g.D.Decider.leaves c.args.decider.now) c.args.text.now (value_view c.args.value.now))
    (λ r h. record {
      due = due;
      is_due = subst (λ (s : Said Partial). IsLeft (g.D.Decider.leaves c.args.decider.now) c.args.text.now s due)
          c.read_partial.ensures c.in_ok-reply.ensures;
      is_put = subst (λ (i : Option Text). Replies due.status (with_id i (string_bytes due.body)) r) c.in_ok-id.ensures h;
    }) c.put_id.result c.put_id.ensures
