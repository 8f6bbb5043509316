use Rattle.std.proofs.Common.{◌∙◌, option_map, string_bytes}
use Rattle.cedar_endpoints.specs.Found.{finder_of}
use Rattle.cedar_endpoints.specs.Served.{Offers, offered, reloads_of}
use Rattle.cedar_endpoints.proofs.Due.{served}
use Rattle.cedar_endpoints.proofs.service.respond.Goals as goal

pub returns : goal.returns
returns g c =
    let s = c.args.service.now in
    let all : Offers =
    offered (g.D.Decider.decides s.decider) (g.D.Decider.authorizes s.decider) (g.D.Decider.leaves s.decider)
    (finder_of (g.D.Decider.finds s.decider) (g.D.Decider.version s.decider) (g.D.Decider.count s.decider) s.page)
    (reloads_of s.allows_reload (g.D.Decider.refuses s.decider)) (option_map string_bytes s.metadata) s.max_evaluations in
    served all c.args.request.now c.args.route c.as_slice.result.now c.in_ok-reply.reply c.version_text-version.result.now
    c.as_str.result.now c.send_to.new.response c.send_to.result c.requires.route (c.as_slice.ensures ∙ c.body.ensures)
    c.version_text-version.ensures c.as_str.ensures.value c.in_ok-reply.ensures c.send_to.ensures
