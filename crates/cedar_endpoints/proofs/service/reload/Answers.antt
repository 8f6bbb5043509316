use Rattle.std.proofs.Common.{◌∙◌, subst, option_map, string_bytes}
use Rattle.cedar_endpoints.specs.Asked.{Text}
use Rattle.cedar_endpoints.specs.Found.{finder_of}
use Rattle.cedar_endpoints.specs.Reloads.{IsUntaken, IsUntakenAs}
use Rattle.cedar_endpoints.specs.Served.{Offers, offered, reloads_of}
use Rattle.cedar_endpoints.proofs.Changed.{takes_on, keeps_on}
use Rattle.cedar_endpoints.proofs.service.reload.Goals as goal

pub returns-in-Ok-clause-ok : goal.returns-in-Ok-clause-ok
returns-in-Ok-clause-ok g c =
    let s = c.args.service.now in
    let all : Offers =
    offered (g.D.Decider.decides s.decider) (g.D.Decider.authorizes s.decider) (g.D.Decider.leaves s.decider)
    (finder_of (g.D.Decider.finds s.decider) (g.D.Decider.version s.decider) (g.D.Decider.count s.decider) s.page)
    (reloads_of s.allows_reload (g.D.Decider.refuses s.decider)) (option_map string_bytes s.metadata) s.max_evaluations in
    takes_on all (g.D.Decider.remakes s.decider) g.D.Decider.version c.args.request.now c.take.new.response
    c.args.replaced c.in-Ok.made s c.take.new.service c.take.result c.requires.asked
    (subst (λ (b : Text). g.D.Decider.remakes s.decider c.args.replaced b c.in-Ok.made)
    (c.as_slice.ensures ∙ c.body.ensures) c.in-Ok.ensures.remade) c.take.ensures.taken c.take.ensures.sent

pub returns-in-Err-clause-ok : goal.returns-in-Err-clause-ok
returns-in-Err-clause-ok g c =
    let s = c.args.service.now in
    let all : Offers =
    offered (g.D.Decider.decides s.decider) (g.D.Decider.authorizes s.decider) (g.D.Decider.leaves s.decider)
    (finder_of (g.D.Decider.finds s.decider) (g.D.Decider.version s.decider) (g.D.Decider.count s.decider) s.page)
    (reloads_of s.allows_reload (g.D.Decider.refuses s.decider)) (option_map string_bytes s.metadata) s.max_evaluations in
    keeps_on all (g.D.Decider.remakes s.decider) g.D.Decider.version c.args.request.now c.keep.new.response
    c.args.replaced s c.in-Err.untaken c.keep.result c.requires.asked
    (subst (λ (b : Text). IsUntakenAs (IsUntaken (g.D.Decider.refuses s.decider) c.args.replaced b) c.in-Err.untaken)
    (c.as_slice.ensures ∙ c.body.ensures) c.in-Err.ensures.untaken) c.keep.ensures
