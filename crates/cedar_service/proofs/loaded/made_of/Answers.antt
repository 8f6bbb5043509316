use Rattle.cedar_service.specs.Loaded.{Texts, both_texts, IsRefusedFor}
use Rattle.cedar_service.specs.Ways.{ways_view}
use Rattle.cedar_service.proofs.Untold.{unmade_as, refused_for}
use Rattle.cedar_service.proofs.loaded.made_of.Goals as goal

pub returns-in-Err-clause-refused : goal.returns-in-Err-clause-refused
returns-in-Err-clause-refused c =
    let ts : Texts = both_texts c.args.policies.now c.args.entities.now (ways_view c.args.ways) in
    let r = c.refuse_reason-refusal.result in
    unmade_as (IsRefusedFor ts) r c.same_refusal.result
    (refused_for ts c.in-Err.reason c.in-Err.ensures.refused r c.refuse_reason-refusal.ensures.reason
    c.refuse_reason-refusal.ensures.fault) c.same_refusal.ensures
