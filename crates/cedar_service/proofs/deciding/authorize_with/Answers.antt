use Rattle.cedar_extensions.specs.Extensions.{extensions_view, calls_of}
use Rattle.cedar_service.specs.Brought.{IsUnbroughtBy}
use Rattle.cedar_service.specs.Decided.{IsRefusalOf, IsAuthorizedWith, not_brought}
use Rattle.cedar_service.specs.Engines.{entities_of}
use Rattle.cedar_service.specs.Ways.{ways_view}
use Rattle.cedar_service.proofs.Composed.{of_ok}
use Rattle.cedar_service.proofs.Over.{unread_document}
use Rattle.cedar_service.proofs.Responding.{refused_as}
use Rattle.cedar_service.proofs.deciding.authorize_with.Goals as goal

pub returns : goal.returns
returns g c =
    let x = c.args.extensions.now in
    let e = c.args.engine.now in
    let t = c.args.text.now in
    let w = ways_view c.args.ways in
    let r = c.refuse_json-refusal.result in
    of_ok (IsRefusalOf r) (IsAuthorizedWith (extensions_view x) (calls_of x) e w t)
    (λ o h. not_brought (refused_as (IsUnbroughtBy (extensions_view x) (calls_of x) w (entities_of e) t) r o
    (unread_document (extensions_view x) (calls_of x) w (entities_of e) t c.in-Err.error c.in-Err.ensures.unread r
    c.refuse_json-refusal.ensures.json c.refuse_json-refusal.ensures.fault) h)) c.refused.result c.refused.ensures
