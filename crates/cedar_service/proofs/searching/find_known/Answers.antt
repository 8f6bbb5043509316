use Rattle.std.proofs.Common.{subst}
use Rattle.cedar_model.specs.Settings.{RequestPart}
use Rattle.cedar_extensions.specs.Extensions.{extensions_view, calls_of}
use Rattle.cedar_requests.specs.Requests.{request_view}
use Rattle.cedar_service.specs.Engines.{candidates_of}
use Rattle.cedar_service.specs.Searched.{question_of, IsListed, IsPageFor, listed}
use Rattle.cedar_service.proofs.Composed.{of_ok}
use Rattle.cedar_service.proofs.searching.find_known.Goals as goal

pub returns : goal.returns
returns g c =
    let x = c.args.extensions.now in
    let e = c.args.engine.now in
    let s = c.args.store.now in
    let part = c.args.pages.part in
    of_ok
    (IsListed c.args.bound (question_of (extensions_view x) (calls_of x) e s part (request_view c.in_ok-open.open)) (candidates_of e)
    c.args.pages.after c.args.pages.most)
    (IsPageFor c.args.bound (extensions_view x) (calls_of x) e s part c.args.request c.args.pages.after c.args.pages.most)
    (λ f h. listed c.requires
    (subst
    (λ (r : RequestPart). IsListed c.args.bound (question_of (extensions_view x) (calls_of x) e s part r) (candidates_of e) c.args.pages.after
    c.args.pages.most f) c.in_ok-open.ensures h))
    c.listed-finding.result c.listed-finding.ensures
