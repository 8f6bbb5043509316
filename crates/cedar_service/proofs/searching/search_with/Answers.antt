use Rattle.std.proofs.Common.{subst}
use Rattle.cedar_extensions.specs.Extensions.{extensions_view, calls_of}
use Rattle.cedar_endpoints.specs.Asked.{evaluation_view}
use Rattle.cedar_endpoints.specs.Searches.{search_view}
use Rattle.cedar_search.specs.declared.searches.Part.{Part}
use Rattle.cedar_service.specs.Asked.{IsAsked, IsUnasked}
use Rattle.cedar_service.specs.Searched.{part_of, IsFoundOver, IsUnfound, IsUnfoundAs, IsFoundWith, searched, not_searched}
use Rattle.cedar_service.specs.Ways.{ways_view}
use Rattle.cedar_service.proofs.Composed.{of_ok}
use Rattle.cedar_service.proofs.Unfound.{unfound_as}
use Rattle.cedar_service.proofs.searching.search_with.Goals as goal

pub returns-in-Ok : goal.returns-in-Ok
returns-in-Ok g c =
    let x = c.args.extensions.now in
    let e = c.args.engine.now in
    let q = search_view c.args.question.now in
    let r = c.in-Ok.request in
    let w = ways_view c.args.ways in
    let a = evaluation_view c.sample_of-sample.result in
    of_ok (IsFoundOver (extensions_view x) (calls_of x) e w a c.part_of.result r c.args.after c.args.most)
    (IsFoundWith (extensions_view x) (calls_of x) e w q c.args.after c.args.most)
    (λ f h. searched r
    (subst (λ v. IsAsked (extensions_view x) (calls_of x) (ways_view c.args.ways).action_type v r) c.sample_of-sample.ensures c.in-Ok.ensures.asked)
    (subst (λ v. IsFoundOver (extensions_view x) (calls_of x) e w v (part_of q.parts) r c.args.after c.args.most f)
    c.sample_of-sample.ensures
    (subst (λ (p : Part). IsFoundOver (extensions_view x) (calls_of x) e w a p r c.args.after c.args.most f)
    c.part_of.ensures h))) c.find_over.result c.find_over.ensures

pub returns-in-Err : goal.returns-in-Err
returns-in-Err g c =
    let x = c.args.extensions.now in
    let e = c.args.engine.now in
    let q = search_view c.args.question.now in
    of_ok (IsUnfound c.in-Err.refusal) (IsFoundWith (extensions_view x) (calls_of x) e (ways_view c.args.ways) q c.args.after
    c.args.most)
    (λ f h. not_searched
    (subst (λ v. IsUnfoundAs (IsUnasked (extensions_view x) (calls_of x) v) f) c.sample_of-sample.ensures
    (unfound_as (IsUnasked (extensions_view x) (calls_of x) (evaluation_view c.sample_of-sample.result)) c.in-Err.refusal f
    c.in-Err.ensures.refused h))) c.unfound.result c.unfound.ensures
