use Rattle.std.proofs.Common.{◌≡◌, ◌+◌, ℕ, subst}
use Rattle.std.specs.Option.{option_or}
use Rattle.cedar_extensions.specs.Extensions.{extensions_view, calls_of}
use Rattle.cedar_names.specs.Names.{uid_name}
use Rattle.cedar_requests.specs.Requests.{request_view}
use Rattle.cedar_search.specs.Pages.{page_view}
use Rattle.cedar_service.specs.Engines.{candidates_of}
use Rattle.cedar_service.specs.Searched.{question_of, next_at}
use Rattle.cedar_service.proofs.Bounded.{as_listed}
use Rattle.cedar_service.proofs.searching.listed.Goals as goal

pub returns : goal.returns
returns g c =
    let x = c.args.extensions.now in
    let e = c.args.engine.now in
    as_listed (question_of (extensions_view x) (calls_of x) e c.args.store.now c.args.pages.part
    (request_view c.args.request.now)) e.candidates.items c.args.pages.after c.args.pages.most c.args.bound
    (page_view c.in_ok-page.page) c.next_of-next.result c.in_ok-page.ensures
    (subst (λ (k : ℕ). c.next_of-next.result ≡ option_or c.in_ok-page.page.next
    (next_at (c.args.pages.after + c.args.bound) k)) c.candidate_count.ensures c.next_of-next.ensures)
    c.finding_of.result c.finding_of.ensures
