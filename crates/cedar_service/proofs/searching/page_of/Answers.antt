use Rattle.std.proofs.Common.{◌≡◌, ◌+◌, ◌∙◌, ap, sym, subst, IfOk, map, take}
use Rattle.std.proofs.lemmas.List.{take-map}
use Rattle.cedar_model.specs.Settings.{shallow}
use Rattle.cedar_model.specs.Policies.{skip}
use Rattle.cedar_model.specs.Configurations.{configured}
use Rattle.cedar_extensions.specs.Extensions.{extensions_view, calls_of}
use Rattle.cedar_layers.specs.Stores.{store_view}
use Rattle.cedar_names.specs.Names.{uid_name}
use Rattle.cedar_requests.specs.Requests.{request_view}
use Rattle.cedar_authorizer.specs.Configured.{configuration, extensions_of, limit_of, mode_of, resolution_of}
use Rattle.cedar_authorizer.specs.Responding.{considered}
use Rattle.cedar_search.specs.Questions.{Question}
use Rattle.cedar_search.specs.Pages.{IsPage, page_view}
use Rattle.cedar_service.specs.Engines.{policies_of, candidates_of}
use Rattle.cedar_service.specs.Searched.{question_of}
use Rattle.cedar_service.proofs.searching.page_of.Goals as goal

pub returns : goal.returns
returns g c =
    let a = c.new-authorizer.result in
    let x = c.args.extensions.now in
    let e = c.args.engine.now in
    let r = request_view c.args.request.now in
    let made = c.new-authorizer.ensures in
    let own : extensions_of a ≡ x = made.extensions in
    let mode : mode_of a ≡ skip = made.mode in
    let resolution : resolution_of a ≡ shallow = made.resolution in
    let limit : limit_of a ≡ 4001 = made.limit in
    let asked : Question = record {
      configuration = configuration a;
      part = c.args.pages.part;
      request = r;
      store = store_view c.args.store.now;
      policies = considered (policies_of e);
    } in
    let same : asked ≡ question_of (extensions_view x) (calls_of x) e c.args.store.now c.args.pages.part r = λ i. record {
      configuration = configured (calls_of (own i)) (mode i) (resolution i) (extensions_view (own i)) (limit i);
      part = c.args.pages.part;
      request = r;
      store = store_view c.args.store.now;
      policies = considered (policies_of e);
    } in
    let looked : map uid_name c.looked_at.result.now ≡ take (c.args.pages.after + c.args.bound) (candidates_of e) =
    ap (map uid_name) (c.looked_at.ensures ∙ ap (take (c.args.pages.after + c.args.bound)) c.as_slice.ensures.value)
    ∙ sym (take-map uid_name (c.args.pages.after + c.args.bound) e.candidates.items) in
    subst (λ q. IfOk c.page.result (λ p. IsPage q (take (c.args.pages.after + c.args.bound) (candidates_of e)) c.args.pages.after
    c.args.pages.most (page_view p))) same
    (subst (λ us. IfOk c.page.result (λ p. IsPage asked us c.args.pages.after c.args.pages.most (page_view p))) looked
    c.page.ensures)
