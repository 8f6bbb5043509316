use Rattle.std.proofs.Common.{◌≡◌, ℕ, [], ◌∷◌, Result, Ok, Err, IfErr, codes}
use Rattle.json.specs.Json.{Json}
use Rattle.json.specs.Value.{value_view}
use Rattle.cedar_model.specs.Terms.{EntityName}
use Rattle.cedar_model.specs.World as world
use Rattle.cedar_model.specs.Rules.{StoredCalls}
use Rattle.cedar_extensions.specs.Extensions.{extensions_view, calls_of}
use Rattle.cedar_names.specs.Names.{uid_name}
use Rattle.cedar_requests.specs.declared.request.Request.{Request}
use Rattle.cedar_json_reader.specs.declared.errors.JsonError.{JsonError}
use Rattle.cedar_json_reader.specs.Paths.{at_key}
use Rattle.cedar_json_reader.specs.NamedEntities.{IsNamedAt}
use Rattle.cedar_json_reader.specs.SaidContexts.{IsContextRefusal}
use Rattle.cedar_json_reader.specs.SaidRequests.{object_said, context_at, IsRequestRefusal}
use Rattle.cedar_json_reader.proofs.RequestLemmas.{request_unnamed, request_without_context}
use Rattle.cedar_json_reader.proofs.requests.of_members.Goals as goal

-- if it is the context that is refused, no request was made
if_without_context : (x : world.Extensions) (calls : StoredCalls) (n : ℕ) (j : Json) (p a r : EntityName) (o : Result Request JsonError) → object_said j ≡ Ok j
    → IsNamedAt (codes "principal") j p → IsNamedAt (codes "action") j a → IsNamedAt (codes "resource") j r
    → IfErr o (IsContextRefusal x calls n (context_at j) (at_key (codes "context") ∷ [])) → IfErr o (IsRequestRefusal x calls n j)
if_without_context x calls n j p a r (Ok q) is f g i h = h
if_without_context x calls n j p a r (Err e) is f g i h = request_without_context x calls n j p a r e is f g i h

pub returns-in-Ok-clause-refused : goal.returns-in-Ok-clause-refused
returns-in-Ok-clause-refused g c =
    let es = c.in-Ok.entities in
    if_without_context (extensions_view c.args.extensions.now) (calls_of c.args.extensions.now) c.args.limit (value_view c.args.value.now)
    (uid_name es.principal) (uid_name es.action) (uid_name es.resource) c.with_context.result c.requires
    c.in-Ok.ensures.principal c.in-Ok.ensures.action c.in-Ok.ensures.resource c.with_context.ensures.refused

pub returns-in-Err-clause-refused : goal.returns-in-Err-clause-refused
returns-in-Err-clause-refused g c =
    request_unnamed (extensions_view c.args.extensions.now) (calls_of c.args.extensions.now) c.args.limit (value_view c.args.value.now) c.in-Err.error
    c.requires c.in-Err.ensures.refused
