-- Which endpoint a method and a path name.
use Rattle.std.specs.Prelude.{◌||◌, if◌then◌else◌, List, ℕ, bytes_eq, codes}
use Rattle.cedar_endpoints.specs.declared.routes.Replaced.{Replaced}
use Rattle.cedar_endpoints.specs.declared.routes.Replaced.TheVariants as parts
use Rattle.cedar_endpoints.specs.declared.routes.Route.{Route}
use Rattle.cedar_endpoints.specs.declared.routes.Route.TheVariants as routes
use Rattle.cedar_endpoints.specs.declared.searches.Sought.TheVariants as soughts

-- this route, for a `POST`
abbrev pub posted : Route → List ℕ → Route
posted r m = if bytes_eq m (codes "POST") then r else routes.PostOnly

-- other texts in place of these, for a `PUT`
abbrev pub put : Replaced → List ℕ → Route
put p m = if bytes_eq m (codes "PUT") then routes.Reload p else routes.PutOnly

-- this route, for a `GET` or a `HEAD`
abbrev pub shown : Route → List ℕ → Route
shown r m = if bytes_eq m (codes "GET") || bytes_eq m (codes "HEAD") then r else routes.GetOnly

-- what a method and a path ask for
abbrev pub route_of : List ℕ → List ℕ → Route
route_of m p =
    if bytes_eq p (codes "/access/v1/evaluation") then posted routes.Evaluation m else (
    if bytes_eq p (codes "/access/v1/evaluations") then posted routes.Evaluations m else (
    if bytes_eq p (codes "/access/v1/search/subject") then posted (routes.Search soughts.Subject) m else (
    if bytes_eq p (codes "/access/v1/search/action") then posted (routes.Search soughts.Action) m else (
    if bytes_eq p (codes "/access/v1/search/resource") then posted (routes.Search soughts.Resource) m else (
    if bytes_eq p (codes "/v1/authorize") then posted routes.Authorize m else (
    if bytes_eq p (codes "/v1/partially-authorize") then posted routes.PartiallyAuthorize m else (
    if bytes_eq p (codes "/v1/policies") then put parts.Policies m else (
    if bytes_eq p (codes "/v1/entities") then put parts.Entities m else (
    if bytes_eq p (codes "/healthz") then shown routes.Health m else (
    if bytes_eq p (codes "/.well-known/authzen-configuration") then shown routes.Metadata m else
    routes.Unknown))))))))))
