-- What becomes of a service.
use Rattle.std.proofs.Common.{◌≡◌, refl, sym, subst, Bool, true, false, List, ℕ, Some, Result, Ok, Err, OnOk}
use Rattle.http.specs.declared.request.Request.{Request}
use Rattle.http.specs.Request.{body_of}
use Rattle.http_server.specs.declared.response.Response.{Response}
use Rattle.cedar_endpoints.specs.declared.reloads.Untaken.{Untaken}
use Rattle.cedar_endpoints.specs.declared.reloads.Untaken.TheVariants as untakens
use Rattle.cedar_endpoints.specs.declared.routes.Replaced.{Replaced}
use Rattle.cedar_endpoints.specs.declared.routes.Route.{Route}
use Rattle.cedar_endpoints.specs.declared.routes.Route.TheVariants as routes
use Rattle.cedar_endpoints.specs.declared.service.Decisions.{Decisions}
use Rattle.cedar_endpoints.specs.Asked.{Text}
use Rattle.cedar_endpoints.specs.Answered.{IsAnswered, stays, takes, IsTakenSent, IsUntakenSent}
use Rattle.cedar_endpoints.specs.Reloads.{replaced_by, IsUntaken, IsUntakenAs, IsUntakenIf}
use Rattle.cedar_endpoints.specs.Served.{Offers, IsReply, IsServed, asked_route}

-- the route by which a text is to be taken
is_reload : (allows : Bool) (route : Route) (part : Replaced) → replaced_by allows route ≡ Some part
    → route ≡ routes.Reload part
is_reload false route part h = absurd (cc)
is_reload true routes.Evaluation part h = absurd (cc)
is_reload true routes.Evaluations part h = absurd (cc)
is_reload true (routes.Search sought) part h = absurd (cc)
is_reload true routes.Authorize part h = absurd (cc)
is_reload true routes.PartiallyAuthorize part h = absurd (cc)
is_reload true (routes.Reload other) part h = cc
is_reload true routes.Health part h = absurd (cc)
is_reload true routes.Metadata part h = absurd (cc)
is_reload true routes.PostOnly part h = absurd (cc)
is_reload true routes.GetOnly part h = absurd (cc)
is_reload true routes.PutOnly part h = absurd (cc)
is_reload true routes.Unknown part h = absurd (cc)

is_allowed : (allows : Bool) (route : Route) (part : Replaced) → replaced_by allows route ≡ Some part → allows ≡ true
is_allowed false route part h = absurd (cc)
is_allowed true route part h = refl

-- it stays as it is
pub stays_on : {A E D : Type 0} (s : Offers) (remakes : Replaced → Text → D → Type 0) (version : D → Text)
    (q : Request (List ℕ)) (p : Response) (before : Decisions D) (o : Result A E) → OnOk o (IsServed s q p)
    → OnOk o (IsAnswered s remakes version q p before before)
stays_on s remakes version q p before (Ok a) h = stays refl h
stays_on s remakes version q p before (Err e) h = h

-- a text is taken
pub takes_on : {A E D : Type 0} (s : Offers) (remakes : Replaced → Text → D → Type 0) (version : D → Text)
    (q : Request (List ℕ)) (p : Response) (part : Replaced) (made : D) (before after : Decisions D) (o : Result A E)
    → replaced_by s.reloads.allows (asked_route q) ≡ Some part → remakes part (body_of q) made
    → OnOk o (after ≡ record before { decider = made }) → OnOk o (IsTakenSent (version made) q p)
    → OnOk o (IsAnswered s remakes version q p before after)
takes_on s remakes version q p part made before after (Ok a) asked is same sent = takes part made asked is same sent
takes_on s remakes version q p part made before after (Err e) asked is same sent = same

untaken_served : (s : Offers) (q : Request (List ℕ)) (p : Response) (part : Replaced) (u : Untaken)
    → replaced_by s.reloads.allows (asked_route q) ≡ Some part
    → IsUntakenAs (IsUntaken s.reloads.refuses part (body_of q)) u
    → IsUntakenSent s.searches.version u q p → IsServed s q p
untaken_served s q p part untakens.Memory asked is sent = absurd sent
untaken_served s q p part (untakens.Replied r) asked is sent = record {
  reply = r;
  is_due = subst (λ (x : Route). IsReply s x (body_of q) r) (sym (is_reload s.reloads.allows (asked_route q) part asked))
      (subst (λ (b : Bool). IsUntakenIf b s.reloads.refuses part (body_of q) r)
      (sym (is_allowed s.reloads.allows (asked_route q) part asked)) is);
  sent = sent;
}

-- none is taken
pub keeps_on : {A E D : Type 0} (s : Offers) (remakes : Replaced → Text → D → Type 0) (version : D → Text)
    (q : Request (List ℕ)) (p : Response) (part : Replaced) (before : Decisions D) (u : Untaken) (o : Result A E)
    → replaced_by s.reloads.allows (asked_route q) ≡ Some part
    → IsUntakenAs (IsUntaken s.reloads.refuses part (body_of q)) u
    → OnOk o (IsUntakenSent s.searches.version u q p)
    → OnOk o (IsAnswered s remakes version q p before before)
keeps_on s remakes version q p part before u (Ok a) asked is sent =
    stays refl (untaken_served s q p part u asked is sent)
keeps_on s remakes version q p part before u (Err e) asked is sent = sent

pub ruleset changed = (stays_on)
