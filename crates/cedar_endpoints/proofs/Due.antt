-- What is sent is what is due.
use Rattle.std.proofs.Common.{◌≡◌, subst, List, ℕ, Result, Ok, Err, OnOk, string_bytes}
use Rattle.http.specs.declared.request.Request.{Request}
use Rattle.http.specs.Request.{body_of}
use Rattle.http_server.specs.declared.response.Response.{Response}
use Rattle.cedar_endpoints.specs.declared.replies.Reply.{Reply}
use Rattle.cedar_endpoints.specs.declared.routes.Route.{Route}
use Rattle.cedar_endpoints.specs.Answers.{IsSent}
use Rattle.cedar_endpoints.specs.Asked.{Text}
use Rattle.cedar_endpoints.specs.Served.{Offers, IsReply, asked_route, request_id, IsServed}

on_ok : {A E : Type 0} (P Q : Type 0) → (P → Q) → (r : Result A E) → OnOk r P → OnOk r Q
on_ok P Q f (Ok a) h = f h
on_ok P Q f (Err e) h = h

pub served : {A E : Type 0} (s : Offers) (q : Request (List ℕ)) (route : Route) (body : Text) (reply : Reply)
    (version text : Text) (p : Response) (r : Result A E) → route ≡ asked_route q → body ≡ body_of q
    → version ≡ s.searches.version → text ≡ string_bytes reply.body → IsReply s route body reply
    → OnOk r (IsSent reply.status version (request_id q) text p) → OnOk r (IsServed s q p)
served s q route body reply version text p r same_route same_body same_version same_text due sent =
    on_ok (IsSent reply.status version (request_id q) text p) (IsServed s q p)
    (λ h. record {
      reply = reply;
      is_due = subst (λ (x : Route). IsReply s x (body_of q) reply) same_route
          (subst (λ (b : Text). IsReply s route b reply) same_body due);
      sent = subst (λ (v : Text). IsSent reply.status v (request_id q) (string_bytes reply.body) p) same_version
          (subst (λ (t : Text). IsSent reply.status version (request_id q) t p) same_text h);
    }) r sent
