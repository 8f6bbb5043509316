-- Parts of a response that are held while it is read.
use Rattle.std.proofs.Common.{◌≡◌, ℕ, List, [], ◌∷◌, map, Result, Ok, Err, IfOk, refl, sym, ap, subst}
use Rattle.cedar_model.specs.World as world
use Rattle.cedar_model.specs.Rules.{StoredCalls}
use Rattle.cedar_model.specs.Terms.{Text}
use Rattle.cedar_model.specs.Settings.{ContextPart, RequestPart}
use Rattle.cedar_expressions.specs.View.{view}
use Rattle.cedar_layers.specs.Policies.{policy_ids}
use Rattle.cedar_layers.specs.declared.policies.policy.Policy.{Policy}
use Rattle.cedar_requests.specs.declared.request.Request.{Request}
use Rattle.cedar_requests.specs.Requests.{entry_view, request_view}
use Rattle.cedar_response_json_reader.specs.declared.reports.Report.{Report}
use Rattle.cedar_response_json_reader.specs.Contexts.{IsContextOf}
use Rattle.cedar_response_json_reader.specs.Held.{Parts, IsRequestOf}
use Rattle.cedar_response_json_reader.specs.Rows.{held_row, view_of}

-- what holds of each answer holds of the one that is given
pub if_ok : {A E : Type 0} (P Q : A → Type 0) → ((a : A) → P a → Q a) → (r : Result A E) → IfOk r P → IfOk r Q
if_ok P Q f (Ok a) h = f a h
if_ok P Q f (Err e) h = tt

-- the ids of rows are those of their policies
pub ids_held : (ps : List (Report × Policy)) → map (λ r. r.id) (map held_row ps) ≡ policy_ids (map view_of ps)
ids_held [] = refl
ids_held (p ∷ ps) = ap (λ (ts : List Text). (view_of p).id ∷ ts) (ids_held ps)

-- the request of these parts, in this context
pub request_is : (x : world.Extensions) (calls : StoredCalls) (n : ℕ) (p : Parts) (k : ContextPart) (r : Request)
    → request_view r ≡ record { principal_entry = entry_view p.0; action_entry = entry_view p.1.0; resource_entry = entry_view p.1.1.0; context_part = k }
    → IsContextOf x calls n (view p.1.1.1) k → IsRequestOf x calls n p r
request_is x calls n p k r e h = record {
  principal_is = ap (λ (q : RequestPart). q.principal_entry) e;
  action_is = ap (λ (q : RequestPart). q.action_entry) e;
  resource_is = ap (λ (q : RequestPart). q.resource_entry) e;
  context_is = subst (IsContextOf x calls n (view p.1.1.1)) (sym (ap (λ (q : RequestPart). q.context_part) e)) h;
}
