-- The requests that are decided: nothing is unknown in them.
use Rattle.std.proofs.Common.{◌≡◌, sym, subst, true, true≢false, Option, Some, None, is_some}
use Rattle.std.specs.Borrow.{Bor}
use Rattle.cedar_model.specs.Terms.{Text}
use Rattle.cedar_model.specs.World as world
use Rattle.cedar_model.specs.Rules.{StoredCalls}
use Rattle.cedar_model.specs.Settings.{ContextPart}
use Rattle.cedar_model.specs.Agreement.{IsKnownEntry, IsKnownContext}
use Rattle.cedar_requests.specs.declared.context.Context.{Context}
use Rattle.cedar_requests.specs.declared.entry.EntityUIDEntry.{EntityUIDEntry}
use Rattle.cedar_requests.specs.declared.entry.EntityUIDEntry.TheVariants as entries
use Rattle.cedar_requests.specs.declared.request.Request.{Request}
use Rattle.cedar_requests.specs.Contexts.{context_view}
use Rattle.cedar_requests.specs.Requests.{entry_view, context_given, request_view, request_parts}
use Rattle.cedar_json_reader.specs.NothingUnknown.{IsKnownRequest}
use Rattle.cedar_cli.specs.declared.asked.Asked.{Asked}
use Rattle.cedar_cli.specs.declared.asked.Source.{Source}
use Rattle.cedar_cli.specs.Questions.{IsEntryOf, AreGiven, IsContextSaid, IsOfParts, IsWholeOr, IsWholeRequest}

entry_known : (o t : Option (Bor Text)) (i : EntityUIDEntry) → is_some o ≡ true → IsEntryOf o t i → IsKnownEntry (entry_view i)
entry_known None t i there is = absurd (true≢false (sym there))
entry_known (Some e) t (entries.Known u l) there is = tt
entry_known (Some e) t (entries.Unknown u l) there is = absurd is

context_known : (X : world.Extensions) (calls : StoredCalls) (o : Option Source) (c : Context) → IsContextSaid X calls o c
    → IsKnownContext (context_view c)
context_known X calls None c is = subst (λ (p : ContextPart). IsKnownContext p) (sym is) tt
context_known X calls (Some s) c is = is.1

parts_known : (X : world.Extensions) (calls : StoredCalls) (q : Asked) (r : Request) → AreGiven q → IsOfParts X calls q r
    → IsKnownRequest (request_view r)
parts_known X calls q r given is = record {
  principal = entry_known q.principal q.principal_type (request_parts r).0 given.principal is.principal;
  action = entry_known q.action None (request_parts r).1 given.action is.action;
  resource = entry_known q.resource q.resource_type (request_parts r).2 given.resource is.resource;
  context = subst (λ (o : Option Context). IsKnownContext (context_given o)) (sym is.has_context)
      (context_known X calls q.context is.context is.context_is_said);
}

-- the request of the parts, which are all given
pub whole_of_parts : (X : world.Extensions) (calls : StoredCalls) (q : Asked) (r : Request) → q.request ≡ None → AreGiven q
    → IsOfParts X calls q r → IsWholeRequest X calls q r
whole_of_parts X calls q r none given is = record {
  said = subst (λ (o : Option Source). IsWholeOr X calls o q r) (sym none) (record { given = given; parts = is });
  known = parts_known X calls q r given is;
}
