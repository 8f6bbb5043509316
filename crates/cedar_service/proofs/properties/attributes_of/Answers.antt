use Rattle.cedar_extensions.specs.Extensions.{extensions_view, calls_of}
use Rattle.std.proofs.Common.{◌≡◌}
use Rattle.json.specs.Value.{value_view}
use Rattle.cedar_model.specs.Settings.{known_context}
use Rattle.cedar_values.specs.Sound.{whats_at}
use Rattle.cedar_requests.specs.Contexts.{context_view}
use Rattle.cedar_service.specs.Asked.{IsNoContext}
use Rattle.cedar_service.specs.Faults.{IsFaultBelow, IsToldAs}
use Rattle.cedar_service.specs.Properties.{Attributes, AreAttributesOf, AreNoAttributes, IsNotKnown, no_record, not_known}
use Rattle.cedar_service.proofs.Composed.{of_ok, of_err, because}
use Rattle.cedar_service.proofs.properties.attributes_of.Goals as goal

pub returns-in-Ok-clause-said : goal.returns-in-Ok-clause-said
returns-in-Ok-clause-said g c =
    let x = c.args.extensions.now in
    let d = c.in-Ok.context in
    of_ok (λ (m : Attributes). context_view d ≡ known_context (whats_at m.entries))
    (AreAttributesOf (extensions_view x) (calls_of x) (value_view c.args.given.now)) (λ m h. (d, c.in-Ok.ensures.said, h))
    c.values_of.result c.values_of.ensures.values

pub returns-in-Ok-clause-refused : goal.returns-in-Ok-clause-refused
returns-in-Ok-clause-refused g c =
    let x = c.args.extensions.now in
    let d = c.in-Ok.context in
    let No = AreNoAttributes (extensions_view x) (calls_of x) (value_view c.args.given.now) c.args.path.now in
    of_err (IsToldAs (IsNotKnown d c.args.path.now)) (IsToldAs No)
    (because (IsNotKnown d c.args.path.now) No (λ t h. not_known d c.in-Ok.ensures.said h))
    c.values_of.result c.values_of.ensures.refused

pub returns-in-Err-clause-refused : goal.returns-in-Err-clause-refused
returns-in-Err-clause-refused g c =
    let x = c.args.extensions.now in
    let j = value_view c.args.given.now in
    because (λ t. IsNoContext (extensions_view x) (calls_of x) j × IsFaultBelow c.args.path.now t) (AreNoAttributes (extensions_view x) (calls_of x) j c.args.path.now)
    (λ t h. no_record h.0 h.1) c.in-Err.refusal c.in-Err.ensures.refused
