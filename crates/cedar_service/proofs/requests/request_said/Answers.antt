use Rattle.cedar_extensions.specs.Extensions.{extensions_view, calls_of}
use Rattle.std.proofs.Common.{◌≡◌, Some, sym, subst, ◌∙◌}
use Rattle.json.specs.Json.{Json, document}
use Rattle.json.specs.Value.{value_view}
use Rattle.cedar_model.specs.Terms.{Text}
use Rattle.cedar_service.specs.Asked.{has_beside, request_json, IsRequestText, IsSaid, IsUnsaid, IsSaidBy, IsUnsaidBy, IsSaidBeside, IsUnsaidBeside}
use Rattle.cedar_service.specs.Documents.{IsTextFor, without_beside}
use Rattle.cedar_service.specs.Faults.{IsToldAs}
use Rattle.cedar_service.proofs.Composed.{of_ok, of_err, because}
use Rattle.cedar_service.proofs.Over.{some_and}
use Rattle.cedar_service.proofs.Without.{request_beside, request_alone}
use Rattle.cedar_service.proofs.requests.request_said.Goals as goal

pub said_beside-requires : goal.said_beside-requires
said_beside-requires g c = c.requires.read.writable

-- a text of the JSON without what stands beside
beside : (text : Text) (j : Json) (t : Text) → document text ≡ Some j → request_json j ≡ without_beside j
    → IsTextFor (without_beside j) t → IsRequestText text t
beside text j t is same h =
    some_and (λ k. IsTextFor (request_json k) t) (document text) j is
    (subst (λ (k : Json). IsTextFor k t) (sym same) h)

pub returns-then-has_beside-clause-said : goal.returns-then-has_beside-clause-said
returns-then-has_beside-clause-said g c =
    let x = c.args.extensions.now in
    let j = value_view c.args.value in
    let same = request_beside (has_beside j) j (sym c.has_beside.ensures ∙ c.if-has_beside.true) in
    of_ok (IsSaidBeside (extensions_view x) (calls_of x) j) (IsSaid (extensions_view x) (calls_of x) c.args.text.now)
    (λ r h. (h.0, beside c.args.text.now j h.0 c.requires.read.is_json same h.1, h.2)) c.said_beside.result
    c.said_beside.ensures.said

pub returns-then-has_beside-clause-refused : goal.returns-then-has_beside-clause-refused
returns-then-has_beside-clause-refused g c =
    let x = c.args.extensions.now in
    let j = value_view c.args.value in
    let same = request_beside (has_beside j) j (sym c.has_beside.ensures ∙ c.if-has_beside.true) in
    let By = IsUnsaidBeside (extensions_view x) (calls_of x) j in
    of_err (IsToldAs By) (IsToldAs (IsUnsaid (extensions_view x) (calls_of x) c.args.text.now)) (because By (IsUnsaid (extensions_view x) (calls_of x) c.args.text.now)
    (λ u h. (h.0, beside c.args.text.now j h.0 c.requires.read.is_json same h.1, h.2))) c.said_beside.result
    c.said_beside.ensures.refused

pub returns-else-has_beside-clause-said : goal.returns-else-has_beside-clause-said
returns-else-has_beside-clause-said g c =
    let x = c.args.extensions.now in
    let t = c.args.text.now in
    let j = value_view c.args.value in
    let same = request_alone (has_beside j) j (sym c.has_beside.ensures ∙ c.if-has_beside.false) in
    let own : IsRequestText t t = some_and (λ k. IsTextFor (request_json k) t) (document t) j c.requires.read.is_json
    (subst (λ (k : Json). IsTextFor k t) (sym same) c.requires.read.is_json) in
    of_ok (IsSaidBy (extensions_view x) (calls_of x) t) (IsSaid (extensions_view x) (calls_of x) t) (λ r h. (t, own, h)) c.said_by.result c.said_by.ensures.said

pub returns-else-has_beside-clause-refused : goal.returns-else-has_beside-clause-refused
returns-else-has_beside-clause-refused g c =
    let x = c.args.extensions.now in
    let t = c.args.text.now in
    let j = value_view c.args.value in
    let same = request_alone (has_beside j) j (sym c.has_beside.ensures ∙ c.if-has_beside.false) in
    let own : IsRequestText t t = some_and (λ k. IsTextFor (request_json k) t) (document t) j c.requires.read.is_json
    (subst (λ (k : Json). IsTextFor k t) (sym same) c.requires.read.is_json) in
    of_err (IsToldAs (IsUnsaidBy (extensions_view x) (calls_of x) t)) (IsToldAs (IsUnsaid (extensions_view x) (calls_of x) t))
    (because (IsUnsaidBy (extensions_view x) (calls_of x) t) (IsUnsaid (extensions_view x) (calls_of x) t) (λ u h. (t, own, h))) c.said_by.result c.said_by.ensures.refused
