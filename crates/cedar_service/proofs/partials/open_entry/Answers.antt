use Rattle.std.proofs.Common.{◌≡◌, subst}
use Rattle.cedar_requests.specs.Requests.{entry_view}
use Rattle.cedar_endpoints.specs.Asked.{Named}
use Rattle.cedar_service.specs.Faults.{IsToldAs}
use Rattle.cedar_service.specs.Left.{IsKnownEntry, IsOpenEntry, IsNoName}
use Rattle.cedar_service.specs.Searched.{sample_named, type_alone}
use Rattle.cedar_service.proofs.Composed.{of_ok, of_err, because}
use Rattle.cedar_service.proofs.partials.open_entry.Goals as goal

pub returns-in-Ok-clause-opened : goal.returns-in-Ok-clause-opened
returns-in-Ok-clause-opened c =
    let k = entry_view c.in-Ok.entry in
    of_ok (λ e. entry_view e ≡ type_alone k) (λ e. IsOpenEntry c.args.type_name.now (entry_view e))
    (λ e h. (k, subst (λ (n : Named). IsKnownEntry n k) c.sample_named.ensures c.in-Ok.ensures.known, h))
    c.alone.result c.alone.ensures.alone

pub returns-in-Ok-clause-refused : goal.returns-in-Ok-clause-refused
returns-in-Ok-clause-refused c =
    let No = IsNoName (sample_named c.args.type_name.now) c.args.path.now in
    of_err (IsToldAs (λ _. ⊥)) (IsToldAs No) (because (λ _. ⊥) No (λ t h. absurd h)) c.alone.result
    c.alone.ensures.memory

pub returns-in-Err-clause-refused : goal.returns-in-Err-clause-refused
returns-in-Err-clause-refused c =
    subst (λ (n : Named). IsToldAs (IsNoName n c.args.path.now) c.in-Err.refusal) c.sample_named.ensures
    c.in-Err.ensures.refused
