use Rattle.std.proofs.Common.{◌≡◌, sym, ap, ◌∙◌, codes}
use Rattle.cedar_model.specs.Settings.{known_context}
use Rattle.cedar_values.specs.Sound.{whats_at}
use Rattle.cedar_requests.specs.Contexts.{context_view}
use Rattle.cedar_service.specs.Faults.{IsFault, IsToldAs}
use Rattle.cedar_service.specs.Properties.{Attributes, IsNotKnown}
use Rattle.cedar_service.proofs.Composed.{of_ok, of_err, because}
use Rattle.cedar_service.proofs.Laid.{values_are, values_are_not}
use Rattle.cedar_service.proofs.properties.copied_values.Goals as goal

pub returns-in-Some-clause-values : goal.returns-in-Some-clause-values
returns-in-Some-clause-values c =
    let d = c.args.context.now in
    let v = c.in-Some.values.now in
    of_ok (λ (m : Attributes). whats_at m.entries ≡ whats_at v.entries)
    (λ (m : Attributes). context_view d ≡ known_context (whats_at m.entries))
    (λ m h. values_are d v (sym c.in-Some.ensures) ∙ ap known_context (sym h)) c.copied.result c.copied.ensures.values

pub returns-in-Some-clause-refused : goal.returns-in-Some-clause-refused
returns-in-Some-clause-refused c =
    let No = IsNotKnown c.args.context.now c.args.path.now in
    of_err (IsToldAs (λ _. ⊥)) (IsToldAs No) (because (λ _. ⊥) No (λ t h. absurd h)) c.copied.result
    c.copied.ensures.memory

pub returns-in-None-clause-refused : goal.returns-in-None-clause-refused
returns-in-None-clause-refused c =
    because (IsFault c.args.path.now (codes "an unknown stands in it")) (IsNotKnown c.args.context.now c.args.path.now)
    (λ t h. (values_are_not c.args.context.now (sym c.in-None.ensures), h)) c.refuse.result c.refuse.ensures
