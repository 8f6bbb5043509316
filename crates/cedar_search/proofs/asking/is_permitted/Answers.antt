use Rattle.std.proofs.Common.{◌≡◌, true, false, sym, ap, ◌∙◌, refl}
use Rattle.cedar_names.specs.Names.{uid_name}
use Rattle.cedar_search.specs.Questions.{question, can_ask, can_be}
use Rattle.cedar_search.specs.Found.{IsAllowedAs, IsDecided, can, can_not}
use Rattle.cedar_search.proofs.Composed.{of_ok}
use Rattle.cedar_search.proofs.asking.is_permitted.Goals as goal

pub returns-then-can_be : goal.returns-then-can_be
returns-then-can_be g c =
    let q = question c.args.authorizer.now c.args.search.now in
    let e = uid_name c.args.candidate.now in
    let may : can_ask q e ≡ true = ap (λ x. can_be x e) (sym c.sought.ensures) ∙ sym c.can_be.ensures ∙ c.if-can_be.true in
    of_ok (IsAllowedAs q e) (IsDecided q e) (λ b h. can may h) c.is_allowed.result c.is_allowed.ensures

pub returns-else-can_be : goal.returns-else-can_be
returns-else-can_be g c =
    let q = question c.args.authorizer.now c.args.search.now in
    let e = uid_name c.args.candidate.now in
    let never : can_ask q e ≡ false = ap (λ x. can_be x e) (sym c.sought.ensures) ∙ sym c.can_be.ensures ∙ c.if-can_be.false in
    can_not never refl
