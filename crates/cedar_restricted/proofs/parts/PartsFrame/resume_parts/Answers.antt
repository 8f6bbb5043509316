use Rattle.std.proofs.Common.{◌≡◌, sym, ap, ◌∙◌, subst, ℕ, IfOk}
use Rattle.cedar_expressions.specs.View.{expr_loc}
use Rattle.cedar_values.specs.Residuals.{IfValue}
use Rattle.cedar_extensions.specs.Extensions.{extensions_view, calls_of}
use Rattle.cedar_restricted.specs.Literals.{AreBehind}
use Rattle.cedar_restricted.specs.Frames.{ContinuesParts}
use Rattle.cedar_restricted.specs.Elements.{ElementsStand, FirstStand, SetLeads, first_with, first_behind}
use Rattle.cedar_restricted.specs.Laws.{continues}
use Rattle.cedar_restricted.proofs.parts.PartsFrame.resume_parts.Goals as goal

pub returns-in-Ok-answers_with-clause-goes_on : goal.returns-in-Ok-answers_with-clause-goes_on
returns-in-Ok-answers_with-clause-goes_on g c =
    let x = extensions_view c.args.extensions.now in
    let calls = calls_of c.args.extensions.now in
    let f = c.args.self in
    let a = c.in-Ok-answers_with.answers in
    let grown = c.in-Ok-answers_with.ensures.grows in
    let here : c.as_slice.result.now ≡ f.parts.value.items =
    c.as_slice.ensures.value ∙ ap (λ v. v.items) c.deref.ensures in
    let follow = subst (λ es. AreBehind es grown.one a) here grown.follow in
    subst (λ y. ContinuesParts x calls f y c.read.result) (sym c.in-Ok.is)
    (continues x calls f c.in-Ok.part grown.one a c.read.result grown.answers grown.counted follow
    c.read.ensures.reads)

pub returns-in-Ok-answers_with-clause-elements : goal.returns-in-Ok-answers_with-clause-elements
returns-in-Ok-answers_with-clause-elements g c es d waits stands =
    let f = c.args.self in
    let a = c.in-Ok-answers_with.answers in
    let p = c.in-Ok.part in
    let grown = c.in-Ok-answers_with.ensures.grows in
    let here : c.as_slice.result.now ≡ es =
    c.as_slice.ensures.value ∙ ap (λ v. v.items) c.deref.ensures ∙ waits.parts in
    let follow = subst (λ l. AreBehind l grown.one a) here grown.follow in
    let first : (n : ℕ) → FirstStand n f.parts.value.items a =
    λ n. subst (λ l. FirstStand n l a) (sym waits.parts)
    (first_behind n es grown.one a follow (first_with n es f.answers grown.one d p grown.values (waits.first n) waits.next
    (subst (λ y. IfOk y (λ q. IfValue q (λ v. (v.loc ≡ expr_loc d) × ElementsStand n d v))) c.in-Ok.is (stands n)))) in
    subst (λ l. SetLeads l c.read.result) waits.parts (c.read.ensures.elements waits.whole first)
