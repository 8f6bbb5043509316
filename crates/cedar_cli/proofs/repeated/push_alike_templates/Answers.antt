-- One template after another.
use Rattle.std.proofs.Common.{◌≡◌, suc, ◌+◌, ◌∷◌, map, drop, sym, ap, ◌∙◌, arith, refl, string_bytes}
use Rattle.std.proofs.Math.Seq.{drop-cons}
use Rattle.std.proofs.lemmas.List.{drop_all}
use Rattle.cedar_cli.proofs.Stating.{none_alike_yet, one_alike, all_alike}
use Rattle.cedar_cli.proofs.repeated.push_alike_templates.Goals as goal

pub templates-init : goal.templates-init
templates-init c =
    none_alike_yet c.args.places.now.source c.args.templates.now (string_bytes c.args.warnings.now) _
    c.args.templates.now (ap (map (λ p. p.now)) c.new-before.ensures.items) refl

pub templates-preserved : goal.templates-preserved
templates-preserved c =
    let items = c.args.templates.now in
    let i = c.templates.template-index in
    let item = c.template-item.result in
    let more : suc i ≡ i + 1 = omega arith in
    let next : drop i items ≡ item ∷ drop (i + 1) items =
    drop-cons items i item c.templates-test.true ∙ ap (λ p. p ∷ drop (suc i) items) (sym c.template-item.is)
    ∙ ap (λ j. item ∷ drop j items) more in
    one_alike c.args.places.now.source items (string_bytes c.args.warnings.now)
    (map (λ p. p.now) c.templates.before.items) _ (drop i items) (drop (i + 1) items) item
    (string_bytes c.templates.warnings) (string_bytes c.push_if_alike.new.warnings) next
    c.in_ok-push_if_alike.ensures.before c.in_ok-push_if_alike.ensures.line c.templates.invariant

pub returns : goal.returns
returns c =
    all_alike c.args.places.now.source c.args.templates.now (string_bytes c.args.warnings.now)
    (map (λ p. p.now) c.templates.before.items) (drop c.templates.template-index c.args.templates.now)
    (string_bytes c.templates.warnings) (drop_all c.templates.template-index c.args.templates.now c.templates-test.false)
    c.templates.invariant
