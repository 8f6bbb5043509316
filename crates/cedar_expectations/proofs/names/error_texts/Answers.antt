use Rattle.std.proofs.Common.{◌≡◌, suc, ◌+◌, List, [], ◌∷◌, ◌++◌, map, drop, append-nil, append_assoc, sym, ap, subst, ◌∙◌, string_bytes, arith}
use Rattle.std.proofs.Math.Seq.{drop-cons}
use Rattle.std.proofs.lemmas.List.{drop_all}
use Rattle.cedar_model.specs.Terms.{Text}
use Rattle.cedar_layers.specs.PolicySets.{policies_view}
use Rattle.cedar_expectations.specs.Named.{AreErrorTexts}
use Rattle.cedar_expectations.proofs.names.error_texts.Goals as goal

pub errors-preserved : goal.errors-preserved
errors-preserved c = λ ts rest.
    let ps = policies_view c.args.policies.now in
    let items = c.args.errors.now in
    let i = c.errors.error-index in
    let item = c.error-item.result in
    let more : suc i ≡ i + 1 = omega arith in
    let next : drop i items ≡ item ∷ drop (i + 1) items =
    drop-cons items i item c.errors-test.true ∙ ap (λ p. p ∷ drop (suc i) items) (sym c.error-item.is)
    ∙ ap (λ j. item ∷ drop j items) more in
    let (t, is, put) = c.in_ok-put_error.ensures in
    let done = map string_bytes c.errors.texts.items in
    subst (AreErrorTexts ps items)
    (sym (ap (λ (l : List Text). l ++ ts) put ∙ append_assoc done (t ∷ []) ts))
    (c.errors.invariant (t ∷ ts) (subst (λ es. AreErrorTexts ps es (t ∷ ts)) (sym next) (is, rest)))

pub returns : goal.returns
returns c =
    let ps = policies_view c.args.policies.now in
    let items = map string_bytes c.errors.texts.items in
    let none : drop c.errors.error-index c.args.errors.now ≡ [] =
    drop_all c.errors.error-index c.args.errors.now c.errors-test.false in
    subst (AreErrorTexts ps c.args.errors.now) (append-nil items)
    (c.errors.invariant [] (subst (λ es. AreErrorTexts ps es []) (sym none) tt))
