use Rattle.std.proofs.Common.{◌≡◌, refl, suc, ◌+◌, ◌||◌, [], ◌∷◌, drop, ap, sym, ◌∙◌, arith}
use Rattle.std.proofs.Math.Seq.{drop-cons}
use Rattle.std.proofs.lemmas.List.{drop_all}
use Rattle.cedar_authorizer.specs.responses.Responses.{has_id, errors_view}
use Rattle.cedar_model.specs.Outcomes.{has_text}
use Rattle.cedar_layers.specs.Policies.{policy_id_text}
use Rattle.cedar_cli.specs.Named.{erred_ids}
use Rattle.cedar_cli.proofs.Naming.{among, next_named, all_named, none_before}
use Rattle.cedar_cli.proofs.documents.ids_of_errors.Goals as goal

pub errors-init : goal.errors-init
errors-init c = λ t.
    ap (λ ks. has_text t (erred_ids (errors_view c.args.errors.now)) || among t ks) c.new-ids.ensures.empty

pub errors-preserved : goal.errors-preserved
errors-preserved c =
    let items = c.args.errors.now in
    let i = c.errors.error-index in
    let item = c.error-item.result in
    let more : suc i ≡ i + 1 = omega arith in
    let next : drop i items ≡ item ∷ drop (i + 1) items =
    drop-cons items i item c.errors-test.true ∙ ap (λ p. p ∷ drop (suc i) items) (sym c.error-item.is)
    ∙ ap (λ j. item ∷ drop j items) more in
    next_named (erred_ids (errors_view (drop i items))) (erred_ids (errors_view (drop (i + 1) items)))
    (erred_ids (errors_view items)) (has_id c.errors.ids) (has_id c.put_named.new.named) (λ t. among t [])
    (policy_id_text c.erred_id.result.now)
    (ap (λ es. erred_ids (errors_view es)) next
    ∙ ap (λ u. u ∷ erred_ids (errors_view (drop (i + 1) items))) (sym c.erred_id.ensures))
    c.in_ok-put_named.ensures c.errors.invariant

pub returns : goal.returns
returns c =
    let items = c.args.errors.now in
    none_before (erred_ids (errors_view items)) (has_id c.errors.ids) [] refl
    (all_named (erred_ids (errors_view (drop c.errors.error-index items))) (erred_ids (errors_view items))
    (has_id c.errors.ids) (λ t. among t [])
    (ap (λ es. erred_ids (errors_view es)) (drop_all c.errors.error-index items c.errors-test.false)) c.errors.invariant)
