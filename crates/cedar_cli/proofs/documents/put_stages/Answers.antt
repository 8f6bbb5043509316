use Rattle.std.proofs.Common.{◌≡◌, refl, suc, ◌+◌, ◌∷◌, drop, ap, sym, ◌∙◌, arith, map}
use Rattle.std.proofs.Math.Seq.{drop-cons}
use Rattle.std.proofs.lemmas.List.{drop_all}
use Rattle.cedar_json_writer.specs.Trees.{json_view}
use Rattle.cedar_layers.specs.PolicySets.{policies_view}
use Rattle.cedar_cli.proofs.Staged.{no_documents_yet, document_more, documents_of_all}
use Rattle.cedar_cli.proofs.documents.put_stages.Goals as goal

pub later-init : goal.later-init
later-init c = λ one.
    no_documents_yet c.args.deciding.places.now.source.text.now (policies_view c.args.deciding.policies.now)
    c.args.first.now c.args.later.now c.args.later.now c.args.first.now (map json_view c.args.all.now.items)
    refl refl one

pub later-preserved : goal.later-preserved
later-preserved c = λ one.
    let items = c.args.later.now in
    let i = c.later.taken-index in
    let item = c.taken-item.result in
    let more : suc i ≡ i + 1 = omega arith in
    let next : drop i items ≡ item ∷ drop (i + 1) items =
    drop-cons items i item c.later-test.true ∙ ap (λ p. p ∷ drop (suc i) items) (sym c.taken-item.is)
    ∙ ap (λ j. item ∷ drop j items) more in
    document_more c.args.deciding.places.now.source.text.now (policies_view c.args.deciding.policies.now)
    c.args.first.now items item (drop i items) (drop (i + 1) items) c.later.response.now _
    (map json_view c.later.all.items) _ next (c.later.invariant one) c.response_after-response.ensures
    c.in_ok-put_stage.ensures

pub returns : goal.returns
returns c = λ one.
    documents_of_all c.args.deciding.places.now.source.text.now (policies_view c.args.deciding.policies.now)
    c.args.first.now c.args.later.now (drop c.later.taken-index c.args.later.now) c.later.response.now
    (map json_view c.later.all.items) (drop_all c.later.taken-index c.args.later.now c.later-test.false)
    (c.later.invariant one)
