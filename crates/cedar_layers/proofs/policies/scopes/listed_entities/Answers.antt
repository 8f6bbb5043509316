use Rattle.std.proofs.Common.{◌≡◌, suc, ◌+◌, [], ◌∷◌, ◌++◌, drop, map, ap, sym, ◌∙◌, subst, arith}
use Rattle.std.specs.Option.{option_map}
use Rattle.std.proofs.Math.Seq.{drop-cons}
use Rattle.std.proofs.lemmas.List.{drop_all, map-append}
use Rattle.cedar_names.specs.Names.{uid_name}
use Rattle.cedar_expressions.specs.View.{view, terms_view}
use Rattle.cedar_layers.specs.Scopes.{listed_entities, names_at}
use Rattle.cedar_layers.proofs.Asking.{behind, listed_more, listed_other, listed_all}
use Rattle.cedar_layers.proofs.policies.scopes.listed_entities.Goals as goal

pub parts-preserved : goal.parts-preserved
parts-preserved c =
    let parts = c.args.parts.now in
    let i = c.parts.part-index in
    let item = c.part-item.result in
    let more : suc i ≡ i + 1 = omega arith in
    let next : drop i parts ≡ item ∷ drop (i + 1) parts = drop-cons parts i item c.parts-test.true ∙ ap (λ p. p ∷ drop (suc i) parts) (sym c.part-item.is) ∙ ap (λ j. item ∷ drop j parts) more in
    subst (λ es. behind es (listed_entities (terms_view (drop (i + 1) parts))) ≡ listed_entities (terms_view parts)) (sym (ap names_at c.in_ok-push-in-Some.ensures.items ∙ map-append (λ u. uid_name u.now) _ _))
    (listed_more (terms_view parts) (terms_view (drop i parts)) (terms_view (drop (i + 1) parts)) (view item) (names_at c.parts.uids.items) (option_map (λ u. uid_name u.now) c.literal_entity.result) (ap terms_view next) c.literal_entity.ensures c.parts.invariant (uid_name c.in-Some.uid.now) (ap (option_map (λ u. uid_name u.now)) c.in-Some.is))

pub returns-in-None : goal.returns-in-None
returns-in-None c =
    let parts = c.args.parts.now in
    let i = c.parts.part-index in
    let item = c.part-item.result in
    let more : suc i ≡ i + 1 = omega arith in
    let next : drop i parts ≡ item ∷ drop (i + 1) parts = drop-cons parts i item c.parts-test.true ∙ ap (λ p. p ∷ drop (suc i) parts) (sym c.part-item.is) ∙ ap (λ j. item ∷ drop j parts) more in
    listed_other (terms_view parts) (terms_view (drop i parts)) (terms_view (drop (i + 1) parts)) (view item) (names_at c.parts.uids.items) (option_map (λ u. uid_name u.now) c.literal_entity.result) (ap terms_view next) c.literal_entity.ensures c.parts.invariant (ap (option_map (λ u. uid_name u.now)) c.in-None.is)

pub returns : goal.returns
returns c =
    listed_all (terms_view c.args.parts.now) (terms_view (drop c.parts.part-index c.args.parts.now)) (names_at c.parts.uids.items) (ap terms_view (drop_all c.parts.part-index c.args.parts.now c.parts-test.false)) c.parts.invariant
