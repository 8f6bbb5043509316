use Rattle.std.proofs.Common.{◌≡◌, suc, ◌+◌, ◌∷◌, drop, ap, sym, ◌∙◌, subst, arith}
use Rattle.std.proofs.Math.Seq.{drop-cons}
use Rattle.cedar_names.specs.Names.{uid_name}
use Rattle.cedar_search.specs.Questions.{question, names_of, candidates_of}
use Rattle.cedar_search.proofs.Walking.{AreFoundUpTo, one_more}
use Rattle.cedar_search.proofs.searches.add_permitted.Goals as goal

pub candidates-preserved : goal.candidates-preserved
candidates-preserved g c =
    let q = question c.args.authorizer.now c.args.search.now in
    let all = candidates_of c.args.search.now in
    let us = c.args.search.now.candidates.now in
    let i = c.candidates.candidate-index in
    let item = c.candidate-item.result in
    let before = names_of c.args.found.now.items in
    let now = names_of c.candidates.found.items in
    let more : suc i ≡ i + 1 = omega arith in
    let next : drop i us ≡ item ∷ drop (i + 1) us = drop-cons us i item c.candidates-test.true ∙ ap (λ p. p ∷ drop (suc i) us) (sym c.candidate-item.is) ∙ ap (λ j. item ∷ drop j us) more in
    one_more q all before (uid_name item) (names_of (drop (i + 1) us)) now (names_of c.add_if.new.found.items) c.in_ok-permitted.permitted
    (subst (λ l. AreFoundUpTo q all (names_of l) before now) next c.candidates.invariant) c.in_ok-permitted.ensures c.in_ok-add_if.ensures
