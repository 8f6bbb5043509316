use Rattle.std.proofs.Common.{◌≡◌, ◌<◌, suc, ◌+◌, ◌∷◌, [], drop, get_or, length, ap, sym, ◌∙◌, subst, arith}
use Rattle.std.proofs.Math.Seq.{drop-cons}
use Rattle.std.proofs.lemmas.List.{drop-map, length-map}
use Rattle.cedar_names.specs.Names.{uid_name}
use Rattle.cedar_search.specs.Questions.{question, names_of, candidates_of}
use Rattle.cedar_search.proofs.Walking.{AreFoundUpTo, one_more, one_longer}
use Rattle.cedar_search.proofs.pages.fill.Goals as goal

pub candidates-preserved : goal.candidates-preserved
candidates-preserved g c =
    let q = question c.args.authorizer.now c.args.search.now in
    let all = drop c.args.after (candidates_of c.args.search.now) in
    let us = c.args.search.now.candidates.now in
    let i = c.candidates.index in
    let d = c.index-search-index.result in
    let item = get_or us i d in
    let now = names_of c.candidates.found.items in
    let after = names_of c.add_if.new.found.items in
    let more : suc i ≡ i + 1 = omega arith in
    let next : drop i us ≡ item ∷ drop (i + 1) us = drop-cons us i d c.candidates-test.true ∙ ap (λ j. item ∷ drop j us) more in
    let named : drop i (names_of us) ≡ uid_name item ∷ drop (i + 1) (names_of us) =
    drop-map uid_name i us ∙ ap names_of next ∙ ap (λ l. uid_name item ∷ l) (sym (drop-map uid_name (i + 1) us)) in
    let same : length now ≡ length c.candidates.found.items = length-map c.candidates.found.items uid_name in
    let less : length now < c.args.count = omega arith in
    record {
      found = one_more q all [] (uid_name item) (drop (i + 1) (names_of us)) now after c.in_ok-permitted.permitted
          (subst (λ l. AreFoundUpTo q all l [] now) named c.candidates.invariant.found) c.in_ok-permitted.ensures c.in_ok-add_if.ensures;
      within = one_longer q all [] (uid_name item) now after c.in_ok-permitted.permitted c.args.count c.in_ok-add_if.ensures less;
    }
