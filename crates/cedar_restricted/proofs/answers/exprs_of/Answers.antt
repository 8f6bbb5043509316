use Rattle.std.proofs.Common.{ap, ◌∙◌, map}
use Rattle.std.proofs.lemmas.List.{take_all}
use Rattle.cedar_model.specs.Terms.{terms_of}
use Rattle.cedar_values.proofs.Written.{written, terms_of-written}
use Rattle.cedar_restricted.proofs.Collected.{as_many}
use Rattle.cedar_restricted.proofs.answers.exprs_of.Goals as goal

pub returns-clause-terms : goal.returns-clause-terms
returns-clause-terms c =
    let all = take_all c.values.value-index c.args.values.now c.values-test.false in
    ap terms_of (c.values.invariant.views ∙ ap written all) ∙ terms_of-written c.args.values.now

pub returns-clause-length : goal.returns-clause-length
returns-clause-length c =
    let all = take_all c.values.value-index c.args.values.now c.values-test.false in
    as_many c.values.exprs.items c.args.values.now (c.values.invariant.views ∙ ap written all)

pub returns-clause-places : goal.returns-clause-places
returns-clause-places c =
    let all = take_all c.values.value-index c.args.values.now c.values-test.false in
    c.values.invariant.places ∙ ap (map (λ v. v.loc)) all
