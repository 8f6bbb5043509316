use Rattle.std.proofs.Common.{subst, IfOk}
use Rattle.std.specs.List.{IsDistinct}
use Rattle.cedar_model.specs.Outcomes.{entity_eq}
use Rattle.cedar_search.specs.Questions.{names_of, candidates_of, question}
use Rattle.cedar_search.specs.Found.{AreThePermitted, AreThoseMeant, IsDecided}
use Rattle.cedar_search.proofs.Asked.{asking}
use Rattle.cedar_search.proofs.Composed.{of_ok}
use Rattle.cedar_search.proofs.Keeping.{kept_distinct}
use Rattle.cedar_search.proofs.Meant.{those_meant}
use Rattle.cedar_search.proofs.searches.Search.permitted.Goals as goal

pub returns-clause-permitted : goal.returns-clause-permitted
returns-clause-permitted g c =
    let a = c.args.authorizer.now in
    let s = c.args.self.now in
    let es = candidates_of s in
    subst (λ r. IfOk c.all_permitted.result (λ found. AreThePermitted (asking a s r) es (names_of found.items)))
    c.in_ok-request.ensures.cases.0 c.all_permitted.ensures

pub returns-clause-known : goal.returns-clause-known
returns-clause-known g c =
    let q = question c.args.authorizer.now c.args.self.now in
    let es = candidates_of c.args.self.now in
    of_ok (λ found. AreThePermitted q es (names_of found.items)) (λ found. AreThoseMeant q es (names_of found.items))
    (λ found h. those_meant q es (names_of found.items) h) c.all_permitted.result (returns-clause-permitted g c)

pub returns-clause-once : goal.returns-clause-once
returns-clause-once g c d =
    let q = question c.args.authorizer.now c.args.self.now in
    let es = candidates_of c.args.self.now in
    of_ok (λ found. AreThePermitted q es (names_of found.items)) (λ found. IsDistinct entity_eq (names_of found.items))
    (λ found h. kept_distinct (IsDecided q) entity_eq es (names_of found.items) h d) c.all_permitted.result
    (returns-clause-permitted g c)
