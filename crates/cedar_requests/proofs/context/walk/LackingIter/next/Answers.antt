use Rattle.std.proofs.Common.{◌<◌, map, length, arith}
use Rattle.std.proofs.lemmas.List.{length-map}
use Rattle.cedar_requests.specs.Walks.{value_attribute}
use Rattle.cedar_requests.proofs.Walks.{one_passed}
use Rattle.cedar_requests.proofs.context.walk.LackingIter.next.Goals as goal

pub returns : goal.returns
returns c =
    let s = c.args.self.now in
    let es = s.values.value.entries in
    let some : 0 < s.left = omega (arith, c.if-self-eq0.false) in
    one_passed (map value_attribute es) (length es) s.left (length-map es value_attribute) s.within some
