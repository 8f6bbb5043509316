use Rattle.std.proofs.Common.{◌∙◌, ap}
use Rattle.std.proofs.lemmas.Iterator.{YieldsList-from_zip}
use Rattle.std.proofs.lemmas.Iterator.Adapters.{fact_from_collect, YieldsList-from_vec}
use Rattle.std.specs.BTreeMap.{IsFromIterResult}
use Rattle.cedar_expressions.specs.Nodes.{key_order}
use Rattle.cedar_restricted.proofs.made.map_under.Goals as goal

pub returns : goal.returns
returns g c =
    let first = c.zip.ensures.first in
    let second = c.zip.ensures.second in
    let keys = YieldsList-from_vec {s = c.zip.result.a}
    c.args.keys.items (ap (λ i. i.rest.items) first ∙ c.into_iter.ensures.rest)
    (ap (λ i. i.rest.len) first ∙ c.into_iter.ensures.len ∙ c.args.keys.ok.0) in
    let parts = YieldsList-from_vec {s = c.zip.result.b} c.args.values.items second.0 (second.1 ∙ c.args.values.ok.0) in
    fact_from_collect (IsFromIterResult key_order)
    c.collect.result c.collect.ensures.ran (YieldsList-from_zip keys parts)
