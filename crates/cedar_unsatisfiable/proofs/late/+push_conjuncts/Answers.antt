-- Those of the left, and then those of the right.
use Rattle.std.proofs.Common.{◌≡◌, ◌++◌}
use Rattle.cedar_model.specs.Terms.{both}
use Rattle.cedar_expressions.specs.View.{view}
use Rattle.cedar_expressions.proofs.Levels.{kind_view-And}
use Rattle.cedar_unsatisfiable.specs.Late.{conjuncts, terms_seen}
use Rattle.cedar_unsatisfiable.proofs.Parted.{two_parts}
use Rattle.cedar_unsatisfiable.proofs.late.+push_conjuncts.Goals as goal

pub returns-in_ok-push_conjuncts-in-And-2 : goal.returns-in_ok-push_conjuncts-in-And-2
returns-in_ok-push_conjuncts-in-And-2 t c =
    let a = view c.in-And.left.value in
    let b = view c.in-And.right.value in
    let old = terms_seen c.args.parts.now.items in
    let one = terms_seen c.push_conjuncts.new.parts.items in
    let is : view c.args.expr.now ≡ both a b = cc (kind_view-And c.in-And.left c.in-And.right) in
    let first : one ≡ old ++ conjuncts a = cc (c.in_ok-push_conjuncts-in-And.ensures, c.deref.ensures) in
    let second : terms_seen c.push_conjuncts-in-And.new.parts.items ≡ one ++ conjuncts b =
    cc (c.in_ok-push_conjuncts-in-And-2.ensures, c.deref-in-And.ensures) in
    two_parts old one (terms_seen c.push_conjuncts-in-And.new.parts.items) a b (view c.args.expr.now) is first second
