use Rattle.cedar_layers.specs.Stores.{store_view}
use Rattle.cedar_operators.specs.Operands.{given, over, with_extensions}
use Rattle.cedar_extensions.specs.Extensions.{extensions_view}
use Rattle.cedar_operators.proofs.Answered.{as_answers}
use Rattle.cedar_operators.proofs.binary.other_binary_app.Goals as goal

pub returns-in-Eq : goal.returns-in-Eq
returns-in-Eq g c =
    λ s. as_answers _ _ _ c.as_part.ensures (c.binary_relation.ensures (over s (store_view c.args.entities.now)))

pub returns-in-Less : goal.returns-in-Less
returns-in-Less g c =
    λ s. as_answers _ _ _ c.as_part-in-Less.ensures
    (c.binary_relation-in-Less.ensures (over s (store_view c.args.entities.now)))

pub returns-in-LessEq : goal.returns-in-LessEq
returns-in-LessEq g c =
    λ s. as_answers _ _ _ c.as_part-in-LessEq.ensures
    (c.binary_relation-in-LessEq.ensures (over s (store_view c.args.entities.now)))

pub returns-in-Contains : goal.returns-in-Contains
returns-in-Contains g c =
    λ s. rw c.in-Contains.is (as_answers _ _ _ c.as_part-in-Contains.ensures
    (c.contains.ensures (given s (store_view c.args.entities.now) (extensions_view c.args.extensions.now))))

pub returns-in-ContainsAll : goal.returns-in-ContainsAll
returns-in-ContainsAll g c =
    λ s. rw c.in-ContainsAll.is (as_answers _ _ _ c.as_part-in-ContainsAll.ensures
    (c.contains_all.ensures (given s (store_view c.args.entities.now) (extensions_view c.args.extensions.now))))

pub returns-in-ContainsAny : goal.returns-in-ContainsAny
returns-in-ContainsAny g c =
    λ s. rw c.in-ContainsAny.is (as_answers _ _ _ c.as_part-in-ContainsAny.ensures
    (c.contains_any.ensures (given s (store_view c.args.entities.now) (extensions_view c.args.extensions.now))))

pub returns-in-GetTag : goal.returns-in-GetTag
returns-in-GetTag g c =
    λ s. rw c.in-GetTag.is (c.tag_of.ensures (with_extensions s (extensions_view c.args.extensions.now)))

pub returns-in-HasTag : goal.returns-in-HasTag
returns-in-HasTag g c =
    λ s. rw c.in-HasTag.is (c.has_tag.ensures (with_extensions s (extensions_view c.args.extensions.now)))
