use Rattle.std.proofs.Common.{◌≡◌, List, ap, ◌∙◌, subst, rules}
use Rattle.json.specs.Strict.{keys, AreDistinct}
use Rattle.json.specs.Value.{members_view}
use Rattle.cedar_model.specs.Terms.{Text}
use Rattle.cedar_policy_json_reader.proofs.Repeats.{texts, distinct_unrepeated}
use Rattle.cedar_policy_json_reader.proofs.unique.check_own_keys.Goals as goal

pub returns-then-are_distinct-clause-said : goal.returns-then-are_distinct-clause-said
returns-then-are_distinct-clause-said c =
    let ms = members_view c.args.members.now.items in
    let copied : texts c.deref_mut.result.now ≡ keys ms = ap texts c.deref_mut.ensures.value ∙ c.in-Ok.ensures in
    distinct_unrepeated (keys ms) (subst AreDistinct copied (c.are_distinct.ensures.0 c.if-are_distinct.true))
