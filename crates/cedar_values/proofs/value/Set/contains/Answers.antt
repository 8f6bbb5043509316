use Rattle.std.proofs.Common.{◌∙◌, ap, subst, sym}
use Rattle.cedar_model.specs.Values.{abstract_value, abstract_values}
use Rattle.cedar_model.specs.Sets.{has_value, IsStrictlyInOrder}
use Rattle.cedar_values.proofs.SetMembers.{is_ok-searched}
use Rattle.cedar_values.proofs.value.Set.contains.Goals as goal

pub returns : goal.returns
returns c =
    let order = subst IsStrictlyInOrder (sym c.as_slice.ensures.all) c.args.self.now.in_order in
    c.is_ok.ensures.value ∙ is_ok-searched c.args.value.now c.as_slice.result.now c.binary_search.result order c.binary_search.ensures.bound c.binary_search.ensures.position
    ∙ ap (λ vs. has_value (abstract_value c.args.value.now.what) (abstract_values vs)) c.as_slice.ensures.all
