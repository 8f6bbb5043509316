use Rattle.std.proofs.Common.{◌≡◌, sym, ap, ◌∙◌, subst, map, length, ◌≤◌, List, drop, [], drop_of_length-le}
use Rattle.cedar_names.specs.declared.names.EntityUID.{EntityUID}
use Rattle.cedar_names.specs.Names.{uid_name}
use Rattle.cedar_requests.specs.Substitutions.{values_for}
use Rattle.cedar_unknowns.specs.Valued.{with_each}
use Rattle.cedar_unknowns.proofs.Valued.{each_is_put}
use Rattle.cedar_unknowns.proofs.values.each_itself.Goals as goal

pub returns : goal.returns
returns c =
    let us = c.args.entities.now.items in
    let i = c.entities.uid-index in
    let is_passed : List EntityUID → Type 0 = λ xs. length xs ≤ i in
    let ended : length us ≤ i = subst is_passed c.deref-uid-items.ensures.value c.entities-test.false in
    let none : drop i us ≡ [] = drop_of_length-le us ended in
    sym (ap (λ (xs : List EntityUID). with_each (values_for c.entities.values.entries) (map uid_name xs)) none)
    ∙ c.entities.invariant ∙ each_is_put (map uid_name us)
