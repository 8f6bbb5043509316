use Rattle.std.proofs.Common.{◌==◌, ◌++◌, ℕ, List, ap, ◌∙◌}
use Rattle.std.proofs.lemmas.List.Sorted.{list_any-IsPermutation}
use Rattle.cedar_layers.proofs.Placing.{looked_up_all}
use Rattle.cedar_layers.proofs.policies.scope_index.ScopeIndex.positions.Goals as goal

pub returns : goal.returns
returns c =
    looked_up_all c.args.self.now _ _ _ _ _
    (c.in_ok-extend_from_slice.ensures.items ∙ ap (λ (ns : List ℕ). ns ++ c.deref.result.now) c.new-positions.ensures.items ∙ c.deref.ensures.value) c.in_ok-add_groups.ensures c.in_ok-add_types.ensures
    (λ j. list_any-IsPermutation (λ k. j == k) _ _ c.in_ok-sort.ensures.permutation)
