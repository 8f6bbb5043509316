use Rattle.std.proofs.Common.{◌≡◌, [], ◌∷◌, ◌++◌, sym, ap, ◌∙◌, subst, append_assoc}
use Rattle.std.specs.List.Sorted.{IsStrictlySortedBy}
use Rattle.std.specs.Map.{keys_of}
use Rattle.cedar_values.proofs.Written.{Entry, key_cmp}
use Rattle.cedar_layers.specs.Parts.{parts_view, are_restricted_parts}
use Rattle.cedar_layers.proofs.StoredValues.{put_last, restricted-values_as_parts}
use Rattle.cedar_layers.proofs.policies.entities.parts_of_values.Goals as goal

pub values-preserved : goal.values-preserved
values-preserved c =
    let l = c.values in
    let done = l.invariant.0 in
    let e : Entry = (c.in-Some.name, c.in-Some.value) in
    let left = c.next.new.self in
    let all : c.args.values.entries ≡ done ++ e ∷ left = l.invariant.1 ∙ ap (λ es. done ++ es) c.in-Some.ensures.steps in
    let last = put_last done e left (subst (λ es. IsStrictlySortedBy key_cmp (keys_of es)) all c.into_iter-name-iterator.ensures.into_iter_gives.5) in (
      done ++ e ∷ [],
      all ∙ sym (append_assoc done (e ∷ []) left),
      c.in_ok-insert.ensures.entries ∙ rw (l.invariant.2) last,
    )

pub returns-clause-restricted : goal.returns-clause-restricted
returns-clause-restricted c =
    ap (λ es. are_restricted_parts (parts_view es)) c.values.invariant.2 ∙ restricted-values_as_parts c.values.invariant.0
