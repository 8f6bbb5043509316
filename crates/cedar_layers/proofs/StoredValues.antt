-- The parts of an entity that are made from values, as they are collected.
use Rattle.std.proofs.Common.{◌≡◌, List, [], ◌∷◌, ◌++◌, true, Global, Ordering, Less, Greater, refl, ap, ◌∙◌}
use Rattle.std.proofs.lemmas.Cmp.{nat_list_cmp_total}
use Rattle.std.specs.declared.rc.RcStr.{RcStr}
use Rattle.std.specs.Rc.{rc_str_bytes}
use Rattle.std.specs.BTreeMap.{insert_entry}
use Rattle.std.specs.Cmp.Lexicographic.{slice_cmp}
use Rattle.std.specs.List.{AllByRecursion}
use Rattle.std.specs.List.Sorted.{IsStrictlySortedBy}
use Rattle.std.specs.Map.{keys_of}
use Rattle.std.specs.Ordering.{ordering_reverse, nat_cmp}
use Rattle.cedar_values.specs.declared.partial_value.PartialValue.{PartialValue}
use Rattle.cedar_values.specs.declared.partial_value.PartialValue.TheVariants as partials
use Rattle.cedar_values.specs.Sound.{Placed}
use Rattle.cedar_values.proofs.Written.{Entry, key_cmp, below_middle}
use Rattle.cedar_layers.specs.Parts.{parts_view, values_as_parts, are_restricted_parts}

-- a value under a name that is above those before it goes last
pub put_last : (done : List Entry) (e : Entry) (more : List Entry) → IsStrictlySortedBy key_cmp (keys_of (done ++ e ∷ more))
    → insert_entry key_cmp (values_as_parts done) e.0 (partials.Value e.1) ≡ values_as_parts (done ++ e ∷ [])
unfolding IsStrictlySortedBy
put_last [] e more h = refl
put_last (first ∷ done) e more h =
    let above : slice_cmp nat_cmp (rc_str_bytes e.0) (rc_str_bytes first.0) ≡ Greater =
    nat_list_cmp_total.antisymm (rc_str_bytes e.0) (rc_str_bytes first.0) ∙ ap ordering_reverse (below_middle first done e more h.0) in
    let first_part : RcStr Global × PartialValue = (first.0, partials.Value first.1) in
    rw above (ap (λ (es : List (RcStr Global × PartialValue)). first_part ∷ es) (put_last done e more h.1))

-- a value is a restricted part
pub restricted-values_as_parts : (es : List Entry) → are_restricted_parts (parts_view (values_as_parts es)) ≡ true
restricted-values_as_parts [] = refl
restricted-values_as_parts (e ∷ es) = restricted-values_as_parts es
