-- The map of known ancestors, name by name.
use Rattle.std.proofs.Common.{◌≡◌, refl, sym, ap, ◌∙◌, subst, Bool, true, false, List, [], map, Option, None, Some, ℕ, ◌<◌, length, get_or}
use Rattle.std.specs.Prelude.{IfSome}
use Rattle.std.specs.Map.{lookup, KeepsOthers}
use Rattle.std.specs.BTreeSet.{BTreeSet}
use Rattle.cedar_model.specs.Terms.{EntityName}
use Rattle.cedar_model.specs.Outcomes.{entity_eq}
use Rattle.cedar_model.specs.Settings.{is_among}
use Rattle.cedar_names.specs.EqualityLaws.{entity_eq-decides}
use Rattle.cedar_names.specs.declared.names.EntityUID.{EntityUID}
use Rattle.cedar_names.specs.Names.{uid_name}
use Rattle.cedar_names.specs.Order.{is_tied, is_tied-by_name}
use Rattle.cedar_hierarchy.specs.Paths.{Parentage, AreLedTo, ArePartOf}
use Rattle.cedar_hierarchy.specs.Listed.{KnowsAncestors}
use Rattle.cedar_hierarchy.proofs.Passing.{take_one_more}
use Rattle.cedar_hierarchy.proofs.Walking.{stands_among, part_of_parent}

-- what a map of known ancestors has
abbrev Known : Type 0
Known = List (EntityUID × BTreeSet EntityUID)

-- all that parents lead to, if there is a set
abbrev pub IsLedTo : Parentage → EntityName → Option (BTreeSet EntityUID) → Type 0
IsLedTo parents n o = IfSome o (λ s. AreLedTo parents n (map uid_name s.keys))

-- an empty map knows nothing
pub knows_nothing : (parents : Parentage) (es : Known) → es ≡ [] → KnowsAncestors parents es
knows_nothing parents es none =
    let claim : Known → Type 0 = KnowsAncestors parents in
    subst claim (sym none) (λ n. tt)

-- what a map has under a uid
pub known_of : (parents : Parentage) (es : Known) (u : EntityUID) (o : Option (BTreeSet EntityUID)) → KnowsAncestors parents es → o ≡ lookup (is_tied u) es → IsLedTo parents (uid_name u) o
known_of parents es u o known is =
    let by_name : lookup (is_tied u) es ≡ lookup (λ (v : EntityUID). entity_eq (uid_name u) (uid_name v)) es = λ i. lookup (λ (v : EntityUID). is_tied-by_name u v i) es in
    let claim : Option (BTreeSet EntityUID) → Type 0 = IsLedTo parents (uid_name u) in
    subst claim (sym (is ∙ by_name)) (known (uid_name u))

-- a set is put under a uid, or taken from it
module _ (parents : Parentage) (old new : Known) (key : EntityUID) (o : Option (BTreeSet EntityUID)) (there : lookup (is_tied key) new ≡ o) (others : KeepsOthers is_tied (is_tied key) old new) (led : IsLedTo parents (uid_name key) o) (before : KnowsAncestors parents old) where
  known_at : (n : EntityName) (b : Bool) → entity_eq n (uid_name key) ≡ b → IsLedTo parents n (lookup (λ (u : EntityUID). entity_eq n (uid_name u)) new)
  unfolding KeepsOthers
  known_at n true h =
      let same : n ≡ uid_name key = (entity_eq-decides n (uid_name key)).0 h in
      let by_name : lookup (is_tied key) new ≡ lookup (λ (v : EntityUID). entity_eq (uid_name key) (uid_name v)) new = λ i. lookup (λ (v : EntityUID). is_tied-by_name key v i) new in
      let at_key : Option (BTreeSet EntityUID) → Type 0 = IsLedTo parents (uid_name key) in
      let claim : EntityName → Type 0 = λ m. IsLedTo parents m (lookup (λ (u : EntityUID). entity_eq m (uid_name u)) new) in
      subst claim (sym same) (subst at_key (sym there ∙ by_name) led)
  known_at n false h =
      let own_test : (x y : EntityUID) → entity_eq n (uid_name x) ≡ true → entity_eq n (uid_name y) ≡ is_tied x y = λ x y e. ap (λ (m : EntityName). entity_eq m (uid_name y)) ((entity_eq-decides n (uid_name x)).0 e) ∙ sym (is_tied-by_name x y) in
      let apart : (u : EntityUID) → is_tied key u ≡ true → entity_eq n (uid_name u) ≡ false = λ u e. ap (λ (m : EntityName). entity_eq n m) (sym ((entity_eq-decides (uid_name key) (uid_name u)).0 (sym (is_tied-by_name key u) ∙ e))) ∙ h in
      let claim : Option (BTreeSet EntityUID) → Type 0 = IsLedTo parents n in
      subst claim (sym (others (λ (u : EntityUID). entity_eq n (uid_name u)) own_test apart)) (before n)

  pub known_then : KnowsAncestors parents new
  known_then n = known_at n (entity_eq n (uid_name key)) refl

-- what is known of a parent is a part of what is led to
pub known_of_parent : (parents : Parentage) (a : EntityName) (own : List EntityUID) (i : ℕ) (p : EntityUID) (es : Known) (o : Option (BTreeSet EntityUID)) → map uid_name own ≡ parents a → i < length own → p ≡ get_or own i p → KnowsAncestors parents es → o ≡ lookup (is_tied p) es → IfSome o (λ s. ArePartOf parents a (map uid_name s.keys))
known_of_parent parents a own i p es None listed within at known is = tt
known_of_parent parents a own i p es (Some s) listed within at known is =
    let here : is_among (uid_name p) (map uid_name own) ≡ true = stands_among (uid_name p) i (map uid_name own) (take_one_more own i p within at) in
    part_of_parent parents a (uid_name p) (map uid_name s.keys) (sym (ap (is_among (uid_name p)) listed) ∙ here) (known_of parents es p (Some s) known is)
