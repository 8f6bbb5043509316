-- At one level all answers are alike: so never both the limit and another answer.
use Rattle.std.specs.Prelude.{◌≡◌, ◌≢◌, ◌⊎◌, ℕ, zero, suc, max, ◌<◌, ◌≤◌, ◌==◌, Bool, true, false, cond, ◌&&◌, List, []}
use Rattle.std.specs.Prelude.{◌∷◌, map, length, Option, Some, None, Result, Ok, Err, option_map}
use Rattle.std.proofs.Common.{refl, sym, ap, ◌∙◌, subst, arith, inl, inr}
use Rattle.std.proofs.lemmas.Bool.{cases_lt}
use Rattle.std.proofs.lemmas.List.{length-map}
use Rattle.cedar_model.proofs.MoreLevels.{more_levels}
use Rattle.cedar_model.specs.Terms.{Text, bool_literal, BinaryOperator, eq_operator, less_operator, less_eq_operator}
use Rattle.cedar_model.specs.Terms.{add_operator, sub_operator, mul_operator, in_operator, contains_operator}
use Rattle.cedar_model.specs.Terms.{contains_all_operator, contains_any_operator, get_tag_operator, has_tag_operator}
use Rattle.cedar_model.specs.Terms.{Term, literal, variable, slot, unknown, if_then_else, both, either, unary, binary}
use Rattle.cedar_model.specs.Terms.{call, get_attribute, has_attribute, extended_has, like, is_of_type, set_of}
use Rattle.cedar_model.specs.Terms.{record_of, Terms, no_terms, one_term, Fields, no_fields, one_field}
use Rattle.cedar_model.specs.Values.{AbstractFields, one_value_at, record_value, Represented, abstract_value}
use Rattle.cedar_model.specs.Values.{abstract_fields}
use Rattle.cedar_model.specs.Sets.{represented_fields_of}
use Rattle.cedar_model.specs.Shapes.{is_projectable, are_projectable_at}
use Rattle.cedar_model.specs.Outcomes.{bool_of, text_of, entity_of, text_eq}
use Rattle.cedar_model.specs.Failures.{Failure, failure_kind, FailureKind, of_meaning, of_residual, of_limit, of_memory}
use Rattle.cedar_model.specs.Failures.{entity_is_missing, entity_attribute_is_missing, record_attribute_is_missing}
use Rattle.cedar_model.specs.Failures.{function_is_missing, type_is_wrong, arguments_are_miscounted, binary_overflow}
use Rattle.cedar_model.specs.Failures.{unary_overflow, slot_is_unlinked, function_has_failed, residual_is_left}
use Rattle.cedar_model.specs.Failures.{recursion_limit, out_of_memory, memory_is_wrapped, PartialValue, value, residual}
use Rattle.cedar_model.specs.Failures.{Answer, answers, fails, part_expression, limit}
use Rattle.cedar_model.specs.Settings.{Store, Resolution, shallow, deep, Setting, variable_part}
use Rattle.cedar_model.specs.Operators
use Rattle.cedar_model.specs.Rules
use Rattle.cedar_model.specs.Alike.{erased, erased_at, AreAlikeParts, AreAlike}
use Rattle.cedar_model.proofs.Alike as alike
use Rattle.cedar_model.proofs.Injections.{some_inj}
use Rattle.cedar_model.proofs.Functional.{by_sides}

-- ---- records

abbrev AreAlikeFieldLists : List (Text × PartialValue) → List (Text × PartialValue) → Type 0
AreAlikeFieldLists [] [] = Unit {0}
AreAlikeFieldLists [] (q ∷ qs) = ⊥
AreAlikeFieldLists (p ∷ ps) [] = ⊥
AreAlikeFieldLists (p ∷ ps) (q ∷ qs) = (p.0 ≡ q.0) × AreAlikeParts p.1 q.1 × AreAlikeFieldLists ps qs

abbrev AreAlikeFieldResults : Result (List (Text × PartialValue)) Failure → Result (List (Text × PartialValue)) Failure
    → Type 0
AreAlikeFieldResults (Ok ps) (Ok qs) = AreAlikeFieldLists ps qs
AreAlikeFieldResults (Ok ps) (Err e) = ⊥
AreAlikeFieldResults (Err e) (Ok ps) = ⊥
AreAlikeFieldResults (Err e) (Err f) = failure_kind e ≡ failure_kind f

field_part_then_alike : (k : Text) (p q : PartialValue) (r z : Result (List (Text × PartialValue)) Failure)
    → AreAlikeParts p q → AreAlikeFieldResults r z
    → AreAlikeFieldResults (Rules.field_part_then k p r) (Rules.field_part_then k q z)
unfolding Rules.field_part_then
field_part_then_alike k p q (Ok ps) (Ok qs) h g = (refl, h, g)
field_part_then_alike k p q (Ok ps) (Err e) h g = absurd g
field_part_then_alike k p q (Err e) (Ok ps) h g = absurd g
field_part_then_alike k p q (Err e) (Err f) h g = g

-- the record of the pairs, without representations
abbrev abstract_pairs : List (Text × Represented) → AbstractFields
abstract_pairs vs = abstract_fields (represented_fields_of vs)

add_value_at_alike : (k l : Text) (p q : PartialValue) (o z : Option (List (Text × Represented))) → k ≡ l
    → AreAlikeParts p q → option_map abstract_pairs o ≡ option_map abstract_pairs z
    → option_map abstract_pairs (Rules.add_value_at k p o) ≡ option_map abstract_pairs (Rules.add_value_at l q z)
unfolding Rules.add_value_at
add_value_at_alike k l (value v) (value w) None None e h g = refl
add_value_at_alike k l (value v) (value w) None (Some ws) e h g = absurd (cc)
add_value_at_alike k l (value v) (value w) (Some vs) None e h g = absurd (cc)
add_value_at_alike k l (value v) (value w) (Some vs) (Some ws) e h g =
    let f : abstract_pairs vs ≡ abstract_pairs ws = some_inj g in λ i. Some (one_value_at (e i) (h i) (f i))
add_value_at_alike k l (value v) (residual r) o z e h g = absurd h
add_value_at_alike k l (residual r) (value v) o z e h g = absurd h
add_value_at_alike k l (residual r) (residual q) o z e h g = refl

field_values_alike : (ps qs : List (Text × PartialValue)) → AreAlikeFieldLists ps qs
    → option_map abstract_pairs (Rules.values_of_field_parts ps)
    ≡ option_map abstract_pairs (Rules.values_of_field_parts qs)
unfolding Rules.values_of_field_parts
field_values_alike [] [] h = refl
field_values_alike [] (q ∷ qs) h = absurd h
field_values_alike (p ∷ ps) [] h = absurd h
field_values_alike (p ∷ ps) (q ∷ qs) h =
    add_value_at_alike p.0 q.0 p.1 q.1 (Rules.values_of_field_parts ps) (Rules.values_of_field_parts qs) h.0 h.1
    (field_values_alike ps qs h.2)

field_terms_alike : (ps qs : List (Text × PartialValue)) → AreAlikeFieldLists ps qs
    → erased_at (Rules.fields_of_parts ps) ≡ erased_at (Rules.fields_of_parts qs)
field_terms_alike [] [] h = refl
field_terms_alike [] (q ∷ qs) h = absurd h
field_terms_alike (p ∷ ps) [] h = absurd h
field_terms_alike (p ∷ ps) (q ∷ qs) h =
    λ i. one_field (h.0 i) (alike.alike_part_expressions p.1 q.1 h.1 i) (field_terms_alike ps qs h.2 i)

record_parts_alike : (o z : Option (List (Text × Represented))) (ps qs : List (Text × PartialValue))
    → option_map abstract_pairs o ≡ option_map abstract_pairs z → AreAlikeFieldLists ps qs
    → AreAlike (Rules.record_of_parts o ps) (Rules.record_of_parts z qs)
unfolding Rules.record_of_parts
record_parts_alike None None ps qs e h = ap record_of (field_terms_alike ps qs h)
record_parts_alike None (Some ws) ps qs e h = absurd (cc)
record_parts_alike (Some vs) None ps qs e h = absurd (cc)
record_parts_alike (Some vs) (Some ws) ps qs e h = ap record_value (some_inj e)

record_answer_alike : (r z : Result (List (Text × PartialValue)) Failure) → AreAlikeFieldResults r z
    → AreAlike (Rules.record_answer r) (Rules.record_answer z)
unfolding Rules.record_answer
record_answer_alike (Ok ps) (Ok qs) h =
    record_parts_alike (Rules.values_of_field_parts ps) (Rules.values_of_field_parts qs) ps qs
    (field_values_alike ps qs h) h
record_answer_alike (Ok ps) (Err e) h = absurd h
record_answer_alike (Err e) (Ok ps) h = absurd h
record_answer_alike (Err e) (Err f) h = h

-- ---- best effort

best_kinds : (k l : FailureKind) (e f : Failure) (t : Term) (Next Next' : Term → Answer → Type 0) (a b : Answer) → k ≡ l
    → failure_kind e ≡ k → failure_kind f ≡ l
    → ((u u' : Term) → erased u ≡ erased u' → Next u a → Next' u' b → AreAlike a b)
    → Rules.AfterBest (Rules.best_of_kind k e t) Next a → Rules.AfterBest (Rules.best_of_kind l f t) Next' b
    → AreAlike a b
unfolding Rules.best_of_kind
best_kinds (of_meaning k) (of_meaning l) e f t Next Next' a b p q r h g j = h t t refl g j
best_kinds (of_meaning k) of_residual e f t Next Next' a b p q r h g j = h t t refl g j
best_kinds (of_meaning k) of_limit e f t Next Next' a b p q r h g j = absurd (cc)
best_kinds (of_meaning k) of_memory e f t Next Next' a b p q r h g j = absurd (cc)
best_kinds of_residual (of_meaning l) e f t Next Next' a b p q r h g j = h t t refl g j
best_kinds of_residual of_residual e f t Next Next' a b p q r h g j = h t t refl g j
best_kinds of_residual of_limit e f t Next Next' a b p q r h g j = absurd (cc)
best_kinds of_residual of_memory e f t Next Next' a b p q r h g j = absurd (cc)
best_kinds of_limit (of_meaning l) e f t Next Next' a b p q r h g j = absurd (cc)
best_kinds of_limit of_residual e f t Next Next' a b p q r h g j = absurd (cc)
best_kinds of_limit of_limit e f t Next Next' a b p q r h g j =
    subst (λ x. AreAlike x b) (sym g) (subst (λ x. AreAlike (fails e) x) (sym j) (q ∙ sym r))
best_kinds of_limit of_memory e f t Next Next' a b p q r h g j = absurd (cc)
best_kinds of_memory (of_meaning l) e f t Next Next' a b p q r h g j = absurd (cc)
best_kinds of_memory of_residual e f t Next Next' a b p q r h g j = absurd (cc)
best_kinds of_memory of_limit e f t Next Next' a b p q r h g j = absurd (cc)
best_kinds of_memory of_memory e f t Next Next' a b p q r h g j =
    subst (λ x. AreAlike x b) (sym g) (subst (λ x. AreAlike (fails e) x) (sym j) (q ∙ sym r))

best_alike : (x y : Answer) (t : Term) (Next Next' : Term → Answer → Type 0) (a b : Answer) → AreAlike x y
    → ((u u' : Term) → erased u ≡ erased u' → Next u a → Next' u' b → AreAlike a b)
    → Rules.AfterBest (Rules.best x t) Next a → Rules.AfterBest (Rules.best y t) Next' b → AreAlike a b
unfolding Rules.best
best_alike (answers p) (answers q) t Next Next' a b h f g j =
    f (part_expression p) (part_expression q) (alike.alike_part_expressions p q h) g j
best_alike (answers p) (fails e) t Next Next' a b h f g j = absurd h
best_alike (fails e) (answers p) t Next Next' a b h f g j = absurd h
best_alike (fails e) (fails e') t Next Next' a b h f g j =
    best_kinds (failure_kind e) (failure_kind e') e e' t Next Next' a b h refl refl f g j

-- ---- a layer

-- operands that are alike read the same stored residual
binary_residual_alike : (s : Store) (op : BinaryOperator) (v v' w w' : Represented)
    → abstract_value v ≡ abstract_value v' → abstract_value w ≡ abstract_value w'
    → Operators.binary_residual s op v w ≡ Operators.binary_residual s op v' w'
unfolding Operators.binary_residual
binary_residual_alike s eq_operator v v' w w' h k = refl
binary_residual_alike s less_operator v v' w w' h k = refl
binary_residual_alike s less_eq_operator v v' w w' h k = refl
binary_residual_alike s add_operator v v' w w' h k = refl
binary_residual_alike s sub_operator v v' w w' h k = refl
binary_residual_alike s mul_operator v v' w w' h k = refl
binary_residual_alike s in_operator v v' w w' h k = refl
binary_residual_alike s contains_operator v v' w w' h k = refl
binary_residual_alike s contains_all_operator v v' w w' h k = refl
binary_residual_alike s contains_any_operator v v' w w' h k = refl
binary_residual_alike s get_tag_operator v v' w w' h k =
    λ i. Operators.tag_residual_of s (entity_of (h i)) (text_of (k i))
binary_residual_alike s has_tag_operator v v' w w' h k = refl

beside_residual_alike : (s : Store) (op : BinaryOperator) (p p' : PartialValue) (x y : Answer) → AreAlikeParts p p'
    → AreAlike x y → Rules.beside_residual s op p x ≡ Rules.beside_residual s op p' y
unfolding Rules.beside_residual
beside_residual_alike s op p p' (fails e) (fails f) h k = refl
beside_residual_alike s op p p' (fails e) (answers q) h k = absurd k
beside_residual_alike s op p p' (answers q) (fails e) h k = absurd k
beside_residual_alike s op (value v) (value v') (answers (value w)) (answers (value w')) h k =
    binary_residual_alike s op v v' w w' h k
beside_residual_alike s op (value v) (value v') (answers (value w)) (answers (residual r)) h k = absurd k
beside_residual_alike s op (value v) (value v') (answers (residual r)) (answers (value w)) h k = absurd k
beside_residual_alike s op (value v) (value v') (answers (residual r)) (answers (residual q)) h k = refl
beside_residual_alike s op (value v) (residual r) (answers q) (answers q') h k = absurd h
beside_residual_alike s op (residual r) (value v) (answers q) (answers q') h k = absurd h
beside_residual_alike s op (residual r) (residual r') (answers q) (answers q') h k = refl

-- a value or residual error beside an answer of the other kind
module _ (s : Setting) (calls : Rules.StoredCalls)
    (functional : (f : Text) (vs ws : List Represented) (a b : Answer) → map abstract_value vs ≡ map abstract_value ws
    → calls f vs a → calls f ws b → AreAlike a b) (G : Rules.MayAnswer)
    (determined : (t : Term) (x y : Answer) → G t x → G t y → AreAlike x y) where
  takes_alike : (o : Option Bool) (v w : Represented) (t e : Term) (a b : Answer) → Rules.TakesBranch G o v t e a
      → Rules.TakesBranch G o w t e b → AreAlike a b
  unfolding failure_kind
  takes_alike None v w t e a b g j = by_sides a b _ _ g j refl
  takes_alike (Some true) v w t e a b g j = determined t a b g j
  takes_alike (Some false) v w t e a b g j = determined e a b g j

  branches_alike : (r q t e : Term) (a b : Answer) → erased r ≡ erased q → Rules.KeepsBranches G r t e a
      → Rules.KeepsBranches G q t e b → AreAlike a b
  branches_alike r q t e a b h (x, g, k) (y, j, l) =
      best_alike x y t _ _ a b (determined t x y g j)
      (λ u u' i (x', g', k') (y', j', l'). best_alike x' y' e _ _ a b (determined e x' y' g' j')
      (λ z z' i' m m'. by_sides a b _ _ m m' (λ n. if_then_else (h n) (i n) (i' n))) k' l') k l

  guard_alike : (x y : Answer) (t e : Term) (a b : Answer) → AreAlike x y → Rules.Then x (Rules.AfterGuard G t e) a
      → Rules.Then y (Rules.AfterGuard G t e) b → AreAlike a b
  guard_alike (fails f) (fails f') t e a b h g j = by_sides a b _ _ g j h
  guard_alike (fails f) (answers p) t e a b h g j = absurd h
  guard_alike (answers p) (fails f) t e a b h g j = absurd h
  guard_alike (answers (value v)) (answers (value w)) t e a b h g j =
      takes_alike (bool_of (abstract_value v)) v w t e a b g
      (subst (λ z. Rules.TakesBranch G (bool_of z) w t e b) (sym h) j)
  guard_alike (answers (value v)) (answers (residual r)) t e a b h g j = absurd h
  guard_alike (answers (residual r)) (answers (value w)) t e a b h g j = absurd h
  guard_alike (answers (residual r)) (answers (residual q)) t e a b h g j = branches_alike r q t e a b h g j

  right_alike : (k k' : Term → Term) → ((r q : Term) → erased r ≡ erased q → erased (k r) ≡ erased (k' q))
      → (t : Term) (a b : Answer) → Rules.ReadsRight G k t a → Rules.ReadsRight G k' t b → AreAlike a b
  right_alike k k' H t a b (x, g, e) (y, j, f) =
      by_sides a b _ _ e f (alike.joined_alike k k' H x y (determined t x y g j))

  kept_alike : (k k' : Term → Term) → ((r q : Term) → erased r ≡ erased q → erased (k r) ≡ erased (k' q))
      → (t : Term) (a b : Answer) → Rules.KeepsRight G k t a → Rules.KeepsRight G k' t b → AreAlike a b
  kept_alike k k' H t a b (x, g, l) (y, j, m) =
      best_alike x y t _ _ a b (determined t x y g j) (λ u u' i n n'. by_sides a b _ _ n n' (H u u' i)) l m

  and_bool_alike : (o : Option Bool) (v w : Represented) (t : Term) (a b : Answer) → Rules.AndLeft G o v t a
      → Rules.AndLeft G o w t b → AreAlike a b
  unfolding failure_kind
  and_bool_alike None v w t a b g j = by_sides a b _ _ g j refl
  and_bool_alike (Some true) v w t a b g j =
      right_alike _ _ (λ r q e. ap (both (literal (bool_literal true))) e) t a b g j
  and_bool_alike (Some false) v w t a b g j = by_sides a b _ _ g j refl

  and_alike : (x y : Answer) (t : Term) (a b : Answer) → AreAlike x y → Rules.Then x (Rules.AfterAndLeft G t) a
      → Rules.Then y (Rules.AfterAndLeft G t) b → AreAlike a b
  and_alike (fails f) (fails f') t a b h g j = by_sides a b _ _ g j h
  and_alike (fails f) (answers p) t a b h g j = absurd h
  and_alike (answers p) (fails f) t a b h g j = absurd h
  and_alike (answers (value v)) (answers (value w)) t a b h g j =
      and_bool_alike (bool_of (abstract_value v)) v w t a b g (subst (λ z. Rules.AndLeft G (bool_of z) w t b) (sym h) j)
  and_alike (answers (value v)) (answers (residual r)) t a b h g j = absurd h
  and_alike (answers (residual r)) (answers (value w)) t a b h g j = absurd h
  and_alike (answers (residual r)) (answers (residual q)) t a b h g j =
      kept_alike (both r) (both q) (λ u u' e i. both (h i) (e i)) t a b g j

  or_bool_alike : (o : Option Bool) (v w : Represented) (t : Term) (a b : Answer) → Rules.OrLeft G o v t a
      → Rules.OrLeft G o w t b → AreAlike a b
  unfolding failure_kind
  or_bool_alike None v w t a b g j = by_sides a b _ _ g j refl
  or_bool_alike (Some true) v w t a b g j = by_sides a b _ _ g j refl
  or_bool_alike (Some false) v w t a b g j =
      right_alike _ _ (λ r q e. ap (either (literal (bool_literal false))) e) t a b g j

  or_alike : (x y : Answer) (t : Term) (a b : Answer) → AreAlike x y → Rules.Then x (Rules.AfterOrLeft G t) a
      → Rules.Then y (Rules.AfterOrLeft G t) b → AreAlike a b
  or_alike (fails f) (fails f') t a b h g j = by_sides a b _ _ g j h
  or_alike (fails f) (answers p) t a b h g j = absurd h
  or_alike (answers p) (fails f) t a b h g j = absurd h
  or_alike (answers (value v)) (answers (value w)) t a b h g j =
      or_bool_alike (bool_of (abstract_value v)) v w t a b g (subst (λ z. Rules.OrLeft G (bool_of z) w t b) (sym h) j)
  or_alike (answers (value v)) (answers (residual r)) t a b h g j = absurd h
  or_alike (answers (residual r)) (answers (value w)) t a b h g j = absurd h
  or_alike (answers (residual r)) (answers (residual q)) t a b h g j =
      kept_alike (either r) (either q) (λ u u' e i. either (h i) (e i)) t a b g j

  beside_alike : (op : BinaryOperator) (p p' : PartialValue) (x y : Answer) → AreAlikeParts p p' → AreAlike x y
      → AreAlike (Rules.binary_beside s op p x) (Rules.binary_beside s op p' y)
  unfolding Rules.binary_beside
  beside_alike op p p' (fails e) (fails f) h k = k
  beside_alike op p p' (fails e) (answers q) h k = absurd k
  beside_alike op p p' (answers q) (fails e) h k = absurd k
  beside_alike op p p' (answers q) (answers q') h k = alike.binary_parts_alike s op p p' q q' h k

  resolves_alike : (r : Resolution) (o z : Option Term) (x y a b : Answer) → o ≡ z → AreAlike x y
      → Rules.Resolves G r o x a → Rules.Resolves G r z y b → AreAlike a b
  resolves_alike shallow o z x y a b e h g j = by_sides a b _ _ g j h
  resolves_alike deep None None x y a b e h g j = by_sides a b _ _ g j h
  resolves_alike deep None (Some u) x y a b e h g j = absurd (cc)
  resolves_alike deep (Some t) None x y a b e h g j = absurd (cc)
  resolves_alike deep (Some t) (Some u) x y a b e h g j =
      determined t a b g (subst (λ z. G z b) (sym (some_inj e)) j)

  left_alike : (op : BinaryOperator) (x y : Answer) (t : Term) (a b : Answer) → AreAlike x y
      → Rules.Then x (Rules.AfterLeft G s op t) a → Rules.Then y (Rules.AfterLeft G s op t) b → AreAlike a b
  left_alike op (fails e) (fails f) t a b h g j = by_sides a b _ _ g j h
  left_alike op (fails e) (answers p) t a b h g j = absurd h
  left_alike op (answers p) (fails e) t a b h g j = absurd h
  left_alike op (answers p) (answers p') t a b h (x, g, e) (y, j, f) =
      let i = determined t x y g j in
      resolves_alike s.resolution _ _ _ _ a b (beside_residual_alike s.store op p p' x y h i)
      (beside_alike op p p' x y h i) e f

  -- ---- extended `has`

  after_step_alike : (z z' : Operators.Walk) (Next Next' : Represented → Answer → Type 0) (a b : Answer)
      → alike.AreAlikeSteps z z' → ((v w : Represented) → abstract_value v ≡ abstract_value w → Next v a → Next' w b
      → AreAlike a b) → Rules.AfterWalk G z Next a → Rules.AfterWalk G z' Next' b → AreAlike a b
  after_step_alike (Operators.walks_on v) (Operators.walks_on w) Next Next' a b h f g j = f v w h g j
  after_step_alike (Operators.walks_on v) (Operators.stops x) Next Next' a b h f g j = absurd h
  after_step_alike (Operators.stops x) (Operators.walks_on v) Next Next' a b h f g j = absurd h
  after_step_alike (Operators.stops x) (Operators.stops y) Next Next' a b h f g j = by_sides a b _ _ g j h

  after_stored_alike : (x y : Answer) (l : Text) (ls : List Text) (Next Next' : Represented → Answer → Type 0)
      (a b : Answer) → AreAlike x y → ((v w : Represented) → abstract_value v ≡ abstract_value w → Next v a → Next' w b
      → AreAlike a b) → Rules.AfterStored G x l ls Next a → Rules.AfterStored G y l ls Next' b → AreAlike a b
  after_stored_alike (fails e) (fails e') l ls Next Next' a b h f g j = by_sides a b _ _ g j h
  after_stored_alike (fails e) (answers p) l ls Next Next' a b h f g j = absurd h
  after_stored_alike (answers p) (fails e) l ls Next Next' a b h f g j = absurd h
  after_stored_alike (answers (value v)) (answers (value w)) l ls Next Next' a b h f g j = f v w h g j
  after_stored_alike (answers (value v)) (answers (residual r)) l ls Next Next' a b h f g j = absurd h
  after_stored_alike (answers (residual r)) (answers (value v)) l ls Next Next' a b h f g j = absurd h
  after_stored_alike (answers (residual r)) (answers (residual q)) l ls Next Next' a b h f g j =
      by_sides a b _ _ g j (ap (λ t. extended_has t l ls) h)

  steps_alike : (o z : Option Term) (x y : Operators.Walk) (l : Text) (ls : List Text)
      (Next Next' : Represented → Answer → Type 0) (a b : Answer) → o ≡ z → alike.AreAlikeSteps x y
      → ((v w : Represented) → abstract_value v ≡ abstract_value w → Next v a → Next' w b → AreAlike a b)
      → Rules.WalksOn G o x l ls Next a → Rules.WalksOn G z y l ls Next' b → AreAlike a b
  steps_alike None None x y l ls Next Next' a b e h f g j = after_step_alike x y Next Next' a b h f g j
  steps_alike None (Some u) x y l ls Next Next' a b e h f g j = absurd (cc)
  steps_alike (Some t) None x y l ls Next Next' a b e h f g j = absurd (cc)
  steps_alike (Some t) (Some u) x y l ls Next Next' a b e h f (x', g, i) (y', j, k) =
      after_stored_alike x' y' l ls Next Next' a b
      (determined t x' y' g (subst (λ z. G z y') (sym (some_inj e)) j)) f i k

  walks_alike : (ks : List Text) (v w : Represented) (k : Text) (a b : Answer) → abstract_value v ≡ abstract_value w
      → Rules.Walks G s.store v k ks a → Rules.Walks G s.store w k ks b → AreAlike a b
  unfolding Operators.path_answer
  walks_alike [] v w k a b h g j = by_sides a b _ _ g j (alike.path_alike s.store k [] v w h)
  walks_alike (l ∷ ls) v w k a b h g j =
      steps_alike (Operators.attribute_residual s.store v k) (Operators.attribute_residual s.store w k)
      (Operators.walk_in s.store (Operators.container_of v) (Operators.container_expected v) k l ls)
      (Operators.walk_in s.store (Operators.container_of w) (Operators.container_expected w) k l ls) l ls
      (λ u. Rules.Walks G s.store u l ls) (λ u. Rules.Walks G s.store u l ls) a b
      (ap (λ u. Operators.attribute_residual_of s.store (entity_of u) k) h) (alike.step_alike s.store k l ls v w h)
      (λ u u' e. walks_alike ls u u' l a b e) g j

  path_from_alike : (r : Resolution) (x y : Answer) (k : Text) (ks : List Text) (a b : Answer) → AreAlike x y
      → Rules.AtPath G r s.store x k ks a → Rules.AtPath G r s.store y k ks b → AreAlike a b
  path_from_alike shallow x y k ks a b h g j =
      by_sides a b _ _ g j (alike.on_part_alike _ _ _ _ (alike.path_alike s.store k ks)
      (λ r q e. ap (λ i. extended_has i k ks) e) x y h)
  path_from_alike deep (fails e) (fails f) k ks a b h g j = by_sides a b _ _ g j h
  path_from_alike deep (fails e) (answers p) k ks a b h g j = absurd h
  path_from_alike deep (answers p) (fails e) k ks a b h g j = absurd h
  path_from_alike deep (answers (value v)) (answers (value w)) k ks a b h g j = walks_alike ks v w k a b h g j
  path_from_alike deep (answers (value v)) (answers (residual r)) k ks a b h g j = absurd h
  path_from_alike deep (answers (residual r)) (answers (value v)) k ks a b h g j = absurd h
  path_from_alike deep (answers (residual r)) (answers (residual q)) k ks a b h g j =
      by_sides a b _ _ g j (ap (λ i. extended_has i k ks) h)

  -- ---- projection

  part_is_projectable : (k : Text) (fs : Fields) (part : Term) → Operators.term_at k fs ≡ Some part
      → are_projectable_at fs ≡ true → is_projectable part ≡ true
  unfolding Operators.term_at
  part_is_projectable k no_fields part e h = absurd (cc)
  part_is_projectable k (one_field l t fs) part e h =
      by (text_eq k l) (is_projectable t) (are_projectable_at fs) refl e h (λ f g. part_is_projectable k fs part f g)
    where
      by : (b c d : Bool) → is_projectable t ≡ c → cond b (Some t) (Operators.term_at k fs) ≡ Some part
          → (c && d) ≡ true → (Operators.term_at k fs ≡ Some part → d ≡ true → is_projectable part ≡ true)
          → is_projectable part ≡ true
      by true true d i f g rest = ap is_projectable (sym (some_inj f)) ∙ i
      by true false d i f g rest = absurd (cc)
      by false true d i f g rest = rest f g
      by false false d i f g rest = absurd (cc)

  record_is_projectable : (r : Term) (fs : Fields) → Rules.fields_of_record r ≡ Some fs
      → is_projectable r ≡ are_projectable_at fs
  unfolding Rules.fields_of_record
  record_is_projectable (literal l) fs e = absurd (cc)
  record_is_projectable (variable v) fs e = absurd (cc)
  record_is_projectable (slot i) fs e = absurd (cc)
  record_is_projectable (unknown n t) fs e = absurd (cc)
  record_is_projectable (if_then_else c a b) fs e = absurd (cc)
  record_is_projectable (both a b) fs e = absurd (cc)
  record_is_projectable (either a b) fs e = absurd (cc)
  record_is_projectable (unary op a) fs e = absurd (cc)
  record_is_projectable (binary op a b) fs e = absurd (cc)
  record_is_projectable (call f ts) fs e = absurd (cc)
  record_is_projectable (get_attribute a k) fs e = absurd (cc)
  record_is_projectable (has_attribute a k) fs e = absurd (cc)
  record_is_projectable (extended_has a k ks) fs e = absurd (cc)
  record_is_projectable (like a p) fs e = absurd (cc)
  record_is_projectable (is_of_type a t) fs e = absurd (cc)
  record_is_projectable (set_of ts) fs e = absurd (cc)
  record_is_projectable (record_of gs) fs e = ap are_projectable_at (some_inj e)

  projects_alike : (b c : Bool) (r q : Term) (k : Text) (part part' : Term) (x y : Answer) → b ≡ c → erased r ≡ erased q
      → (b ≡ true → part ≡ part') → Rules.Projects G b r k part x → Rules.Projects G c q k part' y → AreAlike x y
  projects_alike true true r q k part part' x y e h f g j =
      determined part x y g (subst (λ t. G t y) (sym (f refl)) j)
  projects_alike true false r q k part part' x y e h f g j = absurd (cc)
  projects_alike false true r q k part part' x y e h f g j = absurd (cc)
  projects_alike false false r q k part part' x y e h f g j = by_sides x y _ _ g j (ap (λ t. get_attribute t k) h)

  at_key_alike : (o z : Option Term) (fs gs : Fields) (r q : Term) (k : Text) (x y : Answer)
      → Operators.term_at k fs ≡ o → Operators.term_at k gs ≡ z → Rules.fields_of_record r ≡ Some fs
      → Rules.fields_of_record q ≡ Some gs → option_map erased o ≡ option_map erased z → erased r ≡ erased q
      → Rules.AtKey G o fs r k x → Rules.AtKey G z gs q k y → AreAlike x y
  unfolding failure_kind
  at_key_alike None None fs gs r q k x y e f i i' h h' g j = by_sides x y _ _ g j refl
  at_key_alike None (Some part') fs gs r q k x y e f i i' h h' g j = absurd (cc)
  at_key_alike (Some part) None fs gs r q k x y e f i i' h h' g j = absurd (cc)
  at_key_alike (Some part) (Some part') fs gs r q k x y e f i i' h h' g j =
      projects_alike (is_projectable r) (is_projectable q) r q k part part' x y (alike.alike_projectable r q h') h'
      (λ p. same_part p) g j
    where
      same_part : is_projectable r ≡ true → part ≡ part'
      same_part p =
          let a : is_projectable part ≡ true =
          part_is_projectable k fs part e (sym (record_is_projectable r fs i) ∙ p) in
          let b : is_projectable part' ≡ true =
          part_is_projectable k gs part' f
          (sym (record_is_projectable q gs i') ∙ sym (alike.alike_projectable r q h') ∙ p) in
          sym (alike.erased-projectable part a) ∙ some_inj h ∙ alike.erased-projectable part' b

  at_fields_alike : (o z : Option Fields) (r q : Term) (k : Text) (x y : Answer) → Rules.fields_of_record r ≡ o
      → Rules.fields_of_record q ≡ z → option_map erased_at o ≡ option_map erased_at z → erased r ≡ erased q
      → Rules.AtFields G o r k x → Rules.AtFields G z q k y → AreAlike x y
  at_fields_alike None None r q k x y e f h h' g j = by_sides x y _ _ g j (ap (λ t. get_attribute t k) h')
  at_fields_alike None (Some gs) r q k x y e f h h' g j = absurd (cc)
  at_fields_alike (Some fs) None r q k x y e f h h' g j = absurd (cc)
  at_fields_alike (Some fs) (Some gs) r q k x y e f h h' g j =
      at_key_alike (Operators.term_at k fs) (Operators.term_at k gs) fs gs r q k x y refl refl e f
      (alike.alike_term_at k fs gs (some_inj h)) h' g j

  attribute_alike : (x y : Answer) (k : Text) (a b : Answer) → AreAlike x y → Rules.Then x (Rules.AtAttribute G s k) a
      → Rules.Then y (Rules.AtAttribute G s k) b → AreAlike a b
  attribute_alike (fails e) (fails f) k a b h g j = by_sides a b _ _ g j h
  attribute_alike (fails e) (answers p) k a b h g j = absurd h
  attribute_alike (answers p) (fails e) k a b h g j = absurd h
  attribute_alike (answers (value v)) (answers (value w)) k a b h g j =
      resolves_alike s.resolution (Operators.attribute_residual s.store v k)
      (Operators.attribute_residual s.store w k) _ _ a b
      (ap (λ u. Operators.attribute_residual_of s.store (entity_of u) k) h) (alike.attribute_alike s v w k h) g j
  attribute_alike (answers (value v)) (answers (residual r)) k a b h g j = absurd h
  attribute_alike (answers (residual r)) (answers (value v)) k a b h g j = absurd h
  attribute_alike (answers (residual r)) (answers (residual q)) k a b h g j =
      at_fields_alike (Rules.fields_of_record r) (Rules.fields_of_record q) r q k a b refl refl
      (alike.alike_fields r q h) h g j

  -- ---- parts

  after_part_alike : (Rest : Result (List PartialValue) Failure → Type 0)
      → ((r z : Result (List PartialValue) Failure) → Rest r → Rest z → alike.AreAlikeResults r z)
      → (x y : Answer) (r z : Result (List PartialValue) Failure) → AreAlike x y → Rules.AfterPart G x Rest r
      → Rules.AfterPart G y Rest z → alike.AreAlikeResults r z
  after_part_alike Rest f (fails e) (fails e') r z h g j =
      subst (λ u. alike.AreAlikeResults u z) (sym g) (subst (λ u. alike.AreAlikeResults (Err e) u) (sym j) h)
  after_part_alike Rest f (fails e) (answers p) r z h g j = absurd h
  after_part_alike Rest f (answers p) (fails e) r z h g j = absurd h
  after_part_alike Rest f (answers p) (answers q) r z h (u, g, e) (w, j, e') =
      subst (λ i. alike.AreAlikeResults i z) (sym e)
      (subst (λ i. alike.AreAlikeResults (Rules.part_then p u) i) (sym e')
      (alike.part_then_alike p q u w h (f u w g j)))

  parts_alike : (ts : Terms) (r z : Result (List PartialValue) Failure) → Rules.Parts G ts r → Rules.Parts G ts z
      → alike.AreAlikeResults r z
  parts_alike no_terms r z g j =
      subst (λ i. alike.AreAlikeResults i z) (sym g) (subst (λ i. alike.AreAlikeResults (Ok []) i) (sym j) tt)
  parts_alike (one_term t ts) r z (x, g, h) (y, j, k) =
      after_part_alike (Rules.Parts G ts) (parts_alike ts) x y r z (determined t x y g j) h k

  after_field_part_alike : (Rest : Result (List (Text × PartialValue)) Failure → Type 0)
      → ((r z : Result (List (Text × PartialValue)) Failure) → Rest r → Rest z → AreAlikeFieldResults r z)
      → (l : Text) (x y : Answer) (r z : Result (List (Text × PartialValue)) Failure) → AreAlike x y
      → Rules.AfterFieldPart G l x Rest r → Rules.AfterFieldPart G l y Rest z → AreAlikeFieldResults r z
  after_field_part_alike Rest f l (fails e) (fails e') r z h g j =
      subst (λ u. AreAlikeFieldResults u z) (sym g) (subst (λ u. AreAlikeFieldResults (Err e) u) (sym j) h)
  after_field_part_alike Rest f l (fails e) (answers p) r z h g j = absurd h
  after_field_part_alike Rest f l (answers p) (fails e) r z h g j = absurd h
  after_field_part_alike Rest f l (answers p) (answers q) r z h (u, g, e) (w, j, e') =
      subst (λ i. AreAlikeFieldResults i z) (sym e)
      (subst (λ i. AreAlikeFieldResults (Rules.field_part_then l p u) i) (sym e')
      (field_part_then_alike l p q u w h (f u w g j)))

  field_parts_alike : (fs : Fields) (r z : Result (List (Text × PartialValue)) Failure) → Rules.FieldParts G fs r
      → Rules.FieldParts G fs z → AreAlikeFieldResults r z
  field_parts_alike no_fields r z g j =
      subst (λ i. AreAlikeFieldResults i z) (sym g) (subst (λ i. AreAlikeFieldResults (Ok []) i) (sym j) tt)
  field_parts_alike (one_field l t fs) r z (x, g, h) (y, j, k) =
      after_field_part_alike (Rules.FieldParts G fs) (field_parts_alike fs) l x y r z (determined t x y g j) h k

  -- ---- calls

  length_map : (vs ws : List Represented) → map abstract_value vs ≡ map abstract_value ws → length vs ≡ length ws
  length_map vs ws e = sym (length-map vs abstract_value) ∙ ap length e ∙ (length-map ws abstract_value)

  counts_alike : (b c : Bool) (n : ℕ) (f : Text) (vs ws : List Represented) (x y : Answer) → b ≡ c
      → map abstract_value vs ≡ map abstract_value ws → Rules.Counts calls b n f vs x → Rules.Counts calls c n f ws y
      → AreAlike x y
  unfolding failure_kind
  counts_alike true true n f vs ws x y e h g j = functional f vs ws x y h g j
  counts_alike true false n f vs ws x y e h g j = absurd (cc)
  counts_alike false true n f vs ws x y e h g j = absurd (cc)
  counts_alike false false n f vs ws x y e h g j = by_sides x y _ _ g j refl

  looks_alike : (o : Option ℕ) (f : Text) (vs ws : List Represented) (x y : Answer)
      → map abstract_value vs ≡ map abstract_value ws → Rules.LooksUp calls o f vs x → Rules.LooksUp calls o f ws y
      → AreAlike x y
  unfolding failure_kind
  looks_alike None f vs ws x y h g j = by_sides x y _ _ g j refl
  looks_alike (Some n) f vs ws x y h g j =
      counts_alike (length vs == n) (length ws == n) n f vs ws x y (ap (λ m. m == n) (length_map vs ws h)) h g j

  values_alike : (o z : Option (List Represented)) (f : Text) (ps qs : List PartialValue) (x y : Answer)
      → option_map (map abstract_value) o ≡ option_map (map abstract_value) z
      → Rules.AfterValues calls s.extensions.arity o f ps x → Rules.AfterValues calls s.extensions.arity z f qs y
      → AreAlike x y
  values_alike None None f ps qs x y h g j = by_sides x y _ _ g j refl
  values_alike None (Some ws) f ps qs x y h g j = absurd (cc)
  values_alike (Some vs) None f ps qs x y h g j = absurd (cc)
  values_alike (Some vs) (Some ws) f ps qs x y h g j =
      looks_alike (s.extensions.arity f) f vs ws x y (some_inj h) g j

  arguments_alike : (r z : Result (List PartialValue) Failure) (f : Text) (x y : Answer) → alike.AreAlikeResults r z
      → Rules.AfterArguments calls s.extensions.arity f r x → Rules.AfterArguments calls s.extensions.arity f z y
      → AreAlike x y
  arguments_alike (Ok ps) (Ok qs) f x y h g j =
      values_alike (Rules.values_of_parts ps) (Rules.values_of_parts qs) f ps qs x y (alike.values_alike ps qs h) g j
  arguments_alike (Ok ps) (Err e) f x y h g j = absurd h
  arguments_alike (Err e) (Ok ps) f x y h g j = absurd h
  arguments_alike (Err e) (Err e') f x y h g j = by_sides x y _ _ g j h

  pub rule_determined : (t : Term) (a b : Answer) → Rules.Rule s calls G t a → Rules.Rule s calls G t b → AreAlike a b
  rule_determined (literal l) a b g j = by_sides a b _ _ g j refl
  rule_determined (variable v) a b g j = by_sides a b _ _ g j (alike.alike-refl (answers (variable_part s.request v)))
  rule_determined (slot i) a b g j = by_sides a b _ _ g j (alike.alike-refl (Operators.slot_answer i (s.slots i)))
  rule_determined (unknown n t) a b g j = by_sides a b _ _ g j (alike.alike-refl (Operators.unknown_answer s.map n t))
  rule_determined (if_then_else c t e) a b (x, g, h) (y, j, k) = guard_alike x y t e a b (determined c x y g j) h k
  rule_determined (both t u) a b (x, g, h) (y, j, k) = and_alike x y u a b (determined t x y g j) h k
  rule_determined (either t u) a b (x, g, h) (y, j, k) = or_alike x y u a b (determined t x y g j) h k
  rule_determined (unary op t) a b (x, g, h) (y, j, k) =
      by_sides a b _ _ h k (alike.on_part_alike _ _ _ _ (alike.unary_alike op) (λ r q e. ap (unary op) e) x y
      (determined t x y g j))
  rule_determined (binary op t u) a b (x, g, h) (y, j, k) = left_alike op x y u a b (determined t x y g j) h k
  rule_determined (call f ts) a b (r, g, h) (z, j, k) = arguments_alike r z f a b (parts_alike ts r z g j) h k
  rule_determined (get_attribute t n) a b (x, g, h) (y, j, k) = attribute_alike x y n a b (determined t x y g j) h k
  rule_determined (has_attribute t n) a b (x, g, h) (y, j, k) =
      by_sides a b _ _ h k (alike.has_part_alike s n x y (determined t x y g j))
  rule_determined (extended_has t n ns) a b (x, g, h) (y, j, k) =
      path_from_alike s.resolution x y n ns a b (determined t x y g j) h k
  rule_determined (like t p) a b (x, g, h) (y, j, k) =
      by_sides a b _ _ h k (alike.on_part_alike _ _ _ _ (alike.like_alike p) (λ r q e. ap (λ i. like i p) e) x y
      (determined t x y g j))
  rule_determined (is_of_type t n) a b (x, g, h) (y, j, k) =
      by_sides a b _ _ h k (alike.is_part_alike n x y (determined t x y g j))
  rule_determined (set_of ts) a b (r, g, h) (z, j, k) =
      by_sides a b _ _ h k (alike.set_answer_alike r z (parts_alike ts r z g j))
  rule_determined (record_of fs) a b (r, g, h) (z, j, k) =
      by_sides a b _ _ h k (record_answer_alike r z (field_parts_alike fs r z g j))

-- ---- levels

pub kind_of_limit : (e : Failure) → failure_kind e ≡ of_limit → e ≡ recursion_limit
unfolding failure_kind
kind_of_limit (entity_is_missing x) h = absurd (cc)
kind_of_limit (entity_attribute_is_missing x k w o l n) h = absurd (cc)
kind_of_limit (record_attribute_is_missing k l n) h = absurd (cc)
kind_of_limit (function_is_missing f) h = absurd (cc)
kind_of_limit (type_is_wrong x xs y) h = absurd (cc)
kind_of_limit (arguments_are_miscounted f m n) h = absurd (cc)
kind_of_limit (binary_overflow op v w) h = absurd (cc)
kind_of_limit (unary_overflow op v) h = absurd (cc)
kind_of_limit (slot_is_unlinked i) h = absurd (cc)
kind_of_limit (function_has_failed x m) h = absurd (cc)
kind_of_limit (residual_is_left t) h = absurd (cc)
kind_of_limit recursion_limit h = refl
kind_of_limit out_of_memory h = absurd (cc)
kind_of_limit memory_is_wrapped h = absurd (cc)

module _ (s : Setting) (calls : Rules.StoredCalls)
    (functional : (f : Text) (vs ws : List Represented) (a b : Answer) → map abstract_value vs ≡ map abstract_value ws
    → calls f vs a → calls f ws b → AreAlike a b) where
  pub runs_determined : (n : ℕ) (t : Term) (a b : Answer) → Rules.Runs s calls n t a → Rules.Runs s calls n t b
      → AreAlike a b
  runs_determined zero t a b g j = by_sides a b _ _ g j refl
  runs_determined (suc n) t a b g j =
      rule_determined s calls functional (Rules.Runs s calls n) (runs_determined n) t a b g j

  alike_limit : (a : Answer) → AreAlike limit a → a ≡ limit
  unfolding failure_kind
  alike_limit (answers p) h = absurd h
  alike_limit (fails e) h = ap fails (kind_of_limit e (sym h))

  pub limit_alone : (n : ℕ) (t : Term) (a : Answer) → Rules.Exceeds s calls t n → Rules.Runs s calls n t a → a ≡ limit
  limit_alone n t a g j = alike_limit a (runs_determined n t limit a g j)

  pub allowed_alike : (t : Term) (a b : Answer) → Rules.Allows s calls t a → Rules.Allows s calls t b → AreAlike a b
  allowed_alike t a b (na, n, g) (nb, m, j) =
      runs_determined (max n m) t a b (more_levels s calls n (max n m) t a (omega arith) g na)
      (more_levels s calls m (max n m) t b (omega arith) j nb)

  pub more_than_limit : (n m : ℕ) (t : Term) (a : Answer) → Rules.Exceeds s calls t n → a ≢ limit
      → Rules.Runs s calls m t a → n < m
  more_than_limit n m t a g na j = by (cases_lt n m)
    where
      by : (n < m) ⊎ (m ≤ n) → n < m
      by (inl h) = h
      by (inr h) = absurd (na (limit_alone n t a g (more_levels s calls m n t a h j na)))
