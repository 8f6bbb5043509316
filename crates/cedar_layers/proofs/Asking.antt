-- What scopes ask for: which entities are read of a constraint.
use Rattle.std.proofs.Common.{◌≡◌, ◌⊎◌, inl, inr, refl, sym, ap, ◌∙◌, Bool, true, false, cond, not, ◌||◌, ◌&&◌, List, [], ◌∷◌, ◌++◌, append_assoc, Option, Some, None, is_some, option_map, drop, map}
use Rattle.std.proofs.lemmas.Bool.{or_parts}
use Rattle.std.proofs.lemmas.List.{append-nil}
use Rattle.std.proofs.lemmas.Result.{IfOk-weaker}
use Rattle.std.specs.Prelude.{Result, IfOk, MatchOption, option_copied}
use Rattle.std.specs.declared.alloc.AllocError.{AllocError}
use Rattle.std.specs.declared.alloc.Global.{Global}
use Rattle.std.specs.declared.vec.Vec.{Vec}
use denote.Ref.{Bor}
use Rattle.cedar_model.specs.Terms.{Text, EntityName, Slot, Term, Terms, literal, bool_literal, long_literal, text_literal, entity_literal, variable, slot, both, BinaryOperator, binary, is_of_type, set_of, no_terms, one_term}
use Rattle.cedar_model.specs.World.{Slots}
use Rattle.cedar_names.specs.declared.names.EntityType.{EntityType}
use Rattle.cedar_names.specs.declared.names.EntityUID.{EntityUID}
use Rattle.cedar_names.specs.Names.{type_text, uid_name}
use Rattle.cedar_expressions.specs.Readers.{IsNoLiteral, IsNoVariable}
use Rattle.cedar_layers.specs.Policies.{PolicyView}
use Rattle.cedar_layers.specs.Kinds.{and_parts, binary_parts, type_test_parts, set_parts, slot_part}
use Rattle.cedar_layers.specs.Scopes.{is_entity_variable, literal_entity, in_front, listed_entities, only, named_entity, place_entities, sought_entities, compared_entities, is_type_test, asked_entities, is_truth, is_told, principal_bound, action_bound, resource_bound, asked_type, principal_type_bound, action_type_bound, resource_type_bound, IsBoundToType, asks_for_no_entity, asks_for_no_type, names_found, type_found, first_type}
use Rattle.cedar_model.proofs.Injections.{none_is_not_some}

-- ---- by the kind of a term

-- what is read of the parts, or this where there are none
abbrev pub of_parts : {A B : Type 0} → B → (A → B) → Option A → B
of_parts other f None = other
of_parts other f (Some x) = f x

pub asked_parts : (ss : Slots) (t : Term) → asked_entities ss t ≡ of_parts (compared_entities ss t) (λ p. cond (is_type_test p.0) (compared_entities ss p.1) None) (and_parts t)
unfolding asked_entities
asked_parts ss (both a b) = refl
asked_parts ss t = refl

pub compared_parts : (ss : Slots) (t : Term) → compared_entities ss t ≡ of_parts None (λ p. cond (is_entity_variable p.1) (sought_entities ss p.0 p.2) None) (binary_parts t)
unfolding compared_entities
compared_parts ss (binary op a b) = refl
compared_parts ss t = refl

pub place_parts : (ss : Slots) (t : Term) → place_entities ss t ≡ of_parts (only (named_entity ss t)) listed_entities (set_parts t)
unfolding place_entities
place_parts ss (set_of ts) = refl
place_parts ss t = refl

pub named_parts : (ss : Slots) (t : Term) → named_entity ss t ≡ of_parts (literal_entity t) ss (slot_part t)
unfolding named_entity literal_entity
named_parts ss (slot i) = refl
named_parts ss (literal (entity_literal e)) = refl
named_parts ss t = refl

pub test_parts : (t : Term) → is_type_test t ≡ of_parts false (λ p. is_entity_variable p.0) (type_test_parts t)
unfolding is_type_test
test_parts (is_of_type e ty) = refl
test_parts t = refl

pub tested_type_parts : (t : Term) → asked_type t ≡ of_parts None (λ p. cond (is_entity_variable p.0) (Some p.1) None) (type_test_parts t)
unfolding asked_type
tested_type_parts (is_of_type e ty) = refl
tested_type_parts t = refl

-- where nothing is tested, for no type
no_type : (t : Term) → is_type_test t ≡ false → asked_type t ≡ None
unfolding is_type_test asked_type
no_type (is_of_type e ty) h = ap (λ b. cond b (Some ty) None) h
no_type t h = refl

-- another expression than a literal is no entity, and not `true`; another than a variable stands for no entity
pub no_entity : (t : Term) → IsNoLiteral t → literal_entity t ≡ None
unfolding literal_entity
no_entity (literal l) h = absurd (h l refl)
no_entity t h = refl

pub no_truth : (t : Term) → IsNoLiteral t → is_truth t ≡ false
unfolding is_truth
no_truth (literal l) h = absurd (h l refl)
no_truth t h = refl

pub no_variable : (t : Term) → IsNoVariable t → is_entity_variable t ≡ false
unfolding is_entity_variable
no_variable (variable x) h = absurd (h x refl)
no_variable t h = refl

-- ---- what was found

-- entities that were found, in other words
pub found_as : (r : Result (Option (Vec (Bor EntityUID) Global)) AllocError) (x y : Option (List EntityName)) → x ≡ y → IfOk r (λ o. names_found o ≡ x) → IfOk r (λ o. names_found o ≡ y)
found_as r x y e h = IfOk-weaker r _ _ (λ o k. k ∙ e) h

pub copied_name : (o : Option (Bor EntityUID)) → option_map (λ u. uid_name u.now) o ≡ option_map uid_name (option_copied o)
copied_name None = refl
copied_name (Some u) = refl

-- these, before others that are there
abbrev pub behind : List EntityName → Option (List EntityName) → Option (List EntityName)
behind es o = option_map (λ ds. es ++ ds) o

pub behind_none : (o : Option (List EntityName)) → behind [] o ≡ o
behind_none None = refl
behind_none (Some ds) = refl

behind_more : (es : List EntityName) (e : EntityName) (o : Option (List EntityName)) → behind es (in_front (Some e) o) ≡ behind (es ++ e ∷ []) o
behind_more es e None = refl
behind_more es e (Some ds) = ap (λ (xs : List EntityName). Some xs) (sym (append_assoc es (e ∷ []) ds))

module _ (all ts rest : Terms) (t : Term) (es : List EntityName) (o : Option EntityName) (first : ts ≡ one_term t rest) (here : o ≡ literal_entity t) (before : behind es (listed_entities ts) ≡ listed_entities all) where
  -- the entities that are left, behind those that were found
  listed_here : behind es (in_front o (listed_entities rest)) ≡ listed_entities all
  unfolding listed_entities
  listed_here =
      ap (λ (x : Option EntityName). behind es (in_front x (listed_entities rest))) here ∙ sym (ap (λ (x : Terms). behind es (listed_entities x)) first) ∙ before

  pub listed_more : (e : EntityName) → o ≡ Some e → behind (es ++ e ∷ []) (listed_entities rest) ≡ listed_entities all
  listed_more e is =
      sym (behind_more es e (listed_entities rest)) ∙ sym (ap (λ (x : Option EntityName). behind es (in_front x (listed_entities rest))) is) ∙ listed_here

  pub listed_other : o ≡ None → None ≡ listed_entities all
  listed_other is =
      sym (ap (λ (x : Option EntityName). behind es (in_front x (listed_entities rest))) is) ∙ listed_here

pub listed_all : (all ts : Terms) (es : List EntityName) → ts ≡ no_terms → behind es (listed_entities ts) ≡ listed_entities all → Some es ≡ listed_entities all
unfolding listed_entities
listed_all all ts es none before =
    ap (λ (xs : List EntityName). Some xs) (sym (append-nil es)) ∙ sym (ap (λ (x : Terms). behind es (listed_entities x)) none) ∙ before

-- ---- the type that is asked for

and_parts_of : (a b : Bool) → (a && b) ≡ true → (a ≡ true) × (b ≡ true)
and_parts_of true true h = (refl, refl)
and_parts_of true false h = absurd (cc)
and_parts_of false b h = absurd (cc)

none_there : {A : Type 0} (o : Option A) → is_some o ≡ false → o ≡ None
none_there (Some x) h = absurd (cc)
none_there None h = refl

not_true : (b : Bool) → not b ≡ true → b ≡ false
not_true true h = sym h
not_true false h = refl

told_too : (a b c : Bool) → (a || b) ≡ true → (a || (b || c)) ≡ true
told_too true b c h = refl
told_too false true c h = refl
told_too false false c h = absurd (cc)

not_told : (a b c : Bool) → (a || b) ≡ false → c ≡ false → (a || (b || c)) ≡ false
not_told true b c h g = h
not_told false true c h g = h
not_told false false c h g = g

-- of three types the third is taken, or else the first, or else the second
one_type : (o : Option (Bor EntityType)) (x y z : Option Text) → type_found o ≡ first_type z (first_type x y)
    → MatchOption o (not (is_some x || (is_some y || is_some z)) ≡ true) (λ t. (x ≡ Some (type_text t.now)) ⊎ ((y ≡ Some (type_text t.now)) ⊎ (z ≡ Some (type_text t.now))))
one_type (Some t) x y (Some w) h = inr (inr (sym h))
one_type (Some t) (Some u) y None h = inl (sym h)
one_type (Some t) None y None h = inr (inl (sym h))
one_type None x y (Some w) h = absurd (none_is_not_some h)
one_type None (Some u) y None h = absurd (none_is_not_some h)
one_type None None (Some v) None h = absurd (none_is_not_some h)
one_type None None None None h = refl

-- a constraint that is a boolean, and asks for no entity
abbrev pub is_bool : Term → Bool
is_bool t = is_truth t || is_type_test t

module _ (p : PolicyView) (o : Option (Bor EntityType)) (none : asks_for_no_entity p ≡ true) where
  abbrev Tells : Type 0
  Tells = MatchOption o (asks_for_no_type p ≡ true) (λ t. IsBoundToType p (type_text t.now))

  no_bounds : (is_some (principal_bound p) ≡ false) × ((is_some (action_bound p) ≡ false) × (is_some (resource_bound p) ≡ false))
  no_bounds =
      let all = or_parts (is_some (principal_bound p)) (is_some (action_bound p) || is_some (resource_bound p)) (not_true _ none) in
      (all.0, or_parts (is_some (action_bound p)) (is_some (resource_bound p)) all.1)

  found : type_found o ≡ first_type (resource_type_bound p) (first_type (principal_type_bound p) (action_type_bound p)) → Tells
  found h = one_type o (principal_type_bound p) (action_type_bound p) (resource_type_bound p) h

  told : (t : Term) → is_bool t ≡ true → is_told p.slots t ≡ true
  told t h = told_too (is_truth t) (is_type_test t) (is_some (asked_entities p.slots t)) h

  -- where both constraints before it are booleans
  pub found_of_three : (is_bool p.principal_constraint && is_bool p.action_constraint) ≡ true
      → type_found o ≡ first_type (asked_type p.resource_constraint) (first_type (asked_type p.principal_constraint) (asked_type p.action_constraint)) → Tells
  found_of_three h e =
      let both = and_parts_of (is_bool p.principal_constraint) (is_bool p.action_constraint) h in
      let x = told p.principal_constraint both.0 in
      let y = told p.action_constraint both.1 in
      let of_action : action_type_bound p ≡ asked_type p.action_constraint = ap (λ b. cond b (asked_type p.action_constraint) None) x in
      let of_resource : resource_type_bound p ≡ asked_type p.resource_constraint =
      ap (λ b. cond (b && is_told p.slots p.action_constraint) (asked_type p.resource_constraint) None) x ∙ ap (λ b. cond b (asked_type p.resource_constraint) None) y in
      found (e ∙ sym (λ i. first_type (of_resource i) (first_type (principal_type_bound p) (of_action i))))

  first_alone : (x y z : Option Text) → y ≡ None → z ≡ None → first_type z (first_type x y) ≡ x
  first_alone (Some t) y z f g = ap (λ (w : Option Text). first_type w (Some t)) g
  first_alone None y z f g = (λ i. first_type (g i) (f i))

  nothing_behind : (t u : Term) → (b : Bool) → b ≡ false → cond b (asked_type u) None ≡ None
  nothing_behind t u b h = ap (λ c. cond c (asked_type u) None) h

  -- where one is not, the type of the principal is taken
  pub found_of_first : (is_bool p.principal_constraint && is_bool p.action_constraint) ≡ false → type_found o ≡ asked_type p.principal_constraint → Tells
  found_of_first h e = by (is_bool p.principal_constraint) refl (is_bool p.action_constraint) refl h
    where
      only_first : action_type_bound p ≡ None → resource_type_bound p ≡ None → Tells
      only_first f g =
          found (e ∙ sym (first_alone (principal_type_bound p) (action_type_bound p) (resource_type_bound p) f g))

      by : (b : Bool) → is_bool p.principal_constraint ≡ b → (c : Bool) → is_bool p.action_constraint ≡ c → (b && c) ≡ false → Tells
      by false f c g k =
          let first : is_told p.slots p.principal_constraint ≡ false = not_told _ _ _ f no_bounds.0 in
          only_first (ap (λ b. cond b (asked_type p.action_constraint) None) first)
          (ap (λ b. cond (b && is_told p.slots p.action_constraint) (asked_type p.resource_constraint) None) first)
      by true f false g k =
          let first : is_told p.slots p.principal_constraint ≡ true = told p.principal_constraint f in
          let no_entity : asked_entities p.slots p.action_constraint ≡ None =
          sym (ap (λ b. cond b (asked_entities p.slots p.action_constraint) None) first) ∙ none_there (action_bound p) no_bounds.1.0 in
          let second : is_told p.slots p.action_constraint ≡ false = not_told _ _ _ g (ap (λ (x : Option (List EntityName)). is_some x) no_entity) in
          only_first
          (ap (λ b. cond b (asked_type p.action_constraint) None) first ∙ no_type p.action_constraint ((or_parts (is_truth p.action_constraint) (is_type_test p.action_constraint) g).1))
          (ap (λ b. cond (b && is_told p.slots p.action_constraint) (asked_type p.resource_constraint) None) first ∙ ap (λ b. cond b (asked_type p.resource_constraint) None) second)
      by true f true g k = absurd (cc)
