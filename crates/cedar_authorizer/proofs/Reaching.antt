-- A policy whose scope asks for none of the entities that a request covers, or for a type that none is of, is false.
use Rattle.std.specs.Prelude.{◌≡◌, ℕ, suc, ◌-◌, ◌≤◌, Bool, true, false, cond, ◌||◌, ◌&&◌, List, [], ◌∷◌, ◌++◌, map, Option, Some, None, Ok, is_some, codes}
use Rattle.std.proofs.Common.{inl, inr, refl, sym, ap, ◌∙◌, subst, arith}
use Rattle.std.proofs.lemmas.Bool.{and_parts, or_parts, or_from}
use Rattle.cedar_model.specs.Terms.{Text, EntityName, bool_literal, entity_literal, Variable, principal, action, resource, context}
use Rattle.cedar_model.specs.Terms.{Term, literal, variable, slot, both, binary, BinaryOperator, eq_operator, in_operator}
use Rattle.cedar_model.specs.Terms.{is_of_type, set_of, Terms, no_terms, one_term}
use Rattle.cedar_model.specs.Values.{plain, Represented, plain_represented, set_represented, RepresentedValues, no_represented, one_represented, abstract_value, abstract_values}
use Rattle.cedar_model.specs.Sets.{canonical_set}
use Rattle.cedar_model.specs.Outcomes.{bool_of, entity_of, text_eq, entity_eq}
use Rattle.cedar_model.specs.Keys.{value_eq}
use Rattle.cedar_model.specs.lemmas.Keys.{value_eq-true}
use Rattle.cedar_model.specs.Meaning.{add_entity, entities_of_set, entities_of, some_entity}
use Rattle.cedar_model.specs.Failures.{Failure, PartialValue, value, Answer, answers, answers_bool, answers_value}
use Rattle.cedar_model.specs.Settings.{Entry, known_entry, unknown_entry, Store, StoredEntity, Resolution, shallow, deep, Setting, Found, found, not_there, not_known, look_up, is_among, entry_part, variable_part}
use Rattle.cedar_model.specs.Operators.{slot_answer, binary_answer, binary_residual, in_found, expecting}
use Rattle.cedar_model.specs.Rules.{MayAnswer, Resolves, StoredCalls, Runs, Parts, joined, bool_or_failure, binary_of_parts, binary_beside, beside_residual, is_part, part_then, add_value, values_of_parts, set_answer, set_of_parts}
use Rattle.cedar_model.specs.Responses.{with_slots}
use Rattle.cedar_requests.specs.Requests.{entry_name}
use Rattle.cedar_layers.specs.declared.policies.policy.Policy as layers
use Rattle.cedar_layers.specs.Policies.{PolicyView, policy_view, condition_term, decides_as}
use Rattle.cedar_layers.specs.Scopes.{is_entity_variable, literal_entity, in_front, listed_entities, only, named_entity, place_entities, sought_entities, compared_entities, is_type_test, asked_type, asked_entities, is_truth, is_told}
use Rattle.cedar_layers.specs.Scopes.{IsBoundTo, IsBoundToType, have_common, is_type_among, IsBoundElsewhere, AreAllBut, AreWithinReach}
use Rattle.cedar_layers.proofs.Placing.{one_asked, is_false}
use Rattle.cedar_authorizer.specs.Reaching.{IsFoundCovered, IsEntityCovered, IsEntryCovered, AreCovered, IsCoveredBy, Covers}
use Rattle.cedar_authorizer.specs.Telling.{IsFalse, deciding_these}
use Rattle.cedar_model.proofs.Injections.{some_inj, none_is_not_some, false_is_not_true, true_is_not_false}
use Rattle.cedar_model.proofs.RestrictedAnswers.{AllSuch, EachSuch, set_such}
use Rattle.cedar_names.specs.EqualityLaws.{entity_eq-decides}
use Rattle.cedar_names.proofs.Among.{is_among-before, is_among-behind, is_among-self}

-- ---- what a scope's part is

is_literal_of : (t : Term) (e : EntityName) → literal_entity t ≡ Some e → t ≡ literal (entity_literal e)
unfolding literal_entity
is_literal_of (literal (entity_literal d)) e h = ap (λ x. literal (entity_literal x)) (some_inj h)
is_literal_of t e h = absurd (none_is_not_some h)

-- principal, action or resource
IsOfRequest : Variable → Type 0
IsOfRequest principal = Unit {0}
IsOfRequest action = Unit {0}
IsOfRequest resource = Unit {0}
IsOfRequest context = ⊥

is_variable : (t : Term) → is_entity_variable t ≡ true → (x : Variable) × (t ≡ variable x) × IsOfRequest x
unfolding is_entity_variable IsOfRequest
is_variable (variable principal) h = (principal, refl, tt)
is_variable (variable action) h = (action, refl, tt)
is_variable (variable resource) h = (resource, refl, tt)
is_variable t h = absurd (false_is_not_true h)

is_truth_of : (t : Term) → is_truth t ≡ true → t ≡ literal (bool_literal true)
unfolding is_truth
is_truth_of (literal (bool_literal b)) h = ap (λ x. literal (bool_literal x)) h
is_truth_of t h = absurd (false_is_not_true h)

only_one : (o : Option EntityName) (ds : List EntityName) → only o ≡ Some ds → (e : EntityName) × (o ≡ Some e) × (ds ≡ e ∷ [])
only_one (Some e) ds h = (e, refl, sym (some_inj h))
only_one None ds h = absurd (none_is_not_some h)

-- ---- entities that are none of those covered

abbrev uid_value : EntityName → Represented
uid_value e = plain_represented (entity_literal e)

module _ (es ds : List EntityName) where
  -- it is none of the first, where none of the second is
  abbrev IsApart : EntityName → Type 0
  IsApart e = have_common ds es ≡ false → is_among e es ≡ false

  abbrev AreApart : List EntityName → Type 0
  AreApart [] = Unit {0}
  AreApart (c ∷ cs) = IsApart c × AreApart cs

  each_apart : (cs : List EntityName) → (have_common ds es ≡ false → have_common cs es ≡ false) → AreApart cs
  each_apart [] h = tt
  each_apart (c ∷ cs) h = (
    λ none. (or_parts (is_among c es) (have_common cs es) (h none)).0,
    each_apart cs (λ none. (or_parts (is_among c es) (have_common cs es) (h none)).1),
  )

  -- a test that fails of what is none of the first fails of such
  none_passes : (test : EntityName → Bool) (cs : List EntityName) → ((e : EntityName) → is_among e es ≡ false → test e ≡ false) → have_common ds es ≡ false → AreApart cs → some_entity test cs ≡ false
  unfolding some_entity
  none_passes test [] so none h = refl
  none_passes test (c ∷ cs) so none h =
      or_from (test c) (some_entity test cs) (so c (h.0 none)) (none_passes test cs so none h.1)

  -- ---- what may stand to the right of `in`

  record IsPlace (v : Represented) : Type 0 where
    pub members : List EntityName
    pub are : entities_of (abstract_value v) ≡ Some members
    pub apart : AreApart members

  one_place : (e : EntityName) → ds ≡ e ∷ [] → IsPlace (uid_value e)
  unfolding entities_of
  one_place e same = record {
    members = e ∷ [];
    are = refl;
    apart = each_apart (e ∷ []) (λ none. ap (λ cs. have_common cs es) (sym same) ∙ none);
  }

  abbrev IsEntityApart : Represented → Type 0
  IsEntityApart v = (e : EntityName) × (v ≡ uid_value e) × IsApart e

  all_entities : (cs : List EntityName) → AreApart cs → AllSuch IsEntityApart (map uid_value cs)
  all_entities [] h = tt
  all_entities (c ∷ cs) h = ((c, refl, h.0), all_entities cs h.1)

  members_of : (vs : RepresentedValues) → EachSuch IsEntityApart vs → (cs : List EntityName) × (entities_of_set (abstract_values vs) ≡ Some cs) × AreApart cs
  unfolding entities_of_set add_entity entity_of
  members_of no_represented h = ([], refl, tt)
  members_of (one_represented v vs) ((e, is, apart), h) =
      let z = members_of vs h in
      (e ∷ z.0, λ i. add_entity (entity_of (abstract_value (is i))) (z.1 i), (apart, z.2))

  set_place : IsPlace (set_represented (canonical_set (map uid_value ds)))
  unfolding entities_of
  set_place =
      let all = all_entities ds (each_apart ds (λ none. none)) in
      let z = members_of (canonical_set (map uid_value ds)) (set_such IsEntityApart (map uid_value ds) all) in
      record { members = z.0; are = z.1; apart = z.2 }

-- ---- what a comparison answers

-- a boolean, which is false where none of these is among the first
record Tells (es ds : List EntityName) (a : Answer) : Type 0 where
  pub truth : Bool
  pub is : a ≡ answers_bool truth
  pub elsewhere : have_common ds es ≡ false → truth ≡ false

same_entity : {d e : EntityName} → plain (entity_literal d) ≡ plain (entity_literal e) → d ≡ e
same_entity h = cc

expected : (A : Type 0) (o : Option A) (x : A) (failure : Failure) (next : A → Answer) → o ≡ Some x → expecting o failure next ≡ next x
unfolding expecting
expected A o x failure next is = ap (λ z. expecting z failure next) is

module _ (es ds : List EntityName) (u : EntityName) (own : is_among u es ≡ true) where
  -- another entity
  apart : (e : EntityName) (b : Bool) → (b ≡ true → u ≡ e) → is_among e es ≡ false → b ≡ false
  apart e true same h = absurd (true_is_not_false own (ap (λ d. is_among d es) (same refl) ∙ h))
  apart e false same h = refl

  another : (e : EntityName) → is_among e es ≡ false → entity_eq u e ≡ false
  another e h = apart e (entity_eq u e) ((entity_eq-decides u e).0) h

  equals : (s : Setting) (e : EntityName) → ds ≡ e ∷ [] → Tells es ds (binary_answer s eq_operator (uid_value u) (uid_value e))
  unfolding binary_answer
  equals s e same = record {
    truth = value_eq (plain (entity_literal u)) (plain (entity_literal e));
    is = refl;
    elsewhere = λ none. apart e (value_eq (plain (entity_literal u)) (plain (entity_literal e))) (λ h. same_entity (value_eq-true _ _ h))
        ((or_parts (is_among e es) false (ap (λ cs. have_common cs es) (sym same) ∙ none)).0);
  }

  stands_in : (f : Found) (v : Represented) → IsFoundCovered es f → IsPlace es ds v → Tells es ds (in_found f u v)
  unfolding in_found
  stands_in (found d) v above place = record {
    truth = some_entity (λ e. entity_eq u e || is_among e d.ancestors) place.members;
    is = expected (List EntityName) _ place.members _ (λ cs. answers_bool (some_entity (λ e. entity_eq u e || is_among e d.ancestors) cs)) place.are;
    elsewhere = λ none. none_passes es ds (λ e. entity_eq u e || is_among e d.ancestors) place.members
        (λ e h. or_from (entity_eq u e) (is_among e d.ancestors) (another e h) (none_above e (is_among e d.ancestors) refl h)) none place.apart;
  }
    where
      none_above : (e : EntityName) (b : Bool) → is_among e d.ancestors ≡ b → is_among e es ≡ false → is_among e d.ancestors ≡ false
      none_above e true g h = absurd (true_is_not_false (above e g) h)
      none_above e false g h = g
  stands_in not_there v above place = record {
    truth = some_entity (entity_eq u) place.members;
    is = expected (List EntityName) _ place.members _ (λ cs. answers_bool (some_entity (entity_eq u) cs)) place.are;
    elsewhere = λ none. none_passes es ds (entity_eq u) place.members another none place.apart;
  }
  stands_in not_known v above place = absurd above

-- an entity is not of a type that none of these is of
not_of_type : (es : List EntityName) (u : EntityName) (t : Text) → is_among u es ≡ true → is_type_among t es ≡ false → text_eq u.type_name t ≡ false
not_of_type es u t own none =
    is_false (text_eq u.type_name t) (λ h. true_is_not_false (one_asked es (λ e. text_eq e.type_name t) u h own) none)

-- ---- what a variable stands for

module _ (s : Setting) (es : List EntityName) (covered : AreCovered s.request s.store es) where
  record IsKnownAs (x : Variable) : Type 0 where
    pub u : EntityName
    pub part : variable_part s.request x ≡ value (uid_value u)
    pub entity_covered : IsEntityCovered s.store es u

  of_entry : (x : Variable) (entry : Entry) (name : _) → variable_part s.request x ≡ entry_part entry name → IsEntryCovered s.store es entry → IsKnownAs x
  unfolding entry_part
  of_entry x (known_entry u) name e h = record { u = u; part = e; entity_covered = h }
  of_entry x (unknown_entry t) name e h = absurd h

  known_as : (x : Variable) → IsOfRequest x → IsKnownAs x
  unfolding IsOfRequest variable_part
  known_as principal h = of_entry principal s.request.principal_entry (codes "principal") refl covered.of_principal
  known_as action h = of_entry action s.request.action_entry (codes "action") refl covered.of_action
  known_as resource h = of_entry resource s.request.resource_entry (codes "resource") refl covered.of_resource
  known_as context h = absurd h

-- ---- how what is named runs

abbrev entity_parts : List EntityName → List PartialValue
entity_parts ds = map (λ d. value (uid_value d)) ds

entity_values : (ds : List EntityName) → values_of_parts (entity_parts ds) ≡ Some (map uid_value ds)
unfolding values_of_parts add_value
entity_values [] = refl
entity_values (d ∷ ds) = ap (add_value (value (uid_value d))) (entity_values ds)

set_of_entities : (ds : List EntityName) → answers_value (set_represented (canonical_set (map uid_value ds))) ≡ set_answer (Ok (entity_parts ds))
unfolding set_answer set_of_parts
set_of_entities ds = sym (ap (λ o. set_of_parts o (entity_parts ds)) (entity_values ds))

nothing_read : (May : MayAnswer) (q : Resolution) (o : Option Term) (b a : Answer) → o ≡ None → a ≡ b → Resolves May q o b a
nothing_read May shallow o b a none is = is
nothing_read May deep None b a none is = is
nothing_read May deep (Some t) b a none is = absurd (none_is_not_some (sym none))

module _ (s : Setting) (calls : StoredCalls) where
  literal_runs : (n : ℕ) (t : Term) (e : EntityName) → literal_entity t ≡ Some e → Runs s calls (suc n) t (answers_value (uid_value e))
  literal_runs n t e h = subst (λ x. Runs s calls (suc n) x (answers_value (uid_value e))) (sym (is_literal_of t e h)) refl

  named_runs : (n : ℕ) (t : Term) (e : EntityName) → named_entity s.slots t ≡ Some e → Runs s calls (suc n) t (answers_value (uid_value e))
  unfolding named_entity slot_answer
  named_runs n (literal (entity_literal d)) e h = ap (λ x. answers_value (uid_value x)) (sym (some_inj h))
  named_runs n (slot i) e h = ap (slot_answer i) (sym h)
  named_runs n t e h = absurd (none_is_not_some h)

  listed_run : (n : ℕ) (ts : Terms) (ds : List EntityName) → listed_entities ts ≡ Some ds → Parts (Runs s calls (suc n)) ts (Ok (entity_parts ds))
  unfolding listed_entities part_then
  listed_run n no_terms ds h = ap (λ cs. Ok (entity_parts cs)) (sym (some_inj h))
  listed_run n (one_term t ts) ds h = by (literal_entity t) refl (listed_entities ts) refl h (listed_run n ts)
    where
      by : (o : Option EntityName) → literal_entity t ≡ o → (l : Option (List EntityName)) → listed_entities ts ≡ l → in_front o l ≡ Some ds
          → ((cs : List EntityName) → listed_entities ts ≡ Some cs → Parts (Runs s calls (suc n)) ts (Ok (entity_parts cs)))
          → Parts (Runs s calls (suc n)) (one_term t ts) (Ok (entity_parts ds))
      by (Some e) f (Some cs) g k rest =
          (answers_value (uid_value e), literal_runs n t e f, (Ok (entity_parts cs), rest cs g, ap (λ z. Ok (entity_parts z)) (sym (some_inj k))))
      by (Some e) f None g k rest = absurd (none_is_not_some k)
      by None f l g k rest = absurd (none_is_not_some k)

  set_runs : (n : ℕ) (ts : Terms) (ds : List EntityName) → listed_entities ts ≡ Some ds → Runs s calls (suc (suc n)) (set_of ts) (answers_value (set_represented (canonical_set (map uid_value ds))))
  set_runs n ts ds h = (Ok (entity_parts ds), listed_run n ts ds h, set_of_entities ds)

  -- ---- comparisons

  module _ (es : List EntityName) where
    -- to the right of a comparison stands what makes it a boolean
    record IsSought (n : ℕ) (op : BinaryOperator) (t : Term) (ds : List EntityName) : Type 0 where
      pub right : Represented
      pub runs : Runs s calls (suc (suc n)) t (answers_value right)
      pub none_beside : (v : Represented) → beside_residual s.store op (value v) (answers_value right) ≡ None
      pub tells : (u : EntityName) → IsEntityCovered s.store es u → Tells es ds (binary_answer s op (uid_value u) right)

    in_place : (n : ℕ) (t : Term) (ds : List EntityName) (v : Represented) → Runs s calls (suc (suc n)) t (answers_value v) → IsPlace es ds v → IsSought n in_operator t ds
    unfolding beside_residual binary_residual binary_answer entity_of expecting
    in_place n t ds v runs place = record {
      right = v;
      runs = runs;
      none_beside = λ w. refl;
      tells = λ u c. stands_in es ds u c.own (look_up s.store u) v c.above place;
    }

    in_named : (n : ℕ) (t : Term) (ds : List EntityName) → only (named_entity s.slots t) ≡ Some ds → IsSought n in_operator t ds
    in_named n t ds h =
        let z = only_one (named_entity s.slots t) ds h in
        in_place n t ds (uid_value z.0) (named_runs (suc n) t z.0 z.1) (one_place es ds z.0 z.2)

    in_these : (n : ℕ) (t : Term) (ds : List EntityName) → place_entities s.slots t ≡ Some ds → IsSought n in_operator t ds
    unfolding place_entities
    in_these n (set_of ts) ds h =
        in_place n (set_of ts) ds (set_represented (canonical_set (map uid_value ds))) (set_runs n ts ds h) (set_place es ds)
    in_these n t ds h = in_named n t ds h

    is_named : (n : ℕ) (t : Term) (ds : List EntityName) → only (named_entity s.slots t) ≡ Some ds → IsSought n eq_operator t ds
    unfolding beside_residual binary_residual
    is_named n t ds h =
        let z = only_one (named_entity s.slots t) ds h in
        record {
          right = uid_value z.0;
          runs = named_runs (suc n) t z.0 z.1;
          none_beside = λ v. refl;
          tells = λ u c. equals es ds u c.own s z.0 z.2;
        }

    sought : (n : ℕ) (op : BinaryOperator) (t : Term) (ds : List EntityName) → sought_entities s.slots op t ≡ Some ds → IsSought n op t ds
    unfolding sought_entities
    sought n eq_operator t ds h = is_named n t ds h
    sought n in_operator t ds h = in_these n t ds h
    sought n op t ds h = absurd (none_is_not_some h)

  -- a variable beside what is to the right
  comparison_runs : (n : ℕ) (op : BinaryOperator) (x : Variable) (t : Term) (v w : Represented) (b : Bool) → variable_part s.request x ≡ value v
      → Runs s calls (suc n) t (answers_value w) → beside_residual s.store op (value v) (answers_value w) ≡ None → binary_answer s op v w ≡ answers_bool b
      → Runs s calls (suc (suc n)) (binary op (variable x) t) (answers_bool b)
  unfolding binary_beside binary_of_parts
  comparison_runs n op x t v w b part right none is = (
    answers_value v,
    sym (ap answers part),
    (
      answers_value w,
      right,
      nothing_read (Runs s calls (suc n)) s.resolution (beside_residual s.store op (value v) (answers_value w))
          (binary_answer s op v w) (answers_bool b) none (sym is),
    ),
  )

  -- ---- constraints

  false_left : (n : ℕ) (t u : Term) → Runs s calls n t (answers_bool false) → Runs s calls (suc n) (both t u) (answers_bool false)
  unfolding bool_of
  false_left n t u h = (answers_bool false, h, refl)

  true_left : (n : ℕ) (t u : Term) (b : Bool) → Runs s calls n t (answers_bool true) → Runs s calls n u (answers_bool b) → Runs s calls (suc n) (both t u) (answers_bool b)
  unfolding bool_of joined bool_or_failure
  true_left n t u b h g = (answers_bool true, h, (answers_bool b, g, refl))

  -- beside a boolean a false right side decides
  false_right : (n : ℕ) (t u : Term) (b : Bool) → Runs s calls n t (answers_bool b) → Runs s calls n u (answers_bool false) → Runs s calls (suc n) (both t u) (answers_bool false)
  false_right n t u true h g = true_left n t u false h g
  false_right n t u false h g = false_left n t u h

  truth_runs : (n : ℕ) (t : Term) → is_truth t ≡ true → Runs s calls (suc n) t (answers_bool true)
  truth_runs n t h = subst (λ z. Runs s calls (suc n) z (answers_bool true)) (sym (is_truth_of t h)) refl

  abbrev RunsAsBool : ℕ → Term → Type 0
  RunsAsBool n t = (b : Bool) × Runs s calls n t (answers_bool b)

  -- both are booleans, if the left one is true
  both_run : (n : ℕ) (t u : Term) → RunsAsBool n t → RunsAsBool n u → RunsAsBool (suc n) (both t u)
  both_run n t u (true, h) (b, g) = (b, true_left n t u b h g)
  both_run n t u (false, h) (b, g) = (false, false_left n t u h)

  module _ (es : List EntityName) (covered : AreCovered s.request s.store es) where
    test_runs : (n : ℕ) (t : Term) → is_type_test t ≡ true → RunsAsBool (suc (suc n)) t
    unfolding is_type_test is_part expecting entity_of
    test_runs n (is_of_type t name) h =
        let z = is_variable t h in
        let k = known_as s es covered z.0 z.2 in (
          text_eq k.u.type_name name,
          subst (λ x. Runs s calls (suc (suc n)) (is_of_type x name) (answers_bool (text_eq k.u.type_name name))) (sym z.1)
              (answers_value (uid_value k.u), sym (ap answers k.part), refl),
        )
    test_runs n t h = absurd (false_is_not_true h)

    -- a test for a type that none of those covered is of
    type_false : (n : ℕ) (t : Term) (ty : Text) → asked_type t ≡ Some ty → is_type_among ty es ≡ false → Runs s calls (suc (suc n)) t (answers_bool false)
    unfolding asked_type is_part expecting entity_of
    type_false n (is_of_type t name) ty h none = by (is_entity_variable t) refl h
      where
        by : (q : Bool) → is_entity_variable t ≡ q → cond q (Some name) None ≡ Some ty → Runs s calls (suc (suc n)) (is_of_type t name) (answers_bool false)
        by true f k =
            let z = is_variable t f in
            let v = known_as s es covered z.0 z.2 in
            let apart : text_eq v.u.type_name name ≡ false = ap (text_eq v.u.type_name) (some_inj k) ∙ not_of_type es v.u ty v.entity_covered.own none in
            subst (λ b. Runs s calls (suc (suc n)) (is_of_type t name) (answers_bool b)) apart
            (subst (λ x. Runs s calls (suc (suc n)) (is_of_type x name) (answers_bool (text_eq v.u.type_name name))) (sym z.1)
            (answers_value (uid_value v.u), sym (ap answers v.part), refl))
        by false f k = absurd (none_is_not_some k)
    type_false n t ty h none = absurd (none_is_not_some h)

    -- a boolean, which is false where none of these is covered
    record RunsAsAsked (n : ℕ) (t : Term) (ds : List EntityName) : Type 0 where
      pub truth : Bool
      pub runs : Runs s calls n t (answers_bool truth)
      pub elsewhere : have_common ds es ≡ false → truth ≡ false

    compared_runs : (n : ℕ) (t : Term) (ds : List EntityName) → compared_entities s.slots t ≡ Some ds → RunsAsAsked (suc (suc (suc n))) t ds
    unfolding compared_entities
    compared_runs n (binary op a b) ds h = by (is_entity_variable a) refl h
      where
        by : (q : Bool) → is_entity_variable a ≡ q → cond q (sought_entities s.slots op b) None ≡ Some ds → RunsAsAsked (suc (suc (suc n))) (binary op a b) ds
        by true f k =
            let z = is_variable a f in
            let v = known_as s es covered z.0 z.2 in
            let right = sought es n op b ds k in
            let tells = right.tells v.u v.entity_covered in
            record {
              truth = tells.truth;
              runs = subst (λ x. Runs s calls (suc (suc (suc n))) (binary op x b) (answers_bool tells.truth)) (sym z.1)
                  (comparison_runs (suc n) op z.0 b (uid_value v.u) right.right tells.truth v.part right.runs (right.none_beside (uid_value v.u)) tells.is);
              elsewhere = tells.elsewhere;
            }
        by false f k = absurd (none_is_not_some k)
    compared_runs n t ds h = absurd (none_is_not_some h)

    after_test : (n : ℕ) (t u : Term) (ds : List EntityName) → RunsAsBool n t → RunsAsAsked n u ds → RunsAsAsked (suc n) (both t u) ds
    after_test n t u ds (true, h) c = record { truth = c.truth; runs = true_left n t u c.truth h c.runs; elsewhere = c.elsewhere }
    after_test n t u ds (false, h) c = record { truth = false; runs = false_left n t u h; elsewhere = λ none. refl }

    asked_runs : (n : ℕ) (t : Term) (ds : List EntityName) → asked_entities s.slots t ≡ Some ds → RunsAsAsked (suc (suc (suc (suc n)))) t ds
    unfolding asked_entities
    asked_runs n (both t u) ds h = by (is_type_test t) refl h
      where
        by : (q : Bool) → is_type_test t ≡ q → cond q (compared_entities s.slots u) None ≡ Some ds → RunsAsAsked (suc (suc (suc (suc n)))) (both t u) ds
        by true f k = after_test (suc (suc (suc n))) t u ds (test_runs (suc n) t f) (compared_runs n u ds k)
        by false f k = absurd (none_is_not_some k)
    asked_runs n t ds h = compared_runs (suc n) t ds h

    asked_false : (n : ℕ) (t : Term) (ds : List EntityName) → asked_entities s.slots t ≡ Some ds → have_common ds es ≡ false → Runs s calls (suc (suc (suc (suc n)))) t (answers_bool false)
    asked_false n t ds h none =
        let z = asked_runs n t ds h in
        subst (λ b. Runs s calls (suc (suc (suc (suc n)))) t (answers_bool b)) (z.elsewhere none) z.runs

    told_runs : (n : ℕ) (t : Term) → is_told s.slots t ≡ true → RunsAsBool (suc (suc (suc (suc n)))) t
    told_runs n t h = by (is_truth t) refl (is_type_test t) refl (asked_entities s.slots t) refl h
      where
        by : (p : Bool) → is_truth t ≡ p → (q : Bool) → is_type_test t ≡ q → (o : Option (List EntityName)) → asked_entities s.slots t ≡ o → (p || (q || is_some o)) ≡ true
            → RunsAsBool (suc (suc (suc (suc n)))) t
        by true d q e o f k = (true, truth_runs (suc (suc (suc n))) t d)
        by false d true e o f k = test_runs (suc (suc n)) t e
        by false d false e (Some ds) f k = let z = asked_runs n t ds f in (z.truth, z.runs)
        by false d false e None f k = absurd (false_is_not_true k)

-- ---- scopes

module _ (s : Setting) (calls : StoredCalls) (es : List EntityName) (covered : AreCovered s.request s.store es) (n : ℕ) (p : PolicyView) where
  -- the setting in which the policy runs
  abbrev own : Setting
  own = with_slots s p.slots

  abbrev part_levels : ℕ
  part_levels = suc (suc (suc (suc n)))

  abbrev scope_levels : ℕ
  scope_levels = suc (suc (suc part_levels))

  abbrev pair : Term
  pair = both p.principal_constraint p.action_constraint

  abbrev scope : Term
  scope = both pair p.resource_constraint

  abbrev Fails : Type 0
  Fails = Runs own calls scope_levels (condition_term p) (answers_bool false)

  -- the scope is false, or its first two parts are
  by_scope : Runs own calls (suc (suc part_levels)) scope (answers_bool false) → Fails
  by_scope h = false_left own calls (suc (suc part_levels)) scope p.when_clause h

  by_pair : Runs own calls (suc part_levels) pair (answers_bool false) → Fails
  by_pair h = by_scope (false_left own calls (suc part_levels) pair p.resource_constraint h)

  -- a constraint is false, and those before it are booleans
  by_principal : Runs own calls part_levels p.principal_constraint (answers_bool false) → Fails
  by_principal h = by_pair (false_left own calls part_levels p.principal_constraint p.action_constraint h)

  by_action : is_told p.slots p.principal_constraint ≡ true → Runs own calls part_levels p.action_constraint (answers_bool false) → Fails
  by_action told h =
      let z = told_runs own calls es covered n p.principal_constraint told in
      by_pair (false_right own calls part_levels p.principal_constraint p.action_constraint z.0 z.1 h)

  by_resource : is_told p.slots p.principal_constraint ≡ true → is_told p.slots p.action_constraint ≡ true → Runs own calls (suc part_levels) p.resource_constraint (answers_bool false) → Fails
  by_resource told too h =
      let z =
      both_run own calls part_levels p.principal_constraint p.action_constraint (told_runs own calls es covered n p.principal_constraint told)
      (told_runs own calls es covered n p.action_constraint too) in
      by_scope (false_right own calls (suc part_levels) pair p.resource_constraint z.0 z.1 h)

  if_told : {A : Type 0} (b : Bool) (o : Option A) (x : A) → cond b o None ≡ Some x → (b ≡ true) × (o ≡ Some x)
  if_told true o x h = (refl, h)
  if_told false o x h = absurd (none_is_not_some h)

  bound_is_false : (ds : List EntityName) → have_common ds es ≡ false → IsBoundTo p ds → Fails
  bound_is_false ds none (inl h) = by_principal (asked_false own calls es covered n p.principal_constraint ds h none)
  bound_is_false ds none (inr (inl h)) =
      let z = if_told (is_told p.slots p.principal_constraint) (asked_entities p.slots p.action_constraint) ds h in
      by_action z.0 (asked_false own calls es covered n p.action_constraint ds z.1 none)
  bound_is_false ds none (inr (inr h)) =
      let z = if_told (is_told p.slots p.principal_constraint && is_told p.slots p.action_constraint) (asked_entities p.slots p.resource_constraint) ds h in
      let y = and_parts (is_told p.slots p.principal_constraint) (is_told p.slots p.action_constraint) z.0 in
      by_resource y.0 y.1 (asked_false own calls es covered (suc n) p.resource_constraint ds z.1 none)

  bound_to_type_is_false : (t : Text) → is_type_among t es ≡ false → IsBoundToType p t → Fails
  bound_to_type_is_false t none (inl h) =
      by_principal (type_false own calls es covered (suc (suc n)) p.principal_constraint t h none)
  bound_to_type_is_false t none (inr (inl h)) =
      let z = if_told (is_told p.slots p.principal_constraint) (asked_type p.action_constraint) t h in
      by_action z.0 (type_false own calls es covered (suc (suc n)) p.action_constraint t z.1 none)
  bound_to_type_is_false t none (inr (inr h)) =
      let z = if_told (is_told p.slots p.principal_constraint && is_told p.slots p.action_constraint) (asked_type p.resource_constraint) t h in
      let y = and_parts (is_told p.slots p.principal_constraint) (is_told p.slots p.action_constraint) z.0 in
      by_resource y.0 y.1 (type_false own calls es covered (suc (suc (suc n))) p.resource_constraint t z.1 none)

  elsewhere_fails : IsBoundElsewhere es p → Fails
  elsewhere_fails (inl h) = bound_is_false h.0 h.2 h.1
  elsewhere_fails (inr h) = bound_to_type_is_false h.0 h.2 h.1

-- ---- policies that are left out

pub elsewhere_is_false : (s : Setting) (calls : StoredCalls) (levels : ℕ) (es : List EntityName) → 7 ≤ levels → AreCovered s.request s.store es → (p : PolicyView) → IsBoundElsewhere es p → IsFalse s calls levels (decides_as p)
elsewhere_is_false s calls levels es enough covered p bound =
    let same : suc (suc (suc (suc (suc (suc (suc (levels - 7))))))) ≡ levels = omega (arith, enough) in
    subst (λ n. Runs (with_slots s p.slots) calls n (condition_term p) (answers_bool false)) same
    (elsewhere_fails s calls es covered (levels - 7) p bound)

pub others_false : (s : Setting) (calls : StoredCalls) (levels : ℕ) (es : List EntityName) → 7 ≤ levels → AreCovered s.request s.store es → (ps qs : List layers.Policy) → AreWithinReach es ps qs → AreAllBut (IsFalse s calls levels) (deciding_these ps) (deciding_these qs)
others_false s calls levels es enough covered [] qs h = ap deciding_these h
others_false s calls levels es enough covered (p ∷ ps) qs (inl h) =
    inl (elsewhere_is_false s calls levels es enough covered (policy_view p) h.0, others_false s calls levels es enough covered ps qs h.1)
others_false s calls levels es enough covered (p ∷ ps) qs (inr h) =
    inr (deciding_these h.0, ap deciding_these h.1, others_false s calls levels es enough covered ps h.0 h.2)

-- ---- entities that are covered

last_one : (u : EntityName) (ds : List EntityName) → is_among u (ds ++ u ∷ []) ≡ true
last_one u ds = is_among-behind u ds (u ∷ []) (is_among-self u [])

extended : (e : EntityName) (old more new : List EntityName) → new ≡ old ++ more → is_among e old ≡ true → is_among e new ≡ true
extended e old more new same h = ap (is_among e) same ∙ is_among-before e old more h

-- the entity is there, and all that it is in
pub covers_found : (u : EntityName) (store : Store) (d : StoredEntity) (old mid new : List EntityName) → found d ≡ look_up store u → mid ≡ old ++ u ∷ [] → new ≡ mid ++ d.ancestors → IsCoveredBy u store old new true
covers_found u store d old mid new e m n = (
  λ v h. extended v mid d.ancestors new n (extended v old (u ∷ []) mid m h),
  λ h. record {
    own = extended u mid d.ancestors new n (ap (is_among u) m ∙ last_one u old);
    above = subst (IsFoundCovered new) e (λ v g. ap (is_among v) n ∙ is_among-behind v mid d.ancestors g);
  },
)

-- there is no such entity
pub covers_alone : (u : EntityName) (store : Store) (old new : List EntityName) → not_there ≡ look_up store u → new ≡ old ++ u ∷ [] → IsCoveredBy u store old new true
covers_alone u store old new e n = (
  λ v h. extended v old (u ∷ []) new n h,
  λ h. record { own = ap (is_among u) n ∙ last_one u old; above = subst (IsFoundCovered new) e tt },
)

-- of a known entry
pub covers_entry : (u : EntityName) (entry : Entry) (store : Store) (old new : List EntityName) (b : Bool) → Some u ≡ entry_name entry → IsCoveredBy u store old new b → Covers entry store old new b
covers_entry u (known_entry d) store old new b e h = subst (λ x. IsCoveredBy x store old new b) (some_inj e) h
covers_entry u (unknown_entry t) store old new b e h = absurd (none_is_not_some (sym e))
