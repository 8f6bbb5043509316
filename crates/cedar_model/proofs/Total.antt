-- At each level there is an answer, where the functions that exist answer. Written so that it computes, for the
-- examples.
use Rattle.std.specs.Prelude.{◌≡◌, ℕ, zero, suc, ◌==◌, Bool, true, false, List, [], ◌∷◌, length, Option, Some, None}
use Rattle.std.specs.Prelude.{Result, Ok, Err}
use Rattle.std.proofs.Common.{refl, ap, ◌∙◌, sym}
use Rattle.std.proofs.lemmas.Bool.{eqb-true}
use Rattle.cedar_model.specs.Terms.{Text, bool_literal, BinaryOperator, Term, literal, variable, slot, unknown}
use Rattle.cedar_model.specs.Terms.{if_then_else, both, either, unary, binary, call, get_attribute, has_attribute}
use Rattle.cedar_model.specs.Terms.{extended_has, like, is_of_type, set_of, record_of, Terms, no_terms, one_term}
use Rattle.cedar_model.specs.Terms.{Fields, no_fields, one_field}
use Rattle.cedar_model.specs.Values.{Represented, abstract_value}
use Rattle.cedar_model.specs.Shapes.{is_projectable}
use Rattle.cedar_model.specs.Outcomes.{bool_of}
use Rattle.cedar_model.specs.Failures.{Failure, PartialValue, value, residual, Answer, answers, answers_bool, fails}
use Rattle.cedar_model.specs.Failures.{function_is_missing, arguments_are_miscounted, limit}
use Rattle.cedar_model.specs.Settings.{Resolution, shallow, deep, Setting}
use Rattle.cedar_model.specs.Operators.{term_at, key_is_missing, field_names, attribute_answer, Walk}
use Rattle.cedar_model.specs.Operators.{walks_on, stops, walk_in, last_in, container_of, container_expected}
use Rattle.cedar_model.specs.Operators.{attribute_residual}
use Rattle.cedar_model.specs.Rules
use Rattle.cedar_model.specs.laws.Levels.{FunctionsAnswer}
use Rattle.cedar_model.proofs.RecordParts.{projectable_part}
use Rattle.cedar_model.proofs.Resolving.{IsStored, attribute_is_stored, beside_is_stored}

-- a right count is the function's number of arguments
pub counted : (o : Option ℕ) (m n : ℕ) → o ≡ Some n → (m == n) ≡ true → o ≡ Some m
counted o m n e h = e ∙ ap Some (sym (eqb-true m n h))

module _ (s : Setting) (calls : Rules.StoredCalls) (callable : FunctionsAnswer calls s.extensions.arity) where
  -- a layer, from what the parts answer
  module _ (G : Rules.MayAnswer) where
    abbrev pub Found : Term → Type 0
    Found t = (a : Answer) × G t a

    abbrev pub FoundEach : Terms → Type 0
    FoundEach ts = (r : Result (List PartialValue) Failure) × Rules.Parts G ts r

    abbrev pub FoundEachAt : Fields → Type 0
    FoundEachAt fs = (r : Result (List (Text × PartialValue)) Failure) × Rules.FieldParts G fs r

    -- a projectable part of a record has an answer
    abbrev pub FoundProjected : Type 0
    FoundProjected = (t : Term) → is_projectable t ≡ true → Found t

    abbrev pub FoundBy : Term → Type 0
    FoundBy t = (a : Answer) × Rules.Rule s calls G t a

    abbrev best_total : (b : Rules.Best) (Next : Term → Answer → Type 0) → ((t : Term) → (a : Answer) × Next t a) →
        (a : Answer) × Rules.AfterBest b Next a
    best_total (Rules.kept t) Next f = f t
    best_total (Rules.handed_up e) Next f = (fails e, refl)

    abbrev takes_total : (b : Option Bool) (v : Represented) (t e : Term) → Found t → Found e → (a : Answer) ×
        Rules.TakesBranch G b v t e a
    takes_total None v t e x y = (Rules.bool_expected v, refl)
    takes_total (Some true) v t e x y = x
    takes_total (Some false) v t e x y = y

    abbrev right_total : (h : Term → Term) (t : Term) → Found t → (a : Answer) × Rules.ReadsRight G h t a
    right_total h t x = (Rules.joined h x.0, (x.0, x.1, refl))

    abbrev second_branch : (r t' e : Term) → Found e → (a : Answer) × ((y : Answer) × G e y ×
        Rules.AfterBest (Rules.best y e) (λ e' c. c ≡ answers (residual (if_then_else r t' e'))) a)
    second_branch r t' e y =
        let k =
        best_total (Rules.best y.0 e) (λ e' c. c ≡ answers (residual (if_then_else r t' e')))
        (λ e'. (answers (residual (if_then_else r t' e')), refl)) in
        (k.0, (y.0, y.1, k.1))

    abbrev branches_total : (r t e : Term) → Found t → Found e → (a : Answer) × Rules.KeepsBranches G r t e a
    branches_total r t e x y =
        let k =
        best_total (Rules.best x.0 t) (λ t' b. (y : Answer) × G e y ×
        Rules.AfterBest (Rules.best y e) (λ e' c. c ≡ answers (residual (if_then_else r t' e'))) b)
        (λ t'. second_branch r t' e y) in
        (k.0, (x.0, x.1, k.1))

    abbrev guard_total : (c : Answer) (t e : Term) → Found t → Found e → (a : Answer) × Rules.Then c (Rules.AfterGuard G t e) a
    guard_total (fails f) t e x y = (fails f, refl)
    guard_total (answers (value v)) t e x y = takes_total (bool_of (abstract_value v)) v t e x y
    guard_total (answers (residual r)) t e x y = branches_total r t e x y

    abbrev kept_total : (h : Term → Term) (t : Term) → Found t → (a : Answer) × Rules.KeepsRight G h t a
    kept_total h t x =
        let k =
        best_total (Rules.best x.0 t) (λ t' b. b ≡ answers (residual (h t'))) (λ t'. (
          answers (residual (h t')),
          refl,
        )) in
        (k.0, (x.0, x.1, k.1))

    abbrev and_bool_total : (b : Option Bool) (v : Represented) (t : Term) → Found t → (a : Answer) ×
        Rules.AndLeft G b v t a
    and_bool_total None v t x = (Rules.bool_expected v, refl)
    and_bool_total (Some true) v t x = right_total (both (literal (bool_literal true))) t x
    and_bool_total (Some false) v t x = (answers_bool false, refl)

    abbrev and_total : (c : Answer) (t : Term) → Found t → (a : Answer) × Rules.Then c (Rules.AfterAndLeft G t) a
    and_total (fails e) t x = (fails e, refl)
    and_total (answers (value v)) t x = and_bool_total (bool_of (abstract_value v)) v t x
    and_total (answers (residual r)) t x = kept_total (both r) t x

    abbrev or_bool_total : (b : Option Bool) (v : Represented) (t : Term) → Found t → (a : Answer) ×
        Rules.OrLeft G b v t a
    or_bool_total None v t x = (Rules.bool_expected v, refl)
    or_bool_total (Some true) v t x = (answers_bool true, refl)
    or_bool_total (Some false) v t x = right_total (either (literal (bool_literal false))) t x

    abbrev or_total : (c : Answer) (t : Term) → Found t → (a : Answer) × Rules.Then c (Rules.AfterOrLeft G t) a
    or_total (fails e) t x = (fails e, refl)
    or_total (answers (value v)) t x = or_bool_total (bool_of (abstract_value v)) v t x
    or_total (answers (residual r)) t x = kept_total (either r) t x

    -- a stored residual that is read has an answer
    abbrev pub FoundStored : Type 0
    FoundStored = (t : Term) → s.resolution ≡ deep → IsStored s.store t → Found t

    abbrev resolves_total : (r : Resolution) (o : Option Term) (b : Answer) → ((t : Term) → r ≡ deep → o ≡ Some t →
        Found t) → (a : Answer) × Rules.Resolves G r o b a
    resolves_total shallow o b f = (b, refl)
    resolves_total deep None b f = (b, refl)
    resolves_total deep (Some t) b f = f t refl refl

    abbrev left_total : FoundStored → (op : BinaryOperator) (c : Answer) (t : Term) → Found t → (a : Answer) ×
        Rules.Then c (Rules.AfterLeft G s op t) a
    left_total st op (fails e) t x = (fails e, refl)
    left_total st op (answers p) t x =
        let k =
        resolves_total s.resolution (Rules.beside_residual s.store op p x.0) (Rules.binary_beside s op p x.0)
        (λ r h e. st r h (beside_is_stored s.store op p x.0 r e)) in
        (k.0, (x.0, x.1, k.1))

    abbrev projects_total : FoundProjected → (b : Bool) (r : Term) (k : Text) (part : Term) →
        (b ≡ true → is_projectable part ≡ true) → (a : Answer) × Rules.Projects G b r k part a
    projects_total pr true r k part h = pr part (h refl)
    projects_total pr false r k part h = (answers (residual (get_attribute r k)), refl)

    abbrev at_key_total : FoundProjected → (o : Option Term) (fs : Fields) (r : Term) (k : Text) →
        ((part : Term) → o ≡ Some part → is_projectable r ≡ true → is_projectable part ≡ true) → (a : Answer) ×
        Rules.AtKey G o fs r k a
    at_key_total pr None fs r k h = (fails (key_is_missing k (field_names fs)), refl)
    at_key_total pr (Some part) fs r k h = projects_total pr (is_projectable r) r k part (h part refl)

    abbrev at_fields_total : FoundProjected → (o : Option Fields) (r : Term) (k : Text) →
        Rules.fields_of_record r ≡ o → (a : Answer) × Rules.AtFields G o r k a
    at_fields_total pr None r k h = (answers (residual (get_attribute r k)), refl)
    at_fields_total pr (Some fs) r k h =
        at_key_total pr (term_at k fs) fs r k (λ part e. projectable_part r fs k part h e)

    abbrev step_total : (z : Walk) (Next : Represented → Answer → Type 0) → ((v : Represented) → (a : Answer) ×
        Next v a) → (a : Answer) × Rules.AfterWalk G z Next a
    step_total (walks_on v) Next f = f v
    step_total (stops b) Next f = (b, refl)

    abbrev stored_total : (x : Answer) (l : Text) (ls : List Text) (Next : Represented → Answer → Type 0) →
        ((v : Represented) → (a : Answer) × Next v a) → (a : Answer) × Rules.AfterStored G x l ls Next a
    stored_total (fails e) l ls Next f = (fails e, refl)
    stored_total (answers (value v)) l ls Next f = f v
    stored_total (answers (residual r)) l ls Next f = (answers (residual (extended_has r l ls)), refl)

    abbrev read_total : (t : Term) (l : Text) (ls : List Text) (Next : Represented → Answer → Type 0) → Found t →
        ((v : Represented) → (a : Answer) × Next v a) →
        (a : Answer) × ((x : Answer) × G t x × Rules.AfterStored G x l ls Next a)
    read_total t l ls Next x f = let k = stored_total x.0 l ls Next f in (k.0, (x.0, x.1, k.1))

    abbrev steps_total : (o : Option Term) (z : Walk) (l : Text) (ls : List Text) (Next : Represented → Answer →
        Type 0) → ((t : Term) → o ≡ Some t → Found t) → ((v : Represented) → (a : Answer) × Next v a) →
        (a : Answer) × Rules.WalksOn G o z l ls Next a
    steps_total None z l ls Next g f = step_total z Next f
    steps_total (Some t) z l ls Next g f = read_total t l ls Next (g t refl) f

    abbrev walks_total : ((t : Term) → IsStored s.store t → Found t) → (ks : List Text) (v : Represented) (k : Text) →
        (a : Answer) × Rules.Walks G s.store v k ks a
    walks_total st [] v k = (last_in s.store (container_of v) (container_expected v) k, refl)
    walks_total st (l ∷ ls) v k =
        steps_total (attribute_residual s.store v k) (walk_in s.store (container_of v) (container_expected v) k l ls) l
        ls (λ u. Rules.Walks G s.store u l ls) (λ t e. st t (attribute_is_stored s.store v k t e))
        (λ u. walks_total st ls u l)

    abbrev path_total : (r : Resolution) → (r ≡ deep → (t : Term) → IsStored s.store t → Found t) →
        (c : Answer) (k : Text) (ks : List Text) → (a : Answer) × Rules.AtPath G r s.store c k ks a
    path_total shallow st c k ks = (_, refl)
    path_total deep st (fails e) k ks = (fails e, refl)
    path_total deep st (answers (value v)) k ks = walks_total (st refl) ks v k
    path_total deep st (answers (residual r)) k ks = (answers (residual (extended_has r k ks)), refl)

    abbrev attribute_total : FoundStored → FoundProjected → (c : Answer) (k : Text) → (a : Answer)
        × Rules.Then c (Rules.AtAttribute G s k) a
    attribute_total st pr (fails e) k = (fails e, refl)
    attribute_total st pr (answers (value v)) k =
        resolves_total s.resolution (attribute_residual s.store v k) (attribute_answer s v k)
        (λ r h e. st r h (attribute_is_stored s.store v k r e))
    attribute_total st pr (answers (residual r)) k = at_fields_total pr (Rules.fields_of_record r) r k refl

    abbrev part_total : (Rest : Result (List PartialValue) Failure → Type 0) →
        ((r : Result (List PartialValue) Failure) × Rest r) → (x : Answer) →
        (r : Result (List PartialValue) Failure) × Rules.AfterPart G x Rest r
    part_total Rest k (fails e) = (Err e, refl)
    part_total Rest k (answers p) = (Rules.part_then p k.0, (k.0, k.1, refl))

    abbrev pub one_total : (t : Term) (ts : Terms) → Found t → FoundEach ts → FoundEach (one_term t ts)
    one_total t ts x xs = let k = part_total (Rules.Parts G ts) xs x.0 in (k.0, (x.0, x.1, k.1))

    abbrev field_part_total : (l : Text) (Rest : Result (List (Text × PartialValue)) Failure → Type 0) →
        ((r : Result (List (Text × PartialValue)) Failure) × Rest r) → (x : Answer) →
        (r : Result (List (Text × PartialValue)) Failure) × Rules.AfterFieldPart G l x Rest r
    field_part_total l Rest k (fails e) = (Err e, refl)
    field_part_total l Rest k (answers p) = (Rules.field_part_then l p k.0, (k.0, k.1, refl))

    abbrev pub one_at_total : (l : Text) (t : Term) (fs : Fields) → Found t → FoundEachAt fs →
        FoundEachAt (one_field l t fs)
    one_at_total l t fs x xs =
        let k = field_part_total l (Rules.FieldParts G fs) xs x.0 in (k.0, (x.0, x.1, k.1))

    abbrev counts_total : (b : Bool) (n : ℕ) (f : Text) (vs : List Represented) → s.extensions.arity f ≡ Some n →
        (length vs == n) ≡ b → (a : Answer) × Rules.Counts calls b n f vs a
    counts_total true n f vs e h = callable f vs (counted (s.extensions.arity f) (length vs) n e h)
    counts_total false n f vs e h = (fails (arguments_are_miscounted f n (length vs)), refl)

    abbrev looks_total : (o : Option ℕ) (f : Text) (vs : List Represented) → s.extensions.arity f ≡ o → (a : Answer) ×
        Rules.LooksUp calls o f vs a
    looks_total None f vs e = (fails (function_is_missing f), refl)
    looks_total (Some n) f vs e = counts_total (length vs == n) n f vs e refl

    abbrev values_total : (o : Option (List Represented)) (f : Text) (ps : List PartialValue) → (a : Answer) ×
        Rules.AfterValues calls s.extensions.arity o f ps a
    values_total (Some vs) f ps = looks_total (s.extensions.arity f) f vs refl
    values_total None f ps = (answers (residual (call f (Rules.terms_of_parts ps))), refl)

    abbrev arguments_total : (r : Result (List PartialValue) Failure) (f : Text) → (a : Answer) ×
        Rules.AfterArguments calls s.extensions.arity f r a
    arguments_total (Err e) f = (fails e, refl)
    arguments_total (Ok ps) f = values_total (Rules.values_of_parts ps) f ps

    -- ---- each kind, from what its parts answer

    abbrev pub if_total : (c t e : Term) → Found c → Found t → Found e → FoundBy (if_then_else c t e)
    if_total c t e x y z = let k = guard_total x.0 t e y z in (k.0, (x.0, x.1, k.1))

    abbrev pub both_total : (t u : Term) → Found t → Found u → FoundBy (both t u)
    both_total t u x y = let k = and_total x.0 u y in (k.0, (x.0, x.1, k.1))

    abbrev pub either_total : (t u : Term) → Found t → Found u → FoundBy (either t u)
    either_total t u x y = let k = or_total x.0 u y in (k.0, (x.0, x.1, k.1))

    abbrev pub binary_total : FoundStored → (op : BinaryOperator) (t u : Term) → Found t → Found u →
        FoundBy (binary op t u)
    binary_total st op t u x y = let k = left_total st op x.0 u y in (k.0, (x.0, x.1, k.1))

    abbrev pub call_total : (f : Text) (ts : Terms) → FoundEach ts → FoundBy (call f ts)
    call_total f ts r = let k = arguments_total r.0 f in (k.0, (r.0, r.1, k.1))

    abbrev pub get_total : FoundStored → FoundProjected → (t : Term) (k : Text) → Found t → FoundBy (get_attribute t k)
    get_total st pr t k x = let a = attribute_total st pr x.0 k in (a.0, (x.0, x.1, a.1))

    abbrev pub extended_total : FoundStored → (t : Term) (k : Text) (ks : List Text) → Found t →
        FoundBy (extended_has t k ks)
    extended_total st t k ks x =
        let a = path_total s.resolution (λ e r. st r e) x.0 k ks in (a.0, (x.0, x.1, a.1))

    module _ (st : FoundStored) (pr : FoundProjected) (go : (t : Term) → Found t) where
      abbrev parts_total : (ts : Terms) → FoundEach ts
      parts_total no_terms = (Ok [], refl)
      parts_total (one_term t ts) = one_total t ts (go t) (parts_total ts)

      abbrev field_parts_total : (fs : Fields) → FoundEachAt fs
      field_parts_total no_fields = (Ok [], refl)
      field_parts_total (one_field l t fs) = one_at_total l t fs (go t) (field_parts_total fs)

      abbrev rule_total : (t : Term) → FoundBy t
      rule_total (literal l) = (_, refl)
      rule_total (variable v) = (_, refl)
      rule_total (slot i) = (_, refl)
      rule_total (unknown n t) = (_, refl)
      rule_total (if_then_else c t e) = if_total c t e (go c) (go t) (go e)
      rule_total (both t u) = both_total t u (go t) (go u)
      rule_total (either t u) = either_total t u (go t) (go u)
      rule_total (unary op t) = let x = go t in (_, (x.0, x.1, refl))
      rule_total (binary op t u) = binary_total st op t u (go t) (go u)
      rule_total (call f ts) = call_total f ts (parts_total ts)
      rule_total (get_attribute t l) = get_total st pr t l (go t)
      rule_total (has_attribute t l) = let x = go t in (_, (x.0, x.1, refl))
      rule_total (extended_has t l ls) = extended_total st t l ls (go t)
      rule_total (like t p) = let x = go t in (_, (x.0, x.1, refl))
      rule_total (is_of_type t n) = let x = go t in (_, (x.0, x.1, refl))
      rule_total (set_of ts) = let r = parts_total ts in (_, (r.0, r.1, refl))
      rule_total (record_of fs) = let r = field_parts_total fs in (_, (r.0, r.1, refl))

  abbrev pub total : (n : ℕ) (t : Term) → (a : Answer) × Rules.Runs s calls n t a
  total zero t = (limit, refl)
  total (suc n) t = rule_total (Rules.Runs s calls n) (λ r h i. total n r) (λ r h. total n r) (total n) t
