-- No expression answers out of memory, where no function does.
use Rattle.std.specs.Prelude.{◌≡◌, ◌≢◌, ℕ, zero, suc, ◌==◌, Bool, true, false, cond, List, length, Option, Some, None}
use Rattle.std.specs.Prelude.{Result, Ok, Err}
use Rattle.std.proofs.Common.{refl, subst, sym, ap, ◌∙◌}
use Rattle.cedar_model.specs.Terms.{Text, BinaryOperator, Term, literal, variable, slot, unknown, if_then_else, both}
use Rattle.cedar_model.specs.Terms.{either, unary, binary, call, get_attribute, has_attribute, extended_has, like}
use Rattle.cedar_model.specs.Terms.{is_of_type, set_of, record_of, Terms, no_terms, one_term, Fields, no_fields}
use Rattle.cedar_model.specs.Terms.{one_field}
use Rattle.cedar_model.specs.Outcomes.{ErrorKind, bool_of}
use Rattle.cedar_model.specs.Values.{Represented, abstract_value}
use Rattle.cedar_model.specs.Shapes.{is_projectable}
use Rattle.cedar_model.specs.Failures.{Failure, FailureKind, of_meaning, of_residual, of_limit, of_memory}
use Rattle.cedar_model.specs.Failures.{failure_kind, out_of_memory, recursion_limit, PartialValue, value, residual}
use Rattle.cedar_model.specs.Failures.{function_is_missing, arguments_are_miscounted}
use Rattle.cedar_model.specs.Failures.{Answer, answers, answers_bool, fails, limit, part_expression}
use Rattle.cedar_model.specs.Settings.{Resolution, shallow, deep, Setting}
use Rattle.cedar_model.specs.Operators
use Rattle.cedar_model.specs.Rules
use Rattle.cedar_model.specs.laws.Levels.{FunctionsFindMemory}
use Rattle.cedar_model.proofs.Resolving as resolving
use Rattle.cedar_model.proofs.Operands as operands
use Rattle.cedar_model.proofs.Operands.{Facts, AllAnswer}

abbrev AnyValue : Represented → Type 0
AnyValue v = Unit {0}

abbrev AnyTerm : Term → Type 0
AnyTerm t = Unit {0}

abbrev IsOther : Failure → Type 0
IsOther e = e ≢ out_of_memory

-- another answer than running out of memory
abbrev Found : Answer → Type 0
Found a = AllAnswer AnyValue AnyTerm IsOther a

abbrev FoundResult : {A : Type 0} → Result A Failure → Type 0
FoundResult (Ok x) = Unit {0}
FoundResult (Err e) = IsOther e

found_by : (a b : Answer) → a ≡ b → Found b → Found a
found_by a b e f = subst Found (sym e) f

found_part : (p : PartialValue) → Found (answers p)
found_part (value v) = tt
found_part (residual r) = tt

other_by_kind : (e : Failure) (k : ErrorKind) → failure_kind e ≡ of_meaning k → IsOther e
unfolding failure_kind
other_by_kind e k h m = let g = sym (ap failure_kind m) ∙ h in cc

limit_is_other : IsOther recursion_limit
limit_is_other e = cc

module _ (s : Setting) (calls : Rules.StoredCalls) (finding : FunctionsFindMemory calls) where
  facts : Facts s AnyValue AnyValue AnyTerm IsOther
  facts = record {
    literals = λ l. tt;
    errs = other_by_kind;
    fields = λ fs k v h e. tt;
    stored = λ e x k p f. (λ g. found_part p, λ g. found_part p);
    mapped = λ n v e. tt;
    in_missing = λ e w h. tt;
    tag_missing = λ e t. tt;
    has_tag_missing = λ e t. tt;
    attribute_missing = λ e k. tt;
    has_missing = λ e k. tt;
    path_missing = λ e k ks. tt;
    path_stored = λ e x k l ls r f g. tt;
  }

  found_expected : (v : Represented) → Found (Rules.bool_expected v)
  found_expected v = operands.wrong_all s AnyValue AnyValue AnyTerm IsOther facts _ _ _

  found_bool_or : (o : Option Bool) (v : Represented) → Found (Rules.bool_or_failure o v)
  unfolding Rules.bool_or_failure
  found_bool_or None v = found_expected v
  found_bool_or (Some b) v = tt

  found_joined : (f : Term → Term) (x : Answer) → Found x → Found (Rules.joined f x)
  unfolding Rules.joined
  found_joined f (fails e) h = h
  found_joined f (answers (value v)) h = found_bool_or (bool_of (abstract_value v)) v
  found_joined f (answers (residual r)) h = tt

  found_on_part : (f : Represented → Answer) (g : Term → Term) → ((v : Represented) → Found (f v)) → (x : Answer)
      → Found x → Found (Rules.on_part f g x)
  unfolding Rules.on_part
  found_on_part f g j (fails e) l = l
  found_on_part f g j (answers (value v)) l = j v
  found_on_part f g j (answers (residual r)) l = tt

  found_kept : (b : Bool) (r : Term) → Found (cond b (answers_bool false) (answers (residual r)))
  found_kept true r = tt
  found_kept false r = tt

  found_binary : (op : BinaryOperator) (p q : PartialValue) → Found (Rules.binary_of_parts s op p q)
  unfolding Rules.binary_of_parts
  found_binary op (value v) (value w) = operands.binary_all s AnyValue AnyValue AnyTerm IsOther facts op v w tt
  found_binary op (value v) (residual r) = found_kept _ _
  found_binary op (residual r) (value w) = found_kept _ _
  found_binary op (residual r) (residual q) = found_kept _ _

  found_beside : (op : BinaryOperator) (p : PartialValue) (y : Answer) → Found y → Found (Rules.binary_beside s op p y)
  unfolding Rules.binary_beside
  found_beside op p (fails e) f = f
  found_beside op p (answers q) f = found_binary op p q

  found_has_fields : (o : Option Fields) (b : Bool) (r : Term) (k : Text) → Found (Rules.has_in_fields o b r k)
  unfolding Rules.has_in_fields
  found_has_fields None b r k = tt
  found_has_fields (Some fs) true r k = tt
  found_has_fields (Some fs) false r k = tt

  found_has : (k : Text) (x : Answer) → Found x → Found (Rules.has_part s k x)
  unfolding Rules.has_part
  found_has k (fails e) f = f
  found_has k (answers (value v)) f = operands.has_all s AnyValue AnyValue AnyTerm IsOther facts v k
  found_has k (answers (residual r)) f = found_has_fields (Rules.fields_of_record r) (is_projectable r) r k

  found_annotated : (o : Option Text) (r : Term) (t : Text) → Found (Rules.is_annotated o r t)
  unfolding Rules.is_annotated
  found_annotated None r t = tt
  found_annotated (Some u) r t = tt

  found_is : (t : Text) (x : Answer) → Found x → Found (Rules.is_part t x)
  unfolding Rules.is_part
  found_is t (fails e) f = f
  found_is t (answers (value v)) f = operands.is_all s AnyValue AnyValue AnyTerm IsOther facts t v
  found_is t (answers (residual r)) f = found_annotated (Rules.entity_type_of_residual r) r t

  found_set : (r : Result (List PartialValue) Failure) → FoundResult r → Found (Rules.set_answer r)
  unfolding Rules.set_answer Rules.set_of_parts
  found_set (Err e) f = f
  found_set (Ok ps) f = by (Rules.values_of_parts ps)
    where
      by : (o : Option (List Represented)) → Found (Rules.set_of_parts o ps)
      by (Some vs) = tt
      by None = tt

  found_record : (r : Result (List (Text × PartialValue)) Failure) → FoundResult r → Found (Rules.record_answer r)
  unfolding Rules.record_answer Rules.record_of_parts
  found_record (Err e) f = f
  found_record (Ok ps) f = by (Rules.values_of_field_parts ps)
    where
      by : (o : Option (List (Text × Represented))) → Found (Rules.record_of_parts o ps)
      by (Some vs) = tt
      by None = tt

  found_call : (f : Text) (vs : List Represented) (a : Answer) → calls f vs a → Found a
  found_call f vs (answers p) c = found_part p
  found_call f vs (fails e) c = λ m. finding f vs (subst (λ x. calls f vs (fails x)) m c)

  kind_found : (e : Failure) (k : ErrorKind) → failure_kind e ≡ of_meaning k → Found (fails e)
  kind_found e k h = other_by_kind e k h

  miscounted_found : (f : Text) (m n : ℕ) → Found (fails (arguments_are_miscounted f m n))
  unfolding failure_kind
  miscounted_found f m n = kind_found (arguments_are_miscounted f m n) _ refl

  missing_found : (f : Text) → Found (fails (function_is_missing f))
  unfolding failure_kind
  missing_found f = kind_found (function_is_missing f) _ refl

  found_counts : (b : Bool) (n : ℕ) (f : Text) (vs : List Represented) (a : Answer) → Rules.Counts calls b n f vs a
      → Found a
  found_counts true n f vs a r = found_call f vs a r
  found_counts false n f vs a r = found_by a _ r (miscounted_found f n (length vs))

  found_looks : (o : Option ℕ) (f : Text) (vs : List Represented) (a : Answer) → Rules.LooksUp calls o f vs a → Found a
  found_looks None f vs a r = found_by a _ r (missing_found f)
  found_looks (Some n) f vs a r = found_counts (length vs == n) n f vs a r

  found_values : (o : Option (List Represented)) (f : Text) (ps : List PartialValue) (a : Answer)
      → Rules.AfterValues calls s.extensions.arity o f ps a → Found a
  found_values None f ps a r = found_by a _ r tt
  found_values (Some vs) f ps a r = found_looks (s.extensions.arity f) f vs a r

  found_arguments : (f : Text) (r : Result (List PartialValue) Failure) (a : Answer) → FoundResult r
      → Rules.AfterArguments calls s.extensions.arity f r a → Found a
  found_arguments f (Err e) a g h = found_by a (fails e) h g
  found_arguments f (Ok ps) a g h = found_values (Rules.values_of_parts ps) f ps a h

  found_then : (p : PartialValue) (r : Result (List PartialValue) Failure) → FoundResult r
      → FoundResult (Rules.part_then p r)
  unfolding Rules.part_then
  found_then p (Err e) g = g
  found_then p (Ok ps) g = tt

  found_then_at : (k : Text) (p : PartialValue) (r : Result (List (Text × PartialValue)) Failure) → FoundResult r
      → FoundResult (Rules.field_part_then k p r)
  unfolding Rules.field_part_then
  found_then_at k p (Err e) g = g
  found_then_at k p (Ok ps) g = tt

  module _ (G : Rules.MayAnswer) (ih : (t : Term) (x : Answer) → G t x → Found x) where
    found_parts : (ts : Terms) (r : Result (List PartialValue) Failure) → Rules.Parts G ts r → FoundResult r
    found_parts no_terms r h = subst FoundResult (sym h) tt
    found_parts (one_term t ts) r (fails e, g, h) = subst FoundResult (sym h) (ih t (fails e) g)
    found_parts (one_term t ts) r (answers q, g, (k, h, e)) =
        subst FoundResult (sym e) (found_then q k (found_parts ts k h))

    found_field_parts : (fs : Fields) (r : Result (List (Text × PartialValue)) Failure) → Rules.FieldParts G fs r
        → FoundResult r
    found_field_parts no_fields r h = subst FoundResult (sym h) tt
    found_field_parts (one_field l t fs) r (fails e, g, h) = subst FoundResult (sym h) (ih t (fails e) g)
    found_field_parts (one_field l t fs) r (answers q, g, (k, h, e)) =
        subst FoundResult (sym e) (found_then_at l q k (found_field_parts fs k h))

    found_best : (x : Answer) (t : Term) (Next : Term → Answer → Type 0) (a : Answer) → Found x
        → Rules.AfterBest (Rules.best x t) Next a → ((u : Term) → Next u a → Found a) → Found a
    unfolding Rules.best Rules.best_of_kind
    found_best (answers p) t Next a j h f = f (part_expression p) h
    found_best (fails e) t Next a j h f = by (failure_kind e) h
      where
        by : (k : FailureKind) → Rules.AfterBest (Rules.best_of_kind k e t) Next a → Found a
        by (of_meaning k) i = f t i
        by of_residual i = f t i
        by of_limit i = found_by a (fails e) i j
        by of_memory i = found_by a (fails e) i j

    found_takes : (b : Option Bool) (v : Represented) (t e : Term) (a : Answer) → Rules.TakesBranch G b v t e a
        → Found a
    found_takes None v t e a r = found_by a _ r (found_expected v)
    found_takes (Some true) v t e a r = ih t a r
    found_takes (Some false) v t e a r = ih e a r

    found_guard : (x : Answer) (t e : Term) (a : Answer) → Found x → Rules.Then x (Rules.AfterGuard G t e) a → Found a
    found_guard (fails f) t e a h r = found_by a (fails f) r h
    found_guard (answers (value v)) t e a h r = found_takes (bool_of (abstract_value v)) v t e a r
    found_guard (answers (residual z)) t e a h (x, g, k) =
        found_best x t _ a (ih t x g) k (λ t' (y, j, l). found_best y e _ a (ih e y j) l (λ e' i. found_by a _ i tt))

    found_right : (f : Term → Term) (t : Term) (a : Answer) → Rules.ReadsRight G f t a → Found a
    found_right f t a (x, g, e) = found_by a _ e (found_joined f x (ih t x g))

    found_beside_kept : (f : Term → Term) (t : Term) (a : Answer) → Rules.KeepsRight G f t a → Found a
    found_beside_kept f t a (x, g, l) = found_best x t _ a (ih t x g) l (λ u i. found_by a _ i tt)

    found_and_bool : (b : Option Bool) (v : Represented) (t : Term) (a : Answer) → Rules.AndLeft G b v t a → Found a
    found_and_bool None v t a r = found_by a _ r (found_expected v)
    found_and_bool (Some true) v t a r = found_right _ t a r
    found_and_bool (Some false) v t a r = found_by a _ r tt

    found_and : (x : Answer) (t : Term) (a : Answer) → Found x → Rules.Then x (Rules.AfterAndLeft G t) a → Found a
    found_and (fails e) t a h r = found_by a (fails e) r h
    found_and (answers (value v)) t a h r = found_and_bool (bool_of (abstract_value v)) v t a r
    found_and (answers (residual z)) t a h r = found_beside_kept (both z) t a r

    found_or_bool : (b : Option Bool) (v : Represented) (t : Term) (a : Answer) → Rules.OrLeft G b v t a → Found a
    found_or_bool None v t a r = found_by a _ r (found_expected v)
    found_or_bool (Some true) v t a r = found_by a _ r tt
    found_or_bool (Some false) v t a r = found_right _ t a r

    found_or : (x : Answer) (t : Term) (a : Answer) → Found x → Rules.Then x (Rules.AfterOrLeft G t) a → Found a
    found_or (fails e) t a h r = found_by a (fails e) r h
    found_or (answers (value v)) t a h r = found_or_bool (bool_of (abstract_value v)) v t a r
    found_or (answers (residual z)) t a h r = found_beside_kept (either z) t a r

    found_left : (op : BinaryOperator) (x : Answer) (t : Term) (a : Answer) → Found x → Rules.Then x (Rules.AfterLeft G s op t) a
        → Found a
    found_left op (fails e) t a h r = found_by a (fails e) r h
    found_left op (answers p) t a h (y, g, e) =
        resolving.resolved G Found s.resolution (Rules.beside_residual s.store op p y) _ a
        (found_beside op p y (ih t y g)) (λ u d i. ih u a) e

    found_step : (z : Operators.Walk) → operands.AllStep s AnyValue AnyValue AnyTerm IsOther facts z
        → resolving.StopsWith G Found z
    found_step (Operators.walks_on v) h = tt
    found_step (Operators.stops a) h = h

    found_goes : (x : Answer) (l : Text) (ls : List Text) → Found x → resolving.ReadStopsWith G Found x l ls
    found_goes (fails e) l ls h = h
    found_goes (answers (value v)) l ls h = tt
    found_goes (answers (residual r)) l ls h = tt

    found_path : (d : Resolution) (x : Answer) (k : Text) (ks : List Text) (a : Answer) → Found x
        → Rules.AtPath G d s.store x k ks a → Found a
    found_path shallow x k ks a h e =
        found_by a _ e (found_on_part _ _ (λ v. operands.path_all s AnyValue AnyValue AnyTerm IsOther facts ks v k) x h)
    found_path deep (fails e) k ks a h g = found_by a (fails e) g h
    found_path deep (answers (value v)) k ks a h g =
        resolving.walks G Found s.store (operands.last_all s AnyValue AnyValue AnyTerm IsOther facts)
        (λ u l m ls e. found_step _ (operands.step_in_all s AnyValue AnyValue AnyTerm IsOther facts u l m ls))
        (λ t i x j l ls. found_goes x l ls (ih t x j)) ks v k a g
    found_path deep (answers (residual r)) k ks a h g = found_by a _ g tt

    found_projects : (b : Bool) (r : Term) (k : Text) (part : Term) (a : Answer) → Rules.Projects G b r k part a
        → Found a
    found_projects true r k part a j = ih part a j
    found_projects false r k part a j = found_by a _ j tt

    found_at_key : (o : Option Term) (fs : Fields) (r : Term) (k : Text) (a : Answer) → Rules.AtKey G o fs r k a
        → Found a
    found_at_key None fs r k a j =
        found_by a _ j (operands.record_key_all s AnyValue AnyValue AnyTerm IsOther facts _ _)
    found_at_key (Some part) fs r k a j = found_projects (is_projectable r) r k part a j

    found_at_fields : (o : Option Fields) (r : Term) (k : Text) (a : Answer) → Rules.AtFields G o r k a → Found a
    found_at_fields None r k a j = found_by a _ j tt
    found_at_fields (Some fs) r k a j = found_at_key (Operators.term_at k fs) fs r k a j

    found_attribute : (x : Answer) (k : Text) (a : Answer) → Found x → Rules.Then x (Rules.AtAttribute G s k) a → Found a
    found_attribute (fails e) k a h j = found_by a (fails e) j h
    found_attribute (answers (value v)) k a h j =
        resolving.resolved G Found s.resolution (Operators.attribute_residual s.store v k) _ a
        (operands.attribute_all s AnyValue AnyValue AnyTerm IsOther facts v k tt) (λ u d i. ih u a) j
    found_attribute (answers (residual r)) k a h j = found_at_fields (Rules.fields_of_record r) r k a j

    found_rule : (t : Term) (a : Answer) → Rules.Rule s calls G t a → Found a
    found_rule (literal l) a r = found_by a _ r tt
    found_rule (variable v) a r = found_by a _ r (found_part _)
    found_rule (slot i) a r =
        found_by a _ r (operands.slot_all s AnyValue AnyValue AnyTerm IsOther facts i (s.slots i))
    found_rule (unknown n t) a r =
        found_by a _ r (operands.unknown_all s AnyValue AnyValue AnyTerm IsOther facts n t (λ e. tt))
    found_rule (if_then_else c t e) a (x, g, k) = found_guard x t e a (ih c x g) k
    found_rule (both t u) a (x, g, k) = found_and x u a (ih t x g) k
    found_rule (either t u) a (x, g, k) = found_or x u a (ih t x g) k
    found_rule (unary op t) a (x, g, e) =
        found_by a _ e (found_on_part _ _ (operands.unary_all s AnyValue AnyValue AnyTerm IsOther facts op) x
        (ih t x g))
    found_rule (binary op t u) a (x, g, k) = found_left op x u a (ih t x g) k
    found_rule (call f ts) a (r, g, k) = found_arguments f r a (found_parts ts r g) k
    found_rule (get_attribute t k) a (x, g, j) = found_attribute x k a (ih t x g) j
    found_rule (has_attribute t k) a (x, g, e) = found_by a _ e (found_has k x (ih t x g))
    found_rule (extended_has t k ks) a (x, g, e) = found_path s.resolution x k ks a (ih t x g) e
    found_rule (like t p) a (x, g, e) =
        found_by a _ e (found_on_part _ _ (operands.like_all s AnyValue AnyValue AnyTerm IsOther facts p) x (ih t x g))
    found_rule (is_of_type t k) a (x, g, e) = found_by a _ e (found_is k x (ih t x g))
    found_rule (set_of ts) a (r, g, e) = found_by a _ e (found_set r (found_parts ts r g))
    found_rule (record_of fs) a (r, g, e) = found_by a _ e (found_record r (found_field_parts fs r g))

  runs_found : (n : ℕ) (t : Term) (a : Answer) → Rules.Runs s calls n t a → Found a
  runs_found zero t a r = found_by a limit r limit_is_other
  runs_found (suc n) t a r = found_rule (Rules.Runs s calls n) (runs_found n) t a r

  memory_is_none : (a : Answer) → Found a → a ≢ fails out_of_memory
  memory_is_none (answers p) h e = cc
  memory_is_none (fails f) h e = h (cc)

  pub find_memory : (n : ℕ) (t : Term) (a : Answer) → Rules.Runs s calls n t a → a ≢ fails out_of_memory
  find_memory n t a r = memory_is_none a (runs_found n t a r)
