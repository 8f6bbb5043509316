-- A residual that is answered holds an unknown.
use Rattle.std.specs.Prelude.{◌≡◌, ℕ, zero, suc, ◌==◌, Bool, true, false, cond, List, [], ◌∷◌, length}
use Rattle.std.specs.Prelude.{Option, Some, None, Result, Ok, Err}
use Rattle.std.proofs.Common.{refl, subst, sym}
use Rattle.std.proofs.lemmas.Bool.{or_left, or_right}
use Rattle.cedar_model.specs.Terms.{Text, EntityName, Slot, Variable, principal, action, resource}
use Rattle.cedar_model.specs.Terms.{context, BinaryOperator, Term, literal, variable, slot, unknown, if_then_else}
use Rattle.cedar_model.specs.Terms.{both, either, unary, binary, call, get_attribute, has_attribute, extended_has}
use Rattle.cedar_model.specs.Terms.{like, is_of_type, set_of, record_of, Terms, no_terms, one_term, Fields, no_fields}
use Rattle.cedar_model.specs.Terms.{one_field}
use Rattle.cedar_model.specs.Values.{Represented, abstract_value}
use Rattle.cedar_model.specs.Shapes.{has_unknown, have_unknown, have_unknown_at, is_projectable}
use Rattle.cedar_model.specs.Outcomes.{bool_of}
use Rattle.cedar_model.specs.Failures.{Failure, FailureKind, of_meaning, of_residual, of_limit, of_memory}
use Rattle.cedar_model.specs.Failures.{failure_kind, PartialValue, value, residual, Answer, answers, answers_bool}
use Rattle.cedar_model.specs.Failures.{fails, limit, part_expression}
use Rattle.cedar_model.specs.Settings.{Entry, known_entry, unknown_entry, ContextPart, absent_context, known_context}
use Rattle.cedar_model.specs.Settings.{residual_context, Setting, entry_part, context_value}
use Rattle.cedar_model.specs.Settings.{Resolution, shallow, deep, variable_part}
use Rattle.cedar_model.specs.Operators
use Rattle.cedar_model.specs.Rules
use Rattle.cedar_model.specs.laws.Restricted.{HoldsUnknown, ResidualsHoldUnknowns}
use Rattle.cedar_model.proofs.Resolving as resolving
use Rattle.cedar_model.proofs.Operands as operands
use Rattle.cedar_model.proofs.Operands.{Facts, AllAnswer, AllPart}

abbrev AnyValue : Represented → Type 0
AnyValue v = Unit {0}

abbrev AnyFailure : Failure → Type 0
AnyFailure e = Unit {0}

abbrev Holds : Term → Type 0
Holds r = has_unknown r ≡ true

-- a residual answer holds an unknown
abbrev Held : Answer → Type 0
Held a = AllAnswer AnyValue Holds AnyFailure a

abbrev HeldPart : PartialValue → Type 0
HeldPart p = AllPart AnyValue Holds p

held_by : (a b : Answer) → a ≡ b → Held b → Held a
held_by a b e f = subst Held (sym e) f

given_part : (p : PartialValue) → HoldsUnknown p → HeldPart p
given_part (value v) e = tt
given_part (residual r) e = e

-- ---- parts

-- some part is a residual that holds an unknown
abbrev HeldParts : List PartialValue → Type 0
HeldParts [] = Unit {0}
HeldParts (p ∷ ps) = HeldPart p × HeldParts ps

abbrev HeldPartsAt : List (Text × PartialValue) → Type 0
HeldPartsAt [] = Unit {0}
HeldPartsAt (p ∷ ps) = HeldPart p.1 × HeldPartsAt ps

abbrev HeldResult : Result (List PartialValue) Failure → Type 0
HeldResult (Err e) = Unit {0}
HeldResult (Ok ps) = HeldParts ps

abbrev HeldResultAt : Result (List (Text × PartialValue)) Failure → Type 0
HeldResultAt (Err e) = Unit {0}
HeldResultAt (Ok ps) = HeldPartsAt ps

held_terms : (ps : List PartialValue) → HeldParts ps → Rules.values_of_parts ps ≡ None →
    have_unknown (Rules.terms_of_parts ps) ≡ true
unfolding Rules.values_of_parts Rules.add_value part_expression
held_terms [] e f = absurd (cc)
held_terms (value v ∷ ps) (e, g) f = or_right _ _ (held_terms ps g (by (Rules.values_of_parts ps) f))
  where
    by : (o : Option (List Represented)) → Rules.add_value (value v) o ≡ None → o ≡ None
    by None h = refl
    by (Some vs) h = absurd (cc)
held_terms (residual r ∷ ps) (e, g) f = or_left _ _ e

held_fields : (ps : List (Text × PartialValue)) → HeldPartsAt ps → Rules.values_of_field_parts ps ≡ None →
    have_unknown_at (Rules.fields_of_parts ps) ≡ true
unfolding Rules.values_of_field_parts Rules.add_value_at part_expression
held_fields [] e f = absurd (cc)
held_fields ((k, value v) ∷ ps) (e, g) f = or_right _ _ (held_fields ps g (by (Rules.values_of_field_parts ps) f))
  where
    by : (o : Option (List (Text × Represented))) → Rules.add_value_at k (value v) o ≡ None → o ≡ None
    by None h = refl
    by (Some vs) h = absurd (cc)
held_fields ((k, residual r) ∷ ps) (e, g) f = or_left _ _ e

held_set : (r : Result (List PartialValue) Failure) → HeldResult r → Held (Rules.set_answer r)
unfolding Rules.set_answer Rules.set_of_parts
held_set (Err e) f = tt
held_set (Ok ps) f = by (Rules.values_of_parts ps) refl
  where
    by : (o : Option (List Represented)) → Rules.values_of_parts ps ≡ o → Held (Rules.set_of_parts o ps)
    by (Some vs) e = tt
    by None e = held_terms ps f e

held_record : (r : Result (List (Text × PartialValue)) Failure) → HeldResultAt r → Held (Rules.record_answer r)
unfolding Rules.record_answer Rules.record_of_parts
held_record (Err e) f = tt
held_record (Ok ps) f = by (Rules.values_of_field_parts ps) refl
  where
    by : (o : Option (List (Text × Represented))) → Rules.values_of_field_parts ps ≡ o →
        Held (Rules.record_of_parts o ps)
    by (Some vs) e = tt
    by None e = held_fields ps f e

held_bool_or : (o : Option Bool) (v : Represented) → Held (Rules.bool_or_failure o v)
unfolding Rules.bool_or_failure
held_bool_or None v = tt
held_bool_or (Some b) v = tt

held_joined : (f : Term → Term) → ((r : Term) → Holds r → Holds (f r)) → (x : Answer) → Held x →
    Held (Rules.joined f x)
unfolding Rules.joined
held_joined f g (fails e) h = tt
held_joined f g (answers (value v)) h = held_bool_or (bool_of (abstract_value v)) v
held_joined f g (answers (residual r)) h = g r h

held_on_part : (f : Represented → Answer) (g : Term → Term) → ((v : Represented) → Held (f v)) →
    ((r : Term) → Holds r → Holds (g r)) → (x : Answer) → Held x → Held (Rules.on_part f g x)
unfolding Rules.on_part
held_on_part f g j k (fails e) l = tt
held_on_part f g j k (answers (value v)) l = j v
held_on_part f g j k (answers (residual r)) l = k r l

held_kept : (b : Bool) (r : Term) → Holds r → Held (cond b (answers_bool false) (answers (residual r)))
held_kept true r e = tt
held_kept false r e = e

-- ---- a layer

module _ (s : Setting) (calls : Rules.StoredCalls) (given : ResidualsHoldUnknowns calls s) where
  facts : Facts s AnyValue AnyValue Holds AnyFailure
  facts = record {
    literals = λ l. tt;
    errs = λ e k h. tt;
    fields = λ fs k v h e. tt;
    stored =
        λ e x k p f. (
          λ g. given_part p ((given.stored_holds e x k p f).0 g),
          λ g. given_part p ((given.stored_holds e x k p f).1 g),
        );
    mapped = λ n v e. tt;
    in_missing = λ e w h. refl;
    tag_missing = λ e t. refl;
    has_tag_missing = λ e t. refl;
    attribute_missing = λ e k. refl;
    has_missing = λ e k. refl;
    path_missing = λ e k ks. refl;
    path_stored = λ e x k l ls r f g. (given.stored_holds e x k (residual r) f).0 g;
  }

  held_slot : (i : Slot) (o : Option EntityName) → Held (Operators.slot_answer i o)
  held_slot i o = operands.slot_all s AnyValue AnyValue Holds AnyFailure facts i o

  held_entry : (e : Entry) (name : Text) → HeldPart (entry_part e name)
  unfolding entry_part
  held_entry (known_entry d) name = tt
  held_entry (unknown_entry t) name = refl

  held_context : (c : ContextPart) → s.request.context_part ≡ c → HeldPart (context_value c)
  unfolding context_value
  held_context absent_context e = refl
  held_context (known_context fs) e = tt
  held_context (residual_context fs) e = given.context_holds fs e

  held_variable : (v : Variable) → HeldPart (variable_part s.request v)
  unfolding variable_part
  held_variable principal = held_entry s.request.principal_entry _
  held_variable action = held_entry s.request.action_entry _
  held_variable resource = held_entry s.request.resource_entry _
  held_variable context = held_context s.request.context_part refl

  held_binary : (op : BinaryOperator) (p q : PartialValue) → HeldPart p → HeldPart q →
      Held (Rules.binary_of_parts s op p q)
  unfolding Rules.binary_of_parts part_expression
  held_binary op (value v) (value w) e f = operands.binary_all s AnyValue AnyValue Holds AnyFailure facts op v w tt
  held_binary op (value v) (residual r) e f = held_kept _ _ (or_right _ _ f)
  held_binary op (residual r) (value w) e f = held_kept _ _ (or_left _ _ e)
  held_binary op (residual r) (residual q) e f = held_kept _ _ (or_left _ _ e)

  held_beside : (op : BinaryOperator) (p : PartialValue) (y : Answer) → HeldPart p → Held y →
      Held (Rules.binary_beside s op p y)
  unfolding Rules.binary_beside
  held_beside op p (fails e) f g = tt
  held_beside op p (answers q) f g = held_binary op p q f g

  held_has_fields : (o : Option Fields) (b : Bool) (r : Term) (k : Text) → Holds r →
      Held (Rules.has_in_fields o b r k)
  unfolding Rules.has_in_fields
  held_has_fields None b r k e = e
  held_has_fields (Some fs) true r k e = tt
  held_has_fields (Some fs) false r k e = e

  held_has : (k : Text) (x : Answer) → Held x → Held (Rules.has_part s k x)
  unfolding Rules.has_part
  held_has k (fails e) f = tt
  held_has k (answers (value v)) f = operands.has_all s AnyValue AnyValue Holds AnyFailure facts v k
  held_has k (answers (residual r)) f = held_has_fields (Rules.fields_of_record r) (is_projectable r) r k f

  held_annotated : (o : Option Text) (r : Term) (t : Text) → Holds r → Held (Rules.is_annotated o r t)
  unfolding Rules.is_annotated
  held_annotated None r t e = e
  held_annotated (Some u) r t e = tt

  held_is : (t : Text) (x : Answer) → Held x → Held (Rules.is_part t x)
  unfolding Rules.is_part
  held_is t (fails e) f = tt
  held_is t (answers (value v)) f = operands.is_all s AnyValue AnyValue Holds AnyFailure facts t v
  held_is t (answers (residual r)) f = held_annotated (Rules.entity_type_of_residual r) r t f

  held_call : (f : Text) (vs : List Represented) (a : Answer) → calls f vs a → Held a
  held_call f vs (answers p) c = given_part p (given.answers_hold f vs p c)
  held_call f vs (fails e) c = tt

  held_counts : (b : Bool) (n : ℕ) (f : Text) (vs : List Represented) (a : Answer) → Rules.Counts calls b n f vs a →
      Held a
  held_counts true n f vs a r = held_call f vs a r
  held_counts false n f vs a r = held_by a _ r tt

  held_looks : (o : Option ℕ) (f : Text) (vs : List Represented) (a : Answer) → Rules.LooksUp calls o f vs a → Held a
  held_looks None f vs a r = held_by a _ r tt
  held_looks (Some n) f vs a r = held_counts (length vs == n) n f vs a r

  held_values : (o : Option (List Represented)) (f : Text) (ps : List PartialValue) (a : Answer) → HeldParts ps →
      Rules.values_of_parts ps ≡ o → Rules.AfterValues calls s.extensions.arity o f ps a → Held a
  held_values None f ps a e g r = held_by a _ r (held_terms ps e g)
  held_values (Some vs) f ps a e g r = held_looks (s.extensions.arity f) f vs a r

  held_arguments : (f : Text) (r : Result (List PartialValue) Failure) (a : Answer) → HeldResult r →
      Rules.AfterArguments calls s.extensions.arity f r a → Held a
  held_arguments f (Err e) a g h = held_by a _ h tt
  held_arguments f (Ok ps) a g h = held_values (Rules.values_of_parts ps) f ps a g refl h

  held_then : (p : PartialValue) (r : Result (List PartialValue) Failure) → HeldPart p → HeldResult r →
      HeldResult (Rules.part_then p r)
  unfolding Rules.part_then
  held_then p (Err e) f g = tt
  held_then p (Ok ps) f g = (f, g)

  held_then_at : (k : Text) (p : PartialValue) (r : Result (List (Text × PartialValue)) Failure) → HeldPart p →
      HeldResultAt r → HeldResultAt (Rules.field_part_then k p r)
  unfolding Rules.field_part_then
  held_then_at k p (Err e) f g = tt
  held_then_at k p (Ok ps) f g = (f, g)

  module _ (G : Rules.MayAnswer) (ih : (t : Term) (x : Answer) → G t x → Held x) where
    held_parts : (ts : Terms) (r : Result (List PartialValue) Failure) → Rules.Parts G ts r → HeldResult r
    held_parts no_terms r h = subst HeldResult (sym h) tt
    held_parts (one_term t ts) r (fails e, g, h) = subst HeldResult (sym h) tt
    held_parts (one_term t ts) r (answers q, g, (k, h, e)) =
        subst HeldResult (sym e) (held_then q k (ih t (answers q) g) (held_parts ts k h))

    held_field_parts : (fs : Fields) (r : Result (List (Text × PartialValue)) Failure) → Rules.FieldParts G fs r →
        HeldResultAt r
    held_field_parts no_fields r h = subst HeldResultAt (sym h) tt
    held_field_parts (one_field l t fs) r (fails e, g, h) = subst HeldResultAt (sym h) tt
    held_field_parts (one_field l t fs) r (answers q, g, (k, h, e)) =
        subst HeldResultAt (sym e) (held_then_at l q k (ih t (answers q) g) (held_field_parts fs k h))

    held_best : (x : Answer) (t : Term) (Next : Term → Answer → Type 0) (a : Answer) →
        Rules.AfterBest (Rules.best x t) Next a → ((u : Term) → Next u a → Held a) → Held a
    unfolding Rules.best Rules.best_of_kind
    held_best (answers p) t Next a h f = f (part_expression p) h
    held_best (fails e) t Next a h f = by (failure_kind e) h
      where
        by : (k : FailureKind) → Rules.AfterBest (Rules.best_of_kind k e t) Next a → Held a
        by (of_meaning k) j = f t j
        by of_residual j = f t j
        by of_limit j = held_by a (fails e) j tt
        by of_memory j = held_by a (fails e) j tt

    held_takes : (b : Option Bool) (v : Represented) (t e : Term) (a : Answer) → Rules.TakesBranch G b v t e a →
        Held a
    held_takes None v t e a r = held_by a _ r tt
    held_takes (Some true) v t e a r = ih t a r
    held_takes (Some false) v t e a r = ih e a r

    held_guard : (x : Answer) (t e : Term) (a : Answer) → Held x → Rules.Then x (Rules.AfterGuard G t e) a → Held a
    held_guard (fails f) t e a h r = held_by a (fails f) r tt
    held_guard (answers (value v)) t e a h r = held_takes (bool_of (abstract_value v)) v t e a r
    held_guard (answers (residual z)) t e a h (x, g, k) =
        held_best x t _ a k (λ t' (y, j, l). held_best y e _ a l (λ e' i. held_by a _ i (or_left _ _ h)))

    held_right : (f : Term → Term) → ((r : Term) → Holds r → Holds (f r)) → (t : Term) (a : Answer) →
        Rules.ReadsRight G f t a → Held a
    held_right f k t a (x, g, e) = held_by a _ e (held_joined f k x (ih t x g))

    held_beside_kept : (f : Term → Term) → ((u : Term) → Holds (f u)) → (t : Term) (a : Answer) →
        Rules.KeepsRight G f t a → Held a
    held_beside_kept f k t a (x, g, l) = held_best x t _ a l (λ u i. held_by a _ i (k u))

    held_and_bool : (b : Option Bool) (v : Represented) (t : Term) (a : Answer) → Rules.AndLeft G b v t a → Held a
    held_and_bool None v t a r = held_by a _ r tt
    held_and_bool (Some true) v t a r = held_right _ (λ q f. f) t a r
    held_and_bool (Some false) v t a r = held_by a _ r tt

    held_and : (x : Answer) (t : Term) (a : Answer) → Held x → Rules.Then x (Rules.AfterAndLeft G t) a → Held a
    held_and (fails e) t a h r = held_by a (fails e) r tt
    held_and (answers (value v)) t a h r = held_and_bool (bool_of (abstract_value v)) v t a r
    held_and (answers (residual z)) t a h r = held_beside_kept (both z) (λ u. or_left _ _ h) t a r

    held_or_bool : (b : Option Bool) (v : Represented) (t : Term) (a : Answer) → Rules.OrLeft G b v t a → Held a
    held_or_bool None v t a r = held_by a _ r tt
    held_or_bool (Some true) v t a r = held_by a _ r tt
    held_or_bool (Some false) v t a r = held_right _ (λ q f. f) t a r

    held_or : (x : Answer) (t : Term) (a : Answer) → Held x → Rules.Then x (Rules.AfterOrLeft G t) a → Held a
    held_or (fails e) t a h r = held_by a (fails e) r tt
    held_or (answers (value v)) t a h r = held_or_bool (bool_of (abstract_value v)) v t a r
    held_or (answers (residual z)) t a h r = held_beside_kept (either z) (λ u. or_left _ _ h) t a r

    held_left : (op : BinaryOperator) (x : Answer) (t : Term) (a : Answer) → Held x → Rules.Then x (Rules.AfterLeft G s op t) a →
        Held a
    held_left op (fails e) t a h r = held_by a (fails e) r tt
    held_left op (answers p) t a h (y, g, e) =
        resolving.resolved G Held s.resolution (Rules.beside_residual s.store op p y) _ a
        (held_beside op p y h (ih t y g)) (λ u d i. ih u a) e

    held_step : (z : Operators.Walk) → operands.AllStep s AnyValue AnyValue Holds AnyFailure facts z →
        resolving.StopsWith G Held z
    held_step (Operators.walks_on v) h = tt
    held_step (Operators.stops a) h = h

    held_goes : (x : Answer) (l : Text) (ls : List Text) → Held x → resolving.ReadStopsWith G Held x l ls
    held_goes (fails e) l ls h = tt
    held_goes (answers (value v)) l ls h = tt
    held_goes (answers (residual r)) l ls h = h

    held_path : (d : Resolution) (x : Answer) (k : Text) (ks : List Text) (a : Answer) → Held x →
        Rules.AtPath G d s.store x k ks a → Held a
    held_path shallow x k ks a h e =
        held_by a _ e (held_on_part _ _ (λ v. operands.path_all s AnyValue AnyValue Holds AnyFailure facts ks v k)
        (λ r h. h) x h)
    held_path deep (fails e) k ks a h g = held_by a (fails e) g tt
    held_path deep (answers (value v)) k ks a h g =
        resolving.walks G Held s.store (operands.last_all s AnyValue AnyValue Holds AnyFailure facts)
        (λ u l m ls e. held_step _ (operands.step_in_all s AnyValue AnyValue Holds AnyFailure facts u l m ls))
        (λ t i x j l ls. held_goes x l ls (ih t x j)) ks v k a g
    held_path deep (answers (residual r)) k ks a h g = held_by a _ g h

    held_projects : (b : Bool) (r : Term) (k : Text) (part : Term) (a : Answer) → Holds r →
        Rules.Projects G b r k part a → Held a
    held_projects true r k part a h j = ih part a j
    held_projects false r k part a h j = held_by a _ j h

    held_at_key : (o : Option Term) (fs : Fields) (r : Term) (k : Text) (a : Answer) → Holds r →
        Rules.AtKey G o fs r k a → Held a
    held_at_key None fs r k a h j = held_by a _ j tt
    held_at_key (Some part) fs r k a h j = held_projects (is_projectable r) r k part a h j

    held_at_fields : (o : Option Fields) (r : Term) (k : Text) (a : Answer) → Holds r → Rules.AtFields G o r k a →
        Held a
    held_at_fields None r k a h j = held_by a _ j h
    held_at_fields (Some fs) r k a h j = held_at_key (Operators.term_at k fs) fs r k a h j

    held_attribute : (x : Answer) (k : Text) (a : Answer) → Held x → Rules.Then x (Rules.AtAttribute G s k) a → Held a
    held_attribute (fails e) k a h j = held_by a (fails e) j tt
    held_attribute (answers (value v)) k a h j =
        resolving.resolved G Held s.resolution (Operators.attribute_residual s.store v k) _ a
        (operands.attribute_all s AnyValue AnyValue Holds AnyFailure facts v k tt) (λ u d i. ih u a) j
    held_attribute (answers (residual r)) k a h j = held_at_fields (Rules.fields_of_record r) r k a h j

    held_rule : (t : Term) (a : Answer) → Rules.Rule s calls G t a → Held a
    held_rule (literal l) a r = held_by a _ r tt
    held_rule (variable v) a r = held_by a _ r (held_variable v)
    held_rule (slot i) a r = held_by a _ r (held_slot i (s.slots i))
    held_rule (unknown n t) a r =
        held_by a _ r (operands.unknown_all s AnyValue AnyValue Holds AnyFailure facts n t (λ e. refl))
    held_rule (if_then_else c t e) a (x, g, k) = held_guard x t e a (ih c x g) k
    held_rule (both t u) a (x, g, k) = held_and x u a (ih t x g) k
    held_rule (either t u) a (x, g, k) = held_or x u a (ih t x g) k
    held_rule (unary op t) a (x, g, e) =
        held_by a _ e (held_on_part _ _ (operands.unary_all s AnyValue AnyValue Holds AnyFailure facts op)
        (λ r h. h) x (ih t x g))
    held_rule (binary op t u) a (x, g, k) = held_left op x u a (ih t x g) k
    held_rule (call f ts) a (r, g, k) = held_arguments f r a (held_parts ts r g) k
    held_rule (get_attribute t k) a (x, g, j) = held_attribute x k a (ih t x g) j
    held_rule (has_attribute t k) a (x, g, e) = held_by a _ e (held_has k x (ih t x g))
    held_rule (extended_has t k ks) a (x, g, e) =
        held_path s.resolution x k ks a (ih t x g) e
    held_rule (like t p) a (x, g, e) =
        held_by a _ e (held_on_part _ _ (operands.like_all s AnyValue AnyValue Holds AnyFailure facts p) (λ r h. h) x
        (ih t x g))
    held_rule (is_of_type t k) a (x, g, e) = held_by a _ e (held_is k x (ih t x g))
    held_rule (set_of ts) a (r, g, e) = held_by a _ e (held_set r (held_parts ts r g))
    held_rule (record_of fs) a (r, g, e) = held_by a _ e (held_record r (held_field_parts fs r g))

  runs_held : (n : ℕ) (t : Term) (a : Answer) → Rules.Runs s calls n t a → Held a
  runs_held zero t a r = held_by a limit r tt
  runs_held (suc n) t a r = held_rule (Rules.Runs s calls n) (runs_held n) t a r

  pub holds_unknown : (t r : Term) → Rules.Allows s calls t (answers (residual r)) → has_unknown r ≡ true
  holds_unknown t r (ne, n, g) = runs_held n t (answers (residual r)) g
