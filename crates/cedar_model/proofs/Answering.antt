-- Answers that are no residual: from parts whose answers are none to the whole.
use Rattle.std.specs.Prelude.{◌≡◌, ◌≢◌, ℕ, zero, suc, ◌==◌, Bool, true, false, cond, List, [], ◌∷◌, length, map}
use Rattle.std.specs.Prelude.{Option, Some, None, Result, Ok, Err, is_some}
use Rattle.std.proofs.Common.{refl, sym, ap, subst}
use Rattle.std.proofs.lemmas.Bool.{and_parts}
use Rattle.cedar_model.specs.Terms.{Text, bool_literal, Variable, principal, action, resource, context, Slot}
use Rattle.cedar_model.specs.Terms.{ValueType, BinaryOperator, eq_operator, less_operator, less_eq_operator}
use Rattle.cedar_model.specs.Terms.{add_operator, sub_operator, mul_operator, in_operator, contains_operator}
use Rattle.cedar_model.specs.Terms.{contains_all_operator, contains_any_operator, get_tag_operator, has_tag_operator}
use Rattle.cedar_model.specs.Terms.{Term, literal, variable, slot, unknown, if_then_else}
use Rattle.cedar_model.specs.Terms.{both, either, unary, binary, call, get_attribute, has_attribute, extended_has}
use Rattle.cedar_model.specs.Terms.{like, is_of_type, set_of, record_of, Terms, no_terms, one_term, Fields, no_fields}
use Rattle.cedar_model.specs.Terms.{one_field}
use Rattle.cedar_model.specs.Values.{AbstractValue, plain, Represented, abstract_value}
use Rattle.cedar_model.specs.Shapes.{is_restricted, are_restricted, are_restricted_at}
use Rattle.cedar_model.specs.Outcomes.{Outcome, bool_of, type_eq, value_type}
use Rattle.cedar_model.specs.World.{World, FunctionAnswer, function_asks, Functions}
use Rattle.cedar_model.specs.Failures.{Failure, PartialValue, value, residual, Answer, answers, fails, answers_value}
use Rattle.cedar_model.specs.Failures.{wrong_type, limit}
use Rattle.cedar_model.specs.Settings.{Entry, known_entry, unknown_entry, ContextPart, absent_context, known_context}
use Rattle.cedar_model.specs.Settings.{residual_context, StoredEntity, Resolution, shallow, deep, Setting}
use Rattle.cedar_model.specs.Settings.{entry_part}
use Rattle.cedar_model.specs.Settings.{context_value, variable_part}
use Rattle.cedar_model.specs.Operators
use Rattle.cedar_model.specs.Rules
use Rattle.cedar_model.specs.Agreement
use Rattle.cedar_model.specs.Meaning
use Rattle.cedar_model.specs.Progress
use Rattle.cedar_model.proofs.Means
use Rattle.cedar_model.proofs.OwnWorld
use Rattle.cedar_model.proofs.Resolving as resolving
use Rattle.cedar_model.proofs.Resolving.{IsStored, none_read, each_stored, attribute_is_stored}
use Rattle.cedar_model.proofs.Resolving.{beside_is_stored}
use Rattle.cedar_model.proofs.Unread as unread
use Rattle.cedar_model.proofs.Unread.{IsNoResidual, concrete_found}
use Rattle.cedar_model.proofs.Injections.{false_is_not_true}

by_equal : (a b : Answer) → a ≡ b → IsNoResidual b → IsNoResidual a
by_equal a b e h = subst IsNoResidual (sym e) h

-- ---- parts

-- all parts are values, or one of them errs
abbrev ValuesOr : Result (List PartialValue) Failure → Type 0
ValuesOr (Ok ps) = (vs : List Represented) × (Rules.values_of_parts ps ≡ Some vs)
ValuesOr (Err e) = Unit {0}

abbrev FieldValuesOr : Result (List (Text × PartialValue)) Failure → Type 0
FieldValuesOr (Ok ps) = (vs : List (Text × Represented)) × (Rules.values_of_field_parts ps ≡ Some vs)
FieldValuesOr (Err e) = Unit {0}

module _ (G : Rules.MayAnswer) (Good : Term → Type 0) (ih : (t : Term) (x : Answer) → Good t → G t x
    → IsNoResidual x) where
  abbrev pub EachGood : Terms → Type 0
  EachGood no_terms = Unit {0}
  EachGood (one_term t ts) = Good t × EachGood ts

  abbrev pub EachGoodAt : Fields → Type 0
  EachGoodAt no_fields = Unit {0}
  EachGoodAt (one_field k t fs) = Good t × EachGoodAt fs

  then_values : (v : Represented) (r : Result (List PartialValue) Failure) → ValuesOr r
      → ValuesOr (Rules.part_then (value v) r)
  unfolding Rules.part_then Rules.values_of_parts Rules.add_value
  then_values v (Ok ps) h = (v ∷ h.0, ap (Rules.add_value (value v)) h.1)
  then_values v (Err e) h = tt

  part_values : (Rest : Result (List PartialValue) Failure → Type 0)
      → ((r : Result (List PartialValue) Failure) → Rest r → ValuesOr r)
      → (x : Answer) (r : Result (List PartialValue) Failure) → IsNoResidual x → Rules.AfterPart G x Rest r → ValuesOr r
  part_values Rest rest (fails e) r k h = subst ValuesOr (sym h) tt
  part_values Rest rest (answers (value v)) r k (i, g, e) = subst ValuesOr (sym e) (then_values v i (rest i g))
  part_values Rest rest (answers (residual t)) r k h = absurd k

  pub parts_values : (ts : Terms) (r : Result (List PartialValue) Failure) → EachGood ts → Rules.Parts G ts r
      → ValuesOr r
  unfolding Rules.values_of_parts
  parts_values no_terms r k h = subst ValuesOr (sym h) ([], refl)
  parts_values (one_term t ts) r k (x, g, h) =
      part_values (Rules.Parts G ts) (λ q j. parts_values ts q k.1 j) x r (ih t x k.0 g) h

  then_field_values : (l : Text) (v : Represented) (r : Result (List (Text × PartialValue)) Failure) → FieldValuesOr r
      → FieldValuesOr (Rules.field_part_then l (value v) r)
  unfolding Rules.field_part_then Rules.values_of_field_parts Rules.add_value_at
  then_field_values l v (Ok ps) h = ((l, v) ∷ h.0, ap (Rules.add_value_at l (value v)) h.1)
  then_field_values l v (Err e) h = tt

  field_part_values : (l : Text) (Rest : Result (List (Text × PartialValue)) Failure → Type 0)
      → ((r : Result (List (Text × PartialValue)) Failure) → Rest r → FieldValuesOr r)
      → (x : Answer) (r : Result (List (Text × PartialValue)) Failure) → IsNoResidual x
      → Rules.AfterFieldPart G l x Rest r → FieldValuesOr r
  field_part_values l Rest rest (fails e) r k h = subst FieldValuesOr (sym h) tt
  field_part_values l Rest rest (answers (value v)) r k (i, g, e) =
      subst FieldValuesOr (sym e) (then_field_values l v i (rest i g))
  field_part_values l Rest rest (answers (residual t)) r k h = absurd k

  pub field_parts_values : (fs : Fields) (r : Result (List (Text × PartialValue)) Failure) → EachGoodAt fs
      → Rules.FieldParts G fs r → FieldValuesOr r
  unfolding Rules.values_of_field_parts
  field_parts_values no_fields r k h = subst FieldValuesOr (sym h) ([], refl)
  field_parts_values (one_field l t fs) r k (x, g, h) =
      field_part_values l (Rules.FieldParts G fs) (λ q j. field_parts_values fs q k.1 j) x r (ih t x k.0 g) h

pub set_values : (r : Result (List PartialValue) Failure) → ValuesOr r → IsNoResidual (Rules.set_answer r)
unfolding Rules.set_answer Rules.set_of_parts
set_values (Ok ps) (vs, e) = subst (λ o. IsNoResidual (Rules.set_of_parts o ps)) (sym e) tt
set_values (Err e) h = tt

pub record_values : (r : Result (List (Text × PartialValue)) Failure) → FieldValuesOr r
    → IsNoResidual (Rules.record_answer r)
unfolding Rules.record_answer Rules.record_of_parts
record_values (Ok ps) (vs, e) = subst (λ o. IsNoResidual (Rules.record_of_parts o ps)) (sym e) tt
record_values (Err e) h = tt

-- ---- calls

module _ (ans : Functions) (calls : Rules.StoredCalls) (agree : Agreement.AgreesWithFunctions ans calls) where
  function_values : (a : Answer) (b : FunctionAnswer) → Agreement.function_answer a ≡ Some b
      → ((n : Text) (t : Option ValueType) → b ≢ function_asks n t) → IsNoResidual a
  unfolding Agreement.function_answer
  function_values (answers (value v)) b e h = tt
  function_values (fails f) b e h = tt
  function_values (answers (residual (unknown n t))) b e h = absurd
      (h n t (let g : function_asks n t ≡ b = cc in sym g))
  function_values (answers (residual (literal l))) b e h = absurd (cc)
  function_values (answers (residual (variable v))) b e h = absurd (cc)
  function_values (answers (residual (slot i))) b e h = absurd (cc)
  function_values (answers (residual (if_then_else x y z))) b e h = absurd (cc)
  function_values (answers (residual (both x y))) b e h = absurd (cc)
  function_values (answers (residual (either x y))) b e h = absurd (cc)
  function_values (answers (residual (unary op x))) b e h = absurd (cc)
  function_values (answers (residual (binary op x y))) b e h = absurd (cc)
  function_values (answers (residual (call g ts))) b e h = absurd (cc)
  function_values (answers (residual (get_attribute x k))) b e h = absurd (cc)
  function_values (answers (residual (has_attribute x k))) b e h = absurd (cc)
  function_values (answers (residual (extended_has x k ks))) b e h = absurd (cc)
  function_values (answers (residual (like x p))) b e h = absurd (cc)
  function_values (answers (residual (is_of_type x t))) b e h = absurd (cc)
  function_values (answers (residual (set_of ts))) b e h = absurd (cc)
  function_values (answers (residual (record_of fs))) b e h = absurd (cc)

  counts_values : (b : Bool) (n : ℕ) (f : Text) (vs : List Represented) (a : Answer) → Agreement.NeverAsks ans f
      → Rules.Counts calls b n f vs a → IsNoResidual a
  counts_values true n f vs a k h = function_values a (ans f (map abstract_value vs)) (agree f vs a h)
      (λ m t. k (map abstract_value vs) m t)
  counts_values false n f vs a k h = by_equal a _ h tt

  looks_values : (o : Option ℕ) (f : Text) (vs : List Represented) (a : Answer) → Agreement.NeverAsks ans f
      → Rules.LooksUp calls o f vs a → IsNoResidual a
  looks_values None f vs a k h = by_equal a _ h tt
  looks_values (Some n) f vs a k h = counts_values (length vs == n) n f vs a k h

  pub call_values : (arity : Text → Option ℕ) (f : Text) (r : Result (List PartialValue) Failure) (a : Answer)
      → Agreement.NeverAsks ans f → ValuesOr r → Rules.AfterArguments calls arity f r a → IsNoResidual a
  call_values arity f (Err e) a k v h = by_equal a _ h tt
  call_values arity f (Ok ps) a k (vs, e) h =
      looks_values (arity f) f vs a k (subst (λ o. Rules.AfterValues calls arity o f ps a) e h)

  -- ---- restricted expressions without unknowns, whatever the request and the store

  module _ (s : Setting) where
    abbrev pub IsPlain : Term → Type 0
    IsPlain t = Agreement.IsKnown ans t × (is_restricted t ≡ true)

    module _ (G : Rules.MayAnswer) (ih : (t : Term) (x : Answer) → IsPlain t → G t x → IsNoResidual x) where
      plain_each : (ts : Terms) → Agreement.AreKnown ans ts → are_restricted ts ≡ true → EachGood G IsPlain ih ts
      plain_each no_terms k h = tt
      plain_each (one_term t ts) k h =
          let z = and_parts (is_restricted t) (are_restricted ts) h in ((k.0, z.0), plain_each ts k.1 z.1)

      plain_each_at : (fs : Fields) → Agreement.AreKnownAt ans fs → are_restricted_at fs ≡ true
          → EachGoodAt G IsPlain ih fs
      plain_each_at no_fields k h = tt
      plain_each_at (one_field l t fs) k h =
          let z = and_parts (is_restricted t) (are_restricted_at fs) h in ((k.0, z.0), plain_each_at fs k.1 z.1)

      plain_rule : (t : Term) (a : Answer) → IsPlain t → Rules.Rule s calls G t a → IsNoResidual a
      plain_rule (literal l) a k r = by_equal a _ r tt
      plain_rule (unknown n t) a k r = absurd k.0
      plain_rule (call f ts) a k (r, g, h) =
          call_values s.extensions.arity f r a k.0.0 (parts_values G IsPlain ih ts r (plain_each ts k.0.1 k.1) g) h
      plain_rule (set_of ts) a k (r, g, e) =
          by_equal a _ e (set_values r (parts_values G IsPlain ih ts r (plain_each ts k.0 k.1) g))
      plain_rule (record_of fs) a k (r, g, e) =
          by_equal a _ e (record_values r (field_parts_values G IsPlain ih fs r (plain_each_at fs k.0 k.1) g))
      plain_rule (variable v) a k r = absurd (false_is_not_true k.1)
      plain_rule (slot i) a k r = absurd (false_is_not_true k.1)
      plain_rule (if_then_else x y z) a k r = absurd (false_is_not_true k.1)
      plain_rule (both x y) a k r = absurd (false_is_not_true k.1)
      plain_rule (either x y) a k r = absurd (false_is_not_true k.1)
      plain_rule (unary op x) a k r = absurd (false_is_not_true k.1)
      plain_rule (binary op x y) a k r = absurd (false_is_not_true k.1)
      plain_rule (get_attribute x l) a k r = absurd (false_is_not_true k.1)
      plain_rule (has_attribute x l) a k r = absurd (false_is_not_true k.1)
      plain_rule (extended_has x l ls) a k r = absurd (false_is_not_true k.1)
      plain_rule (like x p) a k r = absurd (false_is_not_true k.1)
      plain_rule (is_of_type x t) a k r = absurd (false_is_not_true k.1)

    pub plain_runs : (n : ℕ) (t : Term) (a : Answer) → IsPlain t → Rules.Runs s calls n t a → IsNoResidual a
    plain_runs zero t a k r = by_equal a limit r tt
    plain_runs (suc n) t a k r = plain_rule (Rules.Runs s calls n) (plain_runs n) t a k r

  -- ---- expressions whose unknowns the map names, where nothing else is unknown

  -- the entries and the context are known, the store is concrete, and no residual is answered from it
  pub record IsReady (s : Setting) : Type 0 where
    pub principal_known : Agreement.IsKnownEntry s.request.principal_entry
    pub action_known : Agreement.IsKnownEntry s.request.action_entry
    pub resource_known : Agreement.IsKnownEntry s.request.resource_entry
    pub context_known : Agreement.IsKnownContext s.request.context_part
    pub store_concrete : s.store.is_partial ≡ false
    pub store_ready : Agreement.EachStored (Progress.LeavesNoResidual ans s.map s.resolution) s.store

  module _ (s : Setting) (ready : IsReady s) where
    -- with shallow resolution nothing that is stored is a residual
    shallow_none : s.resolution ≡ shallow → (t : Term) → IsStored s.store t → ⊥
    shallow_none d t i =
        subst (λ r. Progress.LeavesNoResidual ans s.map r (residual t)) d
        (each_stored (Progress.LeavesNoResidual ans s.map s.resolution) s.store ready.store_ready t i)

    -- with deep resolution the map names its unknowns
    deep_named : s.resolution ≡ deep → (t : Term) → IsStored s.store t → Progress.IsNamed ans s.map t
    deep_named d t i =
        subst (λ r. Progress.LeavesNoResidual ans s.map r (residual t)) d
        (each_stored (Progress.LeavesNoResidual ans s.map s.resolution) s.store ready.store_ready t i)

    -- the same, where nothing is stored
    abbrev bare : Setting
    bare = record {
      request = s.request;
      store = record { entity = λ e. None; is_partial = false };
      map = s.map;
      slots = s.slots;
      extensions = s.extensions;
      resolution = s.resolution;
    }

    nothing_stored : (x : StoredEntity) → None ≡ Some x → ⊥
    nothing_stored x e = cc

    known : Agreement.HasNothingUnknown bare
    known = record {
      principal_known = ready.principal_known;
      action_known = ready.action_known;
      resource_known = ready.resource_known;
      context_known = ready.context_known;
      store_concrete = refl;
      store_known = λ e x k p f. absurd (nothing_stored x f);
    }

    abbrev sigma : Text → AbstractValue
    sigma n = plain (bool_literal false)

    abbrev w : World
    w = Agreement.own_world bare sigma

    abbrev Any : Represented → Type 0
    Any v = Unit {0}

    abbrev NoTerm : Term → Outcome → Type 0
    NoTerm r o = ⊥

    abbrev AnyError : Failure → Outcome → Type 0
    AnyError e o = Unit {0}

    stored : (p : PartialValue) → Agreement.IsValue p → Means.StoredWell ans w bare Any NoTerm AnyError p
    stored (value v) h = tt
    stored (residual t) h = absurd h

    well : Means.ValuesWell ans w bare Any NoTerm AnyError
    well = record {
      plain_well = λ l. tt;
      part_well = λ fs k v f e. tt;
      errs_well = λ e k h. tt;
      store_agrees = OwnWorld.own_store ans bare sigma known;
      stored_well = λ d x k p e. (
        λ h. stored p ((known.store_known d x k p e).0 h),
        λ h. stored p
            ((known.store_known d x k p e).1 h),
      );
      missing_well = λ d h. absurd (concrete_found None false refl h);
      unknown_well = λ n t h. absurd (h.1 (unknown n t) _ (λ g. g) refl);
    }

    no_residual : (a : Answer) (o : Outcome) → Means.Sound Any NoTerm AnyError a o → IsNoResidual a
    no_residual (answers (value v)) o h = tt
    no_residual (answers (residual t)) o h = absurd h
    no_residual (fails e) o h = tt

    on_part_values : (f : Represented → Answer) (h : Term → Term) (x : Answer)
        → ((v : Represented) → IsNoResidual (f v)) → IsNoResidual x → IsNoResidual (Rules.on_part f h x)
    unfolding Rules.on_part
    on_part_values f h (answers (value v)) k i = k v
    on_part_values f h (answers (residual t)) k i = absurd i
    on_part_values f h (fails e) k i = tt

    joined_values : (h : Term → Term) (x : Answer) → IsNoResidual x → IsNoResidual (Rules.joined h x)
    unfolding Rules.joined Rules.bool_or_failure
    joined_values h (answers (value v)) k = by (bool_of (abstract_value v))
      where
        by : (o : Option Bool) → IsNoResidual (Rules.bool_or_failure o v)
        by None = tt
        by (Some b) = tt
    joined_values h (answers (residual t)) k = absurd k
    joined_values h (fails e) k = tt

    entry_values : (e : Entry) (name : Text) → Agreement.IsKnownEntry e → IsNoResidual (answers (entry_part e name))
    unfolding entry_part
    entry_values (known_entry e) name k = tt
    entry_values (unknown_entry t) name k = absurd k

    context_values : (c : ContextPart) → Agreement.IsKnownContext c → IsNoResidual (answers (context_value c))
    unfolding context_value
    context_values absent_context k = absurd k
    context_values (known_context fs) k = tt
    context_values (residual_context fs) k = absurd k

    variable_values : (v : Variable) → IsNoResidual (answers (variable_part s.request v))
    unfolding variable_part
    variable_values principal = entry_values s.request.principal_entry _ known.principal_known
    variable_values action = entry_values s.request.action_entry _ known.action_known
    variable_values resource = entry_values s.request.resource_entry _ known.resource_known
    variable_values context = context_values s.request.context_part known.context_known

    slot_values : (i : Slot) (o : Option _) → IsNoResidual (Operators.slot_answer i o)
    unfolding Operators.slot_answer
    slot_values i None = tt
    slot_values i (Some e) = tt

    unknown_values : (n : Text) (t : Option ValueType) (o : Option Represented) → is_some o ≡ true
        → IsNoResidual (Operators.mapped o n t)
    unfolding Operators.mapped Operators.typed_value
    unknown_values n t None h = absurd (false_is_not_true h)
    unknown_values n None (Some v) h = tt
    unknown_values n (Some t) (Some v) h = by (type_eq (value_type (abstract_value v)) t)
      where
        by : (b : Bool) → IsNoResidual (cond b (answers_value v) (fails (wrong_type t [] (abstract_value v))))
        by true = tt
        by false = tt

    abbrev IsNamed : Term → Type 0
    IsNamed = Progress.IsNamed ans s.map

    module _ (G : Rules.MayAnswer) (ih : (t : Term) (x : Answer) → IsNamed t → G t x → IsNoResidual x) where
      named_each : (ts : Terms) → Progress.AreNamed ans s.map ts → EachGood G IsNamed ih ts
      named_each no_terms k = tt
      named_each (one_term t ts) k = (k.0, named_each ts k.1)

      named_each_at : (fs : Fields) → Progress.AreNamedAt ans s.map fs → EachGoodAt G IsNamed ih fs
      named_each_at no_fields k = tt
      named_each_at (one_field l t fs) k = (k.0, named_each_at fs k.1)

      takes_values : (b : Option Bool) (v : Represented) (t e : Term) (a : Answer) → IsNamed t → IsNamed e
          → Rules.TakesBranch G b v t e a → IsNoResidual a
      takes_values None v t e a kt ke r = by_equal a _ r tt
      takes_values (Some true) v t e a kt ke r = ih t a kt r
      takes_values (Some false) v t e a kt ke r = ih e a ke r

      guard_values : (x : Answer) (t e : Term) (a : Answer) → IsNamed t → IsNamed e → IsNoResidual x
          → Rules.Then x (Rules.AfterGuard G t e) a → IsNoResidual a
      guard_values (fails f) t e a kt ke i r = by_equal a _ r tt
      guard_values (answers (value v)) t e a kt ke i r = takes_values (bool_of (abstract_value v)) v t e a kt ke r
      guard_values (answers (residual q)) t e a kt ke i r = absurd i

      right_values : (h : Term → Term) (t : Term) (a : Answer) → IsNamed t → Rules.ReadsRight G h t a → IsNoResidual a
      right_values h t a k (x, g, e) = by_equal a _ e (joined_values h x (ih t x k g))

      and_values : (b : Option Bool) (v : Represented) (t : Term) (a : Answer) → IsNamed t → Rules.AndLeft G b v t a
          → IsNoResidual a
      and_values None v t a k r = by_equal a _ r tt
      and_values (Some true) v t a k r = right_values _ t a k r
      and_values (Some false) v t a k r = by_equal a _ r tt

      after_and : (x : Answer) (t : Term) (a : Answer) → IsNamed t → IsNoResidual x → Rules.Then x (Rules.AfterAndLeft G t) a
          → IsNoResidual a
      after_and (fails e) t a k i r = by_equal a _ r tt
      after_and (answers (value v)) t a k i r = and_values (bool_of (abstract_value v)) v t a k r
      after_and (answers (residual q)) t a k i r = absurd i

      or_values : (b : Option Bool) (v : Represented) (t : Term) (a : Answer) → IsNamed t → Rules.OrLeft G b v t a
          → IsNoResidual a
      or_values None v t a k r = by_equal a _ r tt
      or_values (Some true) v t a k r = by_equal a _ r tt
      or_values (Some false) v t a k r = right_values _ t a k r

      after_or : (x : Answer) (t : Term) (a : Answer) → IsNamed t → IsNoResidual x → Rules.Then x (Rules.AfterOrLeft G t) a
          → IsNoResidual a
      after_or (fails e) t a k i r = by_equal a _ r tt
      after_or (answers (value v)) t a k i r = or_values (bool_of (abstract_value v)) v t a k r
      after_or (answers (residual q)) t a k i r = absurd i

      bare_values : (op : BinaryOperator) (v u : Represented) → IsNoResidual (Operators.binary_answer bare op v u)
      bare_values op v u =
          no_residual (Operators.binary_answer bare op v u)
          (Meaning.binary_meaning s.extensions w op (abstract_value v) (abstract_value u))
          (Means.binary_means ans w bare Any NoTerm AnyError well op v u tt)

      -- two values that read no stored residual
      binary_values : (op : BinaryOperator) (v u : Represented) → Operators.binary_residual s.store op v u ≡ None
          → IsNoResidual (Operators.binary_answer s op v u)
      unfolding Operators.binary_answer Operators.binary_residual
      binary_values eq_operator v u h = bare_values eq_operator v u
      binary_values less_operator v u h = bare_values less_operator v u
      binary_values less_eq_operator v u h = bare_values less_eq_operator v u
      binary_values add_operator v u h = bare_values add_operator v u
      binary_values sub_operator v u h = bare_values sub_operator v u
      binary_values mul_operator v u h = bare_values mul_operator v u
      binary_values in_operator v u h = unread.in_values s ready.store_concrete v u
      binary_values contains_operator v u h = bare_values contains_operator v u
      binary_values contains_all_operator v u h = bare_values contains_all_operator v u
      binary_values contains_any_operator v u h = bare_values contains_any_operator v u
      binary_values get_tag_operator v u h =
          unread.tag_values s ready.store_concrete (abstract_value v) (abstract_value u) h
      binary_values has_tag_operator v u h =
          unread.has_tag_values s ready.store_concrete (abstract_value v) (abstract_value u)

      beside_values : (op : BinaryOperator) (v : Represented) (y : Answer) → IsNoResidual y
          → Rules.beside_residual s.store op (value v) y ≡ None
          → IsNoResidual (Rules.binary_beside s op (value v) y)
      unfolding Rules.binary_beside Rules.binary_of_parts Rules.beside_residual
      beside_values op v (answers (value u)) i h = binary_values op v u h
      beside_values op v (answers (residual q)) i h = absurd i
      beside_values op v (fails e) i h = tt

      -- what a look-up answers, where what is read has its unknowns named
      look_up_values : (o : Option Term) (x a : Answer) → ((t : Term) → o ≡ Some t → IsStored s.store t)
          → (o ≡ None → IsNoResidual x) → Rules.Resolves G s.resolution o x a → IsNoResidual a
      look_up_values o x a i f h =
          resolving.resolved_by G IsNoResidual s.resolution o x a
          (λ d. f (none_read o (λ t e. shallow_none d t (i t e)))) f
          (λ t d e g. ih t a (deep_named d t (i t e)) g) h

      after_left : (op : BinaryOperator) (x : Answer) (t : Term) (a : Answer) → IsNamed t → IsNoResidual x
          → Rules.Then x (Rules.AfterLeft G s op t) a → IsNoResidual a
      after_left op (fails e) t a k i r = by_equal a _ r tt
      after_left op (answers (value v)) t a k i (y, g, e) =
          look_up_values (Rules.beside_residual s.store op (value v) y) _ a (beside_is_stored s.store op (value v) y)
          (beside_values op v y (ih t y k g)) e
      after_left op (answers (residual q)) t a k i r = absurd i

      after_attribute : (x : Answer) (l : Text) (a : Answer) → IsNoResidual x → Rules.Then x (Rules.AtAttribute G s l) a
          → IsNoResidual a
      after_attribute (fails e) l a i r = by_equal a _ r tt
      after_attribute (answers (value v)) l a i r =
          look_up_values (Operators.attribute_residual s.store v l) _ a (attribute_is_stored s.store v l)
          (unread.attribute_values s ready.store_concrete v l) r
      after_attribute (answers (residual q)) l a i r = absurd i

      after_path : (d : Resolution) → s.resolution ≡ d → (x : Answer) (l : Text) (ls : List Text) (a : Answer)
          → IsNoResidual x → Rules.AtPath G d s.store x l ls a → IsNoResidual a
      after_path shallow d x l ls a i e =
          by_equal a _ e (on_part_values _ _ x
          (λ v. unread.path_values s ready.store_concrete (shallow_none d) ls v l) i)
      after_path deep d (fails f) l ls a i e = by_equal a _ e tt
      after_path deep d (answers (value v)) l ls a i e =
          unread.walks_values s ready.store_concrete G (λ t j x. ih t x (deep_named d t j)) ls v l a e
      after_path deep d (answers (residual q)) l ls a i e = absurd i

      has_values : (l : Text) (x : Answer) → IsNoResidual x → IsNoResidual (Rules.has_part s l x)
      unfolding Rules.has_part
      has_values l (answers (value v)) i = unread.has_values s ready.store_concrete v l
      has_values l (answers (residual q)) i = absurd i
      has_values l (fails e) i = tt

      is_values : (l : Text) (x : Answer) → IsNoResidual x → IsNoResidual (Rules.is_part l x)
      unfolding Rules.is_part
      is_values l (answers (value v)) i = no_residual _ _ (Means.is_means ans w bare Any NoTerm AnyError well l v)
      is_values l (answers (residual q)) i = absurd i
      is_values l (fails e) i = tt

      named_rule : (t : Term) (a : Answer) → IsNamed t → Rules.Rule s calls G t a → IsNoResidual a
      named_rule (literal l) a k r = by_equal a _ r tt
      named_rule (variable v) a k r = by_equal a _ r (variable_values v)
      named_rule (slot i) a k r = by_equal a _ r (slot_values i (s.slots i))
      named_rule (unknown n t) a k r = by_equal a _ r (unknown_values n t (s.map n) k)
      named_rule (if_then_else c t e) a k (x, g, r) = guard_values x t e a k.1 k.2 (ih c x k.0 g) r
      named_rule (both t u) a k (x, g, r) = after_and x u a k.1 (ih t x k.0 g) r
      named_rule (either t u) a k (x, g, r) = after_or x u a k.1 (ih t x k.0 g) r
      named_rule (unary op t) a k (x, g, e) =
          by_equal a _ e (on_part_values _ _ x (λ v. no_residual _ _
          (Means.unary_means ans w bare Any NoTerm AnyError well op v)) (ih t x k g))
      named_rule (binary op t u) a k (x, g, r) = after_left op x u a k.1 (ih t x k.0 g) r
      named_rule (call f ts) a k (r, g, h) =
          call_values s.extensions.arity f r a k.0 (parts_values G IsNamed ih ts r (named_each ts k.1) g) h
      named_rule (get_attribute t l) a k (x, g, r) = after_attribute x l a (ih t x k g) r
      named_rule (has_attribute t l) a k (x, g, e) = by_equal a _ e (has_values l x (ih t x k g))
      named_rule (extended_has t l ls) a k (x, g, e) =
          after_path s.resolution refl x l ls a (ih t x k g) e
      named_rule (like t p) a k (x, g, e) =
          by_equal a _ e (on_part_values _ _ x (λ v. no_residual _ _
          (Means.like_means ans w bare Any NoTerm AnyError well p v)) (ih t x k g))
      named_rule (is_of_type t l) a k (x, g, e) = by_equal a _ e (is_values l x (ih t x k g))
      named_rule (set_of ts) a k (r, g, e) =
          by_equal a _ e (set_values r (parts_values G IsNamed ih ts r (named_each ts k) g))
      named_rule (record_of fs) a k (r, g, e) =
          by_equal a _ e (record_values r (field_parts_values G IsNamed ih fs r (named_each_at fs k) g))

    pub named_runs : (n : ℕ) (t : Term) (a : Answer) → IsNamed t → Rules.Runs s calls n t a → IsNoResidual a
    named_runs zero t a k r = by_equal a limit r tt
    named_runs (suc n) t a k r = named_rule (Rules.Runs s calls n) (named_runs n) t a k r
