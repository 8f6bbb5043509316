-- Where nothing is unknown the rules give exactly the meaning, and no residual; and the need is at most the height.
use Rattle.std.specs.Prelude.{◌≡◌, ◌≢◌, ℕ, zero, suc, ◌<◌, ◌==◌, Bool, true, false, cond, List, [], ◌∷◌, map, length}
use Rattle.std.specs.Prelude.{Option, Some, None, Result, Ok, Err}
use Rattle.std.proofs.Common.{refl, sym, ap, ◌∙◌, subst, arith}
use Rattle.std.proofs.lemmas.List.{length-map}
use Rattle.cedar_model.specs.Terms.{Text, EntityName, entity_literal, Variable, principal, action, resource, context}
use Rattle.cedar_model.specs.Terms.{Slot, ValueType, BinaryOperator, Term, literal, variable, slot, unknown}
use Rattle.cedar_model.specs.Terms.{if_then_else, both, either, unary, binary, call, get_attribute, has_attribute}
use Rattle.cedar_model.specs.Terms.{extended_has, like, is_of_type, set_of, record_of, Terms, no_terms, one_term}
use Rattle.cedar_model.specs.Terms.{Fields, no_fields, one_field}
use Rattle.cedar_model.specs.Values.{AbstractValue, plain, set_value, record_value, AbstractFields, no_values_at}
use Rattle.cedar_model.specs.Values.{Represented, abstract_value, abstract_fields}
use Rattle.cedar_model.specs.Sets.{abstract_set, represented_fields_of}
use Rattle.cedar_model.specs.lemmas.Sets.{abstract_values-canonical_set}
use Rattle.cedar_model.specs.Outcomes.{ErrorKind, type_error, wrong_number_of_arguments, Outcome, gives, errs}
use Rattle.cedar_model.specs.Outcomes.{gives_bool, and_then, needing, bool_of, entity_of, text_eq}
use Rattle.cedar_model.specs.World.{World, FunctionAnswer, function_gives, function_errs, function_asks, Functions}
use Rattle.cedar_model.specs.World.{variable_value}
use Rattle.cedar_model.specs.Meaning
use Rattle.cedar_model.specs.Failures.{Failure, failure_kind, FailureKind, of_meaning, of_residual, of_limit, of_memory}
use Rattle.cedar_model.specs.Failures.{PartialValue, value, residual, Answer, answers, fails, answers_bool, limit}
use Rattle.cedar_model.specs.Settings.{Entry, known_entry, unknown_entry, ContextPart, absent_context, known_context}
use Rattle.cedar_model.specs.Settings.{residual_context, Setting, entry_part}
use Rattle.cedar_model.specs.Settings.{context_value, variable_part}
use Rattle.cedar_model.specs.Operators
use Rattle.cedar_model.specs.Rules
use Rattle.cedar_model.specs.Agreement
use Rattle.cedar_model.proofs.Means
use Rattle.cedar_model.proofs.Resolving as resolving
use Rattle.cedar_model.proofs.Resolving.{IsStored, none_is_stored, attribute_is_stored, beside_is_stored}
use Rattle.cedar_model.proofs.Determined.{kind_of_limit}
use Rattle.cedar_model.proofs.Unread.{concrete_found}

-- an error of one of the nine kinds is that of the meaning; the limit is met only as far as L says
abbrev pub KindMeans : Type 0 → FailureKind → Outcome → Type 0
KindMeans L (of_meaning k) o = o ≡ errs k
KindMeans L of_residual o = ⊥
KindMeans L of_limit o = L
KindMeans L of_memory o = ⊥

abbrev Any : Represented → Type 0
Any v = Unit {0}

abbrev NoResidual : Term → Outcome → Type 0
NoResidual r o = ⊥

abbrev pub Exact : Type 0 → Answer → Outcome → Type 0
Exact L a o = Means.Sound Any NoResidual (λ e p. KindMeans L (failure_kind e) p) a o

kind_up : (L M : Type 0) → (L → M) → (k : FailureKind) (o : Outcome) → KindMeans L k o → KindMeans M k o
kind_up L M f (of_meaning k) o h = h
kind_up L M f of_residual o h = h
kind_up L M f of_limit o h = f h
kind_up L M f of_memory o h = h

up : (L M : Type 0) → (L → M) → (a : Answer) (o : Outcome) → Exact L a o → Exact M a o
up L M f (answers (value v)) o h = h
up L M f (answers (residual r)) o h = h
up L M f (fails e) o h = kind_up L M f (failure_kind e) o h

kind_bind : (L M : Type 0) → (L → M) → (k : FailureKind) (o : Outcome) (next : AbstractValue → Outcome)
    → KindMeans L k o → KindMeans M k (and_then o next)
unfolding and_then
kind_bind L M f (of_meaning k) o next h = ap (λ p. and_then p next) h
kind_bind L M f of_residual o next h = h
kind_bind L M f of_limit o next h = f h
kind_bind L M f of_memory o next h = h

-- a value goes on
value_bind : (M : Type 0) (a : Answer) (v : AbstractValue) (o : Outcome) (next : AbstractValue → Outcome) → o ≡ gives v
    → Exact M a (next v) → Exact M a (and_then o next)
unfolding and_then
value_bind M a v o next e h = subst (λ p. Exact M a (and_then p next)) (sym e) h

by_equal : (M : Type 0) (a b : Answer) (o : Outcome) → a ≡ b → Exact M b o → Exact M a o
by_equal M a b o e h = subst (λ x. Exact M x o) (sym e) h

exact_bool : (M : Type 0) (b : Bool) → Exact M (answers_bool b) (gives_bool b)
exact_bool M b = (tt, refl)

-- ---- the operators on values

module _ (ans : Functions) (calls : Rules.StoredCalls) (agree : Agreement.AgreesWithFunctions ans calls) (w : World)
    (s : Setting) (known : Agreement.HasNothingUnknown s)
    (request_agrees : Agreement.AgreesWithRequest s.extensions ans w s.request)
    (store_agrees : Agreement.AgreesWithStore s.extensions ans w s.store) where
  stored : (p : PartialValue) → Agreement.IsValue p
      → Means.StoredWell ans w s Any NoResidual (λ e p. KindMeans ⊥ (failure_kind e) p) p
  stored (value v) h = tt
  stored (residual t) h = absurd h

  well : Means.ValuesWell ans w s Any NoResidual (λ e p. KindMeans ⊥ (failure_kind e) p)
  well = record {
    plain_well = λ l. tt;
    part_well = λ fs k v f e. tt;
    errs_well = λ e k h. subst (λ x. KindMeans ⊥ x (errs k)) (sym h) refl;
    store_agrees = store_agrees;
    stored_well =
        λ d x k p e. (
          λ h. stored p ((known.store_known d x k p e).0 h),
          λ h. stored p
              ((known.store_known d x k p e).1 h),
        );
    missing_well = λ d h. absurd (concrete_found (s.store.entity d) s.store.is_partial known.store_concrete h);
    unknown_well =
        λ n t h. absurd (h.1 (unknown n t) (Meaning.meaning s.extensions ans w Agreement.no_slots (unknown n t))
        (λ g. g) refl);
  }

  -- nothing that is stored is a residual
  none : (t : Term) → IsStored s.store t → ⊥
  none t i = none_is_stored s.store known.store_known t i

  -- a value operator never meets the limit
  sure : (M : Type 0) (a : Answer) (o : Outcome) → Exact ⊥ a o → Exact M a o
  sure M a o h = up ⊥ M (λ x. absurd x) a o h

  abbrev M : Term → Outcome
  M t = Meaning.meaning s.extensions ans w s.slots t

  -- ---- a layer

  module _ (n : ℕ) (G : Rules.MayAnswer)
      (ih : (t : Term) (x : Answer) → Agreement.IsKnown ans t → G t x → Exact (n < Agreement.height t) x (M t)) where
    -- a part that is lower
    abbrev Part : Type 0 → Type 0 → Type 0
    Part L P = L → P

    on_part_exact : (L P : Type 0) → (L → P)
        → (f : Represented → Answer) (h : Term → Term) (next : AbstractValue → Outcome)
        → ((v : Represented) → Exact ⊥ (f v) (next (abstract_value v))) → (x : Answer) (o : Outcome) → Exact L x o
        → Exact P (Rules.on_part f h x) (and_then o next)
    unfolding Rules.on_part
    on_part_exact L P g f h next k (answers (value v)) o (u, e) =
        value_bind P (f v) (abstract_value v) o next e (sure P (f v) (next (abstract_value v)) (k v))
    on_part_exact L P g f h next k (answers (residual r)) o z = absurd z
    on_part_exact L P g f h next k (fails e) o z = kind_bind L P g (failure_kind e) o next z

    type_exact : (P : Type 0) (v : Represented) → Exact P (Rules.bool_expected v) (errs type_error)
    unfolding failure_kind
    type_exact P v = refl

    as_bool : (P : Type 0) (v : Represented) (o : Option Bool)
        → Exact P (Rules.bool_or_failure o v) (needing o gives_bool)
    unfolding Rules.bool_or_failure needing
    as_bool P v None = type_exact P v
    as_bool P v (Some b) = exact_bool P b

    joined_exact : (L P : Type 0) → (L → P) → (h : Term → Term) (x : Answer) (o : Outcome) → Exact L x o
        → Exact P (Rules.joined h x) (Meaning.and_then_bool o gives_bool)
    unfolding Rules.joined
    joined_exact L P g h (answers (value v)) o (u, e) =
        value_bind P _ (abstract_value v) o (λ a. needing (bool_of a) gives_bool) e
        (as_bool P v (bool_of (abstract_value v)))
    joined_exact L P g h (answers (residual r)) o z = absurd z
    joined_exact L P g h (fails e) o z = kind_bind L P g (failure_kind e) o _ z

    takes_exact : (P : Type 0) (b : Option Bool) (v : Represented) (t e : Term) (a : Answer) → Agreement.IsKnown ans t
        → Agreement.IsKnown ans e → (n < Agreement.height t → P) → (n < Agreement.height e → P)
        → Rules.TakesBranch G b v t e a → Exact P a (needing b (λ c. cond c (M t) (M e)))
    unfolding needing
    takes_exact P None v t e a kt ke pt pe r = by_equal P a _ _ r (type_exact P v)
    takes_exact P (Some true) v t e a kt ke pt pe r = up _ P pt a (M t) (ih t a kt r)
    takes_exact P (Some false) v t e a kt ke pt pe r = up _ P pe a (M e) (ih e a ke r)

    guard_exact : (L P : Type 0) → (L → P) → (x : Answer) (o : Outcome) (t e : Term) (a : Answer)
        → Agreement.IsKnown ans t → Agreement.IsKnown ans e → (n < Agreement.height t → P)
        → (n < Agreement.height e → P) → Exact L x o → Rules.Then x (Rules.AfterGuard G t e) a
        → Exact P a (Meaning.and_then_bool o (λ c. cond c (M t) (M e)))
    guard_exact L P g (fails f) o t e a kt ke pt pe z r =
        by_equal P a (fails f) _ r (kind_bind L P g (failure_kind f) o _ z)
    guard_exact L P g (answers (value v)) o t e a kt ke pt pe (u, q) r =
        value_bind P a (abstract_value v) o _ q (takes_exact P (bool_of (abstract_value v)) v t e a kt ke pt pe r)
    guard_exact L P g (answers (residual q)) o t e a kt ke pt pe z r = absurd z

    right_exact : (P : Type 0) (h : Term → Term) (t : Term) (a : Answer) → Agreement.IsKnown ans t
        → (n < Agreement.height t → P) → Rules.ReadsRight G h t a → Exact P a (Meaning.and_then_bool (M t) gives_bool)
    right_exact P h t a k p (x, g, e) = by_equal P a _ _ e (joined_exact _ P p h x (M t) (ih t x k g))

    and_exact : (L P : Type 0) → (L → P) → (x : Answer) (o : Outcome) (t : Term) (a : Answer) → Agreement.IsKnown ans t
        → (n < Agreement.height t → P) → Exact L x o → Rules.Then x (Rules.AfterAndLeft G t) a
        → Exact P a (Meaning.and_then_bool o (λ c. cond c (Meaning.and_then_bool (M t) gives_bool) (gives_bool false)))
    unfolding needing
    and_exact L P g (fails f) o t a k p z r = by_equal P a (fails f) _ r (kind_bind L P g (failure_kind f) o _ z)
    and_exact L P g (answers (value v)) o t a k p (u, q) r =
        value_bind P a (abstract_value v) o _ q (by (bool_of (abstract_value v)) r)
      where
        by : (b : Option Bool) → Rules.AndLeft G b v t a
            → Exact P a (needing b (λ c. cond c (Meaning.and_then_bool (M t) gives_bool) (gives_bool false)))
        by None j = by_equal P a _ _ j (type_exact P v)
        by (Some true) j = right_exact P _ t a k p j
        by (Some false) j = by_equal P a _ _ j (exact_bool P false)
    and_exact L P g (answers (residual q)) o t a k p z r = absurd z

    or_exact : (L P : Type 0) → (L → P) → (x : Answer) (o : Outcome) (t : Term) (a : Answer) → Agreement.IsKnown ans t
        → (n < Agreement.height t → P) → Exact L x o → Rules.Then x (Rules.AfterOrLeft G t) a
        → Exact P a (Meaning.and_then_bool o (λ c. cond c (gives_bool true) (Meaning.and_then_bool (M t) gives_bool)))
    unfolding needing
    or_exact L P g (fails f) o t a k p z r = by_equal P a (fails f) _ r (kind_bind L P g (failure_kind f) o _ z)
    or_exact L P g (answers (value v)) o t a k p (u, q) r =
        value_bind P a (abstract_value v) o _ q (by (bool_of (abstract_value v)) r)
      where
        by : (b : Option Bool) → Rules.OrLeft G b v t a
            → Exact P a (needing b (λ c. cond c (gives_bool true) (Meaning.and_then_bool (M t) gives_bool)))
        by None j = by_equal P a _ _ j (type_exact P v)
        by (Some true) j = by_equal P a _ _ j (exact_bool P true)
        by (Some false) j = right_exact P _ t a k p j
    or_exact L P g (answers (residual q)) o t a k p z r = absurd z

    beside_exact : (L P : Type 0) → (L → P) → (op : BinaryOperator) (v : Represented) (y : Answer) (o : Outcome)
        → Exact L y o → Exact P (Rules.binary_beside s op (value v) y)
        (and_then o (λ u. Meaning.binary_meaning s.extensions w op (abstract_value v) u))
    unfolding Rules.binary_beside Rules.binary_of_parts
    beside_exact L P g op v (answers (value u)) o (z, e) =
        value_bind P _ (abstract_value u) o _ e
        (sure P _ _ (Means.binary_means ans w s Any NoResidual _ well op v u tt))
    beside_exact L P g op v (answers (residual r)) o z = absurd z
    beside_exact L P g op v (fails e) o z = kind_bind L P g (failure_kind e) o _ z

    left_exact : (L P : Type 0) → (L → P) → (op : BinaryOperator) (x : Answer) (o : Outcome) (t : Term) (a : Answer)
        → Agreement.IsKnown ans t → (n < Agreement.height t → P) → Exact L x o → Rules.Then x (Rules.AfterLeft G s op t) a
        → Exact P a (and_then o (λ u. and_then (M t) (λ v. Meaning.binary_meaning s.extensions w op u v)))
    left_exact L P g op (fails f) o t a k p z r = by_equal P a (fails f) _ r (kind_bind L P g (failure_kind f) o _ z)
    left_exact L P g op (answers (value v)) o t a k p (u, q) (y, j, e) =
        value_bind P a (abstract_value v) o _ q
        (by_equal P a _ _ (resolving.as_stored G s.store none s.resolution _ _ a
        (λ r. beside_is_stored s.store op (value v) y r) e) (beside_exact _ P p op v y (M t) (ih t y k j)))
    left_exact L P g op (answers (residual q)) o t a k p z r = absurd z

    attribute_exact : (L P : Type 0) → (L → P) → (k : Text) (x : Answer) (o : Outcome) (a : Answer) → Exact L x o
        → Rules.Then x (Rules.AtAttribute G s k) a → Exact P a (and_then o (λ v. Meaning.attribute_meaning w v k))
    attribute_exact L P g k (fails f) o a z r = by_equal P a (fails f) _ r (kind_bind L P g (failure_kind f) o _ z)
    attribute_exact L P g k (answers (value v)) o a (u, q) r =
        value_bind P a (abstract_value v) o _ q
        (by_equal P a _ _ (resolving.as_stored G s.store none s.resolution _ _ a
        (λ z. attribute_is_stored s.store v k z) r)
        (sure P _ _ (Means.attribute_means ans w s Any NoResidual _ well v k tt)))
    attribute_exact L P g k (answers (residual q)) o a z r = absurd z

    has_exact : (L P : Type 0) → (L → P) → (k : Text) (x : Answer) (o : Outcome) → Exact L x o
        → Exact P (Rules.has_part s k x) (and_then o (λ v. Meaning.has_meaning w v k))
    unfolding Rules.has_part
    has_exact L P g k (answers (value v)) o (u, q) =
        value_bind P _ (abstract_value v) o _ q (sure P _ _ (Means.has_means ans w s Any NoResidual _ well v k))
    has_exact L P g k (answers (residual q)) o z = absurd z
    has_exact L P g k (fails f) o z = kind_bind L P g (failure_kind f) o _ z

    is_exact : (L P : Type 0) → (L → P) → (t : Text) (x : Answer) (o : Outcome) → Exact L x o
        → Exact P (Rules.is_part t x) (and_then o
        (λ v. needing (entity_of v) (λ e. gives_bool (text_eq e.type_name t))))
    unfolding Rules.is_part
    is_exact L P g t (answers (value v)) o (u, q) =
        value_bind P _ (abstract_value v) o _ q (sure P _ _ (Means.is_means ans w s Any NoResidual _ well t v))
    is_exact L P g t (answers (residual q)) o z = absurd z
    is_exact L P g t (fails f) o z = kind_bind L P g (failure_kind f) o _ z

    -- ---- parts

    -- all parts are values, with these meanings; or the first error is that of the meanings
    abbrev ExactError : {A : Type 0} → Type 0 → FailureKind → Result A ErrorKind → Type 0
    ExactError L (of_meaning k) m = m ≡ Err k
    ExactError L of_residual m = ⊥
    ExactError L of_limit m = L
    ExactError L of_memory m = ⊥

    abbrev ExactParts : Type 0 → Result (List PartialValue) Failure → Result (List AbstractValue) ErrorKind → Type 0
    ExactParts L (Ok ps) m =
        (vs : List Represented) × (Rules.values_of_parts ps ≡ Some vs) × (m ≡ Ok (map abstract_value vs))
    ExactParts L (Err e) m = ExactError L (failure_kind e) m

    parts_up : (L P : Type 0) → (L → P)
        → (r : Result (List PartialValue) Failure) (m : Result (List AbstractValue) ErrorKind) → ExactParts L r m
        → ExactParts P r m
    parts_up L P f (Ok ps) m h = h
    parts_up L P f (Err e) m h = by (failure_kind e) h
      where
        by : (k : FailureKind) → ExactError L k m → ExactError P k m
        by (of_meaning k) g = g
        by of_residual g = g
        by of_limit g = f g
        by of_memory g = g

    first_errs : (L P : Type 0) → (L → P) → (k : FailureKind) (o : Outcome) (m : Result (List AbstractValue) ErrorKind)
        → KindMeans L k o → ExactError P k (Meaning.value_then o m)
    unfolding Meaning.value_then
    first_errs L P f (of_meaning k) o m h = ap (λ p. Meaning.value_then p m) h
    first_errs L P f of_residual o m h = h
    first_errs L P f of_limit o m h = f h
    first_errs L P f of_memory o m h = h

    rest_errs : (L : Type 0) (k : FailureKind) (v : AbstractValue) (m : Result (List AbstractValue) ErrorKind)
        → ExactError L k m → ExactError L k (Meaning.value_then (gives v) m)
    unfolding Meaning.value_then
    rest_errs L (of_meaning k) v m h = ap (Meaning.value_then (gives v)) h
    rest_errs L of_residual v m h = h
    rest_errs L of_limit v m h = h
    rest_errs L of_memory v m h = h

    then_exact : (L : Type 0) (v : Represented) (r : Result (List PartialValue) Failure)
        (m : Result (List AbstractValue) ErrorKind) → ExactParts L r m
        → ExactParts L (Rules.part_then (value v) r) (Meaning.value_then (gives (abstract_value v)) m)
    unfolding Rules.part_then Meaning.value_then Rules.values_of_parts Rules.add_value
    then_exact L v (Ok ps) m (vs, e, h) =
        (v ∷ vs, ap (Rules.add_value (value v)) e, ap (Meaning.value_then (gives (abstract_value v))) h)
    then_exact L v (Err e) m h = rest_errs L (failure_kind e) (abstract_value v) m h

    part_exact : (L P : Type 0) → (L → P)
        → (Rest : Result (List PartialValue) Failure → Type 0) (m : Result (List AbstractValue) ErrorKind)
        → ((r : Result (List PartialValue) Failure) → Rest r → ExactParts P r m)
        → (x : Answer) (o : Outcome) (r : Result (List PartialValue) Failure) → Exact L x o → Rules.AfterPart G x Rest r
        → ExactParts P r (Meaning.value_then o m)
    part_exact L P f Rest m rest (fails e) o r z h =
        subst (λ q. ExactParts P q (Meaning.value_then o m)) (sym h) (first_errs L P f (failure_kind e) o m z)
    part_exact L P f Rest m rest (answers (value v)) o r (u, q) (i, g, e) =
        subst (λ j. ExactParts P j (Meaning.value_then o m)) (sym e)
        (subst (λ p. ExactParts P (Rules.part_then (value v) i) (Meaning.value_then p m)) (sym q)
        (then_exact P v i m (rest i g)))
    part_exact L P f Rest m rest (answers (residual q)) o r z h = absurd z

    parts_exact : (ts : Terms) (r : Result (List PartialValue) Failure) → Agreement.AreKnown ans ts → Rules.Parts G ts r
        → ExactParts (n < Agreement.greatest_height ts) r (Meaning.meanings s.extensions ans w s.slots ts)
    unfolding Meaning.meaning Rules.values_of_parts
    parts_exact no_terms r k h = subst (λ q. ExactParts (n < 0) q (Ok [])) (sym h) ([], refl, refl)
    parts_exact (one_term t ts) r k (x, g, h) =
        part_exact (n < Agreement.height t) _ (λ l. omega arith) (Rules.Parts G ts)
        (Meaning.meanings s.extensions ans w s.slots ts)
        (λ q j. parts_up _ _ (λ l. omega arith) q _ (parts_exact ts q k.1 j)) x (M t) r (ih t x k.0 g) h

    -- ---- records

    abbrev abstract_pairs : List (Text × Represented) → AbstractFields
    abstract_pairs vs = abstract_fields (represented_fields_of vs)

    abbrev ExactFields : Type 0 → Result (List (Text × PartialValue)) Failure → Result AbstractFields ErrorKind → Type 0
    ExactFields L (Ok ps) m =
        (vs : List (Text × Represented)) × (Rules.values_of_field_parts ps ≡ Some vs) × (m ≡ Ok (abstract_pairs vs))
    ExactFields L (Err e) m = ExactError L (failure_kind e) m

    error_up : {A : Type 0} (L P : Type 0) → (L → P) → (k : FailureKind) (m : Result A ErrorKind) → ExactError L k m
        → ExactError P k m
    error_up L P f (of_meaning k) m g = g
    error_up L P f of_residual m g = g
    error_up L P f of_limit m g = f g
    error_up L P f of_memory m g = g

    fields_up : (L P : Type 0) → (L → P)
        → (r : Result (List (Text × PartialValue)) Failure) (m : Result AbstractFields ErrorKind) → ExactFields L r m
        → ExactFields P r m
    fields_up L P f (Ok ps) m h = h
    fields_up L P f (Err e) m h = error_up L P f (failure_kind e) m h

    first_field_errs : (L P : Type 0) → (L → P)
        → (l : Text) (k : FailureKind) (o : Outcome) (m : Result AbstractFields ErrorKind) → KindMeans L k o
        → ExactError P k (Meaning.field_then l o m)
    unfolding Meaning.field_then
    first_field_errs L P f l (of_meaning k) o m h = ap (λ p. Meaning.field_then l p m) h
    first_field_errs L P f l of_residual o m h = h
    first_field_errs L P f l of_limit o m h = f h
    first_field_errs L P f l of_memory o m h = h

    rest_fields_err : (L : Type 0) (l : Text) (k : FailureKind) (v : AbstractValue)
        (m : Result AbstractFields ErrorKind) → ExactError L k m → ExactError L k (Meaning.field_then l (gives v) m)
    unfolding Meaning.field_then
    rest_fields_err L l (of_meaning k) v m h = ap (Meaning.field_then l (gives v)) h
    rest_fields_err L l of_residual v m h = h
    rest_fields_err L l of_limit v m h = h
    rest_fields_err L l of_memory v m h = h

    field_then_exact : (L : Type 0) (l : Text) (v : Represented) (r : Result (List (Text × PartialValue)) Failure)
        (m : Result AbstractFields ErrorKind) → ExactFields L r m
        → ExactFields L (Rules.field_part_then l (value v) r) (Meaning.field_then l (gives (abstract_value v)) m)
    unfolding Rules.field_part_then Meaning.field_then Rules.values_of_field_parts Rules.add_value_at
    field_then_exact L l v (Ok ps) m (vs, e, h) =
        ((l, v) ∷ vs, ap (Rules.add_value_at l (value v)) e, ap (Meaning.field_then l (gives (abstract_value v))) h)
    field_then_exact L l v (Err e) m h = rest_fields_err L l (failure_kind e) (abstract_value v) m h

    field_part_exact : (L P : Type 0) → (L → P)
        → (l : Text) (Rest : Result (List (Text × PartialValue)) Failure → Type 0) (m : Result AbstractFields ErrorKind)
        → ((r : Result (List (Text × PartialValue)) Failure) → Rest r → ExactFields P r m)
        → (x : Answer) (o : Outcome) (r : Result (List (Text × PartialValue)) Failure) → Exact L x o
        → Rules.AfterFieldPart G l x Rest r → ExactFields P r (Meaning.field_then l o m)
    field_part_exact L P f l Rest m rest (fails e) o r z h =
        subst (λ q. ExactFields P q (Meaning.field_then l o m)) (sym h)
        (first_field_errs L P f l (failure_kind e) o m z)
    field_part_exact L P f l Rest m rest (answers (value v)) o r (u, q) (i, g, e) =
        subst (λ j. ExactFields P j (Meaning.field_then l o m)) (sym e)
        (subst (λ p. ExactFields P (Rules.field_part_then l (value v) i) (Meaning.field_then l p m)) (sym q)
        (field_then_exact P l v i m (rest i g)))
    field_part_exact L P f l Rest m rest (answers (residual q)) o r z h = absurd z

    field_parts_exact : (fs : Fields) (r : Result (List (Text × PartialValue)) Failure) → Agreement.AreKnownAt ans fs
        → Rules.FieldParts G fs r → ExactFields (n < Agreement.greatest_height_at fs) r
        (Meaning.field_meanings s.extensions ans w s.slots fs)
    unfolding Meaning.meaning Rules.values_of_field_parts
    field_parts_exact no_fields r k h = subst (λ q. ExactFields (n < 0) q (Ok no_values_at)) (sym h) ([], refl, refl)
    field_parts_exact (one_field l t fs) r k (x, g, h) =
        field_part_exact (n < Agreement.height t) _ (λ q. omega arith) l (Rules.FieldParts G fs)
        (Meaning.field_meanings s.extensions ans w s.slots fs)
        (λ q j. fields_up _ _ (λ i. omega arith) q _ (field_parts_exact fs q k.1 j)) x (M t) r (ih t x k.0 g) h

    -- ---- sets, records and calls

    all_errs : {A : Type 0} (L P : Type 0) → (L → P) → (k : FailureKind) (m : Result A ErrorKind) (next : A → Outcome)
        → ExactError L k m → KindMeans P k (Meaning.and_then_all m next)
    unfolding Meaning.and_then_all
    all_errs L P f (of_meaning k) m next h = ap (λ z. Meaning.and_then_all z next) h
    all_errs L P f of_residual m next h = h
    all_errs L P f of_limit m next h = f h
    all_errs L P f of_memory m next h = h

    set_exact : (L P : Type 0) → (L → P)
        → (r : Result (List PartialValue) Failure) (m : Result (List AbstractValue) ErrorKind) → ExactParts L r m
        → Exact P (Rules.set_answer r) (Meaning.and_then_all m (λ vs. gives (set_value (abstract_set vs))))
    unfolding Rules.set_answer Rules.set_of_parts Meaning.and_then_all
    set_exact L P f (Err e) m h = all_errs L P f (failure_kind e) m _ h
    set_exact L P f (Ok ps) m (vs, e, h) =
        subst (λ o. Exact P (Rules.set_of_parts o ps)
        (Meaning.and_then_all m (λ us. gives (set_value (abstract_set us))))) (sym e) (
          tt,
          ap (λ z. Meaning.and_then_all z (λ us. gives (set_value (abstract_set us)))) h
              ∙ ap (λ z. gives (set_value z)) (sym (abstract_values-canonical_set vs)),
        )

    record_exact : (L P : Type 0) → (L → P)
        → (r : Result (List (Text × PartialValue)) Failure) (m : Result AbstractFields ErrorKind) → ExactFields L r m
        → Exact P (Rules.record_answer r) (Meaning.and_then_all m (λ gs. gives (record_value gs)))
    unfolding Rules.record_answer Rules.record_of_parts Meaning.and_then_all
    record_exact L P f (Err e) m h = all_errs L P f (failure_kind e) m _ h
    record_exact L P f (Ok ps) m (vs, e, h) =
        subst (λ o. Exact P (Rules.record_of_parts o ps) (Meaning.and_then_all m (λ gs. gives (record_value gs))))
        (sym e) (tt, ap (λ z. Meaning.and_then_all z (λ gs. gives (record_value gs))) h)

    kind_exact : (P : Type 0) (k : FailureKind) (c : FunctionAnswer) → Agreement.failure_answer k ≡ Some c
        → KindMeans P k (Meaning.function_meaning w c)
    unfolding Agreement.failure_answer Meaning.function_meaning
    kind_exact P (of_meaning k) (function_gives v) e = absurd (cc)
    kind_exact P (of_meaning k) (function_errs j) e = let f : j ≡ k = cc in ap errs f
    kind_exact P (of_meaning k) (function_asks m t) e = absurd (cc)
    kind_exact P of_residual c e = absurd (cc)
    kind_exact P of_limit c e = absurd (cc)
    kind_exact P of_memory c e = absurd (cc)

    -- an answer of a stored function, where it answers no unknown
    function_exact : (P : Type 0) (a : Answer) (b : FunctionAnswer) → Agreement.function_answer a ≡ Some b
        → ((m : Text) (t : Option ValueType) → b ≢ function_asks m t) → Exact P a (Meaning.function_meaning w b)
    unfolding Agreement.function_answer Meaning.function_meaning
    function_exact P (answers (value v)) (function_gives u) e h =
        (tt, let f : abstract_value v ≡ u = cc in ap gives (sym f))
    function_exact P (answers (value v)) (function_errs k) e h = absurd (cc)
    function_exact P (answers (value v)) (function_asks m t) e h = absurd (cc)
    function_exact P (answers (residual r)) b e h = absurd (by r e)
      where
        by : (q : Term) → Agreement.function_answer (answers (residual q)) ≡ Some b → ⊥
        by (unknown m t) f = h m t (let g : function_asks m t ≡ b = cc in sym g)
        by (literal l) f = cc
        by (variable v) f = cc
        by (slot i) f = cc
        by (if_then_else x y z) f = cc
        by (both x y) f = cc
        by (either x y) f = cc
        by (unary op x) f = cc
        by (binary op x y) f = cc
        by (call g ts) f = cc
        by (get_attribute x k) f = cc
        by (has_attribute x k) f = cc
        by (extended_has x k ks) f = cc
        by (like x p) f = cc
        by (is_of_type x t) f = cc
        by (set_of ts) f = cc
        by (record_of fs) f = cc
    function_exact P (fails f) b e h = kind_exact P (failure_kind f) b e

    counts_exact : (P : Type 0) (b : Bool) (n : ℕ) (f : Text) (vs : List Represented) (a : Answer)
        → ((m : Text) (t : Option ValueType) → ans f (map abstract_value vs) ≢ function_asks m t)
        → Rules.Counts calls b n f vs a
        → Exact P a (cond b (Meaning.function_meaning w (ans f (map abstract_value vs)))
        (errs wrong_number_of_arguments))
    unfolding failure_kind
    counts_exact P true m f vs a h r = function_exact P a (ans f (map abstract_value vs)) (agree f vs a r) h
    counts_exact P false m f vs a h r = by_equal P a _ _ r refl

    looks_exact : (P : Type 0) (o : Option ℕ) (f : Text) (vs : List Represented) (a : Answer)
        → ((m : Text) (t : Option ValueType) → ans f (map abstract_value vs) ≢ function_asks m t)
        → Rules.LooksUp calls o f vs a
        → Exact P a (Meaning.call_meaning o (ans f (map abstract_value vs)) w (length (map abstract_value vs)))
    unfolding Meaning.call_meaning failure_kind
    looks_exact P None f vs a h r = by_equal P a _ _ r refl
    looks_exact P (Some m) f vs a h r =
        subst (λ l. Exact P a (cond (l == m) (Meaning.function_meaning w (ans f (map abstract_value vs)))
        (errs wrong_number_of_arguments))) (sym (length-map vs abstract_value)) (counts_exact P (length vs == m) m f vs a h r)

    call_exact : (L P : Type 0) → (L → P)
        → (f : Text) (r : Result (List PartialValue) Failure) (m : Result (List AbstractValue) ErrorKind) (a : Answer)
        → Agreement.NeverAsks ans f → ExactParts L r m → Rules.AfterArguments calls s.extensions.arity f r a
        → Exact P a (Meaning.and_then_all m
        (λ vs. Meaning.call_meaning (s.extensions.arity f) (ans f vs) w (length vs)))
    unfolding Meaning.and_then_all
    call_exact L P g f (Err e) m a k h r = by_equal P a (fails e) _ r (all_errs L P g (failure_kind e) m _ h)
    call_exact L P g f (Ok ps) m a k (vs, e, h) r =
        subst (λ z. Exact P a (Meaning.and_then_all z
        (λ us. Meaning.call_meaning (s.extensions.arity f) (ans f us) w (length us)))) (sym h)
        (looks_exact P (s.extensions.arity f) f vs a (λ n t. k (map abstract_value vs) n t)
        (subst (λ o. Rules.AfterValues calls s.extensions.arity o f ps a) e r))

    slot_exact : (P : Type 0) (i : Slot) (o : Option EntityName)
        → Exact P (Operators.slot_answer i o) (Meaning.slot_meaning o)
    unfolding Operators.slot_answer Meaning.slot_meaning failure_kind
    slot_exact P i None = refl
    slot_exact P i (Some e) = (tt, refl)

    entry_exact : (P : Type 0) (e : Entry) (name : Text) (d : EntityName) → Agreement.IsKnownEntry e
        → Agreement.AgreesWithEntry w name d e
        → Exact P (answers (entry_part e name)) (gives (plain (entity_literal d)))
    unfolding entry_part
    entry_exact P (known_entry c) name d k h = (tt, ap (λ x. gives (plain (entity_literal x))) h)
    entry_exact P (unknown_entry t) name d k h = absurd k

    context_exact : (P : Type 0) (c : ContextPart) → Agreement.IsKnownContext c
        → Agreement.AgreesWithContext s.extensions ans w c
        → Exact P (answers (context_value c)) (gives (record_value w.context_record))
    unfolding context_value
    context_exact P absent_context k h = absurd k
    context_exact P (known_context fs) k h = (tt, ap (λ x. gives (record_value x)) (sym h))
    context_exact P (residual_context fs) k h = absurd k

    variable_exact : (P : Type 0) (v : Variable)
        → Exact P (answers (variable_part s.request v)) (gives (variable_value w v))
    unfolding variable_part variable_value
    variable_exact P principal =
        entry_exact P s.request.principal_entry _ w.principal_entity known.principal_known
        request_agrees.principal_agrees
    variable_exact P action =
        entry_exact P s.request.action_entry _ w.action_entity known.action_known request_agrees.action_agrees
    variable_exact P resource =
        entry_exact P s.request.resource_entry _ w.resource_entity known.resource_known request_agrees.resource_agrees
    variable_exact P context = context_exact P s.request.context_part known.context_known request_agrees.context_agrees

    rule_exact : (t : Term) (a : Answer) → Agreement.IsKnown ans t → Rules.Rule s calls G t a
        → Exact (suc n < Agreement.height t) a (M t)
    unfolding Meaning.meaning
    rule_exact (literal l) a k r = by_equal (suc n < Agreement.height (literal l)) a _ _ r (tt, refl)
    rule_exact (variable v) a k r =
        by_equal (suc n < Agreement.height (variable v)) a _ _ r
        (variable_exact (suc n < Agreement.height (variable v)) v)
    rule_exact (slot i) a k r =
        by_equal (suc n < Agreement.height (slot i)) a _ _ r
        (slot_exact (suc n < Agreement.height (slot i)) i (s.slots i))
    rule_exact (unknown m t) a k r = absurd k
    rule_exact (if_then_else c t e) a k (x, g, r) =
        guard_exact (n < Agreement.height c) _ (λ h. omega arith) x (M c) t e a k.1 k.2 (λ h. omega arith)
        (λ h. omega arith) (ih c x k.0 g) r
    rule_exact (both t u) a k (x, g, r) =
        and_exact (n < Agreement.height t) _ (λ h. omega arith) x (M t) u a k.1 (λ h. omega arith) (ih t x k.0 g) r
    rule_exact (either t u) a k (x, g, r) =
        or_exact (n < Agreement.height t) _ (λ h. omega arith) x (M t) u a k.1 (λ h. omega arith) (ih t x k.0 g) r
    rule_exact (unary op t) a k (x, g, e) =
        by_equal _ a _ _ e (on_part_exact (n < Agreement.height t) _ (λ h. omega arith) _ _ _
        (Means.unary_means ans w s Any NoResidual _ well op) x (M t) (ih t x k g))
    rule_exact (binary op t u) a k (x, g, r) =
        left_exact (n < Agreement.height t) _ (λ h. omega arith) op x (M t) u a k.1 (λ h. omega arith) (ih t x k.0 g) r
    rule_exact (call f ts) a k (r, g, h) =
        call_exact (n < Agreement.greatest_height ts) _ (λ q. omega arith) f r _ a k.0 (parts_exact ts r k.1 g) h
    rule_exact (get_attribute t l) a k (x, g, r) =
        attribute_exact (n < Agreement.height t) _ (λ h. omega arith) l x (M t) a (ih t x k g) r
    rule_exact (has_attribute t l) a k (x, g, e) =
        by_equal _ a _ _ e (has_exact (n < Agreement.height t) _ (λ h. omega arith) l x (M t) (ih t x k g))
    rule_exact (extended_has t l ls) a k (x, g, e) =
        by_equal _ a _ _ (resolving.path_as_stored G s.store none s.resolution x l ls a e)
        (on_part_exact (n < Agreement.height t) _ (λ h. omega arith) _ _ _
        (λ v. Means.path_means ans w s Any NoResidual _ well l ls v tt) x (M t) (ih t x k g))
    rule_exact (like t p) a k (x, g, e) =
        by_equal _ a _ _ e (on_part_exact (n < Agreement.height t) _ (λ h. omega arith) _ _ _
        (Means.like_means ans w s Any NoResidual _ well p) x (M t) (ih t x k g))
    rule_exact (is_of_type t l) a k (x, g, e) =
        by_equal _ a _ _ e (is_exact (n < Agreement.height t) _ (λ h. omega arith) l x (M t) (ih t x k g))
    rule_exact (set_of ts) a k (r, g, e) =
        by_equal _ a _ _ e (set_exact (n < Agreement.greatest_height ts) _ (λ h. omega arith) r _
        (parts_exact ts r k g))
    rule_exact (record_of fs) a k (r, g, e) =
        by_equal _ a _ _ e (record_exact (n < Agreement.greatest_height_at fs) _ (λ h. omega arith) r _
        (field_parts_exact fs r k g))

  positive : (t : Term) → 0 < Agreement.height t
  positive (literal l) = omega arith
  positive (variable v) = omega arith
  positive (slot i) = omega arith
  positive (unknown n t) = omega arith
  positive (if_then_else c t e) = omega arith
  positive (both t u) = omega arith
  positive (either t u) = omega arith
  positive (unary op t) = omega arith
  positive (binary op t u) = omega arith
  positive (call f ts) = omega arith
  positive (get_attribute t k) = omega arith
  positive (has_attribute t k) = omega arith
  positive (extended_has t k ks) = omega arith
  positive (like t p) = omega arith
  positive (is_of_type t n) = omega arith
  positive (set_of ts) = omega arith
  positive (record_of fs) = omega arith

  pub runs_exact : (n : ℕ) (t : Term) (a : Answer) → Agreement.IsKnown ans t → Rules.Runs s calls n t a
      → Exact (n < Agreement.height t) a (M t)
  unfolding failure_kind
  runs_exact zero t a k r = by_equal _ a limit _ r (positive t)
  runs_exact (suc n) t a k r = rule_exact n (Rules.Runs s calls n) (runs_exact n) t a k r

  -- what is allowed: a value that is the meaning, or an error of its kind
  pub allowed_exact : (t : Term) (a : Answer) → Agreement.IsKnown ans t → Rules.Allows s calls t a
      → Agreement.AnswersOutcome a (M t)
  unfolding failure_kind
  allowed_exact t a k (ne, n, r) = by a ne (runs_exact n t a k r)
    where
      of_kind : (e : Failure) → (fails e ≢ limit) → (j : FailureKind) → failure_kind e ≡ j
          → KindMeans (n < Agreement.height t) j (M t) → Agreement.FailsAs j (M t)
      of_kind e m (of_meaning j) q h = h
      of_kind e m of_residual q h = h
      of_kind e m of_limit q h = absurd (m (ap fails (kind_of_limit e q)))
      of_kind e m of_memory q h = h

      by : (b : Answer) → b ≢ limit → Exact (n < Agreement.height t) b (M t) → Agreement.AnswersOutcome b (M t)
      by (answers (value v)) m h = h.1
      by (answers (residual q)) m h = h
      by (fails e) m h = of_kind e m (failure_kind e) refl h

  -- the limit is met below the height alone
  pub need_below_height : (n : ℕ) (t : Term) → Agreement.IsKnown ans t → Rules.Exceeds s calls t n
      → n < Agreement.height t
  unfolding failure_kind
  need_below_height n t k r = runs_exact n t limit k r
