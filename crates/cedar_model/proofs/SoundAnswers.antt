-- What an answer that stands for an outcome is, and what follows of it without the rules of a kind.
use Rattle.std.specs.Prelude.{◌≡◌, Bool, true, false, Option}
use Rattle.std.specs.Prelude.{Some, None, is_some}
use Rattle.std.proofs.Common.{refl, sym, ap, ◌∙◌, subst}
use Rattle.std.specs.Cmp.Lexicographic.{bytes_decides}
use Rattle.cedar_model.specs.Terms.{Text, EntityName, bool_literal, long_literal, text_literal, entity_literal}
use Rattle.cedar_model.specs.Terms.{ValueType, bool_type}
use Rattle.cedar_model.specs.Terms.{long_type, string_type, set_type, record_type, entity_type, extension_type}
use Rattle.cedar_model.specs.Terms.{Term, literal, variable}
use Rattle.cedar_model.specs.Terms.{slot, unknown, if_then_else, both, either, unary, binary, call, get_attribute}
use Rattle.cedar_model.specs.Terms.{has_attribute, extended_has, like, is_of_type, set_of, record_of}
use Rattle.cedar_model.specs.Values.{AbstractValue, plain, set_value, record_value, extension_value, AbstractFields}
use Rattle.cedar_model.specs.Values.{Represented, abstract_value}
use Rattle.cedar_model.specs.Keys.{value_eq}
use Rattle.cedar_model.specs.lemmas.Keys.{value_eq-true}
use Rattle.cedar_model.specs.Outcomes.{ErrorKind, record_attribute_does_not_exist, type_error}
use Rattle.cedar_model.specs.Outcomes.{Outcome, gives, errs, gives_bool, and_then, needing}
use Rattle.cedar_model.specs.Outcomes.{bool_of, entity_of, value_type, text_eq, value_at}
use Rattle.cedar_model.specs.World.{World, Functions}
use Rattle.cedar_model.specs.Meaning
use Rattle.cedar_model.specs.Failures.{Failure, failure_kind, FailureKind, of_meaning, of_residual, of_limit, of_memory}
use Rattle.cedar_model.specs.Failures.{PartialValue, value, residual, Answer, answers, fails, answers_bool}
use Rattle.cedar_model.specs.Failures.{part_expression}
use Rattle.cedar_model.specs.Settings.{Setting}
use Rattle.cedar_model.specs.Rules
use Rattle.cedar_model.specs.Agreement
use Rattle.cedar_model.proofs.Means
use Rattle.cedar_model.proofs.Binds
use Rattle.cedar_model.proofs.Written
use Rattle.cedar_model.proofs.Injections.{some_inj}

-- an error of a meaning's kind stands for an error
abbrev pub Loose : FailureKind → Option AbstractValue → Type 0
Loose (of_meaning k) o = o ≡ None
Loose of_residual o = o ≡ None
Loose of_limit o = Unit {0}
Loose of_memory o = Unit {0}

pub loose_map : (k : FailureKind) (o p : Option AbstractValue) → (o ≡ None → p ≡ None) → Loose k o → Loose k p
loose_map (of_meaning k) o p f h = f h
loose_map of_residual o p f h = f h
loose_map of_limit o p f h = tt
loose_map of_memory o p f h = tt

abbrev pub LooseParts : {A : Type 0} → FailureKind → Option A → Type 0
LooseParts (of_meaning k) o = o ≡ None
LooseParts of_residual o = o ≡ None
LooseParts of_limit o = Unit {0}
LooseParts of_memory o = Unit {0}

pub loose_parts : {A : Type 0} (k : FailureKind) (o : Option AbstractValue) (p : Option A) → (o ≡ None → p ≡ None)
    → Loose k o → LooseParts k p
loose_parts (of_meaning k) o p f h = f h
loose_parts of_residual o p f h = f h
loose_parts of_limit o p f h = tt
loose_parts of_memory o p f h = tt

pub parts_loose : {A : Type 0} (k : FailureKind) (o : Option A) (p : Option AbstractValue) → (o ≡ None → p ≡ None)
    → LooseParts k o → Loose k p
parts_loose (of_meaning k) o p f h = f h
parts_loose of_residual o p f h = f h
parts_loose of_limit o p f h = tt
parts_loose of_memory o p f h = tt

pub parts_loose_map : {A B : Type 0} (k : FailureKind) (o : Option A) (p : Option B) → (o ≡ None → p ≡ None)
    → LooseParts k o → LooseParts k p
parts_loose_map (of_meaning k) o p f h = f h
parts_loose_map of_residual o p f h = f h
parts_loose_map of_limit o p f h = tt
parts_loose_map of_memory o p f h = tt

-- ---- values of an entity type

abbrev pub IsEntityOf : AbstractValue → Text → Type 0
IsEntityOf v t = (e : EntityName) × (v ≡ plain (entity_literal e)) × (e.type_name ≡ t)

pub entity_by_type : (v : AbstractValue) (t : Text) → value_type v ≡ entity_type t → IsEntityOf v t
unfolding value_type
entity_by_type (plain (bool_literal b)) t e = absurd (cc)
entity_by_type (plain (long_literal n)) t e = absurd (cc)
entity_by_type (plain (text_literal s)) t e = absurd (cc)
entity_by_type (plain (entity_literal d)) t e = (d, refl, cc)
entity_by_type (set_value vs) t e = absurd (cc)
entity_by_type (record_value fs) t e = absurd (cc)
entity_by_type (extension_value s k) t e = absurd (cc)

pub entity_by_name : (v : AbstractValue) (t : Text) → Rules.type_of_entity (entity_of v) ≡ Some t → IsEntityOf v t
unfolding Rules.type_of_entity entity_of
entity_by_name (plain (bool_literal b)) t e = absurd (cc)
entity_by_name (plain (long_literal n)) t e = absurd (cc)
entity_by_name (plain (text_literal s)) t e = absurd (cc)
entity_by_name (plain (entity_literal d)) t e = (d, refl, some_inj e)
entity_by_name (set_value vs) t e = absurd (cc)
entity_by_name (record_value fs) t e = absurd (cc)
entity_by_name (extension_value s k) t e = absurd (cc)

pub annotated_is : (a : Option ValueType) (t : Text) → Rules.annotated_type a ≡ Some t → a ≡ Some (entity_type t)
unfolding Rules.annotated_type
annotated_is None t e = absurd (cc)
annotated_is (Some bool_type) t e = absurd (cc)
annotated_is (Some long_type) t e = absurd (cc)
annotated_is (Some string_type) t e = absurd (cc)
annotated_is (Some set_type) t e = absurd (cc)
annotated_is (Some record_type) t e = absurd (cc)
annotated_is (Some (entity_type s)) t e = ap (λ x. Some (entity_type x)) (some_inj e)
annotated_is (Some (extension_type s)) t e = absurd (cc)

pub annotated_unknown : (r : Term) (t : Text) → Rules.entity_type_of_residual r ≡ Some t → (n : Text)
    × (r ≡ unknown n (Some (entity_type t)))
unfolding Rules.entity_type_of_residual
annotated_unknown (unknown n a) t e = (n, ap (unknown n) (annotated_is a t e))
annotated_unknown (literal l) t e = absurd (cc)
annotated_unknown (variable v) t e = absurd (cc)
annotated_unknown (slot i) t e = absurd (cc)
annotated_unknown (if_then_else c a b) t e = absurd (cc)
annotated_unknown (both a b) t e = absurd (cc)
annotated_unknown (either a b) t e = absurd (cc)
annotated_unknown (unary op a) t e = absurd (cc)
annotated_unknown (binary op a b) t e = absurd (cc)
annotated_unknown (call f ts) t e = absurd (cc)
annotated_unknown (get_attribute a k) t e = absurd (cc)
annotated_unknown (has_attribute a k) t e = absurd (cc)
annotated_unknown (extended_has a k ks) t e = absurd (cc)
annotated_unknown (like a p) t e = absurd (cc)
annotated_unknown (is_of_type a n) t e = absurd (cc)
annotated_unknown (set_of ts) t e = absurd (cc)
annotated_unknown (record_of fs) t e = absurd (cc)

-- values of two entity types are not equal
pub apart_values : (u v : AbstractValue) (s t : Text) → IsEntityOf u s → IsEntityOf v t → text_eq s t ≡ false
    → value_eq u v ≡ false
apart_values u v s t (d, du, ds) (e, ev, et) h = by (value_eq u v) refl
  where
    by : (b : Bool) → value_eq u v ≡ b → value_eq u v ≡ false
    by false g = g
    by true g =
        let p : u ≡ v = value_eq-true u v g in
        let q : plain (entity_literal d) ≡ plain (entity_literal e) = sym du ∙ p ∙ ev in
        let r : d ≡ e = cc in
        let k : s ≡ t = sym ds ∙ ap (λ x. x.type_name) r ∙ et in
        absurd (let z = sym ((bytes_decides s t).1 k) ∙ h in cc)

pub bind_gives : (o : Outcome) (v : AbstractValue) (k : AbstractValue → Outcome) → o ≡ gives v → and_then o k ≡ k v
unfolding and_then
bind_gives o v k e = ap (λ p. and_then p k) e

pub is_entity : (d : EntityName) (v : AbstractValue) (u : Text) → v ≡ plain (entity_literal d) → d.type_name ≡ u
    → (t : Text) → needing (entity_of v) (λ e. gives_bool (text_eq e.type_name t)) ≡ gives_bool (text_eq u t)
unfolding needing entity_of
is_entity d v u e f t =
    ap (λ x. needing (entity_of x) (λ c. gives_bool (text_eq c.type_name t))) e ∙ ap (λ x. gives_bool (text_eq x t)) f

pub has_record : (w : World) (gs : AbstractFields) (k : Text)
    → Meaning.has_meaning w (record_value gs) k ≡ gives_bool (is_some (value_at k gs))
unfolding Meaning.has_meaning
has_record w gs k = refl

pub no_attribute : (w : World) (gs : AbstractFields) (k : Text) (v : Option AbstractValue) → value_at k gs ≡ v → v ≡ None
    → Agreement.outcome_value (Meaning.attribute_meaning w (record_value gs) k) ≡ None
unfolding Meaning.attribute_meaning Meaning.or_errs Agreement.outcome_value
no_attribute w gs k v e f =
    ap (λ o. Agreement.outcome_value (Meaning.or_errs record_attribute_does_not_exist o)) (e ∙ f)

pub an_attribute : (w : World) (gs : AbstractFields) (k : Text) (v : AbstractValue) → value_at k gs ≡ Some v
    → Meaning.attribute_meaning w (record_value gs) k ≡ gives v
unfolding Meaning.attribute_meaning Meaning.or_errs
an_attribute w gs k v e = ap (Meaning.or_errs record_attribute_does_not_exist) e

module _ (ans : Functions) (w : World) (s : Setting) where
  abbrev pub F : Represented → Type 0
  F v = Agreement.IsFaithful s.extensions ans v

  -- without slots
  abbrev pub N : Term → Outcome
  N t = Meaning.meaning s.extensions ans w Agreement.no_slots t

  abbrev pub M : Term → Outcome
  M t = Meaning.meaning s.extensions ans w s.slots t

  abbrev pub R : Term → Outcome → Type 0
  R r o = Agreement.Fits ans w r × Agreement.HaveSameOutcome (N r) o

  abbrev pub E : Failure → Outcome → Type 0
  E e o = Loose (failure_kind e) (Agreement.outcome_value o)

  abbrev pub Sound : Answer → Outcome → Type 0
  Sound a o = Means.Sound F R E a o

  pub errs_loose : (k : ErrorKind) → Loose (of_meaning k) (Agreement.outcome_value (errs k))
  unfolding Agreement.outcome_value
  errs_loose k = refl

  pub by_equal : (a b : Answer) (o : Outcome) → a ≡ b → Sound b o → Sound a o
  by_equal a b o e h = subst (λ x. Sound x o) (sym e) h

  pub value_bind : (a : Answer) (v : AbstractValue) (o : Outcome) (next : AbstractValue → Outcome) → o ≡ gives v
      → Sound a (next v) → Sound a (and_then o next)
  unfolding and_then
  value_bind a v o next e h = subst (λ p. Sound a (and_then p next)) (sym e) h

  pub error_bind : (e : Failure) (o : Outcome) (next : AbstractValue → Outcome) → E e o → E e (and_then o next)
  error_bind e o next h = loose_map (failure_kind e) _ _ (Binds.error_bind o next) h

  -- a part as an expression stands for its outcome, without slots
  pub part_stands : (p : PartialValue) (o : Outcome) → Sound (answers p) o → R (part_expression p) o
  unfolding part_expression
  part_stands (value v) o (f, e) = (
    Written.written_fits s.extensions ans w v f,
    ap Agreement.outcome_value
        (Written.written_means s.extensions ans w Agreement.no_slots v f ∙ sym e),
  )
  part_stands (residual r) o h = h

  pub on_part_sound : (f : Represented → Answer) (h : Term → Term) (next : AbstractValue → Outcome)
      → ((v : Represented) → F v → Sound (f v) (next (abstract_value v)))
      → ((r : Term) → Agreement.Fits ans w r → Agreement.Fits ans w (h r))
      → ((r : Term) → N (h r) ≡ and_then (N r) next) → (x : Answer) (o : Outcome) → Sound x o
      → Sound (Rules.on_part f h x) (and_then o next)
  unfolding Rules.on_part
  on_part_sound f h next k hf hm (answers (value v)) o (u, e) = value_bind (f v) (abstract_value v) o next e (k v u)
  on_part_sound f h next k hf hm (answers (residual r)) o (u, e) =
      (hf r u, ap Agreement.outcome_value (hm r) ∙ Binds.same_bind (N r) o next next e (λ v. refl))
  on_part_sound f h next k hf hm (fails e) o z = error_bind e o next z

  pub sound_bool : (b : Bool) → Sound (answers_bool b) (gives_bool b)
  sound_bool b = (tt, refl)

  pub sound_type_error : (v : Represented) → Sound (Rules.bool_expected v) (errs type_error)
  unfolding failure_kind Agreement.outcome_value
  sound_type_error v = refl

  pub bool_sound : (v : Represented) (o : Option Bool) → Sound (Rules.bool_or_failure o v) (needing o gives_bool)
  unfolding Rules.bool_or_failure needing
  bool_sound v None = sound_type_error v
  bool_sound v (Some b) = sound_bool b

  pub joined_sound : (h : Term → Term) → ((r : Term) → Agreement.Fits ans w r → Agreement.Fits ans w (h r))
      → ((r : Term) → N (h r) ≡ Meaning.and_then_bool (N r) gives_bool) → (x : Answer) (o : Outcome) → Sound x o
      → Sound (Rules.joined h x) (Meaning.and_then_bool o gives_bool)
  unfolding Rules.joined
  joined_sound h hf hm (answers (value v)) o (u, e) =
      value_bind _ (abstract_value v) o (λ a. needing (bool_of a) gives_bool) e
      (bool_sound v (bool_of (abstract_value v)))
  joined_sound h hf hm (answers (residual r)) o (u, e) =
      (hf r u, ap Agreement.outcome_value (hm r) ∙ Binds.same_bool_bind (N r) o gives_bool gives_bool e (λ b. refl))
  joined_sound h hf hm (fails e) o z = error_bind e o _ z

  -- ---- best effort

  pub kept_original : (t : Term) → Agreement.outcome_value (M t) ≡ None → Agreement.HaveSameOutcome (N t) (M t)
  kept_original t h =
      Binds.less_none (N t) (M t) (Binds.fewer_slots s.extensions ans w s.slots t) h ∙ sym h

  pub after_failure : (k : FailureKind) (e : Failure) (t : Term) (Next : Term → Answer → Type 0) (a : Answer) (o : Outcome)
      → failure_kind e ≡ k → Agreement.Fits ans w t → Loose k (Agreement.outcome_value (M t))
      → Rules.AfterBest (Rules.best_of_kind k e t) Next a → ((u : Term) → R u (M t) → Next u a → Sound a o) → Sound a o
  unfolding Rules.best_of_kind
  after_failure (of_meaning k) e t Next a o q f l r g = g t (f, kept_original t l) r
  after_failure of_residual e t Next a o q f l r g = g t (f, kept_original t l) r
  after_failure of_limit e t Next a o q f l r g =
      by_equal a (fails e) o r (subst (λ k. Loose k (Agreement.outcome_value o)) (sym q) tt)
  after_failure of_memory e t Next a o q f l r g =
      by_equal a (fails e) o r (subst (λ k. Loose k (Agreement.outcome_value o)) (sym q) tt)

  pub after_best : (x : Answer) (t : Term) (Next : Term → Answer → Type 0) (a : Answer) (o : Outcome)
      → Agreement.Fits ans w t → Sound x (M t) → Rules.AfterBest (Rules.best x t) Next a
      → ((u : Term) → R u (M t) → Next u a → Sound a o) → Sound a o
  unfolding Rules.best
  after_best (answers p) t Next a o f h r g = g (part_expression p) (part_stands p (M t) h) r
  after_best (fails e) t Next a o f h r g = after_failure (failure_kind e) e t Next a o refl f h r g

  -- what a completion gives
  module _ (done : Agreement.IsCompletion ans w s) where
    pub map_well : (n : Text) (v : Represented) → s.map n ≡ Some v → F v × (w.sigma n ≡ abstract_value v)
    map_well n v e = (done.values.map_faithful n v e, done.agreement.map_agrees n v e)

    pub stored : (p : PartialValue) → Agreement.IsFaithfulPart s.extensions ans p → Agreement.FitsPart s.extensions ans w p
        → Means.StoredWell ans w s F R E p
    stored (value v) f g = f
    stored (residual t) f g = (g, λ r o h e. (h g, e))

    pub well : Means.ValuesWell ans w s F R E
    unfolding Meaning.meaning
    well = record {
      plain_well = λ l. tt;
      part_well = λ fs k v f e. Written.part_faithful s.extensions ans fs k v f e;
      errs_well = λ e k h. subst (λ x. Loose x (Agreement.outcome_value (errs k))) (sym h) (errs_loose k);
      store_agrees = done.agreement.store_agrees;
      stored_well =
          λ d x k p e. (
            λ h. stored p ((done.values.store_faithful d x k p e).0 h)
                ((done.agreement.store_fits d x k p e).0 h),
            λ h. stored p ((done.values.store_faithful d x k p e).1 h)
                ((done.agreement.store_fits d x k p e).1 h),
          );
      missing_well = λ d h. record {
        written_fits = λ v f. Written.written_fits s.extensions ans w v f;
        written_means = λ v f. Written.written_means s.extensions ans w Agreement.no_slots v f;
        stands = λ r o f e. (f, e);
      };
      unknown_well = λ n t h. Means.unknown_means w s F R E map_well n t h.0 (h.0, refl);
    }
