-- What restricted expressions answer where functions answer such values to such values: such a part. It is said of any
-- property of parts that residuals and literals have, and sets and records of such values.
use Rattle.std.specs.Prelude.{◌≡◌, ℕ, zero, suc, ◌==◌, Bool, true, false, cond, List, [], ◌∷◌, length, Option}
use Rattle.std.specs.Prelude.{Some, None, Result, Ok, Err}
use Rattle.std.proofs.Common.{refl, subst, sym}
use Rattle.std.proofs.lemmas.Bool.{and_parts}
use Rattle.cedar_model.specs.Terms.{Text, Literal, ValueType, Term, literal, variable, slot, unknown, if_then_else}
use Rattle.cedar_model.specs.Terms.{both, either, unary, binary, call, get_attribute, has_attribute, extended_has, like}
use Rattle.cedar_model.specs.Terms.{is_of_type, set_of, record_of, Terms, no_terms, one_term, Fields, no_fields}
use Rattle.cedar_model.specs.Terms.{one_field}
use Rattle.cedar_model.specs.Values.{Represented, plain_represented, set_represented, record_represented}
use Rattle.cedar_model.specs.Values.{RepresentedValues, RepresentedFields, no_represented_at, one_represented_at}
use Rattle.cedar_model.specs.Values.{abstract_value}
use Rattle.cedar_model.specs.Sets.{canonical_set, represented_fields_of, IsStrictlyInOrder}
use Rattle.cedar_model.specs.lemmas.Sets.{IsStrictlyInOrder-canonical_set}
use Rattle.cedar_model.specs.Outcomes.{value_type, type_eq}
use Rattle.cedar_model.specs.Shapes.{is_restricted, are_restricted, are_restricted_at}
use Rattle.cedar_model.specs.Failures.{Failure, PartialValue, value, residual, Answer, answers, fails, wrong_type}
use Rattle.cedar_model.specs.Failures.{limit}
use Rattle.cedar_model.specs.Settings.{Setting}
use Rattle.cedar_model.specs.Operators
use Rattle.cedar_model.specs.Rules
use Rattle.cedar_model.proofs.RestrictedAnswers.{EachSuch, AllSuch, set_such}

-- each value of a record is such a value
abbrev pub EachSuchAt : (Represented → Type 0) → RepresentedFields → Type 0
EachSuchAt P no_represented_at = Unit {0}
EachSuchAt P (one_represented_at k v fs) = P v × EachSuchAt P fs

module _ (Such : PartialValue → Type 0) where
  -- a value is such a part
  abbrev pub IsSuch : Represented → Type 0
  IsSuch v = Such (value v)

  -- residuals and literals are such parts, and so is what is made of such values
  pub record AreKept : Type 0 where
    pub residual_kept : (t : Term) → Such (residual t)
    pub literal_kept : (l : Literal) → IsSuch (plain_represented l)
    pub set_kept : (vs : RepresentedValues) → IsStrictlyInOrder vs → EachSuch IsSuch vs → IsSuch (set_represented vs)
    pub record_kept : (fs : RepresentedFields) → EachSuchAt IsSuch fs → IsSuch (record_represented fs)

  -- to such values functions answer such values
  abbrev pub AnswerSuch : Rules.StoredCalls → Type 0
  AnswerSuch calls =
      (f : Text) (vs : List Represented) (v : Represented) → AllSuch IsSuch vs → calls f vs (answers (value v))
      → IsSuch v

-- such an answer, such parts and such results
module _ (Such : PartialValue → Type 0) where
  abbrev KeptAnswer : Answer → Type 0
  KeptAnswer (answers p) = Such p
  KeptAnswer (fails e) = Unit {0}

  abbrev Parts : List PartialValue → Type 0
  Parts [] = Unit {0}
  Parts (p ∷ ps) = Such p × Parts ps

  abbrev PartsAt : List (Text × PartialValue) → Type 0
  PartsAt [] = Unit {0}
  PartsAt (p ∷ ps) = Such p.1 × PartsAt ps

  abbrev KeptResult : Result (List PartialValue) Failure → Type 0
  KeptResult (Err e) = Unit {0}
  KeptResult (Ok ps) = Parts ps

  abbrev KeptResultAt : Result (List (Text × PartialValue)) Failure → Type 0
  KeptResultAt (Err e) = Unit {0}
  KeptResultAt (Ok ps) = PartsAt ps

  abbrev KeptValues : Option (List Represented) → Type 0
  KeptValues None = Unit {0}
  KeptValues (Some vs) = AllSuch (IsSuch Such) vs

  abbrev KeptValuesAt : Option (List (Text × Represented)) → Type 0
  KeptValuesAt None = Unit {0}
  KeptValuesAt (Some vs) = EachSuchAt (IsSuch Such) (represented_fields_of vs)

module _ (Such : PartialValue → Type 0) (kept : AreKept Such) where
  add_kept : (p : PartialValue) (o : Option (List Represented)) → Such p → KeptValues Such o
      → KeptValues Such (Rules.add_value p o)
  unfolding Rules.add_value
  add_kept (value v) None e f = tt
  add_kept (value v) (Some vs) e f = (e, f)
  add_kept (residual r) o e f = tt

  kept_values : (ps : List PartialValue) → Parts Such ps → KeptValues Such (Rules.values_of_parts ps)
  unfolding Rules.values_of_parts
  kept_values [] e = tt
  kept_values (p ∷ ps) (e, f) = add_kept p (Rules.values_of_parts ps) e (kept_values ps f)

  add_kept_at : (k : Text) (p : PartialValue) (o : Option (List (Text × Represented))) → Such p → KeptValuesAt Such o
      → KeptValuesAt Such (Rules.add_value_at k p o)
  unfolding Rules.add_value_at
  add_kept_at k (value v) None e f = tt
  add_kept_at k (value v) (Some vs) e f = (e, f)
  add_kept_at k (residual r) o e f = tt

  kept_values_at : (ps : List (Text × PartialValue)) → PartsAt Such ps
      → KeptValuesAt Such (Rules.values_of_field_parts ps)
  unfolding Rules.values_of_field_parts
  kept_values_at [] e = tt
  kept_values_at (p ∷ ps) (e, f) = add_kept_at p.0 p.1 (Rules.values_of_field_parts ps) e (kept_values_at ps f)

  kept_set : (r : Result (List PartialValue) Failure) → KeptResult Such r → KeptAnswer Such (Rules.set_answer r)
  unfolding Rules.set_answer Rules.set_of_parts
  kept_set (Err e) f = tt
  kept_set (Ok ps) f = by (Rules.values_of_parts ps) (kept_values ps f)
    where
      by : (o : Option (List Represented)) → KeptValues Such o → KeptAnswer Such (Rules.set_of_parts o ps)
      by (Some vs) g =
          kept.set_kept (canonical_set vs) (IsStrictlyInOrder-canonical_set vs) (set_such (IsSuch Such) vs g)
      by None g = kept.residual_kept _

  kept_record : (r : Result (List (Text × PartialValue)) Failure) → KeptResultAt Such r
      → KeptAnswer Such (Rules.record_answer r)
  unfolding Rules.record_answer Rules.record_of_parts
  kept_record (Err e) f = tt
  kept_record (Ok ps) f = by (Rules.values_of_field_parts ps) (kept_values_at ps f)
    where
      by : (o : Option (List (Text × Represented))) → KeptValuesAt Such o → KeptAnswer Such (Rules.record_of_parts o ps)
      by (Some vs) g = kept.record_kept (represented_fields_of vs) g
      by None g = kept.residual_kept _

  kept_by : (a b : Answer) → a ≡ b → KeptAnswer Such b → KeptAnswer Such a
  kept_by a b e f = subst (KeptAnswer Such) (sym e) f

  -- parts before which another stands
  kept_then : (p : PartialValue) (r : Result (List PartialValue) Failure) → Such p → KeptResult Such r
      → KeptResult Such (Rules.part_then p r)
  unfolding Rules.part_then
  kept_then p (Err e) f g = tt
  kept_then p (Ok ps) f g = (f, g)

  kept_then_at : (k : Text) (p : PartialValue) (r : Result (List (Text × PartialValue)) Failure) → Such p
      → KeptResultAt Such r → KeptResultAt Such (Rules.field_part_then k p r)
  unfolding Rules.field_part_then
  kept_then_at k p (Err e) f g = tt
  kept_then_at k p (Ok ps) f g = (f, g)

  module _ (s : Setting) (calls : Rules.StoredCalls) (answered : AnswerSuch Such calls)
      (mapped : (n : Text) (v : Represented) → s.map n ≡ Some v → IsSuch Such v) where
    kept_typed : (t : Option ValueType) (v : Represented) → IsSuch Such v → KeptAnswer Such (Operators.typed_value t v)
    unfolding Operators.typed_value
    kept_typed None v e = e
    kept_typed (Some t) v e = by (type_eq (value_type (abstract_value v)) t)
      where
        by : (c : Bool) → KeptAnswer Such (cond c (answers (value v)) (fails (wrong_type t [] (abstract_value v))))
        by true = e
        by false = tt

    kept_unknown : (n : Text) (t : Option ValueType) → KeptAnswer Such (Operators.unknown_answer s.map n t)
    unfolding Operators.mapped
    kept_unknown n t = by (s.map n) refl
      where
        by : (o : Option Represented) → s.map n ≡ o → KeptAnswer Such (Operators.mapped o n t)
        by None e = kept.residual_kept _
        by (Some v) e = kept_typed t v (mapped n v e)

    kept_call : (f : Text) (vs : List Represented) (a : Answer) → AllSuch (IsSuch Such) vs → calls f vs a
        → KeptAnswer Such a
    kept_call f vs (answers (value v)) g c = answered f vs v g c
    kept_call f vs (answers (residual t)) g c = kept.residual_kept t
    kept_call f vs (fails e) g c = tt

    kept_counts : (c : Bool) (n : ℕ) (f : Text) (vs : List Represented) (a : Answer) → AllSuch (IsSuch Such) vs
        → Rules.Counts calls c n f vs a → KeptAnswer Such a
    kept_counts true n f vs a g r = kept_call f vs a g r
    kept_counts false n f vs a g r = kept_by a _ r tt

    kept_looks : (o : Option ℕ) (f : Text) (vs : List Represented) (a : Answer) → AllSuch (IsSuch Such) vs
        → Rules.LooksUp calls o f vs a → KeptAnswer Such a
    kept_looks None f vs a g r = kept_by a _ r tt
    kept_looks (Some n) f vs a g r = kept_counts (length vs == n) n f vs a g r

    kept_found : (o : Option (List Represented)) (f : Text) (ps : List PartialValue) (a : Answer) → KeptValues Such o
        → Rules.AfterValues calls s.extensions.arity o f ps a → KeptAnswer Such a
    kept_found None f ps a g r = kept_by a _ r (kept.residual_kept _)
    kept_found (Some vs) f ps a g r = kept_looks (s.extensions.arity f) f vs a g r

    kept_arguments : (f : Text) (r : Result (List PartialValue) Failure) (a : Answer) → KeptResult Such r
        → Rules.AfterArguments calls s.extensions.arity f r a → KeptAnswer Such a
    kept_arguments f (Err e) a g h = kept_by a _ h tt
    kept_arguments f (Ok ps) a g h = kept_found (Rules.values_of_parts ps) f ps a (kept_values ps g) h

    mutual
      runs_kept : (n : ℕ) (t : Term) (a : Answer) → is_restricted t ≡ true → Rules.Runs s calls n t a
          → KeptAnswer Such a
      runs_kept zero t a p r = kept_by a limit r tt
      runs_kept (suc n) (literal l) a p r = kept_by a _ r (kept.literal_kept l)
      runs_kept (suc n) (variable v) a p r = absurd (cc)
      runs_kept (suc n) (slot i) a p r = absurd (cc)
      runs_kept (suc n) (unknown k t) a p r = kept_by a _ r (kept_unknown k t)
      runs_kept (suc n) (if_then_else c t e) a p r = absurd (cc)
      runs_kept (suc n) (both t u) a p r = absurd (cc)
      runs_kept (suc n) (either t u) a p r = absurd (cc)
      runs_kept (suc n) (unary op t) a p r = absurd (cc)
      runs_kept (suc n) (binary op t u) a p r = absurd (cc)
      runs_kept (suc n) (call f ts) a p (r, g, h) = kept_arguments f r a (each_runs_kept n ts r p g) h
      runs_kept (suc n) (get_attribute t k) a p r = absurd (cc)
      runs_kept (suc n) (has_attribute t k) a p r = absurd (cc)
      runs_kept (suc n) (extended_has t k ks) a p r = absurd (cc)
      runs_kept (suc n) (like t i) a p r = absurd (cc)
      runs_kept (suc n) (is_of_type t k) a p r = absurd (cc)
      runs_kept (suc n) (set_of ts) a p (r, g, h) = kept_by a _ h (kept_set r (each_runs_kept n ts r p g))
      runs_kept (suc n) (record_of fs) a p (r, g, h) = kept_by a _ h (kept_record r (each_at_runs_kept n fs r p g))

      each_runs_kept : (n : ℕ) (ts : Terms) (r : Result (List PartialValue) Failure) → are_restricted ts ≡ true
          → Rules.Parts (Rules.Runs s calls n) ts r → KeptResult Such r
      each_runs_kept n no_terms r p h = subst (KeptResult Such) (sym h) tt
      each_runs_kept n (one_term t ts) r p (fails e, g, h) = subst (KeptResult Such) (sym h) tt
      each_runs_kept n (one_term t ts) r p (answers q, g, (k, h, e)) =
          subst (KeptResult Such) (sym e) (kept_then q k (runs_kept n t (answers q) (and_parts _ _ p).0 g)
          (each_runs_kept n ts k (and_parts _ _ p).1 h))

      each_at_runs_kept : (n : ℕ) (fs : Fields) (r : Result (List (Text × PartialValue)) Failure)
          → are_restricted_at fs ≡ true → Rules.FieldParts (Rules.Runs s calls n) fs r → KeptResultAt Such r
      each_at_runs_kept n no_fields r p h = subst (KeptResultAt Such) (sym h) tt
      each_at_runs_kept n (one_field l t fs) r p (fails e, g, h) = subst (KeptResultAt Such) (sym h) tt
      each_at_runs_kept n (one_field l t fs) r p (answers q, g, (k, h, e)) =
          subst (KeptResultAt Such) (sym e) (kept_then_at l q k (runs_kept n t (answers q) (and_parts _ _ p).0 g)
          (each_at_runs_kept n fs k (and_parts _ _ p).1 h))

    -- a restricted expression answers such a part
    pub answers_such : (n : ℕ) (t : Term) (p : PartialValue) → is_restricted t ≡ true
        → Rules.Runs s calls n t (answers p) → Such p
    answers_such n t p q r = runs_kept n t (answers p) q r
