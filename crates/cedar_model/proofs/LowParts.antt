-- What is no higher than a number of levels: answers, parts, and what sets and records make of them.
use Rattle.std.specs.Prelude.{◌≡◌, ℕ, suc, ◌≤◌, Bool, true, false, cond, ◌&&◌}
use Rattle.std.specs.Prelude.{List, [], ◌∷◌, Option, Some, None, Result, Ok, Err}
use Rattle.std.specs.declared.cmp.Ordering.{Ordering}
use Rattle.std.specs.declared.cmp.Ordering.TheVariants.{Less, Equal, Greater}
use Rattle.std.specs.Ordering.{match_ordering}
use Rattle.std.proofs.Common.{refl, subst, sym, arith}
use Rattle.std.proofs.lemmas.Bool.{and_parts}
use Rattle.cedar_model.specs.Terms.{Text}
use Rattle.cedar_model.specs.Terms.{Term}
use Rattle.cedar_model.specs.Terms.{record_of, Terms, no_terms, one_term, Fields}
use Rattle.cedar_model.specs.Terms.{no_fields, one_field}
use Rattle.cedar_model.specs.Values.{Represented, set_represented, record_represented}
use Rattle.cedar_model.specs.Values.{RepresentedValues, no_represented, one_represented, RepresentedFields}
use Rattle.cedar_model.specs.Values.{no_represented_at, one_represented_at, abstract_value, expression_of}
use Rattle.cedar_model.specs.Values.{expressions_of, expressions_at}
use Rattle.cedar_model.specs.Keys.{value_cmp}
use Rattle.cedar_model.specs.Sets.{canonical_set, insert_represented, insert_each, represented_fields_of}
use Rattle.cedar_model.specs.Shapes.{is_projectable, are_projectable, are_projectable_at, is_restricted}
use Rattle.cedar_model.specs.Shapes.{are_restricted, are_restricted_at}
use Rattle.cedar_model.specs.Outcomes.{text_eq}
use Rattle.cedar_model.specs.Failures.{Failure}
use Rattle.cedar_model.specs.Failures.{PartialValue, value, residual, Answer, answers, answers_bool}
use Rattle.cedar_model.specs.Failures.{fails, part_expression}
use Rattle.cedar_model.specs.Operators
use Rattle.cedar_model.specs.Rules
use Rattle.cedar_model.specs.Agreement.{height, greatest_height, greatest_height_at}
use Rattle.cedar_model.specs.Chains.{Mapping, substituted, substituted_each, substituted_at}
use Rattle.cedar_model.proofs.Operands.{AllAnswer, AllPart}
use Rattle.cedar_model.proofs.Projection.{record_is}
use Rattle.cedar_model.proofs.RecordParts.{part_such}
use Rattle.cedar_model.proofs.Heights.{value_plain}
use Rattle.cedar_model.proofs.Injections.{some_inj}

abbrev pub AnyFailure : Failure → Type 0
AnyFailure e = Unit {0}

module _ (m : Mapping) where
  abbrev pub h : Term → ℕ
  h t = height (substituted m t)

  -- no higher, and restricted if it is projectable
  abbrev pub Low : ℕ → Term → Type 0
  Low n t = (h t ≤ n) × (is_projectable t ≡ true → is_restricted t ≡ true)

  abbrev pub LowValue : ℕ → Represented → Type 0
  LowValue n v = Low n (expression_of v)

  abbrev pub LowAnswer : ℕ → Answer → Type 0
  LowAnswer n a = AllAnswer (LowValue n) (Low n) AnyFailure a

  abbrev pub LowPart : ℕ → PartialValue → Type 0
  LowPart n p = AllPart (LowValue n) (Low n) p

  pub raise : (n k : ℕ) → n ≤ k → (a : Answer) → LowAnswer n a → LowAnswer k a
  raise n k e (answers (value v)) (f, g) = (omega arith, g)
  raise n k e (answers (residual r)) (f, g) = (omega arith, g)
  raise n k e (fails x) f = tt

  pub raise_part : (n k : ℕ) → n ≤ k → (p : PartialValue) → LowPart n p → LowPart k p
  raise_part n k e (value v) (f, g) = (omega arith, g)
  raise_part n k e (residual r) (f, g) = (omega arith, g)

  pub low_expression : (n : ℕ) (p : PartialValue) → LowPart n p → Low n (part_expression p)
  unfolding part_expression
  low_expression n (value v) f = f
  low_expression n (residual r) f = f

  pub by_equal : (n : ℕ) (a c : Answer) → a ≡ c → LowAnswer n c → LowAnswer n a
  by_equal n a c e f = subst (LowAnswer n) (sym e) f

  pub by_failure : (n : ℕ) (a : Answer) (e : Failure) → a ≡ fails e → LowAnswer n a
  by_failure n a e f = by_equal n a (fails e) f tt

  pub low_bool : (n : ℕ) (c : Bool) → 1 ≤ n → LowAnswer n (answers_bool c)
  unfolding substituted
  low_bool n c e = (e, λ p. refl)

  -- ---- sets and records

  abbrev pub EachLow : ℕ → RepresentedValues → Type 0
  EachLow n no_represented = Unit {0}
  EachLow n (one_represented v vs) = LowValue n v × EachLow n vs

  pub chosen_low : (n : ℕ) (o : Ordering) (x y z : RepresentedValues) → EachLow n x → EachLow n y → EachLow n z →
      EachLow n (match_ordering o x y z)
  chosen_low n Less x y z e f g = e
  chosen_low n Equal x y z e f g = f
  chosen_low n Greater x y z e f g = g

  pub insert_low : (n : ℕ) (v : Represented) (ws : RepresentedValues) → LowValue n v → EachLow n ws →
      EachLow n (insert_represented v ws)
  insert_low n v no_represented e f = (e, tt)
  insert_low n v (one_represented w ws) e f =
      chosen_low n (value_cmp (abstract_value v) (abstract_value w)) (one_represented v (one_represented w ws))
      (one_represented w ws) (one_represented w (insert_represented v ws)) (e, f) f (f.0, insert_low n v ws e f.1)

  abbrev pub AllLow : ℕ → List Represented → Type 0
  AllLow n [] = Unit {0}
  AllLow n (v ∷ vs) = LowValue n v × AllLow n vs

  pub insert_each_low : (n : ℕ) (vs : List Represented) (ws : RepresentedValues) → AllLow n vs → EachLow n ws →
      EachLow n (insert_each vs ws)
  insert_each_low n [] ws e f = f
  insert_each_low n (v ∷ vs) ws e f = insert_each_low n vs (insert_represented v ws) e.1 (insert_low n v ws e.0 f)

  pub greatest_low : (n : ℕ) (vs : RepresentedValues) → EachLow n vs →
      greatest_height (substituted_each m (expressions_of vs)) ≤ n
  unfolding substituted
  greatest_low n no_represented e = omega arith
  greatest_low n (one_represented v vs) (e, f) = let x = e.0 in let y = greatest_low n vs f in omega arith

  pub set_value_low : (n : ℕ) (vs : List Represented) → AllLow n vs →
      LowValue (suc n) (set_represented (canonical_set vs))
  unfolding substituted
  set_value_low n vs e =
      let x = greatest_low n (canonical_set vs) (insert_each_low n vs no_represented e tt) in
      (omega arith, value_plain (set_represented (canonical_set vs)))

  abbrev pub AllLowAt : ℕ → List (Text × Represented) → Type 0
  AllLowAt n [] = Unit {0}
  AllLowAt n (v ∷ vs) = LowValue n v.1 × AllLowAt n vs

  pub greatest_low_at : (n : ℕ) (vs : List (Text × Represented)) → AllLowAt n vs →
      greatest_height_at (substituted_at m (expressions_at (represented_fields_of vs))) ≤ n
  unfolding substituted
  greatest_low_at n [] e = omega arith
  greatest_low_at n (v ∷ vs) (e, f) = let x = e.0 in let y = greatest_low_at n vs f in omega arith

  pub record_value_low : (n : ℕ) (vs : List (Text × Represented)) → AllLowAt n vs →
      LowValue (suc n) (record_represented (represented_fields_of vs))
  unfolding substituted
  record_value_low n vs e =
      let x = greatest_low_at n vs e in (omega arith, value_plain (record_represented (represented_fields_of vs)))

  abbrev pub PartsLow : ℕ → List PartialValue → Type 0
  PartsLow n [] = Unit {0}
  PartsLow n (p ∷ ps) = LowPart n p × PartsLow n ps

  abbrev pub PartsLowAt : ℕ → List (Text × PartialValue) → Type 0
  PartsLowAt n [] = Unit {0}
  PartsLowAt n (p ∷ ps) = LowPart n p.1 × PartsLowAt n ps

  pub terms_low : (n : ℕ) (ps : List PartialValue) → PartsLow n ps →
      (greatest_height (substituted_each m (Rules.terms_of_parts ps)) ≤ n) ×
      (are_projectable (Rules.terms_of_parts ps) ≡ true → are_restricted (Rules.terms_of_parts ps) ≡ true)
  unfolding substituted
  terms_low n [] e = (omega arith, λ f. refl)
  terms_low n (p ∷ ps) (e, f) =
      let x = low_expression n p e in
      let y = terms_low n ps f in
      let x' = x.0 in
      let y' = y.0 in
      (omega arith, λ g i. x.1 (and_parts _ _ g).0 i && y.1 (and_parts _ _ g).1 i)

  pub fields_low : (n : ℕ) (ps : List (Text × PartialValue)) → PartsLowAt n ps →
      (greatest_height_at (substituted_at m (Rules.fields_of_parts ps)) ≤ n) ×
      (are_projectable_at (Rules.fields_of_parts ps) ≡ true → are_restricted_at (Rules.fields_of_parts ps) ≡ true)
  unfolding substituted
  fields_low n [] e = (omega arith, λ f. refl)
  fields_low n (p ∷ ps) (e, f) =
      let x = low_expression n p.1 e in
      let y = fields_low n ps f in
      let x' = x.0 in
      let y' = y.0 in
      (omega arith, λ g i. x.1 (and_parts _ _ g).0 i && y.1 (and_parts _ _ g).1 i)

  -- the values among low parts are low
  abbrev Low? : ℕ → Option (List Represented) → Type 0
  Low? n None = Unit {0}
  Low? n (Some vs) = AllLow n vs

  abbrev LowAt? : ℕ → Option (List (Text × Represented)) → Type 0
  LowAt? n None = Unit {0}
  LowAt? n (Some vs) = AllLowAt n vs

  pub add_low : (n : ℕ) (p : PartialValue) (o : Option (List Represented)) → LowPart n p → Low? n o →
      Low? n (Rules.add_value p o)
  unfolding Rules.add_value
  add_low n (value v) None e f = tt
  add_low n (value v) (Some vs) e f = (e, f)
  add_low n (residual r) o e f = tt

  pub values_low : (n : ℕ) (ps : List PartialValue) → PartsLow n ps → Low? n (Rules.values_of_parts ps)
  unfolding Rules.values_of_parts
  values_low n [] e = tt
  values_low n (p ∷ ps) (e, f) = add_low n p (Rules.values_of_parts ps) e (values_low n ps f)

  pub add_low_at : (n : ℕ) (k : Text) (p : PartialValue) (o : Option (List (Text × Represented))) → LowPart n p →
      LowAt? n o → LowAt? n (Rules.add_value_at k p o)
  unfolding Rules.add_value_at
  add_low_at n k (value v) None e f = tt
  add_low_at n k (value v) (Some vs) e f = (e, f)
  add_low_at n k (residual r) o e f = tt

  pub values_low_at : (n : ℕ) (ps : List (Text × PartialValue)) → PartsLowAt n ps →
      LowAt? n (Rules.values_of_field_parts ps)
  unfolding Rules.values_of_field_parts
  values_low_at n [] e = tt
  values_low_at n (p ∷ ps) (e, f) = add_low_at n p.0 p.1 (Rules.values_of_field_parts ps) e (values_low_at n ps f)

  abbrev pub ResultLow : ℕ → Result (List PartialValue) Failure → Type 0
  ResultLow n (Err e) = Unit {0}
  ResultLow n (Ok ps) = PartsLow n ps

  abbrev pub ResultLowAt : ℕ → Result (List (Text × PartialValue)) Failure → Type 0
  ResultLowAt n (Err e) = Unit {0}
  ResultLowAt n (Ok ps) = PartsLowAt n ps

  pub set_low : (n : ℕ) (r : Result (List PartialValue) Failure) → ResultLow n r → LowAnswer (suc n) (Rules.set_answer r)
  unfolding Rules.set_answer Rules.set_of_parts substituted
  set_low n (Err e) f = tt
  set_low n (Ok ps) f = by (Rules.values_of_parts ps) (values_low n ps f)
    where
      by : (o : Option (List Represented)) → Low? n o → LowAnswer (suc n) (Rules.set_of_parts o ps)
      by (Some vs) g = set_value_low n vs g
      by None g = let x = terms_low n ps f in let y = x.0 in (omega arith, x.1)

  pub record_low : (n : ℕ) (r : Result (List (Text × PartialValue)) Failure) → ResultLowAt n r →
      LowAnswer (suc n) (Rules.record_answer r)
  unfolding Rules.record_answer Rules.record_of_parts substituted
  record_low n (Err e) f = tt
  record_low n (Ok ps) f = by (Rules.values_of_field_parts ps) (values_low_at n ps f)
    where
      by : (o : Option (List (Text × Represented))) → LowAt? n o → LowAnswer (suc n) (Rules.record_of_parts o ps)
      by (Some vs) g = record_value_low n vs g
      by None g = let x = fields_low n ps f in let y = x.0 in (omega arith, x.1)

  -- ---- a part of a record is lower than the record

  pub field_low : (n : ℕ) (k : Text) (fs : RepresentedFields) (v : Represented) →
      greatest_height_at (substituted_at m (expressions_at fs)) ≤ n → Operators.represented_at k fs ≡ Some v →
      h (expression_of v) ≤ n
  unfolding substituted Operators.represented_at
  field_low n k no_represented_at v e f = absurd (cc)
  field_low n k (one_represented_at l u fs) v e f = by (text_eq k l) f (λ g. field_low n k fs v (omega arith) g)
    where
      by : (c : Bool) → cond c (Some u) (Operators.represented_at k fs) ≡ Some v →
          (Operators.represented_at k fs ≡ Some v → h (expression_of v) ≤ n) → h (expression_of v) ≤ n
      by true g rest =
          let x : h (expression_of u) ≤ n = omega arith in subst (λ w. h (expression_of w) ≤ n) (some_inj g) x
      by false g rest = rest g

  pub part_low : (n : ℕ) (k : Text) (fs : Fields) (part : Term) → greatest_height_at (substituted_at m fs) ≤ n →
      Operators.term_at k fs ≡ Some part → h part ≤ n
  unfolding substituted
  part_low n k fs part e f =
      part_such (λ t. h t ≤ n) (λ gs. greatest_height_at (substituted_at m gs) ≤ n) (λ l t gs g. (
        omega arith,
        omega arith,
      )) k fs part e f

  pub part_of_record : (r : Term) (k : Text) (fs : Fields) (part : Term) → Rules.fields_of_record r ≡ Some fs →
      Operators.term_at k fs ≡ Some part → suc (h part) ≤ h r
  unfolding substituted
  part_of_record r k fs part e f =
      let x : h part ≤ greatest_height_at (substituted_at m fs) =
      part_low (greatest_height_at (substituted_at m fs)) k fs part (omega arith) f in
      let y : suc (h part) ≤ h (record_of fs) = omega arith in
      subst (λ t. suc (h part) ≤ h t) (sym (record_is r fs e)) y

  -- whatever the expression answers is low
  abbrev pub AnswersLow : Rules.MayAnswer → ℕ → Term → Type 0
  AnswersLow G n t = (x : Answer) → G t x → LowAnswer n x

  abbrev pub EachAnswersLow : Rules.MayAnswer → ℕ → Terms → Type 0
  EachAnswersLow G n no_terms = Unit {0}
  EachAnswersLow G n (one_term t ts) = AnswersLow G n t × EachAnswersLow G n ts

  abbrev pub EachAnswersLowAt : Rules.MayAnswer → ℕ → Fields → Type 0
  EachAnswersLowAt G n no_fields = Unit {0}
  EachAnswersLowAt G n (one_field k t fs) = AnswersLow G n t × EachAnswersLowAt G n fs
