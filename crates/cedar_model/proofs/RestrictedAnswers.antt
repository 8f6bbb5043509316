-- What restricted expressions answer, and unknowns in residuals.
use Rattle.std.specs.Prelude.{◌≡◌, ◌↔◌, ℕ, zero, suc, ◌==◌, Bool, true, false, cond, ◌&&◌, List, [], ◌∷◌}
use Rattle.std.specs.Prelude.{length, Option, Some, None, Result, Ok, Err}
use Rattle.std.specs.declared.cmp.Ordering.{Ordering}
use Rattle.std.specs.declared.cmp.Ordering.TheVariants.{Less, Equal, Greater}
use Rattle.std.specs.Ordering.{match_ordering}
use Rattle.std.proofs.Common.{refl, subst, sym, ◌∙◌}
use Rattle.std.proofs.lemmas.Bool.{and_parts}
use Rattle.cedar_model.specs.Terms.{Text, ValueType}
use Rattle.cedar_model.specs.Terms.{Term, literal, variable, slot}
use Rattle.cedar_model.specs.Terms.{unknown, if_then_else, both, either, unary, binary, call, get_attribute}
use Rattle.cedar_model.specs.Terms.{has_attribute, extended_has, like, is_of_type, set_of, record_of, Terms, no_terms}
use Rattle.cedar_model.specs.Terms.{one_term, Fields, no_fields, one_field}
use Rattle.cedar_model.specs.Values.{Represented, plain_represented, set_represented, record_represented}
use Rattle.cedar_model.specs.Values.{extension_represented, RepresentedValues, no_represented, one_represented}
use Rattle.cedar_model.specs.Values.{RepresentedFields, no_represented_at, one_represented_at, abstract_value}
use Rattle.cedar_model.specs.Values.{expression_of, expressions_of, expressions_at}
use Rattle.cedar_model.specs.Keys.{value_cmp}
use Rattle.cedar_model.specs.Sets.{canonical_set, insert_represented, insert_each, represented_fields_of}
use Rattle.cedar_model.specs.lemmas.Sets.{IsStrictlyInOrder-canonical_set}
use Rattle.cedar_model.specs.Outcomes.{value_type, type_eq}
use Rattle.cedar_model.specs.Chains.{Mapping, value_for, substituted, substituted_each, substituted_at}
use Rattle.cedar_model.specs.Shapes.{is_restricted, are_restricted, are_restricted_at}
use Rattle.cedar_model.specs.Failures.{Failure, PartialValue, value, residual, Answer, answers, fails, wrong_type}
use Rattle.cedar_model.specs.Failures.{limit, part_expression}
use Rattle.cedar_model.specs.Settings.{ContextPart, absent_context, known_context, residual_context, context_value}
use Rattle.cedar_model.specs.Settings.{Setting}
use Rattle.cedar_model.specs.Operators
use Rattle.cedar_model.specs.Rules
use Rattle.cedar_model.specs.Restricted
use Rattle.cedar_model.specs.Restricted.{IsSound, AreSound, AreSoundAt, IsSoundPart, IsSoundContext, IsGivenSound}
use Rattle.cedar_model.specs.laws.Restricted.{AnswersSound}
use Rattle.cedar_model.specs.Depth.{ContextFollows}

-- ---- nothing of request, store and slots is read

module _ (s z : Setting) (calls : Rules.StoredCalls) (maps : s.map ≡ z.map)
    (extensions : s.extensions ≡ z.extensions) where
  mutual
    pub reads_nothing : (n : ℕ) (t : Term) (a : Answer) → is_restricted t ≡ true → Rules.Runs s calls n t a →
        Rules.Runs z calls n t a
    reads_nothing zero t a p r = r
    reads_nothing (suc n) (literal l) a p r = r
    reads_nothing (suc n) (variable v) a p r = absurd (cc)
    reads_nothing (suc n) (slot i) a p r = absurd (cc)
    reads_nothing (suc n) (unknown k t) a p r = subst (λ m. a ≡ Operators.unknown_answer m k t) maps r
    reads_nothing (suc n) (if_then_else c t e) a p r = absurd (cc)
    reads_nothing (suc n) (both t u) a p r = absurd (cc)
    reads_nothing (suc n) (either t u) a p r = absurd (cc)
    reads_nothing (suc n) (unary op t) a p r = absurd (cc)
    reads_nothing (suc n) (binary op t u) a p r = absurd (cc)
    reads_nothing (suc n) (call f ts) a p (r, g, h) =
        (r, each_reads_nothing n ts r p g, subst (λ x. Rules.AfterArguments calls x.arity f r a) extensions h)
    reads_nothing (suc n) (get_attribute t k) a p r = absurd (cc)
    reads_nothing (suc n) (has_attribute t k) a p r = absurd (cc)
    reads_nothing (suc n) (extended_has t k ks) a p r = absurd (cc)
    reads_nothing (suc n) (like t i) a p r = absurd (cc)
    reads_nothing (suc n) (is_of_type t k) a p r = absurd (cc)
    reads_nothing (suc n) (set_of ts) a p (r, g, h) = (r, each_reads_nothing n ts r p g, h)
    reads_nothing (suc n) (record_of fs) a p (r, g, h) = (r, each_at_reads_nothing n fs r p g, h)

    each_reads_nothing : (n : ℕ) (ts : Terms) (r : Result (List PartialValue) Failure) → are_restricted ts ≡ true →
        Rules.Parts (Rules.Runs s calls n) ts r → Rules.Parts (Rules.Runs z calls n) ts r
    each_reads_nothing n no_terms r p h = h
    each_reads_nothing n (one_term t ts) r p (fails e, g, h) =
        (fails e, reads_nothing n t (fails e) (and_parts _ _ p).0 g, h)
    each_reads_nothing n (one_term t ts) r p (answers q, g, (k, h, e)) = (
      answers q,
      reads_nothing n t (answers q) (and_parts _ _ p).0 g,
      (k, each_reads_nothing n ts k (and_parts _ _ p).1 h, e),
    )

    each_at_reads_nothing : (n : ℕ) (fs : Fields) (r : Result (List (Text × PartialValue)) Failure) →
        are_restricted_at fs ≡ true → Rules.FieldParts (Rules.Runs s calls n) fs r →
        Rules.FieldParts (Rules.Runs z calls n) fs r
    each_at_reads_nothing n no_fields r p h = h
    each_at_reads_nothing n (one_field l t fs) r p (fails e, g, h) =
        (fails e, reads_nothing n t (fails e) (and_parts _ _ p).0 g, h)
    each_at_reads_nothing n (one_field l t fs) r p (answers q, g, (k, h, e)) = (
      answers q,
      reads_nothing n t (answers q) (and_parts _ _ p).0 g,
      (k, each_at_reads_nothing n fs k (and_parts _ _ p).1 h, e),
    )

-- ---- the expression of a sound value is restricted

mutual
  pub sound_restricted : (v : Represented) → IsSound v → is_restricted (expression_of v) ≡ true
  sound_restricted (plain_represented l) h = refl
  sound_restricted (set_represented vs) h = sound_each vs h.1
  sound_restricted (record_represented fs) h = sound_each_at fs h
  sound_restricted (extension_represented t k f ts) h = h.0

  sound_each : (vs : RepresentedValues) → AreSound vs → are_restricted (expressions_of vs) ≡ true
  sound_each no_represented h = refl
  sound_each (one_represented v vs) h = λ i. sound_restricted v h.0 i && sound_each vs h.1 i

  sound_each_at : (fs : RepresentedFields) → AreSoundAt fs → are_restricted_at (expressions_at fs) ≡ true
  sound_each_at no_represented_at h = refl
  sound_each_at (one_represented_at k v fs) h = λ i. sound_restricted v h.0 i && sound_each_at fs h.1 i

-- ---- what a restricted expression answers is written as a restricted one

module _ (P : Represented → Type 0) where
  -- each element is such a value
  abbrev pub EachSuch : RepresentedValues → Type 0
  EachSuch no_represented = Unit {0}
  EachSuch (one_represented v vs) = P v × EachSuch vs

  abbrev pub AllSuch : List Represented → Type 0
  AllSuch [] = Unit {0}
  AllSuch (v ∷ vs) = P v × AllSuch vs

  chosen_such : (o : Ordering) (x y z : RepresentedValues) → EachSuch x → EachSuch y → EachSuch z →
      EachSuch (match_ordering o x y z)
  chosen_such Less x y z e f g = e
  chosen_such Equal x y z e f g = f
  chosen_such Greater x y z e f g = g

  insert_such : (v : Represented) (ws : RepresentedValues) → P v → EachSuch ws → EachSuch (insert_represented v ws)
  insert_such v no_represented e f = (e, tt)
  insert_such v (one_represented w ws) e f =
      chosen_such (value_cmp (abstract_value v) (abstract_value w)) (one_represented v (one_represented w ws))
      (one_represented w ws) (one_represented w (insert_represented v ws)) (e, f) f (f.0, insert_such v ws e f.1)

  insert_each_such : (vs : List Represented) (ws : RepresentedValues) → AllSuch vs → EachSuch ws →
      EachSuch (insert_each vs ws)
  insert_each_such [] ws e f = f
  insert_each_such (v ∷ vs) ws e f = insert_each_such vs (insert_represented v ws) e.1 (insert_such v ws e.0 f)

  -- so is each element of the set of such values
  pub set_such : (vs : List Represented) → AllSuch vs → EachSuch (canonical_set vs)
  set_such vs e = insert_each_such vs no_represented e tt

each_sound : (vs : RepresentedValues) → EachSuch IsSound vs → AreSound vs
each_sound no_represented e = tt
each_sound (one_represented v vs) (e, f) = (e, each_sound vs f)

-- a value is sound, a residual restricted
abbrev Written : Answer → Type 0
Written (answers p) = IsSoundPart p
Written (fails e) = Unit {0}

abbrev WrittenPart : PartialValue → Type 0
WrittenPart p = IsSoundPart p

abbrev WrittenParts : List PartialValue → Type 0
WrittenParts [] = Unit {0}
WrittenParts (p ∷ ps) = WrittenPart p × WrittenParts ps

abbrev WrittenPartsAt : List (Text × PartialValue) → Type 0
WrittenPartsAt [] = Unit {0}
WrittenPartsAt (p ∷ ps) = WrittenPart p.1 × WrittenPartsAt ps

abbrev WrittenResult : Result (List PartialValue) Failure → Type 0
WrittenResult (Err e) = Unit {0}
WrittenResult (Ok ps) = WrittenParts ps

abbrev WrittenResultAt : Result (List (Text × PartialValue)) Failure → Type 0
WrittenResultAt (Err e) = Unit {0}
WrittenResultAt (Ok ps) = WrittenPartsAt ps

written_expression : (p : PartialValue) → WrittenPart p → is_restricted (part_expression p) ≡ true
unfolding part_expression
written_expression (value v) e = sound_restricted v e
written_expression (residual r) e = e

written_terms : (ps : List PartialValue) → WrittenParts ps → are_restricted (Rules.terms_of_parts ps) ≡ true
written_terms [] e = refl
written_terms (p ∷ ps) (e, f) = λ i. written_expression p e i && written_terms ps f i

written_fields : (ps : List (Text × PartialValue)) → WrittenPartsAt ps →
    are_restricted_at (Rules.fields_of_parts ps) ≡ true
written_fields [] e = refl
written_fields (p ∷ ps) (e, f) = λ i. written_expression p.1 e i && written_fields ps f i

abbrev WrittenValues : Option (List Represented) → Type 0
WrittenValues None = Unit {0}
WrittenValues (Some vs) = AllSuch IsSound vs

abbrev WrittenValuesAt : Option (List (Text × Represented)) → Type 0
WrittenValuesAt None = Unit {0}
WrittenValuesAt (Some vs) = AreSoundAt (represented_fields_of vs)

add_written : (p : PartialValue) (o : Option (List Represented)) → WrittenPart p → WrittenValues o →
    WrittenValues (Rules.add_value p o)
unfolding Rules.add_value
add_written (value v) None e f = tt
add_written (value v) (Some vs) e f = (e, f)
add_written (residual r) o e f = tt

written_values : (ps : List PartialValue) → WrittenParts ps → WrittenValues (Rules.values_of_parts ps)
unfolding Rules.values_of_parts
written_values [] e = tt
written_values (p ∷ ps) (e, f) = add_written p (Rules.values_of_parts ps) e (written_values ps f)

add_written_at : (k : Text) (p : PartialValue) (o : Option (List (Text × Represented))) → WrittenPart p →
    WrittenValuesAt o → WrittenValuesAt (Rules.add_value_at k p o)
unfolding Rules.add_value_at
add_written_at k (value v) None e f = tt
add_written_at k (value v) (Some vs) e f = (e, f)
add_written_at k (residual r) o e f = tt

written_values_at : (ps : List (Text × PartialValue)) → WrittenPartsAt ps →
    WrittenValuesAt (Rules.values_of_field_parts ps)
unfolding Rules.values_of_field_parts
written_values_at [] e = tt
written_values_at (p ∷ ps) (e, f) = add_written_at p.0 p.1 (Rules.values_of_field_parts ps) e (written_values_at ps f)

written_set : (r : Result (List PartialValue) Failure) → WrittenResult r → Written (Rules.set_answer r)
unfolding Rules.set_answer Rules.set_of_parts
written_set (Err e) f = tt
written_set (Ok ps) f = by (Rules.values_of_parts ps) (written_values ps f)
  where
    by : (o : Option (List Represented)) → WrittenValues o → Written (Rules.set_of_parts o ps)
    by (Some vs) g = (IsStrictlyInOrder-canonical_set vs, each_sound (canonical_set vs) (set_such IsSound vs g))
    by None g = written_terms ps f

written_record : (r : Result (List (Text × PartialValue)) Failure) → WrittenResultAt r →
    Written (Rules.record_answer r)
unfolding Rules.record_answer Rules.record_of_parts
written_record (Err e) f = tt
written_record (Ok ps) f = by (Rules.values_of_field_parts ps) (written_values_at ps f)
  where
    by : (o : Option (List (Text × Represented))) → WrittenValuesAt o → Written (Rules.record_of_parts o ps)
    by (Some vs) g = g
    by None g = written_fields ps f

written_by : (a b : Answer) → a ≡ b → Written b → Written a
written_by a b e f = subst Written (sym e) f

module _ (s : Setting) (calls : Rules.StoredCalls) (sound : AnswersSound calls s) where
  written_typed : (t : Option ValueType) (v : Represented) → IsSound v → Written (Operators.typed_value t v)
  unfolding Operators.typed_value
  written_typed None v e = e
  written_typed (Some t) v e = by (type_eq (value_type (abstract_value v)) t)
    where
      by : (c : Bool) → Written (cond c (answers (value v)) (fails (wrong_type t [] (abstract_value v))))
      by true = e
      by false = tt

  written_unknown : (n : Text) (t : Option ValueType) → Written (Operators.unknown_answer s.map n t)
  unfolding Operators.mapped
  written_unknown n t = by (s.map n) refl
    where
      by : (o : Option Represented) → s.map n ≡ o → Written (Operators.mapped o n t)
      by None e = refl
      by (Some v) e = written_typed t v (sound.mapped_sound n v e)

  written_call : (f : Text) (vs : List Represented) (a : Answer) → calls f vs a → Written a
  written_call f vs (answers p) c = sound.answers_sound f vs p c
  written_call f vs (fails e) c = tt

  written_counts : (c : Bool) (n : ℕ) (f : Text) (vs : List Represented) (a : Answer) →
      Rules.Counts calls c n f vs a → Written a
  written_counts true n f vs a r = written_call f vs a r
  written_counts false n f vs a r = written_by a _ r tt

  written_looks : (o : Option ℕ) (f : Text) (vs : List Represented) (a : Answer) → Rules.LooksUp calls o f vs a →
      Written a
  written_looks None f vs a r = written_by a _ r tt
  written_looks (Some n) f vs a r = written_counts (length vs == n) n f vs a r

  written_found : (o : Option (List Represented)) (f : Text) (ps : List PartialValue) (a : Answer) → WrittenParts ps →
      Rules.AfterValues calls s.extensions.arity o f ps a → Written a
  written_found None f ps a e r = written_by a _ r (written_terms ps e)
  written_found (Some vs) f ps a e r = written_looks (s.extensions.arity f) f vs a r

  written_arguments : (f : Text) (r : Result (List PartialValue) Failure) (a : Answer) → WrittenResult r →
      Rules.AfterArguments calls s.extensions.arity f r a → Written a
  written_arguments f (Err e) a g h = written_by a _ h tt
  written_arguments f (Ok ps) a g h = written_found (Rules.values_of_parts ps) f ps a g h

  written_then : (p : PartialValue) (r : Result (List PartialValue) Failure) → WrittenPart p → WrittenResult r →
      WrittenResult (Rules.part_then p r)
  unfolding Rules.part_then
  written_then p (Err e) f g = tt
  written_then p (Ok ps) f g = (f, g)

  written_then_at : (k : Text) (p : PartialValue) (r : Result (List (Text × PartialValue)) Failure) → WrittenPart p →
      WrittenResultAt r → WrittenResultAt (Rules.field_part_then k p r)
  unfolding Rules.field_part_then
  written_then_at k p (Err e) f g = tt
  written_then_at k p (Ok ps) f g = (f, g)

  mutual
    runs_written : (n : ℕ) (t : Term) (a : Answer) → is_restricted t ≡ true → Rules.Runs s calls n t a → Written a
    runs_written zero t a p r = written_by a limit r tt
    runs_written (suc n) (literal l) a p r = written_by a _ r tt
    runs_written (suc n) (variable v) a p r = absurd (cc)
    runs_written (suc n) (slot i) a p r = absurd (cc)
    runs_written (suc n) (unknown k t) a p r = written_by a _ r (written_unknown k t)
    runs_written (suc n) (if_then_else c t e) a p r = absurd (cc)
    runs_written (suc n) (both t u) a p r = absurd (cc)
    runs_written (suc n) (either t u) a p r = absurd (cc)
    runs_written (suc n) (unary op t) a p r = absurd (cc)
    runs_written (suc n) (binary op t u) a p r = absurd (cc)
    runs_written (suc n) (call f ts) a p (r, g, h) = written_arguments f r a (each_runs_written n ts r p g) h
    runs_written (suc n) (get_attribute t k) a p r = absurd (cc)
    runs_written (suc n) (has_attribute t k) a p r = absurd (cc)
    runs_written (suc n) (extended_has t k ks) a p r = absurd (cc)
    runs_written (suc n) (like t i) a p r = absurd (cc)
    runs_written (suc n) (is_of_type t k) a p r = absurd (cc)
    runs_written (suc n) (set_of ts) a p (r, g, h) = written_by a _ h (written_set r (each_runs_written n ts r p g))
    runs_written (suc n) (record_of fs) a p (r, g, h) =
        written_by a _ h (written_record r (each_at_runs_written n fs r p g))

    each_runs_written : (n : ℕ) (ts : Terms) (r : Result (List PartialValue) Failure) → are_restricted ts ≡ true →
        Rules.Parts (Rules.Runs s calls n) ts r → WrittenResult r
    each_runs_written n no_terms r p h = subst WrittenResult (sym h) tt
    each_runs_written n (one_term t ts) r p (fails e, g, h) = subst WrittenResult (sym h) tt
    each_runs_written n (one_term t ts) r p (answers q, g, (k, h, e)) =
        subst WrittenResult (sym e) (written_then q k (runs_written n t (answers q) (and_parts _ _ p).0 g)
        (each_runs_written n ts k (and_parts _ _ p).1 h))

    each_at_runs_written : (n : ℕ) (fs : Fields) (r : Result (List (Text × PartialValue)) Failure) →
        are_restricted_at fs ≡ true → Rules.FieldParts (Rules.Runs s calls n) fs r → WrittenResultAt r
    each_at_runs_written n no_fields r p h = subst WrittenResultAt (sym h) tt
    each_at_runs_written n (one_field l t fs) r p (fails e, g, h) = subst WrittenResultAt (sym h) tt
    each_at_runs_written n (one_field l t fs) r p (answers q, g, (k, h, e)) =
        subst WrittenResultAt (sym e) (written_then_at l q k (runs_written n t (answers q) (and_parts _ _ p).0 g)
        (each_at_runs_written n fs k (and_parts _ _ p).1 h))

  -- a restricted expression answers a sound value or a restricted residual
  pub stays_restricted : (t : Term) (q : PartialValue) → is_restricted t ≡ true → Rules.Allows s calls t (answers q) →
      IsSoundPart q
  stays_restricted t q p (ne, n, g) = runs_written n t (answers q) p g

-- ---- disallowed parts

none_first : (a b : Option Restricted.Disallowed) → Restricted.or_else a b ≡ None → a ≡ None
unfolding Restricted.or_else
none_first None b e = refl
none_first (Some d) b e = absurd (cc)

none_second : (a b : Option Restricted.Disallowed) → Restricted.or_else a b ≡ None → b ≡ None
unfolding Restricted.or_else
none_second None b e = e
none_second (Some d) b e = absurd (cc)

none_both : (a b : Option Restricted.Disallowed) → a ≡ None → b ≡ None → Restricted.or_else a b ≡ None
unfolding Restricted.or_else
none_both None b e f = f
none_both (Some d) b e f = absurd (cc)

mutual
  unfolding Restricted.first_disallowed

  none_is_restricted : (t : Term) → Restricted.first_disallowed t ≡ None → is_restricted t ≡ true
  none_is_restricted (literal l) e = refl
  none_is_restricted (variable v) e = absurd (cc)
  none_is_restricted (slot i) e = absurd (cc)
  none_is_restricted (unknown n t) e = refl
  none_is_restricted (if_then_else c a b) e = absurd (cc)
  none_is_restricted (both a b) e = absurd (cc)
  none_is_restricted (either a b) e = absurd (cc)
  none_is_restricted (unary op a) e = absurd (cc)
  none_is_restricted (binary op a b) e = absurd (cc)
  none_is_restricted (call f ts) e = none_are_restricted ts e
  none_is_restricted (get_attribute a k) e = absurd (cc)
  none_is_restricted (has_attribute a k) e = absurd (cc)
  none_is_restricted (extended_has a k ks) e = absurd (cc)
  none_is_restricted (like a p) e = absurd (cc)
  none_is_restricted (is_of_type a t) e = absurd (cc)
  none_is_restricted (set_of ts) e = none_are_restricted ts e
  none_is_restricted (record_of fs) e = none_are_restricted_at fs e

  none_are_restricted : (ts : Terms) → Restricted.first_disallowed_of ts ≡ None → are_restricted ts ≡ true
  none_are_restricted no_terms e = refl
  none_are_restricted (one_term t ts) e =
      λ i. none_is_restricted t (none_first _ _ e) i && none_are_restricted ts (none_second _ _ e) i

  none_are_restricted_at : (fs : Fields) → Restricted.first_disallowed_at fs ≡ None → are_restricted_at fs ≡ true
  none_are_restricted_at no_fields e = refl
  none_are_restricted_at (one_field k t fs) e =
      λ i. none_is_restricted t (none_first _ _ e) i && none_are_restricted_at fs (none_second _ _ e) i

mutual
  unfolding Restricted.first_disallowed

  restricted_has_none : (t : Term) → is_restricted t ≡ true → Restricted.first_disallowed t ≡ None
  restricted_has_none (literal l) e = refl
  restricted_has_none (variable v) e = absurd (cc)
  restricted_has_none (slot i) e = absurd (cc)
  restricted_has_none (unknown n t) e = refl
  restricted_has_none (if_then_else c a b) e = absurd (cc)
  restricted_has_none (both a b) e = absurd (cc)
  restricted_has_none (either a b) e = absurd (cc)
  restricted_has_none (unary op a) e = absurd (cc)
  restricted_has_none (binary op a b) e = absurd (cc)
  restricted_has_none (call f ts) e = restricted_have_none ts e
  restricted_has_none (get_attribute a k) e = absurd (cc)
  restricted_has_none (has_attribute a k) e = absurd (cc)
  restricted_has_none (extended_has a k ks) e = absurd (cc)
  restricted_has_none (like a p) e = absurd (cc)
  restricted_has_none (is_of_type a t) e = absurd (cc)
  restricted_has_none (set_of ts) e = restricted_have_none ts e
  restricted_has_none (record_of fs) e = restricted_have_none_at fs e

  restricted_have_none : (ts : Terms) → are_restricted ts ≡ true → Restricted.first_disallowed_of ts ≡ None
  restricted_have_none no_terms e = refl
  restricted_have_none (one_term t ts) e =
      none_both _ _ (restricted_has_none t (and_parts _ _ e).0) (restricted_have_none ts (and_parts _ _ e).1)

  restricted_have_none_at : (fs : Fields) → are_restricted_at fs ≡ true → Restricted.first_disallowed_at fs ≡ None
  restricted_have_none_at no_fields e = refl
  restricted_have_none_at (one_field k t fs) e =
      none_both _ _ (restricted_has_none t (and_parts _ _ e).0) (restricted_have_none_at fs (and_parts _ _ e).1)

pub none_disallowed : (t : Term) → (Restricted.first_disallowed t ≡ None ↔ (is_restricted t ≡ true))
none_disallowed t = (none_is_restricted t, restricted_has_none t)

-- ---- a restricted expression stays so under substitution, and so does a context

module _ (m : Mapping) (mapped_sound : (n : Text) (v : Represented) → m n ≡ Some v → IsSound v) where
  value_restricted : (n : Text) (t : Option ValueType) (o : Option Represented) → m n ≡ o →
      is_restricted (value_for o (unknown n t)) ≡ true
  unfolding value_for
  value_restricted n t None e = refl
  value_restricted n t (Some v) e = sound_restricted v (mapped_sound n v e)

  mutual
    unfolding substituted

    substituted_restricted : (t : Term) → is_restricted t ≡ true → is_restricted (substituted m t) ≡ true
    substituted_restricted (literal l) e = refl
    substituted_restricted (variable v) e = absurd (cc)
    substituted_restricted (slot i) e = absurd (cc)
    substituted_restricted (unknown n t) e = value_restricted n t (m n) refl
    substituted_restricted (if_then_else c a b) e = absurd (cc)
    substituted_restricted (both a b) e = absurd (cc)
    substituted_restricted (either a b) e = absurd (cc)
    substituted_restricted (unary op a) e = absurd (cc)
    substituted_restricted (binary op a b) e = absurd (cc)
    substituted_restricted (call f ts) e = substituted_each_restricted ts e
    substituted_restricted (get_attribute a k) e = absurd (cc)
    substituted_restricted (has_attribute a k) e = absurd (cc)
    substituted_restricted (extended_has a k ks) e = absurd (cc)
    substituted_restricted (like a p) e = absurd (cc)
    substituted_restricted (is_of_type a t) e = absurd (cc)
    substituted_restricted (set_of ts) e = substituted_each_restricted ts e
    substituted_restricted (record_of fs) e = substituted_at_restricted fs e

    substituted_each_restricted : (ts : Terms) → are_restricted ts ≡ true →
        are_restricted (substituted_each m ts) ≡ true
    substituted_each_restricted no_terms e = refl
    substituted_each_restricted (one_term t ts) e =
        λ i. substituted_restricted t (and_parts _ _ e).0 i && substituted_each_restricted ts (and_parts _ _ e).1 i

    pub substituted_at_restricted : (fs : Fields) → are_restricted_at fs ≡ true →
        are_restricted_at (substituted_at m fs) ≡ true
    substituted_at_restricted no_fields e = refl
    substituted_at_restricted (one_field k t fs) e =
        λ i. substituted_restricted t (and_parts _ _ e).0 i && substituted_at_restricted fs (and_parts _ _ e).1 i

module _ (s : Setting) (calls : Rules.StoredCalls) (m : Mapping) (sound : IsGivenSound calls s)
    (mapped_sound : (n : Text) (v : Represented) → m n ≡ Some v → IsSound v) where
  -- the context of an answer is as sound as the answer
  as_part : (c : ContextPart) → IsSoundPart (context_value c) → IsSoundContext c
  unfolding context_value
  as_part absent_context h = tt
  as_part (known_context fs) h = h
  as_part (residual_context fs) h = h

  pub sound_follows : (old c : ContextPart) → s.request.context_part ≡ old → ContextFollows s calls m old c →
      IsSoundContext c
  unfolding substituted
  sound_follows absent_context c e f = subst IsSoundContext (sym f) tt
  sound_follows (known_context fs) c e f = subst IsSoundContext (e ∙ sym f) sound.context_sound
  sound_follows (residual_context fs) c e f =
      as_part c (stays_restricted s calls record {
        mapped_sound = sound.mapped_sound;
        answers_sound =
            sound.answers_sound;
      } (record_of (substituted_at m fs)) (context_value c)
      (substituted_at_restricted m mapped_sound fs (subst IsSoundContext e sound.context_sound)) f)
