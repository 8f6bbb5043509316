-- What restricted expressions answer where functions answer no extension value.
use Rattle.std.specs.Prelude.{◌≡◌, ℕ, zero, suc, ◌==◌, Bool, true, false, cond, List, [], ◌∷◌, length, Option}
use Rattle.std.specs.Prelude.{Some, None, Result, Ok, Err}
use Rattle.std.proofs.Common.{refl, subst, sym}
use Rattle.std.proofs.lemmas.Bool.{and_parts}
use Rattle.cedar_model.specs.Terms.{Text, ValueType, Term, literal, variable, slot, unknown, if_then_else, both, either}
use Rattle.cedar_model.specs.Terms.{unary, binary, call, get_attribute, has_attribute, extended_has, like, is_of_type}
use Rattle.cedar_model.specs.Terms.{set_of, record_of, Terms, no_terms, one_term, Fields, no_fields, one_field}
use Rattle.cedar_model.specs.Values.{Represented, RepresentedValues, no_represented}
use Rattle.cedar_model.specs.Values.{one_represented, abstract_value}
use Rattle.cedar_model.specs.Sets.{canonical_set, represented_fields_of}
use Rattle.cedar_model.specs.Outcomes.{value_type, type_eq}
use Rattle.cedar_model.specs.Shapes.{is_restricted, are_restricted, are_restricted_at}
use Rattle.cedar_model.specs.Failures.{Failure, PartialValue, value, residual, Answer, answers, fails, wrong_type}
use Rattle.cedar_model.specs.Failures.{limit}
use Rattle.cedar_model.specs.Settings.{Setting}
use Rattle.cedar_model.specs.Operators
use Rattle.cedar_model.specs.Rules
use Rattle.cedar_model.proofs.RestrictedAnswers.{EachSuch, AllSuch, set_such}
use Rattle.cedar_laws.specs.Faithful as faithful
use Rattle.cedar_laws.specs.Faithful.{HoldsNoExtensionValue, HoldNoExtensionValue, HoldNoExtensionValueAt}
use Rattle.cedar_laws.specs.Faithful.{PartHoldsNoExtensionValue, MapHoldsNoExtensionValue, AnswerNoExtensionValue}

-- an answer, parts and results that hold none
abbrev Free : Answer → Type 0
Free (answers p) = PartHoldsNoExtensionValue p
Free (fails e) = Unit {0}

abbrev FreeParts : List PartialValue → Type 0
FreeParts [] = Unit {0}
FreeParts (p ∷ ps) = PartHoldsNoExtensionValue p × FreeParts ps

abbrev FreePartsAt : List (Text × PartialValue) → Type 0
FreePartsAt [] = Unit {0}
FreePartsAt (p ∷ ps) = PartHoldsNoExtensionValue p.1 × FreePartsAt ps

abbrev FreeResult : Result (List PartialValue) Failure → Type 0
FreeResult (Err e) = Unit {0}
FreeResult (Ok ps) = FreeParts ps

abbrev FreeResultAt : Result (List (Text × PartialValue)) Failure → Type 0
FreeResultAt (Err e) = Unit {0}
FreeResultAt (Ok ps) = FreePartsAt ps

each_free : (vs : RepresentedValues) → EachSuch HoldsNoExtensionValue vs → HoldNoExtensionValue vs
each_free no_represented e = tt
each_free (one_represented v vs) (e, f) = (e, each_free vs f)

abbrev FreeValues : Option (List Represented) → Type 0
FreeValues None = Unit {0}
FreeValues (Some vs) = AllSuch HoldsNoExtensionValue vs

abbrev FreeValuesAt : Option (List (Text × Represented)) → Type 0
FreeValuesAt None = Unit {0}
FreeValuesAt (Some vs) = HoldNoExtensionValueAt (represented_fields_of vs)

add_free : (p : PartialValue) (o : Option (List Represented)) → PartHoldsNoExtensionValue p → FreeValues o
    → FreeValues (Rules.add_value p o)
unfolding Rules.add_value
add_free (value v) None e f = tt
add_free (value v) (Some vs) e f = (e, f)
add_free (residual r) o e f = tt

free_values : (ps : List PartialValue) → FreeParts ps → FreeValues (Rules.values_of_parts ps)
unfolding Rules.values_of_parts
free_values [] e = tt
free_values (p ∷ ps) (e, f) = add_free p (Rules.values_of_parts ps) e (free_values ps f)

add_free_at : (k : Text) (p : PartialValue) (o : Option (List (Text × Represented))) → PartHoldsNoExtensionValue p
    → FreeValuesAt o → FreeValuesAt (Rules.add_value_at k p o)
unfolding Rules.add_value_at
add_free_at k (value v) None e f = tt
add_free_at k (value v) (Some vs) e f = (e, f)
add_free_at k (residual r) o e f = tt

free_values_at : (ps : List (Text × PartialValue)) → FreePartsAt ps → FreeValuesAt (Rules.values_of_field_parts ps)
unfolding Rules.values_of_field_parts
free_values_at [] e = tt
free_values_at (p ∷ ps) (e, f) = add_free_at p.0 p.1 (Rules.values_of_field_parts ps) e (free_values_at ps f)

free_set : (r : Result (List PartialValue) Failure) → FreeResult r → Free (Rules.set_answer r)
unfolding Rules.set_answer Rules.set_of_parts
free_set (Err e) f = tt
free_set (Ok ps) f = by (Rules.values_of_parts ps) (free_values ps f)
  where
    by : (o : Option (List Represented)) → FreeValues o → Free (Rules.set_of_parts o ps)
    by (Some vs) g = each_free (canonical_set vs) (set_such HoldsNoExtensionValue vs g)
    by None g = tt

free_record : (r : Result (List (Text × PartialValue)) Failure) → FreeResultAt r → Free (Rules.record_answer r)
unfolding Rules.record_answer Rules.record_of_parts
free_record (Err e) f = tt
free_record (Ok ps) f = by (Rules.values_of_field_parts ps) (free_values_at ps f)
  where
    by : (o : Option (List (Text × Represented))) → FreeValuesAt o → Free (Rules.record_of_parts o ps)
    by (Some vs) g = g
    by None g = tt

free_by : (a b : Answer) → a ≡ b → Free b → Free a
free_by a b e f = subst Free (sym e) f

module _ (s : Setting) (calls : Rules.StoredCalls) (none : AnswerNoExtensionValue calls)
    (mapped : MapHoldsNoExtensionValue s.map) where
  free_typed : (t : Option ValueType) (v : Represented) → HoldsNoExtensionValue v → Free (Operators.typed_value t v)
  unfolding Operators.typed_value
  free_typed None v e = e
  free_typed (Some t) v e = by (type_eq (value_type (abstract_value v)) t)
    where
      by : (c : Bool) → Free (cond c (answers (value v)) (fails (wrong_type t [] (abstract_value v))))
      by true = e
      by false = tt

  free_unknown : (n : Text) (t : Option ValueType) → Free (Operators.unknown_answer s.map n t)
  unfolding Operators.mapped
  free_unknown n t = by (s.map n) refl
    where
      by : (o : Option Represented) → s.map n ≡ o → Free (Operators.mapped o n t)
      by None e = tt
      by (Some v) e = free_typed t v (mapped n v e)

  free_call : (f : Text) (vs : List Represented) (a : Answer) → calls f vs a → Free a
  free_call f vs (answers p) c = none f vs p c
  free_call f vs (fails e) c = tt

  free_counts : (c : Bool) (n : ℕ) (f : Text) (vs : List Represented) (a : Answer) → Rules.Counts calls c n f vs a
      → Free a
  free_counts true n f vs a r = free_call f vs a r
  free_counts false n f vs a r = free_by a _ r tt

  free_looks : (o : Option ℕ) (f : Text) (vs : List Represented) (a : Answer) → Rules.LooksUp calls o f vs a → Free a
  free_looks None f vs a r = free_by a _ r tt
  free_looks (Some n) f vs a r = free_counts (length vs == n) n f vs a r

  free_found : (o : Option (List Represented)) (f : Text) (ps : List PartialValue) (a : Answer)
      → Rules.AfterValues calls s.extensions.arity o f ps a → Free a
  free_found None f ps a r = free_by a _ r tt
  free_found (Some vs) f ps a r = free_looks (s.extensions.arity f) f vs a r

  free_arguments : (f : Text) (r : Result (List PartialValue) Failure) (a : Answer)
      → Rules.AfterArguments calls s.extensions.arity f r a → Free a
  free_arguments f (Err e) a h = free_by a _ h tt
  free_arguments f (Ok ps) a h = free_found (Rules.values_of_parts ps) f ps a h

  free_then : (p : PartialValue) (r : Result (List PartialValue) Failure) → PartHoldsNoExtensionValue p → FreeResult r
      → FreeResult (Rules.part_then p r)
  unfolding Rules.part_then
  free_then p (Err e) f g = tt
  free_then p (Ok ps) f g = (f, g)

  free_then_at : (k : Text) (p : PartialValue) (r : Result (List (Text × PartialValue)) Failure)
      → PartHoldsNoExtensionValue p → FreeResultAt r → FreeResultAt (Rules.field_part_then k p r)
  unfolding Rules.field_part_then
  free_then_at k p (Err e) f g = tt
  free_then_at k p (Ok ps) f g = (f, g)

  mutual
    runs_free : (n : ℕ) (t : Term) (a : Answer) → is_restricted t ≡ true → Rules.Runs s calls n t a → Free a
    runs_free zero t a p r = free_by a limit r tt
    runs_free (suc n) (literal l) a p r = free_by a _ r tt
    runs_free (suc n) (variable v) a p r = absurd (cc)
    runs_free (suc n) (slot i) a p r = absurd (cc)
    runs_free (suc n) (unknown k t) a p r = free_by a _ r (free_unknown k t)
    runs_free (suc n) (if_then_else c t e) a p r = absurd (cc)
    runs_free (suc n) (both t u) a p r = absurd (cc)
    runs_free (suc n) (either t u) a p r = absurd (cc)
    runs_free (suc n) (unary op t) a p r = absurd (cc)
    runs_free (suc n) (binary op t u) a p r = absurd (cc)
    runs_free (suc n) (call f ts) a p (r, g, h) = free_arguments f r a h
    runs_free (suc n) (get_attribute t k) a p r = absurd (cc)
    runs_free (suc n) (has_attribute t k) a p r = absurd (cc)
    runs_free (suc n) (extended_has t k ks) a p r = absurd (cc)
    runs_free (suc n) (like t i) a p r = absurd (cc)
    runs_free (suc n) (is_of_type t k) a p r = absurd (cc)
    runs_free (suc n) (set_of ts) a p (r, g, h) = free_by a _ h (free_set r (each_runs_free n ts r p g))
    runs_free (suc n) (record_of fs) a p (r, g, h) = free_by a _ h (free_record r (each_at_runs_free n fs r p g))

    each_runs_free : (n : ℕ) (ts : Terms) (r : Result (List PartialValue) Failure) → are_restricted ts ≡ true
        → Rules.Parts (Rules.Runs s calls n) ts r → FreeResult r
    each_runs_free n no_terms r p h = subst FreeResult (sym h) tt
    each_runs_free n (one_term t ts) r p (fails e, g, h) = subst FreeResult (sym h) tt
    each_runs_free n (one_term t ts) r p (answers q, g, (k, h, e)) =
        subst FreeResult (sym e) (free_then q k (runs_free n t (answers q) (and_parts _ _ p).0 g)
        (each_runs_free n ts k (and_parts _ _ p).1 h))

    each_at_runs_free : (n : ℕ) (fs : Fields) (r : Result (List (Text × PartialValue)) Failure)
        → are_restricted_at fs ≡ true → Rules.FieldParts (Rules.Runs s calls n) fs r → FreeResultAt r
    each_at_runs_free n no_fields r p h = subst FreeResultAt (sym h) tt
    each_at_runs_free n (one_field l t fs) r p (fails e, g, h) = subst FreeResultAt (sym h) tt
    each_at_runs_free n (one_field l t fs) r p (answers q, g, (k, h, e)) =
        subst FreeResultAt (sym e) (free_then_at l q k (runs_free n t (answers q) (and_parts _ _ p).0 g)
        (each_at_runs_free n fs k (and_parts _ _ p).1 h))

-- a restricted expression answers no extension value
pub holds_none : (calls : Rules.StoredCalls) → faithful.RestrictedHoldsNoExtensionValue calls
holds_none calls s none mapped t p q = (
  λ n g. runs_free s calls none mapped n t (answers p) q g,
  λ h. let (ne, n, g) = h in runs_free s calls none mapped n t (answers p) q g,
)
