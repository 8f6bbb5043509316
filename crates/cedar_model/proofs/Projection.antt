-- A projectable expression means a value without slots, and so does each of its parts.
use Rattle.std.specs.Prelude.{◌≡◌, Bool, true, false, cond, List, [], ◌∷◌, Option, Some, None, Result, Ok, Err}
use Rattle.std.proofs.Common.{refl, ap, subst}
use Rattle.std.proofs.lemmas.Bool.{and_parts}
use Rattle.cedar_model.specs.Terms.{Text, Term, literal, variable, slot, unknown, if_then_else, both, either, unary}
use Rattle.cedar_model.specs.Terms.{binary, call, get_attribute, has_attribute, extended_has, like, is_of_type, set_of}
use Rattle.cedar_model.specs.Terms.{record_of, Terms, no_terms, one_term, Fields, no_fields, one_field}
use Rattle.cedar_model.specs.Values.{AbstractValue, plain, set_value, record_value, AbstractFields, no_values_at}
use Rattle.cedar_model.specs.Values.{one_value_at}
use Rattle.cedar_model.specs.Sets.{abstract_set}
use Rattle.cedar_model.specs.Shapes.{is_projectable, are_projectable, are_projectable_at}
use Rattle.cedar_model.specs.Outcomes.{ErrorKind, Outcome, gives, errs, value_at, text_eq}
use Rattle.cedar_model.specs.World.{World, Extensions, Functions, variable_value}
use Rattle.cedar_model.specs.Meaning
use Rattle.cedar_model.specs.Operators
use Rattle.cedar_model.specs.Rules
use Rattle.cedar_model.specs.Agreement.{no_slots, Fits, FitEachAt}
use Rattle.cedar_model.proofs.Injections.{some_inj}

pub record_is : (r : Term) (fs : Fields) → Rules.fields_of_record r ≡ Some fs → r ≡ record_of fs
unfolding Rules.fields_of_record
record_is (literal l) fs e = absurd (cc)
record_is (variable v) fs e = absurd (cc)
record_is (slot i) fs e = absurd (cc)
record_is (unknown n t) fs e = absurd (cc)
record_is (if_then_else c a b) fs e = absurd (cc)
record_is (both a b) fs e = absurd (cc)
record_is (either a b) fs e = absurd (cc)
record_is (unary op a) fs e = absurd (cc)
record_is (binary op a b) fs e = absurd (cc)
record_is (call f ts) fs e = absurd (cc)
record_is (get_attribute a k) fs e = absurd (cc)
record_is (has_attribute a k) fs e = absurd (cc)
record_is (extended_has a k ks) fs e = absurd (cc)
record_is (like a p) fs e = absurd (cc)
record_is (is_of_type a t) fs e = absurd (cc)
record_is (set_of ts) fs e = absurd (cc)
record_is (record_of gs) fs e = ap record_of (some_inj e)

module _ (X : Extensions) (ans : Functions) (w : World) where
  abbrev N : Term → Outcome
  N t = Meaning.meaning X ans w no_slots t

  abbrev Ns : Terms → Result (List AbstractValue) ErrorKind
  Ns ts = Meaning.meanings X ans w no_slots ts

  abbrev Nf : Fields → Result AbstractFields ErrorKind
  Nf fs = Meaning.field_meanings X ans w no_slots fs

  cons_ok : (t : Term) (ts : Terms) → ((v : AbstractValue) × (N t ≡ gives v))
      → ((vs : List AbstractValue) × (Ns ts ≡ Ok vs)) → (vs : List AbstractValue)
      × (Meaning.value_then (N t) (Ns ts) ≡ Ok vs)
  unfolding Meaning.value_then
  cons_ok t ts (v, e) (vs, f) = (v ∷ vs, λ i. Meaning.value_then (e i) (f i))

  field_ok : (k : Text) (t : Term) (fs : Fields) → ((v : AbstractValue) × (N t ≡ gives v))
      → ((gs : AbstractFields) × (Nf fs ≡ Ok gs)) → (gs : AbstractFields) × (Meaning.field_then k (N t) (Nf fs) ≡ Ok gs)
  unfolding Meaning.field_then
  field_ok k t fs (v, e) (gs, f) = (one_value_at k v gs, λ i. Meaning.field_then k (e i) (f i))

  set_ok : (ts : Terms) → ((vs : List AbstractValue) × (Ns ts ≡ Ok vs)) → (v : AbstractValue)
      × (N (set_of ts) ≡ gives v)
  unfolding Meaning.meaning Meaning.and_then_all
  set_ok ts (vs, e) =
      (set_value (abstract_set vs), ap (λ m. Meaning.and_then_all m (λ us. gives (set_value (abstract_set us)))) e)

  record_ok : (fs : Fields) → ((gs : AbstractFields) × (Nf fs ≡ Ok gs)) → (v : AbstractValue)
      × (N (record_of fs) ≡ gives v)
  unfolding Meaning.meaning Meaning.and_then_all
  record_ok fs (gs, e) = (record_value gs, ap (λ m. Meaning.and_then_all m (λ hs. gives (record_value hs))) e)

  mutual
    unfolding Meaning.meaning

    pub projectable_gives : (t : Term) → is_projectable t ≡ true → (v : AbstractValue)
        × (Meaning.meaning X ans w no_slots t ≡ gives v)
    projectable_gives (literal l) e = (plain l, refl)
    projectable_gives (variable v) e = (variable_value w v, refl)
    projectable_gives (slot i) e = absurd (cc)
    projectable_gives (unknown n t) e = (w.sigma n, refl)
    projectable_gives (if_then_else c a b) e = absurd (cc)
    projectable_gives (both a b) e = absurd (cc)
    projectable_gives (either a b) e = absurd (cc)
    projectable_gives (unary op a) e = absurd (cc)
    projectable_gives (binary op a b) e = absurd (cc)
    projectable_gives (call f ts) e = absurd (cc)
    projectable_gives (get_attribute a k) e = absurd (cc)
    projectable_gives (has_attribute a k) e = absurd (cc)
    projectable_gives (extended_has a k ks) e = absurd (cc)
    projectable_gives (like a p) e = absurd (cc)
    projectable_gives (is_of_type a t) e = absurd (cc)
    projectable_gives (set_of ts) e = set_ok ts (projectable_give ts e)
    projectable_gives (record_of fs) e = record_ok fs (projectable_give_at fs e)

    pub projectable_give : (ts : Terms) → are_projectable ts ≡ true → (vs : List AbstractValue)
        × (Meaning.meanings X ans w no_slots ts ≡ Ok vs)
    projectable_give no_terms e = ([], refl)
    projectable_give (one_term t ts) e =
        cons_ok t ts (projectable_gives t (and_parts (is_projectable t) (are_projectable ts) e).0)
        (projectable_give ts (and_parts (is_projectable t) (are_projectable ts) e).1)

    pub projectable_give_at : (fs : Fields) → are_projectable_at fs ≡ true → (gs : AbstractFields)
        × (Meaning.field_meanings X ans w no_slots fs ≡ Ok gs)
    projectable_give_at no_fields e = (no_values_at, refl)
    projectable_give_at (one_field k t fs) e =
        field_ok k t fs (projectable_gives t (and_parts (is_projectable t) (are_projectable_at fs) e).0)
        (projectable_give_at fs (and_parts (is_projectable t) (are_projectable_at fs) e).1)

  -- ---- keys

  -- at a key: nothing on both sides, or an expression and its value
  abbrev pub AtSame : Option Term → Option AbstractValue → Type 0
  AtSame None None = Unit {0}
  AtSame None (Some v) = ⊥
  AtSame (Some t) None = ⊥
  AtSame (Some t) (Some v) = Meaning.meaning X ans w no_slots t ≡ gives v

  same_if : (b : Bool) (t : Term) (v : AbstractValue) (o : Option Term) (p : Option AbstractValue) → N t ≡ gives v
      → AtSame o p → AtSame (cond b (Some t) o) (cond b (Some v) p)
  same_if true t v o p e h = e
  same_if false t v o p e h = h

  then_is : (k : Text) (o : Outcome) (m : Result AbstractFields ErrorKind) (gs : AbstractFields)
      → Meaning.field_then k o m ≡ Ok gs → (v : AbstractValue) × (hs : AbstractFields) × (o ≡ gives v) × (m ≡ Ok hs)
      × (one_value_at k v hs ≡ gs)
  unfolding Meaning.field_then
  then_is k (gives v) (Ok hs) gs e = (v, hs, refl, refl, cc)
  then_is k (gives v) (Err f) gs e = absurd (cc)
  then_is k (errs f) m gs e = absurd (cc)

  pub fields_at : (fs : Fields) (gs : AbstractFields) → Meaning.field_meanings X ans w no_slots fs ≡ Ok gs → (k : Text)
      → AtSame (Operators.term_at k fs) (value_at k gs)
  unfolding Meaning.meaning Operators.term_at value_at
  fields_at no_fields gs e k = let f : no_values_at ≡ gs = cc in subst (λ hs. AtSame None (value_at k hs)) f tt
  fields_at (one_field l t fs) gs e k =
      let z = then_is l (N t) (Nf fs) gs e in
      subst (λ hs. AtSame (cond (text_eq k l) (Some t) (Operators.term_at k fs)) (value_at k hs)) z.4
      (same_if (text_eq k l) t z.0 (Operators.term_at k fs) (value_at k z.1) z.2 (fields_at fs z.1 z.3 k))

  pub part_fits : (fs : Fields) (k : Text) (part : Term) → FitEachAt ans w fs → Operators.term_at k fs ≡ Some part
      → Fits ans w part
  unfolding Operators.term_at
  part_fits no_fields k part h e = absurd (cc)
  part_fits (one_field l t fs) k part h e = by (text_eq k l) e (λ g. part_fits fs k part h.1 g)
    where
      by : (b : Bool) → cond b (Some t) (Operators.term_at k fs) ≡ Some part
          → (Operators.term_at k fs ≡ Some part → Fits ans w part) → Fits ans w part
      by true g rest = subst (Fits ans w) (some_inj g) h.0
      by false g rest = rest g
