-- An extended `has` is a conjunction.
use Rattle.std.specs.Prelude.{◌≡◌, Bool, true, false, cond, List, [], ◌∷◌, Option, Some, None}
use Rattle.std.proofs.Common.{refl, sym, ap}
use Rattle.cedar_model.specs.Terms.{Text, bool_literal, long_literal, text_literal, entity_literal, Term, both}
use Rattle.cedar_model.specs.Terms.{has_attribute, get_attribute, extended_has}
use Rattle.cedar_model.specs.Values.{AbstractValue, plain, set_value, record_value, extension_value}
use Rattle.cedar_model.specs.Outcomes.{Outcome, gives, errs, gives_bool, and_then, needing, bool_of}
use Rattle.cedar_model.specs.World.{World, Slots, Extensions, Functions}
use Rattle.cedar_model.specs.Meaning

module _ (w : World) where
  has_is_bool : (v : AbstractValue) (k : Text)
      → Meaning.and_then_bool (Meaning.has_meaning w v k) gives_bool ≡ Meaning.has_meaning w v k
  unfolding Meaning.has_meaning and_then needing bool_of
  has_is_bool (plain (bool_literal b)) k = refl
  has_is_bool (plain (long_literal n)) k = refl
  has_is_bool (plain (text_literal t)) k = refl
  has_is_bool (plain (entity_literal e)) k = refl
  has_is_bool (set_value vs) k = refl
  has_is_bool (record_value fs) k = refl
  has_is_bool (extension_value t j) k = refl

  rest_is_bool : (o : Outcome) (rest : AbstractValue → Outcome)
      → ((u : AbstractValue) → Meaning.and_then_bool (rest u) gives_bool ≡ rest u)
      → Meaning.and_then_bool (and_then o rest) gives_bool ≡ and_then o rest
  unfolding and_then
  rest_is_bool (gives u) rest h = h u
  rest_is_bool (errs e) rest h = refl

  chosen_is_bool : (o : Option Bool) (p : Outcome) → Meaning.and_then_bool p gives_bool ≡ p
      → Meaning.and_then_bool (needing o (λ b. cond b p (gives_bool false))) gives_bool
      ≡ needing o (λ b. cond b p (gives_bool false))
  unfolding needing and_then bool_of
  chosen_is_bool None p h = refl
  chosen_is_bool (Some true) p h = h
  chosen_is_bool (Some false) p h = refl

  pub step_is_bool : (o p : Outcome) → Meaning.and_then_bool p gives_bool ≡ p
      → Meaning.and_then_bool (Meaning.and_then_bool o (λ b. cond b p (gives_bool false))) gives_bool
      ≡ Meaning.and_then_bool o (λ b. cond b p (gives_bool false))
  unfolding and_then
  step_is_bool (gives v) p h = chosen_is_bool (bool_of v) p h
  step_is_bool (errs e) p h = refl

  path_is_bool : (k : Text) (ks : List Text) (v : AbstractValue)
      → Meaning.and_then_bool (Meaning.has_path w v k ks) gives_bool ≡ Meaning.has_path w v k ks
  unfolding Meaning.has_path
  path_is_bool k [] v = has_is_bool v k
  path_is_bool k (l ∷ ls) v =
      step_is_bool (Meaning.has_meaning w v k)
      (and_then (Meaning.attribute_meaning w v k) (λ u. Meaning.has_path w u l ls))
      (rest_is_bool (Meaning.attribute_meaning w v k) (λ u. Meaning.has_path w u l ls) (path_is_bool l ls))

  conjoined : (o : Outcome) (k l : Text) (ls : List Text)
      → and_then o (λ v. Meaning.has_path w v k (l ∷ ls))
      ≡ Meaning.and_then_bool (and_then o (λ v. Meaning.has_meaning w v k))
      (λ b. cond b (Meaning.and_then_bool
      (and_then (and_then o (λ v. Meaning.attribute_meaning w v k)) (λ u. Meaning.has_path w u l ls)) gives_bool)
      (gives_bool false))
  unfolding and_then Meaning.has_path
  conjoined (gives v) k l ls =
      ap (λ p. Meaning.and_then_bool (Meaning.has_meaning w v k) (λ b. cond b p (gives_bool false)))
      (sym (rest_is_bool (Meaning.attribute_meaning w v k) (λ u. Meaning.has_path w u l ls) (path_is_bool l ls)))
  conjoined (errs e) k l ls = refl

pub has_is_conjunction : (X : Extensions) (ans : Functions) (w : World) (slots : Slots) (e : Term) (k l : Text)
    (ls : List Text) → Meaning.meaning X ans w slots (extended_has e k (l ∷ ls))
    ≡ Meaning.meaning X ans w slots (both (has_attribute e k) (extended_has (get_attribute e k) l ls))
unfolding Meaning.meaning
has_is_conjunction X ans w slots e k l ls = conjoined w (Meaning.meaning X ans w slots e) k l ls
