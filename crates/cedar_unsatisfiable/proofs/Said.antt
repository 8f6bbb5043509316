-- What a true conjunct says of a value is so, and of two that contradict each other both can't be.
use Rattle.std.proofs.Common.{◌≡◌, ◌∙◌, Bool, true, false, not, Option, None, Some, refl, sym, subst, ap}
use Rattle.std.proofs.lemmas.Bool.{and_parts}
use Rattle.cedar_model.specs.Terms.{Text, EntityName, Literal, bool_literal, long_literal, text_literal, entity_literal}
use Rattle.cedar_model.specs.Terms.{eq_operator}
use Rattle.cedar_model.specs.Terms.{Term, literal, binary, is_of_type}
use Rattle.cedar_model.specs.Values.{AbstractValue, plain, set_value, record_value, extension_value}
use Rattle.cedar_model.specs.Keys.{value_eq}
use Rattle.cedar_model.specs.lemmas.Keys.{value_eq-true}
use Rattle.cedar_model.specs.Outcomes.{Outcome, gives, errs, gives_bool, and_then, needing, entity_of, text_eq}
use Rattle.cedar_model.specs.World.{World, Slots, Extensions, Functions}
use Rattle.cedar_model.specs.Meaning.{meaning, binary_meaning}
use Rattle.cedar_names.specs.Equality.{literal_eq, term_eq}
use Rattle.cedar_names.specs.EqualityLaws.{text_eq-decides, literal_eq-decides, term_eq-decides}
use Rattle.cedar_unsatisfiable.specs.Claims.{Claim, of_type, equal_to, known_literal, equality_claim, claim_of, is_of, contradict, contradict_of_one}

-- the value is as is said
abbrev Says : Claim → AbstractValue → Type 0
Says (of_type t) v = (e : EntityName) × (v ≡ plain (entity_literal e)) × (e.type_name ≡ t)
Says (equal_to l) v = v ≡ plain l

not_true : (b : Bool) → not b ≡ true → b ≡ true → ⊥
not_true true f g = cc
not_true false f g = cc

no_type : (s : Text) (m : Literal) (e : EntityName) → plain m ≡ plain (entity_literal e) → e.type_name ≡ s → is_of s m ≡ true
no_type s m e is type =
    let l : m ≡ entity_literal e = cc in
    subst (λ (n : Literal). is_of s n ≡ true) (sym l) ((text_eq-decides e.type_name s).1 type)

same_name : (d e : EntityName) (s t : Text) → plain (entity_literal d) ≡ plain (entity_literal e) → d.type_name ≡ s → e.type_name ≡ t → s ≡ t
same_name d e s t is f g =
    let names : d ≡ e = cc in
    sym f ∙ ap (λ (n : EntityName). n.type_name) names ∙ g

cant_both : (c d : Claim) (v : AbstractValue) → contradict c d ≡ true → Says c v → Says d v → ⊥
cant_both (of_type s) (of_type t) v h f g =
    not_true (text_eq s t) h ((text_eq-decides s t).1 (same_name f.0 g.0 s t (sym f.1 ∙ g.1) f.2 g.2))
cant_both (of_type s) (equal_to m) v h f g = not_true (is_of s m) h (no_type s m f.0 (sym g ∙ f.1) f.2)
cant_both (equal_to l) (of_type t) v h f g = not_true (is_of t l) h (no_type t l g.0 (sym f ∙ g.1) g.2)
cant_both (equal_to l) (equal_to m) v h f g =
    let same : plain l ≡ plain m = sym f ∙ g in
    let literals : l ≡ m = cc in
    not_true (literal_eq l m) h ((literal_eq-decides l m).1 literals)

-- ---- a conjunct that is true

type_said : (v : AbstractValue) (t : Text) → needing (entity_of v) (λ e. gives_bool (text_eq e.type_name t)) ≡ gives_bool true → Says (of_type t) v
unfolding needing entity_of
type_said (plain (bool_literal b)) t h = absurd (cc)
type_said (plain (long_literal n)) t h = absurd (cc)
type_said (plain (text_literal s)) t h = absurd (cc)
type_said (plain (entity_literal e)) t h =
    let is : text_eq e.type_name t ≡ true = cc in
    (e, refl, (text_eq-decides e.type_name t).0 is)
type_said (set_value vs) t h = absurd (cc)
type_said (record_value fs) t h = absurd (cc)
type_said (extension_value n k) t h = absurd (cc)

known_is : (t : Term) (l : Literal) → known_literal t ≡ Some l → t ≡ literal l
known_is (literal m) l is = cc
known_is t l is = absurd (cc)

module _ (X : Extensions) (ans : Functions) (w : World) (slots : Slots) where
  abbrev M : Term → Outcome
  M t = meaning X ans w slots t

  -- the expression has a value, which is as is said
  abbrev IsSo : Term → Claim → Type 0
  IsSo x c = (v : AbstractValue) × (M x ≡ gives v) × Says c v

  type_so : (o : Outcome) (t : Text) → and_then o (λ v. needing (entity_of v) (λ e. gives_bool (text_eq e.type_name t))) ≡ gives_bool true →
      (v : AbstractValue) × (o ≡ gives v) × Says (of_type t) v
  unfolding and_then
  type_so (gives v) t h = (v, refl, type_said v t h)
  type_so (errs e) t h = absurd (cc)

  equal_so : (o : Outcome) (l : Literal) → and_then o (λ u. gives_bool (value_eq u (plain l))) ≡ gives_bool true →
      (v : AbstractValue) × (o ≡ gives v) × (v ≡ plain l)
  unfolding and_then
  equal_so (gives v) l h =
      let is : value_eq v (plain l) ≡ true = cc in
      (v, refl, value_eq-true v (plain l) is)
  equal_so (errs e) l h = absurd (cc)

  so_equal : (o : Outcome) (l : Literal) → and_then o (λ v. gives_bool (value_eq (plain l) v)) ≡ gives_bool true →
      (v : AbstractValue) × (o ≡ gives v) × (v ≡ plain l)
  unfolding and_then
  so_equal (gives v) l h =
      let is : value_eq (plain l) v ≡ true = cc in
      (v, refl, sym (value_eq-true (plain l) v is))
  so_equal (errs e) l h = absurd (cc)

  second_known : (a b : Term) (m : Literal) → b ≡ literal m → M (binary eq_operator a b) ≡ gives_bool true → IsSo a (equal_to m)
  unfolding meaning and_then binary_meaning
  second_known a b m is h =
      equal_so (M a) m (subst (λ (t : Term). M (binary eq_operator a t) ≡ gives_bool true) is h)

  first_known : (a b : Term) (l : Literal) → a ≡ literal l → M (binary eq_operator a b) ≡ gives_bool true → IsSo b (equal_to l)
  unfolding meaning and_then binary_meaning
  first_known a b l is h =
      so_equal (M b) l (subst (λ (t : Term). M (binary eq_operator t b) ≡ gives_bool true) is h)

  abbrev AreSo : Option (Term × Claim) → Type 0
  AreSo None = Unit {0}
  AreSo (Some c) = IsSo c.0 c.1

  equality_so : (a b : Term) (l m : Option Literal) → known_literal a ≡ l → known_literal b ≡ m →
      M (binary eq_operator a b) ≡ gives_bool true → AreSo (equality_claim a b l m)
  equality_so a b l (Some m) f g h = second_known a b m (known_is b m g) h
  equality_so a b (Some l) None f g h = first_known a b l (known_is a l f) h
  equality_so a b None None f g h = tt

  pub claimed : (t : Term) → M t ≡ gives_bool true → AreSo (claim_of t)
  unfolding meaning
  claimed (is_of_type a t) h = type_so (M a) t h
  claimed (binary eq_operator a b) h = equality_so a b (known_literal a) (known_literal b) refl refl h
  claimed t h = tt

  one_value : (x y : Term) (c d : Claim) → x ≡ y → contradict c d ≡ true → IsSo x c → IsSo y d → ⊥
  one_value x y c d same h f g =
      let values : gives f.0 ≡ gives g.0 = sym f.1 ∙ ap M same ∙ g.1 in
      let v : f.0 ≡ g.0 = cc in
      cant_both c d g.0 h (subst (Says c) v f.2) g.2

  cant_both_be : (c d : Option (Term × Claim)) → contradict_of_one c d ≡ true → AreSo c → AreSo d → ⊥
  cant_both_be None d h f g = cc
  cant_both_be (Some c) None h f g = cc
  cant_both_be (Some c) (Some d) h f g =
      let parts = and_parts (term_eq c.0 d.0) (contradict c.1 d.1) h in
      one_value c.0 d.0 c.1 d.1 ((term_eq-decides c.0 d.0).0 parts.0) parts.1 f g

  pub pair_never : (a b : Term) → contradict_of_one (claim_of a) (claim_of b) ≡ true → M a ≡ gives_bool true → M b ≡ gives_bool true → ⊥
  pair_never a b h f g = cant_both_be (claim_of a) (claim_of b) h (claimed a f) (claimed b g)
