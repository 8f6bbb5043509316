-- What a conjunct that is true says of the value of an expression: its type as an entity, or the value itself.
use Rattle.std.specs.Prelude.{Bool, false, not, ◌&&◌, Option, None, Some}
use Rattle.cedar_model.specs.Terms.{Text, Literal, bool_literal, long_literal, text_literal, entity_literal}
use Rattle.cedar_model.specs.Terms.{eq_operator}
use Rattle.cedar_model.specs.Terms.{Term, literal}
use Rattle.cedar_model.specs.Terms.{binary}
use Rattle.cedar_model.specs.Terms.{is_of_type}
use Rattle.cedar_model.specs.Outcomes.{text_eq}
use Rattle.cedar_names.specs.Equality.{literal_eq, term_eq}

pub data Claim : Type 0 where
  of_type : Text → Claim
  equal_to : Literal → Claim

abbrev pub known_literal : Term → Option Literal
known_literal (literal l) = Some l
known_literal t = None

-- of `a == b`, one of which is a literal
abbrev pub equality_claim : Term → Term → Option Literal → Option Literal → Option (Term × Claim)
equality_claim a b l (Some m) = Some (a, equal_to m)
equality_claim a b (Some l) None = Some (b, equal_to l)
equality_claim a b None None = None

-- what is said, and of which expression, by `x is T` and by `x == 1`
abbrev pub claim_of : Term → Option (Term × Claim)
claim_of (is_of_type a t) = Some (a, of_type t)
claim_of (binary eq_operator a b) = equality_claim a b (known_literal a) (known_literal b)
claim_of t = None

abbrev pub is_of : Text → Literal → Bool
is_of t (bool_literal b) = false
is_of t (long_literal n) = false
is_of t (text_literal s) = false
is_of t (entity_literal e) = text_eq e.type_name t

-- whether no value is as both say
abbrev pub contradict : Claim → Claim → Bool
contradict (of_type s) (of_type t) = not (text_eq s t)
contradict (of_type s) (equal_to m) = not (is_of s m)
contradict (equal_to l) (of_type t) = not (is_of t l)
contradict (equal_to l) (equal_to m) = not (literal_eq l m)

-- whether both speak of one expression, and no value is as both say
abbrev pub contradict_of_one : Option (Term × Claim) → Option (Term × Claim) → Bool
contradict_of_one None d = false
contradict_of_one (Some c) None = false
contradict_of_one (Some c) (Some d) = term_eq c.0 d.0 && contradict c.1 d.1
