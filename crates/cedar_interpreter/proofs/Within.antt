-- What `in` answers of two entities, of which the first is known.
use Rattle.std.specs.Prelude.{◌≡◌, Bool, Option, Some, None, IfSome}
use Rattle.std.proofs.Common.{sym, ap, ◌∙◌, subst}
use Rattle.std.proofs.Math.Bool.{or-false}
use Rattle.cedar_model.specs.Terms.{EntityName, entity_literal, in_operator}
use Rattle.cedar_model.specs.Values.{plain_represented}
use Rattle.cedar_model.specs.Outcomes.{entity_of}
use Rattle.cedar_model.specs.Meaning.{entities_of, some_entity}
use Rattle.cedar_model.specs.Failures.{PartialValue, value, answers_bool}
use Rattle.cedar_model.specs.Settings.{Setting, RequestPart, Store, Found, found, not_there, not_known, look_up}
use Rattle.cedar_model.specs.Operators.{binary_answer, in_found, expecting}
use Rattle.cedar_model.specs.Rules.{binary_of_parts}
use Rattle.cedar_interpreter.specs.declared.at_hand.Known.{Known}
use Rattle.cedar_interpreter.specs.Known.{within, known_view, IsKnownOf}
use Rattle.cedar_interpreter.proofs.Looked.{known_within}

is_some : {a b : Bool} → Some a ≡ Some b → b ≡ a
is_some h = cc

in_answered_of : (f : Found) (d e : EntityName) (b : Bool) → within f d e ≡ Some b →
    answers_bool b ≡ in_found f d (plain_represented (entity_literal e))
unfolding within in_found expecting entities_of some_entity
in_answered_of (found x) d e b h = ap answers_bool (is_some h ∙ (sym (or-false _)))
in_answered_of not_there d e b h = ap answers_bool (is_some h ∙ (sym (or-false _)))
in_answered_of not_known d e b h = absurd (cc)

-- `in` of two entities
pub in_answered : (s : Setting) (d e : EntityName) (b : Bool) → within (look_up s.store d) d e ≡ Some b →
    answers_bool b ≡ binary_answer s in_operator (plain_represented (entity_literal d)) (plain_represented (entity_literal e))
unfolding binary_answer expecting entity_of
in_answered s d e b h = in_answered_of (look_up s.store d) d e b h

-- the same of two parts
parts_answered : (s : Setting) (p q : PartialValue) (d e : EntityName) (b : Bool) → p ≡ value (plain_represented (entity_literal d)) →
    q ≡ value (plain_represented (entity_literal e)) → within (look_up s.store d) d e ≡ Some b →
    binary_of_parts s in_operator p q ≡ answers_bool b
unfolding binary_of_parts
parts_answered s p q d e b is that h = (λ i. binary_of_parts s in_operator (is i) (that i)) ∙ sym (in_answered s d e b h)

-- and of any request over a store
pub within_parts : (f : RequestPart → Setting) (store : Store) → ((r : RequestPart) → (f r).store ≡ store) → (p q : PartialValue) (d e : EntityName) (o : Option Bool) →
    p ≡ value (plain_represented (entity_literal d)) → q ≡ value (plain_represented (entity_literal e)) →
    IfSome o (λ b. within (look_up store d) d e ≡ Some b) →
    IfSome o (λ b. (r : RequestPart) → binary_of_parts (f r) in_operator p q ≡ answers_bool b)
within_parts f store same p q d e (Some b) is that h =
    λ r. parts_answered (f r) p q d e b is that (ap (λ s. within (look_up s d) d e) (same r) ∙ h)
within_parts f store same p q d e None is that h = tt

-- an entity of which something is known, and which is another one's name
pub known_within_if : (s : Store) (p : PartialValue) (k : Known) (c d e : EntityName) (o : Option Bool) → IsKnownOf s p k →
    p ≡ value (plain_represented (entity_literal c)) → c ≡ d → o ≡ within (known_view k) d e →
    IfSome o (λ b. within (look_up s d) d e ≡ Some b)
known_within_if s p k c d e (Some b) known is same h =
    known_within s p k d e b known (is ∙ ap (λ x. value (plain_represented (entity_literal x))) same) (sym h)
known_within_if s p k c d e None known is same h = tt
