-- What a restricted expression means where nothing in it is unknown: the same in every world.
use Rattle.std.proofs.Common.{◌≡◌, refl, ap, ◌∙◌, ℕ, true, cond, List, length, Option, Some, None}
use Rattle.std.proofs.Common.{Result, Ok, Err}
use Rattle.std.proofs.lemmas.Bool.{and_parts}
use Rattle.std.specs.Prelude.{◌==◌}
use Rattle.cedar_model.specs.Terms.{Text, Term, literal, variable, slot, unknown, if_then_else, both, either, unary}
use Rattle.cedar_model.specs.Terms.{binary, call, get_attribute, has_attribute, extended_has, like, is_of_type, set_of}
use Rattle.cedar_model.specs.Terms.{record_of, Terms, no_terms, one_term, Fields, no_fields, one_field}
use Rattle.cedar_model.specs.Values.{AbstractValue, set_value, record_value}
use Rattle.cedar_model.specs.Sets.{abstract_set}
use Rattle.cedar_model.specs.Outcomes.{ErrorKind, Outcome, gives, errs, wrong_number_of_arguments}
use Rattle.cedar_model.specs.Shapes.{is_restricted, are_restricted, are_restricted_at}
use Rattle.cedar_model.specs.World.{World, Slots, FunctionAnswer, function_gives, function_errs, function_asks}
use Rattle.cedar_model.specs.World.{Extensions, Functions}
use Rattle.cedar_model.specs.Meaning.{meaning, meanings, field_meanings, value_then, field_then, and_then_all}
use Rattle.cedar_model.specs.Meaning.{call_meaning, function_meaning}
use Rattle.cedar_model.specs.Agreement.{NeverAsks, IsKnown, AreKnown, AreKnownAt}

module _ (X : Extensions) (ans : Functions) (w z : World) (slots others : Slots) where
  answer_unread : (f : Text) (vs : List AbstractValue) (a : FunctionAnswer) → NeverAsks ans f → ans f vs ≡ a
      → function_meaning w a ≡ function_meaning z a
  unfolding function_meaning
  answer_unread f vs (function_gives v) never e = refl
  answer_unread f vs (function_errs k) never e = refl
  answer_unread f vs (function_asks n t) never e = absurd (never vs n t e)

  called_unread : (f : Text) (vs : List AbstractValue) (o : Option ℕ) → NeverAsks ans f
      → call_meaning o (ans f vs) w (length vs) ≡ call_meaning o (ans f vs) z (length vs)
  unfolding call_meaning
  called_unread f vs None never = refl
  called_unread f vs (Some m) never =
      ap (λ (o : Outcome). cond (length vs == m) o (errs wrong_number_of_arguments))
      (answer_unread f vs (ans f vs) never refl)

  call_unread : (f : Text) (r : Result (List AbstractValue) ErrorKind) → NeverAsks ans f
      → and_then_all r (λ vs. call_meaning (X.arity f) (ans f vs) w (length vs))
      ≡ and_then_all r (λ vs. call_meaning (X.arity f) (ans f vs) z (length vs))
  unfolding and_then_all
  call_unread f (Ok vs) never = called_unread f vs (X.arity f) never
  call_unread f (Err e) never = refl

  mutual
    unfolding meaning meanings field_meanings

    pub meaning_unread : (t : Term) → is_restricted t ≡ true → IsKnown ans t
        → meaning X ans w slots t ≡ meaning X ans z others t
    meaning_unread (literal l) r k = refl
    meaning_unread (variable v) r k = absurd (cc)
    meaning_unread (slot i) r k = absurd (cc)
    meaning_unread (unknown n t) r k = absurd k
    meaning_unread (if_then_else c a b) r k = absurd (cc)
    meaning_unread (both a b) r k = absurd (cc)
    meaning_unread (either a b) r k = absurd (cc)
    meaning_unread (unary op a) r k = absurd (cc)
    meaning_unread (binary op a b) r k = absurd (cc)
    meaning_unread (call f ts) r k =
        ap (λ m. and_then_all m (λ vs. call_meaning (X.arity f) (ans f vs) w (length vs))) (meanings_unread ts r k.1)
        ∙ call_unread f (meanings X ans z others ts) k.0
    meaning_unread (get_attribute a l) r k = absurd (cc)
    meaning_unread (has_attribute a l) r k = absurd (cc)
    meaning_unread (extended_has a l ls) r k = absurd (cc)
    meaning_unread (like a p) r k = absurd (cc)
    meaning_unread (is_of_type a t) r k = absurd (cc)
    meaning_unread (set_of ts) r k =
        ap (λ m. and_then_all m (λ vs. gives (set_value (abstract_set vs)))) (meanings_unread ts r k)
    meaning_unread (record_of fs) r k =
        ap (λ m. and_then_all m (λ gs. gives (record_value gs))) (field_meanings_unread fs r k)

    meanings_unread : (ts : Terms) → are_restricted ts ≡ true → AreKnown ans ts
        → meanings X ans w slots ts ≡ meanings X ans z others ts
    meanings_unread no_terms r k = refl
    meanings_unread (one_term t ts) r k =
        ap (λ o. value_then o (meanings X ans w slots ts))
        (meaning_unread t (and_parts (is_restricted t) (are_restricted ts) r).0 k.0)
        ∙ ap (value_then (meaning X ans z others t))
        (meanings_unread ts (and_parts (is_restricted t) (are_restricted ts) r).1 k.1)

    field_meanings_unread : (fs : Fields) → are_restricted_at fs ≡ true → AreKnownAt ans fs
        → field_meanings X ans w slots fs ≡ field_meanings X ans z others fs
    field_meanings_unread no_fields r k = refl
    field_meanings_unread (one_field l t fs) r k =
        ap (λ o. field_then l o (field_meanings X ans w slots fs))
        (meaning_unread t (and_parts (is_restricted t) (are_restricted_at fs) r).0 k.0)
        ∙ ap (field_then l (meaning X ans z others t))
        (field_meanings_unread fs (and_parts (is_restricted t) (are_restricted_at fs) r).1 k.1)
