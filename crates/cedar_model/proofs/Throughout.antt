-- What holds throughout an expression: weaker things hold so too; and what is known fits every world.
use Rattle.std.specs.Prelude.{Option}
use Rattle.cedar_model.specs.Terms.{Text, ValueType, Term, literal, variable, slot, unknown, if_then_else, both, either}
use Rattle.cedar_model.specs.Terms.{unary, binary, call, get_attribute, has_attribute, extended_has, like, is_of_type}
use Rattle.cedar_model.specs.Terms.{set_of, record_of, Terms, no_terms, one_term, Fields, no_fields, one_field}
use Rattle.cedar_model.specs.World.{World, Functions}
use Rattle.cedar_model.specs.Agreement.{HoldsThroughout, HoldsOfEach, HoldsOfEachAt, HasType, FitsFunction, Fits}
use Rattle.cedar_model.specs.Agreement.{NeverAsks, IsKnown}

module _ (U V : Text → Option ValueType → Type 0) (F G : Text → Type 0)
    (of_unknown : (n : Text) (t : Option ValueType) → U n t → V n t) (of_function : (f : Text) → F f → G f) where
  mutual
    pub throughout_weaker : (t : Term) → HoldsThroughout U F t → HoldsThroughout V G t
    throughout_weaker (literal l) h = tt
    throughout_weaker (variable v) h = tt
    throughout_weaker (slot i) h = tt
    throughout_weaker (unknown n t) h = of_unknown n t h
    throughout_weaker (if_then_else c a b) h =
        (throughout_weaker c h.0, throughout_weaker a h.1, throughout_weaker b h.2)
    throughout_weaker (both a b) h = (throughout_weaker a h.0, throughout_weaker b h.1)
    throughout_weaker (either a b) h = (throughout_weaker a h.0, throughout_weaker b h.1)
    throughout_weaker (unary op a) h = throughout_weaker a h
    throughout_weaker (binary op a b) h = (throughout_weaker a h.0, throughout_weaker b h.1)
    throughout_weaker (call f ts) h = (of_function f h.0, each_weaker ts h.1)
    throughout_weaker (get_attribute a k) h = throughout_weaker a h
    throughout_weaker (has_attribute a k) h = throughout_weaker a h
    throughout_weaker (extended_has a k ks) h = throughout_weaker a h
    throughout_weaker (like a p) h = throughout_weaker a h
    throughout_weaker (is_of_type a t) h = throughout_weaker a h
    throughout_weaker (set_of ts) h = each_weaker ts h
    throughout_weaker (record_of fs) h = each_at_weaker fs h

    pub each_weaker : (ts : Terms) → HoldsOfEach U F ts → HoldsOfEach V G ts
    each_weaker no_terms h = tt
    each_weaker (one_term t ts) h = (throughout_weaker t h.0, each_weaker ts h.1)

    pub each_at_weaker : (fs : Fields) → HoldsOfEachAt U F fs → HoldsOfEachAt V G fs
    each_at_weaker no_fields h = tt
    each_at_weaker (one_field k t fs) h = (throughout_weaker t h.0, each_at_weaker fs h.1)

pub known_fits : (ans : Functions) (w : World) (t : Term) → IsKnown ans t → Fits ans w t
known_fits ans w =
    throughout_weaker (λ n o. ⊥) (HasType w) (NeverAsks ans) (FitsFunction ans w) (λ n o h. absurd h)
    (λ f never vs n o h. absurd (never vs n o h))
