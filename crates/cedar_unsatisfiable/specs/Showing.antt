-- What shows that a condition is true in no world.
use Rattle.std.specs.Prelude.{◌≢◌, Bool, true, false, not, ◌&&◌, ◌||◌}
use Rattle.cedar_model.specs.Terms.{Literal, bool_literal, long_literal, text_literal, entity_literal, Term, literal}
use Rattle.cedar_model.specs.Terms.{variable, slot, unknown, if_then_else, both, either, unary, binary, call}
use Rattle.cedar_model.specs.Terms.{get_attribute, has_attribute, extended_has, like, is_of_type, set_of, record_of}
use Rattle.cedar_model.specs.Outcomes.{gives_bool}
use Rattle.cedar_model.specs.World.{World, Slots, Extensions, Functions}
use Rattle.cedar_model.specs.Meaning.{meaning}
use Rattle.cedar_model.specs.Policies.{verdict, satisfied}
use Rattle.cedar_unsatisfiable.specs.Claims.{claim_of, contradict_of_one}

-- whether the conjunct contradicts one of the conjuncts of the second
abbrev pub conjunct_clashes : Term → Term → Bool
conjunct_clashes a (both x y) = conjunct_clashes a x || conjunct_clashes a y
conjunct_clashes a b = contradict_of_one (claim_of a) (claim_of b)

-- whether a conjunct of the first contradicts one of the second
abbrev pub clash : Term → Term → Bool
clash (both x y) b = clash x b || clash y b
clash a b = conjunct_clashes a b

abbrev pub is_no_truth : Literal → Bool
is_no_truth (bool_literal b) = not b
is_no_truth (long_literal n) = true
is_no_truth (text_literal t) = true
is_no_truth (entity_literal e) = true

-- whether it shows that it is never true: a literal other than `true`, a set or a record; `a && b` where one of them
-- shows it, or two conjuncts contradict each other; `a || b`, and the branches of an `if`, where both show it
abbrev pub shows_never : Term → Bool
shows_never (literal l) = is_no_truth l
shows_never (variable v) = false
shows_never (slot s) = false
shows_never (unknown n t) = false
shows_never (if_then_else c a b) = shows_never a && shows_never b
shows_never (both a b) = shows_never a || (shows_never b || clash a b)
shows_never (either a b) = shows_never a && shows_never b
shows_never (unary op a) = false
shows_never (binary op a b) = false
shows_never (call f ts) = false
shows_never (get_attribute a k) = false
shows_never (has_attribute a k) = false
shows_never (extended_has a k ks) = false
shows_never (like a p) = false
shows_never (is_of_type a t) = false
shows_never (set_of ts) = true
shows_never (record_of fs) = true

-- ---- what is promised

-- in no world is it `true`, whatever its slots are linked to
abbrev pub IsNeverTrue : Term → Type 0
IsNeverTrue t =
    (X : Extensions) (ans : Functions) (w : World) (slots : Slots) → meaning X ans w slots t ≢ gives_bool true

-- in no world is a policy of this condition satisfied
abbrev pub IsNeverSatisfied : Term → Type 0
IsNeverSatisfied t =
    (X : Extensions) (ans : Functions) (w : World) (slots : Slots) → verdict (meaning X ans w slots t) ≢ satisfied
