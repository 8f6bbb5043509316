-- What shows that an expression errs in every world, and that a policy errs wherever its scope holds.
use Rattle.std.specs.Prelude.{◌≡◌, Bool, true, false, ◌||◌, ◌&&◌}
use Rattle.cedar_model.specs.Terms.{Term, literal, variable, slot, unknown, if_then_else, both, either, unary, binary}
use Rattle.cedar_model.specs.Terms.{call, get_attribute, has_attribute, extended_has, like, is_of_type, set_of, record_of}
use Rattle.cedar_model.specs.Outcomes.{ErrorKind, errs, gives_bool}
use Rattle.cedar_model.specs.World.{World, Slots, Extensions, Functions}
use Rattle.cedar_model.specs.Meaning.{meaning, and_then_bool}
use Rattle.cedar_layers.specs.Policies.{PolicyView, condition_term}
use Rattle.cedar_filter.specs.Simplifying.{simplified}
use Rattle.cedar_unsatisfiable.specs.Kinds.{kind_shown, is_wrong, is_truth, is_text, is_entity, has_attributes}
use Rattle.cedar_unsatisfiable.specs.Kinds.{takes, takes_first, takes_second}

-- whether it shows that it errs: an operator beside a value of a kind that it does not take, wherever that is reached; or
-- a part that is reached and shows it
abbrev pub shows_error : Term → Bool
shows_error (literal l) = false
shows_error (variable v) = false
shows_error (slot s) = false
shows_error (unknown n t) = false
shows_error (if_then_else c a b) =
    shows_error c || (is_wrong is_truth (kind_shown c) || (shows_error a && shows_error b))
shows_error (both a b) = shows_error a || is_wrong is_truth (kind_shown a)
shows_error (either a b) = shows_error a || is_wrong is_truth (kind_shown a)
shows_error (unary op a) = shows_error a || is_wrong (takes op) (kind_shown a)
shows_error (binary op a b) =
    shows_error a || (shows_error b
    || (is_wrong (takes_first op) (kind_shown a) || is_wrong (takes_second op) (kind_shown b)))
shows_error (call f ts) = false
shows_error (get_attribute a k) = shows_error a || is_wrong has_attributes (kind_shown a)
shows_error (has_attribute a k) = shows_error a || is_wrong has_attributes (kind_shown a)
shows_error (extended_has a k ks) = shows_error a || is_wrong has_attributes (kind_shown a)
shows_error (like a p) = shows_error a || is_wrong is_text (kind_shown a)
shows_error (is_of_type a t) = shows_error a || is_wrong is_entity (kind_shown a)
shows_error (set_of ts) = false
shows_error (record_of fs) = false

-- whether it shows that it is no boolean: it errs, or is of another kind
abbrev pub shows_no_truth : Term → Bool
shows_no_truth t = shows_error t || is_wrong is_truth (kind_shown t)

-- whether the policy shows that it errs wherever its scope holds: its clauses do, without what is known in them
abbrev pub shows_erring : PolicyView → Bool
shows_erring p = shows_no_truth (simplified p.when_clause)

-- ---- what is promised

-- the scope of a policy
abbrev pub scope_term : PolicyView → Term
scope_term p = both (both p.principal_constraint p.action_constraint) p.resource_constraint

-- the expression errs, and so it has no value
pub record Errs (X : Extensions) (ans : Functions) (w : World) (slots : Slots) (t : Term) : Type 0 where
  pub kind : ErrorKind
  pub is : meaning X ans w slots t ≡ errs kind

-- in every world in which the scope is satisfied the policy errs
abbrev pub ErrsInScope : PolicyView → Type 0
ErrsInScope p =
    (X : Extensions) (ans : Functions) (w : World) (slots : Slots)
    → meaning X ans w slots (scope_term p) ≡ gives_bool true → Errs X ans w slots (condition_term p)

-- ---- for private clauses

-- in every world it errs, or is no boolean: so where a boolean is due, it errs
abbrev pub IsNeverTruth : Term → Type 0
IsNeverTruth t =
    (X : Extensions) (ans : Functions) (w : World) (slots : Slots)
    → (e : ErrorKind) × (and_then_bool (meaning X ans w slots t) gives_bool ≡ errs e)
