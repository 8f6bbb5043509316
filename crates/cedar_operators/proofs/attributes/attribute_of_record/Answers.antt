use Rattle.std.proofs.Common.{◌∙◌, sym, ap, refl}
use Rattle.std.specs.Rc.{rc_str_bytes}
use Rattle.cedar_model.specs.Failures.{answers_value, fails}
use Rattle.cedar_model.specs.Operators.{key_is_missing}
use Rattle.cedar_values.specs.Sound.{Placed}
use Rattle.cedar_operators.proofs.Keys.{found_value, missing_value, names-whats}
use Rattle.cedar_operators.proofs.attributes.attribute_of_record.Goals as goal

pub returns-in_ok-clone-in-Some : goal.returns-in_ok-clone-in-Some
returns-in_ok-clone-in-Some c =
    λ ok. ap (λ (p : Placed). answers_value p.what) c.in_ok-clone-in-Some.ensures.cases ∙ sym (found_value _ _ _ _ _ c.in-Some.ensures.value refl)

pub returns-in-None : goal.returns-in-None
returns-in-None c =
    λ ok. ap fails (c.no_such_key.ensures (λ m. ok (ap fails m)) ∙ ap (key_is_missing (rc_str_bytes c.args.attr.now)) (names-whats _)) ∙ sym (missing_value _ _ _ _ c.in-None.ensures.value refl)
