use Rattle.std.proofs.Common.{None, ◌∙◌, ap, sym}
use Rattle.cedar_names.specs.Names.{uid_name}
use Rattle.std.specs.Rc.{rc_str_bytes}
use Rattle.cedar_model.specs.Failures.{answers}
use Rattle.cedar_model.specs.Operators.{attribute_found, stored_attribute, attribute_is_missing}
use Rattle.cedar_layers.specs.Stores.{entity_view}
use Rattle.cedar_operators.proofs.Stored.{stored_as_is}
use Rattle.cedar_operators.proofs.attributes.stored_attribute.Goals as goal

pub returns-in_ok-clone-in-Some : goal.returns-in_ok-clone-in-Some
unfolding attribute_found
returns-in_ok-clone-in-Some c =
    let failure = attribute_is_missing (entity_view c.args.entity.now) (uid_name c.args.uid.now.value) (rc_str_bytes c.args.attr.now) in
    λ ok. ap answers c.in_ok-clone-in-Some.ensures.cases.0 ∙ sym (stored_as_is _ failure) ∙ ap (λ o. stored_attribute (λ n. None) o failure) (rw c.deref.ensures.value at c.in-Some.ensures.value)
