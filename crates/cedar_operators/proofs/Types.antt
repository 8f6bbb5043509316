-- Only an unknown is annotated with a type.
use Rattle.std.proofs.Common.{◌≡◌, None, refl}
use Rattle.cedar_model.specs.Terms.{Term, literal, variable, slot, unknown, if_then_else, both, either, unary, binary, call}
use Rattle.cedar_model.specs.Terms.{get_attribute, has_attribute, extended_has, like, is_of_type, set_of, record_of}
use Rattle.cedar_model.specs.Rules.{entity_type_of_residual}
use Rattle.cedar_expressions.specs.Readers.{IsNoUnknown}

pub no_type : (t : Term) → IsNoUnknown t → entity_type_of_residual t ≡ None
unfolding entity_type_of_residual
no_type (literal l) h = refl
no_type (variable v) h = refl
no_type (slot i) h = refl
no_type (unknown n ty) h = absurd (h n ty refl)
no_type (if_then_else c a b) h = refl
no_type (both a b) h = refl
no_type (either a b) h = refl
no_type (unary op a) h = refl
no_type (binary op a b) h = refl
no_type (call f ts) h = refl
no_type (get_attribute a k) h = refl
no_type (has_attribute a k) h = refl
no_type (extended_has a k ks) h = refl
no_type (like a p) h = refl
no_type (is_of_type a ty) h = refl
no_type (set_of ts) h = refl
no_type (record_of fs) h = refl
