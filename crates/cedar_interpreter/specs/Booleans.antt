-- Which answers are a boolean.
use Rattle.std.specs.Prelude.{◌≡◌, Bool, Option, Some, None}
use Rattle.cedar_model.specs.Terms.{bool_literal, long_literal, text_literal, entity_literal}
use Rattle.cedar_model.specs.Values.{Represented, plain_represented, set_represented, record_represented, extension_represented, abstract_value}
use Rattle.cedar_model.specs.Outcomes.{bool_of}
use Rattle.cedar_model.specs.Failures.{PartialValue, value, residual, answers, answers_bool}

-- the boolean that an answer is, if it is one
abbrev pub part_bool : PartialValue → Option Bool
part_bool (value v) = bool_of (abstract_value v)
part_bool (residual r) = None

-- a value that is a boolean is that boolean's literal
pub is_bool : (v : Represented) (b : Bool) → bool_of (abstract_value v) ≡ Some b → answers (value v) ≡ answers_bool b
unfolding bool_of
is_bool (plain_represented (bool_literal c)) b h = cc
is_bool (plain_represented (long_literal n)) b h = absurd (cc)
is_bool (plain_represented (text_literal t)) b h = absurd (cc)
is_bool (plain_represented (entity_literal e)) b h = absurd (cc)
is_bool (set_represented vs) b h = absurd (cc)
is_bool (record_represented fs) b h = absurd (cc)
is_bool (extension_represented t k f ts) b h = absurd (cc)
