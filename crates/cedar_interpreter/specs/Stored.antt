-- Stored attributes: one that is an unknown goes through the map.
use Rattle.std.specs.Prelude.{Option}
use Rattle.std.specs.Option.{option_map}
use Rattle.std.specs.Rc.{rc_str_bytes}
use Rattle.cedar_model.specs.Terms.{Text, unknown}
use Rattle.cedar_model.specs.Values.{Represented}
use Rattle.cedar_model.specs.Failures.{residual, Answer, answers}
use Rattle.cedar_model.specs.Operators.{unknown_answer}
use Rattle.cedar_names.specs.declared.types.Unknown.{Unknown}
use Rattle.cedar_names.specs.Leaves.{type_view}

-- what the map says of an unknown
abbrev pub mapped_unknown : (Text → Option Represented) → Unknown → Answer
mapped_unknown map u = unknown_answer map (rc_str_bytes u.name) (option_map type_view u.type_annotation)

-- an unknown goes through the map; any other answer stays
unfoldable pub remapped : (Text → Option Represented) → Answer → Answer
remapped map (answers (residual (unknown n t))) = unknown_answer map n t
remapped map a = a
