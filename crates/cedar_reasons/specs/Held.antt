-- The values, or the expressions, of a context as they are lent.
use Rattle.cedar_model.specs.Settings.{ContextPart, known_context, residual_context}
use Rattle.cedar_expressions.specs.View.{fields_view}
use Rattle.cedar_values.specs.Sound.{whats_at}
use Rattle.cedar_reasons.specs.declared.contexts.Held.{Held}
use Rattle.cedar_reasons.specs.declared.contexts.Held.TheVariants as kinds

abbrev pub held_view : Held → ContextPart
held_view (kinds.Values m) = known_context (whats_at m.now.entries)
held_view (kinds.Residual m) = residual_context (fields_view m.now.entries)
