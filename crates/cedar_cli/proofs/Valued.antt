-- What an evaluator answers goes by what it is given.
use Rattle.std.proofs.Common.{◌≡◌, ℕ, List, subst, option_map}
use Rattle.std.specs.Map.{lookup}
use Rattle.cedar_model.specs.Terms.{Term}
use Rattle.cedar_model.specs.Failures.{Answer}
use Rattle.cedar_model.specs.Rules.{StoredCalls, Meets}
use Rattle.cedar_model.specs.Settings.{Setting}
use Rattle.cedar_model.specs.World.{Slots}
use Rattle.cedar_names.specs.Names.{uid_name}
use Rattle.cedar_names.specs.declared.names.EntityUID.{EntityUID}
use Rattle.cedar_names.specs.declared.names.SlotId.{SlotId}
use Rattle.cedar_layers.specs.Policies.{is_slot}
use Rattle.cedar_evaluator.specs.Evaluations.{IsPromisedValue}

-- what slots have as values, by the entries of their map
abbrev pub slots_of : List (SlotId × EntityUID) → Slots
slots_of entries s = option_map uid_name (lookup (is_slot s) entries)

pub answered_alike : (s t : Setting) (calls others : StoredCalls) (n m : ℕ) (e : Term) (a : Answer) → s ≡ t
    → calls ≡ others → n ≡ m → Meets (IsPromisedValue s calls n e) a → Meets (IsPromisedValue t others m e) a
answered_alike s t calls others n m e a given called within h =
    subst (λ z. Meets (IsPromisedValue z others m e) a) given
    (subst (λ z. Meets (IsPromisedValue s z m e) a) called
    (subst (λ z. Meets (IsPromisedValue s calls z e) a) within h))
