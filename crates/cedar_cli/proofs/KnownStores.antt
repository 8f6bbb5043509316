-- The stores over which is decided: nothing is unknown in them.
use Rattle.std.proofs.Common.{◌≡◌, sym, ap, subst, ◌∙◌, false, Option, Some, None}
use Rattle.cedar_model.specs.Terms.{Text}
use Rattle.cedar_model.specs.World as world
use Rattle.cedar_model.specs.Rules.{StoredCalls}
use Rattle.cedar_model.specs.Settings.{Store}
use Rattle.cedar_model.specs.Agreement.{IsValue, EachStored}
use Rattle.cedar_model.proofs.Injections.{none_is_not_some}
use Rattle.cedar_layers.specs.declared.policies.entities.Entities.{Entities}
use Rattle.cedar_layers.specs.Stores.{no_entities, store_view}
use Rattle.cedar_cli.specs.declared.asked.Source.{Source}
use Rattle.cedar_cli.specs.Questions.{IsStoreSaid, IsKnownStoreOf}

-- the one that the text says
pub said_known : (X : world.Extensions) (calls : StoredCalls) (given : Source) (s : Entities)
    → IsStoreSaid X calls given.text.now false s → EachStored IsValue (store_view s) → IsKnownStoreOf X calls (Some given) s
said_known X calls given s said known = record { said = said; whole = said.closed.partial; known = known }

-- the one without entities
pub none_known : (X : world.Extensions) (calls : StoredCalls) (s : Entities)
    → store_view s ≡ record { entity = no_entities; is_partial = false } → IsKnownStoreOf X calls None s
none_known X calls s is = record {
  said = is;
  whole = ap (λ (t : Store). t.is_partial) is;
  known = subst (λ (t : Store). EachStored IsValue t) (sym is) (λ e x k p at. absurd (none_is_not_some at));
}
