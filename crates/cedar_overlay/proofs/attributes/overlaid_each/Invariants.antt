use Rattle.cedar_layers.specs.Stores.{store_view, stored_entity}
use Rattle.cedar_overlay.proofs.Laid.{AreLaid}
use Rattle.cedar_overlay.proofs.attributes.overlaid_each.Given as goal

abbrev pub invariant-brought : goal.invariant-brought
invariant-brought l =
    AreLaid (store_view l.fn.entities) (stored_entity l.fn.entities) l.fn.request_wins l.fn.brought.entries l.uid-iterator l.more.items
