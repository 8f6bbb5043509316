use Rattle.std.proofs.Common.{List, ◌++◌, map, drop, string_bytes}
use Rattle.json.specs.Value.{value_view, items_view}
use Rattle.cedar_endpoints.specs.Asked.{Text}
use Rattle.cedar_endpoints.specs.Several.{stops, IsItem, AreItems}
use Rattle.cedar_endpoints.proofs.evaluations.items_of.Given as goal

-- the texts are all, once those of the items that are left stand behind them
abbrev pub invariant-items : goal.invariant-items
invariant-items g l =
    (ts : List Text)
    → AreItems (stops l.fn.several.semantic) (IsItem (g.D.Decider.decides l.fn.decider) (value_view l.fn.all))
    (items_view (drop l.item-index l.item-items)) ts
    → AreItems (stops l.fn.several.semantic) (IsItem (g.D.Decider.decides l.fn.decider) (value_view l.fn.all))
    (items_view l.fn.several.items.now.items) (map string_bytes l.texts.items ++ ts)
