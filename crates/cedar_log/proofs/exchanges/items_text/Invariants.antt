use Rattle.std.proofs.Common.{◌≡◌, option_map, string_bytes}
use Rattle.json.specs.Value.{value_view}
use Rattle.cedar_log.specs.Exchanges.{items_text}
use Rattle.cedar_log.proofs.exchanges.items_text.Given as goal

-- the lines of the items so far
abbrev pub invariant-items : goal.invariant-items
invariant-items l =
    string_bytes l.lines
    ≡ items_text l.stamp (value_view l.all) (option_map (λ v. value_view v.now) l.asked) (value_view l.answers) l.index
