use Rattle.std.proofs.Common.{◌≡◌, ◌++◌, drop, map}
use Rattle.json.specs.Value.{items_view}
use Rattle.cedar_policy_json_reader.specs.Refusals.{made_of}
use Rattle.cedar_template_links.specs.LinkFiles.{written_view, written_from}
use Rattle.cedar_template_links.proofs.files.put_written.Given as goal

-- what the whole array says is what is read, and then what the rest says
abbrev pub invariant-items : goal.invariant-items
invariant-items l =
    (l.index ≡ l.item-index) × (written_from 0 (items_view l.item-items)
    ≡ made_of (λ ts. map written_view l.all.items ++ ts) (written_from l.index (items_view (drop l.item-index l.item-items))))
