use Rattle.std.proofs.Common.{◌≡◌, drop}
use Rattle.cedar_lints.specs.Absent.{absent_each, extent_view, mention_key, sheet_view}
use Rattle.cedar_lints.specs.Keys.{noted_each}
use Rattle.cedar_lints.specs.Knowing.{known_view}
use Rattle.cedar_lints.proofs.absent.note_of_templates.Given as goal

-- what is left to note leads where all of it does
abbrev pub invariant-templates : goal.invariant-templates
invariant-templates l =
    noted_each mention_key (sheet_view l.sheet)
    (absent_each (extent_view l.extent) (known_view l.fn.known) (drop l.template-index l.templates))
    ≡ noted_each mention_key (sheet_view l.fn.sheet)
    (absent_each (extent_view l.extent) (known_view l.fn.known) l.templates)
