use Rattle.std.proofs.Common.{◌≡◌, drop}
use Rattle.cedar_unsatisfiable.specs.Late.{attribute_view, reads_untested, terms_seen}
use Rattle.cedar_unsatisfiable.proofs.late.is_read_untested.Given as goal

abbrev pub invariant-parts : goal.invariant-parts
invariant-parts l =
    reads_untested (attribute_view l.attribute) (terms_seen (drop l.part-index l.parts))
    ≡ reads_untested (attribute_view l.attribute) (terms_seen l.parts)
