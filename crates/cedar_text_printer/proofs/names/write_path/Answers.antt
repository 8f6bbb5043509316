use Rattle.std.proofs.Common.{refl, ap, codes, flat_map}
use Rattle.std.proofs.Output.{has_written_append, has_written_of_eq}
use Rattle.cedar_names.specs.Leaves.{texts_view}
use Rattle.cedar_text_printer.specs.Names.{further_text}
use Rattle.cedar_text_printer.proofs.names.write_path.Goals as goal

pub returns : goal.returns
returns g c = λ plain ok.
    let start = c.in_ok-write_str.ensures.writes plain refl in
    let first = c.in_ok-write_key.ensures start.plain refl in
    let further = c.write_further.ensures first.plain ok in
    has_written_append _ _ (codes " has ") _ _ _ start (has_written_append _ _ _ _ _ _ first (has_written_of_eq _ _ _ _ _ (ap (λ v. flat_map further_text (texts_view v)) c.deref.ensures.value) further))
