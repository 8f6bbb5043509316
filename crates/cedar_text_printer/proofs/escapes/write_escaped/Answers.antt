use Rattle.std.proofs.Common.{◌++◌, encode_utf8, rules, append-nil, append_assoc}
use Rattle.std.proofs.lemmas.List.{nil_from_length}
use Rattle.std.proofs.Output.{has_written_append, has_written_of_eq}
use Rattle.cedar_text_printer.specs.Escapes.{written_escaped}
use Rattle.cedar_text_printer.proofs.Escaping.{escaped-append, escaped-nil}
use Rattle.cedar_text_printer.proofs.escapes.write_escaped.Goals as goal

pub characters-preserved : goal.characters-preserved
characters-preserved g c = λ plain.
    let (done, wrote, whole) = c.characters.invariant plain in
    let step = c.in-Some.ensures.steps.0 in
    (done ++ written_escaped (encode_utf8 c.in-Some.character), has_written_append _ _ _ _ _ _ wrote (search rules), rw (append_assoc, ← escaped-append, ← step) whole)

pub returns : goal.returns
returns g c = λ plain ok.
    let (done, wrote, whole) = c.characters.invariant plain in
    let end = nil_from_length _ c.in-None.ensures.steps.0.0 in
    has_written_of_eq _ _ _ _ _ (rw (end, escaped-nil, append-nil) at whole) wrote
