use Rattle.std.proofs.Common.{◌≡◌, [], ◌++◌, encode_utf8, rules, append-nil, append_assoc}
use Rattle.std.proofs.lemmas.List.{nil_from_length}
use Rattle.std.proofs.Output.{has_written_append, has_written_of_eq, writes_in_calls_nil}
use Rattle.cedar_sql.specs.Texts.{doubled}
use Rattle.cedar_sql.proofs.Doubling.{doubled-append, doubled-nil}
use Rattle.cedar_sql.proofs.texts.write_doubled.Goals as goal

pub characters-init : goal.characters-init
characters-init g c = λ plain.
    let same : doubled c.args.mark c.into_iter-character-iterator.result.rest.now ≡ doubled c.args.mark c.args.text.now = cc in
    ([], record { wrote = writes_in_calls_nil _ _; plain = plain }, same)

pub characters-preserved : goal.characters-preserved
characters-preserved g c = λ plain.
    let (done, wrote, whole) = c.characters.invariant plain in
    let step = c.in-Some.ensures.steps.0 in
    (done ++ doubled c.args.mark (encode_utf8 c.in-Some.character), has_written_append _ _ _ _ _ _ wrote (search rules), rw (append_assoc, ← doubled-append, ← step) whole)

pub returns : goal.returns
returns g c = λ plain ok.
    let (done, wrote, whole) = c.characters.invariant plain in
    let end = nil_from_length _ c.in-None.ensures.steps.0.0 in
    has_written_of_eq _ _ _ _ _ (rw (end, doubled-nil, append-nil) at whole) wrote
