use Rattle.std.proofs.Common.{◌≡◌, [], ◌++◌, ap, ◌∙◌}
use Rattle.std.specs.Str.{chars}
use Rattle.std.proofs.lemmas.Str.{chars-nil, chars_past_char}
use Rattle.std.proofs.lemmas.List.{nil_from_length}
use lib.Utf8.{encode}
use Rattle.cedar_names.proofs.pattern.matching.split_char.Goals as goal

pub returns-in-Some : goal.returns-in-Some
returns-in-Some c =
    let e : c.args.text.now ≡ encode c.in-Some.c ++ c.as_str.result.now = cc (c.in-Some.ensures.steps.0, c.chars-rest.ensures.rest, c.as_str.ensures) in
    chars_past_char c.args.text.now c.as_str.result.now c.in-Some.c c.utf8.text e

pub returns-in-None : goal.returns-in-None
returns-in-None c =
    let h = c.in-None.ensures.steps.0.0 in
    let e : c.args.text.now ≡ [] = cc (nil_from_length _ h, c.chars-rest.ensures.rest) in
    ap chars e ∙ chars-nil
