use Rattle.std.proofs.Common.{refl}
use Rattle.std.proofs.lemmas.Str.{encode_ascii}
use Rattle.std.proofs.Output.{has_written_append, has_written_of_eq}
use Rattle.cedar_sql.proofs.texts.write_quoted.Goals as goal

pub returns : goal.returns
returns g c = λ plain ok.
    let first = c.in_ok-write_char.ensures.writes plain refl in
    let middle = c.in_ok-write_doubled.ensures first.plain refl in
    let last = c.write_char-2.ensures.writes middle.plain ok in
    has_written_append _ _ _ _ _ _ (has_written_of_eq _ _ _ _ _ (encode_ascii c.args.mark c.requires) first)
    (has_written_append _ _ _ _ _ _ middle (has_written_of_eq _ _ _ _ _ (encode_ascii c.args.mark c.requires) last))
