-- What is left of a line without its end.
use Rattle.std.proofs.Common.{◌≡◌, ◌++◌, codes, sym, ap, ◌∙◌}
use Rattle.std.specs.Str.Pattern.{FindsTextSuffix, StripsSuffix}
use Rattle.std.specs.Borrow.{Bor}
use Rattle.std.specs.Prelude.{MatchOption, Option, None, Some, option_copied}
use Rattle.cedar_model.specs.Terms.{Text}
use Rattle.cedar_json_lines.specs.Objects.{IsFront}

pub cut_end : (s : Text) (o : Option (Bor Text))
    → MatchOption o (FindsTextSuffix (codes "}\n") s None) (λ x. StripsSuffix (FindsTextSuffix (codes "}\n")) s x.now)
    → IsFront s (option_copied o)
cut_end s None h = h
cut_end s (Some x) h = h.1.1 ∙ ap (λ (t : Text). t ++ codes "}\n") (sym h.2)
