-- Lists that are written one by one.
use Rattle.std.proofs.Common.{◌≡◌, ◌∙◌, sym, ap, List, ◌++◌, append_assoc, map}
use Rattle.std.proofs.lemmas.List.{map-append}
use Rattle.json.specs.Json.{string}
use Rattle.cedar_model.specs.Terms.{Text}

-- so many are done, and one more
pub goes_on : {A : Type 0} (done after more one rest all : List A) → after ≡ done ++ one → more ≡ one ++ rest
    → done ++ more ≡ all → after ++ rest ≡ all
goes_on done after more one rest all is split whole =
    ap (λ l. l ++ rest) is ∙ append_assoc done one rest ∙ ap (λ l. done ++ l) (sym split) ∙ whole

pub strings_split : (one rest : List Text) → map string (one ++ rest) ≡ map string one ++ map string rest
strings_split one rest = map-append string one rest
