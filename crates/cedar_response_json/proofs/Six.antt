-- The rows of six lists that are put one behind another.
use Rattle.std.proofs.Common.{◌≡◌, List, [], ◌++◌, map, append_assoc, sym, ap, ◌∙◌}
use Rattle.std.proofs.lemmas.List.{map-append}
use Rattle.json.specs.Json.{Json}
use Rattle.cedar_model.specs.Responses.{Row}
use Rattle.cedar_authorizer.specs.responses.Rows.{Located, rows_in}
use Rattle.cedar_response_json.specs.Responses.{row_json}

-- rows as JSON
abbrev pub told : List Located → List Json
told ls = map row_json (rows_in ls)

told_behind : (ls ms : List Located) → told (ls ++ ms) ≡ told ls ++ told ms
told_behind ls ms = ap (λ (rs : List Row). map row_json rs) (map-append (λ (l : Located). l.row) ls ms) ∙ map-append row_json (rows_in ls) (rows_in ms)

put_behind : (before after here rest : List Json) → after ≡ before ++ here → after ++ rest ≡ before ++ (here ++ rest)
put_behind before after here rest h = ap (λ (js : List Json). js ++ rest) h ∙ append_assoc before here rest

pub six_put : (a b c d e f : List Located) (none one two three four five six : List Json) → none ≡ []
    → one ≡ none ++ told a → two ≡ one ++ told b → three ≡ two ++ told c
    → four ≡ three ++ told d → five ≡ four ++ told e → six ≡ five ++ told f
    → six ≡ told (a ++ (b ++ (c ++ (d ++ (e ++ f)))))
six_put a b c d e f none one two three four five six empty h1 h2 h3 h4 h5 h6 =
    let to_e : List Json = told e ++ told f in
    let to_d : List Json = told d ++ to_e in
    let to_c : List Json = told c ++ to_d in
    let to_b : List Json = told b ++ to_c in
    let to_a : List Json = told a ++ to_b in
    h6 ∙ put_behind four five (told e) (told f) h5 ∙ put_behind three four (told d) to_e h4
    ∙ put_behind two three (told c) to_d h3 ∙ put_behind one two (told b) to_c h2 ∙ put_behind none one (told a) to_b h1
    ∙ ap (λ (js : List Json). js ++ to_a) empty
    ∙ sym (told_behind a (b ++ (c ++ (d ++ (e ++ f))))
    ∙ ap (λ (js : List Json). told a ++ js) (told_behind b (c ++ (d ++ (e ++ f)))
    ∙ ap (λ (js : List Json). told b ++ js) (told_behind c (d ++ (e ++ f))
    ∙ ap (λ (js : List Json). told c ++ js) (told_behind d (e ++ f)
    ∙ ap (λ (js : List Json). told d ++ js) (told_behind e f)))))
