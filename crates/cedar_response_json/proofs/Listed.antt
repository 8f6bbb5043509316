-- Errors that are written one by one.
use Rattle.std.proofs.Common.{◌≡◌, List, [], ◌∷◌, ◌++◌, append_assoc, sym, ap, subst, ◌∙◌}
use Rattle.json.specs.Json.{Json}
use Rattle.cedar_model.specs.Terms.{Text}
use Rattle.cedar_model.specs.Failures.{Failure}
use Rattle.cedar_response_json.specs.Errors.{AreEachError, IsErrorJson}

-- those that are left, with one more
pub error_left : (e : Text × Failure) (es rest : List (Text × Failure)) (j : Json) (all : List (Text × Failure)) (done after : List Json) → es ≡ e ∷ rest
    → IsErrorJson e j → after ≡ done ++ j ∷ []
    → ((js : List Json) → AreEachError es js → AreEachError all (done ++ js))
    → (js : List Json) → AreEachError rest js → AreEachError all (after ++ js)
error_left e es rest j all done after is one more leads js others =
    let each : AreEachError es (j ∷ js) = subst (λ (x : List (Text × Failure)). AreEachError x (j ∷ js)) (sym is) (one, others) in
    let same : done ++ j ∷ js ≡ after ++ js = sym (append_assoc done (j ∷ []) js) ∙ ap (λ (a : List Json). a ++ js) (sym more) in
    subst (λ (x : List Json). AreEachError all x) same (leads (j ∷ js) each)
