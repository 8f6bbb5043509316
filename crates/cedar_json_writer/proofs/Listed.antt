-- Lists that are written one by one.
use Rattle.std.proofs.Common.{◌≡◌, ℕ, ◌+◌, ◌<◌, List, [], ◌∷◌, ◌++◌, length, get_or, drop, append_assoc, append-nil, sym, ap, subst, ◌∙◌}
use Rattle.std.proofs.lemmas.List.{drop_more}
use Rattle.json.specs.Json.{Json}
use Rattle.cedar_model.specs.Terms.{Text}
use Rattle.cedar_model.specs.Failures.{Failure}
use Rattle.cedar_authorizer.specs.declared.responses.err.AuthorizationError.{AuthorizationError}
use Rattle.cedar_authorizer.specs.responses.Responses.{error_view, errors_view}
use Rattle.cedar_json_writer.specs.Errors.{AreEachError, IsErrorJson}

-- one more is written, and is no longer left
pub one_more : {Y : Type 0} (done after all left rest : List Y) (y : Y) → left ≡ y ∷ rest → after ≡ done ++ y ∷ [] → done ++ left ≡ all → after ++ rest ≡ all
one_more {Y} done after all left rest y is more whole =
    ap (λ (a : List Y). a ++ rest) more ∙ append_assoc done (y ∷ []) rest ∙ ap (λ (a : List Y). done ++ a) (sym is) ∙ whole

-- nothing is left
pub no_more : {Y : Type 0} (done all left : List Y) → left ≡ [] → done ++ left ≡ all → done ≡ all
no_more {Y} done all left is whole = sym (append-nil done) ∙ ap (λ (a : List Y). done ++ a) (sym is) ∙ whole

-- two puts, one behind the other
pub two_put : {Y : Type 0} (before one after xs ys : List Y) → one ≡ before ++ xs → after ≡ one ++ ys → after ≡ before ++ (xs ++ ys)
two_put {Y} before one after xs ys first second =
    second ∙ ap (λ (a : List Y). a ++ ys) first ∙ append_assoc before xs ys

-- ---- errors

-- those from one on
pub errors_drop : (es : List AuthorizationError) (i : ℕ) (e : AuthorizationError) → i < length es → e ≡ get_or es i e → errors_view (drop i es) ≡ error_view e ∷ errors_view (drop (i + 1) es)
errors_drop es i e h is = rw (drop_more es i e h, ← is)

-- those that are left, with one more
pub error_left : (e : Text × Failure) (es rest : List (Text × Failure)) (j : Json) (all : List (Text × Failure)) (done after : List Json) → es ≡ e ∷ rest
    → IsErrorJson e j → after ≡ done ++ j ∷ []
    → ((js : List Json) → AreEachError es js → AreEachError all (done ++ js))
    → (js : List Json) → AreEachError rest js → AreEachError all (after ++ js)
error_left e es rest j all done after is one more leads js others =
    let each : AreEachError es (j ∷ js) = subst (λ (x : List (Text × Failure)). AreEachError x (j ∷ js)) (sym is) (one, others) in
    let same : done ++ j ∷ js ≡ after ++ js = sym (append_assoc done (j ∷ []) js) ∙ ap (λ (a : List Json). a ++ js) (sym more) in
    subst (λ (x : List Json). AreEachError all x) same (leads (j ∷ js) each)
