-- Whether the recursion limit is among errors, one by one.
use Rattle.std.specs.Prelude.{◌≡◌, Bool, true, false, ◌||◌, List, [], ◌∷◌}
use Rattle.std.proofs.Common.{refl, ap, ◌∙◌}
use Rattle.std.proofs.lemmas.Bool.{or_left}
use Rattle.cedar_model.specs.Failures.{failure_kind}
use Rattle.cedar_model.specs.Chains.{is_limit, has_limit}
use Rattle.cedar_authorizer.specs.declared.responses.err.AuthorizationError.{AuthorizationError}
use Rattle.cedar_authorizer.specs.responses.Responses.{error_view, errors_view}

-- whether the policy met the limit
abbrev pub met_limit : AuthorizationError → Bool
met_limit e = is_limit (failure_kind (error_view e).1)

or_false : (b c : Bool) → b ≡ false → (b || c) ≡ c
or_false true c h = absurd (cc)
or_false false c h = refl

pub is_here : (left rest : List AuthorizationError) (e : AuthorizationError) → left ≡ e ∷ rest → met_limit e ≡ true → has_limit (errors_view left) ≡ true
unfolding has_limit
is_here left rest e same met = ap (λ es. has_limit (errors_view es)) same ∙ or_left (met_limit e) (has_limit (errors_view rest)) met

pub not_here : (left rest : List AuthorizationError) (e : AuthorizationError) → left ≡ e ∷ rest → met_limit e ≡ false → has_limit (errors_view left) ≡ has_limit (errors_view rest)
unfolding has_limit
not_here left rest e same met = ap (λ es. has_limit (errors_view es)) same ∙ or_false (met_limit e) (has_limit (errors_view rest)) met

pub nowhere : (left : List AuthorizationError) → left ≡ [] → has_limit (errors_view left) ≡ false
unfolding has_limit
nowhere left same = ap (λ es. has_limit (errors_view es)) same
