-- Decisions as plain data.
use Rattle.std.specs.Prelude.{◌||◌, Bool, cond, not, Option, Some, None, codes}
use Rattle.cedar_model.specs.Terms.{Text}
use Rattle.cedar_model.specs.Policies as model
use Rattle.cedar_decisions.specs.declared.decision.Decision.{Decision}
use Rattle.cedar_decisions.specs.declared.decision.Decision.TheVariants as decisions
use Rattle.cedar_decisions.specs.declared.decision.ErrorHandling.{ErrorHandling}
use Rattle.cedar_decisions.specs.declared.decision.ErrorHandling.TheVariants as modes

abbrev pub decision_view : Decision → model.Decision
decision_view decisions.Allow = model.allow
decision_view decisions.Deny = model.deny

-- how errors are handled
abbrev pub mode_view : ErrorHandling → model.ErrorHandling
mode_view modes.Skip = model.skip
mode_view modes.ForbidOnError = model.forbid_on_error

abbrev pub decision_text : Decision → Text
decision_text decisions.Allow = codes "Allow"
decision_text decisions.Deny = codes "Deny"

-- the decision, where it is known, by whether there are such policies: `Deny` with a satisfied forbid, or where no permit
-- is satisfied or residual; else none beside a residual forbid; else `Allow` with a satisfied permit; else none
abbrev pub known_decision : Bool → Bool → Bool → Bool → Option model.Decision
known_decision true_permit residual_permit true_forbid residual_forbid =
    cond true_forbid (Some model.deny)
    (cond (not (true_permit || residual_permit)) (Some model.deny)
    (cond residual_forbid None (cond true_permit (Some model.allow) None)))

-- what forbids where all that is left counts as an error: a satisfied forbid and, where an erring one counts, a residual one
abbrev pub forbids : model.ErrorHandling → Bool → Bool → Bool
forbids model.skip true_forbid residual_forbid = true_forbid
forbids model.forbid_on_error true_forbid residual_forbid = true_forbid || residual_forbid
