-- What calls that authorize are given, whatever they are asked.
use Rattle.std.specs.Prelude.{ℕ}
use Rattle.cedar_model.specs.World.{Extensions}
use Rattle.cedar_model.specs.Settings.{Resolution}
use Rattle.cedar_model.specs.Rules.{StoredCalls}
use Rattle.cedar_model.specs.Policies.{ErrorHandling}

-- how errors of policies are handled, what reading a stored residual answers, the extensions, what their functions may
-- answer, and how many levels deep an evaluation goes
pub record Configuration : Type 1 where
  pub mode : ErrorHandling
  pub resolution : Resolution
  pub extensions : Extensions
  pub calls : StoredCalls
  pub levels : ℕ

-- of these functions, with the rest
abbrev pub configured : StoredCalls → ErrorHandling → Resolution → Extensions → ℕ → Configuration
configured calls mode resolution X levels =
    record { mode = mode; resolution = resolution; extensions = X; calls = calls; levels = levels }

-- the same with this resolution
abbrev pub resolving : Resolution → Configuration → Configuration
resolving resolution c = configured c.calls c.mode resolution c.extensions c.levels
