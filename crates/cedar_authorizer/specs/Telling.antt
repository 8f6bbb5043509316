-- Policies that tell nothing where a response is made concrete: those that are false without an error.
use Rattle.std.specs.Prelude.{ℕ, Bool, false, not, cond, List, map}
use Rattle.cedar_model.specs.Failures.{answers_bool}
use Rattle.cedar_model.specs.Settings.{Setting}
use Rattle.cedar_model.specs.Rules.{StoredCalls, Runs}
use Rattle.cedar_model.specs.Policies.{Policy, ErrorHandling}
use Rattle.cedar_model.specs.Responses.{Decided, decides, errs_with, leaves, with_slots}
use Rattle.cedar_model.specs.Configurations.{Configuration}
use Rattle.cedar_layers.specs.declared.policies.policy.Policy as layers
use Rattle.cedar_layers.specs.Policies.{PolicyView, policy_view, decides_as}
use Rattle.cedar_layers.specs.Scopes.{AreAllBut}
use Rattle.cedar_authorizer.specs.declared.responses.sheet.ConditionOutcome.{ConditionOutcome}
use Rattle.cedar_authorizer.specs.declared.responses.sheet.Sheet.{Sheet}
use Rattle.cedar_authorizer.specs.responses.Sheets.{Noted, outcome_view, noting}
use Rattle.cedar_authorizer.specs.Running.{IsNotedRun}

-- the policy's condition is false within the levels
abbrev pub IsFalse : Setting → StoredCalls → ℕ → Policy → Type 0
IsFalse s calls levels p = Runs (with_slots s p.slots) calls levels p.condition (answers_bool false)

-- these policies, as far as they decide
abbrev pub deciding_these : List layers.Policy → List Policy
deciding_these ps = map decides_as (map policy_view ps)

-- of all policies those are noted of which a run is on the sheet, and the others are false
pub record IsToldRun (mode : ErrorHandling) (s : Setting) (calls : StoredCalls) (levels : ℕ) (ps : List Policy)
    (sheet : Sheet) : Type 0 where
  pub telling : List Policy
  pub others : AreAllBut (IsFalse s calls levels) ps telling
  pub noted : IsNotedRun mode s calls levels telling sheet

-- by an authorizer that is configured so
abbrev pub IsToldBy : Configuration → Setting → List Policy → Sheet → Type 0
IsToldBy c s ps sheet = IsToldRun c.mode s c.calls c.levels ps sheet

-- whether the condition came out false
unfoldable pub tells_nothing : Decided → Bool
tells_nothing (decides b) = not b
tells_nothing (errs_with e) = false
tells_nothing (leaves t) = false

-- what is noted once the condition of one more policy came out so
abbrev pub noting_what_tells : ErrorHandling → Noted → PolicyView → ConditionOutcome → Noted
noting_what_tells mode s p o = cond (tells_nothing (outcome_view o)) s (noting mode s p o)
