-- A configuration, of a setting that has its resolution and extensions.
use Rattle.std.specs.Prelude.{ℕ}
use Rattle.std.specs.Prelude.{false, None}
use Rattle.cedar_model.specs.World.{Extensions}
use Rattle.cedar_model.specs.Settings.{unknown_entry, absent_context, Resolution, Setting}
use Rattle.cedar_model.specs.Chains.{ChainStep, at_step, no_values}
use Rattle.cedar_model.specs.Rules.{StoredCalls}
use Rattle.cedar_model.specs.Policies.{ErrorHandling}
use Rattle.cedar_model.specs.Configurations.{Configuration, configured}

abbrev pub configured_by : StoredCalls → ErrorHandling → Setting → ℕ → Configuration
configured_by calls mode s levels = configured calls mode s.resolution s.extensions levels

-- the setting with the resolution of a step
abbrev pub in_step : Setting → ChainStep → Setting
in_step s step =
    record {
      request = s.request;
      store = s.store;
      map = s.map;
      slots = s.slots;
      extensions = s.extensions;
      resolution = step.resolution;
    }

-- some setting that has them
abbrev pub setting_with : Extensions → Resolution → Setting
setting_with X resolution =
    at_step X resolution record {
      principal_entry = unknown_entry None;
      action_entry = unknown_entry None;
      resource_entry = unknown_entry None;
      context_part = absent_context;
    } record { entity = λ e. None; is_partial = false } no_values
