-- Some request.
use Rattle.std.specs.Prelude.{None}
use Rattle.cedar_model.specs.Settings.{unknown_entry, absent_context, RequestPart}

-- some request
abbrev pub some_request : RequestPart
some_request =
    record {
      principal_entry = unknown_entry None;
      action_entry = unknown_entry None;
      resource_entry = unknown_entry None;
      context_part = absent_context;
    }
