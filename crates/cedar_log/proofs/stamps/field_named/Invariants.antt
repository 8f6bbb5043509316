use Rattle.std.proofs.Common.{◌≡◌, drop}
use Rattle.http_server.specs.Response.{fields}
use Rattle.cedar_log.specs.Exchanges.{field_named}
use Rattle.cedar_log.proofs.stamps.field_named.Given as goal

abbrev pub invariant-headers : goal.invariant-headers
invariant-headers l = field_named l.name (fields (drop l.header-index l.header-items)) ≡ field_named l.name (fields l.header-items)
