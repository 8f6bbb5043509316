use Rattle.std.proofs.Common.{◌≡◌, ap, refl}
use Rattle.cedar_names.specs.Names.{uid_name}
use Rattle.cedar_requests.specs.Requests.{entry_view}
use Rattle.cedar_service.proofs.partials.known_entry.Goals as goal

pub returns-in-Ok-clause-known : goal.returns-in-Ok-clause-known
returns-in-Ok-clause-known c = (uid_name c.in-Ok.uid, c.in-Ok.ensures.said, ap entry_view c.known.ensures)
