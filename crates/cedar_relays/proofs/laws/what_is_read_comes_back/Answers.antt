use Rattle.cedar_extensions.specs.Extensions.{extensions_view, calls_of}
use Rattle.cedar_relays.proofs.Traveling.{what_is_read_comes_back}
use Rattle.cedar_relays.proofs.laws.what_is_read_comes_back.Goals as goal

pub returns : goal.returns
returns g c =
    what_is_read_comes_back c.args.response.now c.args.read.now (extensions_view c.args.extensions.now) (calls_of c.args.extensions.now)
