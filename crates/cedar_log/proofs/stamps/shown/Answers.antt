use Rattle.std.proofs.Common.{sym, subst, Option, None, option_map}
use Rattle.std.specs.Borrow.{Bor}
use Rattle.http_header.specs.declared.value.HeaderValue.{HeaderValue}
use Rattle.cedar_log.specs.Exchanges.{IsShown, no_field}
use Rattle.cedar_log.proofs.stamps.shown.Goals as goal

pub returns-in-None : goal.returns-in-None
returns-in-None c =
    subst (λ (o : Option (Bor HeaderValue)). IsShown (option_map (λ v. v.now.bytes) o) None) (sym c.in-None.is) no_field
