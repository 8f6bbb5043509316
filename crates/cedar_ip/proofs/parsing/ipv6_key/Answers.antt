use Rattle.std.proofs.Common.{rules, ap, sym, ◌∷◌}
use Rattle.std.proofs.NetLemmas.Arrays.{sixteen_items}
use Rattle.cedar_ip.proofs.parsing.ipv6_key.Goals as goal

pub returns : goal.returns
returns c = sym (ap (λ xs. 6 ∷ c.args.prefix ∷ xs) (sixteen_items c.args.octets (search rules)))
