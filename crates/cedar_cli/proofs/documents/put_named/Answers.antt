use Rattle.cedar_layers.specs.Policies.{policy_id_text}
use Rattle.cedar_cli.proofs.Naming.{one_named}
use Rattle.cedar_cli.proofs.documents.put_named.Goals as goal

pub returns : goal.returns
returns c =
    one_named c.args.named.now.keys c.insert.new.self.keys c.in_ok-id.id (policy_id_text c.args.id.now)
    c.in_ok-id.ensures.cases (λ q. c.in_ok-insert.ensures.updates.0 q)
