use Rattle.std.specs.Prelude.{option_map, option_copied}
use Rattle.std.proofs.Common.{sym, ap, ◌∙◌}
use Rattle.std.proofs.lemmas.Result.{IfOk-weaker}
use Rattle.cedar_names.specs.Names.{uid_name}
use Rattle.cedar_layers.specs.Stores.{store_view}
use Rattle.cedar_requests.specs.Requests.{entry_view}
use Rattle.cedar_authorizer.proofs.Reaching.{covers_entry}
use Rattle.cedar_authorizer.proofs.authorizer.reaching.add_entry.Goals as goal

pub returns-in-Some : goal.returns-in-Some
returns-in-Some c =
    IfOk-weaker c.add_entity.result _ _
    (λ b h. covers_entry (uid_name c.in-Some.uid.now) (entry_view c.args.entry.now) (store_view c.args.entities.now) _ _ b
    (sym (ap (λ o. option_map uid_name (option_copied o)) c.in-Some.is) ∙ c.uid.ensures.name) h)
    c.add_entity.ensures
