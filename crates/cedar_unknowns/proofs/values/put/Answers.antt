use Rattle.std.proofs.Common.{refl}
use Rattle.cedar_names.specs.Names.{uid_name}
use Rattle.cedar_unknowns.proofs.Valued.{values_for-put}
use Rattle.cedar_unknowns.proofs.values.put.Goals as goal

pub returns : goal.returns
returns c =
    values_for-put _ (λ x y. refl) c.args.values.now.entries c.insert.new.self.entries c.in_ok-text.text
    c.in_ok-value.value c.in_ok-insert.ensures.updates.1 c.in_ok-insert.ensures.updates.3 (uid_name c.args.uid.now)
    c.in_ok-text.ensures c.in_ok-value.ensures
