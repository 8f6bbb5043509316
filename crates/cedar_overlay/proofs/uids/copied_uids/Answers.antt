use Rattle.std.proofs.Common.{rules}
use Rattle.cedar_hierarchy.proofs.Marking.{names_copied}
use Rattle.cedar_overlay.proofs.uids.copied_uids.Goals as goal

pub returns : goal.returns
returns c =
    names_copied _ c.args.uids.now.keys c.in_ok-clone.field-0.keys c.in_ok-clone.ensures.cases (λ u v h. search rules)
