use Rattle.std.proofs.Common.{◌∙◌, ◌==◌, ap, sym, ℕ, length}
use Rattle.cedar_log.proofs.Items.{members_counted}
use Rattle.cedar_log.proofs.parts.has_none.Goals as goal

pub returns : goal.returns
returns c =
    c.is_empty.ensures
    ∙ (ap (λ l. length l == 0) c.as_slice.ensures.value ∙ ap (λ (n : ℕ). n == 0) (sym (members_counted c.args.members.now.items)))
