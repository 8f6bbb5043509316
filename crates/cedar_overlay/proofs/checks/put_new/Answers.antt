use Rattle.std.proofs.Common.{sym, ◌∙◌}
use Rattle.std.proofs.lemmas.Bool.{not-true, not-false}
use Rattle.cedar_overlay.proofs.checks.put_new.Goals as goal

pub returns-then-branch-clause-new : goal.returns-then-branch-clause-new
returns-then-branch-clause-new c = record {
  not_stored = sym c.in-None.ensures.whole;
  first = not-true _ (sym c.in_ok-put_uid-in-None.ensures.first ∙ c.if-branch.true);
}

pub returns-in_ok-copied_uid-in-None-clause-refused : goal.returns-in_ok-copied_uid-in-None-clause-refused
returns-in_ok-copied_uid-in-None-clause-refused c =
    (c.in_ok-copied_uid-in-None.ensures, not-false _ (sym c.in_ok-put_uid-in-None.ensures.first ∙ c.if-branch.false))
