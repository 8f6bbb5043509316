use Rattle.std.proofs.Common.{is_ok}
use Rattle.cedar_text_syntax.specs.Places.{for_memory}
use Rattle.cedar_text_syntax.proofs.Joining.{trees_appended}
use Rattle.cedar_text_syntax.proofs.PolicyTurns.{kept}
use Rattle.cedar_text_syntax.proofs.written.Written.append.Goals as goal

pub invariant_of-self : goal.invariant_of-self
invariant_of-self c = record {
  made = kept c.args.self.now.steps.items c.args.more.now (is_ok c.extend_from_slice.result) c.extend_from_slice.ensures.items c.args.self.now.made c.requires;
}

pub returns-in-Ok-clause-ok : goal.returns-in-Ok-clause-ok
returns-in-Ok-clause-ok c =
    λ p is. rw c.in-Ok.ensures.items (trees_appended c.args.self.now.steps.items c.args.more.now c.requires is)

pub returns-in-Err-clause-err : goal.returns-in-Err-clause-err
returns-in-Err-clause-err c = for_memory
