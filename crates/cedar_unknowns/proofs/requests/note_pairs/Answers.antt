use Rattle.std.proofs.Common.{refl}
use Rattle.cedar_unknowns.proofs.Contexts.{context_known, context_left}
use Rattle.cedar_unknowns.specs.Occurrences.{asked_each}
use Rattle.cedar_unknowns.proofs.requests.note_pairs.Goals as goal

pub returns-in-None : goal.returns-in-None
returns-in-None c =
    context_known c.args.context.now (asked_each c.args.found.now.keys) (asked_each c.args.found.now.keys) c.in-None.ensures.map refl

pub returns-in-Some : goal.returns-in-Some
returns-in-Some c =
    context_left c.args.context.now c.in-Some.pairs.now c.note_at.result (asked_each c.note_at.new.found.keys) (asked_each c.args.found.now.keys) c.in-Some.ensures.map c.note_at.ensures
