use Rattle.std.proofs.Common.{sym, ◌∙◌}
use Rattle.cedar_names.specs.Names.{uid_name}
use Rattle.cedar_service.specs.Faults.{IsToldAs}
use Rattle.cedar_service.specs.Properties.{AreTaken}
use Rattle.cedar_service.proofs.Composed.{of_err, because}
use Rattle.cedar_service.proofs.Laid.{none_there}
use Rattle.cedar_service.proofs.properties.put.Goals as goal

pub put_beside-requires : goal.put_beside-requires
put_beside-requires c = sym c.is_stored.ensures ∙ c.if-is_stored.true

pub put_alone-requires : goal.put_alone-requires
put_alone-requires c = none_there _ (sym c.is_stored.ensures ∙ c.if-is_stored.false)

pub returns-else-is_stored-clause-laid : goal.returns-else-is_stored-clause-laid
returns-else-is_stored-clause-laid c = c.put_alone.ensures.laid c.args.request_wins

pub returns-else-is_stored-clause-refused : goal.returns-else-is_stored-clause-refused
returns-else-is_stored-clause-refused c =
    let Taken = AreTaken c.args.request_wins c.args.store.now (uid_name c.args.uid) c.args.attributes c.args.path.now in
    of_err (IsToldAs (λ _. ⊥)) (IsToldAs Taken) (because (λ _. ⊥) Taken (λ t h. absurd h)) c.put_alone.result
    c.put_alone.ensures.memory
