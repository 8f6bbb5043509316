use Rattle.std.proofs.Common.{◌≡◌, Ok, Some, codes}
use Rattle.json.specs.Value.{value_view}
use Rattle.cedar_names.specs.Names.{uid_name}
use Rattle.cedar_restricted.specs.Readers.{entity_in}
use Rattle.cedar_restricted.specs.Views.{restricted_term}
use Rattle.cedar_endpoints.specs.Asked.{named_view}
use Rattle.cedar_service.specs.Asked.{entity_said, IsUnnamed}
use Rattle.cedar_service.specs.Faults.{IsFault, IsToldAs, IsOfJson}
use Rattle.cedar_service.proofs.Composed.{of_ok, of_err, because, both}
use Rattle.cedar_service.proofs.Named.{named_entity, named_as, not_named}
use Rattle.cedar_service.proofs.names.read_uid.Goals as goal

pub uid_of-requires : goal.uid_of-requires
uid_of-requires c =
    named_entity (value_view c.args.value.now) (named_view c.args.named) c.requires (restricted_term c.in-Ok.expr)
    c.in-Ok.ensures.said

pub returns-in-Ok-clause-said : goal.returns-in-Ok-clause-said
returns-in-Ok-clause-said c =
    let n = named_view c.args.named in
    let t = restricted_term c.in-Ok.expr in
    of_ok (λ u. entity_in t ≡ Some (uid_name u)) (λ u. entity_said n ≡ Ok (uid_name u))
    (λ u h. named_as (value_view c.args.value.now) n c.requires t (uid_name u) c.in-Ok.ensures.said h)
    c.uid_of.result c.uid_of.ensures.entity

pub returns-in-Ok-clause-refused : goal.returns-in-Ok-clause-refused
returns-in-Ok-clause-refused c =
    let n = named_view c.args.named in
    of_err (IsToldAs (λ _. ⊥)) (IsToldAs (λ t. IsUnnamed n × IsFault c.args.path.now (codes "not a name") t))
    (because (λ _. ⊥) (λ t. IsUnnamed n × IsFault c.args.path.now (codes "not a name") t) (λ t h. absurd h))
    c.uid_of.result c.uid_of.ensures.memory

pub returns-in-Err-clause-refused : goal.returns-in-Err-clause-refused
returns-in-Err-clause-refused c =
    let n = named_view c.args.named in
    let e = c.in-Err.error in
    both (λ _. IsUnnamed n) (IsFault c.args.path.now (codes "not a name")) c.refuse_name.result
    (because (λ _. IsOfJson e) (λ _. IsUnnamed n)
    (λ t h. not_named (value_view c.args.value.now) n c.requires e c.in-Err.ensures.refused h)
    c.refuse_name.result c.refuse_name.ensures.json) c.refuse_name.ensures.fault
