-- What the iterators of policies give.
use Rattle.std.proofs.Common.{List, ◌++◌, Option, Some, None, Result, ap}
use Rattle.std.specs.declared.alloc.AllocError.{AllocError}
use Rattle.cedar_layers.specs.declared.policies.policy.Policy.{Policy}
use Rattle.cedar_authorizer.specs.responses.Rows.{Located}
use Rattle.cedar_authorizer.specs.responses.Readers.{TakesPolicy}

pub takes_here : (item : Result Policy AllocError) (a b c : List Located) → TakesPolicy a (Some item) b → TakesPolicy (a ++ c) (Some item) (b ++ c)
takes_here item a b c (l, e, h) = (l, ap (λ ls. ls ++ c) e, h)

pub takes_past : (r : Option (Result Policy AllocError)) (a b c d : List Located) → TakesPolicy a None b → TakesPolicy c r d → TakesPolicy (a ++ c) r (b ++ d)
takes_past r a b c d (e, f) h = rw (e, f) h

pub ruleset walks = (takes_here, takes_past)
