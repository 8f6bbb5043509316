-- What follows for builders whose parts are builders.
use Rattle.std.proofs.Common.{Option, option_map, Result, Ok, Err, ap, ◌∙◌}
use Rattle.std.specs.declared.alloc.AllocError.{AllocError}
use Rattle.cedar_model.specs.Terms.{Term}
use Rattle.cedar_expressions.specs.declared.expr.Expr.{Expr}
use Rattle.cedar_builder.specs.Building.{term_in, Makes}

-- where a part is known, so is what is made of it
pub made_of_known : (m r : Result Expr AllocError) (f : Term → Term) (what : Option Term) → Makes m what → Makes r (option_map f (term_in m)) → Makes r (option_map f what)
made_of_known m (Err x) f what h k = tt
made_of_known (Ok e) (Ok d) f what h k = ap (option_map f) h ∙ k
made_of_known (Err x) (Ok d) f what h k = absurd cc

pub ruleset building = (made_of_known)
