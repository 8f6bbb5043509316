-- The parts of a conjunction, side by side.
use Rattle.std.proofs.Common.{◌≡◌, ◌∙◌, List, ◌++◌, append_assoc, sym, ap}
use Rattle.cedar_model.specs.Terms.{Term, both}
use Rattle.cedar_unsatisfiable.specs.Late.{conjuncts}

pub two_parts : (old one new : List Term) (a b t : Term) → t ≡ both a b → one ≡ old ++ conjuncts a → new ≡ one ++ conjuncts b
    → new ≡ old ++ conjuncts t
two_parts old one new a b t is first second =
    second ∙ ap (λ l. l ++ conjuncts b) first ∙ append_assoc old (conjuncts a) (conjuncts b)
    ∙ ap (λ u. old ++ conjuncts u) (sym is)
