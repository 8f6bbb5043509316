-- Pages together.
use Rattle.std.proofs.Common.{refl, sym, subst, ℕ, List, [], ◌∷◌, ◌++◌, Option, Some, None, drop}
use Rattle.cedar_model.specs.Terms.{EntityName}
use Rattle.cedar_search.specs.Questions.{Question}
use Rattle.cedar_search.specs.Found.{AreThePermitted, IsDecided}
use Rattle.cedar_search.specs.Pages.{Page, ArePages, found_in, from_next}
use Rattle.cedar_search.proofs.Keeping.{kept_both}

pages_from : (q : Question) (es : List EntityName) (from : Option ℕ) (ps : List Page) → ArePages q es from ps
    → AreThePermitted q (from_next es from) (found_in ps)
pages_from q es None [] h = refl
pages_from q es None (p ∷ ps) h = absurd h
pages_from q es (Some after) [] h = absurd h
pages_from q es (Some after) (p ∷ ps) (count, is, next) =
    subst (λ l. AreThePermitted q l (p.found ++ found_in ps)) (sym is.split)
    (kept_both (IsDecided q) is.here (from_next es p.next) p.found (found_in ps) is.permitted (pages_from q es p.next ps next))

pub pages_together : (q : Question) (es : List EntityName) (after : ℕ) (ps : List Page) → ArePages q es (Some after) ps
    → AreThePermitted q (drop after es) (found_in ps)
pages_together q es after ps h = pages_from q es (Some after) ps h
