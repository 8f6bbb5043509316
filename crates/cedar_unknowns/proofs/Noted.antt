-- Unknowns noted one list after another.
use Rattle.std.proofs.Common.{◌≡◌, List, [], ◌∷◌, ◌++◌, refl, sym, ap, ◌∙◌}
use Rattle.cedar_model.specs.Terms.{Term, Terms, one_term}
use Rattle.cedar_unknowns.specs.Occurrences.{Asked, occurrences, occurrences_each, noted, noted_each}

-- those of two lists, one behind the other
pub noted_each-append : (before bs cs : List Asked) → noted_each (before ++ bs) cs ≡ noted_each bs (noted_each before cs)
noted_each-append [] bs cs = refl
noted_each-append (a ∷ more) bs cs = noted_each-append more bs (noted a cs)

-- one part more was noted
pub one_noted : (all rest : Terms) (t : Term) (before after total : List Asked) → all ≡ one_term t rest → after ≡ noted_each (occurrences t) before
    → noted_each (occurrences_each all) before ≡ total → noted_each (occurrences_each rest) after ≡ total
one_noted all rest t before after total is noted_one whole =
    ap (λ (bs : List Asked). noted_each (occurrences_each rest) bs) noted_one ∙ sym (noted_each-append (occurrences t) (occurrences_each rest) before) ∙ sym (ap (λ (ts : Terms). noted_each (occurrences_each ts) before) is) ∙ whole

pub ruleset noting = (noted_each-append)
