-- What is left to write, one part after another.
use Rattle.std.proofs.Common.{◌≡◌, ℕ, ◌+◌, ◌<◌, List, length, get_or, drop}
use Rattle.std.proofs.lemmas.List.{drop_more}
use Rattle.cedar_model.specs.Terms.{one_term}
use Rattle.cedar_model.specs.Values.{expression_of, expressions_of}
use Rattle.cedar_model.specs.Sets.{represented_values_of}
use Rattle.cedar_values.specs.Sound.{Placed, whats}

-- the terms of values, from one on
pub expressions_of-drop : (ps : List Placed) (i : ℕ) (p : Placed) → i < length ps → p ≡ get_or ps i p
    → expressions_of (represented_values_of (whats (drop i ps))) ≡ one_term (expression_of p.what) (expressions_of (represented_values_of (whats (drop (i + 1) ps))))
expressions_of-drop ps i p h is = rw (drop_more ps i p h, ← is)
