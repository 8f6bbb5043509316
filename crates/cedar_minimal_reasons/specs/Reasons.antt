-- Reasons: facts which alone give a decision.
use Rattle.std.specs.Prelude.{◌≡◌, ◌<◌, ◌++◌, ⊤, ℕ, suc, Bool, true, false, cond, List, take, drop, length, Some, None}
use Rattle.std.specs.declared.alloc.Global.{Global}
use Rattle.std.specs.declared.vec.Vec.{Vec}
use Rattle.cedar_model.specs.Policies as model
use Rattle.cedar_decisions.specs.Decisions.{decision_view}
use Rattle.cedar_reasons.specs.declared.facts.Fact.{Fact}
use Rattle.cedar_reasons.specs.Facts.{KnownFact, facts_view}
use Rattle.cedar_minimal_reasons.specs.declared.reasons.Reason.{Reason}
use Rattle.cedar_minimal_reasons.specs.declared.thinning.Trial.{Trial}
use Rattle.cedar_minimal_reasons.specs.declared.thinning.Trial.TheVariants as trials
use Rattle.cedar_minimal_reasons.specs.Questions.{Question, Answers}

abbrev pub facts_of : Reason → List KnownFact
facts_of r = facts_view r.facts.items

-- its decision is given by its facts alone
abbrev pub IsGiven : Question → Reason → Type 0
IsGiven q r = Answers q (facts_of r) (Some (decision_view r.decision))

-- a list without the one at this place
abbrev pub without : {A : Type 0} → ℕ → List A → List A
without i xs = take i xs ++ drop (suc i) xs

-- none is given by these facts without any one of them
abbrev pub IsMinimal : Question → List KnownFact → Type 0
IsMinimal q fs = (i : ℕ) → i < length fs → Answers q (without i fs) None

-- ---- on the way

abbrev pub is_allow : model.Decision → Bool
is_allow model.allow = true
is_allow model.deny = false

abbrev pub same_decision : model.Decision → model.Decision → Bool
same_decision model.allow d = is_allow d
same_decision model.deny model.allow = false
same_decision model.deny model.deny = true

-- what trying the facts came to: none can be left out; or fewer give the decision
abbrev pub IsThinned : Question → List KnownFact → model.Decision → Trial → Type 0
IsThinned q fs d trials.Minimal = IsMinimal q fs
IsThinned q fs d (trials.Fewer v) = Answers q (facts_view v.items) (Some d)
IsThinned q fs d trials.Undecided = ⊤

abbrev pub fewer_if : Bool → Vec Fact Global → Trial
fewer_if true v = trials.Fewer v
fewer_if false v = trials.Undecided
