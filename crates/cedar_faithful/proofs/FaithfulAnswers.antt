-- Where functions answer faithfully, what restricted expressions answer is faithful.
use Rattle.std.specs.Prelude.{◌≡◌, ℕ, true, List, [], ◌∷◌, Some}
use Rattle.cedar_model.specs.Terms.{Text, Term}
use Rattle.cedar_model.specs.Values.{Represented, RepresentedValues, no_represented, one_represented}
use Rattle.cedar_model.specs.Values.{RepresentedFields, no_represented_at, one_represented_at}
use Rattle.cedar_model.specs.World.{Extensions, Functions}
use Rattle.cedar_model.specs.Shapes.{is_restricted}
use Rattle.cedar_model.specs.Failures.{PartialValue, answers}
use Rattle.cedar_model.specs.Settings.{Setting}
use Rattle.cedar_model.specs.Rules.{StoredCalls, Runs}
use Rattle.cedar_model.specs.Agreement.{IsFaithful, AreFaithful, AreFaithfulAt, AllFaithful, IsFaithfulPart}
use Rattle.cedar_model.specs.Agreement.{AnswerFaithfully}
use Rattle.cedar_model.proofs.RestrictedAnswers.{EachSuch, AllSuch}
use Rattle.cedar_faithful.proofs.SuchAnswers.{EachSuchAt, AreKept, answers_such}

module _ (X : Extensions) (ans : Functions) where
  abbrev F : Represented → Type 0
  F v = IsFaithful X ans v

  each_faithful : (vs : RepresentedValues) → EachSuch F vs → AreFaithful X ans vs
  each_faithful no_represented h = tt
  each_faithful (one_represented v vs) h = (h.0, each_faithful vs h.1)

  each_faithful_at : (fs : RepresentedFields) → EachSuchAt F fs → AreFaithfulAt X ans fs
  each_faithful_at no_represented_at h = tt
  each_faithful_at (one_represented_at k v fs) h = (h.0, each_faithful_at fs h.1)

  all_faithful : (vs : List Represented) → AllSuch F vs → AllFaithful X ans vs
  all_faithful [] h = tt
  all_faithful (v ∷ vs) h = (h.0, all_faithful vs h.1)

  faithful_kept : AreKept (IsFaithfulPart X ans)
  faithful_kept = record {
    residual_kept = λ t. tt;
    literal_kept = λ l. tt;
    set_kept = λ vs order each. (order, each_faithful vs each);
    record_kept = each_faithful_at;
  }

  -- a restricted expression answers a faithful part, where the values of the map are faithful
  pub restricted_faithful : (s : Setting) (calls : StoredCalls) → AnswerFaithfully X ans calls
      → ((n : Text) (v : Represented) → s.map n ≡ Some v → IsFaithful X ans v) → (n : ℕ) (t : Term) (p : PartialValue)
      → is_restricted t ≡ true → Runs s calls n t (answers p) → IsFaithfulPart X ans p
  restricted_faithful s calls faithful mapped n t p r h =
      answers_such (IsFaithfulPart X ans) faithful_kept s calls
      (λ f vs v g c. faithful f vs v (all_faithful vs g) c) mapped n t p r h
