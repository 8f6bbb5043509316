-- What runs is as promised.
use Rattle.std.specs.Prelude.{ℕ, ◌+◌, ◌<◌, ◌≤◌}
use Rattle.std.proofs.Common.{subst, arith}
use Rattle.cedar_model.specs.Terms.{Term}
use Rattle.cedar_model.specs.Alike.{AreFunctional}
use Rattle.cedar_model.specs.Failures.{Answer}
use Rattle.cedar_model.specs.Settings.{Setting}
use Rattle.cedar_model.specs.Rules.{StoredCalls, Runs, Meets, Exceeds}
use Rattle.cedar_model.specs.Agreement.{height}
use Rattle.cedar_model.specs.Depth.{bound_of}
use Rattle.cedar_model.specs.laws.Levels.{FunctionsMeetNoLimit}
use Rattle.cedar_model.specs.Restricted.{IsGivenSound}
use Rattle.cedar_model.proofs.Determined.{limit_alone}
use Rattle.cedar_model.proofs.Exactly.{answer_exact}
use Rattle.cedar_model.proofs.Needs.{need_bounded}
use Rattle.cedar_model.proofs.Soundness.{allowed_sound}
use Rattle.cedar_interpreter.specs.Promises.{IsPromised}

too_deep : (n h : ℕ) → n < h → h ≤ n → ⊥
too_deep n h above enough = omega (arith, above, enough)

-- where what is given is sound, what runs is as promised
pub promised : (s : Setting) (calls : StoredCalls) → AreFunctional calls → FunctionsMeetNoLimit calls → IsGivenSound calls s →
    (levels : ℕ) (t : Term) (a : Answer) → Runs s calls levels t a → IsPromised s calls levels t a
promised s calls functional no_limit given_sound levels t a runs = record {
  runs = runs;
  limited = (λ is. subst (Runs s calls levels t) is runs, λ met. limit_alone s calls functional levels t a met runs);
  allowed = λ below. (below, levels, runs);
  known = λ nothing ans agree known sigma. answer_exact calls ans agree s nothing sigma levels t a known runs;
  sound = λ ans w c fits below. allowed_sound ans calls c.functions_agree w s c.completion c.functions_are_faithful t a fits (below, levels, runs);
  deep_enough = λ b low enough is.
      let met : Exceeds s calls t levels = subst (Runs s calls levels t) is runs in
      too_deep levels (height t + bound_of s.resolution b) (need_bounded s calls no_limit b given_sound low levels t met) enough;
}

pub meets_promised : (s : Setting) (calls : StoredCalls) (levels : ℕ) (t : Term) → AreFunctional calls → FunctionsMeetNoLimit calls →
    IsGivenSound calls s → (a : Answer) → Meets (Runs s calls levels t) a → Meets (IsPromised s calls levels t) a
meets_promised s calls levels t functional no_limit given_sound a runs ok =
    promised s calls functional no_limit given_sound levels t a (runs ok)
