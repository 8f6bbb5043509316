-- Levels by the number that is left: for code that counts down.
use Rattle.std.specs.Prelude.{◌≡◌, ℕ, zero, suc, ◌<◌, ◌-◌}
use Rattle.std.proofs.Common.{subst, arith}
use Rattle.cedar_model.specs.Terms.{Term}
use Rattle.cedar_model.specs.Failures.{Answer}
use Rattle.cedar_model.specs.Settings.{Setting}
use Rattle.cedar_model.specs.Rules.{StoredCalls, Rule, Runs}

pub runs_by_layer : (s : Setting) (calls : StoredCalls) (n : ℕ) (t : Term) (a : Answer) → 0 < n
    → Rule s calls (Runs s calls (n - 1)) t a → Runs s calls n t a
runs_by_layer s calls zero t a h r = absurd (omega arith)
runs_by_layer s calls (suc m) t a h r =
    let e : suc m - 1 ≡ m = omega arith in subst (λ k. Rule s calls (Runs s calls k) t a) e r
