use Rattle.std.proofs.Common.{◌∙◌, sym, subst, List, ℕ, Some}
use Rattle.std.specs.Str.{IsUtf8}
use Rattle.cedar_log.specs.Exchanges.{IsShown, shown, no_text}
use Rattle.cedar_log.proofs.stamps.text_of.Goals as goal

pub returns-in-Ok : goal.returns-in-Ok
returns-in-Ok c =
    subst (λ (t : List ℕ). IsShown (Some c.args.value.now.bytes) (Some t))
    (sym (c.in-Ok.ensures.cases.0 ∙ c.as_bytes.ensures.value)) (shown c.args.value.now.bytes)

pub returns-in-Err : goal.returns-in-Err
returns-in-Err c =
    no_text c.args.value.now.bytes
    (subst (λ (b : List ℕ). ¬ IsUtf8 b) c.as_bytes.ensures.value c.in-Err.ensures.cases.0)
