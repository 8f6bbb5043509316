-- What is printed tells the decision.
use Rattle.std.proofs.Common.{◌≡◌, ◌↔◌, refl, sym, ap, subst, ◌∙◌, ◌++◌, codes, Bool, true, false, true≢false, nat_eq}
use Rattle.std.proofs.Common.{List, Result, Ok, Err, IfOk}
use Rattle.std.specs.declared.alloc.AllocError.{AllocError}
use Rattle.std.proofs.Common.{get_or, string_bytes}
use Rattle.cedar_model.specs.Terms.{Text}
use Rattle.cedar_model.specs.Policies as model
use Rattle.cedar_model.specs.Policies.{allow, deny}
use Rattle.cedar_decisions.specs.Decisions.{decision_view}
use Rattle.cedar_layers.specs.declared.policies.entities.Entities.{Entities}
use Rattle.cedar_layers.specs.Policies.{PolicyView}
use Rattle.cedar_layers.specs.PolicySets.{policies_view}
use Rattle.cedar_layers.specs.declared.policies.policy_set.PolicySet.{PolicySet}
use Rattle.cedar_requests.specs.declared.request.Request.{Request}
use Rattle.cedar_authorizer.specs.declared.responses.response.Response.{Response}
use Rattle.cedar_authorizer.specs.responses.Responses.{response_view}
use Rattle.cedar_cli.specs.declared.asked.Way.{Way}
use Rattle.cedar_cli.specs.declared.decisions.Printed.{Printed}
use Rattle.cedar_cli.specs.Printing.{word, status}
use Rattle.cedar_cli.specs.Authorized.{Begins, AreReasonLines, AreReasonsIf, IsWord, IsPrintedAs, IsPrinted}
use Rattle.cedar_cli.specs.Authorized.{IsExact, IsAllowedExactly}
use Rattle.cedar_cli.proofs.Lines.{is_calm, starts_calm, no_word_below, calm_names, calm_below_word}

abbrev begins_with_d : Text → Bool
begins_with_d t = nat_eq (get_or t 0 0) 68

-- a word that stands first is the decision's
pub word_tells : (d e : model.Decision) (lines rest : Text) → word d ++ (codes "\n" ++ lines) ≡ word e ++ rest → d ≡ e
word_tells allow allow lines rest h = refl
word_tells deny deny lines rest h = refl
word_tells allow deny lines rest h = absurd (true≢false (sym (ap begins_with_d h)))
word_tells deny allow lines rest h = absurd (true≢false (ap begins_with_d h))

begins_exactly : (v : Bool) (ps : List PolicyView) (r : Response) (e : model.Decision) (p : Printed) → IsWord v ps r p
    → decision_view r.decision ≡ e → Begins (word allow) (string_bytes p.output) ↔ (e ≡ allow)
begins_exactly v ps r e p is same = (
  λ b. sym same ∙ word_tells (decision_view r.decision) allow is.lines b.0 (sym is.output_is ∙ b.1),
  λ h. (codes "\n" ++ is.lines, is.output_is ∙ ap (λ f. word f ++ (codes "\n" ++ is.lines)) (same ∙ h)),
)

-- so `ALLOW` stands first exactly where the policies allow
pub allowed_exactly : (mode : model.ErrorHandling) (text : Text) (ps : PolicySet) (s : Entities) (r : Request)
    (response : Response) (w : Way) (p : Printed) → IsExact mode ps s r (response_view response)
    → IsPrinted text ps w response p → w.is_json ≡ false → IsAllowedExactly mode ps s r (string_bytes p.output)
allowed_exactly mode text ps s r response w p exact printed plain sigma =
    begins_exactly w.is_verbose (policies_view ps) response _ p
    (subst (λ b. IsPrintedAs b w.is_verbose text (policies_view ps) response p) plain printed)
    (exact sigma).decision_is

-- ---- what is printed, with no other word below

lines_calm : (b : Bool) (is : Text → Bool) (ps : List PolicyView) (lines : Text) → AreReasonLines b is ps lines
    → (is_calm lines ≡ true) × (starts_calm lines ≡ true)
lines_calm true is ps lines are = (ap is_calm are, ap starts_calm are)
lines_calm false is ps lines (names, are, whole) =
    (ap is_calm whole ∙ calm_names is ps names are, ap starts_calm whole)

pub reasons_calm : (v : Bool) (ps : List PolicyView) (r : Response) (lines : Text) → AreReasonsIf v ps r lines
    → (is_calm lines ≡ true) × (starts_calm lines ≡ true)
reasons_calm false ps r lines are = (ap is_calm are, ap starts_calm are)
reasons_calm true ps r lines are = lines_calm _ _ ps lines are

pub word_printed : (v : Bool) (ps : List PolicyView) (r : Response) (shown lines : Text) → shown ≡ lines
    → AreReasonsIf v ps r lines → (o : Result Printed AllocError)
    → IfOk o (λ p. p.status ≡ status (decision_view r.decision))
    → IfOk o (λ p. string_bytes p.output ≡ word (decision_view r.decision) ++ (codes "\n" ++ shown))
    → IfOk o (IsWord v ps r)
word_printed v ps r shown lines same are (Ok p) status_is output_is =
    let output = output_is ∙ ap (λ l. word (decision_view r.decision) ++ (codes "\n" ++ l)) same in
    let calm = reasons_calm v ps r lines are in
    record {
      lines = lines;
      reasons = are;
      status_is = status_is;
      output_is = output;
      no_other = no_word_below (string_bytes p.output)
          (ap is_calm output ∙ calm_below_word (decision_view r.decision) lines calm.0 calm.1);
    }
word_printed v ps r shown lines same are (Err e) status_is output_is = tt
