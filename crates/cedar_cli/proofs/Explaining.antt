-- Explanations below a decision: no line of them begins with a decision's word.
use Rattle.std.proofs.Common.{◌≡◌, refl, sym, ap, subst, ◌∙◌, ◌++◌, codes, Bool, true, false, List, [], ◌∷◌, ℕ, zero, suc, ◌%◌, ◌/◌, ◌==◌, if◌then◌else◌, Option, Some, None, Result, Ok, Err, IfOk, append_assoc, string_bytes}
use Rattle.std.specs.Prelude.{◌↔◌}
use Rattle.std.specs.Fmt.{decimal, digits, digits_onto, digit_glyph}
use Rattle.std.specs.declared.alloc.AllocError.{AllocError}
use Rattle.cedar_model.specs.Terms.{Text}
use Rattle.cedar_model.specs.Policies as model
use Rattle.cedar_model.specs.Policies.{allow}
use Rattle.cedar_decisions.specs.Decisions.{decision_view}
use Rattle.cedar_names.specs.declared.names.Loc.{Loc}
use Rattle.cedar_layers.specs.Policies.{PolicyView}
use Rattle.cedar_layers.specs.declared.policies.entities.Entities.{Entities}
use Rattle.cedar_layers.specs.declared.policies.policy_set.PolicySet.{PolicySet}
use Rattle.cedar_requests.specs.declared.request.Request.{Request}
use Rattle.cedar_explain_printer.specs.declared.lines.LineKind.{LineKind}
use Rattle.cedar_explain_printer.specs.declared.lines.LineKind.TheVariants.{Heading, Policy, Part}
use Rattle.cedar_explain_printer.specs.Lines.{Line}
use Rattle.cedar_authorizer.specs.declared.responses.response.Response.{Response}
use Rattle.cedar_authorizer.specs.responses.Responses.{response_view}
use Rattle.cedar_cli.specs.declared.decisions.Printed.{Printed}
use Rattle.cedar_cli.specs.Noted.{place_at}
use Rattle.cedar_cli.specs.Printing.{word, status}
use Rattle.cedar_cli.specs.Authorized.{Begins, AreReasonsIf, HasNoWordBelow, IsExact, IsAllowedExactly}
use Rattle.cedar_cli.specs.Explained.{start_of, numbered, place_text, IsToldLine, AreToldLines, IsWordAbove}
use Rattle.cedar_cli.proofs.Lines.{is_calm, starts_calm, has_no_feed, both_of, starts_behind, calm_behind, line_ends, feedless_behind, digit_feedless, told_feedless, no_word_below, calm_below_word}
use Rattle.cedar_cli.proofs.Words.{word_tells, reasons_calm}

-- ---- places

digits_end : (k n : ℕ) (acc : Text) → has_no_feed acc ≡ true → has_no_feed (digits_onto k 10 false n acc) ≡ true
digits_end zero n acc e = e
digits_end (suc k) n acc e =
    let more = both_of _ _ (digit_feedless (n % 10)) e in
    by (n / 10 == 0) more (digits_end k (n / 10) (digit_glyph false (n % 10) ∷ acc) more)
  where
    by : (b : Bool) → has_no_feed (digit_glyph false (n % 10) ∷ acc) ≡ true
        → has_no_feed (digits_onto k 10 false (n / 10) (digit_glyph false (n % 10) ∷ acc)) ≡ true
        → has_no_feed (if b then digit_glyph false (n % 10) ∷ acc
        else digits_onto k 10 false (n / 10) (digit_glyph false (n % 10) ∷ acc)) ≡ true
    by true here later = here
    by false here later = later

number_feedless : (n : ℕ) → has_no_feed (decimal n) ≡ true
unfolding digits
number_feedless n = digits_end 64 n [] refl

numbered_feedless : (p : ℕ × ℕ) → has_no_feed (numbered p) ≡ true
numbered_feedless p =
    feedless_behind (codes "line ") (decimal p.0 ++ (codes ", column " ++ (decimal p.1 ++ codes ": "))) refl
    (feedless_behind (decimal p.0) (codes ", column " ++ (decimal p.1 ++ codes ": ")) (number_feedless p.0)
    (feedless_behind (codes ", column ") (decimal p.1 ++ codes ": ") refl
    (feedless_behind (decimal p.1) (codes ": ") (number_feedless p.1) refl)))

place_feedless : (text : Text) (o : Option Loc) → has_no_feed (place_text text o) ≡ true
place_feedless text None = refl
place_feedless text (Some l) = numbered_feedless (place_at text l.start)

-- ---- lines

begun_calm : (k : LineKind) (rest : Text) → is_calm rest ≡ true → is_calm (start_of k ++ rest) ≡ true
begun_calm Heading rest e = e
begun_calm Policy rest e = e
begun_calm Part rest e = e

begun_starts : (k : LineKind) (rest : Text) → starts_calm (start_of k ++ rest) ≡ true
begun_starts Heading rest = refl
begun_starts Policy rest = refl
begun_starts Part rest = refl

line_calm : (text : Text) (l : Line) (line : Text) → IsToldLine text l line → is_calm line ≡ true
line_calm text l line is =
    let place : Text = place_text text l.place in
    let calm : is_calm (place ++ (is.told ++ codes "\n")) ≡ true =
    ap is_calm (sym (append_assoc place is.told (codes "\n")))
    ∙ line_ends (place ++ is.told)
    (feedless_behind place is.told (place_feedless text l.place) (told_feedless l.text is.told is.visible)) in
    ap is_calm is.line_is ∙ begun_calm l.kind (place ++ (is.told ++ codes "\n")) calm

line_starts : (text : Text) (l : Line) (line : Text) → IsToldLine text l line → starts_calm line ≡ true
line_starts text l line is =
    ap starts_calm is.line_is ∙ begun_starts l.kind (place_text text l.place ++ (is.told ++ codes "\n"))

told_calm : (text : Text) (ls : List Line) (t : Text) → AreToldLines text ls t
    → (is_calm t ≡ true) × (starts_calm t ≡ true)
told_calm text [] t is = (ap is_calm is, ap starts_calm is)
told_calm text (l ∷ ls) t (line, rest, one, more, whole) =
    let calm = told_calm text ls rest more in (
      ap is_calm whole ∙ calm_behind line rest (line_calm text l line one) calm.0 calm.1,
      ap starts_calm whole ∙ starts_behind line rest (line_starts text l line one) calm.1,
    )

-- a line is put behind what is begun
pub line_put : (before start place told : Text)
    → (((before ++ start) ++ place) ++ told) ++ codes "\n" ≡ before ++ (start ++ (place ++ (told ++ codes "\n")))
line_put before start place told =
    append_assoc ((before ++ start) ++ place) told (codes "\n")
    ∙ append_assoc (before ++ start) place (told ++ codes "\n")
    ∙ append_assoc before start (place ++ (told ++ codes "\n"))

-- one line more
pub one_told : (text : Text) (all left rest : List Line) (l : Line) (before after : Text) → left ≡ l ∷ rest
    → (line : Text) × IsToldLine text l line × (after ≡ before ++ line)
    → ((t : Text) → AreToldLines text left t → AreToldLines text all (before ++ t))
    → (t : Text) → AreToldLines text rest t → AreToldLines text all (after ++ t)
one_told text all left rest l before after on (line, is, put) so t are =
    subst (AreToldLines text all) (sym (ap (λ (b : Text). b ++ t) put ∙ append_assoc before line t))
    (so (line ++ t) (subst (λ (ls : List Line). AreToldLines text ls (line ++ t)) (sym on) (line, t, is, are, refl)))

-- ---- below a decision

pub no_other : (v : Bool) (ps : List PolicyView) (r : Response) (text : Text) (ls : List Line) (below : Text) (p : Printed)
    → IsWordAbove v ps r below p → AreToldLines text ls below → HasNoWordBelow (string_bytes p.output)
no_other v ps r text ls below p is told =
    let mine = reasons_calm v ps r is.reasons is.reasons_are in
    let theirs = told_calm text ls below told in
    no_word_below (string_bytes p.output)
    (ap is_calm is.output_is
    ∙ calm_below_word (decision_view r.decision) (is.reasons ++ below)
    (calm_behind is.reasons below mine.0 theirs.0 theirs.1) (starts_behind is.reasons below mine.1 theirs.1))

pub word_above : (v : Bool) (ps : List PolicyView) (r : Response) (below shown reasons : Text) → shown ≡ reasons ++ below
    → AreReasonsIf v ps r reasons → (o : Result Printed AllocError)
    → IfOk o (λ p. p.status ≡ status (decision_view r.decision))
    → IfOk o (λ p. string_bytes p.output ≡ word (decision_view r.decision) ++ (codes "\n" ++ shown))
    → IfOk o (IsWordAbove v ps r below)
word_above v ps r below shown reasons same are (Ok p) status_is output_is = record {
  reasons = reasons;
  reasons_are = are;
  status_is = status_is;
  output_is = output_is ∙ ap (λ (l : Text). word (decision_view r.decision) ++ (codes "\n" ++ l)) same;
}
word_above v ps r below shown reasons same are (Err e) status_is output_is = tt

begins_exactly : (v : Bool) (ps : List PolicyView) (r : Response) (e : model.Decision) (below : Text) (p : Printed)
    → IsWordAbove v ps r below p → decision_view r.decision ≡ e → Begins (word allow) (string_bytes p.output) ↔ (e ≡ allow)
begins_exactly v ps r e below p is same = (
  λ b. sym same ∙ word_tells (decision_view r.decision) allow (is.reasons ++ below) b.0 (sym is.output_is ∙ b.1),
  λ h. (
    codes "\n" ++ (is.reasons ++ below),
    is.output_is ∙ ap (λ (f : model.Decision). word f ++ (codes "\n" ++ (is.reasons ++ below))) (same ∙ h),
  ),
)

-- `ALLOW` stands first exactly where the policies allow
pub allowed_above : (mode : model.ErrorHandling) (ps : PolicySet) (s : Entities) (r : Request) (response : Response)
    (v : Bool) (views : List PolicyView) (below : Text) (p : Printed) → IsExact mode ps s r (response_view response)
    → IsWordAbove v views response below p → IsAllowedExactly mode ps s r (string_bytes p.output)
allowed_above mode ps s r response v views below p exact printed sigma =
    begins_exactly v views response _ below p printed (exact sigma).decision_is
