-- What is printed of one line, and what holds of the lines alone.
use Rattle.std.proofs.Common.{◌≡◌, refl, sym, ap, subst, ◌∙◌, ◌+◌, ℕ, suc, ◌<◌, Bool, true, false, cond, List, [], ◌∷◌, map, drop, length, get_or, string_bytes, Result, Ok, Err, IfOk, arith}
use Rattle.std.proofs.Math.Seq.{drop-cons}
use Rattle.std.specs.Borrow.{Bor}
use Rattle.std.specs.declared.alloc.AllocError.{AllocError}
use Rattle.json.specs.Json.{Json}
use Rattle.cedar_log.specs.Reading.{asked_of}
use Rattle.cedar_model.specs.Terms.{Text}
use Rattle.cedar_model.specs.Agreement.{AgreesWithFunctions}
use Rattle.cedar_layers.specs.declared.policies.entities.Entities.{Entities}
use Rattle.cedar_text_parser.specs.PolicyHeights.{with_scope, AreAllNoHigher}
use Rattle.cedar_text_parser.specs.PolicyReading.{AreAllRead}
use Rattle.cedar_text_parser.specs.PolicyTermCalls.{ReadPoliciesCallKnown}
use Rattle.cedar_text_parser.specs.declared.policies.ParsedPolicies.{ParsedPolicies}
use Rattle.cedar_standard_functions.specs.Laws.{AskNothing}
use Rattle.cedar_standard_functions.specs.Standard.{standard_answers}
use Rattle.cedar_authorizer.specs.responses.Responses.{response_view}
use Rattle.cedar_expectations.specs.Answers.{AnswerView}
use Rattle.cedar_expectations.specs.Differences.{is_same, difference_json}
use Rattle.cedar_expectations.specs.Compared.{ComparisonView, comparison_view, nothing, different, compared, AreEach}
use Rattle.cedar_expectations.specs.declared.comparisons.Comparison.{Comparison}
use Rattle.cedar_expectations.proofs.Comparing.{each_of}
use Rattle.cedar_cli.specs.declared.asked.Asked.{Asked}
use Rattle.cedar_cli.specs.declared.asked.Source.{Source}
use Rattle.cedar_cli.specs.declared.asked.Way.{Way}
use Rattle.cedar_cli.specs.declared.refusal.Refusal.{Refusal}
use Rattle.cedar_cli.specs.declared.refusal.Refusal.TheVariants as refusals
use Rattle.cedar_cli.specs.Batch.{asking, IsRefusalLine, IsTold}
use Rattle.cedar_cli.specs.Questions.{levels, IsKnownStore}
use Rattle.cedar_cli.specs.Reasons.{IsToldFor}
use Rattle.cedar_cli.specs.Standard.{standard_extensions, standard_calls, standard_knowledge}
use Rattle.cedar_cli.proofs.Exact.{exactly, none_unknown}
use Rattle.cedar_regression.specs.Answered.{IsAnswerOver, IsAnswerOf}
use Rattle.cedar_regression.specs.Compared.{IsLineAs, IsLine}

-- the line at this place, and those behind it
pub next_line : (ls : List (Bor Text)) (i : ℕ) (d : Bor Text) → i < length ls
    → map (λ (l : Bor Text). asked_of l.now) (drop i ls)
    ≡ asked_of (get_or ls i d).now ∷ map (λ (l : Bor Text). asked_of l.now) (drop (i + 1) ls)
next_line ls i d within =
    let more : suc i ≡ i + 1 = omega arith in
    ap (map (λ (l : Bor Text). asked_of l.now))
    (drop-cons ls i d within ∙ ap (λ j. get_or ls i d ∷ drop j ls) more)

-- what each asks
pub each_asks : (ls : List (Bor Text)) → map (λ (l : Bor Text). asked_of l.now) ls ≡ map asked_of (map (λ (l : Bor Text). l.now) ls)
each_asks [] = refl
each_asks (l ∷ ls) = ap (λ ts. asked_of l.now ∷ ts) (each_asks ls)

-- ---- one line

-- a refusal that is told is told for its reason
told_for : (Why : Type 0) (r : Refusal) → IsTold r → IsToldFor Why r → Why
told_for Why refusals.Memory told h = absurd told
told_for Why (refusals.Told lines) told h = h

never_refused : (b : Bool) (j : Json) → (cond b nothing (different j)).is_refused ≡ false
never_refused true j = refl
never_refused false j = refl

module _ (Old New : Asked → AnswerView → Type 0) (Unread : Asked → Type 0) (q : Asked) (s : Source) where
  pub line_compared : (n : ℕ) (old new : AnswerView) (r : Result Comparison AllocError) → Old (asking q s) old
      → New (asking q s) new → IfOk r (λ c. comparison_view c ≡ compared n old new)
      → IfOk r (λ c. IsLine Old New Unread q n s.text.now (comparison_view c))
  line_compared n old new (Ok c) old_is new_is same =
      subst (λ b. IsLineAs b Old New Unread q n s.text.now (comparison_view c))
      (sym (ap (λ (v : ComparisonView). v.is_refused) same ∙ never_refused (is_same old new) (difference_json n old new)))
      (record {
        request = s;
        is_line = refl;
        old = old;
        new = new;
        old_is = old_is;
        new_is = new_is;
        is_comparison = same;
      })
  line_compared n old new (Err e) old_is new_is same = tt

  pub line_refused : (n : ℕ) (e : Refusal) (r : Result Comparison AllocError) → IsToldFor (Unread (asking q s)) e
      → IfOk r (λ c. IsTold e) → IfOk r (λ c. c.is_refused ≡ true) → IfOk r (λ c. c.is_different ≡ false)
      → IfOk r (λ c. IsRefusalLine n (string_bytes c.line))
      → IfOk r (λ c. IsLine Old New Unread q n s.text.now (comparison_view c))
  line_refused n e (Ok c) why told refused same line =
      subst (λ b. IsLineAs b Old New Unread q n s.text.now (comparison_view c)) (sym refused)
      (record {
        request = s;
        is_line = refl;
        unread = told_for (Unread (asking q s)) e told why;
        is_printed = line;
        same = same;
      })
  line_refused n e (Err none) why told refused same line = tt

-- ---- what holds of each answer alone

module _ (A B C D : Asked → AnswerView → Type 0) (Unread : Asked → Type 0) (q : Asked)
    (f : (s : Source) (a : AnswerView) → A (asking q s) a → C (asking q s) a)
    (g : (s : Source) (a : AnswerView) → B (asking q s) a → D (asking q s) a) where
  line_as : (b : Bool) (n : ℕ) (line : Text) (c : ComparisonView) → IsLineAs b A B Unread q n line c
      → IsLineAs b C D Unread q n line c
  line_as false n line c h = record {
    request = h.request;
    is_line = h.is_line;
    old = h.old;
    new = h.new;
    old_is = f h.request h.old h.old_is;
    new_is = g h.request h.new h.new_is;
    is_comparison = h.is_comparison;
  }
  line_as true n line c h = h

  pub lines_as : (n : ℕ) (ls : List Text) (done : List ComparisonView) → AreEach (IsLine A B Unread q) n ls done
      → AreEach (IsLine C D Unread q) n ls done
  lines_as = each_of (IsLine A B Unread q) (IsLine C D Unread q) (λ n line c. line_as c.is_refused n line c)

-- ---- the whole

-- what is answered of the policies of the text and the entities
module _ (calls : ReadPoliciesCallKnown) (ask : AskNothing) (agree : AgreesWithFunctions standard_answers standard_calls)
    (text : Text) (parsed : ParsedPolicies) (read : AreAllRead standard_knowledge text levels parsed)
    (low : AreAllNoHigher (with_scope levels) parsed) (s : Entities) (w : Way) where
  pub answered_alone : (q : Asked) (a : AnswerView) → IsKnownStore standard_extensions standard_calls q s
      → IsAnswerOver standard_extensions standard_calls parsed.policies s w q a → IsAnswerOf text w q a
  answered_alone q a store by =
      let nothing = none_unknown standard_extensions standard_calls q s by.request store by.request_is in
      record {
        parsed = parsed;
        entities = s;
        request = by.request;
        response = by.response;
        policies_are = read;
        store_is = store;
        request_is = by.request_is;
        nothing_unknown = nothing;
        response_is = by.response_is;
        exact = exactly calls ask agree standard_knowledge text parsed read low s by.request w (response_view by.response)
            by.response_is nothing;
        answer_is = by.answer_is;
      }
