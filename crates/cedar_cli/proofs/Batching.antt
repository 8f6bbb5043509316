-- Answers to lines, one behind the other.
use Rattle.std.proofs.Common.{◌≡◌, refl, sym, ap, subst, ◌∙◌, ◌+◌, ◌<◌, ℕ, suc, Bool, true, false, cond, ◌||◌, List, [], ◌∷◌, ◌++◌, append_assoc, length, map, drop, get_or, string_bytes, Result, Ok, Err, IfOk, arith}
use Rattle.std.proofs.Math.Seq.{drop-cons}
use Rattle.std.specs.Borrow.{Bor}
use Rattle.std.specs.Prelude.{flat_map}
use Rattle.std.specs.declared.alloc.AllocError.{AllocError}
use Rattle.cedar_model.specs.Terms.{Text}
use Rattle.cedar_model.specs.Agreement.{AgreesWithFunctions}
use Rattle.cedar_decisions.specs.Decisions.{mode_view}
use Rattle.cedar_layers.specs.declared.policies.entities.Entities.{Entities}
use Rattle.cedar_text_parser.specs.PolicyHeights.{with_scope, AreAllNoHigher}
use Rattle.cedar_text_parser.specs.PolicyReading.{AreAllRead}
use Rattle.cedar_text_parser.specs.PolicyTermCalls.{ReadPoliciesCallKnown}
use Rattle.cedar_text_parser.specs.declared.policies.ParsedPolicies.{ParsedPolicies}
use Rattle.cedar_standard_functions.specs.Laws.{AskNothing}
use Rattle.cedar_standard_functions.specs.Standard.{standard_answers}
use Rattle.cedar_authorizer.specs.responses.Responses.{response_view}
use Rattle.cedar_cli.specs.declared.asked.Asked.{Asked}
use Rattle.cedar_cli.specs.declared.asked.Source.{Source}
use Rattle.cedar_cli.specs.declared.asked.Way.{Way}
use Rattle.cedar_cli.specs.declared.batch.Answered.{Answered}
use Rattle.cedar_cli.specs.declared.decisions.Printed.{Printed}
use Rattle.cedar_cli.specs.declared.refusal.Refusal.{Refusal}
use Rattle.cedar_cli.specs.declared.refusal.Refusal.TheVariants as refusals
use Rattle.cedar_cli.specs.Authorized.{IsAnsweredOver, IsAuthorized}
use Rattle.cedar_cli.specs.Batch.{asking, LineAnswer, IsRefusalLine, IsAnswerAs, IsAnswer, AreAnswers, is_any_refused, AreAnswered, IsTold, line_of_answer}
use Rattle.cedar_cli.specs.Questions.{levels, IsKnownStore}
use Rattle.cedar_cli.specs.Reasons.{IsToldFor}
use Rattle.cedar_cli.specs.Standard.{standard_extensions, standard_calls, standard_knowledge}
use Rattle.cedar_cli.proofs.Exact.{exactly, none_unknown}
use Rattle.cedar_cli.proofs.Stepping.{assoc_one, append_none}
use Rattle.cedar_cli.proofs.Words.{allowed_exactly}

-- ---- texts and statuses, with one answer more

lines_behind : (done : List LineAnswer) (a : LineAnswer)
    → flat_map (λ (b : LineAnswer). b.line) (done ++ a ∷ []) ≡ flat_map (λ (b : LineAnswer). b.line) done ++ a.line
lines_behind [] a = append_none a.line
lines_behind (b ∷ done) a =
    ap (λ t. b.line ++ t) (lines_behind done a)
    ∙ sym (append_assoc b.line (flat_map (λ (b : LineAnswer). b.line) done) a.line)

or_assoc : (a b c : Bool) → (a || (b || c)) ≡ ((a || b) || c)
or_assoc true b c = refl
or_assoc false b c = refl

refused_behind : (done : List LineAnswer) (a : LineAnswer)
    → is_any_refused (done ++ a ∷ []) ≡ (is_any_refused done || a.is_refused)
refused_behind [] a = or_none a.is_refused
  where
    or_none : (b : Bool) → (b || false) ≡ b
    or_none true = refl
    or_none false = refl
refused_behind (b ∷ done) a =
    ap (λ r. b.is_refused || r) (refused_behind done a) ∙ or_assoc b.is_refused (is_any_refused done) a.is_refused

status_with : (one more : Bool) → ◌≡◌ {A = ℕ} (cond more 1 (cond one 1 0)) (cond (one || more) 1 0)
status_with true true = refl
status_with true false = refl
status_with false true = refl
status_with false false = refl

-- ---- the loop over the lines

-- the line at this place, and those behind it
pub next_line : (ls : List (Bor Text)) (i : ℕ) (d : Bor Text) → i < length ls
    → map (λ (l : Bor Text). l.now) (drop i ls)
    ≡ (get_or ls i d).now ∷ map (λ (l : Bor Text). l.now) (drop (i + 1) ls)
next_line ls i d within =
    let more : suc i ≡ i + 1 = omega arith in
    ap (map (λ (l : Bor Text). l.now))
    (drop-cons ls i d within ∙ ap (λ j. get_or ls i d ∷ drop j ls) more)

-- what is answered is all, once the answers to the lines that are left stand behind it
pub record AreSoFar (Answers : Asked → Printed → Type 0) (Unread : Asked → Type 0) (q : Asked) (all left : List Text)
    (n : ℕ) (p : Printed) : Type 0 where
  pub done : List LineAnswer
  pub output_is : string_bytes p.output ≡ flat_map (λ (b : LineAnswer). b.line) done
  pub status_is : p.status ≡ cond (is_any_refused done) 1 0
  pub goes_on : (more : List LineAnswer) → AreAnswers Answers Unread q n left more
      → AreAnswers Answers Unread q 1 all (done ++ more)

module _ (Answers : Asked → Printed → Type 0) (Unread : Asked → Type 0) (q : Asked) (all : List Text) where
  pub none_yet : (p : Printed) → string_bytes p.output ≡ [] → p.status ≡ 0 → AreSoFar Answers Unread q all all 1 p
  none_yet p output status = record { done = []; output_is = output; status_is = status; goes_on = λ more are. are }

  pub one_more : (line : Text) (left rest : List Text) (n : ℕ) (a : LineAnswer) (p next : Printed)
      → left ≡ line ∷ rest → AreSoFar Answers Unread q all left n p → IsAnswer Answers Unread q n line a
      → string_bytes next.output ≡ string_bytes p.output ++ a.line → next.status ≡ cond a.is_refused 1 p.status
      → AreSoFar Answers Unread q all rest (n + 1) next
  one_more line left rest n a p next left_is so_far one output status = record {
    done = so_far.done ++ a ∷ [];
    output_is = output ∙ ap (λ t. t ++ a.line) so_far.output_is ∙ sym (lines_behind so_far.done a);
    status_is = status ∙ ap (λ s. cond a.is_refused 1 s) so_far.status_is
        ∙ status_with (is_any_refused so_far.done) a.is_refused
        ∙ sym (ap (λ r. cond r 1 0) (refused_behind so_far.done a));
    goes_on = λ more are. subst (AreAnswers Answers Unread q 1 all) (sym (assoc_one so_far.done a more))
        (so_far.goes_on (a ∷ more) (subst (λ l. AreAnswers Answers Unread q n l (a ∷ more)) (sym left_is) (one, are)));
  }

  pub all_done : (left : List Text) (n : ℕ) (p : Printed) → left ≡ [] → AreSoFar Answers Unread q all left n p
      → AreAnswered Answers Unread q all p
  all_done left n p none so_far = record {
    answers = so_far.done;
    each = subst (AreAnswers Answers Unread q 1 all) (append_none so_far.done)
        (so_far.goes_on [] (subst (λ l. AreAnswers Answers Unread q n l []) (sym none) tt));
    output_is = so_far.output_is;
    status_is = so_far.status_is;
  }

-- ---- one line

-- a refusal that is told is told for its reason
told_for : (Why : Type 0) (r : Refusal) → IsTold r → IsToldFor Why r → Why
told_for Why refusals.Memory told h = absurd told
told_for Why (refusals.Told lines) told h = h

module _ (Answers : Asked → Printed → Type 0) (Unread : Asked → Type 0) (q : Asked) (s : Source) where
  pub line_decided : (n : ℕ) (p : Printed) (a : Answered) → Answers (asking q s) p → a.line ≡ p.output
      → a.is_refused ≡ false → IsAnswer Answers Unread q n s.text.now (line_of_answer a)
  line_decided n p a answers line decided =
      subst (λ b. IsAnswerAs b Answers Unread q n s.text.now (string_bytes a.line)) (sym decided)
      (record {
        request = s;
        is_line = refl;
        alone = p;
        answers = answers;
        is_answer = ap (λ l. string_bytes l) line;
      })

  pub line_refused : (n : ℕ) (e : Refusal) (r : Result Answered AllocError) → IsToldFor (Unread (asking q s)) e
      → IfOk r (λ a. IsTold e) → IfOk r (λ a. a.is_refused ≡ true)
      → IfOk r (λ a. IsRefusalLine n (string_bytes a.line))
      → IfOk r (λ a. IsAnswer Answers Unread q n s.text.now (line_of_answer a))
  line_refused n e (Ok a) why told refused line =
      subst (λ b. IsAnswerAs b Answers Unread q n s.text.now (string_bytes a.line)) (sym refused)
      (record { request = s; is_line = refl; unread = told_for (Unread (asking q s)) e told why; is_answer = line })
  line_refused n e (Err none) why told refused line = tt

-- ---- what holds of each answer alone

module _ (A B : Asked → Printed → Type 0) (Unread : Asked → Type 0) (q : Asked)
    (f : (s : Source) (p : Printed) → A (asking q s) p → B (asking q s) p) where
  answer_of : (b : Bool) (n : ℕ) (line answer : Text) → IsAnswerAs b A Unread q n line answer
      → IsAnswerAs b B Unread q n line answer
  answer_of false n line answer h = record {
    request = h.request;
    is_line = h.is_line;
    alone = h.alone;
    answers = f h.request h.alone h.answers;
    is_answer = h.is_answer;
  }
  answer_of true n line answer h = h

  answers_of : (n : ℕ) (ls : List Text) (done : List LineAnswer) → AreAnswers A Unread q n ls done
      → AreAnswers B Unread q n ls done
  answers_of n [] [] h = h
  answers_of n [] (a ∷ more) h = h
  answers_of n (line ∷ rest) [] h = h
  answers_of n (line ∷ rest) (a ∷ more) h =
      (answer_of a.is_refused n line a.line h.0, answers_of (n + 1) rest more h.1)

  pub answered_of : (ls : List Text) (p : Printed) → AreAnswered A Unread q ls p → AreAnswered B Unread q ls p
  answered_of ls p h = record {
    answers = h.answers;
    each = answers_of 1 ls h.answers h.each;
    output_is = h.output_is;
    status_is = h.status_is;
  }

-- ---- the whole

-- what is answered of the policies of the text and the entities is what `authorize` answers
module _ (calls : ReadPoliciesCallKnown) (ask : AskNothing) (agree : AgreesWithFunctions standard_answers standard_calls)
    (text : Text) (parsed : ParsedPolicies) (read : AreAllRead standard_knowledge text levels parsed)
    (low : AreAllNoHigher (with_scope levels) parsed) (s : Entities) (w : Way) where
  pub authorized_alone : (q : Asked) (p : Printed) → IsKnownStore standard_extensions standard_calls q s
      → IsAnsweredOver standard_extensions standard_calls text parsed.policies s q w p → IsAuthorized text q w p
  authorized_alone q p store by =
      let nothing = none_unknown standard_extensions standard_calls q s by.request store by.request_is in
      let exact = exactly calls ask agree standard_knowledge text parsed read low s by.request w
      (response_view by.response) by.response_is nothing in
      record {
        parsed = parsed;
        entities = s;
        request = by.request;
        response = by.response;
        policies_are = read;
        store_is = store;
        request_is = by.request_is;
        nothing_unknown = nothing;
        response_is = by.response_is;
        exact = exact;
        printed = by.printed;
        allows = λ unlimited. allowed_exactly (mode_view w.error_handling) text parsed.policies s by.request
            by.response w p (exact unlimited) by.printed;
      }
