-- Requests that a service with a log is given one after another.
use Rattle.std.proofs.Common.{◌≡◌, refl, sym, ap, subst, ◌∙◌, Bool, true, false, ◌||◌, ℕ, List, [], ◌∷◌, ◌++◌, append_assoc, append-nil}
use Rattle.std.specs.Prelude.{⊤}
use Rattle.std.specs.Io.KnownBytes.{Appends}
use Rattle.std.proofs.KnownBytes.{Appends-nil, Appends-trans}
use Rattle.http.specs.declared.request.Request.{Request}
use Rattle.http_server.specs.declared.response.Response.{Response}
use Rattle.http_server.specs.Exchange.{Call, Chain}
use Rattle.cedar_log.specs.Lines.{Text}
use Rattle.cedar_log.specs.Exchanges.{AreLines}
use Rattle.cedar_log.specs.Logs.{Known, whole, broken, IsHandedOut, nothing_told, told, unwritten, unread, no_memory, IsLogged}
use Rattle.cedar_log.specs.Logs.{AreWithheld, none_left, none_told, withheld_next, AreHandedOut, no_call, not_told, told_first}
use Rattle.cedar_log.specs.Logs.{unwritten_first, unread_first, no_memory_first, AreLogged}
use Rattle.cedar_log.specs.declared.logged.Logged.{Logged}
use Rattle.cedar_log.specs.declared.logs.Log.{Log}

abbrev IsSet : Bool → Type 0
IsSet true = ⊤
IsSet false = ⊥

both : {A : Type 0} (b : Bool) → b ≡ true → b ≡ false → A
both b is not_so = absurd (subst IsSet (sym is ∙ not_so) tt)

-- what was noted stays so, and what is noted now is
first_noted : (a b n : Bool) → n ≡ (a || b) → a ≡ true → n ≡ true
first_noted true b n is h = is
first_noted false b n is h = absurd (cc)

second_noted : (a n : Bool) → n ≡ (a || true) → n ≡ true
second_noted true n is = is
second_noted false n is = is

module _ {S L : Type 0} (answers : S → Request (List ℕ) → Response → S → Type 0) (contents : L → Known) where
  step : (q : Request (List ℕ)) (due p : Response) (cs : List Call) (before next after : Logged S L) (lacks : Bool)
      → answers before.service q due next.service → next.lacked_memory ≡ (before.lacked_memory || lacks)
      → IsHandedOut contents q due p before.log next.log lacks
      → AreLogged answers contents next cs after → AreLogged answers contents before ((q, p) ∷ cs) after
  step q due p cs before next after false a note (nothing_told hands same kept) r =
      let stays : next.log.is_broken ≡ before.log.is_broken = ap (λ (l : Log L). l.is_broken) kept in
      record {
        due = (q, due) ∷ r.due;
        answered = (next.service, a, r.answered);
        lines = r.lines;
        some = r.some;
        handed_out = λ f. subst
            (λ (x : Response). AreHandedOut (after.lacked_memory ≡ true) ((q, due) ∷ r.due) ((q, x) ∷ cs) r.lines r.some)
            (sym same) (not_told hands (r.handed_out (stays ∙ f)));
        withheld = λ b. subst (λ (x : Response). AreWithheld ((q, due) ∷ r.due) ((q, x) ∷ cs)) (sym same)
            (none_told hands (r.withheld (stays ∙ b)));
        appended = subst (λ (l : Log L). Appends (contents l.sink) (contents after.log.sink) (r.lines ++ r.some)) kept
            r.appended;
        all_whole = r.all_whole;
        lost = λ b. r.lost (stays ∙ b);
        noted = λ n. r.noted (first_noted before.lacked_memory false next.lacked_memory note n);
      }
  step q due p cs before next after false a note (told lines hands are (whole was is app) same) r = record {
    due = (q, due) ∷ r.due;
    answered = (next.service, a, r.answered);
    lines = lines ++ r.lines;
    some = r.some;
    handed_out = λ f. subst
        (λ (x : Response). AreHandedOut (after.lacked_memory ≡ true) ((q, due) ∷ r.due) ((q, x) ∷ cs) (lines ++ r.lines) r.some)
        (sym same) (told_first hands are (r.handed_out is));
    withheld = λ b. both before.log.is_broken b was;
    appended = subst (Appends (contents before.log.sink) (contents after.log.sink))
        (sym (append_assoc lines r.lines r.some)) (Appends-trans _ _ _ _ _ app r.appended);
    all_whole = r.all_whole;
    lost = λ b. both before.log.is_broken b was;
    noted = λ n. r.noted (first_noted before.lacked_memory false next.lacked_memory note n);
  }
  step q due p cs before next after false a note (unwritten lines hands are (broken some rest split none is app) sent) r =
      let (nothing, stays) = r.lost is in
      record {
        due = (q, due) ∷ r.due;
        answered = (next.service, a, r.answered);
        lines = [];
        some = some;
        handed_out = λ f. unwritten_first rest hands (subst (λ (t : Text). AreLines q due t) split are) sent (r.withheld is);
        withheld = λ b. withheld_next hands sent (r.withheld is);
        appended = subst (Appends (contents before.log.sink) (contents after.log.sink))
            (ap (λ (t : Text). some ++ t) nothing ∙ append-nil some) (Appends-trans _ _ _ _ _ app r.appended);
        all_whole = λ f. both after.log.is_broken stays f;
        lost = λ b. (none b, stays);
        noted = λ n. r.noted (first_noted before.lacked_memory false next.lacked_memory note n);
      }
  step q due p cs before next after false a note (unread hands why kept sent) r =
      let stays : next.log.is_broken ≡ before.log.is_broken = ap (λ (l : Log L). l.is_broken) kept in
      record {
        due = (q, due) ∷ r.due;
        answered = (next.service, a, r.answered);
        lines = r.lines;
        some = r.some;
        handed_out = λ f. unread_first hands why sent (r.handed_out (stays ∙ f));
        withheld = λ b. withheld_next hands sent (r.withheld (stays ∙ b));
        appended = subst (λ (l : Log L). Appends (contents l.sink) (contents after.log.sink) (r.lines ++ r.some)) kept
            r.appended;
        all_whole = r.all_whole;
        lost = λ b. r.lost (stays ∙ b);
        noted = λ n. r.noted (first_noted before.lacked_memory false next.lacked_memory note n);
      }
  step q due p cs before next after true a note (no_memory hands kept sent) r =
      let stays : next.log.is_broken ≡ before.log.is_broken = ap (λ (l : Log L). l.is_broken) kept in
      let lacks : next.lacked_memory ≡ true = second_noted before.lacked_memory next.lacked_memory note in
      record {
        due = (q, due) ∷ r.due;
        answered = (next.service, a, r.answered);
        lines = r.lines;
        some = r.some;
        handed_out = λ f. no_memory_first hands (r.noted lacks) sent (r.handed_out (stays ∙ f));
        withheld = λ b. withheld_next hands sent (r.withheld (stays ∙ b));
        appended = subst (λ (l : Log L). Appends (contents l.sink) (contents after.log.sink) (r.lines ++ r.some)) kept
            r.appended;
        all_whole = r.all_whole;
        lost = λ b. r.lost (stays ∙ b);
        noted = λ n. r.noted lacks;
      }

  pub all_logged : (calls : List Call) (before after : Logged S L)
      → Chain (λ b q p n. IsLogged answers contents q p b n) before calls after
      → AreLogged answers contents before calls after
  all_logged [] before after same = record {
    due = [];
    answered = ap (λ (s : Logged S L). s.service) same;
    lines = [];
    some = [];
    handed_out = λ f. no_call;
    withheld = λ b. none_left;
    appended = subst (λ (s : Logged S L). Appends (contents before.log.sink) (contents s.log.sink) []) (sym same)
        (Appends-nil (contents before.log.sink));
    all_whole = λ _. refl;
    lost = λ b. (refl, ap (λ (s : Logged S L). s.log.is_broken) same ∙ b);
    noted = λ n. ap (λ (s : Logged S L). s.lacked_memory) same ∙ n;
  }
  all_logged (c ∷ cs) before after (next, one, rest) =
      step c.0 one.due c.1 cs before next after one.lacks_memory one.answered one.noted one.handed_out
      (all_logged cs next after rest)
