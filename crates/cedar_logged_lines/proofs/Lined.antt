-- Lines, the answers to them, and what is told of them.
use Rattle.std.proofs.Common.{◌≡◌, refl, ◌∙◌, sym, inl, inr, ap, arith, Bool, true, false, ℕ, ◌+◌, ◌<◌, List, [], ◌∷◌, ◌++◌, length, Option, None, Some, IfSome, subst, Result, Ok, Err, IfOk, OnOk, OnErr, string_bytes}
use Rattle.std.specs.Prelude.{◌≢◌}
use Rattle.cedar_writes.specs.Parts.{AppendsPart}
use Rattle.std.specs.Io.{StopsAt, appended_bytes}
use Rattle.std.specs.Io.BufRead.{take_through}
use Rattle.std.specs.Io.KnownBytes.{Appends, Consumes, Keeps}
use Rattle.cedar_endpoints.specs.Asked.{Text}
use Rattle.cedar_endpoints.specs.Lines.{Known, TakesLine}
use Rattle.cedar_endpoints.specs.Several.{Decides}
use Rattle.cedar_log.specs.Logs.{IsAppended, whole, broken}
use Rattle.cedar_log.specs.declared.logs.Log.{Log}
use Rattle.cedar_logged_lines.specs.Lines.{IsAnswerTo, AreLinesLogged, one_more, AreAllLogged, IsLoggedStep, WritesAnswer}
use Rattle.cedar_logged_lines.specs.Lines.{IsHandedInPart, told_in_part, answered_in_part, IsCutShort, nothing_more}
use Rattle.cedar_logged_lines.specs.Lines.{handed_in_part, AreSomeLogged, WritesPart}

-- what stays as it was grows by as much
pub kept_appends : (a b c : Option (List ℕ)) (bs : List ℕ) → Keeps a b → Appends b c bs → Appends a c bs
kept_appends None b c bs p q = tt
kept_appends (Some x) None c bs p q = absurd p
kept_appends (Some x) (Some y) None bs p q = absurd q
kept_appends (Some x) (Some y) (Some z) bs p q = q ∙ ap (λ l. l ++ bs) p

pub kept_kept : (a b c : Option (List ℕ)) → Keeps a b → Keeps b c → Keeps a c
kept_kept None b c p q = tt
kept_kept (Some x) None c p q = absurd p
kept_kept (Some x) (Some y) None p q = absurd q
kept_kept (Some x) (Some y) (Some z) p q = q ∙ p

-- what was read into an empty buffer is a line
pub takes_line : (r s : Known) (old line : Text) (n : ℕ) → old ≡ [] → length line ≡ length old + n → n ≢ 0
    → StopsAt (appended_bytes old line) 10 → Consumes r s (appended_bytes old line)
    → IfSome r (λ xs. line ≡ old ++ take_through 10 xs) → TakesLine r s line
takes_line r s [] line n empty more some stops consumed all = record {
  some = omega arith;
  stops = stops;
  consumed = consumed;
  whole = all;
}
takes_line r s (x ∷ xs) line n empty more some stops consumed all = absurd (cc)

-- a line is taken, told and answered
pub line_step : (authorizes : Decides Text) (version : Text) (r w u k s v m : Known) (line : Text) → TakesLine r s line
    → Keeps w u → WritesAnswer authorizes version line k m u v → IsLoggedStep authorizes version r w k true s v m
line_step authorizes version r w u k s v m line takes kept (answer, told, is, tells, appends) =
    (line, answer, told, takes, is, tells, kept_appends w u v answer kept appends)

-- the lines so far are answered, from this reader, this writer and this log on
abbrev pub Logged : Decides Text → Text → Known → Known → Known → Known → Known → Known → Type 0
Logged authorizes version r0 w0 k0 r w k =
    (lines : List Text) × (answers : List Text) × (told : Text)
    × AreLinesLogged authorizes version r0 w0 k0 lines answers told r w k

pub with_line : (authorizes : Decides Text) (version : Text) (r0 w0 k0 r w k s v m : Known) (more : Bool) → more ≡ true
    → IsLoggedStep authorizes version r w k more s v m → Logged authorizes version r0 w0 k0 r w k
    → Logged authorizes version r0 w0 k0 s v m
with_line authorizes version r0 w0 k0 r w k s v m true is (line, answer, next, takes, due, tells, appends) (lines, answers, told, all) =
    (lines ++ line ∷ [], answers ++ answer ∷ [], told ++ next, one_more all takes due tells appends)
with_line authorizes version r0 w0 k0 r w k s v m false is h all = absurd (cc)

pub at_the_end : {A E : Type 0} (authorizes : Decides Text) (version : Text) (r0 w0 k0 r w k s v m last : Known)
    (more : Bool) (o : Result A E) → more ≡ false → IsLoggedStep authorizes version r w k more s v m → Keeps v last
    → Logged authorizes version r0 w0 k0 r w k → OnOk o (AreAllLogged authorizes version r0 w0 last k0 m)
at_the_end authorizes version r0 w0 k0 r w k s v m last true o is h kept all = absurd (cc)
at_the_end authorizes version r0 w0 k0 r w k s v m last false (Ok a) is (end, same, log_same) kept (lines, answers, told, all) =
    record {
      lines = lines;
      answers = answers;
      told = told;
      at_end = r;
      held = w;
      logged = subst (λ (l : Known). AreLinesLogged authorizes version r0 w0 k0 lines answers told r w l) (sym log_same) all;
      is_end = end;
      kept = kept_kept w v last same kept;
    }
at_the_end authorizes version r0 w0 k0 r w k s v m last false (Err e) is h kept all = tt

pub some_logged : (authorizes : Decides Text) (version : Text) (r0 w0 k0 r w k last log_last : Known)
    → Logged authorizes version r0 w0 k0 r w k → IsCutShort authorizes version r w last k log_last
    → AreSomeLogged authorizes version r0 w0 last k0 log_last
some_logged authorizes version r0 w0 k0 r w k last log_last (lines, answers, told, all) cut = record {
  lines = lines;
  answers = answers;
  told = told;
  left = r;
  held = w;
  kept = k;
  logged = all;
  cut = cut;
}

-- the same where there was no line more
pub some_at_the_end : {A E : Type 0} (authorizes : Decides Text) (version : Text) (r0 w0 k0 r w k s v m last : Known)
    (more : Bool) (o : Result A E) → more ≡ false → IsLoggedStep authorizes version r w k more s v m → Keeps v last
    → Logged authorizes version r0 w0 k0 r w k → OnErr o (AreSomeLogged authorizes version r0 w0 last k0 m)
some_at_the_end authorizes version r0 w0 k0 r w k s v m last true o is h kept all = absurd (cc)
some_at_the_end authorizes version r0 w0 k0 r w k s v m last false (Ok a) is h kept all = tt
some_at_the_end authorizes version r0 w0 k0 r w k s v m last false (Err e) is (end, same, log_same) kept all =
    some_logged authorizes version r0 w0 k0 r w k last m all (nothing_more (kept_kept w v last same kept) log_same)

kept_part : (w u v : Known) (answer : Text) → Keeps w u → AppendsPart u v answer → AppendsPart w v answer
kept_part w u v answer kept part = record {
  some = part.some;
  rest = part.rest;
  split = part.split;
  appended = kept_appends w u v part.some kept part.appended;
}

kept_in_part : (told answer : Text) (k m w u v : Known) → Keeps w u → IsHandedInPart told answer k m u v
    → IsHandedInPart told answer k m w v
kept_in_part told answer k m w u v kept (told_in_part part same) = told_in_part part (kept_kept w u v kept same)
kept_in_part told answer k m w u v kept (answered_in_part tells part) = answered_in_part tells (kept_part w u v answer kept part)

-- nothing is told and nothing more is written
pub kept_cut : (authorizes : Decides Text) (version : Text) (r w v k : Known) → Keeps w v
    → IsCutShort authorizes version r w v k k
kept_cut authorizes version r w v k kept = nothing_more kept refl

-- a line is taken, and nothing is told of it and written, or a part
pub cut_short : (authorizes : Decides Text) (version : Text) (r w u s v k m : Known) (line : Text) → TakesLine r s line
    → Keeps w u → WritesPart authorizes version line k m u v → IsCutShort authorizes version r w v k m
cut_short authorizes version r w u s v k m line takes kept (inl (same, log_same)) =
    nothing_more (kept_kept w u v kept same) log_same
cut_short authorizes version r w u s v k m line takes kept (inr (answer, told, is, part)) =
    handed_in_part takes is (kept_in_part told answer k m w u v kept part)

-- it is told and written in part, if it is
pub writes_part : {A E : Type 0} (authorizes : Decides Text) (version line answer told : Text) (k m w v : Known)
    (o : Result A E) → IsAnswerTo authorizes version line answer told → OnErr o (IsHandedInPart told answer k m w v)
    → OnErr o (WritesPart authorizes version line k m w v)
writes_part authorizes version line answer told k m w v (Ok a) is part = tt
writes_part authorizes version line answer told k m w v (Err e) is part = inr (answer, told, is, part)

-- what is told is appended, and the answer written, if it is
pub writes_answer : {A E : Type 0} (authorizes : Decides Text) (version line answer told : Text) (k m w v : Known)
    (o : Result A E) → IsAnswerTo authorizes version line answer told → OnOk o (Appends k m told)
    → OnOk o (Appends w v answer) → OnOk o (WritesAnswer authorizes version line k m w v)
writes_answer authorizes version line answer told k m w v (Ok a) is tells appends =
    (answer, told, is, tells, appends)
writes_answer authorizes version line answer told k m w v (Err e) is tells appends = tt

-- a text that is appended whole
pub told_whole : {L : Type 0} (contents : L → Known) (text told : Text) (before after : Log L) (b : Bool) → b ≡ true
    → text ≡ told → IsAppended contents text before after b
    → Appends (contents before.sink) (contents after.sink) told
told_whole contents text told before after true is same (whole was now app) =
    subst (λ (t : Text). Appends (contents before.sink) (contents after.sink) t) same app
told_whole contents text told before after false is same h = absurd (cc)

-- or not
pub told_part : {L : Type 0} (contents : L → Known) (text told : Text) (before after : Log L) (b : Bool) → b ≡ false
    → text ≡ told → IsAppended contents text before after b
    → AppendsPart (contents before.sink) (contents after.sink) told
told_part contents text told before after true is same h = absurd (cc)
told_part contents text told before after false is same (broken some rest split none now app) =
    record { some = some; rest = rest; split = sym same ∙ split; appended = app }

-- and then at most a first part of the answer is written
pub answered_part : {A E : Type 0} (k m w v : Known) (told answer bytes : Text) (o : Result A E) → bytes ≡ answer
    → Appends k m told → AppendsPart w v bytes → OnErr o (IsHandedInPart told answer k m w v)
answered_part k m w v told answer bytes (Ok a) same tells part = tt
answered_part k m w v told answer bytes (Err e) same tells part =
    answered_in_part tells (subst (λ (t : Text). AppendsPart w v t) same part)

pub of_ok : {A E : Type 0} (P Q : A → Type 0) → ((a : A) → P a → Q a) → (r : Result A E) → IfOk r P → IfOk r Q
of_ok P Q f (Ok a) h = f a h
of_ok P Q f (Err e) h = tt

pub on_any : {A E : Type 0} (P : Type 0) (o : Result A E) → P → OnOk o P
on_any P (Ok a) p = p
on_any P (Err e) p = tt

pub on_same : {A E : Type 0} (k m : Known) (bytes text : Text) (o : Result A E) → bytes ≡ text → OnOk o (Appends k m bytes)
    → OnOk o (Appends k m text)
on_same k m bytes text (Ok a) same h = subst (λ (t : Text). Appends k m t) same h
on_same k m bytes text (Err e) same h = tt
