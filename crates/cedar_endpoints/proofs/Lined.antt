-- Lines, and the answers to them.
use Rattle.std.proofs.Common.{◌≡◌, ◌∙◌, inl, inr, ap, arith, Bool, true, false, ℕ, ◌+◌, ◌<◌, List, [], ◌∷◌, ◌++◌, length, Option, None, Some, IfSome, subst, Result, Ok, Err, OnOk, OnErr}
use Rattle.std.specs.Prelude.{◌≢◌}
use Rattle.std.specs.Io.{StopsAt, appended_bytes}
use Rattle.std.specs.Io.BufRead.{take_through}
use Rattle.std.specs.Io.KnownBytes.{Appends, Consumes, Keeps}
use Rattle.cedar_endpoints.specs.Asked.{Text}
use Rattle.cedar_writes.specs.Parts.{AppendsPart}
use Rattle.cedar_endpoints.specs.Lines.{Known, TakesLine, AreLinesAnswered, one_more, AreAllAnswered, IsLineStep, IsLineAnswer, WritesAnswer}
use Rattle.cedar_endpoints.specs.Lines.{AreSomeAnswered, IsCutShort, nothing_more, first_part, WritesPart}
use Rattle.cedar_endpoints.specs.Several.{Decides}

-- what stays as it was grows by as much
pub kept_appends : (a b c : Option (List ℕ)) (bs : List ℕ) → Keeps a b → Appends b c bs → Appends a c bs
kept_appends None b c bs p q = tt
kept_appends (Some x) None c bs p q = absurd p
kept_appends (Some x) (Some y) None bs p q = absurd q
kept_appends (Some x) (Some y) (Some z) bs p q = q ∙ ap (λ l. l ++ bs) p

pub kept_kept : (a b c : Option (List ℕ)) → Keeps a b → Keeps b c → Keeps a c
kept_kept None b c p q = tt
kept_kept (Some x) None c p q = absurd p
kept_kept (Some x) (Some y) None p q = absurd q
kept_kept (Some x) (Some y) (Some z) p q = q ∙ p

-- what was read into an empty buffer is a line
pub takes_line : (r s : Known) (old line : Text) (n : ℕ) → old ≡ [] → length line ≡ length old + n → n ≢ 0
    → StopsAt (appended_bytes old line) 10 → Consumes r s (appended_bytes old line)
    → IfSome r (λ xs. line ≡ old ++ take_through 10 xs) → TakesLine r s line
takes_line r s [] line n empty more some stops consumed whole = record {
  some = omega arith;
  stops = stops;
  consumed = consumed;
  whole = whole;
}
takes_line r s (x ∷ xs) line n empty more some stops consumed whole = absurd (cc)

-- a line is taken, and its answer written
pub line_step : (authorizes : Decides Text) (r w u s v : Known) (line : Text) → TakesLine r s line → Keeps w u
    → WritesAnswer authorizes line u v → IsLineStep authorizes r w true s v
line_step authorizes r w u s v line takes kept (answer, is, appends) =
    (line, answer, takes, is, kept_appends w u v answer kept appends)

-- the lines so far are answered, from this reader and this writer on
abbrev pub Answered : Decides Text → Known → Known → Known → Known → Type 0
Answered authorizes r0 w0 r w = (lines : List Text) × (answers : List Text) × AreLinesAnswered authorizes r0 w0 lines answers r w

pub with_line : (authorizes : Decides Text) (r0 w0 r w s v : Known) (more : Bool) → more ≡ true
    → IsLineStep authorizes r w more s v → Answered authorizes r0 w0 r w → Answered authorizes r0 w0 s v
with_line authorizes r0 w0 r w s v true is (line, answer, takes, told, appends) (lines, answers, all) =
    (lines ++ line ∷ [], answers ++ answer ∷ [], one_more all takes told appends)
with_line authorizes r0 w0 r w s v false is h all = absurd (cc)

pub at_the_end : {A E : Type 0} (authorizes : Decides Text) (r0 w0 r w s v last : Known) (more : Bool) (o : Result A E)
    → more ≡ false → IsLineStep authorizes r w more s v → Keeps v last → Answered authorizes r0 w0 r w
    → OnOk o (AreAllAnswered authorizes r0 w0 last)
at_the_end authorizes r0 w0 r w s v last true o is h kept all = absurd (cc)
at_the_end authorizes r0 w0 r w s v last false (Ok a) is (end, same) kept (lines, answers, all) = record {
  lines = lines;
  answers = answers;
  at_end = r;
  held = w;
  answered = all;
  is_end = end;
  kept = kept_kept w v last same kept;
}
at_the_end authorizes r0 w0 r w s v last false (Err e) is h kept all = tt

pub some_answered : (authorizes : Decides Text) (r0 w0 r w last : Known) → Answered authorizes r0 w0 r w
    → IsCutShort authorizes r w last → AreSomeAnswered authorizes r0 w0 last
some_answered authorizes r0 w0 r w last (lines, answers, all) cut = record {
  lines = lines;
  answers = answers;
  left = r;
  held = w;
  answered = all;
  cut = cut;
}

-- the same where there was no line more
pub some_at_the_end : {A E : Type 0} (authorizes : Decides Text) (r0 w0 r w s v last : Known) (more : Bool) (o : Result A E)
    → more ≡ false → IsLineStep authorizes r w more s v → Keeps v last → Answered authorizes r0 w0 r w
    → OnErr o (AreSomeAnswered authorizes r0 w0 last)
some_at_the_end authorizes r0 w0 r w s v last true o is h kept all = absurd (cc)
some_at_the_end authorizes r0 w0 r w s v last false (Ok a) is h kept all = tt
some_at_the_end authorizes r0 w0 r w s v last false (Err e) is (end, same) kept all =
    some_answered authorizes r0 w0 r w last all (nothing_more (kept_kept w v last same kept))

kept_part : (w u v : Known) (answer : Text) → Keeps w u → AppendsPart u v answer → AppendsPart w v answer
kept_part w u v answer kept part = record {
  some = part.some;
  rest = part.rest;
  split = part.split;
  appended = kept_appends w u v part.some kept part.appended;
}

-- nothing more is written
pub kept_cut : (authorizes : Decides Text) (r w v : Known) → Keeps w v → IsCutShort authorizes r w v
kept_cut authorizes r w v kept = nothing_more kept

-- a line is taken, and nothing of its answer is written, or a first part
pub cut_short : (authorizes : Decides Text) (r w u s v : Known) (line : Text) → TakesLine r s line → Keeps w u
    → WritesPart authorizes line u v → IsCutShort authorizes r w v
cut_short authorizes r w u s v line takes kept (inl same) = nothing_more (kept_kept w u v kept same)
cut_short authorizes r w u s v line takes kept (inr (answer, is, part)) =
    first_part takes is (kept_part w u v answer kept part)

-- the answer is written, if it is these bytes
pub writes_answer : {A E : Type 0} (authorizes : Decides Text) (line answer bytes : Text) (w v : Known) (o : Result A E)
    → bytes ≡ answer → IsLineAnswer authorizes line answer → OnOk o (Appends w v bytes)
    → OnOk o (WritesAnswer authorizes line w v)
writes_answer authorizes line answer bytes w v (Ok a) same is appends =
    (answer, is, subst (λ (b : Text). Appends w v b) same appends)
writes_answer authorizes line answer bytes w v (Err e) same is appends = appends

-- or a first part of it
pub writes_part : {A E : Type 0} (authorizes : Decides Text) (line answer bytes : Text) (w v : Known) (o : Result A E)
    → bytes ≡ answer → IsLineAnswer authorizes line answer → AppendsPart w v bytes
    → OnErr o (WritesPart authorizes line w v)
writes_part authorizes line answer bytes w v (Ok a) same is part = tt
writes_part authorizes line answer bytes w v (Err e) same is part =
    inr (answer, is, subst (λ (b : Text). AppendsPart w v b) same part)
