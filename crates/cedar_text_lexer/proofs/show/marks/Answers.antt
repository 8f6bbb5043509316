use Rattle.std.proofs.Common.{◌≡◌, ℕ, ◌<◌, Bool, true, false, if◌then◌else◌, List, [], ◌∷◌, ◌++◌, refl, arith, encode_utf8, IsUtf8, append-nil, append_assoc, nat_eq}
use Rattle.std.proofs.lemmas.List.{nil_from_length}
use Rattle.std.proofs.lemmas.Str.{chars-nil, chars_past_char, IsUtf8-past_char}
use Rattle.cedar_text_lexer.specs.Positions.{mark_for, marks_under}
use Rattle.cedar_text_lexer.proofs.show.marks.Goals as goal

no_marks : (mark : ℕ) → marks_under mark [] ≡ []
unfolding marks_under
no_marks mark = rw chars-nil refl

one_more : (mark c : ℕ) (text rest : List ℕ) → IsUtf8 text → text ≡ encode_utf8 c ++ rest
    → marks_under mark text ≡ mark_for mark c ∷ marks_under mark rest
unfolding marks_under
one_more mark c text rest u is = rw (chars_past_char text rest c u is) refl

low : (mark c : ℕ) → mark < 128 → mark_for mark c < 128
low mark c h = at (nat_eq c 9)
  where
    at : (b : Bool) → (if b then 9 else mark) < 128
    at true = omega arith
    at false = h

pushed : (old new total text rest : List ℕ) (mark c k : ℕ) → mark < 128 → IsUtf8 text → text ≡ encode_utf8 c ++ rest
    → k ≡ mark_for mark c → new ≡ old ++ encode_utf8 k → (k < 128 → encode_utf8 k ≡ k ∷ [])
    → old ++ marks_under mark text ≡ total → new ++ marks_under mark rest ≡ total
pushed old new total text rest mark c k h u split is grown ascii whole =
    let small : k < 128 = rw is (low mark c h) in
    let one = ascii small in
    let more = one_more mark c text rest u split in
    rw (grown, one, is, append_assoc) (rw more at whole)

pub characters-preserved : goal.characters-preserved
characters-preserved c =
    let step = c.in-Some.ensures.steps.0 in
    let i = c.characters.invariant in
    let p = c.in_ok-push.ensures in
    record {
      text = IsUtf8-past_char _ _ _ i.text step;
      whole = pushed _ _ _ _ _ _ _ _ c.requires i.text step c.mark_for.ensures p.bytes p.ascii i.whole;
    }

pub returns : goal.returns
returns c =
    let end = nil_from_length _ c.in-None.ensures.steps.0.0 in
    rw (end, no_marks, append-nil) at c.characters.invariant.whole
