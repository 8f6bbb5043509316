-- A piece more is laid out.
use Rattle.std.proofs.Common.{◌≡◌, ℕ, ◌≤◌, ◌+◌, ◌-◌, Bool, cond, true, false, List, [], ◌∷◌, ◌++◌, length, take, drop, slice_range, refl, sym, ap, ◌∙◌, subst, arith, tests, ◌==◌, append_assoc, take-append-drop}
use Rattle.cedar_text_formatter.specs.declared.fronts.Front.{Front}
use Rattle.cedar_text_formatter.specs.declared.fronts.Front.TheVariants as front
use Rattle.cedar_text_formatter.specs.declared.layout.State.{State}
use Rattle.cedar_text_formatter.specs.Formatted.{IsFormatted}
use Rattle.cedar_text_formatter.specs.Fronts.{IsFront}
use Rattle.cedar_text_formatter.specs.Layout.{layout, layout_from, start, written, behind, ending, comment_gap, token_gap, behind_comment, behind_token}
use Rattle.cedar_text_formatter.specs.Pieces.{Piece, IsPieces}
use Rattle.cedar_text_formatter.specs.Pieces as Pieces
use Rattle.cedar_text_formatter.specs.Roles as Roles
use Rattle.cedar_text_formatter.proofs.Determined.{with_front, front_first}
use Rattle.cedar_text_formatter.proofs.Kept.{laid_out}

-- these bytes are the layout of the text's pieces
pub record IsLayout (text out : List ℕ) : Type 0 where
  pub pieces : List Piece
  pub were : IsPieces text pieces
  pub laid_out : out ≡ layout pieces

-- what is written, and behind it the layout of the rest's pieces
abbrev pub SoFar : List ℕ → List ℕ → State → List ℕ → Type 0
SoFar text out s rest = (more : List Piece) → IsPieces rest more → IsLayout text (out ++ layout_from s more)

pub nothing_yet : (text : List ℕ) → SoFar text [] start text
nothing_yet text more p = record { pieces = more; were = p; laid_out = refl }

with_front_laid_out : (s : State) (f : Front) (w : List ℕ) (ps : List Piece) → layout_from s (with_front f w ps) ≡ written s f w ++ layout_from (behind s f w) ps
unfolding layout_from
with_front_laid_out s front.Blank w ps = refl
with_front_laid_out s front.Comment w ps = sym (append_assoc (comment_gap s) w (layout_from (behind_comment s) ps))
with_front_laid_out s (front.Token k) w ps = sym (append_assoc (token_gap s k w) w (layout_from (behind_token s k w) ps))

pub one_more : (text out rest : List ℕ) (s : State) (f : Front) (n : ℕ) → SoFar text out s rest → IsFront f (take n rest) (drop n rest) → SoFar text (out ++ written s f (take n rest)) (behind s f (take n rest)) (drop n rest)
one_more text out rest s f n so_far h more p =
    let first = front_first f (take n rest) (drop n rest) more h p in
    let whole = so_far (with_front f (take n rest) more) (subst (λ (x : List ℕ). IsPieces x (with_front f (take n rest) more)) (take-append-drop n rest) first) in
    let split : out ++ layout_from s (with_front f (take n rest) more) ≡ (out ++ written s f (take n rest)) ++ layout_from (behind s f (take n rest)) more = ap (λ (x : List ℕ). out ++ x) (with_front_laid_out s f (take n rest) more) ∙ sym (append_assoc out (written s f (take n rest)) (layout_from (behind s f (take n rest)) more)) in
    subst (λ (x : List ℕ). IsLayout text x) split whole

formatted : (text out : List ℕ) → IsLayout text out → IsFormatted text out
formatted text out l = record {
  pieces = l.pieces;
  were = l.were;
  are = subst (λ (x : List ℕ). IsPieces x l.pieces) (sym l.laid_out) (laid_out start l.were);
  laid_out = l.laid_out;
}

ended : (text out : List ℕ) (s : State) → SoFar text out s [] → IsLayout text (out ++ ending s)
unfolding layout_from
ended text out s so_far = so_far [] Pieces.end

-- where nothing is left
pub all_laid_out : (text out rest : List ℕ) (s : State) → SoFar text out s rest → (length rest == 0) ≡ true → IsFormatted text (out ++ ending s)
all_laid_out text out [] s so_far e = formatted text (out ++ ending s) (ended text out s so_far)
all_laid_out text out (b ∷ bs) s so_far e =
    let none : length (b ∷ bs) ≡ 0 = search (tests, e) in
    absurd (omega arith)

-- no more than one bracket is open for each byte
pub depth_more : (s : State) (f : Front) (w : List ℕ) → (behind s f w).depth ≤ s.depth + 1
depth_more s front.Blank w = omega arith
depth_more s front.Comment w = omega arith
depth_more s (front.Token k) w = at (Roles.opens k) (Roles.closes k)
  where
    at : (p q : Bool) → cond p (s.depth + 1) (cond q (s.depth - 1) s.depth) ≤ s.depth + 1
    at true q = omega arith
    at false true = omega arith
    at false false = omega arith

-- the first bytes, as a range of them
pub front_range : (n : ℕ) (bs : List ℕ) → slice_range bs 0 n ≡ take n bs
front_range n bs = let e : n - 0 ≡ n = omega arith in ap (λ (m : ℕ). take m bs) e
