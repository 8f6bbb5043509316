-- Each token stands in its text.
use Rattle.std.proofs.Common.{◌≡◌, ℕ, ◌+◌, ◌-◌, ◌≤◌, List, [], ◌∷◌, ◌++◌, length, take, drop, slice_range, refl, sym, ap, ◌∙◌, subst, arith, drop-drop, IsUtf8, IsCharBoundary}
use Rattle.std.specs.List.{All}
use Rattle.std.proofs.lemmas.List.Elements.{All-push}
use Rattle.std.proofs.lemmas.Str.{IsCharBoundary-from_drop}
use Rattle.cedar_text_lexer.specs.declared.tokens.Kind.{Kind}
use Rattle.cedar_text_lexer.specs.declared.tokens.Kind.TheVariants as kind
use Rattle.cedar_text_lexer.specs.declared.tokens.Token.{Token}
use Rattle.cedar_text_lexer.specs.Lexicon.{IsToken}
use Rattle.cedar_text_lexer.specs.Values.{Stands}

-- the text may be cut where the rest begins
cut_here : (text bs : List ℕ) (at : ℕ) → bs ≡ drop at text → at ≤ length text → IsUtf8 bs → IsCharBoundary text at
cut_here text bs at e within u = IsCharBoundary-from_drop text at within (subst (λ (x : List ℕ). IsUtf8 x) e u)

pub rest_more : (text bs : List ℕ) (at n : ℕ) → bs ≡ drop at text → drop n bs ≡ drop (at + n) text
rest_more text bs at n e = ap (λ (x : List ℕ). drop n x) e ∙ drop-drop n at text

pub stand_more : (text bs : List ℕ) (tokens : List Token) (at n : ℕ) (k : Kind) → bs ≡ drop at text → at + length bs ≡ length text → n ≤ length bs → IsUtf8 bs → IsUtf8 (drop n bs) → IsToken k (take n bs) (drop n bs) → All (Stands text) tokens → All (Stands text) (tokens ++ record { kind = k; start = at; end = at + n } ∷ [])
stand_more text bs tokens at n k e long within u v t all =
    let behind = rest_more text bs at n e in
    let wide : at + n - at ≡ n = omega arith in
    let own : slice_range text at (at + n) ≡ take n bs = ap (λ (m : ℕ). take m (drop at text)) wide ∙ ap (take n) (sym e) in
    let stands : Stands text (record { kind = k; start = at; end = at + n }) = record {
      start = cut_here text bs at e (omega arith) u;
      end = cut_here text (drop n bs) (at + n) behind (omega arith) v;
      order = omega arith;
      is = λ _. rw (own, ← behind) t;
    } in
    All-push (Stands text) tokens (record { kind = k; start = at; end = at + n }) all stands

pub stand_all : (text bs : List ℕ) (tokens : List Token) (at : ℕ) → bs ≡ drop at text → at + length bs ≡ length text → IsUtf8 bs → All (Stands text) tokens → All (Stands text) (tokens ++ record { kind = kind.End; start = at; end = at } ∷ [])
stand_all text bs tokens at e long u all =
    let here = cut_here text bs at e (omega arith) u in
    let stands : Stands text (record { kind = kind.End; start = at; end = at }) = record { start = here; end = here; order = omega arith; is = λ no. absurd (no refl) } in
    All-push (Stands text) tokens (record { kind = kind.End; start = at; end = at }) all stands
