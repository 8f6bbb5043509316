-- A token more of a text, or a blank or a comment more.
use Rattle.std.proofs.Common.{◌≡◌, ℕ, ◌+◌, ◌≤◌, List, [], ◌∷◌, ◌++◌, length, take, drop, subst, take-append-drop, length-take-le, append_assoc, arith, tests, ◌==◌, true}
use Rattle.cedar_text_lexer.specs.declared.tokens.Kind.{Kind}
use Rattle.cedar_text_lexer.specs.declared.tokens.Kind.TheVariants as kind
use Rattle.cedar_text_lexer.specs.declared.tokens.Token.{Token}
use Rattle.cedar_text_lexer.specs.Lexicon.{IsToken, IsSkipped}
use Rattle.cedar_text_lexer.specs.Tokens.{IsTokens, end, skips, has}

-- these tokens, and behind them those of the rest, are the tokens of the text
abbrev pub HasSoFar : List ℕ → List Token → ℕ → List ℕ → Type 0
HasSoFar text tokens at rest = (more : List Token) → IsTokens at rest more → IsTokens 0 text (tokens ++ more)

pub skip_more : (text : List ℕ) (tokens : List Token) (at n : ℕ) (bs : List ℕ) → HasSoFar text tokens at bs → n ≤ length bs → IsSkipped (take n bs) (drop n bs) → HasSoFar text tokens (at + n) (drop n bs)
skip_more text tokens at n bs so_far within s more r =
    let long : length (take n bs) ≡ n = length-take-le n bs within in
    let step : IsTokens at (take n bs ++ drop n bs) more = skips s (rw long r) in
    so_far more (subst (λ (x : List ℕ). IsTokens at x more) (take-append-drop n bs) step)

pub token_more : (text : List ℕ) (tokens : List Token) (at n : ℕ) (bs : List ℕ) (k : Kind) → HasSoFar text tokens at bs → n ≤ length bs → IsToken k (take n bs) (drop n bs) → HasSoFar text (tokens ++ record { kind = k; start = at; end = at + n } ∷ []) (at + n) (drop n bs)
token_more text tokens at n bs k so_far within t more r =
    let long : length (take n bs) ≡ n = length-take-le n bs within in
    let step : IsTokens at (take n bs ++ drop n bs) (record { kind = k; start = at; end = at + length (take n bs) } ∷ more) = has t (rw long r) in
    let placed : IsTokens at (take n bs ++ drop n bs) (record { kind = k; start = at; end = at + n } ∷ more) = subst (λ (m : ℕ). IsTokens at (take n bs ++ drop n bs) (record { kind = k; start = at; end = at + m } ∷ more)) long step in
    let all : IsTokens at bs (record { kind = k; start = at; end = at + n } ∷ more) = subst (λ (x : List ℕ). IsTokens at x (record { kind = k; start = at; end = at + n } ∷ more)) (take-append-drop n bs) placed in
    rw append_assoc (so_far (record { kind = k; start = at; end = at + n } ∷ more) all)

-- where nothing is left, all tokens and one of kind `End`
pub all_tokens : (text : List ℕ) (tokens : List Token) (at : ℕ) (bs : List ℕ) → HasSoFar text tokens at bs → (length bs == 0) ≡ true → IsTokens 0 text (tokens ++ record { kind = kind.End; start = at; end = at } ∷ [])
all_tokens text tokens at [] so_far e = so_far (record { kind = kind.End; start = at; end = at } ∷ []) end
all_tokens text tokens at (b ∷ bs) so_far e =
    let none : length (b ∷ bs) ≡ 0 = search (tests, e) in
    absurd (omega arith)
