-- The tokens of a text stand in order.
use Rattle.std.proofs.Common.{ℕ, ◌<◌, ◌≤◌, List, length, arith, suc, zero}
use Rattle.cedar_text_lexer.specs.declared.tokens.Token.{Token}
use Rattle.cedar_text_lexer.specs.Tokens.{IsTokens, end, skips, has}
use Rattle.cedar_text_lexer.specs.Sequence.{token_at, start_at, end_at}
use Rattle.cedar_text_syntax.specs.Places.{IsInOrder}

-- no token starts before the bytes do
starts : {at : ℕ} {bytes : List ℕ} {all : List Token} → IsTokens at bytes all → (i : ℕ) → i < length all →
    at ≤ start_at all i
unfolding token_at
starts end zero lt = omega arith
starts end (suc i) lt = absurd (omega (arith, lt))
starts (skips s h) i lt = omega (arith, starts h i lt)
starts (has k h) zero lt = omega arith
starts (has k h) (suc i) lt = omega (arith, starts h i (omega (arith, lt)))

forwards : {at : ℕ} {bytes : List ℕ} {all : List Token} → IsTokens at bytes all → (i : ℕ) → i < length all →
    start_at all i ≤ end_at all i
unfolding token_at
forwards end zero lt = omega arith
forwards end (suc i) lt = absurd (omega (arith, lt))
forwards (skips s h) i lt = forwards h i lt
forwards (has k h) zero lt = omega arith
forwards (has k h) (suc i) lt = forwards h i (omega (arith, lt))

aparts : {at : ℕ} {bytes : List ℕ} {all : List Token} → IsTokens at bytes all → (i j : ℕ) → i < j → j < length all →
    end_at all i ≤ start_at all j
unfolding token_at
aparts end i zero lt below = absurd (omega (arith, lt))
aparts end i (suc j) lt below = absurd (omega (arith, below))
aparts (skips s h) i j lt below = aparts h i j lt below
aparts (has k h) i zero lt below = absurd (omega (arith, lt))
aparts (has k h) zero (suc j) lt below = starts h j (omega (arith, below))
aparts (has k h) (suc i) (suc j) lt below = aparts h i j (omega (arith, lt)) (omega (arith, below))

pub in_order : {at : ℕ} {bytes : List ℕ} {all : List Token} → IsTokens at bytes all → IsInOrder all
in_order h = record { forward = forwards h; apart = aparts h }
