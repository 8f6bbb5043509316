-- The tokens among the pieces are those that the lexer reads.
use Rattle.std.proofs.Common.{◌≡◌, ℕ, ◌+◌, ◌-◌, List, [], ◌∷◌, ◌++◌, length, take, drop, slice_range, encode_utf8, refl, sym, ap, ◌∙◌, arith, append_assoc, length-append, take_at, drop_at}
use Rattle.cedar_text_lexer.specs.declared.tokens.Kind.{Kind}
use Rattle.cedar_text_lexer.specs.declared.tokens.Kind.TheVariants as kind
use Rattle.cedar_text_lexer.specs.declared.tokens.Token.{Token}
use Rattle.cedar_text_lexer.specs.Lexicon as Lexicon
use Rattle.cedar_text_lexer.specs.Tokens.{IsTokens, placed}
use Rattle.cedar_text_lexer.specs.Tokens as Tokens
use Rattle.cedar_text_lexer.proofs.Unique.{unique}
use Rattle.cedar_text_formatter.specs.Formatted.{IsFormatted, read_of}
use Rattle.cedar_text_formatter.specs.Pieces.{Piece, IsPieces}
use Rattle.cedar_text_formatter.specs.Pieces as Pieces

-- the tokens among the pieces, and the end
abbrev words_of : List Piece → List (Kind × List ℕ)
words_of [] = (kind.End, []) ∷ []
words_of (Pieces.comment w ∷ ps) = words_of ps
words_of (Pieces.token k w ∷ ps) = (k, w) ∷ words_of ps

-- the tokens of these bytes, before which the first ones of the text stand, are these words
record Lexed (before bs : List ℕ) (ps : List Piece) : Type 0 where
  tokens : List Token
  is : IsTokens (length before) bs tokens
  words : read_of (before ++ bs) tokens ≡ words_of ps

-- the bytes between two others, by their place
between : (before w after : List ℕ) (n : ℕ) → n ≡ length before + length w → slice_range (before ++ (w ++ after)) (length before) n ≡ w
between before w after n e =
    let wide : n - length before ≡ length w = omega (arith, e) in
    ap (λ (m : ℕ). take m (drop (length before) (before ++ (w ++ after)))) wide ∙ (ap (take (length w)) (drop_at before (w ++ after) (length before) refl) ∙ take_at w after (length w) refl)

-- behind the bytes that are skipped, or are a token
moved : (before w after : List ℕ) (ts : List Token) → IsTokens (length (before ++ w)) after ts → IsTokens (length before + length w) after ts
moved before w after ts t = rw (← length-append before w) t

skipped : (before w after : List ℕ) (ps : List Piece) → Lexicon.IsSkipped w after → Lexed (before ++ w) after ps → Lexed before (w ++ after) ps
skipped before w after ps s l = record {
  tokens = l.tokens;
  is = Tokens.skips s (moved before w after l.tokens l.is);
  words = ap (λ (x : List ℕ). read_of x l.tokens) (sym (append_assoc before w after)) ∙ l.words;
}

read : (before w after : List ℕ) (k : Kind) (ps : List Piece) → Lexicon.IsToken k w after → Lexed (before ++ w) after ps → Lexed before (w ++ after) (Pieces.token k w ∷ ps)
read before w after k ps t l =
    let behind : read_of (before ++ (w ++ after)) l.tokens ≡ words_of ps = ap (λ (x : List ℕ). read_of x l.tokens) (sym (append_assoc before w after)) ∙ l.words in
    let word : slice_range (before ++ (w ++ after)) (length before) (length before + length w) ≡ w = between before w after (length before + length w) refl in
    record {
      tokens = placed k (length before) w ∷ l.tokens;
      is = Tokens.has t (moved before w after l.tokens l.is);
      words = ap (λ (x : List ℕ). (k, x) ∷ read_of (before ++ (w ++ after)) l.tokens) word ∙ ap (λ (x : List (Kind × List ℕ)). (k, w) ∷ x) behind;
    }

ended : (before : List ℕ) → Lexed before [] []
ended before =
    let none : slice_range (before ++ []) (length before) (length before) ≡ [] = between before [] [] (length before) (omega arith) in
    record {
      tokens = record { kind = kind.End; start = length before; end = length before } ∷ [];
      is = Tokens.end;
      words = ap (λ (x : List ℕ). (kind.End, x) ∷ []) none;
    }

lexed : {bs : List ℕ} {ps : List Piece} (before : List ℕ) → IsPieces bs ps → Lexed before bs ps
lexed before Pieces.end = ended before
lexed before (Pieces.skips c {after} {pieces} x p) = skipped before (encode_utf8 c) after pieces (Lexicon.blank c x) (lexed (before ++ encode_utf8 c) p)
lexed before (Pieces.notes {bs} {after} {pieces} all stops p) = comment_lexed (skipped before (47 ∷ 47 ∷ bs) after pieces (Lexicon.comment all stops) (lexed (before ++ (47 ∷ 47 ∷ bs)) p))
  where
    comment_lexed : Lexed before (47 ∷ 47 ∷ (bs ++ after)) pieces → Lexed before (47 ∷ 47 ∷ (bs ++ after)) (Pieces.comment (47 ∷ 47 ∷ bs) ∷ pieces)
    comment_lexed l = record { tokens = l.tokens; is = l.is; words = l.words }
lexed before (Pieces.has {k} {word} {after} {pieces} r t p) = read before word after k pieces t (lexed (before ++ word) p)

-- what the lexer reads of bytes with these pieces
words : {bs : List ℕ} {ps : List Piece} {ts : List Token} → IsPieces bs ps → IsTokens 0 bs ts → read_of bs ts ≡ words_of ps
words {bs} {ps} {ts} p t =
    let l = lexed [] p in
    ap (read_of bs) (unique t l.tokens l.is) ∙ l.words

pub kept : (text formatted : List ℕ) (a b : List Token) → IsFormatted text formatted → IsTokens 0 text a → IsTokens 0 formatted b → read_of text a ≡ read_of formatted b
kept text formatted a b f t u = words f.were t ∙ sym (words f.are u)
