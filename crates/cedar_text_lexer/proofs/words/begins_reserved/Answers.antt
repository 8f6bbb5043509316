use Rattle.std.proofs.Common.{◌≡◌, ℕ, ◌+◌, ◌<◌, List, [], ◌∷◌, length, take, refl, ap, sym, ◌∙◌, arith, true, IsUtf8}
use Rattle.std.specs.List.{All, list_all, prefix_len}
use Rattle.std.proofs.lemmas.Bool.{and_parts}
use Rattle.std.proofs.lemmas.List.{length-take-le}
use Rattle.std.proofs.lemmas.List.Elements.{All-nil, All-cons}
use Rattle.std.proofs.lemmas.List.Sums.{prefix_len-le-length}
use Rattle.std.proofs.lemmas.Str.{IsUtf8-from_ascii}
use Rattle.std.proofs.lemmas.Str.Ascii.{IsAscii-from_all}
use Rattle.cedar_text_lexer.specs.Kinds.{is_reserved}
use Rattle.cedar_text_lexer.specs.Words.{is_word_byte, word_kind, begins_reserved}
use Rattle.cedar_text_lexer.proofs.Fronts.{word_low}
use Rattle.cedar_text_lexer.proofs.Runs.{taken}
use Rattle.cedar_text_lexer.proofs.words.begins_reserved.Goals as goal

low : (bs : List ℕ) → list_all is_word_byte bs ≡ true → All (λ b. b < 128) bs
low [] h = All-nil (λ b. b < 128)
low (b ∷ bs) h =
    let p = and_parts (is_word_byte b) (list_all is_word_byte bs) h in
    All-cons (λ b. b < 128) b bs (word_low b p.0) (low bs p.1)

-- the bytes with which a word goes on are text
front_is_text : (bs : List ℕ) (n : ℕ) → n ≡ 0 + prefix_len is_word_byte bs → IsUtf8 (take n bs)
front_is_text bs n e =
    let long : n ≡ prefix_len is_word_byte bs = omega arith in
    rw long (IsUtf8-from_ascii _ (IsAscii-from_all _ (low _ (taken is_word_byte bs))))

front_long : (bs : List ℕ) (n : ℕ) → n ≡ 0 + prefix_len is_word_byte bs → n ≡ length (take n bs)
front_long bs n e =
    let within = prefix_len-le-length is_word_byte bs in
    sym (length-take-le n bs (omega arith))

reserved : (bs word : List ℕ) (n : ℕ) → n ≡ 0 + prefix_len is_word_byte bs → word ≡ take n bs
    → is_reserved (word_kind word) ≡ begins_reserved bs
unfolding begins_reserved
reserved bs word n e is =
    let long : n ≡ prefix_len is_word_byte bs = omega arith in
    rw (is, long) refl

pub slice_bounds-from_utf8-end : goal.slice_bounds-from_utf8-end
slice_bounds-from_utf8-end c = front_long c.args.bytes.now c.word_end-end.result c.word_end-end.ensures

pub returns-in-Ok : goal.returns-in-Ok
returns-in-Ok c =
    let known = reserved c.args.bytes.now c.in-Ok.word.now c.word_end-end.result c.word_end-end.ensures c.in-Ok.ensures.cases.0 in
    c.is_reserved.ensures ∙ (ap is_reserved c.word_kind.ensures ∙ known)

pub returns-in-Err : goal.returns-in-Err
returns-in-Err c =
    absurd (c.in-Err.ensures.cases.0 (front_is_text c.args.bytes.now c.word_end-end.result c.word_end-end.ensures))
