-- Bytes have one list of tokens, and no other.
use Rattle.std.proofs.Common.{◌≡◌, ℕ, ◌+◌, ◌<◌, cond, Option, Some, None, List, [], ◌∷◌, ◌++◌, length, take, drop, encode_utf8, refl, sym, ap, ◌∙◌, subst₂, arith, rules, length-append, take_at, drop_at}
use Rattle.std.proofs.lemmas.Str.{encode_same}
use Rattle.cedar_text_lexer.specs.declared.tokens.Kind.{Kind}
use Rattle.cedar_text_lexer.specs.declared.tokens.Kind.TheVariants as kind
use Rattle.cedar_text_lexer.specs.declared.tokens.Token.{Token}
use Rattle.cedar_text_lexer.specs.Lexicon.{is_blank}
use Rattle.cedar_text_lexer.specs.Tokens.{IsTokens, end, skips, has, placed}
use Rattle.cedar_text_lexer.proofs.Cutting.{Cut, cut_of, Reading, known, character, long, token_reading, skipped_reading}

reading_long : {k : Option Kind} {w after : List ℕ} → Reading k w after → 0 < length w
reading_long (known e l) = l
reading_long (character c e) = long c

same : {k j : Option Kind} {w a v b : List ℕ} → Reading k w a → Reading j v b → w ++ a ≡ v ++ b → (k ≡ j) × (w ≡ v) × (a ≡ b)
same (known {k = k} {w = w} {after = a} e l) (known {k = j} {w = v} {after = b} f m) q =
    let both : record { kind = k; len = length w } ≡ record { kind = j; len = length v } = sym e ∙ (ap cut_of q ∙ f) in
    let lens : length v ≡ length w = sym (ap (λ (x : Cut). x.len) both) in (
      ap (λ (x : Cut). x.kind) both,
      sym (take_at w a (length w) refl) ∙ (ap (take (length w)) q ∙ take_at v b (length w) lens),
      sym (drop_at w a (length w) refl) ∙ (ap (drop (length w)) q ∙ drop_at v b (length w) lens),
    )
same (known {k = k} {w = w} e l) (character d f) q =
    let none : length w ≡ 0 = ap (λ (x : Cut). x.len) (sym e ∙ (ap cut_of q ∙ f)) in
    absurd (omega (arith, none, l))
same (character c e) (known {k = j} {w = v} f m) q =
    let none : length v ≡ 0 = ap (λ (x : Cut). x.len) (sym f ∙ (ap cut_of (sym q) ∙ e)) in
    absurd (omega (arith, none, m))
same (character c {after = a} e) (character d {after = b} f) q =
    let r = encode_same c d a b q in (
      ap (λ (x : ℕ). cond (is_blank x a) None (Some kind.Unreadable)) r.0 ∙ ap (λ (x : List ℕ). cond (is_blank d x) None (Some kind.Unreadable)) r.1,
      ap encode_utf8 r.0,
      r.1,
    )

data View (at : ℕ) (bs : List ℕ) (ts : List Token) : Type 0 where
  ended : bs ≡ [] → ts ≡ record { kind = kind.End; start = at; end = at } ∷ [] → View at bs ts
  skipped : (w a : List ℕ) → w ++ a ≡ bs → Reading None w a → IsTokens (at + length w) a ts → View at bs ts
  read : (k : Kind) (w a : List ℕ) (more : List Token) → w ++ a ≡ bs → Reading (Some k) w a → IsTokens (at + length w) a more → ts ≡ placed k at w ∷ more → View at bs ts

view : {at : ℕ} {bs : List ℕ} {ts : List Token} → IsTokens at bs ts → View at bs ts
view end = ended refl refl
view (skips {word = w} {after = a} s r) = skipped w a refl (skipped_reading s) r
view (has {k = k} {word = w} {after = a} {tokens = more} t r) = read k w a more refl (token_reading t) r refl

-- a word has a byte
not_empty : {k : Option Kind} (w a : List ℕ) → Reading k w a → w ++ a ≡ [] → ⊥
not_empty w a r e = omega (arith, reading_long r, length-append w a, ap length e)

moved : (at : ℕ) (w a v b : List ℕ) (ts : List Token) → w ≡ v → a ≡ b → IsTokens (at + length v) b ts → IsTokens (at + length w) a ts
moved at w a v b ts p q t = subst₂ (λ (n : ℕ) (x : List ℕ). IsTokens n x ts) (ap (λ (x : List ℕ). at + length x) (sym p)) (sym q) t

unique_end : (at : ℕ) (us : List Token) → View at [] us → record { kind = kind.End; start = at; end = at } ∷ [] ≡ us
unique_end at us (ended p q) = sym q
unique_end at us (skipped w a e r t) = absurd (not_empty w a r e)
unique_end at us (read k w a more e r t q) = absurd (not_empty w a r e)

unique_skips : (at : ℕ) (w a : List ℕ) (ts us : List Token) → Reading None w a → ((vs : List Token) → IsTokens (at + length w) a vs → ts ≡ vs) → View at (w ++ a) us → ts ≡ us
unique_skips at w a ts us x rest (ended p q) = absurd (not_empty w a x p)
unique_skips at w a ts us x rest (skipped v b e r t) =
    let q = same x r (sym e) in
    rest us (moved at w a v b us q.1 q.2 t)
unique_skips at w a ts us x rest (read k v b more e r t q) = absurd (none_some k (same x r (sym e)).0)
  where
    none_some : (k : Kind) → None ≡ Some k → ⊥
    none_some k h = search rules

unique_has : (at : ℕ) (k : Kind) (w a : List ℕ) (ts us : List Token) → Reading (Some k) w a → ((vs : List Token) → IsTokens (at + length w) a vs → ts ≡ vs) → View at (w ++ a) us → placed k at w ∷ ts ≡ us
unique_has at k w a ts us x rest (ended p q) = absurd (not_empty w a x p)
unique_has at k w a ts us x rest (skipped v b e r t) = absurd (some_none k (same x r (sym e)).0)
  where
    some_none : (k : Kind) → Some k ≡ None → ⊥
    some_none k h = search rules
unique_has at k w a ts us x rest (read j v b more e r t q) =
    let p = same x r (sym e) in
    let kinds : k ≡ j = cc in
    let behind : ts ≡ more = rest more (moved at w a v b more p.1 p.2 t) in
    ap (λ (y : Kind). placed y at w ∷ ts) kinds ∙ (ap (λ (y : List ℕ). placed j at y ∷ ts) p.1 ∙ (ap (λ (y : List Token). placed j at v ∷ y) behind ∙ sym q))

pub unique : {at : ℕ} {bs : List ℕ} {ts : List Token} → IsTokens at bs ts → (us : List Token) → IsTokens at bs us → ts ≡ us
unique (end {at}) us v = unique_end at us (view v)
unique (skips {at} {word = w} {after = a} {tokens = ts} s r) us v = unique_skips at w a ts us (skipped_reading s) (λ vs. unique r vs) (view v)
unique (has {at} {k = k} {word = w} {after = a} {tokens = ts} t r) us v = unique_has at k w a ts us (token_reading t) (λ vs. unique r vs) (view v)
