-- A duplicate key.
use Rattle.std.proofs.Common.{◌≡◌, ℕ, ◌+◌, ◌<◌, ◌≤◌, List, length, arith, slice_index, sym}
use Rattle.cedar_text_parser.specs.Refusals.{IsKeyAgain, key_again, IsNamedFrom}
use Rattle.cedar_text_parser.specs.Sources.{Tokenized}
use Rattle.cedar_text_parser.specs.Wording.{IsKeyAt, bare, quoted}

pub named_there : {source : Tokenized} {keys key named : List ℕ} (from n : ℕ) → from ≤ n →
    n < length keys → IsKeyAt source (slice_index keys n) named → named ≡ key → IsNamedFrom source keys from key n
named_there from n after lt h same = record { after = after; within = lt; named = rw (sym same) h }

pub again_there : {source : Tokenized} {keys key : List ℕ} (from m n : ℕ) →
    IsNamedFrom source keys from key m → IsNamedFrom source keys (m + 1) key n →
    IsKeyAgain source keys (slice_index keys n)
again_there from m n first second =
    key_again (omega (arith, second.after)) second.within first.named second.named

pub key_within : {source : Tokenized} {i : ℕ} {key : List ℕ} → IsKeyAt source i key → i < length source.tokens
key_within (bare lt is) = lt
key_within (quoted h) = h.within

pub again_within : {source : Tokenized} {keys : List ℕ} {i : ℕ} → IsKeyAgain source keys i →
    i < length source.tokens
again_within (key_again lt below first second) = key_within second
