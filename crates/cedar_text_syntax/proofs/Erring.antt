-- Where errors stand.
use Rattle.std.proofs.Common.{◌≡◌, ℕ, ◌<◌, ◌≤◌, List, [], ◌∷◌, length, refl, arith}
use Rattle.cedar_text_lexer.specs.Kinds.{what_for}
use Rattle.cedar_text_lexer.specs.declared.errors.Expected.{Expected}
use Rattle.cedar_text_lexer.specs.declared.errors.ReadError.{ReadError}
use Rattle.cedar_text_lexer.specs.declared.errors.ReadError.TheVariants as error
use Rattle.cedar_text_lexer.specs.declared.tokens.Kind.{Kind}
use Rattle.cedar_text_lexer.specs.declared.tokens.Token.{Token}
use Rattle.cedar_text_lexer.specs.Sequence.{token_at, end_at}
use Rattle.cedar_text_syntax.specs.Places.{IsPlaced, at_token, at_end, up_to_token, end_of}

pub token_placed : {all : List Token} {i : ℕ} {t : Token} {r : ReadError} (what : Expected) → i < length all →
    t ≡ token_at all i → r ≡ error.Expected (what_for what t.kind) t.kind t.start t.end → IsPlaced all r
token_placed what lt t_is r_is = rw (r_is, t_is) (at_token what lt)

pub deep_placed : {all : List Token} {n i s : ℕ} {t : Token} → i < length all → t ≡ token_at all i → s ≤ t.end →
    IsPlaced all (error.TooDeep n s t.end)
deep_placed {all} {n} {i} {s} lt t_is le = rw t_is (up_to_token lt (rw t_is at le))

pub deep_up_to : {all : List Token} {n i s e : ℕ} → i < length all → e ≡ end_at all i → s ≤ e →
    IsPlaced all (error.TooDeep n s e)
deep_up_to {all} {n} {i} {s} lt e_is le = rw e_is (up_to_token {i = i} lt (rw e_is at le))

pub end_placed : {all : List Token} {e : ℕ} {what : Expected} {f : Kind} → e ≡ end_of all →
    IsPlaced all (error.Expected what f e e)
end_placed e_is = rw e_is at_end

pub no_token : (all : List Token) → length all ≡ 0 → 0 ≡ end_of all
unfolding token_at
no_token [] e = refl
no_token (t ∷ ts) e = absurd (omega (arith, e))
