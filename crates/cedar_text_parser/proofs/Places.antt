-- Where tokens and errors stand: within the text.
use Rattle.std.proofs.Common.{◌≡◌, ℕ, zero, suc, ◌+◌, ◌-◌, ◌<◌, ◌≤◌, Bool, true, List, [], ◌∷◌, length, All, arith}
use Rattle.std.proofs.Common.{slice_range, refl, sym, subst, Result, Ok, Err, IsErrAnd, IfErr, encode_utf8, ◌++◌}
use Rattle.std.proofs.Common.{drop}
use Rattle.std.proofs.lemmas.Bool.{false≢true}
use Rattle.cedar_text_lexer.specs.Scanning.{begins_bare_return}
use Rattle.cedar_text_lexer.specs.Values.{Stands, IsRefusal, IsRefusedThere, there, IsRefused as IsRefusedAt, here}
use Rattle.cedar_text_lexer.specs.Values.{later, itself, escape, IsNoPiece, unknown, alone, bare_return, inside_of, word_of}
use Rattle.cedar_text_lexer.specs.declared.errors.Expected.{Expected}
use Rattle.cedar_text_lexer.specs.declared.errors.ReadError.{ReadError}
use Rattle.cedar_text_lexer.specs.declared.errors.ReadError.TheVariants as error
use Rattle.cedar_text_lexer.specs.declared.tokens.Kind.{Kind}
use Rattle.cedar_text_lexer.specs.declared.tokens.Kind.TheVariants as kind
use Rattle.cedar_text_lexer.specs.declared.tokens.Token.{Token}
use Rattle.cedar_text_lexer.proofs.Ends.{escape_in_ends}
use Rattle.cedar_text_lexer.proofs.Quotes.{text_quotes, no_end}
use Rattle.std.proofs.lemmas.List.{length-append, length-drop, length-take-le}
use Rattle.cedar_expressions.specs.declared.expr.Expr.{Expr}
use Rattle.cedar_text_syntax.specs.Places.{IsInside, IsPlaced, for_memory, at_token, at_end, up_to_token, end_of}
use Rattle.cedar_text_syntax.specs.Reading.{HasRead, has_read}
use Rattle.cedar_text_syntax.specs.Trees.{Tree, leaf, unary, binary, conditional, field, bracketed, trees}
use Rattle.cedar_text_syntax.specs.declared.steps.Step.{Step}
use Rattle.cedar_text_syntax.specs.declared.steps.What.{What}
use Rattle.cedar_text_syntax.proofs.Ordered.{in_order}
use Rattle.cedar_text_lexer.specs.Tokens.{IsTokens}
use Rattle.cedar_functions.specs.Functions.{Knowledge}
use Rattle.cedar_text_parser.specs.Calls.{EachCallsKnown}
use Rattle.cedar_text_parser.specs.Reading.{IsWithin, IsOnly, only, AreFour, four, IsRead, is_read, IsUnread, in_step}
use Rattle.cedar_text_lexer.specs.Sequence.{token_at, kind_at, start_at, end_at}
use Rattle.cedar_text_parser.specs.Refusals.{AreRefused, at_step, at_last, IsRefusedOn, by_tokens, by_key, IsRefused}
use Rattle.cedar_text_parser.specs.Refusals.{Expects, for_long, for_escape, for_one_argument, for_no_argument, for_steps}
use Rattle.cedar_text_parser.specs.Building.{Are, no_more, one_more, is_whole}
use Rattle.cedar_text_parser.specs.Finished.{unkeyed}
use Rattle.cedar_text_parser.specs.Sources.{Tokenized}
use Rattle.cedar_text_parser.specs.Wording.{word_at}
use Rattle.cedar_text_parser.specs.declared.builder.Part.{Part}
use Rattle.cedar_text_parser.specs.declared.reading.Four.{Four}
use Rattle.cedar_text_parser.proofs.Again.{again_within}

stands_in : (text : List ℕ) (all : List Token) (i : ℕ) → i < length all → All (Stands text) all →
    Stands text (token_at all i)
unfolding token_at
stands_in text [] i lt h = absurd (omega (arith, lt))
stands_in text (t ∷ ts) zero lt h = h 0 t lt
stands_in text (t ∷ ts) (suc i) lt h =
    stands_in text ts i (omega (arith, lt)) (λ k d below. h (suc k) d (omega (arith, below)))

-- the token of this number is one of the text's, where all are
pub token_stands : (source : Tokenized) (i : ℕ) → i < length source.tokens → All (Stands source.text) source.tokens →
    Stands source.text (token_at source.tokens i)
token_stands source i lt h = stands_in source.text source.tokens i lt h

-- what is said of an escape is said of the step
pub escape_refused : (source : Tokenized) {i : ℕ} (b : Bool) (r : ReadError) → i < length source.tokens →
    kind_at source.tokens i ≡ kind.Text → IsRefusal b (inside_of (word_at source i)) (start_at source.tokens i + 1) r →
    IsRefused source r
escape_refused source b error.Memory lt is h = tt
escape_refused source b (error.Expected what found s e) lt is (x, y, z) = rw (x, y) (for_escape b lt is z)
escape_refused source b (error.TooDeep n s e) lt is h = absurd h

-- ---- within the text

pub token_within : (source : Tokenized) (i : ℕ) → All (Stands source.text) source.tokens → i < length source.tokens →
    (start_at source.tokens i ≤ end_at source.tokens i) × (end_at source.tokens i ≤ length source.text)
token_within source i h lt = let s = token_stands source i lt h in (s.order, s.end.0)

return_bound : (bs : List ℕ) → begins_bare_return bs ≡ true → 1 ≤ length bs
return_bound [] h = absurd (false≢true h)
return_bound (b ∷ bs) h = omega arith

no_piece_bound : {b : Bool} {bs : List ℕ} {m : ℕ} → IsNoPiece b bs m → m ≤ length bs
no_piece_bound (unknown c bs h) = omega (arith, length-append (encode_utf8 c) bs)
no_piece_bound (alone h) = omega arith
no_piece_bound (bare_return {bs} h) = return_bound bs h

refused_bound : {b : Bool} {bs : List ℕ} {n m : ℕ} → IsRefusedAt b bs n m → n + m ≤ length bs
refused_bound (here h) = omega (arith, no_piece_bound h)
refused_bound (later (itself c bs ne nr) more) =
    omega (
      arith,
      refused_bound more,
      length-drop (length (encode_utf8 c)) (encode_utf8 c ++ bs),
      length-append (encode_utf8 c) bs,
    )
refused_bound {b} (later (escape {bs} {e} h) more) =
    let low = escape_in_ends b bs e h in
    omega (arith, refused_bound more, length-drop (e.len + 1) (92 ∷ bs), low.is_last, low.within)

there_bound : {b : Bool} {bs : List ℕ} {at s e : ℕ} → IsRefusedThere b bs at s e → (s ≤ e) × (e ≤ at + length bs)
there_bound (there r) = (omega arith, omega (arith, refused_bound r))

range_length : (bs : List ℕ) (a b : ℕ) → a ≤ b → b ≤ length bs → length (slice_range bs a b) ≡ b - a
range_length bs a b le within = length-take-le (b - a) (drop a bs) (omega (arith, length-drop a bs, le, within))

inside_bound : (text : List ℕ) (t : Token) → Stands text t → t.kind ≡ kind.Text →
    t.start + 1 + length (inside_of (word_of text t)) ≤ length text
inside_bound text t h is =
    let q = text_quotes t.kind (word_of text t) (drop t.end text) (h.is (λ end. no_end t.kind is end)) is in
    let long = range_length text t.start t.end h.order h.end.0 in
    let inner = range_length (word_of text t) 1 (length (word_of text t) - 1) (omega (arith, q.long)) (omega arith) in
    omega (arith, q.long, long, inner, h.order, h.end.0)

expects_within : (source : Tokenized) → All (Stands source.text) source.tokens → {what : Expected} {found : Kind}
    {s e : ℕ} → Expects source what found s e → (s ≤ e) × (e ≤ length source.text)
expects_within source h (for_long {i} lt large) = token_within source i h lt
expects_within source h (for_escape {i} b lt is refused) =
    let bound = there_bound refused in
    let inside = inside_bound source.text (token_at source.tokens i) (token_stands source i lt h) is in
    (bound.0, omega (arith, bound.1, inside))
expects_within source h (for_one_argument {i} lt is) = token_within source i h lt
expects_within source h (for_no_argument {i} lt is) = token_within source i h lt
expects_within source h for_steps = (omega arith, omega arith)

pub refused_within : (source : Tokenized) → All (Stands source.text) source.tokens → (r : ReadError) →
    IsRefused source r → IsWithin source.text r
refused_within source h error.Memory x = tt
refused_within source h (error.Expected what found s e) x = expects_within source h x
refused_within source h (error.TooDeep n s e) x = absurd x

step_within : (source : Tokenized) → All (Stands source.text) source.tokens →
    {ts : List Tree} {w : What} (r : ReadError) →
    IsRefusedOn source ts w r → IsWithin source.text r
step_within source h r (by_tokens x) = refused_within source h r x
step_within source h _ (by_key is again) = token_within source _ h (again_within again)

pub steps_within : (source : Tokenized) → All (Stands source.text) source.tokens → {steps : List Step} (r : ReadError) →
    AreRefused source steps r → IsWithin source.text r
steps_within source h r (at_step x lt refused) = step_within source h r refused
steps_within source h r (at_last refused) = refused_within source h r refused

no_end_of : (text : List ℕ) → end_of [] ≤ length text
unfolding token_at
no_end_of text = omega arith

end_in : (text : List ℕ) (all : List Token) → All (Stands text) all → end_of all ≤ length text
end_in text [] h = no_end_of text
end_in text (t ∷ ts) h =
    (token_within (record { text = text; tokens = t ∷ ts }) (length (t ∷ ts) - 1) h (omega arith)).1

end_within : (source : Tokenized) → All (Stands source.text) source.tokens → end_of source.tokens ≤ length source.text
end_within source h = end_in source.text source.tokens h

pub placed_within : (source : Tokenized) → All (Stands source.text) source.tokens → (r : ReadError) →
    IsPlaced source.tokens r →
    IsWithin source.text r
placed_within source h _ for_memory = tt
placed_within source h _ (at_token {i} what lt) = token_within source i h lt
placed_within source h _ at_end = (omega arith, end_within source h)
placed_within source h _ (up_to_token {i} lt le) = (le, (token_within source i h lt).1)

-- ---- trees

pub inside_more : (a b c d : ℕ) (p : Tree) → a ≤ b → c ≤ d → IsInside b c p → IsInside a d p
inside_more a b c d (leaf l s e) le me (x, y, z) = (omega (arith, le, x), y, omega (arith, me, z))
inside_more a b c d (unary u p s e) le me (x, y, z) = (omega (arith, le, x), omega (arith, me, y), z)
inside_more a b c d (binary o p q s e) le me (x, y, z, u) = (omega (arith, le, x), omega (arith, me, y), z, u)
inside_more a b c d (conditional p q r s e) le me (x, y, z, u, v) = (
  omega (arith, le, x),
  omega
      (arith, me, y),
  z,
  u,
  v,
)
inside_more a b c d (field i p s e) le me (x, y, z) = (omega (arith, le, x), omega (arith, me, y), z)
inside_more a b c d (bracketed k ps s e) le me (x, y, z, u) = (omega (arith, le, x), omega (arith, me, y), z, u)

-- what the steps make is what the text says
pub whole_read : {k : Knowledge} {source : Tokenized} {limit : ℕ} {ts : List Tree} {x : Expr} →
    IsTokens 0 source.text source.tokens → All (Stands source.text) source.tokens → HasRead source.tokens limit ts →
    EachCallsKnown k source ts →
    IsOnly source ts x → IsRead k source.text limit x
whole_read {k} {source} tokens h (has_read {p} derived low nested) known (only is) =
    is_read tokens derived low
    (inside_more 0 (start_at source.tokens 0) (end_of source.tokens) (length source.text) p (omega arith)
    (end_within source h)
    (nested (in_order tokens))) is known.0

-- what the steps refuse
pub whole_refused : {source : Tokenized} {limit : ℕ} {steps : List Step} {r : ReadError} →
    IsTokens 0 source.text source.tokens → HasRead source.tokens limit (trees steps) → AreRefused source steps r →
    IsUnread source.text r
whole_refused {source} {limit} {steps} {r} tokens h refused = at (trees steps) refl h
  where
    at : (ts : List Tree) → trees steps ≡ ts → HasRead source.tokens limit ts → IsUnread source.text r
    at _ is (has_read derived low nested) = in_step tokens derived is refused

-- ---- the last parts

pub only_read : {source : Tokenized} {x : Expr} {xs : List Part} {ts : List Tree} →
    xs ≡ unkeyed x ∷ [] → Are source xs ts → IsOnly source ts x
only_read {source} {x} {xs} {ts} is h = at ts (subst (λ vs. Are source vs ts) is h)
  where
    at : (us : List Tree) → Are source (unkeyed x ∷ []) us → IsOnly source us x
    at _ (one_more (is_whole part) no_more) = only part

pub four_read : {source : Tokenized} {f : Four} {xs : List Part} {ts : List Tree} →
    xs ≡ unkeyed f.condition ∷ unkeyed f.resource ∷ unkeyed f.action ∷ unkeyed f.principal ∷ [] →
    Are source xs ts → AreFour source ts f
four_read {source} {f} {xs} {ts} is h = at ts (subst (λ vs. Are source vs ts) is h)
  where
    at : (us : List Tree) →
        Are source (unkeyed f.condition ∷ unkeyed f.resource ∷ unkeyed f.action ∷ unkeyed f.principal ∷ []) us →
        AreFour source us f
    at _ (one_more (is_whole c) (one_more (is_whole r) (one_more (is_whole a) (one_more (is_whole p) no_more)))) =
        four p a r c

-- `?` passes an error up as it is
pub passed_up : {T E : Type 0} (r : Result T E) (e : E) (P : E → Type 0) → IsErrAnd r (λ y. y ≡ e) → P e → IfErr r P
passed_up (Ok x) e P is p = tt
passed_up (Err y) e P is p = subst P (sym is) p
