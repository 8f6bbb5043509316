-- Lines and columns are no greater than the number of their byte allows.
use Rattle.std.proofs.Common.{◌≡◌, ℕ, ◌+◌, ◌*◌, ◌<◌, ◌≤◌, List, length, get_or, refl, arith, ap, sym, subst, ◌∙◌}
use Prim.Native.Nat.{zero, suc}
use Rattle.cedar_text_lexer.specs.declared.show.Position.{Position}
use Rattle.cedar_text_lexer.specs.Positions.{behind, position_of}
use Rattle.cedar_places.specs.Noted.{IsOf}
use Rattle.cedar_text_lexer.proofs.Located.{at_more, line_more, column_more, located_none, located_more}

at_next : (text : List ℕ) (i : ℕ) → i < length text → (position_of text i).at ≡ i
    → (position_of text (i + 1)).at ≡ i + 1
at_next text i h e =
    rw (located_more text i h) (at_more (position_of text i) (get_or text i 0) ∙ ap (λ (n : ℕ). n + 1) e)

pub at_of : (text : List ℕ) (i : ℕ) → i ≤ length text → (position_of text i).at ≡ i
at_of text zero h = rw (sym (located_none text)) refl
at_of text (suc i) h =
    let one : i + 1 ≡ suc i = omega arith in
    subst (λ (n : ℕ). (position_of text n).at ≡ n) one (at_next text i (omega arith) (at_of text i (omega arith)))

line_next : (text : List ℕ) (i : ℕ) → i < length text → (position_of text i).line ≤ i + 1
    → (position_of text (i + 1)).line ≤ i + 1 + 1
line_next text i h e =
    rw (located_more text i h) (line_more (position_of text i) (get_or text i 0) (i + 1) e)

pub line_of : (text : List ℕ) (i : ℕ) → i ≤ length text → (position_of text i).line ≤ i + 1
line_of text zero h = rw (sym (located_none text)) (omega arith)
line_of text (suc i) h =
    let one : i + 1 ≡ suc i = omega arith in
    subst (λ (n : ℕ). (position_of text n).line ≤ n + 1) one
    (line_next text i (omega arith) (line_of text i (omega arith)))

column_next : (text : List ℕ) (i : ℕ) → i < length text → (position_of text i).column ≤ i + 1
    → (position_of text (i + 1)).column ≤ i + 1 + 1
column_next text i h e =
    rw (located_more text i h) (column_more (position_of text i) (get_or text i 0) (i + 1) e)

pub column_of : (text : List ℕ) (i : ℕ) → i ≤ length text → (position_of text i).column ≤ i + 1
column_of text zero h = rw (sym (located_none text)) (omega arith)
column_of text (suc i) h =
    let one : i + 1 ≡ suc i = omega arith in
    subst (λ (n : ℕ). (position_of text n).column ≤ n + 1) one
    (column_next text i (omega arith) (column_of text i (omega arith)))

-- a byte further counts on without wrapping
pub at_low : (text bytes : List ℕ) (p : Position) (i : ℕ) → bytes ≡ text → p ≡ position_of text i
    → i < length bytes → length bytes * 1 < 9223372036854775808 → p.at + 1 < 18446744073709551616
at_low text bytes p i same is h low =
    let fits : i ≤ length text = rw (sym same) (omega arith) in
    let e : p.at ≡ i = rw is (at_of text i fits) in
    omega arith

pub line_low : (text bytes : List ℕ) (p : Position) (i : ℕ) → bytes ≡ text → p ≡ position_of text i
    → i < length bytes → length bytes * 1 < 9223372036854775808 → p.line + 1 < 18446744073709551616
line_low text bytes p i same is h low =
    let fits : i ≤ length text = rw (sym same) (omega arith) in
    let e : p.line ≤ i + 1 = rw is (line_of text i fits) in
    omega arith

pub column_low : (text bytes : List ℕ) (p : Position) (i : ℕ) → bytes ≡ text → p ≡ position_of text i
    → i < length bytes → length bytes * 1 < 9223372036854775808 → p.column + 1 < 18446744073709551616
column_low text bytes p i same is h low =
    let fits : i ≤ length text = rw (sym same) (omega arith) in
    let e : p.column ≤ i + 1 = rw is (column_of text i fits) in
    omega arith

-- behind what stands at byte `i` stands byte `i + 1`
pub behind_is : (text bytes : List ℕ) (p q : Position) (i : ℕ) → bytes ≡ text → p ≡ position_of text i
    → i < length bytes → q ≡ behind p (get_or bytes i 0) → q ≡ position_of text (i + 1)
behind_is text bytes p q i same is h step =
    let here : i < length text = rw (sym same) h in
    let b : q ≡ behind p (get_or text i 0) = rw same at step in
    b ∙ (ap (λ (r : Position). behind r (get_or text i 0)) is ∙ sym (located_more text i here))

-- what stands at byte `i` may be noted
pub is_of : (text bytes : List ℕ) (p : Position) (i : ℕ) → bytes ≡ text → p ≡ position_of text i → i < length bytes
    → IsOf text p
is_of text bytes p i same is h =
    let fits : i ≤ length text = rw (sym same) (omega arith) in
    let e : p.at ≡ i = rw is (at_of text i fits) in
    (omega arith, is ∙ ap (position_of text) (sym e))
