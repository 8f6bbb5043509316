-- What loops gather.
use Rattle.std.proofs.Common.{◌≡◌, ℕ, ◌+◌, ◌<◌, ◌==◌, Bool, true, false, List, [], ◌∷◌, ◌++◌, length, refl, subst}
use Rattle.std.proofs.Common.{ap, ◌∙◌, arith}
use Rattle.std.specs.declared.alloc.Global.{Global}
use Rattle.std.specs.declared.rc.RcStr.{RcStr}
use Rattle.cedar_text_lexer.specs.Kinds.{is_identifier}
use Rattle.cedar_text_lexer.specs.Tokens.{IsTokens}
use Rattle.cedar_text_lexer.specs.Values.{word_of}
use Rattle.cedar_text_lexer.specs.declared.tokens.Token.{Token}
use Rattle.cedar_text_lexer.specs.declared.tokens.Kind.TheVariants as kind
use Rattle.cedar_text_syntax.specs.Grammar.{IsPath}
use Rattle.cedar_text_lexer.specs.Sequence.{token_at, kind_at, start_at, end_at}
use Rattle.cedar_text_parser.specs.Paths.{path_up_to, IsEntityRead, entity_read}
use Rattle.std.specs.Rc.{rc_str_bytes}
use Rattle.std.proofs.lemmas.List.{nil_from_length}
use Rattle.cedar_names.specs.declared.types.FirstRest.{FirstRest}
use Rattle.cedar_names.specs.declared.names.EntityUID.{EntityUID}
use Rattle.cedar_expressions.specs.Nodes as node
use Rattle.cedar_text_parser.specs.Building.{IsHas, has_one, has_more}
use Rattle.cedar_text_parser.specs.Sources.{Tokenized}
use Rattle.cedar_text_parser.specs.Wording.{IsKeyAt, bare, AreKeysAt, one_key, key_behind, IsEntityAt}
use Rattle.cedar_expressions.specs.declared.expr.Expr.{Expr}
use Rattle.cedar_text_parser.specs.Finished.{unkeyed, keyed, all_unkeyed, all_keyed}
use Rattle.cedar_text_parser.specs.declared.builder.Part.{Part}

unkeyed_push : (ys : List Expr) (x : Expr) (zs : List Part) →
    all_unkeyed ys ++ (unkeyed x ∷ zs) ≡ all_unkeyed (ys ++ x ∷ []) ++ zs
unkeyed_push [] x zs = refl
unkeyed_push (y ∷ ys) x zs = ap (λ vs. unkeyed y ∷ vs) (unkeyed_push ys x zs)

keyed_push : (is : List ℕ) (fs : List (RcStr Global × Expr)) (i : ℕ) (key : RcStr Global) (x : Expr)
    (zs : List Part) → length is ≡ length fs →
    all_keyed is fs ++ (keyed i key x ∷ zs) ≡ all_keyed (is ++ i ∷ []) (fs ++ (key, x) ∷ []) ++ zs
keyed_push [] [] i key x zs same = refl
keyed_push [] (f ∷ fs) i key x zs same = absurd (omega (arith, same))
keyed_push (j ∷ is) [] i key x zs same = absurd (omega (arith, same))
keyed_push (j ∷ is) (f ∷ fs) i key x zs same =
    ap (λ vs. keyed j f.0 f.1 ∷ vs) (keyed_push is fs i key x zs (omega (arith, same)))

-- one more field was taken
pub keyed_more : {all xs zs : List Part} {ks : List ℕ} {gs : List (RcStr Global × Expr)} {i : ℕ}
    {key : RcStr Global} {x : Expr} (is : List ℕ) (fs : List (RcStr Global × Expr)) → length is ≡ length fs →
    all ≡ all_keyed is fs ++ xs →
    xs ≡ keyed i key x ∷ zs → ks ≡ is ++ i ∷ [] → gs ≡ fs ++ (key, x) ∷ [] → all ≡ all_keyed ks gs ++ zs
keyed_more {all} {xs} {zs} {ks} {gs} {i} {key} {x} is fs same h popped pushed also =
    rw (pushed, also) (h ∙ ap (λ us. all_keyed is fs ++ us) popped ∙ keyed_push is fs i key x zs same)

-- an identifier is a key
pub bare_key : {source : Tokenized} {i : ℕ} {t : Token} {w v : List ℕ} → i < length source.tokens →
    t ≡ token_at source.tokens i → is_identifier t.kind ≡ true → w ≡ word_of source.text t → v ≡ w → IsKeyAt source i v
bare_key {source} {i} {t} lt is named word same = rw (same, word, is) (bare lt (rw is at named))

-- ---- entities

-- a path, `::` and a text are an entity
pub entity_there : {source : Tokenized} {k s e i l : ℕ} {u : EntityUID} → IsTokens 0 source.text source.tokens →
    IsPath source.tokens 0 k s e → kind_at source.tokens k ≡ kind.Colons → i ≡ k + 1 →
    kind_at source.tokens i ≡ kind.Text → l ≡ i + 1 →
    kind_at source.tokens l ≡ kind.End → IsEntityAt source 0 i (start_at source.tokens 0) (end_at source.tokens i) u →
    IsEntityRead source.text u
entity_there {source} {k} {s} {e} {i} {l} cut h colons i_is id l_is ends is =
    let two : l ≡ k + 2 = omega (arith, l_is, i_is) in
    entity_read cut (path_up_to h) colons (rw i_is at id) (rw two at ends) (rw i_is at is)

-- ---- attributes

pub first_key : {source : Tokenized} {i : ℕ} (w : RcStr Global) → IsKeyAt source i (rc_str_bytes w) →
    AreKeysAt source i (i + 1) (w ∷ [])
first_key w h = one_key w h

pub keys_more : {source : Tokenized} {i k : ℕ} {ws : List (RcStr Global)} (w : RcStr Global) →
    AreKeysAt source i k ws → IsKeyAt source (k + 1) (rc_str_bytes w) →
    AreKeysAt source i (k + 2) (ws ++ w ∷ [])
keys_more {source} {i} {k} {ws} w h named =
    let two : k + 1 + 1 ≡ k + 2 = omega arith in
    subst (λ j. AreKeysAt source i j (ws ++ w ∷ [])) two (key_behind w h named)

pub has_one_key : {source : Tokenized} {i k : ℕ} {y : Expr} {b : Bool} (ws : FirstRest (RcStr Global)) →
    AreKeysAt source i k (ws.first ∷ ws.rest.items) → b ≡ (length ws.rest.items == 0) → b ≡ true →
    IsHas source i k y (node.HasAttr y ws.first)
has_one_key {source} {i} {k} ws h test is =
    let none : length ws.rest.items ≡ 0 = grind (arith, test, is) in
    has_one (subst (λ vs. AreKeysAt source i k (ws.first ∷ vs)) (nil_from_length ws.rest.items none) h)

pub has_more_keys : {source : Tokenized} {i k : ℕ} {y : Expr} {b : Bool} (ws : FirstRest (RcStr Global)) →
    AreKeysAt source i k (ws.first ∷ ws.rest.items) → b ≡ (length ws.rest.items == 0) → b ≡ false →
    IsHas source i k y (node.ExtHasAttr y ws)
has_more_keys ws h test is =
    let some : 0 < length ws.rest.items = grind (arith, test, is) in
    has_more h some
