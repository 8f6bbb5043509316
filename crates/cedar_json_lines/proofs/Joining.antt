-- The text of an object, with one member more.
use Rattle.std.proofs.Common.{◌≡◌, refl, sym, ap, ◌∙◌, Bool, true, false, cond, ◌&&◌, List, [], ◌∷◌, ◌++◌, append_assoc, append-nil, codes, Result, Ok, Err, IfOk, None, string_bytes}
use Rattle.std.proofs.lemmas.List.{append_cancel_right}
use Rattle.std.proofs.lemmas.List.Sums.{fold-append}
use Rattle.std.specs.List.{fold}
use Rattle.std.specs.declared.alloc.AllocError.{AllocError}
use Rattle.std.specs.declared.alloc.Global.{Global}
use Rattle.std.specs.declared.string.String.{String}
use Rattle.json.specs.Token.{Token, begin_object, end_object, key}
use Rattle.json.specs.Json.{Json, null, boolean, number, string, array, object, Items, no_items, item, Members, no_members, member}
use Rattle.json.specs.Print.{print, print_from, token_text, separator, ends, quoted}
use Rattle.json.specs.Tree.{json_tokens, items_tokens, members_tokens}
use Rattle.json.proofs.Printed.Tokens.{print_from-append}
use Rattle.cedar_model.specs.Terms.{Text}
use Rattle.cedar_json_writer.specs.Texts.{object_of}
use Rattle.cedar_json_writer.specs.Trees.{members_of}
use Rattle.cedar_json_lines.specs.Objects.{object_line, behind, IsOneMore, IsFront}

-- whether a value just ended behind these tokens
abbrev ended : Bool → List Token → Bool
ended b ts = fold (λ _ u. ends u) b ts

-- a value is ended behind its tokens
mutual
  json_ended : (j : Json) (b : Bool) → ended b (json_tokens j) ≡ true
  json_ended null b = refl
  json_ended (boolean v) b = refl
  json_ended (number t) b = refl
  json_ended (string t) b = refl
  json_ended (array js) b = items_ended js false
  json_ended (object ms) b = members_ended ms false

  items_ended : (js : Items) (b : Bool) → ended b (items_tokens js) ≡ true
  items_ended no_items b = refl
  items_ended (item j js) b =
      fold-append (λ (_ : Bool) (u : Token). ends u) b (json_tokens j) (items_tokens js)
      ∙ items_ended js (ended b (json_tokens j))

  members_ended : (ms : Members) (b : Bool) → ended b (members_tokens ms) ≡ true
  members_ended no_members b = refl
  members_ended (member k j ms) b =
      fold-append (λ (_ : Bool) (u : Token). ends u) false (json_tokens j) (members_tokens ms)
      ∙ members_ended ms (ended false (json_tokens j))

-- the tokens of members, without the closing bracket
abbrev inner : List (Text × Json) → List Token
inner [] = []
inner (m ∷ ms) = key m.0 ∷ (json_tokens m.1 ++ inner ms)

inner_closed : (ms : List (Text × Json)) → members_tokens (members_of ms) ≡ inner ms ++ end_object ∷ []
inner_closed [] = refl
inner_closed (m ∷ ms) =
    ap (λ (ts : List Token). key m.0 ∷ (json_tokens m.1 ++ ts)) (inner_closed ms)
    ∙ ap (λ (ts : List Token). key m.0 ∷ ts) (sym (append_assoc (json_tokens m.1) (inner ms) (end_object ∷ [])))

inner_more : (ms : List (Text × Json)) (k : Text) (j : Json)
    → inner (ms ++ (k, j) ∷ []) ≡ inner ms ++ (key k ∷ json_tokens j)
inner_more [] k j = ap (λ (ts : List Token). key k ∷ ts) (append-nil (json_tokens j))
inner_more (m ∷ ms) k j =
    ap (λ (ts : List Token). key m.0 ∷ (json_tokens m.1 ++ ts)) (inner_more ms k j)
    ∙ ap (λ (ts : List Token). key m.0 ∷ ts) (sym (append_assoc (json_tokens m.1) (inner ms) (key k ∷ json_tokens j)))

inner_ended : (ms : List (Text × Json)) (b : Bool) → b ≡ true → ended b (inner ms) ≡ true
inner_ended [] b e = e
inner_ended (m ∷ ms) b e =
    fold-append (λ (_ : Bool) (u : Token). ends u) false (json_tokens m.1) (inner ms)
    ∙ inner_ended ms (ended false (json_tokens m.1)) (json_ended m.1 false)

some_ended : (m : Text × Json) (ms : List (Text × Json)) → ended false (begin_object ∷ inner (m ∷ ms)) ≡ true
some_ended m ms =
    fold-append (λ (_ : Bool) (u : Token). ends u) false (json_tokens m.1) (inner ms)
    ∙ inner_ended ms (ended false (json_tokens m.1)) (json_ended m.1 false)

-- what stands before the end
front : List (Text × Json) → Text
front ms = print_from false (begin_object ∷ inner ms)

closing : (b : Bool) → print_from b (end_object ∷ []) ≡ codes "}"
unfolding print_from
closing true = refl
closing false = refl

line_is : (ms : List (Text × Json)) → object_line ms ≡ front ms ++ codes "}\n"
unfolding front
line_is ms =
    ap (λ (ts : List Token). print_from false (begin_object ∷ ts) ++ codes "\n") (inner_closed ms)
    ∙ ap (λ (t : Text). t ++ codes "\n") (print_from-append false (begin_object ∷ inner ms) (end_object ∷ []))
    ∙ ap (λ (t : Text). (print_from false (begin_object ∷ inner ms) ++ t) ++ codes "\n")
    (closing (ended false (begin_object ∷ inner ms)))
    ∙ append_assoc (print_from false (begin_object ∷ inner ms)) (codes "}") (codes "\n")

one_member : (k : Text) (j : Json)
    → print_from true (key k ∷ json_tokens j) ≡ codes "," ++ (print (json_tokens (string k)) ++ (codes ":" ++ print (json_tokens j)))
unfolding print_from
one_member k j =
    ap (λ (t : Text). codes "," ++ t)
    (append_assoc (quoted k) (codes ":") (print (json_tokens j))
    ∙ ap (λ (t : Text). t ++ (codes ":" ++ print (json_tokens j))) (sym (append-nil (quoted k))))

front_more : (m : Text × Json) (ms : List (Text × Json)) (k : Text) (j : Json)
    → front (m ∷ ms ++ (k, j) ∷ [])
    ≡ front (m ∷ ms) ++ (codes "," ++ (print (json_tokens (string k)) ++ (codes ":" ++ print (json_tokens j))))
unfolding front
front_more m ms k j =
    ap (λ (ts : List Token). print_from false (begin_object ∷ ts)) (inner_more (m ∷ ms) k j)
    ∙ print_from-append false (begin_object ∷ inner (m ∷ ms)) (key k ∷ json_tokens j)
    ∙ ap (λ (b : Bool). print_from false (begin_object ∷ inner (m ∷ ms)) ++ print_from b (key k ∷ json_tokens j))
    (some_ended m ms)
    ∙ ap (λ (t : Text). print_from false (begin_object ∷ inner (m ∷ ms)) ++ t) (one_member k j)

put_in : (f a b c d : Text) → (f ++ (a ++ (b ++ (c ++ d)))) ++ codes "}\n"
    ≡ f ++ (a ++ (b ++ (c ++ (d ++ codes "}\n"))))
put_in f a b c d =
    append_assoc f (a ++ (b ++ (c ++ d))) (codes "}\n")
    ∙ ap (λ (t : Text). f ++ t)
    (append_assoc a (b ++ (c ++ d)) (codes "}\n")
    ∙ ap (λ (t : Text). a ++ t)
    (append_assoc b (c ++ d) (codes "}\n") ∙ ap (λ (t : Text). b ++ t) (append_assoc c d (codes "}\n"))))

-- one more behind what stands before the end
joined : (m : Text × Json) (ms : List (Text × Json)) (k : Text) (j : Json) (line start s : Text)
    → line ≡ object_line (m ∷ ms) → line ≡ start ++ codes "}\n" → s ≡ start ++ behind k j
    → s ≡ object_line (m ∷ ms ++ (k, j) ∷ [])
joined m ms k j line start s is begins so =
    let same : start ≡ front (m ∷ ms) =
    append_cancel_right start (front (m ∷ ms)) (codes "}\n") (sym begins ∙ is ∙ line_is (m ∷ ms)) in
    so ∙ ap (λ (t : Text). t ++ behind k j) same
    ∙ sym (put_in (front (m ∷ ms)) (codes ",") (print (json_tokens (string k))) (codes ":") (print (json_tokens j)))
    ∙ ap (λ (t : Text). t ++ codes "}\n") (sym (front_more m ms k j))
    ∙ sym (line_is (m ∷ ms ++ (k, j) ∷ []))

-- a line of an object ends so
ends_so : (m : Text × Json) (ms : List (Text × Json)) (line : Text) → line ≡ object_line (m ∷ ms)
    → line ≡ front (m ∷ ms) ++ codes "}\n"
ends_so m ms line is = is ∙ line_is (m ∷ ms)

pub one_more : (line start k : Text) (j : Json) (r : Result (String Global) AllocError) → line ≡ start ++ codes "}\n"
    → IfOk r (λ s. string_bytes s ≡ start ++ behind k j) → IfOk r (λ s. IsOneMore line k j (string_bytes s))
one_more line start k j (Ok s) begins so = λ m ms is. joined m ms k j line start (string_bytes s) is begins so
one_more line start k j (Err e) begins so = tt

pub never : (line k : Text) (j : Json) (r : Result (String Global) AllocError) → IsFront line None
    → IfOk r (λ s. IsOneMore line k j (string_bytes s))
never line k j (Ok s) none = λ m ms is. absurd (none (front (m ∷ ms)) (ends_so m ms line is))
never line k j (Err e) none = tt
