-- The id of a request, and what stands in an object.
use Rattle.std.proofs.Common.{◌≡◌, refl, sym, ap, ◌∙◌, ℕ, ◌==◌, Bool, true, false, [], ◌∷◌, ◌++◌, Option, None, Some, option_map, option_copied, MatchOption, Result, IfOk, String, string_bytes, codes, if◌then◌else◌, eqb-true, ◌≢◌}
use Rattle.std.specs.Borrow.{Bor}
use Rattle.std.specs.Str.Pattern.{FindsTextPrefix, StripsPrefix}
use Rattle.json.specs.Json.{Json}
use Rattle.json.specs.Find.{get}
use Rattle.json.specs.Tree.{HasNumbers}
use Rattle.json.proofs.Numbered.{HasNumbers-get}
use Rattle.cedar_endpoints.specs.declared.documents.Unread.{Unread}
use Rattle.cedar_endpoints.specs.declared.documents.Unread.TheVariants as unreads
use Rattle.cedar_endpoints.specs.Asked.{Text}
use Rattle.cedar_endpoints.specs.Documents.{IsDocument, IsUnread}
use Rattle.cedar_endpoints.specs.Ids.{HaveNumbers, given_id, IsIdIn, is_unread, is_repeated, is_said, IsIdUnread, inside}
use Rattle.cedar_endpoints.proofs.Texts.{of_ok}

-- ---- the id

pub numbers_in : (k : Text) (j : Json) (o : Option Json) → HasNumbers j → o ≡ get k j → HaveNumbers o
numbers_in k j None h e = tt
numbers_in k j (Some part) h e = HasNumbers-get k j part h e

id_of_unread : (text : Text) (u : Unread) (id : Option Text) → IsUnread text u → IsIdUnread u id → IsIdIn text id
id_of_unread text unreads.Syntax id is none = is_unread is none
id_of_unread text unreads.DuplicateKey id is none = is_repeated is none
id_of_unread text unreads.Memory id is none = absurd none

pub as_id_unread : {A E : Type 0} (text : Text) (o : Result (Option (String A)) E) (u : Unread) → IsUnread text u
    → IfOk o (λ i. IsIdUnread u (option_map string_bytes i)) → IfOk o (λ i. IsIdIn text (option_map string_bytes i))
as_id_unread text o u is h = of_ok _ _ (λ i none. id_of_unread text u (option_map string_bytes i) is none) o h

pub as_id_said : {A E : Type 0} (text : Text) (o : Result (Option (String A)) E) (j : Json) → IsDocument text j
    → IfOk o (λ i. option_map string_bytes i ≡ given_id j) → IfOk o (λ i. IsIdIn text (option_map string_bytes i))
as_id_said text o j is h = of_ok _ _ (λ i same. is_said is same) o h

-- ---- what stands in an object

none_inside : (b : Bool) (c : ℕ) (rest : Text) → (c == 123) ≡ b → ((more : Text) → c ∷ rest ≢ codes "{" ++ more)
    → None ≡ (if b then Some rest else None)
none_inside true c rest is lacks = absurd (lacks rest (ap (λ n. n ∷ rest) (eqb-true c 123 is)))
none_inside false c rest is lacks = refl

not_stripped : (t : Text) → ((more : Text) → t ≢ codes "{" ++ more) → None ≡ inside t
not_stripped [] lacks = refl
not_stripped (c ∷ rest) lacks = none_inside (c == 123) c rest refl lacks

is_stripped : (t rest : Text) → t ≡ codes "{" ++ rest → Some rest ≡ inside t
is_stripped t rest is = sym (ap inside is)

pub stripped : (t : Text) (o : Option (Bor Text)) → MatchOption o (FindsTextPrefix (codes "{") t None)
    (λ x. StripsPrefix (FindsTextPrefix (codes "{")) t x.now) → option_copied o ≡ inside t
stripped t None h = not_stripped t h
stripped t (Some x) h = is_stripped t x.now (h.1.1 ∙ ap (λ (s : Text). codes "{" ++ s) (sym h.2))

pub ruleset identified = (numbers_in, as_id_unread, as_id_said)
