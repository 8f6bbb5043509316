-- Links that are read text by text.
use Rattle.std.specs.Prelude.{⊤, Result, Err, IfErr}
use Rattle.std.proofs.Common.{◌≡◌, ◌⊎◌, ℕ, ◌+◌, ◌<◌, length, get_or, List, [], ◌∷◌, ◌++◌, drop, map, refl, sym, ap, ◌∙◌, subst, append_assoc, append-nil, inl, inr, zero, suc, Option, Some, None, Ok}
use Rattle.std.proofs.lemmas.List.{drop_more}
use Rattle.json.specs.Json.{Json}
use Rattle.cedar_model.specs.Terms.{Text, EntityName}
use Rattle.cedar_names.specs.declared.names.EntityUID.{EntityUID}
use Rattle.cedar_names.specs.Names.{uid_name}
use Rattle.cedar_text_lexer.specs.declared.errors.ReadError.{ReadError}
use Rattle.cedar_text_lexer.specs.declared.errors.ReadError.TheVariants as reading
use Rattle.cedar_text_parser.specs.Paths.{IsEntityRead, IsPathRefused}
use Rattle.cedar_policy_json_reader.specs.declared.errors.PolicyJsonError.{PolicyJsonError}
use Rattle.cedar_policy_json_reader.specs.declared.errors.PolicyJsonError.TheVariants as errors
use Rattle.cedar_policy_json_reader.specs.declared.errors.RefusalReason.TheVariants as reasons
use Rattle.cedar_policy_json_reader.specs.Paths.{Step}
use Rattle.cedar_policy_json_reader.specs.Refusals.{IsUnder, IsMemory, IsRefusal, IsRefusedAt}
use Rattle.cedar_policy_json_reader.specs.Shapes.{text_said}
use Rattle.cedar_template_links.specs.declared.files.WrittenLink.{WrittenLink}
use Rattle.cedar_template_links.specs.Links.{LinkView, link_as, values_said}
use Rattle.cedar_template_links.specs.LinkFiles.{WrittenView, written_view, written_as, IsTextOf, text_of, AreTextOf, IsReadAs, AreReadAs, IsNoText, IsNoEntity, IsToldOf, IsToldAs, HaveNoText, IsUnread, AreUnread, IsOneMoreRead, IsSaidBy, all_written, IsUnsaid, unwritten, unread, IsAskedBy, IsUnasked, no_texts, no_entities}

-- one more that is read: what is read behind it is read behind the new list
pub read_on : (all : List WrittenView) (w : WrittenView) (ws : List WrittenView) (done new : List LinkView) (l : LinkView)
    → ((rest : List LinkView) → AreReadAs (w ∷ ws) rest → AreReadAs all (done ++ rest))
    → IsReadAs w l → new ≡ done ++ l ∷ [] → (rest : List LinkView) → AreReadAs ws rest → AreReadAs all (new ++ rest)
read_on all w ws done new l before is put rest others =
    subst (λ (ls : List LinkView). AreReadAs all ls) (sym (append_assoc done (l ∷ []) rest) ∙ ap (λ (ls : List LinkView). ls ++ rest) (sym put)) (before (l ∷ rest) (is, others))

-- what a slice gives where it has nothing
abbrev pub no_link : WrittenLink
no_link = record {
  template_id = record { ref_ptr = (0, 0); now = [] };
  new_id = record { ref_ptr = (0, 0); now = [] };
  principal = None;
  resource = None;
}

-- the same, of the link of this index
pub read_here : (xs : List WrittenLink) (i : ℕ) (done new : List LinkView) → i < length xs
    → ((rest : List LinkView) → AreReadAs (map written_view (drop i xs)) rest → AreReadAs (map written_view xs) (done ++ rest))
    → IsOneMoreRead (written_view (get_or xs i no_link)) done new
    → (rest : List LinkView) → AreReadAs (map written_view (drop (i + 1) xs)) rest → AreReadAs (map written_view xs) (new ++ rest)
read_here xs i done new fits before h =
    read_on (map written_view xs) (written_view (get_or xs i no_link)) (map written_view (drop (i + 1) xs)) done new h.link
    (λ rest r. before rest (subst (λ (ws : List WrittenLink). AreReadAs (map written_view ws) rest) (sym (drop_more xs i no_link fits)) r)) h.read h.put

-- nothing is left to read
pub all_read : (all left : List WrittenView) (done : List LinkView) → left ≡ []
    → ((rest : List LinkView) → AreReadAs left rest → AreReadAs all (done ++ rest)) → AreReadAs all done
all_read all left done none before =
    subst (λ (ls : List LinkView). AreReadAs all ls) (append-nil done) (before [] (subst (λ (ws : List WrittenView). AreReadAs ws []) (sym none) tt))

pub told_of : (A B : Type 0) → (A → B) → (e : PolicyJsonError) → IsToldOf A e → IsToldOf B e
told_of A B f errors.Syntax h = h
told_of A B f errors.DuplicateKey h = h
told_of A B f (errors.Refused path reason) h = (h.0, f h.1)
told_of A B f (errors.Memory error) h = tt

-- the same of a part
pub told_under : (A : Type 0) (s : Step) (d e : PolicyJsonError) → IsToldOf A d → IsUnder s d e → IsToldOf A e
told_under A s d errors.Syntax h u = subst (IsToldOf A) u h
told_under A s d errors.DuplicateKey h u = subst (IsToldOf A) u h
told_under A s errors.Syntax (errors.Refused q t) h u = absurd u
told_under A s errors.DuplicateKey (errors.Refused q t) h u = absurd u
told_under A s (errors.Refused p r) (errors.Refused q t) h u = (u.1 ∙ h.0, h.1)
told_under A s (errors.Memory m) (errors.Refused q t) h u = absurd u
told_under A s d (errors.Memory m) h u = tt

pub memory_told : (A : Type 0) (e : PolicyJsonError) → IsMemory e → IsToldOf A e
memory_told A errors.Syntax h = h
memory_told A errors.DuplicateKey h = h
memory_told A (errors.Refused p t) h = absurd h
memory_told A (errors.Memory m) h = tt

pub refused_told : (path : List Step) (e : PolicyJsonError) → IsRefusedAt path reasons.NotAnEntity e → IsToldOf ⊤ e
refused_told path errors.Syntax h = h
refused_told path errors.DuplicateKey h = h
refused_told path (errors.Refused p t) h = (h.1, tt)
refused_told path (errors.Memory m) h = tt

-- what is no text of one of the links is none of all
pub among : (n : ℕ) (xs : List WrittenLink) (x : WrittenLink) (rest : List WrittenLink) → drop n xs ≡ x ∷ rest
    → (IsNoText (written_view x).principal ⊎ IsNoText (written_view x).resource) → HaveNoText (map written_view xs)
among zero xs x rest is h = subst (λ (ys : List WrittenLink). HaveNoText (map written_view ys)) (sym is) (inl h)
among (suc n) [] x rest is h = absurd (cc)
among (suc n) (y ∷ ys) x rest is h = inr (among n ys x rest is h)

pub among_these : (xs : List WrittenLink) (i : ℕ) (e : PolicyJsonError) → i < length xs → IsUnread (written_view (get_or xs i no_link)) e → AreUnread (map written_view xs) e
among_these xs i e fits h =
    let x : WrittenLink = get_or xs i no_link in
    told_of (IsNoText (written_view x).principal ⊎ IsNoText (written_view x).resource) (HaveNoText (map written_view xs))
    (among i xs x (drop (i + 1) xs) (drop_more xs i no_link fits)) e h

pub told_left : (A B : Type 0) (e : PolicyJsonError) → IsToldOf A e → IsToldOf (A ⊎ B) e
told_left A B e h = told_of A (A ⊎ B) (λ a. inl a) e h

pub told_right : (A B : Type 0) (e : PolicyJsonError) → IsToldOf B e → IsToldOf (A ⊎ B) e
told_right A B e h = told_of B (A ⊎ B) (λ b. inr b) e h

-- a text that is no entity's
pub told_as : (t : Text) (r : ReadError) (e : PolicyJsonError) → IsPathRefused t r → IsToldAs r e → IsNoEntity (Some t) e
told_as t reading.Memory e h m = memory_told (IsNoText (Some t)) e m
told_as t (reading.Expected w k s u) e h m = told_of ⊤ (IsNoText (Some t)) (λ _. (reading.Expected w k s u, h)) e m
told_as t (reading.TooDeep n s u) e h m = told_of ⊤ (IsNoText (Some t)) (λ _. (reading.TooDeep n s u, h)) e m

-- a text that is an entity's
pub text_is : (t : Text) (u : EntityUID) → IsEntityRead t u → IsTextOf t (uid_name u)
text_is t u h = text_of h refl

pub read_as : (w : WrittenView) (l : LinkView) (p r : Option EntityName) → l ≡ link_as w.template_id w.new_id p r
    → AreTextOf w.principal p → AreTextOf w.resource r → IsReadAs w l
read_as w l p r is principal resource =
    subst (λ (k : LinkView). IsReadAs w k) (sym is) (record { template = refl; id = refl; principal = principal; resource = resource })

pub one_read : (w : WrittenView) (old new : List LinkView) (l : LinkView) → IsReadAs w l → new ≡ old ++ l ∷ [] → IsOneMoreRead w old new
one_read w old new l read put = record { link = l; read = read; put = put }

-- ---- the whole

-- what is told of an error is told in other words
pub if_err : {T : Type 0} (A B : PolicyJsonError → Type 0) (r : Result T PolicyJsonError) → ((e : PolicyJsonError) → A e → B e) → IfErr r A → IfErr r B
if_err A B (Ok t) f h = h
if_err A B (Err e) f h = f e h

pub said_by : (j : Json) (ws : List WrittenView) (ls : List LinkView) → all_written j ≡ Ok ws → AreReadAs ws ls → IsSaidBy j ls
said_by j ws ls said read = record { written = ws; said = said; read = read }

pub unsaid_first : (j : Json) (e : PolicyJsonError) → IsRefusal (all_written j) e → IsUnsaid j e
unsaid_first j e h = unwritten h

pub unsaid_then : (j : Json) (ws : List WrittenView) (e : PolicyJsonError) → all_written j ≡ Ok ws → AreUnread ws e → IsUnsaid j e
unsaid_then j ws e said h = unread said h

pub asked_by : (t n : Text) (j : Json) (v : Option Text × Option Text) (l : LinkView) → values_said text_said j ≡ Ok v → IsReadAs (written_as t n v) l → IsAskedBy t n j l
asked_by t n j v l said read = record { texts = v; said = said; read = read }

pub unasked_first : (j : Json) (e : PolicyJsonError) → IsRefusal (values_said text_said j) e → IsUnasked j e
unasked_first j e h = no_texts h

pub unasked_then : (j : Json) (v : Option Text × Option Text) (e : PolicyJsonError) → values_said text_said j ≡ Ok v → IsToldOf (IsNoText v.0 ⊎ IsNoText v.1) e → IsUnasked j e
unasked_then j v e said h = no_entities said h

pub ruleset told = (told_under, memory_told, refused_told, told_left, told_right, told_as, text_is, read_as, one_read, said_by, unsaid_first, unsaid_then, asked_by, unasked_first, unasked_then)
