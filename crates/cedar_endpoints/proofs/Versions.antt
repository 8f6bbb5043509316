-- Versions, as fields name them.
use Rattle.std.proofs.Common.{◌≡◌, ◌∙◌, ap, sym, List, ℕ, [], ◌∷◌, ◌++◌, append-nil, append_assoc, codes, Option, Result, Ok, Err, OnOk}
use Rattle.http1.specs.Fields.{Header}
use Rattle.http_header.specs.FieldValue.{FieldValue, plain_value, IsFieldValue}
use Rattle.http_header.specs.declared.value.HeaderValueError.{HeaderValueError}
use Rattle.http_header.specs.declared.value.HeaderValueError.TheVariants as errors
use Rattle.cedar_endpoints.specs.declared.answers.Status.{Status}
use Rattle.cedar_endpoints.specs.Answers.{allowed, id_fields, fields_sent, named, no_value, AddsVersion}

-- one field more
pub adds_named : {A E : Type 0} (version : List ℕ) (v : FieldValue) (o : Result A E) (old new : List Header)
    → v ≡ plain_value version → OnOk o (new ≡ old ++ (codes "cedar-version", v.bytes) ∷ [])
    → OnOk o (AddsVersion version old new)
adds_named version v (Ok a) old new is h =
    ((codes "cedar-version", version) ∷ [], named, h ∙ ap (λ (x : FieldValue). old ++ (codes "cedar-version", x.bytes) ∷ []) is)
adds_named version v (Err e) old new is h = h

-- none
pub adds_none : (version : List ℕ) (old : List Header) → ¬ IsFieldValue version → AddsVersion version old old
adds_none version old bad = ([], no_value bad, sym (append-nil old))

-- the same, if that is why there is none
pub adds_none_for : {A E V : Type 0} (version : List ℕ) (old : List Header) (error : HeaderValueError)
    (made : Result V HeaderValueError) (o : Result A E) → made ≡ Err error
    → (made ≡ Err errors.Invalid → ¬ IsFieldValue version) → OnOk o (error ≡ errors.Invalid)
    → OnOk o (AddsVersion version old old)
adds_none_for version old error made (Ok a) same bad is =
    adds_none version old (bad (same ∙ ap (λ (e : HeaderValueError). Err e) is))
adds_none_for version old error made (Err e) same bad is = is

-- the fields that are sent, one behind another
pub fields_in_order : (s : Status) (id : Option FieldValue) (fs one two three four : List Header)
    → one ≡ (codes "content-type", codes "application/json") ∷ [] → two ≡ one ++ fs → three ≡ two ++ allowed s
    → four ≡ three ++ id_fields id → four ≡ fields_sent s fs id
fields_in_order s id fs one two three four a b c d =
    let first : List Header = (codes "content-type", codes "application/json") ∷ [] in
    d ∙ ap (λ (l : List Header). l ++ id_fields id) (c ∙ ap (λ (l : List Header). l ++ allowed s)
    (b ∙ ap (λ (l : List Header). l ++ fs) a))
    ∙ append_assoc (first ++ fs) (allowed s) (id_fields id) ∙ append_assoc first fs (allowed s ++ id_fields id)
