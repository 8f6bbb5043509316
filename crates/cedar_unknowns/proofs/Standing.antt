-- Which entity an unknown stands for.
use Rattle.std.proofs.Common.{◌≡◌, Bool, true, false, cond, nat_eq, Option, None, Some, List, [], ◌∷◌, ◌++◌, append_assoc, append-nil, option_map, Result, Ok, Err, IfOk, refl, sym, ap, ◌∙◌}
use Rattle.cedar_names.specs.declared.names.EntityUID.{EntityUID}
use Rattle.cedar_names.specs.Names.{uid_name}
use Rattle.std.specs.Bool.{Decides, one_answer}
use Rattle.std.specs.Cmp.Lexicographic.{pointwise, bytes_decides}
use Rattle.std.proofs.lemmas.Option.{cond_some}
use Rattle.cedar_model.specs.Terms.{Text, EntityName, ValueType, bool_type, long_type, string_type, set_type, record_type, entity_type, extension_type}
use Rattle.cedar_model.specs.Outcomes.{escaped}
use Rattle.cedar_model.specs.Settings.{printed_entity}
use Rattle.cedar_model.specs.Printing.{read_entity}
use Rattle.cedar_model.proofs.Printed.{come_back}
use Rattle.cedar_model.proofs.Injections.{none_is_not_some}
use Rattle.cedar_unknowns.specs.Occurrences.{Asked, asked_eq}
use Rattle.cedar_unknowns.specs.Entities.{asked_for, entity_if_for, entity_asked, entity_before, asked_unless}
use Rattle.cedar_unknowns.specs.Quoted.{unescaped, entity_quoted, quoted_behind}
use Rattle.cedar_unknowns.proofs.Listed.{asked_eq-decides}
use Rattle.cedar_unknowns.proofs.Quoted.{quoted_same, unescaped_back}

-- the unknown of an entity stands for that entity
pub entity_asked-for : (e : EntityName) → entity_asked (asked_for e) ≡ Some e
entity_asked-for e =
    ap (entity_if_for (asked_for e)) (come_back e) ∙ ap (λ b. cond b (Some e) None) ((asked_eq-decides (asked_for e) (asked_for e)).1 refl)

-- an unknown that stands for an entity is that entity's
pub is_for : (a : Asked) (o : Option EntityName) (e : EntityName) → entity_if_for a o ≡ Some e → a ≡ asked_for e
is_for a None e h = absurd (none_is_not_some h)
is_for a (Some d) e h =
    let (tested, same) = cond_some (asked_eq a (asked_for d)) d e h in
    (asked_eq-decides a (asked_for d)).0 tested ∙ ap asked_for same

none_by : (a : Asked) → ((e : EntityName) → a ≡ asked_for e → ⊥) → (o : Option EntityName) → entity_asked a ≡ o → o ≡ None
none_by a lacks None h = refl
none_by a lacks (Some e) h = absurd (lacks e (is_for a (read_entity a.0) e h))

-- where no entity's unknown is this one, it stands for none
pub none_asked : (a : Asked) → ((e : EntityName) → a ≡ asked_for e → ⊥) → entity_asked a ≡ None
none_asked a lacks = none_by a lacks (entity_asked a) refl

candidate_apart : (a : Asked) (c : EntityName) (b : Bool) → asked_eq a (asked_for c) ≡ b → entity_asked a ≡ None → cond b (Some c) None ≡ None
candidate_apart a c false k h = refl
candidate_apart a c true k h =
    absurd (none_is_not_some (sym h ∙ ap entity_asked ((asked_eq-decides a (asked_for c)).0 k) ∙ entity_asked-for c))

candidate_by : (a : Asked) (c : EntityName) → ((e : EntityName) → a ≡ asked_for e → c ≡ e) → (o : Option EntityName) → entity_asked a ≡ o → entity_if_for a (Some c) ≡ o
candidate_by a c only (Some e) h =
    let is : a ≡ asked_for e = is_for a (read_entity a.0) e h in
    let same : c ≡ e = only e is in
    let tested : asked_eq a (asked_for c) ≡ true = (asked_eq-decides a (asked_for c)).1 (is ∙ ap asked_for (sym same)) in
    ap (λ b. cond b (Some c) None) tested ∙ ap (λ (x : EntityName). Some x) same
candidate_by a c only None h = candidate_apart a c (asked_eq a (asked_for c)) refl h

-- where an unknown can stand for this entity alone, one test says whether it does
pub candidate_asked : (a : Asked) (c : EntityName) → ((e : EntityName) → a ≡ asked_for e → c ≡ e) → entity_if_for a (Some c) ≡ entity_asked a
candidate_asked a c only = candidate_by a c only (entity_asked a) refl

-- ---- annotations

-- the entity type that is annotated, and no text of another annotation
abbrev annotated_name : Option ValueType → Option Text
annotated_name None = None
annotated_name (Some bool_type) = None
annotated_name (Some long_type) = None
annotated_name (Some string_type) = None
annotated_name (Some set_type) = None
annotated_name (Some record_type) = None
annotated_name (Some (entity_type t)) = Some t
annotated_name (Some (extension_type t)) = None

text_same : {s t : Text} → Some s ≡ Some t → s ≡ t
text_same h = cc

other_annotation : (name : Text) (t : Option ValueType) → annotated_name t ≡ None → entity_asked (name, t) ≡ None
other_annotation name t none =
    none_asked (name, t) (λ e h. none_is_not_some (sym none ∙ ap (λ (a : Asked). annotated_name a.1) h))

pub not_annotated : (name : Text) → entity_asked (name, None) ≡ None
not_annotated name = other_annotation name None refl

pub of_bool : (name : Text) → entity_asked (name, Some bool_type) ≡ None
of_bool name = other_annotation name (Some bool_type) refl

pub of_long : (name : Text) → entity_asked (name, Some long_type) ≡ None
of_long name = other_annotation name (Some long_type) refl

pub of_string : (name : Text) → entity_asked (name, Some string_type) ≡ None
of_string name = other_annotation name (Some string_type) refl

pub of_set : (name : Text) → entity_asked (name, Some set_type) ≡ None
of_set name = other_annotation name (Some set_type) refl

pub of_record : (name : Text) → entity_asked (name, Some record_type) ≡ None
of_record name = other_annotation name (Some record_type) refl

pub of_extension : (name t : Text) → entity_asked (name, Some (extension_type t)) ≡ None
of_extension name t = other_annotation name (Some (extension_type t)) refl

-- ---- texts

same_type : (name ty : Text) (e : EntityName) → (name, Some (entity_type ty)) ≡ asked_for e → ty ≡ e.type_name
same_type name ty e h = text_same (ap (λ (a : Asked). annotated_name a.1) h)

as_quoted : (name ty : Text) (e : EntityName) → (name, Some (entity_type ty)) ≡ asked_for e → name ≡ quoted_behind ty (escaped e.id)
as_quoted name ty e h =
    ap (λ (a : Asked). a.0) h ∙ ap (λ (t : Text). quoted_behind t (escaped e.id)) (sym (same_type name ty e h))

-- a name that is no text of an entity of this type
pub not_quoted : (name ty : Text) → ((quoted : Text) → name ≡ quoted_behind ty quoted → ⊥) → entity_asked (name, Some (entity_type ty)) ≡ None
not_quoted name ty lacks =
    none_asked (name, Some (entity_type ty)) (λ e h. lacks (escaped e.id) (as_quoted name ty e h))

-- one that is can be of this entity alone
pub only_quoted : (name ty quoted : Text) → name ≡ quoted_behind ty quoted → entity_if_for (name, Some (entity_type ty)) (Some (entity_quoted ty quoted)) ≡ entity_asked (name, Some (entity_type ty))
only_quoted name ty quoted is =
    candidate_asked (name, Some (entity_type ty)) (entity_quoted ty quoted) (λ e h.
    let inside : quoted ≡ escaped e.id = quoted_same ty quoted (escaped e.id) (sym is ∙ as_quoted name ty e h) in
    let id : unescaped false quoted ≡ e.id = ap (unescaped false) inside ∙ unescaped_back e.id in
    λ i. record { type_name = same_type name ty e h i; id = id i })

-- whether a name is an entity's text says whether the unknown is that entity's
pub is_its_text : (name text : Text) (c : EntityName) → text ≡ printed_entity c → pointwise nat_eq text name ≡ asked_eq (name, Some (entity_type c.type_name)) (asked_for c)
is_its_text name text c printed =
    let a : Asked = (name, Some (entity_type c.type_name)) in
    let asks : Decides (asked_eq a (asked_for c)) (a ≡ asked_for c) = asked_eq-decides a (asked_for c) in
    let as_text : Decides (asked_eq a (asked_for c)) (text ≡ name) = (λ k. printed ∙ sym (ap (λ (x : Asked). x.0) (asks.0 k)), λ e. asks.1 (ap (λ (n : Text). (n, Some (entity_type c.type_name))) (sym e ∙ printed))) in
    one_answer (pointwise nat_eq text name) (asked_eq a (asked_for c)) (bytes_decides text name) as_text

-- what the test says of the one entity that it can be
pub told_true : (name : Text) (c d : EntityName) (b : Bool) → d ≡ c → b ≡ asked_eq (name, Some (entity_type d.type_name)) (asked_for d) → b ≡ true → Some d ≡ entity_if_for (name, Some (entity_type c.type_name)) (Some c)
told_true name c d b same told h =
    ap (λ (x : EntityName). Some x) same ∙ sym (ap (λ y. cond y (Some c) None) (sym (ap (λ (x : EntityName). asked_eq (name, Some (entity_type x.type_name)) (asked_for x)) same) ∙ sym told ∙ h))

pub told_false : (name : Text) (c d : EntityName) (b : Bool) → d ≡ c → b ≡ asked_eq (name, Some (entity_type d.type_name)) (asked_for d) → b ≡ false → None ≡ entity_if_for (name, Some (entity_type c.type_name)) (Some c)
told_false name c d b same told h =
    sym (ap (λ y. cond y (Some c) None) (sym (ap (λ (x : EntityName). asked_eq (name, Some (entity_type x.type_name)) (asked_for x)) same) ∙ sym told ∙ h))

-- an answer that names another entity, which is the same
pub re_answered : {E : Type 0} (r : Result (Option EntityUID) E) (x y : Option EntityName) → x ≡ y → IfOk r (λ o. option_map uid_name o ≡ x) → IfOk r (λ o. option_map uid_name o ≡ y)
re_answered (Ok o) x y e h = h ∙ e
re_answered (Err x) y z e h = h

-- ---- one more of a list

pub entity_added : (o : Option EntityName) (done rest : List EntityName) → (done ++ entity_before o []) ++ rest ≡ done ++ entity_before o rest
entity_added None done rest = ap (λ (es : List EntityName). es ++ rest) (append-nil done)
entity_added (Some e) done rest = append_assoc done (e ∷ []) rest

pub other_added : (o : Option EntityName) (a : Asked) (done rest : List Asked) → (done ++ asked_unless o a []) ++ rest ≡ done ++ asked_unless o a rest
other_added None a done rest = append_assoc done (a ∷ []) rest
other_added (Some e) a done rest = ap (λ (bs : List Asked). bs ++ rest) (append-nil done)

pub ruleset standing = (not_annotated, of_bool, of_long, of_string, of_set, of_record, of_extension, entity_added, other_added)
