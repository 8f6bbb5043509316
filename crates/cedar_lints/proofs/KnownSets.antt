-- Sets of types and of entities, name by name, and what is known after another.
use Rattle.std.proofs.Common.{◌≡◌, refl, sym, ap, ◌∙◌, Bool, true, ◌||◌, List, [], ◌∷◌, ◌++◌, map}
use Rattle.std.specs.List.{list_any}
use Rattle.std.specs.Set.{KeepsOthers}
use Rattle.cedar_model.specs.Terms.{Text, EntityName}
use Rattle.cedar_model.specs.Outcomes.{text_eq, entity_eq}
use Rattle.cedar_model.specs.Settings.{is_among}
use Rattle.cedar_names.specs.EqualityLaws.{text_eq-decides, entity_eq-decides}
use Rattle.cedar_names.specs.declared.names.EntityType.{EntityType}
use Rattle.cedar_names.specs.declared.names.EntityUID.{EntityUID}
use Rattle.cedar_names.specs.Names.{type_text, uid_name}
use Rattle.cedar_names.specs.Order.{is_tied, is_tied-by_name}
use Rattle.cedar_layers.proofs.Placing.{is_tied_type, is_tied_type-by_text}
use Rattle.cedar_lints.specs.Knowing.{Known, has_entity, has_type, with_each, with_entity, with_known, with_type}
use Rattle.cedar_lints.proofs.Putting.{asked_by_name, put_by_name}

-- those of two lists, one behind the other
pub with_each-append : (k : Known) (ms ns : List EntityName) → with_each k (ms ++ ns) ≡ with_each (with_each k ms) ns
with_each-append k [] ns = refl
with_each-append k (m ∷ ms) ns = with_each-append (with_known k m) ms ns

pub ruleset knowing = (with_each-append)

-- ---- types

pub has_type-stored : (t : EntityType) (ts : List EntityType) → list_any (is_tied_type t) ts ≡ has_type ts (type_text t)
has_type-stored t ts = asked_by_name type_text text_eq text_eq-decides is_tied_type is_tied_type-by_text t ts

pub has_type-put : (old new : List EntityType) (key : EntityType) (t : Text) → type_text key ≡ t
    → list_any (is_tied_type key) new ≡ true
    → KeepsOthers is_tied_type (is_tied_type key) old new → has_type new ≡ with_type (has_type old) t
has_type-put old new key t named there others =
    (λ i u. put_by_name type_text text_eq text_eq-decides is_tied_type is_tied_type-by_text old new key there others u
    i)
    ∙ ap (with_type (has_type old)) named

-- ---- entities

any_of_name : (n : EntityName) (us : List EntityUID) → list_any (λ (u : EntityUID). entity_eq n (uid_name u)) us
    ≡ is_among n (map uid_name us)
unfolding is_among
any_of_name n [] = refl
any_of_name n (u ∷ us) = ap (λ (b : Bool). entity_eq n (uid_name u) || b) (any_of_name n us)

pub has_entity-put : (old new : List EntityUID) (key : EntityUID) (n : EntityName) → uid_name key ≡ n
    → list_any (is_tied key) new ≡ true
    → KeepsOthers is_tied (is_tied key) old new → has_entity new ≡ with_entity (has_entity old) n
has_entity-put old new key n named there others =
    (λ i m. (sym (any_of_name m new)
    ∙ put_by_name uid_name entity_eq entity_eq-decides is_tied is_tied-by_name old new key there others m
    ∙ ap (λ (b : Bool). b || entity_eq m (uid_name key)) (any_of_name m old)) i)
    ∙ ap (with_entity (has_entity old)) named
