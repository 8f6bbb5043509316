-- Entities that are read one by one.
use Rattle.std.proofs.Common.{◌≡◌, ℕ, ◌+◌, Bool, true, false, cond, List, [], ◌∷◌, ◌++◌, Ok, Err, refl, sym, ap, ◌∙◌, append_assoc, codes}
use Rattle.std.proofs.lemmas.List.{map-append}
use Rattle.json.specs.Json.{Items}
use Rattle.cedar_model.specs.Terms.{EntityName}
use Rattle.cedar_model.specs.Settings.{is_among}
use Rattle.cedar_json_reader.specs.declared.entities.StatedEntity.{StatedEntity}
use Rattle.cedar_json_reader.specs.declared.errors.JsonError.{JsonError}
use Rattle.cedar_json_reader.specs.declared.errors.RefusalReason.TheVariants as reasons
use Rattle.cedar_json_reader.specs.Paths.{at_key, at_index}
use Rattle.cedar_json_reader.specs.Refusals.{Said, refused, under, made_of, and_then, IsRefusal}
use Rattle.cedar_json_reader.specs.SaidEntities.{SaidEntity, if_new, entities_from}
use Rattle.cedar_json_reader.specs.StatedEntities.{stated_view, stated_views}
use Rattle.cedar_json_reader.specs.Lists.{IsOneMore}
use Rattle.cedar_json_reader.specs.Evaluated.{AreAmong, SeesEntity}
use Rattle.cedar_json_reader.proofs.Refused.{none_done, refused_same, refused_made, refused_then}
use Rattle.cedar_json_reader.proofs.Among.{first_among}

pub new_same : (a b : List EntityName) (s : Said SaidEntity) → AreAmong a b → and_then (if_new a) s ≡ and_then (if_new b) s
new_same a b (Ok e) h = ap (λ c. cond c (under (at_key (codes "uid")) (refused reasons.RepeatedEntity)) (Ok e)) (h e.uid)
new_same a b (Err r) h = refl

pub no_entities : (es : List StatedEntity) (s : Said (List SaidEntity)) → es ≡ [] → s ≡ made_of (λ ds. stated_views es ++ ds) s
no_entities es s h = none_done s ∙ ap (λ (ds : List StatedEntity). made_of (λ ts. stated_views ds ++ ts) s) (sym h)

pub one_stated : (old new : List StatedEntity) (e : StatedEntity) → new ≡ old ++ e ∷ [] → stated_views new ≡ stated_views old ++ stated_view e ∷ []
one_stated old new e h = ap stated_views h ∙ map-append stated_view old (e ∷ [])

joined : (done : List SaidEntity) (e : SaidEntity) (s : Said (List SaidEntity)) → made_of (λ es. done ++ es) (made_of (λ es. e ∷ es) s) ≡ made_of (λ es. (done ++ e ∷ []) ++ es) s
joined done e (Ok es) = ap Ok (sym (append_assoc done (e ∷ []) es))
joined done e (Err r) = refl

-- an entity more is read, and the others are left
pub record Step (all : Said (List SaidEntity)) (new : List SaidEntity) (keys : List EntityName) (index : ℕ) (js : Items) : Type 0 where
  pub names : List EntityName
  pub among : AreAmong keys names
  pub left : all ≡ made_of (λ es. new ++ es) (entities_from names (index + 1) js)

pub step : (all : Said (List SaidEntity)) (done new : List SaidEntity) (keys after names : List EntityName) (index : ℕ) (js : Items) (s : Said SaidEntity) → AreAmong keys names
    → all ≡ made_of (λ es. done ++ es) (and_then (λ e. made_of (λ es. e ∷ es) (entities_from (e.uid ∷ names) (index + 1) js)) (under (at_index index) (and_then (if_new names) s)))
    → IsOneMore done (under (at_index index) (and_then (if_new keys) s)) new → SeesEntity keys s after → Step all new after index js
step all done new keys after names index js (Ok e) among is more sees = by_new (is_among e.uid keys) refl more
  where
    by_new : (b : Bool) → is_among e.uid keys ≡ b → IsOneMore done (under (at_index index) (cond b (under (at_key (codes "uid")) (refused reasons.RepeatedEntity)) (Ok e))) new → Step all new after index js
    by_new true q m = absurd (cc)
    by_new false q m =
        let same : done ++ e ∷ [] ≡ new = cc in
        let fresh : if_new names e ≡ Ok e = ap (λ c. cond c (under (at_key (codes "uid")) (refused reasons.RepeatedEntity)) (Ok e)) (sym (among e.uid) ∙ q) in
        let rest = entities_from (e.uid ∷ names) (index + 1) js in
        record {
          names = e.uid ∷ names;
          among = first_among keys after names e.uid sees among;
          left =
              is ∙ ap (λ (x : Said SaidEntity). made_of (λ es. done ++ es) (and_then (λ d. made_of (λ es. d ∷ es) (entities_from (d.uid ∷ names) (index + 1) js)) (under (at_index index) x))) fresh
              ∙ joined done e rest ∙ ap (λ (ds : List SaidEntity). made_of (λ es. ds ++ es) rest) same;
        }
step all done new keys after names index js (Err r) among is more sees = absurd (cc)

pub item_refused : (all : Said (List SaidEntity)) (done : List SaidEntity) (keys names : List EntityName) (index : ℕ) (js : Items) (s : Said SaidEntity) (e : JsonError) → AreAmong keys names
    → all ≡ made_of (λ es. done ++ es) (and_then (λ d. made_of (λ es. d ∷ es) (entities_from (d.uid ∷ names) (index + 1) js)) (under (at_index index) (and_then (if_new names) s)))
    → IsRefusal (under (at_index index) (and_then (if_new keys) s)) e → IsRefusal all e
item_refused all done keys names index js s e among is h =
    refused_same all (made_of (λ es. done ++ es) (and_then (λ d. made_of (λ es. d ∷ es) (entities_from (d.uid ∷ names) (index + 1) js)) (under (at_index index) (and_then (if_new keys) s)))) e
    (is ∙ ap (λ (x : Said SaidEntity). made_of (λ es. done ++ es) (and_then (λ d. made_of (λ es. d ∷ es) (entities_from (d.uid ∷ names) (index + 1) js)) (under (at_index index) x))) (sym (new_same keys names s among)))
    (refused_made _ _ e (refused_then _ _ e h))
