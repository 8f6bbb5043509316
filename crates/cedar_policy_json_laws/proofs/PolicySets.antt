-- Sets of policies read back.
use Rattle.std.proofs.Common.{◌≡◌, ℕ, ◌+◌, Bool, true, false, ◌||◌, List, [], ◌∷◌, ◌++◌, map, Option, Some, None, Ok, refl, sym, ap, ◌∙◌, subst, append_assoc, append-nil, codes}
use Rattle.std.specs.Prelude.{⊤, if◌then◌else◌}
use Rattle.std.specs.List.{list_any}
use Rattle.std.proofs.lemmas.List.{map-append}
use Rattle.std.proofs.lemmas.List.Folds.{list_any-append}
use Rattle.json.specs.Json.{Json}
use Rattle.json.specs.Value.{items_of}
use Rattle.cedar_model.specs.Terms.{Text, EntityName, principal_slot, resource_slot}
use Rattle.cedar_model.specs.Outcomes.{text_eq}
use Rattle.cedar_model.specs.World.{Slots}
use Rattle.cedar_model.proofs.Injections.{none_is_not_some}
use Rattle.cedar_functions.specs.Functions.{Knowledge}
use Rattle.cedar_layers.specs.Policies.{PolicyView, policy_ids, first_repeated_after}
use Rattle.cedar_json_writer.specs.Texts.{object_of}
use Rattle.cedar_json_writer.specs.Trees.{members_of}
use Rattle.cedar_json_writer.specs.Written.{written_uid}
use Rattle.cedar_policy_json_reader.specs.declared.errors.RefusalReason.TheVariants as reasons
use Rattle.cedar_policy_json_reader.specs.Expressions.{Reading, expression_said}
use Rattle.cedar_policy_json_reader.specs.Leaves.{entity_of}
use Rattle.cedar_policy_json_reader.specs.Paths.{at_key, at_index}
use Rattle.cedar_policy_json_reader.specs.Policies.{policy_by}
use Rattle.cedar_policy_json_reader.specs.Refusals.{Said, refused, under, before, both_said, made_of, and_then}
use Rattle.cedar_policy_json_reader.specs.Scopes.{plain_uid_said}
use Rattle.cedar_policy_json_reader.specs.Words.{is_name}
use Rattle.cedar_policy_json_writer.specs.Links.{Link}
use Rattle.cedar_policy_json_writer.specs.Policies.{policy_json, template_json, with_slots}
use Rattle.cedar_policy_json_writer.specs.PolicySets.{value_members, values_json, link_json, policy_set_json}
use Rattle.cedar_policy_set_reader.specs.PolicySets.{policy_of, members_from, set_made, set_of_all, with_linked, with_links, with_templates, policy_set_said}
use Rattle.cedar_template_links.specs.Linking.{has_id}
use Rattle.cedar_template_links.specs.Links.{LinkView, principal_key, resource_key, values_said, link_of, link_said, links_from}
use Rattle.cedar_policy_json_laws.specs.Policies.{IsReadablePolicy}
use Rattle.cedar_policy_json_laws.specs.PolicySets.{AreReadable, link_read, IsReadableValue, AreReadableLinks, IsReadableSet, set_read, PolicySetReadsBack}
use Rattle.cedar_policy_json_laws.proofs.Leaves.{name_back}
use Rattle.cedar_policy_json_laws.proofs.Policies.{policy_reads_back, template_reads_back}

-- ---- ids that don't come twice

neither : (a b : Bool) → (a || b) ≡ false → (a ≡ false) × (b ≡ false)
neither false b h = (refl, h)
neither true b h = (h, absurd (cc))

not_found : {T : Type 0} (b : Bool) (t : T) (o : Option T) → (if b then Some t else o) ≡ None → (b ≡ false) × (o ≡ None)
not_found true t o h = absurd (none_is_not_some (sym h))
not_found false t o h = (refl, h)

front_apart : (seen ts us : List Text) → first_repeated_after seen (ts ++ us) ≡ None → first_repeated_after seen ts ≡ None
front_apart seen [] us h = refl
front_apart seen (t ∷ ts) us h =
    let step : (list_any (text_eq t) seen ≡ false) × (first_repeated_after (seen ++ t ∷ []) (ts ++ us) ≡ None) = not_found (list_any (text_eq t) seen) t (first_repeated_after (seen ++ t ∷ []) (ts ++ us)) h in
    ap (λ (b : Bool). if b then Some t else first_repeated_after (seen ++ t ∷ []) ts) step.0
    ∙ front_apart (seen ++ t ∷ []) ts us step.1

back_apart : (seen ts us : List Text) → first_repeated_after seen (ts ++ us) ≡ None → first_repeated_after (seen ++ ts) us ≡ None
back_apart seen [] us h = ap (λ (xs : List Text). first_repeated_after xs us) (append-nil seen) ∙ h
back_apart seen (t ∷ ts) us h =
    let step : (list_any (text_eq t) seen ≡ false) × (first_repeated_after (seen ++ t ∷ []) (ts ++ us) ≡ None) = not_found (list_any (text_eq t) seen) t (first_repeated_after (seen ++ t ∷ []) (ts ++ us)) h in
    ap (λ (xs : List Text). first_repeated_after xs us) (sym (append_assoc seen (t ∷ []) ts))
    ∙ back_apart (seen ++ t ∷ []) ts us step.1

has_id_is : (k : Text) (ps : List PolicyView) → has_id k ps ≡ list_any (text_eq k) (policy_ids ps)
has_id_is k [] = refl
has_id_is k (p ∷ ps) = ap (λ (b : Bool). text_eq k p.id || b) (has_id_is k ps)

-- none of them has the id of one before it, or of one of the others
abbrev AreNew : List PolicyView → List PolicyView → List PolicyView → Type 0
AreNew others done [] = ⊤
AreNew others done (p ∷ ps) = ((has_id p.id done || has_id p.id others) ≡ false) × AreNew others (done ++ p ∷ []) ps

is_new : (k : Text) (others done : List PolicyView) → list_any (text_eq k) (policy_ids others ++ policy_ids done) ≡ false → (has_id k done || has_id k others) ≡ false
is_new k others done h =
    let apart : (list_any (text_eq k) (policy_ids others) ≡ false) × (list_any (text_eq k) (policy_ids done) ≡ false) =
    neither (list_any (text_eq k) (policy_ids others)) (list_any (text_eq k) (policy_ids done)) (sym (list_any-append (text_eq k) (policy_ids others) (policy_ids done)) ∙ h) in
    (λ i. (has_id_is k done ∙ apart.1) i || (has_id_is k others ∙ apart.0) i)

are_new : (others done ps : List PolicyView) → first_repeated_after (policy_ids others ++ policy_ids done) (policy_ids ps) ≡ None → AreNew others done ps
are_new others done [] h = tt
are_new others done (p ∷ ps) h =
    let step : (list_any (text_eq p.id) (policy_ids others ++ policy_ids done) ≡ false) × (first_repeated_after ((policy_ids others ++ policy_ids done) ++ p.id ∷ []) (policy_ids ps) ≡ None) =
    not_found (list_any (text_eq p.id) (policy_ids others ++ policy_ids done)) p.id (first_repeated_after ((policy_ids others ++ policy_ids done) ++ p.id ∷ []) (policy_ids ps)) h in
    let longer : policy_ids others ++ policy_ids (done ++ p ∷ []) ≡ (policy_ids others ++ policy_ids done) ++ p.id ∷ [] =
    ap (λ (ids : List Text). policy_ids others ++ ids) (map-append (λ (q : PolicyView). q.id) done (p ∷ [])) ∙ sym (append_assoc (policy_ids others) (policy_ids done) (p.id ∷ [])) in
    (is_new p.id others done step.0, are_new others (done ++ p ∷ []) ps (ap (λ (ids : List Text). first_repeated_after ids (policy_ids ps)) longer ∙ step.1))

-- ---- policies, or templates, under their ids

module _ (is_open : Bool) (says : Reading) (json_of : PolicyView → Json) where
  abbrev AreRead : List PolicyView → Type 0
  AreRead [] = ⊤
  AreRead (p ∷ ps) = (policy_by is_open says p.id (json_of p) ≡ Ok p) × AreRead ps

  members_back : (others done ps : List PolicyView) → AreRead ps → AreNew others done ps
      → members_from is_open says others done (members_of (map (λ p. (p.id, json_of p)) ps)) ≡ Ok (done ++ ps)
  members_back others done [] read new = ap (λ (qs : List PolicyView). Ok qs) (sym (append-nil done))
  members_back others done (p ∷ ps) read new =
      ap (λ (b : Bool). and_then (λ q. members_from is_open says others (done ++ q ∷ []) (members_of (map (λ p. (p.id, json_of p)) ps))) (under (at_key p.id) (and_then (policy_of is_open says (json_of p)) (if b then refused reasons.RepeatedKey else Ok p.id)))) new.0
      ∙ ap (λ (s : Said PolicyView). and_then (λ q. members_from is_open says others (done ++ q ∷ []) (members_of (map (λ p. (p.id, json_of p)) ps))) (under (at_key p.id) s)) read.0
      ∙ members_back others (done ++ p ∷ []) ps read.1 new.1
      ∙ ap (λ (qs : List PolicyView). Ok qs) (append_assoc done (p ∷ []) ps)

policies_read : (k : Knowledge) (n : ℕ) (ps : List PolicyView) → AreReadable false k n ps → AreRead false (expression_said k n) policy_json ps
policies_read k n [] h = tt
policies_read k n (p ∷ ps) h = (policy_reads_back p k n h.0 h.1, policies_read k n ps h.2)

templates_read : (k : Knowledge) (n : ℕ) (ts : List PolicyView) → AreReadable true k n ts → AreRead true (expression_said k n) template_json ts
templates_read k n [] h = tt
templates_read k n (t ∷ ts) h =
    (template_reads_back t k n (subst (λ (s : Slots). IsReadablePolicy true k n (with_slots t s)) h.0 h.1) ∙ ap (λ (s : Slots). Ok (with_slots t s)) (sym h.0), templates_read k n ts h.2)

-- ---- links

uid_back : (e : EntityName) → is_name e.type_name ≡ true → plain_uid_said (written_uid e) ≡ Ok e
uid_back e h = ap (λ (s : Said Text). made_of entity_of (both_said (under (at_key (codes "type")) s) (Ok e.id))) (name_back e.type_name h)

values_back : (p r : Option EntityName) → IsReadableValue p → IsReadableValue r
    → values_said plain_uid_said (object_of (value_members principal_slot p ++ value_members resource_slot r)) ≡ Ok (p, r)
values_back None None h g = refl
values_back (Some e) None h g = λ i. both_said (under (at_key principal_key) (made_of Some (uid_back e h i))) (Ok None)
values_back None (Some e) h g = λ i. both_said (Ok None) (under (at_key resource_key) (made_of Some (uid_back e g i)))
values_back (Some d) (Some e) h g =
    λ i. both_said (under (at_key principal_key) (made_of Some (uid_back d h i))) (under (at_key resource_key) (made_of Some (uid_back e g i)))

link_back : (l : Link) → IsReadableValue (l.values principal_slot) → IsReadableValue (l.values resource_slot) → link_said (link_json l) ≡ Ok (link_read l)
link_back l h g =
    λ i. made_of (link_of (record { template_id = l.template_id; new_id = l.new_id; values = values_json l.values })) (under (at_key (codes "values")) (values_back (l.values principal_slot) (l.values resource_slot) h g i))

links_back : (m : ℕ) (ls : List Link) → AreReadableLinks ls → links_from m (items_of (map link_json ls)) ≡ Ok (map link_read ls)
links_back m [] h = refl
links_back m (l ∷ ls) h = λ i. before (under (at_index m) (link_back l h.0 h.1 i)) (links_back (m + 1) ls h.2 i)

-- ---- all of it

module _ (k : Knowledge) (n : ℕ) (ps ts : List PolicyView) (ls : List Link) (made : List PolicyView) (h : IsReadableSet k n ps ts ls made) where
  ids_apart : first_repeated_after [] (policy_ids ps ++ policy_ids ts) ≡ None
  ids_apart = ap (first_repeated_after []) (sym (map-append (λ (q : PolicyView). q.id) ps ts)) ∙ h.templates_apart

  policies_new : AreNew [] [] ps
  policies_new = are_new [] [] ps (front_apart [] (policy_ids ps) (policy_ids ts) ids_apart)

  templates_new : AreNew ps [] ts
  templates_new =
      are_new ps [] ts (ap (λ (ids : List Text). first_repeated_after ids (policy_ids ts)) (append-nil (policy_ids ps)) ∙ back_apart [] (policy_ids ps) (policy_ids ts) ids_apart)

  whole_set_back : policy_set_said k n (policy_set_json ps ts ls) ≡ Ok (set_read ps ts ls made)
  whole_set_back =
      ap (λ (s : Said (List PolicyView)). and_then (with_templates (expression_said k n) (policy_set_json ps ts ls)) (under (at_key (codes "staticPolicies")) s)) (members_back false (expression_said k n) policy_json [] [] ps (policies_read k n ps h.policies_are) policies_new)
      ∙ ap (λ (s : Said (List PolicyView)). and_then (with_links (policy_set_json ps ts ls) ps) (under (at_key (codes "templates")) s)) (members_back true (expression_said k n) template_json ps [] ts (templates_read k n ts h.templates_are) templates_new)
      ∙ ap (λ (s : Said (List LinkView)). and_then (with_linked ps ts) (under (at_key (codes "templateLinks")) s)) (links_back 0 ls h.links_are)
      ∙ ap (λ (s : Said (List PolicyView)). and_then (set_of_all ps ts (map link_read ls)) (under (at_key (codes "templateLinks")) s)) h.links_make
      ∙ ap (λ (o : Option Text). set_made ts (map link_read ls) (ps ++ made) o) h.policies_apart

pub policy_set_reads_back : (ps ts : List PolicyView) (ls : List Link) → PolicySetReadsBack ps ts ls
policy_set_reads_back ps ts ls k n made h = whole_set_back k n ps ts ls made h
