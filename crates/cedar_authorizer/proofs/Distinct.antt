-- Maps made of pairs no two of which have one id keep these as they are.
use Rattle.std.specs.Prelude.{◌≡◌, Bool, true, false, cond, ◌||◌, ◌&&◌, List, [], ◌∷◌, ◌++◌, map, Option, Some, None, if◌then◌else◌}
use Rattle.std.proofs.Common.{refl, sym, ap, ◌∙◌, append_assoc}
use Rattle.std.proofs.lemmas.Bool.{or_parts, or_from}
use Rattle.std.proofs.lemmas.List.{append-nil, map-append}
use Rattle.std.proofs.lemmas.List.Folds.{list_any-append}
use Rattle.std.specs.List.{list_any}
use Rattle.indexmap.specs.IndexMap.{insert_entry, insert_all}
use Rattle.cedar_model.specs.Terms.{Text}
use Rattle.cedar_model.specs.Outcomes.{text_eq}
use Rattle.cedar_model.specs.Policies.{Effect}
use Rattle.cedar_model.specs.Responses.{Reported}
use Rattle.cedar_model.specs.Chains.{has_effect}
use Rattle.cedar_layers.specs.declared.policies.policy.PolicyID.{PolicyID}
use Rattle.cedar_layers.specs.Policies.{policy_id_text, first_repeated, first_repeated_after}
use Rattle.cedar_authorizer.specs.responses.Kept.{is_same_id, kept}
use Rattle.cedar_authorizer.specs.responses.Rows.{Located, located_of}

-- ---- texts

-- whether the text is among these
abbrev pub is_seen : Text → List Text → Bool
is_seen t ts = list_any (text_eq t) ts

pub seen_first : (b : Bool) (t : Text) (o : Option Text) → (if b then Some t else o) ≡ None → b ≡ false
seen_first true t o h = absurd (cc)
seen_first false t o h = refl

pub seen_later : (b : Bool) (t : Text) (o : Option Text) → (if b then Some t else o) ≡ None → o ≡ None
seen_later true t o h = absurd (cc)
seen_later false t o h = h

-- each text that is not among the first is not among the second
abbrev pub Weaker : List Text → List Text → Type 0
Weaker seen less = (t : Text) → is_seen t seen ≡ false → is_seen t less ≡ false

weaker_more : (seen less : List Text) (u : Text) → Weaker seen less → Weaker (seen ++ u ∷ []) (less ++ u ∷ [])
weaker_more seen less u w t h =
    let g = sym (list_any-append (text_eq t) seen (u ∷ [])) ∙ h in
    list_any-append (text_eq t) less (u ∷ [])
    ∙ or_from (is_seen t less) (is_seen t (u ∷ [])) (w t (or_parts (is_seen t seen) (is_seen t (u ∷ [])) g).0) (or_parts (is_seen t seen) (is_seen t (u ∷ [])) g).1

pub weaker_front : (seen : List Text) (u : Text) → Weaker (seen ++ u ∷ []) seen
weaker_front seen u t h =
    (or_parts (is_seen t seen) (is_seen t (u ∷ [])) (sym (list_any-append (text_eq t) seen (u ∷ [])) ∙ h)).0

pub repeated_step : (seen ts : List Text) (t : Text) → is_seen t seen ≡ false → first_repeated_after (seen ++ t ∷ []) ts ≡ None → first_repeated_after seen (t ∷ ts) ≡ None
repeated_step seen ts t h g = ap (λ (b : Bool). if b then Some t else first_repeated_after (seen ++ t ∷ []) ts) h ∙ g

pub repeated_weaker : (seen less ts : List Text) → Weaker seen less → first_repeated_after seen ts ≡ None → first_repeated_after less ts ≡ None
repeated_weaker seen less [] w h = refl
repeated_weaker seen less (t ∷ ts) w h =
    repeated_step less ts t (w t (seen_first (is_seen t seen) t _ h))
    (repeated_weaker (seen ++ t ∷ []) (less ++ t ∷ []) ts (weaker_more seen less t w) (seen_later (is_seen t seen) t _ h))

-- ---- some of the rows

abbrev pub located_ids : List Located → List Text
located_ids ls = map (λ (l : Located). l.row.id) ls

module _ (effect : Effect) (such : Reported → Bool) where
  picked : (seen : List Text) (ls : List Located) → first_repeated_after seen (located_ids ls) ≡ None → first_repeated_after seen (located_ids (located_of effect such ls)) ≡ None
  unfolding located_of
  picked seen [] h = refl
  picked seen (l ∷ ls) h =
      let t = l.row.id in
      by (has_effect effect l.row.effect && such l.row.reported) (located_of effect such ls)
      (picked (seen ++ t ∷ []) ls (seen_later (is_seen t seen) t _ h))
    where
      by : (b : Bool) (ms : List Located) → first_repeated_after (seen ++ l.row.id ∷ []) (located_ids ms) ≡ None → first_repeated_after seen (located_ids (cond b (l ∷ ms) ms)) ≡ None
      by true ms g = repeated_step seen (located_ids ms) l.row.id (seen_first (is_seen l.row.id seen) l.row.id _ h) g
      by false ms g = repeated_weaker (seen ++ l.row.id ∷ []) seen (located_ids ms) (weaker_front seen l.row.id) g

  pub picked_distinct : (ls : List Located) → first_repeated (located_ids ls) ≡ None → first_repeated (located_ids (located_of effect such ls)) ≡ None
  picked_distinct ls h = picked [] ls h

-- ---- maps

module _ {V : Type 0} where
  abbrev pub pair_ids : List (PolicyID × V) → List Text
  pair_ids es = map (λ (e : PolicyID × V). policy_id_text e.0) es

  insert_absent : (es : List (PolicyID × V)) (k : PolicyID) (v : V) → is_seen (policy_id_text k) (pair_ids es) ≡ false → insert_entry is_same_id es k v ≡ es ++ (k, v) ∷ []
  insert_absent [] k v h = refl
  insert_absent (e ∷ es) k v h = by (text_eq (policy_id_text k) (policy_id_text e.0)) h (λ g. insert_absent es k v g)
    where
      by : (b : Bool) → (b || is_seen (policy_id_text k) (pair_ids es)) ≡ false
          → (is_seen (policy_id_text k) (pair_ids es) ≡ false → insert_entry is_same_id es k v ≡ es ++ (k, v) ∷ [])
          → (if b then (e.0, v) ∷ es else e ∷ insert_entry is_same_id es k v) ≡ e ∷ (es ++ (k, v) ∷ [])
      by true g rest = absurd (cc)
      by false g rest = ap (λ (xs : List (PolicyID × V)). e ∷ xs) (rest g)

  insert_rest : (done es : List (PolicyID × V)) → first_repeated_after (pair_ids done) (pair_ids es) ≡ None → insert_all is_same_id done es ≡ done ++ es
  insert_rest done [] h = sym (append-nil done)
  insert_rest done (e ∷ es) h =
      let t = policy_id_text e.0 in
      let later : first_repeated_after (pair_ids (done ++ e ∷ [])) (pair_ids es) ≡ None =
      ap (λ (ts : List Text). first_repeated_after ts (pair_ids es)) (map-append (λ (x : PolicyID × V). policy_id_text x.0) done (e ∷ []))
      ∙ seen_later (is_seen t (pair_ids done)) t _ h in
      ap (λ (xs : List (PolicyID × V)). insert_all is_same_id xs es) (insert_absent done e.0 e.1 (seen_first (is_seen t (pair_ids done)) t _ h))
      ∙ insert_rest (done ++ e ∷ []) es later
      ∙ append_assoc done (e ∷ []) es

  pub kept_whole : (es : List (PolicyID × V)) → first_repeated (pair_ids es) ≡ None → kept es ≡ es
  kept_whole es h = insert_rest [] es h
