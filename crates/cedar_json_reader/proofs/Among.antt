-- Which entities are among others.
use Rattle.std.proofs.Common.{◌≡◌, refl, sym, ap, ◌∙◌, Bool, true, false, ◌&&◌, ◌||◌, List, [], ◌∷◌, ◌++◌}
use Rattle.std.proofs.lemmas.Bool.{and_parts}
use Rattle.std.specs.Cmp.Lexicographic.{same_text}
use Rattle.std.specs.List.{list_any}
use Rattle.std.specs.Set.{KeepsOthers}
use Rattle.cedar_model.specs.Terms.{EntityName}
use Rattle.cedar_model.specs.Outcomes.{text_eq, entity_eq}
use Rattle.cedar_model.specs.Settings.{is_among}
use Rattle.cedar_model.specs.lemmas.Sets.{or_swap}
use Rattle.cedar_names.specs.EqualityLaws.{entity_eq-decides}
use Rattle.cedar_names.specs.declared.names.EntityUID.{EntityUID}
use Rattle.cedar_names.specs.Names.{uid_name}
use Rattle.cedar_names.specs.Order.{is_tied, is_tied-by_name}
use Rattle.cedar_json_reader.specs.StatedEntities.{names_of}
use Rattle.cedar_json_reader.specs.Evaluated.{AreAmong, PutsName}

among_any : (n : EntityName) (us : List EntityUID) → is_among n (names_of us) ≡ list_any (λ u. entity_eq n (uid_name u)) us
unfolding is_among
among_any n [] = refl
among_any n (u ∷ us) = λ i. entity_eq n (uid_name u) || among_any n us i

-- whether a set has the uid of a name is whether the name is among its
pub has_name : (u : EntityUID) (us : List EntityUID) → list_any (is_tied u) us ≡ is_among (uid_name u) (names_of us)
has_name u us = (λ i. list_any (λ (v : EntityUID). is_tied-by_name u v i) us) ∙ sym (among_any (uid_name u) us)

-- the names behind an insert
module _ (old new : List EntityUID) (k : EntityUID) (there : list_any (is_tied k) new ≡ true) (others : KeepsOthers is_tied (is_tied k) old new) where
  put_at : (n : EntityName) (b : Bool) → entity_eq n (uid_name k) ≡ b → is_among n (names_of new) ≡ (b || is_among n (names_of old))
  unfolding KeepsOthers
  put_at n true h = ap (λ (m : EntityName). is_among m (names_of new)) ((entity_eq-decides n (uid_name k)).0 h) ∙ sym (has_name k new) ∙ there
  put_at n false h =
      let own : (x y : EntityUID) → entity_eq n (uid_name x) ≡ true → entity_eq n (uid_name y) ≡ is_tied x y = λ x y e. ap (λ (m : EntityName). entity_eq m (uid_name y)) ((entity_eq-decides n (uid_name x)).0 e) ∙ sym (is_tied-by_name x y) in
      let apart : (u : EntityUID) → is_tied k u ≡ true → entity_eq n (uid_name u) ≡ false = λ u e. ap (λ (m : EntityName). entity_eq n m) (sym ((entity_eq-decides (uid_name k) (uid_name u)).0 (sym (is_tied-by_name k u) ∙ e))) ∙ h in
      among_any n new ∙ others (λ (u : EntityUID). entity_eq n (uid_name u)) own apart ∙ sym (among_any n old)

  pub put_among : PutsName (names_of old) (uid_name k) (names_of new)
  put_among = λ n. put_at n (entity_eq n (uid_name k)) refl

last_among : (n e : EntityName) (es : List EntityName) → (entity_eq n e || is_among n es) ≡ is_among n (es ++ e ∷ [])
unfolding is_among
last_among n e [] = refl
last_among n e (d ∷ es) = or_swap (entity_eq n e) (entity_eq n d) (is_among n es) ∙ ap (λ b. entity_eq n d || b) (last_among n e es)

-- what is put into the set goes to the end of the list
pub one_more_among : (old new done : List EntityName) (e : EntityName) → PutsName old e new → AreAmong old done → AreAmong new (done ++ e ∷ [])
one_more_among old new done e put among n =
    put n ∙ ap (λ b. entity_eq n e || b) (among n) ∙ last_among n e done

-- or to its front
pub first_among : (old new seen : List EntityName) (e : EntityName) → PutsName old e new → AreAmong old seen → AreAmong new (e ∷ seen)
unfolding is_among
first_among old new seen e put among n = put n ∙ ap (λ b. entity_eq n e || b) (among n)
