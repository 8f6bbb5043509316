-- A map of entities, each under its text, value by value.
use Rattle.std.proofs.Common.{◌≡◌, refl, sym, ap, subst, ◌∙◌, Bool, true, false, cond, List, [], ◌∷◌, map, Option, Some, None, option_map}
use Rattle.std.specs.Cmp.Lexicographic.{same_text}
use Rattle.std.specs.Map.{lookup, KeepsOthers}
use Rattle.std.specs.Rc.{rc_str_bytes}
use Rattle.std.specs.declared.alloc.Global.{Global}
use Rattle.std.specs.declared.rc.RcStr.{RcStr}
use Rattle.std.proofs.lemmas.Bool.{or_left, or_right}
use Rattle.cedar_model.specs.Terms.{Text, EntityName, entity_literal}
use Rattle.cedar_model.specs.Values.{plain, Represented, abstract_value}
use Rattle.cedar_model.specs.Outcomes.{text_eq, entity_eq}
use Rattle.cedar_model.specs.World.{World, Extensions, Functions}
use Rattle.cedar_model.specs.Settings.{Store, Found, not_known, look_up, printed_entity, is_among}
use Rattle.cedar_model.specs.Agreement.{IsFaithful, AgreesWithFound, AgreesWithStore}
use Rattle.cedar_model.specs.Chains.{Mapping}
use Rattle.cedar_model.specs.Headline.{CompletesMap}
use Rattle.cedar_model.proofs.Printed.{injective}
use Rattle.cedar_model.proofs.Injections.{some_inj, none_is_not_some}
use Rattle.cedar_names.proofs.Among.{is_among-self, is_among-behind}
use Rattle.cedar_values.specs.Sound.{Placed}
use Rattle.cedar_requests.specs.Substitutions.{values_for}
use Rattle.cedar_unknowns.specs.Themselves.{itself, entity_values, IsItself, AreThemselves, IsCompletedByThem}
use Rattle.cedar_unknowns.specs.Valued.{with_itself, with_each}

-- ---- one more value

module _ (eq : RcStr Global → RcStr Global → Bool)
    (same : (x y : RcStr Global) → eq x y ≡ text_eq (rc_str_bytes x) (rc_str_bytes y))
    (old new : List (RcStr Global × Placed)) (key : RcStr Global) (v : Placed)
    (there : lookup (eq key) new ≡ Some v) (others : KeepsOthers eq (eq key) old new) where
  abbrev value_at : (RcStr Global → Bool) → List (RcStr Global × Placed) → Option Represented
  value_at test es = option_map (λ (p : Placed). p.what) (lookup test es)

  has_value_at : (n : Text) (b : Bool) → text_eq n (rc_str_bytes key) ≡ b
      → values_for new n ≡ cond b (Some v.what) (values_for old n)
  unfolding KeepsOthers
  has_value_at n true h =
      let is_key : n ≡ rc_str_bytes key = same_text _ _ (sym h) in
      ap (λ (m : Text). values_for new m) is_key
      ∙ ap (λ (test : RcStr Global → Bool). value_at test new) (λ i q. sym (same key q) i)
      ∙ ap (option_map (λ (p : Placed). p.what)) there
  has_value_at n false h =
      let own : (x y : RcStr Global) → text_eq n (rc_str_bytes x) ≡ true → text_eq n (rc_str_bytes y) ≡ eq x y =
      λ x y e. ap (λ (m : Text). text_eq m (rc_str_bytes y)) (same_text _ _ (sym e)) ∙ sym (same x y) in
      let apart : (x : RcStr Global) → eq key x ≡ true → text_eq n (rc_str_bytes x) ≡ false =
      λ x e. ap (λ (m : Text). text_eq n m) (sym (same_text _ _ (sym (sym (same key x) ∙ e)))) ∙ h in
      let test : RcStr Global → Bool = λ x. text_eq n (rc_str_bytes x) in
      ap (option_map (λ (p : Placed). p.what)) (others test own apart)

  pub values_for-put : (e : EntityName) → rc_str_bytes key ≡ printed_entity e → v.what ≡ itself e
      → values_for new ≡ with_itself (values_for old) e
  values_for-put e named is =
      let under : Text → Represented → Mapping = λ t u n. cond (text_eq n t) (Some u) (values_for old n) in
      (λ i n. has_value_at n (text_eq n (rc_str_bytes key)) refl i) ∙ (λ i. under (named i) (is i))

-- an empty map
pub no_values_for : (es : List (RcStr Global × Placed)) → es ≡ [] → values_for es ≡ (λ n. None)
no_values_for es empty = ap values_for empty

-- ---- each of a list

-- what is under a text is the entity whose text it is
is_under : (es : List EntityName) (n : Text) (v : Represented) (e : EntityName) → text_eq n (printed_entity e) ≡ true
    → entity_values es n ≡ Some v → v ≡ itself e
is_under [] n v e h k = absurd (none_is_not_some k)
is_under (d ∷ es) n v e h k = by (text_eq n (printed_entity d)) refl k (is_under es n v e h)
  where
    by : (b : Bool) → text_eq n (printed_entity d) ≡ b → cond b (Some (itself d)) (entity_values es n) ≡ Some v
        → (entity_values es n ≡ Some v → v ≡ itself e) → v ≡ itself e
    by true g l rest =
        let same : printed_entity d ≡ printed_entity e = sym (same_text _ _ (sym g)) ∙ same_text _ _ (sym h) in
        sym (some_inj l) ∙ ap itself (injective d e same)
    by false g l rest = rest l

-- of values that are put in one after another those of the list stand, and before those behind
abbrev or_before : Option Represented → Option Represented → Option Represented
or_before None o = o
or_before (Some v) o = Some v

before_all : (e : EntityName) (es : List EntityName) (before : Mapping) (n : Text) (o : Option Represented) (b : Bool)
    → text_eq n (printed_entity e) ≡ b → entity_values es n ≡ o
    → or_before o (cond b (Some (itself e)) (before n)) ≡ or_before (cond b (Some (itself e)) o) (before n)
before_all e es before n None true h k = refl
before_all e es before n (Some v) true h k = ap (λ (u : Represented). Some u) (is_under es n v e h k)
before_all e es before n o false h k = refl

values_behind : (before : Mapping) (es : List EntityName) (n : Text)
    → with_each before es n ≡ or_before (entity_values es n) (before n)
values_behind before [] n = refl
values_behind before (e ∷ es) n =
    values_behind (with_itself before e) es n
    ∙ before_all e es before n (entity_values es n) (text_eq n (printed_entity e)) refl refl

or_none : (o : Option Represented) → or_before o None ≡ o
or_none None = refl
or_none (Some v) = refl

pub each_is_put : (es : List EntityName) → with_each (λ n. None) es ≡ entity_values es
each_is_put es = λ i n. (values_behind (λ m. None) es n ∙ or_none (entity_values es n)) i

-- ---- completions

-- a value of the map is an entity of the list, under its text
each_value : (Such : Text → Represented → Type 0) (es : List EntityName)
    → ((e : EntityName) → is_among e es ≡ true → Such (printed_entity e) (itself e)) → (n : Text) (v : Represented)
    → entity_values es n ≡ Some v → Such n v
each_value Such [] holds n v h = absurd (none_is_not_some h)
each_value Such (d ∷ es) holds n v h =
    by (text_eq n (printed_entity d)) refl h
    (each_value Such es (λ e k. holds e (is_among-behind e (d ∷ []) es k)) n v)
  where
    by : (b : Bool) → text_eq n (printed_entity d) ≡ b → cond b (Some (itself d)) (entity_values es n) ≡ Some v
        → (entity_values es n ≡ Some v → Such n v) → Such n v
    by true g l rest =
        let here : Such (printed_entity d) (itself d) = holds d (is_among-self d es) in
        subst (λ u. Such n u) (some_inj l) (subst (λ m. Such m (itself d)) (sym (same_text _ _ (sym g))) here)
    by false g l rest = rest l

themselves_complete : (es : List EntityName) → IsCompletedByThem es (entity_values es)
themselves_complete es X ans w are = record {
  map_agrees = each_value (λ n v. w.sigma n ≡ abstract_value v) es are;
  mapped_values_are_faithful = each_value (λ n v. IsFaithful X ans v) es (λ e h. tt);
}

pub completed_by : (es : List EntityName) (m : Mapping) → m ≡ entity_values es → IsCompletedByThem es m
completed_by es m is = subst (IsCompletedByThem es) (sym is) (themselves_complete es)

pub missing_is_itself : (X : Extensions) (ans : Functions) (w : World) (store : Store) (e : EntityName)
    → look_up store e ≡ not_known → AgreesWithStore X ans w store → IsItself w e
missing_is_itself X ans w store e h agrees =
    subst (λ (f : Found). AgreesWithFound X ans w e f (w.store e)) h (agrees e)
