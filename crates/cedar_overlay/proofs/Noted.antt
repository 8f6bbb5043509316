-- What entities record as ancestors without being stored, as it is noted.
use Rattle.std.proofs.Common.{◌≡◌, get_or, refl, sym, ap, ◌∙◌, subst, Bool, true, false, ◌⊎◌, inl, inr, ⊎_elim, List, [], ◌∷◌, ◌++◌, map, Option, None, Some, Bor, if◌then◌else◌, cond, option_copied}
use Rattle.std.proofs.lemmas.List.Elements.{All-head, All-tail}
use Rattle.std.specs.List.{All}
use Rattle.std.specs.Map.{lookup, KeepsOthers}
use Rattle.std.specs.Option.{is_some}
use Rattle.cedar_model.specs.Terms.{EntityName}
use Rattle.cedar_model.specs.Outcomes.{entity_eq}
use Rattle.cedar_model.specs.Settings.{is_among}
use Rattle.cedar_model.proofs.Injections.{none_is_not_some, some_inj, false_is_not_true}
use Rattle.cedar_names.specs.EqualityLaws.{entity_eq-decides}
use Rattle.cedar_names.specs.declared.names.EntityUID.{EntityUID}
use Rattle.cedar_names.specs.Names.{uid_name}
use Rattle.cedar_names.specs.Order.{is_tied, is_tied-by_name}
use Rattle.cedar_names.proofs.Among.{is_among-none, is_among-self, is_among-one, is_among-before, is_among-behind, is_among-either}
use Rattle.cedar_layers.specs.declared.policies.entities.Entity.{Entity}
use Rattle.cedar_layers.specs.Stores.{Standing, shown, entity_ancestors}
use Rattle.cedar_layers.proofs.Stores.{lookup-by_name}
use Rattle.cedar_hierarchy.specs.Ancestry.{recorded}
use Rattle.cedar_overlay.specs.Recorded.{Recorders, recorder_of, AreAllMissing, AreRecorded, Notes}
use Rattle.cedar_overlay.specs.Adding.{IsRecorderOf}

-- ---- one name

-- nothing is put in
pub nothing_noted : (stored : Standing) (rs : Recorders) (ns : List EntityName) (of : EntityName) → ((n : EntityName) → is_among n ns ≡ true → stored n ≡ None → is_some (recorder_of rs n) ≡ true) → Notes stored rs rs ns of
nothing_noted stored rs ns of there = record {
  stay = λ n h. h;
  noted = there;
  only = λ n u h. inl h;
}

-- the store has it
pub noted-stored : (stored : Standing) (rs : Recorders) (a of : EntityName) (e : Entity) → Some e ≡ stored a → Notes stored rs rs (a ∷ []) of
noted-stored stored rs a of e h =
    nothing_noted stored rs (a ∷ []) of (λ n k none. absurd (none_is_not_some (sym none ∙ ap stored (is_among-one n a k) ∙ sym h)))

-- it is noted already
pub noted-again : (stored : Standing) (rs : Recorders) (u : EntityUID) (of : EntityName) → is_some (lookup (is_tied u) rs) ≡ true → Notes stored rs rs (uid_name u ∷ []) of
noted-again stored rs u of there =
    let here : is_some (recorder_of rs (uid_name u)) ≡ true = ap is_some (sym (lookup-by_name u rs)) ∙ there in
    nothing_noted stored rs (uid_name u ∷ []) of (λ n k none. ap (λ (m : EntityName). is_some (recorder_of rs m)) (is_among-one n (uid_name u) k) ∙ here)

-- it is put in
module _ (old new : Recorders) (key by : EntityUID) (there : lookup (is_tied key) new ≡ Some by) (others : KeepsOthers is_tied (is_tied key) old new) where
  recorder_at : (n : EntityName) (b : Bool) → entity_eq n (uid_name key) ≡ b → recorder_of new n ≡ (if b then Some by else recorder_of old n)
  unfolding KeepsOthers
  recorder_at n true h =
      let same : n ≡ uid_name key = (entity_eq-decides n (uid_name key)).0 h in
      ap (recorder_of new) same ∙ sym (lookup-by_name key new) ∙ there
  recorder_at n false h =
      let own : (x y : EntityUID) → entity_eq n (uid_name x) ≡ true → entity_eq n (uid_name y) ≡ is_tied x y = λ x y e. ap (λ (m : EntityName). entity_eq m (uid_name y)) ((entity_eq-decides n (uid_name x)).0 e) ∙ sym (is_tied-by_name x y) in
      let apart : (u : EntityUID) → is_tied key u ≡ true → entity_eq n (uid_name u) ≡ false = λ u e. ap (λ (m : EntityName). entity_eq n m) (sym ((entity_eq-decides (uid_name key) (uid_name u)).0 (sym (is_tied-by_name key u) ∙ e))) ∙ h in
      others (λ (u : EntityUID). entity_eq n (uid_name u)) own apart

  -- what is noted of one name
  record NotesAt (a of n : EntityName) : Type 0 where
    stay : is_some (recorder_of old n) ≡ true → is_some (recorder_of new n) ≡ true
    noted : is_among n (a ∷ []) ≡ true → is_some (recorder_of new n) ≡ true
    only : (u : EntityUID) → recorder_of new n ≡ Some u → (recorder_of old n ≡ Some u) ⊎ ((is_among n (a ∷ []) ≡ true) × (uid_name u ≡ of))

  notes_at : (a of n : EntityName) (b : Bool) → uid_name key ≡ a → uid_name by ≡ of → entity_eq n (uid_name key) ≡ b → NotesAt a of n
  notes_at a of n true is_a is_of h =
      let put : recorder_of new n ≡ Some by = recorder_at n true h in
      let same : n ≡ a = (entity_eq-decides n (uid_name key)).0 h ∙ is_a in
      let among : is_among n (a ∷ []) ≡ true = ap (λ (m : EntityName). is_among m (a ∷ [])) same ∙ is_among-self a [] in
      record {
        stay = λ k. ap is_some put;
        noted = λ k. ap is_some put;
        only = λ u k. inr (among, ap uid_name (sym (some_inj (sym put ∙ k))) ∙ is_of);
      }
  notes_at a of n false is_a is_of h =
      let kept : recorder_of new n ≡ recorder_of old n = recorder_at n false h in
      let other : is_among n (a ∷ []) ≡ true → ⊥ = λ k. false_is_not_true (sym h ∙ (entity_eq-decides n (uid_name key)).1 (is_among-one n a k ∙ sym is_a)) in
      record {
        stay = λ k. ap is_some kept ∙ k;
        noted = λ k. absurd (other k);
        only = λ u k. inl (sym kept ∙ k);
      }

  pub noted-put : (stored : Standing) (a of : EntityName) → uid_name key ≡ a → uid_name by ≡ of → Notes stored old new (a ∷ []) of
  noted-put stored a of is_a is_of =
      let at : (n : EntityName) → NotesAt a of n = λ n. notes_at a of n (entity_eq n (uid_name key)) is_a is_of refl in
      record {
        stay = λ n. (at n).stay;
        noted = λ n k none. (at n).noted k;
        only = λ n. (at n).only;
      }

-- ---- names one after another

pub noted_more : (stored : Standing) (old mid new : Recorders) (ns : List EntityName) (m of : EntityName) → Notes stored old mid ns of → Notes stored mid new (m ∷ []) of → Notes stored old new (ns ++ m ∷ []) of
noted_more stored old mid new ns m of a b = record {
  stay = λ n h. b.stay n (a.stay n h);
  noted = λ n h none. ⊎_elim (λ k. b.stay n (a.noted n k none)) (λ k. b.noted n k none) (is_among-either n ns (m ∷ []) h);
  only = λ n u h. ⊎_elim (λ k. ⊎_elim (λ l. inl l) (λ l. inr (before n u l)) (a.only n u k)) (λ l. inr (behind n u l)) (b.only n u h);
} where
  before : (n : EntityName) (u : EntityUID) → (is_among n ns ≡ true) × (uid_name u ≡ of) → (is_among n (ns ++ m ∷ []) ≡ true) × (uid_name u ≡ of)
  before n u l = (is_among-before n ns (m ∷ []) l.0, l.1)

  behind : (n : EntityName) (u : EntityUID) → (is_among n (m ∷ []) ≡ true) × (uid_name u ≡ of) → (is_among n (ns ++ m ∷ []) ≡ true) × (uid_name u ≡ of)
  behind n u l = (is_among-behind n ns (m ∷ []) l.0, l.1)

-- ---- entities one after another

abbrev pub Listed : Type 0
Listed = List (EntityUID × Bor Entity)

-- all that they record
abbrev pub recorded_names : Listed → List EntityName
recorded_names [] = []
recorded_names (e ∷ es) = map uid_name (entity_ancestors e.1.now) ++ recorded_names es

recorded_by : (b : Bool) (n : EntityName) (r : Bor Entity) (o : Option (Bor Entity)) (ns : List EntityName) → (is_among n (recorded (option_copied o)) ≡ true → is_among n ns ≡ true) → is_among n (recorded (option_copied (cond b (Some r) o))) ≡ true → is_among n (map uid_name (entity_ancestors r.now) ++ ns) ≡ true
recorded_by true n r o ns later h = is_among-before n (map uid_name (entity_ancestors r.now)) ns h
recorded_by false n r o ns later h = is_among-behind n (map uid_name (entity_ancestors r.now)) ns (later h)

pub all_are_recorded : (es : Listed) (n k : EntityName) → is_among n (recorded (shown es k)) ≡ true → is_among n (recorded_names es) ≡ true
all_are_recorded [] n k h = absurd (is_among-none n h)
all_are_recorded (e ∷ es) n k h =
    recorded_by (entity_eq k (uid_name e.0)) n e.1 (lookup (λ (u : EntityUID). entity_eq k (uid_name u)) es) (recorded_names es) (all_are_recorded es n k) h

-- what is noted, and what is left
pub record AreNoted (stored : Standing) (rs : Recorders) (left : Listed) : Type 0 where
  pub covered : (n k : EntityName) → stored n ≡ None → is_among n (recorded (stored k)) ≡ true → (is_some (recorder_of rs n) ≡ true) ⊎ (is_among n (recorded_names left) ≡ true)
  pub right : AreRecorded stored rs
  pub found : All (λ e. stored (uid_name e.0) ≡ Some e.1.now) left

shown_at : (all : Listed) (e : EntityUID × Bor Entity) → lookup (is_tied e.0) all ≡ Some e.1 → shown all (uid_name e.0) ≡ Some e.1.now
shown_at all e h = ap option_copied (sym (lookup-by_name e.0 all) ∙ h)

pub noted_none : (stored : Standing) (rs : Recorders) (all left : Listed) → shown all ≡ stored → left ≡ all → rs ≡ [] → All (λ e. lookup (is_tied e.0) all ≡ Some e.1) all → AreNoted stored rs left
noted_none stored rs all left same is none found =
    let there : All (λ e. stored (uid_name e.0) ≡ Some e.1.now) all = λ i d h. (λ j. sym same j (uid_name (get_or all i d).0)) ∙ shown_at all (get_or all i d) (found i d h) in
    let claim : Listed → Type 0 = AreNoted stored rs in
    subst claim (sym is) (record {
      covered = λ n k miss h. inr (all_are_recorded all n k ((λ j. is_among n (recorded (same j k))) ∙ h));
      right = λ n u h. absurd (none_is_not_some (sym (ap (λ (qs : Recorders). recorder_of qs n) none) ∙ h));
      found = there;
    })

pub noted_next : (stored : Standing) (old new : Recorders) (left rest : Listed) (u : EntityUID) (r : Bor Entity) (ns : List EntityName) → left ≡ (u, r) ∷ rest → ns ≡ map uid_name (entity_ancestors r.now) → Notes stored old new ns (uid_name u) → AreNoted stored old left → AreNoted stored new rest
noted_next stored old new left rest u r ns next own notes before =
    let claim : Listed → Type 0 = AreNoted stored old in
    let here : AreNoted stored old ((u, r) ∷ rest) = subst claim next before in
    let at : stored (uid_name u) ≡ Some r.now = All-head (λ e. stored (uid_name e.0) ≡ Some e.1.now) (u, r) rest here.found in
    record {
      covered = λ n k miss h. ⊎_elim (λ l. inl (notes.stay n l)) (λ l. ⊎_elim (λ m. inl (notes.noted n (ap (is_among n) own ∙ m) miss)) (λ m. inr m) (is_among-either n (map uid_name (entity_ancestors r.now)) (recorded_names rest) l)) (here.covered n k miss h);
      right = λ n v h. ⊎_elim (λ l. here.right n v l) (λ l. ap (λ (m : EntityName). is_among n (recorded (stored m))) l.1 ∙ ap (λ (o : Option Entity). is_among n (recorded o)) at ∙ ap (is_among n) (sym own) ∙ l.0) (notes.only n v h);
      found = All-tail (λ e. stored (uid_name e.0) ≡ Some e.1.now) (u, r) rest here.found;
    }

pub noted_all : (stored : Standing) (rs : Recorders) (left : Listed) → left ≡ [] → AreNoted stored rs left → AreAllMissing stored rs
noted_all stored rs left none a = λ n k miss h.
    ⊎_elim (λ l. l) (λ l. absurd (is_among-none n (sym (ap (λ (es : Listed). is_among n (recorded_names es)) none) ∙ l))) (a.covered n k miss h)

-- ---- what is asked of them

recorder_by : (stored : Standing) (rs : Recorders) (n : EntityName) (o : Option EntityUID) → AreAllMissing stored rs → AreRecorded stored rs → recorder_of rs n ≡ o → IsRecorderOf stored n o
recorder_by stored rs n (Some u) all right h = right n u h
recorder_by stored rs n None all right h = λ k miss. by k miss (is_among n (recorded (stored k))) refl
  where
    by : (k : EntityName) → stored n ≡ None → (b : Bool) → is_among n (recorded (stored k)) ≡ b → is_among n (recorded (stored k)) ≡ false
    by k miss true l = absurd (false_is_not_true (sym (ap is_some h) ∙ all n k miss l))
    by k miss false l = l

pub is_recorder : (stored : Standing) (rs : Recorders) (u : EntityUID) (o : Option EntityUID) → AreAllMissing stored rs → AreRecorded stored rs → o ≡ lookup (is_tied u) rs → IsRecorderOf stored (uid_name u) o
is_recorder stored rs u o all right h =
    recorder_by stored rs (uid_name u) o all right (sym (h ∙ lookup-by_name u rs))
