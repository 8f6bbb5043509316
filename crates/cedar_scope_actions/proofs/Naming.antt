-- A set of uids, name by name, while names are put in.
use Rattle.std.proofs.Common.{◌≡◌, refl, sym, ap, ◌∙◌, subst, Bool, true, false, ◌||◌, List, [], ◌∷◌, map, Option, None, Some, Result}
use Rattle.std.proofs.Math.Bool.{or-false, or-true, or_assoc}
use Rattle.std.specs.Borrow.{Bor}
use Rattle.std.specs.List.{list_any}
use Rattle.std.specs.Prelude.{OnOk}
use Rattle.std.specs.Set.{KeepsOthers}
use Rattle.std.specs.declared.alloc.AllocError.{AllocError}
use Rattle.std.specs.declared.alloc.Global.{Global}
use Rattle.std.specs.declared.vec.Vec.{Vec}
use Rattle.cedar_model.specs.Terms.{EntityName}
use Rattle.cedar_model.specs.Outcomes.{entity_eq}
use Rattle.cedar_model.specs.Settings.{is_among}
use Rattle.cedar_names.specs.EqualityLaws.{entity_eq-decides}
use Rattle.cedar_names.specs.declared.names.EntityUID.{EntityUID}
use Rattle.cedar_names.specs.Names.{uid_name}
use Rattle.cedar_names.specs.Order.{is_tied, is_tied-by_name}
use Rattle.cedar_layers.specs.Policies.{PolicyView}
use Rattle.cedar_layers.specs.Scopes.{asked_entities, names_at, names_found}
use Rattle.cedar_layers.proofs.Stores.{list_any-uids}
use Rattle.cedar_scope_actions.specs.Named.{those, actions_named, is_named_action}

-- a uid passes the test for a name where the name is among the uids' names
any_of_name : (n : EntityName) (us : List EntityUID) → list_any (λ (u : EntityUID). entity_eq n (uid_name u)) us ≡ is_among n (map uid_name us)
unfolding is_among
any_of_name n [] = refl
any_of_name n (u ∷ us) = ap (λ (b : Bool). entity_eq n (uid_name u) || b) (any_of_name n us)

-- one more is put in
module _ (old new : List EntityUID) (key : EntityUID) (there : list_any (is_tied key) new ≡ true) (others : KeepsOthers is_tied (is_tied key) old new) where
  put_at : (n : EntityName) (b : Bool) → entity_eq n (uid_name key) ≡ b → is_among n (map uid_name new) ≡ (is_among n (map uid_name old) || b)
  unfolding KeepsOthers
  put_at n true h =
      let same : n ≡ uid_name key = (entity_eq-decides n (uid_name key)).0 h in
      ap (λ (m : EntityName). is_among m (map uid_name new)) same ∙ sym (list_any-uids key new) ∙ there ∙ sym (or-true (is_among n (map uid_name old)))
  put_at n false h =
      let own : (x y : EntityUID) → entity_eq n (uid_name x) ≡ true → entity_eq n (uid_name y) ≡ is_tied x y = λ x y e. ap (λ (m : EntityName). entity_eq m (uid_name y)) ((entity_eq-decides n (uid_name x)).0 e) ∙ sym (is_tied-by_name x y) in
      let apart : (u : EntityUID) → is_tied key u ≡ true → entity_eq n (uid_name u) ≡ false = λ u e. ap (λ (m : EntityName). entity_eq n m) (sym ((entity_eq-decides (uid_name key) (uid_name u)).0 (sym (is_tied-by_name key u) ∙ e))) ∙ h in
      sym (any_of_name n new) ∙ others (λ (u : EntityUID). entity_eq n (uid_name u)) own apart ∙ any_of_name n old ∙ sym (or-false (is_among n (map uid_name old)))

  pub put_one : (uid : EntityUID) → uid_name key ≡ uid_name uid → (n : EntityName) → is_among n (map uid_name new) ≡ (is_among n (map uid_name old) || entity_eq n (uid_name uid))
  put_one uid same n =
      put_at n (entity_eq n (uid_name key)) refl ∙ ap (λ (m : EntityName). is_among n (map uid_name old) || entity_eq n m) same

-- one is passed, and the others are left
pub passes_one : (n : EntityName) (acc after all : Bool) (u : Bor EntityUID) (left rest : List (Bor EntityUID)) → left ≡ u ∷ rest → after ≡ (acc || entity_eq n (uid_name u.now)) → (acc || is_among n (names_at left)) ≡ all → (after || is_among n (names_at rest)) ≡ all
unfolding is_among
passes_one n acc after all u left rest is more so =
    ap (λ (b : Bool). b || is_among n (names_at rest)) more
    ∙ or_assoc acc (entity_eq n (uid_name u.now)) (is_among n (names_at rest))
    ∙ ap (λ (us : List (Bor EntityUID)). acc || is_among n (names_at us)) (sym is) ∙ so

pub passed_all : (n : EntityName) (acc all : Bool) (left : List (Bor EntityUID)) → left ≡ [] → (acc || is_among n (names_at left)) ≡ all → acc ≡ all
unfolding is_among
passed_all n acc all left none so =
    sym (or-false acc) ∙ ap (λ (us : List (Bor EntityUID)). acc || is_among n (names_at us)) (sym none) ∙ so

-- a scope that asks for no action names none
pub names_none : (p : PolicyView) (o : Option (Vec (Bor EntityUID) Global)) (n : EntityName) (acc : Bool) → names_found o ≡ asked_entities p.slots p.action_constraint → o ≡ None → acc ≡ (acc || is_among n (actions_named p))
unfolding is_among
names_none p o n acc asked none =
    sym (or-false acc)
    ∙ ap (λ (q : Option (Vec (Bor EntityUID) Global)). acc || is_among n (those (names_found q))) (sym none)
    ∙ ap (λ (q : Option (List EntityName)). acc || is_among n (those q)) asked

-- those that were found are those that it names
pub names_each : (p : PolicyView) (o : Option (Vec (Bor EntityUID) Global)) (v : Vec (Bor EntityUID) Global) → names_found o ≡ asked_entities p.slots p.action_constraint → o ≡ Some v → names_at v.items ≡ actions_named p
names_each p o v asked some =
    ap (λ (q : Option (Vec (Bor EntityUID) Global)). those (names_found q)) (sym some) ∙ ap those asked

-- a policy is passed, and the others are left
pub passes_policy : (n : EntityName) (acc after all : Bool) (p : PolicyView) (left rest : List PolicyView) → left ≡ p ∷ rest → after ≡ (acc || is_among n (actions_named p)) → (acc || is_named_action left n) ≡ all → (after || is_named_action rest n) ≡ all
passes_policy n acc after all p left rest is more so =
    ap (λ (b : Bool). b || is_named_action rest n) more
    ∙ or_assoc acc (is_among n (actions_named p)) (is_named_action rest n)
    ∙ ap (λ (ps : List PolicyView). acc || is_named_action ps n) (sym is) ∙ so

pub passed_policies : (n : EntityName) (acc all : Bool) (left : List PolicyView) → left ≡ [] → (acc || is_named_action left n) ≡ all → acc ≡ all
passed_policies n acc all left none so =
    sym (or-false acc) ∙ ap (λ (ps : List PolicyView). acc || is_named_action ps n) (sym none) ∙ so

-- nothing is put into an empty set yet
pub none_yet : (n : EntityName) (us : List EntityUID) (b : Bool) → us ≡ [] → (is_among n (map uid_name us) || b) ≡ b
unfolding is_among
none_yet n us b none = ap (λ (vs : List EntityUID). is_among n (map uid_name vs) || b) none

-- where names are put in, equal names are
pub by_equal : (T : Type 0) (r : Result T AllocError) (old new ns ms : List EntityName) → ns ≡ ms → OnOk r ((n : EntityName) → is_among n new ≡ (is_among n old || is_among n ns)) → OnOk r ((n : EntityName) → is_among n new ≡ (is_among n old || is_among n ms))
by_equal T r old new ns ms same h =
    subst (λ (es : List EntityName). OnOk r ((n : EntityName) → is_among n new ≡ (is_among n old || is_among n es))) same h
