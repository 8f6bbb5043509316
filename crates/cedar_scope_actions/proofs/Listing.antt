-- The uids of a set and of a store, one after another.
use Rattle.std.proofs.Common.{◌≡◌, ◌∙◌, ◌++◌, ◌∷◌, [], List, Bool, true, false, Option, Some, cond, map, ap, sym, refl, subst, append_assoc, ◌||◌, option_copied, Result}
use Rattle.std.proofs.Math.Bool.{or-false, or_assoc}
use Rattle.std.specs.Borrow.{Bor}
use Rattle.std.specs.List.{IsDistinct, AllByRecursion}
use Rattle.std.specs.Map.{keys_of, lookup}
use Rattle.std.specs.Option.{is_some}
use Rattle.std.specs.Prelude.{OnOk}
use Rattle.std.specs.declared.alloc.AllocError.{AllocError}
use Rattle.cedar_model.specs.Terms.{EntityName}
use Rattle.cedar_model.specs.Outcomes.{entity_eq}
use Rattle.cedar_model.specs.Settings.{is_among}
use Rattle.cedar_names.specs.declared.names.EntityUID.{EntityUID}
use Rattle.cedar_names.specs.Names.{uid_name}
use Rattle.cedar_names.specs.Order.{is_tied, is_tied-by_name}
use Rattle.cedar_layers.specs.declared.policies.entities.Entity.{Entity}
use Rattle.cedar_layers.specs.Stores.{Standing, shown}

-- ---- keys of a map

shown_by : (b : Bool) (e : Bor Entity) (o : Option (Bor Entity))
    → (b || is_some (option_copied o)) ≡ is_some (option_copied (cond b (Some e) o))
shown_by true e o = refl
shown_by false e o = refl

-- a name is among those of the keys where the map shows an entity under it
pub among_shown : (es : List (EntityUID × Bor Entity)) (n : EntityName)
    → is_among n (map uid_name (keys_of es)) ≡ is_some (shown es n)
unfolding is_among
among_shown [] n = refl
among_shown (e ∷ es) n =
    ap (λ (b : Bool). entity_eq n (uid_name e.0) || b) (among_shown es n)
    ∙ shown_by (entity_eq n (uid_name e.0)) e.1 (lookup (λ (u : EntityUID). entity_eq n (uid_name u)) es)

all_named : (u : EntityUID) (us : List EntityUID) → AllByRecursion (λ v. is_tied u v ≡ false) us
    → AllByRecursion (λ n. entity_eq (uid_name u) n ≡ false) (map uid_name us)
all_named u [] h = tt
all_named u (v ∷ us) (h, hs) = (sym (is_tied-by_name u v) ∙ h, all_named u us hs)

-- distinct uids have distinct names
pub names_distinct : (us : List EntityUID) → IsDistinct is_tied us → IsDistinct entity_eq (map uid_name us)
unfolding IsDistinct
names_distinct [] d = tt
names_distinct (u ∷ us) (all, d) = (all_named u us all, names_distinct us d)

-- what is stored under a name is what a map shows of it
pub by_stored : (T : Type 0) (r : Result T AllocError) (old new : List EntityName) (f g : Standing) → f ≡ g
    → OnOk r ((n : EntityName) → is_among n new ≡ (is_among n old || is_some (f n)))
    → OnOk r ((n : EntityName) → is_among n new ≡ (is_among n old || is_some (g n)))
by_stored T r old new f g same h =
    subst (λ (s : Standing). OnOk r ((n : EntityName) → is_among n new ≡ (is_among n old || is_some (s n)))) same h

-- ---- one more

-- one is passed, and the others are left
pub passes_uid : (n : EntityName) (acc after all : Bool) (u : EntityUID) (left rest : List EntityUID) → left ≡ u ∷ rest
    → after ≡ (acc || entity_eq n (uid_name u)) → (acc || is_among n (map uid_name left)) ≡ all
    → (after || is_among n (map uid_name rest)) ≡ all
unfolding is_among
passes_uid n acc after all u left rest is more so =
    ap (λ (b : Bool). b || is_among n (map uid_name rest)) more
    ∙ or_assoc acc (entity_eq n (uid_name u)) (is_among n (map uid_name rest))
    ∙ ap (λ (us : List EntityUID). acc || is_among n (map uid_name us)) (sym is) ∙ so

pub passed_uids : (n : EntityName) (acc all : Bool) (left : List EntityUID) → left ≡ []
    → (acc || is_among n (map uid_name left)) ≡ all → acc ≡ all
unfolding is_among
passed_uids n acc all left none so =
    sym (or-false acc) ∙ ap (λ (us : List EntityUID). acc || is_among n (map uid_name us)) (sym none) ∙ so

map-behind : (us : List EntityUID) (u : EntityUID) → map uid_name (us ++ u ∷ []) ≡ map uid_name us ++ uid_name u ∷ []
map-behind [] u = refl
map-behind (v ∷ us) u = ap (λ (ns : List EntityName). uid_name v ∷ ns) (map-behind us u)

pub item_left : (us vs : List EntityUID) (u : EntityUID) (left rest : List EntityUID) (all : List EntityName)
    → left ≡ u ∷ rest → vs ≡ us ++ u ∷ [] → map uid_name us ++ map uid_name left ≡ all
    → map uid_name vs ++ map uid_name rest ≡ all
item_left us vs u left rest all is more so =
    ap (λ (ws : List EntityUID). map uid_name ws ++ map uid_name rest) more
    ∙ ap (λ (ns : List EntityName). ns ++ map uid_name rest) (map-behind us u)
    ∙ append_assoc (map uid_name us) (uid_name u ∷ []) (map uid_name rest)
    ∙ ap (λ (ws : List EntityUID). map uid_name us ++ map uid_name ws) (sym is) ∙ so
