-- Values as a program holds them: each set in one is in canonical order, and each representation is written without unknowns.
use Rattle.std.specs.Prelude.{◌≡◌, ℕ, Bool, true, false, cond, not, ◌&&◌, ◌||◌, List, [], ◌∷◌, ◌++◌, Option, None, Some, option_map}
use Rattle.std.specs.declared.cmp.Ordering.{Ordering}
use Rattle.std.specs.declared.cmp.Ordering.TheVariants.{Less, Equal, Greater}
use Rattle.std.specs.Ordering.{match_ordering}
use Rattle.std.specs.Coded.{Coded, code_by, coded×, coded_ℕ, coded_list, coded_option, ×_prop}
use mathlib.Core.Bool.{Bool-set}
use mathlib.Core.HLevel.{is_prop→PathP}
use Rattle.std.proofs.Common.{refl, ap, subst, ◌∙◌}
use Rattle.cedar_model.specs.Terms.{Terms, no_terms}
use Rattle.cedar_model.specs.Values.{AbstractValue, Represented, plain_represented, set_represented, record_represented, extension_represented, RepresentedValues, no_represented, one_represented, RepresentedFields, no_represented_at, one_represented_at, abstract_value, expression_of, expressions_of, expressions_at}
use Rattle.cedar_model.specs.Shapes.{is_restricted, are_restricted, are_restricted_at, has_unknown, have_unknown, have_unknown_at}
use Rattle.cedar_model.specs.Keys.{value_cmp, value_eq}
use Rattle.cedar_model.specs.lemmas.Codes.{represented_code, represented_values_code}
use Rattle.cedar_model.specs.Sets.{represented_values_of, list_of_represented, insert_represented, insert_each, canonical_set, IsStrictlyInOrder, IsCanonical, AreCanonical, AreCanonicalAt}
use Rattle.cedar_model.specs.lemmas.Sets.{canonical_set-in_order, IsStrictlyInOrder-prop, IsStrictlyInOrder-canonical_set}
pub use Rattle.cedar_model.specs.Restricted.{IsSound, AreSound, AreSoundAt}
use Rattle.cedar_model.proofs.Injections.{some_inj, none_is_not_some}
use Rattle.std.specs.Rc.{rc_str_bytes}
use Rattle.std.specs.declared.alloc.Global.{Global}
use Rattle.std.specs.declared.rc.RcStr.{RcStr}
use Rattle.cedar_names.specs.declared.names.Loc.{Loc}

-- a value and where it stands, and where the values inside it stand: of each element of a set or value of a record, in order, its own location and then those inside it
pub record Placed : Type 0 where
  pub what : Represented
  pub loc : Option Loc
  pub inside : List (Option Loc)
  pub sound : IsSound what

-- the elements of a set, in canonical order, and the same with their locations
pub record Elements : Type 0 where
  pub all : RepresentedValues
  pub members : List Placed
  pub in_order : IsStrictlyInOrder all
  pub sound : AreSound all

-- ---- what follows from soundness

mutual
  pub IsCanonical-from_sound : (v : Represented) → IsSound v → IsCanonical v
  IsCanonical-from_sound (plain_represented l) h = tt
  IsCanonical-from_sound (set_represented vs) h = (h.0, AreCanonical-from_sound vs h.1)
  IsCanonical-from_sound (record_represented fs) h = AreCanonicalAt-from_sound fs h
  IsCanonical-from_sound (extension_represented t k f ts) h = tt

  pub AreCanonical-from_sound : (vs : RepresentedValues) → AreSound vs → AreCanonical vs
  AreCanonical-from_sound no_represented h = tt
  AreCanonical-from_sound (one_represented v vs) h = (IsCanonical-from_sound v h.0, AreCanonical-from_sound vs h.1)

  pub AreCanonicalAt-from_sound : (fs : RepresentedFields) → AreSoundAt fs → AreCanonicalAt fs
  AreCanonicalAt-from_sound no_represented_at h = tt
  AreCanonicalAt-from_sound (one_represented_at k v fs) h = (IsCanonical-from_sound v h.0, AreCanonicalAt-from_sound fs h.1)

-- ---- soundness is a fact without content

mutual
  pub IsSound-prop : (v : Represented) → IsProp (IsSound v)
  IsSound-prop (plain_represented l) = hlevel
  IsSound-prop (set_represented vs) = hlevel (IsStrictlyInOrder-prop vs, AreSound-prop vs)
  IsSound-prop (record_represented fs) = AreSoundAt-prop fs
  IsSound-prop (extension_represented t k f ts) = ×_prop (Bool-set (are_restricted ts) true) (Bool-set (have_unknown ts) false)

  pub AreSound-prop : (vs : RepresentedValues) → IsProp (AreSound vs)
  AreSound-prop no_represented = hlevel
  AreSound-prop (one_represented v vs) = hlevel (IsSound-prop v, AreSound-prop vs)

  pub AreSoundAt-prop : (fs : RepresentedFields) → IsProp (AreSoundAt fs)
  AreSoundAt-prop no_represented_at = hlevel
  AreSoundAt-prop (one_represented_at k v fs) = hlevel (IsSound-prop v, AreSoundAt-prop fs)

-- ---- a canonical set of sound values is sound

chosen_sound : (o : Ordering) (x y z : RepresentedValues) → AreSound x → AreSound y → AreSound z → AreSound (match_ordering o x y z)
chosen_sound Less x y z g h k = g
chosen_sound Equal x y z g h k = h
chosen_sound Greater x y z g h k = k

AreSound-insert_represented : (v : Represented) (ws : RepresentedValues) → IsSound v → AreSound ws → AreSound (insert_represented v ws)
AreSound-insert_represented v no_represented h k = (h, tt)
AreSound-insert_represented v (one_represented w ws) h k =
    chosen_sound (value_cmp (abstract_value v) (abstract_value w)) (one_represented v (one_represented w ws)) (one_represented w ws) (one_represented w (insert_represented v ws)) (h, k) k (k.0, AreSound-insert_represented v ws h k.1)

AreSound-insert_each : (vs : List Represented) (ws : RepresentedValues) → AreSound (represented_values_of vs) → AreSound ws → AreSound (insert_each vs ws)
AreSound-insert_each [] ws h k = k
AreSound-insert_each (v ∷ vs) ws h k =
    AreSound-insert_each vs (insert_represented v ws) h.1 (AreSound-insert_represented v ws h.0 k)

pub AreSound-canonical_set : (vs : List Represented) → AreSound (represented_values_of vs) → AreSound (canonical_set vs)
AreSound-canonical_set vs h = AreSound-insert_each vs no_represented h tt

-- ---- the sound value nearest to any: sets are put in order, and arguments that may not stand are left out. A sound one is its own

abbrev pub settled_arguments : Bool → Terms → Terms
settled_arguments b ts = cond b ts no_terms

abbrev pub are_plain : Terms → Bool
are_plain ts = are_restricted ts && not (have_unknown ts)

abbrev mutual
  pub settle : Represented → Represented
  settle (plain_represented l) = plain_represented l
  settle (set_represented vs) = set_represented (canonical_set (settle_each vs))
  settle (record_represented fs) = record_represented (settle_at fs)
  settle (extension_represented t k f ts) = extension_represented t k f (settled_arguments (are_plain ts) ts)

  pub settle_each : RepresentedValues → List Represented
  settle_each no_represented = []
  settle_each (one_represented v vs) = settle v ∷ settle_each vs

  pub settle_at : RepresentedFields → RepresentedFields
  settle_at no_represented_at = no_represented_at
  settle_at (one_represented_at k v fs) = one_represented_at k (settle v) (settle_at fs)

arguments_sound : (b c : Bool) (ts : Terms) → are_restricted ts ≡ b → have_unknown ts ≡ c → (are_restricted (settled_arguments (b && not c) ts) ≡ true) × (have_unknown (settled_arguments (b && not c) ts) ≡ false)
arguments_sound true true ts e f = (refl, refl)
arguments_sound true false ts e f = (e, f)
arguments_sound false c ts e f = (refl, refl)

mutual
  pub IsSound-settle : (v : Represented) → IsSound (settle v)
  IsSound-settle (plain_represented l) = tt
  IsSound-settle (set_represented vs) =
      (IsStrictlyInOrder-canonical_set (settle_each vs), AreSound-canonical_set (settle_each vs) (AreSound-settle_each vs))
  IsSound-settle (record_represented fs) = AreSoundAt-settle_at fs
  IsSound-settle (extension_represented t k f ts) = arguments_sound (are_restricted ts) (have_unknown ts) ts refl refl

  pub AreSound-settle_each : (vs : RepresentedValues) → AreSound (represented_values_of (settle_each vs))
  AreSound-settle_each no_represented = tt
  AreSound-settle_each (one_represented v vs) = (IsSound-settle v, AreSound-settle_each vs)

  pub AreSoundAt-settle_at : (fs : RepresentedFields) → AreSoundAt (settle_at fs)
  AreSoundAt-settle_at no_represented_at = tt
  AreSoundAt-settle_at (one_represented_at k v fs) = (IsSound-settle v, AreSoundAt-settle_at fs)

arguments_stay : (ts : Terms) → are_restricted ts ≡ true → have_unknown ts ≡ false → settled_arguments (are_plain ts) ts ≡ ts
arguments_stay ts e f = λ i. settled_arguments (e i && not (f i)) ts

mutual
  pub settle-sound : (v : Represented) → IsSound v → settle v ≡ v
  settle-sound (plain_represented l) h = refl
  settle-sound (set_represented vs) h =
      ap (λ ws. set_represented (canonical_set ws)) (settle_each-sound vs h.1) ∙ ap set_represented (canonical_set-in_order vs h.0)
  settle-sound (record_represented fs) h = ap record_represented (settle_at-sound fs h)
  settle-sound (extension_represented t k f ts) h = ap (extension_represented t k f) (arguments_stay ts h.0 h.1)

  pub settle_each-sound : (vs : RepresentedValues) → AreSound vs → settle_each vs ≡ list_of_represented vs
  settle_each-sound no_represented h = refl
  settle_each-sound (one_represented v vs) h = λ i. settle-sound v h.0 i ∷ settle_each-sound vs h.1 i

  pub settle_at-sound : (fs : RepresentedFields) → AreSoundAt fs → settle_at fs ≡ fs
  settle_at-sound no_represented_at h = refl
  settle_at-sound (one_represented_at k v fs) h = λ i. one_represented_at k (settle-sound v h.0 i) (settle_at-sound fs h.1 i)

-- ---- how the views are stored

pub same_placed : (a b : Placed) → a.what ≡ b.what → a.loc ≡ b.loc → a.inside ≡ b.inside → a ≡ b
same_placed a b e f g =
    λ i. record { what = e i; loc = f i; inside = g i; sound = is_prop→PathP (λ j. IsSound (e j)) (λ j. IsSound-prop (e j)) a.sound b.sound i }

pub same_elements : (a b : Elements) → a.all ≡ b.all → a.members ≡ b.members → a ≡ b
same_elements a b e f =
    λ i. record { all = e i; members = f i; in_order = is_prop→PathP (λ j. IsStrictlyInOrder (e j)) (λ j. IsStrictlyInOrder-prop (e j)) a.in_order b.in_order i; sound = is_prop→PathP (λ j. AreSound (e j)) (λ j. AreSound-prop (e j)) a.sound b.sound i }

abbrev pub loc_code : Coded Loc
loc_code = code_by (ℕ × ℕ) (coded× coded_ℕ coded_ℕ) (λ l. (l.start, l.end)) (λ p. record { start = p.0; end = p.1 }) (λ _. refl)

abbrev pub settled : Represented → Option Loc → List (Option Loc) → Placed
settled v loc inside = record { what = settle v; loc = loc; inside = inside; sound = IsSound-settle v }

pub settled-placed : (p : Placed) → settled p.what p.loc p.inside ≡ p
settled-placed p = same_placed (settled p.what p.loc p.inside) p (settle-sound p.what p.sound) refl refl

abbrev pub placed_code : Coded Placed
placed_code =
    code_by (Represented × (Option Loc × List (Option Loc))) (coded× represented_code (coded× (coded_option loc_code) (coded_list (coded_option loc_code)))) (λ p. (p.what, (p.loc, p.inside))) (λ q. settled q.0 q.1.0 q.1.1) settled-placed

-- the set of a list of sound values, with these members
abbrev pub canonical_elements : (vs : List Represented) → AreSound (represented_values_of vs) → List Placed → Elements
canonical_elements vs h ps =
    record { all = canonical_set vs; members = ps; in_order = IsStrictlyInOrder-canonical_set vs; sound = AreSound-canonical_set vs h }

abbrev pub settled_elements : RepresentedValues → List Placed → Elements
settled_elements vs ps = canonical_elements (settle_each vs) (AreSound-settle_each vs) ps

pub settled_elements-elements : (s : Elements) → settled_elements s.all s.members ≡ s
settled_elements-elements s =
    same_elements (settled_elements s.all s.members) s (ap canonical_set (settle_each-sound s.all s.sound) ∙ canonical_set-in_order s.all s.in_order) refl

abbrev pub elements_code : Coded Elements
elements_code =
    code_by (RepresentedValues × List Placed) (coded× represented_values_code (coded_list placed_code)) (λ s. (s.all, s.members)) (λ q. settled_elements q.0 q.1) settled_elements-elements

-- ---- lists of values

-- the values of a list
abbrev pub whats : List Placed → List Represented
whats [] = []
whats (p ∷ ps) = p.what ∷ whats ps

pub AreSound-whats : (ps : List Placed) → AreSound (represented_values_of (whats ps))
AreSound-whats [] = tt
AreSound-whats (p ∷ ps) = (p.sound, AreSound-whats ps)

-- a list of values is in the order of values, each once
abbrev pub AreStrictlyInOrder : List Placed → Type 0
AreStrictlyInOrder ps = canonical_set (whats ps) ≡ represented_values_of (whats ps)

-- the set of a list of values
abbrev pub elements_seen : List Placed → Elements
elements_seen ps = canonical_elements (whats ps) (AreSound-whats ps) ps

-- where the values of a list stand, and those inside each
abbrev pub inside_each : List Placed → List (Option Loc)
inside_each [] = []
inside_each (p ∷ ps) = p.loc ∷ p.inside ++ inside_each ps

-- the values under their keys, in order
abbrev pub whats_at : List (RcStr Global × Placed) → RepresentedFields
whats_at [] = no_represented_at
whats_at (f ∷ fs) = one_represented_at (rc_str_bytes f.0) f.1.what (whats_at fs)

pub AreSoundAt-whats_at : (fs : List (RcStr Global × Placed)) → AreSoundAt (whats_at fs)
AreSoundAt-whats_at [] = tt
AreSoundAt-whats_at (f ∷ fs) = (f.1.sound, AreSoundAt-whats_at fs)

-- where they stand, and those inside each
abbrev pub inside_at : List (RcStr Global × Placed) → List (Option Loc)
inside_at [] = []
inside_at (f ∷ fs) = f.1.loc ∷ f.1.inside ++ inside_at fs

-- ---- the first of equal values, with its location and those inside it

-- the first of the values that equals this one
abbrev pub first_equal : AbstractValue → List Placed → Option Placed
first_equal a [] = None
first_equal a (p ∷ ps) = cond (value_eq a (abstract_value p.what)) (Some p) (first_equal a ps)

abbrev pub in_front : Option Placed → List Placed → List Placed
in_front None ps = ps
in_front (Some p) ps = p ∷ ps

-- of each element of a set the first of the values that equals it
abbrev pub each_first : List Placed → RepresentedValues → List Placed
each_first ps no_represented = []
each_first ps (one_represented v vs) = in_front (first_equal (abstract_value v) ps) (each_first ps vs)

-- of each element of the set of the values the first of them that equals it
abbrev pub firsts : List Placed → List Placed
firsts ps = each_first ps (canonical_set (whats ps))

-- a value that is found is sound
pub found_is_sound : (o : Option Placed) (v : Represented) → option_map (λ (p : Placed). p.what) o ≡ Some v → IsSound v
found_is_sound None v e = absurd (none_is_not_some e)
found_is_sound (Some p) v e = subst IsSound (some_inj e) p.sound
