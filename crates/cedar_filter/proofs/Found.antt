-- What a map of values has under a key, and which value is the row.
use Rattle.std.proofs.Common.{◌≡◌, ◌∙◌, Bool, true, false, cond, List, [], ◌∷◌, Option, Some, option_map, refl, sym, ap, subst, Global}
use Rattle.std.proofs.lemmas.Map.Text.{is_eq-slice_cmp}
use Rattle.std.specs.Ordering.{nat_cmp}
use Rattle.std.specs.Cmp.Lexicographic.{slice_cmp}
use Rattle.std.specs.Map.{lookup}
use Rattle.std.specs.BTreeMap.{is_at}
use Rattle.std.specs.Rc.{rc_str_bytes}
use Rattle.std.specs.declared.rc.RcStr.{RcStr}
use Rattle.cedar_model.specs.Terms.{Text, EntityName, bool_literal, long_literal, text_literal, entity_literal}
use Rattle.cedar_model.specs.Values.{AbstractValue, plain, set_value, record_value, extension_value, abstract_value}
use Rattle.cedar_model.specs.Values.{abstract_fields}
use Rattle.cedar_model.specs.Keys.{value_eq}
use Rattle.cedar_model.specs.lemmas.Keys.{value_eq-self, value_eq-equivalence}
use Rattle.cedar_model.specs.Outcomes.{value_at, entity_of, entity_eq}
use Rattle.cedar_names.specs.EqualityLaws.{entity_eq-key}
use Rattle.cedar_values.specs.Sound.{Placed, whats_at}
use Rattle.cedar_filter.specs.declared.conditions.Comparison.{Comparison}
use Rattle.cedar_filter.specs.declared.conditions.Comparison.TheVariants.{Equal}
use Rattle.cedar_filter.specs.Rows.{Told, tells_bool}
use Rattle.cedar_filter.specs.Conditions.{compared_told}

found_or : (b : Bool) (v : Placed) (rest : Option Placed) (more : Option AbstractValue) →
    option_map (λ (p : Placed). abstract_value p.what) rest ≡ more →
    option_map (λ (p : Placed). abstract_value p.what) (cond b (Some v) rest) ≡ cond b (Some (abstract_value v.what)) more
found_or true v rest more e = refl
found_or false v rest more e = e

-- what a look-up by bytes finds
pub fields-lookup : (name : Text) (es : List (RcStr Global × Placed)) →
    option_map (λ (p : Placed). abstract_value p.what) (lookup (is_at (λ k. slice_cmp nat_cmp name (rc_str_bytes k))) es)
    ≡ value_at name (abstract_fields (whats_at es))
unfolding value_at
fields-lookup name [] = refl
fields-lookup name (e ∷ es) =
    found_or _ e.1 _ _ (fields-lookup name es)
    ∙ ap (λ b. cond b (Some (abstract_value e.1.what)) (value_at name (abstract_fields (whats_at es)))) (is_eq-slice_cmp name (rc_str_bytes e.0))

pub field_is : (name : Text) (es : List (RcStr Global × Placed)) (o : Option Placed) →
    o ≡ lookup (is_at (λ k. slice_cmp nat_cmp name (rc_str_bytes k))) es →
    option_map (λ (p : Placed). abstract_value p.what) o ≡ value_at name (abstract_fields (whats_at es))
field_is name es o is = ap (option_map (λ (p : Placed). abstract_value p.what)) is ∙ fields-lookup name es

-- a value that is an entity equals the row where it is the row
pub is_that_row : (v : AbstractValue) (d e : EntityName) → Some d ≡ entity_of v →
    entity_eq d e ≡ value_eq v (plain (entity_literal e))
unfolding entity_of
is_that_row (plain (bool_literal b)) d e is = absurd (cc)
is_that_row (plain (long_literal n)) d e is = absurd (cc)
is_that_row (plain (text_literal t)) d e is = absurd (cc)
is_that_row (plain (entity_literal f)) d e is =
    let same : d ≡ f = cc in ap (λ (g : EntityName). entity_eq g e) same ∙ sym (entity_eq-key f e)
is_that_row (set_value vs) d e is = absurd (cc)
is_that_row (record_value fs) d e is = absurd (cc)
is_that_row (extension_value t k) d e is = absurd (cc)

pub turned : (u v : AbstractValue) → value_eq u v ≡ value_eq v u
turned u v = value_eq-equivalence.symm u v

pub equals_itself : (c : Comparison) (v : AbstractValue) → c ≡ Equal → tells_bool true ≡ compared_told c v v
equals_itself c v is =
    subst (λ (k : Comparison). tells_bool true ≡ compared_told k v v) (sym is) (ap tells_bool (sym (value_eq-self v)))

pub equals_turned : (c : Comparison) (u v : AbstractValue) (r : Told) (b : Bool) → c ≡ Equal → r ≡ tells_bool b →
    b ≡ value_eq v u → r ≡ compared_told c u v
equals_turned c u v r b is told same =
    subst (λ (k : Comparison). r ≡ compared_told k u v) (sym is) (told ∙ ap tells_bool (same ∙ turned v u))

-- the same where the row is named by an equal name
pub is_that_uid : (v : AbstractValue) (d e f : EntityName) (b : Bool) → b ≡ entity_eq d f → f ≡ e → Some d ≡ entity_of v →
    b ≡ value_eq v (plain (entity_literal e))
is_that_uid v d e f b told same is =
    told ∙ ap (λ (g : EntityName). entity_eq d g) same ∙ is_that_row v d e is
