-- The expression of a faithful value means the value and fits, in every world and under all slots.
use Rattle.std.specs.Prelude.{◌≡◌, Bool, true, false, cond, List, [], ◌∷◌, Some, Ok}
use Rattle.std.proofs.Common.{refl, ap, ◌∙◌, subst}
use Rattle.cedar_model.specs.Terms.{Text}
use Rattle.cedar_model.specs.Terms.{call}
use Rattle.cedar_model.specs.Values.{set_value, record_value, Represented, plain_represented, set_represented}
use Rattle.cedar_model.specs.Values.{record_represented, extension_represented, RepresentedValues, no_represented}
use Rattle.cedar_model.specs.Values.{one_represented, RepresentedFields, no_represented_at, one_represented_at}
use Rattle.cedar_model.specs.Values.{abstract_value, abstract_values, abstract_fields, expression_of, expressions_of}
use Rattle.cedar_model.specs.Values.{expressions_at}
use Rattle.cedar_model.specs.Sets.{abstract_set, list_of_abstract, canonical_set, insert_each, insert_represented}
use Rattle.cedar_model.specs.lemmas.Sets.{abstract_set-in_order, IsStrictlyInOrder-canonical_set}
use Rattle.std.specs.declared.cmp.Ordering.{Ordering}
use Rattle.std.specs.declared.cmp.Ordering.TheVariants.{Less, Equal, Greater}
use Rattle.std.specs.Ordering.{match_ordering}
use Rattle.cedar_model.specs.Keys.{value_cmp}
use Rattle.cedar_model.specs.Outcomes.{gives, text_eq}
use Rattle.cedar_model.specs.World.{World, Slots, Extensions, Functions}
use Rattle.cedar_model.specs.Meaning
use Rattle.cedar_model.specs.Operators
use Rattle.cedar_model.specs.Agreement
use Rattle.cedar_model.proofs.Injections.{some_inj}
use Rattle.cedar_model.proofs.Throughout.{known_fits}

module _ (X : Extensions) (ans : Functions) where
  module _ (w : World) where
    mutual
      pub written_fits : (v : Represented) → Agreement.IsFaithful X ans v → Agreement.Fits ans w (expression_of v)
      written_fits (plain_represented l) h = tt
      written_fits (set_represented vs) h = written_fit_each vs h.1
      written_fits (record_represented fs) h = written_fit_each_at fs h
      written_fits (extension_represented t k f ts) h = known_fits ans w (call f ts) h.0

      pub written_fit_each : (vs : RepresentedValues) → Agreement.AreFaithful X ans vs
          → Agreement.FitEach ans w (expressions_of vs)
      written_fit_each no_represented h = tt
      written_fit_each (one_represented v vs) h = (written_fits v h.0, written_fit_each vs h.1)

      pub written_fit_each_at : (fs : RepresentedFields) → Agreement.AreFaithfulAt X ans fs
          → Agreement.FitEachAt ans w (expressions_at fs)
      written_fit_each_at no_represented_at h = tt
      written_fit_each_at (one_represented_at k v fs) h = (written_fits v h.0, written_fit_each_at fs h.1)

    module _ (slots : Slots) where
      mutual
        unfolding Meaning.meaning Meaning.and_then_all Meaning.value_then Meaning.field_then

        pub written_means : (v : Represented) → Agreement.IsFaithful X ans v
            → Meaning.meaning X ans w slots (expression_of v) ≡ gives (abstract_value v)
        written_means (plain_represented l) h = refl
        written_means (set_represented vs) h =
            ap (λ m. Meaning.and_then_all m (λ us. gives (set_value (abstract_set us)))) (written_mean_each vs h.1)
            ∙ ap (λ us. gives (set_value us)) (abstract_set-in_order (abstract_values vs) h.0)
        written_means (record_represented fs) h =
            ap (λ m. Meaning.and_then_all m (λ gs. gives (record_value gs))) (written_mean_each_at fs h)
        written_means (extension_represented t k f ts) h = h.1 w slots

        pub written_mean_each : (vs : RepresentedValues) → Agreement.AreFaithful X ans vs
            → Meaning.meanings X ans w slots (expressions_of vs) ≡ Ok (list_of_abstract (abstract_values vs))
        written_mean_each no_represented h = refl
        written_mean_each (one_represented v vs) h =
            λ i. Meaning.value_then (written_means v h.0 i) (written_mean_each vs h.1 i)

        pub written_mean_each_at : (fs : RepresentedFields) → Agreement.AreFaithfulAt X ans fs
            → Meaning.field_meanings X ans w slots (expressions_at fs) ≡ Ok (abstract_fields fs)
        written_mean_each_at no_represented_at h = refl
        written_mean_each_at (one_represented_at k v fs) h =
            λ i. Meaning.field_then k (written_means v h.0 i) (written_mean_each_at fs h.1 i)

  -- ---- sets and records of faithful values

  chosen_faithful : (o : Ordering) (a b c : RepresentedValues) → Agreement.AreFaithful X ans a
      → Agreement.AreFaithful X ans b → Agreement.AreFaithful X ans c
      → Agreement.AreFaithful X ans (match_ordering o a b c)
  chosen_faithful Less a b c f g h = f
  chosen_faithful Equal a b c f g h = g
  chosen_faithful Greater a b c f g h = h

  insert_faithful : (v : Represented) (ws : RepresentedValues) → Agreement.IsFaithful X ans v
      → Agreement.AreFaithful X ans ws → Agreement.AreFaithful X ans (insert_represented v ws)
  insert_faithful v no_represented f g = (f, tt)
  insert_faithful v (one_represented w ws) f g =
      chosen_faithful (value_cmp (abstract_value v) (abstract_value w)) (one_represented v (one_represented w ws))
      (one_represented w ws) (one_represented w (insert_represented v ws)) (f, g) g (g.0, insert_faithful v ws f g.1)

  insert_each_faithful : (vs : List Represented) (ws : RepresentedValues) → Agreement.AllFaithful X ans vs
      → Agreement.AreFaithful X ans ws → Agreement.AreFaithful X ans (insert_each vs ws)
  insert_each_faithful [] ws f g = g
  insert_each_faithful (v ∷ vs) ws f g =
      insert_each_faithful vs (insert_represented v ws) f.1 (insert_faithful v ws f.0 g)

  pub set_faithful : (vs : List Represented) → Agreement.AllFaithful X ans vs
      → Agreement.IsFaithful X ans (set_represented (canonical_set vs))
  set_faithful vs f = (IsStrictlyInOrder-canonical_set vs, insert_each_faithful vs no_represented f tt)

  pub part_faithful : (fs : RepresentedFields) (k : Text) (v : Represented) → Agreement.AreFaithfulAt X ans fs
      → Operators.represented_at k fs ≡ Some v → Agreement.IsFaithful X ans v
  unfolding Operators.represented_at
  part_faithful no_represented_at k v h e = absurd (cc)
  part_faithful (one_represented_at l u fs) k v h e = by (text_eq k l) e (λ g. part_faithful fs k v h.1 g)
    where
      by : (b : Bool) → cond b (Some u) (Operators.represented_at k fs) ≡ Some v
          → (Operators.represented_at k fs ≡ Some v → Agreement.IsFaithful X ans v) → Agreement.IsFaithful X ans v
      by true g rest = subst (Agreement.IsFaithful X ans) (some_inj g) h.0
      by false g rest = rest g
