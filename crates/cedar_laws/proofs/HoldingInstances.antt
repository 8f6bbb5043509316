-- A record with a set in it is given in a context, in a store and in a map.
use Rattle.std.specs.Prelude.{◌≡◌, Bool, true, false, cond, Some, None, codes}
use Rattle.std.proofs.Common.{refl, subst, sym}
use Rattle.cedar_model.specs.Terms.{Text, unknown, long_type}
use Rattle.cedar_model.specs.Values.{AbstractValue, Represented, record_represented}
use Rattle.cedar_model.specs.Outcomes.{text_eq, entity_eq}
use Rattle.cedar_model.specs.Failures.{PartialValue, value, Answer, answers, fails, answers_residual, answers_bool}
use Rattle.cedar_model.specs.Failures.{function_has_failed}
use Rattle.cedar_model.specs.Settings.{StoredEntity, part_at}
use Rattle.cedar_model.specs.Agreement.{EachStored}
use Rattle.cedar_model.specs.Restricted.{IsSound, IsSoundPart}
use Rattle.cedar_model.specs.examples.Setting.{user}
use Rattle.cedar_model.specs.examples.Instances.{no_calls}
use Rattle.cedar_model.proofs.Computed.{opened}
use Rattle.cedar_model.proofs.Instanced.{computed_with, none_must}
use Rattle.cedar_model.proofs.Injections.{none_is_not_some}
use Rattle.cedar_model.specs.World.{function_gives}
use Rattle.cedar_laws.specs.Faithful.{IsWithoutExtensions, HoldsNoExtensionValue, PartHoldsNoExtensionValue}
use Rattle.cedar_laws.specs.FaithfulInstances as instances
use Rattle.cedar_laws.specs.FaithfulInstances.{listed, listing_facts, listing}

abbrev the_part : PartialValue
the_part = value (record_represented listed)

is_facts : (b : Bool) (x : StoredEntity) → cond b (Some listing_facts) None ≡ Some x → listing_facts ≡ x
is_facts true x e = cc
is_facts false x e = absurd (cc)

is_part : (b : Bool) (p : PartialValue) → cond b (Some the_part) None ≡ Some p → the_part ≡ p
is_part true p e = cc
is_part false p e = absurd (cc)

is_value : (b : Bool) (v : Represented) → cond b (Some (record_represented listed)) None ≡ Some v
    → record_represented listed ≡ v
is_value true v e = cc
is_value false v e = absurd (cc)

at_attributes : (P : PartialValue → Type 0) → P the_part → (k : Text) (p : PartialValue)
    → part_at k listing_facts.attributes ≡ Some p → P p
unfolding part_at
at_attributes P h k p e = subst P (is_part (text_eq k (codes "f")) p e) h

at_tags : (P : PartialValue → Type 0) (k : Text) (p : PartialValue) → part_at k listing_facts.tags ≡ Some p → P p
unfolding part_at
at_tags P k p e = absurd (none_is_not_some e)

-- what holds of the record holds of each stored part
stored_such : (P : PartialValue → Type 0) → P the_part → EachStored P listing.store
stored_such P h e x k p g =
    subst (λ z. (part_at k z.attributes ≡ Some p → P p) × (part_at k z.tags ≡ Some p → P p))
    (is_facts (entity_eq e (user (codes "p"))) x g) (at_attributes P h k p, at_tags P k p)

-- and of each value of the map
mapped_such : (P : Represented → Type 0) → P (record_represented listed) → (n : Text) (v : Represented)
    → listing.map n ≡ Some v → P v
mapped_such P h n v e = subst P (is_value (text_eq n (codes "u")) v e) h

sound : IsSound (record_represented listed)
sound = (((refl, (tt, tt)), (tt, (tt, tt))), tt)

none : HoldsNoExtensionValue (record_represented listed)
none = ((tt, (tt, tt)), tt)

pub listing_holds_none : instances.ListingHoldsNone
listing_holds_none = (
  record {
    context_sound = sound;
    stored_sound = stored_such IsSoundPart sound;
    mapped_sound = mapped_such IsSound sound;
    answers_sound = λ f vs p h. absurd h;
  },
  record {
    context_holds_none = none;
    store_holds_none = stored_such PartHoldsNoExtensionValue none;
    map_holds_none = mapped_such HoldsNoExtensionValue none;
  },
)

-- what an answer holds, an error nothing
abbrev AnswerHoldsNone : Answer → Type 0
AnswerHoldsNone (answers p) = PartHoldsNoExtensionValue p
AnswerHoldsNone a = Unit {0}

asked_by : (b c : Bool) → AnswerHoldsNone (cond b (answers_residual (unknown (codes "q") (Some long_type)))
    (cond c (fails (function_has_failed (codes "ext") (codes "no"))) (answers_bool true)))
asked_by true c = tt
asked_by false true = tt
asked_by false false = tt

gives_inj : {u v : AbstractValue} → function_gives u ≡ function_gives v → u ≡ v
gives_inj e = cc

pub functions_hold_none : instances.FunctionsHoldNone
functions_hold_none = (
  λ f vs a h. h,
  λ f vs p h. subst AnswerHoldsNone (sym h) (asked_by (text_eq f (codes "ask")) (text_eq f (codes "fail"))),
  λ f vs v e. subst IsWithoutExtensions (gives_inj e) tt,
)

pub listed_is_answered : instances.ListedIsAnswered
unfolding opened
listed_is_answered = (
  refl,
  computed_with listing no_calls none_must.0 3 instances.listed_term (answers (value (record_represented listed))) refl,
)
