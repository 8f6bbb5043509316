-- A part of a record: it is projectable or restricted where the record is.
use Rattle.std.specs.Prelude.{◌≡◌, Bool, true, false, cond, Some}
use Rattle.std.proofs.Common.{ap, sym, ◌∙◌, subst}
use Rattle.std.proofs.lemmas.Bool.{and_parts}
use Rattle.cedar_model.specs.Terms.{Text, Term, Fields, no_fields, one_field}
use Rattle.cedar_model.specs.Shapes.{is_projectable, are_projectable_at, is_restricted, are_restricted_at}
use Rattle.cedar_model.specs.Outcomes.{text_eq}
use Rattle.cedar_model.specs.Operators.{term_at}
use Rattle.cedar_model.specs.Rules.{fields_of_record}
use Rattle.cedar_model.proofs.Projection.{record_is}
use Rattle.cedar_model.proofs.Injections.{some_inj, none_is_not_some}

-- a fact of the part under a key, from the fact of each part
pub part_such : (Such : Term → Type 0) (Each : Fields → Type 0) → ((l : Text) (t : Term) (fs : Fields) →
    Each (one_field l t fs) → Such t × Each fs) → (k : Text) (fs : Fields) (part : Term) → Each fs →
    term_at k fs ≡ Some part → Such part
unfolding term_at
part_such Such Each split k no_fields part h e = absurd (none_is_not_some e)
part_such Such Each split k (one_field l t fs) part h e =
    by (text_eq k l) e (split l t fs h).0 (λ f. part_such Such Each split k fs part (split l t fs h).1 f)
  where
    by : (b : Bool) → cond b (Some t) (term_at k fs) ≡ Some part → Such t → (term_at k fs ≡ Some part → Such part) →
        Such part
    by true f g rest = subst Such (some_inj f) g
    by false f g rest = rest f

pub projectable_part : (r : Term) (fs : Fields) (k : Text) (part : Term) → fields_of_record r ≡ Some fs →
    term_at k fs ≡ Some part → is_projectable r ≡ true → is_projectable part ≡ true
projectable_part r fs k part e f h =
    part_such (λ t. is_projectable t ≡ true) (λ gs. are_projectable_at gs ≡ true) (λ l t gs g. (
      (and_parts _ _ g).0,
      (and_parts _ _ g).1,
    )) k fs part (sym (ap is_projectable (record_is r fs e)) ∙ h) f

pub restricted_part : (r : Term) (fs : Fields) (k : Text) (part : Term) → fields_of_record r ≡ Some fs →
    term_at k fs ≡ Some part → is_restricted r ≡ true → is_restricted part ≡ true
restricted_part r fs k part e f h =
    part_such (λ t. is_restricted t ≡ true) (λ gs. are_restricted_at gs ≡ true) (λ l t gs g. (
      (and_parts _ _ g).0,
      (and_parts _ _ g).1,
    )) k fs part (sym (ap is_restricted (record_is r fs e)) ∙ h) f
