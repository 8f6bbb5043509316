-- The examples of stored residuals, by computing.
use Rattle.std.specs.Prelude.{◌≡◌, ◌≢◌, ℕ, ◌≤◌, zero, suc, pos, Bool, true, false, cond, List, Option, Some, None}
use Rattle.std.specs.Prelude.{codes}
use Rattle.std.proofs.Common.{refl, subst, arith}
use Rattle.cedar_model.specs.Terms.{record_of, Text, long_literal, entity_literal, Term}
use Rattle.cedar_model.specs.Values.{expression_of, Represented, plain_represented}
use Rattle.cedar_model.specs.Failures.{PartialValue, value, residual, Answer, answers, answers_bool, limit}
use Rattle.cedar_model.specs.Outcomes.{text_eq}
use Rattle.cedar_model.specs.Agreement.{EachStored}
use Rattle.cedar_model.specs.Settings.{residual_context, Resolution, shallow, deep, part_at}
use Rattle.cedar_model.specs.Rules
use Rattle.cedar_model.specs.Restricted.{IsSoundPart}
use Rattle.cedar_model.specs.Depth.{substituted_height}
use Rattle.cedar_model.specs.Chains.{substituted, substituted_at, value_for}
use Rattle.cedar_model.specs.Agreement.{height}
use Rattle.cedar_model.specs.laws.Levels.{FunctionsAnswer}
use Rattle.cedar_model.specs.examples.Setting.{example_entity, some_calls, some_extensions}
use Rattle.cedar_model.specs.examples.Instances
use Rattle.cedar_model.specs.Resolutions
use Rattle.cedar_model.proofs.Computed.{opened, some_answer}
use Rattle.cedar_model.proofs.Instanced.{computed_with}
use Rattle.cedar_model.proofs.Total.{total}
use Rattle.cedar_model.proofs.Injections.{some_inj, none_is_not_some}

module _ (r : Resolution) (is_partial : Bool) (m : Text → Option Represented) where
  abbrev answer_at : ℕ → Term → Answer
  answer_at n t = (total (Resolutions.resolving_setting r is_partial m) some_calls (some_answer some_extensions.arity) n t).0

  runs : (n : ℕ) (t : Term) (a : Answer) → answer_at n t ≡ a
      → Rules.Runs (Resolutions.resolving_setting r is_partial m) some_calls n t a
  runs n t a e =
      computed_with (Resolutions.resolving_setting r is_partial m) some_calls (some_answer some_extensions.arity) n t a e

  -- an answer that computes is allowed
  allowed : (n : ℕ) (t : Term) (a : Answer) → answer_at n t ≡ a → a ≢ limit
      → Rules.Allows (Resolutions.resolving_setting r is_partial m) some_calls t a
  allowed n t a e ne = (ne, n, runs n t a e)

pub attribute_resolves : Resolutions.AttributeResolves
unfolding opened
attribute_resolves = (
  allowed shallow false Resolutions.all_named 4 _ _ refl (λ e. cc),
  allowed deep false Resolutions.all_named 4 _ _ refl (λ e. cc),
)

pub attribute_stays : Resolutions.AttributeStays
unfolding opened
attribute_stays = (
  allowed deep false Resolutions.none_named 4 _ _ refl (λ e. cc),
  allowed deep false Resolutions.one_named 4 _ _ refl (λ e. cc),
)

pub attribute_errs : Resolutions.AttributeErrs
unfolding opened
attribute_errs = allowed deep false Resolutions.all_named 4 _ _ refl (λ e. cc)

pub tag_resolves : Resolutions.TagResolves
unfolding opened
tag_resolves = (
  allowed shallow false Resolutions.all_named 4 _ _ refl (λ e. cc),
  allowed deep false Resolutions.all_named 4 _ _ refl (λ e. cc),
)

pub unknown_resolves : Resolutions.UnknownResolves
unfolding opened
unknown_resolves = (
  allowed shallow false Resolutions.all_named 4 _ _ refl (λ e. cc),
  allowed deep false Resolutions.all_named 4 _ _ refl (λ e. cc),
  allowed shallow false Resolutions.all_named 4 _ _ refl (λ e. cc),
  allowed deep false Resolutions.all_named 4 _ _ refl (λ e. cc),
)

pub presence_reads_none : Resolutions.PresenceReadsNone
unfolding opened
presence_reads_none = (
  allowed deep false Resolutions.all_named 4 _ _ refl (λ e. cc),
  allowed deep false Resolutions.none_named 4 _ _ refl (λ e. cc),
)

pub path_walks_on : Resolutions.PathWalksOn
unfolding opened
path_walks_on = (
  allowed shallow false Resolutions.all_named 4 _ _ refl (λ e. cc),
  allowed deep false Resolutions.all_named 4 _ _ refl (λ e. cc),
  allowed deep false Resolutions.all_named 4 _ _ refl (λ e. cc),
)

pub path_keeps : Resolutions.PathKeeps
unfolding opened
path_keeps = (
  allowed deep false Resolutions.one_named 4 _ _ refl (λ e. cc),
  allowed deep false Resolutions.none_named 4 _ _ refl (λ e. cc),
)

pub path_errs : Resolutions.PathErrs
unfolding opened
path_errs = allowed deep false Resolutions.all_named 4 _ _ refl (λ e. cc)

pub last_is_presence : Resolutions.LastIsPresence
unfolding opened
last_is_presence = (
  allowed deep false Resolutions.all_named 4 _ _ refl (λ e. cc),
  allowed deep false Resolutions.all_named 4 _ _ refl (λ e. cc),
)

-- a walk between two entities
module _ (r : Resolution) (m : Text → Option Represented) where
  walk_runs : (n : ℕ) (t : Term) (a : Answer)
      → (total (Resolutions.walking r m) some_calls (some_answer some_extensions.arity) n t).0 ≡ a
      → Rules.Runs (Resolutions.walking r m) some_calls n t a
  walk_runs n t a e =
      computed_with (Resolutions.walking r m) some_calls (some_answer some_extensions.arity) n t a e

  walk_allowed : (n : ℕ) (t : Term) (a : Answer)
      → (total (Resolutions.walking r m) some_calls (some_answer some_extensions.arity) n t).0 ≡ a → a ≢ limit
      → Rules.Allows (Resolutions.walking r m) some_calls t a
  walk_allowed n t a e ne = (ne, n, walk_runs n t a e)

pub walk_meets_long : Resolutions.WalkMeetsLong
unfolding opened
walk_meets_long = (
  walk_allowed shallow (Resolutions.c_is (plain_represented (long_literal (pos 3)))) 4 _ _ refl (λ e. cc),
  walk_allowed deep (Resolutions.c_is (plain_represented (long_literal (pos 3)))) 4 _ _ refl (λ e. cc),
)

pub walk_meets_entity : Resolutions.WalkMeetsEntity
unfolding opened
walk_meets_entity = (
  walk_allowed deep (Resolutions.c_is (plain_represented (entity_literal example_entity))) 4 _ _ refl (λ e. cc),
  walk_allowed deep (Resolutions.c_is (plain_represented (entity_literal example_entity))) 4 _ _ refl (λ e. cc),
)

pub last_needs_two : Resolutions.LastNeedsTwo
unfolding opened
last_needs_two = (
  walk_runs shallow Resolutions.none_named 2 (Resolutions.walk (codes "friend") (codes "set")) (answers_bool true) refl,
  walk_runs deep Resolutions.none_named 2 (Resolutions.walk (codes "friend") (codes "set")) (answers_bool true) refl,
)

pub missing_stays : Resolutions.MissingStays
unfolding opened
missing_stays = (
  allowed deep true Resolutions.all_named 4 _ _ refl (λ e. cc),
  allowed deep true Resolutions.all_named 4 _ _ refl (λ e. cc),
  allowed deep true Resolutions.all_named 4 _ _ refl (λ e. cc),
)

needs_three : (t : Term) (a : Answer) → answer_at deep false Resolutions.all_named 3 t ≡ a
    → answer_at deep false Resolutions.all_named 2 t ≡ limit
    → Rules.Runs (Resolutions.resolving_setting deep false Resolutions.all_named) some_calls 3 t a
    × Rules.Exceeds (Resolutions.resolving_setting deep false Resolutions.all_named) some_calls t 2
needs_three t a e f = (runs deep false Resolutions.all_named 3 t a e, runs deep false Resolutions.all_named 2 t limit f)

pub stored_need_three : Resolutions.StoredNeedThree
unfolding opened
stored_need_three = (
  needs_three (Resolutions.attribute (codes "set")) (answers (value Resolutions.the_value)) refl refl,
  needs_three Resolutions.tag (answers (value Resolutions.the_value)) refl refl,
  needs_three (Resolutions.path (codes "parts") (codes "l")) (answers_bool true) refl refl,
)

pub shallow_needs_two : Resolutions.ShallowNeedsTwo
unfolding opened
shallow_needs_two = (
  runs shallow false Resolutions.all_named 1 (Resolutions.attribute (codes "set")) limit refl,
  runs shallow false Resolutions.all_named 2 (Resolutions.attribute (codes "set"))
      (answers (residual Resolutions.the_set)) refl,
  runs shallow false Resolutions.all_named 3 (Resolutions.attribute (codes "set"))
      (answers (residual Resolutions.the_set)) refl,
)

-- ---- why stored residuals are restricted

pub never_answers : Resolutions.SelfReadingNeverAnswers
unfolding opened
never_answers zero = refl
never_answers (suc zero) = (limit, refl, refl)
never_answers (suc (suc n)) = (_, refl, never_answers (suc n))

-- ---- why the bound is twice the bound

abbrev deepest_answer : FunctionsAnswer Resolutions.deepest_calls Instances.nesting_extensions.arity
deepest_answer f vs e = (answers (value Resolutions.deepest_set), refl)

deepest_only : (f : Text) (vs : List Represented) (p : PartialValue) → Resolutions.deepest_calls f vs (answers p)
    → value Resolutions.deepest_set ≡ p
deepest_only f vs p e = cc

-- the one stored part is such
only_part : (Such : PartialValue → Type 0) → Such (residual Resolutions.nested_residual)
    → EachStored Such (Resolutions.nesting Resolutions.no_context).store
unfolding part_at
only_part Such h e x k p f =
    subst (λ z. (part_at k z.attributes ≡ Some p → Such p) × (part_at k z.tags ≡ Some p → Such p)) (some_inj f) (
      by (text_eq k (codes "r")),
      λ g. absurd (none_is_not_some g),
    )
  where
    by : (b : Bool) → cond b (Some (residual Resolutions.nested_residual)) None ≡ Some p → Such p
    by true g = subst Such (some_inj g) h
    by false g = absurd (none_is_not_some g)

pub residuals_grow : Resolutions.StoredResidualsGrow
unfolding opened substituted value_for
residuals_grow = (
  record {
    context_sound = tt;
    stored_sound = only_part IsSoundPart refl;
    mapped_sound = λ n v e. absurd (none_is_not_some e);
    answers_sound = λ f vs p e. subst IsSoundPart (deepest_only f vs p e)
        ((tt, tt), (((tt, tt), (((tt, tt), (((tt, tt), (tt, tt)), tt)), tt)), tt));
  },
  record {
    context_low = omega arith;
    stored_low = only_part (λ p. substituted_height (λ n. None) p ≤ 5) (omega arith);
    mapped_low = λ n v e. absurd (none_is_not_some e);
    answers_low = λ f vs p e. subst (λ q. substituted_height (λ n. None) q ≤ 5) (deepest_only f vs p e) (omega arith);
  },
  refl,
  computed_with (Resolutions.nesting Resolutions.no_context) Resolutions.deepest_calls deepest_answer 8
      Resolutions.projects_nested limit refl,
)

is_unsound : (b : Bool) (v : Represented) → cond b (Some Resolutions.unsound) None ≡ Some v → Resolutions.unsound ≡ v
is_unsound true v e = cc
is_unsound false v e = absurd (cc)

pub unsound_grow : Resolutions.UnsoundContextsGrow
unfolding opened substituted value_for
unsound_grow = (
  record {
    context_sound = refl;
    stored_sound = only_part IsSoundPart refl;
    mapped_sound = λ n v e. absurd (none_is_not_some e);
    answers_sound = λ f vs p e. subst IsSoundPart (deepest_only f vs p e)
        ((tt, tt), (((tt, tt), (((tt, tt), (((tt, tt), (tt, tt)), tt)), tt)), tt));
  },
  record {
    context_low = omega arith;
    stored_low = only_part (λ p. substituted_height Resolutions.unsound_named p ≤ 5) (omega arith);
    mapped_low =
        λ n v e. subst (λ w. height (expression_of w) ≤ 5) (is_unsound (text_eq n (codes "y")) v e) (omega arith);
    answers_low = λ f vs p e. subst (λ q. substituted_height Resolutions.unsound_named q ≤ 5) (deepest_only f vs p e)
        (omega arith);
  },
  (
    λ e. cc,
    9,
    computed_with (Resolutions.nesting (residual_context Resolutions.reading_context)) Resolutions.deepest_calls
        deepest_answer 9 (record_of (substituted_at Resolutions.unsound_named Resolutions.reading_context))
        (answers (residual Resolutions.read_context)) refl,
  ),
  refl,
)
