-- How the answers of making a context follow from those of an evaluation.
use Rattle.std.proofs.Common.{◌≡◌, ℕ, true, List, Option, None, IfErr, Result, Ok, Err, Global, refl, sym, ap}
use Rattle.std.proofs.Common.{◌∙◌, subst}
use Rattle.std.specs.declared.rc.RcStr.{RcStr}
use Rattle.cedar_model.specs.Terms.{Term}
use Rattle.cedar_model.specs.Failures.{Failure, Answer, fails, out_of_memory}
use Rattle.cedar_model.specs.Rules.{StoredCalls, Meets}
use Rattle.cedar_model.specs.Settings.{Setting}
use Rattle.cedar_model.specs.World as world
use Rattle.cedar_names.specs.declared.names.Loc.{Loc}
use Rattle.cedar_expressions.specs.declared.expr.Expr.{Expr}
use Rattle.cedar_model.specs.Refusals.{first_repeated}
use Rattle.cedar_model.proofs.Injections.{fails_inj}
use Rattle.cedar_expressions.specs.Records.{keys_view}
use Rattle.cedar_errors.specs.Failures.{failure_of}
use Rattle.cedar_errors.specs.declared.evaluator.err.EvaluationError.{EvaluationError}
use Rattle.cedar_restricted.specs.Evaluations.{IsBare, bare_setting, IsAnswerWithin}
use Rattle.cedar_requests.specs.declared.context.Context.{Context}
use Rattle.cedar_requests.specs.declared.errors.ContextCreationError.{ContextCreationError}
use Rattle.cedar_requests.specs.declared.errors.ContextCreationError.TheVariants as refusals
use Rattle.cedar_requests.specs.Errors.{IsAtLimit, IsEvaluationRefusal, NamesAt}
use Rattle.cedar_requests.specs.Creations.{is_record, IsNoRecord, IsOfRecord, IsOfExpr, IsOfPairs, record_of_pairs}

abbrev Pairs : Type 0
Pairs = List (RcStr Global × Expr)

pub bare-is_bare : (x : world.Extensions) → IsBare x (bare_setting x)
bare-is_bare x = record { no_map = refl; has_extensions = refl }

-- the same levels, term and answer
pub same_answer : (s : Setting) (calls : StoredCalls) (m n : ℕ) (t u : Term) (a b : Answer) → m ≡ n → t ≡ u → a ≡ b
    → IsAnswerWithin s calls m t a → IsAnswerWithin s calls n u b
same_answer s calls m n t u a b e f g h =
    subst (λ y. IsAnswerWithin s calls y u b) e
    (subst (λ y. IsAnswerWithin s calls m y b) f (subst (λ y. IsAnswerWithin s calls m t y) g h))

module _ (s : Setting) (calls : StoredCalls) (n : ℕ) where
  -- where no key is a duplicate the record is answered
  pub pairs_answer : (ps : Pairs) (r : Result Context ContextCreationError) → first_repeated (keys_view ps) ≡ None
      → IsOfRecord s calls n (record_of_pairs ps) r → IsOfPairs s calls n ps r
  pairs_answer ps (Ok c) once h = (once, h)
  pairs_answer ps (Err (refusals.NotARecord e)) once h = absurd h
  pairs_answer ps (Err (refusals.Evaluation e)) once h = (once, h)
  pairs_answer ps (Err (refusals.ExpressionConstruction e)) once h = absurd h
  pairs_answer ps (Err (refusals.Memory e)) once h = tt

  -- what a record is evaluated to is answered
  pub expr_answer : (t : Term) (r : Result Context ContextCreationError) → is_record t ≡ true
      → IsOfRecord s calls n t r → IsOfExpr s calls n t r
  expr_answer t (Ok c) is h = (is, h)
  expr_answer t (Err (refusals.NotARecord e)) is h = absurd h
  expr_answer t (Err (refusals.Evaluation e)) is h = (is, h)
  expr_answer t (Err (refusals.ExpressionConstruction e)) is h = absurd h
  expr_answer t (Err (refusals.Memory e)) is h = tt

  -- an error of the evaluation is refused as it is
  pub refused_answer : (t : Term) (e : EvaluationError) (r : ContextCreationError) → IsEvaluationRefusal e r
      → Meets (IsAnswerWithin s calls n t) (fails (failure_of e)) → IsOfRecord s calls n t (Err r)
  refused_answer t e (refusals.NotARecord r) refusal h = absurd refusal
  refused_answer t e (refusals.Evaluation f) refusal h =
      let same : failure_of f ≡ failure_of e = ap failure_of refusal.0 in (
        subst (λ y. IsAnswerWithin s calls n t (fails y)) (sym same)
            (h (λ w. refusal.1 (fails_inj w))),
        λ w. refusal.1 (sym same ∙ w),
      )
  refused_answer t e (refusals.ExpressionConstruction r) refusal h = absurd refusal
  refused_answer t e (refusals.Memory r) refusal h = tt

  -- it is never named as no record
  pub record_place : (t : Term) (loc : Option Loc) (r : Result Context ContextCreationError)
      → IsOfRecord s calls n t r → IfErr r (NamesAt loc)
  record_place t loc (Ok c) h = tt
  record_place t loc (Err (refusals.NotARecord e)) h = absurd h
  record_place t loc (Err (refusals.Evaluation e)) h = tt
  record_place t loc (Err (refusals.ExpressionConstruction e)) h = tt
  record_place t loc (Err (refusals.Memory e)) h = tt

  -- what is no record is refused
  pub no_record_answer : (t : Term) (e : ContextCreationError) → IsNoRecord t e → IsOfExpr s calls n t (Err e)
  no_record_answer t (refusals.NotARecord e) h = h
  no_record_answer t (refusals.Evaluation e) h = absurd h
  no_record_answer t (refusals.ExpressionConstruction e) h = absurd h
  no_record_answer t (refusals.Memory e) h = tt

-- and is not evaluated
pub no_record_low : (t : Term) (e : ContextCreationError) → IsNoRecord t e → ¬ (IsAtLimit e)
no_record_low t (refusals.NotARecord e) h at = at
no_record_low t (refusals.Evaluation e) h at = h
no_record_low t (refusals.ExpressionConstruction e) h at = at
no_record_low t (refusals.Memory e) h at = at
