-- Errors of evaluations are passed on.
use Rattle.std.proofs.Common.{◌≡◌, ◌≢◌, ℕ, List, [], ◌∷◌, ◌++◌, suc, Option, Some, None, Result, Ok, Err, codes, length, refl, sym, ap, subst, ◌∙◌}
use Rattle.std.specs.Prelude.{IfErr, IsErrAnd, IsSomeAnd}
use Rattle.std.specs.List.{All}
use Rattle.std.proofs.lemmas.List.Elements.{All-nil, All-cons, All-append}
use Rattle.json.specs.Json.{Json, document}
use Rattle.json.specs.Strict.{HasUniqueKeys}
use Rattle.cedar_model.specs.Terms.{Text, Term}
use Rattle.cedar_model.specs.World.{Extensions}
use Rattle.cedar_model.specs.Rules.{StoredCalls, Meets}
use Rattle.cedar_model.specs.Settings.{Setting}
use Rattle.cedar_model.specs.Failures.{fails, out_of_memory}
use Rattle.cedar_model.proofs.Injections.{fails_inj}
use Rattle.cedar_errors.specs.declared.evaluator.err.EvaluationError.{EvaluationError}
use Rattle.cedar_errors.specs.Failures.{failure_of}
use Rattle.cedar_layers.specs.declared.policies.entities.Entity.{Entity}
use Rattle.cedar_restricted.specs.Evaluations.{IsBare, IsAnswerWithin}
use Rattle.cedar_json_reader.specs.declared.errors.JsonError.{JsonError}
use Rattle.cedar_json_reader.specs.declared.errors.JsonError.TheVariants as errors
use Rattle.cedar_json_reader.specs.Paths.{Step, at_key, at_index, path_view}
use Rattle.cedar_json_reader.specs.JsonTexts.{Says, IsTextRefusal, IsTextError}
use Rattle.cedar_json_reader.specs.Refusals.{Said, IsUnder, IsEvaluationAt, IsMemory}
use Rattle.cedar_json_reader.specs.SaidEntities.{SaidEntity, entities_said}
use Rattle.cedar_json_reader.specs.Evaluated.{AreEvaluated}
use Rattle.cedar_json_reader.specs.FailedEntities.{Failing, Below, IsErrorOf, IsAnswered, AreAllAnswered, IsFailedPart, AreFailedParts, IsAllAnswered, IsFailedEntity, attribute_fails, tag_fails, AreFailedEntities, IsEvaluationError, AreFailedSaid, IsEntitiesError, IsToldAt}

-- of a part that a step leads to
pub failed_under : (k : Step) (P : Failing) (d e : JsonError) → IsEvaluationError P d → IsUnder k d e → IsEvaluationError (Below k P) e
failed_under k P d errors.Syntax h u = subst (IsEvaluationError P) u h
failed_under k P d errors.DuplicateKey h u = subst (IsEvaluationError P) u h
failed_under k P errors.Syntax (errors.Refused q r) h u = absurd h
failed_under k P errors.DuplicateKey (errors.Refused q r) h u = absurd h
failed_under k P (errors.Refused p t) (errors.Refused q r) h u = absurd h
failed_under k P (errors.Evaluation p y) (errors.Refused q r) h u = absurd u
failed_under k P (errors.Memory m) (errors.Refused q r) h u = absurd u
failed_under k P errors.Syntax (errors.Evaluation q z) h u = absurd h
failed_under k P errors.DuplicateKey (errors.Evaluation q z) h u = absurd h
failed_under k P (errors.Refused p t) (errors.Evaluation q z) h u = absurd h
failed_under k P (errors.Evaluation p y) (errors.Evaluation q z) h u = (path_view p, u.0, subst (λ (w : EvaluationError). P (path_view p) w) (sym u.1) h)
failed_under k P (errors.Memory m) (errors.Evaluation q z) h u = absurd u
failed_under k P d (errors.Memory m) h u = tt

-- what is so of one is so of the other
pub failed_so : (P Q : Failing) (e : JsonError) → ((there : List Step) (y : EvaluationError) → P there y → Q there y) → IsEvaluationError P e → IsEvaluationError Q e
failed_so P Q errors.Syntax so h = h
failed_so P Q errors.DuplicateKey so h = h
failed_so P Q (errors.Refused p r) so h = h
failed_so P Q (errors.Evaluation p y) so h = so (path_view p) y h
failed_so P Q (errors.Memory m) so h = tt

-- an error that is handed up
pub failed_up : {T : Type 0} (r : Result T JsonError) (e : JsonError) (P : Failing) → IsErrAnd r (λ d. d ≡ e) → IsEvaluationError P e → IfErr r (IsEvaluationError P)
failed_up (Ok x) e P is h = tt
failed_up (Err d) e P is h = subst (IsEvaluationError P) (sym is) h

-- out of memory
pub failed_memory : (P : Failing) (e : JsonError) → IsMemory e → IsEvaluationError P e
failed_memory P errors.Syntax h = h
failed_memory P errors.DuplicateKey h = h
failed_memory P (errors.Refused p r) h = h
failed_memory P (errors.Evaluation p z) h = absurd h
failed_memory P (errors.Memory m) h = tt

-- the error of an evaluation, told of a part of the whole value
pub told_under : (k : Step) (y : EvaluationError) (d e : JsonError) → failure_of y ≢ out_of_memory → IsEvaluationAt [] y d → IsUnder k d e → IsToldAt (k ∷ []) y e
told_under k y d errors.Syntax not_out_of_memory h u = subst (IsEvaluationAt [] y) u h
told_under k y d errors.DuplicateKey not_out_of_memory h u = subst (IsEvaluationAt [] y) u h
told_under k y errors.Syntax (errors.Refused q r) not_out_of_memory h u = absurd h
told_under k y errors.DuplicateKey (errors.Refused q r) not_out_of_memory h u = absurd h
told_under k y (errors.Refused p t) (errors.Refused q r) not_out_of_memory h u = absurd h
told_under k y (errors.Evaluation p z) (errors.Refused q r) not_out_of_memory h u = absurd u
told_under k y (errors.Memory m) (errors.Refused q r) not_out_of_memory h u = absurd u
told_under k y errors.Syntax (errors.Evaluation q z) not_out_of_memory h u = absurd h
told_under k y errors.DuplicateKey (errors.Evaluation q z) not_out_of_memory h u = absurd h
told_under k y (errors.Refused p t) (errors.Evaluation q z) not_out_of_memory h u = absurd h
told_under k y (errors.Evaluation p w) (errors.Evaluation q z) not_out_of_memory h u = (u.0 ∙ ap (λ (ss : List Step). k ∷ ss) h.0, u.1 ∙ h.1, not_out_of_memory)
told_under k y (errors.Memory m) (errors.Evaluation q z) not_out_of_memory h u = absurd u
told_under k y d (errors.Memory m) not_out_of_memory h u = tt

module _ (x : Extensions) (calls : StoredCalls) (n : ℕ) where
  -- an evaluation that answers an error fails with it
  pub part_failed : (k : Text) (t : Term) (y : EvaluationError) (e : JsonError) → ((s : Setting) → IsBare x s → Meets (IsAnswerWithin s calls n t) (fails (failure_of y)))
      → IsToldAt (at_key k ∷ []) y e → IsEvaluationError (IsFailedPart x calls n k t) e
  part_failed k t y e h = failed_so _ (IsFailedPart x calls n k t) e so
    where
      so : (there : List Step) (d : EvaluationError) → (there ≡ at_key k ∷ []) × (d ≡ y) × (failure_of y ≢ out_of_memory) → IsFailedPart x calls n k t there d
      so there d u = (u.0, subst (IsErrorOf x calls n t) (sym u.1) (u.2, λ s bare. h s bare (λ w. u.2 (fails_inj w))))

  -- the first part that fails, behind those that are done
  pub parts_failed : (ps done : List (Text × Term)) (k : Text) (t : Term) (left : List (Text × Term)) (e : JsonError) → ps ≡ done ++ (k, t) ∷ left → AreAllAnswered x calls n done
      → IsEvaluationError (IsFailedPart x calls n k t) e → IsEvaluationError (AreFailedParts x calls n ps) e
  parts_failed ps done k t left e is all = failed_so (IsFailedPart x calls n k t) (AreFailedParts x calls n ps) e
      (λ there y h. record { before = done; key = k; expression = t; after = left; in_order = is; answered = all; failure = h })

  -- one part more
  pub one_more_answered : (done : List (Text × Term)) (k : Text) (t : Term) → AreAllAnswered x calls n done → IsAnswered x calls n t → AreAllAnswered x calls n (done ++ (k, t) ∷ [])
  one_more_answered done k t all h =
      let P : Text × Term → Type 0 = λ p. IsAnswered x calls n p.1 in
      All-append P done ((k, t) ∷ []) all (All-cons P (k, t) [] h (All-nil P))

  -- its attributes fail, or its tags
  pub attributes_failed : (d : SaidEntity) (e : JsonError) → IsEvaluationError (Below (at_key (codes "attrs")) (AreFailedParts x calls n d.attributes)) e → IsEvaluationError (IsFailedEntity x calls n d) e
  attributes_failed d e = failed_so (Below (at_key (codes "attrs")) (AreFailedParts x calls n d.attributes)) (IsFailedEntity x calls n d) e (λ there y h. attribute_fails h)

  pub tags_failed : (d : SaidEntity) (e : JsonError) → AreAllAnswered x calls n d.attributes → IsEvaluationError (Below (at_key (codes "tags")) (AreFailedParts x calls n d.tags)) e → IsEvaluationError (IsFailedEntity x calls n d) e
  tags_failed d e all = failed_so (Below (at_key (codes "tags")) (AreFailedParts x calls n d.tags)) (IsFailedEntity x calls n d) e (λ there y h. tag_fails all h)

  -- as many entities are made as were said
  pub evaluated_length : (ds : List SaidEntity) (es : List Entity) → AreEvaluated x calls n ds es → length es ≡ length ds
  evaluated_length [] [] h = refl
  evaluated_length [] (e ∷ es) h = absurd h
  evaluated_length (d ∷ ds) [] h = absurd h
  evaluated_length (d ∷ ds) (e ∷ es) h = ap suc (evaluated_length ds es h.1)

  -- the first entity that fails, behind those that are done
  pub entities_failed : (ds done : List SaidEntity) (d : SaidEntity) (left : List SaidEntity) (es : List Entity) (e : JsonError) → ds ≡ done ++ d ∷ left → AreEvaluated x calls n done es
      → All (IsAllAnswered x calls n) done → IsEvaluationError (Below (at_index (length es)) (IsFailedEntity x calls n d)) e → IsEvaluationError (AreFailedEntities x calls n ds) e
  entities_failed ds done d left es e is made all = failed_so _ (AreFailedEntities x calls n ds) e
      (λ there y h. record {
        before = done;
        entity = d;
        after = left;
        in_order = is;
        answered = all;
        failure = subst (λ m. Below (at_index m) (IsFailedEntity x calls n d) there y) (evaluated_length done es made) h;
      })

  -- one entity more
  pub one_more_whole : (done : List SaidEntity) (d : SaidEntity) → All (IsAllAnswered x calls n) done → IsAllAnswered x calls n d → All (IsAllAnswered x calls n) (done ++ d ∷ [])
  one_more_whole done d all h =
      let P = IsAllAnswered x calls n in
      All-append P done (d ∷ []) all (All-cons P d [] h (All-nil P))

  -- where a text says these entities, it is the error of the text's
  pub text_failed : {T : Type 0} (text : Text) (ds : List SaidEntity) (r : Result T JsonError) → Says text entities_said ds → IfErr r (IsEvaluationError (AreFailedEntities x calls n ds))
      → IfErr r (IsTextError text (λ j e. IsEntitiesError x calls n (entities_said j) e))
  text_failed text ds (Ok t) says h = tt
  text_failed text ds (Err errors.Syntax) says h = absurd h
  text_failed text ds (Err errors.DuplicateKey) says h = absurd h
  text_failed text ds (Err (errors.Refused p r)) says h = absurd h
  text_failed text ds (Err (errors.Evaluation p y)) says h = by (document text) says
    where
      by : (o : Option Json) → IsSomeAnd o (λ j. HasUniqueKeys j × (entities_said j ≡ Ok ds)) → IsSomeAnd o (λ j. AreFailedSaid x calls n (entities_said j) (path_view p) y)
      by (Some j) g = subst (λ (s : Said (List SaidEntity)). AreFailedSaid x calls n s (path_view p) y) (sym g.1) h
      by None g = g
  text_failed text ds (Err (errors.Memory m)) says h = tt

  -- so is a refusal of the text
  pub text_unsaid : (text : Text) (e : JsonError) → IsTextRefusal text entities_said e → IsTextError text (λ j d. IsEntitiesError x calls n (entities_said j) d) e
  text_unsaid text errors.Syntax h = h
  text_unsaid text errors.DuplicateKey h = h
  text_unsaid text (errors.Refused p r) h = h
  text_unsaid text (errors.Evaluation p y) h = absurd h
  text_unsaid text (errors.Memory m) h = tt

pub ruleset failed = (failed_under, failed_memory, told_under)
