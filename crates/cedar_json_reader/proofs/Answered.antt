-- Parts that answer expressions.
use Rattle.std.proofs.Common.{◌≡◌, refl, subst, ℕ, List, [], ◌∷◌, ◌++◌, length, arith}
use Rattle.std.specs.BTreeMap.{insert_entry}
use Rattle.std.specs.Cmp.Lexicographic.{slice_cmp}
use Rattle.std.specs.Ordering.{nat_cmp, match_ordering}
use Rattle.std.specs.Rc.{rc_str_bytes}
use Rattle.std.specs.declared.alloc.Global.{Global}
use Rattle.std.specs.declared.cmp.Ordering.{Ordering}
use Rattle.std.specs.declared.cmp.Ordering.TheVariants.{Less, Equal, Greater}
use Rattle.std.specs.declared.rc.RcStr.{RcStr}
use Rattle.std.proofs.lemmas.List.{nil_from_length}
use Rattle.cedar_model.specs.Terms.{Text, Term, Fields, no_fields, one_field}
use Rattle.cedar_model.specs.World.{Extensions}
use Rattle.cedar_model.specs.Rules.{StoredCalls}
use Rattle.cedar_expressions.specs.Records.{put_field}
use Rattle.cedar_expressions.specs.Nodes.{key_order}
use Rattle.cedar_values.specs.declared.partial_value.PartialValue.{PartialValue}
use Rattle.cedar_values.specs.Residuals.{partial_view}
use Rattle.cedar_layers.specs.Parts.{parts_view}
use Rattle.cedar_layers.specs.declared.policies.entities.Entity.{Entity}
use Rattle.cedar_json_reader.specs.SaidEntities.{SaidEntity}
use Rattle.cedar_json_reader.specs.Evaluated.{IsAnswerOf, AreAnswered, IsEvaluated, AreEvaluated}

module _ (x : Extensions) (calls : StoredCalls) (n : ℕ) where
  -- a part that is put in its place
  pub answered_insert : (fs : Fields) (es : List (RcStr Global × PartialValue)) (k : RcStr Global) (t : Term) (p : PartialValue) → AreAnswered x calls n fs (parts_view es) → IsAnswerOf x calls n t (partial_view p)
      → AreAnswered x calls n (put_field fs (rc_str_bytes k) t) (parts_view (insert_entry key_order es k p))
  answered_insert no_fields [] k t p h a = (refl, a, tt)
  answered_insert no_fields (e ∷ es) k t p h a = absurd h
  answered_insert (one_field l u fs) [] k t p h a = absurd h
  answered_insert (one_field l u fs) (e ∷ es) k t p h a =
      subst (λ (m : Text). AreAnswered x calls n (put_field (one_field m u fs) (rc_str_bytes k) t) (parts_view (insert_entry key_order (e ∷ es) k p))) h.0
      (at_order (slice_cmp nat_cmp (rc_str_bytes k) (rc_str_bytes e.0)) (answered_insert fs es k t p h.2 a))
    where
      at_order : (o : Ordering) → AreAnswered x calls n (put_field fs (rc_str_bytes k) t) (parts_view (insert_entry key_order es k p))
          → AreAnswered x calls n (match_ordering o (one_field (rc_str_bytes k) t (one_field (rc_str_bytes e.0) u fs)) (one_field (rc_str_bytes e.0) t fs) (one_field (rc_str_bytes e.0) u (put_field fs (rc_str_bytes k) t)))
          (parts_view (match_ordering o ((k, p) ∷ e ∷ es) ((e.0, p) ∷ es) (e ∷ insert_entry key_order es k p)))
      at_order Less rest = (refl, a, (refl, h.1, h.2))
      at_order Equal rest = (refl, a, h.2)
      at_order Greater rest = (refl, h.1, rest)

  -- an entity more at the end
  pub one_more_evaluated : (es : List SaidEntity) (ds : List Entity) (e : SaidEntity) (d : Entity) → AreEvaluated x calls n es ds → IsEvaluated x calls n e d → AreEvaluated x calls n (es ++ e ∷ []) (ds ++ d ∷ [])
  one_more_evaluated [] [] e d h g = (g, tt)
  one_more_evaluated [] (c ∷ ds) e d h g = absurd h
  one_more_evaluated (b ∷ es) [] e d h g = absurd h
  one_more_evaluated (b ∷ es) (c ∷ ds) e d h g = (h.0, one_more_evaluated es ds e d h.1 g)
