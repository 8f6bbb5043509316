-- Maps of annotations.
use Rattle.std.proofs.Common.{◌≡◌, List, [], ◌∷◌, Global, refl, ap}
use Rattle.std.specs.declared.cmp.Ordering.{Ordering}
use Rattle.std.specs.declared.cmp.Ordering.TheVariants.{Less, Equal, Greater}
use Rattle.std.specs.declared.rc.RcStr.{RcStr}
use Rattle.std.specs.Rc.{rc_str_bytes}
use Rattle.std.specs.Ordering.{match_ordering}
use Rattle.std.specs.BTreeMap.{insert_entry}
use Rattle.cedar_model.specs.Terms.{Text}
use Rattle.cedar_expressions.specs.Nodes.{key_order}
use Rattle.cedar_policy_json_reader.specs.Annotations.{texts_under}
use Rattle.cedar_policy_json_reader.specs.Policies.{put_annotation}

-- a map with one more entry has the texts with one more
pub inserted : (es : List (RcStr Global × RcStr Global)) (k v : RcStr Global)
    → texts_under (insert_entry key_order es k v) ≡ put_annotation (texts_under es) (rc_str_bytes k) (rc_str_bytes v)
inserted [] k v = refl
inserted (p ∷ es) k v = at_order (key_order k p.0) (inserted es k v)
  where
    at_order : (o : Ordering) → texts_under (insert_entry key_order es k v) ≡ put_annotation (texts_under es) (rc_str_bytes k) (rc_str_bytes v)
        → texts_under (match_ordering o ((k, v) ∷ p ∷ es) ((p.0, v) ∷ es) (p ∷ insert_entry key_order es k v))
        ≡ match_ordering o ((rc_str_bytes k, rc_str_bytes v) ∷ texts_under (p ∷ es)) ((rc_str_bytes p.0, rc_str_bytes v) ∷ texts_under es)
        ((rc_str_bytes p.0, rc_str_bytes p.1) ∷ put_annotation (texts_under es) (rc_str_bytes k) (rc_str_bytes v))
    at_order Less rest = refl
    at_order Equal rest = refl
    at_order Greater rest = ap (λ (ps : List (Text × Text)). (rc_str_bytes p.0, rc_str_bytes p.1) ∷ ps) rest
