-- Annotations read back.
use Rattle.std.proofs.Common.{◌≡◌, ℕ, suc, Bool, eq-eqb, List, [], ◌∷◌, map, length, Ok, refl, ap, ◌∙◌}
use Rattle.std.specs.Prelude.{if◌then◌else◌, ◌==◌}
use Rattle.json.specs.Strict.{keys}
use Rattle.cedar_model.specs.Terms.{Text}
use Rattle.cedar_json_writer.specs.Trees.{members_of}
use Rattle.cedar_policy_json_reader.specs.declared.errors.RefusalReason.TheVariants as reasons
use Rattle.cedar_policy_json_reader.specs.Paths.{at_key}
use Rattle.cedar_policy_json_reader.specs.Policies.{put_annotation, annotations_from, distinct}
use Rattle.cedar_policy_json_reader.specs.Refusals.{Said, refused, under, and_then}
use Rattle.cedar_policy_json_writer.specs.Policies.{annotation_member}
use Rattle.cedar_policy_json_laws.specs.Back.{AreUnderWords, put_all, AnnotationsReadBack}

all_back : (done ps : List (Text × Text)) → AreUnderWords ps → annotations_from done (members_of (map annotation_member ps)) ≡ Ok (put_all done ps)
all_back done [] h = refl
all_back done (p ∷ ps) h =
    ap (λ (b : Bool). and_then (λ v. annotations_from (put_annotation done p.0 v) (members_of (map annotation_member ps))) (under (at_key p.0) (if b then Ok p.1 else refused reasons.NotAWord))) h.0
    ∙ all_back (put_annotation done p.0 p.1) ps h.1

counted : (ps : List (Text × Text)) → length (keys (members_of (map annotation_member ps))) ≡ length ps
counted [] = refl
counted (p ∷ ps) = ap suc (counted ps)

pub annotations_back : (ps : List (Text × Text)) → AnnotationsReadBack ps
annotations_back ps words ordered =
    ap (λ (s : Said (List (Text × Text))). and_then (distinct (length (keys (members_of (map annotation_member ps))))) s) (all_back [] ps words)
    ∙ ap (λ (qs : List (Text × Text)). distinct (length (keys (members_of (map annotation_member ps)))) qs) ordered
    ∙ ap (λ (n : ℕ). if length ps == n then Ok ps else refused reasons.RepeatedKey) (counted ps)
    ∙ ap (λ (b : Bool). if b then Ok ps else refused reasons.RepeatedKey) (eq-eqb (length ps) (length ps) refl)
