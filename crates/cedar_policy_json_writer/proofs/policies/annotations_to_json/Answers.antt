use Rattle.std.proofs.Common.{List, map, ap, ◌∙◌, Global}
use Rattle.std.specs.Rc.{rc_str_bytes}
use Rattle.std.specs.declared.rc.RcStr.{RcStr}
use Rattle.cedar_json_writer.proofs.Trees.{view_object}
use Rattle.cedar_json_writer.specs.Texts.{object_of}
use Rattle.cedar_policy_json_writer.specs.Policies.{annotation_member}
use Rattle.cedar_policy_json_writer.proofs.Lists.{no_more}
use Rattle.cedar_policy_json_writer.proofs.policies.annotations_to_json.Goals as goal

pub returns : goal.returns
returns c =
    view_object c.annotations.members
    ∙ ap object_of (no_more _ _ _
    (ap (λ (es : List (RcStr Global × RcStr Global)). map annotation_member (map (λ e. (rc_str_bytes e.0, rc_str_bytes e.1)) es))
    c.in-None.ensures.steps.0) c.annotations.invariant)
