use Rattle.std.proofs.Common.{List, map, subst}
use Rattle.json.specs.Value.{value_view}
use Rattle.cedar_policy_json_reader.specs.declared.errors.PolicyJsonError.{PolicyJsonError}
use Rattle.cedar_template_links.specs.declared.files.WrittenLink.{WrittenLink}
use Rattle.cedar_template_links.specs.LinkFiles.{IsUnsaid, AreUnread, written_view}
use Rattle.cedar_template_links.proofs.FileTexts.{if_err, unsaid_then}
use Rattle.cedar_template_links.proofs.files.links_from_file_json.Goals as goal

pub returns-in-Ok-clause-refused : goal.returns-in-Ok-clause-refused
returns-in-Ok-clause-refused c =
    let unread : (e : PolicyJsonError) → AreUnread (map written_view c.deref.result.now) e → IsUnsaid (value_view c.args.json.now) e =
    λ e h. unsaid_then (value_view c.args.json.now) (map written_view c.in-Ok.all.items) e c.in-Ok.ensures.said
    (subst (λ (ws : List WrittenLink). AreUnread (map written_view ws) e) c.deref.ensures.value h) in
    if_err (AreUnread (map written_view c.deref.result.now)) (IsUnsaid (value_view c.args.json.now)) c.parse_all.result unread c.parse_all.ensures.refused
