use Rattle.std.proofs.Common.{◌||◌, ◌∙◌, ap, map}
use Rattle.std.specs.BTreeMap.{keys}
use Rattle.cedar_model.specs.Settings.{is_among}
use Rattle.cedar_names.specs.Names.{uid_name}
use Rattle.cedar_scope_actions.proofs.Listing.{passes_uid, passed_uids, among_shown}
use Rattle.cedar_scope_actions.proofs.listed.add_keys.Goals as goal

pub uids-preserved : goal.uids-preserved
uids-preserved c =
    let all = keys c.args.stored.now in
    λ n. passes_uid n (is_among n (map uid_name c.uids.uids.keys)) (is_among n (map uid_name c.add.new.actions.keys)) (is_among n (map uid_name c.args.uids.now.keys) || is_among n (map uid_name all)) c.in-Some.uid.now c.uids.uid-iterator c.next.new.self c.in-Some.ensures.steps (c.in_ok-add.ensures n) (c.uids.invariant n)

pub returns : goal.returns
returns c =
    let all = keys c.args.stored.now in
    let before = map uid_name c.args.uids.now.keys in
    λ n. passed_uids n (is_among n (map uid_name c.uids.uids.keys)) (is_among n before || is_among n (map uid_name all)) c.uids.uid-iterator c.in-None.ensures.steps.0 (c.uids.invariant n)
    ∙ ap (λ b. is_among n before || b) (among_shown c.args.stored.now.entries n)
