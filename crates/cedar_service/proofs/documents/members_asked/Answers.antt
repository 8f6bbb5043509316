use Rattle.std.proofs.Common.{◌≡◌, [], sym, ap, ◌∙◌, ◌++◌}
use Rattle.std.proofs.lemmas.List.{nil_from_length, append-nil}
use Rattle.std.specs.Vec.Iter.{into_iter_items}
use Rattle.json.specs.Value.{members_view}
use Rattle.cedar_service.proofs.Without.{kept, kept_view, one_kept}
use Rattle.cedar_service.proofs.documents.members_asked.Goals as goal

pub members-preserved : goal.members-preserved
members-preserved c =
    one_kept c.args.members.items c.members.rest.items (into_iter_items c.members.member-iterator)
    (into_iter_items c.next.new.self) c.put_asked.new.rest.items c.in-Some.member c.in-Some.ensures.steps.0
    c.in_ok-put_asked.ensures c.members.invariant

pub returns : goal.returns
returns c =
    let left = into_iter_items c.members.member-iterator in
    let none : left ≡ [] = nil_from_length _ (sym c.members.member-iterator.rest.ok.0 ∙ c.in-None.ensures.steps.0) in
    let all : c.members.rest.items ≡ kept c.args.members.items =
    sym (append-nil c.members.rest.items) ∙ ap (λ ms. c.members.rest.items ++ kept ms) (sym none)
    ∙ c.members.invariant in
    ap members_view all ∙ kept_view c.args.members.items
