use Rattle.cedar_layers.specs.Stores.{store_view, stored_entity}
use Rattle.cedar_overlay.proofs.Laid.{begun, further, refused, all_held, all_others, all_free}
use Rattle.cedar_overlay.proofs.attributes.overlaid_each.Goals as goal

pub brought-init : goal.brought-init
brought-init c =
    begun (store_view c.args.entities.now) (stored_entity c.args.entities.now) c.args.request_wins c.args.brought.entries
    c.into_iter-uid-iterator.result c.new-more.result.items c.into_iter-uid-iterator.ensures.into_iter_gives.0 c.new-more.ensures.items

pub brought-preserved : goal.brought-preserved
brought-preserved c =
    further (store_view c.args.entities.now) (stored_entity c.args.entities.now) c.args.request_wins c.args.brought.entries
    c.brought.uid-iterator c.next.new.self c.brought.more.items c.in-Some.uid c.in-Some.attributes
    c.into_iter-uid-iterator.ensures.into_iter_gives.5 c.in-Some.ensures.steps c.brought.invariant
    c.add_last.new.items.items c.in-Ok.entity c.in_ok-add_last-in-Ok.ensures.ok c.in-Ok.ensures.name c.in-Ok.ensures.view c.in-Ok.ensures.free

pub returns-in-Err-clause-refused : goal.returns-in-Err-clause-refused
returns-in-Err-clause-refused c =
    refused (store_view c.args.entities.now) (stored_entity c.args.entities.now) c.args.request_wins c.args.brought.entries
    c.brought.uid-iterator c.next.new.self c.brought.more.items c.in-Some.uid c.in-Some.attributes
    c.into_iter-uid-iterator.ensures.into_iter_gives.5 c.in-Some.ensures.steps c.brought.invariant
    c.in-Err.error c.in-Err.ensures.refused

pub returns-clause-held : goal.returns-clause-held
returns-clause-held c =
    all_held (store_view c.args.entities.now) (stored_entity c.args.entities.now) c.args.request_wins c.args.brought.entries
    c.brought.uid-iterator c.brought.more.items c.in-None.ensures.steps.0 c.brought.invariant

pub returns-clause-others : goal.returns-clause-others
returns-clause-others c =
    all_others (store_view c.args.entities.now) (stored_entity c.args.entities.now) c.args.request_wins c.args.brought.entries
    c.brought.uid-iterator c.brought.more.items c.in-None.ensures.steps.0 c.brought.invariant

pub returns-clause-free : goal.returns-clause-free
returns-clause-free c =
    all_free (store_view c.args.entities.now) (stored_entity c.args.entities.now) c.args.request_wins c.args.brought.entries
    c.brought.uid-iterator c.brought.more.items c.in-None.ensures.steps.0 c.brought.invariant
