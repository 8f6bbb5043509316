use Rattle.std.proofs.Common.{sym, ap, ◌∙◌}
use Rattle.cedar_names.specs.Names.{uid_name}
use Rattle.cedar_layers.specs.Stores.{entity_view}
use Rattle.cedar_interpreter.specs.declared.at_hand.Known.{Known}
use Rattle.cedar_interpreter.specs.Known.{known_view, within}
use Rattle.cedar_interpreter.proofs.Looked.{within_itself, within_ancestors, within_lacking, within_nothing}
use Rattle.cedar_interpreter.proofs.at_hand.is_in.Goals as goal

pub returns-then-eq : goal.returns-then-eq
returns-then-eq c =
    let d = uid_name c.args.uid.now in
    let e = uid_name c.args.other.now in
    within_itself d e (entity_view c.in-Stored.entity.now) c.eq.result c.if-eq.true c.eq.ensures
    ∙ ap (λ (k : Known). within (known_view k) d e) (sym c.in-Stored.is)

pub returns-else-eq : goal.returns-else-eq
returns-else-eq c =
    let d = uid_name c.args.uid.now in
    let e = uid_name c.args.other.now in
    within_ancestors d e (entity_view c.in-Stored.entity.now) c.eq.result c.is_descendant_of.result c.if-eq.false c.eq.ensures c.is_descendant_of.ensures
    ∙ ap (λ (k : Known). within (known_view k) d e) (sym c.in-Stored.is)

pub returns-in-Lacking : goal.returns-in-Lacking
returns-in-Lacking c =
    let d = uid_name c.args.uid.now in
    let e = uid_name c.args.other.now in
    within_lacking d e c.eq-in-Lacking.result c.eq-in-Lacking.ensures ∙ ap (λ (k : Known). within (known_view k) d e) (sym c.in-Lacking.is)

pub returns-in-Nothing : goal.returns-in-Nothing
returns-in-Nothing c =
    let d = uid_name c.args.uid.now in
    let e = uid_name c.args.other.now in
    within_nothing d e ∙ ap (λ (k : Known). within (known_view k) d e) (sym c.in-Nothing.is)
