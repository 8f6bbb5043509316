use Rattle.std.proofs.Common.{◌≡◌, suc, ◌+◌, ◌∷◌, ◌++◌, drop, ap, sym, ◌∙◌, arith, map}
use Rattle.std.proofs.Math.Seq.{drop-cons}
use Rattle.std.proofs.lemmas.List.{drop_all}
use Rattle.std.specs.Rc.{rc_str_bytes}
use Rattle.cedar_model.specs.Settings.{printed_entity}
use Rattle.cedar_names.specs.Names.{uid_name}
use Rattle.cedar_cli.proofs.Stepping.{assoc_one, append_none}
use Rattle.cedar_cli.proofs.left.open_entities.Goals as goal

pub entities-preserved : goal.entities-preserved
entities-preserved c =
    let items = c.args.entities.now in
    let i = c.entities.entity-index in
    let item = c.entity-item.result in
    let more : suc i ≡ i + 1 = omega arith in
    let next : drop i items ≡ item ∷ drop (i + 1) items =
    drop-cons items i item c.entities-test.true ∙ ap (λ p. p ∷ drop (suc i) items) (sym c.entity-item.is)
    ∙ ap (λ j. item ∷ drop j items) more in
    let before = map rc_str_bytes c.entities.names.items in
    ap (λ l. l ++ map printed_entity (map uid_name (drop (i + 1) items))) c.in_ok-open_entity.ensures
    ∙ assoc_one before (printed_entity (uid_name item)) (map printed_entity (map uid_name (drop (i + 1) items)))
    ∙ ap (λ us. before ++ map printed_entity (map uid_name us)) (sym next) ∙ c.entities.invariant

pub returns : goal.returns
returns c =
    let before = map rc_str_bytes c.entities.names.items in
    sym (append_none before)
    ∙ ap (λ us. before ++ map printed_entity (map uid_name us))
    (sym (drop_all c.entities.entity-index c.args.entities.now c.entities-test.false)) ∙ c.entities.invariant
