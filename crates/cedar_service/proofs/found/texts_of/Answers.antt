use Rattle.std.proofs.Common.{◌≡◌, ◌∙◌, ◌++◌, [], List, map, drop, ap, sym, arith, append-nil, string_bytes}
use Rattle.std.proofs.lemmas.List.{drop_all}
use Rattle.cedar_names.specs.declared.names.EntityUID.{EntityUID}
use Rattle.cedar_service.proofs.Listed.{told, text_left}
use Rattle.cedar_service.proofs.found.texts_of.Goals as goal

pub found-preserved : goal.found-preserved
found-preserved c =
    text_left c.args.part c.args.found.now c.found.uid-index c.uid-item.result (map string_bytes c.found.texts.items)
    (map string_bytes c.add_text.new.texts.items) c.found-test.true c.uid-item.is c.in_ok-add_text.ensures
    c.found.invariant

pub returns : goal.returns
returns c =
    let all = c.args.found.now in
    let texts = map string_bytes c.found.texts.items in
    let none : drop c.found.uid-index all ≡ [] = drop_all c.found.uid-index all (omega (arith, c.found-test.false)) in
    sym (append-nil texts) ∙ ap (λ (us : List EntityUID). texts ++ told c.args.part us) (sym none) ∙ c.found.invariant
