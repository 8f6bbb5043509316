use Rattle.std.proofs.Common.{[], ◌∷◌, ◌++◌, List, sym, ap, ◌∙◌, append_assoc}
use Rattle.std.proofs.lemmas.List.{map-append}
use Rattle.std.specs.Vec.Iter.{into_iter_items}
use Rattle.cedar_model.specs.Settings.{is_among}
use Rattle.cedar_names.specs.declared.names.EntityUID.{EntityUID}
use Rattle.cedar_names.specs.Names.{uid_name}
use Rattle.cedar_json_reader.specs.StatedEntities.{names_of}
use Rattle.cedar_json_reader.proofs.Among.{one_more_among}
use Rattle.cedar_json_reader.proofs.evaluation.set_of.Goals as goal

pub uids-preserved : goal.uids-preserved
uids-preserved c =
    let l = c.uids in
    let done = l.invariant.0 in
    let u = c.in-Some.uid in (
      done ++ u ∷ [],
      l.invariant.1 ∙ ap (λ (us : List EntityUID). done ++ us) c.in-Some.ensures.steps.0 ∙ sym (append_assoc done (u ∷ []) (into_iter_items c.next.new.self)),
      λ e. one_more_among (names_of l.set.keys) (names_of c.put_uid.new.set.keys) (names_of done) (uid_name u) c.in_ok-put_uid.ensures.puts l.invariant.2 e ∙ ap (is_among e) (sym (map-append uid_name done (u ∷ []))),
    )
