use Rattle.std.proofs.Common.{◌≡◌, [], ◌∷◌, ◌++◌, sym, ap, ◌∙◌, subst, append_assoc, arith}
use Rattle.std.specs.List.Sorted.{IsStrictlySortedBy}
use Rattle.std.specs.Map.{keys_of}
use Rattle.std.specs.Rc.{rc_str_bytes}
use Rattle.std.proofs.lemmas.List.{take_all}
use Rattle.cedar_model.specs.Terms.{terms_of}
use Rattle.cedar_expressions.specs.View.{fields_view}
use Rattle.cedar_values.proofs.Order.{size-Record}
use Rattle.cedar_values.proofs.Written.{Entry, key_cmp, fields_view-insert_entry, put_last, written, terms_of-written}
use Rattle.cedar_values.proofs.value.written.+written.Goals as goal

pub expr_of_kind-exprs_of_entries-requires : goal.expr_of_kind-exprs_of_entries-requires
expr_of_kind-exprs_of_entries-requires t c =
    (rw c.deref.ensures (omega (arith, size-Record _ _ c.in-Record.is)), tt)

pub exprs_of-returns : goal.exprs_of-returns
exprs_of-returns t c =
    let all = take_all c.elements.element-index c.args.elements.now c.elements-test.false in
    ap terms_of (c.elements.invariant ∙ ap written all) ∙ terms_of-written c.args.elements.now

pub exprs_of_entries-entries-preserved : goal.exprs_of_entries-entries-preserved
exprs_of_entries-entries-preserved t c =
    let l = c.entries in
    let done = l.invariant.0 in
    let e : Entry = (c.in-Some.key.now, c.in-Some.value.now) in
    let left = c.next.new.self in
    let all : c.args.pairs.now.entries ≡ done ++ e ∷ left = l.invariant.1 ∙ ap (λ es. done ++ es) c.in-Some.ensures.steps in
    let last = put_last done e left (subst (λ es. IsStrictlySortedBy key_cmp (keys_of es)) all c.iter-key-items.ensures.ordered) in
    let named : rc_str_bytes c.in_ok-name.name ≡ rc_str_bytes e.0 = c.in_ok-name.ensures.cases in (
      done ++ e ∷ [],
      all ∙ sym (append_assoc done (e ∷ []) left),
      ap fields_view c.in_ok-insert.ensures.entries ∙ fields_view-insert_entry l.exprs.entries c.in_ok-name.name c.in_ok-expr_of.field-0 ∙ rw (named, c.in_ok-expr_of.ensures.view, l.invariant.2) last,
    )
