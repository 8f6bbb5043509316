use Rattle.cedar_places.proofs.Positions.{at_low, line_low, column_low, behind_is, is_of}
use Rattle.std.proofs.lemmas.List.Elements.{All-push}
use Rattle.cedar_places.specs.Noted.{IsOf}
use Rattle.cedar_places.proofs.places.Places.of.Goals as goal
use Rattle.cedar_places.proofs.places.Places.of.Goals.{then-i-eq0+in_ok-push, else-i-eq0}

pub behind-position-requires-clause-at : goal.behind-position-requires-clause-at
behind-position-requires-clause-at c =
    at_low _ _ _ _ c.as_bytes-bytes.ensures.value c.loop-i.invariant.is c.loop-i-test.true c.as_bytes-bytes.type_inv.1

pub behind-position-requires-clause-line : goal.behind-position-requires-clause-line
behind-position-requires-clause-line c =
    line_low _ _ _ _ c.as_bytes-bytes.ensures.value c.loop-i.invariant.is c.loop-i-test.true c.as_bytes-bytes.type_inv.1

pub behind-position-requires-clause-column : goal.behind-position-requires-clause-column
behind-position-requires-clause-column c =
    column_low _ _ _ _ c.as_bytes-bytes.ensures.value c.loop-i.invariant.is c.loop-i-test.true
    c.as_bytes-bytes.type_inv.1

pub loop-i-preserved : goal.loop-i-preserved
loop-i-preserved c = record {
  is = behind_is _ _ _ _ _ c.as_bytes-bytes.ensures.value c.loop-i.invariant.is c.loop-i-test.true
      c.behind-position.ensures;
  right = elim c.if-i-eq0.branch [
    | then-i-eq0+in_ok-push w ↦ rw w.noted-is (rw w.in_ok-push.ensures.items (
        All-push (IsOf c.args.text.now) _ _ c.loop-i.invariant.right
        (is_of _ _ _ _ c.as_bytes-bytes.ensures.value c.loop-i.invariant.is c.loop-i-test.true)))
    | else-i-eq0 w ↦ rw w.noted-is c.loop-i.invariant.right
  ];
}
