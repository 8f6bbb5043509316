use Rattle.std.proofs.Common.{refl, sym}
use Rattle.std.proofs.Output.{has_written_append}
use Rattle.cedar_requests.proofs.request.texts.RequestDisplay.fmt.Goals as goal

pub returns-clause-writes : goal.returns-clause-writes
returns-clause-writes g c = rw (sym c.self.view_is) (λ plain ok.
    let principal = c.in_ok-write_named.ensures plain refl in
    let action = c.in_ok-write_named-2.ensures principal.plain refl in
    let resource = c.in_ok-write_named-3.ensures action.plain refl in
    let words = c.in_ok-write_str.ensures.writes resource.plain refl in
    let context = c.write_context.ensures words.plain ok in
    has_written_append _ _ _ _ _ _ principal (has_written_append _ _ _ _ _ _ action
    (has_written_append _ _ _ _ _ _ resource (has_written_append _ _ _ _ _ _ words context))))
