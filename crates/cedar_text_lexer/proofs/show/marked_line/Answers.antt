use Rattle.std.proofs.Common.{◌≡◌, List, ℕ, ◌∷◌, ◌++◌, [], append_assoc, sym, ◌∙◌}
use Rattle.std.proofs.Math.Seq.{take-append_seam}
use Rattle.cedar_text_lexer.specs.Positions.{BeginsWith}
use Rattle.cedar_text_lexer.proofs.show.marked_line.Goals as goal

begins : (told line more : List ℕ) → told ≡ line ++ 10 ∷ more → BeginsWith told (line ++ 10 ∷ [])
begins told line more is =
    let split : told ≡ (line ++ 10 ∷ []) ++ more = is ∙ sym (append_assoc line (10 ∷ []) more) in
    rw split (take-append_seam (line ++ 10 ∷ []) more)

pub returns : goal.returns
returns c = begins _ _ _ c.in_ok-format.ensures.ok
