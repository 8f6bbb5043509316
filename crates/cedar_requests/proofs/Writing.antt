-- What is written to a formatter as to any writer.
use Rattle.std.proofs.Common.{ℕ, List, [], ◌∷◌, Result, Ok, Err, subst}
use Rattle.std.specs.Prelude.{IsOk, OnOk}
use Rattle.std.specs.List.{FoldsTo, concat}
use Rattle.std.specs.declared.fmt.Formatter.{Formatter}
use Rattle.std.specs.declared.fmt.Error.{Error}
use Rattle.std.specs.Fmt.{WritesInCalls, HasWritten, IsPlainFormatter}
use Rattle.std.proofs.Output.{has_written_append, has_written_of_eq, writes_in_calls_nil}

module _ {W : Type 0} (took : W → List ℕ → W → Type 0) where
  -- what a plain formatter takes
  abbrev Takes : Formatter W → List ℕ → Formatter W → Type 0
  Takes f bs g = IsPlainFormatter f → HasWritten took f bs g

  folded : (f g : Formatter W) (parts : List (List ℕ)) → IsPlainFormatter f → FoldsTo Takes f parts g
      → HasWritten took f (concat parts) g
  folded f g [] plain h = subst (HasWritten took f []) h (record { wrote = writes_in_calls_nil _ _; plain = plain })
  folded f g (part ∷ parts) plain (j, first, rest) =
      has_written_append _ _ _ _ _ _ (first plain) (folded j g parts (first plain).plain rest)

  pub nested : (f g : Formatter W) (bs : List ℕ) (r : Result (Unit {0}) Error) → OnOk r (WritesInCalls Takes f bs g)
      → IsPlainFormatter f → IsOk r → HasWritten took f bs g
  nested f g bs (Ok u) h plain ok = has_written_of_eq _ _ _ _ _ h.whole (folded f g h.parts plain h.calls)
  nested f g bs (Err e) h plain ok = absurd (cc)
