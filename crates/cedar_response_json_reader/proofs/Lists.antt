-- Lists that are read one by one.
use Rattle.std.proofs.Common.{◌≡◌, List, [], ◌++◌, map, sym, ap, ◌∙◌}
use Rattle.cedar_response_json_reader.specs.Refusals.{Said, made_of}
use Rattle.cedar_response_json_reader.proofs.Refused.{none_done}

-- nothing is read yet
pub nothing_read : {S T : Type 0} (f : S → T) (xs : List S) (s : Said (List T)) → xs ≡ [] → s ≡ made_of (λ ts. map f xs ++ ts) s
nothing_read f xs s none = none_done s ∙ ap (λ (ys : List _). made_of (λ ts. map f ys ++ ts) s) (sym none)
