-- Maps of pairs whose keys differ.
use Rattle.std.specs.Prelude.{◌≡◌, Bool, List, Option, Some, None}
use Rattle.std.specs.Iterator.{YieldsThen, Drains}
use Rattle.std.specs.List.{find, IsDistinct}
use Rattle.std.specs.List.Sorted.{IsPermutation}
use Rattle.std.specs.Map.{keys_of}
use Rattle.cedar_extensions.specs.declared.util.CollectError.{CollectError}
use Rattle.cedar_extensions.specs.declared.util.CollectError.TheVariants.{Duplicate, Memory}

-- the key that an error names
abbrev pub duplicate : {K : Type 0} → CollectError K → Option K
duplicate (Duplicate k) = Some k
duplicate (Memory e) = None

module _ {K V I : Type 0} (eq : K → K → Bool) (steps : I → Option (K × V) → I → Type 0) (from : I) where
  -- these are the pairs that the iterator gives, to its end, in some order, and no two have one key
  pub record AreAll (entries : List (K × V)) : Type 0 where
    pub pairs : List (K × V)
    pub given : Drains steps from pairs
    pub distinct : IsDistinct eq (keys_of pairs)
    pub kept : IsPermutation pairs entries

  -- after pairs of distinct keys the iterator gives one more, and this is the key among theirs that is equal to its key
  pub record ComesAgain (k : K) : Type 0 where
    pub pairs : List (K × V)
    pub again : K × V
    pub rest : I
    pub given : YieldsThen steps from pairs (Some again) rest
    pub distinct : IsDistinct eq (keys_of pairs)
    pub first : find (eq again.0) (keys_of pairs) ≡ Some k
