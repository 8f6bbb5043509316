-- The law of both resolutions, which a function of `resolutions` has as its contract.
use Rattle.std.specs.Prelude.{ℕ}
use Rattle.cedar_model.specs.Terms.{Term}
use Rattle.cedar_model.specs.Failures.{Answer}
use Rattle.cedar_model.specs.Settings.{Resolution, Setting}
use Rattle.cedar_model.specs.Rules.{StoredCalls, Runs}
use Rattle.cedar_model.specs.Agreement.{EachStored, IsValue}

abbrev pub with_resolution : Setting → Resolution → Setting
with_resolution s r =
    record {
      request = s.request;
      store = s.store;
      map = s.map;
      slots = s.slots;
      extensions = s.extensions;
      resolution = r;
    }

-- where the store holds values alone, an expression may answer the same with each resolution, at each level
abbrev pub ResolutionsAgree : StoredCalls → Type 0
ResolutionsAgree calls =
    (s : Setting) (r : Resolution) → EachStored IsValue s.store → (n : ℕ) (t : Term) (a : Answer) → Runs s calls n t a →
    Runs (with_resolution s r) calls n t a
