-- A search of a copy of its request asks the same.
use Rattle.cedar_layers.specs.Stores.{store_view}
use Rattle.cedar_model.specs.Settings.{RequestPart}
use Rattle.cedar_authorizer.specs.declared.authorizer.Authorizer.{Authorizer}
use Rattle.cedar_authorizer.specs.Configured.{configuration}
use Rattle.cedar_authorizer.specs.Responding.{considered}
use Rattle.cedar_search.specs.declared.searches.Search.{Search}
use Rattle.cedar_search.specs.Questions.{Question}

-- what a search of a request that says this asks
abbrev pub asking : {X : Type 0} {F : X → Type 0} {g : _} → Authorizer X F g → Search → RequestPart → Question
asking a s r = record {
  configuration = configuration a;
  part = s.part;
  request = r;
  store = store_view s.entities.now;
  policies = considered s.policies.now;
}
