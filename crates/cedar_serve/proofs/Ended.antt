-- What is so of a connection, however it ends.
use Rattle.std.proofs.Common.{◌≡◌, ◌∙◌, sym, ap, subst, Result, Ok, Err, List, ℕ, [], ◌++◌}
use Rattle.http_server.specs.declared.connection.Connection.{Connection}
use Rattle.http_server.specs.declared.state.Config.{Config}
use Rattle.http_server.specs.declared.state.State.{State}
use Rattle.http_server.specs.Connection.{config_of, history}
use Rattle.http_server.specs.Exchange.{Call}
use Rattle.http_server.specs.History.{History, IsServed, new_history}
use Rattle.cedar_endpoints.specs.declared.service.Decisions.{Decisions}
use Rattle.cedar_service.specs.declared.loaded.Loaded.{Loaded}
use Rattle.cedar_service.specs.Loaded.{Texts, IsLoadedOf}
use Rattle.cedar_service.specs.Serving.{AreAnswered}
use Rattle.cedar_serve.specs.declared.serving.Stopped.{Stopped}
use Rattle.cedar_serve.specs.declared.serving.Stopped.TheVariants as stopped
use Rattle.cedar_serve.specs.Connections.{IfServed, IsServedBy}

pub if_served : (P Q : History → Type 0) (r : Result State Stopped) → ((h : History) → P h → Q h) → IfServed P r
    → IfServed Q r
if_served P Q (Ok s) f (h, so, done, state) = (h, f h so, done, state)
if_served P Q (Err (stopped.NotStarted e)) f served = tt
if_served P Q (Err (stopped.Broken e)) f (h, so) = (h, f h so)

-- ---- a connection on which nothing came before

pub served_over : (s last : Decisions Loaded) (fresh after : Connection) → history fresh ≡ new_history
    → (calls : List Call)
    × ((ts : Texts) → IsLoadedOf ts s.decider → AreAnswered ts s calls last)
    × ((history after).calls ≡ (history fresh).calls ++ calls)
    → ∥ IsServed (config_of after) (history after) ∥₁ → config_of after ≡ config_of fresh
    → IsServedBy s (config_of fresh) (history after)
served_over s last fresh after empty (calls, answered, are) sent same = record {
  last = last;
  answered = subst (λ (cs : List Call). (ts : Texts) → IsLoadedOf ts s.decider → AreAnswered ts s cs last)
      (sym (are ∙ ap (λ (h : History). h.calls ++ calls) empty)) answered;
  sent = subst (λ (k : Config). ∥ IsServed k (history after) ∥₁) same sent;
}

-- all that came is what came since
pub all_since : (P : List ℕ → Type 0) (before after : List ℕ) → before ≡ []
    → (more : List ℕ) × P more × (after ≡ before ++ more) → P after
all_since P before after empty (more, so, is) =
    subst P (sym (is ∙ ap (λ (o : List ℕ). o ++ more) empty)) so
